-- A deliver line, number by number, and what a delivery that is not refused does.
use Rattle.std.proofs.Common.{◌≡◌, ℕ, zero, suc, ◌+◌, ◌-◌, ◌&&◌, Bool, true, false, cond, List, [], ◌∷◌, ◌++◌, refl, sym, ap, ◌∙◌, subst, inl, inr, map, option_map, slice_get, append_assoc, append-nil, Option, Some, None, Result, Ok, Err}
use Rattle.std.proofs.lemmas.Bool.{cases_Bool}
use Rattle.std.proofs.lemmas.List.{map-append}
use Rattle.mdcc_def_language.specs.declared.lines.Line.{Line}
use Rattle.mdcc_def_language.specs.declared.world.EventFault.{EventFault}
use Rattle.mdcc_def_messages.specs.Mailbox.{Sent, numbered, unsent, with_delivered}
use Rattle.mdcc_def_messages.specs.declared.messages.Envelope.{Envelope}
use Rattle.mdcc_def_rules.specs.declared.node.Input.{Input}
use Rattle.mdcc_def_simulation.specs.Deliveries.{deliver_line, after_deliveries, after_delivery_by, after_delivery}
use Rattle.mdcc_def_simulation.specs.Limits.{if_up, is_limit, is_past_events, limit_if, most_events, step_limit, unless_limit, with_lines, within_events}
use Rattle.mdcc_def_simulation.specs.State.{Happened, World, after_lines, is_up_at}
use Rattle.mdcc_def_simulation.specs.AppliedSteps.{input_happened, step_at}
use Rattle.mdcc_def_language.specs.declared.world.LimitName.{LimitName}
use Rattle.mdcc_theorem_round_trip.specs.RoundTrips.{message_at, messages_of}

-- ---- an answer that is no refusal

peel-unless : {X : Type 0} (o : Option EventFault) (x y : X) → unless_limit o x ≡ Ok y → x ≡ y
peel-unless None x y h = cc
peel-unless (Some fault) x y h = absurd (cc)

peel-up : {X : Type 0} (w : World) (a : ℕ) (r : Result X EventFault) (x : X) → if_up w a r ≡ Ok x → r ≡ Ok x
peel-up w a r x h = elim (cases_Bool (is_up_at w a)) [
  | inl e ↦ rw e at h
  | inr e ↦ let bad : Err (EventFault.Down a) ≡ Ok x = rw e at h in absurd (cc)
]

peel-events : {X : Type 0} (w : World) (r : Result X EventFault) (x : X) → within_events w r ≡ Ok x → r ≡ Ok x
peel-events w (Ok y) x h = ap Ok (peel-unless (limit_if (is_past_events w) LimitName.Events most_events) y x h)
peel-events {X = X} w (Err fault) x h = by (is_limit fault) (is_past_events w) h
  where
    by : (b c : Bool) → cond (b && c) (Err (EventFault.Limit LimitName.Events most_events)) (Err fault) ≡ Ok x → Err fault ≡ Ok x
    by true true g = absurd (cc)
    by true false g = g
    by false c g = g

peel-lines : (lines : World → List Line) (r : Result Happened EventFault) (x : Happened) → with_lines lines r ≡ Ok x → (h : Happened) × (r ≡ Ok h) × (x ≡ after_lines (lines h.world) h)
peel-lines lines (Ok h) x e = let same : after_lines (lines h.world) h ≡ x = cc in (h, refl, sym same)
peel-lines lines (Err fault) x e = absurd (cc)

-- the message counts as delivered, which is an event
abbrev pub counted : World → ℕ → World
counted w number = record w { sent = with_delivered w.sent (number - 1); events = w.events + 1 }

-- what comes of a delivery
abbrev pub delivery_told : ℕ → Happened → Happened
delivery_told number h = after_lines (deliver_line number h.world) h

module _ (w : World) (number : ℕ) (envelope : Envelope) (next : Happened) (named : message_at w number ≡ Some envelope) (answer : after_delivery w number ≡ Ok next) where
  by_sent : (o : Option Sent) → option_map (λ (s : Sent). s.envelope) o ≡ Some envelope → after_delivery_by w number o ≡ Ok next
      → next ≡ delivery_told number (input_happened (counted w number) envelope.to (step_at (counted w number) envelope.to (Input.Message envelope)))
  by_sent None e g = absurd (cc)
  by_sent (Some sent) e g =
      let is : sent.envelope ≡ envelope = cc in
      let h = subst (λ m. after_delivery_by w number (Some (record { envelope = m; is_delivered = sent.is_delivered })) ≡ Ok next) is g in
      let after = counted w number in
      let result = step_at after envelope.to (Input.Message envelope) in
      let parts = peel-lines (deliver_line number) (unless_limit (step_limit after envelope.to result) (input_happened after envelope.to result)) next
      (peel-events w _ next (peel-up w envelope.to _ next h)) in
      parts.2 ∙ ap (delivery_told number) (sym (peel-unless (step_limit after envelope.to result) (input_happened after envelope.to result) parts.0 parts.1))

  -- a delivery that is not refused is the step of the message's centre
  pub delivery-told : next ≡ delivery_told number (input_happened (counted w number) envelope.to (step_at (counted w number) envelope.to (Input.Message envelope)))
  delivery-told = by_sent (numbered w.sent number) named answer

-- ---- a line of deliveries, unrolled

abbrev pub Delivers : World → List ℕ → World → List Line → Type 0
Delivers w [] after lines = (w ≡ after) × (lines ≡ [])
Delivers w (number ∷ numbers) after lines =
    (next : Happened) × (after_delivery w number ≡ Ok next) × ((rest : List Line) × (lines ≡ next.lines ++ rest) × Delivers next.world numbers after rest)

pub unrolled : (numbers : List ℕ) (h after : Happened) → after_deliveries numbers h ≡ Ok after
    → (lines : List Line) × (after.lines ≡ h.lines ++ lines) × Delivers h.world numbers after.world lines
unrolled [] h after e = let same : h ≡ after = cc in ([], ap (λ (x : Happened). x.lines) (sym same) ∙ sym (append-nil h.lines), (ap (λ (x : Happened). x.world) same, refl))
unrolled (number ∷ numbers) h after e = by (λ next g. unrolled numbers (after_lines h.lines next) after g) (after_delivery h.world number) refl
  where
    by : ((next : Happened) → after_deliveries numbers (after_lines h.lines next) ≡ Ok after → (lines : List Line) × (after.lines ≡ (h.lines ++ next.lines) ++ lines) × Delivers next.world numbers after.world lines)
        → (r : Result Happened EventFault) → after_delivery h.world number ≡ r → (lines : List Line) × (after.lines ≡ h.lines ++ lines) × Delivers h.world (number ∷ numbers) after.world lines
    by later (Err fault) g = let bad : Err fault ≡ Ok after = rw (g, after_deliveries) at e in absurd (cc)
    by later (Ok next) g =
        let rest : after_deliveries numbers (after_lines h.lines next) ≡ Ok after = rw (g, after_deliveries) at e in
        let ih = later next rest in
        (next.lines ++ ih.0, ih.1 ∙ append_assoc h.lines next.lines ih.0, (next, g, (ih.0, refl, ih.2)))

-- ---- messages by their numbers

got-mapped : (xs : List Sent) (n : ℕ) → option_map (λ (s : Sent). s.envelope) (slice_get xs n) ≡ slice_get (map (λ (s : Sent). s.envelope) xs) n
got-mapped [] n = refl
got-mapped (x ∷ xs) zero = refl
got-mapped (x ∷ xs) (suc n) = got-mapped xs n

got-more : {X : Type 0} (xs ys : List X) (n : ℕ) (x : X) → slice_get xs n ≡ Some x → slice_get (xs ++ ys) n ≡ Some x
got-more [] ys n x h = absurd (cc)
got-more (y ∷ xs) ys zero x h = h
got-more (y ∷ xs) ys (suc n) x h = got-more xs ys n x h

pub message-more : (w v : World) (more : List Envelope) (number : ℕ) (envelope : Envelope) → messages_of v ≡ messages_of w ++ more → message_at w number ≡ Some envelope → message_at v number ≡ Some envelope
message-more w v more zero envelope same h = absurd (cc)
message-more w v more (suc n) envelope same h =
    got-mapped v.sent n ∙ ap (λ ms. slice_get ms n) same ∙ got-more (messages_of w) more n envelope (sym (got-mapped w.sent n) ∙ h)

delivered-same : (sent : List Sent) (place : ℕ) → map (λ (s : Sent). s.envelope) (with_delivered sent place) ≡ map (λ (s : Sent). s.envelope) sent
delivered-same [] place = refl
delivered-same (s ∷ ss) zero = refl
delivered-same (s ∷ ss) (suc place) = ap (λ ms. s.envelope ∷ ms) (delivered-same ss place)

unsent-same : (ms : List Envelope) → map (λ (s : Sent). s.envelope) (map unsent ms) ≡ ms
unsent-same [] = refl
unsent-same (m ∷ ms) = ap (λ xs. m ∷ xs) (unsent-same ms)

-- a delivery leaves the messages, and those that its step sends come after them
pub messages-after : (sent : List Sent) (place : ℕ) (sends : List Envelope)
    → map (λ (s : Sent). s.envelope) (with_delivered sent place ++ map unsent sends) ≡ map (λ (s : Sent). s.envelope) sent ++ sends
messages-after sent place sends =
    map-append (λ (s : Sent). s.envelope) (with_delivered sent place) (map unsent sends)
    ∙ ap (λ ms. ms ++ map (λ (s : Sent). s.envelope) (map unsent sends)) (delivered-same sent place)
    ∙ ap (λ ms. map (λ (s : Sent). s.envelope) sent ++ ms) (unsent-same sends)

-- ---- numbers in the order of some items

abbrev pub Name : {X : Type 0} → (X → Envelope) → World → List ℕ → List X → Type 0
Name message w [] [] = Unit {0}
Name message w (number ∷ numbers) (x ∷ xs) = (message_at w number ≡ Some (message x)) × Name message w numbers xs
Name message w _ _ = ⊥

pub named : {X : Type 0} (message : X → Envelope) (w : World) (numbers : List ℕ) (xs : List X) → map (message_at w) numbers ≡ map Some (map message xs) → Name message w numbers xs
named message w [] [] h = tt
named message w [] (x ∷ xs) h = absurd (cc)
named message w (number ∷ numbers) [] h = absurd (cc)
named message w (number ∷ numbers) (x ∷ xs) h =
    let first : message_at w number ≡ Some (message x) = cc in
    let rest : map (message_at w) numbers ≡ map Some (map message xs) = cc in
    (first, named message w numbers xs rest)

pub name-more : {X : Type 0} (message : X → Envelope) (w v : World) (more : List Envelope) (numbers : List ℕ) (xs : List X) → messages_of v ≡ messages_of w ++ more
    → Name message w numbers xs → Name message v numbers xs
name-more message w v more [] [] same h = tt
name-more message w v more [] (x ∷ xs) same h = h
name-more message w v more (number ∷ numbers) [] same h = h
name-more message w v more (number ∷ numbers) (x ∷ xs) same h = (message-more w v more number (message x) same h.0, name-more message w v more numbers xs same h.1)
