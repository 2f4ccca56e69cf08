-- A schedule keeps the invariant, where each step of a node is good.
use Rattle.std.proofs.Common.{Bool, Err, List, None, Ok, Option, Result, Some, [], ap, cond, false, inl, inr, length, refl, subst, suc, true, zero, ℕ, ◌&&◌, ◌+◌, ◌-◌, ◌==◌, ◌||◌, ◌∷◌, ◌≡◌}
use Rattle.std.specs.Prelude.{slice_get, ⊤}
use Rattle.std.specs.List.{list_any}
use Rattle.std.proofs.lemmas.Bool.{and_parts, cases_Bool}
use Rattle.mdcc_option.specs.declared.cluster.Cluster.{Cluster}
use Rattle.mdcc_option.specs.declared.items.Known.{Known}
use Rattle.mdcc_def_ledger.specs.Ledger.{Entry}
use Rattle.mdcc_def_protocol.specs.Belongs.{is_centre}
use Rattle.mdcc_def_messages.specs.declared.messages.Envelope.{Envelope}
use Rattle.mdcc_def_rules.specs.declared.node.Input.{Input}
use Rattle.mdcc_def_language.specs.declared.world.EventFault.{EventFault}
use Rattle.mdcc_def_simulation.specs.State.{Happened, World, after_lines, centre_at, counted_event, is_up_at}
use Rattle.mdcc_def_messages.specs.Mailbox.{Sent, numbered, with_delivered}
use Rattle.mdcc_def_simulation.specs.Deliveries.{deliver_line, after_message, after_deliveries, after_delivery_by, after_delivery, first_waiting, is_waiting_for, settled_line, settled_of}
use Rattle.mdcc_def_simulation.specs.Limits.{if_up, is_limit, is_past_events, limit_if, most_events, step_limit, unless_limit, with_lines, within_events}
use Rattle.mdcc_def_simulation.specs.AppliedSteps.{input_happened, step_at}
use Rattle.mdcc_theorem_trace_states.specs.Words.{Each}
use Rattle.mdcc_theorem_trace_states.specs.Invariant.{Holds}
use Rattle.mdcc_theorem_trace_states.specs.MessageMeaning.{TrueWhenSent}
use Rattle.mdcc_theorem_trace_states.proofs.Walk.{input-holds}
use Rattle.mdcc_def_language.specs.declared.lines.Line.{Line}
use Rattle.mdcc_def_language.specs.declared.world.LimitName.{LimitName}
use Rattle.mdcc_theorem_trace_states.specs.Steps.{AreGood, IsUp}

abbrev pub OkHolds : (List Entry → Type 0) → Cluster → Result Happened EventFault → Type 0
OkHolds also cluster (Ok h) = Holds also cluster h.world
OkHolds also cluster (Err fault) = ⊤

abbrev pub OkSettled : (List Entry → Type 0) → Cluster → Result (Happened × ℕ) EventFault → Type 0
OkSettled also cluster (Ok h) = Holds also cluster h.0.world
OkSettled also cluster (Err fault) = ⊤

pub unless-holds : (also : List Entry → Type 0) (cluster : Cluster) (o : Option EventFault) (h : Happened) → Holds also cluster h.world → OkHolds also cluster (unless_limit o h)
unless-holds also cluster None h g = g
unless-holds also cluster (Some fault) h g = tt

pub within-holds : (also : List Entry → Type 0) (cluster : Cluster) (w : World) (r : Result Happened EventFault) → OkHolds also cluster r → OkHolds also cluster (within_events w r)
within-holds also cluster w (Ok h) g = unless-holds also cluster (limit_if (is_past_events w) LimitName.Events most_events) h g
within-holds also cluster w (Err fault) g = elim (cases_Bool (is_limit fault && is_past_events w)) [ inl e ↦ rw e tt | inr e ↦ rw e tt ]

pub lines-hold : (also : List Entry → Type 0) (cluster : Cluster) (lines : World → List Line) (r : Result Happened EventFault) → OkHolds also cluster r → OkHolds also cluster (with_lines lines r)
lines-hold also cluster lines (Ok h) g = g
lines-hold also cluster lines (Err fault) g = tt

pub up-holds : (also : List Entry → Type 0) (cluster : Cluster) (w : World) (a : ℕ) (r : Result Happened EventFault) → (is_up_at w a ≡ true → OkHolds also cluster r) → OkHolds also cluster (if_up w a r)
up-holds also cluster w a r h = elim (cases_Bool (is_up_at w a)) [ inl e ↦ rw e (h e) | inr e ↦ rw e tt ]

pub is-up : (also : List Entry → Type 0) (cluster : Cluster) (w : World) (a : ℕ) → Holds also cluster w → is_up_at w a ≡ true → IsUp also w.cluster w.ledger a (centre_at w a).volatile
is-up also cluster w a h e =
    let p = and_parts (is_centre w.cluster a) (centre_at w a).is_up e in
    record { sizes = h.sizes; legal = h.legal; placed = h.placed; more = h.more; centre = p.0; booted = (h.centres a p.0).booted; keeps = (h.centres a p.0).keeps p.1 }

-- ---- deliveries

pub delivered-sent : (P : Envelope → Type 0) (ss : List Sent) (n : ℕ) → Each (λ (s : Sent). P s.envelope) ss → Each (λ (s : Sent). P s.envelope) (with_delivered ss n)
delivered-sent P [] n h = tt
delivered-sent P (s ∷ ss) zero h = h
delivered-sent P (s ∷ ss) (suc n) h = (h.0, delivered-sent P ss n h.1)

pub counted-holds : (also : List Entry → Type 0) (cluster : Cluster) (w : World) (n m : ℕ) → Holds also cluster w → Holds also cluster (record w { sent = with_delivered w.sent n; events = m })
counted-holds also cluster w n m h = record {
  same = h.same;
  sizes = h.sizes;
  legal = h.legal;
  placed = h.placed;
  more = h.more;
  sent = delivered-sent (TrueWhenSent w.cluster w.ledger) w.sent n h.sent;
  size = h.size;
  centres = h.centres;
}

pub event-holds : (also : List Entry → Type 0) (cluster : Cluster) (w : World) → Holds also cluster w → Holds also cluster (counted_event w)
event-holds also cluster w h = record { same = h.same; sizes = h.sizes; legal = h.legal; placed = h.placed; more = h.more; sent = h.sent; size = h.size; centres = h.centres }

pub reads-hold : (also : List Entry → Type 0) (cluster : Cluster) (w : World) (reads : List Known) → Holds also cluster w → Holds also cluster (record w { reads = reads })
reads-hold also cluster w reads h = record { same = h.same; sizes = h.sizes; legal = h.legal; placed = h.placed; more = h.more; sent = h.sent; size = h.size; centres = h.centres }

pub delivered-holds : (also : List Entry → Type 0) (cluster : Cluster) → AreGood also → (w : World) (n : ℕ) (env : Envelope) → Holds also cluster w → TrueWhenSent w.cluster w.ledger env → is_up_at w env.to ≡ true →
    OkHolds also cluster (after_message w n env)
delivered-holds also cluster good w n env h stands up =
    let u = is-up also cluster w env.to h up in
    unless-holds also cluster
    (step_limit (record w { sent = with_delivered w.sent (n - 1); events = w.events + 1 }) env.to (step_at (record w { sent = with_delivered w.sent (n - 1); events = w.events + 1 }) env.to (Input.Message env)))
    (input_happened (record w { sent = with_delivered w.sent (n - 1); events = w.events + 1 }) env.to (step_at (record w { sent = with_delivered w.sent (n - 1); events = w.events + 1 }) env.to (Input.Message env)))
    (input-holds also cluster (record w { sent = with_delivered w.sent (n - 1); events = w.events + 1 }) env.to (step_at (record w { sent = with_delivered w.sent (n - 1); events = w.events + 1 }) env.to (Input.Message env))
    (counted-holds also cluster w (n - 1) (w.events + 1) h) u.centre (good.step w.cluster w.ledger env.to (centre_at w env.to).volatile (Input.Message env) u stands))

pub delivery-by-holds : (also : List Entry → Type 0) (cluster : Cluster) → AreGood also → (w : World) (n : ℕ) (o : Option Sent) → Holds also cluster w → ((s : Sent) → o ≡ Some s → TrueWhenSent w.cluster w.ledger s.envelope) →
    OkHolds also cluster (after_delivery_by w n o)
delivery-by-holds also cluster good w n None h f = tt
delivery-by-holds also cluster good w n (Some s) h f =
    up-holds also cluster w s.envelope.to _ (λ up. within-holds also cluster w (with_lines (deliver_line n) (after_message w n s.envelope)) (lines-hold also cluster (deliver_line n) (after_message w n s.envelope) (delivered-holds also cluster good w n s.envelope h (f s refl) up)))

get-each : {A : Type 0} (P : A → Type 0) (xs : List A) (n : ℕ) (x : A) → Each P xs → slice_get xs n ≡ Some x → P x
get-each P [] n x h e = absurd (cc)
get-each P (y ∷ ys) zero x h e = let s : y ≡ x = cc in subst P s h.0
get-each P (y ∷ ys) (suc n) x h e = get-each P ys n x h.1 e

pub numbered-each : {A : Type 0} (P : A → Type 0) (xs : List A) (n : ℕ) (x : A) → Each P xs → numbered xs n ≡ Some x → P x
numbered-each P xs zero x h e = absurd (cc)
numbered-each P xs (suc n) x h e = get-each P xs n x h e

delivery-holds : (also : List Entry → Type 0) (cluster : Cluster) → AreGood also → (w : World) (n : ℕ) → Holds also cluster w → OkHolds also cluster (after_delivery w n)
delivery-holds also cluster good w n h =
    delivery-by-holds also cluster good w n (numbered w.sent n) h (λ s e. numbered-each (λ (s : Sent). TrueWhenSent w.cluster w.ledger s.envelope) w.sent n s h.sent e)

pub deliveries-hold : (also : List Entry → Type 0) (cluster : Cluster) → AreGood also → (ns : List ℕ) (h : Happened) → Holds also cluster h.world → OkHolds also cluster (after_deliveries ns h)
deliveries-hold also cluster good [] h g = g
deliveries-hold also cluster good (n ∷ ns) h g = by_case (λ next k. deliveries-hold also cluster good ns next k) (after_delivery h.world n) refl (delivery-holds also cluster good h.world n g)
  where
    by_case : ((next : Happened) → Holds also cluster next.world → OkHolds also cluster (after_deliveries ns next)) → (r : Result Happened EventFault) → after_delivery h.world n ≡ r → OkHolds also cluster r →
        OkHolds also cluster (after_deliveries (n ∷ ns) h)
    by_case rest (Err fault) e k = rw (e, after_deliveries, OkHolds) tt
    by_case rest (Ok next) e k = rw (e, after_deliveries, OkHolds) (rest (after_lines h.lines next) k)

-- ---- settle

pub waiting : (w : World) (P : Envelope → Type 0) (listed : List ℕ) (n : ℕ) (ss : List Sent) (next : ℕ × Envelope) → Each (λ (s : Sent). P s.envelope) ss → first_waiting w listed n ss ≡ Some next → P next.1 × (is_up_at w next.1.to ≡ true)
waiting w P listed n [] next h e = absurd (cc)
waiting w P listed n (s ∷ ss) next h e = by_case (λ k. waiting w P listed (n + 1) ss next h.1 k) (is_waiting_for w listed s) refl
  where
    up : (d : Bool) → (if_waiting : cond d false (is_up_at w s.envelope.to && (length listed == 0 || list_any (λ a. a == s.envelope.to) listed)) ≡ true) → is_up_at w s.envelope.to ≡ true
    up true k = absurd (cc)
    up false k = (and_parts (is_up_at w s.envelope.to) _ k).0

    by_case : (first_waiting w listed (n + 1) ss ≡ Some next → P next.1 × (is_up_at w next.1.to ≡ true)) → (b : Bool) → is_waiting_for w listed s ≡ b → P next.1 × (is_up_at w next.1.to ≡ true)
    by_case rest true k =
        let g : Some (n, s.envelope) ≡ Some next = rw (k, first_waiting) at e in
        let r : (n, s.envelope) ≡ next = cc in
        let t : s.envelope ≡ next.1 = ap (λ (z : ℕ × Envelope). z.1) r in
        (subst P t h.0, subst (λ (z : Envelope). is_up_at w z.to ≡ true) t (up s.is_delivered k))
    by_case rest false k = let g : first_waiting w listed (n + 1) ss ≡ Some next = rw (k, first_waiting) at e in rest g

pub settled-holds : (also : List Entry → Type 0) (cluster : Cluster) → AreGood also → (left : ℕ) (listed : List ℕ) (h : Happened) (d : ℕ) → Holds also cluster h.world → OkSettled also cluster (settled_of left listed h d)
settled-holds also cluster good zero listed h d g = by_case (first_waiting h.world listed 1 h.world.sent) refl
  where
    by_case : (o : Option (ℕ × Envelope)) → first_waiting h.world listed 1 h.world.sent ≡ o → OkSettled also cluster (settled_of zero listed h d)
    by_case None e = rw (e, settled_of, OkSettled) g
    by_case (Some next) e = rw (e, settled_of, OkSettled) tt
settled-holds also cluster good (suc left) listed h d g = by_case (λ k n. settled-holds also cluster good left listed k n) (first_waiting h.world listed 1 h.world.sent) refl
  where
    by_result : ((k : Happened) (n : ℕ) → Holds also cluster k.world → OkSettled also cluster (settled_of left listed k n)) → (next : ℕ × Envelope) → first_waiting h.world listed 1 h.world.sent ≡ Some next →
        (r : Result Happened EventFault) → after_message h.world next.0 next.1 ≡ r → OkHolds also cluster r → OkSettled also cluster (settled_of (suc left) listed h d)
    by_result rest next e (Err fault) f k = rw (e, settled_of) (rw (f, OkSettled) tt)
    by_result rest next e (Ok after) f k = rw (e, settled_of) (rw (f, OkSettled) (rest (after_lines h.lines after) (d + 1) k))

    by_case : ((k : Happened) (n : ℕ) → Holds also cluster k.world → OkSettled also cluster (settled_of left listed k n)) → (o : Option (ℕ × Envelope)) → first_waiting h.world listed 1 h.world.sent ≡ o →
        OkSettled also cluster (settled_of (suc left) listed h d)
    by_case rest None e = rw (e, settled_of, OkSettled) g
    by_case rest (Some next) e =
        let m = waiting h.world (TrueWhenSent h.world.cluster h.world.ledger) listed 1 h.world.sent next g.sent e in
        by_result rest next e (after_message h.world next.0 next.1) refl (delivered-holds also cluster good h.world next.0 next.1 g m.0 m.1)

pub settled-line : (also : List Entry → Type 0) (cluster : Cluster) (r : Result (Happened × ℕ) EventFault) → OkSettled also cluster r → OkHolds also cluster (settled_line r)
settled-line also cluster (Err fault) h = tt
settled-line also cluster (Ok (h, n)) g = g
