-- Deliveries to centres that are up and have no armed stop are refused only for a limit.
use Rattle.std.proofs.Common.{◌≡◌, ℕ, suc, zero, ◌-◌, ◌&&◌, Bool, true, false, cond, is_some, List, [], ◌∷◌, ◌++◌, refl, sym, ap, ◌∙◌, subst, map, get_or, option_map, append-nil, Option, Some, None, Result, Ok, Err}
use Rattle.std.specs.List.{AllByRecursion}
use Rattle.std.specs.Option.{option_or}
use Rattle.std.proofs.Math.Seq.{map-set_same}
use Rattle.mdcc_base.specs.declared.outside.Image.{Image}
use Rattle.mdcc_option.specs.declared.cluster.Cluster.{Cluster}
use Rattle.mdcc_def_language.specs.declared.lines.Line.{Line}
use Rattle.mdcc_def_language.specs.declared.world.EventFault.{EventFault}
use Rattle.mdcc_def_language.specs.declared.world.LimitName.{LimitName}
use Rattle.mdcc_def_messages.specs.Mailbox.{Sent, numbered}
use Rattle.mdcc_def_messages.specs.declared.facts.Fact.{Fact}
use Rattle.mdcc_def_messages.specs.declared.messages.Envelope.{Envelope}
use Rattle.mdcc_def_protocol.specs.Belongs.{is_centre}
use Rattle.mdcc_def_rules.specs.Steps.{NodeStep}
use Rattle.mdcc_def_rules.specs.declared.node.Input.{Input}
use Rattle.mdcc_def_rules.specs.declared.node.StepFault.{StepFault}
use Rattle.mdcc_def_simulation.specs.Deliveries.{deliver_line, after_deliveries, after_delivery_by, after_delivery}
use Rattle.mdcc_def_simulation.specs.Limits.{passed_bytes_limit, is_limit, is_past_events, limit_if, passed_log_limit, most_events, step_limit, step_limit_by, unless_limit, with_lines, within_events}
use Rattle.mdcc_def_simulation.specs.State.{Happened, SimulatedSite, World, after_lines, booted, centre_at, is_up_at}
use Rattle.mdcc_def_simulation.specs.AppliedSteps.{fact_happened, input_happened, step_at, step_happened_by}
use Rattle.mdcc_def_simulation.specs.Checkpoints.{striking, striking_at, tail_after_append}
use Rattle.mdcc_theorem_round_trip.specs.Refusals.{GoesUp}
use Rattle.mdcc_theorem_round_trip.specs.RoundTrips.{message_at, messages_of}
use Rattle.mdcc_theorem_round_trip.proofs.Delivering.{Name, counted, delivery-told, messages-after, name-more, named}
use Rattle.mdcc_theorem_round_trip.proofs.Lists.{each-weaker}

-- ---- each refusal is a limit

abbrev refused : {X : Type 0} → EventFault → Result X EventFault
refused fault = Err fault

abbrev AreLimits : Option EventFault → Type 0
AreLimits o = (fault : EventFault) → o ≡ Some fault → is_limit fault ≡ true

limit-if : (b : Bool) (name : LimitName) (n : ℕ) → AreLimits (limit_if b name n)
limit-if true name n fault e = let is : EventFault.Limit name n ≡ fault = cc in subst (λ f. is_limit f ≡ true) is refl
limit-if false name n fault e = absurd (cc)

limit-or : (o p : Option EventFault) → AreLimits o → AreLimits p → AreLimits (option_or o p)
limit-or (Some f) p h g fault e = h fault e
limit-or None p h g fault e = g fault e

limit-unless_some : (b : Bool) (o : Option EventFault) → AreLimits o → AreLimits (cond b None o)
limit-unless_some true o h fault e = absurd (cc)
limit-unless_some false o h fault e = h fault e

limit-step : (w : World) (a : ℕ) (r : Result NodeStep StepFault) → AreLimits (step_limit w a r)
limit-step w a (Err f) = λ fault e. absurd (cc)
limit-step w a (Ok step) = by step.fact
  where
    by : (o : Option Fact) → AreLimits (step_limit_by w a step o)
    by None = limit-if _ _ _
    by (Some fact) =
        limit-or (passed_log_limit w a fact) (cond (is_some (striking_at w a)) None (passed_bytes_limit w step.sends)) (limit-if _ _ _)
        (limit-unless_some (is_some (striking_at w a)) (passed_bytes_limit w step.sends) (limit-if _ _ _))

limit-unless : {X : Type 0} (o : Option EventFault) (x : X) (fault : EventFault) → AreLimits o → unless_limit o x ≡ Err fault → is_limit fault ≡ true
limit-unless None x fault h e = absurd (cc)
limit-unless (Some f) x fault h e = let is : f ≡ fault = cc in subst (λ g. is_limit g ≡ true) is (h f refl)

limit-lines : (lines : World → List Line) (r : Result Happened EventFault) (fault : EventFault) → ((f : EventFault) → r ≡ Err f → is_limit f ≡ true) → with_lines lines r ≡ Err fault → is_limit fault ≡ true
limit-lines lines (Ok h) fault g e = absurd (cc)
limit-lines lines (Err f) fault g e = let is : f ≡ fault = cc in subst (λ k. is_limit k ≡ true) is (g f refl)

limit-events : {X : Type 0} (w : World) (r : Result X EventFault) (fault : EventFault) → ((f : EventFault) → r ≡ Err f → is_limit f ≡ true) → within_events w r ≡ Err fault → is_limit fault ≡ true
limit-events w (Ok x) fault g e = limit-unless (limit_if (is_past_events w) LimitName.Events most_events) x fault (limit-if (is_past_events w) LimitName.Events most_events) e
limit-events {X = X} w (Err f) fault g e = by (is_limit f && is_past_events w) e
  where
    by : (b : Bool) → cond b (refused {X = X} (EventFault.Limit LimitName.Events most_events)) (refused f) ≡ Err fault → is_limit fault ≡ true
    by true k = let is : EventFault.Limit LimitName.Events most_events ≡ fault = cc in subst (λ h. is_limit h ≡ true) is refl
    by false k = let is : f ≡ fault = cc in subst (λ h. is_limit h ≡ true) is (g f refl)

delivery-limit : (w : World) (number : ℕ) (envelope : Envelope) (fault : EventFault) → message_at w number ≡ Some envelope → is_up_at w envelope.to ≡ true
    → after_delivery w number ≡ Err fault → is_limit fault ≡ true
delivery-limit w number envelope fault at up answer = by (numbered w.sent number) at answer
  where
    by : (o : Option Sent) → option_map (λ (s : Sent). s.envelope) o ≡ Some envelope → after_delivery_by w number o ≡ Err fault → is_limit fault ≡ true
    by None e g = absurd (cc)
    by (Some sent) e g =
        let is : sent.envelope ≡ envelope = cc in
        let h = subst (λ m. after_delivery_by w number (Some (record { envelope = m; is_delivered = sent.is_delivered })) ≡ Err fault) is g in
        let result = step_at (counted w number) envelope.to (Input.Message envelope) in
        let told : within_events w (with_lines (deliver_line number) (unless_limit (step_limit (counted w number) envelope.to result) (input_happened (counted w number) envelope.to result))) ≡ Err fault = rw up at h in
        limit-events w _ fault (λ f k. limit-lines (deliver_line number) _ f (λ m j. limit-unless _ _ m (limit-step (counted w number) envelope.to result) j) k) told

-- ---- what deliveries leave

-- whether a centre is up, and its armed stop
abbrev pub standing : SimulatedSite → Bool × Option (ℕ × Image)
standing s = (s.is_up, s.stop)

record Leaves (w v : World) : Type 0 where
  cluster : v.cluster ≡ w.cluster
  centres : map standing v.centres ≡ map standing w.centres
  sends : List Envelope
  messages : messages_of v ≡ messages_of w ++ sends

left-by : (w : World) (number a : ℕ) (r : Result NodeStep StepFault) → (centre_at w a).stop ≡ None → Leaves w (input_happened (counted w number) a r).world
left-by w number a (Err (StepFault.NoRoom needed spare)) free = record { cluster = refl; centres = refl; sends = []; messages = left-same w number }
  where
    left-same : (u : World) (n : ℕ) → messages_of (counted u n) ≡ messages_of u ++ []
    left-same u n = ap (map (λ (s : Sent). s.envelope)) (sym (append-nil (counted u n).sent)) ∙ messages-after u.sent (n - 1) []
left-by w number a (Err StepFault.Foreign) free = record { cluster = refl; centres = refl; sends = []; messages = ap (map (λ (s : Sent). s.envelope)) (sym (append-nil (counted w number).sent)) ∙ messages-after w.sent (number - 1) [] }
left-by w number a (Err StepFault.Crowded) free = record { cluster = refl; centres = refl; sends = []; messages = ap (map (λ (s : Sent). s.envelope)) (sym (append-nil (counted w number).sent)) ∙ messages-after w.sent (number - 1) [] }
left-by w number a (Err StepFault.Exhausted) free = record { cluster = refl; centres = refl; sends = []; messages = ap (map (λ (s : Sent). s.envelope)) (sym (append-nil (counted w number).sent)) ∙ messages-after w.sent (number - 1) [] }
left-by w number a (Err StepFault.Memory) free = record { cluster = refl; centres = refl; sends = []; messages = ap (map (λ (s : Sent). s.envelope)) (sym (append-nil (counted w number).sent)) ∙ messages-after w.sent (number - 1) [] }
left-by w number a (Ok step) free = by step.fact
  where
    by : (o : Option Fact) → Leaves w (step_happened_by (counted w number) a step o).world
    by None = record {
      cluster = refl;
      centres = map-set_same standing w.centres (a - 1) (record (centre_at w a) { volatile = step.after }) booted refl;
      sends = step.sends;
      messages = messages-after w.sent (number - 1) step.sends;
    }
    by (Some fact) = subst (λ stop. Leaves w (fact_happened (counted w number) a step fact stop).world) (sym (ap (striking (centre_at w a).tail) free)) (record {
      cluster = refl;
      centres = map-set_same standing w.centres (a - 1) (record (centre_at w a) { tail = tail_after_append (centre_at w a).tail; volatile = step.after }) booted refl;
      sends = step.sends;
      messages = messages-after w.sent (number - 1) step.sends;
    })

got-standing : (xs : List SimulatedSite) (n : ℕ) → standing (get_or xs n booted) ≡ get_or (map standing xs) n (standing booted)
got-standing [] n = refl
got-standing (x ∷ xs) zero = refl
got-standing (x ∷ xs) (suc n) = got-standing xs n

still-up : (w v : World) (message : Envelope) → Leaves w v → GoesUp w message → GoesUp v message
still-up w v message l h =
    let same : standing (centre_at v message.to) ≡ standing (centre_at w message.to) =
    got-standing v.centres (message.to - 1) ∙ ap (λ ss. get_or ss (message.to - 1) (standing booted)) l.centres ∙ sym (got-standing w.centres (message.to - 1)) in
    record {
      up = ap (λ (c : Cluster). is_centre c message.to && (centre_at v message.to).is_up) l.cluster ∙ ap (λ (p : Bool × Option (ℕ × Image)). is_centre w.cluster message.to && p.0) same ∙ h.up;
      unstopped = ap (λ (p : Bool × Option (ℕ × Image)). p.1) same ∙ h.unstopped;
    }

deliveries-limit : (numbers : List ℕ) (messages : List Envelope) (h : Happened) (fault : EventFault) → Name (λ (m : Envelope). m) h.world numbers messages → AllByRecursion (GoesUp h.world) messages
    → after_deliveries numbers h ≡ Err fault → is_limit fault ≡ true
deliveries-limit [] messages h fault name ups e = absurd (cc)
deliveries-limit (number ∷ numbers) [] h fault name ups e = absurd name
deliveries-limit (number ∷ numbers) (m ∷ messages) h fault name ups e =
    by (λ next n u k. deliveries-limit numbers messages (after_lines h.lines next) fault n u k) (after_delivery h.world number) refl
  where
    by : ((next : Happened) → Name (λ (x : Envelope). x) next.world numbers messages → AllByRecursion (GoesUp next.world) messages → after_deliveries numbers (after_lines h.lines next) ≡ Err fault → is_limit fault ≡ true)
        → (r : Result Happened EventFault) → after_delivery h.world number ≡ r → is_limit fault ≡ true
    by later (Err f) g =
        let same : Err f ≡ Err fault = rw (g, after_deliveries) at e in
        let is : f ≡ fault = cc in
        subst (λ k. is_limit k ≡ true) is (delivery-limit h.world number m f name.0 ups.0.up g)
    by later (Ok next) g =
        let rest : after_deliveries numbers (after_lines h.lines next) ≡ Err fault = rw (g, after_deliveries) at e in
        let told = delivery-told h.world number m next name.0 g in
        let left = subst (λ (x : Happened). Leaves h.world x.world) (sym told) (left-by h.world number m.to (step_at (counted h.world number) m.to (Input.Message m)) ups.0.unstopped) in
        later next (name-more (λ (x : Envelope). x) h.world next.world left.sends numbers messages left.messages name.1)
        (each-weaker (GoesUp h.world) (GoesUp next.world) messages (λ x up. still-up h.world next.world x left up) ups.1) rest

map-same : (ms : List Envelope) → map (λ (m : Envelope). m) ms ≡ ms
map-same [] = refl
map-same (m ∷ ms) = ap (λ xs. m ∷ xs) (map-same ms)

pub only-limits : (w : World) (numbers : List ℕ) (messages : List Envelope) (fault : EventFault) → map (message_at w) numbers ≡ map Some messages → AllByRecursion (GoesUp w) messages
    → after_deliveries numbers (record { world = w; lines = [] }) ≡ Err fault → is_limit fault ≡ true
only-limits w numbers messages fault are ups e =
    deliveries-limit numbers messages (record { world = w; lines = [] }) fault
    (named (λ (m : Envelope). m) w numbers messages (are ∙ ap (map Some) (sym (map-same messages)))) ups e
