-- The ledger of a trace grows by a few entries with each step, and a tick adds no more than the begun transactions can ask for.
use Rattle.std.proofs.Common.{Bool, Err, List, None, Ok, Option, Result, Some, [], ap, arith, cond, false, get_or, inl, inr, length, refl, set, subst, suc, sym, true, zero, ℕ, ◌*◌, ◌++◌, ◌+◌, ◌-◌, ◌<◌, ◌==◌, ◌^◌, ◌∙◌, ◌∷◌, ◌≡◌, ◌≤◌}
use Rattle.std.specs.Option.{option_or}
use Rattle.std.specs.Prelude.{flat_map, fold, nat_le, ⊤}
use Rattle.std.proofs.lemmas.Bool.{cases_Bool, leb-false}
use Rattle.std.proofs.lemmas.Nat.{mul-le}
use Rattle.mdcc_base.specs.AreQuorums.{AreQuorums}
use Rattle.mdcc_base.specs.Counts.{number_of}
use Rattle.mdcc_base.specs.declared.identifiers.TxId.{TxId}
use Rattle.mdcc_base.specs.declared.key.Key.{Key}
use Rattle.mdcc_base.specs.declared.outside.Image.{Image}
use Rattle.mdcc_option.specs.declared.cluster.Cluster.{Cluster}
use Rattle.mdcc_option.specs.declared.faults.BeginFault.{BeginFault}
use Rattle.mdcc_option.specs.declared.items.Part.{Part}
use Rattle.mdcc_struct.specs.Maps.{TxMap}
use Rattle.mdcc_def_protocol.specs.Belongs.{is_centre}
use Rattle.mdcc_def_protocol.specs.Facts.{epoch_of}
use Rattle.mdcc_def_protocol.specs.IsCluster.{IsCluster}
use Rattle.mdcc_def_ledger.specs.Ledger.{choices_begun, facts_of}
use Rattle.mdcc_def_protocol.specs.Manager
use Rattle.mdcc_def_protocol.specs.Manager.{acts_at, begin_with, begin_fault, parts_begin_fault, ticked_transaction}
use Rattle.mdcc_def_rules.specs.ManagerRules.{begin_step_by}
use Rattle.mdcc_def_rules.specs.Node.{checked_for_room, message_step, step_of}
use Rattle.mdcc_def_protocol.specs.Recover.{acts_on, counted_tick, dangling}
use Rattle.mdcc_def_rules.specs.Steps.{NodeStep, StepPart, only_sending}
use Rattle.mdcc_def_rules.specs.TickRules.{manager_act, manager_ticked, recovery_act, recovery_ticked, tick_parts}
use Rattle.mdcc_def_protocol.specs.Volatile.{Managing, Recovering, Undecided, Volatile, txs_opened, with_manager, with_recovery}
use Rattle.mdcc_def_simulation.specs.State.{SimulatedSite, World, booted, booted_to, centre_at, down, first_world, is_up_at}
use Rattle.mdcc_def_simulation.specs.AppliedSteps.{fact_happened, input_happened, step_at, step_happened_by, step_stopped}
use Rattle.mdcc_def_simulation.specs.Checkpoints.{is_frame_kept, striking_at, tail_after_append}
use Rattle.mdcc_def_simulation.specs.Runs.{run_of}
use Rattle.mdcc_def_language.specs.declared.events.Event.{Event}
use Rattle.mdcc_def_messages.specs.declared.facts.Fact.{Fact}
use Rattle.mdcc_def_messages.specs.declared.messages.Envelope.{Envelope}
use Rattle.mdcc_def_rules.specs.declared.node.Input.{Input}
use Rattle.mdcc_def_rules.specs.declared.node.StepFault.{StepFault}
use Rattle.mdcc_theorem_trace_states.specs.Invariant.{Holds}
use Rattle.mdcc_theorem_trace_states.specs.VolatileInvariant.{IsOpened}
use Rattle.mdcc_theorem_trace_states.specs.Sound.{IsSound}
use Rattle.mdcc_theorem_trace_states.specs.Steps.{IsFair, IsUp}
use Rattle.mdcc_theorem_trace_states.specs.Words.{Each}
use Rattle.mdcc_theorem_trace_states.proofs.Boots.{replicated}
use Rattle.mdcc_theorem_trace_states.proofs.Events.{is-up}
use Rattle.mdcc_theorem_trace_states.proofs.Lists.{Each-like}
use Rattle.mdcc_theorem_trace_states.proofs.Walk.{bounds, centre-set}
use Rattle.mdcc_theorem_trace.proofs.Laws.{all-good}
use Rattle.mdcc_theorem_trace_limits.proofs.Begun.{begun-few, dangling-few, dangling-keys}
use Rattle.mdcc_theorem_trace_limits.proofs.Small.{IsSmallResult, IsTickSmall, acts-few, checked-small, facts_in, flat-few, fold-small, is_begin, length-both, manager-act-small, map-length, number-append, opened_in, recover-few, recovery-act-small, ticked-small}
use Rattle.mdcc_theorem_trace_limits.proofs.Walks.{IsReached, IsWalk, others_in, ticks_in, trace-reached}
use Rattle.mdcc_def_rules.specs.Here.{here}

-- no centre has more than 256 transactions open
abbrev pub AreFew : World → Type 0
AreFew w = (b : ℕ) → is_centre w.cluster b ≡ true → opened_in (centre_at w b).volatile ≤ 256

-- how long the ledger can be after so many ticks and other steps
abbrev pub most_entries : ℕ → ℕ → ℕ
most_entries t d = 9 + t * (2048 + 8 * d) + d

pub record IsShort (t d : ℕ) (w : World) : Type 0 where
  pub begun : number_of is_begin w.ledger ≤ d
  pub few : AreFew w
  pub short : length w.ledger ≤ most_entries t d

-- ---- what a step takes

-- so many entries come, so many of them begin a transaction, and at most 256 are open then
pub record IsTaken (n m : ℕ) (step : NodeStep) : Type 0 where
  pub weight : length step.entries + facts_in step.fact ≤ n
  pub begun : number_of is_begin step.entries ≤ m
  pub few : opened_in step.after ≤ 256

pub record IsGrown (n m : ℕ) (w v : World) : Type 0 where
  pub begun : number_of is_begin v.ledger ≤ number_of is_begin w.ledger + m
  pub few : AreFew v
  pub short : length v.ledger ≤ length w.ledger + n

few-set : (w : World) (a : ℕ) (c : SimulatedSite) → Holds IsSound w.cluster w → is_centre w.cluster a ≡ true → opened_in c.volatile ≤ 256 → AreFew w → (b : ℕ) → is_centre w.cluster b ≡ true → opened_in (get_or (set w.centres (a - 1) c) (b - 1) booted).volatile ≤ 256
few-set w a c h here k few b there =
    let at = centre-set w.centres a b w.cluster.quorums.centres c (bounds w.cluster a here) (bounds w.cluster b there).0 h.size in
    elim (cases_Bool (a == b)) [
      | inl e ↦ let g : get_or (set w.centres (a - 1) c) (b - 1) booted ≡ c = at ∙ rw e refl in subst (λ (z : SimulatedSite). opened_in z.volatile ≤ 256) (sym g) k
      | inr e ↦ let g : get_or (set w.centres (a - 1) c) (b - 1) booted ≡ get_or w.centres (b - 1) booted = at ∙ rw e refl in subst (λ (z : SimulatedSite). opened_in z.volatile ≤ 256) (sym g) (few b there)
    ]

happened-grown : (n m : ℕ) (w : World) (a : ℕ) (step : NodeStep) → Holds IsSound w.cluster w → is_centre w.cluster a ≡ true → AreFew w → IsTaken n m step → IsGrown n m w (step_happened_by w a step step.fact).world
happened-grown n m w a step h here few taken = by_fact step.fact taken.weight
  where
    number : number_of is_begin (step.entries ++ w.ledger) ≤ number_of is_begin w.ledger + m
    number = let e = number-append is_begin step.entries w.ledger in omega (arith, e, taken.begun)

    long : length (step.entries ++ w.ledger) ≡ length step.entries + length w.ledger
    long = length-both step.entries w.ledger

    stopped : (fact : Fact) (stop : ℕ × Image) → 1 ≤ n → IsGrown n m w (step_stopped w a fact stop).world
    stopped fact stop some =
        elim (cases_Bool (is_frame_kept stop.0 stop.1)) [
          | inl e ↦ rw e (record { begun = omega arith; few = few-set w a (down _) h here (omega arith) few; short = omega (arith, some) })
          | inr e ↦ rw e (record { begun = omega arith; few = few-set w a (down _) h here (omega arith) few; short = omega arith })
        ]

    by_stop : (fact : Fact) (o : Option (ℕ × Image)) → length step.entries + 1 ≤ n → IsGrown n m w (fact_happened w a step fact o).world
    by_stop fact None g = record { begun = omega (arith, number); few = few-set w a _ h here taken.few few; short = omega (arith, long, g) }
    by_stop fact (Some stop) g = stopped fact stop (omega (arith, g))

    by_fact : (o : Option Fact) → length step.entries + facts_in o ≤ n → IsGrown n m w (step_happened_by w a step o).world
    by_fact None g = record { begun = number; few = few-set w a _ h here taken.few few; short = omega (arith, long, g) }
    by_fact (Some fact) g = by_stop fact (striking_at w a) g

abbrev pub IsTakenResult : ℕ → ℕ → Result NodeStep StepFault → Type 0
IsTakenResult n m (Ok step) = IsTaken n m step
IsTakenResult n m (Err fault) = ⊤

input-grown : (n m : ℕ) (w : World) (a : ℕ) (r : Result NodeStep StepFault) → Holds IsSound w.cluster w → is_centre w.cluster a ≡ true → AreFew w → IsTakenResult n m r → IsGrown n m w (input_happened w a r).world
input-grown n m w a (Ok step) h here few taken = happened-grown n m w a step h here few taken
input-grown n m w a (Err (StepFault.NoRoom needed spare)) h here few taken = record { begun = omega arith; few = few; short = omega arith }
input-grown n m w a (Err StepFault.Foreign) h here few taken = record { begun = omega arith; few = few; short = omega arith }
input-grown n m w a (Err StepFault.Crowded) h here few taken = record { begun = omega arith; few = few; short = omega arith }
input-grown n m w a (Err StepFault.Exhausted) h here few taken = record { begun = omega arith; few = few; short = omega arith }
input-grown n m w a (Err StepFault.Memory) h here few taken = record { begun = omega arith; few = few; short = omega arith }

-- ---- messages and begins

small-taken : (volatile : Volatile) (r : Result NodeStep StepFault) → opened_in volatile ≤ 256 → IsSmallResult volatile r → IsTakenResult 1 0 r
small-taken volatile (Ok step) few h = record { weight = h.weight; begun = omega (arith, h.begun); few = omega (arith, h.opened, few) }
small-taken volatile (Err fault) few h = tt

message-taken : (cluster : Cluster) (me : ℕ) (facts : List Fact) (volatile : Volatile) (envelope : Envelope) → opened_in volatile ≤ 256 → IsTakenResult 1 0 (step_of (here cluster me facts) volatile (Input.Message envelope))
message-taken cluster me facts volatile envelope few = pick _
  where
    pick : (b : Bool) → IsTakenResult 1 0 (cond b (checked_for_room cluster facts (message_step (here cluster me facts) volatile envelope.from envelope.message)) (Err StepFault.Foreign))
    pick true = small-taken volatile (checked_for_room cluster facts (message_step (here cluster me facts) volatile envelope.from envelope.message)) few (checked-small cluster me facts volatile envelope.from envelope.message)
    pick false = tt

one-more : (ts : List Undecided) (t : Undecided) → length ts < 256 → length (ts ++ t ∷ []) ≤ 256
one-more ts t h = let l = length-both ts (t ∷ []) in omega (arith, h, l)

begin-taken : (cluster : Cluster) (me : ℕ) (facts : List Fact) (volatile : Volatile) (parts : List Part) → opened_in volatile ≤ 256 → IsTaken 1 1 (begin_step_by (here cluster me facts) volatile parts (begin_with me (epoch_of facts) volatile.manager parts (begin_fault facts volatile.manager parts)))
begin-taken cluster me facts volatile parts few = by_parts (parts_begin_fault facts parts) (nat_le (2 ^ 32 - 1) volatile.manager.seq) (nat_le 256 (length volatile.manager.opened)) refl
  where
    refused : (fault : Key × BeginFault) → IsTaken 1 1 (begin_step_by (here cluster me facts) volatile parts (begin_with me (epoch_of facts) volatile.manager parts (Some fault)))
    refused fault = record { weight = omega arith; begun = omega arith; few = few }

    by_parts : (o : Option (Key × BeginFault)) (x y : Bool) → nat_le 256 (length volatile.manager.opened) ≡ y →
        IsTaken 1 1 (begin_step_by (here cluster me facts) volatile parts (begin_with me (epoch_of facts) volatile.manager parts (option_or o (cond x (Some (Manager.first_key parts, BeginFault.Sequence)) (cond y (Some (Manager.first_key parts, BeginFault.Busy)) None)))))
    by_parts (Some fault) x y e = refused fault
    by_parts None true y e = refused (Manager.first_key parts, BeginFault.Sequence)
    by_parts None false true e = refused (Manager.first_key parts, BeginFault.Busy)
    by_parts None false false e =
        let n = leb-false 256 (length volatile.manager.opened) e in
        record { weight = omega arith; begun = omega arith; few = one-more volatile.manager.opened _ n }

-- ---- ticks

tick-small : (w : World) (a : ℕ) → IsUp IsSound w.cluster w.ledger a (centre_at w a).volatile →
    IsTickSmall (8 * opened_in (centre_at w a).volatile + 8 * number_of is_begin w.ledger) (opened_in (centre_at w a).volatile) (tick_parts (here w.cluster a (facts_of w.ledger a)) (centre_at w a).volatile)
tick-small w a up = second (8 * opened_in v) (manager_ticked (here cluster a facts) v) first
  where
    v : Volatile
    v = (centre_at w a).volatile

    cluster : Cluster
    cluster = w.cluster

    facts : List Fact
    facts = facts_of w.ledger a

    choices : Each (λ (t : Undecided). length (acts_at cluster.quorums v.manager.votes t) ≤ 8) v.manager.opened
    choices =
        Each-like (IsOpened w.ledger) (λ (t : Undecided). length (acts_at cluster.quorums v.manager.votes t) ≤ 8) v.manager.opened
        (λ t o. few t o (begun-few cluster w.ledger t.tx up.legal) (acts-few cluster.quorums v.manager.votes t)) up.keeps.manager.opened
      where
        few : (t : Undecided) (o : IsOpened w.ledger t) → length (choices_begun w.ledger t.tx) ≤ 8 → length (acts_at cluster.quorums v.manager.votes t) ≤ length t.choices → length (acts_at cluster.quorums v.manager.votes t) ≤ 8
        few t o x y = let e : length (choices_begun w.ledger t.tx) ≡ length t.choices = ap (λ z. length z) o.choices in omega (arith, x, y, e)

    first : IsTickSmall (8 * opened_in v) (opened_in v) (manager_ticked (here cluster a facts) v)
    first =
        let acts = flat-few (acts_at cluster.quorums v.manager.votes) 8 v.manager.opened choices in
        let after : Managing = (Manager.tick cluster.quorums v.manager).1 in
        let same : opened_in (with_manager v after) ≡ opened_in v = map-length (ticked_transaction cluster.quorums v.manager.votes) v.manager.opened in
        let all = fold-small (manager_act (here cluster a facts)) (flat_map (acts_at cluster.quorums v.manager.votes) v.manager.opened) 0 (opened_in v) (only_sending (with_manager v after) [])
        (λ u x h. manager-act-small cluster a facts (opened_in v) u x h) (ticked-small (with_manager v after) [] 0 (opened_in v) (omega (arith, same))) in
        record { weight = omega (arith, all.weight, acts); begun = all.begun; few = all.few }

    second : (n : ℕ) (p : StepPart) → IsTickSmall n (opened_in v) p → IsTickSmall (n + 8 * number_of is_begin w.ledger) (opened_in v) (recovery_ticked (here cluster a facts) p)
    second n p h =
        let txs : TxMap (List (Key × ℕ)) = dangling facts (txs_opened p.after.manager) in
        let recovery : Recovering = p.after.recovery in
        let keys = Each-like (λ (e : TxId × List (Key × ℕ)). length e.1 ≤ 8) (λ (e : TxId × List (Key × ℕ)). length (acts_on cluster.quorums facts recovery e) ≤ 8) (dangling facts (txs_opened p.after.manager))
        (λ e g. let r = recover-few cluster.quorums facts recovery e in omega (arith, g, r)) (dangling-keys cluster w.ledger a (txs_opened p.after.manager) up.legal up.more) in
        let acts = flat-few (acts_on cluster.quorums facts recovery) 8 (dangling facts (txs_opened p.after.manager)) keys in
        let few = dangling-few cluster w.ledger a (txs_opened p.after.manager) up.legal up.more in
        let all = fold-small (recovery_act (here cluster a facts)) (flat_map (acts_on cluster.quorums facts recovery) (dangling facts (txs_opened p.after.manager))) n (opened_in v)
        (record p { after = with_recovery p.after (record recovery { counters = fold counted_tick recovery.counters txs }) })
        (λ u x k. recovery-act-small cluster a facts (opened_in v) u x k) (record { weight = h.weight; begun = h.begun; few = h.few }) in
        record { weight = omega (arith, all.weight, acts, few); begun = all.begun; few = all.few }

-- ---- the walk

more-ticks : (t x : ℕ) → (t + 1) * x ≡ t * x + x
more-ticks t x = grind arith

tick-room : (t d o b l n : ℕ) → o ≤ 256 → b ≤ d → l ≤ most_entries t d → n ≤ l + (8 * o + 8 * b) → n ≤ most_entries (t + 1) (d + 0)
tick-room t d o b l n few begun short grown =
    let e = more-ticks t (2048 + 8 * d) in
    let r : (t + 1) * (2048 + 8 * (d + 0)) ≡ (t + 1) * (2048 + 8 * d) = same in
    omega (arith, few, begun, short, grown, e, r)
  where
    same : (t + 1) * (2048 + 8 * (d + 0)) ≡ (t + 1) * (2048 + 8 * d)
    same = ap (λ z. (t + 1) * (2048 + 8 * z)) (zero-more d)
      where
        zero-more : (d : ℕ) → d + 0 ≡ d
        zero-more d = omega arith

other-room : (t d l n : ℕ) → l ≤ most_entries t d → n ≤ l + 1 → n ≤ most_entries (t + 0) (d + 1)
other-room t d l n short grown =
    let m = mul-le t (2048 + 8 * d) (t + 0) (2048 + 8 * (d + 1)) (omega arith) (omega arith) in omega (arith, short, grown, m)

boot-more : (n d : ℕ) → n ≤ d → 0 + n ≤ d + 1
boot-more n d h = omega (arith, h)

pub short-walk : (cluster : Cluster) → AreQuorums cluster.quorums → IsWalk cluster IsShort
short-walk cluster sizes = record {
  first = record {
    begun = start-begun cluster.quorums.centres;
    few = λ b here. subst (λ (z : SimulatedSite). opened_in z.volatile ≤ 256) (sym (replicated cluster.quorums.centres (b - 1))) (omega arith);
    short = let e = start-long cluster.quorums.centres in omega (arith, e, sizes.nine_centres);
  };
  delivered_at = λ t d w n m p. record { begun = p.begun; few = p.few; short = p.short };
  events = λ t d w m p. record { begun = p.begun; few = p.few; short = p.short };
  reads = λ t d w rs p. record { begun = p.begun; few = p.few; short = p.short };
  crash = λ t d w a tail h here p. record { begun = p.begun; few = few-set w a (down tail) (again w h) here (omega arith) p.few; short = p.short };
  stop = λ t d w a s h here p. record { begun = p.begun; few = few-set w a _ (again w h) here (p.few a here) p.few; short = p.short };
  restart = λ t d w a n h here p. record {
    begun = boot-more (number_of is_begin w.ledger) d p.begun;
    few = few-set w a (record booted { tail = tail_after_append (centre_at w a).tail }) (again w h) here (omega arith) p.few;
    short = restart-room t d (length w.ledger) p.short;
  };
  input = λ t d w a input h up fair known p. input-short t d w a input (again w h) (up-again w a h up) fair p;
}
  where
    again : (w : World) → Holds IsSound cluster w → Holds IsSound w.cluster w
    again w h = record { same = refl; sizes = h.sizes; legal = h.legal; placed = h.placed; more = h.more; sent = h.sent; size = h.size; centres = h.centres }

    up-again : (w : World) (a : ℕ) → Holds IsSound cluster w → is_up_at w a ≡ true → IsUp IsSound w.cluster w.ledger a (centre_at w a).volatile
    up-again w a h up = is-up IsSound cluster w a h up

    start-begun : (n : ℕ) → number_of is_begin (booted_to n) ≤ 0
    start-begun zero = omega arith
    start-begun (suc n) = omega (arith, start-begun n)

    start-long : (n : ℕ) → length (booted_to n) ≡ n
    start-long zero = refl
    start-long (suc n) = omega (arith, start-long n)

    restart-room : (t d l : ℕ) → l ≤ most_entries t d → suc l ≤ most_entries t (d + 1)
    restart-room t d l h = let m = mul-le t (2048 + 8 * d) t (2048 + 8 * (d + 1)) (omega arith) (omega arith) in omega (arith, h, m)

    other : (t d : ℕ) (w v : World) (m : ℕ) → m ≤ 1 → IsShort t d w → IsGrown 1 m w v → IsShort (t + 0) (d + 1) v
    other t d w v m one p g = record { begun = omega (arith, g.begun, p.begun, one); few = g.few; short = other-room t d (length w.ledger) (length v.ledger) p.short g.short }

    input-short : (t d : ℕ) (w : World) (a : ℕ) (input : Input) → Holds IsSound w.cluster w → IsUp IsSound w.cluster w.ledger a (centre_at w a).volatile → IsFair w.cluster w.ledger input → IsShort t d w →
        IsShort (t + ticks_in input) (d + others_in input) (input_happened w a (step_at w a input)).world
    input-short t d w a (Input.Message envelope) h up fair p =
        other t d w _ 0 (omega arith) p (input-grown 1 0 w a (step_at w a (Input.Message envelope)) h up.centre p.few (message-taken w.cluster a (facts_of w.ledger a) (centre_at w a).volatile envelope (p.few a up.centre)))
    input-short t d w a (Input.Read key) h up fair p =
        other t d w _ 0 (omega arith) p (input-grown 1 0 w a (step_at w a (Input.Read key)) h up.centre p.few (record { weight = omega arith; begun = omega arith; few = p.few a up.centre }))
    input-short t d w a Input.Sweep h up fair p =
        other t d w _ 0 (omega arith) p (input-grown 1 0 w a (step_at w a Input.Sweep) h up.centre p.few (record { weight = omega arith; begun = omega arith; few = p.few a up.centre }))
    input-short t d w a (Input.Begin parts) h up fair p =
        other t d w _ 1 (omega arith) p (input-grown 1 1 w a (step_at w a (Input.Begin parts)) h up.centre p.few (begin-taken w.cluster a (facts_of w.ledger a) (centre_at w a).volatile parts (p.few a up.centre)))
    input-short t d w a Input.Tick h up fair p =
        let s = tick-small w a up in
        let o = p.few a up.centre in
        let g = input-grown (8 * opened_in (centre_at w a).volatile + 8 * number_of is_begin w.ledger) 0 w a (step_at w a Input.Tick) h up.centre p.few (record { weight = omega (arith, s.weight); begun = omega (arith, s.begun); few = omega (arith, s.few, o) }) in
        record {
          begun = omega (arith, g.begun, p.begun);
          few = g.few;
          short = tick-room t d (opened_in (centre_at w a).volatile) (number_of is_begin w.ledger) (length w.ledger) _ o p.begun p.short g.short;
        }

pub short-reached : (cluster : Cluster) → IsCluster cluster → (events : List Event) → IsReached IsShort 0 (run_of (first_world cluster) events).world
short-reached cluster is events = trace-reached cluster IsShort (short-walk cluster is.quorums) (all-good) is.quorums events

-- ---- the length of the ledger

room-left : (t d n : ℕ) → t + d + 0 ≤ 100000 → n ≤ most_entries t d → n ≤ 2 ^ 64 - 1
room-left t d n few short = let m = mul-le t (2048 + 8 * d) 100000 802048 (omega (arith, few)) (omega (arith, few)) in omega (arith, short, m, few)

pub ledger-short : (cluster : Cluster) → IsCluster cluster → (events : List Event) → length (run_of (first_world cluster) events).world.ledger ≤ 2 ^ 64 - 1
ledger-short cluster is events =
    let r = short-reached cluster is events in room-left r.ticks r.others (length (run_of (first_world cluster) events).world.ledger) (omega (arith, r.within, r.few)) r.is.short

-- there is room for one entry more
one-left : (t d n : ℕ) → t + d + 0 ≤ 100000 → n ≤ most_entries t d → n + 1 ≤ 2 ^ 64 - 1
one-left t d n few short = let m = mul-le t (2048 + 8 * d) 100000 802048 (omega (arith, few)) (omega (arith, few)) in omega (arith, short, m, few)

pub ledger-shorter : (cluster : Cluster) → IsCluster cluster → (events : List Event) → length (run_of (first_world cluster) events).world.ledger + 1 ≤ 2 ^ 64 - 1
ledger-shorter cluster is events =
    let r = short-reached cluster is events in one-left r.ticks r.others (length (run_of (first_world cluster) events).world.ledger) (omega (arith, r.within, r.few)) r.is.short
