-- How many entries a group adds beside its facts.
use Rattle.std.proofs.Common.{Bool, Err, List, None, Ok, Option, Result, Some, [], ap, arith, cond, length, refl, subst, suc, sym, true, false, ℕ, ◌*◌, ◌+◌, ◌++◌, ◌-◌, ◌<◌, ◌^◌, ◌∙◌, ◌∷◌, ◌≡◌, ◌≤◌}
use Rattle.std.specs.Option.{option_or}
use Rattle.std.specs.Prelude.{flat_map, fold, nat_le, ⊤}
use Rattle.std.proofs.lemmas.Bool.{leb-false}
use Rattle.std.proofs.lemmas.Nat.{mul-le}
use Rattle.mdcc_base.specs.Counts.{number_of}
use Rattle.mdcc_base.specs.declared.identifiers.TxId.{TxId}
use Rattle.mdcc_base.specs.declared.key.Key.{Key}
use Rattle.mdcc_option.specs.declared.cluster.Cluster.{Cluster}
use Rattle.mdcc_option.specs.declared.faults.BeginFault.{BeginFault}
use Rattle.mdcc_option.specs.declared.items.Part.{Part}
use Rattle.mdcc_struct.specs.Maps.{TxMap}
use Rattle.mdcc_def_ledger.specs.Ledger.{Entry, choices_begun, facts_of}
use Rattle.mdcc_def_messages.specs.declared.facts.Fact.{Fact}
use Rattle.mdcc_def_messages.specs.declared.messages.Envelope.{Envelope}
use Rattle.mdcc_def_protocol.specs.Facts.{epoch_of}
use Rattle.mdcc_def_protocol.specs.Manager
use Rattle.mdcc_def_protocol.specs.Manager.{acts_at, begin_fault, begin_with, parts_begin_fault, ticked_transaction}
use Rattle.mdcc_def_protocol.specs.Recover.{acts_on, counted_tick, dangling}
use Rattle.mdcc_def_protocol.specs.Volatile.{Managing, Recovering, Undecided, Volatile, txs_opened, with_manager, with_recovery}
use Rattle.mdcc_def_rules.specs.Here.{here}
use Rattle.mdcc_def_rules.specs.ManagerRules.{begin_step_by}
use Rattle.mdcc_def_rules.specs.Node.{checked_for_room, message_step, step_of}
use Rattle.mdcc_def_rules.specs.Steps.{NodeStep, StepPart, only_sending}
use Rattle.mdcc_def_rules.specs.TickRules.{manager_act, manager_ticked, recovery_act, recovery_ticked, tick_parts}
use Rattle.mdcc_def_rules.specs.declared.node.Input.{Input}
use Rattle.mdcc_def_rules.specs.declared.node.StepFault.{StepFault}
use Rattle.mdcc_theorem_reports.proofs.Entries.{step-entries}
use Rattle.mdcc_theorem_server_runs.specs.Told.{steps_made}
use Rattle.mdcc_def_server_runs.specs.Runs.{NodeState, after_run, after_step, run_of_inputs}
use Rattle.mdcc_theorem_trace_limits.proofs.Begun.{begun-few, dangling-few, dangling-keys}
use Rattle.mdcc_theorem_trace_limits.proofs.Small.{IsSmallResult, IsTickSmall, acts-few, checked-small, facts_in, flat-few, fold-small, is_begin, length-both, manager-act-small, map-length, opened_in, recover-few, recovery-act-small, ticked-small}
use Rattle.mdcc_theorem_trace_states.specs.Sound.{IsSound}
use Rattle.mdcc_theorem_trace_states.specs.Steps.{AreGood, IsUp}
use Rattle.mdcc_theorem_trace_states.specs.VolatileInvariant.{IsOpened}
use Rattle.mdcc_theorem_trace_states.specs.Words.{Each}
use Rattle.mdcc_theorem_trace_states.proofs.Lists.{Each-like}
use Rattle.mdcc_theorem_clusters.proofs.Counting.{begun-both, begun-number, begun_by, plain-both, plain-long, plain_by}
use Rattle.mdcc_theorem_commit_groups.proofs.Durable.{taken}
use Rattle.mdcc_theorem_commit_groups.proofs.Lasts.{all-fair}
use Rattle.mdcc_theorem_commit_groups.specs.Groups.{IsGroup, entries_by, entries_made, entries_made_by, node_at}
use Rattle.mdcc_theorem_clusters.specs.Limits.{most_of_step}

-- ---- what a step takes

-- so many entries come, so many of them begin a transaction, and at most 256 are open then
record IsLight (n m : ℕ) (step : NodeStep) : Type 0 where
  weight : length step.entries + facts_in step.fact ≤ n
  begun : number_of is_begin step.entries ≤ m
  few : opened_in step.after ≤ 256

abbrev IsLightResult : ℕ → ℕ → Result NodeStep StepFault → Type 0
IsLightResult n m (Ok step) = IsLight n m step
IsLightResult n m (Err fault) = ⊤

small-light : (volatile : Volatile) (r : Result NodeStep StepFault) → opened_in volatile ≤ 256 → IsSmallResult volatile r → IsLightResult 1 1 r
small-light volatile (Ok step) few h = record { weight = h.weight; begun = omega (arith, h.begun); few = omega (arith, h.opened, few) }
small-light volatile (Err fault) few h = tt

message-light : (cluster : Cluster) (me : ℕ) (facts : List Fact) (volatile : Volatile) (envelope : Envelope) → opened_in volatile ≤ 256 → IsLightResult 1 1 (step_of (here cluster me facts) volatile (Input.Message envelope))
message-light cluster me facts volatile envelope few = pick _
  where
    pick : (b : Bool) → IsLightResult 1 1 (cond b (checked_for_room cluster facts (message_step (here cluster me facts) volatile envelope.from envelope.message)) (Err StepFault.Foreign))
    pick true = small-light volatile (checked_for_room cluster facts (message_step (here cluster me facts) volatile envelope.from envelope.message)) few (checked-small cluster me facts volatile envelope.from envelope.message)
    pick false = tt

one-more : (ts : List Undecided) (t : Undecided) → length ts < 256 → length (ts ++ t ∷ []) ≤ 256
one-more ts t h = let l = length-both ts (t ∷ []) in omega (arith, h, l)

begin-light : (cluster : Cluster) (me : ℕ) (facts : List Fact) (volatile : Volatile) (parts : List Part) → opened_in volatile ≤ 256 → IsLight 1 1 (begin_step_by (here cluster me facts) volatile parts (begin_with me (epoch_of facts) volatile.manager parts (begin_fault facts volatile.manager parts)))
begin-light cluster me facts volatile parts few = by_parts (parts_begin_fault facts parts) (nat_le (2 ^ 32 - 1) volatile.manager.seq) (nat_le 256 (length volatile.manager.opened)) refl
  where
    refused : (fault : Key × BeginFault) → IsLight 1 1 (begin_step_by (here cluster me facts) volatile parts (begin_with me (epoch_of facts) volatile.manager parts (Some fault)))
    refused fault = record { weight = omega arith; begun = omega arith; few = few }

    by_parts : (o : Option (Key × BeginFault)) (x y : Bool) → nat_le 256 (length volatile.manager.opened) ≡ y →
        IsLight 1 1 (begin_step_by (here cluster me facts) volatile parts (begin_with me (epoch_of facts) volatile.manager parts (option_or o (cond x (Some (Manager.first_key parts, BeginFault.Sequence)) (cond y (Some (Manager.first_key parts, BeginFault.Busy)) None)))))
    by_parts (Some fault) x y e = refused fault
    by_parts None true y e = refused (Manager.first_key parts, BeginFault.Sequence)
    by_parts None false true e = refused (Manager.first_key parts, BeginFault.Busy)
    by_parts None false false e =
        let n = leb-false 256 (length volatile.manager.opened) e in
        record { weight = omega arith; begun = omega arith; few = one-more volatile.manager.opened _ n }

-- ---- ticks

module _ (cluster : Cluster) (es : List Entry) (a : ℕ) (v : Volatile) (up : IsUp IsSound cluster es a v) where
  abbrev facts : List Fact
  facts = facts_of es a

  tick-choices : Each (λ (t : Undecided). length (acts_at cluster.quorums v.manager.votes t) ≤ 8) v.manager.opened
  tick-choices =
      Each-like (IsOpened es) (λ (t : Undecided). length (acts_at cluster.quorums v.manager.votes t) ≤ 8) v.manager.opened
      (λ t o. few t o (begun-few cluster es t.tx up.legal) (acts-few cluster.quorums v.manager.votes t)) up.keeps.manager.opened
    where
      few : (t : Undecided) (o : IsOpened es t) → length (choices_begun es t.tx) ≤ 8 → length (acts_at cluster.quorums v.manager.votes t) ≤ length t.choices → length (acts_at cluster.quorums v.manager.votes t) ≤ 8
      few t o x y = let e : length (choices_begun es t.tx) ≡ length t.choices = ap (λ z. length z) o.choices in omega (arith, x, y, e)

  tick-first : IsTickSmall (8 * opened_in v) (opened_in v) (manager_ticked (here cluster a facts) v)
  tick-first =
      let acts = flat-few (acts_at cluster.quorums v.manager.votes) 8 v.manager.opened tick-choices in
      let after : Managing = (Manager.tick cluster.quorums v.manager).1 in
      let same : opened_in (with_manager v after) ≡ opened_in v = map-length (ticked_transaction cluster.quorums v.manager.votes) v.manager.opened in
      let all = fold-small (manager_act (here cluster a facts)) (flat_map (acts_at cluster.quorums v.manager.votes) v.manager.opened) 0 (opened_in v) (only_sending (with_manager v after) [])
      (λ u x h. manager-act-small cluster a facts (opened_in v) u x h) (ticked-small (with_manager v after) [] 0 (opened_in v) (omega (arith, same))) in
      record { weight = omega (arith, all.weight, acts); begun = all.begun; few = all.few }

  tick-second : (n : ℕ) (p : StepPart) → IsTickSmall n (opened_in v) p → IsTickSmall (n + 8 * number_of is_begin es) (opened_in v) (recovery_ticked (here cluster a facts) p)
  tick-second n p h =
      let txs : TxMap (List (Key × ℕ)) = dangling facts (txs_opened p.after.manager) in
      let recovery : Recovering = p.after.recovery in
      let keys = Each-like (λ (e : TxId × List (Key × ℕ)). length e.1 ≤ 8) (λ (e : TxId × List (Key × ℕ)). length (acts_on cluster.quorums facts recovery e) ≤ 8) (dangling facts (txs_opened p.after.manager))
      (λ e g. let r = recover-few cluster.quorums facts recovery e in omega (arith, g, r)) (dangling-keys cluster es a (txs_opened p.after.manager) up.legal up.more) in
      let acts = flat-few (acts_on cluster.quorums facts recovery) 8 (dangling facts (txs_opened p.after.manager)) keys in
      let few = dangling-few cluster es a (txs_opened p.after.manager) up.legal up.more in
      let all = fold-small (recovery_act (here cluster a facts)) (flat_map (acts_on cluster.quorums facts recovery) (dangling facts (txs_opened p.after.manager))) n (opened_in v)
      (record p { after = with_recovery p.after (record recovery { counters = fold counted_tick recovery.counters txs }) })
      (λ u x k. recovery-act-small cluster a facts (opened_in v) u x k) (record { weight = h.weight; begun = h.begun; few = h.few }) in
      record { weight = omega (arith, all.weight, acts, few); begun = all.begun; few = all.few }

  tick-small : IsTickSmall (8 * opened_in v + 8 * number_of is_begin es) (opened_in v) (tick_parts (here cluster a facts) v)
  tick-small = tick-second (8 * opened_in v) (manager_ticked (here cluster a facts) v) tick-first

  -- ---- each input

  light-more : (r : Result NodeStep StepFault) → IsLightResult 1 1 r → IsLightResult (most_of_step (number_of is_begin es)) 1 r
  light-more (Ok step) h = let w = h.weight in record { weight = omega (arith, w); begun = h.begun; few = h.few }
  light-more (Err fault) h = tt

  input-light : (input : Input) → opened_in v ≤ 256 → IsLightResult (most_of_step (number_of is_begin es)) 1 (step_of (here cluster a facts) v input)
  input-light (Input.Message envelope) few = light-more (step_of (here cluster a facts) v (Input.Message envelope)) (message-light cluster a facts v envelope few)
  input-light (Input.Read key) few = record { weight = omega arith; begun = omega arith; few = few }
  input-light Input.Sweep few = record { weight = omega arith; begun = omega arith; few = few }
  input-light (Input.Begin parts) few = light-more (step_of (here cluster a facts) v (Input.Begin parts)) (begin-light cluster a facts v parts few)
  input-light Input.Tick few =
      let s = tick-small in
      let w = s.weight in
      let b = s.begun in
      let f = s.few in
      record { weight = omega (arith, w, few); begun = omega (arith, b); few = omega (arith, f, few) }

-- ---- a group

-- it adds as few entries beside its facts
pub record IsFew (es : List Entry) (a : ℕ) (made : List (Result NodeStep StepFault)) (volatile : Volatile) : Type 0 where
  pub begun : length (begun_by (entries_made a made)) ≤ length (steps_made made)
  pub plain : length (plain_by (entries_made a made)) ≤ length (steps_made made) * most_of_step (length (begun_by es) + length (steps_made made))
  pub opened : opened_in volatile ≤ 256

by-fact : (a n m : ℕ) (step : NodeStep) (o : Option Fact) → length step.entries + facts_in step.fact ≤ n → number_of is_begin step.entries ≤ m
    → (length (plain_by (entries_by a step o)) ≤ n) × (length (begun_by (entries_by a step o)) ≤ m)
by-fact a n m step None w b =
    let p = plain-long step.entries in
    let e = begun-number step.entries in
    (omega (arith, p, w), omega (arith, e, b))
by-fact a n m step (Some fact) w b = (omega arith, omega arith)

few-sum : (w v kw kv sv one rest all : ℕ) → one ≤ w → w ≤ v → rest ≤ kw → kw ≤ kv → sv ≡ v + kv → all ≡ rest + one → all ≤ sv
few-sum w v kw kv sv one rest all a b c d e f = omega (arith, a, b, c, d, e, f)

few-plain : (k n s rest one all : ℕ) → one ≤ most_of_step n → s ≤ suc n → rest ≤ k * most_of_step (s + k) → all ≡ rest + one → all ≤ suc k * most_of_step (n + suc k)
few-plain k n s rest one all first more others e =
    few-sum (most_of_step n) (most_of_step (n + suc k)) (k * most_of_step (s + k)) (k * most_of_step (n + suc k)) (suc k * most_of_step (n + suc k)) one rest all first (omega arith) others
    (mul-le k (most_of_step (s + k)) k (most_of_step (n + suc k)) (omega arith) (omega (arith, more))) (one-times k (most_of_step (n + suc k))) e
  where
    one-times : (k w : ℕ) → suc k * w ≡ w + k * w
    one-times k w = grind arith

few-begun : (x y z s : ℕ) → x ≡ y + z → y ≤ s → z ≤ 1 → x ≤ suc s
few-begun x y z s e h k = omega (arith, e, h, k)

few-joined : (es : List Entry) (a : ℕ) (r : Result NodeStep StepFault) (made : List (Result NodeStep StepFault)) (volatile : Volatile) → IsLightResult (most_of_step (number_of is_begin es)) 1 r
    → IsFew (entries_made_by a r ++ es) a made volatile → IsFew es a (r ∷ made) volatile
few-joined es a (Err fault) made volatile light h = record {
  begun = subst (λ (xs : List Entry). length (begun_by xs) ≤ length (steps_made made)) (nothing (entries_made a made)) h.begun;
  plain = subst (λ (xs : List Entry). length (plain_by xs) ≤ length (steps_made made) * most_of_step (length (begun_by es) + length (steps_made made))) (nothing (entries_made a made)) h.plain;
  opened = h.opened;
}
  where
    nothing : (xs : List Entry) → xs ≡ xs ++ []
    nothing [] = refl
    nothing (x ∷ xs) = ap (λ (ys : List Entry). x ∷ ys) (nothing xs)
few-joined es a (Ok step) made volatile light h =
    let one = by-fact a (most_of_step (number_of is_begin es)) 1 step step.fact light.weight light.begun in
    let now : List Entry = entries_by a step step.fact in
    let later : List Entry = entries_made a made in
    let n = begun-number es in
    let bs = ap (λ (ks : List ℕ). length ks) (begun-both later now) ∙ length-both (begun_by later) (begun_by now) in
    let ps = ap (λ (ks : List ℕ). length ks) (plain-both later now) ∙ length-both (plain_by later) (plain_by now) in
    let ss = ap (λ (ks : List ℕ). length ks) (begun-both now es) ∙ length-both (begun_by now) (begun_by es) in
    let b = one.1 in
    let p = one.0 in
    record {
      begun = few-begun (length (begun_by (later ++ now))) (length (begun_by later)) (length (begun_by now)) (length (steps_made made)) bs h.begun b;
      plain = few-plain (length (steps_made made)) (length (begun_by es)) (length (begun_by (now ++ es))) (length (plain_by later)) (length (plain_by now)) (length (plain_by (later ++ now)))
          (subst (λ (z : ℕ). length (plain_by now) ≤ most_of_step z) n p) (omega (arith, ss, b)) h.plain ps;
      opened = h.opened;
    }

pub group-few : AreGood IsSound → (cluster : Cluster) (es : List Entry) (a : ℕ) (volatile : Volatile) (inputs : List Input) → IsGroup IsSound cluster es a volatile inputs → opened_in volatile ≤ 256
    → IsFew es a (run_of_inputs cluster a (node_at es a volatile) inputs) (after_run cluster a (node_at es a volatile) inputs).volatile
group-few good cluster es a volatile [] g few = record { begun = omega arith; plain = omega arith; opened = few }
group-few good cluster es a volatile (input ∷ inputs) g few =
    let r : Result NodeStep StepFault = step_of (here cluster a (facts_of es a)) volatile input in
    let node : NodeState = after_step (node_at es a volatile) r in
    let light = input-light cluster es a volatile g.up input few in
    let t = taken IsSound cluster es a volatile r g.up (good.step cluster es a volatile input g.up g.fair.0) (step-entries cluster a (facts_of es a) volatile input) in
    let next = group-few good cluster (entries_made_by a r ++ es) a node.volatile inputs (record { up = t.up; fair = all-fair cluster (entries_made_by a r) es inputs g.fair.1 }) (still node r refl light) in
    let same : node_at (entries_made_by a r ++ es) a node.volatile ≡ node = ap (λ (fs : List Fact). record { facts = fs; volatile = node.volatile }) t.facts_are in
    few-joined es a r (run_of_inputs cluster a node inputs) (after_run cluster a node inputs).volatile light
    (subst (λ (n : NodeState). IsFew (entries_made_by a r ++ es) a (run_of_inputs cluster a n inputs) (after_run cluster a n inputs).volatile) same next)
  where
    still : (node : NodeState) (r : Result NodeStep StepFault) → node ≡ after_step (node_at es a volatile) r → IsLightResult (most_of_step (number_of is_begin es)) 1 r → opened_in node.volatile ≤ 256
    still node (Ok step) e light = subst (λ (n : NodeState). opened_in n.volatile ≤ 256) (sym e) light.few
    still node (Err fault) e light = subst (λ (n : NodeState). opened_in n.volatile ≤ 256) (sym e) few
