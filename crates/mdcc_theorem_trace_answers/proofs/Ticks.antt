-- No claim of a tick is refused in a trace: each raises the rounds by one at most, and there are not so many that they reach the last one.
use Rattle.std.proofs.Common.{Err, List, Ok, Result, [], arith, inl, inr, length, max, refl, subst, sym, true, ℕ, ◌+◌, ◌<◌, ◌^◌, ◌∷◌, ◌≡◌, ◌≤◌}
use Rattle.std.specs.Prelude.{flat_map, fold}
use Rattle.std.proofs.lemmas.Bool.{cases_Bool}
use Rattle.mdcc_base.specs.Counts.{number_of}
use Rattle.mdcc_base.specs.Key.{key_eq}
use Rattle.mdcc_base.specs.declared.identifiers.TxId.{TxId}
use Rattle.mdcc_base.specs.declared.key.Key.{Key}
use Rattle.mdcc_option.specs.declared.choices.Claim.{Claim}
use Rattle.mdcc_option.specs.declared.cluster.Cluster.{Cluster}
use Rattle.mdcc_def_language.specs.declared.events.Event.{Event}
use Rattle.mdcc_def_ledger.specs.Ledger.{facts_of}
use Rattle.mdcc_def_messages.specs.declared.facts.Fact.{Fact}
use Rattle.mdcc_def_protocol.specs.Facts.{epoch_of, promise_of}
use Rattle.mdcc_def_protocol.specs.IsCluster.{IsCluster}
use Rattle.mdcc_def_protocol.specs.Leader.{claim_of_choice, lead, next_round}
use Rattle.mdcc_def_protocol.specs.Manager.{acts_at}
use Rattle.mdcc_def_protocol.specs.Recover.{acts_on, dangling}
use Rattle.mdcc_def_protocol.specs.Manager
use Rattle.mdcc_def_protocol.specs.Recover
use Rattle.mdcc_def_protocol.specs.Volatile.{Leading, Recovering, Undecided, Volatile, number_kept_at, txs_opened, with_leader, with_manager, with_recovery}
use Rattle.mdcc_def_protocol.specs.declared.leader.LeadAnswer.{LeadAnswer}
use Rattle.mdcc_def_protocol.specs.declared.leader.LeadFault.{LeadFault}
use Rattle.mdcc_def_protocol.specs.declared.manager.ManagerAct.{ManagerAct}
use Rattle.mdcc_def_protocol.specs.declared.recover.RecoverAct.{RecoverAct}
use Rattle.mdcc_def_rules.specs.LeaderRules.{lead_entries, lead_sent, led_by_answer, led_of}
use Rattle.mdcc_def_rules.specs.Steps.{StepPart, only_sending, part_and_then}
use Rattle.mdcc_def_rules.specs.TickRules.{claim_led, led_or_left, manager_act, manager_ticked, recovery_act}
use Rattle.mdcc_def_simulation.specs.Runs.{run_of}
use Rattle.mdcc_def_simulation.specs.State.{World, centre_at, first_world, is_up_at}
use Rattle.mdcc_theorem_trace_states.specs.VolatileInvariant.{IsOpened}
use Rattle.mdcc_theorem_trace_states.specs.Sound.{IsSound}
use Rattle.mdcc_theorem_trace_states.specs.Steps.{IsUp}
use Rattle.mdcc_theorem_trace_states.proofs.Events.{is-up}
use Rattle.mdcc_theorem_trace_states.proofs.Lists.{Each-like}
use Rattle.mdcc_theorem_trace.proofs.Laws.{holds}
use Rattle.mdcc_theorem_trace_limits.proofs.Begun.{begun-few, dangling-few, dangling-keys}
use Rattle.mdcc_theorem_trace_limits.proofs.RoundSteps.{AreRoundFacts, IsRoundLeader, IsRoundLed, leader-more, led-round, raised}
use Rattle.mdcc_theorem_trace_limits.proofs.Rounds.{calm-reached, rounds-within}
use Rattle.mdcc_theorem_trace_limits.proofs.Small.{acts-few, flat-few, is_begin, opened_in, recover-few}
use Rattle.mdcc_theorem_trace_answers.specs.Ticks.{AreClaimsLed, AreDanglingLed, AreOpenLed, InTurn, IsDanglingLed, IsLed, IsOpenLed}
use Rattle.mdcc_theorem_trace_answers.proofs.Answers.{lead-fault}
use Rattle.mdcc_def_rules.specs.Here.{here}

-- the rounds of all keys are within a number: in facts, and at a leader
abbrev AreFacts : ℕ → List Fact → Type 0
AreFacts r facts = (key : Key) → AreRoundFacts key r facts

abbrev IsLeader : ℕ → Leading → Type 0
IsLeader r leader = (key : Key) → IsRoundLeader key r leader

module _ (cluster : Cluster) (me : ℕ) (facts : List Fact) where
  -- ---- one claim

  claim-led : (volatile : Volatile) (claim : Claim) (r : ℕ) → r + 1 < 2 ^ 32 → AreFacts r facts → IsLeader r volatile.leader → IsLed cluster me facts volatile claim
  claim-led volatile claim r few f l = by_answer (lead cluster me (epoch_of facts) facts volatile.leader claim) refl
    where
      next : (x y z : ℕ) → x ≤ r → y ≤ r → z ≤ r → 1 + max x (max y z) < 2 ^ 32
      next x y z a b c = omega (arith, a, b, c, few)

      low : next_round facts volatile.leader claim.key claim.version < 2 ^ 32
      low =
          next (promise_of facts claim.key claim.version).round (number_kept_at volatile.leader.refused_rounds claim.key) (number_kept_at volatile.leader.last_rounds claim.key)
          (f claim.key claim.version) (l claim.key).refused (l claim.key).last

      by_answer : (x : Result (LeadAnswer × Leading) LeadFault) → lead cluster me (epoch_of facts) facts volatile.leader claim ≡ x
          → (part : StepPart) × (led_by_answer cluster.quorums me volatile claim x ≡ Ok part)
      by_answer (Ok (answer, leader)) e = (record { after = with_leader volatile leader; entries = lead_entries me volatile.leader claim answer; sends = lead_sent cluster.quorums me claim answer }, refl)
      by_answer (Err fault) e = absurd (lead-fault cluster me (epoch_of facts) facts volatile.leader claim fault low e)

  claim-rounds : (volatile : Volatile) (claim : Claim) (r : ℕ) → AreFacts r facts → IsLeader r volatile.leader → IsLeader (r + 1) (claim_led (here cluster me facts) volatile claim).after.leader
  claim-rounds volatile claim r f l key = by_case (led_of (here cluster me facts) volatile claim) (led-round key r cluster me facts volatile claim (f key) (l key))
    where
      more : raised key claim.key r ≤ r + 1
      more = elim (cases_Bool (key_eq claim.key key)) [ inl e ↦ rw e (omega arith) | inr e ↦ rw e (omega arith) ]

      kept : IsRoundLeader key (r + 1) volatile.leader
      kept = leader-more key r (r + 1) volatile.leader (omega arith) (l key)

      by_case : (x : Result StepPart LeadFault) → IsRoundLed key (raised key claim.key r) x → IsRoundLeader key (r + 1) (led_or_left volatile x).after.leader
      by_case (Ok part) h = leader-more key (raised key claim.key r) (r + 1) part.after.leader more h.0
      by_case (Err fault) h = kept

  -- ---- acts

  -- an act is led, and raises the rounds by one at most
  abbrev IsTaken : {X : Type 0} → (Volatile → X → Type 0) → (Volatile → X → StepPart) → Type 0
  IsTaken {X} P act =
      (volatile : Volatile) (x : X) (r : ℕ) → r + 1 < 2 ^ 32 → AreFacts r facts → IsLeader r volatile.leader → P volatile x × IsLeader (r + 1) (act volatile x).after.leader

  higher : (volatile : Volatile) (r : ℕ) → IsLeader r volatile.leader → IsLeader (r + 1) volatile.leader
  higher volatile r l = λ key. leader-more key r (r + 1) volatile.leader (omega arith) (l key)

  open-taken : IsTaken (IsOpenLed cluster me facts) (manager_act (here cluster me facts))
  open-taken volatile (ManagerAct.LeadHere choice) r few f l = (claim-led volatile (claim_of_choice choice) r few f l, claim-rounds volatile (claim_of_choice choice) r f l)
  open-taken volatile (ManagerAct.Propose choice) r few f l = (tt, higher volatile r l)
  open-taken volatile (ManagerAct.Lead leader choice) r few f l = (tt, higher volatile r l)
  open-taken volatile (ManagerAct.Give centre key) r few f l = (tt, higher volatile r l)
  open-taken volatile (ManagerAct.Decide tx outcome) r few f l = (tt, higher volatile r l)

  dangling-taken : IsTaken (IsDanglingLed cluster me facts) (recovery_act (here cluster me facts))
  dangling-taken volatile (RecoverAct.LeadHere claim) r few f l = (claim-led volatile claim r few f l, claim-rounds volatile claim r f l)
  dangling-taken volatile (RecoverAct.Ask tx key version) r few f l = (tt, higher volatile r l)

  in-turn : {X : Type 0} (P : Volatile → X → Type 0) (act : Volatile → X → StepPart) (xs : List X) (r : ℕ) (before : StepPart) → IsTaken P act → r + length xs < 2 ^ 32
      → AreFacts r facts → IsLeader r before.after.leader → InTurn P act before xs × IsLeader (r + length xs) (fold (part_and_then act) before xs).after.leader
  in-turn P act [] r before one few f l = (tt, λ key. leader-more key r (r + 0) before.after.leader (omega arith) (l key))
  in-turn P act (x ∷ xs) r before one few f l =
      let here = one before.after x r (omega (arith, few)) f l in
      let rest = in-turn P act xs (r + 1) (part_and_then act before x) one (omega (arith, few)) (λ key version. let g = f key version in omega (arith, g)) here.1 in
      ((here.0, rest.0), λ key. leader-more key ((r + 1) + length xs) (r + length (x ∷ xs)) (fold (part_and_then act) (part_and_then act before x) xs).after.leader (omega arith) (rest.1 key))

-- ---- a tick

module _ (w : World) (a : ℕ) (up : IsUp IsSound w.cluster w.ledger a (centre_at w a).volatile) (begun : number_of is_begin w.ledger ≤ 100000)
    (few : opened_in (centre_at w a).volatile ≤ 256) (f : AreFacts 3770100000 (facts_of w.ledger a)) (l : IsLeader 3770100000 (centre_at w a).volatile.leader) where
  abbrev v : Volatile
  v = (centre_at w a).volatile

  abbrev facts : List Fact
  facts = facts_of w.ledger a

  abbrev acts : List ManagerAct
  acts = flat_map (acts_at w.cluster.quorums v.manager.votes) v.manager.opened

  acts-within : length (flat_map (acts_at w.cluster.quorums v.manager.votes) v.manager.opened) ≤ 2048
  acts-within =
      let each = Each-like (IsOpened w.ledger) (λ (t : Undecided). length (acts_at w.cluster.quorums v.manager.votes t) ≤ 8) v.manager.opened (λ t o. eight t o) up.keeps.manager.opened in
      let all = flat-few (acts_at w.cluster.quorums v.manager.votes) 8 v.manager.opened each in
      omega (arith, all, few)
    where
      eight : (t : Undecided) → IsOpened w.ledger t → length (acts_at w.cluster.quorums v.manager.votes t) ≤ 8
      eight t o =
          let n : length t.choices ≤ 8 = subst (λ z. length z ≤ 8) o.choices (begun-few w.cluster w.ledger t.tx up.legal) in
          let m = acts-few w.cluster.quorums v.manager.votes t in
          omega (arith, n, m)

  opened-led : AreOpenLed w.cluster a facts v (Manager.tick w.cluster.quorums v.manager) × IsLeader 3770102048 (manager_ticked (here w.cluster a facts) v).after.leader
  opened-led =
      let start : StepPart = only_sending (with_manager v (Manager.tick w.cluster.quorums v.manager).1) [] in
      let all = in-turn w.cluster a facts (IsOpenLed w.cluster a facts) (manager_act (here w.cluster a facts)) acts 3770100000 start (open-taken w.cluster a facts) (small (length acts) acts-within) f l in
      (all.0, λ key. leader-more key (3770100000 + length acts) 3770102048 (manager_ticked (here w.cluster a facts) v).after.leader (within (length acts) acts-within) (all.1 key))
    where
      small : (n : ℕ) → n ≤ 2048 → 3770100000 + n < 2 ^ 32
      small n h = omega (arith, h)

      within : (n : ℕ) → n ≤ 2048 → 3770100000 + n ≤ 3770102048
      within n h = omega (arith, h)

  dangling-within : (recovery : Recovering) (opened : List TxId) → length (flat_map (acts_on w.cluster.quorums facts recovery) (dangling facts opened)) ≤ 800000
  dangling-within recovery opened =
      let keys = Each-like (λ (e : TxId × List (Key × ℕ)). length e.1 ≤ 8) (λ (e : TxId × List (Key × ℕ)). length (acts_on w.cluster.quorums facts recovery e) ≤ 8) (dangling facts opened)
      (λ e g. let r = recover-few w.cluster.quorums facts recovery e in omega (arith, g, r)) (dangling-keys w.cluster w.ledger a opened up.legal up.more) in
      let all = flat-few (acts_on w.cluster.quorums facts recovery) 8 (dangling facts opened) keys in
      let n = dangling-few w.cluster w.ledger a opened up.legal up.more in
      omega (arith, all, n, begun)

  dangling-led : (first : StepPart) → IsLeader 3770102048 first.after.leader
      → AreDanglingLed w.cluster a facts first (Recover.tick w.cluster.quorums facts first.after.recovery (txs_opened first.after.manager))
  dangling-led first k =
      let recovery : Recovering = (Recover.tick w.cluster.quorums facts first.after.recovery (txs_opened first.after.manager)).1 in
      let all = flat_map (acts_on w.cluster.quorums facts first.after.recovery) (dangling facts (txs_opened first.after.manager)) in
      (in-turn w.cluster a facts (IsDanglingLed w.cluster a facts) (recovery_act (here w.cluster a facts)) all 3770102048 (record first { after = with_recovery first.after recovery }) (dangling-taken w.cluster a facts)
      (small (length all) (dangling-within first.after.recovery (txs_opened first.after.manager))) (λ key version. let g = f key version in omega (arith, g)) k).0
    where
      small : (n : ℕ) → n ≤ 800000 → 3770102048 + n < 2 ^ 32
      small n h = omega (arith, h)

  all-led : AreClaimsLed w.cluster a facts v
  all-led = record { opened = opened-led.0; dangling = λ first e. dangling-led first (subst (λ (z : StepPart). IsLeader 3770102048 z.after.leader) (sym e) opened-led.1) }

-- ---- in a trace

pub none-refused : (cluster : Cluster) → IsCluster cluster → (events : List Event) (a : ℕ) → is_up_at (run_of (first_world cluster) events).world a ≡ true
    → AreClaimsLed (run_of (first_world cluster) events).world.cluster a (facts_of (run_of (first_world cluster) events).world.ledger a) (centre_at (run_of (first_world cluster) events).world a).volatile
none-refused cluster is events a here =
    let u = is-up IsSound cluster w a (holds cluster is events) here in
    let c = calm-reached cluster is events in
    let rounds = rounds-within cluster is events in
    all-led w a u (begins c.ticks c.others _ _ c.within c.few c.is.short.begun) (c.is.short.few a u.centre) (λ key. (rounds key).facts a) (λ key. (rounds key).leaders a u.centre)
  where
    w : World
    w = (run_of (first_world cluster) events).world

    begins : (t d n m : ℕ) → t + d + 0 ≤ n → n ≤ 100000 → m ≤ d → m ≤ 100000
    begins t d n m h g k = omega (arith, h, g, k)
