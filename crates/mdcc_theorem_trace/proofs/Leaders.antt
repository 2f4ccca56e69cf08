-- The first half of a tick is good with classic ballots.
use Rattle.std.proofs.Common.{Bool, Err, List, Ok, Result, Some, [], cond, false, not, refl, subst, true, ℕ, ◌++◌, ◌≡◌}
use Rattle.std.specs.Prelude.{flat_map, map, ⊤}
use Rattle.mdcc_base.specs.Quorums.{all_centres}
use Rattle.mdcc_option.specs.declared.choices.Choice.{Choice}
use Rattle.mdcc_option.specs.declared.choices.Claim.{Claim}
use Rattle.mdcc_option.specs.declared.cluster.Cluster.{Cluster}
use Rattle.mdcc_def_messages.specs.declared.facts.Fact.{Fact}
use Rattle.mdcc_def_ledger.specs.Ledger.{Entry, choices_begun, facts_of}
use Rattle.mdcc_def_ledger.specs.AllowedLedgers.{IsAllowed}
use Rattle.mdcc_def_ledger.specs.AllowedStructures.{is_begun}
use Rattle.mdcc_def_protocol.specs.Learner.{is_learned}
use Rattle.mdcc_def_rules.specs.LeaderRules.{led_of}
use Rattle.mdcc_def_protocol.specs.Leader.{claim_of_choice}
use Rattle.mdcc_def_messages.specs.declared.messages.Message.{Message}
use Rattle.mdcc_def_rules.specs.Messages.{to_all}
use Rattle.mdcc_def_rules.specs.TickRules.{claim_led, led_or_left, manager_act, manager_ticked}
use Rattle.mdcc_def_rules.specs.Steps.{StepPart, only_sending}
use Rattle.mdcc_def_protocol.specs.Volatile.{Managing, Undecided, Volatile, next_count, with_manager}
use Rattle.mdcc_theorem_trace_states.specs.Words.{Each, In}
use Rattle.mdcc_theorem_trace_states.specs.VolatileInvariant.{IsClaim, IsOpened, IsOwn, Keeps}
use Rattle.mdcc_theorem_trace_states.proofs.Lists.{Each-at, Each-from, Each-map, In-filter, IsTail-more, IsTail-same}
use Rattle.mdcc_theorem_trace_states.proofs.Ledgers.{any-In, is_begun-tail}
use Rattle.mdcc_theorem_trace_rules.proofs.Begins.{Each-flat_map, stands-each}
use Rattle.mdcc_theorem_trace_rules.proofs.Rules.{begun-choice, each-map-same}
use Rattle.mdcc_theorem_trace.proofs.Structuring.{GoodLed, IsWell}
use Rattle.mdcc_theorem_trace.proofs.Claiming.{led-good}
use Rattle.mdcc_theorem_trace_rules.proofs.Ticks.{IsGoodPart, fold-good, sent-part}
use Rattle.mdcc_def_protocol.specs.declared.manager.ManagerAct.{ManagerAct}
use Rattle.mdcc_def_protocol.specs.declared.leader.LeadFault.{LeadFault}
use Rattle.mdcc_def_protocol.specs.Manager.{act_at, acts_at, choices_unlearned, is_odd, ticked_transaction}
use Rattle.mdcc_theorem_trace_states.specs.Steps.{IsUp}
use Rattle.mdcc_def_rules.specs.Here.{here}

-- a begun choice makes a claim
pub choice-claim : (es : List Entry) (c : Choice) → is_begun es c ≡ true → IsClaim es c.key c.version (c.tx, Some c)
choice-claim es c h =
    let i : In c (choices_begun es c.tx) = any-In c (choices_begun es c.tx) h in
    record {
      placed = record { choice = c; begun = i; key_is = refl; version_is = refl };
      own = λ d g. let s : c ≡ d = cc in subst (λ z. IsOwn es c.key c.version c.tx z) s (record { begun = i; key_is = refl; version_is = refl });
    }

-- a claim that is led here
pub claim-part : (also : List Entry → Type 0) (well : IsWell also) (cluster : Cluster) (es : List Entry) (a : ℕ) (facts : List Fact) (v : Volatile) (claim : Claim) → IsUp also cluster es a v → facts_of es a ≡ facts → IsClaim es claim.key claim.version (claim.tx, claim.choice) →
    IsGoodPart also cluster es a (claim_led (here cluster a facts) v claim)
claim-part also well cluster es a facts v claim up same said =
    subst (λ z. IsGoodPart also cluster es a (claim_led (here cluster a z) v claim)) same (part (led_of (here cluster a (facts_of es a)) v claim) (led-good also well cluster es a v up claim said))
  where
    part : (r : Result StepPart LeadFault) → GoodLed also well cluster es a v up r → IsGoodPart also cluster es a (led_or_left v r)
    part (Ok step) g = record { good = g.0; still = g.1 }
    part (Err fault) g = sent-part also cluster es a v v [] up up.keeps tt

-- what a manager does at a tick is on a begun choice
abbrev pub IsManagerAct : List Entry → ManagerAct → Type 0
IsManagerAct es (ManagerAct.Propose choice) = is_begun es choice ≡ true
IsManagerAct es (ManagerAct.LeadHere choice) = is_begun es choice ≡ true
IsManagerAct es _ = ⊤

act-more : (cluster : Cluster) (new es : List Entry) (act : ManagerAct) → IsAllowed cluster (new ++ es) → IsManagerAct es act → IsManagerAct (new ++ es) act
act-more cluster new es (ManagerAct.Propose c) legal h = is_begun-tail cluster es (new ++ es) c legal (IsTail-more new es es (IsTail-same es)) h
act-more cluster new es (ManagerAct.LeadHere c) legal h = is_begun-tail cluster es (new ++ es) c legal (IsTail-more new es es (IsTail-same es)) h
act-more cluster new es (ManagerAct.Decide t o) legal h = tt
act-more cluster new es (ManagerAct.Lead l c) legal h = tt
act-more cluster new es (ManagerAct.Give b k) legal h = tt

act-part : (also : List Entry → Type 0) (well : IsWell also) (cluster : Cluster) (es : List Entry) (a : ℕ) (facts : List Fact) (v : Volatile) (act : ManagerAct) → IsUp also cluster es a v → facts_of es a ≡ facts → IsManagerAct es act →
    IsGoodPart also cluster es a (manager_act (here cluster a facts) v act)
act-part also well cluster es a facts v (ManagerAct.Propose c) up same begun =
    sent-part also cluster es a v v (to_all cluster.quorums a (Message.Propose c)) up up.keeps (stands-each cluster es a (Message.Propose c) (all_centres cluster.quorums) up.centre begun)
act-part also well cluster es a facts v (ManagerAct.LeadHere c) up same begun = claim-part also well cluster es a facts v (claim_of_choice c) up same (choice-claim es c begun)
act-part also well cluster es a facts v (ManagerAct.Decide t o) up same begun = sent-part also cluster es a v v [] up up.keeps tt
act-part also well cluster es a facts v (ManagerAct.Lead l c) up same begun = sent-part also cluster es a v v [] up up.keeps tt
act-part also well cluster es a facts v (ManagerAct.Give b k) up same begun = sent-part also cluster es a v v [] up up.keeps tt

act-begun : (es : List Entry) (n : ℕ) (c : Choice) → is_begun es c ≡ true → IsManagerAct es (act_at n c)
act-begun es n c h = by_parity (is_odd n)
  where
    by_parity : (b : Bool) → IsManagerAct es (cond b (ManagerAct.Propose c) (ManagerAct.LeadHere c))
    by_parity true = h
    by_parity false = h

acts-begun : (also : List Entry → Type 0) (well : IsWell also) (cluster : Cluster) (es : List Entry) (a : ℕ) (v : Volatile) → IsUp also cluster es a v → (t : Undecided) → IsOpened es t → Each (IsManagerAct es) (acts_at cluster.quorums v.manager.votes t)
acts-begun also well cluster es a v up t h =
    Each-map (IsManagerAct es) (act_at (next_count t.ticks)) (choices_unlearned cluster.quorums v.manager.votes t)
    (Each-from (λ (c : Choice). IsManagerAct es (act_at (next_count t.ticks) c)) (choices_unlearned cluster.quorums v.manager.votes t)
    (λ c i. act-begun es (next_count t.ticks) c (begun-choice also well.shut cluster es a v up t c h (In-filter (λ (c : Choice). not (is_learned cluster.quorums v.manager.votes t.tx c.key)) t.choices c i).0)))

-- the first half of a tick
pub manager-part : (also : List Entry → Type 0) (well : IsWell also) (cluster : Cluster) (es : List Entry) (a : ℕ) (v : Volatile) → IsUp also cluster es a v → IsGoodPart also cluster es a (manager_ticked (here cluster a (facts_of es a)) v)
manager-part also well cluster es a v up =
    fold-good also cluster es es a (manager_act (here cluster a (facts_of es a))) (flat_map (acts_at cluster.quorums v.manager.votes) v.manager.opened) (only_sending (with_manager v after) []) v up
    (sent-part also cluster es a v (with_manager v after) [] up keeps tt) (IsTail-same es)
    (λ act i new w u s tail. act-part also well cluster (new ++ es) a (facts_of es a) w act u s
    (act-more cluster new es act u.legal (Each-at (IsManagerAct es) (flat_map (acts_at cluster.quorums v.manager.votes) v.manager.opened) act begun i)))
  where
    after : Managing
    after = record v.manager { opened = map (ticked_transaction cluster.quorums v.manager.votes) v.manager.opened }

    keeps : Keeps cluster es a (with_manager v after)
    keeps = record {
      manager = record {
        seq = up.keeps.manager.seq;
        opened = each-map-same (IsOpened es) (ticked_transaction cluster.quorums v.manager.votes) v.manager.opened (λ t g. record { choices = g.choices; some_choice = g.some_choice }) up.keeps.manager.opened;
        votes = up.keeps.manager.votes;
      };
      recovery = up.keeps.recovery;
      told = up.keeps.told;
      leader = up.keeps.leader;
    }

    begun : Each (IsManagerAct es) (flat_map (acts_at cluster.quorums v.manager.votes) v.manager.opened)
    begun = Each-flat_map (IsManagerAct es) (acts_at cluster.quorums v.manager.votes) v.manager.opened (λ t i. acts-begun also well cluster es a v up t (Each-at (IsOpened es) v.manager.opened t up.keeps.manager.opened i))
