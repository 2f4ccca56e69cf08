use Rattle.std.proofs.Common.{◌≡◌, ◌+◌, ◌-◌, ◌≤◌, ◌∷◌, ◌++◌, [], ℕ, arith, subst}
use Rattle.std.proofs.lemmas.Bool.{false≢true}
use Rattle.mdcc_world_logs.proofs.Nodes.{one-started}
use Rattle.mdcc_world_logs.proofs.booting.boot_all.Goals as goal
use Rattle.mdcc_world_logs.proofs.booting.boot_all.Goals.{in-Some+in_ok-node+in_ok-push, in_default}
use Rattle.mdcc_world_logs.specs.Nodes.{AreStarted}
use Rattle.mdcc_node_log.specs.Nodes.{IsNodeOf}
use Rattle.mdcc_world_logs.specs.Starting.{AreBegun}
use Rattle.mdcc_def_protocol.specs.Volatile.{initial_volatile}
use Rattle.mdcc_def_messages.specs.declared.facts.Fact.{Fact}

pub loop-number-preserved : goal.loop-number-preserved
loop-number-preserved c = elim c.match-new.branch [
  | in-Some+in_ok-node+in_ok-push w ↦
      let n = c.loop-number.number in
      let cluster = c.args.cluster.now in
      let some : 1 ≤ n = omega arith in
      let next : n ≡ n + 1 - 1 = omega arith in
      let same : w.in-Some.centre ≡ n = w.in-Some.ensures.value in
      let node : IsNodeOf w.in_ok-node.node cluster n (Fact.Booted 1 ∷ []) initial_volatile =
      subst (λ (a : ℕ). IsNodeOf w.in_ok-node.node cluster a (Fact.Booted 1 ∷ []) initial_volatile) same w.in_ok-node.ensures.node in
      let one = one-started c.loop-number.nodes.items cluster (n - 1) n w.in_ok-node.node c.loop-number.invariant.started (omega (some, arith)) node in
      record {
        started = rw (w.nodes-is, w.in_ok-push.ensures.items) (subst (λ (k : ℕ). AreStarted (c.loop-number.nodes.items ++ w.in_ok-node.node ∷ []) cluster k) next one);
        begun = rw (w.logs-is) (subst (λ (k : ℕ). AreBegun w.boot.new.logs cluster.quorums.centres k) next (subst (λ (k : ℕ). AreBegun w.boot.new.logs cluster.quorums.centres k) same w.in_ok-node.ensures.begun));
      }
  | in_default w ↦ let h = w.in_default.ensures.valid in absurd (false≢true (h.1 (omega arith, omega arith)))
]

pub returns-clause-logs : goal.returns-clause-logs
returns-clause-logs c =
    let centres = c.args.cluster.now.quorums.centres in
    let all : c.loop-number.number - 1 ≡ centres = omega (c.loop-number-test.false, c.loop-number.auto.number-end (omega arith), c.centres-number-end.ensures.value, arith) in
    (subst (λ (k : ℕ). AreBegun c.loop-number.logs centres k) all c.loop-number.invariant.begun).stand

pub returns-clause-tails : goal.returns-clause-tails
returns-clause-tails c =
    let centres = c.args.cluster.now.quorums.centres in
    let all : c.loop-number.number - 1 ≡ centres = omega (c.loop-number-test.false, c.loop-number.auto.number-end (omega arith), c.centres-number-end.ensures.value, arith) in
    (subst (λ (k : ℕ). AreBegun c.loop-number.logs centres k) all c.loop-number.invariant.begun).tails
