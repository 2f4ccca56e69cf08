-- A fact that a step adds is allowed after the node's facts.
use Rattle.std.specs.List.{AllByRecursion}
use Rattle.std.specs.Prelude.{IsTrue, List, Ok, Some, nat_lt, ℕ, ◌∷◌, ◌≡◌}
use Rattle.mdcc_option.specs.declared.cluster.Cluster.{Cluster}
use Rattle.mdcc_def_ledger.specs.BootTest.{are_allowed_facts, is_allowed_fact}
use Rattle.mdcc_def_protocol.specs.Belongs.{mark_belongs}
use Rattle.mdcc_def_protocol.specs.Facts.{epoch_of}
use Rattle.mdcc_def_rules.specs.Node.{step_of}
use Rattle.mdcc_def_rules.specs.Steps.{NodeStep}
use Rattle.mdcc_def_protocol.specs.Volatile.{Volatile, initial_volatile}
use Rattle.mdcc_def_messages.specs.declared.facts.Fact.{Fact}
use Rattle.mdcc_def_rules.specs.declared.node.Input.{Input}
use Rattle.mdcc_def_protocol.specs.declared.votes.Vote.{Vote}
use Rattle.mdcc_theorem_node_steps.specs.Inputs.{IsWellFormedInput}
use Rattle.mdcc_def_rules.specs.Here.{here}

-- the vote's mark is of the cluster
abbrev pub IsVoteOf : Cluster → Vote → Type 0
IsVoteOf cluster vote = IsTrue (mark_belongs cluster vote.mark)

-- what holds of a node's volatile state at every moment: the votes that are counted are of the cluster
pub record AreVotesOf (cluster : Cluster) (volatile : Volatile) : Type 0 where
  pub manager : AllByRecursion (IsVoteOf cluster) volatile.manager.votes
  pub recovery : AllByRecursion (IsVoteOf cluster) volatile.recovery.votes

-- the node was booted
abbrev pub IsBooted : List Fact → Type 0
IsBooted facts = IsTrue (nat_lt 0 (epoch_of facts))

-- what a step of a booted node adds is allowed after its facts, where those were allowed in turn
abbrev pub AddedFactIsAllowed : Type 0
AddedFactIsAllowed =
    (cluster : Cluster) (me : ℕ) (facts : List Fact) (volatile : Volatile) (input : Input) (step : NodeStep) (fact : Fact)
    → IsTrue (are_allowed_facts cluster facts)
    → IsBooted facts → AreVotesOf cluster volatile → IsWellFormedInput input
    → step_of (here cluster me facts) volatile input ≡ Ok step → step.fact ≡ Some fact
    → IsTrue (is_allowed_fact cluster facts fact)

-- so facts that are allowed in turn stay so
abbrev pub FactsStayAllowed : Type 0
FactsStayAllowed =
    (cluster : Cluster) (me : ℕ) (facts : List Fact) (volatile : Volatile) (input : Input) (step : NodeStep) (fact : Fact)
    → IsTrue (are_allowed_facts cluster facts)
    → IsBooted facts → AreVotesOf cluster volatile → IsWellFormedInput input
    → step_of (here cluster me facts) volatile input ≡ Ok step → step.fact ≡ Some fact
    → IsTrue (are_allowed_facts cluster (fact ∷ facts))

-- and the node stays booted
abbrev pub NodeStaysBooted : Type 0
NodeStaysBooted =
    (cluster : Cluster) (me : ℕ) (facts : List Fact) (volatile : Volatile) (input : Input) (step : NodeStep) (fact : Fact)
    → IsTrue (are_allowed_facts cluster facts)
    → IsBooted facts → AreVotesOf cluster volatile → IsWellFormedInput input
    → step_of (here cluster me facts) volatile input ≡ Ok step → step.fact ≡ Some fact
    → IsBooted (fact ∷ facts)

-- no vote is counted after a boot
abbrev pub NoVotesAtBoot : Type 0
NoVotesAtBoot = (cluster : Cluster) → AreVotesOf cluster initial_volatile

-- the counted votes stay of the cluster
abbrev pub VotesStayOf : Type 0
VotesStayOf =
    (cluster : Cluster) (me : ℕ) (facts : List Fact) (volatile : Volatile) (input : Input) (step : NodeStep)
    → AreVotesOf cluster volatile
    → step_of (here cluster me facts) volatile input ≡ Ok step
    → AreVotesOf cluster step.after
