-- What a node keeps, where all of it is well-formed.
use Rattle.std.specs.List.{AllByRecursion}
use Rattle.std.specs.Prelude.{IsTrue, List, None, Option, Some, false, ℕ, ◌^◌, ◌<◌, ◌≡◌, ◌≤◌}
use Rattle.mdcc_base.specs.declared.identifiers.TxId.{TxId}
use Rattle.mdcc_base.specs.declared.key.Key.{Key}
use Rattle.mdcc_option.specs.declared.choices.Choice.{Choice}
use Rattle.mdcc_option.specs.declared.cluster.Cluster.{Cluster}
use Rattle.mdcc_struct.specs.declared.options.Options.{Options}
use Rattle.mdcc_def_ledger.specs.BootTest.{are_allowed_facts}
use Rattle.mdcc_def_protocol.specs.Structures.{is_crowded}
use Rattle.mdcc_def_protocol.specs.Volatile.{CountedPromise, Lead, Undecided, Volatile}
use Rattle.mdcc_def_messages.specs.WellFormed.{IsWellFormedFact, IsWellFormedVoted}
use Rattle.mdcc_def_messages.specs.WellFormedParts.{IsWellFormedBallot, IsWellFormedClassic, IsWellFormedCommit, IsWellFormedInstance, IsWellFormedOptions, IsWellFormedTx, IsWellFormedWithin}
use Rattle.mdcc_def_messages.specs.declared.facts.Fact.{Fact}
use Rattle.mdcc_def_protocol.specs.declared.votes.Vote.{Vote}
use Rattle.mdcc_theorem_node_steps.specs.AddedFacts.{IsBooted}

-- ---- the manager and the recovery

-- 1 to 8 choices of the transaction, ascending by key
abbrev pub IsWellFormedOpen : Undecided → Type 0
IsWellFormedOpen t = IsWellFormedCommit t.tx t.choices

abbrev pub IsWellFormedVoteKept : Vote → Type 0
IsWellFormedVoteKept vote = IsWellFormedVoted vote.key vote.version vote.ballot vote.tx vote.mark

-- ---- the leader

-- a claim inside a lead for this key and version
abbrev pub IsWellFormedClaim : Key → ℕ → TxId → Option Choice → Type 0
IsWellFormedClaim key version tx None = IsWellFormedTx tx
IsWellFormedClaim key version tx (Some choice) = IsWellFormedWithin key version tx choice

-- a promise that was counted, inside a lead for this key and version
pub record IsWellFormedCounted (key : Key) (version : ℕ) (promise : CountedPromise) : Type 0 where
  pub reported : IsWellFormedBallot promise.reported
  pub votes : IsWellFormedOptions key version promise.votes

-- a structure that was made for a version, which has room for a further mark
pub record IsWellFormedMade (key : Key) (version : ℕ) (options : Options) : Type 0 where
  pub version_fits : version < 2 ^ 64
  pub options_itself : IsWellFormedOptions key version options
  pub room : is_crowded options ≡ false

pub record IsWellFormedLead (lead : Lead) : Type 0 where
  pub instance : IsWellFormedInstance lead.key lead.version
  pub not_below : lead.version ≤ lead.through
  pub through_fits : lead.through < 2 ^ 64
  pub classic : IsWellFormedClassic lead.ballot
  pub claims : AllByRecursion (λ e. IsWellFormedClaim lead.key lead.version e.0 e.1) lead.claims
  pub promises : AllByRecursion (IsWellFormedCounted lead.key lead.version) lead.promises
  pub structures : AllByRecursion (λ s. IsWellFormedMade lead.key s.0 s.1) lead.structures

-- ---- all of it

pub record IsWellFormedVolatile (volatile : Volatile) : Type 0 where
  pub opened : AllByRecursion IsWellFormedOpen volatile.manager.opened
  pub votes : AllByRecursion IsWellFormedVoteKept volatile.manager.votes
  pub watched : AllByRecursion IsWellFormedVoteKept volatile.recovery.votes
  pub leads : AllByRecursion IsWellFormedLead volatile.leader.leads

-- the facts of a booted node: each is well-formed, and allowed after those before it
pub record AreNodeFacts (cluster : Cluster) (facts : List Fact) : Type 0 where
  pub booted : IsBooted facts
  pub allowed : IsTrue (are_allowed_facts cluster facts)
  pub well_formed : AllByRecursion IsWellFormedFact facts
