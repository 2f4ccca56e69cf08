-- A manager commits at the last of the votes that a fast quorum gives for each choice.
use Rattle.std.specs.List.{AllByRecursion}
use Rattle.std.specs.Prelude.{Bool, List, None, Some, [], false, length, map, ℕ, ◌++◌, ◌==◌, ◌∷◌, ◌≡◌, ◌≤◌}
use Rattle.std.specs.List.Sorted.{IsPermutation}
use Rattle.mdcc_base.specs.AreQuorums.{AreQuorums}
use Rattle.mdcc_base.specs.Key.{key_eq}
use Rattle.mdcc_base.specs.Sizes.{Sizes}
use Rattle.mdcc_base.specs.TxId.{tx_eq}
use Rattle.mdcc_base.specs.declared.identifiers.TxId.{TxId}
use Rattle.mdcc_option.specs.declared.choices.Choice.{Choice}
use Rattle.mdcc_option.specs.declared.choices.Outcome.{Outcome}
use Rattle.mdcc_def_protocol.specs.Learner.{collided}
use Rattle.mdcc_def_protocol.specs.Manager.{decision}
use Rattle.mdcc_def_protocol.specs.Volatile.{Managing, Undecided, opened_of}
use Rattle.mdcc_def_protocol.specs.declared.votes.Vote.{Vote}
use Rattle.mdcc_theorem_round_trip.specs.Messages.{each_with, vote_counted}

-- no item is the same as a later one
abbrev pub AreAllDifferent : {X : Type 0} → (X → X → Bool) → List X → Type 0
AreAllDifferent same [] = Unit {0}
AreAllDifferent same (x ∷ xs) = AllByRecursion (λ y. same x y ≡ false) xs × AreAllDifferent same xs

abbrev pub have_one_key : Choice → Choice → Bool
have_one_key a b = key_eq a.key b.key

-- one choice or more, all of the transaction, each of another key
pub record AreChoicesOf (tx : TxId) (choices : List Choice) : Type 0 where
  pub some : 1 ≤ length choices
  pub own : AllByRecursion (λ (choice : Choice). choice.tx ≡ tx) choices
  pub apart : AreAllDifferent have_one_key choices

-- as many members as a fast quorum has, each another one of the cluster
pub record IsFastQuorum (quorums : Sizes) (members : List ℕ) : Type 0 where
  pub size : length members ≡ quorums.fast
  pub within : AllByRecursion (λ member. member ≤ quorums.centres) members
  pub apart : AreAllDifferent (λ (m n : ℕ). m == n) members

-- the transaction is open, and no vote on it was counted
pub record IsUncounted (manager : Managing) (t : Undecided) : Type 0 where
  pub opened : opened_of manager t.tx ≡ Some t
  pub none : AllByRecursion (λ (vote : Vote). tx_eq vote.tx t.tx ≡ false) manager.votes

-- the manager after these votes were counted
abbrev pub counting : Managing → List (Choice × ℕ) → Managing
counting manager pairs = record manager { votes = manager.votes ++ map vote_counted pairs }

-- each choice has the votes of a quorum, in whatever order they come: until the last of them nothing is decided and no choice has
-- collided, and with the last the transaction commits
pub record CommitsAtLast (quorums : Sizes) (manager : Managing) (t : Undecided) (order : List (Choice × ℕ)) : Type 0 where
  pub undecided : (before : List (Choice × ℕ)) (next : Choice × ℕ) (after : List (Choice × ℕ)) → order ≡ before ++ next ∷ after
      → decision quorums (counting manager before) t.tx ≡ None
  pub uncollided : (before after : List (Choice × ℕ)) → order ≡ before ++ after
      → AllByRecursion (λ choice. collided quorums (counting manager before).votes t.tx choice.key ≡ false) t.choices
  pub committed : decision quorums (counting manager order) t.tx ≡ Some (Outcome.Commit t.choices)

abbrev pub QuorumsCommitAtLast : Type 0
QuorumsCommitAtLast =
    (quorums : Sizes) (manager : Managing) (t : Undecided) (members : List ℕ) (order : List (Choice × ℕ))
    → AreQuorums quorums → IsUncounted manager t → AreChoicesOf t.tx t.choices → IsFastQuorum quorums members
    → IsPermutation (each_with t.choices members) order
    → CommitsAtLast quorums manager t order
