-- What the maps have after a write.
use Rattle.std.proofs.Common.{◌≡◌, ℕ, cond, [], None, Some, inl, inr, subst, arith}
use Rattle.std.proofs.lemmas.Bool.{cases_Bool}
use Rattle.indexmap.specs.IndexMap.{get}
use Rattle.mdcc_base.specs.Key.{key_eq}
use Rattle.mdcc_base.specs.declared.identifiers.Ballot.{Ballot}
use Rattle.mdcc_base.specs.declared.key.Key.{Key}
use Rattle.mdcc_learner.proofs.Kept.{key_eq-same}
use Rattle.mdcc_world_decisions.specs.Ballots.{BallotsByKey, BallotsByVersion, ballots_at, ballots_in, ballots_with, voted_with}

-- the versions of a key that had none are put
pub ballots-put : (old lent new : BallotsByKey) (k key : Key) (voted version : ℕ) (ballot : Ballot) (versions : BallotsByVersion)
    → lent ≡ old → None ≡ get key_eq old k → ballots_in versions version ≡ ballots_with voted ballot version []
    → get key_eq new key ≡ cond (key_eq k key) (Some versions) (get key_eq lent key)
    → ballots_at new key version ≡ voted_with k voted ballot key version (ballots_at old key version)
ballots-put old lent new k key voted version ballot versions is none first at =
    elim (cases_Bool (key_eq k key)) [
      | inl e ↦
          let P : Key → Type 0 = λ x. None ≡ get key_eq old x in
          let absent : None ≡ get key_eq old key = subst P (key_eq-same k key e) none in
          rw (at, e, ← absent) (grind (arith, first))
      | inr e ↦ rw (at, e, is) (grind (arith, e))
    ]
