-- The cells of what is left of each kind of fact.
use Rattle.std.proofs.Common.{refl, inl, inr}
use Rattle.std.proofs.lemmas.Bool.{cases_Bool}
use Rattle.mdcc_base.specs.Ballot.{is_fast}
use Rattle.mdcc_def_messages.specs.declared.facts.Fact.{Fact}
use Rattle.mdcc_given_back.specs.Rest.{CellsAreLeft, is_vote_past}

pub cells-left : CellsAreLeft
cells-left all (Fact.Booted epoch) = refl
cells-left all (Fact.Promised key low high ballot) = refl
cells-left all (Fact.Voted key version ballot options offered) =
    elim (cases_Bool (is_vote_past all key version options)) [
      | inl past ↦ elim (cases_Bool (is_fast ballot)) [
        | inl fast ↦ rw (past, fast) refl
        | inr classic ↦ rw (past, classic) refl
      ]
      | inr shown ↦ rw shown refl
    ]
cells-left all (Fact.Heard tx outcome) = refl
cells-left all (Fact.Adopted key version item adds) = refl
cells-left all (Fact.Floor centre epoch seq) = refl
