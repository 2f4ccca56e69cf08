-- What reports force, as a relation.
use Rattle.std.specs.Prelude.{◌≡◌, ◌+◌, ◌≤◌, ◌⊎◌, List, [], ◌∷◌, length, Some}
use Rattle.mdcc_base.specs.declared.identifiers.Ballot.{Ballot}
use Rattle.mdcc_base.specs.declared.identifiers.TxId.{TxId}
use Rattle.mdcc_option.specs.declared.choices.Mark.{Mark}
use Rattle.mdcc_theorem_agreement.proofs.Ballots.{fast, Below}
use Rattle.mdcc_theorem_agreement.proofs.Setups.{Setup, count}
use Rattle.mdcc_theorem_agreement.proofs.ReducedFacts.{ReducedReport, greater}
use Rattle.mdcc_theorem_agreement.proofs.ReducedOptions.{mark_of, gives}

-- the greatest reported ballot
abbrev pub top : List ReducedReport → Ballot
top [] = fast
top (r ∷ rs) = greater r.ballot (top rs)

-- a report at a ballot gives a transaction this mark
abbrev pub Voices : List ReducedReport → Ballot → TxId → Mark → Type 0
Voices [] k t x = ⊥
Voices (r ∷ rs) k t x = ((r.ballot ≡ k) × (mark_of t r.marks ≡ Some x)) ⊎ Voices rs k t x

-- mark x of t is forced: by votes enough where nothing is reported but the fast ballot, else by the union of the votes at the greatest ballot
abbrev pub IsForced : Setup → List ReducedReport → TxId → Mark → Type 0
IsForced s rs t x =
    ((top rs ≡ fast) × (s.fast + length rs ≤ s.centres + count (λ r. gives r.marks t x) rs))
    ⊎ (Below fast (top rs) × Voices rs (top rs) t x)
