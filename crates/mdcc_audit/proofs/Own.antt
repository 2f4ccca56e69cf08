-- As many choices as instances.
use Rattle.std.proofs.Common.{◌≡◌, ℕ, List, [], ◌∷◌, ◌==◌, false, inl, inr, refl, arith, length, suc}
use Rattle.std.proofs.lemmas.Bool.{cases_Bool}
use Rattle.std.proofs.lemmas.Bool.Decides.{nat_tests}
use Rattle.mdcc_base.specs.declared.identifiers.TxId.{TxId}
use Rattle.mdcc_base.specs.declared.key.Key.{Key}
use Rattle.mdcc_option.specs.declared.choices.Choice.{Choice}
use Rattle.mdcc_audit.specs.Auditing.{are_all_own}
use Rattle.mdcc_audit.specs.Votes.{is_own}

one-less : (m n : ℕ) → (suc m == suc n) ≡ false → (m == n) ≡ false
one-less m n h = grind (arith, nat_tests)

pub lengths-apart : (tx : TxId) (places : List (Key × ℕ)) (choices : List Choice) → (length places == length choices) ≡ false → false ≡ are_all_own tx places choices
lengths-apart tx [] [] apart = cc
lengths-apart tx [] (choice ∷ choices) apart = refl
lengths-apart tx (e ∷ es) [] apart = refl
lengths-apart tx (e ∷ es) (choice ∷ choices) apart =
    let ih = lengths-apart tx es choices (one-less (length es) (length choices) apart) in
    elim (cases_Bool (is_own tx e.0 e.1 choice)) [
      | inl own ↦ rw own ih
      | inr other ↦ rw other refl
    ]
