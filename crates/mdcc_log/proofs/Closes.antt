-- How an area gate that is neither closed nor open is closed.
use Rattle.std.proofs.Common.{◌≡◌, ◌⊎◌, inl, inr, ⊎_elim, ℕ, ◌<◌, ◌≤◌, nat_lt, true, false, List, [], ◌∷◌, length, get_or, sym, ◌∙◌, refl, arith}
use Rattle.std.proofs.lemmas.Bool.{cases_lt, false≢true}
use Rattle.std.proofs.lemmas.Bool.Decides.{nat_tests}
use Rattle.mdcc_disks.specs.Disks.{IsTorn}
use Rattle.mdcc_log_file.proofs.Gates.{gate_torn}
use Rattle.mdcc_log_file.specs.Area.{is_torn}
use Rattle.mdcc_log.specs.Repair.{MayClose}

torn_is_long : (bytes : List ℕ) → is_torn bytes ≡ true → 9 < length bytes
torn_is_long bytes torn = elim (cases_lt 9 (length bytes)) [
  | inl long ↦ long
  | inr short ↦ absurd (false≢true (sym (test short) ∙ torn))
]
  where
    test : length bytes ≤ 9 → is_torn bytes ≡ false
    test short = let is : nat_lt 9 (length bytes) ≡ false = grind (arith, nat_tests) in rw is refl

-- its byte is the old one, the new one or a torn one
gate_from : {tears : ℕ → Type 0} (bytes c : List ℕ) → 8 < length bytes → IsTorn tears 8 (0 ∷ []) bytes c → (get_or c 8 0 ≡ get_or bytes 8 0) ⊎ ((get_or c 8 0 ≡ 0) ⊎ tears (get_or c 8 0))
gate_from bytes c within torn =
    ⊎_elim (λ stood. inl (sym stood.1)) (λ wrote. inr (⊎_elim (λ same. inl (sym same.1.1)) (λ is. inr is) wrote))
    (torn.each 8 (get_or c 8 0) (omega (arith, within, torn.no_shorter), refl))

pub may_close : (tears : ℕ → Type 0) (bytes c : List ℕ) → is_torn bytes ≡ true → IsTorn tears 8 (0 ∷ []) bytes c → MayClose tears bytes c
may_close tears bytes c torn written =
    let long : 9 < length bytes = torn_is_long bytes torn in
    inr (record { torn = torn; becomes = get_or c 8 0; from = gate_from bytes c (omega arith) written; is = gate_torn 0 bytes c (omega arith) written })
