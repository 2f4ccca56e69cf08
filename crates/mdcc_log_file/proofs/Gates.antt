-- What closing, opening and marking an area leaves.
use Rattle.std.proofs.Common.{◌≡◌, ◌≢◌, ◌⊎◌, inl, inr, ⊎_elim, ℕ, ◌<◌, ◌≤◌, nat_lt, ◌==◌, Bool, true, false, cond, List, [], ◌∷◌, ◌++◌, length, get_or, drop, sym, ◌∙◌, ap, refl, arith}
use Rattle.std.proofs.lemmas.Bool.{cases_lt, false≢true}
use Rattle.std.proofs.lemmas.Bool.Decides.{nat_tests}
use Rattle.std.proofs.lemmas.List.{drop_more, drop_all, get_or-take}
use Rattle.mdcc_disks.specs.Disks.{IsOverwritten, IsTorn, IsCut}
use Rattle.mdcc_log_file.proofs.Bytes.{one_torn}
use Rattle.mdcc_log_file.specs.declared.area.Spare.TheVariants as spares
use Rattle.mdcc_log_file.specs.Area.{area_mark, area_gate, is_second, is_torn, spare_of, with_gate}
use Rattle.mdcc_log_file.specs.Copying.{IsShut, MayShut}

-- a mark over the first bytes of nine
pub mark_written : (old new : List ℕ) → length old ≡ 9 → area_gate old ≡ 0 → IsOverwritten old 0 area_mark new → new ≡ area_mark ++ 0 ∷ []
mark_written old new nine shut holds =
    let last : drop 8 old ≡ get_or old 8 0 ∷ drop 9 old = drop_more old 8 0 (omega arith) in
    holds ∙ ap (λ (l : List ℕ). area_mark ++ l) (last ∙ ap (λ (n : ℕ). n ∷ drop 9 old) shut ∙ ap (λ (l : List ℕ). 0 ∷ l) (drop_all 9 old (omega arith)))

-- the area gate is one byte
pub gate_torn : {tears : ℕ → Type 0} (byte : ℕ) (old c : List ℕ) → 8 < length old → IsTorn tears 8 (byte ∷ []) old c → c ≡ with_gate (get_or c 8 0) old
gate_torn byte old c within torn = one_torn byte old c 8 within torn

pub cut_stays_shut : (old c : List ℕ) → IsCut 9 old c → IsShut old → IsShut c
cut_stays_shut old c cut shut =
    sym (get_or-take 9 c 8 0 (omega arith)) ∙ ap (λ (l : List ℕ). get_or l 8 0) cut.front ∙ get_or-take 9 old 8 0 (omega arith) ∙ shut

-- ---- the area gate is closed for good

pub is_long : (closed marked : Bool) (bytes : List ℕ) → spares.Long closed marked ≡ spare_of bytes → 9 < length bytes
is_long closed marked bytes is = elim (cases_lt 9 (length bytes)) [
  | inl long ↦ long
  | inr short ↦ absurd (not_short (is ∙ ap (λ (b : Bool). cond b (spares.Long (area_gate bytes == 0) (is_second bytes)) spares.Short) (test short)))
]
  where
    test : length bytes ≤ 9 → nat_lt 9 (length bytes) ≡ false
    test short = grind (arith, nat_tests)

    not_short : spares.Long closed marked ≡ spares.Short → ⊥
    not_short same = cc

-- it is not closed yet
pub is_not_shut : (closed marked : Bool) (bytes : List ℕ) → spares.Long closed marked ≡ spare_of bytes → closed ≡ false → area_gate bytes ≢ 0
is_not_shut closed marked bytes is open_is shut =
    let long : nat_lt 9 (length bytes) ≡ true = tested (is_long closed marked bytes is) in
    let kind : spares.Long closed marked ≡ spares.Long (area_gate bytes == 0) (is_second bytes) = is ∙ ap (λ (b : Bool). cond b (spares.Long (area_gate bytes == 0) (is_second bytes)) spares.Short) long in
    let gate : closed ≡ (area_gate bytes == 0) = cc in
    false≢true (sym open_is ∙ gate ∙ ap (λ (n : ℕ). n == 0) shut)
  where
    tested : 9 < length bytes → nat_lt 9 (length bytes) ≡ true
    tested more = grind (arith, nat_tests)

module _ {tears : ℕ → Type 0} (old c : List ℕ) where
  pub gate_may_shut : 9 < length old → area_gate old ≢ 0 → IsTorn tears 8 (0 ∷ []) old c → MayShut old c
  gate_may_shut long opened torn = inr (inr (long, (opened, (get_or c 8 0, gate_torn 0 old c (omega arith) torn))))
