-- Well-formed parts make a well-formed transaction.
use Rattle.std.proofs.Common.{◌≡◌, ◌≤◌, ◌==◌, Bool, true, false, List, [], ◌∷◌, length, ℤ, nat_lt, refl, subst, inl, inr, Option, Some, None, Ok, Err, arith, fold}
use Rattle.std.specs.List.{AllByRecursion}
use Rattle.std.specs.Prelude.{IsTrue}
use Rattle.std.proofs.lemmas.Bool.{cases_Bool, ltb-false}
use Rattle.std.proofs.lemmas.List.Sorted.{length_permutation}
use Rattle.mdcc_base.specs.Key.{key_lt}
use Rattle.mdcc_def_messages.specs.WellFormedParts.{IsWellFormedPart}
use Rattle.mdcc_option.proofs.Ordered.{IsPermutation-sorted_parts, ascending-sorted_parts}
use Rattle.mdcc_option.specs.Parts.{are_parts_ascending, is_key_repeated, sorted_parts, with_part}
use Rattle.mdcc_option.specs.Transaction.{checked_by, parts_fault, transaction_of}
use Rattle.mdcc_option.specs.declared.faults.DraftFault.{DraftFault}
use Rattle.mdcc_option.specs.declared.faults.DraftFault.TheVariants.{Empty, RepeatedKey, TooMany}
use Rattle.mdcc_option.specs.declared.items.Part.{Part}
use Rattle.mdcc_theorem_node_steps.specs.Inputs.{AreWellFormedParts}

each_with : (P : Part → Type 0) (parts : List Part) (part : Part) → AllByRecursion P parts → P part → AllByRecursion P (with_part parts part)
each_with P [] part h k = (k, tt)
each_with P (p ∷ ps) part h k = elim (cases_Bool (key_lt part.key p.key)) [
  | inl e ↦ rw e (k, (h.0, h.1))
  | inr e ↦ rw e (h.0, each_with P ps part h.1 k)
]

each_onto : (P : Part → Type 0) (some parts : List Part) → AllByRecursion P some → AllByRecursion P parts → AllByRecursion P (fold with_part some parts)
each_onto P some [] h k = h
each_onto P some (p ∷ ps) h k = each_onto P (with_part some p) ps (each_with P some p h k.0) k.1

checked_ok : (o : Option DraftFault) (ps qs : List Part) → checked_by o ps ≡ Ok qs → ps ≡ qs
checked_ok None ps qs h = cc
checked_ok (Some fault) ps qs h = absurd (cc)

some_part : (ps : List Part) → (length ps == 0) ≡ false → 1 ≤ length ps
some_part [] h = absurd (cc)
some_part (p ∷ ps) h = omega arith

sorted_formed : (parts : List Part) → AllByRecursion IsWellFormedPart parts → (length parts == 0) ≡ false → nat_lt 8 (length parts) ≡ false → is_key_repeated parts ≡ false → AreWellFormedParts (sorted_parts parts)
sorted_formed parts h some few apart =
    let long : length (sorted_parts parts) ≡ length parts = length_permutation parts (sorted_parts parts) (IsPermutation-sorted_parts parts) in
    let low = some_part parts some in
    let high = ltb-false 8 (length parts) few in
    record {
      count = (omega (long, low, arith), omega (long, high, arith));
      each = each_onto IsWellFormedPart [] parts tt h;
      ascending = is_true (are_parts_ascending (sorted_parts parts)) (ascending-sorted_parts parts apart);
    }
  where
    is_true : (b : Bool) → b ≡ true → IsTrue b
    is_true b e = rw e refl

pub drafted_formed : (schema : List (ℤ × ℤ)) (parts made : List Part) → AllByRecursion IsWellFormedPart parts → transaction_of schema parts ≡ Ok made → AreWellFormedParts made
drafted_formed schema parts made h e = elim (cases_Bool (length parts == 0)) [
  | inl none ↦ let bad : Err Empty ≡ Ok made = rw none at e in absurd (cc)
  | inr some ↦ elim (cases_Bool (nat_lt 8 (length parts))) [
    | inl many ↦ let bad : Err TooMany ≡ Ok made = rw (some, many) at e in absurd (cc)
    | inr few ↦ elim (cases_Bool (is_key_repeated parts)) [
      | inl twice ↦ let bad : Err RepeatedKey ≡ Ok made = rw (some, few, twice) at e in absurd (cc)
      | inr apart ↦
          let same = checked_ok (parts_fault schema (sorted_parts parts)) (sorted_parts parts) made (rw (some, few, apart) at e) in
          subst AreWellFormedParts same (sorted_formed parts h some few apart)
    ]
  ]
]
