-- Calls that are told.
use Rattle.std.proofs.Common.{◌≡◌, inl, inr, ⊎_elim, ◌+◌, List, [], ◌∷◌, ◌++◌, Option, None, Some, Result, Ok, Err, length, take, length-append, sym, ◌∙◌, ap, refl, arith}
use Rattle.std.proofs.lemmas.List.{append_assoc, append-nil, take-append-le}
use Rattle.mdcc_base.specs.declared.faults.Failed.{Failed}
use Rattle.mdcc_disks.specs.Disks.{DiskCall, AddsCall}
use Rattle.mdcc_log_file.specs.Calls.{with_calls, MadeSome}
use Rattle.mdcc_log_file.proofs.Bytes.{take_past}

-- calls behind calls
pub added_twice : (xs ys : List DiskCall) (calls : Option (List DiskCall)) → with_calls ys (with_calls xs calls) ≡ with_calls (xs ++ ys) calls
added_twice xs ys None = refl
added_twice xs ys (Some before) = ap (λ (l : List DiskCall). Some l) (append_assoc before xs ys)

pub added_none : (calls : Option (List DiskCall)) → calls ≡ with_calls [] calls
added_none None = refl
added_none (Some before) = ap (λ (l : List DiskCall). Some l) (sym (append-nil before))

-- one call and then another, which may have failed
pub told_two : {T : Type 0} (a b : DiskCall) (old mid new : Option (List DiskCall)) (result : Result T Failed) → mid ≡ with_calls (a ∷ []) old → AddsCall b mid new result → MadeSome (a ∷ b ∷ []) old new
told_two a b old mid new (Ok x) first second = record { made = 2; within = omega arith; told = inr (second.ok ∙ ap (λ (o : Option (List DiskCall)). with_calls (b ∷ []) o) first ∙ added_twice (a ∷ []) (b ∷ []) old) }
told_two a b old mid new (Err e) first second = elim second.err [
  | inl none ↦ record { made = 0; within = omega arith; told = inl none }
  | inr more ↦ record { made = 2; within = omega arith; told = inr (more ∙ ap (λ (o : Option (List DiskCall)). with_calls (b ∷ []) o) first ∙ added_twice (a ∷ []) (b ∷ []) old) }
]

-- two runs, of which the first was made whole
pub made_both : (xs ys : List DiskCall) (old mid new : Option (List DiskCall)) → mid ≡ with_calls xs old → MadeSome ys mid new → MadeSome (xs ++ ys) old new
made_both xs ys old mid new first second = elim second.told [
  | inl none ↦ record { made = 0; within = omega arith; told = inl none }
  | inr more ↦ record {
    made = length xs + second.made;
    within = omega (arith, second.within, length-append xs ys);
    told = inr (more ∙ ap (λ (o : Option (List DiskCall)). with_calls (take second.made ys) o) first ∙ added_twice xs (take second.made ys) old ∙ ap (λ (l : List DiskCall). with_calls l old) (sym (take_past xs ys second.made)));
  }
]

pub made_first : (xs ys : List DiskCall) (old new : Option (List DiskCall)) → MadeSome xs old new → MadeSome (xs ++ ys) old new
made_first xs ys old new first = record {
  made = first.made;
  within = omega (arith, first.within, length-append xs ys);
  told = ⊎_elim (λ none. inl none) (λ (more : new ≡ with_calls (take first.made xs) old). inr (more ∙ ap (λ (l : List DiskCall). with_calls l old) (sym (take-append-le first.made xs ys first.within)))) first.told;
}

pub made_none : (xs : List DiskCall) (old : Option (List DiskCall)) → MadeSome xs old old
made_none xs old = record { made = 0; within = omega arith; told = inr (added_none old) }
