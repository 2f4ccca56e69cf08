-- The calls of reads, and of what comes before and behind them.
use Rattle.std.proofs.Common.{◌≡◌, inl, inr, ℕ, suc, zero, ◌+◌, ◌-◌, ◌<◌, List, [], ◌∷◌, ◌++◌, Option, Result, Ok, Err, OnOk, length, sum, sym, ◌∙◌, ap, subst, refl, arith}
use Rattle.std.specs.List.{AllByRecursion}
use Rattle.std.proofs.lemmas.List.{take_all}
use Rattle.std.proofs.lemmas.List.Sums.{sum_by-append}
use Rattle.mdcc_base.specs.declared.faults.Failed.{Failed}
use Rattle.mdcc_disks.specs.Disks.{DiskCall, AddsCall}
use Rattle.mdcc_disks.specs.Disks.DiskCall.{Read}
use Rattle.mdcc_log_file.specs.Calls.{with_calls, AreReads, MadeSome, ReadsAll, ReadsSome, read_calls}
use Rattle.mdcc_log_file.proofs.Calls.{added_twice, made_both, made_first, made_none}

-- ---- some calls, and all of them

pub made_all : (xs : List DiskCall) (old new : Option (List DiskCall)) → new ≡ with_calls xs old → MadeSome xs old new
made_all xs old new all = record {
  made = length xs;
  within = omega arith;
  told = inr (all ∙ ap (λ (l : List DiskCall). with_calls l old) (sym (take_all (length xs) xs (omega arith))));
}

-- one call, which may have failed
pub made_one : {T : Type 0} (call : DiskCall) (old new : Option (List DiskCall)) (result : Result T Failed) → AddsCall call old new result → MadeSome (call ∷ []) old new
made_one call old new (Ok x) adds = made_all (call ∷ []) old new adds.ok
made_one call old new (Err e) adds = elim adds.err [
  | inl none ↦ record { made = 0; within = omega arith; told = inl none }
  | inr more ↦ made_all (call ∷ []) old new more
]

-- one run behind another
pub all_both : (xs ys : List DiskCall) (old mid new : Option (List DiskCall)) → mid ≡ with_calls xs old → new ≡ with_calls ys mid → new ≡ with_calls (xs ++ ys) old
all_both xs ys old mid new first second = second ∙ ap (λ (o : Option (List DiskCall)). with_calls ys o) first ∙ added_twice xs ys old

-- three calls
pub all_three : {T : Type 0} (a b c : DiskCall) (old one two new : Option (List DiskCall)) (result : Result T Failed) → one ≡ with_calls (a ∷ []) old → two ≡ with_calls (b ∷ []) one → AddsCall c two new result → OnOk result (new ≡ with_calls (a ∷ b ∷ c ∷ []) old)
all_three a b c old one two new (Ok x) first second third = all_both (a ∷ b ∷ []) (c ∷ []) old two new (all_both (a ∷ []) (b ∷ []) old one two first second) third.ok
all_three a b c old one two new (Err e) first second third = tt

-- where the second answered Ok
pub all_where : {T : Type 0} {E : Type 0} (xs ys : List DiskCall) (old mid new : Option (List DiskCall)) (result : Result T E) → mid ≡ with_calls xs old → OnOk result (new ≡ with_calls ys mid) → OnOk result (new ≡ with_calls (xs ++ ys) old)
all_where xs ys old mid new (Ok x) first second = all_both xs ys old mid new first second
all_where xs ys old mid new (Err e) first second = tt

-- ---- reads

sum_more : (counts : List ℕ) (n : ℕ) → sum (counts ++ n ∷ []) ≡ sum counts + n
sum_more counts n = let sums : sum (counts ++ n ∷ []) ≡ sum counts + (0 + n) = sum_by-append (λ count. count) counts (n ∷ []) in omega (arith, sums)

sum_first : (count : ℕ) (counts : List ℕ) → sum (count ∷ counts) ≡ count + sum counts
sum_first count counts = let sums : sum (count ∷ counts) ≡ 0 + count + sum counts = sum_by-append (λ n. n) (count ∷ []) counts in omega (arith, sums)

some_more : (counts : List ℕ) (n : ℕ) → AllByRecursion (λ count. 0 < count) counts → 0 < n → AllByRecursion (λ count. 0 < count) (counts ++ n ∷ [])
some_more [] n some more = (more, tt)
some_more (count ∷ counts) n some more = (some.0, some_more counts n some.1 more)

read_calls_more : (size offset end n : ℕ) (counts : List ℕ) → end ≡ offset + sum counts → read_calls size offset (counts ++ n ∷ []) ≡ read_calls size offset counts ++ Read end (size - end) ∷ []
read_calls_more size offset end n [] is = let here : end ≡ offset = omega (arith, is) in ap (λ (at : ℕ). Read at (size - at) ∷ []) (sym here)
read_calls_more size offset end n (count ∷ counts) is =
    ap (λ (calls : List DiskCall). Read offset (size - offset) ∷ calls) (read_calls_more size (offset + count) end n counts (omega (arith, is, sum_first count counts)))

-- what is left of a part of a file
left_is : (from size done : ℕ) → from + size - (from + done) ≡ size - done
left_is from size done = omega arith

-- one read more of a part that begins here
pub reads_more : (from size done n : ℕ) (old mid new : Option (List DiskCall)) → 0 < n → ReadsAll done (read_calls (from + size) from) old mid → new ≡ with_calls (Read (from + done) (size - done) ∷ []) mid → ReadsAll (done + n) (read_calls (from + size) from) old new
reads_more from size done n old mid new some so_far more = record {
  counts = so_far.counts ++ n ∷ [];
  are = record { some = some_more so_far.counts n so_far.are.some some; all = omega (arith, sum_more so_far.counts n, so_far.are.all) };
  told =
      more
      ∙ ap (λ (o : Option (List DiskCall)). with_calls (Read (from + done) (size - done) ∷ []) o) so_far.told
      ∙ added_twice (read_calls (from + size) from so_far.counts) (Read (from + done) (size - done) ∷ []) old
      ∙ ap (λ (k : ℕ). with_calls (read_calls (from + size) from so_far.counts ++ Read (from + done) k ∷ []) old) (sym (left_is from size done))
      ∙ ap (λ (l : List DiskCall). with_calls l old) (sym (read_calls_more (from + size) from (from + done) n so_far.counts (omega (arith, so_far.are.all))));
}

-- ---- reads among other calls

module _ (size : ℕ) (calls : List ℕ → List DiskCall) where
  pub all_are_some : (old new : Option (List DiskCall)) → ReadsAll size calls old new → ReadsSome size calls old new
  all_are_some old new all = record { counts = all.counts; are = all.are; made = made_all (calls all.counts) old new all.told }

  pub all_behind : (xs : List DiskCall) (old mid new : Option (List DiskCall)) → mid ≡ with_calls xs old → ReadsAll size calls mid new → ReadsAll size (λ counts. xs ++ calls counts) old new
  all_behind xs old mid new first all = record {
    counts = all.counts;
    are = all.are;
    told = all.told ∙ ap (λ (o : Option (List DiskCall)). with_calls (calls all.counts) o) first ∙ added_twice xs (calls all.counts) old;
  }

  pub some_behind : (xs : List DiskCall) (old mid new : Option (List DiskCall)) → mid ≡ with_calls xs old → ReadsSome size calls mid new → ReadsSome size (λ counts. xs ++ calls counts) old new
  some_behind xs old mid new first some = record { counts = some.counts; are = some.are; made = made_both xs (calls some.counts) old mid new first some.made }

  pub all_before : (ys : List DiskCall) (old mid new : Option (List DiskCall)) → ReadsAll size calls old mid → new ≡ with_calls ys mid → ReadsAll size (λ counts. calls counts ++ ys) old new
  all_before ys old mid new all last = record {
    counts = all.counts;
    are = all.are;
    told = last ∙ ap (λ (o : Option (List DiskCall)). with_calls ys o) all.told ∙ added_twice (calls all.counts) ys old;
  }

  pub some_before : (ys : List DiskCall) (old new : Option (List DiskCall)) → ReadsSome size calls old new → ReadsSome size (λ counts. calls counts ++ ys) old new
  some_before ys old new some = record { counts = some.counts; are = some.are; made = made_first (calls some.counts) ys old new some.made }

  pub made_before : (ys : List DiskCall) (old mid new : Option (List DiskCall)) → ReadsAll size calls old mid → MadeSome ys mid new → ReadsSome size (λ counts. calls counts ++ ys) old new
  made_before ys old mid new all last = record { counts = all.counts; are = all.are; made = made_both (calls all.counts) ys old mid new all.told last }

-- one read of all
abbrev whole : ℕ → List ℕ
whole zero = []
whole (suc n) = suc n ∷ []

whole_reads : (size : ℕ) → AreReads size (whole size)
whole_reads zero = record { some = tt; all = refl }
whole_reads (suc n) = let all : 0 + suc n ≡ suc n = omega arith in record { some = (omega arith, tt); all = all }

-- the calls before the reads, or some of them
pub only_front : (size : ℕ) (calls : List ℕ → List DiskCall) (xs : List DiskCall) (old new : Option (List DiskCall)) → MadeSome xs old new → ReadsSome size (λ counts. xs ++ calls counts) old new
only_front size calls xs old new some = record { counts = whole size; are = whole_reads size; made = made_first xs (calls (whole size)) old new some }

-- none of them
pub none_made : (size : ℕ) (calls : List ℕ → List DiskCall) (old : Option (List DiskCall)) → ReadsSome size calls old old
none_made size calls old = record { counts = whole size; are = whole_reads size; made = made_none (calls (whole size)) old }

-- a read that fails is the last one
pub reads_broken : {T : Type 0} (from size done : ℕ) (old mid new : Option (List DiskCall)) (result : Result T Failed) → done < size → ReadsAll done (read_calls (from + size) from) old mid → AddsCall (Read (from + done) (size - done)) mid new result → ReadsSome size (read_calls (from + size) from) old new
reads_broken from size done old mid new result within so_far adds =
    let counts = so_far.counts in
    let both = made_both (read_calls (from + size) from counts) (Read (from + done) (size - done) ∷ []) old mid new so_far.told (made_one (Read (from + done) (size - done)) mid new result adds) in
    let here = subst (λ (k : ℕ). MadeSome (read_calls (from + size) from counts ++ Read (from + done) k ∷ []) old new) (sym (left_is from size done)) both in
    record {
      counts = counts ++ (size - done) ∷ [];
      are = record {
        some = some_more counts (size - done) so_far.are.some (omega arith);
        all = omega (arith, sum_more counts (size - done), so_far.are.all);
      };
      made = subst (λ (l : List DiskCall). MadeSome l old new) (sym (read_calls_more (from + size) from (from + done) (size - done) counts (omega (arith, so_far.are.all)))) here;
    }
