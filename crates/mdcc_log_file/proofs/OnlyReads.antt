-- Calls that only read.
use Rattle.std.proofs.Common.{◌≡◌, inl, inr, ⊎_elim, ℕ, zero, suc, ◌+◌, take, List, [], ◌∷◌, ◌++◌, Option, None, ◌∙◌, ap}
use Rattle.std.specs.List.{AllByRecursion}
use Rattle.mdcc_disks.specs.Disks.{DiskCall}
use Rattle.mdcc_log_file.specs.Calls.{IsRead, OnlyReads, ReadsSome, read_calls, with_calls}
use Rattle.mdcc_log_file.proofs.Calls.{added_twice, added_none}

all_both : (xs ys : List DiskCall) → AllByRecursion IsRead xs → AllByRecursion IsRead ys → AllByRecursion IsRead (xs ++ ys)
all_both [] ys first second = second
all_both (x ∷ xs) ys first second = (first.0, all_both xs ys first.1 second)

pub no_reads : (old new : Option (List DiskCall)) → new ≡ old → OnlyReads old new
no_reads old new same = record { reads = []; each = tt; told = inr (same ∙ added_none old) }

all_reads : (size offset made : ℕ) (counts : List ℕ) → AllByRecursion IsRead (take made (read_calls size offset counts))
all_reads size offset zero counts = tt
all_reads size offset (suc made) [] = tt
all_reads size offset (suc made) (count ∷ counts) = (tt, all_reads size (offset + count) made counts)

-- some reads of a part of a file
pub some_reads : (part size offset : ℕ) (old new : Option (List DiskCall)) → ReadsSome part (read_calls size offset) old new → OnlyReads old new
some_reads part size offset old new some = record {
  reads = take some.made.made (read_calls size offset some.counts);
  each = all_reads size offset some.made.made some.counts;
  told = some.made.told;
}

added_to_none : (xs : List DiskCall) (calls : Option (List DiskCall)) → calls ≡ None → with_calls xs calls ≡ None
added_to_none xs calls none = ap (λ (o : Option (List DiskCall)). with_calls xs o) none

pub reads_joined : (old mid new : Option (List DiskCall)) → OnlyReads old mid → OnlyReads mid new → OnlyReads old new
reads_joined old mid new first second = record {
  reads = first.reads ++ second.reads;
  each = all_both first.reads second.reads first.each second.each;
  told = ⊎_elim (λ none. inl none) (λ (more : new ≡ with_calls second.reads mid). ⊎_elim
      (λ (none : mid ≡ None). inl (more ∙ added_to_none second.reads mid none))
      (λ (was : mid ≡ with_calls first.reads old). inr (more ∙ ap (λ (o : Option (List DiskCall)). with_calls second.reads o) was ∙ added_twice first.reads second.reads old))
      first.told) second.told;
}
