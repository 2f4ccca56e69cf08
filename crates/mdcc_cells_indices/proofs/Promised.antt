-- What promises are found in a store that has them by their keys.
use Rattle.std.proofs.Common.{◌≡◌, ◌==◌, ◌<◌, ℕ, Bool, true, false, List, [], ◌∷◌, ◌++◌, ◌≤◌, Option, Some, None, get_or, length, map, refl, sym, ap, ◌∙◌, arith, inl, inr, append-nil, append_assoc}
use Rattle.std.specs.List.{filter, fold}
use Rattle.std.specs.Option.{option_or}
use Rattle.std.specs.Prelude.{IfSome, nat_le}
use Rattle.std.specs.Cmp.Lexicographic.{nat_list_eq_equiv}
use Rattle.std.proofs.lemmas.Bool.{cases_Bool, eqb-true}
use Rattle.std.proofs.lemmas.List.{get_or_append_left, get_or_at, length-append, map-append}
use Rattle.mdcc_base.specs.Ballot.{ballot_eq}
use Rattle.mdcc_base.specs.Key.{key_eq}
use Rattle.mdcc_base.specs.declared.identifiers.Ballot.{Ballot}
use Rattle.mdcc_base.specs.declared.key.Key.{Key}
use Rattle.mdcc_def_messages.specs.declared.facts.Fact.{Fact}
use Rattle.mdcc_def_protocol.specs.Facts.{promised_through, range_promised}
use Rattle.mdcc_cells_chains.specs.Walks.{entry_at}
use Rattle.mdcc_cells_chains.proofs.Filtered.{entry-within}
use Rattle.mdcc_theorem_fact_folds.specs.Chains.{is_promise_of}
use Rattle.mdcc_theorem_fact_folds.specs.Promises.{with_promised_ballot}
use Rattle.mdcc_cells_indices.specs.Promises.{ArePromised, is_at, Kept, older_end, older_end_at, promised_by, promises_of, ranges_in, with_range, with_range_at}
use Rattle.mdcc_cells_indices.specs.declared.promises.Promise.{Promise}

-- ---- the range at an index

pub length-ranges : (entries : List (Key × Promise)) → length (ranges_in entries) ≡ length entries
length-ranges [] = refl
length-ranges (entry ∷ entries) = omega (arith, length-append (ranges_in entries) (entry.1 ∷ []), length-ranges entries)

pub range-at : (entries : List (Key × Promise)) (i : ℕ) (entry : Key × Promise) (default : Promise) → entry_at entries i ≡ Some entry → get_or (ranges_in entries) i default ≡ entry.1
range-at [] i entry default at = absurd (cc)
range-at (e ∷ entries) i entry default at = elim (cases_Bool (i == length entries)) [
  | inl here ↦
      let same : i ≡ length entries = eqb-true i (length entries) here in
      let one : Some e ≡ Some entry = rw here at at in
      get_or_at (ranges_in entries) e.1 [] default i (length-ranges entries ∙ sym same) ∙ (let is : e ≡ entry = cc in ap (λ x. x.1) is)
  | inr there ↦
      let older : entry_at entries i ≡ Some entry = rw there at at in
      get_or_append_left (ranges_in entries) (e.1 ∷ []) default i (omega (arith, entry-within entries i entry older, length-ranges entries))
      ∙ range-at entries i entry default older
]

pub still-within : (bound index : ℕ) (next : Option ℕ) → index < bound → IfSome next (λ i. i < index) → IfSome next (λ i. i < bound)
still-within bound index None within lower = tt
still-within bound index (Some i) within lower = omega (arith, within, lower)

-- ---- the oldest end

or-one : {X : Type 0} (a b c : Option X) → option_or (option_or a b) c ≡ option_or a (option_or b c)
or-one None b c = refl
or-one (Some x) b c = refl

or-none : {X : Type 0} (a : Option X) → option_or a None ≡ a
or-none None = refl
or-none (Some x) = refl

module _ (key : Key) (version : ℕ) (ballot : Ballot) where
  range-here : (k : Key) (low high : ℕ) (b : Ballot) (later : Option ℕ) → key_eq key k ≡ true
      → older_end version ballot later (record { low = low; high = high; ballot = b }) ≡ option_or (range_promised key version ballot (Fact.Promised k low high b)) later
  range-here k low high b later is = by (low == version) refl (ballot_eq b ballot) refl (nat_list_eq_equiv.symm k key ∙ is)
    where
      by : (begins : Bool) → (low == version) ≡ begins → (same : Bool) → ballot_eq b ballot ≡ same → key_eq k key ≡ true
          → older_end version ballot later (record { low = low; high = high; ballot = b }) ≡ option_or (range_promised key version ballot (Fact.Promised k low high b)) later
      by true begins-is true same-is at = rw (begins-is, same-is, at) refl
      by true begins-is false same-is at = rw (begins-is, same-is) refl
      by false begins-is same same-is at = rw begins-is refl

  range-elsewhere : (k : Key) (low high : ℕ) (b : Ballot) → key_eq key k ≡ false → range_promised key version ballot (Fact.Promised k low high b) ≡ None
  range-elsewhere k low high b is = by (low == version) refl (ballot_eq b ballot) refl (nat_list_eq_equiv.symm k key ∙ is)
    where
      by : (begins : Bool) → (low == version) ≡ begins → (same : Bool) → ballot_eq b ballot ≡ same → key_eq k key ≡ false → range_promised key version ballot (Fact.Promised k low high b) ≡ None
      by true begins-is true same-is at = rw (begins-is, same-is, at) refl
      by true begins-is false same-is at = rw (begins-is, same-is) refl
      by false begins-is same same-is at = rw begins-is refl

  -- the fold so far, and what the older facts promise
  ends : (facts : List Fact) (later : Option ℕ) → fold (older_end_at version ballot) later (filter (is_at key) (promises_of facts)) ≡ option_or (promised_through facts key version ballot) later
  ends [] later = refl
  ends (Fact.Promised k low high b ∷ facts) later = elim (cases_Bool (key_eq key k)) [
    | inl same ↦
        rw same (ends facts (older_end version ballot later (record { low = low; high = high; ballot = b })))
        ∙ ap (option_or (promised_through facts key version ballot)) (range-here k low high b later same)
        ∙ sym (or-one (promised_through facts key version ballot) (range_promised key version ballot (Fact.Promised k low high b)) later)
    | inr other ↦
        rw other (ends facts later)
        ∙ ap (λ range. option_or (promised_through facts key version ballot) (option_or range later)) (sym (range-elsewhere k low high b other))
        ∙ sym (or-one (promised_through facts key version ballot) (range_promised key version ballot (Fact.Promised k low high b)) later)
  ]
  ends (Fact.Booted epoch ∷ facts) later = ends facts later ∙ sym (or-one (promised_through facts key version ballot) None later)
  ends (Fact.Floor origin era upto ∷ facts) later = ends facts later ∙ sym (or-one (promised_through facts key version ballot) None later)
  ends (Fact.Voted k v b options offered ∷ facts) later = ends facts later ∙ sym (or-one (promised_through facts key version ballot) None later)
  ends (Fact.Heard tx outcome ∷ facts) later = ends facts later ∙ sym (or-one (promised_through facts key version ballot) None later)
  ends (Fact.Adopted k v item adds ∷ facts) later = ends facts later ∙ sym (or-one (promised_through facts key version ballot) None later)

  pub end-found : (facts : List Fact) → fold (older_end_at version ballot) None (filter (is_at key) (promises_of facts)) ≡ promised_through facts key version ballot
  end-found facts = ends facts None ∙ or-none (promised_through facts key version ballot)

-- ---- the greatest ballot

module _ (key : Key) (version : ℕ) where
  ballot-here : (k : Key) (low high : ℕ) (b ballot : Ballot) → key_eq key k ≡ true
      → with_range version ballot (record { low = low; high = high; ballot = b }) ≡ with_promised_ballot key version ballot (Fact.Promised k low high b)
  ballot-here k low high b ballot is = by (nat_le low version) refl (nat_le version high) refl (nat_list_eq_equiv.symm k key ∙ is)
    where
      by : (begins : Bool) → nat_le low version ≡ begins → (ends : Bool) → nat_le version high ≡ ends → key_eq k key ≡ true
          → with_range version ballot (record { low = low; high = high; ballot = b }) ≡ with_promised_ballot key version ballot (Fact.Promised k low high b)
      by true begins-is true ends-is at = rw (begins-is, ends-is, at) refl
      by true begins-is false ends-is at = rw (begins-is, ends-is) refl
      by false begins-is ends ends-is at = rw begins-is refl

  pub greatest-found : (facts : List Fact) (start : Ballot)
      → fold (with_range_at version) start (filter (is_at key) (promises_of facts)) ≡ fold (with_promised_ballot key version) start (filter (is_promise_of key) facts)
  greatest-found [] start = refl
  greatest-found (Fact.Promised k low high b ∷ facts) start = elim (cases_Bool (key_eq key k)) [
    | inl same ↦
        let turned : key_eq k key ≡ true = nat_list_eq_equiv.symm k key ∙ same in
        rw (same, turned) (
        greatest-found facts (with_range version start (record { low = low; high = high; ballot = b }))
        ∙ ap (λ ballot. fold (with_promised_ballot key version) ballot (filter (is_promise_of key) facts)) (ballot-here k low high b start same)
        )
    | inr other ↦
        let turned : key_eq k key ≡ false = nat_list_eq_equiv.symm k key ∙ other in
        rw (other, turned) (greatest-found facts start)
  ]
  greatest-found (Fact.Booted epoch ∷ facts) start = greatest-found facts start
  greatest-found (Fact.Floor origin era upto ∷ facts) start = greatest-found facts start
  greatest-found (Fact.Voted k v b options offered ∷ facts) start = greatest-found facts start
  greatest-found (Fact.Heard tx outcome ∷ facts) start = greatest-found facts start
  greatest-found (Fact.Adopted k v item adds ∷ facts) start = greatest-found facts start

-- ---- one more fact

ranges-more : (more entries : List (Key × Promise)) → ranges_in (more ++ entries) ≡ ranges_in entries ++ ranges_in more
ranges-more [] entries = sym (append-nil (ranges_in entries))
ranges-more (entry ∷ more) entries = ap (λ ranges. ranges ++ entry.1 ∷ []) (ranges-more more entries) ∙ append_assoc (ranges_in entries) (ranges_in more) (entry.1 ∷ [])

pub promised-more : (old new : Kept) (facts : List Fact) (fact : Fact) → new.keys.keys ≡ map (λ entry. entry.0) (promised_by fact) ++ old.keys.keys
    → new.ranges ≡ old.ranges ++ ranges_in (promised_by fact) → ArePromised old facts → ArePromised new (fact ∷ facts)
promised-more old new facts fact keys ranges promised = record {
  keys_of = keys ∙ ap (λ ks. map (λ (entry : Key × Promise). entry.0) (promised_by fact) ++ ks) promised.keys_of
      ∙ sym (map-append (λ (entry : Key × Promise). entry.0) (promised_by fact) (promises_of facts));
  ranges_of = ranges ∙ ap (λ rs. rs ++ ranges_in (promised_by fact)) promised.ranges_of ∙ sym (ranges-more (promised_by fact) (promises_of facts));
}

pub length-promised : (fact : Fact) → length (map (λ (entry : Key × Promise). entry.0) (promised_by fact)) ≤ 1
length-promised (Fact.Promised key low high ballot) = omega arith
length-promised (Fact.Booted epoch) = omega arith
length-promised (Fact.Floor origin era upto) = omega arith
length-promised (Fact.Voted key version ballot options offered) = omega arith
length-promised (Fact.Heard tx outcome) = omega arith
length-promised (Fact.Adopted key version item adds) = omega arith
