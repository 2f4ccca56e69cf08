-- What is left of facts, once all that can be is given back.
use Rattle.std.proofs.Common.{◌≡◌, ◌≤◌, ◌+◌, ◌∷◌, ◌∙◌, ℕ, Bool, true, false, List, [], None, not, is_some, length, refl, subst, sym, ap, arith, inl, inr}
use Rattle.std.specs.Option.{option_or}
use Rattle.std.specs.Prelude.{if◌then◌else◌, nat_le, ◌&&◌}
use Rattle.std.proofs.lemmas.Bool.{and_parts, cases_Bool}
use Rattle.std.proofs.lemmas.Bool.Decides.{nat_tests}
use Rattle.mdcc_base.specs.declared.identifiers.Ballot.{Ballot}
use Rattle.mdcc_base.specs.declared.key.Key.{Key}
use Rattle.mdcc_def_messages.specs.Lengths.{cells_used, fact_length}
use Rattle.mdcc_def_messages.specs.WellFormed.{IsWellFormedFact}
use Rattle.mdcc_def_messages.specs.declared.facts.Fact.{Fact}
use Rattle.mdcc_def_protocol.specs.Cells.{cells_held}
use Rattle.mdcc_def_protocol.specs.Facts.{executed_of, has_floor, is_floor, promised_through, range_promised}
use Rattle.mdcc_facts.specs.Adding.{is_promised_before}
use Rattle.mdcc_cells_facts.specs.Holding.{AreWellFormed}
use Rattle.mdcc_cells_facts.specs.Stored.{cells_taken}
use Rattle.mdcc_cells_floors.specs.Epochs.{HoldsEpochs, floors_set}
use Rattle.mdcc_cells_marked.specs.Marks.{marks_of}
use Rattle.mdcc_theorem_fact_folds.proofs.Chosen.{or_right}
use Rattle.mdcc_index.specs.Stores.{HasFactsInCells, Represents}
use Rattle.mdcc_index.proofs.Adding.{represents_few}
use Rattle.mdcc_index.proofs.Spare.{taken_used}
use Rattle.mdcc_given_back.specs.Compact.{compacted}
use Rattle.mdcc_given_back.specs.Counted.{top_floors, without_floors}
use Rattle.mdcc_given_back.specs.Rest.{bare, is_bared, is_dropped}
use Rattle.mdcc_given_back.proofs.Apart.{held_apart}
use Rattle.mdcc_given_back.proofs.Compacting.{compacted_is_rest}
use Rattle.mdcc_given_back.proofs.VersionsLeft.{executed-stays}
use Rattle.mdcc_facts_kept.specs.Kept.{IsKept, KeptRest, are_promised_once, are_short, cells_occupied}
use Rattle.mdcc_facts_kept.proofs.Asked.{executed_asked}
use Rattle.mdcc_facts_kept.proofs.More.{each-well_formed}
use Rattle.mdcc_facts_kept.proofs.WithoutFloors.{executed-same}

-- ---- floors apart

bare-floor : (fact : Fact) → is_floor (bare fact) ≡ is_floor fact
bare-floor (Fact.Booted epoch) = refl
bare-floor (Fact.Promised key low high ballot) = refl
bare-floor (Fact.Voted key version ballot options offered) = refl
bare-floor (Fact.Heard tx outcome) = refl
bare-floor (Fact.Adopted key version item adds) = refl
bare-floor (Fact.Floor centre epoch seq) = refl

floor-either : (fact : Fact) (bared : Bool) → is_floor (if bared then bare fact else fact) ≡ is_floor fact
floor-either fact true = bare-floor fact
floor-either fact false = refl

module _ (all : List Fact) where
  floor-apart : (fact : Fact) (left : List Fact) (dropped : Bool) → is_floor fact ≡ true
      → without_floors (if dropped then left else (if is_bared all fact then bare fact else fact) ∷ left) ≡ without_floors left
  floor-apart fact left true floor = refl
  floor-apart fact left false floor = rw (floor-either fact (is_bared all fact) ∙ floor) refl

  other-apart : (fact : Fact) (left : List Fact) (dropped : Bool) → is_floor fact ≡ false
      → without_floors (if dropped then left else (if is_bared all fact then bare fact else fact) ∷ left)
      ≡ (if dropped then without_floors left else (if is_bared all fact then bare fact else fact) ∷ without_floors left)
  other-apart fact left true other = refl
  other-apart fact left false other = rw (floor-either fact (is_bared all fact) ∙ other) refl

  pub apart : (facts : List Fact) → without_floors (compacted all facts) ≡ compacted all (without_floors facts)
  apart [] = refl
  apart (fact ∷ facts) = elim (cases_Bool (is_floor fact)) [
    | inl floor ↦ floor-apart fact (compacted all facts) (is_dropped all fact) floor ∙ apart facts ∙ ap (compacted all) (sym (goes fact facts floor))
    | inr other ↦
        other-apart fact (compacted all facts) (is_dropped all fact) other
        ∙ ap (λ (left : List Fact). if is_dropped all fact then left else (if is_bared all fact then bare fact else fact) ∷ left) (apart facts)
        ∙ ap (compacted all) (sym (stays fact facts other))
  ]
    where
      goes : (fact : Fact) (facts : List Fact) → is_floor fact ≡ true → without_floors (fact ∷ facts) ≡ without_floors facts
      goes fact facts floor = rw floor refl

      stays : (fact : Fact) (facts : List Fact) → is_floor fact ≡ false → without_floors (fact ∷ facts) ≡ fact ∷ without_floors facts
      stays fact facts other = rw other refl

  -- ---- promises

  passed : (key : Key) (version : ℕ) (ballot : Ballot) (fact : Fact) (left : List Fact) (dropped bared : Bool)
      → range_promised key version ballot fact ≡ None → range_promised key version ballot (bare fact) ≡ None
      → promised_through (if dropped then left else (if bared then bare fact else fact) ∷ left) key version ballot ≡ option_or (promised_through left key version ballot) None
  passed key version ballot fact left true bared none bared-none = sym (or_right (promised_through left key version ballot))
  passed key version ballot fact left false true none bared-none = ap (option_or (promised_through left key version ballot)) bared-none
  passed key version ballot fact left false false none bared-none = ap (option_or (promised_through left key version ballot)) none

  pub promised-left : (facts : List Fact) (key : Key) (version : ℕ) (ballot : Ballot) → promised_through (compacted all facts) key version ballot ≡ promised_through facts key version ballot
  promised-left [] key version ballot = refl
  promised-left (Fact.Promised k low high b ∷ facts) key version ballot =
      ap (λ o. option_or o (range_promised key version ballot (Fact.Promised k low high b))) (promised-left facts key version ballot)
  promised-left (Fact.Booted n ∷ facts) key version ballot = ap (λ o. option_or o None) (promised-left facts key version ballot)
  promised-left (Fact.Voted k v b os off ∷ facts) key version ballot =
      passed key version ballot (Fact.Voted k v b os off) (compacted all facts) (is_dropped all (Fact.Voted k v b os off)) (is_bared all (Fact.Voted k v b os off)) refl refl
      ∙ ap (λ o. option_or o None) (promised-left facts key version ballot)
  promised-left (Fact.Heard tx outcome ∷ facts) key version ballot =
      passed key version ballot (Fact.Heard tx outcome) (compacted all facts) (is_dropped all (Fact.Heard tx outcome)) false refl refl
      ∙ ap (λ o. option_or o None) (promised-left facts key version ballot)
  promised-left (Fact.Adopted k v item adds ∷ facts) key version ballot =
      passed key version ballot (Fact.Adopted k v item adds) (compacted all facts) (is_dropped all (Fact.Adopted k v item adds)) false refl refl
      ∙ ap (λ o. option_or o None) (promised-left facts key version ballot)
  promised-left (Fact.Floor c e n ∷ facts) key version ballot =
      passed key version ballot (Fact.Floor c e n) (compacted all facts) (is_dropped all (Fact.Floor c e n)) false refl refl
      ∙ ap (λ o. option_or o None) (promised-left facts key version ballot)

  pub before-left : (facts : List Fact) (fact : Fact) → is_promised_before (compacted all facts) fact ≡ is_promised_before facts fact
  before-left facts (Fact.Promised key low high ballot) = ap (λ o. is_some o) (promised-left facts key low ballot)
  before-left facts (Fact.Booted n) = refl
  before-left facts (Fact.Voted k v b os off) = refl
  before-left facts (Fact.Heard tx outcome) = refl
  before-left facts (Fact.Adopted k v item adds) = refl
  before-left facts (Fact.Floor c e n) = refl

  bare-before : (facts : List Fact) (fact : Fact) (bared : Bool) → is_promised_before facts fact ≡ false → is_promised_before facts (if bared then bare fact else fact) ≡ false
  bare-before facts fact false none = none
  bare-before facts (Fact.Promised key low high ballot) true none = none
  bare-before facts (Fact.Booted n) true none = refl
  bare-before facts (Fact.Voted k v b os off) true none = refl
  bare-before facts (Fact.Heard tx outcome) true none = refl
  bare-before facts (Fact.Adopted k v item adds) true none = refl
  bare-before facts (Fact.Floor c e n) true none = refl

  once-with : (fact : Fact) (left : List Fact) (dropped bared : Bool) → is_promised_before left fact ≡ false → are_promised_once left ≡ true
      → are_promised_once (if dropped then left else (if bared then bare fact else fact) ∷ left) ≡ true
  once-with fact left true bared none once = once
  once-with fact left false bared none once = ap (λ b. not b && are_promised_once left) (bare-before left fact bared none) ∙ once

  pub once-left : (facts : List Fact) → are_promised_once facts ≡ true → are_promised_once (compacted all facts) ≡ true
  once-left [] once = refl
  once-left (fact ∷ facts) once =
      let parts = and_parts (not (is_promised_before facts fact)) (are_promised_once facts) once in
      once-with fact (compacted all facts) (is_dropped all fact) (is_bared all fact) (before-left facts fact ∙ not-so (is_promised_before facts fact) parts.0) (once-left facts parts.1)
    where
      not-so : (b : Bool) → not b ≡ true → b ≡ false
      not-so true h = absurd (cc)
      not-so false h = refl

  -- ---- lengths

  bare-short : (fact : Fact) → IsWellFormedFact fact → is_bared all fact ≡ true → nat_le (fact_length (bare fact)) 2097152 ≡ true
  bare-short (Fact.Voted key version ballot options offered) well h = small (fact_length (Fact.Voted key version ballot [] None)) (let fits = well.instance.key_itself.fits in omega (arith, fits))
    where
      small : (n : ℕ) → n ≤ 60 → nat_le n 2097152 ≡ true
      small n h = grind (arith, nat_tests, h)
  bare-short (Fact.Promised key low high ballot) well h = absurd (cc)
  bare-short (Fact.Booted n) well h = absurd (cc)
  bare-short (Fact.Heard tx outcome) well h = absurd (cc)
  bare-short (Fact.Adopted k v item adds) well h = absurd (cc)
  bare-short (Fact.Floor c e n) well h = absurd (cc)

  short-with : (fact : Fact) (left : List Fact) (dropped bared : Bool) → (bared ≡ true → nat_le (fact_length (bare fact)) 2097152 ≡ true)
      → nat_le (fact_length fact) 2097152 ≡ true → are_short left ≡ true → are_short (if dropped then left else (if bared then bare fact else fact) ∷ left) ≡ true
  short-with fact left true bared bare-is is are = are
  short-with fact left false true bare-is is are = ap (λ b. b && are_short left) (bare-is refl) ∙ are
  short-with fact left false false bare-is is are = ap (λ b. b && are_short left) is ∙ are

  pub short-left : (facts : List Fact) → AreWellFormed facts → are_short facts ≡ true → are_short (compacted all facts) ≡ true
  short-left [] well are = refl
  short-left (fact ∷ facts) well are =
      let parts = and_parts (nat_le (fact_length fact) 2097152) (are_short facts) are in
      short-with fact (compacted all facts) (is_dropped all fact) (is_bared all fact) (bare-short fact well.0) parts.0 (short-left facts well.1 parts.1)

-- ---- the store with them

module _ (store next : KeptRest) (facts : List Fact) (kept : IsKept store facts) (has : has_floor facts ≡ true)
    (pool : HasFactsInCells next.inner (compacted facts (without_floors kept.rest))) (floors : next.floors ≡ store.floors) where
  few : (key : Key) → length (executed_of (compacted facts (without_floors kept.rest)) key) ≤ 64
  few key =
      let same : executed_of (compacted facts (without_floors kept.rest)) key ≡ executed_of (without_floors kept.rest) key =
      ap (λ (fs : List Fact). executed_of fs key) (sym (apart facts kept.rest)) ∙ executed-same (compacted facts kept.rest) key
      ∙ executed-stays (compacted facts kept.rest) facts key (compacted_is_rest facts kept.rest facts kept.is_rest) kept.added.heard
      ∙ sym (executed_asked store facts kept key) in
      subst (λ deltas. length deltas ≤ 64) (sym same) (kept.inner.few key)

  pub kept-compacted : next.marked.entries ≡ marks_of (compacted facts (without_floors kept.rest)) → next.cells ≡ store.cells → IsKept next facts
  kept-compacted marked cells =
      let inside = apart facts kept.rest in
      record {
        rest = compacted facts kept.rest;
        is_rest = compacted_is_rest facts kept.rest facts kept.is_rest;
        whole = λ none. absurd (let bad : true ≡ false = sym has ∙ none in cc);
        inner = subst (Represents next.inner) (sym inside) (represents_few next.inner (compacted facts (without_floors kept.rest)) pool few);
        marked = marked ∙ ap marks_of (sym inside);
        floors = subst (λ table. HoldsEpochs table.entries facts) (sym floors) kept.floors;
        tops = ap (λ table. floors_set table.entries) floors ∙ kept.tops;
        added = kept.added;
        promised = ap are_promised_once inside ∙ once-left facts (without_floors kept.rest) kept.promised;
        short = ap are_short inside ∙ short-left facts (without_floors kept.rest) kept.inner.cells.well_formed kept.short;
        fits = subst (λ n. cells_held facts ≤ n) (sym cells) kept.fits;
      }

  counted-as : (taken used set tops held : ℕ) → taken ≡ used → set ≡ tops → used + tops ≡ held → taken + set ≡ held
  counted-as taken used set tops held a b c = omega (arith, a, b, c)

  -- as many cells are in use as the facts hold
  pub counted : cells_occupied next ≡ cells_held facts
  counted =
      counted-as (cells_taken next.inner.cells.encodings) (cells_used (compacted facts (without_floors kept.rest))) (floors_set next.floors.entries) (top_floors facts) (cells_held facts)
      (taken_used next.inner (compacted facts (without_floors kept.rest)) pool)
      (ap (λ table. floors_set table.entries) floors ∙ kept.tops)
      (held_apart kept.rest facts has (each-well_formed (without_floors kept.rest) kept.inner.cells.well_formed) kept.is_rest)
