-- What is left of facts, with one fact more.
use Rattle.std.proofs.Common.{◌≡◌, ◌≤◌, ◌+◌, ◌-◌, ◌*◌, ◌++◌, ◌∷◌, ◌∙◌, ℕ, Bool, true, false, List, [], not, is_some, length, refl, subst, sym, ap, zero-add, length-append, arith, inl, inr}
use Rattle.std.specs.List.{AllByRecursion, list_any}
use Rattle.std.specs.Prelude.{if◌then◌else◌, nat_le, nat_lt, ◌==◌, ◌&&◌, ◌||◌}
use Rattle.std.proofs.lemmas.Bool.{cases_Bool}
use Rattle.std.proofs.lemmas.Bool.Decides.{nat_tests}
use Rattle.mdcc_base.specs.Counts.{sum_over}
use Rattle.mdcc_base.specs.declared.identifiers.Ballot.{Ballot}
use Rattle.mdcc_struct.specs.Maps.{TxMap, are_ascending, value_of}
use Rattle.mdcc_struct.specs.declared.options.Options.{Options}
use Rattle.mdcc_base.specs.declared.key.Key.{Key}
use Rattle.mdcc_def_messages.specs.Lengths.{cells_needed, cells_used, fact_length}
use Rattle.mdcc_def_messages.specs.WellFormed.{IsWellFormedFact}
use Rattle.mdcc_def_messages.specs.declared.facts.Fact.{Fact}
use Rattle.mdcc_def_protocol.specs.Cells.{cells_held, cells_left}
use Rattle.mdcc_def_protocol.specs.Facts.{floor_of, has_floor, is_finished, is_floor, promised_through}
use Rattle.mdcc_def_protocol.specs.News.{is_crowding}
use Rattle.mdcc_def_protocol.proofs.Plain.{cells_plain, finished_none}
use Rattle.mdcc_facts.specs.Adding.{MayBeAdded, is_heard_before, is_promised_before, is_voted_before, offers_unmarked, tells_of_finished}
use Rattle.mdcc_cells_facts.specs.Holding.{AreWellFormed}
use Rattle.mdcc_cells_facts.specs.Stored.{cells_taken}
use Rattle.mdcc_cells_floors.specs.Epochs.{HoldsEpochs, floor_in, floors_set, sets_first_in, with_fact}
use Rattle.mdcc_cells_floors.proofs.Counted.{set-more}
use Rattle.mdcc_cells_marked.specs.Marks.{marks_of, marks_of_fact}
use Rattle.mdcc_theorem_fact_folds.specs.Outcomes.{are_heard_once}
use Rattle.mdcc_index.specs.Stores.{HasFactsInCells, Represents}
use Rattle.mdcc_index.proofs.Adding.{facts_in_cells, represents_more}
use Rattle.mdcc_index.proofs.Spare.{taken_used}
use Rattle.mdcc_given_back.specs.Compact.{compacted}
use Rattle.mdcc_given_back.specs.Counted.{are_risen, is_risen, sets_first, top_floors, without_floors}
use Rattle.mdcc_given_back.proofs.Apart.{held_apart}
use Rattle.mdcc_given_back.proofs.Compacting.{left-within, used-left}
use Rattle.mdcc_given_back.proofs.Counting.{held_within_needed}
use Rattle.mdcc_given_back.proofs.Growing.{rests_grow}
use Rattle.mdcc_given_back.proofs.Tops.{top_floors_rise}
use Rattle.mdcc_given_back.proofs.Untold.{unheard-by-rest, unvoted-by-rest}
use Rattle.mdcc_facts_kept.specs.Adding.{MayBeSwept}
use Rattle.mdcc_facts_kept.specs.Kept.{AreSwept, IsKept, KeptRest, are_promised_once, are_short, cells_occupied}
use Rattle.mdcc_facts_kept.proofs.Asked.{range_asked}
use Rattle.mdcc_facts_kept.proofs.FloorsSet.{other-first, told-more}
use Rattle.mdcc_facts_kept.proofs.WithoutFloors.{heard-same, votes-same}

-- ---- cells

pub each-well_formed : (facts : List Fact) → AreWellFormed facts → AllByRecursion IsWellFormedFact facts
each-well_formed [] well = tt
each-well_formed (fact ∷ facts) well = (well.0, each-well_formed facts well.1)

no-floors : (facts : List Fact) → has_floor facts ≡ false → without_floors facts ≡ facts
no-floors [] none = refl
no-floors (Fact.Floor c e n ∷ facts) none = absurd (cc)
no-floors (Fact.Booted n ∷ facts) none = ap (λ (fs : List Fact). Fact.Booted n ∷ fs) (no-floors facts none)
no-floors (Fact.Promised k l g b ∷ facts) none = ap (λ (fs : List Fact). Fact.Promised k l g b ∷ fs) (no-floors facts none)
no-floors (Fact.Voted k v b os off ∷ facts) none = ap (λ (fs : List Fact). Fact.Voted k v b os off ∷ fs) (no-floors facts none)
no-floors (Fact.Heard tx outcome ∷ facts) none = ap (λ (fs : List Fact). Fact.Heard tx outcome ∷ fs) (no-floors facts none)
no-floors (Fact.Adopted k v item adds ∷ facts) none = ap (λ (fs : List Fact). Fact.Adopted k v item adds ∷ fs) (no-floors facts none)

add-within : (a b c d : ℕ) → a ≤ c → b ≤ d → a + b ≤ c + d
add-within a b c d h k = omega (arith, h, k)

left-in-used : (all facts : List Fact) → sum_over (cells_left all) facts ≤ cells_used facts
left-in-used all [] = omega arith
left-in-used all (fact ∷ facts) = add-within (cells_left all fact) (sum_over (cells_left all) facts) (cells_needed fact) (cells_used facts) (left-within all fact) (left-in-used all facts)

within-apart : (held used taken tops set left : ℕ) → left + tops ≡ held → left ≤ used → taken ≡ used → set ≡ tops → held ≤ taken + set
within-apart held used taken tops set left a b c d = omega (arith, a, b, c, d)

within-plain : (held used taken set : ℕ) → held ≡ used → taken ≡ used → held ≤ taken + set
within-plain held used taken set a b = omega (arith, a, b)

-- what is in use is what is held, and what may be given back
pub held-in-use : (store : KeptRest) (facts : List Fact) (kept : IsKept store facts) → cells_held facts ≤ cells_occupied store
held-in-use store facts kept = elim (cases_Bool (has_floor facts)) [
  | inl has ↦
      let well = each-well_formed (without_floors kept.rest) kept.inner.cells.well_formed in
      within-apart (cells_held facts) (cells_used (without_floors kept.rest)) (cells_taken store.inner.cells.encodings) (top_floors facts) (floors_set store.floors.entries)
      (cells_used (compacted facts (without_floors kept.rest))) (held_apart kept.rest facts has well kept.is_rest)
      (subst (λ n. n ≤ cells_used (without_floors kept.rest)) (sym (used-left facts (without_floors kept.rest) well)) (left-in-used facts (without_floors kept.rest)))
      (taken_used store.inner (without_floors kept.rest) (facts_in_cells store.inner (without_floors kept.rest) kept.inner)) kept.tops
  | inr none ↦
      within-plain (cells_held facts) (cells_used (without_floors kept.rest)) (cells_taken store.inner.cells.encodings) (floors_set store.floors.entries)
      (cells_plain facts none ∙ ap cells_used (sym (ap without_floors (kept.whole none) ∙ no-floors facts none)))
      (taken_used store.inner (without_floors kept.rest) (facts_in_cells store.inner (without_floors kept.rest) kept.inner))
]

held-more : (held used needed more cells : ℕ) → more ≤ held + needed → held ≤ used → used + needed ≤ cells → more ≤ cells
held-more held used needed more cells a b c = omega (arith, a, b, c)

pub fits-more : (store : KeptRest) (facts : List Fact) (fact : Fact) → IsKept store facts → MayBeSwept facts fact → cells_occupied store + cells_needed fact ≤ store.cells
    → cells_held (fact ∷ facts) ≤ store.cells
fits-more store facts fact kept may fits =
    held-more (cells_held facts) (cells_occupied store) (cells_needed fact) (cells_held (fact ∷ facts)) store.cells (held_within_needed fact facts may.unfinished)
    (held-in-use store facts kept) fits

-- ---- what is known of the facts

less-or-not : (a b : ℕ) → a ≤ b → nat_le a b ≡ true
less-or-not a b h = grind (arith, nat_tests, h)

pub swept-more : (facts : List Fact) (fact : Fact) → AreSwept facts → MayBeSwept facts fact → AreSwept (fact ∷ facts)
swept-more facts fact are may = record {
  heard = ap (λ b. not b && are_heard_once facts) may.heard ∙ are.heard;
  marked = ap (λ b. b || list_any offers_unmarked facts) may.marked ∙ are.marked;
  risen = ap (λ b. b && are_risen facts) may.risen ∙ are.risen;
  told = told-more facts are.told fact may.told;
}

pub short-more : (facts : List Fact) (fact : Fact) → fact_length fact ≤ 2097152 → are_short facts ≡ true → are_short (fact ∷ facts) ≡ true
short-more facts fact short are = ap (λ b. b && are_short facts) (less-or-not (fact_length fact) 2097152 short) ∙ are

promised-same : (old new : List Fact) (fact : Fact) → ((key : Key) (version : ℕ) (ballot : Ballot) → promised_through old key version ballot ≡ promised_through new key version ballot)
    → is_promised_before old fact ≡ is_promised_before new fact
promised-same old new (Fact.Promised key low high ballot) same = ap (λ o. is_some o) (same key low ballot)
promised-same old new (Fact.Booted n) same = refl
promised-same old new (Fact.Voted k v b os off) same = refl
promised-same old new (Fact.Heard tx outcome) same = refl
promised-same old new (Fact.Adopted k v item adds) same = refl
promised-same old new (Fact.Floor c e n) same = refl

pub unpromised : (store : KeptRest) (facts : List Fact) (fact : Fact) (kept : IsKept store facts) → is_promised_before facts fact ≡ false → is_promised_before (without_floors kept.rest) fact ≡ false
unpromised store facts fact kept none = promised-same (without_floors kept.rest) facts fact (range_asked store facts kept) ∙ none

pub promised-more : (facts : List Fact) (fact : Fact) → is_promised_before facts fact ≡ false → are_promised_once facts ≡ true → are_promised_once (fact ∷ facts) ≡ true
promised-more facts fact none once = ap (λ b. not b && are_promised_once facts) none ∙ once

-- ---- it may be added to what is left

unfinished-plain : (facts : List Fact) (fact : Fact) → has_floor facts ≡ false → tells_of_finished facts fact ≡ false
unfinished-plain facts (Fact.Voted key version ballot options offered) none = never options
  where
    never : (options : Options) → list_any (λ e. is_finished facts e.0) options ≡ false
    never [] = refl
    never (e ∷ es) = rw (finished_none facts none e.0) (never es)
unfinished-plain facts (Fact.Heard tx outcome) none = finished_none facts none tx
unfinished-plain facts (Fact.Booted n) none = refl
unfinished-plain facts (Fact.Promised k l g b) none = refl
unfinished-plain facts (Fact.Adopted k v item adds) none = refl
unfinished-plain facts (Fact.Floor c e n) none = refl

unvoted-same : (facts : List Fact) (fact : Fact) → is_voted_before (without_floors facts) fact ≡ is_voted_before facts fact
unvoted-same facts (Fact.Voted key version ballot options offered) = ap (λ (votes : Options). list_any (λ e. is_some (value_of votes e.0)) options) (votes-same facts key version ballot)
unvoted-same facts (Fact.Heard tx outcome) = refl
unvoted-same facts (Fact.Booted n) = refl
unvoted-same facts (Fact.Promised k l g b) = refl
unvoted-same facts (Fact.Adopted k v item adds) = refl
unvoted-same facts (Fact.Floor c e n) = refl

unheard-same : (facts : List Fact) (fact : Fact) → is_heard_before (without_floors facts) fact ≡ is_heard_before facts fact
unheard-same facts (Fact.Heard tx outcome) = ap (λ o. is_some o) (heard-same facts tx)
unheard-same facts (Fact.Voted key version ballot options offered) = refl
unheard-same facts (Fact.Booted n) = refl
unheard-same facts (Fact.Promised k l g b) = refl
unheard-same facts (Fact.Adopted k v item adds) = refl
unheard-same facts (Fact.Floor c e n) = refl

pub may-inside : (store : KeptRest) (facts : List Fact) (fact : Fact) (kept : IsKept store facts) → MayBeSwept facts fact → is_floor fact ≡ false → MayBeAdded (without_floors kept.rest) fact
may-inside store facts fact kept may other = record {
  well_formed = may.well_formed;
  short = may.short;
  promised = unpromised store facts fact kept may.promised;
  voted = unvoted-same kept.rest fact ∙ unvoted-by-rest kept.rest facts fact kept.is_rest may.voted;
  heard = unheard-same kept.rest fact ∙ unheard-by-rest kept.rest facts fact kept.is_rest may.heard;
  unfinished = unfinished-plain (without_floors kept.rest) fact kept.inner.added.no_floor;
  marked = may.marked;
  no_floor = other;
}

-- ---- with one more

first-more : (facts : List Fact) (fact : Fact) → has_floor (fact ∷ facts) ≡ false → has_floor facts ≡ false
first-more facts fact none = elim (cases_Bool (is_floor fact)) [
  | inl floor ↦ absurd (let bad : true ≡ false = rw floor at none in cc)
  | inr other ↦ rw other at none
]

other-stays : (facts : List Fact) (fact : Fact) → is_floor fact ≡ false → without_floors (fact ∷ facts) ≡ fact ∷ without_floors facts
other-stays facts fact other = rw other refl

floor-goes : (facts : List Fact) (fact : Fact) → is_floor fact ≡ true → without_floors (fact ∷ facts) ≡ without_floors facts
floor-goes facts fact floor = rw floor refl

module _ (store next : KeptRest) (facts : List Fact) (fact : Fact) (kept : IsKept store facts) (may : MayBeSwept facts fact) (cells : next.cells ≡ store.cells)
    (fits : cells_occupied store + cells_needed fact ≤ store.cells) (holds : HoldsEpochs next.floors.entries (fact ∷ facts)) where
  -- of any fact but a floor
  pub kept-other : (other : is_floor fact ≡ false) → is_crowding (without_floors kept.rest) fact ≡ false → HasFactsInCells next.inner (fact ∷ without_floors kept.rest)
      → next.marked.entries ≡ marks_of_fact fact ++ store.marked.entries → floors_set next.floors.entries ≡ floors_set store.floors.entries → IsKept next (fact ∷ facts)
  kept-other other few has marks set =
      let inside : without_floors (fact ∷ kept.rest) ≡ fact ∷ without_floors kept.rest = other-stays kept.rest fact other in
      record {
        rest = fact ∷ kept.rest;
        is_rest = rests_grow fact kept.rest facts may.unfinished kept.is_rest;
        whole = λ none. ap (λ (fs : List Fact). fact ∷ fs) (kept.whole (first-more facts fact none));
        inner = subst (Represents next.inner) (sym inside) (represents_more store.inner next.inner (without_floors kept.rest) fact has few kept.inner);
        marked = marks ∙ ap (λ es. marks_of_fact fact ++ es) kept.marked ∙ sym (ap marks_of inside);
        floors = holds;
        tops =
            set ∙ kept.tops
            ∙ sym
            (top_floors_rise fact facts may.risen kept.added.risen ∙ ap (λ (b : Bool). (if b then 1 else 0) + top_floors facts) (other-first facts fact other)
            ∙ zero-add (top_floors facts));
        added = swept-more facts fact kept.added may;
        promised = ap are_promised_once inside ∙ promised-more (without_floors kept.rest) fact (unpromised store facts fact kept may.promised) kept.promised;
        short = ap are_short inside ∙ short-more (without_floors kept.rest) fact may.short kept.short;
        fits = subst (λ n. cells_held (fact ∷ facts) ≤ n) (sym cells) (fits-more store facts fact kept may fits);
      }

  -- of a floor
  pub kept-floor : is_floor fact ≡ true → next.inner ≡ store.inner → next.marked ≡ store.marked
      → floors_set next.floors.entries ≡ (if sets_first facts fact then 1 else 0) + floors_set store.floors.entries → IsKept next (fact ∷ facts)
  kept-floor floor inner marked set =
      let inside : without_floors (fact ∷ kept.rest) ≡ without_floors kept.rest = floor-goes kept.rest fact floor in
      record {
        rest = fact ∷ kept.rest;
        is_rest = rests_grow fact kept.rest facts may.unfinished kept.is_rest;
        whole = λ none. ap (λ (fs : List Fact). fact ∷ fs) (kept.whole (first-more facts fact none));
        inner = subst (Represents next.inner) (sym inside) (subst (λ pool. Represents pool (without_floors kept.rest)) (sym inner) kept.inner);
        marked = ap (λ m. m.entries) marked ∙ kept.marked ∙ sym (ap marks_of inside);
        floors = holds;
        tops = set ∙ ap (λ n. (if sets_first facts fact then 1 else 0) + n) kept.tops ∙ sym (top_floors_rise fact facts may.risen kept.added.risen);
        added = swept-more facts fact kept.added may;
        promised = ap are_promised_once inside ∙ kept.promised;
        short = ap are_short inside ∙ kept.short;
        fits = subst (λ n. cells_held (fact ∷ facts) ≤ n) (sym cells) (fits-more store facts fact kept may fits);
      }

-- ---- floors

other-first-in : (epochs : TxMap ℕ) (fact : Fact) → is_floor fact ≡ false → sets_first_in epochs fact ≡ false
other-first-in epochs (Fact.Floor centre epoch seq) other = absurd (cc)
other-first-in epochs (Fact.Booted n) other = refl
other-first-in epochs (Fact.Promised k l g b) other = refl
other-first-in epochs (Fact.Voted k v b os off) other = refl
other-first-in epochs (Fact.Heard tx outcome) other = refl
other-first-in epochs (Fact.Adopted k v item adds) other = refl

pub floors-other : (epochs : TxMap ℕ) (fact : Fact) → are_ascending epochs ≡ true → is_floor fact ≡ false → floors_set (with_fact epochs fact) ≡ floors_set epochs
floors-other epochs fact up other =
    set-more epochs fact up ∙ ap (λ (b : Bool). (if b then 1 else 0) + floors_set epochs) (other-first-in epochs fact other) ∙ zero-add (floors_set epochs)

above-zero : (floor seq : ℕ) → nat_lt floor seq ≡ true → nat_lt 0 seq ≡ true
above-zero floor seq less = grind (arith, nat_tests, less)

and-true : (a b : Bool) → b ≡ true → (a && b) ≡ a
and-true true b h = h
and-true false b h = refl

first-in : (epochs : TxMap ℕ) (facts : List Fact) (fact : Fact) → HoldsEpochs epochs facts → is_risen facts fact ≡ true → sets_first_in epochs fact ≡ sets_first facts fact
first-in epochs facts (Fact.Floor centre epoch seq) holds risen =
    and-true (floor_in epochs centre epoch == 0) (nat_lt 0 seq) (above-zero (floor_of facts centre epoch) seq risen) ∙ ap (λ n. n == 0) (holds.floors centre epoch)
first-in epochs facts (Fact.Booted n) holds risen = refl
first-in epochs facts (Fact.Promised k l g b) holds risen = refl
first-in epochs facts (Fact.Voted k v b os off) holds risen = refl
first-in epochs facts (Fact.Heard tx outcome) holds risen = refl
first-in epochs facts (Fact.Adopted k v item adds) holds risen = refl

pub floors-risen : (epochs : TxMap ℕ) (facts : List Fact) (fact : Fact) → HoldsEpochs epochs facts → is_risen facts fact ≡ true
    → floors_set (with_fact epochs fact) ≡ (if sets_first facts fact then 1 else 0) + floors_set epochs
floors-risen epochs facts fact holds risen =
    set-more epochs fact holds.ascending ∙ ap (λ (b : Bool). (if b then 1 else 0) + floors_set epochs) (first-in epochs facts fact holds risen)

-- ---- sizes

pub marks-fit : {X : Type 0} (new old marks : List X) (spare left needed room : ℕ) → new ≡ marks ++ old → length marks ≤ 6 * needed → left + needed ≡ spare
    → length old + 6 * spare ≤ room → length new + 6 * left ≤ room
marks-fit new old marks spare left needed room is few used fits =
    let long : length new ≡ length marks + length old = ap length is ∙ length-append marks old in
    omega (arith, long, few, used, fits)

pub used-more : (spare taken left more needed set later : ℕ) → left + more ≡ spare + taken → left + needed ≡ spare → later ≡ set → more + later ≡ (taken + set) + needed
used-more spare taken left more needed set later cells used same = omega (arith, cells, used, same)

pub room-held : (needed asked spare cells used held : ℕ) → asked ≤ spare → asked ≡ needed → spare ≡ cells - used → held ≤ used → needed ≤ cells - held
room-held needed asked spare cells used held within is left less = omega (arith, within, is, left, less)

-- ---- no facts

pub none-kept : (store : KeptRest) → Represents store.inner [] → store.marked.entries ≡ [] → HoldsEpochs store.floors.entries [] → store.floors.entries ≡ [] → IsKept store []
none-kept store inner marked holds floors = record {
  rest = [];
  is_rest = tt;
  whole = λ none. refl;
  inner = inner;
  marked = marked;
  floors = holds;
  tops = ap floors_set floors;
  added = record {
    heard = refl;
    marked = refl;
    risen = refl;
    told = λ tx finished. absurd (let bad : false ≡ true = sym (finished_none [] refl tx) ∙ finished in cc);
  };
  promised = refl;
  short = refl;
  fits = omega arith;
}
