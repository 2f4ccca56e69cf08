-- What is left of a fact may be added to what is left of the older ones.
use Rattle.std.proofs.Common.{◌≡◌, ◌≤◌, ◌∷◌, ◌&&◌, ◌||◌, ◌==◌, ℕ, Bool, true, false, List, [], Option, Some, None, is_some, refl, sym, ap, ◌∙◌, arith}
use Rattle.std.specs.List.{list_any}
use Rattle.std.specs.Option.{option_or}
use Rattle.std.specs.Prelude.{if◌then◌else◌, nat_le, not}
use Rattle.std.proofs.lemmas.Bool.{and_parts}
use Rattle.std.proofs.lemmas.Bool.Decides.{nat_tests}
use Rattle.mdcc_base.specs.Ballot.{ballot_eq}
use Rattle.mdcc_base.specs.Key.{key_eq}
use Rattle.mdcc_base.specs.declared.identifiers.Ballot.{Ballot}
use Rattle.mdcc_base.specs.declared.identifiers.TxId.{TxId}
use Rattle.mdcc_base.specs.declared.key.Key.{Key}
use Rattle.mdcc_struct.specs.Maps.{value_of}
use Rattle.mdcc_struct.proofs.Values.{value_of-union}
use Rattle.mdcc_struct.specs.declared.options.Options.{Options}
use Rattle.mdcc_def_messages.specs.Lengths.{fact_length}
use Rattle.mdcc_def_messages.specs.declared.facts.Fact.{Fact}
use Rattle.mdcc_def_protocol.specs.Facts.{has_floor, heard_of, is_finished, is_floor, marks_voted, outcome_in, promised_through, range_promised, votes_of}
use Rattle.mdcc_def_protocol.proofs.Plain.{finished_none}
use Rattle.mdcc_facts.specs.Adding.{MayBeAdded, is_heard_before, is_promised_before, is_voted_before, offers_unmarked, tells_of_finished}
use Rattle.mdcc_given_back.specs.Compact.{compacted}
use Rattle.mdcc_given_back.specs.Rest.{bare, is_bared, is_dropped}
use Rattle.mdcc_facts_kept.specs.Kept.{are_promised_once, are_short}
use Rattle.mdcc_facts_swept.specs.Swept.{AreSweepable}

-- ---- tests

or-none : (a b : Bool) → (a || b) ≡ false → (a ≡ false) × (b ≡ false)
or-none true b h = absurd (cc)
or-none false b h = (refl, h)

not-so : (a : Bool) → not a ≡ true → a ≡ false
not-so true h = absurd (cc)
not-so false h = refl

some-later : {X : Type 0} (a b : Option X) → is_some (option_or a b) ≡ (is_some b || is_some a)
some-later None None = refl
some-later None (Some y) = refl
some-later (Some x) None = refl
some-later (Some x) (Some y) = refl

-- ---- a question that no fact answers is answered by none of those that are left

module _ (all : List Fact) (says : Fact → Bool) (less : (fact : Fact) → says fact ≡ false → says (bare fact) ≡ false) where
  none-by : (dropped bared : Bool) (fact : Fact) (rest : List Fact) → says fact ≡ false → list_any says rest ≡ false
      → list_any says (if dropped then rest else (if bared then bare fact else fact) ∷ rest) ≡ false
  none-by true bared fact rest one none = none
  none-by false true fact rest one none = ap (λ b. b || list_any says rest) (less fact one) ∙ none
  none-by false false fact rest one none = ap (λ b. b || list_any says rest) one ∙ none

  none-left : (facts : List Fact) → list_any says facts ≡ false → list_any says (compacted all facts) ≡ false
  none-left [] none = refl
  none-left (fact ∷ facts) none =
      let parts = or-none (says fact) (list_any says facts) none in
      none-by (is_dropped all fact) (is_bared all fact) fact (compacted all facts) parts.0 (none-left facts parts.1)

-- ---- the questions

some-promised : (facts : List Fact) (key : Key) (version : ℕ) (ballot : Ballot) → is_some (promised_through facts key version ballot) ≡ list_any (λ f. is_some (range_promised key version ballot f)) facts
some-promised [] key version ballot = refl
some-promised (fact ∷ facts) key version ballot =
    some-later (promised_through facts key version ballot) (range_promised key version ballot fact)
    ∙ ap (λ b. is_some (range_promised key version ballot fact) || b) (some-promised facts key version ballot)

some-heard : (facts : List Fact) (tx : TxId) → is_some (heard_of facts tx) ≡ list_any (λ f. is_some (outcome_in tx f)) facts
some-heard [] tx = refl
some-heard (fact ∷ facts) tx = some-later (heard_of facts tx) (outcome_in tx fact) ∙ ap (λ b. is_some (outcome_in tx fact) || b) (some-heard facts tx)

some-voted : (facts : List Fact) (key : Key) (version : ℕ) (ballot : Ballot) (tx : TxId)
    → is_some (value_of (votes_of facts key version ballot) tx) ≡ list_any (λ f. is_some (value_of (marks_voted key version ballot f) tx)) facts
some-voted [] key version ballot tx = refl
some-voted (fact ∷ facts) key version ballot tx =
    ap is_some (value_of-union (votes_of facts key version ballot) (marks_voted key version ballot fact) tx)
    ∙ some-later (value_of (votes_of facts key version ballot) tx) (value_of (marks_voted key version ballot fact) tx)
    ∙ ap (λ b. is_some (value_of (marks_voted key version ballot fact) tx) || b) (some-voted facts key version ballot tx)

-- a vote without marks says no more than with them
bare-promised : (key : Key) (version : ℕ) (ballot : Ballot) (fact : Fact) → is_some (range_promised key version ballot fact) ≡ false → is_some (range_promised key version ballot (bare fact)) ≡ false
bare-promised key version ballot (Fact.Voted k v b options offered) none = refl
bare-promised key version ballot (Fact.Booted epoch) none = none
bare-promised key version ballot (Fact.Promised k low high b) none = none
bare-promised key version ballot (Fact.Heard tx outcome) none = none
bare-promised key version ballot (Fact.Adopted k v item adds) none = none
bare-promised key version ballot (Fact.Floor centre epoch seq) none = none

bare-heard : (tx : TxId) (fact : Fact) → is_some (outcome_in tx fact) ≡ false → is_some (outcome_in tx (bare fact)) ≡ false
bare-heard tx (Fact.Voted k v b options offered) none = refl
bare-heard tx (Fact.Booted epoch) none = none
bare-heard tx (Fact.Promised k low high b) none = none
bare-heard tx (Fact.Heard t outcome) none = none
bare-heard tx (Fact.Adopted k v item adds) none = none
bare-heard tx (Fact.Floor centre epoch seq) none = none

bare-voted : (key : Key) (version : ℕ) (ballot : Ballot) (tx : TxId) (fact : Fact)
    → is_some (value_of (marks_voted key version ballot fact) tx) ≡ false → is_some (value_of (marks_voted key version ballot (bare fact)) tx) ≡ false
bare-voted key version ballot tx (Fact.Voted k v b options offered) none = no-marks (v == version && ballot_eq b ballot && key_eq k key)
  where
    no-marks : (here : Bool) → is_some (value_of (if◌then◌else◌ {A = Options} here [] []) tx) ≡ false
    no-marks true = refl
    no-marks false = refl
bare-voted key version ballot tx (Fact.Booted epoch) none = none
bare-voted key version ballot tx (Fact.Promised k low high b) none = none
bare-voted key version ballot tx (Fact.Heard t outcome) none = none
bare-voted key version ballot tx (Fact.Adopted k v item adds) none = none
bare-voted key version ballot tx (Fact.Floor centre epoch seq) none = none

bare-floor : (fact : Fact) → is_floor fact ≡ false → is_floor (bare fact) ≡ false
bare-floor (Fact.Voted k v b options offered) none = refl
bare-floor (Fact.Booted epoch) none = none
bare-floor (Fact.Promised k low high b) none = none
bare-floor (Fact.Heard t outcome) none = none
bare-floor (Fact.Adopted k v item adds) none = none
bare-floor (Fact.Floor centre epoch seq) none = none

-- ---- what is left of the older facts

any-less : (P Q : TxId → Bool) → ((tx : TxId) → P tx ≡ false → Q tx ≡ false) → (options : Options) → list_any (λ e. P e.0) options ≡ false → list_any (λ e. Q e.0) options ≡ false
any-less P Q less [] none = refl
any-less P Q less (e ∷ options) none =
    let parts = or-none (P e.0) (list_any (λ e. P e.0) options) none in
    ap (λ b. b || list_any (λ e. Q e.0) options) (less e.0 parts.0) ∙ any-less P Q less options parts.1

any-none : (P : TxId → Bool) → ((tx : TxId) → P tx ≡ false) → (options : Options) → list_any (λ e. P e.0) options ≡ false
any-none P none [] = refl
any-none P none (e ∷ options) = ap (λ b. b || list_any (λ e. P e.0) options) (none e.0) ∙ any-none P none options

module _ (all facts : List Fact) where
  promised-left : (fact : Fact) → is_promised_before facts fact ≡ false → is_promised_before (compacted all facts) fact ≡ false
  promised-left (Fact.Promised key low high ballot) none =
      some-promised (compacted all facts) key low ballot
      ∙ none-left all (λ f. is_some (range_promised key low ballot f)) (bare-promised key low ballot) facts (sym (some-promised facts key low ballot) ∙ none)
  promised-left (Fact.Booted epoch) none = refl
  promised-left (Fact.Voted key version ballot options offered) none = refl
  promised-left (Fact.Heard tx outcome) none = refl
  promised-left (Fact.Adopted key version item adds) none = refl
  promised-left (Fact.Floor centre epoch seq) none = refl

  heard-left : (fact : Fact) → is_heard_before facts fact ≡ false → is_heard_before (compacted all facts) fact ≡ false
  heard-left (Fact.Heard tx outcome) none =
      some-heard (compacted all facts) tx
      ∙ none-left all (λ f. is_some (outcome_in tx f)) (bare-heard tx) facts (sym (some-heard facts tx) ∙ none)
  heard-left (Fact.Booted epoch) none = refl
  heard-left (Fact.Promised key low high ballot) none = refl
  heard-left (Fact.Voted key version ballot options offered) none = refl
  heard-left (Fact.Adopted key version item adds) none = refl
  heard-left (Fact.Floor centre epoch seq) none = refl

  unvoted-left : (key : Key) (version : ℕ) (ballot : Ballot) (tx : TxId)
      → is_some (value_of (votes_of facts key version ballot) tx) ≡ false → is_some (value_of (votes_of (compacted all facts) key version ballot) tx) ≡ false
  unvoted-left key version ballot tx none =
      some-voted (compacted all facts) key version ballot tx
      ∙ none-left all (λ f. is_some (value_of (marks_voted key version ballot f) tx)) (bare-voted key version ballot tx) facts (sym (some-voted facts key version ballot tx) ∙ none)

  voted-left : (fact : Fact) → is_voted_before facts fact ≡ false → is_voted_before (compacted all facts) fact ≡ false
  voted-left (Fact.Voted key version ballot options offered) none =
      any-less
      (λ tx. is_some (value_of (votes_of facts key version ballot) tx))
      (λ tx. is_some (value_of (votes_of (compacted all facts) key version ballot) tx))
      (unvoted-left key version ballot)
      options
      none
  voted-left (Fact.Booted epoch) none = refl
  voted-left (Fact.Promised key low high ballot) none = refl
  voted-left (Fact.Heard tx outcome) none = refl
  voted-left (Fact.Adopted key version item adds) none = refl
  voted-left (Fact.Floor centre epoch seq) none = refl

  floorless-left : has_floor facts ≡ false → has_floor (compacted all facts) ≡ false
  floorless-left none = none-left all is_floor bare-floor facts none

  untold-left : has_floor facts ≡ false → (fact : Fact) → tells_of_finished (compacted all facts) fact ≡ false
  untold-left none (Fact.Voted key version ballot options offered) = any-none (is_finished (compacted all facts)) (finished_none (compacted all facts) (floorless-left none)) options
  untold-left none (Fact.Heard tx outcome) = finished_none (compacted all facts) (floorless-left none) tx
  untold-left none (Fact.Booted epoch) = refl
  untold-left none (Fact.Promised key low high ballot) = refl
  untold-left none (Fact.Adopted key version item adds) = refl
  untold-left none (Fact.Floor centre epoch seq) = refl

-- ---- the fact

pub tail-sound : (fact : Fact) (facts : List Fact) → AreSweepable (fact ∷ facts) → AreSweepable facts
tail-sound fact facts sound = record {
  added = record {
    voted = (and_parts _ _ sound.added.voted).1;
    heard = (and_parts _ _ sound.added.heard).1;
    ordered = (and_parts _ _ sound.added.ordered).1;
    marked = (or-none (offers_unmarked fact) (list_any offers_unmarked facts) sound.added.marked).1;
    no_floor = (or-none (is_floor fact) (has_floor facts) sound.added.no_floor).1;
  };
  well_formed = sound.well_formed.1;
  promised = (and_parts (not (is_promised_before facts fact)) (are_promised_once facts) sound.promised).1;
  short = (and_parts (nat_le (fact_length fact) 2097152) (are_short facts) sound.short).1;
}

short-by : (n : ℕ) → nat_le n 2097152 ≡ true → n ≤ 2097152
short-by n h = grind (arith, nat_tests)

module _ (all facts : List Fact) (fact : Fact) (sound : AreSweepable (fact ∷ facts)) where
  may-whole : MayBeAdded (compacted all facts) fact
  may-whole = record {
    well_formed = sound.well_formed.0;
    short = short-by (fact_length fact) (and_parts (nat_le (fact_length fact) 2097152) (are_short facts) sound.short).0;
    promised = promised-left all facts fact (not-so (is_promised_before facts fact) (and_parts (not (is_promised_before facts fact)) (are_promised_once facts) sound.promised).0);
    voted = voted-left all facts fact (not-so (is_voted_before facts fact) (and_parts (not (is_voted_before facts fact)) _ sound.added.voted).0);
    heard = heard-left all facts fact (not-so (is_heard_before facts fact) (and_parts (not (is_heard_before facts fact)) _ sound.added.heard).0);
    unfinished = untold-left all facts (or-none (is_floor fact) (has_floor facts) sound.added.no_floor).1 fact;
    marked = (or-none (offers_unmarked fact) (list_any offers_unmarked facts) sound.added.marked).0;
    no_floor = (or-none (is_floor fact) (has_floor facts) sound.added.no_floor).0;
  }

may-bare : (all facts : List Fact) (fact : Fact) → AreSweepable (fact ∷ facts) → MayBeAdded (compacted all facts) (bare fact)
may-bare all facts (Fact.Voted key version ballot options offered) sound = record {
  well_formed = record {
    instance = sound.well_formed.0.instance;
    ballot_itself = sound.well_formed.0.ballot_itself;
    options_itself = record { count = omega arith; each = tt; ascending = refl };
    offered_itself = tt;
  };
  short = let fits = sound.well_formed.0.instance.key_itself.fits in omega (arith, fits);
  promised = refl;
  voted = refl;
  heard = refl;
  unfinished = refl;
  marked = refl;
  no_floor = refl;
}
may-bare all facts (Fact.Booted epoch) sound = may-whole all facts (Fact.Booted epoch) sound
may-bare all facts (Fact.Promised key low high ballot) sound = may-whole all facts (Fact.Promised key low high ballot) sound
may-bare all facts (Fact.Heard tx outcome) sound = may-whole all facts (Fact.Heard tx outcome) sound
may-bare all facts (Fact.Adopted key version item adds) sound = may-whole all facts (Fact.Adopted key version item adds) sound
may-bare all facts (Fact.Floor centre epoch seq) sound = may-whole all facts (Fact.Floor centre epoch seq) sound

pub may-left : (all facts : List Fact) (fact : Fact) → AreSweepable (fact ∷ facts) → is_dropped all fact ≡ false
    → MayBeAdded (compacted all facts) (if is_bared all fact then bare fact else fact)
may-left all facts fact sound kept = by (is_bared all fact)
  where
    by : (bared : Bool) → MayBeAdded (compacted all facts) (if bared then bare fact else fact)
    by true = may-bare all facts fact sound
    by false = may-whole all facts fact sound
