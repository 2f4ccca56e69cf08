-- What an ordered fact brings ascends by transaction.
use Rattle.std.proofs.Common.{◌≡◌, ℕ, Bool, true, false, List, [], ◌∷◌, Option, Some, None, refl, sym, subst, ap, ◌∙◌, arith, inl, inr}
use Rattle.std.specs.Option.{option_map}
use Rattle.std.specs.Prelude.{filter_map, if◌then◌else◌, map, nat_lt, ◌&&◌, ◌==◌}
use Rattle.std.proofs.lemmas.Bool.{and_from, and_parts, cases_Bool, eq-eqb, eqb-true, lt-ltb, ltb-true, or_cases, or_left, or_right}
use Rattle.mdcc_base.specs.Ballot.{ballot_eq}
use Rattle.mdcc_base.specs.Key.{key_eq, key_lt}
use Rattle.mdcc_base.specs.TxId.{tx_lt}
use Rattle.mdcc_base.specs.declared.identifiers.Ballot.{Ballot}
use Rattle.mdcc_base.specs.declared.identifiers.TxId.{TxId}
use Rattle.mdcc_base.specs.declared.key.Key.{Key}
use Rattle.mdcc_option.proofs.Equal.{Decides-key}
use Rattle.mdcc_option.specs.declared.choices.Choice.{Choice}
use Rattle.mdcc_option.specs.declared.choices.Mark.{Mark}
use Rattle.mdcc_option.specs.declared.choices.Outcome.{Outcome}
use Rattle.mdcc_option.specs.declared.items.Delta.{Delta}
use Rattle.mdcc_option.specs.declared.items.Update.{Update}
use Rattle.mdcc_struct.proofs.Ordered.{IsBelow, ascending-below, ascending-cons, ascending-tail}
use Rattle.mdcc_struct.specs.Maps.{TxMap, are_ascending}
use Rattle.mdcc_struct.specs.declared.options.Options.{Options}
use Rattle.mdcc_def_messages.specs.WellFormedParts.{choice_lt, delta_lt, is_ascending_by}
use Rattle.mdcc_def_messages.specs.declared.facts.Fact.{Fact}
use Rattle.mdcc_def_protocol.specs.Facts.{amounts_added, delta_given, deltas_from, live_mark, marks_voted}
use Rattle.mdcc_def_protocol.specs.Plain.{plain_live_and_void, plain_live_from}
use Rattle.mdcc_def_protocol.specs.Marks.{Amounts}
use Rattle.mdcc_theorem_fact_folds.specs.Chains.{is_choice_at}
use Rattle.mdcc_theorem_fact_folds.specs.Live.{FirstLiveOfOrdered, WellFormedAreOrdered, is_ordered}
use Rattle.mdcc_theorem_fact_folds.proofs.New.{new-beside}

pub well_formed-ordered : WellFormedAreOrdered
well_formed-ordered (Fact.Booted epoch) h = refl
well_formed-ordered (Fact.Floor origin era upto) h = refl
well_formed-ordered (Fact.Promised k low high b) h = refl
well_formed-ordered (Fact.Voted k v b options offered) h = h.options_itself.ascending
well_formed-ordered (Fact.Heard t Outcome.Abort) h = refl
well_formed-ordered (Fact.Heard t (Outcome.Commit choices)) h = h.outcome_itself.ascending
well_formed-ordered (Fact.Adopted k v item adds) h = h.ascending

if-ascends : {X : Type 0} (test : Bool) (m : TxMap X) → are_ascending m ≡ true → are_ascending (if test then m else []) ≡ true
if-ascends true m up = up
if-ascends false m up = refl

pub marks-ascend : (key : Key) (version : ℕ) (ballot : Ballot) (fact : Fact) → is_ordered fact ≡ true → are_ascending (marks_voted key version ballot fact) ≡ true
marks-ascend key version ballot (Fact.Booted epoch) h = refl
marks-ascend key version ballot (Fact.Floor origin era upto) h = refl
marks-ascend key version ballot (Fact.Promised k low high b) h = refl
marks-ascend key version ballot (Fact.Voted k v b options offered) h = if-ascends (v == version && ballot_eq b ballot && key_eq k key) options h
marks-ascend key version ballot (Fact.Heard t outcome) h = refl
marks-ascend key version ballot (Fact.Adopted k v item adds) h = refl

-- ---- accepted marks

live-below : (t : TxId) (m : Options) → IsBelow t m → IsBelow t (filter_map live_mark m)
live-below t [] h = tt
live-below t ((tx, Mark.Accept choice) ∷ es) h = (h.0, live-below t es h.1)
live-below t ((tx, Mark.Reject) ∷ es) h = live-below t es h.1

live-ascend : (m : Options) → are_ascending m ≡ true → are_ascending (filter_map live_mark m) ≡ true
live-ascend [] up = refl
live-ascend ((tx, Mark.Accept choice) ∷ es) up =
    ascending-cons (tx, choice.update) (filter_map live_mark es)
    (live-below tx es (ascending-below (tx, Mark.Accept choice) es up)) (live-ascend es (ascending-tail (tx, Mark.Accept choice) es up))
live-ascend ((tx, Mark.Reject) ∷ es) up = live-ascend es (ascending-tail (tx, Mark.Reject) es up)

-- ---- deltas

abbrev add_of : TxId × Amounts → TxId × Update
add_of e = (e.0, Update.Add e.1)

adds-ascend : (m : TxMap Amounts) → are_ascending (map add_of m) ≡ are_ascending m
adds-ascend [] = refl
adds-ascend (e ∷ []) = refl
adds-ascend (e ∷ f ∷ es) = ap (λ b. tx_lt e.0 f.0 && b) (adds-ascend (f ∷ es))

abbrev pair_of : Delta → TxId × Amounts
pair_of delta = (delta.tx, delta.amounts)

adopted-ascend : (adds : List Delta) → are_ascending (map pair_of adds) ≡ is_ascending_by delta_lt adds
adopted-ascend [] = refl
adopted-ascend (a ∷ []) = refl
adopted-ascend (a ∷ b ∷ adds) = ap (λ t. tx_lt a.tx b.tx && t) (adopted-ascend (b ∷ adds))

-- ---- a commit has one choice of an instance

pub lt-irrefl : (a : Key) → key_lt a a ≡ true → ⊥
lt-irrefl [] h = cc
lt-irrefl (x ∷ xs) h =
    elim (or_cases (nat_lt x x) (x == x && key_lt xs xs) h) [
      | inl e ↦ omega (arith, ltb-true x x e)
      | inr e ↦ lt-irrefl xs (and_parts (x == x) (key_lt xs xs) e).1
    ]

lt-trans : (a b c : Key) → key_lt a b ≡ true → key_lt b c ≡ true → key_lt a c ≡ true
lt-trans [] b [] h g = nothing b g
  where
    nothing : (b : Key) → key_lt b [] ≡ true → key_lt [] [] ≡ true
    nothing [] g = g
    nothing (y ∷ ys) g = absurd (cc)
lt-trans [] b (z ∷ zs) h g = refl
lt-trans (x ∷ xs) [] c h g = absurd (cc)
lt-trans (x ∷ xs) (y ∷ ys) [] h g = absurd (cc)
lt-trans (x ∷ xs) (y ∷ ys) (z ∷ zs) h g =
    elim (or_cases (nat_lt x y) (x == y && key_lt xs ys) h) [
      | inl e ↦ elim (or_cases (nat_lt y z) (y == z && key_lt ys zs) g) [
        | inl f ↦ or_left (nat_lt x z) _ (lt-ltb x z (omega (arith, ltb-true x y e, ltb-true y z f)))
        | inr f ↦ or_left (nat_lt x z) _ (lt-ltb x z (omega (arith, ltb-true x y e, eqb-true y z (and_parts (y == z) _ f).0)))
      ]
      | inr e ↦ elim (or_cases (nat_lt y z) (y == z && key_lt ys zs) g) [
        | inl f ↦ or_left (nat_lt x z) _ (lt-ltb x z (omega (arith, eqb-true x y (and_parts (x == y) _ e).0, ltb-true y z f)))
        | inr f ↦ or_right (nat_lt x z) _ (and_from (x == z) (key_lt xs zs)
            (eq-eqb x z (eqb-true x y (and_parts (x == y) _ e).0 ∙ eqb-true y z (and_parts (y == z) _ f).0))
            (lt-trans xs ys zs (and_parts (x == y) _ e).1 (and_parts (y == z) _ f).1))
      ]
    ]

-- all choices are of keys above
abbrev pub IsKeyBelow : Key → List Choice → Type 0
IsKeyBelow key [] = Unit {0}
IsKeyBelow key (c ∷ cs) = (key_lt key c.key ≡ true) × IsKeyBelow key cs

key-below : (a b : Key) (cs : List Choice) → key_lt a b ≡ true → IsKeyBelow b cs → IsKeyBelow a cs
key-below a b [] less h = tt
key-below a b (c ∷ cs) less h = (lt-trans a b c.key less h.0, key-below a b cs less h.1)

pub choices-tail : (c : Choice) (cs : List Choice) → is_ascending_by choice_lt (c ∷ cs) ≡ true → is_ascending_by choice_lt cs ≡ true
choices-tail c [] h = refl
choices-tail c (d ∷ ds) h = (and_parts (key_lt c.key d.key) (is_ascending_by choice_lt (d ∷ ds)) h).1

pub choices-below : (c : Choice) (cs : List Choice) → is_ascending_by choice_lt (c ∷ cs) ≡ true → IsKeyBelow c.key cs
choices-below c [] h = tt
choices-below c (d ∷ ds) h =
    let parts = and_parts (key_lt c.key d.key) (is_ascending_by choice_lt (d ∷ ds)) h in
    (parts.0, key-below c.key d.key ds parts.0 (choices-below d ds parts.1))

none_above : (key : Key) (version : ℕ) (cs : List Choice) → IsKeyBelow key cs → filter_map (delta_given key version) cs ≡ []
none_above key version [] h = refl
none_above key version (c ∷ cs) h =
    elim (cases_Bool (is_choice_at key version c)) [
      | inl here ↦
          let parts = and_parts (c.version == version) (key_eq c.key key) here in
          let same : c.key ≡ key = (Decides-key c.key key).0 parts.1 in
          absurd (lt-irrefl key (ap (key_lt key) (sym same) ∙ h.0))
      | inr other ↦ rw other (none_above key version cs h.1)
    ]

given_one : (tx : TxId) (o : Option Amounts) → are_ascending (filter_map (λ (p : Option (TxId × Amounts)). p) (option_map (λ amounts. (tx, amounts)) o ∷ [])) ≡ true
given_one tx None = refl
given_one tx (Some amounts) = refl

given-ascend : (key : Key) (version : ℕ) (cs : List Choice) → is_ascending_by choice_lt cs ≡ true → are_ascending (filter_map (delta_given key version) cs) ≡ true
given-ascend key version [] up = refl
given-ascend key version (c ∷ cs) up =
    elim (cases_Bool (is_choice_at key version c)) [
      | inl here ↦
          let parts = and_parts (c.version == version) (key_eq c.key key) here in
          let same : c.key ≡ key = (Decides-key c.key key).0 parts.1 in
          let none : filter_map (delta_given key version) cs ≡ [] = none_above key version cs (subst (λ k. IsKeyBelow k cs) same (choices-below c cs up)) in
          rw (here, none) (given_one c.tx (amounts_added c.update))
      | inr other ↦ rw other (given-ascend key version cs (choices-tail c cs up))
    ]

pub deltas-ascend : (key : Key) (version : ℕ) (fact : Fact) → is_ordered fact ≡ true → are_ascending (deltas_from key version fact) ≡ true
deltas-ascend key version (Fact.Booted epoch) h = refl
deltas-ascend key version (Fact.Floor origin era upto) h = refl
deltas-ascend key version (Fact.Promised k low high b) h = refl
deltas-ascend key version (Fact.Voted k v b options offered) h = refl
deltas-ascend key version (Fact.Heard t Outcome.Abort) h = refl
deltas-ascend key version (Fact.Heard t (Outcome.Commit choices)) h = given-ascend key version choices h
deltas-ascend key version (Fact.Adopted k v item adds) h = if-ascends (v == version && key_eq k key) (map pair_of adds) (adopted-ascend adds ∙ h)

pub live_from-ascend : (key : Key) (version : ℕ) (fact : Fact) → is_ordered fact ≡ true → are_ascending (plain_live_from key version fact) ≡ true
live_from-ascend key version (Fact.Booted epoch) h = refl
live_from-ascend key version (Fact.Floor origin era upto) h = refl
live_from-ascend key version (Fact.Promised k low high b) h = refl
live_from-ascend key version (Fact.Voted k v b options offered) h = if-ascends (v == version && key_eq k key) (filter_map live_mark options) (live-ascend options h)
live_from-ascend key version (Fact.Heard t Outcome.Abort) h = refl
live_from-ascend key version (Fact.Heard t (Outcome.Commit choices)) h =
    adds-ascend (filter_map (delta_given key version) choices) ∙ deltas-ascend key version (Fact.Heard t (Outcome.Commit choices)) h
live_from-ascend key version (Fact.Adopted k v item adds) h =
    adds-ascend (deltas_from key version (Fact.Adopted k v item adds)) ∙ deltas-ascend key version (Fact.Adopted k v item adds) h

pub first-live : FirstLiveOfOrdered
first-live older key version fact h = new-beside (plain_live_and_void older key version) (plain_live_from key version fact) (live_from-ascend key version fact h)
