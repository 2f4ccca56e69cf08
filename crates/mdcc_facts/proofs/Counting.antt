-- How many transactions two structures have in common, and how votes add up.
use Rattle.std.proofs.Common.{◌≡◌, ℕ, ◌+◌, ◌≤◌, ◌<◌, ◌^◌, Bool, true, false, List, [], ◌∷◌, ◌++◌, Option, Some, None, drop, get_or, is_some, length, min, refl, reverse, sym, take, ap, ◌∙◌, arith, inl, inr, zero-add}
use Rattle.std.specs.List.{list_any}
use Rattle.std.specs.Option.{option_or}
use Rattle.std.specs.Prelude.{if◌then◌else◌, not, slice_get, ◌&&◌, ◌==◌}
use Rattle.std.proofs.lemmas.Bool.{and_parts, cases_Bool, eqb-true}
use Rattle.std.proofs.lemmas.List.{reverse-append, take-append-drop}
use Rattle.mdcc_base.specs.Counts.{number_of}
use Rattle.mdcc_base.specs.Ballot.{ballot_eq}
use Rattle.mdcc_base.specs.Key.{key_eq}
use Rattle.mdcc_base.specs.TxId.{tx_eq}
use Rattle.mdcc_base.specs.declared.identifiers.Ballot.{Ballot}
use Rattle.mdcc_base.specs.declared.identifiers.TxId.{TxId}
use Rattle.mdcc_base.specs.declared.key.Key.{Key}
use Rattle.mdcc_option.proofs.Equal.{Decides-key}
use Rattle.mdcc_struct.proofs.Order.{tx_eq-same, tx_eq-sym}
use Rattle.mdcc_struct.proofs.Ordered.{ascending-below, ascending-tail, value_of-below}
use Rattle.mdcc_struct.proofs.Values.{value_of-union}
use Rattle.mdcc_struct.proofs.Walks.{drop-get}
use Rattle.mdcc_struct.proofs.Votes.{ballot_eq-same}
use Rattle.mdcc_struct.specs.Maps.{TxMap, are_ascending, union, value_of}
use Rattle.mdcc_struct.specs.declared.options.Options.{Options}
use Rattle.mdcc_facts.specs.Adding.{is_voted_before}
use Rattle.mdcc_facts.specs.Listed.{are_voted_once}
use Rattle.mdcc_facts.proofs.Gathered.{reverse-next}
use Rattle.mdcc_def_protocol.specs.Facts.{marks_voted, votes_of}
use Rattle.mdcc_def_protocol.specs.Stores.{count_voted}
use Rattle.mdcc_def_messages.specs.declared.facts.Fact.{Fact}

abbrev pub bit : Bool → ℕ
bit test = if test then 1 else 0

-- a map has the transaction of an entry
abbrev pub has : {X Y : Type 0} → TxMap X → TxId × Y → Bool
has m e = is_some (value_of m e.0)

pub number-within : {X : Type 0} (p : X → Bool) (xs : List X) → number_of p xs ≤ length xs
number-within p [] = omega arith
number-within p (x ∷ xs) =
    elim (cases_Bool (p x)) [
      | inl passes ↦ rw passes (omega (arith, number-within p xs))
      | inr fails ↦ rw fails (omega (arith, number-within p xs))
    ]

-- one more item
module _ {X : Type 0} (p : X → Bool) (xs : List X) (i : ℕ) (x : X) (at : slice_get xs i ≡ Some x) (count : ℕ) (so_far : count + number_of p (drop i xs) ≡ number_of p xs) where
  pub number-passes : p x ≡ true → count + 1 + number_of p (drop (i + 1) xs) ≡ number_of p xs
  number-passes passes =
      let here : count + (1 + number_of p (drop (i + 1) xs)) ≡ number_of p xs = rw (drop-get xs i x at, passes) at so_far in
      omega arith

  pub number-fails : p x ≡ false → count + number_of p (drop (i + 1) xs) ≡ number_of p xs
  number-fails fails =
      let here : count + (0 + number_of p (drop (i + 1) xs)) ≡ number_of p xs = rw (drop-get xs i x at, fails) at so_far in
      omega arith

  pub number-room : length xs < 2 ^ 64 → p x ≡ true → count + 1 < 2 ^ 64
  number-room room passes = omega (arith, number-passes passes, number-within p xs)

-- ---- the same count from either side

count-one : {Y : Type 0} (t : TxId) (b : TxMap Y) → are_ascending b ≡ true → number_of (λ e. tx_eq t e.0) b ≡ bit (is_some (value_of b t))
count-one t [] up = refl
count-one {Y = Y} t (y ∷ ys) up =
    let ih = count-one t ys (ascending-tail y ys up) in
    elim (cases_Bool (tx_eq y.0 t)) [
      | inl same ↦
          let none : value_of ys t ≡ None = rw (← tx_eq-same y.0 t same) (value_of-below y.0 ys (ascending-below y ys up)) in
          let rest : number_of (λ e. tx_eq t e.0) ys ≡ 0 = rw none at ih in
          rw (tx_eq-sym t y.0, same, rest) refl
      | inr other ↦ rw (tx_eq-sym t y.0, other, zero-add (number_of (λ (e : TxId × Y). tx_eq t e.0) ys)) ih
    ]

count-more : {X Y : Type 0} (x : TxId × X) (xs : TxMap X) (b : TxMap Y) → value_of xs x.0 ≡ None
    → number_of (has (x ∷ xs)) b ≡ number_of (λ e. tx_eq x.0 e.0) b + number_of (has xs) b
count-more x xs [] none = refl
count-more x xs (y ∷ ys) none =
    let ih = count-more x xs ys none in
    elim (cases_Bool (tx_eq x.0 y.0)) [
      | inl same ↦
          let away : value_of xs y.0 ≡ None = rw (← tx_eq-same x.0 y.0 same) none in
          rw (same, away, ih) (omega arith)
      | inr other ↦ rw (other, ih) (omega arith)
    ]

pub count-either : {X Y : Type 0} (a : TxMap X) (b : TxMap Y) → are_ascending a ≡ true → are_ascending b ≡ true
    → number_of (has a) b ≡ number_of (has b) a
count-either [] b up up' = none b
  where
    none : {Y : Type 0} (b : TxMap Y) → number_of (λ e. false) b ≡ 0
    none [] = refl
    none (y ∷ ys) = omega (arith, none ys)
count-either (x ∷ xs) b up up' =
    let more = count-more x xs b (value_of-below x.0 xs (ascending-below x xs up)) in
    more ∙ rw (count-one x.0 b up', count-either xs b (ascending-tail x xs up) up') refl

-- ---- votes of one more fact

abbrev pub are_apart : {X Y : Type 0} → TxMap X → TxMap Y → Bool
are_apart votes marks = not (list_any (has votes) marks)

apart-at : {X Y : Type 0} (votes : TxMap X) (marks : TxMap Y) (t : TxId) → list_any (has votes) marks ≡ false → is_some (value_of marks t) ≡ true → is_some (value_of votes t) ≡ false
apart-at votes [] t h there = absurd (cc)
apart-at votes (m ∷ ms) t h there =
    elim (cases_Bool (has votes m)) [
      | inl passes ↦ absurd (let bad : true ≡ false = rw passes at h in cc)
      | inr fails ↦
          let rest : list_any (has votes) ms ≡ false = rw fails at h in
          elim (cases_Bool (tx_eq m.0 t)) [
            | inl same ↦ rw (← tx_eq-same m.0 t same) fails
            | inr other ↦ apart-at votes ms t rest (rw other at there)
          ]
    ]

or-bits : {X : Type 0} (a b : Option X) → (is_some b ≡ true → is_some a ≡ false) → bit (is_some (option_or a b)) ≡ bit (is_some a) + bit (is_some b)
or-bits None None h = refl
or-bits None (Some y) h = refl
or-bits (Some x) None h = refl
or-bits (Some x) (Some y) h = absurd (let bad : true ≡ false = h refl in cc)

count-union : (votes marks options : Options) → list_any (has votes) marks ≡ false
    → number_of (has (union votes marks)) options ≡ number_of (has votes) options + number_of (has marks) options
count-union votes marks [] h = refl
count-union votes marks (e ∷ es) h =
    let ih = count-union votes marks es h in
    let here : bit (is_some (value_of (union votes marks) e.0)) ≡ bit (has votes e) + bit (has marks e) =
    rw (value_of-union votes marks e.0) (or-bits (value_of votes e.0) (value_of marks e.0) (apart-at votes marks e.0 h)) in
    omega (arith, ih, here)

-- the marks of a fact at any ballot are apart from the votes before
voted-apart : (facts : List Fact) (fact : Fact) (key : Key) (version : ℕ) (ballot : Ballot) → is_voted_before facts fact ≡ false
    → list_any (has (votes_of facts key version ballot)) (marks_voted key version ballot fact) ≡ false
voted-apart facts (Fact.Booted epoch) key version ballot h = refl
voted-apart facts (Fact.Floor origin era upto) key version ballot h = refl
voted-apart facts (Fact.Promised k low high b) key version ballot h = refl
voted-apart facts (Fact.Voted k v b options offered) key version ballot h = by (v == version && ballot_eq b ballot && key_eq k key) refl
  where
    by : (test : Bool) → (v == version && ballot_eq b ballot && key_eq k key) ≡ test → list_any (has (votes_of facts key version ballot)) (if test then options else []) ≡ false
    by false is = refl
    by true is =
        let parts = and_parts (v == version && ballot_eq b ballot) (key_eq k key) is in
        let more = and_parts (v == version) (ballot_eq b ballot) parts.0 in
        let same_key : k ≡ key = (Decides-key k key).0 parts.1 in
        let same_ballot : b ≡ ballot = ballot_eq-same b ballot more.1 in
        let same_version : v ≡ version = eqb-true v version more.0 in
        rw (← same_key, ← same_ballot, ← same_version) h
voted-apart facts (Fact.Heard tx outcome) key version ballot h = refl
voted-apart facts (Fact.Adopted k v item adds) key version ballot h = refl

once-append : (more facts : List Fact) → are_voted_once (more ++ facts) ≡ true → are_voted_once facts ≡ true
once-append [] facts h = h
once-append (f ∷ more) facts h = once-append more facts (and_parts (not (is_voted_before (more ++ facts) f)) (are_voted_once (more ++ facts)) h).1

not-true : (b : Bool) → not b ≡ true → b ≡ false
not-true false h = refl
not-true true h = absurd (cc)

pub no-count : (options : Options) → 0 ≡ number_of (λ e. false) options
no-count [] = refl
no-count (e ∷ es) = omega (arith, no-count es)

module _ (facts : List Fact) (i : ℕ) (fact : Fact) (within : i < length facts) (is : fact ≡ get_or facts i fact)
    (once : are_voted_once (reverse facts) ≡ true) (key : Key) (version : ℕ) (ballot : Ballot) (options : Options) where
  pub count-next : count_voted (reverse (take (i + 1) facts)) key version ballot options
      ≡ count_voted (reverse (take i facts)) key version ballot options + number_of (has (marks_voted key version ballot fact)) options
  count-next =
      let parts : reverse facts ≡ reverse (drop (i + 1) facts) ++ reverse (take (i + 1) facts) =
      ap reverse (sym (take-append-drop (i + 1) facts)) ∙ reverse-append (take (i + 1) facts) (drop (i + 1) facts) in
      let next = reverse-next facts i fact within is in
      let all : are_voted_once (fact ∷ reverse (take i facts)) ≡ true =
      sym (ap are_voted_once next) ∙ once-append (reverse (drop (i + 1) facts)) (reverse (take (i + 1) facts)) (sym (ap are_voted_once parts) ∙ once) in
      let new : is_voted_before (reverse (take i facts)) fact ≡ false = not-true _ (and_parts (not (is_voted_before (reverse (take i facts)) fact)) (are_voted_once (reverse (take i facts))) all).0 in
      ap (λ fs. count_voted fs key version ballot options) next
      ∙ (count-union (votes_of (reverse (take i facts)) key version ballot) (marks_voted key version ballot fact) options
      (voted-apart (reverse (take i facts)) fact key version ballot new))

  -- the sum stays within the structure, so that it never stops at the type's end
  pub count-added : (count here most : ℕ) → count ≡ count_voted (reverse (take i facts)) key version ballot options
      → here ≡ number_of (has (marks_voted key version ballot fact)) options → length options ≤ most
      → min (count + here) most ≡ count_voted (reverse (take (i + 1) facts)) key version ballot options
  count-added count here most h k room =
      let all = number-within (has (votes_of (reverse (take (i + 1) facts)) key version ballot)) options in
      omega (arith, count-next, h, k, room, all)

  pub count-same : marks_voted key version ballot fact ≡ []
      → count_voted (reverse (take i facts)) key version ballot options ≡ count_voted (reverse (take (i + 1) facts)) key version ballot options
  count-same none =
      let rest : number_of (has (marks_voted key version ballot fact)) options ≡ 0 = rw none (sym (no-count options)) in
      omega (arith, count-next, rest)
