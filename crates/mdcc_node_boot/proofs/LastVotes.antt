-- Where no promise is above a ballot, a vote at it is the last one.
use Rattle.std.proofs.Common.{◌≡◌, ℕ, Bool, true, false, ◌&&◌, ◌||◌, ◌==◌, List, [], ◌∷◌, Option, Some, None, is_some, option_map, if◌then◌else◌, refl, inl, inr, arith}
use Rattle.std.specs.Option.{option_or}
use Rattle.std.proofs.lemmas.Bool.{cases_Bool}
use Rattle.std.proofs.lemmas.Bool.Decides.{nat_tests}
use Rattle.mdcc_base.specs.Ballot.{ballot_eq, ballot_lt, ballot_max, fast_ballot}
use Rattle.mdcc_base.specs.Key.{key_eq}
use Rattle.mdcc_base.specs.declared.identifiers.Ballot.{Ballot}
use Rattle.mdcc_base.specs.declared.identifiers.TxId.{TxId}
use Rattle.mdcc_base.specs.declared.key.Key.{Key}
use Rattle.mdcc_option.specs.declared.choices.Mark.{Mark}
use Rattle.mdcc_struct.specs.Maps.{value_of}
use Rattle.mdcc_struct.proofs.Values.{value_of-union}
use Rattle.mdcc_def_protocol.specs.Facts.{ballot_promised, last_vote, later_vote, mark_voted, marks_voted, promise_of, votes_of}
use Rattle.mdcc_def_messages.specs.declared.facts.Fact.{Fact}

-- whether the vote is at the ballot
abbrev pub is_at : Ballot → Option (Ballot × Mark) → Bool
is_at ballot None = false
is_at ballot (Some vote) = ballot_eq vote.0 ballot

-- it is at most at the ballot
abbrev IsAtMost : Ballot → Option (Ballot × Mark) → Type 0
IsAtMost ballot None = Unit {0}
IsAtMost ballot (Some vote) = ballot_lt ballot vote.0 ≡ false

not_below_itself : (a : Ballot) → ballot_lt a a ≡ false
not_below_itself a = grind (arith, nat_tests)

not_below-trans : (a b c : Ballot) → ballot_lt a b ≡ false → ballot_lt b c ≡ false → ballot_lt a c ≡ false
not_below-trans a b c h k = grind (arith, nat_tests)

max-left : (a b c : Ballot) → ballot_lt c (ballot_max a b) ≡ false → ballot_lt c a ≡ false
max-left a b c h = by (ballot_lt a b) refl h
  where
    by : (t : Bool) → ballot_lt a b ≡ t → ballot_lt c (if t then b else a) ≡ false → ballot_lt c a ≡ false
    by true less k = grind (arith, nat_tests)
    by false over k = k

max-right : (a b c : Ballot) → ballot_lt c (ballot_max a b) ≡ false → ballot_lt c b ≡ false
max-right a b c h = by (ballot_lt a b) refl h
  where
    by : (t : Bool) → ballot_lt a b ≡ t → ballot_lt c (if t then b else a) ≡ false → ballot_lt c b ≡ false
    by true less k = k
    by false over k = not_below-trans c a b k over

-- ---- no vote is above the promise

at_most-later : (ballot : Ballot) (old new : Option (Ballot × Mark)) → IsAtMost ballot old → IsAtMost ballot new → IsAtMost ballot (later_vote old new)
at_most-later ballot None new h k = k
at_most-later ballot (Some a) None h k = h
at_most-later ballot (Some a) (Some b) h k =
    elim (cases_Bool (ballot_lt a.0 b.0)) [
      | inl less ↦ rw less k
      | inr over ↦ rw over h
    ]

at_most-voted : (key : Key) (version : ℕ) (tx : TxId) (ballot : Ballot) (fact : Fact) → ballot_lt ballot (ballot_promised key version fact) ≡ false
    → IsAtMost ballot (mark_voted key version tx fact)
at_most-voted key version tx ballot (Fact.Voted key' version' ballot' options offered) h = by (version' == version && key_eq key' key) h (value_of options tx)
  where
    by : (t : Bool) → ballot_lt ballot (if t then ballot' else fast_ballot) ≡ false → (found : Option Mark)
        → IsAtMost ballot (if t then option_map (λ mark. (ballot', mark)) found else None)
    by true k None = tt
    by true k (Some mark) = k
    by false k found = tt
at_most-voted key version tx ballot (Fact.Booted epoch) h = tt
at_most-voted key version tx ballot (Fact.Floor origin era upto) h = tt
at_most-voted key version tx ballot (Fact.Promised key' low high ballot') h = tt
at_most-voted key version tx ballot (Fact.Heard tx' outcome) h = tt
at_most-voted key version tx ballot (Fact.Adopted key' version' item adds) h = tt

last-at_most : (facts : List Fact) (key : Key) (version : ℕ) (tx : TxId) (ballot : Ballot) → ballot_lt ballot (promise_of facts key version) ≡ false
    → IsAtMost ballot (last_vote facts key version tx)
last-at_most [] key version tx ballot h = tt
last-at_most (fact ∷ facts) key version tx ballot h =
    let old = last-at_most facts key version tx ballot (max-left (promise_of facts key version) (ballot_promised key version fact) ballot h) in
    let new = at_most-voted key version tx ballot fact (max-right (promise_of facts key version) (ballot_promised key version fact) ballot h) in
    at_most-later ballot (last_vote facts key version tx) (mark_voted key version tx fact) old new

-- ---- a vote at the ballot is the last

at-later : (ballot : Ballot) (old new : Option (Ballot × Mark)) → IsAtMost ballot old → IsAtMost ballot new
    → (is_at ballot old || is_at ballot new) ≡ is_at ballot (later_vote old new)
at-later ballot None new h k = refl
at-later ballot (Some a) None h k = grind arith
at-later ballot (Some a) (Some b) h k =
    elim (cases_Bool (ballot_lt a.0 b.0)) [
      | inl less ↦ rw less (first a.0 b.0 h k less)
      | inr over ↦ rw over (second a.0 b.0 h k over)
    ]
  where
    first : (a b : Ballot) → ballot_lt ballot a ≡ false → ballot_lt ballot b ≡ false → ballot_lt a b ≡ true → (ballot_eq a ballot || ballot_eq b ballot) ≡ ballot_eq b ballot
    first a b h k less = grind (arith, nat_tests)

    second : (a b : Ballot) → ballot_lt ballot a ≡ false → ballot_lt ballot b ≡ false → ballot_lt a b ≡ false → (ballot_eq a ballot || ballot_eq b ballot) ≡ ballot_eq a ballot
    second a b h k over = grind (arith, nat_tests)

at-voted : (key : Key) (version : ℕ) (tx : TxId) (ballot : Ballot) (fact : Fact)
    → is_some (value_of (marks_voted key version ballot fact) tx) ≡ is_at ballot (mark_voted key version tx fact)
at-voted key version tx ballot (Fact.Voted key' version' ballot' options offered) =
    by (version' == version) (ballot_eq ballot' ballot) (key_eq key' key) refl (value_of options tx) refl
  where
    by : (v b k : Bool) → ballot_eq ballot' ballot ≡ b → (found : Option Mark) → value_of options tx ≡ found
        → is_some (value_of (if v && b && k then options else []) tx) ≡ is_at ballot (if v && k then option_map (λ mark. (ballot', mark)) found else None)
    by true true true same None is = rw is refl
    by true true true same (Some mark) is = rw (is, same) refl
    by true false true other None is = refl
    by true false true other (Some mark) is = rw other refl
    by true true false same found is = refl
    by true false false other found is = refl
    by false b k is_b found is = refl
at-voted key version tx ballot (Fact.Booted epoch) = refl
at-voted key version tx ballot (Fact.Floor origin era upto) = refl
at-voted key version tx ballot (Fact.Promised key' low high ballot') = refl
at-voted key version tx ballot (Fact.Heard tx' outcome) = refl
at-voted key version tx ballot (Fact.Adopted key' version' item adds) = refl

either : {X : Type 0} (a b : Option X) → is_some (option_or a b) ≡ (is_some a || is_some b)
either None b = refl
either (Some x) b = refl

pub voted_last : (facts : List Fact) (key : Key) (version : ℕ) (tx : TxId) (ballot : Ballot) → ballot_lt ballot (promise_of facts key version) ≡ false
    → is_some (value_of (votes_of facts key version ballot) tx) ≡ is_at ballot (last_vote facts key version tx)
voted_last [] key version tx ballot h = refl
voted_last (fact ∷ facts) key version tx ballot h =
    let below = max-left (promise_of facts key version) (ballot_promised key version fact) ballot h in
    let above = max-right (promise_of facts key version) (ballot_promised key version fact) ballot h in
    let old = last-at_most facts key version tx ballot below in
    let new = at_most-voted key version tx ballot fact above in
    rw (
      value_of-union (votes_of facts key version ballot) (marks_voted key version ballot fact) tx,
      either (value_of (votes_of facts key version ballot) tx) (value_of (marks_voted key version ballot fact) tx),
      voted_last facts key version tx ballot below,
      at-voted key version tx ballot fact,
    )
    (at-later ballot (last_vote facts key version tx) (mark_voted key version tx fact) old new)

-- as a store answers it
pub voted_by_last : (facts : List Fact) (key : Key) (version : ℕ) (tx : TxId) (ballot : Ballot) (vote : Option (Ballot × Mark)) → vote ≡ last_vote facts key version tx
    → ballot_lt ballot (promise_of facts key version) ≡ false → is_at ballot vote ≡ is_some (value_of (votes_of facts key version ballot) tx)
voted_by_last facts key version tx ballot vote same h = rw (same, voted_last facts key version tx ballot h) refl
