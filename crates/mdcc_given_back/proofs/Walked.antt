-- What is put together of each fact is that of the rest, where a fact that is dropped says nothing.
use Rattle.std.proofs.Common.{◌≡◌, ◌==◌, ◌&&◌, if◌then◌else◌, ℕ, Bool, true, false, List, [], ◌∷◌, Option, None, refl, sym, ap, ◌∙◌, inl, inr, arith}
use Rattle.std.specs.Option.{option_or}
use Rattle.std.proofs.lemmas.Bool.{and_parts}
use Rattle.std.proofs.lemmas.Bool.Decides.{nat_tests}
use Rattle.mdcc_base.specs.Ballot.{ballot_lt, ballot_max, fast_ballot, is_fast}
use Rattle.mdcc_base.specs.Key.{key_eq}
use Rattle.mdcc_base.specs.declared.identifiers.Ballot.{Ballot}
use Rattle.mdcc_base.specs.declared.key.Key.{Key}
use Rattle.mdcc_def_messages.specs.declared.facts.Fact.{Fact}
use Rattle.mdcc_def_protocol.specs.Facts.{ballot_promised, ballot_voted, epoch_of, last_ballot, promise_of, promised_through, range_promised}
use Rattle.mdcc_theorem_fact_folds.proofs.Chosen.{max_right, or_right}
use Rattle.mdcc_given_back.specs.Rest.{AreRest, BallotStays, EpochStays, IsLeft, PromiseStays, RangeStays, bare, is_bared, is_dropped, is_vote_past}

abbrev pub put_together : {X : Type 0} → (X → X → X) → X → (Fact → X) → List Fact → X
put_together join none of [] = none
put_together join none of (fact ∷ facts) = join (put_together join none of facts) (of fact)

module _ {X : Type 0} (join : X → X → X) (none : X) (of : Fact → X) (all : List Fact)
    (dropped : (fact : Fact) → is_dropped all fact ≡ true → (x : X) → join x (of fact) ≡ x)
    (bared : (fact : Fact) → is_bared all fact ≡ true → of (bare fact) ≡ of fact) where
  left-says : (fact left : Fact) → IsLeft all fact left → of left ≡ of fact
  left-says fact left (inl same) = ap of same
  left-says fact left (inr is) = ap of is.1 ∙ bared fact is.0

  pub rest-says : (rest facts : List Fact) → AreRest all rest facts → put_together join none of rest ≡ put_together join none of facts
  rest-says [] [] is = refl
  rest-says (left ∷ rest) [] is = absurd is
  rest-says [] (fact ∷ facts) is = rest-says [] facts is.1 ∙ sym (dropped fact is.0 (put_together join none of facts))
  rest-says (left ∷ rest) (fact ∷ facts) (inl is) = rest-says (left ∷ rest) facts is.1 ∙ sym (dropped fact is.0 (put_together join none of facts))
  rest-says (left ∷ rest) (fact ∷ facts) (inr is) =
      ap (λ x. join x (of left)) (rest-says rest facts is.1) ∙ ap (join (put_together join none of facts)) (left-says fact left is.0)

-- ---- promises

not_below-fast : (a b : Ballot) → is_fast b ≡ true → ballot_lt a b ≡ false
not_below-fast a b fast = grind (arith, nat_tests, fast)

max-fast : (a b : Ballot) → is_fast b ≡ true → ballot_max a b ≡ a
max-fast a b fast = rw (not_below-fast a b fast) refl

max-some : (test : Bool) (a b : Ballot) → is_fast b ≡ true → ballot_max a (if test then b else fast_ballot) ≡ a
max-some true a b fast = max-fast a b fast
max-some false a b fast = max_right a

promises : (facts : List Fact) (key : Key) (version : ℕ) → promise_of facts key version ≡ put_together ballot_max fast_ballot (ballot_promised key version) facts
promises [] key version = refl
promises (fact ∷ facts) key version = ap (λ b. ballot_max b (ballot_promised key version fact)) (promises facts key version)

module _ (all : List Fact) (key : Key) (version : ℕ) where
  no-promise : (fact : Fact) → is_dropped all fact ≡ true → (b : Ballot) → ballot_max b (ballot_promised key version fact) ≡ b
  no-promise (Fact.Booted epoch) h b = absurd (cc)
  no-promise (Fact.Promised k low high ballot) h b = absurd (cc)
  no-promise (Fact.Voted k v ballot options offered) h b =
      max-some (v == version && key_eq k key) b ballot (and_parts (is_vote_past all k v options) (is_fast ballot) h).1
  no-promise (Fact.Heard tx outcome) h b = max_right b
  no-promise (Fact.Adopted k v item adds) h b = max_right b
  no-promise (Fact.Floor centre epoch seq) h b = max_right b

  same-promise : (fact : Fact) → is_bared all fact ≡ true → ballot_promised key version (bare fact) ≡ ballot_promised key version fact
  same-promise (Fact.Voted k v ballot options offered) h = refl
  same-promise (Fact.Booted epoch) h = refl
  same-promise (Fact.Promised k low high ballot) h = refl
  same-promise (Fact.Heard tx outcome) h = refl
  same-promise (Fact.Adopted k v item adds) h = refl
  same-promise (Fact.Floor centre epoch seq) h = refl

pub promise-stays : PromiseStays
promise-stays rest facts key version is =
    promises rest key version
    ∙ rest-says ballot_max fast_ballot (ballot_promised key version) facts (no-promise facts key version) (same-promise facts key version) rest facts is
    ∙ sym (promises facts key version)

-- ---- the high ends of promises

ranges : (facts : List Fact) (key : Key) (version : ℕ) (ballot : Ballot)
    → promised_through facts key version ballot ≡ put_together option_or None (range_promised key version ballot) facts
ranges [] key version ballot = refl
ranges (fact ∷ facts) key version ballot = ap (λ o. option_or o (range_promised key version ballot fact)) (ranges facts key version ballot)

module _ (all : List Fact) (key : Key) (version : ℕ) (ballot : Ballot) where
  no-range : (fact : Fact) → is_dropped all fact ≡ true → (o : Option ℕ) → option_or o (range_promised key version ballot fact) ≡ o
  no-range (Fact.Booted epoch) h o = absurd (cc)
  no-range (Fact.Promised k low high b) h o = absurd (cc)
  no-range (Fact.Voted k v b options offered) h o = or_right o
  no-range (Fact.Heard tx outcome) h o = or_right o
  no-range (Fact.Adopted k v item adds) h o = or_right o
  no-range (Fact.Floor centre epoch seq) h o = or_right o

  same-range : (fact : Fact) → is_bared all fact ≡ true → range_promised key version ballot (bare fact) ≡ range_promised key version ballot fact
  same-range (Fact.Voted k v b options offered) h = refl
  same-range (Fact.Booted epoch) h = refl
  same-range (Fact.Promised k low high b) h = refl
  same-range (Fact.Heard tx outcome) h = refl
  same-range (Fact.Adopted k v item adds) h = refl
  same-range (Fact.Floor centre epoch seq) h = refl

pub range-stays : RangeStays
range-stays rest facts key version ballot is =
    ranges rest key version ballot
    ∙ rest-says option_or None (range_promised key version ballot) facts (no-range facts key version ballot) (same-range facts key version ballot) rest facts is
    ∙ sym (ranges facts key version ballot)

-- ---- the greatest ballot voted

ballots : (facts : List Fact) (key : Key) (version : ℕ) (below : Ballot)
    → last_ballot facts key version below ≡ put_together ballot_max fast_ballot (ballot_voted key version below) facts
ballots [] key version below = refl
ballots (fact ∷ facts) key version below = ap (λ b. ballot_max b (ballot_voted key version below fact)) (ballots facts key version below)

module _ (all : List Fact) (key : Key) (version : ℕ) (below : Ballot) where
  no-ballot : (fact : Fact) → is_dropped all fact ≡ true → (b : Ballot) → ballot_max b (ballot_voted key version below fact) ≡ b
  no-ballot (Fact.Booted epoch) h b = absurd (cc)
  no-ballot (Fact.Promised k low high ballot) h b = absurd (cc)
  no-ballot (Fact.Voted k v ballot options offered) h b =
      max-some (v == version && ballot_lt ballot below && key_eq k key) b ballot (and_parts (is_vote_past all k v options) (is_fast ballot) h).1
  no-ballot (Fact.Heard tx outcome) h b = max_right b
  no-ballot (Fact.Adopted k v item adds) h b = max_right b
  no-ballot (Fact.Floor centre epoch seq) h b = max_right b

  same-ballot : (fact : Fact) → is_bared all fact ≡ true → ballot_voted key version below (bare fact) ≡ ballot_voted key version below fact
  same-ballot (Fact.Voted k v ballot options offered) h = refl
  same-ballot (Fact.Booted epoch) h = refl
  same-ballot (Fact.Promised k low high ballot) h = refl
  same-ballot (Fact.Heard tx outcome) h = refl
  same-ballot (Fact.Adopted k v item adds) h = refl
  same-ballot (Fact.Floor centre epoch seq) h = refl

pub ballot-stays : BallotStays
ballot-stays rest facts key version below is =
    ballots rest key version below
    ∙ rest-says ballot_max fast_ballot (ballot_voted key version below) facts (no-ballot facts key version below) (same-ballot facts key version below) rest facts is
    ∙ sym (ballots facts key version below)

-- ---- the epoch

-- the first that says something on the right
abbrev last_epoch : ℕ → Fact → ℕ
last_epoch before (Fact.Booted epoch) = epoch
last_epoch before fact = before

epochs : (fact : Fact) (facts : List Fact) → epoch_of (fact ∷ facts) ≡ last_epoch (epoch_of facts) fact
epochs (Fact.Booted epoch) facts = refl
epochs (Fact.Promised k low high b) facts = refl
epochs (Fact.Voted k v b options offered) facts = refl
epochs (Fact.Heard tx outcome) facts = refl
epochs (Fact.Adopted k v item adds) facts = refl
epochs (Fact.Floor centre epoch seq) facts = refl

no-epoch : (all : List Fact) (fact : Fact) → is_dropped all fact ≡ true → (n : ℕ) → last_epoch n fact ≡ n
no-epoch all (Fact.Booted epoch) h n = absurd (cc)
no-epoch all (Fact.Promised k low high b) h n = refl
no-epoch all (Fact.Voted k v b options offered) h n = refl
no-epoch all (Fact.Heard tx outcome) h n = refl
no-epoch all (Fact.Adopted k v item adds) h n = refl
no-epoch all (Fact.Floor centre epoch seq) h n = refl

bare-epoch : (fact : Fact) (n : ℕ) → last_epoch n (bare fact) ≡ last_epoch n fact
bare-epoch (Fact.Booted epoch) n = refl
bare-epoch (Fact.Promised k low high b) n = refl
bare-epoch (Fact.Voted k v b options offered) n = refl
bare-epoch (Fact.Heard tx outcome) n = refl
bare-epoch (Fact.Adopted k v item adds) n = refl
bare-epoch (Fact.Floor centre epoch seq) n = refl

left-epoch : (all : List Fact) (fact left : Fact) (n : ℕ) → IsLeft all fact left → last_epoch n left ≡ last_epoch n fact
left-epoch all fact left n (inl same) = ap (last_epoch n) same
left-epoch all fact left n (inr is) = ap (last_epoch n) is.1 ∙ bare-epoch fact n

epoch-rest : (all rest facts : List Fact) → AreRest all rest facts → epoch_of rest ≡ epoch_of facts
epoch-rest all [] [] is = refl
epoch-rest all (left ∷ rest) [] is = absurd is
epoch-rest all [] (fact ∷ facts) is = epoch-rest all [] facts is.1 ∙ sym (epochs fact facts ∙ no-epoch all fact is.0 (epoch_of facts))
epoch-rest all (left ∷ rest) (fact ∷ facts) (inl is) =
    epoch-rest all (left ∷ rest) facts is.1 ∙ sym (epochs fact facts ∙ no-epoch all fact is.0 (epoch_of facts))
epoch-rest all (left ∷ rest) (fact ∷ facts) (inr is) =
    epochs left rest ∙ ap (λ n. last_epoch n left) (epoch-rest all rest facts is.1)
    ∙ left-epoch all fact left (epoch_of facts) is.0 ∙ sym (epochs fact facts)

pub epoch-stays : EpochStays
epoch-stays rest facts is = epoch-rest facts rest facts is
