-- What is given back of the facts of a centre stays so when further facts come.
use Rattle.std.proofs.Common.{◌≡◌, ◌==◌, ◌&&◌, ◌≤◌, if◌then◌else◌, ℕ, Bool, true, false, not, List, [], ◌∷◌, Option, Some, None, is_some, fold, refl, ◌∙◌, inl, inr, arith}
use Rattle.std.specs.List.{list_any}
use Rattle.std.specs.Option.{option_or}
use Rattle.std.specs.Prelude.{max, nat_le, nat_lt, ⊤}
use Rattle.std.proofs.lemmas.Bool.{cases_Bool, and_parts, not-true, or_parts}
use Rattle.std.proofs.lemmas.Bool.Decides.{nat_tests}
use Rattle.mdcc_base.specs.Ballot.{is_fast}
use Rattle.mdcc_base.specs.TxId.{tx_eq}
use Rattle.mdcc_base.specs.declared.identifiers.TxId.{TxId}
use Rattle.mdcc_base.specs.declared.key.Key.{Key}
use Rattle.mdcc_option.specs.OneCopy.{next_version}
use Rattle.mdcc_option.specs.declared.choices.Choice.{Choice}
use Rattle.mdcc_option.specs.declared.choices.Outcome.{Outcome}
use Rattle.mdcc_option.proofs.Equal.{Decides-key}
use Rattle.mdcc_struct.specs.Maps.{value_of}
use Rattle.mdcc_struct.specs.declared.options.Options.{Options}
use Rattle.mdcc_struct.proofs.Order.{tx_eq-same}
use Rattle.mdcc_def_protocol.specs.Marks.{is_write}
use Rattle.mdcc_def_messages.specs.declared.facts.Fact.{Fact}
use Rattle.mdcc_def_protocol.specs.Facts.{current_of, floor_of, heard_of, is_finished, is_forgotten, is_idle, is_needed, is_past, outcome_in, shows_mark, version_from, version_given}
use Rattle.mdcc_given_back.specs.Growth.{BaredStays, DroppedStays, RestsGrow, RestsGrowByAdded, RestsStay, tells_of_finished}
use Rattle.mdcc_given_back.specs.Rest.{IsLeft, is_vote_past}

-- ---- numbers that rise

pub lt-max : (v a b : ℕ) → nat_lt v a ≡ true → nat_lt v (max a b) ≡ true
lt-max v a b h = grind (arith, nat_tests)

pub le-max : (v a b : ℕ) → nat_le v a ≡ true → nat_le v (max a b) ≡ true
le-max v a b h = grind (arith, nat_tests)

-- ---- what stays true of a transaction and of an instance

module _ (new : Fact) (all : List Fact) where
  pub finished-more : (tx : TxId) → is_finished all tx ≡ true → is_finished (new ∷ all) tx ≡ true
  finished-more tx h =
      let parts = and_parts (nat_lt 0 tx.seq) (nat_le tx.seq (floor_of all tx.centre tx.epoch)) h in
      rw (parts.0, le-max tx.seq (floor_of all tx.centre tx.epoch) _ parts.1) refl

  pub below-more : (key : Key) (version : ℕ) → nat_lt version (current_of all key) ≡ true → nat_lt version (current_of (new ∷ all) key) ≡ true
  below-more key version h = lt-max version (current_of all key) (version_from key new) h

  pub forgotten-more : (key : Key) (version : ℕ) (tx : TxId) → is_forgotten all key version tx ≡ true → is_forgotten (new ∷ all) key version tx ≡ true
  forgotten-more key version tx h =
      let parts = and_parts (is_finished all tx) (nat_lt version (current_of all key)) h in
      rw (finished-more tx parts.0, below-more key version parts.1) refl

  pub past-more : (key : Key) (version : ℕ) (options : Options) → is_vote_past all key version options ≡ true → is_vote_past (new ∷ all) key version options ≡ true
  past-more key version [] h = refl
  past-more key version (e ∷ es) h =
      let parts = and_parts (is_forgotten all key version e.0) (is_vote_past all key version es) h in
      rw (forgotten-more key version e.0 parts.0, past-more key version es parts.1) refl

-- ---- what was heard gives at most the version held

given-fold : (key : Key) (a : ℕ) (choices : List Choice) → a ≤ fold (λ version choice. max version (version_given key choice)) a choices
given-fold key a [] = omega arith
given-fold key a (c ∷ cs) = let ih = given-fold key (max a (version_given key c)) cs in omega (arith, ih)

-- each choice gives a version of its key that is at most a bound of its own
abbrev pub AreHeld : List Fact → List Choice → Type 0
AreHeld all [] = ⊤
AreHeld all (c ∷ cs) = ((key : Key) → version_given key c ≤ current_of all key) × AreHeld all cs

held-by : (all : List Fact) (a : Key → ℕ) (choices : List Choice)
    → ((key : Key) → fold (λ version choice. max version (version_given key choice)) (a key) choices ≤ current_of all key) → AreHeld all choices
held-by all a [] h = tt
held-by all a (c ∷ cs) h = (
  λ key. let up = given-fold key (max (a key) (version_given key c)) cs in let within = h key in omega (arith, up, within),
  held-by all (λ key. max (a key) (version_given key c)) cs h,
)

held-more : (new : Fact) (all : List Fact) (choices : List Choice) → AreHeld all choices → AreHeld (new ∷ all) choices
held-more new all [] h = tt
held-more new all (c ∷ cs) h = (λ key. let within = h.0 key in omega (arith, within), held-more new all cs h.1)

held-new : (all : List Fact) (fact : Fact) (tx : TxId) (choices : List Choice) → outcome_in tx fact ≡ Some (Outcome.Commit choices) → AreHeld (fact ∷ all) choices
held-new all (Fact.Heard t outcome) tx choices h = by (tx_eq t tx) h
  where
    by : (same : Bool) → (if same then Some outcome else None) ≡ Some (Outcome.Commit choices) → AreHeld (Fact.Heard t outcome ∷ all) choices
    by false e = absurd (cc)
    by true e =
        let is : outcome ≡ Outcome.Commit choices = cc in
        rw is (held-by (Fact.Heard t (Outcome.Commit choices) ∷ all) (λ key. 0) choices (λ key. omega arith))
held-new all (Fact.Booted epoch) tx choices h = absurd (cc)
held-new all (Fact.Promised k low high b) tx choices h = absurd (cc)
held-new all (Fact.Voted k v b options offered) tx choices h = absurd (cc)
held-new all (Fact.Adopted k v item adds) tx choices h = absurd (cc)
held-new all (Fact.Floor c e n) tx choices h = absurd (cc)

pub heard-held : (all : List Fact) (tx : TxId) (choices : List Choice) → heard_of all tx ≡ Some (Outcome.Commit choices) → AreHeld all choices
heard-held [] tx choices h = absurd (cc)
heard-held (fact ∷ all) tx choices h = by (heard_of all tx) refl h (heard-held all tx choices)
  where
    by : (before : Option Outcome) → heard_of all tx ≡ before → option_or before (outcome_in tx fact) ≡ Some (Outcome.Commit choices)
        → (heard_of all tx ≡ Some (Outcome.Commit choices) → AreHeld all choices) → AreHeld (fact ∷ all) choices
    by None is e held = held-new all fact tx choices e
    by (Some outcome) is e held = held-more fact all choices (held (is ∙ e))

-- ---- what is not needed is not needed later

-- of a write, of an add
write-past : (given held more : ℕ) → given ≤ held → (given == held) ≡ false → (given == max held more) ≡ false
write-past given held more within h = grind (arith, nat_tests)

add-past : (given held more : ℕ) → nat_le held given ≡ false → nat_le (max held more) given ≡ false
add-past given held more h = grind (arith, nat_tests)

unneeded-more : (new : Fact) (all : List Fact) (choice : Choice) → ((key : Key) → version_given key choice ≤ current_of all key)
    → is_needed all choice ≡ false → is_needed (new ∷ all) choice ≡ false
unneeded-more new all choice held h = by (is_write choice.update) refl h
  where
    by : (writes : Bool) → is_write choice.update ≡ writes
        → (if writes then next_version choice.version == current_of all choice.key else nat_le (current_of all choice.key) choice.version) ≡ false
        → is_needed (new ∷ all) choice ≡ false
    by true is e =
        let within : next_version choice.version ≤ current_of all choice.key = rw (is, (Decides-key choice.key choice.key).1 refl) at (held choice.key) in
        rw is (write-past (next_version choice.version) (current_of all choice.key) (version_from choice.key new) within e)
    by false is e = rw is (add-past choice.version (current_of all choice.key) (version_from choice.key new) e)

none-needed-more : (new : Fact) (all : List Fact) (choices : List Choice) → AreHeld all choices
    → list_any (is_needed all) choices ≡ false → list_any (is_needed (new ∷ all)) choices ≡ false
none-needed-more new all [] held h = refl
none-needed-more new all (c ∷ cs) held h =
    let parts = or_parts (is_needed all c) (list_any (is_needed all) cs) h in
    rw (unneeded-more new all c held.0 parts.0, none-needed-more new all cs held.1 parts.1) refl

-- ---- what was heard first is what is heard

pub heard-more : (new : Fact) (all : List Fact) (tx : TxId) (outcome : Outcome) → heard_of all tx ≡ Some outcome → heard_of (new ∷ all) tx ≡ Some outcome
heard-more new all tx outcome h = rw h refl

past-heard-more : (new : Fact) (all : List Fact) (tx : TxId) → is_past all (heard_of all tx) ≡ true → is_past (new ∷ all) (heard_of (new ∷ all) tx) ≡ true
past-heard-more new all tx h = by (heard_of all tx) refl h
  where
    by : (before : Option Outcome) → heard_of all tx ≡ before → is_past all before ≡ true → is_past (new ∷ all) (heard_of (new ∷ all) tx) ≡ true
    by None is e = absurd (cc)
    by (Some Outcome.Abort) is e = rw (heard-more new all tx Outcome.Abort is) refl
    by (Some (Outcome.Commit choices)) is e =
        let none = none-needed-more new all choices (heard-held all tx choices is) (not-true (list_any (is_needed all) choices) e) in
        rw (heard-more new all tx (Outcome.Commit choices) is, none) refl

-- ---- no mark comes to be shown

-- a fact that tells nothing of finished transactions has no mark of this one
unmarked : (all : List Fact) (tx : TxId) (options : Options) → is_finished all tx ≡ true
    → list_any (λ e. is_finished all e.0) options ≡ false → value_of options tx ≡ None
unmarked all tx [] finished h = refl
unmarked all tx (e ∷ es) finished h =
    let parts = or_parts (is_finished all e.0) (list_any (λ e. is_finished all e.0) es) h in
    elim (cases_Bool (tx_eq e.0 tx)) [
      | inl same ↦ let is : e.0 ≡ tx = tx_eq-same e.0 tx same in let bad : is_finished all e.0 ≡ true = rw is finished in absurd (cc)
      | inr other ↦ rw other (unmarked all tx es finished parts.1)
    ]

pub new-unshown : (by all : List Fact) (tx : TxId) (new : Fact) → is_finished all tx ≡ true → tells_of_finished all new ≡ false → shows_mark by tx new ≡ false
new-unshown by all tx (Fact.Voted key version ballot options offered) finished h = rw (unmarked all tx options finished h) refl
new-unshown by all tx (Fact.Booted epoch) finished h = refl
new-unshown by all tx (Fact.Promised k low high b) finished h = refl
new-unshown by all tx (Fact.Heard t outcome) finished h = refl
new-unshown by all tx (Fact.Adopted k v item adds) finished h = refl
new-unshown by all tx (Fact.Floor c e n) finished h = refl

shown-less : (has forgotten later : Bool) → (forgotten ≡ true → later ≡ true) → (has && not forgotten) ≡ false → (has && not later) ≡ false
shown-less false forgotten later up h = refl
shown-less true true later up h = rw (up refl) refl
shown-less true false later up h = absurd (cc)

unshown-more : (new : Fact) (all : List Fact) (tx : TxId) (fact : Fact) → shows_mark all tx fact ≡ false → shows_mark (new ∷ all) tx fact ≡ false
unshown-more new all tx (Fact.Voted key version ballot options offered) h =
    shown-less (is_some (value_of options tx)) (is_forgotten all key version tx) (is_forgotten (new ∷ all) key version tx) (forgotten-more new all key version tx) h
unshown-more new all tx (Fact.Booted epoch) h = refl
unshown-more new all tx (Fact.Promised k low high b) h = refl
unshown-more new all tx (Fact.Heard t outcome) h = refl
unshown-more new all tx (Fact.Adopted k v item adds) h = refl
unshown-more new all tx (Fact.Floor c e n) h = refl

none-shown-more : (new : Fact) (all : List Fact) (tx : TxId) (facts : List Fact)
    → list_any (shows_mark all tx) facts ≡ false → list_any (shows_mark (new ∷ all) tx) facts ≡ false
none-shown-more new all tx [] h = refl
none-shown-more new all tx (fact ∷ facts) h =
    let parts = or_parts (shows_mark all tx fact) (list_any (shows_mark all tx) facts) h in
    rw (unshown-more new all tx fact parts.0, none-shown-more new all tx facts parts.1) refl

-- ---- what is idle stays so

pub idle-more : (new : Fact) (all : List Fact) (tx : TxId) → tells_of_finished all new ≡ false → is_idle all tx ≡ true → is_idle (new ∷ all) tx ≡ true
idle-more new all tx tells h =
    let parts = and_parts (is_finished all tx && is_past all (heard_of all tx)) (not (list_any (shows_mark all tx) all)) h in
    let first = and_parts (is_finished all tx) (is_past all (heard_of all tx)) parts.0 in
    let none = none-shown-more new all tx all (not-true (list_any (shows_mark all tx) all) parts.1) in
    rw (finished-more new all tx first.0, past-heard-more new all tx first.1, new-unshown (new ∷ all) all tx new first.0 tells, none) refl

-- ---- what is given back stays so

pub dropped_stays : DroppedStays
dropped_stays new all (Fact.Booted epoch) tells h = absurd (cc)
dropped_stays new all (Fact.Promised k low high b) tells h = absurd (cc)
dropped_stays new all (Fact.Voted key version ballot options offered) tells h =
    let parts = and_parts (is_vote_past all key version options) (is_fast ballot) h in
    rw (past-more new all key version options parts.0, parts.1) refl
dropped_stays new all (Fact.Heard tx outcome) tells h = idle-more new all tx tells h
dropped_stays new all (Fact.Adopted key version item adds) tells h = below-more new all key version h
dropped_stays new all (Fact.Floor centre epoch seq) tells h = lt-max seq (floor_of all centre epoch) _ h

pub bared_stays : BaredStays
bared_stays new all (Fact.Voted key version ballot options offered) h =
    let parts = and_parts (is_vote_past all key version options) (not (is_fast ballot)) h in
    rw (past-more new all key version options parts.0, parts.1) refl
bared_stays new all (Fact.Booted epoch) h = absurd (cc)
bared_stays new all (Fact.Promised k low high b) h = absurd (cc)
bared_stays new all (Fact.Heard tx outcome) h = absurd (cc)
bared_stays new all (Fact.Adopted k v item adds) h = absurd (cc)
bared_stays new all (Fact.Floor c e n) h = absurd (cc)

left-stays : (new : Fact) (all : List Fact) (fact left : Fact) → IsLeft all fact left → IsLeft (new ∷ all) fact left
left-stays new all fact left (inl same) = inl same
left-stays new all fact left (inr is) = inr (bared_stays new all fact is.0, is.1)

pub rests_stay : RestsStay
rests_stay new all [] [] tells is = tt
rests_stay new all (left ∷ rest) [] tells is = absurd is
rests_stay new all [] (fact ∷ facts) tells is = (dropped_stays new all fact tells is.0, rests_stay new all [] facts tells is.1)
rests_stay new all (left ∷ rest) (fact ∷ facts) tells (inl is) =
    inl (dropped_stays new all fact tells is.0, rests_stay new all (left ∷ rest) facts tells is.1)
rests_stay new all (left ∷ rest) (fact ∷ facts) tells (inr is) =
    inr (left-stays new all fact left is.0, rests_stay new all rest facts tells is.1)

pub rests_grow : RestsGrow
rests_grow new rest facts tells is = inr (inl refl, rests_stay new facts rest facts tells is)

pub rests_grow_by_added : RestsGrowByAdded
rests_grow_by_added new rest facts may is = rests_grow new rest facts may.unfinished is
