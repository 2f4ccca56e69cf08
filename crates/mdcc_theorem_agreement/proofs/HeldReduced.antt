-- The version, the base and the executed deltas that a centre holds, of its facts and of its reduced facts.
use Rattle.std.proofs.Common.{◌≡◌, ℕ, ◌<◌, ◌≤◌, ◌==◌, true, false, cond, ◌&&◌, nat_lt, List, [], ◌∷◌, refl, sym, ap, ◌∙◌, subst, arith, inl, inr, ◌⊎◌, Option, Some, None, map}
use Rattle.std.proofs.lemmas.Bool.{cases_Bool, false≢true, ltb-true, ltb-false, eq-eqb, ne_eqb, cases_eq, cases_lt}
use Rattle.std.specs.List.{filter_map}
use Rattle.std.specs.Option.{option_or}
use Rattle.std.specs.Prelude.{is_some}
use Rattle.mdcc_base.specs.Key.{key_eq}
use Rattle.mdcc_base.specs.TxId.{tx_eq, tx_lt}
use Rattle.mdcc_base.specs.declared.identifiers.TxId.{TxId}
use Rattle.mdcc_base.specs.declared.key.Key.{Key}
use Rattle.mdcc_option.specs.declared.choices.Choice.{Choice}
use Rattle.mdcc_option.specs.declared.choices.Outcome.TheVariants.{Commit, Abort}
use Rattle.mdcc_option.specs.declared.items.Item.{Item}
use Rattle.mdcc_struct.specs.Maps.{TxMap, value_of, inserted, with_entry, union}
use Rattle.mdcc_def_protocol.specs.Facts as full
use Rattle.mdcc_def_protocol.specs.Marks.{Amounts}
use Rattle.mdcc_def_messages.specs.declared.facts.Fact.{Fact}
use Rattle.mdcc_struct.proofs.Values.{value_of-union}
use Rattle.mdcc_theorem_agreement.proofs.BegunOnce.{In-append}
use Rattle.mdcc_theorem_agreement.proofs.Reduction.{reduced_fact, facts_reduced, delta_pair, and_swap}
use Rattle.mdcc_theorem_agreement.proofs.ChoicesGive.{IsFine, versions_raised, bases_written, written_some, bases_above, Update-is}
use Rattle.mdcc_theorem_agreement.proofs.LiveTotals.{In-left, In-right}
use Rattle.mdcc_theorem_agreement.proofs.ReducedFacts.{raised, written, current_by, current, base_by, base, adds_at, executed_by, executed}
use Rattle.mdcc_theorem_agreement.proofs.ReducedOptions.{In, Place, spot, place_eq}
use Rattle.mdcc_theorem_agreement.proofs.TestsDecide.{Decides-tx}

abbrev pub FineFact : Fact → Type 0
FineFact (Fact.Heard tx (Commit cs)) = IsFine cs
FineFact (Fact.Heard tx Abort) = Unit {0}
FineFact (Fact.Booted epoch) = Unit {0}
FineFact (Fact.Floor centre epoch seq) = Unit {0}
FineFact (Fact.Promised key low high ballot) = Unit {0}
FineFact (Fact.Voted key version ballot options offered) = Unit {0}
FineFact (Fact.Adopted key version item adds) = Unit {0}

abbrev pub AllFine : List Fact → Type 0
AllFine [] = Unit {0}
AllFine (f ∷ fs) = FineFact f × AllFine fs

version_same : (f : Fact) (key : Key) → FineFact f → current_by (reduced_fact f) key ≡ full.version_from key f
version_same (Fact.Heard tx (Commit cs)) key h = sym (versions_raised key cs h)
version_same (Fact.Heard tx Abort) key h = refl
version_same (Fact.Booted epoch) key h = refl
version_same (Fact.Floor centre epoch seq) key h = refl
version_same (Fact.Promised k low high ballot) key h = refl
version_same (Fact.Voted k version ballot options offered) key h = refl
version_same (Fact.Adopted k version item adds) key h = refl

pub current_same : (fs : List Fact) (key : Key) → AllFine fs → current (facts_reduced fs) key ≡ full.current_of fs key
current_same [] key h = refl
current_same (f ∷ fs) key h = omega (arith, version_same f key h.0, current_same fs key h.1)

-- the base that a fact gives the version that it gives
base_fact : (f : Fact) (key : Key) → FineFact f → 0 < full.version_from key f →
    (full.base_from key (full.version_from key f) f ≡ base_by (reduced_fact f) key) × (is_some (base_by (reduced_fact f) key) ≡ true)
base_fact (Fact.Heard tx (Commit cs)) key h some =
    let number : raised cs key ≡ full.version_from key (Fact.Heard tx (Commit cs)) = sym (versions_raised key cs h) in (
      subst (λ v. full.base_from key v (Fact.Heard tx (Commit cs)) ≡ written cs key) number (bases_written key cs h (omega arith)),
      written_some key cs (omega arith),
    )
base_fact (Fact.Heard tx Abort) key h some = absurd (omega arith)
base_fact (Fact.Booted epoch) key h some = absurd (omega arith)
base_fact (Fact.Floor centre epoch seq) key h some = absurd (omega arith)
base_fact (Fact.Promised k low high ballot) key h some = absurd (omega arith)
base_fact (Fact.Voted k version ballot options offered) key h some = absurd (omega arith)
base_fact (Fact.Adopted k version item adds) key h some =
    elim (cases_Bool (key_eq k key)) [
      | inl e ↦
          let number : full.version_from key (Fact.Adopted k version item adds) ≡ version = rw e refl in
          (subst (λ v. full.base_from key v (Fact.Adopted k version item adds) ≡ Some item) (sym number) (rw (e, eq-eqb version version refl) refl), refl)
      | inr e ↦ absurd (let number : full.version_from key (Fact.Adopted k version item adds) ≡ 0 = rw e refl in omega arith)
    ]

base_above : (f : Fact) (key : Key) (v : ℕ) → full.version_from key f < v → full.base_from key v f ≡ None
base_above (Fact.Heard tx (Commit cs)) key v h = bases_above key v cs h
base_above (Fact.Heard tx Abort) key v h = refl
base_above (Fact.Booted epoch) key v h = refl
base_above (Fact.Floor centre epoch seq) key v h = refl
base_above (Fact.Promised k low high ballot) key v h = refl
base_above (Fact.Voted k version ballot options offered) key v h = refl
base_above (Fact.Adopted k version item adds) key v h =
    elim (cases_Bool (key_eq k key)) [
      | inl e ↦
          let number : full.version_from key (Fact.Adopted k version item adds) ≡ version = rw e refl in
          let other : (version == v) ≡ false = ne_eqb version v (λ same. omega arith) in
          rw other refl
      | inr e ↦ elim (cases_Bool (version == v)) [ inl g ↦ rw (g, e) refl | inr g ↦ rw g refl ]
    ]

none_above : (fs : List Fact) (key : Key) (v : ℕ) → full.current_of fs key < v → full.base_at fs key v ≡ None
none_above [] key v h = refl
none_above (f ∷ fs) key v h =
    let one : full.base_at fs key v ≡ None = none_above fs key v (omega arith) in
    let two : full.base_from key v f ≡ None = base_above f key v (omega arith) in
    rw (one, two) refl

or_kept : {X : Type 0} (a b : Option X) → is_some a ≡ true → option_or a b ≡ a
or_kept None b h = absurd (false≢true h)
or_kept (Some x) b h = refl

base_there : (fs : List Fact) (key : Key) → AllFine fs → 0 < full.current_of fs key → is_some (full.base_at fs key (full.current_of fs key)) ≡ true
base_there [] key h some = absurd (omega arith)
base_there (f ∷ fs) key h some =
    elim (cases_lt (full.current_of fs key) (full.version_from key f)) [
      | inl up ↦
          let number : full.version_from key f ≡ full.current_of (f ∷ fs) key = omega arith in
          let one : full.base_at fs key (full.version_from key f) ≡ None = none_above fs key (full.version_from key f) up in
          let two : (full.base_from key (full.version_from key f) f ≡ base_by (reduced_fact f) key) × (is_some (base_by (reduced_fact f) key) ≡ true) = base_fact f key h.0 (omega arith) in
          subst (λ v. is_some (full.base_at (f ∷ fs) key v) ≡ true) number (rw (one, two.0) two.1)
      | inr down ↦
          let number : full.current_of fs key ≡ full.current_of (f ∷ fs) key = omega arith in
          let rest : is_some (full.base_at fs key (full.current_of fs key)) ≡ true = base_there fs key h.1 (omega arith) in
          subst (λ v. is_some (full.base_at (f ∷ fs) key v) ≡ true) number
          (ap is_some (or_kept (full.base_at fs key (full.current_of fs key)) (full.base_from key (full.current_of fs key) f) rest) ∙ rest)
    ]

-- the base at the version that is held, or none at the first version
abbrev base_if : ℕ → Option Item → Option Item
base_if v o = cond (v == 0) None o

pub base_same : (fs : List Fact) (key : Key) → AllFine fs → base (facts_reduced fs) key ≡ full.base_of fs key
base_same [] key h = refl
base_same (f ∷ fs) key h =
    let same : current (facts_reduced fs) key ≡ full.current_of fs key = current_same fs key h.1 in
    let by : current_by (reduced_fact f) key ≡ full.version_from key f = version_same f key h.0 in
    elim (cases_Bool (nat_lt (current (facts_reduced fs) key) (current_by (reduced_fact f) key))) [
      | inl up ↦
          let higher : full.current_of fs key < full.version_from key f = omega (arith, ltb-true _ _ up) in
          let number : full.version_from key f ≡ full.current_of (f ∷ fs) key = omega arith in
          let one : full.base_at fs key (full.version_from key f) ≡ None = none_above fs key (full.version_from key f) higher in
          let two : full.base_from key (full.version_from key f) f ≡ base_by (reduced_fact f) key = (base_fact f key h.0 (omega arith)).0 in
          let test : (full.version_from key f == 0) ≡ false = ne_eqb (full.version_from key f) 0 (λ e. omega arith) in
          let value : base_by (reduced_fact f) key ≡ base_if (full.version_from key f) (full.base_at (f ∷ fs) key (full.version_from key f)) = rw (test, one, two) refl in
          rw up (subst (λ v. base_by (reduced_fact f) key ≡ base_if v (full.base_at (f ∷ fs) key v)) number value)
      | inr down ↦
          let lower : full.version_from key f ≤ full.current_of fs key = omega (arith, ltb-false _ _ down) in
          let number : full.current_of fs key ≡ full.current_of (f ∷ fs) key = omega arith in
          let kept : base_if (full.current_of fs key) (full.base_at fs key (full.current_of fs key)) ≡ base_if (full.current_of fs key) (full.base_at (f ∷ fs) key (full.current_of fs key)) =
          elim (cases_eq (full.current_of fs key) 0) [
            | inl zero ↦ (let test : (full.current_of fs key == 0) ≡ true = eq-eqb (full.current_of fs key) 0 zero in rw test refl)
            | inr some ↦
                let rest : is_some (full.base_at fs key (full.current_of fs key)) ≡ true = base_there fs key h.1 (omega arith) in
                ap (base_if (full.current_of fs key)) (sym (or_kept (full.base_at fs key (full.current_of fs key)) (full.base_from key (full.current_of fs key) f) rest))
          ] in
          rw down (base_same fs key h.1 ∙ kept ∙ ap (λ v. base_if v (full.base_at (f ∷ fs) key v)) number)
    ]

-- ---- executed deltas

-- what is in a union
In-inserted : {X : Type 0} (m : TxMap X) (e p : TxId × X) → In p (inserted m e) → (e ≡ p) ⊎ In p m
In-inserted [] e p h = elim h [ inl here ↦ inl here | inr none ↦ absurd none ]
In-inserted (x ∷ xs) e p h =
    elim (cases_Bool (tx_lt x.0 e.0)) [
      | inl less ↦
          let listed : (x ≡ p) ⊎ In p (inserted xs e) = rw less at h in
          elim listed [
            | inl here ↦ inr (inl here)
            | inr there ↦ elim (In-inserted xs e p there) [ inl new ↦ inl new | inr old ↦ inr (inr old) ]
          ]
      | inr over ↦ (let listed : (e ≡ p) ⊎ ((x ≡ p) ⊎ In p xs) = rw over at h in listed)
    ]

In-with_entry : {X : Type 0} (m : TxMap X) (e p : TxId × X) → In p (with_entry m e) → (e ≡ p) ⊎ In p m
In-with_entry m e p h =
    elim (cases_Bool (is_some (value_of m e.0))) [
      | inl there ↦ inr (rw there at h)
      | inr new ↦ In-inserted m e p (rw new at h)
    ]

pub In-union : {X : Type 0} (xs ys : TxMap X) (p : TxId × X) → In p (union xs ys) → In p xs ⊎ In p ys
In-union xs [] p h = inl h
In-union xs (y ∷ ys) p h =
    elim (In-union (with_entry xs y) ys p h) [
      | inl first ↦ elim (In-with_entry xs y p first) [ inl new ↦ inr (inl new) | inr old ↦ inl old ]
      | inr second ↦ inr (inr second)
    ]

-- the deltas of one fact
delta_choice : (cs : List Choice) (i : Place) → filter_map (full.delta_given i.key i.version) cs ≡ adds_at cs i
delta_choice [] i = refl
delta_choice (c ∷ cs) i =
    elim (cases_Bool (place_eq (spot c) i)) [
      | inl e ↦
          let test : ((c.version == i.version) && key_eq c.key i.key) ≡ true = and_swap (c.version == i.version) (key_eq c.key i.key) ∙ e in
          elim (Update-is c.update) [
            | inl w ↦ rw (e, test, w.2) (delta_choice cs i)
            | inr a ↦ rw (e, test, a.1) (ap (λ z. (c.tx, a.0) ∷ z) (delta_choice cs i))
          ]
      | inr e ↦
          let test : ((c.version == i.version) && key_eq c.key i.key) ≡ false = and_swap (c.version == i.version) (key_eq c.key i.key) ∙ e in
          rw (e, test) (delta_choice cs i)
    ]

pub deltas_same : (f : Fact) (i : Place) → full.deltas_from i.key i.version f ≡ executed_by (reduced_fact f) i
deltas_same (Fact.Heard tx (Commit cs)) i = delta_choice cs i
deltas_same (Fact.Heard tx Abort) i = refl
deltas_same (Fact.Booted epoch) i = refl
deltas_same (Fact.Floor centre epoch seq) i = refl
deltas_same (Fact.Promised k low high ballot) i = refl
deltas_same (Fact.Voted k version ballot options offered) i = refl
deltas_same (Fact.Adopted k version item adds) i = ap (λ b. cond b (map delta_pair adds) []) (and_swap (version == i.version) (key_eq k i.key))

-- what is executed as defined is so here, entry by entry
pub executed_listed : (fs : List Fact) (i : Place) (p : TxId × Amounts) → In p (full.deltas_at fs i.key i.version) → In p (executed (facts_reduced fs) i)
executed_listed [] i p h = h
executed_listed (f ∷ fs) i p h =
    elim (In-union (full.deltas_at fs i.key i.version) (full.deltas_from i.key i.version f) p h) [
      | inl before ↦ In-right p (executed_by (reduced_fact f) i) (executed (facts_reduced fs) i) (executed_listed fs i p before)
      | inr now ↦ In-left p (executed_by (reduced_fact f) i) (executed (facts_reduced fs) i) (subst (In p) (deltas_same f i) now)
    ]

-- and the other way a delta of the transaction is there
pub value_there : {X : Type 0} (m : TxMap X) (p : TxId × X) → In p m → is_some (value_of m p.0) ≡ true
value_there [] p h = absurd h
value_there (e ∷ es) p h =
    elim (cases_Bool (tx_eq e.0 p.0)) [
      | inl same ↦ rw same refl
      | inr other ↦ rw other (elim h [
        | inl here ↦ absurd (false≢true (sym other ∙ (Decides-tx e.0 p.0).1 (ap (λ z. z.0) here)))
        | inr there ↦ value_there es p there
      ])
    ]

or_first : {X : Type 0} (a b : Option X) → is_some a ≡ true → is_some (option_or a b) ≡ true
or_first None b h = absurd (false≢true h)
or_first (Some x) b h = refl

or_second : {X : Type 0} (a b : Option X) → is_some b ≡ true → is_some (option_or a b) ≡ true
or_second None b h = h
or_second (Some x) b h = refl

pub executed_valued : (fs : List Fact) (i : Place) (p : TxId × Amounts) → In p (executed (facts_reduced fs) i) → is_some (value_of (full.deltas_at fs i.key i.version) p.0) ≡ true
executed_valued [] i p h = absurd h
executed_valued (f ∷ fs) i p h =
    ap is_some (value_of-union (full.deltas_at fs i.key i.version) (full.deltas_from i.key i.version f) p.0)
    ∙ elim (In-append p (executed_by (reduced_fact f) i) (executed (facts_reduced fs) i) h) [
      | inl now ↦ or_second (value_of (full.deltas_at fs i.key i.version) p.0) (value_of (full.deltas_from i.key i.version f) p.0)
          (value_there (full.deltas_from i.key i.version f) p (subst (In p) (sym (deltas_same f i)) now))
      | inr before ↦ or_first (value_of (full.deltas_at fs i.key i.version) p.0) (value_of (full.deltas_from i.key i.version f) p.0) (executed_valued fs i p before)
    ]
