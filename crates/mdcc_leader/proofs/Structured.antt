-- Structures by version, and a claim at one of them.
use Rattle.std.proofs.Common.{◌≡◌, ℕ, ◌+◌, ◌==◌, ◌||◌, Bool, true, false, cond, nat_eq, List, [], ◌∷◌, ◌++◌, Option, Some, None, Result, Ok, Err, IfOk, OnOk, OnErr, is_some, refl, sym, ap, ◌∙◌, subst, inl, inr, arith}
use Rattle.std.proofs.lemmas.Bool.{cases_Bool}
use Rattle.std.proofs.lemmas.Bool.Decides.{nat_tests}
use Rattle.indexmap.specs.IndexMap.{insert_entry}
use Rattle.std.specs.Map.{lookup, set_value}
use Rattle.mdcc_leader.specs.Extending.{judged, lead_extended}
use Rattle.mdcc_def_messages.specs.declared.facts.Fact.{Fact}
use Rattle.mdcc_option.specs.declared.choices.Claim.{Claim}
use Rattle.mdcc_option.specs.declared.choices.Mark.{Mark}
use Rattle.mdcc_option.specs.declared.cluster.Cluster.{Cluster}
use Rattle.mdcc_base.specs.TxId.{tx_eq}
use Rattle.mdcc_base.specs.declared.identifiers.TxId.{TxId}
use Rattle.mdcc_def_protocol.specs.Facts.{is_settled}
use Rattle.mdcc_def_protocol.specs.Leader.{led_on}
use Rattle.mdcc_def_protocol.specs.Structures.{is_left_out, mark_of_choice, with_claim}
use Rattle.mdcc_def_protocol.specs.Volatile.{Lead, Leading, structure_at, structure_found, with_structure}
use Rattle.mdcc_def_protocol.specs.declared.leader.LeadAnswer.{LeadAnswer}
use Rattle.mdcc_struct.proofs.Order.{tx_eq-refl}
use Rattle.mdcc_struct.proofs.Values.{value_of-inserted}
use Rattle.mdcc_struct.specs.Maps.{inserted, value_of, with_entry}
use Rattle.mdcc_struct.specs.declared.options.Options.{Options}

nat_eq-swap : (a b : ℕ) → nat_eq a b ≡ (b == a)
nat_eq-swap a b = grind (arith, nat_tests)

pub found_by : (structures : List (ℕ × Options)) (version : ℕ) → lookup (nat_eq version) structures ≡ structure_found structures version
found_by [] version = refl
found_by (e ∷ es) version = let ih = found_by es version in let swap = nat_eq-swap version e.0 in grind (arith, ih, swap)

pub set_by : (structures : List (ℕ × Options)) (version : ℕ) (options : Options) → is_some (structure_found structures version) ≡ true
    → set_value (nat_eq version) structures options ≡ with_structure structures version options
set_by [] version options h = absurd (cc)
set_by (e ∷ es) version options h =
    elim (cases_Bool (e.0 == version)) [
      | inl here ↦
          let test : nat_eq version e.0 ≡ true = nat_eq-swap version e.0 ∙ here in
          let is : e.0 ≡ version = grind (arith, nat_tests) in
          rw (here, test, is) refl
      | inr other ↦
          let test : nat_eq version e.0 ≡ false = nat_eq-swap version e.0 ∙ other in
          rw (other, test) (ap (λ xs. e ∷ xs) (set_by es version options (rw other at h)))
    ]

pub insert_by : (structures : List (ℕ × Options)) (version : ℕ) (options : Options)
    → insert_entry nat_eq structures version options ≡ with_structure structures version options
insert_by [] version options = refl
insert_by (e ∷ es) version options =
    elim (cases_Bool (e.0 == version)) [
      | inl here ↦
          let test : nat_eq version e.0 ≡ true = nat_eq-swap version e.0 ∙ here in
          let is : e.0 ≡ version = grind (arith, nat_tests) in
          rw (here, test, is) refl
      | inr other ↦
          let test : nat_eq version e.0 ≡ false = nat_eq-swap version e.0 ∙ other in
          rw (other, test) (ap (λ xs. e ∷ xs) (insert_by es version options))
    ]

-- the structure that is there is put again
pub set_same : (structures : List (ℕ × Options)) (version : ℕ) (options : Options) → lookup (nat_eq version) structures ≡ Some options
    → set_value (nat_eq version) structures options ≡ structures
set_same [] version options h = refl
set_same (e ∷ es) version options h =
    elim (cases_Bool (nat_eq version e.0)) [
      | inl here ↦
          let found : Some e.1 ≡ Some options = rw here at h in
          let is : e.1 ≡ options = cc in
          rw (here, ← is) refl
      | inr other ↦ rw other (ap (λ xs. e ∷ xs) (set_same es version options (rw other at h)))
    ]

pub ruleset structures_by_version = (found_by, set_by, insert_by, set_same)

-- ---- a claim

pub none-from : {X : Type 0} (o : Option X) → is_some o ≡ false → o ≡ None
none-from None h = refl
none-from (Some x) h = absurd (cc)

-- its mark, and that it is not left out
pub judged-some : (facts : List Fact) (tx : TxId) (options : Options) (mark other : Mark) → Some other ≡ judged facts tx options mark
    → ((is_settled facts tx || is_left_out options mark) ≡ false) × (other ≡ mark)
judged-some facts tx options mark other h =
    elim (cases_Bool (is_settled facts tx || is_left_out options mark)) [
      | inl out ↦ absurd (let bad : Some other ≡ None = h ∙ rw out refl in cc)
      | inr within ↦
          let same : Some other ≡ Some mark = h ∙ rw within refl in
          (within, (let is : other ≡ mark = cc in is))
    ]

-- that it is left out
pub judged-none : (facts : List Fact) (tx : TxId) (options : Options) (mark : Mark) → None ≡ judged facts tx options mark
    → (is_settled facts tx || is_left_out options mark) ≡ true
judged-none facts tx options mark h =
    elim (cases_Bool (is_settled facts tx || is_left_out options mark)) [
      | inl out ↦ out
      | inr within ↦ absurd (let bad : None ≡ Some mark = h ∙ rw within refl in cc)
    ]

-- what with_claim leaves, where the claim is left out and where it is put
left_out : {X : Type 0} (has settled full : Bool) (x y : X) → (settled || full) ≡ true → cond (has || settled) x (cond full x y) ≡ x
left_out true settled full x y h = refl
left_out false true full x y h = refl
left_out false false true x y h = refl
left_out false false false x y h = absurd (cc)

put_in : {X : Type 0} (has settled full : Bool) (x y : X) → has ≡ false → (settled || full) ≡ false → cond (has || settled) x (cond full x y) ≡ y
put_in true settled full x y h k = absurd (cc)
put_in false true full x y h k = absurd (cc)
put_in false false true x y h k = absurd (cc)
put_in false false false x y h k = refl

-- the branches of two tests
second_of : {X : Type 0} (a b : Bool) (x y z : X) → a ≡ false → b ≡ true → cond a x (cond b y z) ≡ y
second_of true b x y z h k = absurd (cc)
second_of false true x y z h k = refl
second_of false false x y z h k = absurd (cc)

third_of : {X : Type 0} (a b : Bool) (x y z : X) → a ≡ false → b ≡ false → cond a x (cond b y z) ≡ z
third_of true b x y z h k = absurd (cc)
third_of false true x y z h k = absurd (cc)
third_of false false x y z h k = refl

-- it is left out
pub led_on-left : (cluster : Cluster) (facts : List Fact) (leader : Leading) (of : Lead) (claim : Claim)
    → is_some (value_of (structure_at of.structures claim.version) claim.tx) ≡ false
    → (is_settled facts claim.tx || is_left_out (structure_at of.structures claim.version) (mark_of_choice cluster facts of.key claim.version (structure_at of.structures claim.version) claim.choice)) ≡ true
    → ((led_on cluster facts leader of claim).0 ≡ LeadAnswer.Left) × (lead_extended cluster facts of claim ≡ of)
led_on-left cluster facts leader of claim new out =
    let last = structure_at of.structures claim.version in
    let options = with_claim cluster facts of.key claim.version last (claim.tx, claim.choice) in
    let same : options ≡ last = left_out (is_some (value_of last claim.tx)) (is_settled facts claim.tx) (is_left_out last (mark_of_choice cluster facts of.key claim.version last claim.choice)) last _ out in
    let none : is_some (value_of options claim.tx) ≡ false = ap (λ o. is_some (value_of o claim.tx)) same ∙ new in (
      ap {A = LeadAnswer × Leading} (λ p. p.0) (third_of (is_some (value_of last claim.tx)) (is_some (value_of options claim.tx)) _ _ (LeadAnswer.Left, leader) new none),
      third_of (is_some (value_of last claim.tx)) (is_some (value_of options claim.tx)) of _ of new none,
    )

-- it is marked
pub led_on-put : (cluster : Cluster) (facts : List Fact) (leader : Leading) (of : Lead) (claim : Claim) (mark : Mark)
    → is_some (value_of (structure_at of.structures claim.version) claim.tx) ≡ false
    → (is_settled facts claim.tx || is_left_out (structure_at of.structures claim.version) (mark_of_choice cluster facts of.key claim.version (structure_at of.structures claim.version) claim.choice)) ≡ false
    → mark ≡ mark_of_choice cluster facts of.key claim.version (structure_at of.structures claim.version) claim.choice
    → ((led_on cluster facts leader of claim).0 ≡ LeadAnswer.Accept claim.version of.ballot (inserted (structure_at of.structures claim.version) (claim.tx, mark)))
    × (lead_extended cluster facts of claim ≡ record of { structures = with_structure of.structures claim.version (inserted (structure_at of.structures claim.version) (claim.tx, mark)) })
led_on-put cluster facts leader of claim mark new within is =
    let last = structure_at of.structures claim.version in
    let made = mark_of_choice cluster facts of.key claim.version last claim.choice in
    let options = with_claim cluster facts of.key claim.version last (claim.tx, claim.choice) in
    let put : options ≡ with_entry last (claim.tx, made) = put_in (is_some (value_of last claim.tx)) (is_settled facts claim.tx) (is_left_out last made) last _ new within in
    let entry : with_entry last (claim.tx, made) ≡ inserted last (claim.tx, made) = by (is_some (value_of last claim.tx)) _ _ new in
    let same : options ≡ inserted last (claim.tx, mark) = put ∙ entry ∙ ap (λ m. inserted last (claim.tx, m)) (sym is) in
    let found : value_of (inserted last (claim.tx, mark)) claim.tx ≡ Some mark =
    value_of-inserted last (claim.tx, mark) claim.tx (none-from (value_of last claim.tx) new) ∙ rw (tx_eq-refl claim.tx) refl in
    let there : is_some (value_of options claim.tx) ≡ true = ap (λ o. is_some (value_of o claim.tx)) same ∙ ap (λ o. is_some o) found in (
      ap {A = LeadAnswer × Leading} (λ p. p.0) (second_of (is_some (value_of last claim.tx)) (is_some (value_of options claim.tx)) _ (LeadAnswer.Accept claim.version of.ballot options, _) _ new there)
          ∙ ap (λ o. LeadAnswer.Accept claim.version of.ballot o) same,
      second_of (is_some (value_of last claim.tx)) (is_some (value_of options claim.tx)) of _ of new there
          ∙ ap (λ o. record of { structures = with_structure of.structures claim.version o }) same,
    )
  where
    by : (a : Bool) (x y : Options) → a ≡ false → cond a x y ≡ y
    by true x y h = absurd (cc)
    by false x y h = refl

-- ---- results

pub IfOk-map : {A E : Type 0} (P Q : A → Type 0) (result : Result A E) → ((a : A) → P a → Q a) → IfOk result P → IfOk result Q
IfOk-map P Q (Ok a) h p = h a p
IfOk-map P Q (Err e) h p = tt

pub OnOk-map : {A E P Q : Type 0} (result : Result A E) → (P → Q) → OnOk result P → OnOk result Q
OnOk-map (Ok a) h p = h p
OnOk-map (Err e) h p = tt

pub OnErr-map : {A E P Q : Type 0} (result : Result A E) → (P → Q) → OnErr result P → OnErr result Q
OnErr-map (Ok a) h p = tt
OnErr-map (Err e) h p = h p
