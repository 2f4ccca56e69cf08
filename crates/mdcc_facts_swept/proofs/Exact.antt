-- Whether no cell can be given back.
use Rattle.std.proofs.Common.{◌≡◌, ◌+◌, ◌∷◌, ◌&&◌, ◌||◌, ◌⊎◌, ℕ, Bool, true, false, List, [], refl, sym, ap, ◌∙◌, inl, inr, arith}
use Rattle.std.specs.Prelude.{Err, Ok, OnOk, Result, nat_lt, not}
use Rattle.std.proofs.lemmas.Bool.{cases_Bool}
use Rattle.std.proofs.lemmas.Bool.Decides.{nat_tests}
use Rattle.mdcc_def_messages.specs.Lengths.{cells_needed, cells_used}
use Rattle.mdcc_def_messages.specs.declared.facts.Fact.{Fact}
use Rattle.mdcc_def_protocol.specs.Cells.{cells_held}
use Rattle.mdcc_def_protocol.specs.Facts.{has_floor, is_floor}
use Rattle.mdcc_def_protocol.proofs.Plain.{cells_plain}
use Rattle.mdcc_cells_floors.specs.Epochs.{floors_set}
use Rattle.mdcc_given_back.specs.Counted.{top_floors, without_floors}
use Rattle.mdcc_given_back.proofs.Counting.{held_by_needed}
use Rattle.mdcc_index.proofs.Adding.{facts_in_cells}
use Rattle.mdcc_index.proofs.Spare.{taken_used}
use Rattle.mdcc_facts_kept.specs.Adding.{MayBeSwept}
use Rattle.mdcc_facts_kept.specs.Kept.{IsKept, KeptRest, cells_occupied}
use Rattle.mdcc_facts_swept.specs.Swept.{IsSwept, may_free}
use Rattle.mdcc_facts_kept.proofs.FloorsSet.{has-set}
use Rattle.mdcc_facts_swept.proofs.Writing.{frees-none}

-- a floor is set by one list of facts that is kept where it is by another
pub floor-alike : (store : KeptRest) (a b : List Fact) → IsKept store a → IsKept store b → has_floor a ≡ true → has_floor b ≡ true
floor-alike store a b one other set =
    has-set b other.added.risen
    ∙ ap (nat_lt 0) (sym other.tops ∙ one.tops)
    ∙ sym (has-set a one.added.risen)
    ∙ set

unset : (facts : List Fact) → has_floor facts ≡ false → without_floors facts ≡ facts
unset [] none = refl
unset (fact ∷ facts) none = elim (cases_Bool (is_floor fact)) [
  | inl floor ↦ let bad : true ≡ false = rw floor at none in absurd (cc)
  | inr other ↦ rw other (ap (λ fs. fact ∷ fs) (unset facts (rw other at none)))
]

none-on-top : (n : ℕ) → nat_lt 0 n ≡ false → n ≡ 0
none-on-top n none = grind (arith, nat_tests)

-- before a floor is set all cells are held
pub held-unset : (store : KeptRest) (facts : List Fact) → IsKept store facts → has_floor facts ≡ false → cells_occupied store ≡ cells_held facts
held-unset store facts is none =
    let used = taken_used store.inner (without_floors is.rest) (facts_in_cells store.inner (without_floors is.rest) is.inner) in
    let all : cells_used (without_floors is.rest) ≡ cells_used facts = ap (λ fs. cells_used (without_floors fs)) (is.whole none) ∙ ap cells_used (unset facts none) in
    let tops : top_floors facts ≡ 0 = none-on-top (top_floors facts) (sym (has-set facts is.added.risen) ∙ none) in
    let set : floors_set store.floors.entries ≡ top_floors facts = is.tops in
    let held = cells_plain facts none in
    omega (arith, used, all, tops, set, held)

-- a fact after which no cell is given back sets no floor
no-floor : (fact : Fact) → may_free fact ≡ false → is_floor fact ≡ false
no-floor (Fact.Booted epoch) h = refl
no-floor (Fact.Promised key low high ballot) h = refl
no-floor (Fact.Voted key version ballot options offered) h = refl
no-floor (Fact.Heard tx outcome) h = absurd (cc)
no-floor (Fact.Adopted key version item adds) h = absurd (cc)
no-floor (Fact.Floor centre epoch seq) h = absurd (cc)

abbrev exact_if : Bool → Bool → Bool → Bool
exact_if has exact free = not has || (exact && not free)

exact-by : (has exact free : Bool) → exact_if has exact free ≡ true → (has ≡ false) ⊎ ((exact ≡ true) × (free ≡ false))
exact-by false exact free h = inl refl
exact-by true true true h = absurd (cc)
exact-by true true false h = inr (refl, refl)
exact-by true false free h = absurd (cc)

inexact-by : (has exact free : Bool) → exact_if has exact free ≡ false → has ≡ true
inexact-by true exact free h = refl
inexact-by false exact free h = absurd (cc)

-- ---- with one more fact

module _ (old new : KeptRest) (facts : List Fact) (fact : Fact) (exact : Bool) (was : IsSwept (record { kept = old; exact = exact }) facts) (now : IsKept new (fact ∷ facts)) (may : MayBeSwept facts fact)
    (used : is_floor fact ≡ false → cells_occupied new ≡ cells_occupied old + cells_needed fact) where
  counted-by : (has_floor (fact ∷ facts) ≡ false) ⊎ ((exact ≡ true) × (may_free fact ≡ false)) → cells_occupied new ≡ cells_held (fact ∷ facts)
  counted-by (inl none) = held-unset new (fact ∷ facts) now none
  counted-by (inr stays) =
      let held = held_by_needed fact facts may.unfinished (frees-none fact stays.1) in
      let more = used (no-floor fact stays.1) in
      let before = was.counted stays.0 in
      omega (arith, held, more, before)

  pub swept-more : (has after : Bool) → has ≡ has_floor (fact ∷ facts) → after ≡ exact_if has exact (may_free fact) → IsSwept (record { kept = new; exact = after }) (fact ∷ facts)
  swept-more has after set is =
      let by : after ≡ exact_if (has_floor (fact ∷ facts)) exact (may_free fact) = is ∙ ap (λ h. exact_if h exact (may_free fact)) set in
      record {
        kept = now;
        counted = λ yes. counted-by (exact-by (has_floor (fact ∷ facts)) exact (may_free fact) (sym by ∙ yes));
        floor = λ no. inexact-by (has_floor (fact ∷ facts)) exact (may_free fact) (sym by ∙ no);
      }

pub on-any : {T E : Type 0} (r : Result T E) (A : Type 0) → A → OnOk r A
on-any (Ok x) A a = a
on-any (Err e) A a = tt
