-- What is left of facts is written from the oldest on, in the room that all of them had.
use Rattle.std.proofs.Common.{◌≡◌, ◌<◌, ◌≤◌, ◌+◌, ◌∷◌, ℕ, Bool, true, false, List, [], Option, Some, None, length, refl, sym, ap, ◌∙◌, inl, inr, arith}
use Rattle.std.specs.Int.{div_ceil}
use Rattle.std.specs.Prelude.{if◌then◌else◌, nat_lt, ◌==◌}
use Rattle.std.proofs.lemmas.Bool.{cases_Bool, eqb-true}
use Rattle.std.proofs.lemmas.Bool.Decides.{nat_tests}
use Rattle.std.proofs.lemmas.Grind.{div_ceil_times}
use Rattle.mdcc_option.specs.declared.choices.Choice.{Choice}
use Rattle.mdcc_def_messages.specs.Lengths.{cells_needed, cells_used, fact_length}
use Rattle.mdcc_def_messages.specs.declared.facts.Fact.{Fact}
use Rattle.mdcc_cells_chains.specs.Walks.{older}
use Rattle.mdcc_cells_chains.proofs.Filtered.{entry-within, older-all, older-skip}
use Rattle.mdcc_cells_facts.specs.Holding.{AreWellFormed}
use Rattle.mdcc_cells_tables.specs.Numbers.{fact_numbered}
use Rattle.mdcc_given_back.specs.Compact.{compacted}
use Rattle.mdcc_given_back.specs.Counted.{frees_nothing}
use Rattle.mdcc_given_back.specs.Rest.{bare, is_bared, is_dropped}
use Rattle.mdcc_facts_swept.specs.Swept.{AreSweepable, may_free}
use Rattle.mdcc_facts_swept.proofs.Sound.{tail-sound}

-- ---- the older facts

pub older-none : (facts : List Fact) → older 0 facts ≡ []
older-none [] = refl
older-none (fact ∷ facts) = older-skip 0 fact facts (omega arith) ∙ older-none facts

pub older-whole : (facts : List Fact) → older (length facts) facts ≡ facts
older-whole facts = older-all (length facts) facts (omega arith)

pub older-next : (facts : List Fact) (n : ℕ) (fact : Fact) → fact_numbered facts n ≡ Some fact → older (n + 1) facts ≡ fact ∷ older n facts
older-next [] n fact at = absurd (cc)
older-next (x ∷ facts) n fact at = elim (cases_Bool (n == length facts)) [
  | inl here ↦
      let last : n ≡ length facts = eqb-true n (length facts) here in
      let one : Some x ≡ Some fact = rw here at at in
      let is : x ≡ fact = cc in
      older-all (n + 1) (x ∷ facts) (omega (arith, last))
      ∙ ap (λ f. f ∷ facts) is
      ∙ ap (λ fs. fact ∷ fs) (sym (older-skip n x facts (omega (arith, last)) ∙ older-all n facts (omega (arith, last))))
  | inr there ↦
      let rest : fact_numbered facts n ≡ Some fact = rw there at at in
      let within : n < length facts = entry-within facts n fact rest in
      older-skip (n + 1) x facts (omega (arith, within))
      ∙ older-next facts n fact rest
      ∙ ap (λ fs. fact ∷ fs) (sym (older-skip n x facts (omega (arith, within))))
]

pub sound-older : (n : ℕ) (facts : List Fact) → AreSweepable facts → AreSweepable (older n facts)
sound-older n [] sound = sound
sound-older n (fact ∷ facts) sound = elim (cases_Bool (nat_lt (length facts) n)) [
  | inl whole ↦ rw whole sound
  | inr part ↦ rw part (sound-older n facts (tail-sound fact facts sound))
]

-- ---- the cells

used-older : (n : ℕ) (facts : List Fact) → cells_used (older n facts) ≤ cells_used facts
used-older n [] = omega arith
used-older n (fact ∷ facts) = elim (cases_Bool (nat_lt (length facts) n)) [
  | inl whole ↦ rw whole (omega arith)
  | inr part ↦ rw part (omega (arith, used-older n facts))
]

ceil-within : (a b : ℕ) → a ≤ b → div_ceil a 60 ≤ div_ceil b 60
ceil-within a b le =
    let one = div_ceil_times a 60 (omega arith) in
    let other = div_ceil_times b 60 (omega arith) in
    omega (arith, le, one.1, other.0)

bare-within : (fact : Fact) → cells_needed (bare fact) ≤ cells_needed fact
bare-within (Fact.Voted key version ballot options offered) =
    ceil-within (fact_length (Fact.Voted key version ballot [] None)) (fact_length (Fact.Voted key version ballot options offered)) (offer-within offered)
  where
    offer-within : (other : Option Choice) → fact_length (Fact.Voted key version ballot [] None) ≤ fact_length (Fact.Voted key version ballot options other)
    offer-within None = omega arith
    offer-within (Some choice) = omega arith
bare-within (Fact.Booted epoch) = omega arith
bare-within (Fact.Promised key low high ballot) = omega arith
bare-within (Fact.Heard tx outcome) = omega arith
bare-within (Fact.Adopted key version item adds) = omega arith
bare-within (Fact.Floor centre epoch seq) = omega arith

left-within : (fact : Fact) (bared : Bool) → cells_needed (if bared then bare fact else fact) ≤ cells_needed fact
left-within fact true = bare-within fact
left-within fact false = omega arith

used-by : (dropped : Bool) (left : Fact) (rest : List Fact) (needed used : ℕ) → cells_needed left ≤ needed → cells_used rest ≤ used
    → cells_used (if dropped then rest else left ∷ rest) ≤ needed + used
used-by true left rest needed used one others = omega (arith, others)
used-by false left rest needed used one others = omega (arith, one, others)

used-compacted : (all facts : List Fact) → cells_used (compacted all facts) ≤ cells_used facts
used-compacted all [] = omega arith
used-compacted all (fact ∷ facts) =
    used-by (is_dropped all fact) (if is_bared all fact then bare fact else fact) (compacted all facts) (cells_needed fact) (cells_used facts) (left-within fact (is_bared all fact)) (used-compacted all facts)

pub room-left : (all facts : List Fact) (n : ℕ) (fact : Fact) (taken spare cells : ℕ)
    → fact_numbered facts n ≡ Some fact → AreWellFormed facts → cells_used facts ≤ cells → taken ≡ cells_used (compacted all (older n facts))
    → spare + taken ≡ cells → is_dropped all fact ≡ false → cells_needed (if is_bared all fact then bare fact else fact) ≤ spare
room-left all facts n fact taken spare cells at well fits is size kept =
    let next : cells_used (older (n + 1) facts) ≡ cells_needed fact + cells_used (older n facts) = ap cells_used (older-next facts n fact at) in
    let whole = used-older (n + 1) facts in
    let part = used-compacted all (older n facts) in
    let one = left-within fact (is_bared all fact) in
    omega (arith, fits, is, size, next, whole, part, one)

-- ---- a fact after which no cell is given back

some-options : (n : ℕ) → (n == 0) ≡ false → nat_lt 0 n ≡ true
some-options n some = grind (arith, nat_tests)

pub frees-none : (fact : Fact) → may_free fact ≡ false → frees_nothing fact ≡ true
frees-none (Fact.Booted epoch) none = refl
frees-none (Fact.Promised key low high ballot) none = refl
frees-none (Fact.Voted key version ballot options offered) none = some-options (length options) none
frees-none (Fact.Heard tx outcome) none = absurd (cc)
frees-none (Fact.Adopted key version item adds) none = absurd (cc)
frees-none (Fact.Floor centre epoch seq) none = absurd (cc)
