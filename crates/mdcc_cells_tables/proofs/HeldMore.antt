-- What is held of a key with one more fact, in a table that has the number of the fact that gave the base.
use Rattle.std.proofs.Common.{◌≡◌, ℕ, ◌+◌, ◌<◌, ◌∷◌, true, false, List, [], Some, length, refl, ap, ◌∙◌, arith, inl, inr}
use Rattle.std.specs.Prelude.{IfSome, ◌==◌, nat_lt}
use Rattle.std.proofs.lemmas.Bool.{cases_Bool}
use Rattle.std.proofs.lemmas.Bool.Decides.{nat_tests}
use Rattle.mdcc_base.specs.declared.key.Key.{Key}
use Rattle.mdcc_def_protocol.specs.Facts.{base_of, current_of, version_from}
use Rattle.mdcc_def_messages.specs.declared.facts.Fact.{Fact}
use Rattle.mdcc_cells_chains.proofs.Filtered.{entry-skip}
use Rattle.mdcc_theorem_fact_folds.specs.Held.{next_version_and_base as next_by, version_and_base as held_by}
use Rattle.mdcc_theorem_fact_folds.proofs.Versions.{held-updates}
use Rattle.mdcc_cells_tables.specs.Numbers.{fact_numbered}
use Rattle.mdcc_cells_tables.specs.HeldVersions.{AreGivenBelow, HoldsVersion, HoldsVersions, Versions, base_by, base_number, held_of, never_held, next_held}
use Rattle.mdcc_cells_tables.specs.declared.held_table.HeldVersion.{HeldVersion}

-- ---- facts by their numbers

pub numbered-newest : (fact : Fact) (facts : List Fact) → fact_numbered (fact ∷ facts) (length facts) ≡ Some fact
numbered-newest fact facts = let same : (length facts == length facts) ≡ true = grind (arith, nat_tests) in rw same refl

pub numbered-older : (fact : Fact) (facts : List Fact) (number : ℕ) → number < length facts → fact_numbered (fact ∷ facts) number ≡ fact_numbered facts number
numbered-older fact facts number within = entry-skip fact facts number within

-- ---- one more fact

module _ (key : Key) (facts : List Fact) (fact : Fact) where
  version-goes : current_of (fact ∷ facts) key ≡ (next_by key fact (held_by facts key)).0
  version-goes = ap (λ h. h.0) (held-updates key facts fact)

  base-goes : base_of (fact ∷ facts) key ≡ (next_by key fact (held_by facts key)).1
  base-goes = ap (λ h. h.1) (held-updates key facts fact)

  holds-raised : (held : HeldVersion) (number : ℕ) → HoldsVersion held facts key → number ≡ length facts → nat_lt held.version (version_from key fact) ≡ true
      → HoldsVersion (record { version = version_from key fact; number = number }) (fact ∷ facts) key
  holds-raised held number holds is up =
      let above : nat_lt (current_of facts key) (version_from key fact) ≡ true = ap (λ v. nat_lt v (version_from key fact)) holds.version ∙ up in
      let some : (version_from key fact == 0) ≡ false = grind (arith, nat_tests, up) in
      record {
        version = version-goes ∙ rw above refl;
        base = base-goes ∙ rw (above, some, is, numbered-newest fact facts) refl;
        number = λ _. omega arith;
      }

  holds-still : (held : HeldVersion) → HoldsVersion held facts key → nat_lt held.version (version_from key fact) ≡ false → HoldsVersion held (fact ∷ facts) key
  holds-still held holds low =
      let under : nat_lt (current_of facts key) (version_from key fact) ≡ false = ap (λ v. nat_lt v (version_from key fact)) holds.version ∙ low in
      record {
        version = version-goes ∙ rw under holds.version;
        base = base-goes ∙ rw under (holds.base ∙ still);
        number = λ some. let before : held.number < length facts = holds.number some in omega arith;
      }
    where
      still : base_by facts key held ≡ base_by (fact ∷ facts) key held
      still = elim (cases_Bool (held.version == 0)) [
        | inl none ↦ rw none refl
        | inr some ↦
            let up : 0 < held.version = grind (arith, nat_tests, some) in
            rw (some, numbered-older fact facts held.number (holds.number up)) refl
      ]

  holds-more : (held : HeldVersion) (number : ℕ) → HoldsVersion held facts key → number ≡ length facts → HoldsVersion (next_held key fact number held) (fact ∷ facts) key
  holds-more held number holds is =
      elim (cases_Bool (nat_lt held.version (version_from key fact))) [
        | inl up ↦ rw up (holds-raised held number holds is up)
        | inr low ↦ rw low (holds-still held holds low)
      ]

pub table-more : (old new : Versions) (facts : List Fact) (fact : Fact) (number : ℕ) → ((key : Key) → held_of new key ≡ next_held key fact number (held_of old key))
    → HoldsVersions old facts → number ≡ length facts → HoldsVersions new (fact ∷ facts)
table-more old new facts fact number goes holds is key = rw (goes key) (holds-more key facts fact (held_of old key) number (holds key) is)

pub holds-none : (key : Key) → HoldsVersion never_held [] key
holds-none key = record { version = refl; base = refl; number = λ some. absurd (omega arith) }

-- ---- numbers

below-more : (key : Key) (fact : Fact) (number : ℕ) (held : HeldVersion) → (0 < held.version → held.number < number) → 0 < (next_held key fact number held).version → (next_held key fact number held).number < number + 1
below-more key fact number held below =
    elim (cases_Bool (nat_lt held.version (version_from key fact))) [
      | inl up ↦ rw up (λ some. omega arith)
      | inr low ↦ rw low (λ some. let before : held.number < number = below some in omega arith)
    ]

pub table-below : (old new : Versions) (fact : Fact) (number : ℕ) → ((key : Key) → held_of new key ≡ next_held key fact number (held_of old key)) → AreGivenBelow number old → AreGivenBelow (number + 1) new
table-below old new fact number goes below key = rw (goes key) (below-more key fact number (held_of old key) (below key))

-- ---- what a reader asks

pub number-below : (held : HeldVersion) (number : ℕ) → (0 < held.version → held.number < number) → IfSome (base_number held) (λ found. found.1 < number)
number-below held number below =
    elim (cases_Bool (held.version == 0)) [
      | inl none ↦ rw none tt
      | inr some ↦ let up : 0 < held.version = grind (arith, nat_tests, some) in rw some (below up)
    ]
