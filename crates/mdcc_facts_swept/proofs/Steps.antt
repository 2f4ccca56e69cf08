-- A fact that is left is written behind what was left of the older ones.
use Rattle.std.proofs.Common.{◌≡◌, ◌≤◌, ◌+◌, ◌∷◌, ℕ, Bool, true, false, List, Some, refl, subst, ap, ◌∙◌, arith}
use Rattle.std.specs.Prelude.{if◌then◌else◌}
use Rattle.mdcc_def_messages.specs.Lengths.{cells_needed}
use Rattle.mdcc_def_messages.specs.declared.facts.Fact.{Fact}
use Rattle.mdcc_facts.specs.Adding.{MayBeAdded}
use Rattle.mdcc_cells_chains.specs.Walks.{older}
use Rattle.mdcc_cells_facts.specs.Stored.{cells_taken}
use Rattle.mdcc_cells_tables.specs.Numbers.{fact_numbered}
use Rattle.mdcc_given_back.specs.Compact.{compacted}
use Rattle.mdcc_given_back.specs.Counted.{without_floors}
use Rattle.mdcc_given_back.specs.Rest.{bare, is_bared, is_dropped}
use Rattle.mdcc_index.specs.Stores.{cells_in_all}
use Rattle.mdcc_index.proofs.Adding.{facts_in_cells}
use Rattle.mdcc_index.proofs.Spare.{taken_used}
use Rattle.mdcc_facts_kept.specs.Kept.{IsKept, KeptRest, left_by}
use Rattle.mdcc_facts_swept.specs.Swept.{AreSweepable, HalfStore, HasHalf}
use Rattle.mdcc_facts_kept.specs.declared.forgotten.Left.{Left}
use Rattle.mdcc_facts_swept.proofs.Sound.{may-left}
use Rattle.mdcc_facts_swept.proofs.Writing.{older-next, room-left, sound-older}

abbrev left_if : Bool → Bool → Left
left_if dropped bared = if dropped then Left.Dropped else (if bared then Left.Bared else Left.Whole)

if-dropped : (dropped bared : Bool) → Left.Dropped ≡ left_if dropped bared → dropped ≡ true
if-dropped true bared is = refl
if-dropped false true is = absurd (cc)
if-dropped false false is = absurd (cc)

if-bared : (dropped bared : Bool) → Left.Bared ≡ left_if dropped bared → (dropped ≡ false) × (bared ≡ true)
if-bared true bared is = absurd (cc)
if-bared false true is = (refl, refl)
if-bared false false is = absurd (cc)

if-whole : (dropped bared : Bool) → Left.Whole ≡ left_if dropped bared → (dropped ≡ false) × (bared ≡ false)
if-whole true bared is = absurd (cc)
if-whole false true is = absurd (cc)
if-whole false false is = (refl, refl)

-- what is said of what is left of a fact
abbrev pub SaysLeft : Left → Fact → KeptRest → Type 0
SaysLeft left fact store =
    (facts : List Fact) (is : IsKept store facts) (number : ℕ) → fact_numbered (without_floors is.rest) number ≡ Some fact → left ≡ left_by facts fact

-- what is left of so many of the oldest facts is written
abbrev pub IsWritten : HalfStore → ℕ → KeptRest → Type 0
IsWritten half n store = (facts : List Fact) (is : IsKept store facts) → HasHalf half (compacted facts (older n (without_floors is.rest)))

-- and of all facts
abbrev pub IsAllWritten : HalfStore → KeptRest → Type 0
IsAllWritten half store = (facts : List Fact) (is : IsKept store facts) → HasHalf half (compacted facts (without_floors is.rest))

-- ---- lists

module _ (all facts : List Fact) (n : ℕ) (fact : Fact) (at : fact_numbered facts n ≡ Some fact) where
  dropped-next : is_dropped all fact ≡ true → compacted all (older (n + 1) facts) ≡ compacted all (older n facts)
  dropped-next d = ap (compacted all) (older-next facts n fact at) ∙ rw d refl

  bared-next : is_dropped all fact ≡ false → is_bared all fact ≡ true → compacted all (older (n + 1) facts) ≡ bare fact ∷ compacted all (older n facts)
  bared-next d b = ap (compacted all) (older-next facts n fact at) ∙ rw (d, b) refl

  whole-next : is_dropped all fact ≡ false → is_bared all fact ≡ false → compacted all (older (n + 1) facts) ≡ fact ∷ compacted all (older n facts)
  whole-next d b = ap (compacted all) (older-next facts n fact at) ∙ rw (d, b) refl

-- ---- what a store keeps

pub sound-rest : (store : KeptRest) (facts : List Fact) (is : IsKept store facts) → AreSweepable (without_floors is.rest)
sound-rest store facts is = record { added = is.inner.added; well_formed = is.inner.cells.well_formed; promised = is.promised; short = is.short }

module _ (store : KeptRest) (facts : List Fact) (is : IsKept store facts) (n : ℕ) (fact : Fact) (at : fact_numbered (without_floors is.rest) n ≡ Some fact) where
  sound-next : AreSweepable (fact ∷ older n (without_floors is.rest))
  sound-next = subst AreSweepable (older-next (without_floors is.rest) n fact at) (sound-older (n + 1) (without_floors is.rest) (sound-rest store facts is))

  may-next : is_dropped facts fact ≡ false → MayBeAdded (compacted facts (older n (without_floors is.rest))) (if is_bared facts fact then bare fact else fact)
  may-next d = may-left facts (older n (without_floors is.rest)) fact sound-next d

  pub may-bared : Left.Bared ≡ left_by facts fact → MayBeAdded (compacted facts (older n (without_floors is.rest))) (bare fact)
  may-bared left =
      let bared = if-bared (is_dropped facts fact) (is_bared facts fact) left in
      subst (λ b. MayBeAdded (compacted facts (older n (without_floors is.rest))) (if b then bare fact else fact)) bared.1 (may-next bared.0)

  pub may-whole : Left.Whole ≡ left_by facts fact → MayBeAdded (compacted facts (older n (without_floors is.rest))) fact
  may-whole left =
      let whole = if-whole (is_dropped facts fact) (is_bared facts fact) left in
      subst (λ b. MayBeAdded (compacted facts (older n (without_floors is.rest))) (if b then bare fact else fact)) whole.1 (may-next whole.0)

  pub next-dropped : Left.Dropped ≡ left_by facts fact → compacted facts (older (n + 1) (without_floors is.rest)) ≡ compacted facts (older n (without_floors is.rest))
  next-dropped left = dropped-next facts (without_floors is.rest) n fact at (if-dropped (is_dropped facts fact) (is_bared facts fact) left)

  pub next-bared : Left.Bared ≡ left_by facts fact → compacted facts (older (n + 1) (without_floors is.rest)) ≡ bare fact ∷ compacted facts (older n (without_floors is.rest))
  next-bared left =
      let bared = if-bared (is_dropped facts fact) (is_bared facts fact) left in
      bared-next facts (without_floors is.rest) n fact at bared.0 bared.1

  pub next-whole : Left.Whole ≡ left_by facts fact → compacted facts (older (n + 1) (without_floors is.rest)) ≡ fact ∷ compacted facts (older n (without_floors is.rest))
  next-whole left =
      let whole = if-whole (is_dropped facts fact) (is_bared facts fact) left in
      whole-next facts (without_floors is.rest) n fact at whole.0 whole.1

  module _ (half : HalfStore) (store-size : cells_in_all store.inner ≡ store.cells) (half-size : cells_in_all half.pool ≡ store.cells) (written : HasHalf half (compacted facts (older n (without_floors is.rest)))) where
    room-next : is_dropped facts fact ≡ false → cells_needed (if is_bared facts fact then bare fact else fact) ≤ half.pool.cells.spare
    room-next d =
        let used = taken_used store.inner (without_floors is.rest) (facts_in_cells store.inner (without_floors is.rest) is.inner) in
        room-left facts (without_floors is.rest) n fact (cells_taken half.pool.cells.encodings) half.pool.cells.spare store.cells at is.inner.cells.well_formed (omega (arith, used, store-size))
        (taken_used half.pool (compacted facts (older n (without_floors is.rest))) written.pool) half-size d

    pub room-bared : Left.Bared ≡ left_by facts fact → cells_needed (bare fact) ≤ half.pool.cells.spare
    room-bared left =
        let bared = if-bared (is_dropped facts fact) (is_bared facts fact) left in
        subst (λ b. cells_needed (if b then bare fact else fact) ≤ half.pool.cells.spare) bared.1 (room-next bared.0)

    pub room-whole : Left.Whole ≡ left_by facts fact → cells_needed fact ≤ half.pool.cells.spare
    room-whole left =
        let whole = if-whole (is_dropped facts fact) (is_bared facts fact) left in
        subst (λ b. cells_needed (if b then bare fact else fact) ≤ half.pool.cells.spare) whole.1 (room-next whole.0)
