-- A store that gives back all that it can keeps exactly the cells that the centre holds.
use Rattle.std.proofs.Common.{◌≡◌, ◌+◌, ◌≤◌, if◌then◌else◌, ℕ, Bool, true, false, not, List, [], ◌∷◌, None, refl, sym, ap, ◌∙◌, inl, inr, arith, zero-add}
use Rattle.std.specs.Int.{div_ceil}
use Rattle.std.specs.List.{AllByRecursion}
use Rattle.std.proofs.lemmas.Bool.{and_parts, not-true}
use Rattle.std.proofs.lemmas.Grind.{div_ceil_times}
use Rattle.mdcc_base.specs.Ballot.{is_fast}
use Rattle.mdcc_base.specs.Counts.{sum_over}
use Rattle.mdcc_def_messages.specs.Lengths.{cells_needed, cells_used, fact_length}
use Rattle.mdcc_def_messages.specs.WellFormed.{IsWellFormedFact}
use Rattle.mdcc_def_messages.specs.declared.facts.Fact.{Fact}
use Rattle.mdcc_def_protocol.specs.Cells.{cells_kept, cells_left}
use Rattle.mdcc_def_protocol.specs.Facts.{has_floor}
use Rattle.mdcc_given_back.specs.Compact.{CompactedIsHeld, CompactedIsRest, CompactedOnce, HeldByRest, HeldWithinRest, LeftOfRest, compacted}
use Rattle.mdcc_given_back.specs.Rest.{AreRest, IsLeft, bare, is_bared, is_dropped, is_vote_past}
use Rattle.mdcc_given_back.proofs.Left.{cells-left}

-- ---- a vote without its marks

bare-bare : (fact : Fact) → bare (bare fact) ≡ bare fact
bare-bare (Fact.Booted epoch) = refl
bare-bare (Fact.Promised key low high ballot) = refl
bare-bare (Fact.Voted key version ballot options offered) = refl
bare-bare (Fact.Heard tx outcome) = refl
bare-bare (Fact.Adopted key version item adds) = refl
bare-bare (Fact.Floor centre epoch seq) = refl

module _ (all : List Fact) where
  bare-kept : (fact : Fact) → is_bared all fact ≡ true → is_dropped all (bare fact) ≡ false
  bare-kept (Fact.Voted key version ballot options offered) h =
      not-true (is_fast ballot) (and_parts (is_vote_past all key version options) (not (is_fast ballot)) h).1
  bare-kept (Fact.Booted epoch) h = absurd (cc)
  bare-kept (Fact.Promised key low high ballot) h = absurd (cc)
  bare-kept (Fact.Heard tx outcome) h = absurd (cc)
  bare-kept (Fact.Adopted key version item adds) h = absurd (cc)
  bare-kept (Fact.Floor centre epoch seq) h = absurd (cc)

  bared-kept : (fact : Fact) → is_bared all fact ≡ true → is_dropped all fact ≡ false
  bared-kept (Fact.Voted key version ballot options offered) h =
      let parts = and_parts (is_vote_past all key version options) (not (is_fast ballot)) h in
      rw (parts.0, not-true (is_fast ballot) parts.1) refl
  bared-kept (Fact.Booted epoch) h = absurd (cc)
  bared-kept (Fact.Promised key low high ballot) h = absurd (cc)
  bared-kept (Fact.Heard tx outcome) h = absurd (cc)
  bared-kept (Fact.Adopted key version item adds) h = absurd (cc)
  bared-kept (Fact.Floor centre epoch seq) h = absurd (cc)

  bare-bared : (fact : Fact) → is_bared all fact ≡ true → is_bared all (bare fact) ≡ true
  bare-bared (Fact.Voted key version ballot options offered) h = (and_parts (is_vote_past all key version options) (not (is_fast ballot)) h).1
  bare-bared (Fact.Booted epoch) h = absurd (cc)
  bare-bared (Fact.Promised key low high ballot) h = absurd (cc)
  bare-bared (Fact.Heard tx outcome) h = absurd (cc)
  bare-bared (Fact.Adopted key version item adds) h = absurd (cc)
  bare-bared (Fact.Floor centre epoch seq) h = absurd (cc)

  -- ---- what has something left is a rest

  skipped : (fact : Fact) (rest facts : List Fact) → is_dropped all fact ≡ true → AreRest all rest facts → AreRest all rest (fact ∷ facts)
  skipped fact [] facts h is = (h, is)
  skipped fact (left ∷ rest) facts h is = inl (h, is)

  kept-own : (fact : Fact) (rest facts : List Fact) (bared : Bool) → is_bared all fact ≡ bared → AreRest all rest facts
      → AreRest all ((if bared then bare fact else fact) ∷ rest) (fact ∷ facts)
  kept-own fact rest facts true b is = inr (inr (b, refl), is)
  kept-own fact rest facts false b is = inr (inl refl, is)

  kept : (fact : Fact) (rest facts : List Fact) (dropped : Bool) → is_dropped all fact ≡ dropped → AreRest all rest facts
      → AreRest all (if dropped then rest else (if is_bared all fact then bare fact else fact) ∷ rest) (fact ∷ facts)
  kept fact rest facts true h is = skipped fact rest facts h is
  kept fact rest facts false h is = kept-own fact rest facts (is_bared all fact) refl is

  kept-bare : (fact : Fact) (rest facts : List Fact) → is_bared all fact ≡ true → AreRest all rest facts
      → AreRest all (if is_dropped all (bare fact) then rest else (if is_bared all (bare fact) then bare (bare fact) else bare fact) ∷ rest) (fact ∷ facts)
  kept-bare fact rest facts b is = rw (bare-kept fact b, bare-bared fact b, bare-bare fact) (inr (inr (b, refl), is))

  kept-left : (fact left : Fact) (rest facts : List Fact) → IsLeft all fact left → AreRest all rest facts
      → AreRest all (if is_dropped all left then rest else (if is_bared all left then bare left else left) ∷ rest) (fact ∷ facts)
  kept-left fact left rest facts (inl same) is = rw same (kept fact rest facts (is_dropped all fact) refl is)
  kept-left fact left rest facts (inr bared) is = rw bared.1 (kept-bare fact rest facts bared.0 is)

  compacted-rest : (rest facts : List Fact) → AreRest all rest facts → AreRest all (compacted all rest) facts
  compacted-rest [] [] is = tt
  compacted-rest (left ∷ rest) [] is = absurd is
  compacted-rest [] (fact ∷ facts) is = is
  compacted-rest (left ∷ rest) (fact ∷ facts) (inl is) =
      skipped fact (compacted all (left ∷ rest)) facts is.0 (compacted-rest (left ∷ rest) facts is.1)
  compacted-rest (left ∷ rest) (fact ∷ facts) (inr is) =
      kept-left fact left (compacted all rest) facts is.0 (compacted-rest rest facts is.1)

  -- ---- the same is left

  abbrev with_left : Fact → List Fact → List Fact
  with_left fact rest = if is_dropped all fact then rest else (if is_bared all fact then bare fact else fact) ∷ rest

  bare-left-same : (fact : Fact) (rest : List Fact) → is_bared all fact ≡ true → with_left (bare fact) rest ≡ with_left fact rest
  bare-left-same fact rest b = rw (bare-kept fact b, bare-bared fact b, bare-bare fact, bared-kept fact b, b) refl

  left-same : (fact left : Fact) (rest : List Fact) → IsLeft all fact left → with_left left rest ≡ with_left fact rest
  left-same fact left rest (inl same) = ap (λ f. with_left f rest) same
  left-same fact left rest (inr bared) = ap (λ f. with_left f rest) bared.1 ∙ bare-left-same fact rest bared.0

  dropped-same : (fact : Fact) (rest : List Fact) → is_dropped all fact ≡ true → with_left fact rest ≡ rest
  dropped-same fact rest h = rw h refl

  compacted-once : (rest facts : List Fact) → AreRest all rest facts → compacted all rest ≡ compacted all facts
  compacted-once [] [] is = refl
  compacted-once (left ∷ rest) [] is = absurd is
  compacted-once [] (fact ∷ facts) is = compacted-once [] facts is.1 ∙ sym (dropped-same fact (compacted all facts) is.0)
  compacted-once (left ∷ rest) (fact ∷ facts) (inl is) =
      compacted-once (left ∷ rest) facts is.1 ∙ sym (dropped-same fact (compacted all facts) is.0)
  compacted-once (left ∷ rest) (fact ∷ facts) (inr is) =
      left-same fact left (compacted all rest) is.0 ∙ ap (with_left fact) (compacted-once rest facts is.1)

  -- ---- the cells that are left

  no-cell : (fact : Fact) → is_dropped all fact ≡ true → cells_left all fact ≡ 0
  no-cell fact h = cells-left all fact ∙ rw h refl

  bare-cells : (fact : Fact) → is_bared all fact ≡ true → cells_left all (bare fact) ≡ cells_left all fact
  bare-cells fact b =
      let one : (if is_dropped all (bare fact) then 0 else (if is_bared all (bare fact) then 1 else cells_needed (bare fact))) ≡ 1 =
      rw (bare-kept fact b, bare-bared fact b) refl in
      let same : (if is_dropped all fact then 0 else (if is_bared all fact then 1 else cells_needed fact)) ≡ 1 = rw (bared-kept fact b, b) refl in
      (cells-left all (bare fact) ∙ one) ∙ sym (cells-left all fact ∙ same)

  left-cells : (fact left : Fact) → IsLeft all fact left → cells_left all left ≡ cells_left all fact
  left-cells fact left (inl same) = ap (cells_left all) same
  left-cells fact left (inr bared) = ap (cells_left all) bared.1 ∙ bare-cells fact bared.0

  without : (fact : Fact) (n : ℕ) → is_dropped all fact ≡ true → n ≡ cells_left all fact + n
  without fact n h = sym (zero-add n) ∙ ap (λ m. m + n) (sym (no-cell fact h))

  left-of-rest : (rest facts : List Fact) → AreRest all rest facts → sum_over (cells_left all) rest ≡ sum_over (cells_left all) facts
  left-of-rest [] [] is = refl
  left-of-rest (left ∷ rest) [] is = absurd is
  left-of-rest [] (fact ∷ facts) is = left-of-rest [] facts is.1 ∙ without fact (sum_over (cells_left all) facts) is.0
  left-of-rest (left ∷ rest) (fact ∷ facts) (inl is) =
      left-of-rest (left ∷ rest) facts is.1 ∙ without fact (sum_over (cells_left all) facts) is.0
  left-of-rest (left ∷ rest) (fact ∷ facts) (inr is) =
      ap (λ n. n + sum_over (cells_left all) rest) (left-cells fact left is.0) ∙ ap (λ n. cells_left all fact + n) (left-of-rest rest facts is.1)

  -- ---- within the cells that are needed

  some-cell : (n : ℕ) → 1 ≤ n → 1 ≤ div_ceil n 60
  some-cell n some = let cells = div_ceil_times n 60 (omega arith) in omega (arith, cells.0)

  pub bared-cell : (fact : Fact) → is_bared all fact ≡ true → 1 ≤ cells_needed fact
  bared-cell (Fact.Voted key version ballot options offered) h = some-cell (fact_length (Fact.Voted key version ballot options offered)) (omega arith)
  bared-cell (Fact.Booted epoch) h = absurd (cc)
  bared-cell (Fact.Promised key low high ballot) h = absurd (cc)
  bared-cell (Fact.Heard tx outcome) h = absurd (cc)
  bared-cell (Fact.Adopted key version item adds) h = absurd (cc)
  bared-cell (Fact.Floor centre epoch seq) h = absurd (cc)

  at-most : (dropped bared : Bool) (n : ℕ) → (bared ≡ true → 1 ≤ n) → (if dropped then 0 else (if bared then 1 else n)) ≤ n
  at-most true bared n some = omega arith
  at-most false true n some = some refl
  at-most false false n some = omega arith

  pub left-within : (fact : Fact) → cells_left all fact ≤ cells_needed fact
  left-within fact = rw (cells-left all fact) (at-most (is_dropped all fact) (is_bared all fact) (cells_needed fact) (bared-cell fact))

  add-within : (a b c d : ℕ) → a ≤ c → b ≤ d → a + b ≤ c + d
  add-within a b c d h k = omega (arith, h, k)

  sum-within : (facts : List Fact) → sum_over (cells_left all) facts ≤ cells_used facts
  sum-within [] = omega arith
  sum-within (fact ∷ facts) =
      add-within (cells_left all fact) (sum_over (cells_left all) facts) (cells_needed fact) (cells_used facts) (left-within fact) (sum-within facts)

  -- ---- exactly the cells that are needed

  one-cell : (n : ℕ) → 1 ≤ n → n ≤ 60 → div_ceil n 60 ≡ 1
  one-cell n some few = let cells = div_ceil_times n 60 (omega arith) in omega (arith, cells.0, cells.1)

  bare-cell : (fact : Fact) → is_bared all fact ≡ true → IsWellFormedFact fact → cells_needed (bare fact) ≡ 1
  bare-cell (Fact.Voted key version ballot options offered) h w =
      one-cell (fact_length (Fact.Voted key version ballot [] None)) (omega arith) (let fits = w.instance.key_itself.fits in omega (arith, fits))
  bare-cell (Fact.Booted epoch) h w = absurd (cc)
  bare-cell (Fact.Promised key low high ballot) h w = absurd (cc)
  bare-cell (Fact.Heard tx outcome) h w = absurd (cc)
  bare-cell (Fact.Adopted key version item adds) h w = absurd (cc)
  bare-cell (Fact.Floor centre epoch seq) h w = absurd (cc)

  used-by : (fact : Fact) (rest : List Fact) (dropped bared : Bool) → is_bared all fact ≡ bared → IsWellFormedFact fact
      → cells_used (if dropped then rest else (if bared then bare fact else fact) ∷ rest)
      ≡ (if dropped then 0 else (if bared then 1 else cells_needed fact)) + cells_used rest
  used-by fact rest true bared b w = sym (zero-add (cells_used rest))
  used-by fact rest false true b w = ap (λ n. n + cells_used rest) (bare-cell fact b w)
  used-by fact rest false false b w = refl

  pub used-left : (rest : List Fact) → AllByRecursion IsWellFormedFact rest → cells_used (compacted all rest) ≡ sum_over (cells_left all) rest
  used-left [] w = refl
  used-left (fact ∷ rest) w =
      used-by fact (compacted all rest) (is_dropped all fact) (is_bared all fact) refl w.0
      ∙ ap (λ n. n + cells_used (compacted all rest)) (sym (cells-left all fact))
      ∙ ap (λ n. cells_left all fact + n) (used-left rest w.1)

-- ---- the cells that are held

kept-is-left : (facts : List Fact) (fact : Fact) → has_floor facts ≡ true → cells_kept facts fact ≡ cells_left facts fact
kept-is-left facts fact h = rw h refl

held-is-left : (all facts : List Fact) → has_floor all ≡ true → sum_over (cells_kept all) facts ≡ sum_over (cells_left all) facts
held-is-left all [] h = refl
held-is-left all (fact ∷ facts) h =
    ap (λ n. n + sum_over (cells_kept all) facts) (kept-is-left all fact h) ∙ ap (λ n. cells_left all fact + n) (held-is-left all facts h)

pub compacted_is_rest : CompactedIsRest
compacted_is_rest all rest facts is = compacted-rest all rest facts is

pub compacted_is_once : CompactedOnce
compacted_is_once all rest facts is = compacted-once all rest facts is

pub left_is_left : LeftOfRest
left_is_left all rest facts is = left-of-rest all rest facts is

pub held_by_rest : HeldByRest
held_by_rest rest facts h is = held-is-left facts facts h ∙ sym (left-of-rest facts rest facts is)

pub held_within_rest : HeldWithinRest
held_within_rest rest facts h is = rw (held_by_rest rest facts h is) (sum-within facts rest)

pub compacted_is_held : CompactedIsHeld
compacted_is_held rest facts h w is = used-left facts rest w ∙ sym (held_by_rest rest facts h is)
