-- A pool is still kept when bytes are put into it, and when they are freed.
use Rattle.std.proofs.Common.{◌≡◌, ◌≢◌, is_some, subst, inl, inr, ℕ, zero, suc, ◌+◌, ◌-◌, ◌*◌, ◌<◌, ◌≤◌, true, List, [], ◌∷◌, Option, Some, None, length, get_or, set, take, option_map, refl, sym, ap, ◌∙◌, arith}
use Rattle.std.specs.Prelude.{IsSome, if◌then◌else◌, nat_lt, nat_eq}
use Rattle.std.proofs.lemmas.Bool.{cases_eq, cases_lt, le-ltb, lt-ltb, ne_eqb}
use Rattle.std.proofs.lemmas.Bool.Decides.{eqb_tells}
use Rattle.std.proofs.lemmas.List.{get_or-set_same, get_or-set_other, length-set, length-take}
use Rattle.mdcc_pool.specs.Chains.{cell_bytes, chain_written, next_cell, no_cell, step, text}
use Rattle.mdcc_pool.specs.Sizes.{cells_for}
use Rattle.mdcc_pool.specs.Held.{cells_in_use}
use Rattle.mdcc_pool.specs.Pool.{cells_in, held_from, record_at, AreKept, AreLabelled}
use Rattle.mdcc_pool.specs.declared.cells.Cell.{Cell}
use Rattle.mdcc_pool.proofs.Chains.{step_next, step-add, step-alike, step-same, text-alike, written-length, written-next, written-other, written-text}
use Rattle.mdcc_pool.proofs.Copying.{text-length}
use Rattle.mdcc_pool.proofs.Held.{held-get, held-length, held-set, in-less, in-more}
use Rattle.mdcc_pool.proofs.Pieces.{pieces-front, whole-set, written-whole}

pub cells_for-some : (len : ℕ) → 1 ≤ cells_for len
cells_for-some len = omega arith

pub cells_for-enough : (len : ℕ) → len ≤ 60 * cells_for len
cells_for-enough len = omega arith

-- labels of one chain lead back to the index in it
label-place : (label : ℕ → ℕ × ℕ) (a b : ℕ) (chain i j : ℕ) → label a ≡ (chain, i) → label b ≡ (chain, j) → a ≡ b → i ≡ j
label-place label a b chain i j la lb e = ap (λ p. p.1) (sym la ∙ ap label e ∙ lb)

-- and those of two chains are never of one cell
label-apart : (label : ℕ → ℕ × ℕ) (a b : ℕ) (c d i j : ℕ) → c ≢ d → label a ≡ (c, i) → label b ≡ (d, j) → a ≢ b
label-apart label a b c d i j differs la lb e = differs (ap (λ p. p.0) (sym la ∙ ap label e ∙ lb))

-- where a length stands, the list reaches
pub within-lens : (lens : List (Option ℕ)) (i len : ℕ) → get_or lens i None ≡ Some len → i < length lens
within-lens [] i len is = absurd (cc)
within-lens (l ∷ lens) zero len is = omega arith
within-lens (l ∷ lens) (suc i) len is = omega (arith, within-lens lens i len is)

-- ---- bytes are put

-- the first spare cells become a chain of their own
abbrev taken : (n first chain place : ℕ) → ℕ × ℕ
taken n first zero place = if nat_lt place n then (suc first, place) else (0, place - n)
taken n first (suc chain) place = (suc chain, place)

module _ (cells : List Cell) (lens : List (Option ℕ)) (free spare : ℕ) (kept : AreKept cells lens free spare) (bytes : List ℕ) (fits : cells_for (length bytes) ≤ spare) where
  abbrev n : ℕ
  n = cells_for (length bytes)

  abbrev new : List Cell
  new = chain_written cells bytes n free

  abbrev label : ℕ → ℕ × ℕ
  label c = taken n free (kept.label c).0 (kept.label c).1

  spare-label : (j : ℕ) → j < spare → kept.label (step cells j free) ≡ (0, j)
  spare-label j l = (kept.spare_ones j l).1

  pub free-within : free < length cells
  free-within = (kept.spare_ones zero (omega (arith, cells_for-some (length bytes)))).0

  pub free-within-lens : free < length lens
  free-within-lens = omega (arith, free-within, kept.alike)

  pub unused : get_or lens free None ≡ None
  unused = by_case (get_or lens free None) refl
    where
      by_case : (x : Option ℕ) → get_or lens free None ≡ x → x ≡ None
      by_case None is = refl
      by_case (Some len) is =
          absurd (label-apart kept.label free free (suc free) 0 0 0 (λ e. omega arith)
          (kept.used_ones free len is zero (omega (arith, cells_for-some len))).1
          (spare-label zero (omega (arith, cells_for-some (length bytes)))) refl)

  steps : (j at : ℕ) → step new j at ≡ step cells j at
  steps j at = step-same new cells (written-next cells bytes n free) j at

  label-new : (c i j : ℕ) → kept.label c ≡ (i, j) → label c ≡ taken n free i j
  label-new c i j is = ap (λ p. taken n free p.0 p.1) is

  label-first : (j : ℕ) → j < n → taken n free 0 j ≡ (suc free, j)
  label-first j l = ap (λ b. if b then (suc free, j) else (0, j - n)) (lt-ltb j n l)

  label-rest : (j : ℕ) → taken n free 0 (n + j) ≡ (0, j)
  label-rest j =
      let less : n + j - n ≡ j = omega arith in
      ap (λ b. if b then (suc free, n + j) else (0, n + j - n)) (le-ltb (n + j) n (omega arith))
      ∙ ap (λ k. (0, k)) less

  spare-ones : AreLabelled new label 0 (spare - n) (step cells n free)
  spare-ones j l =
      let at : step new j (step cells n free) ≡ step cells (n + j) free = steps j (step cells n free) ∙ sym (step-add cells n j free) in
      let old : (step cells (n + j) free < length cells) × (kept.label (step cells (n + j) free) ≡ (0, n + j)) = kept.spare_ones (n + j) (omega arith) in (
        omega (arith, at, old.0, written-length cells bytes n free),
        ap label at ∙ label-new (step cells (n + j) free) 0 (n + j) old.1 ∙ label-rest j,
      )

  used-ones : (first len : ℕ) → get_or (set lens free (Some (length bytes))) first None ≡ Some len → AreLabelled new label (suc first) (cells_for len) first
  used-ones first len is j l =
      elim (cases_eq first free) [
        | inl same ↦
            let same_len : Some (length bytes) ≡ Some len =
            sym (get_or-set_same lens free (Some (length bytes)) None free-within-lens)
            ∙ ap (λ i. get_or (set lens free (Some (length bytes))) i None) (sym same) ∙ is in
            let len-is : length bytes ≡ len = cc in
            let small : j < n = omega (arith, l, ap cells_for len-is) in
            let at : step new j first ≡ step cells j free = steps j first ∙ ap (step cells j) same in
            let old : (step cells j free < length cells) × (kept.label (step cells j free) ≡ (0, j)) = kept.spare_ones j (omega arith) in (
              omega (arith, at, old.0, written-length cells bytes n free),
              ap label at ∙ label-new (step cells j free) 0 j old.1 ∙ label-first j small ∙ ap (λ i. (suc i, j)) (sym same),
            )
        | inr differs ↦
            let was : get_or lens first None ≡ Some len = sym (get_or-set_other lens free first (Some (length bytes)) None differs) ∙ is in
            let at : step new j first ≡ step cells j first = steps j first in
            let old : (step cells j first < length cells) × (kept.label (step cells j first) ≡ (suc first, j)) = kept.used_ones first len was j l in (
              omega (arith, at, old.0, written-length cells bytes n free),
              ap label at ∙ label-new (step cells j first) (suc first) j old.1,
            )
      ]

  pub kept-put : AreKept new (set lens free (Some (length bytes))) (step cells n free) (spare - n)
  kept-put = record {
    alike = length-set lens free (Some (length bytes)) ∙ kept.alike ∙ sym (written-length cells bytes n free);
    whole = written-whole cells bytes n free kept.whole;
    small = omega (arith, kept.small, written-length cells bytes n free);
    counted = omega (arith, kept.counted, written-length cells bytes n free, in-more lens free (length bytes) free-within-lens unused);
    label = label;
    spare_ones = spare-ones;
    used_ones = used-ones;
  }

  distinct : (a b : ℕ) → a < n → b < n → step cells a free ≡ step cells b free → a ≡ b
  distinct a b la lb e = label-place kept.label (step cells a free) (step cells b free) 0 a b (spare-label a (omega arith)) (spare-label b (omega arith)) e

  record-new : record_at new free (length bytes) ≡ bytes
  record-new =
      ap (take (length bytes)) (written-text cells bytes n free distinct (λ a l. (kept.spare_ones a (omega arith)).0))
      ∙ pieces-front n bytes (cells_for-enough (length bytes))

  record-other : (j len : ℕ) → j ≢ free → get_or lens j None ≡ Some len → record_at new (0 + j) len ≡ record_at cells (0 + j) len
  record-other j len differs is =
      let none : 0 + j ≡ j = omega arith in
      let same : text new (cells_for len) j ≡ text cells (cells_for len) j =
      text-alike new cells (cells_for len) j
      (λ i l. ap (λ c. c.bytes) (written-other cells bytes n free (step cells i j)
      (λ k m. label-apart kept.label (step cells k free) (step cells i j) 0 (suc j) k i (λ e. omega arith)
      (spare-label k (omega arith)) (kept.used_ones j len is i l).1)))
      (λ i l. written-next cells bytes n free (step cells i j)) in
      ap (λ k. take len (text new (cells_for len) k)) none ∙ ap (take len) same ∙ ap (λ k. take len (text cells (cells_for len) k)) (sym none)

  pub held-put : held_from new 0 (set lens free (Some (length bytes))) ≡ set (held_from cells 0 lens) free (Some bytes)
  held-put =
      let none : 0 + free ≡ free = omega arith in
      held-set new cells 0 lens free (Some (length bytes)) free-within-lens record-other
      ∙ ap (λ k. set (held_from cells 0 lens) free (Some (record_at new k (length bytes)))) none
      ∙ ap (λ b. set (held_from cells 0 lens) free (Some b)) record-new

-- ---- bytes are freed

same_eqb : (n : ℕ) → nat_eq n n ≡ true
same_eqb n = elim (eqb_tells n n) [ inl same ↦ same.0 | inr differs ↦ absurd (differs.1 refl) ]

-- a chain goes before the spare cells
abbrev joined : (n first chain place : ℕ) → ℕ × ℕ
joined n first zero place = (0, n + place)
joined n first (suc chain) place = if nat_eq chain first then (0, place) else (suc chain, place)

module _ (cells : List Cell) (lens : List (Option ℕ)) (free spare : ℕ) (kept : AreKept cells lens free spare) (first len last : ℕ) (bytes : List ℕ)
    (is : get_or lens first None ≡ Some len) (last-is : last ≡ step cells (cells_for len - 1) first) (bytes-are : bytes ≡ cell_bytes cells last) where
  abbrev m : ℕ
  m = cells_for len

  abbrev freed : List Cell
  freed = set cells last (record { next = free; bytes = bytes })

  abbrev label-freed : ℕ → ℕ × ℕ
  label-freed c = joined m first (kept.label c).0 (kept.label c).1

  label-of : (c i j : ℕ) → kept.label c ≡ (i, j) → label-freed c ≡ joined m first i j
  label-of c i j e = ap (λ p. joined m first p.0 p.1) e

  label-own : (j : ℕ) → joined m first (suc first) j ≡ (0, j)
  label-own j = ap (λ b. if b then (0, j) else (suc first, j)) (same_eqb first)

  label-others : (other j : ℕ) → other ≢ first → joined m first (suc other) j ≡ (suc other, j)
  label-others other j differs = ap (λ b. if b then (0, j) else (suc other, j)) (ne_eqb other first differs)

  own : (j : ℕ) → j < m → (step cells j first < length cells) × (kept.label (step cells j first) ≡ (suc first, j))
  own j l = kept.used_ones first len is j l

  some : 1 ≤ m
  some = cells_for-some len

  pub last-own : (last < length cells) × (kept.label last ≡ (suc first, m - 1))
  last-own =
      let here : (step cells (m - 1) first < length cells) × (kept.label (step cells (m - 1) first) ≡ (suc first, m - 1)) = own (m - 1) (omega (arith, some)) in
      (omega (arith, last-is, here.0), ap kept.label last-is ∙ here.1)

  cell-other : (c : ℕ) → c ≢ last → get_or freed c no_cell ≡ get_or cells c no_cell
  cell-other c differs = get_or-set_other cells last c _ no_cell differs

  next-other : (c : ℕ) → c ≢ last → next_cell freed c ≡ next_cell cells c
  next-other c differs = ap (λ x. x.next) (cell-other c differs)

  next-last : next_cell freed last ≡ free
  next-last = ap (λ x. x.next) (get_or-set_same cells last _ no_cell last-own.0)

  bytes-same : (c : ℕ) → cell_bytes freed c ≡ cell_bytes cells c
  bytes-same c =
      elim (cases_eq c last) [
        | inl same ↦
            ap (cell_bytes freed) same ∙ ap (λ x. x.bytes) (get_or-set_same cells last _ no_cell last-own.0) ∙ bytes-are ∙ ap (cell_bytes cells) (sym same)
        | inr differs ↦ ap (λ x. x.bytes) (cell-other c differs)
      ]

  -- a chain that does not lead through the last cell stays
  clear-steps : (n at : ℕ) → ((j : ℕ) → j < n → step cells j at ≢ last) → (j : ℕ) → j ≤ n → step freed j at ≡ step cells j at
  clear-steps n at clear = step-alike freed cells n at (λ j l. next-other (step cells j at) (clear j l))

  own-steps : (j : ℕ) → j ≤ m - 1 → step freed j first ≡ step cells j first
  own-steps = clear-steps (m - 1) first (λ j l e.
      absurd (omega (arith, some, l, label-place kept.label (step cells j first) last (suc first) j (m - 1) (own j (omega (arith, some))).1 last-own.1 e)))

  spare-clear : (j : ℕ) → j < spare → step cells j free ≢ last
  spare-clear j l = label-apart kept.label (step cells j free) last 0 (suc first) j (m - 1) (λ e. omega arith) (kept.spare_ones j l).1 last-own.1

  through : step freed m first ≡ free
  through =
      let one : m ≡ (m - 1) + 1 = omega (arith, some) in
      ap (λ k. step freed k first) one ∙ step_next freed (m - 1) first
      ∙ ap (next_cell freed) (own-steps (m - 1) (omega arith) ∙ sym last-is) ∙ next-last

  spare-joined : AreLabelled freed label-freed 0 (spare + m) first
  spare-joined j l =
      elim (cases_lt j m) [
        | inl below ↦
            let at : step freed j first ≡ step cells j first = own-steps j (omega arith) in (
              omega (arith, at, (own j below).0, length-set cells last (record { next = free; bytes = bytes })),
              ap label-freed at ∙ label-of (step cells j first) (suc first) j (own j below).1 ∙ label-own j,
            )
        | inr past ↦
            let i : ℕ = j - m in
            let sum : j ≡ m + i = omega arith in
            let few : i < spare = omega arith in
            let at : step freed j first ≡ step cells i free =
            ap (λ k. step freed k first) sum ∙ step-add freed m i first ∙ ap (step freed i) through
            ∙ clear-steps spare free spare-clear i (omega arith) in
            let old : (step cells i free < length cells) × (kept.label (step cells i free) ≡ (0, i)) = kept.spare_ones i few in (
              omega (arith, at, old.0, length-set cells last (record { next = free; bytes = bytes })),
              ap label-freed at ∙ label-of (step cells i free) 0 i old.1 ∙ ap (λ k. (0, k)) (sym sum),
            )
      ]

  other-clear : (other l : ℕ) → other ≢ first → get_or lens other None ≡ Some l → (j : ℕ) → j < cells_for l → step cells j other ≢ last
  other-clear other l differs was j below =
      label-apart kept.label (step cells j other) last (suc other) (suc first) j (m - 1) (λ e. differs (omega arith)) (kept.used_ones other l was j below).1 last-own.1

  used-left : (other l : ℕ) → get_or (set lens first None) other None ≡ Some l → AreLabelled freed label-freed (suc other) (cells_for l) other
  used-left other l now j below =
      elim (cases_eq other first) [
        | inl same ↦
            let gone : None ≡ Some l = sym (get_or-set_same lens first None None (within-lens lens first len is)) ∙ ap (λ i. get_or (set lens first None) i None) (sym same) ∙ now in
            absurd (cc)
        | inr differs ↦
            let was : get_or lens other None ≡ Some l = sym (get_or-set_other lens first other None None differs) ∙ now in
            let at : step freed j other ≡ step cells j other = clear-steps (cells_for l) other (other-clear other l differs was) j (omega arith) in
            let old : (step cells j other < length cells) × (kept.label (step cells j other) ≡ (suc other, j)) = kept.used_ones other l was j below in (
              omega (arith, at, old.0, length-set cells last (record { next = free; bytes = bytes })),
              ap label-freed at ∙ label-of (step cells j other) (suc other) j old.1 ∙ label-others other j differs,
            )
      ]

  pub kept-free : AreKept freed (set lens first None) first (spare + m)
  kept-free = record {
    alike = length-set lens first None ∙ kept.alike ∙ sym (length-set cells last _);
    whole = whole-set cells last _ kept.whole (ap length bytes-are ∙ kept.whole last last-own.0);
    small = omega (arith, kept.small, length-set cells last (record { next = free; bytes = bytes }));
    counted = omega (arith, kept.counted, length-set cells last (record { next = free; bytes = bytes }), in-less lens first len is);
    label = label-freed;
    spare_ones = spare-joined;
    used_ones = used-left;
  }

  record-left : (other l : ℕ) → other ≢ first → get_or lens other None ≡ Some l → record_at freed (0 + other) l ≡ record_at cells (0 + other) l
  record-left other l differs was =
      let none : 0 + other ≡ other = omega arith in
      let same : text freed (cells_for l) other ≡ text cells (cells_for l) other =
      text-alike freed cells (cells_for l) other
      (λ j below. bytes-same (step cells j other))
      (λ j below. next-other (step cells j other) (other-clear other l differs was j (omega arith))) in
      ap (λ k. take l (text freed (cells_for l) k)) none ∙ ap (take l) same ∙ ap (λ k. take l (text cells (cells_for l) k)) (sym none)

  pub held-free : held_from freed 0 (set lens first None) ≡ set (held_from cells 0 lens) first None
  held-free = held-set freed cells 0 lens first None (within-lens lens first len is) record-left

-- ---- how many cells a ticket has

pub kept-count : (cells : List Cell) (lens : List (Option ℕ)) (free spare : ℕ) → AreKept cells lens free spare
    → (first len : ℕ) → get_or lens first None ≡ Some len → spare + cells_for len ≤ length cells
kept-count cells lens free spare kept first len is = omega (arith, kept.counted, in-less lens first len is)

-- ---- what the callers see

abbrev no_record : Option (List ℕ)
no_record = None

-- where bytes are held, a length stands
pub length-stands : (cells : List Cell) (lens : List (Option ℕ)) (first : ℕ) → IsSome (get_or (held_from cells 0 lens) first None) → IsSome (get_or lens first None)
length-stands cells lens first some = by_get (get_or lens first None) refl
  where
    by_get : (x : Option ℕ) → get_or lens first None ≡ x → IsSome (get_or lens first None)
    by_get (Some len) is = ap is_some is
    by_get None is =
        let gone : get_or (held_from cells 0 lens) first None ≡ None = held-get cells 0 lens first ∙ ap (option_map (record_at cells (0 + first))) is in
        let no : is_some no_record ≡ true = subst IsSome gone some in
        absurd (cc)

pub held-is : (cells : List Cell) (lens : List (Option ℕ)) (first : ℕ) → is_some (get_or (held_from cells 0 lens) first None) ≡ is_some (get_or lens first None)
held-is cells lens first = ap is_some (held-get cells 0 lens first) ∙ mapped (get_or lens first None)
  where
    mapped : (x : Option ℕ) → is_some (option_map (record_at cells (0 + first)) x) ≡ is_some x
    mapped None = refl
    mapped (Some len) = refl

pub some-within : (lens : List (Option ℕ)) (first : ℕ) → IsSome (get_or lens first None) → first < length lens
some-within [] first some = absurd (cc)
some-within (l ∷ lens) zero some = omega arith
some-within (l ∷ lens) (suc first) some = omega (arith, some-within lens first some)

pub held-record : (cells : List Cell) (lens : List (Option ℕ)) (first len : ℕ) → get_or lens first None ≡ Some len
    → get_or (held_from cells 0 lens) first None ≡ Some (record_at cells first len)
held-record cells lens first len is =
    let none : 0 + first ≡ first = omega arith in
    held-get cells 0 lens first ∙ ap (option_map (record_at cells (0 + first))) is ∙ ap (λ k. Some (record_at cells k len)) none

pub record-length : (cells : List Cell) (lens : List (Option ℕ)) (free spare : ℕ) → AreKept cells lens free spare
    → (first len : ℕ) → get_or lens first None ≡ Some len → length (record_at cells first len) ≡ len
record-length cells lens free spare kept first len is =
    omega (
      arith,
      length-take len (text cells (cells_for len) first),
      cells_for-enough len,
      text-length cells (cells_for len) first kept.whole (λ j l. (kept.used_ones first len is j l).0),
    )

-- ---- the sum of all

held-count : (cells : List Cell) (at : ℕ) (lens : List (Option ℕ)) → ((i len : ℕ) → get_or lens i None ≡ Some len → length (record_at cells (at + i) len) ≡ len)
    → cells_in_use (held_from cells at lens) ≡ cells_in lens
held-count cells at [] long = refl
held-count cells at (None ∷ lens) long =
    held-count cells (at + 1) lens (λ i len is.
    let sum : at + 1 + i ≡ at + suc i = omega arith in
    ap (λ k. length (record_at cells k len)) sum ∙ long (suc i) len is)
held-count cells at (Some l ∷ lens) long =
    let none : at ≡ at + 0 = omega arith in
    let here : length (record_at cells at l) ≡ l = ap (λ k. length (record_at cells k l)) none ∙ long zero l refl in
    omega (
      arith,
      ap cells_for here,
      held-count cells (at + 1) lens (λ i len is.
          let sum : at + 1 + i ≡ at + suc i = omega arith in
          ap (λ k. length (record_at cells k len)) sum ∙ long (suc i) len is),
    )

pub held-sum : (cells : List Cell) (lens : List (Option ℕ)) (free spare : ℕ) → AreKept cells lens free spare
    → spare + cells_in_use (held_from cells 0 lens) ≡ length (held_from cells 0 lens)
held-sum cells lens free spare kept =
    omega (
      arith,
      kept.counted,
      kept.alike,
      held-length cells 0 lens,
      held-count cells 0 lens (λ i len is.
          let none : 0 + i ≡ i = omega arith in
          ap (λ k. length (record_at cells k len)) none ∙ record-length cells lens free spare kept i len is),
    )
