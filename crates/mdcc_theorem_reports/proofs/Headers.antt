-- A header that is accepted is of a cluster.
use Rattle.std.proofs.Common.{Bool, Err, List, Ok, Result, [], ap, arith, false, length, refl, subst, suc, true, zero, ℕ, ◌&&◌, ◌*◌, ◌+◌, ◌∙◌, ◌∷◌, ◌≡◌, ◌≤◌, ◌||◌}
use Rattle.std.specs.List.{list_all}
use Rattle.std.specs.Prelude.{codes, if◌then◌else◌, int_le, int_lt, nat_abs, nat_le, negsuc, not, pos, ℤ}
use Rattle.std.specs.Str.Parse.{signed_digits_value}
use Rattle.mdcc_base.specs.AreQuorums.{AreQuorums}
use Rattle.mdcc_base.specs.Quorums.{quorums_of}
use Rattle.mdcc_base.specs.Sizes.{Sizes}
use Rattle.mdcc_base.specs.declared.quorums.QuorumFault.{QuorumFault}
use Rattle.mdcc_option.specs.Bounds.{IsSchema, is_bound}
use Rattle.mdcc_option.specs.declared.cluster.Cluster.{Cluster}
use Rattle.mdcc_def_language.specs.Header.{Bounds, UnreadLines, bound_line, bound_of, bounds_in, bounds_lines, cells_line, default_cells, header_line, header_lines, in_line, in_order, begins_next, last_number, more_bounds, next_line, quorums_in, quorums_line, parse_sizes, version_of, whole_line, limit_line}
use Rattle.mdcc_def_protocol.specs.IsCluster.{IsCluster}
use Rattle.mdcc_def_language.specs.Lines.{bounded, bytes_of_line, line_end_of, most_line_bytes, of_long}
use Rattle.mdcc_def_language.specs.Words.{are_plain_digits, end_at, is_negative, natural_of, number_of, within, word_at, word_after, word_end, ◌>>=◌}
use Rattle.mdcc_def_language.specs.declared.schedule.SchedFault.{SchedFault}

-- ---- steps in turn

bind-ok : {A B E : Type 0} (r : Result A E) (next : A → Result B E) (y : B) → (r >>= next) ≡ Ok y → (x : A) × (r ≡ Ok x) × (next x ≡ Ok y)
bind-ok (Ok x) next y h = (x, refl, h)
bind-ok (Err fault) next y h = absurd (cc)

otherwise : {A E : Type 0} (b : Bool) (fault : E) (r : Result A E) (y : A) → (if b then Err fault else r) ≡ Ok y → (b ≡ false) × (r ≡ Ok y)
otherwise true fault r y h = absurd (cc)
otherwise false fault r y h = (refl, h)

whenever : {A E : Type 0} (b : Bool) (r : Result A E) (fault : E) (y : A) → (if b then r else Err fault) ≡ Ok y → r ≡ Ok y
whenever true r fault y h = h
whenever false r fault y h = absurd (cc)

same-ok : {A E : Type 0} (x y : A) (r : Result A E) → r ≡ Ok y → r ≡ Ok x → x ≡ y
same-ok x y r e g = cc

only-if : {A E : Type 0} (b : Bool) (x : A) (fault : E) (y : A) → (if b then Ok x else Err fault) ≡ Ok y → (b ≡ true) × (x ≡ y)
only-if true x fault y h = (refl, cc)
only-if false x fault y h = absurd (cc)

in-line : {A : Type 0} (left : UnreadLines) (r : Result A SchedFault) (y : A) → in_line left r ≡ Ok y → r ≡ Ok y
in-line left (Ok x) y h = cc
in-line left (Err fault) y h = absurd (cc)

-- a line that is too long is refused
short-line : {A : Type 0} (text : List ℕ) (r : Result A SchedFault) (y : A) → bounded text r ≡ Ok y → r ≡ Ok y
short-line text r y h = by_length (nat_le (length text) most_line_bytes) r h
  where
    by_length : (few : Bool) (r : Result _ SchedFault) → (if few then r else of_long r) ≡ Ok y → r ≡ Ok y
    by_length true r h = h
    by_length false (Ok x) h = absurd (cc)
    by_length false (Err fault) h = whenever (nat_le fault.column most_line_bytes) (Err fault) _ y h

-- what a header line spells was read of some text
line-read : {A : Type 0} (word : List ℕ) (read : List ℕ → Result A SchedFault) (left : UnreadLines) (y : A × UnreadLines) → header_line word read left ≡ Ok y → (text : List ℕ) × (read text ≡ Ok y.0)
line-read word read left y h =
    let text : List ℕ = bytes_of_line (next_line left) in
    let line : Result _ SchedFault = whole_line word read (next_line left) in
    let whole = bind-ok (in_line left (bounded text line)) _ y h in
    let ordered = bind-ok (in_order word text) _ whole.0 (short-line text line whole.0 (in-line left (bounded text line) whole.0 whole.1)) in
    let value = bind-ok (read text) _ whole.0 ordered.2 in
    let ended = bind-ok (line_end_of text (next_line left)) _ whole.0 value.2 in
    let same : value.0 ≡ y.0 = (let a : value.0 ≡ whole.0 = cc in let b : whole.0 ≡ y.0 = cc in a ∙ b) in
    (text, value.1 ∙ ap Ok same)

-- ---- numbers

in-range : (low high : ℕ) (value : ℤ) → (int_le (pos low) value && int_le value (pos high)) ≡ true → (low ≤ nat_abs value) × (nat_abs value ≤ high)
in-range low high (pos n) h = grind (arith)
in-range low high (negsuc n) h = grind (arith)

natural-range : (word : List ℕ) (column low high n : ℕ) → natural_of word column low high ≡ Ok n → (low ≤ n) × (n ≤ high)
natural-range word column low high n h =
    let read = bind-ok (number_of word column (pos low) (pos high)) _ n h in
    let ranged = whenever (are_plain_digits word || (int_lt (pos low) (pos 0) && is_negative word)) (within column (pos low) (pos high) (signed_digits_value 10 word)) _ read.0 read.1 in
    let kept = only-if (int_le (pos low) (signed_digits_value 10 word) && int_le (signed_digits_value 10 word) (pos high)) (signed_digits_value 10 word) _ read.0 ranged in
    let r = in-range low high (signed_digits_value 10 word) kept.0 in
    let same : nat_abs (signed_digits_value 10 word) ≡ n = ap nat_abs kept.1 ∙ (let g : nat_abs read.0 ≡ n = cc in g) in
    subst (λ m. (low ≤ m) × (m ≤ high)) same r

last-range : (low high at : ℕ) (line : List ℕ) (n : ℕ) → last_number low high at line ≡ Ok n → (low ≤ n) × (n ≤ high)
last-range low high at line n h =
    let start = bind-ok (word_after at line) _ n h in
    let number = bind-ok (natural_of (word_at start.0 line) (start.0 + 1) low high) _ n start.2 in
    let ended = bind-ok (end_at (word_end start.0 line) line 1) _ n number.2 in
    natural-range (word_at start.0 line) (start.0 + 1) low high n (number.1 ∙ ended.2)

number-line : (word : List ℕ) (low high at : ℕ) (left : UnreadLines) (y : ℕ × UnreadLines) → header_line word (last_number low high at) left ≡ Ok y → (low ≤ y.0) × (y.0 ≤ high)
number-line word low high at left y h = let read = line-read word (last_number low high at) left y h in last-range low high at read.0 y.0 read.1

cells-range : (left : UnreadLines) (y : ℕ × UnreadLines) → cells_line left ≡ Ok y → (1 ≤ y.0) × (y.0 ≤ 4194304)
cells-range left y h = by_word (begins_next (codes "cells") left) h
  where
    by_word : (b : Bool) → (if b then header_line (codes "cells") (last_number 1 4194304 5) left else Ok (default_cells, left)) ≡ Ok y → (1 ≤ y.0) × (y.0 ≤ 4194304)
    by_word true g = number-line (codes "cells") 1 4194304 5 left y g
    by_word false g = let same : default_cells ≡ y.0 = cc in subst (λ n. (1 ≤ n) × (n ≤ 4194304)) same (omega arith, omega arith)

-- ---- quorums

are-quorums : (n c f : ℕ) (sizes : Sizes) → quorums_of n c f ≡ Ok sizes → AreQuorums sizes
are-quorums n c f sizes h =
    let a = otherwise (not (nat_le 1 n && nat_le n 9)) _ _ sizes h in
    let b = otherwise (not (nat_le 1 c && nat_le c n)) _ _ sizes a.1 in
    let d = otherwise (not (nat_le c f && nat_le f n)) _ _ sizes b.1 in
    let e = otherwise (nat_le (2 * c) n) _ _ sizes d.1 in
    let g = otherwise (nat_le (2 * f + c) (2 * n)) _ _ sizes e.1 in
    let same : record { centres = n; classic = c; fast = f } ≡ sizes = cc in
    let a0 = a.0 in
    let b0 = b.0 in
    let d0 = d.0 in
    let e0 = e.0 in
    let g0 = g.0 in
    subst AreQuorums same (record {
      some_centre = grind (arith);
      nine_centres = grind (arith);
      some_classic = grind (arith);
      classic_within = grind (arith);
      fast_within = grind (arith);
      classic_meet = grind (arith);
      fast_meet = grind (arith);
    })

quorums-read : (left : UnreadLines) (y : Sizes × UnreadLines) → quorums_line left ≡ Ok y → AreQuorums y.0
quorums-read left y h =
    let sizes = bind-ok (header_line (codes "quorums") parse_sizes left) _ y h in
    let quorums = bind-ok (quorums_in left (quorums_of sizes.0.0.0 sizes.0.0.1 sizes.0.0.2)) _ y sizes.2 in
    let same : quorums.0 ≡ y.0 = cc in
    subst AreQuorums same (are-quorums sizes.0.0.0 sizes.0.0.1 sizes.0.0.2 quorums.0 (inner left (quorums_of sizes.0.0.0 sizes.0.0.1 sizes.0.0.2) quorums.0 quorums.1))
  where
    inner : (left : UnreadLines) (r : Result Sizes QuorumFault) (x : Sizes) → quorums_in left r ≡ Ok x → r ≡ Ok x
    inner left (Ok z) x e = cc
    inner left (Err fault) x e = absurd (cc)

-- ---- bounds

bound-read : (n : ℕ) (left : UnreadLines) (y : (ℤ × ℤ) × UnreadLines) → bound_line n left ≡ Ok y → is_bound y.0 ≡ true
bound-read n left y h =
    let read = bind-ok (header_line (codes "bound") bound_of left) _ y h in
    let bounds = bind-ok (bounds_in n left read.0.0) _ y read.2 in
    let kept = only-if (is_bound read.0.0) read.0.0 _ bounds.0 bounds.1 in
    let same : bounds.0 ≡ y.0 = cc in
    subst (λ b. is_bound b ≡ true) (kept.1 ∙ same) kept.0

abbrev AreBounds : ℕ → Bounds → Type 0
AreBounds most bounds = (length bounds ≤ most) × (list_all is_bound bounds ≡ true)

longer : (more : ℕ) (bounds : Bounds) (b : ℤ × ℤ) → length bounds ≤ more → length (b ∷ bounds) ≤ suc more
longer more bounds b k = omega arith

more-read : (more n : ℕ) (left : UnreadLines) (y : Bounds × UnreadLines) → more_bounds more n left ≡ Ok y → AreBounds more y.0
more-read zero n left y h = let same : [] ≡ y.0 = cc in subst (AreBounds 0) same (omega arith, refl)
more-read (suc more) n left y h = by_word (begins_next (codes "bound") left) (λ m x z. more-read more m x z) h
  where
    by_word : (b : Bool) → ((m : ℕ) (x : UnreadLines) (z : Bounds × UnreadLines) → more_bounds more m x ≡ Ok z → AreBounds more z.0) →
        (if b then bound_line n left >>= (λ one. more_bounds more (n + 1) one.1 >>= (λ rest. Ok (one.0 ∷ rest.0, rest.1))) else Ok ([], left)) ≡ Ok y → AreBounds (suc more) y.0
    by_word false rest g = let same : [] ≡ y.0 = cc in subst (AreBounds (suc more)) same (omega arith, refl)
    by_word true rest g =
        let one = bind-ok (bound_line n left) _ y g in
        let others = bind-ok (more_bounds more (n + 1) one.0.1) _ y one.2 in
        let same : one.0.0 ∷ others.0.0 ≡ y.0 = cc in
        let k = rest (n + 1) one.0.1 others.0 others.1 in
        subst (AreBounds (suc more)) same (longer more others.0.0 one.0.0 k.0, rw (bound-read n left one.0 one.1) k.1)

schema-read : (left : UnreadLines) (y : Bounds × UnreadLines) → bounds_lines left ≡ Ok y → IsSchema y.0
schema-read left y h =
    let one = bind-ok (bound_line 1 left) _ y h in
    let rest = bind-ok (more_bounds 3 2 one.0.1) _ y one.2 in
    let same : one.0.0 ∷ rest.0.0 ≡ y.0 = cc in
    let k = more-read 3 2 one.0.1 rest.0 rest.1 in
    subst IsSchema same (record { some = some rest.0.0 one.0.0; few = few rest.0.0 one.0.0 k.0; each = rw (bound-read 1 left one.0 one.1) k.1 })
  where
    some : (bounds : Bounds) (b : ℤ × ℤ) → 1 ≤ length (b ∷ bounds)
    some bounds b = omega arith

    few : (bounds : Bounds) (b : ℤ × ℤ) → length bounds ≤ 3 → length (b ∷ bounds) ≤ 4
    few bounds b k = omega arith

-- ---- all lines

pub header-cluster : (left : UnreadLines) (y : Cluster × UnreadLines) → header_lines left ≡ Ok y → IsCluster y.0
header-cluster left y h =
    let version = bind-ok (header_line (codes "mdcc-schedule") version_of left) _ y h in
    let quorums = bind-ok (quorums_line version.0.1) _ y version.2 in
    let gamma = bind-ok (header_line (codes "gamma") (last_number 0 1000 5) quorums.0.1) _ y quorums.2 in
    let cells = bind-ok (cells_line gamma.0.1) _ y gamma.2 in
    let limit = bind-ok (limit_line cells.0.1) _ y cells.2 in
    let bounds = bind-ok (bounds_lines limit.0.1) _ y limit.2 in
    let start = bind-ok (header_line (codes "start") (λ line. end_at 5 line 1) bounds.0.1) _ y bounds.2 in
    let same : record { quorums = quorums.0.0; schema = bounds.0.0; gamma = gamma.0.0; cells = cells.0.0; limit = limit.0.0 } ≡ y.0 = ap (λ (z : Cluster × UnreadLines). z.0) (same-ok _ y _ start.2 refl) in
    let few = cells-range gamma.0.1 cells.0 cells.1 in
    subst IsCluster same (record {
      quorums = quorums-read version.0.1 quorums.0 quorums.1;
      schema = schema-read limit.0.1 bounds.0 bounds.1;
      range = (number-line (codes "gamma") 0 1000 5 quorums.0.1 gamma.0 gamma.1).1;
      some_cells = few.0;
      cells = few.1;
    })
