-- What a header that is read says of its cluster, and of what is left behind it.
use Rattle.std.proofs.Common.{◌≡◌, ◌+◌, ◌≤◌, ◌==◌, ◌&&◌, ◌∷◌, [], List, ℕ, ℤ, pos, negsuc, nat_abs, int_le, int_lt, ◌≤ℤ◌, ◌||◌, Bool, true, false, cond, zero, suc, length, drop, get_or, codes, Result, Ok, Err, IfOk, refl, sym, ap, ◌∙◌, subst, T, leb→le}
use Rattle.std.specs.List.{onto_first}
use Rattle.std.specs.Str.Parse.{signed_digits_value}
use Rattle.std.proofs.lemmas.Bool.{and_parts}
use Rattle.std.proofs.lemmas.List.{drop-drop}
use Rattle.mdcc_base.specs.Quorums.{quorums_of}
use Rattle.mdcc_option.specs.declared.cluster.Cluster.{Cluster}
use Rattle.mdcc_option.specs.declared.cluster.FastLimit.{FastLimit}
use Rattle.mdcc_def_language.specs.Header.{UnreadLines, all_of, next_line, without_next, in_line, begins_next, whole_line, in_order, header_line, version_of, last_number, parse_sizes, bound_of, fast_limit_of, cells_line, limit_line, quorums_in, quorums_line, bounds_in, bound_line, Bounds, more_bounds, bounds_lines, header_lines, default_cells}
use Rattle.mdcc_def_language.specs.Lines.{bounded, bytes_of_line, lines_in, line_end_of}
use Rattle.mdcc_def_language.specs.Words.{◌>>=◌, are_plain_digits, is_negative, refused, within, number_of, natural_of, end_at, word_at, word_after, word_end}
use Rattle.mdcc_sched.specs.Headers.{header_numbered, numbered_header}
use Rattle.mdcc_command_replay.proofs.Steps.{bind_ok, bounded_ok}
use Rattle.mdcc_def_language.specs.declared.schedule.HeaderFault.{HeaderFault}
use Rattle.mdcc_def_language.specs.declared.schedule.SchedFault.{SchedFault}
use Rattle.mdcc_def_language.specs.declared.schedule.SchedCause.TheVariants.{Number, Range}

-- ---- steps

abbrev Any : {A : Type 0} → A → Type 0
Any a = Unit {0}

any_ok : {A E : Type 0} (r : Result A E) → IfOk r (λ (a : A). Any a)
any_ok (Ok a) = tt
any_ok (Err e) = tt

-- ---- lines

onto_case : (b : ℕ) (bs : List ℕ) (lines : List (List ℕ)) → lines_in (drop (length (get_or lines 0 [])) bs) ≡ drop 1 lines
    → lines_in (drop (length (get_or (onto_first b lines) 0 [])) (b ∷ bs)) ≡ drop 1 (onto_first b lines)
onto_case b bs [] h = h
onto_case b bs (line ∷ lines) h = h

others_by : (b : ℕ) (bs : List ℕ) (t : Bool) → lines_in (drop (length (get_or (lines_in bs) 0 [])) bs) ≡ drop 1 (lines_in bs)
    → lines_in (drop (length (get_or (cond t ((b ∷ []) ∷ lines_in bs) (onto_first b (lines_in bs))) 0 [])) (b ∷ bs)) ≡ drop 1 (cond t ((b ∷ []) ∷ lines_in bs) (onto_first b (lines_in bs)))
others_by b bs true h = refl
others_by b bs false h = onto_case b bs (lines_in bs) h

-- the lines of a text behind its first line
others : (text : List ℕ) → lines_in (drop (length (get_or (lines_in text) 0 [])) text) ≡ drop 1 (lines_in text)
others [] = refl
others (b ∷ bs) = others_by b bs (b == 10) (others bs)

-- what is left of a text
abbrev pub IsLeft : List ℕ → UnreadLines → Type 0
IsLeft text left = left.lines ≡ lines_in (drop left.at text)

next_left : (text : List ℕ) (left : UnreadLines) → IsLeft text left → IsLeft text (without_next left)
next_left text left h =
    ap (drop 1) h
    ∙ sym (others (drop left.at text))
    ∙ ap (λ (lines : List (List ℕ)). lines_in (drop (length (get_or lines 0 [])) (drop left.at text))) (sym h)
    ∙ ap lines_in (drop-drop (length (next_line left)) left.at text)

-- a value, and what is left behind its line
abbrev Read : {A : Type 0} → (A → Type 0) → List ℕ → A × UnreadLines → Type 0
Read P text read = P read.0 × IsLeft text read.1

in_line_ok : {A : Type 0} (P : A → Type 0) (left : UnreadLines) (r : Result A SchedFault) → IfOk r P → IfOk (in_line left r) P
in_line_ok P left (Ok a) p = p
in_line_ok P left (Err fault) p = tt

line_read : {A : Type 0} (P : A → Type 0) (text word : List ℕ) (read : List ℕ → Result A SchedFault) (left : UnreadLines) → IfOk (whole_line word read (next_line left)) P
    → IsLeft text left → IfOk (header_line word read left) (Read P text)
line_read P text word read left p h =
    let line : List ℕ = next_line left in
    let whole : Result _ SchedFault = whole_line word read line in
    let kept : Result _ SchedFault = bounded (bytes_of_line line) whole in
    bind_ok P (Read P text) (in_line left kept) (λ value. Ok (value, without_next left)) (in_line_ok P left kept (bounded_ok P (bytes_of_line line) whole p))
    (λ value good. (good, next_left text left h))

-- ---- numbers

passed : (a b : ℤ) → int_le a b ≡ true → a ≤ℤ b
passed a b e = record { le = subst T (sym e) tt }

-- a number from the least to the most
abbrev pub IsBetween : ℕ → ℕ → ℕ → Type 0
IsBetween low high n = (low ≤ n) × (n ≤ high)

between : (low high : ℕ) (value : ℤ) → int_le (pos low) value ≡ true → int_le value (pos high) ≡ true → IsBetween low high (nat_abs value)
between low high (pos n) e f =
    let least = passed (pos low) (pos n) e in
    let most = passed (pos n) (pos high) f in
    (leb→le low n least.le, leb→le n high most.le)
between low high (negsuc n) e f = let le = passed (pos low) (negsuc n) e in absurd le.le

within_ok : (column low high : ℕ) (value : ℤ) → IfOk (within column (pos low) (pos high) value) (λ v. IsBetween low high (nat_abs v))
within_ok column low high value = by (int_le (pos low) value && int_le value (pos high)) refl
  where
    by : (test : Bool) → (int_le (pos low) value && int_le value (pos high)) ≡ test → IfOk (cond test (Ok value) (refused column Range)) (λ v. IsBetween low high (nat_abs v))
    by true e = let parts = and_parts (int_le (pos low) value) (int_le value (pos high)) e in between low high value parts.0 parts.1
    by false e = tt

either_ok : {A : Type 0} (P : A → Type 0) (test : Bool) (r : Result A SchedFault) (column : ℕ) → IfOk r P → IfOk (cond test r (refused column Number)) P
either_ok P true r column p = p
either_ok P false r column p = tt

natural_ok : (word : List ℕ) (column low high : ℕ) → IfOk (natural_of word column low high) (IsBetween low high)
natural_ok word column low high =
    bind_ok (λ (v : ℤ). IsBetween low high (nat_abs v)) (IsBetween low high) (number_of word column (pos low) (pos high)) (λ number. Ok (nat_abs number))
    (either_ok (λ (v : ℤ). IsBetween low high (nat_abs v)) (are_plain_digits word || (int_lt (pos low) (pos 0) && is_negative word)) (within column (pos low) (pos high) (signed_digits_value 10 word)) column
    (within_ok column low high (signed_digits_value 10 word)))
    (λ v good. good)

last_ok : (low high at : ℕ) (line : List ℕ) → IfOk (last_number low high at line) (IsBetween low high)
last_ok low high at line =
    bind_ok Any _ (word_after at line) _ (any_ok (word_after at line)) (λ start _.
    bind_ok (IsBetween low high) _ (natural_of (word_at start line) (start + 1) low high) _ (natural_ok (word_at start line) (start + 1) low high) (λ number good.
    bind_ok Any _ (end_at (word_end start line) line 1) _ (any_ok (end_at (word_end start line) line 1)) (λ _ _. good)))

whole_ok : {A : Type 0} (P : A → Type 0) (word : List ℕ) (read : List ℕ → Result A SchedFault) (line : List ℕ) → ((text : List ℕ) → IfOk (read text) P) → IfOk (whole_line word read line) P
whole_ok P word read line p =
    let text : List ℕ = bytes_of_line line in
    bind_ok Any P (in_order word text) _ (any_ok (in_order word text)) (λ _ _.
    bind_ok P P (read text) _ (p text) (λ value good.
    bind_ok Any P (line_end_of text line) _ (any_ok (line_end_of text line)) (λ _ _. good)))

-- ---- the lines of a header

any_read : {A : Type 0} (text word : List ℕ) (read : List ℕ → Result A SchedFault) (left : UnreadLines) → IsLeft text left → IfOk (header_line word read left) (Read Any text)
any_read text word read left h = line_read Any text word read left (any_ok (whole_line word read (next_line left))) h

quorums_read : (text : List ℕ) (left : UnreadLines) → IsLeft text left → IfOk (quorums_line left) (Read Any text)
quorums_read text left h =
    bind_ok (Read Any text) (Read Any text) (header_line (codes "quorums") parse_sizes left) _ (any_read text (codes "quorums") parse_sizes left h) (λ sizes read.
    bind_ok Any (Read Any text) (quorums_in left (quorums_of sizes.0.0 sizes.0.1 sizes.0.2)) _ (any_ok (quorums_in left (quorums_of sizes.0.0 sizes.0.1 sizes.0.2))) (λ quorums _. (tt, read.1)))

-- the last number of a line
number_read : (text word : List ℕ) (low high at : ℕ) (left : UnreadLines) → IsLeft text left → IfOk (header_line word (last_number low high at) left) (Read (IsBetween low high) text)
number_read text word low high at left h =
    line_read (IsBetween low high) text word (last_number low high at) left (whole_ok (IsBetween low high) word (last_number low high at) (next_line left) (last_ok low high at)) h

abbrev given_cells : UnreadLines → Result (ℕ × UnreadLines) HeaderFault
given_cells left = Ok (default_cells, left)

cells_by : (text : List ℕ) (left : UnreadLines) → IsLeft text left → (test : Bool)
    → IfOk (cond test (header_line (codes "cells") (last_number 1 4194304 5) left) (given_cells left)) (Read (IsBetween 1 4194304) text)
cells_by text left h true = number_read text (codes "cells") 1 4194304 5 left h
cells_by text left h false = ((leb→le 1 default_cells tt, leb→le default_cells 4194304 tt), h)

-- the line of the cells may be left out
cells_read : (text : List ℕ) (left : UnreadLines) → IsLeft text left → IfOk (cells_line left) (Read (IsBetween 1 4194304) text)
cells_read text left h = cells_by text left h (begins_next (codes "cells") left)

abbrev safe_at : UnreadLines → Result (FastLimit × UnreadLines) HeaderFault
safe_at left = Ok (FastLimit.Safe, left)

limit_by : (text : List ℕ) (left : UnreadLines) → IsLeft text left → (test : Bool) → IfOk (cond test (header_line (codes "limit") fast_limit_of left) (safe_at left)) (Read Any text)
limit_by text left h true = any_read text (codes "limit") fast_limit_of left h
limit_by text left h false = (tt, h)

-- the line of the fast limit may be left out
limit_read : (text : List ℕ) (left : UnreadLines) → IsLeft text left → IfOk (limit_line left) (Read Any text)
limit_read text left h = limit_by text left h (begins_next (codes "limit") left)

bound_read : (text : List ℕ) (k : ℕ) (left : UnreadLines) → IsLeft text left → IfOk (bound_line k left) (Read Any text)
bound_read text k left h =
    bind_ok (Read Any text) (Read Any text) (header_line (codes "bound") bound_of left) _ (any_read text (codes "bound") bound_of left h) (λ bounds read.
    bind_ok Any (Read Any text) (bounds_in k left bounds.0) _ (any_ok (bounds_in k left bounds.0)) (λ bounds _. (tt, read.1)))

abbrev with_bound : ℤ × ℤ → Bounds × UnreadLines → Result (Bounds × UnreadLines) HeaderFault
with_bound one rest = Ok (one ∷ rest.0, rest.1)

abbrev none_left : UnreadLines → Result (Bounds × UnreadLines) HeaderFault
none_left left = Ok ([], left)

abbrev more_by : ℕ → ℕ → UnreadLines → Bool → Result (Bounds × UnreadLines) HeaderFault
more_by more k left test = cond test (bound_line k left >>= λ one. more_bounds more (k + 1) one.1 >>= λ rest. with_bound one.0 rest) (none_left left)

more_test : (text : List ℕ) (more k : ℕ) (left : UnreadLines) → IsLeft text left → ((one : UnreadLines) → IsLeft text one → IfOk (more_bounds more (k + 1) one) (Read Any text)) → (test : Bool)
    → IfOk (more_by more k left test) (Read Any text)
more_test text more k left h next true =
    bind_ok (Read Any text) (Read Any text) (bound_line k left) _ (bound_read text k left h) (λ one read.
    bind_ok (Read Any text) (Read Any text) (more_bounds more (k + 1) one.1) _ (next one.1 read.1) (λ rest good. (tt, good.1)))
more_test text more k left h next false = (tt, h)

more_read : (text : List ℕ) (more k : ℕ) (left : UnreadLines) → IsLeft text left → IfOk (more_bounds more k left) (Read Any text)
more_read text zero k left h = (tt, h)
more_read text (suc more) k left h = more_test text more k left h (λ one good. more_read text more (k + 1) one good) (begins_next (codes "bound") left)

bounds_read : (text : List ℕ) (left : UnreadLines) → IsLeft text left → IfOk (bounds_lines left) (Read Any text)
bounds_read text left h =
    bind_ok (Read Any text) (Read Any text) (bound_line 1 left) _ (bound_read text 1 left h) (λ one read.
    bind_ok (Read Any text) (Read Any text) (more_bounds 3 2 one.1) _ (more_read text 3 2 one.1 read.1) (λ rest good. (tt, good.1)))

-- the range of a cluster and its cells are in their limits, and the lines behind the header are left
pub record IsRead (text : List ℕ) (header : Cluster × UnreadLines) : Type 0 where
  pub range : header.0.gamma ≤ 1000
  pub cells : IsBetween 1 4194304 header.0.cells
  pub left : IsLeft text header.1

pub header_read : (text : List ℕ) → IfOk (header_lines (all_of text)) (IsRead text)
header_read text =
    bind_ok (Read Any text) _ (header_line (codes "mdcc-schedule") version_of (all_of text)) _ (any_read text (codes "mdcc-schedule") version_of (all_of text) refl) (λ version a.
    bind_ok (Read Any text) _ (quorums_line version.1) _ (quorums_read text version.1 a.1) (λ quorums b.
    bind_ok (Read (IsBetween 0 1000) text) _ (header_line (codes "gamma") (last_number 0 1000 5) quorums.1) _ (number_read text (codes "gamma") 0 1000 5 quorums.1 b.1) (λ gamma c.
    bind_ok (Read (IsBetween 1 4194304) text) _ (cells_line gamma.1) _ (cells_read text gamma.1 c.1) (λ cells m.
    bind_ok (Read Any text) _ (limit_line cells.1) _ (limit_read text cells.1 m.1) (λ limit l.
    bind_ok (Read Any text) _ (bounds_lines limit.1) _ (bounds_read text limit.1 l.1) (λ bounds d.
    bind_ok (Read Any text) _ (header_line (codes "start") (λ line. end_at 5 line 1) bounds.1) _ (any_read text (codes "start") (λ line. end_at 5 line 1) bounds.1 d.1) (λ start e.
    record { range = c.0.1; cells = m.0; left = e.1 })))))))

-- ---- the cluster, the place and the number of the line that a header gives

pub record IsHeader (text : List ℕ) (cluster : Cluster) (end first : ℕ) : Type 0 where
  pub range : cluster.gamma ≤ 1000
  pub cells : IsBetween 1 4194304 cluster.cells
  pub left : UnreadLines
  pub read : header_lines (all_of text) ≡ Ok (cluster, left)
  pub at : left.at ≡ end
  pub number : left.number ≡ first
  pub is_left : IsLeft text left

abbrev place : Cluster → ℕ → ℕ → Cluster × ℕ × ℕ
place cluster at number = (cluster, at, number)

abbrev place_or : Cluster × ℕ × ℕ → Result (Cluster × ℕ × ℕ) HeaderFault → Cluster × ℕ × ℕ
place_or other (Ok place) = place
place_or other (Err fault) = other

given_by : (text : List ℕ) (cluster : Cluster) (end first : ℕ) (r : Result (Cluster × UnreadLines) HeaderFault) → header_lines (all_of text) ≡ r → IfOk r (IsRead text)
    → (r >>= header_numbered) ≡ Ok (cluster, end, first) → IsHeader text cluster end first
given_by text cluster end first (Ok (found, left)) e h f =
    let all : place found left.at left.number ≡ place cluster end first = ap (place_or (place found left.at left.number)) f in
    let same : found ≡ cluster = ap (λ (p : Cluster × ℕ × ℕ). p.0) all in
    record {
      range = subst (λ (c : Cluster). c.gamma ≤ 1000) same h.range;
      cells = subst (λ (c : Cluster). IsBetween 1 4194304 c.cells) same h.cells;
      left = left;
      read = e ∙ ap (λ (c : Cluster). let r : Result (Cluster × UnreadLines) HeaderFault = Ok (c, left) in r) same;
      at = ap (λ (p : Cluster × ℕ × ℕ). p.1) all;
      number = ap (λ (p : Cluster × ℕ × ℕ). p.2) all;
      is_left = h.left;
    }
given_by text cluster end first (Err fault) e h f = absurd (cc)

pub header_given : (text : List ℕ) (cluster : Cluster) (end first : ℕ) → numbered_header text ≡ Ok (cluster, end, first) → IsHeader text cluster end first
header_given text cluster end first e = given_by text cluster end first (header_lines (all_of text)) refl (header_read text) e
