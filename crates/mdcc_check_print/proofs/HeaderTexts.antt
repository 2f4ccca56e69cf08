-- A header that is written is read.
use Rattle.std.proofs.Common.{◌≡◌, ℕ, zero, suc, ◌+◌, ◌-◌, ◌^◌, ◌<◌, ◌≤◌, ◌==◌, ◌&&◌, Bool, true, false, not, cond, nat_le, nat_abs, int_le, ℤ, pos, negsuc, List, [], ◌∷◌, ◌++◌, append-nil, append_assoc, length, length-append, map, flat_map, codes, Result, Ok, Err, inl, refl, sym, ap, subst, ◌∙◌, arith, lit<, lit≤}
use Rattle.std.specs.Fmt.{signed_decimal}
use Rattle.std.specs.List.{list_all, onto_first}
use Rattle.std.proofs.lemmas.Bool.{and_parts, le-leb, leb-true}
use Rattle.std.proofs.lemmas.Fmt.{decimal_nonempty, length-decimal-le}
use Rattle.mdcc_option.specs.Bounds.{IsSchema, is_bound, largest_bound}
use Rattle.mdcc_def_language.specs.Header.{Bounds, UnreadLines, begins_next, bound_line, bound_of, bounds_in, bounds_lines, header_line, in_line, in_order, more_bounds, refused_at, without_next}
use Rattle.mdcc_def_language.specs.Lines.{bounded, bytes_of_line, line_end_by, line_end_of, lines_in, of_long}
use Rattle.mdcc_def_language.specs.Schedule.{begins_with}
use Rattle.mdcc_def_language.specs.Words.{end_at, refused, text_eq, value_of, word_after, word_at, word_end, ◌>>=◌}
use Rattle.mdcc_def_language.specs.declared.schedule.HeaderCause.{HeaderCause}
use Rattle.mdcc_def_language.specs.declared.schedule.HeaderFault.{HeaderFault}
use Rattle.mdcc_def_language.specs.declared.schedule.SchedCause.TheVariants.{Order}
use Rattle.mdcc_def_language.specs.declared.schedule.SchedFault.{SchedFault}
use Rattle.mdcc_option.specs.declared.schema.SchemaFault.TheVariants.{Bound}
use Rattle.mdcc_check_print.proofs.Cursor.{At, after-is, at-start, behind-word, drop-front, ends-here, free-append, is_free, part-is, then, word-end, word-is}
use Rattle.mdcc_check_print.proofs.Numbers.{value-read}
use Rattle.mdcc_check_print.proofs.WordTexts.{signed-free}
use Rattle.mdcc_check_histories.specs.Grammar.{history_header, version_of}
use Rattle.mdcc_check_print.specs.Printable.{Is64}
use Rattle.mdcc_check_print.specs.Text.{bound_text, history_header_text}

pub onward : {A B E : Type 0} (r : Result A E) (f : A → Result B E) (x : A) (y : Result B E) → r ≡ Ok x → f x ≡ y → (r >>= f) ≡ y
onward r f x y e h = ap (λ r. r >>= f) e ∙ h

-- ---- lines of a text

not-true : (b : Bool) → not b ≡ true → b ≡ false
not-true true e = absurd (cc)
not-true false e = refl

-- what is free of line ends is a line before others
pub line-first : (xs rest : List ℕ) → is_free 10 xs ≡ true → lines_in ((xs ++ codes "\n") ++ rest) ≡ (xs ++ codes "\n") ∷ lines_in rest
line-first [] rest free = refl
line-first (x ∷ xs) rest free =
    let parts = and_parts (not (x == 10)) (is_free 10 xs) free in
    let others = lines_in ((xs ++ codes "\n") ++ rest) in
    ap (λ t. cond t ((x ∷ []) ∷ others) (onto_first x others)) (not-true (x == 10) parts.0) ∙ ap (onto_first x) (line-first xs rest parts.1)

-- ---- numbers of bounds

bound-64 : (z : ℤ) → nat_le (nat_abs z) largest_bound ≡ true → Is64 z
bound-64 (pos n) h = (refl, le-leb n (2 ^ 63 - 1) (omega (arith, leb-true n largest_bound h)))
bound-64 (negsuc n) h = (le-leb n (2 ^ 63 - 1) (omega (arith, leb-true (suc n) largest_bound h)), refl)

bound-short : (z : ℤ) → nat_le (nat_abs z) largest_bound ≡ true → length (signed_decimal z) ≤ 20
bound-short (pos n) h =
    let small = leb-true n largest_bound h in
    omega (arith, length-decimal-le 19 n (omega (arith, small)) (omega (arith, small)) (omega arith))
bound-short (negsuc n) h =
    let small = leb-true (suc n) largest_bound h in
    omega (arith, length-decimal-le 19 (suc n) (omega (arith, small)) (omega (arith, small)) (omega arith))

bound-some : (z : ℤ) → nat_le (nat_abs z) largest_bound ≡ true → 0 < length (signed_decimal z)
bound-some (pos n) h = decimal_nonempty n (omega (arith, leb-true n largest_bound h))
bound-some (negsuc n) h = omega arith

-- ---- a line of bounds

abbrev unread : ℕ → ℕ → List (List ℕ) → UnreadLines
unread at number lines = record { lines = lines; at = at; number = number }

module _ (lower upper : ℤ) (low : nat_le (nat_abs lower) largest_bound ≡ true) (high : nat_le (nat_abs upper) largest_bound ≡ true) where
  abbrev first : List ℕ
  first = signed_decimal lower

  abbrev second : List ℕ
  second = signed_decimal upper

  abbrev front : List ℕ
  front = codes "bound" ++ (32 ∷ (first ++ (32 ∷ second)))

  text-front : bound_text (lower, upper) ≡ front ++ codes "\n"
  text-front = ap (λ (w : List ℕ). (codes "bound" ++ (32 ∷ w)) ++ codes "\n") (append_assoc first (32 ∷ []) second)

  front-free : is_free 10 front ≡ true
  front-free = free-append 10 first (32 ∷ second) (signed-free 10 lower (bound-64 lower low) (inl (lit< tt)) refl) (signed-free 10 upper (bound-64 upper high) (inl (lit< tt)) refl)

  front-short : length front ≤ 4096
  front-short = omega (arith, length-append first (32 ∷ second), bound-short lower low, bound-short upper high)

  bytes : bytes_of_line (front ++ codes "\n") ≡ front
  bytes = part-is 10 (front ++ codes "\n") 0 front (10 ∷ []) (at-start (front ++ codes "\n")) front-free refl

  begins : begins_with (codes "bound") front ≡ true
  begins = ap (λ w. text_eq w (codes "bound")) (part-is 32 front 0 (codes "bound") (32 ∷ (first ++ (32 ∷ second))) (at-start front) refl refl)

  bound-is : bound_of front ≡ Ok (lower, upper)
  bound-is =
      let free1 = signed-free 32 lower (bound-64 lower low) (inl (lit< tt)) refl in
      let free2 = signed-free 32 upper (bound-64 upper high) (inl (lit< tt)) refl in
      let a : At front 5 (32 ∷ (first ++ (32 ∷ second))) = record { is = refl; within = omega arith } in
      let b = behind-word front 5 first (32 ∷ second) a free1 refl in
      let at : ℕ = 5 + 1 + length first in
      let g : At front at (32 ∷ (second ++ [])) = subst (λ t. At front at (32 ∷ t)) (sym (append-nil second)) b in
      then (word_after 5 front) _ (5 + 1) _ (after-is front 5 first (32 ∷ second) a free1 refl (bound-some lower low))
      (then _ _ lower _ (ap (λ w. value_of w (5 + 1 + 1)) (word-is front 5 first (32 ∷ second) a free1 refl) ∙ value-read lower (5 + 1 + 1) (bound-64 lower low))
      (then _ _ (at + 1) _ (ap (λ n. word_after n front) (word-end front 5 first (32 ∷ second) a free1 refl) ∙ after-is front at second [] g free2 tt (bound-some upper high))
      (then _ _ upper _ (ap (λ w. value_of w (at + 1 + 1)) (word-is front at second [] g free2 tt) ∙ value-read upper (at + 1 + 1) (bound-64 upper high))
      (then _ _ tt _ (ap (λ n. end_at n front 1) (word-end front at second [] g free2 tt) ∙ ends-here front (at + 1 + length second) 1 (behind-word front at second [] g free2 tt)) refl))))

  whole-is : (let r : Result (ℤ × ℤ) SchedFault = in_order (codes "bound") front >>= λ _. bound_of front >>= λ value. line_end_of front (front ++ codes "\n") >>= λ _. Ok value in r)
      ≡ Ok (lower, upper)
  whole-is =
      then _ _ tt _ (ap (λ t. cond t (let r : Result (Unit {0}) SchedFault = Ok tt in r) (refused 1 Order)) begins)
      (then _ _ (lower, upper) _ bound-is
      (then _ _ tt _ (ap (line_end_by (length front + 1)) (drop-front front (10 ∷ []))) refl))

  abbrev Read : Type 0
  Read = Result ((ℤ × ℤ) × UnreadLines) HeaderFault

  line-is : (at number : ℕ) (more : List (List ℕ)) → header_line (codes "bound") bound_of (unread at number ((front ++ codes "\n") ∷ more))
      ≡ Ok ((lower, upper), unread (at + length (front ++ codes "\n")) (number + 1) more)
  line-is at number more =
      let left = unread at number ((front ++ codes "\n") ∷ more) in
      let short : nat_le (length front) 4096 ≡ true = le-leb (length front) 4096 front-short in
      ap (λ line. in_line left (bounded line (let r : Result (ℤ × ℤ) SchedFault = in_order (codes "bound") line >>= λ _. bound_of line >>= λ value. line_end_of line (front ++ codes "\n") >>= λ _. Ok value in r))
      >>= λ value. let r : Read = Ok (value, without_next left) in r) bytes
      ∙ ap (λ read. in_line left (bounded front read) >>= λ value. let r : Read = Ok (value, without_next left) in r) whole-is
      ∙ ap (λ t. in_line left (cond t (let r : Result (ℤ × ℤ) SchedFault = Ok (lower, upper) in r) (of_long (Ok (lower, upper)))) >>= λ value. let r : Read = Ok (value, without_next left) in r) short

  next-begins : (at number : ℕ) (more : List (List ℕ)) → begins_next (codes "bound") (unread at number ((front ++ codes "\n") ∷ more)) ≡ true
  next-begins at number more = ap (begins_with (codes "bound")) bytes ∙ begins

  bound-line-is : (n at number : ℕ) (more : List (List ℕ)) → is_bound (lower, upper) ≡ true
      → bound_line n (unread at number ((front ++ codes "\n") ∷ more)) ≡ Ok ((lower, upper), unread (at + length (front ++ codes "\n")) (number + 1) more)
  bound-line-is n at number more good =
      let left = unread at number ((front ++ codes "\n") ∷ more) in
      let behind = unread (at + length (front ++ codes "\n")) (number + 1) more in
      onward (header_line (codes "bound") bound_of left) (λ read. bounds_in n left read.0 >>= λ bounds. let r : Read = Ok (bounds, read.1) in r) ((lower, upper), behind) (Ok ((lower, upper), behind))
      (line-is at number more)
      (ap (λ t. cond t (let r : Result (ℤ × ℤ) HeaderFault = Ok (lower, upper) in r) (refused_at left (HeaderCause.Schema (Bound n))) >>= λ bounds. let r : Read = Ok (bounds, behind) in r) good)

-- ---- lines of bounds

magnitudes : (b : ℤ × ℤ) → is_bound b ≡ true → (nat_le (nat_abs b.0) largest_bound ≡ true) × (nat_le (nat_abs b.1) largest_bound ≡ true)
magnitudes b h = and_parts (nat_le (nat_abs b.0) largest_bound) (nat_le (nat_abs b.1) largest_bound) (and_parts (int_le b.0 b.1) _ h).1

one-bound : (b : ℤ × ℤ) (n at number : ℕ) (more : List (List ℕ)) → is_bound b ≡ true
    → bound_line n (unread at number (bound_text b ∷ more)) ≡ Ok (b, unread (at + length (bound_text b)) (number + 1) more)
one-bound b n at number more good =
    let m = magnitudes b good in
    subst (λ t. bound_line n (unread at number (t ∷ more)) ≡ Ok (b, unread (at + length t) (number + 1) more)) (sym (text-front b.0 b.1 m.0 m.1)) (bound-line-is b.0 b.1 m.0 m.1 n at number more good)

one-begins : (b : ℤ × ℤ) (at number : ℕ) (more : List (List ℕ)) → is_bound b ≡ true → begins_next (codes "bound") (unread at number (bound_text b ∷ more)) ≡ true
one-begins b at number more good =
    let m = magnitudes b good in
    subst (λ t. begins_next (codes "bound") (unread at number (t ∷ more)) ≡ true) (sym (text-front b.0 b.1 m.0 m.1)) (next-begins b.0 b.1 m.0 m.1 at number more)

-- the place behind lines of bounds, and the number of the line there
abbrev places : ℕ → List (ℤ × ℤ) → ℕ
places at [] = at
places at (b ∷ bs) = places (at + length (bound_text b)) bs

abbrev numbers : ℕ → List (ℤ × ℤ) → ℕ
numbers number [] = number
numbers number (b ∷ bs) = numbers (number + 1) bs

pub numbers-is : (number : ℕ) (bs : List (ℤ × ℤ)) → numbers number bs ≡ number + length bs
numbers-is number [] = omega arith
numbers-is number (b ∷ bs) = let ih = numbers-is (number + 1) bs in omega arith

abbrev Several : Type 0
Several = Result (Bounds × UnreadLines) HeaderFault

more-is : (left n at number : ℕ) (bs : List (ℤ × ℤ)) (more : List (List ℕ)) → length bs ≤ left → list_all is_bound bs ≡ true
    → more_bounds left n (unread at number (map bound_text bs ++ (codes "start\n" ∷ more))) ≡ Ok (bs, unread (places at bs) (numbers number bs) (codes "start\n" ∷ more))
more-is zero n at number [] more few good = refl
more-is (suc left) n at number [] more few good = refl
more-is zero n at number (b ∷ bs) more few good = absurd (omega (arith, few))
more-is (suc left) n at number (b ∷ bs) more few good =
    let parts = and_parts (is_bound b) (list_all is_bound bs) good in
    let others = map bound_text bs ++ (codes "start\n" ∷ more) in
    let here = unread at number (bound_text b ∷ others) in
    let next = unread (at + length (bound_text b)) (number + 1) others in
    let last = unread (places at (b ∷ bs)) (numbers number (b ∷ bs)) (codes "start\n" ∷ more) in
    let read : Several = bound_line n here >>= λ one. more_bounds left (n + 1) one.1 >>= λ rest. Ok (one.0 ∷ rest.0, rest.1) in
    ap (λ t. cond t read (Ok ([], here))) (one-begins b at number others parts.0)
    ∙ onward (bound_line n here) (λ one. more_bounds left (n + 1) one.1 >>= λ rest. let r : Several = Ok (one.0 ∷ rest.0, rest.1) in r) (b, next) (Ok (b ∷ bs, last)) (one-bound b n at number others parts.0)
    (onward (more_bounds left (n + 1) next) (λ rest. let r : Several = Ok (b ∷ rest.0, rest.1) in r) (bs, last) (Ok (b ∷ bs, last))
    (more-is left (n + 1) (at + length (bound_text b)) (number + 1) bs more (omega (arith, few)) parts.1) refl)

bounds-are : (at number : ℕ) (bs : List (ℤ × ℤ)) (more : List (List ℕ)) → IsSchema bs
    → bounds_lines (unread at number (map bound_text bs ++ (codes "start\n" ∷ more))) ≡ Ok (bs, unread (places at bs) (numbers number bs) (codes "start\n" ∷ more))
bounds-are at number [] more h = absurd (omega (arith, h.some))
bounds-are at number (b ∷ bs) more h =
    let parts = and_parts (is_bound b) (list_all is_bound bs) h.each in
    let others = map bound_text bs ++ (codes "start\n" ∷ more) in
    let next = unread (at + length (bound_text b)) (number + 1) others in
    let last = unread (places at (b ∷ bs)) (numbers number (b ∷ bs)) (codes "start\n" ∷ more) in
    onward (bound_line 1 (unread at number (bound_text b ∷ others))) (λ one. more_bounds 3 2 one.1 >>= λ rest. let r : Several = Ok (one.0 ∷ rest.0, rest.1) in r) (b, next) (Ok (b ∷ bs, last))
    (one-bound b 1 at number others parts.0)
    (onward (more_bounds 3 2 next) (λ rest. let r : Several = Ok (b ∷ rest.0, rest.1) in r) (bs, last) (Ok (b ∷ bs, last))
    (more-is 3 2 (at + length (bound_text b)) (number + 1) bs more (omega (arith, h.few)) parts.1) refl)

-- ---- the header

bound-lines : (bs : List (ℤ × ℤ)) (rest : List ℕ) → list_all is_bound bs ≡ true → lines_in (flat_map bound_text bs ++ rest) ≡ map bound_text bs ++ lines_in rest
bound-lines [] rest good = refl
bound-lines (b ∷ bs) rest good =
    let parts = and_parts (is_bound b) (list_all is_bound bs) good in
    let m = magnitudes b parts.0 in
    let others : List ℕ = flat_map bound_text bs ++ rest in
    ap lines_in (append_assoc (bound_text b) (flat_map bound_text bs) rest)
    ∙ subst (λ t. lines_in (t ++ others) ≡ t ∷ lines_in others) (sym (text-front b.0 b.1 m.0 m.1)) (line-first (front b.0 b.1 m.0 m.1) others (front-free b.0 b.1 m.0 m.1))
    ∙ ap (λ ls. bound_text b ∷ ls) (bound-lines bs rest parts.1)

-- the number of the line behind the header
abbrev pub first_number : List (ℤ × ℤ) → ℕ
first_number schema = length schema + 3

pub header-lines : (schema : List (ℤ × ℤ)) (rest : List ℕ) → IsSchema schema
    → lines_in (history_header_text schema ++ rest) ≡ codes "mdcc-history 1\n" ∷ (map bound_text schema ++ (codes "start\n" ∷ lines_in rest))
header-lines schema rest h =
    let bounds : List ℕ = flat_map bound_text schema in
    let behind : List ℕ = codes "start\n" ++ rest in
    ap lines_in (append_assoc (codes "mdcc-history 1\n" ++ bounds) (codes "start\n") rest ∙ append_assoc (codes "mdcc-history 1\n") bounds behind)
    ∙ line-first (codes "mdcc-history 1") (bounds ++ behind) refl
    ∙ ap (λ ls. codes "mdcc-history 1\n" ∷ ls) (bound-lines schema behind h.each ∙ ap (λ ls. map bound_text schema ++ ls) (line-first (codes "start") rest refl))

abbrev Header : Type 0
Header = Result (List (ℤ × ℤ) × UnreadLines) HeaderFault

pub header-is : (schema : List (ℤ × ℤ)) (more : List (List ℕ)) → IsSchema schema
    → (at : ℕ) × (history_header (unread 0 1 (codes "mdcc-history 1\n" ∷ (map bound_text schema ++ (codes "start\n" ∷ more)))) ≡ Ok (schema, unread at (first_number schema) more))
header-is schema more h =
    let others = map bound_text schema ++ (codes "start\n" ∷ more) in
    let start = unread (places 15 schema) (numbers 2 schema) (codes "start\n" ∷ more) in
    let last = unread (places 15 schema + 6) (numbers 2 schema + 1) more in
    let number : numbers 2 schema + 1 ≡ first_number schema = omega (arith, numbers-is 2 schema) in
    let read : history_header (unread 0 1 (codes "mdcc-history 1\n" ∷ others)) ≡ Ok (schema, last) =
    onward (header_line (codes "mdcc-history") version_of (unread 0 1 (codes "mdcc-history 1\n" ∷ others)))
    (λ version. bounds_lines version.1 >>= λ bounds. header_line (codes "start") (λ line. end_at 5 line 1) bounds.1 >>= λ start. let r : Header = Ok (bounds.0, start.1) in r)
    (tt, unread 15 2 others) (Ok (schema, last)) refl
    (onward (bounds_lines (unread 15 2 others)) (λ bounds. header_line (codes "start") (λ line. end_at 5 line 1) bounds.1 >>= λ start. let r : Header = Ok (bounds.0, start.1) in r)
    (schema, start) (Ok (schema, last)) (bounds-are 15 2 schema more h)
    (onward (header_line (codes "start") (λ line. end_at 5 line 1) start) (λ start. let r : Header = Ok (schema, start.1) in r) (tt, last) (Ok (schema, last)) refl refl)) in
    (places 15 schema + 6, read ∙ ap (λ n. let r : Header = Ok (schema, unread (places 15 schema + 6) n more) in r) number)
