-- How far a text that was written is read.
use Rattle.std.proofs.Common.{◌≡◌, ℕ, zero, suc, ◌+◌, ◌<◌, ◌≤◌, ◌==◌, Bool, true, false, not, cond, List, [], ◌∷◌, ◌++◌, append-nil, length, length-append, take, drop, drop-drop, nat_lt, slice_get, Some, None, Result, Ok, refl, sym, ap, subst, ◌∙◌, arith, unwrap_or}
use Rattle.std.specs.List.{list_all, position_or_len}
use Rattle.std.proofs.lemmas.Bool.Decides.{nat_tests}
use Rattle.std.proofs.lemmas.Bool.{and_from, and_parts, eq-eqb}
use Rattle.mdcc_def_language.specs.declared.schedule.SchedFault.{SchedFault}
use Rattle.mdcc_def_language.specs.declared.schedule.SchedCause.TheVariants.{Word}
use Rattle.mdcc_def_language.specs.Words.{end_at, is_separator, not_empty, part_at, part_end, part_len, refused, start_after, word_after, word_at, word_end, ◌>>=◌}

-- what one reading gives goes on to the next
pub then : {A B : Type 0} (r : Result A SchedFault) (f : A → Result B SchedFault) (x : A) (y : Result B SchedFault) → r ≡ Ok x → f x ≡ y → (r >>= f) ≡ y
then r f x y e h = ap (λ r. r >>= f) e ∙ h

-- the separator does not stand in the text
abbrev pub is_free : ℕ → List ℕ → Bool
is_free separator text = list_all (λ b. not (b == separator)) text

pub free-append : (separator : ℕ) (xs ys : List ℕ) → is_free separator xs ≡ true → is_free separator ys ≡ true → is_free separator (xs ++ ys) ≡ true
free-append separator [] ys a b = b
free-append separator (x ∷ xs) ys a b =
    let parts = and_parts (not (x == separator)) (is_free separator xs) a in
    and_from (not (x == separator)) (is_free separator (xs ++ ys)) parts.0 (free-append separator xs ys parts.1 b)

-- what is left is nothing, or begins with the separator
abbrev pub Ends : ℕ → List ℕ → Type 0
Ends separator [] = Unit {0}
Ends separator (b ∷ bs) = b ≡ separator

not-true : (b : Bool) → not b ≡ true → b ≡ false
not-true true e = absurd (cc)
not-true false e = refl

take-front : (xs rest : List ℕ) → take (length xs) (xs ++ rest) ≡ xs
take-front [] rest = refl
take-front (x ∷ xs) rest = ap (λ ys. x ∷ ys) (take-front xs rest)

pub drop-front : (xs rest : List ℕ) → drop (length xs) (xs ++ rest) ≡ rest
drop-front [] rest = refl
drop-front (x ∷ xs) rest = drop-front xs rest

place-first : (separator : ℕ) (xs rest : List ℕ) → is_free separator xs ≡ true → Ends separator rest → position_or_len (λ b. b == separator) (xs ++ rest) ≡ length xs
place-first separator [] [] free ends = refl
place-first separator [] (b ∷ bs) free ends = ap (λ t. cond (not t) (1 + position_or_len (λ b. b == separator) bs) 0) (eq-eqb b separator ends)
place-first separator (x ∷ xs) rest free ends =
    let parts = and_parts (not (x == separator)) (is_free separator xs) free in
    let ih = place-first separator xs rest parts.1 ends in
    ap (λ t. cond t (1 + position_or_len (λ b. b == separator) (xs ++ rest)) 0) parts.0 ∙ ap (λ n. 1 + n) ih ∙ (omega arith)

unwrapped : (place len : ℕ) (b : Bool) → nat_lt place len ≡ b → place ≤ len → unwrap_or (cond b (Some place) None) len ≡ place
unwrapped place len true e h = refl
unwrapped place len false e h = grind (arith, nat_tests)

part-len : (separator : ℕ) (xs rest : List ℕ) → is_free separator xs ≡ true → Ends separator rest → part_len separator (xs ++ rest) ≡ length xs
part-len separator xs rest free ends =
    let first = place-first separator xs rest free ends in
    let place : ℕ = position_or_len (λ b. b == separator) (xs ++ rest) in
    unwrapped place (length (xs ++ rest)) (nat_lt place (length (xs ++ rest))) refl (omega (arith, first, length-append xs rest)) ∙ first

-- this is what is left of a text from a place on
pub record At (text : List ℕ) (at : ℕ) (rest : List ℕ) : Type 0 where
  pub is : drop at text ≡ rest
  pub within : at + length rest ≡ length text

pub at-start : (text : List ℕ) → At text 0 text
at-start text = record { is = refl; within = omega arith }

slice-at : (text : List ℕ) (at b : ℕ) (rest : List ℕ) → drop at text ≡ b ∷ rest → slice_get text at ≡ Some b
slice-at [] zero b rest e = absurd (cc)
slice-at [] (suc at) b rest e = absurd (cc)
slice-at (x ∷ xs) zero b rest e = let same : x ≡ b = cc in ap (λ y. Some y) same
slice-at (x ∷ xs) (suc at) b rest e = slice-at xs at b rest e

module _ (separator : ℕ) (text : List ℕ) (at : ℕ) where
  module _ (xs rest : List ℕ) (a : At text at (xs ++ rest)) where
    pub part-is : is_free separator xs ≡ true → Ends separator rest → part_at separator at text ≡ xs
    part-is free ends = ap (λ t. take (part_len separator t) t) a.is ∙ ap (λ n. take n (xs ++ rest)) (part-len separator xs rest free ends) ∙ take-front xs rest

    pub end-is : is_free separator xs ≡ true → Ends separator rest → part_end separator at text ≡ at + length xs
    end-is free ends = ap (λ (t : List ℕ). at + length t) (part-is free ends)

    pub behind : At text (at + length xs) rest
    behind = record {
      is = sym (drop-drop (length xs) at text) ∙ ap (drop (length xs)) a.is ∙ drop-front xs rest;
      within = omega (arith, a.within, length-append xs rest);
    }

  module _ (rest : List ℕ) (a : At text at (separator ∷ rest)) where
    pub start-is : (column : ℕ) → start_after separator at text column ≡ Ok (at + 1)
    start-is column =
        ap (λ o. cond (is_separator separator o) (let r : Result ℕ SchedFault = Ok (at + 1) in r) (refused (column + at) Word)) (slice-at text at separator rest a.is)
        ∙ ap (λ t. cond t (let r : Result ℕ SchedFault = Ok (at + 1) in r) (refused (column + at) Word)) (eq-eqb separator separator refl)

    pub next : At text (at + 1) rest
    next = record { is = sym (drop-drop 1 at text) ∙ ap (drop 1) a.is; within = omega (arith, a.within) }

-- the last part
module _ (separator : ℕ) (text : List ℕ) (at : ℕ) (xs : List ℕ) (a : At text at xs) where
  with-nothing : At text at (xs ++ [])
  with-nothing = subst (At text at) (sym (append-nil xs)) a

  pub last-is : is_free separator xs ≡ true → part_at separator at text ≡ xs
  last-is free = part-is separator text at xs [] with-nothing free tt

  pub last-end : is_free separator xs ≡ true → part_end separator at text ≡ at + length xs
  last-end free = end-is separator text at xs [] with-nothing free tt

  pub behind-last : At text (at + length xs) []
  behind-last = behind separator text at xs [] with-nothing

pub ends-here : (text : List ℕ) (at column : ℕ) → At text at [] → end_at at text column ≡ Ok tt
ends-here text at column a = ap (λ t. cond t (let r : Result (Unit {0}) SchedFault = Ok tt in r) (refused (column + at + 1) Word)) (eq-eqb at (length text) (omega (arith, a.within)))

some-word : (xs : List ℕ) (column : ℕ) → 0 < length xs → not_empty xs column ≡ Ok tt
some-word [] column h = absurd (omega (arith, h))
some-word (x ∷ xs) column h = refl

module _ (line : List ℕ) (at : ℕ) (xs rest : List ℕ) (a : At line at (32 ∷ xs ++ rest)) (free : is_free 32 xs ≡ true) (ends : Ends 32 rest) where
  pub word-is : word_at (at + 1) line ≡ xs
  word-is = part-is 32 line (at + 1) xs rest (next 32 line at (xs ++ rest) a) free ends

  pub word-end : word_end (at + 1) line ≡ at + 1 + length xs
  word-end = end-is 32 line (at + 1) xs rest (next 32 line at (xs ++ rest) a) free ends

  pub behind-word : At line (at + 1 + length xs) rest
  behind-word = behind 32 line (at + 1) xs rest (next 32 line at (xs ++ rest) a)

  pub after-is : 0 < length xs → word_after at line ≡ Ok (at + 1)
  after-is some =
      then (start_after 32 at line 1) (λ start. not_empty (word_at start line) (start + 1) >>= λ _. Ok start) (at + 1) (Ok (at + 1)) (start-is 32 line at (xs ++ rest) a 1)
      (then (not_empty (word_at (at + 1) line) (at + 1 + 1)) (λ _. Ok (at + 1)) tt (Ok (at + 1)) (ap (λ w. not_empty w (at + 1 + 1)) word-is ∙ some-word xs (at + 1 + 1) some) refl)
