-- Texts that stand at a place of bytes.
use Rattle.std.proofs.Common.{◌≡◌, ℕ, ◌+◌, ◌-◌, ◌<◌, ◌≤◌, List, [], ◌++◌, length, get_or, take, drop, refl, sym, ap, subst, ◌∙◌, append_assoc, arith, inl, inr, length-append}
use Rattle.std.proofs.lemmas.Bool.{cases_lt}
use Rattle.std.proofs.lemmas.List.{take_at, drop_at, take-append-drop, length-drop, length-take, drop-drop, get_or-drop, get_or-take, get_or_past}

-- the text stands there, and what follows it is what stands behind it
pub record IsAt (bytes : List ℕ) (at : ℕ) (text : List ℕ) : Type 0 where
  pub is : drop at bytes ≡ text ++ drop (at + length text) bytes

-- each is below 256
abbrev pub IsBytes : List ℕ → Type 0
IsBytes bytes = (i : ℕ) → get_or bytes i 0 < 256

IsBytes-drop : (n : ℕ) (bytes : List ℕ) → IsBytes bytes → IsBytes (drop n bytes)
IsBytes-drop n bytes h i = rw get_or-drop (h (n + i))

IsBytes-take : (n : ℕ) (bytes : List ℕ) → IsBytes bytes → IsBytes (take n bytes)
IsBytes-take n bytes h i =
    elim (cases_lt i n) [
      | inl lt ↦ rw (get_or-take n bytes i 0 lt) (h i)
      | inr le ↦ rw (get_or_past (take n bytes) i 0 (omega (arith, length-take n bytes))) (omega arith)
    ]

-- what is taken at a place are bytes
pub IsBytes-at : (n at : ℕ) (bytes : List ℕ) → IsBytes bytes → IsBytes (take n (drop at bytes))
IsBytes-at n at bytes h = IsBytes-take n (drop at bytes) (IsBytes-drop at bytes h)

-- behind a front
behind-front : (bytes : List ℕ) (at : ℕ) (a rest : List ℕ) → drop at bytes ≡ a ++ rest → drop (at + length a) bytes ≡ rest
behind-front bytes at a rest h = sym (drop-drop (length a) at bytes) ∙ ap (drop (length a)) h ∙ drop_at a rest (length a) refl

-- a text of two parts
pub record AreAt (bytes : List ℕ) (at : ℕ) (a b : List ℕ) : Type 0 where
  pub first : IsAt bytes at a
  pub second : IsAt bytes (at + length a) b

pub apart : (bytes : List ℕ) (at : ℕ) (a b : List ℕ) → IsAt bytes at (a ++ b) → AreAt bytes at a b
apart bytes at a b h =
    let far : at + length (a ++ b) ≡ at + length a + length b = omega (arith, length-append a b) in
    let whole : drop at bytes ≡ a ++ (b ++ drop (at + length a + length b) bytes) = h.is ∙ append_assoc a b _ ∙ ap (λ n. a ++ (b ++ drop n bytes)) far in
    let rest = behind-front bytes at a (b ++ drop (at + length a + length b) bytes) whole in
    record { first = record { is = whole ∙ ap (λ r. a ++ r) (sym rest) }; second = record { is = rest } }

pub together : (bytes : List ℕ) (at middle : ℕ) (a b : List ℕ) → IsAt bytes at a → middle ≡ at + length a → IsAt bytes middle b → IsAt bytes at (a ++ b)
together bytes at middle a b h m k =
    let far : at + length a + length b ≡ at + length (a ++ b) = omega (arith, length-append a b) in
    let second : drop (at + length a) bytes ≡ b ++ drop (at + length a + length b) bytes = rw (← m) k.is in
    record { is = h.is ∙ ap (λ r. a ++ r) second ∙ sym (append_assoc a b _) ∙ ap (λ n. (a ++ b) ++ drop n bytes) far }

-- nothing stands everywhere
pub nothing : (bytes : List ℕ) (at : ℕ) → IsAt bytes at []
nothing bytes at = record { is = ap (λ n. drop n bytes) (omega arith) }

-- what stands at a place is taken there
pub taken : (bytes : List ℕ) (at : ℕ) (text : List ℕ) → IsAt bytes at text → take (length text) (drop at bytes) ≡ text
taken bytes at text h = ap (take (length text)) h.is ∙ take_at text _ (length text) refl

-- and is within
pub fits : (bytes : List ℕ) (at : ℕ) (text : List ℕ) → IsAt bytes at text → length text ≤ length bytes - at
fits bytes at text h =
    let same : length (drop at bytes) ≡ length (text ++ drop (at + length text) bytes) = ap length h.is in
    omega (arith, same, length-drop at bytes, length-append text (drop (at + length text) bytes))

-- what is taken at a place stands there
pub stands : (bytes : List ℕ) (at n : ℕ) → n ≤ length bytes - at → IsAt bytes at (take n (drop at bytes))
stands bytes at n le =
    let len : length (take n (drop at bytes)) ≡ n = omega (arith, length-take n (drop at bytes), length-drop at bytes) in
    record { is = sym (take-append-drop n (drop at bytes)) ∙ ap (λ r. take n (drop at bytes) ++ r) (drop-drop n at bytes ∙ ap (λ k. drop (at + k) bytes) (sym len)) }

-- ---- texts of more parts

pub apart-3 : (bytes : List ℕ) (at : ℕ) (a b c : List ℕ) → IsAt bytes at (a ++ b ++ c)
    → IsAt bytes at a × IsAt bytes (at + length a) b × IsAt bytes (at + length a + length b) c
apart-3 bytes at a b c h =
    let last = apart bytes at (a ++ b) c h in
    let rest = apart bytes at a b last.first in
    let far : at + length (a ++ b) ≡ at + length a + length b = omega (arith, length-append a b) in
    (rest.first, rest.second, subst (λ n. IsAt bytes n c) far last.second)

pub apart-4 : (bytes : List ℕ) (at : ℕ) (a b c d : List ℕ) → IsAt bytes at (a ++ b ++ c ++ d)
    → IsAt bytes at a × IsAt bytes (at + length a) b × IsAt bytes (at + length a + length b) c × IsAt bytes (at + length a + length b + length c) d
apart-4 bytes at a b c d h =
    let last = apart bytes at (a ++ b ++ c) d h in
    let rest = apart-3 bytes at a b c last.first in
    let far : at + length (a ++ b ++ c) ≡ at + length a + length b + length c = omega (arith, length-append (a ++ b) c, length-append a b) in
    (rest.0, rest.1, rest.2, subst (λ n. IsAt bytes n d) far last.second)

pub apart-5 : (bytes : List ℕ) (at : ℕ) (a b c d e : List ℕ) → IsAt bytes at (a ++ b ++ c ++ d ++ e)
    → IsAt bytes at a × IsAt bytes (at + length a) b × IsAt bytes (at + length a + length b) c × IsAt bytes (at + length a + length b + length c) d
    × IsAt bytes (at + length a + length b + length c + length d) e
apart-5 bytes at a b c d e h =
    let last = apart bytes at (a ++ b ++ c ++ d) e h in
    let rest = apart-4 bytes at a b c d last.first in
    let far : at + length (a ++ b ++ c ++ d) ≡ at + length a + length b + length c + length d = omega (arith, length-append (a ++ b ++ c) d, length-append (a ++ b) c, length-append a b) in
    (rest.0, rest.1, rest.2, rest.3, subst (λ n. IsAt bytes n e) far last.second)

pub apart-6 : (bytes : List ℕ) (at : ℕ) (a b c d e f : List ℕ) → IsAt bytes at (a ++ b ++ c ++ d ++ e ++ f)
    → IsAt bytes at a × IsAt bytes (at + length a) b × IsAt bytes (at + length a + length b) c × IsAt bytes (at + length a + length b + length c) d
    × IsAt bytes (at + length a + length b + length c + length d) e × IsAt bytes (at + length a + length b + length c + length d + length e) f
apart-6 bytes at a b c d e f h =
    let last = apart bytes at (a ++ b ++ c ++ d ++ e) f h in
    let rest = apart-5 bytes at a b c d e last.first in
    let far : at + length (a ++ b ++ c ++ d ++ e) ≡ at + length a + length b + length c + length d + length e =
    omega (arith, length-append (a ++ b ++ c ++ d) e, length-append (a ++ b ++ c) d, length-append (a ++ b) c, length-append a b) in
    (rest.0, rest.1, rest.2, rest.3, rest.4, subst (λ n. IsAt bytes n f) far last.second)

-- where they end
pub end-2 : (at : ℕ) (a b : List ℕ) → at + length a + length b ≡ at + length (a ++ b)
end-2 at a b = omega (arith, length-append a b)

pub end-3 : (at : ℕ) (a b c : List ℕ) → at + length a + length b + length c ≡ at + length (a ++ b ++ c)
end-3 at a b c = omega (arith, length-append (a ++ b) c, length-append a b)

pub end-4 : (at : ℕ) (a b c d : List ℕ) → at + length a + length b + length c + length d ≡ at + length (a ++ b ++ c ++ d)
end-4 at a b c d = omega (arith, length-append (a ++ b ++ c) d, length-append (a ++ b) c, length-append a b)

pub end-5 : (at : ℕ) (a b c d e : List ℕ) → at + length a + length b + length c + length d + length e ≡ at + length (a ++ b ++ c ++ d ++ e)
end-5 at a b c d e = omega (arith, length-append (a ++ b ++ c ++ d) e, length-append (a ++ b ++ c) d, length-append (a ++ b) c, length-append a b)

pub end-6 : (at : ℕ) (a b c d e f : List ℕ) → at + length a + length b + length c + length d + length e + length f ≡ at + length (a ++ b ++ c ++ d ++ e ++ f)
end-6 at a b c d e f =
    omega (arith, length-append (a ++ b ++ c ++ d ++ e) f, length-append (a ++ b ++ c ++ d) e, length-append (a ++ b ++ c) d, length-append (a ++ b) c, length-append a b)

pub apart-2 : (bytes : List ℕ) (at : ℕ) (a b : List ℕ) → IsAt bytes at (a ++ b) → IsAt bytes at a × IsAt bytes (at + length a) b
apart-2 bytes at a b h = let p = apart bytes at a b h in (p.first, p.second)
