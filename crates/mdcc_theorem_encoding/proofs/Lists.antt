-- Lists of parts: what is read is what is spelled.
use Rattle.std.proofs.Common.{◌≡◌, ℕ, zero, suc, ◌+◌, ◌^◌, ◌<◌, Bool, true, List, [], ◌∷◌, ◌++◌, length, Result, Ok, Option, Some, None, refl, sym, ap, subst, arith, length-append}
use Rattle.std.specs.Int.{IsInRange}
use Rattle.std.specs.List.{flat_map, AllByRecursion}
use Rattle.std.proofs.lemmas.Bool.{and_parts}
use Rattle.mdcc_def_messages.specs.declared.wire.WireFault.{WireFault}
use Rattle.mdcc_def_messages.specs.declared.wire.WireFault.TheVariants.{NotCanonical}
use Rattle.mdcc_def_messages.specs.Bytes.{u8_bytes, counted_bytes}
use Rattle.mdcc_def_messages.specs.ReadingSteps.{◌>>=◌, is_after, fault_unless_after, u8_within, elements_at, list_at}
use Rattle.mdcc_def_messages.specs.WellFormedParts.{is_ascending_by}
use Rattle.mdcc_theorem_encoding.proofs.Places.{IsAt, IsBytes, apart, together, nothing}
use Rattle.mdcc_theorem_encoding.proofs.Steps.{ok_is, bind_ok, none_found}
use Rattle.mdcc_theorem_encoding.proofs.Numbers.{Reads, u8_within_again, u8_within_takes}

-- each stands behind the one before it, the first behind the last one
abbrev pub Follows : {X K : Type 0} → (K → K → Bool) → (X → K) → Option K → List X → Type 0
Follows lt name_of last [] = Unit {0}
Follows lt name_of last (x ∷ xs) = (is_after lt last (name_of x) ≡ true) × Follows lt name_of (Some (name_of x)) xs

-- two parts that are read one after another
pub Reads-then : (bytes : List ℕ) (at : ℕ) (a : List ℕ) (middle : ℕ) (b : List ℕ) (after : ℕ)
    → Reads bytes at a middle → Reads bytes middle b after → Reads bytes at (a ++ b) after
Reads-then bytes at a middle b after h k = record {
  is_at = together bytes at middle a b h.is_at h.behind k.is_at;
  behind = omega (arith, h.behind, k.behind, length-append a b);
}

pub Reads-nothing : (bytes : List ℕ) (at : ℕ) → Reads bytes at [] at
Reads-nothing bytes at = record { is_at = nothing bytes at; behind = omega arith }

-- what a reader of elements has to do
module _ {X K : Type 0} (bytes : List ℕ) (lt : K → K → Bool) (read : Option K → ℕ → Result (X × ℕ) WireFault) (name_of : X → K)
    (spelled : X → List ℕ) (Fits : X → Type 0) where
  abbrev pub ReadsAgain : Type 0
  ReadsAgain = (last : Option K) (at : ℕ) (x : X) → Fits x → is_after lt last (name_of x) ≡ true → IsAt bytes at (spelled x)
      → read last at ≡ Ok (x, at + length (spelled x))

  abbrev pub Takes : Type 0
  Takes = (last : Option K) (at : ℕ) (x : X × ℕ) → read last at ≡ Ok x
      → Reads bytes at (spelled x.0) x.1 × Fits x.0 × (is_after lt last (name_of x.0) ≡ true)

  pub elements_again : ReadsAgain → (last : Option K) (at : ℕ) (xs : List X) → AllByRecursion Fits xs → Follows lt name_of last xs
      → IsAt bytes at (flat_map spelled xs) → elements_at read name_of (length xs) last at ≡ Ok (xs, at + length (flat_map spelled xs))
  elements_again again last at [] fits follows h = ap (λ n. Ok ([], n)) (omega arith)
  elements_again again last at (x ∷ xs) fits follows h =
      let parts = apart bytes at (spelled x) (flat_map spelled xs) h in
      let first = again last at x fits.0 follows.0 parts.first in
      let others = elements_again again (Some (name_of x)) (at + length (spelled x)) xs fits.1 follows.1 parts.second in
      rw (first, others) (ap (λ n. Ok (x ∷ xs, n)) (omega (arith, length-append (spelled x) (flat_map spelled xs))))

  -- the elements that were read
  pub record AreRead (count : ℕ) (last : Option K) (at : ℕ) (xs : List X × ℕ) : Type 0 where
    pub reads : Reads bytes at (flat_map spelled xs.0) xs.1
    pub fits : AllByRecursion Fits xs.0
    pub follows : Follows lt name_of last xs.0
    pub many : length xs.0 ≡ count

  pub elements_take : Takes → (count : ℕ) (last : Option K) (at : ℕ) (xs : List X × ℕ) → elements_at read name_of count last at ≡ Ok xs → AreRead count last at xs
  elements_take takes zero last at xs e =
      subst (AreRead zero last at) (ok_is ([], at) xs e) (record { reads = Reads-nothing bytes at; fits = tt; follows = tt; many = refl })
  elements_take takes (suc count) last at xs e =
      let a = bind_ok (read last at) (λ first. elements_at read name_of count (Some (name_of first.0)) first.1 >>= λ others. Ok (first.0 ∷ others.0, others.1)) xs e in
      let b = bind_ok (elements_at read name_of count (Some (name_of a.0.0)) a.0.1) (λ others. Ok (a.0.0 ∷ others.0, others.1)) xs a.2 in
      let first = takes last at a.0 a.1 in
      let others = elements_take takes count (Some (name_of a.0.0)) a.0.1 b.0 b.1 in
      subst (AreRead (suc count) last at) (ok_is (a.0.0 ∷ b.0.0, b.0.1) xs b.2) (record {
        reads = Reads-then bytes at (spelled a.0.0) a.0.1 (flat_map spelled b.0.0) b.0.1 first.0 others.reads;
        fits = (first.1, others.fits);
        follows = (first.2, others.follows);
        many = ap suc others.many;
      })

  -- ---- with a count of one byte

  pub list_again : ReadsAgain → (part low high : ℕ) → high < 2 ^ 8 → (at : ℕ) (xs : List X) → IsInRange low high (length xs) → AllByRecursion Fits xs
      → Follows lt name_of None xs → IsAt bytes at (counted_bytes spelled xs)
      → list_at part low high read name_of bytes at ≡ Ok (xs, at + length (counted_bytes spelled xs))
  list_again again part low high small at xs count fits follows h =
      let parts = apart bytes at (u8_bytes (length xs)) (flat_map spelled xs) h in
      let first = u8_within_again part low high bytes at (length xs) (omega (arith, count.1, small)) count parts.first in
      let others = elements_again again None (at + 1) xs fits follows parts.second in
      rw (first, others) (ap (λ n. Ok (xs, n)) (omega arith))

  pub record IsList (low high at : ℕ) (xs : List X × ℕ) : Type 0 where
    pub reads : Reads bytes at (counted_bytes spelled xs.0) xs.1
    pub count : IsInRange low high (length xs.0)
    pub fits : AllByRecursion Fits xs.0
    pub follows : Follows lt name_of None xs.0

  pub list_takes : IsBytes bytes → Takes → (part low high at : ℕ) (xs : List X × ℕ) → list_at part low high read name_of bytes at ≡ Ok xs → IsList low high at xs
  list_takes h takes part low high at xs e =
      let a = bind_ok (u8_within part low high bytes at) (λ count. elements_at read name_of count.0 None count.1) xs e in
      let count = u8_within_takes part low high bytes at a.0 h a.1 in
      let others = elements_take takes a.0.0 None a.0.1 xs a.2 in
      let first : Reads bytes at (u8_bytes (length xs.0)) a.0.1 = subst (λ n. Reads bytes at (u8_bytes n) a.0.1) (sym others.many) count.0 in
      record {
        reads = Reads-then bytes at (u8_bytes (length xs.0)) a.0.1 (flat_map spelled xs.0) xs.1 first others.reads;
        count = subst (IsInRange low high) (sym others.many) count.2;
        fits = others.fits;
        follows = others.follows;
      }

-- ---- orders

-- what ascends follows
pub follows : {X K : Type 0} (lt : K → K → Bool) (name_of : X → K) (xs : List X) → is_ascending_by (λ a b. lt (name_of a) (name_of b)) xs ≡ true
    → Follows lt name_of None xs
follows lt name_of [] h = tt
follows {X = X} {K = K} lt name_of (x ∷ xs) h = (refl, later x xs h)
  where
    later : (x : X) (xs : List X) → is_ascending_by (λ a b. lt (name_of a) (name_of b)) (x ∷ xs) ≡ true → Follows lt name_of (Some (name_of x)) xs
    later x [] h = tt
    later x (y ∷ ys) h =
        let parts = and_parts (lt (name_of x) (name_of y)) (is_ascending_by (λ a b. lt (name_of a) (name_of b)) (y ∷ ys)) h in
        (parts.0, later y ys parts.1)

-- what follows ascends
pub ascends : {X K : Type 0} (lt : K → K → Bool) (name_of : X → K) (last : Option K) (xs : List X) → Follows lt name_of last xs
    → is_ascending_by (λ a b. lt (name_of a) (name_of b)) xs ≡ true
ascends lt name_of last [] h = refl
ascends lt name_of last (x ∷ []) h = refl
ascends lt name_of last (x ∷ y ∷ ys) h = rw (h.1.0, ascends lt name_of (Some (name_of x)) (y ∷ ys) h.1) refl

-- an element that stands behind the last one
pub behind_passes : {K : Type 0} (lt : K → K → Bool) (part : ℕ) (last : Option K) (x : K) → is_after lt last x ≡ true → fault_unless_after lt part last x ≡ None
behind_passes lt part last x h = rw h refl

pub behind_true : {K : Type 0} (lt : K → K → Bool) (part : ℕ) (last : Option K) (x : K) → fault_unless_after lt part last x ≡ None → is_after lt last x ≡ true
behind_true lt part last x h = none_found (is_after lt last x) (NotCanonical part) h
