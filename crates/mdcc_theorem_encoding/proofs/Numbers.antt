-- Numbers: what is read is what is spelled.
use Rattle.std.proofs.Common.{◌≡◌, ℕ, ◌+◌, ◌-◌, ◌^◌, ◌<◌, ◌≤◌, true, false, ltb, List, [], ◌∷◌, length, take, drop, Ok, refl, sym, ap, subst, ◌∙◌, arith}
use Rattle.std.specs.Prelude.{nat_le}
use Rattle.std.specs.Int.{Width, w8, w32, w64, byte_len, from_le_bytes, IsInRange, is_in_range}
use Rattle.std.proofs.lemmas.Bool.{ltb-false, le-ltb, and_parts, leb-true, le-leb}
use Rattle.std.proofs.lemmas.List.{length-take, length-drop}
use Rattle.std.proofs.lemmas.Nat.{le_bytes_4, le_bytes_8, from_le_bytes-to_le_bytes_4, from_le_bytes-to_le_bytes_8}
use Rattle.mdcc_def_messages.specs.declared.wire.WireFault.TheVariants.{Truncated, Range}
use Rattle.mdcc_def_messages.specs.Bytes.{u8_bytes, u32_bytes, u64_bytes}
use Rattle.mdcc_def_messages.specs.ReadingSteps.{number_at, u8_at, u32_at, u64_at, ranged, u8_within, u32_within}
use Rattle.mdcc_theorem_encoding.proofs.Places.{IsAt, IsBytes, IsBytes-at, taken, fits, stands}
use Rattle.mdcc_theorem_encoding.proofs.Steps.{guard_ok, none_found, checked_ok}

-- what was read of a part: it stands there, and the reading goes on behind it
pub record Reads (bytes : List ℕ) (at : ℕ) (text : List ℕ) (after : ℕ) : Type 0 where
  pub is_at : IsAt bytes at text
  pub behind : after ≡ at + length text

-- a part that was read: it is spelled there, and meets its ranges and orders
pub record IsFound {X : Type 0} (bytes : List ℕ) (spelled : X → List ℕ) (Fits : X → Type 0) (at : ℕ) (x : X × ℕ) : Type 0 where
  pub reads : Reads bytes at (spelled x.0) x.1
  pub fits : Fits x.0

-- a number's spelling
pub record IsWide (w : Width) (limit : ℕ) (spelled : ℕ → List ℕ) : Type 0 where
  pub len : (n : ℕ) → length (spelled n) ≡ byte_len w
  pub back : (bytes : List ℕ) → length bytes ≡ byte_len w → IsBytes bytes → spelled (from_le_bytes w bytes) ≡ bytes
  pub again : (n : ℕ) → n < limit → from_le_bytes w (spelled n) ≡ n
  pub below : (bytes : List ℕ) → length bytes ≡ byte_len w → IsBytes bytes → from_le_bytes w bytes < limit

one_byte : (bytes : List ℕ) → length bytes ≡ 1 → u8_bytes (from_le_bytes w8 bytes) ≡ bytes
one_byte [] e = absurd (cc)
one_byte (b ∷ []) e = ap (λ n. n ∷ []) (omega arith)
one_byte (b ∷ c ∷ bytes) e = absurd (omega (arith, e))

one_below : (bytes : List ℕ) → length bytes ≡ 1 → IsBytes bytes → from_le_bytes w8 bytes < 2 ^ 8
one_below [] e h = absurd (cc)
one_below (b ∷ []) e h = omega (arith, h 0)
one_below (b ∷ c ∷ bytes) e h = absurd (omega (arith, e))

pub wide8 : IsWide w8 (2 ^ 8) u8_bytes
wide8 = record {
  len = λ n. refl;
  back = λ bytes len fits. one_byte bytes len;
  again = λ n lt. omega arith;
  below = λ bytes len fits. one_below bytes len fits;
}

pub wide32 : IsWide w32 (2 ^ 32) u32_bytes
wide32 = record {
  len = λ n. refl;
  back = λ bytes len fits. le_bytes_4 bytes _ len fits refl;
  again = λ n lt. from_le_bytes-to_le_bytes_4 n lt;
  below = λ bytes len fits. omega (arith, fits 0, fits 1, fits 2, fits 3);
}

pub wide64 : IsWide w64 (2 ^ 64) u64_bytes
wide64 = record {
  len = λ n. refl;
  back = λ bytes len fits. le_bytes_8 bytes _ len fits refl;
  again = λ n lt. from_le_bytes-to_le_bytes_8 n lt;
  below = λ bytes len fits. omega (arith, fits 0, fits 1, fits 2, fits 3, fits 4, fits 5, fits 6, fits 7);
}

module _ (w : Width) (limit : ℕ) (spelled : ℕ → List ℕ) (wide : IsWide w limit spelled) where
  number_again : (bytes : List ℕ) (at n : ℕ) → n < limit → IsAt bytes at (spelled n) → number_at w bytes at ≡ Ok (n, at + byte_len w)
  number_again bytes at n lt h =
      let long : ltb (length bytes - at) (byte_len w) ≡ false = le-ltb _ _ (omega (arith, fits bytes at (spelled n) h, wide.len n)) in
      let found : take (byte_len w) (drop at bytes) ≡ spelled n = ap (λ k. take k (drop at bytes)) (sym (wide.len n)) ∙ taken bytes at (spelled n) h in
      rw (long, found, wide.again n lt) refl

  number_takes : (bytes : List ℕ) (at : ℕ) (x : ℕ × ℕ) → IsBytes bytes → number_at w bytes at ≡ Ok x → Reads bytes at (spelled x.0) x.1 × (x.0 < limit)
  number_takes bytes at x h e =
      let g = guard_ok (ltb (length bytes - at) (byte_len w)) (Truncated (length bytes)) (from_le_bytes w (take (byte_len w) (drop at bytes)), at + byte_len w) x e in
      let long : byte_len w ≤ length bytes - at = ltb-false _ _ g.0 in
      let text = take (byte_len w) (drop at bytes) in
      let len : length text ≡ byte_len w = omega (arith, length-take (byte_len w) (drop at bytes), length-drop at bytes) in
      let same : spelled (from_le_bytes w text) ≡ text = wide.back text len (IsBytes-at (byte_len w) at bytes h) in
      let there : IsAt bytes at (spelled (from_le_bytes w text)) = subst (IsAt bytes at) (sym same) (stands bytes at (byte_len w) long) in
      subst (λ y. Reads bytes at (spelled y.0) y.1 × (y.0 < limit)) g.1 (
        record { is_at = there; behind = ap (λ k. at + k) (sym (wide.len (from_le_bytes w text))) },
        wide.below text len (IsBytes-at (byte_len w) at bytes h),
      )

pub u8_again : (bytes : List ℕ) (at n : ℕ) → n < 2 ^ 8 → IsAt bytes at (u8_bytes n) → u8_at bytes at ≡ Ok (n, at + 1)
u8_again = number_again w8 (2 ^ 8) u8_bytes wide8

pub u8_takes : (bytes : List ℕ) (at : ℕ) (x : ℕ × ℕ) → IsBytes bytes → u8_at bytes at ≡ Ok x → Reads bytes at (u8_bytes x.0) x.1 × (x.0 < 2 ^ 8)
u8_takes = number_takes w8 (2 ^ 8) u8_bytes wide8

pub u32_again : (bytes : List ℕ) (at n : ℕ) → n < 2 ^ 32 → IsAt bytes at (u32_bytes n) → u32_at bytes at ≡ Ok (n, at + 4)
u32_again = number_again w32 (2 ^ 32) u32_bytes wide32

pub u32_takes : (bytes : List ℕ) (at : ℕ) (x : ℕ × ℕ) → IsBytes bytes → u32_at bytes at ≡ Ok x → Reads bytes at (u32_bytes x.0) x.1 × (x.0 < 2 ^ 32)
u32_takes = number_takes w32 (2 ^ 32) u32_bytes wide32

pub u64_again : (bytes : List ℕ) (at n : ℕ) → n < 2 ^ 64 → IsAt bytes at (u64_bytes n) → u64_at bytes at ≡ Ok (n, at + 8)
u64_again = number_again w64 (2 ^ 64) u64_bytes wide64

pub u64_takes : (bytes : List ℕ) (at : ℕ) (x : ℕ × ℕ) → IsBytes bytes → u64_at bytes at ≡ Ok x → Reads bytes at (u64_bytes x.0) x.1 × (x.0 < 2 ^ 64)
u64_takes = number_takes w64 (2 ^ 64) u64_bytes wide64

-- ---- in a range

pub range_true : (low high n : ℕ) → IsInRange low high n → is_in_range low high n ≡ true
range_true low high n h = rw (le-leb low n h.0, le-leb n high h.1) refl

pub range_is : (low high n : ℕ) → is_in_range low high n ≡ true → IsInRange low high n
range_is low high n h =
    let parts = and_parts (nat_le low n) (nat_le n high) h in
    (leb-true low n parts.0, leb-true n high parts.1)

pub u8_within_again : (part low high : ℕ) (bytes : List ℕ) (at n : ℕ) → n < 2 ^ 8 → IsInRange low high n → IsAt bytes at (u8_bytes n)
    → u8_within part low high bytes at ≡ Ok (n, at + 1)
u8_within_again part low high bytes at n lt range h = rw (u8_again bytes at n lt h, range_true low high n range) refl

pub u8_within_takes : (part low high : ℕ) (bytes : List ℕ) (at : ℕ) (x : ℕ × ℕ) → IsBytes bytes → u8_within part low high bytes at ≡ Ok x
    → Reads bytes at (u8_bytes x.0) x.1 × (x.0 < 2 ^ 8) × IsInRange low high x.0
u8_within_takes part low high bytes at x h e =
    let c = checked_ok (ranged part low high) (u8_at bytes at) x e in
    let t = u8_takes bytes at x h c.1 in
    (t.0, t.1, range_is low high x.0 (none_found (is_in_range low high x.0) (Range part) c.0))

pub u32_within_again : (part low high : ℕ) (bytes : List ℕ) (at n : ℕ) → n < 2 ^ 32 → IsInRange low high n → IsAt bytes at (u32_bytes n)
    → u32_within part low high bytes at ≡ Ok (n, at + 4)
u32_within_again part low high bytes at n lt range h = rw (u32_again bytes at n lt h, range_true low high n range) refl

pub u32_within_takes : (part low high : ℕ) (bytes : List ℕ) (at : ℕ) (x : ℕ × ℕ) → IsBytes bytes → u32_within part low high bytes at ≡ Ok x
    → Reads bytes at (u32_bytes x.0) x.1 × (x.0 < 2 ^ 32) × IsInRange low high x.0
u32_within_takes part low high bytes at x h e =
    let c = checked_ok (ranged part low high) (u32_at bytes at) x e in
    let t = u32_takes bytes at x h c.1 in
    (t.0, t.1, range_is low high x.0 (none_found (is_in_range low high x.0) (Range part) c.0))
