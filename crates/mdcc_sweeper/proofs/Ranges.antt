-- Numbers in turn.
use Rattle.std.proofs.Common.{◌≡◌, ◌<◌, ◌+◌, ◌-◌, ◌∷◌, ℕ, suc, arith, refl}
use Rattle.std.specs.List.{range_with_len}

-- the first of some numbers, where there are any
pub range_first : (a end : ℕ) → a < end → range_with_len a (end - a) ≡ a ∷ range_with_len (a + 1) (end - (a + 1))
range_first a end within =
    let more : end - a ≡ suc (end - (a + 1)) = omega (within, arith) in
    rw more refl
