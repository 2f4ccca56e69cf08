-- Bounds of integers as bounds of numbers.
use Rattle.std.proofs.Common.{◌≡◌, ℕ, zero, suc, ◌+◌, ◌*◌, ◌≤◌, false, sym, ap, ◌∙◌, arith, ℤ, pos, negsuc, ◌+ℤ◌, ◌*ℤ◌}
use Rattle.std.proofs.Math.IntN.{neg_ℤ, pos-*ℤ-pos, pos-*ℤ-negsuc}
use Rattle.std.proofs.lemmas.Int.{ints}
use Rattle.std.specs.Prelude.{int_lt}
use Rattle.mdcc_def_protocol.specs.Fit.{above_zero}

-- a sum that does not pass the room
pub within_room : (room : ℤ) (sum amount : ℕ) → int_lt room (pos sum +ℤ pos amount) ≡ false → sum + amount ≤ above_zero room
within_room (pos n) sum amount h = omega (arith, ints)
within_room (negsuc n) sum amount h = omega (arith, ints)

not_above : (n m : ℕ) → int_lt (pos n) (pos m) ≡ false → m ≤ n
not_above n m h = omega (arith, ints)

not_above_less : (n m : ℕ) → int_lt (neg_ℤ (pos n)) (pos m) ≡ false → m ≤ 0
not_above_less zero m h = omega (arith, ints)
not_above_less (suc n) m h = omega (arith, ints)

-- a sum that does not pass a share of the room
pub within_share : (share parts sum amount : ℕ) (room : ℤ) → int_lt (pos share *ℤ room) (pos parts *ℤ (pos sum +ℤ pos amount)) ≡ false →
    parts * (sum + amount) ≤ share * above_zero room
within_share share parts sum amount (pos n) h =
    not_above (share * n) (parts * (sum + amount))
    (sym (ap (λ z. int_lt z (pos (parts * (sum + amount)))) (pos-*ℤ-pos share n)) ∙ sym (ap (int_lt (pos share *ℤ pos n)) (pos-*ℤ-pos parts (sum + amount))) ∙ h)
within_share share parts sum amount (negsuc n) h =
    let none : parts * (sum + amount) ≤ 0 = not_above_less (share * suc n) (parts * (sum + amount))
    (sym (ap (λ z. int_lt z (pos (parts * (sum + amount)))) (pos-*ℤ-negsuc share n)) ∙ sym (ap (int_lt (pos share *ℤ negsuc n)) (pos-*ℤ-pos parts (sum + amount))) ∙ h) in
    omega arith
