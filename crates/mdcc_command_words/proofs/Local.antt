-- A plain command has no global word.
use Rattle.std.proofs.Common.{◌≡◌, ◌&&◌, Bool, false, not, true, refl}

-- by the tests of a plain command, of which this is the third
pub third_test : (a b c d : Bool) → (a && (not b && (not c && d))) ≡ true → c ≡ false
third_test true false false d h = refl
third_test true false true d h = absurd (cc)
third_test true true c d h = absurd (cc)
third_test false b c d h = absurd (cc)
