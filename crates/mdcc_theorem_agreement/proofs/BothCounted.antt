-- How many centres there are, and two tests counted together.
use Rattle.std.proofs.Common.{◌≡◌, ℕ, ◌+◌, ◌≤◌, Bool, ◌&&◌, List, [], ◌∷◌, length, arith}
use Rattle.std.proofs.lemmas.List.FromFn.{length-range_with_len}
use Rattle.mdcc_theorem_agreement.proofs.Setups.{centres_to, count}

pub length-centres : (n : ℕ) → length (centres_to n) ≡ n
length-centres n = length-range_with_len 1 n

-- those in the one and those in the other are at most all, with those in both twice
pub count_both : {A : Type 0} (p q : A → Bool) (xs : List A) → count p xs + count q xs ≤ length xs + count (λ x. p x && q x) xs
count_both p q [] = omega arith
count_both p q (x ∷ xs) = grind (arith, count_both p q xs)
