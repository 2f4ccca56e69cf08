-- Double counting: what each centre has, against how many centres have each.
use Rattle.std.proofs.Common.{◌≡◌, ℕ, ◌+◌, ◌*◌, ◌<◌, ◌≤◌, Bool, cond, List, [], ◌∷◌, refl, ap, arith}
use Rattle.std.proofs.Math.Nat.{mul-le-mul_right, mul-le-mul_left, mul-lt-mul_of_pos_left, le_of_mul-le-mul_left}
use Rattle.mdcc_theorem_agreement.proofs.Setups.{count}
use Rattle.mdcc_theorem_agreement.proofs.Totals.{total, Each}

pub total-plus : {A : Type 0} (f g : A → ℕ) (xs : List A) → total (λ x. f x + g x) xs ≡ total f xs + total g xs
total-plus f g [] = refl
total-plus f g (x ∷ xs) = omega (arith, total-plus f g xs)

-- a count as a total
pub count-times : {A : Type 0} (p : A → Bool) (n : ℕ) (xs : List A) → total (λ x. cond (p x) n 0) xs ≡ count p xs * n
count-times p n [] = omega arith
count-times p n (x ∷ xs) = grind (arith, count-times p n xs)

-- each of the marks has at least n holders, so n times their amounts is at most what the holders have of them
pub held_totals : {A B : Type 0} (n : ℕ) (amount : A → ℕ) (has : B → A → Bool) (xs : List A) (bs : List B) →
    Each (λ x. n ≤ count (λ b. has b x) bs) xs →
    n * total amount xs ≤ total (λ b. total (λ x. cond (has b x) (amount x) 0) xs) bs
held_totals n amount has [] bs h = omega arith
held_totals n amount has (x ∷ xs) bs h =
    let rest : n * total amount xs ≤ total (λ b. total (λ y. cond (has b y) (amount y) 0) xs) bs = held_totals n amount has xs bs h.1 in
    let here : n * amount x ≤ count (λ b. has b x) bs * amount x = mul-le-mul_right (amount x) h.0 in
    omega (
      arith,
      count-times (λ b. has b x) (amount x) bs,
      total-plus (λ b. cond (has b x) (amount x) 0) (λ b. total (λ y. cond (has b y) (amount y) 0) xs) bs,
    )

-- at the limit that the sizes allow, the sum is within the room
pub room_left : (c q e n d room sum whole : ℕ) → c ≤ q → e + d ≡ c → n + d ≡ q → 0 < e → 0 < c →
    n * sum ≤ whole → c * whole ≤ q * (e * room) → sum ≤ room
room_left c q e n d room sum whole more limit threshold positive some held bound =
    let less : c * d ≤ q * d = mul-le-mul_right d more in
    let weights : q * e ≤ c * n = omega (arith, ap (λ z. q * z) limit, ap (λ z. c * z) threshold) in
    let scaled : (q * e) * sum ≤ (c * n) * sum = mul-le-mul_right sum weights in
    let whole_scaled : c * (n * sum) ≤ c * whole = mul-le-mul_left c held in
    let both : (q * e) * sum ≤ (q * e) * room = omega arith in
    let large : q * 0 < q * e = mul-lt-mul_of_pos_left positive (omega arith) in
    let above : 0 < q * e = omega arith in
    le_of_mul-le-mul_left both above
