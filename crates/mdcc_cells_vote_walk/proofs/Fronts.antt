-- What is read at the front of bytes, through a window.
use Rattle.std.proofs.Common.{◌≡◌, ℕ, zero, suc, ◌+◌, ◌-◌, ◌≤◌, List, [], ◌∷◌, ◌++◌, length, take, drop, sym, ap, ◌∙◌, arith}
use Rattle.std.proofs.lemmas.List.{drop_at}
use Rattle.mdcc_theorem_encoding.proofs.Places.{IsAt}

pub take-past : (a b : List ℕ) (n : ℕ) → length a ≤ n → take n (a ++ b) ≡ a ++ take (n - length a) b
take-past [] b n le = ap (λ k. take k b) (omega arith)
take-past (x ∷ a) b zero le = absurd (omega arith)
take-past (x ∷ a) b (suc n) le = ap (λ xs. x ∷ xs) (take-past a b n (omega arith)) ∙ ap (λ k. x ∷ (a ++ take k b)) (omega arith)

-- what bytes begin with stands there in a window that has room for it
pub front-at : (bytes a b : List ℕ) (n : ℕ) → bytes ≡ a ++ b → length a ≤ n → IsAt (take n bytes) 0 a
front-at bytes a b n is le =
    let window : take n bytes ≡ a ++ take (n - length a) b = ap (take n) is ∙ take-past a b n le in
    let behind : drop (0 + length a) (take n bytes) ≡ take (n - length a) b =
    ap (drop (0 + length a)) window ∙ drop_at a (take (n - length a) b) (0 + length a) (omega arith) in
    record { is = window ∙ ap (λ rest. a ++ rest) (sym behind) }
