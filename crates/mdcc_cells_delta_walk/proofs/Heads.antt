-- What is read at the head of what stands there.
use Rattle.std.proofs.Common.{◌≡◌, ◌+◌, ◌-◌, ◌≤◌, ◌++◌, ◌∷◌, ℕ, zero, suc, List, [], length, drop, take, get_or, ap, sym, ◌∙◌, arith, refl}
use Rattle.std.proofs.lemmas.List.{drop-take}
use Rattle.mdcc_theorem_encoding.proofs.Places.{IsAt}
use Rattle.mdcc_cells_delta_walk.specs.Passing.{byte_at, entry_head}

pub byte-after : (n : ℕ) (bytes : List ℕ) → get_or (drop n bytes) 0 0 ≡ get_or bytes n 0
byte-after zero bytes = refl
byte-after (suc n) [] = refl
byte-after (suc n) (b ∷ bytes) = byte-after n bytes

-- the first byte of what stands there
pub byte-there : (bytes : List ℕ) (at n : ℕ) (text : List ℕ) → IsAt bytes at (n ∷ text) → byte_at at bytes ≡ n
byte-there bytes at n text h = sym (byte-after at bytes) ∙ ap (λ b. get_or b 0 0) h.is

take-front : (text more : List ℕ) (n : ℕ) → take (length text + n) (text ++ more) ≡ text ++ take n more
take-front [] more n = let none : 0 + n ≡ n = omega arith in ap (λ k. take k more) none
take-front (b ∷ text) more n =
    let one : suc (length text) + n ≡ suc (length text + n) = omega arith in
    ap (λ k. take k (b ∷ (text ++ more))) one ∙ ap (λ t. b ∷ t) (take-front text more n)

-- a window of bytes from a place on, whose end is so many bytes after that place
window-from : (size : ℕ) (bytes : List ℕ) (at n : ℕ) → at + n ≡ size → drop at (take size bytes) ≡ take n (drop at bytes)
window-from size bytes at n ends = ap (λ k. drop at (take k bytes)) (sym ends) ∙ drop-take at n bytes

-- what stands within the window stands there as well
pub in-window : (size : ℕ) (bytes : List ℕ) (at : ℕ) (text : List ℕ) → IsAt bytes at text → at + length text ≤ size → IsAt (take size bytes) at text
in-window size bytes at text h within =
    let left : ℕ = size - (at + length text) in
    record {
      is = window-from size bytes at (length text + left) (omega arith)
          ∙ ap (take (length text + left)) h.is
          ∙ take-front text (drop (at + length text) bytes) left
          ∙ ap (λ t. text ++ t) (sym (window-from size bytes (at + length text) left (omega arith)));
    }

pub in-head : (bytes : List ℕ) (at : ℕ) (text : List ℕ) → IsAt bytes at text → at + length text ≤ 64 → IsAt (entry_head bytes) at text
in-head bytes at text h within = in-window 64 bytes at text h within
