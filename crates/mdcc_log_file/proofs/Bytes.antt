-- What one torn byte, a cut and a write leave.
use Rattle.std.proofs.Common.{◌≡◌, ℕ, suc, ◌+◌, ◌<◌, ◌≤◌, List, [], ◌∷◌, ◌++◌, length, get_or, take, drop, sym, ◌∙◌, ap, refl, arith}
use Rattle.std.proofs.lemmas.List.{take_at, drop_more, take_all, drop_all, append-nil, append_assoc, take-append-drop, take-append-le, length-take-le}
use Rattle.std.proofs.Math.Seq.{take-add}
use Rattle.mdcc_disks.specs.Disks.{IsOverwritten, IsTorn, IsCut}

-- one byte is another, and the rest is the same
pub one_torn : {tears : ℕ → Type 0} (byte : ℕ) (old c : List ℕ) (at : ℕ) → at < length old → IsTorn tears at (byte ∷ []) old c → c ≡ take at old ++ get_or c at 0 ∷ drop (at + 1) old
one_torn byte old c at within torn =
    sym (take-append-drop at c)
    ∙ ap (λ (l : List ℕ). l ++ drop at c) torn.before
    ∙ ap (λ (l : List ℕ). take at old ++ l) (drop_more c at 0 (omega (arith, torn.no_shorter)) ∙ ap (λ (l : List ℕ). get_or c at 0 ∷ l) torn.after)

pub one_written : (old new : List ℕ) (at byte : ℕ) → IsOverwritten old at (byte ∷ []) new → new ≡ take at old ++ byte ∷ drop (at + 1) old
one_written old new at byte holds = holds ∙ append_assoc (take at old) (byte ∷ []) (drop (at + 1) old)

-- a file whose part from here on is torn keeps its front
pub end_torn : {tears : ℕ → Type 0} (old c bytes : List ℕ) → IsTorn tears (length old) bytes old c → c ≡ old ++ drop (length old) c
end_torn old c bytes torn =
    sym (take-append-drop (length old) c)
    ∙ ap (λ (l : List ℕ). l ++ drop (length old) c) (torn.before ∙ take_all (length old) old (omega arith))

pub end_written : (old bytes new : List ℕ) → IsOverwritten old (length old) bytes new → new ≡ old ++ bytes
end_written old bytes new holds =
    holds
    ∙ ap (λ (l : List ℕ). l ++ bytes ++ drop (length old + length bytes) old) (take_all (length old) old (omega arith))
    ∙ ap (λ (l : List ℕ). old ++ bytes ++ l) (drop_all (length old + length bytes) old (omega arith))
    ∙ append-nil (old ++ bytes)

-- a cut keeps what stands before it
pub front_kept : (front rest c : List ℕ) → IsCut (length front) (front ++ rest) c → c ≡ front ++ drop (length front) c
front_kept front rest c cut =
    sym (take-append-drop (length front) c)
    ∙ ap (λ (l : List ℕ). l ++ drop (length front) c) (cut.front ∙ take_at front rest (length front) refl)

pub take_past : {X : Type 0} (xs ys : List X) (n : ℕ) → take (length xs + n) (xs ++ ys) ≡ xs ++ take n ys
take_past [] ys n = let same : 0 + n ≡ n = omega arith in ap (λ (k : ℕ). take k ys) same
take_past {X} (x ∷ xs) ys n = let same : suc (length xs) + n ≡ suc (length xs + n) = omega arith in ap (λ (k : ℕ). take k (x ∷ (xs ++ ys))) same ∙ ap (λ (l : List X). x ∷ l) (take_past xs ys n)

-- what was read so far, and a part behind it
pub more_filled : (done n : ℕ) (into part post seen : List ℕ) → done ≤ length into → n ≤ length part → take done into ≡ take done seen → take n part ≡ take n (drop done seen) → take (done + n) (take done into ++ (part ++ post)) ≡ take (done + n) seen
more_filled done n into part post seen within fits so_far more =
    let size : length (take done into) ≡ done = length-take-le done into within in
    ap (λ (k : ℕ). take (k + n) (take done into ++ (part ++ post))) (sym size)
    ∙ take_past (take done into) (part ++ post) n
    ∙ ap (λ (l : List ℕ). take done into ++ l) (take-append-le n part post fits ∙ more)
    ∙ ap (λ (l : List ℕ). l ++ take n (drop done seen)) so_far
    ∙ sym (take-add done n seen)
