-- The parts of a commit, of which the first nine are kept.
use Rattle.std.proofs.Common.{ℕ, zero, suc, ◌+◌, ◌≤◌, List, true, [], ◌∷◌, ◌++◌, ◌==◌, append_assoc, length, take, ◌≡◌, refl, sym, ap, ◌∙◌, arith, Result, Ok, Err}
use Rattle.std.proofs.lemmas.Bool.{eqb-true}
use Rattle.mdcc_def_language.specs.declared.schedule.SchedFault.{SchedFault}
use Rattle.mdcc_def_language.specs.Words.{◌>>=◌, part_at}
use Rattle.mdcc_option.specs.declared.items.Part.{Part}
use Rattle.mdcc_sched_words.proofs.Parts.{parts_left, parts_first}
use Rattle.mdcc_check_histories.specs.Grammar.{history_parts_of, nine_onto, part_of}

pub take_twice : {X : Type 0} (n : ℕ) (xs ys : List X) → take n (take n xs ++ ys) ≡ take n (xs ++ ys)
take_twice zero xs ys = refl
take_twice (suc n) [] ys = refl
take_twice (suc n) (x ∷ xs) ys = ap (λ zs. x ∷ zs) (take_twice n xs ys)

pub take_front : {X : Type 0} (n : ℕ) (xs ys : List X) → length xs ≡ n → take n (xs ++ ys) ≡ xs
take_front zero [] ys e = refl
take_front zero (x ∷ xs) ys e = absurd (omega (arith, e))
take_front (suc n) [] ys e = absurd (omega (arith, e))
take_front (suc n) (x ∷ xs) ys e = ap (λ zs. x ∷ zs) (take_front n xs ys (omega (arith, e)))

pub taken_full : {X : Type 0} (n : ℕ) (xs ys : List X) → (length xs == n) ≡ true → take n (xs ++ ys) ≡ xs
taken_full n xs ys e = take_front n xs ys (eqb-true (length xs) n e)

nine_more : (ps : List Part) (p : Part) (rest : Result (List Part) SchedFault) → nine_onto (take 9 (ps ++ p ∷ [])) rest ≡ nine_onto ps (rest >>= λ qs. Ok (p ∷ qs))
nine_more ps p (Ok qs) =
    ap (λ (xs : List Part). let r : Result (List Part) SchedFault = Ok xs in r) (take_twice 9 (ps ++ p ∷ []) qs ∙ ap (take 9) (append_assoc ps (p ∷ []) qs))
nine_more ps p (Err fault) = refl

parts_step : (place : ℕ) (line : List ℕ) → place ≤ length line
    → history_parts_of (place + 1) (parts_left 32 place line)
    ≡ (part_of (part_at 32 place line) (place + 1) >>= λ part. history_parts_of (place + (length (part_at 32 place line) + 1) + 1) (parts_left 32 (place + (length (part_at 32 place line) + 1)) line) >>= λ parts. Ok (part ∷ parts))
parts_step place line h =
    let word : List ℕ = part_at 32 place line in
    let rest : List (List ℕ) = parts_left 32 (place + (length word + 1)) line in
    let column : place + 1 + length word + 1 ≡ place + (length word + 1) + 1 = omega arith in
    ap (history_parts_of (place + 1)) (parts_first 32 place line h)
    ∙ ap (λ column. part_of word (place + 1) >>= λ part. history_parts_of column rest >>= λ parts. Ok (part ∷ parts)) column

module _ (whole : Result (List Part) SchedFault) (ps : List Part) (place : ℕ) (line : List ℕ) (within : place ≤ length line)
    (same : nine_onto ps (history_parts_of (place + 1) (parts_left 32 place line)) ≡ whole) where
  pub part_read : (p : Part) → part_of (part_at 32 place line) (place + 1) ≡ Ok p
      → nine_onto (take 9 (ps ++ p ∷ [])) (history_parts_of (place + (length (part_at 32 place line) + 1) + 1) (parts_left 32 (place + (length (part_at 32 place line) + 1)) line)) ≡ whole
  part_read p e =
      let after : ℕ = place + (length (part_at 32 place line) + 1) in
      nine_more ps p (history_parts_of (after + 1) (parts_left 32 after line))
      ∙ sym (ap (λ r. nine_onto ps (r >>= λ x. history_parts_of (after + 1) (parts_left 32 after line) >>= λ xs. Ok (x ∷ xs))) e)
      ∙ sym (ap (nine_onto ps) (parts_step place line within))
      ∙ same

  pub part_refused : (fault : SchedFault) → part_of (part_at 32 place line) (place + 1) ≡ Err fault → Err fault ≡ whole
  part_refused fault e =
      let after : ℕ = place + (length (part_at 32 place line) + 1) in
      sym (ap (λ r. nine_onto ps (r >>= λ x. history_parts_of (after + 1) (parts_left 32 after line) >>= λ xs. Ok (x ∷ xs))) e)
      ∙ sym (ap (nine_onto ps) (parts_step place line within))
      ∙ same
