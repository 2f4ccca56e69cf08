-- A list of words, one after another.
use Rattle.std.proofs.Common.{ℕ, ◌+◌, ◌≤◌, Bool, true, false, List, [], ◌∷◌, ◌++◌, length, ◌≡◌, refl, sym, ap, ◌∙◌, arith, Result, Ok, Err}
use Rattle.std.specs.Bool.{OnFalse}
use Rattle.mdcc_option.specs.declared.cluster.Cluster.{Cluster}
use Rattle.mdcc_def_language.specs.declared.schedule.SchedFault.{SchedFault}
use Rattle.mdcc_def_language.specs.Schedule.{parse_centre, above, numbers_from, updates_from, centres_from}
use Rattle.mdcc_def_language.specs.Updates.{update_of}
use Rattle.mdcc_def_language.specs.Words.{◌>>=◌, part_at, not_empty, count_of}
use Rattle.mdcc_sched.specs.Centres.{centre_above}
use Rattle.mdcc_sched.specs.Numbers.{number_of_word}
use Rattle.mdcc_sched_words.proofs.Onto.{onto, onto_more}
use Rattle.mdcc_sched_words.proofs.Parts.{parts_left, parts_first}

pub on_false : {P : Type 0} (b : Bool) → P → OnFalse b P
on_false true p = tt
on_false false p = p

-- a list is read word by word: what one word gives, and what is known behind it
module _ {S A : Type 0} (all : S → ℕ → List (List ℕ) → Result (List A) SchedFault) (one : S → ℕ → List ℕ → Result A SchedFault) (next : S → A → S)
    (law : (s : S) (column : ℕ) (word : List ℕ) (words : List (List ℕ)) → all s column (word ∷ words) ≡ (one s column word >>= λ x. all (next s x) (column + length word + 1) words >>= λ xs. Ok (x ∷ xs))) where
  step : (s : S) (place : ℕ) (line : List ℕ) → place ≤ length line
      → all s (place + 1) (parts_left 32 place line)
      ≡ (one s (place + 1) (part_at 32 place line) >>= λ x. all (next s x) (place + (length (part_at 32 place line) + 1) + 1) (parts_left 32 (place + (length (part_at 32 place line) + 1)) line) >>= λ xs. Ok (x ∷ xs))
  step s place line h =
      let word : List ℕ = part_at 32 place line in
      let rest : List (List ℕ) = parts_left 32 (place + (length word + 1)) line in
      let column : place + 1 + length word + 1 ≡ place + (length word + 1) + 1 = omega arith in
      ap (all s (place + 1)) (parts_first 32 place line h)
      ∙ law s (place + 1) word rest
      ∙ ap (λ column. one s (place + 1) word >>= λ x. all (next s x) column rest >>= λ xs. Ok (x ∷ xs)) column

  module _ (whole : Result (List A) SchedFault) (xs : List A) (s : S) (place : ℕ) (line : List ℕ) (within : place ≤ length line)
      (same : onto xs (all s (place + 1) (parts_left 32 place line)) ≡ whole) where
    pub word_read : (x : A) → one s (place + 1) (part_at 32 place line) ≡ Ok x
        → onto (xs ++ x ∷ []) (all (next s x) (place + (length (part_at 32 place line) + 1) + 1) (parts_left 32 (place + (length (part_at 32 place line) + 1)) line)) ≡ whole
    word_read x e =
        let after : ℕ = place + (length (part_at 32 place line) + 1) in
        onto_more xs x (all (next s x) (after + 1) (parts_left 32 after line))
        ∙ sym (ap (λ r. onto xs (r >>= λ x. all (next s x) (after + 1) (parts_left 32 after line) >>= λ xs. Ok (x ∷ xs))) e)
        ∙ sym (ap (onto xs) (step s place line within))
        ∙ same

    pub word_refused : (fault : SchedFault) → one s (place + 1) (part_at 32 place line) ≡ Err fault → Err fault ≡ whole
    word_refused fault e =
        let after : ℕ = place + (length (part_at 32 place line) + 1) in
        sym (ap (λ r. onto xs (r >>= λ x. all (next s x) (after + 1) (parts_left 32 after line) >>= λ xs. Ok (x ∷ xs))) e)
        ∙ sym (ap (onto xs) (step s place line within))
        ∙ same

-- ---- the three lists

bind_assoc : {A B C : Type 0} (r : Result A SchedFault) (f : A → Result B SchedFault) (g : B → Result C SchedFault) → (r >>= λ x. f x >>= g) ≡ ((r >>= f) >>= g)
bind_assoc (Ok x) f g = refl
bind_assoc (Err fault) f g = refl

pub number_law : (s : Unit {0}) (column : ℕ) (word : List ℕ) (words : List (List ℕ))
    → numbers_from column (word ∷ words) ≡ (number_of_word column word >>= λ number. numbers_from (column + length word + 1) words >>= λ numbers. Ok (number ∷ numbers))
number_law s column word words =
    bind_assoc (not_empty word column) (λ _. count_of word column) (λ number. numbers_from (column + length word + 1) words >>= λ numbers. Ok (number ∷ numbers))

pub update_law : (s : Unit {0}) (column : ℕ) (word : List ℕ) (words : List (List ℕ))
    → updates_from column (word ∷ words) ≡ (update_of word column >>= λ update. updates_from (column + length word + 1) words >>= λ updates. Ok (update ∷ updates))
update_law s column word words = refl

kept : {A B C : Type 0} (x : A) (c : Result B SchedFault) (g : A → Result C SchedFault) → (c >>= λ _. g x) ≡ ((c >>= λ _. Ok x) >>= g)
kept x (Ok y) g = refl
kept x (Err fault) g = refl

tested : {A B C D : Type 0} (a : Result B SchedFault) (b : Result A SchedFault) (c : A → Result D SchedFault) (g : A → Result C SchedFault)
    → (a >>= λ _. b >>= λ x. c x >>= λ _. g x) ≡ ((a >>= λ _. b >>= λ x. c x >>= λ _. Ok x) >>= g)
tested (Err fault) b c g = refl
tested (Ok y) (Err fault) c g = refl
tested (Ok y) (Ok x) c g = kept x (c x) g

pub centre_law : (cluster : Cluster) (last column : ℕ) (word : List ℕ) (words : List (List ℕ))
    → centres_from cluster last column (word ∷ words) ≡ (centre_above cluster last column word >>= λ centre. centres_from cluster centre (column + length word + 1) words >>= λ centres. Ok (centre ∷ centres))
centre_law cluster last column word words =
    tested (not_empty word column) (parse_centre cluster word column) (λ centre. above last centre column) (λ centre. centres_from cluster centre (column + length word + 1) words >>= λ centres. Ok (centre ∷ centres))
