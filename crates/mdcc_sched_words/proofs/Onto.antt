-- What was read so far, before what the rest gives.
use Rattle.std.proofs.Common.{ℕ, List, [], ◌∷◌, ◌++◌, Option, Some, None, Result, Ok, Err, ◌≡◌, refl, ap, append_assoc}
use Rattle.mdcc_def_language.specs.Words.{◌>>=◌, onto_bytes}

abbrev pub onto : {A E : Type 0} → List A → Result (List A) E → Result (List A) E
onto xs (Ok ys) = Ok (xs ++ ys)
onto xs (Err fault) = Err fault

abbrev pub onto_some : List ℕ → Option (List ℕ) → Option (List ℕ)
onto_some xs (Some ys) = Some (xs ++ ys)
onto_some xs None = None

-- one more is read
pub onto_more : {A E : Type 0} (xs : List A) (x : A) (rest : Result (List A) E) → onto (xs ++ x ∷ []) rest ≡ onto xs (rest >>= λ ys. Ok (x ∷ ys))
onto_more {E = E} xs x (Ok ys) = ap (λ zs. let r : Result _ E = Ok zs in r) (append_assoc xs (x ∷ []) ys)
onto_more xs x (Err fault) = refl

pub onto_some_more : (xs : List ℕ) (x : ℕ) (rest : Option (List ℕ)) → onto_some (xs ++ x ∷ []) rest ≡ onto_some xs (onto_bytes (Some x) rest)
onto_some_more xs x (Some ys) = ap (λ zs. Some zs) (append_assoc xs (x ∷ []) ys)
onto_some_more xs x None = refl

pub onto_none : {A E : Type 0} (rest : Result (List A) E) → onto [] rest ≡ rest
onto_none (Ok ys) = refl
onto_none (Err fault) = refl
