-- A text that was read is its parts, one behind the other.
use Rattle.std.proofs.Common.{◌≡◌, ℕ, zero, suc, ◌+◌, ◌==◌, Bool, true, false, cond, List, [], ◌∷◌, ◌++◌, length, take, drop, Result, Ok, Err, refl, sym, ap, ◌∙◌, arith, drop-drop, slice_get, zero-add}
use Rattle.std.proofs.lemmas.Bool.{eqb-true}
use Rattle.mdcc_def_language.specs.declared.schedule.SchedFault.{SchedFault}
use Rattle.mdcc_def_language.specs.declared.schedule.SchedCause.{SchedCause}
use Rattle.mdcc_def_language.specs.declared.schedule.SchedCause.TheVariants.{Word}
use Rattle.mdcc_def_language.specs.Words.{◌>>=◌, refused, part_len, part_at, part_end, is_separator, start_after, end_at}

pub bind_ok : {A B : Type 0} (r : Result A SchedFault) (f : A → Result B SchedFault) (y : B) → (r >>= f) ≡ Ok y → (x : A) × (r ≡ Ok x) × (f x ≡ Ok y)
bind_ok (Ok x) f y e = (x, refl, e)
bind_ok (Err fault) f y e = absurd (cc)

pub guard_ok : {A : Type 0} (b : Bool) (r : Result A SchedFault) (column : ℕ) (cause : SchedCause) (y : A) → cond b r (refused column cause) ≡ Ok y → (b ≡ true) × (r ≡ Ok y)
guard_ok true r column cause y e = (refl, e)
guard_ok false r column cause y e = absurd (cc)

pub seam : (n : ℕ) (xs : List ℕ) → take n xs ++ drop (length (take n xs)) xs ≡ xs
seam zero xs = refl
seam (suc n) [] = refl
seam (suc n) (x ∷ xs) = ap (λ ys. x ∷ ys) (seam n xs)

-- a part, and what stands behind it
pub part_seam : (separator at : ℕ) (text : List ℕ) → drop at text ≡ part_at separator at text ++ drop (part_end separator at text) text
part_seam separator at text =
    let part : List ℕ = part_at separator at text in
    sym (ap (λ rest. part ++ rest) (sym (drop-drop (length part) at text)) ∙ seam (part_len separator (drop at text)) (drop at text))

-- the first part, and what stands behind it
pub front_seam : (separator : ℕ) (text : List ℕ) → text ≡ part_at separator 0 text ++ drop (length (part_at separator 0 text)) text
front_seam separator text =
    let part : List ℕ = part_at separator 0 text in
    part_seam separator 0 text ∙ ap (λ n. part ++ drop n text) (zero-add (length part))

separator_drop : (separator at : ℕ) (text : List ℕ) → is_separator separator (slice_get text at) ≡ true → drop at text ≡ separator ∷ drop (suc at) text
separator_drop separator zero [] e = absurd (cc)
separator_drop separator (suc at) [] e = absurd (cc)
separator_drop separator zero (b ∷ bs) e = ap (λ x. x ∷ bs) (eqb-true b separator e)
separator_drop separator (suc at) (b ∷ bs) e = separator_drop separator at bs e

pub behind_ok : (separator at : ℕ) (text : List ℕ) (column next : ℕ) → start_after separator at text column ≡ Ok next → drop at text ≡ separator ∷ drop next text
behind_ok separator at text column next e =
    let first = guard_ok (is_separator separator (slice_get text at)) _ (column + at) Word next e in
    let place : suc at ≡ next = (let same : at + 1 ≡ next = cc (first.1) in omega arith) in
    rw (← place) (separator_drop separator at text first.0)

pub drop_all : (text : List ℕ) → drop (length text) text ≡ []
drop_all [] = refl
drop_all (b ∷ bs) = drop_all bs

pub end_ok : (at : ℕ) (text : List ℕ) (column : ℕ) (y : Unit {0}) → end_at at text column ≡ Ok y → drop at text ≡ []
end_ok at text column y e =
    let first = guard_ok (at == length text) _ (column + at + 1) Word y e in
    let place : at ≡ length text = eqb-true at (length text) first.0 in
    rw place (drop_all text)
