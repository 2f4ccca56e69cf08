-- What is remembered with one mark more.
use Rattle.std.proofs.Common.{◌≡◌, ◌++◌, ◌∷◌, ◌<◌, ◌≤◌, ◌||◌, Bool, List, Some, [], ap, arith, false, length, option_map, refl, subst, suc, sym, take, true, zero, ℕ, slice_index_or, slice_set}
use Rattle.std.specs.List.{list_any}
use Rattle.std.specs.Prelude.{max, slice_get}
use Rattle.mdcc_def_protocol.specs.Floors.{is_of, with_floor_mark}
use Rattle.mdcc_def_protocol.specs.Volatile.{Marked}

mark_behind : (m : Marked) (told after : List Marked) (from centre epoch seq : ℕ) (b : Bool) (others : Bool) → is_of from centre epoch m ≡ b → (b || others) ≡ false
    → (others ≡ false → after ≡ with_floor_mark told from centre epoch seq) → m ∷ after ≡ with_floor_mark (m ∷ told) from centre epoch seq
mark_behind m told after from centre epoch seq true others e h rest = absurd (cc)
mark_behind m told after from centre epoch seq false others e h rest = rw e (ap (λ (z : List Marked). m ∷ z) (rest h))

pub none_remembered : (told : List Marked) (from centre epoch seq : ℕ) → list_any (is_of from centre epoch) told ≡ false
    → told ++ (record { from = from; centre = centre; epoch = epoch; seq = seq }) ∷ [] ≡ with_floor_mark told from centre epoch seq
none_remembered [] from centre epoch seq h = refl
none_remembered (m ∷ told) from centre epoch seq h =
    mark_behind m told (told ++ (record { from = from; centre = centre; epoch = epoch; seq = seq }) ∷ []) from centre epoch seq (is_of from centre epoch m) (list_any (is_of from centre epoch) told) refl h
    (λ k. none_remembered told from centre epoch seq k)

pub remembered : (told : List Marked) (from centre epoch seq place : ℕ) (mark : Marked) → place < length told → mark ≡ slice_index_or told place mark
    → list_any (is_of from centre epoch) (take place told) ≡ false → option_map (is_of from centre epoch) (slice_get told place) ≡ Some true
    → slice_set told place (record mark { seq = max mark.seq seq }) ≡ with_floor_mark told from centre epoch seq
remembered [] from centre epoch seq place mark l g h i = absurd (omega (arith, l))
remembered (m ∷ told) from centre epoch seq zero mark l g h i =
    let was : is_of from centre epoch m ≡ true = cc in
    subst (λ (z : Marked). record z { seq = max z.seq seq } ∷ told ≡ with_floor_mark (m ∷ told) from centre epoch seq) (sym g) (rw was refl)
remembered (m ∷ told) from centre epoch seq (suc place) mark l g h i =
    mark_behind m told (slice_set told place (record mark { seq = max mark.seq seq })) from centre epoch seq (is_of from centre epoch m) (list_any (is_of from centre epoch) (take place told)) refl h
    (λ k. remembered told from centre epoch seq place mark (omega (arith, l)) g k i)

taken : (xs : List Marked) (n : ℕ) → length xs ≤ n → take n xs ≡ xs
taken [] zero h = refl
taken [] (suc n) h = refl
taken (x ∷ xs) zero h = absurd (omega (arith, h))
taken (x ∷ xs) (suc n) h = ap (λ (z : List Marked). x ∷ z) (taken xs n (omega (arith, h)))

pub not_remembered : (told : List Marked) (from centre epoch seq place : ℕ) → length told ≤ place → list_any (is_of from centre epoch) (take place told) ≡ false
    → told ++ (record { from = from; centre = centre; epoch = epoch; seq = seq }) ∷ [] ≡ with_floor_mark told from centre epoch seq
not_remembered told from centre epoch seq place l h =
    none_remembered told from centre epoch seq (subst (λ (z : List Marked). list_any (is_of from centre epoch) z ≡ false) (taken told place l) h)
