-- What the words ask for, by how many there are.
use Rattle.std.proofs.Common.{◌≡◌, ◌<◌, List, [], ◌∷◌, None, drop, length, map, get_or, ℕ, refl, sym, ap, arith}
use Rattle.mdcc_command_words.specs.Commands.{ask_in, node_in, one_in, read_words, sample_in, two_in}

pub one_word : {A : Type 0} (f : A → List ℕ) (xs : List A) (a : A) → length xs ≡ 1 → a ≡ get_or xs 0 a → read_words (map f xs) ≡ one_in (f a)
one_word f [] a h e = absurd (omega arith)
one_word f (x ∷ []) a h e = ap (λ y. one_in (f y)) (sym e)
one_word f (x ∷ y ∷ xs) a h e = absurd (omega arith)

pub two_words : {A : Type 0} (f : A → List ℕ) (xs : List A) (a b : A) → length xs ≡ 2 → a ≡ get_or xs 0 a → b ≡ get_or xs 1 b
    → read_words (map f xs) ≡ two_in (f a) (f b)
two_words f [] a b h i j = absurd (omega arith)
two_words f (w ∷ []) a b h i j = absurd (omega arith)
two_words f (w ∷ x ∷ []) a b h i j = rw (i, j) refl
two_words f (v ∷ w ∷ x ∷ xs) a b h i j = absurd (omega arith)

pub three_words : {A : Type 0} (f : A → List ℕ) (xs : List A) (a b c : A) → length xs ≡ 3 → a ≡ get_or xs 0 a → b ≡ get_or xs 1 b → c ≡ get_or xs 2 c
    → read_words (map f xs) ≡ node_in (f a) (f b) (f c)
three_words f [] a b c h i j k = absurd (omega arith)
three_words f (w ∷ []) a b c h i j k = absurd (omega arith)
three_words f (w ∷ x ∷ []) a b c h i j k = absurd (omega arith)
three_words f (w ∷ x ∷ y ∷ []) a b c h i j k = rw (i, j, k) refl
three_words f (v ∷ w ∷ x ∷ y ∷ ys) a b c h i j k = absurd (omega arith)

pub four_words : {A : Type 0} (f : A → List ℕ) (xs : List A) (a b c d : A) → length xs ≡ 4 → a ≡ get_or xs 0 a → b ≡ get_or xs 1 b → c ≡ get_or xs 2 c → d ≡ get_or xs 3 d
    → read_words (map f xs) ≡ sample_in (f a) (f b) (f c) (f d)
four_words f [] a b c d h i j k l = absurd (omega arith)
four_words f (w ∷ []) a b c d h i j k l = absurd (omega arith)
four_words f (w ∷ x ∷ []) a b c d h i j k l = absurd (omega arith)
four_words f (w ∷ x ∷ y ∷ []) a b c d h i j k l = absurd (omega arith)
four_words f (w ∷ x ∷ y ∷ z ∷ []) a b c d h i j k l = rw (i, j, k, l) refl
four_words f (v ∷ w ∷ x ∷ y ∷ z ∷ zs) a b c d h i j k l = absurd (omega arith)

pub no_words : {A : Type 0} (f : A → List ℕ) (xs : List A) → length xs ≡ 0 → read_words (map f xs) ≡ None
no_words f [] h = refl
no_words f (w ∷ ws) h = absurd (omega arith)

pub many_words : {A : Type 0} (f : A → List ℕ) (xs : List A) (a b c d : A) → 4 < length xs → a ≡ get_or xs 0 a → b ≡ get_or xs 1 b → c ≡ get_or xs 2 c → d ≡ get_or xs 3 d
    → read_words (map f xs) ≡ ask_in (f a) (f b) (f c) (f d) (map f (drop 4 xs))
many_words f [] a b c d h i j k l = absurd (omega arith)
many_words f (w ∷ []) a b c d h i j k l = absurd (omega arith)
many_words f (w ∷ x ∷ []) a b c d h i j k l = absurd (omega arith)
many_words f (w ∷ x ∷ y ∷ []) a b c d h i j k l = absurd (omega arith)
many_words f (w ∷ x ∷ y ∷ z ∷ []) a b c d h i j k l = absurd (omega arith)
many_words f (v ∷ w ∷ x ∷ y ∷ z ∷ zs) a b c d h i j k l = rw (i, j, k, l) refl
