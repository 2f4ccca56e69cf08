-- What each word is, one after another.
use Rattle.std.proofs.Common.{◌≡◌, ◌&&◌, ◌+◌, ◌-◌, ◌<◌, ◌≤◌, ◌^◌, ◌++◌, ◌∷◌, ◌∙◌, [], Bool, List, None, Option, Some, ap, append_assoc, arith, cond, false, is_some, length, map, option_map, refl, subst, sym, true, ℕ}
use Rattle.std.specs.List.{list_all, prefix_len}
use Rattle.std.specs.Prelude.{option_and_then}
use Rattle.std.specs.Result.{result_ok}
use Rattle.mdcc_def_language.specs.Updates.{update_of}
use Rattle.mdcc_def_language.specs.declared.events.UpdateWord.{UpdateWord}
use Rattle.mdcc_command_words.specs.declared.question.Question.{Question}
use Rattle.mdcc_command_words.specs.Asks.{IsQuestion, each, if_read, key_in, names_read, update_in}

-- these first
abbrev pub behind : {A : Type 0} → List A → Option (List A) → Option (List A)
behind xs = option_map (λ ys. xs ++ ys)

pub behind_none : {A : Type 0} (o : Option (List A)) → behind [] o ≡ o
behind_none None = refl
behind_none (Some xs) = refl

pub each_more : {A : Type 0} (read : List ℕ → Option A) (xs : List A) (word : List ℕ) (x : A) (words : List (List ℕ)) → read word ≡ Some x
    → behind xs (each read (word ∷ words)) ≡ behind (xs ++ x ∷ []) (each read words)
each_more {A} read xs word x words e =
    ap (λ o. behind xs (option_and_then (λ y. option_map (λ ys. y ∷ ys) (each read words)) o)) e ∙ by (each read words)
  where
    by : (o : Option (List A)) → behind xs (option_map (λ ys. x ∷ ys) o) ≡ behind (xs ++ x ∷ []) o
    by None = refl
    by (Some ys) = ap (λ (zs : List A). Some zs) (sym (append_assoc xs (x ∷ []) ys))

pub each_stops : {A : Type 0} (read : List ℕ → Option A) (xs : List A) (word : List ℕ) (words : List (List ℕ)) → read word ≡ None
    → behind xs (each read (word ∷ words)) ≡ None
each_stops read xs word words e = ap (λ o. behind xs (option_and_then (λ y. option_map (λ ys. y ∷ ys) (each read words)) o)) e

pub all_are : {A B : Type 0} (f : A → List ℕ) (read : List ℕ → Option B) (xs : List A)
    → is_some (each read (map f xs)) ≡ list_all (λ x. is_some (read (f x))) xs
all_are f read [] = refl
all_are {A} {B} f read (x ∷ xs) = by (read (f x)) (each read (map f xs)) (all_are f read xs)
  where
    by : (o : Option B) (rest : Option (List B)) → is_some rest ≡ list_all (λ x. is_some (read (f x))) xs
        → is_some (option_and_then (λ y. option_map (λ ys. y ∷ ys) rest) o) ≡ (is_some o && list_all (λ x. is_some (read (f x))) xs)
    by None rest h = refl
    by (Some y) None h = h
    by (Some y) (Some ys) h = h

pub each_length : {A : Type 0} (read : List ℕ → Option A) (words : List (List ℕ)) (xs : List A) → each read words ≡ Some xs → length xs ≡ length words
each_length read [] [] e = refl
each_length read [] (x ∷ xs) e = absurd (cc)
each_length {A} read (word ∷ words) xs e = by (read word) (each read words) xs (each_length read words) e
  where
    by : (o : Option A) (rest : Option (List A)) (xs : List A) → ((ys : List A) → rest ≡ Some ys → length ys ≡ length words)
        → option_and_then (λ y. option_map (λ ys. y ∷ ys) rest) o ≡ Some xs → length xs ≡ length (word ∷ words)
    by None rest xs h k = absurd (cc)
    by (Some y) None xs h k = absurd (cc)
    by (Some y) (Some ys) [] h k = absurd (cc)
    by (Some y) (Some ys) (x ∷ xs) h k = let same : ys ≡ xs = cc in let more = h ys refl in let e : length ys ≡ length xs = ap length same in omega arith

-- each of the updates names one of the reads, or none
if_named : (reads : ℕ) (update : UpdateWord) (x : UpdateWord) → if_read reads update ≡ Some x → names_read reads x ≡ true
if_named reads update x e = by (names_read reads update) refl e
  where
    by : (b : Bool) → names_read reads update ≡ b → cond b (Some update) None ≡ Some x → names_read reads x ≡ true
    by true h k = let same : update ≡ x = cc in ap (names_read reads) (sym same) ∙ h
    by false h k = absurd (cc)

named_in : (reads : ℕ) (word : List ℕ) (x : UpdateWord) → update_in reads word ≡ Some x → names_read reads x ≡ true
named_in reads word x e = by (result_ok (update_of word 1)) e
  where
    by : (o : Option UpdateWord) → option_and_then (if_read reads) o ≡ Some x → names_read reads x ≡ true
    by None k = absurd (cc)
    by (Some update) k = if_named reads update x k

pub each_named : (reads : ℕ) (words : List (List ℕ)) (xs : List UpdateWord) → each (update_in reads) words ≡ Some xs → list_all (names_read reads) xs ≡ true
each_named reads [] [] e = refl
each_named reads [] (x ∷ xs) e = absurd (cc)
each_named reads (word ∷ words) xs e = by (update_in reads word) (each (update_in reads) words) xs (named_in reads word) (each_named reads words) e
  where
    by : (o : Option UpdateWord) (rest : Option (List UpdateWord)) (xs : List UpdateWord) → ((x : UpdateWord) → o ≡ Some x → names_read reads x ≡ true)
        → ((ys : List UpdateWord) → rest ≡ Some ys → list_all (names_read reads) ys ≡ true)
        → option_and_then (λ y. option_map (λ ys. y ∷ ys) rest) o ≡ Some xs → list_all (names_read reads) xs ≡ true
    by None rest xs g h k = absurd (cc)
    by (Some y) None xs g h k = absurd (cc)
    by (Some y) (Some ys) [] g h k = absurd (cc)
    by (Some y) (Some ys) (x ∷ xs) g h k =
        let first : y ≡ x = cc in let rest : ys ≡ xs = cc in
        let a : names_read reads x ≡ true = g x (ap (λ (u : UpdateWord). Some u) first) in
        let b : list_all (names_read reads) xs ≡ true = h xs (ap (λ (us : List UpdateWord). Some us) rest) in
        rw (a, b) refl

-- how many words pass a test before the first that does not
pub prefix_more : {A : Type 0} (f : A → List ℕ) (p : List ℕ → Bool) (n : ℕ) (x : A) (xs : List A) → p (f x) ≡ true
    → n + prefix_len p (map f (x ∷ xs)) ≡ (n + 1) + prefix_len p (map f xs)
prefix_more f p n x xs e = by (p (f x)) e
  where
    by : (b : Bool) → b ≡ true → n + cond b (1 + prefix_len p (map f xs)) 0 ≡ (n + 1) + prefix_len p (map f xs)
    by true h = omega arith
    by false h = absurd (cc)

pub prefix_stops : {A : Type 0} (f : A → List ℕ) (p : List ℕ → Bool) (x : A) (xs : List A) → p (f x) ≡ false → prefix_len p (map f (x ∷ xs)) ≡ 0
prefix_stops f p x xs e = rw e refl

-- a question of these keys and updates is one
pub are_asked : (question : Question) (asked begun : List (List ℕ)) → question.turns < 2 ^ 32 - 1 → length asked + length begun ≤ 16
    → each key_in asked ≡ Some question.keys → each (update_in (length asked)) begun ≡ Some question.updates → IsQuestion question
are_asked question asked begun turns few k u =
    let keys = each_length key_in asked question.keys k in
    let updates = each_length (update_in (length asked)) begun question.updates u in
    record {
      turns = turns;
      few = omega arith;
      named = subst (λ (n : ℕ). list_all (names_read n) question.updates ≡ true) (sym keys) (each_named (length asked) begun question.updates u);
    }
