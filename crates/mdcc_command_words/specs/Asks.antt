-- The words of a question.
use Rattle.std.specs.List.{list_all, prefix_len}
use Rattle.std.specs.Option.{option_map_or}
use Rattle.std.specs.Prelude.{Bool, List, None, Option, Some, [], codes, drop, if◌then◌else◌, length, nat_le, option_and_then, option_map, take, true, ℕ, ◌&&◌, ◌+◌, ◌-◌, ◌<◌, ◌^◌, ◌∷◌, ◌≡◌, ◌≤◌}
use Rattle.std.specs.Result.{result_ok}
use Rattle.mdcc_command_words.specs.declared.question.Question.{Question}
use Rattle.mdcc_def_language.specs.Resolve.{read_named}
use Rattle.mdcc_def_language.specs.Updates.{update_of}
use Rattle.mdcc_def_language.specs.Words.{key_of, text_eq}
use Rattle.mdcc_def_language.specs.declared.events.UpdateWord.{UpdateWord}

-- it begins with `read:`
abbrev pub is_read : List ℕ → Bool
is_read word = text_eq (take 5 word) (codes "read:")

-- the key after it
abbrev pub key_in : List ℕ → Option (List ℕ)
key_in word = result_ok (key_of (drop 5 word) 1)

-- it names one of so many reads, or none
abbrev pub names_read : ℕ → UpdateWord → Bool
names_read reads update = option_map_or (λ number. nat_le 1 number && nat_le number reads) (read_named update) true

abbrev pub if_read : ℕ → UpdateWord → Option UpdateWord
if_read reads update = if names_read reads update then Some update else None

-- an update of a schedule that names one of so many reads, or none
abbrev pub update_in : ℕ → List ℕ → Option UpdateWord
update_in reads word = option_and_then (if_read reads) (result_ok (update_of word 1))

-- what each word is
abbrev pub each : {A : Type 0} → (List ℕ → Option A) → List (List ℕ) → Option (List A)
each read [] = Some []
each read (word ∷ words) = option_and_then (λ x. option_map (λ xs. x ∷ xs) (each read words)) (read word)

abbrev pub question_of : ℕ → ℕ → ℕ → Option (List (List ℕ)) → Option (List UpdateWord) → Option Question
question_of centre turns serial (Some keys) (Some updates) = Some (record { centre = centre; turns = turns; serial = serial; keys = keys; updates = updates })
question_of centre turns serial keys updates = None

-- reads first, so many of them, and then updates that name these
abbrev pub question_after : ℕ → ℕ → ℕ → ℕ → List (List ℕ) → Option Question
question_after centre turns serial reads words =
    question_of centre turns serial (each key_in (take reads words)) (each (update_in reads) (drop reads words))

abbrev pub question_in : ℕ → ℕ → ℕ → List (List ℕ) → Option Question
question_in centre turns serial words = question_after centre turns serial (prefix_len is_read words) words

-- the turns can be counted, there are at most sixteen words, and each read that is named is one of the question
pub record IsQuestion (question : Question) : Type 0 where
  pub turns : question.turns < 2 ^ 32 - 1
  pub few : length question.keys + length question.updates ≤ 16
  pub named : list_all (names_read (length question.keys)) question.updates ≡ true
