-- The words of a question, at most sixteen of them.
use Rattle.std.proofs.Common.{◌≡◌, ◌≤◌, List, Option, arith, codes, length, nat_le, refl, true, ℕ}
use Rattle.std.proofs.lemmas.Bool.Decides.{nat_tests}
use Rattle.mdcc_command_words.specs.Commands.{ask_by, ask_in, short_number_in, turns_in}
use Rattle.mdcc_def_language.specs.Words.{text_eq}

few_words : (n : ℕ) → n ≤ 16 → nat_le n 16 ≡ true
few_words n h = grind (arith, nat_tests)

pub is_ask : (word centre turns serial : List ℕ) (words : List (List ℕ)) (c t s : Option ℕ)
    → c ≡ short_number_in centre → t ≡ turns_in turns → s ≡ short_number_in serial
    → text_eq word (codes "ask") ≡ true → length words ≤ 16
    → ask_by c t s words ≡ ask_in word centre turns serial words
is_ask word centre turns serial words c t s ec et es named few = rw (named, few_words (length words) few, ec, et, es) refl
