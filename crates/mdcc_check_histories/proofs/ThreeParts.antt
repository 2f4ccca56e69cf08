-- An identifier's three parts.
use Rattle.std.proofs.Common.{ℕ, ◌+◌, ◌≤◌, ◌<◌, List, [], ◌∷◌, length, cond, ◌≡◌, sym, ap, ◌∙◌, arith}
use Rattle.std.proofs.lemmas.Bool.{lt-leb}
use Rattle.mdcc_def_language.specs.declared.schedule.SchedCause.TheVariants.{Number}
use Rattle.mdcc_def_language.specs.Words.{part_at, part_end, parts_from, refused}
use Rattle.mdcc_sched_words.proofs.Parts.{parts_first, parts_left, parts_whole}
use Rattle.mdcc_check_histories.specs.Grammar.{tx_in, tx_of}

-- the last part
parts_last : (separator at : ℕ) (text : List ℕ) → at ≤ length text → length text ≤ part_end separator at text → parts_left separator at text ≡ part_at separator at text ∷ []
parts_last separator at text h e =
    let len : ℕ = length (part_at separator at text) in
    parts_first separator at text h
    ∙ ap (λ b. part_at separator at text ∷ cond b (parts_from separator (at + (len + 1)) text) []) (lt-leb (at + (len + 1)) (length text) (omega (arith, e)))

-- a part with others behind it
parts_more : (separator at : ℕ) (text : List ℕ) → at ≤ length text → parts_left separator at text ≡ part_at separator at text ∷ parts_left separator (part_end separator at text + 1) text
parts_more separator at text h =
    let len : ℕ = length (part_at separator at text) in
    let place : at + (len + 1) ≡ at + len + 1 = omega arith in
    parts_first separator at text h ∙ ap (λ n. part_at separator at text ∷ parts_left separator n text) place

module _ (word : List ℕ) (column : ℕ) where
  all_parts : parts_from 46 0 word ≡ parts_left 46 0 word
  all_parts = sym (parts_whole 46 0 word (omega arith))

  pub one_part : length word ≤ part_end 46 0 word → tx_of word column ≡ refused column Number
  one_part e = ap (tx_in column) (all_parts ∙ parts_last 46 0 word (omega arith) e)

  module _ (first : ℕ) (first_is : first ≡ part_end 46 0 word) (more : first < length word) where
    from_second : parts_left 46 0 word ≡ part_at 46 0 word ∷ parts_left 46 (first + 1) word
    from_second = parts_more 46 0 word (omega arith) ∙ ap (λ n. part_at 46 0 word ∷ parts_left 46 (n + 1) word) (sym first_is)

    pub two_parts : length word ≤ part_end 46 (first + 1) word → tx_of word column ≡ refused column Number
    two_parts e = ap (tx_in column) (all_parts ∙ from_second ∙ ap (λ ps. part_at 46 0 word ∷ ps) (parts_last 46 (first + 1) word (omega (arith, more)) e))

    module _ (second : ℕ) (second_is : second ≡ part_end 46 (first + 1) word) (still : second < length word) where
      from_third : parts_left 46 0 word ≡ part_at 46 0 word ∷ part_at 46 (first + 1) word ∷ parts_left 46 (second + 1) word
      from_third =
          from_second
          ∙ ap (λ ps. part_at 46 0 word ∷ ps) (parts_more 46 (first + 1) word (omega (arith, more)) ∙ ap (λ n. part_at 46 (first + 1) word ∷ parts_left 46 (n + 1) word) (sym second_is))

      pub four_parts : part_end 46 (second + 1) word < length word → tx_of word column ≡ refused column Number
      four_parts e =
          ap (tx_in column)
          (all_parts ∙ from_third ∙ ap (λ ps. part_at 46 0 word ∷ part_at 46 (first + 1) word ∷ ps)
          (parts_more 46 (second + 1) word (omega (arith, still)) ∙ ap (λ ps. part_at 46 (second + 1) word ∷ ps) (parts_first 46 (part_end 46 (second + 1) word + 1) word (omega (arith, e)))))

      pub three_parts : length word ≤ part_end 46 (second + 1) word
          → tx_of word column ≡ tx_in column (part_at 46 0 word ∷ part_at 46 (first + 1) word ∷ part_at 46 (second + 1) word ∷ [])
      three_parts e =
          ap (tx_in column) (all_parts ∙ from_third ∙ ap (λ ps. part_at 46 0 word ∷ part_at 46 (first + 1) word ∷ ps) (parts_last 46 (second + 1) word (omega (arith, still)) e))
