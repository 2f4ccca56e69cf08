-- Lists of amounts as texts.
use Rattle.std.proofs.Common.{ℕ, ℤ, List, [], ◌∷◌, ◌++◌, map, ◌≡◌, sym, ap, append-nil}
use Rattle.std.specs.List.{join_with_byte}
use Rattle.mdcc_sched_words.specs.Spelled.{amount_text}
use Rattle.mdcc_check_print.specs.Text.{amounts_text}
use Rattle.mdcc_check_print.specs.Writing.{more_amounts_text}

joined : (text : List ℕ) (amounts : List (ℕ × ℤ)) → join_with_byte 44 (text ∷ map amount_text amounts) ≡ text ++ more_amounts_text amounts
joined text [] = sym (append-nil text)
joined text (amount ∷ amounts) = ap (λ rest. text ++ 44 ∷ rest) (joined (amount_text amount) amounts)

pub amounts_first : (amount : ℕ × ℤ) (amounts : List (ℕ × ℤ)) → amounts_text (amount ∷ amounts) ≡ amount_text amount ++ more_amounts_text amounts
amounts_first amount amounts = joined (amount_text amount) amounts
