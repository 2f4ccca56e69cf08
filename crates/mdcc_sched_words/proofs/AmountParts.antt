-- A list of amounts, one part after another.
use Rattle.std.proofs.Common.{ℕ, suc, ◌+◌, ◌-◌, ◌≤◌, ◌<◌, ◌++◌, length-append, List, [], ◌∷◌, length, ◌≡◌, sym, ap, ◌∙◌, arith, Result, Ok, Err, ℤ}
use Rattle.mdcc_def_language.specs.declared.schedule.SchedFault.{SchedFault}
use Rattle.mdcc_def_language.specs.declared.schedule.SchedCause.TheVariants.{Range}
use Rattle.mdcc_def_language.specs.Updates.{parse_amount, amounts_from}
use Rattle.mdcc_def_language.specs.Words.{refused, ◌>>=◌, part_at}
use Rattle.mdcc_sched_words.proofs.Onto.{onto, onto_more}
use Rattle.mdcc_sched_words.proofs.Parts.{parts_left, parts_first}

-- the parts that are left give the first amount and those of the rest
amounts_step : (left at column : ℕ) (text : List ℕ) → at ≤ length text
    → amounts_from (suc left) (at + column) (parts_left 44 at text)
    ≡ (parse_amount (part_at 44 at text) (at + column) >>= λ amount. amounts_from left (at + (length (part_at 44 at text) + 1) + column) (parts_left 44 (at + (length (part_at 44 at text) + 1)) text) >>= λ amounts. Ok (amount ∷ amounts))
amounts_step left at column text h =
    let len : ℕ = length (part_at 44 at text) in
    let rest : List (List ℕ) = parts_left 44 (at + (len + 1)) text in
    let place : at + column + len + 1 ≡ at + (len + 1) + column = omega arith in
    ap (amounts_from (suc left) (at + column)) (parts_first 44 at text h)
    ∙ ap (λ next. parse_amount (part_at 44 at text) (at + column) >>= λ amount. amounts_from left next rest >>= λ amounts. Ok (amount ∷ amounts)) place

module _ (whole : Result (List (ℕ × ℤ)) SchedFault) (amounts : List (ℕ × ℤ)) (at column : ℕ) (text : List ℕ) (within : at ≤ length text)
    (same : onto amounts (amounts_from (4 - length amounts) (at + column) (parts_left 44 at text)) ≡ whole) where
  -- an amount is read, and the rest is left
  pub amount_read : (amount : ℕ × ℤ) → length amounts < 4 → parse_amount (part_at 44 at text) (at + column) ≡ Ok amount
      → onto (amounts ++ amount ∷ []) (amounts_from (4 - length (amounts ++ amount ∷ [])) (at + (length (part_at 44 at text) + 1) + column) (parts_left 44 (at + (length (part_at 44 at text) + 1)) text)) ≡ whole
  amount_read amount few e =
      let len : ℕ = length (part_at 44 at text) in
      let left : 4 - length amounts ≡ suc (4 - length (amounts ++ amount ∷ [])) = omega (arith, length-append amounts (amount ∷ [])) in
      let after : ℕ = 4 - length (amounts ++ amount ∷ []) in
      let rest : Result (List (ℕ × ℤ)) SchedFault = amounts_from after (at + (len + 1) + column) (parts_left 44 (at + (len + 1)) text) in
      onto_more amounts amount rest
      ∙ ap (onto amounts) (sym (ap (λ r. r >>= λ v. rest >>= λ vs. Ok (v ∷ vs)) e))
      ∙ ap (onto amounts) (sym (amounts_step after at column text within))
      ∙ ap (λ n. onto amounts (amounts_from n (at + column) (parts_left 44 at text))) (sym left)
      ∙ same

  -- a part is no amount
  pub amount_refused : (fault : SchedFault) → length amounts < 4 → parse_amount (part_at 44 at text) (at + column) ≡ Err fault → Err fault ≡ whole
  amount_refused fault few e =
      let left : 4 - length amounts ≡ suc (3 - length amounts) = omega arith in
      sym (ap (λ r. onto amounts (r >>= λ v. amounts_from (3 - length amounts) (at + (length (part_at 44 at text) + 1) + column) (parts_left 44 (at + (length (part_at 44 at text) + 1)) text) >>= λ vs. Ok (v ∷ vs))) e)
      ∙ ap (onto amounts) (sym (amounts_step (3 - length amounts) at column text within))
      ∙ ap (λ n. onto amounts (amounts_from n (at + column) (parts_left 44 at text))) (sym left)
      ∙ same

  -- a fifth amount
  pub amount_too_many : length amounts ≡ 4 → refused (at + column) Range ≡ whole
  amount_too_many full =
      let none : 4 - length amounts ≡ 0 = omega arith in
      sym (ap (λ parts. onto amounts (amounts_from 0 (at + column) parts)) (parts_first 44 at text within))
      ∙ ap (λ n. onto amounts (amounts_from n (at + column) (parts_left 44 at text))) (sym none)
      ∙ same
