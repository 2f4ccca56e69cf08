-- A list of values, one part after another.
use Rattle.std.proofs.Common.{ℕ, suc, ◌+◌, ◌-◌, ◌≤◌, ◌<◌, ◌++◌, length-append, List, [], ◌∷◌, length, ◌≡◌, sym, ap, ◌∙◌, arith, Result, Ok, Err, ℤ}
use Rattle.mdcc_def_language.specs.declared.schedule.SchedFault.{SchedFault}
use Rattle.mdcc_def_language.specs.declared.schedule.SchedCause.TheVariants.{Range}
use Rattle.mdcc_def_language.specs.Words.{refused, ◌>>=◌, part_at, value_of, values_from}
use Rattle.mdcc_sched_words.proofs.Onto.{onto, onto_more}
use Rattle.mdcc_sched_words.proofs.Parts.{parts_left, parts_first}

-- the parts that are left give the first value and those of the rest
values_step : (left at column : ℕ) (text : List ℕ) → at ≤ length text
    → values_from (suc left) (at + column) (parts_left 44 at text)
    ≡ (value_of (part_at 44 at text) (at + column) >>= λ value. values_from left (at + (length (part_at 44 at text) + 1) + column) (parts_left 44 (at + (length (part_at 44 at text) + 1)) text) >>= λ values. Ok (value ∷ values))
values_step left at column text h =
    let len : ℕ = length (part_at 44 at text) in
    let rest : List (List ℕ) = parts_left 44 (at + (len + 1)) text in
    let place : at + column + len + 1 ≡ at + (len + 1) + column = omega arith in
    ap (values_from (suc left) (at + column)) (parts_first 44 at text h)
    ∙ ap (λ next. value_of (part_at 44 at text) (at + column) >>= λ value. values_from left next rest >>= λ values. Ok (value ∷ values)) place

module _ (whole : Result (List ℤ) SchedFault) (values : List ℤ) (at column : ℕ) (text : List ℕ) (within : at ≤ length text)
    (same : onto values (values_from (4 - length values) (at + column) (parts_left 44 at text)) ≡ whole) where
  -- a value is read, and the rest is left
  pub value_read : (value : ℤ) → length values < 4 → value_of (part_at 44 at text) (at + column) ≡ Ok value
      → onto (values ++ value ∷ []) (values_from (4 - length (values ++ value ∷ [])) (at + (length (part_at 44 at text) + 1) + column) (parts_left 44 (at + (length (part_at 44 at text) + 1)) text)) ≡ whole
  value_read value few e =
      let len : ℕ = length (part_at 44 at text) in
      let left : 4 - length values ≡ suc (4 - length (values ++ value ∷ [])) = omega (arith, length-append values (value ∷ [])) in
      let after : ℕ = 4 - length (values ++ value ∷ []) in
      let rest : Result (List ℤ) SchedFault = values_from after (at + (len + 1) + column) (parts_left 44 (at + (len + 1)) text) in
      onto_more values value rest
      ∙ ap (onto values) (sym (ap (λ r. r >>= λ v. rest >>= λ vs. Ok (v ∷ vs)) e))
      ∙ ap (onto values) (sym (values_step after at column text within))
      ∙ ap (λ n. onto values (values_from n (at + column) (parts_left 44 at text))) (sym left)
      ∙ same

  -- a part is no value
  pub value_refused : (fault : SchedFault) → length values < 4 → value_of (part_at 44 at text) (at + column) ≡ Err fault → Err fault ≡ whole
  value_refused fault few e =
      let left : 4 - length values ≡ suc (3 - length values) = omega arith in
      sym (ap (λ r. onto values (r >>= λ v. values_from (3 - length values) (at + (length (part_at 44 at text) + 1) + column) (parts_left 44 (at + (length (part_at 44 at text) + 1)) text) >>= λ vs. Ok (v ∷ vs))) e)
      ∙ ap (onto values) (sym (values_step (3 - length values) at column text within))
      ∙ ap (λ n. onto values (values_from n (at + column) (parts_left 44 at text))) (sym left)
      ∙ same

  -- a fifth value
  pub value_too_many : length values ≡ 4 → refused (at + column) Range ≡ whole
  value_too_many full =
      let none : 4 - length values ≡ 0 = omega arith in
      sym (ap (λ parts. onto values (values_from 0 (at + column) parts)) (parts_first 44 at text within))
      ∙ ap (λ n. onto values (values_from n (at + column) (parts_left 44 at text))) (sym none)
      ∙ same
