-- A list of identifiers, one part after another.
use Rattle.std.proofs.Common.{ℕ, suc, ◌+◌, ◌-◌, ◌≤◌, ◌<◌, ◌++◌, length-append, List, [], ◌∷◌, length, ◌≡◌, sym, ap, ◌∙◌, arith, Option, Some, Result, Ok, Err}
use Rattle.mdcc_base.specs.declared.identifiers.TxId.{TxId}
use Rattle.mdcc_def_language.specs.declared.schedule.SchedFault.{SchedFault}
use Rattle.mdcc_def_language.specs.declared.schedule.SchedCause.TheVariants.{Range}
use Rattle.mdcc_def_language.specs.Words.{refused, ◌>>=◌, part_at}
use Rattle.mdcc_sched_words.proofs.Onto.{onto, onto_more}
use Rattle.mdcc_sched_words.proofs.Parts.{parts_left, parts_first}
use Rattle.mdcc_check_histories.specs.Grammar.{tx_above, txs_from}

-- the parts that are left give the first identifier and those of the rest
txs_step : (left : ℕ) (last : Option TxId) (at column : ℕ) (text : List ℕ) → at ≤ length text
    → txs_from (suc left) last (at + column) (parts_left 44 at text)
    ≡ (tx_above last (part_at 44 at text) (at + column) >>= λ tx. txs_from left (Some tx) (at + (length (part_at 44 at text) + 1) + column) (parts_left 44 (at + (length (part_at 44 at text) + 1)) text) >>= λ txs. Ok (tx ∷ txs))
txs_step left last at column text h =
    let len : ℕ = length (part_at 44 at text) in
    let rest : List (List ℕ) = parts_left 44 (at + (len + 1)) text in
    let place : at + column + len + 1 ≡ at + (len + 1) + column = omega arith in
    ap (txs_from (suc left) last (at + column)) (parts_first 44 at text h)
    ∙ ap (λ next. tx_above last (part_at 44 at text) (at + column) >>= λ tx. txs_from left (Some tx) next rest >>= λ txs. Ok (tx ∷ txs)) place

module _ (whole : Result (List TxId) SchedFault) (txs : List TxId) (last : Option TxId) (at column : ℕ) (text : List ℕ) (within : at ≤ length text)
    (same : onto txs (txs_from (64 - length txs) last (at + column) (parts_left 44 at text)) ≡ whole) where
  -- an identifier is read, and the rest is left
  pub tx_read : (tx : TxId) → length txs < 64 → tx_above last (part_at 44 at text) (at + column) ≡ Ok tx
      → onto (txs ++ tx ∷ []) (txs_from (64 - length (txs ++ tx ∷ [])) (Some tx) (at + (length (part_at 44 at text) + 1) + column) (parts_left 44 (at + (length (part_at 44 at text) + 1)) text)) ≡ whole
  tx_read tx few e =
      let len : ℕ = length (part_at 44 at text) in
      let left : 64 - length txs ≡ suc (64 - length (txs ++ tx ∷ [])) = omega (arith, length-append txs (tx ∷ [])) in
      let after : ℕ = 64 - length (txs ++ tx ∷ []) in
      let rest : Result (List TxId) SchedFault = txs_from after (Some tx) (at + (len + 1) + column) (parts_left 44 (at + (len + 1)) text) in
      onto_more txs tx rest
      ∙ ap (onto txs) (sym (ap (λ r. r >>= λ v. txs_from after (Some v) (at + (len + 1) + column) (parts_left 44 (at + (len + 1)) text) >>= λ vs. Ok (v ∷ vs)) e))
      ∙ ap (onto txs) (sym (txs_step after last at column text within))
      ∙ ap (λ n. onto txs (txs_from n last (at + column) (parts_left 44 at text))) (sym left)
      ∙ same

  -- a part is no identifier behind the last one
  pub tx_refused : (fault : SchedFault) → length txs < 64 → tx_above last (part_at 44 at text) (at + column) ≡ Err fault → Err fault ≡ whole
  tx_refused fault few e =
      let left : 64 - length txs ≡ suc (63 - length txs) = omega arith in
      sym (ap (λ r. onto txs (r >>= λ v. txs_from (63 - length txs) (Some v) (at + (length (part_at 44 at text) + 1) + column) (parts_left 44 (at + (length (part_at 44 at text) + 1)) text) >>= λ vs. Ok (v ∷ vs))) e)
      ∙ ap (onto txs) (sym (txs_step (63 - length txs) last at column text within))
      ∙ ap (λ n. onto txs (txs_from n last (at + column) (parts_left 44 at text))) (sym left)
      ∙ same

  -- one identifier too many
  pub tx_too_many : length txs ≡ 64 → refused (at + column) Range ≡ whole
  tx_too_many full =
      let none : 64 - length txs ≡ 0 = omega arith in
      sym (ap (λ parts. onto txs (txs_from 0 last (at + column) parts)) (parts_first 44 at text within))
      ∙ ap (λ n. onto txs (txs_from n last (at + column) (parts_left 44 at text))) (sym none)
      ∙ same
