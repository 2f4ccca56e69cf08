-- What walks by steps know at their end.
use Rattle.std.proofs.Common.{◌≡◌, ◌≤◌, ◌∷◌, ℕ, Bool, true, false, List, [], None, length, ap, sym, ◌∙◌, arith, refl, inl, inr}
use Rattle.std.specs.List.{fold}
use Rattle.std.specs.Prelude.{filter, nat_lt}
use Rattle.std.proofs.lemmas.Bool.{le-ltb, lt-ltb}
use Rattle.std.proofs.lemmas.List.{length-map}
use Rattle.mdcc_base.specs.declared.key.Key.{Key}
use Rattle.mdcc_struct.specs.Maps.{TxMap, txs_of}
use Rattle.mdcc_def_messages.specs.declared.facts.Fact.{Fact}
use Rattle.mdcc_def_protocol.specs.Facts.{current_of, deltas_at, executed_of}
use Rattle.mdcc_def_protocol.specs.Marks.{Amounts}
use Rattle.mdcc_theorem_fact_folds.specs.Held.{older_amounts, with_deltas}
use Rattle.mdcc_theorem_fact_folds.proofs.Present.{executed-join}
use Rattle.mdcc_cells_delta_walk.specs.Steps.{AmountsAreFolded, CrowdedByDeltas, ExecutedAreNoted, amounts_step, deltas_step, no_deltas}
use Rattle.mdcc_cells_delta_walk.specs.declared.steps.OlderAmounts.{OlderAmounts}
use Rattle.mdcc_cells_delta_walk.specs.declared.steps.WithDeltas.{WithDeltas}
use Rattle.mdcc_cells_delta_walk.proofs.Noted.{IsNoted, noted-facts}

amounts-folded : (s : OlderAmounts) (facts : List Fact) → (fold amounts_step s facts).found ≡ fold (older_amounts s.key s.version s.tx) s.found facts
amounts-folded s [] = refl
amounts-folded s (fact ∷ facts) = amounts-folded (amounts_step s fact) facts

pub amounts-are-folded : AmountsAreFolded
amounts-are-folded key version tx facts = amounts-folded (record { key = key; version = version; tx = tx; found = None }) facts

-- ---- deltas that were noted

pub noted-chain : (key : Key) (version : ℕ) (facts : List Fact) → IsNoted key version (fold (with_deltas key version) [] facts) (fold deltas_step (no_deltas key version) facts)
noted-chain key version facts =
    noted-facts key version facts [] (no_deltas key version) (record { same_key = refl; same_version = refl; state = inl (refl, refl, omega arith) })

pub crowded-by : (key : Key) (version : ℕ) (m : TxMap Amounts) (s : WithDeltas) → IsNoted key version m s → s.crowded ≡ nat_lt 64 (length m)
crowded-by key version m s is =
    elim is.state [
      | inl still ↦ still.0 ∙ sym (le-ltb 64 (length m) still.2)
      | inr over ↦ over.0 ∙ sym (lt-ltb 64 (length m) over.1)
    ]

pub seen-by : (key : Key) (version : ℕ) (m : TxMap Amounts) (s : WithDeltas) → IsNoted key version m s → length m ≤ 64 → s.seen ≡ txs_of m
seen-by key version m s is few =
    elim is.state [
      | inl still ↦ still.1
      | inr over ↦ absurd (omega (arith, over.1, few))
    ]

pub length-joined : (m n : TxMap Amounts) → txs_of m ≡ txs_of n → length m ≡ length n
length-joined m n same = sym (length-map m (λ e. e.0)) ∙ ap length same ∙ length-map n (λ e. e.0)

pub crowded-by-deltas : CrowdedByDeltas
crowded-by-deltas keep key version covers facts =
    crowded-by key version (fold (with_deltas key version) [] (filter keep facts)) (fold deltas_step (no_deltas key version) (filter keep facts)) (noted-chain key version (filter keep facts))
    ∙ ap (nat_lt 64) (sym (length-joined (deltas_at facts key version) (fold (with_deltas key version) [] (filter keep facts)) (executed-join keep key version covers facts)))

pub executed-are-noted : ExecutedAreNoted
executed-are-noted keep key facts covers few =
    let version : ℕ = current_of facts key in
    let joined : txs_of (executed_of facts key) ≡ txs_of (fold (with_deltas key version) [] (filter keep facts)) = executed-join keep key version covers facts in
    let long : length (executed_of facts key) ≡ length (fold (with_deltas key version) [] (filter keep facts)) = length-joined (executed_of facts key) (fold (with_deltas key version) [] (filter keep facts)) joined in
    seen-by key version (fold (with_deltas key version) [] (filter keep facts)) (fold deltas_step (no_deltas key version) (filter keep facts)) (noted-chain key version (filter keep facts)) (omega (arith, few, long))
    ∙ sym joined
