use Rattle.std.proofs.Common.{◌≡◌, length, max, sym, subst, ap, ◌∙◌}
use Rattle.std.specs.List.{filter}
use Rattle.std.specs.Prelude.{nat_lt}
use Rattle.mdcc_def_protocol.specs.Facts.{current_of, deltas_from}
use Rattle.mdcc_struct.specs.Maps.{union}
use Rattle.mdcc_theorem_fact_folds.specs.Chains.{is_of_instance}
use Rattle.mdcc_theorem_fact_folds.specs.Held.{next_executed, next_version_of}
use Rattle.mdcc_theorem_fact_folds.proofs.Deltas.{deltas-chain}
use Rattle.mdcc_cells_indices.specs.Active.{is_active}
use Rattle.mdcc_index.specs.Stores.{Represents}
use Rattle.mdcc_index.proofs.Active.{active-chain, active-deltas, is_active_of}
use Rattle.mdcc_index.proofs.Tied.{active-below}
use Rattle.mdcc_index.proofs.fact_pool.FactPool.is_crowded.Goals as goal

pub facts_of-walk-requires : goal.facts_of-walk-requires
facts_of-walk-requires c = active-below _ c.self.invariant.facts c.self.invariant.has

pub returns : goal.returns
returns c facts kept =
    let inside = subst (λ s. Represents s facts) (sym c.self.view_is) kept in
    let key = c.args.key.now in
    let fact = c.args.fact.now in
    let held = next_version_of facts key fact in
    let is : c.max-version.result ≡ held =
    c.max-version.ensures ∙ ap (λ version. max version c.version_from.result) (c.current.ensures facts kept) ∙ ap (max (current_of facts key)) c.version_from.ensures in
    c.is_crowded.ensures.chain (filter (is_of_instance key c.max-version.result) (filter is_active facts)) (c.facts_of-walk.ensures is_active facts inside.cells inside.active)
    ∙ ap (λ chain. nat_lt 64 (length (next_executed chain key c.max-version.result fact))) (active-chain key c.max-version.result facts)
    ∙ ap (λ version. nat_lt 64 (length (next_executed (filter (is_active_of key version) facts) key version fact))) is
    ∙ ap (λ deltas. nat_lt 64 (length (union deltas (deltas_from key held fact)))) (sym (deltas-chain (is_active_of key held) key held (active-deltas key held) facts))
