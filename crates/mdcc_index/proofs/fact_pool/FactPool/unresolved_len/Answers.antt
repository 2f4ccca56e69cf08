use Rattle.std.proofs.Common.{length, sym, subst, ap, arith}
use Rattle.std.proofs.lemmas.List.{length-map}
use Rattle.mdcc_base.specs.declared.identifiers.TxId.{TxId}
use Rattle.mdcc_def_protocol.specs.Plain.{plain_unresolved_of}
use Rattle.mdcc_index.specs.Stores.{Represents}
use Rattle.mdcc_index.proofs.fact_pool.FactPool.unresolved_len.Goals as goal

pub returns : goal.returns
returns c facts kept =
    let inside = subst (λ s. Represents s facts) (sym c.self.view_is) kept in
    omega (
      arith,
      c.len.ensures.value,
      ap length inside.unresolved.txs,
      length-map {B = TxId} c.self.inside.unresolved.entries (λ e. e.0),
      length-map {B = TxId} (plain_unresolved_of facts) (λ e. e.0),
    )
