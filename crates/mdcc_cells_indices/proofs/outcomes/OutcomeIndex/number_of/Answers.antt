use Rattle.std.proofs.Common.{◌≡◌, Some, get_or, sym, ap, ◌∙◌, arith, subst}
use Rattle.std.proofs.lemmas.List.{get_or_default}
use Rattle.mdcc_base.specs.TxId.{tx_eq}
use Rattle.mdcc_cells_indices.specs.Heard.{AreNumbersBelow, fact_number_in, number_found}
use Rattle.mdcc_cells_indices.proofs.Endings.{last-within}
use Rattle.mdcc_cells_indices.proofs.outcomes.OutcomeIndex.number_of.Goals as goal

pub index-requires : goal.index-requires
index-requires c =
    omega (
      arith,
      last-within (tx_eq c.args.tx.now) c.self.inside.txs.keys c.in-Some.index (sym c.oldest.ensures ∙ c.in-Some.is),
      c.self.invariant.alike,
      c.self.inside.numbers.ok.0,
    )

pub returns-in-Some-clause-value : goal.returns-in-Some-clause-value
returns-in-Some-clause-value c =
    let within = last-within (tx_eq c.args.tx.now) c.self.inside.txs.keys c.in-Some.index (sym c.oldest.ensures ∙ c.in-Some.is) in
    ap Some (c.index.ensures ∙ get_or_default c.self.inside.numbers.items c.in-Some.index c.index.result.now 0 (omega (arith, within, c.self.invariant.alike)))
    ∙ ap (fact_number_in c.self.inside.numbers.items) (sym c.in-Some.is ∙ c.oldest.ensures)
    ∙ ap (λ store. number_found store c.args.tx.now) c.self.view_is

pub returns-in-Some-clause-within : goal.returns-in-Some-clause-within
returns-in-Some-clause-within c bound below =
    let within = last-within (tx_eq c.args.tx.now) c.self.inside.txs.keys c.in-Some.index (sym c.oldest.ensures ∙ c.in-Some.is) in
    let number : c.index.result.now ≡ get_or c.self.inside.numbers.items c.in-Some.index 0 =
    c.index.ensures ∙ get_or_default c.self.inside.numbers.items c.in-Some.index c.index.result.now 0 (omega (arith, within, c.self.invariant.alike)) in
    let kept : AreNumbersBelow bound c.self.inside.numbers.items = subst (AreNumbersBelow bound) (sym (ap (λ o. o.numbers) c.self.view_is)) below in
    omega (arith, number, kept c.in-Some.index (omega (arith, within, c.self.invariant.alike)))
