use Rattle.std.proofs.Common.{◌+◌, sym, ap, length, arith, length-append, subst}
use Rattle.mdcc_cells_indices.specs.Heard.{AreNumbersBelow}
use Rattle.mdcc_cells_indices.proofs.Endings.{below-by, heard-more, length-heard}
use Rattle.mdcc_cells_indices.proofs.outcomes.OutcomeIndex.add.Goals as goal
use Rattle.mdcc_theorem_fact_folds.specs.Entered.{heard_in}

pub returns-clause-heard : goal.returns-clause-heard
returns-clause-heard c facts = heard-more _ _ facts c.args.fact.now c.args.number c.enter.ensures.txs c.enter.ensures.numbers

pub returns-clause-below : goal.returns-clause-below
returns-clause-below c below =
    subst (AreNumbersBelow (c.args.number + 1)) (sym c.enter.ensures.numbers) (below-by c.args.fact.now _ c.args.number below)

pub returns-clause-few : goal.returns-clause-few
returns-clause-few c = omega (arith, ap length c.enter.ensures.txs, length-append (heard_in c.args.fact.now) c.args.self.now.txs.keys, length-heard c.args.fact.now)
