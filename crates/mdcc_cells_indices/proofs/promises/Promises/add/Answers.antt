use Rattle.std.proofs.Common.{ap, length, map, arith, length-append}
use Rattle.mdcc_base.specs.declared.key.Key.{Key}
use Rattle.mdcc_cells_indices.specs.Promises.{promised_by}
use Rattle.mdcc_cells_indices.specs.declared.promises.Promise.{Promise}
use Rattle.mdcc_cells_indices.proofs.Promised.{length-promised, promised-more}
use Rattle.mdcc_cells_indices.proofs.promises.Promises.add.Goals as goal

pub returns-clause-promises : goal.returns-clause-promises
returns-clause-promises c facts = promised-more c.args.self.now c.enter.new.self facts c.args.fact.now c.enter.ensures.keys c.enter.ensures.ranges

pub returns-clause-few : goal.returns-clause-few
returns-clause-few c =
    omega (arith, ap length c.enter.ensures.keys, length-append (map (λ (entry : Key × Promise). entry.0) (promised_by c.args.fact.now)) c.args.self.now.keys.keys, length-promised c.args.fact.now)
