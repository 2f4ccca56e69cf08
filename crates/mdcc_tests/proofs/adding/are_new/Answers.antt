use Rattle.mdcc_tests.proofs.Voted.{none_past}
use Rattle.mdcc_tests.proofs.adding.are_new.Goals as goal

pub returns-clause-unvoted : goal.returns-clause-unvoted
returns-clause-unvoted g c = λ facts h zero.
    (none_past facts c.args.key.now c.args.version c.args.ballot c.args.options.now c.count_past.result (c.count_past.ensures facts h) zero).0

pub returns-clause-unfinished : goal.returns-clause-unfinished
returns-clause-unfinished g c = λ facts h zero.
    (none_past facts c.args.key.now c.args.version c.args.ballot c.args.options.now c.count_past.result (c.count_past.ensures facts h) zero).1
