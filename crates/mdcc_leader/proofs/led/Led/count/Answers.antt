use Rattle.std.proofs.Common.{◌≡◌, ◌≤◌, length, true, false, not, refl, sym, ◌∙◌, arith}
use Rattle.std.proofs.lemmas.Bool.Decides.{nat_tests}
use Rattle.mdcc_leader.proofs.Counts.{none-counts, one-more}
use Rattle.mdcc_leader.proofs.Keeping.{Keeps-counted-by}
use Rattle.mdcc_leader.proofs.led.Led.count.Goals as goal
use Rattle.mdcc_def_protocol.specs.Leader.{is_promise_counted}

pub returns-then-is_full-clause-answer : goal.returns-then-is_full-clause-answer
returns-then-is_full-clause-answer g c facts leading holds kept =
    let full : c.args.cluster.now.quorums.centres ≤ length c.args.self.now.lead.promises = grind (arith, nat_tests, c.if-is_full.true, c.promises.ensures, c.from.ensures, c.centres.ensures.value) in
    rw (none-counts c.args.cluster.now.quorums c.args.self.now.lead c.args.from c.args.promise.now (rw (← c.number-number.ensures.value) c.number-number.ensures.range.0) c.requires kept.promised full) refl

pub returns-then-is_full-clause-ok : goal.returns-then-is_full-clause-ok
returns-then-is_full-clause-ok g c facts leading holds kept =
    let full : c.args.cluster.now.quorums.centres ≤ length c.args.self.now.lead.promises = grind (arith, nat_tests, c.if-is_full.true, c.promises.ensures, c.from.ensures, c.centres.ensures.value) in
    rw (none-counts c.args.cluster.now.quorums c.args.self.now.lead c.args.from c.args.promise.now (rw (← c.number-number.ensures.value) c.number-number.ensures.range.0) c.requires kept.promised full) kept

pub returns-clause-ok : goal.returns-clause-ok
returns-clause-ok g c facts leading holds kept =
    let counts : is_promise_counted c.args.self.now.lead c.args.from c.args.promise.now ≡ true = grind (arith, c.is_promise_counted.ensures, c.if-not-is_promise_counted.false) in
    Keeps-counted-by c.args.cluster.now facts leading c.args.from c.args.promise.now c.args.self.now c.count.new.self c.count.result kept counts
    (one-more c.args.cluster.now.quorums c.args.self.now.lead c.args.from c.args.promise.now (rw (← c.number-number.ensures.value) c.number-number.ensures.range.0) c.requires counts kept.promised)
    (c.count.ensures.answer facts leading holds) (c.count.ensures.ok facts holds)
