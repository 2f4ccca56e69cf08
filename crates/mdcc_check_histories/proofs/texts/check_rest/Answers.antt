use Rattle.std.proofs.Common.{arith, sym, ◌∙◌}
use Rattle.std.proofs.lemmas.Result.{err_from_is_err_and}
use Rattle.mdcc_def_language.specs.Lines.{lines_in}
use Rattle.mdcc_check_histories.proofs.Splits.{none_left}
use Rattle.mdcc_check_histories.proofs.Turns.{ends, goes-on, stops, took}
use Rattle.mdcc_check_histories.specs.Tallies.{Tallies, first_tally, lines_tallied, tally_line}
use Rattle.mdcc_check_histories.proofs.texts.check_rest.Goals as goal

pub returns-in_err-take : goal.returns-in_err-take
returns-in_err-take c =
    let kept = c.loop-rest.invariant.kept in
    let p = err_from_is_err_and c.from_residual-in_err-take.result c.from_residual-in_err-take.ensures.1 in
    let taken = rw c.in_err-take.was at (c.take.ensures.taken kept.0 kept.1) in
    rw (p.1, p.2) (stops c.args.schema.now kept.0 c.split_line.result.0.now (lines_in c.split_line.result.1.now) (lines_tallied c.args.schema.now (first_tally c.args.first) (lines_in c.args.text.now)) (lines_in c.loop-rest.rest.now)
    c.split_line.ensures.lines kept.2 (Tallies c.take.new.self) c.in_err-take.field-0.0 taken)

pub loop-rest-preserved : goal.loop-rest-preserved
loop-rest-preserved c =
    let kept = c.loop-rest.invariant.kept in
    let taken = rw c.in_ok-take.was at (c.take.ensures.taken kept.0 kept.1) in
    let next = took (Tallies c.take.new.self) tt (tally_line c.args.schema.now kept.0 c.split_line.result.0.now) taken in
    record {
      kept = (
        next.0,
        next.2,
        goes-on c.args.schema.now kept.0 c.split_line.result.0.now (lines_in c.split_line.result.1.now) (lines_tallied c.args.schema.now (first_tally c.args.first) (lines_in c.args.text.now)) (lines_in c.loop-rest.rest.now)
            c.split_line.ensures.lines kept.2 next.0 next.1,
      );
      number = omega (arith, c.in_ok-take.ensures.number, c.split_line.ensures.shorter, c.loop-rest.invariant.number);
      counts = omega (arith, c.in_ok-take.ensures.number, c.in_ok-take.ensures.counts, c.loop-rest.invariant.counts);
    }

pub returns : goal.returns
returns c =
    let kept = c.loop-rest.invariant.kept in
    ends c.args.schema.now kept.0 (lines_in c.loop-rest.rest.now) (lines_tallied c.args.schema.now (first_tally c.args.first) (lines_in c.args.text.now)) c.verdict.result
    (none_left c.loop-rest.rest.now c.loop-rest-test.ensures) kept.2 (c.verdict.ensures kept.0 kept.1)
