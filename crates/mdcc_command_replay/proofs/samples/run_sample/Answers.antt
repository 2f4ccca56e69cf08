use Rattle.std.proofs.Common.{List, ℕ}
use Rattle.mdcc_command_replay.proofs.Counted.{sample_lines, sample_refused}
use Rattle.mdcc_command_replay.proofs.Statuses.{front_written, known_status, line_told, whole_written}
use Rattle.mdcc_command_replay.specs.Samples.{sample_of, shop_text}
use Rattle.mdcc_command_replay.specs.Writing.{Tells}
use Rattle.mdcc_command_replay.proofs.samples.run_sample.Goals as goal

pub returns-clause-whole : goal.returns-clause-whole
returns-clause-whole g c =
    whole_written (g.O.Sink.held c.args.out.now) (g.O.Sink.held c.print_sample-printed.new.out) (sample_of c.args.seed c.args.items c.args.orders) c.print_sample-printed.result c.finish.result
    c.print_sample-printed.ensures.written c.finish.ensures.status

pub returns-clause-front : goal.returns-clause-front
returns-clause-front g c =
    front_written (g.O.Sink.held c.args.out.now) (g.O.Sink.held c.print_sample-printed.new.out) (sample_of c.args.seed c.args.items c.args.orders) c.print_sample-printed.result
    c.print_sample-printed.ensures.written

pub returns-clause-line : goal.returns-clause-line
returns-clause-line g c =
    let told : List ℕ → Type 0 = λ text. Tells (g.E.Sink.held c.args.err.now) (g.E.Sink.held c.finish.new.err) (g.E.Sink.faults c.args.err.now) (g.E.Sink.faults c.finish.new.err) text in
    line_told (g.O.Sink.held c.args.out.now) (g.O.Sink.held c.print_sample-printed.new.out) (sample_of c.args.seed c.args.items c.args.orders) c.print_sample-printed.result c.finish.result told
    c.print_sample-printed.ensures.written c.finish.ensures.status c.finish.ensures.line

pub returns-clause-status : goal.returns-clause-status
returns-clause-status g c = known_status c.print_sample-printed.result c.finish.result c.finish.ensures.status

pub returns-clause-refused : goal.returns-clause-refused
returns-clause-refused g c = λ is.
    sample_refused (g.O.Sink.held c.args.out.now) (g.O.Sink.held c.print_sample-printed.new.out) (sample_of c.args.seed c.args.items c.args.orders) (shop_text c.args.seed c.args.items c.args.orders) c.print_sample-printed.result c.finish.result
    (sample_lines c.args.seed c.args.items c.args.orders) c.print_sample-printed.ensures.written c.finish.ensures.status is
