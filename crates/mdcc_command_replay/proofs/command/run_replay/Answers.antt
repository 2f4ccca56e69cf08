use Rattle.std.proofs.Common.{◌≡◌, ◌<◌, List, ℕ, length, Some, Ok}
use Rattle.std.specs.Bool.{OnFalse}
use Rattle.std.specs.Io.KnownBytes.{Appends}
use Rattle.std.proofs.KnownBytes.{Consumes-whole}
use Rattle.mdcc_def_language.specs.Errors.{error_text, status_of}
use Rattle.mdcc_def_simulation.specs.Replay.{replay_of}
use Rattle.mdcc_command_replay.proofs.Fronts.{nothing_written}
use Rattle.mdcc_command_replay.proofs.Inputs.{long_ended}
use Rattle.mdcc_command_replay.proofs.Refused.{nothing_refused}
use Rattle.mdcc_command_replay.proofs.Statuses.{for_any, for_such, front_written, known_status, line_told, whole_written}
use Rattle.mdcc_command_replay.specs.Runs.{is_own_status}
use Rattle.mdcc_command_replay.specs.Writing.{Front, Tells}
use Rattle.mdcc_command_replay.specs.declared.refusals.Refusal.{Refusal}
use Rattle.mdcc_command_replay.proofs.command.run_replay.Goals as goal

pub returns-in-Ok-clause-whole : goal.returns-in-Ok-clause-whole
returns-in-Ok-clause-whole g c =
    let written = rw c.as_slice.ensures.value at c.replay.ensures.written in
    Consumes-whole (g.S.Source.left c.args.source.now) (g.S.Source.left c.read_all.new.source) _
    (λ input. OnFalse (is_own_status c.finish.result) ((c.finish.result ≡ status_of (replay_of input).fault) × Appends (g.O.Sink.held c.args.out.now) (g.O.Sink.held c.replay.new.out) (replay_of input).text))
    c.in-Ok.ensures.bytes c.in-Ok.ensures.end.0
    (whole_written (g.O.Sink.held c.args.out.now) (g.O.Sink.held c.replay.new.out) (replay_of c.in-Ok.input.items) c.replay.result c.finish.result written c.finish.ensures.status)

pub returns-in-Ok-clause-front : goal.returns-in-Ok-clause-front
returns-in-Ok-clause-front g c =
    let written = rw c.as_slice.ensures.value at c.replay.ensures.written in
    Consumes-whole (g.S.Source.left c.args.source.now) (g.S.Source.left c.read_all.new.source) _
    (λ input. Front (g.O.Sink.held c.args.out.now) (g.O.Sink.held c.replay.new.out) (replay_of input).text)
    c.in-Ok.ensures.bytes c.in-Ok.ensures.end.0
    (front_written (g.O.Sink.held c.args.out.now) (g.O.Sink.held c.replay.new.out) (replay_of c.in-Ok.input.items) c.replay.result written)

pub returns-in-Ok-clause-line : goal.returns-in-Ok-clause-line
returns-in-Ok-clause-line g c =
    let written = rw c.as_slice.ensures.value at c.replay.ensures.written in
    let told : List ℕ → Type 0 = λ text. Tells (g.E.Sink.held c.args.err.now) (g.E.Sink.held c.finish.new.err) (g.E.Sink.faults c.args.err.now) (g.E.Sink.faults c.finish.new.err) text in
    Consumes-whole (g.S.Source.left c.args.source.now) (g.S.Source.left c.read_all.new.source) _
    (λ input. OnFalse (is_own_status c.finish.result) (told (error_text (replay_of input).fault)))
    c.in-Ok.ensures.bytes c.in-Ok.ensures.end.0
    (line_told (g.O.Sink.held c.args.out.now) (g.O.Sink.held c.replay.new.out) (replay_of c.in-Ok.input.items) c.replay.result c.finish.result told written c.finish.ensures.status c.finish.ensures.line)

pub returns-in-Err-TooLong-clause-front : goal.returns-in-Err-TooLong-clause-front
returns-in-Err-TooLong-clause-front g c =
    for_any (g.S.Source.left c.args.source.now) (λ input. Front (g.O.Sink.held c.args.out.now) (g.O.Sink.held c.args.out.now) (replay_of input).text) (λ input. nothing_written _ _)

pub returns-in-Err-TooLong-clause-line : goal.returns-in-Err-TooLong-clause-line
returns-in-Err-TooLong-clause-line g c =
    let told : List ℕ → Type 0 = λ text. Tells (g.E.Sink.held c.args.err.now) (g.E.Sink.held c.end_refused.new.err) (g.E.Sink.faults c.args.err.now) (g.E.Sink.faults c.end_refused.new.err) text in
    for_such (g.S.Source.left c.args.source.now) (λ input. 67108864 < length input) (λ input. OnFalse (is_own_status c.end_refused.result) (told (error_text (replay_of input).fault)))
    (λ input long. line_told (g.O.Sink.held c.args.out.now) (g.O.Sink.held c.args.out.now) (replay_of input) (Ok (Some Refusal.TooLong)) c.end_refused.result told (long_ended (g.O.Sink.held c.args.out.now) input long) c.end_refused.ensures.status c.end_refused.ensures.line)
    (c.in-Err-TooLong.ensures.too_long (cc))

pub returns-in-Err-Failed-clause-front : goal.returns-in-Err-Failed-clause-front
returns-in-Err-Failed-clause-front g c =
    for_any (g.S.Source.left c.args.source.now) (λ input. Front (g.O.Sink.held c.args.out.now) (g.O.Sink.held c.args.out.now) (replay_of input).text) (λ input. nothing_written _ _)

pub returns-in-Err-Memory-clause-front : goal.returns-in-Err-Memory-clause-front
returns-in-Err-Memory-clause-front g c =
    for_any (g.S.Source.left c.args.source.now) (λ input. Front (g.O.Sink.held c.args.out.now) (g.O.Sink.held c.args.out.now) (replay_of input).text) (λ input. nothing_written _ _)

pub returns-in-Ok-clause-status : goal.returns-in-Ok-clause-status
returns-in-Ok-clause-status g c = known_status c.replay.result c.finish.result c.finish.ensures.status

pub returns-in-Ok-clause-refused : goal.returns-in-Ok-clause-refused
returns-in-Ok-clause-refused g c = λ is.
    let written = rw c.as_slice.ensures.value at c.replay.ensures.written in
    nothing_refused (g.O.Sink.held c.args.out.now) (g.O.Sink.held c.replay.new.out) c.in-Ok.input.items c.replay.result c.finish.result written c.finish.ensures.status is

pub returns-in-Err-TooLong-clause-status : goal.returns-in-Err-TooLong-clause-status
returns-in-Err-TooLong-clause-status g c = known_status (Ok (Some Refusal.TooLong)) c.end_refused.result c.end_refused.ensures.status
