use Rattle.std.proofs.Common.{◌≡◌, ◌∙◌, List, refl, subst, sym, ℕ}
use Rattle.std.specs.Io.KnownBytes.{Appends}
use Rattle.std.proofs.lemmas.Result.{err_from_is_err_and}
use Rattle.mdcc_command_dump.proofs.Dumped.{output_failed, writing_prints}
use Rattle.mdcc_command_dump.specs.Dumps.{payload_lines}
use Rattle.mdcc_command_dump.specs.declared.fault.DumpFault.{DumpFault}
use Rattle.mdcc_command_replay.proofs.Fronts.{nothing_written}
use Rattle.mdcc_command_replay.specs.Writing.{Front}
use Rattle.mdcc_command_replay.specs.declared.writing.Failure.{Failure}
use Rattle.mdcc_command_dump.proofs.dumping.print_payload.Goals as goal

pub returns-in_err-text-clause-front : goal.returns-in_err-text-clause-front
returns-in_err-text-clause-front g c =
    let p = err_from_is_err_and c.from_residual.result c.from_residual.ensures.1 in
    rw p.1 (nothing_written (g.O.Sink.held c.args.out.now) (payload_lines c.args.number c.args.payload.now))

pub returns-in_err-write_text-clause-front : goal.returns-in_err-write_text-clause-front
returns-in_err-write_text-clause-front g c =
    let p = err_from_is_err_and c.from_residual-in_err-write_text.result c.from_residual-in_err-write_text.ensures.1 in
    let is = c.as_bytes.ensures.value ∙ c.in_ok-text.ensures.text in
    rw p.1 (subst (λ (text : List ℕ). Front (g.O.Sink.held c.args.out.now) (g.O.Sink.held c.write_text.new.out) text) is c.in_err-write_text.ensures.front)

pub returns-in_err-write_text-clause-fault : goal.returns-in_err-write_text-clause-fault
returns-in_err-write_text-clause-fault g c =
    let p = err_from_is_err_and c.from_residual-in_err-write_text.result c.from_residual-in_err-write_text.ensures.1 in
    rw (p.1, p.2) (writing_prints c.in_err-write_text.field-0.0)

pub returns-in_err-write_text-clause-output : goal.returns-in_err-write_text-clause-output
returns-in_err-write_text-clause-output g c = λ h.
    let p = err_from_is_err_and c.from_residual-in_err-write_text.result c.from_residual-in_err-write_text.ensures.1 in
    let is = sym p.1 ∙ h in
    let same : p.0 ≡ DumpFault.Output = cc in
    let fault : c.in_err-write_text.field-0.0 ≡ Failure.Output = output_failed c.in_err-write_text.field-0.0 (sym p.2 ∙ same) in
    c.in_err-write_text.ensures.failed (rw fault refl)

pub returns-clause-all : goal.returns-clause-all
returns-clause-all g c =
    let is = c.as_bytes.ensures.value ∙ c.in_ok-text.ensures.text in
    subst (λ (text : List ℕ). Appends (g.O.Sink.held c.args.out.now) (g.O.Sink.held c.write_text.new.out) text) is c.in_ok-write_text.ensures.all
