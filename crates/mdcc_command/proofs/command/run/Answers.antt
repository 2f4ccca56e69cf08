-- Without memory for the words nothing is done.
use Rattle.std.proofs.Common.{◌≡◌, ◌∙◌, Err, Result, inl, inr, map, refl}
use Rattle.std.specs.Io.KnownBytes.{Appends}
use Rattle.std.specs.String.{string_bytes}
use Rattle.mdcc_base.specs.declared.source.ReadAllFault.{ReadAllFault}
use Rattle.mdcc_command_audit.specs.Audits.{some_calls}
use Rattle.mdcc_command_check.proofs.Answered.{does_check, unanswered}
use Rattle.mdcc_command_check.specs.Checks.{answer_to_input}
use Rattle.mdcc_command_words.specs.Commands.{command_of}
use Rattle.mdcc_command.proofs.NoMemory.{ended, known_always, memory_ends, names_no_disk, of_others}
use Rattle.mdcc_command.specs.Commands.{output_for}
use Rattle.mdcc_command_dump.proofs.Places.{opens_none, stays_unchanged}
use Rattle.mdcc_command_endings.specs.Logs.{node_booted_at}
use Rattle.mdcc_command_endings.specs.declared.fault.Failure.{Failure}
use Rattle.mdcc_command_replay.proofs.Fronts.{nothing_written}
use Rattle.mdcc_command_replay.specs.Writing.{Tells}
use Rattle.mdcc_command.proofs.command.run.Goals as goal

pub returns-in-Err-clause-node : goal.returns-in-Err-clause-node
returns-in-Err-clause-node g c centre turns = λ is. record {
  served = Err (Failure.Input ReadAllFault.Memory);
  ends = ended c.end.result (g.E.Sink.held c.args.err.now) (g.E.Sink.held c.end.new.err) (g.E.Sink.faults c.args.err.now) (g.E.Sink.faults c.end.new.err) c.end.ensures.status c.end.ensures.told;
  runs = known_always (g.S.Source.left c.args.source.now) _ (λ input. record { read = Err (Failure.Input ReadAllFault.Memory); gives = tt; serves = (refl, record { disks = refl; link = refl; output = refl }) });
  failed_disk = λ a names. absurd (names_no_disk a names);
  others = record { others = λ p here there. refl; crash = λ p here there bytes left. left };
}

pub returns-in-Err-clause-cluster : goal.returns-in-Err-clause-cluster
returns-in-Err-clause-cluster g c turns = λ is. record {
  served = Err (Failure.Input ReadAllFault.Memory);
  ends = ended c.end.result (g.E.Sink.held c.args.err.now) (g.E.Sink.held c.end.new.err) (g.E.Sink.faults c.args.err.now) (g.E.Sink.faults c.end.new.err) c.end.ensures.status c.end.ensures.told;
  runs = known_always (g.S.Source.left c.args.source.now) _ (λ input. record { read = Err (Failure.Input ReadAllFault.Memory); gives = tt; serves = (refl, record { disks = refl; link = refl; output = refl }) });
  failed_disk = λ a names. absurd (names_no_disk a names);
  others = record { others = λ p is. refl; crash = λ p is bytes left. left };
}

pub returns-in-Err-clause-ask : goal.returns-in-Err-clause-ask
returns-in-Err-clause-ask g c question = λ is. record {
  done = Err (Failure.Input ReadAllFault.Memory);
  ends = ended c.end.result (g.E.Sink.held c.args.err.now) (g.E.Sink.held c.end.new.err) (g.E.Sink.faults c.args.err.now) (g.E.Sink.faults c.end.new.err) c.end.ensures.status c.end.ensures.told;
  runs = known_always (g.S.Source.left c.args.source.now) _ (λ input. record { read = Err (Failure.Input ReadAllFault.Memory); gives = tt; asks = (refl, record { link = refl; output = refl }) });
}

pub returns-in-Err-clause-dump : goal.returns-in-Err-clause-dump
returns-in-Err-clause-dump g c centre = λ is. record {
  dumped = Err (Failure.Input ReadAllFault.Memory);
  ends = ended c.end.result (g.E.Sink.held c.args.err.now) (g.E.Sink.held c.end.new.err) (g.E.Sink.faults c.args.err.now) (g.E.Sink.faults c.end.new.err) c.end.ensures.status c.end.ensures.told;
  runs = known_always (g.S.Source.left c.args.source.now) _ (λ input. record { read = Err (Failure.Input ReadAllFault.Memory); gives = tt; dumps = (refl, record { disks = refl; output = refl }) });
  opens = opens_none g.D.Disks.disk g.D.Disks.may_leave g.D.Disks.moment g.D.Disks.left_since g.D.Disks.tears g.met.D.Disks.only_now c.args.disks.now centre
      (let none : Result (Unit {0}) Failure = Err (Failure.Input ReadAllFault.Memory) in none) (Failure.Input ReadAllFault.Memory) refl;
  any_moment = stays_unchanged g.D.Disks.disk g.D.Disks.may_leave g.D.Disks.moment g.D.Disks.left_since g.D.Disks.tears g.met.D.Disks.only_now c.args.disks.now centre;
  others = λ p first second. refl;
}

pub returns-in-Err-clause-check : goal.returns-in-Err-clause-check
returns-in-Err-clause-check g c = λ is.
    known_always (g.S.Source.left c.args.source.now) _
    (λ input. does_check input c.end.result (g.O.Sink.held c.args.out.now) (g.O.Sink.held c.args.out.now) (g.E.Sink.held c.args.err.now) (g.E.Sink.held c.end.new.err) (g.E.Sink.faults c.args.err.now) (g.E.Sink.faults c.end.new.err)
    (unanswered (answer_to_input input) c.end.result 10 (g.O.Sink.held c.args.out.now) (g.E.Sink.held c.args.err.now) (g.E.Sink.held c.end.new.err) (g.E.Sink.faults c.args.err.now) (g.E.Sink.faults c.end.new.err) refl c.end.ensures.status))

pub returns-in-Err-clause-audit : goal.returns-in-Err-clause-audit
returns-in-Err-clause-audit g c = λ is. record {
  found = Err (Failure.Input ReadAllFault.Memory);
  ends = ended c.end.result (g.E.Sink.held c.args.err.now) (g.E.Sink.held c.end.new.err) (g.E.Sink.faults c.args.err.now) (g.E.Sink.faults c.end.new.err) c.end.ensures.status c.end.ensures.told;
  runs = known_always (g.S.Source.left c.args.source.now) _ (λ input. record { read = Err (Failure.Input ReadAllFault.Memory); gives = tt; audits = (refl, record { disks = refl; output = refl }) });
  opens = λ a one. opens_none g.D.Disks.disk g.D.Disks.may_leave g.D.Disks.moment g.D.Disks.left_since g.D.Disks.tears g.met.D.Disks.only_now c.args.disks.now a some_calls tt refl;
  others = λ p is. refl;
}

pub returns-in-Err-clause-whole : goal.returns-in-Err-clause-whole
returns-in-Err-clause-whole g c =
    known_always (output_for (command_of (map string_bytes c.args.words.now)) (g.S.Source.left c.args.source.now)) _
    (λ output. of_others c.end.result ((c.end.result ≡ output.status) × Appends (g.O.Sink.held c.args.out.now) (g.O.Sink.held c.args.out.now) output.text) c.end.ensures.status)

pub returns-in-Err-clause-front : goal.returns-in-Err-clause-front
returns-in-Err-clause-front g c =
    known_always (output_for (command_of (map string_bytes c.args.words.now)) (g.S.Source.left c.args.source.now)) _ (λ output. nothing_written (g.O.Sink.held c.args.out.now) output.text)

pub returns-in-Err-clause-line : goal.returns-in-Err-clause-line
returns-in-Err-clause-line g c =
    known_always (output_for (command_of (map string_bytes c.args.words.now)) (g.S.Source.left c.args.source.now)) _
    (λ output. of_others c.end.result (Tells (g.E.Sink.held c.args.err.now) (g.E.Sink.held c.end.new.err) (g.E.Sink.faults c.args.err.now) (g.E.Sink.faults c.end.new.err) output.error) c.end.ensures.status)

-- ---- over an accepted configuration

pub returns-in-Err-clause-node_log : goal.returns-in-Err-clause-node_log
returns-in-Err-clause-node_log g c centre turns = λ is input config known read there told.
    memory_ends (node_booted_at g.D.Disks.disk config.cluster c.args.disks.now) centre centre c.end.result c.end.ensures.status

pub returns-in-Err-clause-cluster_logs : goal.returns-in-Err-clause-cluster_logs
returns-in-Err-clause-cluster_logs g c turns = λ is input config known read told.
    memory_ends (node_booted_at g.D.Disks.disk config.cluster c.args.disks.now) 1 config.cluster.quorums.centres c.end.result c.end.ensures.status

pub returns-in-Err-clause-dump_log : goal.returns-in-Err-clause-dump_log
returns-in-Err-clause-dump_log g c centre = λ is input config known read there told.
    memory_ends (node_booted_at g.D.Disks.disk config.cluster c.args.disks.now) centre centre c.end.result c.end.ensures.status

pub returns-in-Err-clause-audit_logs : goal.returns-in-Err-clause-audit_logs
returns-in-Err-clause-audit_logs g c = λ is input config known read told.
    memory_ends (node_booted_at g.D.Disks.disk config.cluster c.args.disks.now) 1 config.cluster.quorums.centres c.end.result c.end.ensures.status

pub returns-in-Err-clause-node_completes : goal.returns-in-Err-clause-node_completes
returns-in-Err-clause-node_completes g c centre turns = λ is source output link disks input config log known read there of are below. inr (inl c.end.ensures.status)

pub returns-in-Err-clause-cluster_completes : goal.returns-in-Err-clause-cluster_completes
returns-in-Err-clause-cluster_completes g c turns = λ is source output link disks input config logs known read numbers are below. inr (inl c.end.ensures.status)

pub returns-in-Err-clause-ask_completes : goal.returns-in-Err-clause-ask_completes
returns-in-Err-clause-ask_completes g c question = λ is source output link input config known read there. inr (inl c.end.ensures.status)

pub returns-in-Err-clause-dump_completes : goal.returns-in-Err-clause-dump_completes
returns-in-Err-clause-dump_completes g c centre = λ is source output disks input config facts known read there told payloads are below. inr (inl c.end.ensures.status)

pub returns-in-Ok-clause-node_log : goal.returns-in-Ok-clause-node_log
returns-in-Ok-clause-node_log g c centre turns = λ is. c.run_command.ensures.node_log centre turns (c.in-Ok.ensures.value ∙ is)

pub returns-in-Ok-clause-cluster_logs : goal.returns-in-Ok-clause-cluster_logs
returns-in-Ok-clause-cluster_logs g c turns = λ is. c.run_command.ensures.cluster_logs turns (c.in-Ok.ensures.value ∙ is)

pub returns-in-Ok-clause-node_completes : goal.returns-in-Ok-clause-node_completes
returns-in-Ok-clause-node_completes g c centre turns = λ is. c.run_command.ensures.node_completes centre turns (c.in-Ok.ensures.value ∙ is)

pub returns-in-Ok-clause-cluster_completes : goal.returns-in-Ok-clause-cluster_completes
returns-in-Ok-clause-cluster_completes g c turns = λ is. c.run_command.ensures.cluster_completes turns (c.in-Ok.ensures.value ∙ is)
