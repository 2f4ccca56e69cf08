-- What happens to a centre: ticks, crashes, restarts and stops.
use Rattle.std.specs.Option.{option_or}
use Rattle.std.specs.Prelude.{List, Result, Some, [], ℕ, ◌+◌, ◌∷◌}
use Rattle.mdcc_def_protocol.specs.Facts.{epoch_of}
use Rattle.mdcc_def_ledger.specs.Ledger.{Added, facts_of}
use Rattle.mdcc_def_messages.specs.declared.facts.Fact.{Fact}
use Rattle.mdcc_base.specs.declared.outside.Image.{Image}
use Rattle.mdcc_def_language.specs.declared.lines.Line.{Line}
use Rattle.mdcc_def_rules.specs.declared.node.Input.{Input}
use Rattle.mdcc_def_language.specs.declared.world.EventFault.{EventFault}
use Rattle.mdcc_def_simulation.specs.State.{World, booted, down, centre_at, with_centre, next_message, Happened}
use Rattle.mdcc_def_simulation.specs.Checkpoints.{tail_after_append}
use Rattle.mdcc_def_simulation.specs.Limits.{passed_log_limit, passed_cells_limit, unless_limit, input_applied, with_lines}

abbrev pub tick_line : ℕ → World → List Line
tick_line a w = Line.Tick a (next_message w) ∷ []

-- a tick line
abbrev pub after_tick : World → ℕ → Result Happened EventFault
after_tick w a = with_lines (tick_line a) (input_applied w a Input.Tick)

abbrev pub sweep_line : ℕ → World → List Line
sweep_line a w = Line.Sweep a (next_message w) ∷ []

-- a sweep line
abbrev pub after_sweep : World → ℕ → Result Happened EventFault
after_sweep w a = with_lines (sweep_line a) (input_applied w a Input.Sweep)

-- a crash line: all but the log is lost
abbrev pub crash_happened : World → ℕ → Happened
crash_happened w a = record { world = with_centre w a (down (centre_at w a).tail); lines = Line.Crash a ∷ [] }

abbrev pub restart_happened : World → ℕ → ℕ → Happened
restart_happened w a epoch = record {
  world = record (with_centre w a (record booted { tail = tail_after_append (centre_at w a).tail })) { ledger = Added a (Fact.Booted epoch) ∷ w.ledger };
  lines = Line.Restart a epoch ∷ [];
}

-- a restart line, at a centre that is down: the next epoch begins
abbrev pub after_restart : World → ℕ → Result Happened EventFault
after_restart w a =
    let epoch = epoch_of (facts_of w.ledger a) + 1 in
    unless_limit (option_or (passed_cells_limit w a (Fact.Booted epoch)) (passed_log_limit w a (Fact.Booted epoch))) (restart_happened w a epoch)

-- a stop line: the next append, or from call 5 on the next checkpoint, will stop
abbrev pub stop_happened : World → ℕ → ℕ → Image → Happened
stop_happened w a call image = record {
  world = with_centre w a (record (centre_at w a) { stop = Some (call, image) });
  lines = Line.Stop a call image ∷ [];
}
