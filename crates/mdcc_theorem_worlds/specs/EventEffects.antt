-- What events at a centre do, and why nothing happens.
use Rattle.std.specs.Option.{option_or}
use Rattle.std.specs.Prelude.{◌≡◌, ◌+◌, Err, Ok, Result, if◌then◌else◌, ℕ}
use Rattle.mdcc_base.specs.declared.key.Key.{Key}
use Rattle.mdcc_base.specs.declared.outside.Image.{Image}
use Rattle.mdcc_def_protocol.specs.Belongs.{is_centre}
use Rattle.mdcc_def_protocol.specs.Facts.{epoch_of}
use Rattle.mdcc_def_ledger.specs.Ledger.{facts_of}
use Rattle.mdcc_def_simulation.specs.State.{Happened, World, counted_event, is_up_at}
use Rattle.mdcc_def_simulation.specs.Centres.{crash_happened, restart_happened, stop_happened, tick_line, sweep_line}
use Rattle.mdcc_def_simulation.specs.Events.{after_event}
use Rattle.mdcc_def_simulation.specs.Limits.{passed_cells_limit, input_applied, is_past_events, limit_if, passed_log_limit, most_events, unless_limit, with_lines}
use Rattle.mdcc_def_simulation.specs.Clients.{read_happened}
use Rattle.mdcc_def_language.specs.declared.events.Event.{Event}
use Rattle.mdcc_def_messages.specs.declared.facts.Fact.{Fact}
use Rattle.mdcc_def_rules.specs.declared.node.Input.{Input}
use Rattle.mdcc_def_language.specs.declared.world.EventFault.{EventFault}
use Rattle.mdcc_def_language.specs.declared.world.LimitName.{LimitName}

-- nothing happens where there were as many events as there may be
abbrev pub at_limit : World → Result (Unit {0}) EventFault
at_limit w = unless_limit (limit_if (is_past_events w) LimitName.Events most_events) tt

-- nor at a centre that is down
abbrev pub at_centre : World → ℕ → Result (Unit {0}) EventFault
at_centre w a = if is_up_at w a then at_limit w else Err (EventFault.Down a)

-- nor is a centre restarted that is up
abbrev pub at_restart : World → ℕ → Result (Unit {0}) EventFault
at_restart w a = if is_up_at w a then Err (EventFault.Up a) else (if is_centre w.cluster a then at_limit w else Err (EventFault.Down a))

-- what comes of it, where nothing stands against it
abbrev pub if_open : Result (Unit {0}) EventFault → Result Happened EventFault → Result Happened EventFault
if_open (Ok _) r = r
if_open (Err fault) r = Err fault

-- what comes of a tick
abbrev pub tick_reported : World → ℕ → Result Happened EventFault
tick_reported w a = with_lines (tick_line a) (input_applied (counted_event w) a Input.Tick)

-- what comes of a sweep
abbrev pub sweep_reported : World → ℕ → Result Happened EventFault
sweep_reported w a = with_lines (sweep_line a) (input_applied (counted_event w) a Input.Sweep)

-- the epoch that a restart begins
abbrev pub restart_epoch : World → ℕ → ℕ
restart_epoch w a = epoch_of (facts_of w.ledger a) + 1

-- what comes of a restart
abbrev pub restarted : World → ℕ → Result Happened EventFault
restarted w a =
    let boot = Fact.Booted (restart_epoch w a) in
    unless_limit (option_or (passed_cells_limit w a boot) (passed_log_limit w a boot)) (restart_happened (counted_event w) a (restart_epoch w a))

-- a read line is this
abbrev pub ReadsHappen : Type 0
ReadsHappen =
    (w : World) (a : ℕ) (key : Key)
    → after_event w (Event.Read a key) ≡ if_open (at_centre w a) (Ok (read_happened (counted_event w) a key))

-- and a tick line is this
abbrev pub TicksHappen : Type 0
TicksHappen = (w : World) (a : ℕ) → after_event w (Event.Tick a) ≡ if_open (at_centre w a) (tick_reported w a)

-- and a sweep line
abbrev pub SweepsHappen : Type 0
SweepsHappen = (w : World) (a : ℕ) → after_event w (Event.Sweep a) ≡ if_open (at_centre w a) (sweep_reported w a)

-- and so is a crash line
abbrev pub CrashesHappen : Type 0
CrashesHappen = (w : World) (a : ℕ) → after_event w (Event.Crash a) ≡ if_open (at_centre w a) (Ok (crash_happened (counted_event w) a))

-- and a restart line
abbrev pub RestartsHappen : Type 0
RestartsHappen = (w : World) (a : ℕ) → after_event w (Event.Restart a) ≡ if_open (at_restart w a) (restarted w a)

-- and a stop line
abbrev pub StopsHappen : Type 0
StopsHappen =
    (w : World) (a call : ℕ) (image : Image)
    → after_event w (Event.Stop a call image) ≡ if_open (at_centre w a) (Ok (stop_happened (counted_event w) a call image))
