-- What each of the nine events of a schedule does to the world.
use Rattle.std.specs.Prelude.{Bool, Err, Ok, Result, [], false, if◌then◌else◌, true}
use Rattle.mdcc_def_protocol.specs.Belongs.{is_centre}
use Rattle.mdcc_def_language.specs.declared.events.Event.{Event}
use Rattle.mdcc_def_language.specs.declared.world.EventFault.{EventFault}
use Rattle.mdcc_def_simulation.specs.State.{World, is_up_at, Happened, counted_event}
use Rattle.mdcc_def_simulation.specs.Limits.{within_events, if_up}
use Rattle.mdcc_def_simulation.specs.Deliveries.{after_deliveries, after_settle}
use Rattle.mdcc_def_simulation.specs.Clients.{read_happened, after_begin}
use Rattle.mdcc_def_simulation.specs.Centres.{after_sweep, after_tick, crash_happened, after_restart, stop_happened}

-- what an event does, its own count apart
abbrev pub happened_of : World → Event → Result Happened EventFault
happened_of w (Event.Read a key) = if_up w a (Ok (read_happened w a key))
happened_of w (Event.Begin a words) = if_up w a (after_begin w a words)
happened_of w (Event.Deliver numbers) = after_deliveries numbers (record { world = w; lines = [] })
happened_of w (Event.Settle listed) = after_settle w listed
happened_of w (Event.Tick a) = if_up w a (after_tick w a)
happened_of w (Event.Sweep a) = if_up w a (after_sweep w a)
happened_of w (Event.Crash a) = if_up w a (Ok (crash_happened w a))
happened_of w (Event.Restart a) =
    if is_up_at w a then Err (EventFault.Up a) else (if is_centre w.cluster a then after_restart w a else Err (EventFault.Down a))
happened_of w (Event.Stop a call image) = if_up w a (Ok (stop_happened w a call image))

abbrev pub is_deliver : Event → Bool
is_deliver (Event.Deliver numbers) = true
is_deliver _ = false

-- each line counts one event, but of a deliver line each number does
abbrev pub after_event : World → Event → Result Happened EventFault
after_event w event =
    if is_deliver event then happened_of w event
    else within_events w (happened_of (counted_event w) event)
