-- What holds of a world after an event.
use Rattle.std.specs.Prelude.{◌≡◌, Ok, ◌≤◌}
use Rattle.mdcc_def_simulation.specs.State.{Happened, World}
use Rattle.mdcc_def_simulation.specs.Events.{after_event}
use Rattle.mdcc_def_simulation.specs.Limits.{most_events}
use Rattle.mdcc_def_language.specs.declared.events.Event.{Event}
use Rattle.mdcc_theorem_worlds.specs.WorldInvariant.{IsWorld}
use Rattle.mdcc_theorem_worlds.specs.Words.{IsGivenEvent}

-- what a world is at every moment between events
pub record IsBetweenEvents (w : World) : Type 0 where
  pub itself : IsWorld w
  pub few : w.events ≤ most_events

-- it is so after each event that happens
abbrev pub EventsStay : Type 0
EventsStay =
    (w : World) (event : Event) (h : Happened) → IsBetweenEvents w → IsGivenEvent event → after_event w event ≡ Ok h → IsBetweenEvents h.world
