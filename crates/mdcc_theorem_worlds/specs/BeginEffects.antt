-- What a begin line does, and why it does not.
use Rattle.std.specs.List.{AllByRecursion}
use Rattle.std.specs.Prelude.{◌≡◌, Err, List, Ok, Result, Some, if◌then◌else◌, map, ℕ, ℤ}
use Rattle.mdcc_option.specs.Bounds.{IsSchema}
use Rattle.mdcc_option.specs.Transaction.{transaction_of}
use Rattle.mdcc_option.specs.declared.faults.DraftFault.{DraftFault}
use Rattle.mdcc_option.specs.declared.items.Known.{Known}
use Rattle.mdcc_option.specs.declared.items.Part.{Part}
use Rattle.mdcc_def_language.specs.Resolve.{resolve}
use Rattle.mdcc_def_simulation.specs.State.{Happened, World, counted_event, is_up_at}
use Rattle.mdcc_def_simulation.specs.Clients.{after_begin_step, refused_without_item}
use Rattle.mdcc_def_simulation.specs.Events.{after_event}
use Rattle.mdcc_def_simulation.specs.AppliedSteps.{step_at}
use Rattle.mdcc_def_language.specs.declared.events.Event.{Event}
use Rattle.mdcc_def_language.specs.declared.events.UpdateWord.{UpdateWord}
use Rattle.mdcc_def_rules.specs.declared.node.Input.{Input}
use Rattle.mdcc_def_language.specs.declared.schedule.ResolveFault.{ResolveFault}
use Rattle.mdcc_def_language.specs.declared.world.EventFault.{EventFault}
use Rattle.mdcc_theorem_node_steps.specs.Inputs.{AreWellFormedParts}
use Rattle.mdcc_theorem_worlds.specs.EventEffects.{at_limit, if_open}
use Rattle.mdcc_theorem_worlds.specs.WorldInvariant.{IsWellFormedKnown}
use Rattle.mdcc_theorem_worlds.specs.Words.{IsGivenWord}

-- a transaction of these parts is begun, or is refused by the centre
abbrev pub after_begin_parts : World → ℕ → List Part → Result Happened EventFault
after_begin_parts w a parts = after_begin_step (counted_event w) a (step_at (counted_event w) a (Input.Begin parts))

-- the parts in key order come before the limit of events
abbrev pub after_begin_draft : World → ℕ → Result (List Part) DraftFault → Result Happened EventFault
after_begin_draft w a (Err fault) = Err (EventFault.Begin fault)
after_begin_draft w a (Ok parts) = if_open (at_limit w) (after_begin_parts w a parts)

-- and the parts that the words stand for before these
abbrev pub after_begin_resolved : World → ℕ → Result (List Part) ResolveFault → Result Happened EventFault
after_begin_resolved w a (Err (ResolveFault.NoRead number)) = Err (EventFault.NoRead number)
after_begin_resolved w a (Err (ResolveFault.NoItem key)) = if_open (at_limit w) (Ok (refused_without_item (counted_event w) key))
after_begin_resolved w a (Err ResolveFault.Memory) = Err EventFault.Memory
after_begin_resolved w a (Ok parts) = after_begin_draft w a (transaction_of w.cluster.schema parts)

-- and the centre before all
abbrev pub after_begin_words : World → ℕ → List UpdateWord → Result Happened EventFault
after_begin_words w a words = if is_up_at w a then after_begin_resolved w a (resolve words (map Some w.reads)) else Err (EventFault.Down a)

-- a begin line is this
abbrev pub BeginsHappen : Type 0
BeginsHappen = (w : World) (a : ℕ) (words : List UpdateWord) → after_event w (Event.Begin a words) ≡ after_begin_words w a words

-- the parts of a transaction of words are well-formed
abbrev pub PartsAreWellFormed : Type 0
PartsAreWellFormed =
    (schema : List (ℤ × ℤ)) (reads : List Known) (words : List UpdateWord) (resolved parts : List Part)
    → IsSchema schema → AllByRecursion IsWellFormedKnown reads → AllByRecursion IsGivenWord words
    → resolve words (map Some reads) ≡ Ok resolved → transaction_of schema resolved ≡ Ok parts
    → AreWellFormedParts parts
