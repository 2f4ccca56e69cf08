-- What holds of a world at every moment.
use Rattle.std.specs.List.{AllByRecursion}
use Rattle.std.specs.Prelude.{◌≡◌, ◌<◌, ◌≤◌, ◌+◌, Ok, length, true, ℕ}
use Rattle.mdcc_base.specs.Key.{IsKey}
use Rattle.mdcc_base.specs.declared.key.Key.{Key}
use Rattle.mdcc_base.specs.declared.outside.Image.{Image}
use Rattle.mdcc_option.specs.declared.cluster.Cluster.{Cluster}
use Rattle.mdcc_option.specs.declared.items.Known.{Known}
use Rattle.mdcc_def_protocol.specs.Belongs.{is_centre}
use Rattle.mdcc_def_protocol.specs.Facts.{epoch_of}
use Rattle.mdcc_def_protocol.specs.IsCluster.{IsCluster}
use Rattle.mdcc_def_ledger.specs.Ledger.{facts_of}
use Rattle.mdcc_def_messages.specs.Lengths.{log_length}
use Rattle.mdcc_def_messages.specs.WellFormed.{IsWellFormedEnvelope, IsWellFormedRead}
use Rattle.mdcc_def_messages.specs.Mailbox.{Sent, with_delivered}
use Rattle.mdcc_def_simulation.specs.State.{Happened, World, centre_at, counted_event, first_world}
use Rattle.mdcc_def_simulation.specs.Centres.{crash_happened, stop_happened}
use Rattle.mdcc_def_simulation.specs.Limits.{input_applied, most_events, most_log}
use Rattle.mdcc_def_simulation.specs.Clients.{read_happened}
use Rattle.mdcc_def_rules.specs.declared.node.Input.{Input}
use Rattle.mdcc_theorem_node_steps.specs.NodeInvariant.{IsNode, accept_length, FitInTurn}
use Rattle.mdcc_theorem_node_steps.specs.Inputs.{IsWellFormedInput}
use Rattle.mdcc_theorem_worlds.specs.EventEffects.{restarted}
use Rattle.mdcc_theorem_worlds.specs.StepSends.{GoesWithin}

-- a message that was sent is well-formed, and goes to a centre of the cluster; an Accept has at most 2,097,152 bytes
pub record IsSentWithin (cluster : Cluster) (sent : Sent) : Type 0 where
  pub envelope_itself : IsWellFormedEnvelope sent.envelope
  pub within : GoesWithin cluster sent.envelope
  pub short : accept_length sent.envelope.message ≤ 2097152

-- what a read showed is well-formed
abbrev pub IsWellFormedKnown : Known → Type 0
IsWellFormedKnown known = IsWellFormedRead known.key known.token known.item

-- what each centre added and keeps is that of a node, also where it is down; its log is within its limit, and its facts had room in
-- turn in the cells of a node; its epochs are no more than the events and one; and all messages and reads are such
pub record IsWorld (w : World) : Type 0 where
  pub cluster_itself : IsCluster w.cluster
  pub sites : length w.centres ≡ w.cluster.quorums.centres
  pub nodes : (a : ℕ) → is_centre w.cluster a ≡ true → IsNode w.cluster a (facts_of w.ledger a) (centre_at w a).volatile
  pub logs : (a : ℕ) → is_centre w.cluster a ≡ true → log_length (facts_of w.ledger a) ≤ most_log
  pub cells : (a : ℕ) → is_centre w.cluster a ≡ true → FitInTurn w.cluster (facts_of w.ledger a)
  pub epochs : (a : ℕ) → is_centre w.cluster a ≡ true → epoch_of (facts_of w.ledger a) ≤ w.events + 1
  pub sent : AllByRecursion (IsSentWithin w.cluster) w.sent
  pub reads : AllByRecursion IsWellFormedKnown w.reads

-- it holds of the first world
abbrev pub FirstWorldIsWorld : Type 0
FirstWorldIsWorld = (cluster : Cluster) → IsCluster cluster → IsWorld (first_world cluster)

-- and after each input of a centre that passes no limit
abbrev pub WorldStays : Type 0
WorldStays =
    (w : World) (a : ℕ) (input : Input) (h : Happened)
    → IsWorld w → is_centre w.cluster a ≡ true → IsWellFormedInput input
    → input_applied w a input ≡ Ok h → IsWorld h.world

-- and where a message counts as delivered
abbrev pub DeliveredStays : Type 0
DeliveredStays =
    (w : World) (place events : ℕ) → w.events ≤ events → IsWorld w → IsWorld (record w { sent = with_delivered w.sent place; events = events })

-- and where an event is counted
abbrev pub CountedStays : Type 0
CountedStays = (w : World) → IsWorld w → IsWorld (counted_event w)

-- and after a read
abbrev pub ReadStays : Type 0
ReadStays =
    (w : World) (a : ℕ) (key : Key) → IsWorld w → is_centre w.cluster a ≡ true → IsKey key
    → IsWorld (read_happened w a key).world

-- and after a crash
abbrev pub CrashStays : Type 0
CrashStays = (w : World) (a : ℕ) → IsWorld w → is_centre w.cluster a ≡ true → IsWorld (crash_happened w a).world

-- and after a stop is armed
abbrev pub StopStays : Type 0
StopStays = (w : World) (a call : ℕ) (image : Image) → IsWorld w → is_centre w.cluster a ≡ true → IsWorld (stop_happened w a call image).world

-- and after a restart that passes no limit
abbrev pub RestartStays : Type 0
RestartStays =
    (w : World) (a : ℕ) (h : Happened)
    → IsWorld w → is_centre w.cluster a ≡ true → w.events < most_events
    → restarted w a ≡ Ok h → IsWorld h.world
