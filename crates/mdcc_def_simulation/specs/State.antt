-- The world: the nodes of a cluster and the messages between them.
use Rattle.std.specs.Prelude.{Bool, List, None, Option, [], false, get_or, length, replicate, set, suc, true, zero, ℕ, ◌&&◌, ◌++◌, ◌+◌, ◌-◌, ◌∷◌}
use Rattle.mdcc_option.specs.declared.cluster.Cluster.{Cluster}
use Rattle.mdcc_option.specs.declared.items.Known.{Known}
use Rattle.mdcc_def_protocol.specs.Belongs.{is_centre}
use Rattle.mdcc_def_ledger.specs.Ledger.{Added, Entry}
use Rattle.mdcc_def_protocol.specs.Volatile.{Volatile, initial_volatile}
use Rattle.mdcc_def_messages.specs.declared.facts.Fact.{Fact}
use Rattle.mdcc_base.specs.declared.outside.Image.{Image}
use Rattle.mdcc_def_language.specs.declared.lines.Line.{Line}
use Rattle.mdcc_def_messages.specs.Mailbox.{Sent}

-- a centre: whether it is up, the call and the image of an armed stop, how many frames the tail of its log has, and what it loses
-- in a crash
pub record SimulatedSite : Type 0 where
  pub is_up : Bool
  pub stop : Option (ℕ × Image)
  pub tail : ℕ
  pub volatile : Volatile

-- the ledger, the messages sent and their bytes, the reads made, the number of events, and the centres in order
pub record World : Type 0 where
  pub cluster : Cluster
  pub ledger : List Entry
  pub sent : List Sent
  pub bytes : ℕ
  pub reads : List Known
  pub events : ℕ
  pub centres : List SimulatedSite

-- booted for the first time: its log has the frame of that boot alone
abbrev pub booted : SimulatedSite
booted = record { is_up = true; stop = None; tail = 1; volatile = initial_volatile }

-- down, with this many frames in the tail of its log
abbrev pub down : ℕ → SimulatedSite
down tail = record { is_up = false; stop = None; tail = tail; volatile = initial_volatile }

-- the first n centres booted for the first time
abbrev pub booted_to : ℕ → List Entry
booted_to zero = []
booted_to (suc n) = Added (suc n) (Fact.Booted 1) ∷ booted_to n

-- all centres booted for the first time
abbrev pub first_world : Cluster → World
first_world cluster = record {
  cluster = cluster;
  ledger = booted_to cluster.quorums.centres;
  sent = [];
  bytes = 0;
  reads = [];
  events = 0;
  centres = replicate cluster.quorums.centres booted;
}

-- the centres are numbered from 1, and so are the messages and the reads
abbrev pub centre_at : World → ℕ → SimulatedSite
centre_at w a = get_or w.centres (a - 1) booted

abbrev pub with_centre : World → ℕ → SimulatedSite → World
with_centre w a centre = record w { centres = set w.centres (a - 1) centre }

-- only a centre of the cluster is up
abbrev pub is_up_at : World → ℕ → Bool
is_up_at w a = is_centre w.cluster a && (centre_at w a).is_up

-- the number of the next message
abbrev pub next_message : World → ℕ
next_message w = length w.sent + 1

-- what happened: the world afterwards, and the lines of the report
pub record Happened : Type 0 where
  pub world : World
  pub lines : List Line

-- what happened before, and then this
abbrev pub after_lines : List Line → Happened → Happened
after_lines lines h = record { world = h.world; lines = lines ++ h.lines }

-- one event more
abbrev pub counted_event : World → World
counted_event w = record w { events = w.events + 1 }
