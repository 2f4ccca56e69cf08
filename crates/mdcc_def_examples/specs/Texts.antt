-- What the examples of texts are about.
use Rattle.std.specs.Prelude.{ℕ, ℤ, pos, List, [], ◌∷◌, codes, Option, Some, None, Result, Ok, Err}
use Rattle.mdcc_base.specs.declared.identifiers.TxId.{TxId}
use Rattle.mdcc_option.specs.declared.cluster.Cluster.{Cluster}
use Rattle.mdcc_option.specs.declared.cluster.FastLimit.{FastLimit}
use Rattle.mdcc_option.specs.declared.items.Item.{Item}
use Rattle.mdcc_option.specs.declared.items.Known.{Known}
use Rattle.mdcc_option.specs.declared.items.Part.{Part}
use Rattle.mdcc_option.specs.declared.items.Update.{Update}
use Rattle.mdcc_def_language.specs.declared.events.Event.{Event}
use Rattle.mdcc_def_language.specs.declared.events.Event.TheVariants.{Begin}
use Rattle.mdcc_def_language.specs.declared.events.UpdateWord.{UpdateWord}
use Rattle.mdcc_def_language.specs.declared.schedule.HeaderCause.{HeaderCause}
use Rattle.mdcc_def_language.specs.declared.schedule.HeaderFault.{HeaderFault}
use Rattle.mdcc_def_language.specs.declared.schedule.SchedFault.{SchedFault}
use Rattle.mdcc_def_language.specs.Header.{header_of}
use Rattle.mdcc_def_simulation.specs.Replay.{Output, output_of, replay_of}
use Rattle.mdcc_def_language.specs.Schedule.{line_of}

-- ---- lines

-- quorums 5 3 4, one attribute from 0 to 1000
abbrev pub five_centres : Cluster
five_centres = record {
  quorums = record { centres = 5; classic = 3; fast = 4 };
  schema = (pos 0, pos 1000) ∷ [];
  gamma = 100;
  cells = 1048576;
  limit = FastLimit.Safe;
}

abbrev pub line : List ℕ → Result (Option Event) SchedFault
line text = line_of five_centres text

abbrev pub event : Event → Result (Option Event) SchedFault
event e = Ok (Some e)

-- a begin at centre 1 with one update word
abbrev pub begin_line_of : UpdateWord → Result (Option Event) SchedFault
begin_line_of word = event (Begin 1 (word ∷ []))

abbrev pub skipped : Result (Option Event) SchedFault
skipped = Ok None

abbrev pub item_with : List ℕ → List ℤ → Item
item_with body values = record { body = body; values = values }

-- ---- headers

abbrev pub header_read : List ℕ → Result (Cluster × ℕ) HeaderFault
header_read text = header_of text

-- the cluster of a header that ends before this place
abbrev pub accepted_header : Cluster → ℕ → Result (Cluster × ℕ) HeaderFault
accepted_header cluster end = Ok (cluster, end)

abbrev pub header_fault : ℕ → HeaderCause → Result (Cluster × ℕ) HeaderFault
header_fault number cause = Err (record { line = number; cause = cause })

-- ---- reads

abbrev pub tx_with : ℕ → ℕ → ℕ → TxId
tx_with centre epoch seq = record { centre = centre; epoch = epoch; seq = seq }

-- a read of `a` at version 3, after one delta on it
abbrev pub read_a : Known
read_a = record { key = codes "a"; token = record { version = 3; seen = tx_with 1 1 1 ∷ [] }; item = Some (item_with (255 ∷ []) (pos 7 ∷ [])) }

-- a read of `b`, which was never written
abbrev pub read_b : Known
read_b = record { key = codes "b"; token = record { version = 0; seen = [] }; item = None }

-- reads 1 and 3; read 2 was not made
abbrev pub reads_made : List (Option Known)
reads_made = Some read_a ∷ None ∷ Some read_b ∷ []

abbrev pub part_with : List ℕ → ℕ → Update → Part
part_with key version update = record { key = key; version = version; update = update }

-- ---- whole inputs

-- what a replay writes
abbrev pub replay_output : List ℕ → Output
replay_output text = output_of (replay_of text)

abbrev pub output : List ℕ → ℕ → List ℕ → Output
output text status error = record { text = text; status = status; error = error }
