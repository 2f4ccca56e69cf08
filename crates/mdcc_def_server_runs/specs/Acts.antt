-- What a server does, one act after another.
use Rattle.std.specs.Prelude.{Err, List, Ok, Option, Result, [], flat_map, if◌then◌else◌, map, ℕ, ◌==◌}
use Rattle.mdcc_base.specs.Counts.{sum_over}
use Rattle.mdcc_base.specs.declared.faults.Failed.{Failed}
use Rattle.mdcc_base.specs.declared.outside.Address.{Address}
use Rattle.mdcc_def_messages.specs.declared.facts.Fact.{Fact}
use Rattle.mdcc_def_server_runs.specs.Lines.{server_line_text}
use Rattle.mdcc_def_server_runs.specs.declared.lines.ServerLine.{ServerLine}

pub data Act : Type 0 where
  -- an endpoint is bound
  Bind : (at : ℕ) (address : Address) → Act
  -- a receive at an endpoint gave these bytes, or nothing
  Receive : (at : ℕ) (gave : Option (List ℕ)) → Act
  -- facts, the oldest first, are appended to the log of a centre together and are durable then, all of them or none, and a checkpoint
  -- that is due with them is made at once
  Append : (centre : ℕ) (facts : List Fact) → Act
  -- a datagram is handed to the link, which answers
  Send : (from : ℕ) (to : Address) (bytes : List ℕ) (answer : Result (Unit {0}) Failed) → Act
  -- a line is printed
  Print : (line : ServerLine) → Act
  -- a step is counted, or what is dropped, or a message that cannot be sent
  Stepped : Act
  Dropped : Act
  Unsent : Act

-- ---- what is seen of it

-- the facts that are appended to the log of a centre, in order
abbrev pub appended_by : ℕ → Act → List Fact
appended_by a (Act.Append centre facts) = if centre == a then facts else []
appended_by a _ = []

abbrev pub facts_appended : ℕ → List Act → List Fact
facts_appended a acts = flat_map (appended_by a) acts

-- the bytes that are printed
abbrev pub printed_by : Act → List ℕ
printed_by (Act.Print line) = server_line_text line
printed_by _ = []

abbrev pub printed : List Act → List ℕ
printed acts = flat_map printed_by acts

-- ---- counts

-- how many steps there were
abbrev pub steps_by : Act → ℕ
steps_by Act.Stepped = 1
steps_by _ = 0

-- how much was dropped
abbrev pub dropped_by : Act → ℕ
dropped_by Act.Dropped = 1
dropped_by _ = 0

-- the datagrams whose send failed, and the messages that were not sent
abbrev pub lost_by : Act → ℕ
lost_by (Act.Send from to bytes (Err _)) = 1
lost_by Act.Unsent = 1
lost_by _ = 0

abbrev pub steps_in : List Act → ℕ
steps_in acts = sum_over steps_by acts

abbrev pub dropped_in : List Act → ℕ
dropped_in acts = sum_over dropped_by acts

abbrev pub lost_in : List Act → ℕ
lost_in acts = sum_over lost_by acts

-- ---- what the link answers

-- the act, but for what the link answers to a send
abbrev pub but_answer : Act → Act
but_answer (Act.Send from to bytes answer) = Act.Send from to bytes (Ok tt)
but_answer act = act

abbrev pub but_answers : List Act → List Act
but_answers acts = map but_answer acts
