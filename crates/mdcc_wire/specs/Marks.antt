-- The marks of a message, read from its bytes one by one.
use Rattle.std.specs.Prelude.{ℕ, zero, suc, ◌==◌, if◌then◌else◌, List, [], ◌∷◌, Option, Some, None, Result, Ok, Err}
use Rattle.mdcc_base.specs.declared.identifiers.TxId.{TxId}
use Rattle.mdcc_option.specs.declared.choices.Mark.{Mark}
use Rattle.mdcc_struct.specs.Options.{Marks}
use Rattle.mdcc_def_messages.specs.declared.wire.WireFault.{WireFault}
use Rattle.mdcc_def_messages.specs.ReadingSteps.{◌>>=◌, u32_at, u64_at, checked}
use Rattle.mdcc_def_messages.specs.ReadingParts.{ballot_at, classic_at, entry_behind}
use Rattle.mdcc_def_messages.specs.Reading.{instance_at, at_least}

-- what follows from what was read, or nothing
abbrev pub marks_if : {X : Type 0} → Result X WireFault → (X → Marks) → Marks
marks_if (Ok x) next = next x
marks_if (Err fault) next = []

-- so many marks, up to the first fault
abbrev pub marks_from : (Option TxId → ℕ → Result ((TxId × Mark) × ℕ) WireFault) → ℕ → Option TxId → ℕ → Marks
marks_from read zero last at = []
marks_from read (suc count) last at = marks_if (read last at) (λ first. first.0 ∷ marks_from read count (Some first.0.0) first.1)

-- the marks of the structure at a place
abbrev pub options_marks : List ℕ → ℕ → List ℕ → ℕ → Marks
options_marks bytes at key version = marks_if (u32_at bytes at) (λ count. marks_from (entry_behind at key version bytes) count.0 None count.1)

-- the key and the version of a promise, and the place of its votes
abbrev pub votes_place : List ℕ → ℕ → Result ((List ℕ × ℕ) × ℕ) WireFault
votes_place bytes at = do
  place ← instance_at bytes at
  through ← checked (at_least place.1 place.0.1) (u64_at bytes place.1)
  ballot ← classic_at bytes through.1
  reported ← ballot_at bytes ballot.1
  Ok (place.0, reported.1)

-- the key and the version of an accept, and the place of its structure
abbrev pub options_place : List ℕ → ℕ → Result ((List ℕ × ℕ) × ℕ) WireFault
options_place bytes at = do
  place ← instance_at bytes at
  ballot ← classic_at bytes place.1
  Ok (place.0, ballot.1)

abbrev pub promise_marks : List ℕ → ℕ → Marks
promise_marks bytes at = marks_if (votes_place bytes at) (λ place. options_marks bytes place.1 place.0.0 place.0.1)

abbrev pub accept_marks : List ℕ → ℕ → Marks
accept_marks bytes at = marks_if (options_place bytes at) (λ place. options_marks bytes place.1 place.0.0 place.0.1)

-- the marks of a message of a kind, whose body is at a place
abbrev pub marks_by : ℕ → List ℕ → ℕ → Marks
marks_by kind bytes at =
    if kind == 6 then promise_marks bytes at
    else (if kind == 7 then accept_marks bytes at
    else [])
