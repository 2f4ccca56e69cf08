use Rattle.std.proofs.Common.{◌-◌, ◌≤◌, length}
use Rattle.mdcc_struct.specs.Fields.{marks_in}
use Rattle.mdcc_struct.specs.Places.{place_of}
use Rattle.mdcc_struct.proofs.options.Options.next_place.Given as goal

abbrev pub invariant-loop-place : goal.invariant-loop-place
invariant-loop-place l = l.place ≤ place_of (marks_in l.self-inside.accepted.items l.self-inside.entries.items) l.tx

abbrev pub decreases-loop-place : goal.decreases-loop-place
decreases-loop-place l = length l.self-inside.entries.items - l.place
