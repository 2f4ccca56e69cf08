use Rattle.std.proofs.Common.{◌≡◌, ◌+◌, ◌≤◌, length}
use Rattle.mdcc_def_language.specs.Lines.{lines_in}
use Rattle.mdcc_check_histories.specs.Tallies.{Tallies, Tally, first_tally, lines_tallied}
use Rattle.mdcc_check_histories.proofs.texts.check_rest.Given as goal

-- some tally is kept, and what the lines that are left come to from there is what all of them come to
abbrev pub invariant-loop-rest : goal.invariant-loop-rest
invariant-loop-rest l = record {
  kept : (t : Tally) × Tallies l.tallier t × (lines_tallied l.schema t (lines_in l.rest) ≡ lines_tallied l.schema (first_tally l.first) (lines_in l.text));
  number : l.tallier.number + length l.rest ≤ l.first + length l.text;
  counts : l.tallier.commits + l.tallier.reads ≤ l.tallier.number;
}

abbrev pub decreases-loop-rest : goal.decreases-loop-rest
decreases-loop-rest l = length l.rest
