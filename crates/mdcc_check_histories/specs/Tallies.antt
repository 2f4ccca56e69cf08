-- What the lines of a text come to one after another, when none of them is kept.
use Rattle.std.specs.Prelude.{Bool, Err, List, None, Ok, Option, Result, Some, [], true, false, if◌then◌else◌, ℕ, ℤ, ◌+◌, ◌∷◌, ◌≡◌}
use Rattle.std.specs.Bool.{OnFalse}
use Rattle.mdcc_def_language.specs.Words.{◌>>=◌}
use Rattle.mdcc_check.specs.Verdicts.{Progress, RepresentsProgress, after_line, first_progress, is_commit, line_cause}
use Rattle.mdcc_check.specs.declared.history.HistoryCause.{HistoryCause}
use Rattle.mdcc_check.specs.declared.history.HistoryLine.{HistoryLine}
use Rattle.mdcc_check_histories.specs.Grammar.{drafted, drafted_or_none, line_in}
use Rattle.mdcc_check_histories.specs.Texts.{at_line}
use Rattle.mdcc_check_histories.specs.declared.lines.Spelled.{Spelled}
use Rattle.mdcc_check_histories.specs.declared.texts.HistoryFault.{HistoryFault}
use Rattle.mdcc_check_histories.specs.declared.texts.Tallier.{Tallier}
use Rattle.mdcc_check_histories.specs.declared.texts.TextVerdict.{TextVerdict}

-- the number of the next line, how many commits and reads there were, the first line that failed with its cause, and what the lines came to,
-- which counts while none failed
pub record Tally : Type 0 where
  pub number : ℕ
  pub commits : ℕ
  pub reads : ℕ
  pub found : Option (ℕ × HistoryCause)
  pub progress : Progress

abbrev pub first_tally : ℕ → Tally
first_tally number = record { number = number; commits = 0; reads = 0; found = None; progress = first_progress }

-- what was found before, or why the line of this number fails
abbrev pub found_first : Option (ℕ × HistoryCause) → ℕ → Option HistoryCause → Option (ℕ × HistoryCause)
found_first (Some found) number cause = Some found
found_first None number (Some cause) = Some (number, cause)
found_first None number None = None

abbrev pub is_read_line : HistoryLine → Bool
is_read_line (HistoryLine.Commit tx parts) = false
is_read_line (HistoryLine.Read known) = true

abbrev pub one_if : Bool → ℕ
one_if b = if b then 1 else 0

abbrev pub with_line : List (ℤ × ℤ) → Tally → HistoryLine → Tally
with_line schema t line = record {
  number = t.number;
  commits = t.commits + one_if (is_commit line);
  reads = t.reads + one_if (is_read_line line);
  found = found_first t.found t.number (line_cause schema t.progress line);
  progress = after_line schema t.progress line;
}

abbrev pub with_line_or_none : List (ℤ × ℤ) → Tally → Option HistoryLine → Tally
with_line_or_none schema t None = t
with_line_or_none schema t (Some line) = with_line schema t line

abbrev pub numbered_next : Tally → Tally
numbered_next t = record t { number = t.number + 1 }

-- a line as it is spelled, and one that may be none
abbrev pub tally_spelled : List (ℤ × ℤ) → Tally → Spelled → Result Tally HistoryFault
tally_spelled schema t spelled = at_line t.number (drafted schema spelled) >>= λ line. Ok (with_line schema t line)

abbrev pub tally_any : List (ℤ × ℤ) → Tally → Option Spelled → Result Tally HistoryFault
tally_any schema t spelled = at_line t.number (drafted_or_none schema spelled) >>= λ line. Ok (with_line_or_none schema t line)

-- a line of the text
abbrev pub tally_line : List (ℤ × ℤ) → Tally → List ℕ → Result Tally HistoryFault
tally_line schema t text = at_line t.number (line_in schema text) >>= λ line. Ok (numbered_next (with_line_or_none schema t line))

-- all lines of a text
abbrev pub lines_tallied : List (ℤ × ℤ) → Tally → List (List ℕ) → Result Tally HistoryFault
lines_tallied schema t [] = Ok t
lines_tallied schema t (text ∷ texts) = tally_line schema t text >>= λ next. lines_tallied schema next texts

abbrev pub verdict_found : ℕ → ℕ → Option (ℕ × HistoryCause) → TextVerdict
verdict_found commits reads None = TextVerdict.Yes commits reads
verdict_found commits reads (Some (number, cause)) = TextVerdict.No number cause

abbrev pub verdict_in : Tally → TextVerdict
verdict_in t = verdict_found t.commits t.reads t.found

abbrev pub verdict_on : Result Tally HistoryFault → Result TextVerdict HistoryFault
verdict_on read = read >>= λ t. Ok (verdict_in t)

-- ---- as it is kept

abbrev pub is_memory : HistoryFault → Bool
is_memory HistoryFault.Memory = true
is_memory fault = false

-- a call that takes lines gives what was expected, or memory lacked
abbrev pub Takes : (Tally → Type 0) → Result (Unit {0}) HistoryFault → Result Tally HistoryFault → Type 0
Takes tallies (Ok done) (Ok t) = tallies t
Takes tallies (Ok done) (Err fault) = ⊥
Takes tallies (Err fault) expected = OnFalse (is_memory fault) (Err fault ≡ expected)

pub record Tallies (tallier : Tallier) (t : Tally) : Type 0 where
  pub number : tallier.number ≡ t.number
  pub commits : tallier.commits ≡ t.commits
  pub reads : tallier.reads ≡ t.reads
  pub found : tallier.found ≡ t.found
  pub checker : t.found ≡ None → RepresentsProgress tallier.checker t.progress
