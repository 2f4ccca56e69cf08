-- What is found of a whole text: it is read as the numbered lines of a history, and these are judged.
use Rattle.std.specs.Prelude.{Err, List, None, Ok, Option, Result, Some, [], get_or, if◌then◌else◌, length, map, nat_lt, ℕ, ℤ, ◌+◌, ◌∷◌}
use Rattle.mdcc_def_language.specs.Errors.{most_input}
use Rattle.mdcc_def_language.specs.Header.{all_of}
use Rattle.mdcc_def_language.specs.Words.{◌>>=◌}
use Rattle.mdcc_def_language.specs.declared.schedule.HeaderFault.{HeaderFault}
use Rattle.mdcc_check.specs.Verdicts.{verdict_of}
use Rattle.mdcc_check.specs.declared.history.HistoryLine.{HistoryLine}
use Rattle.mdcc_check.specs.declared.history.Verdict.{Verdict}
use Rattle.mdcc_check_histories.specs.Grammar.{history_header, line_in}
use Rattle.mdcc_check_histories.specs.declared.lines.LineFault.{LineFault}
use Rattle.mdcc_check_histories.specs.declared.texts.HistoryFault.{HistoryFault}
use Rattle.mdcc_check_histories.specs.declared.texts.TextVerdict.{TextVerdict}

-- ---- a text as a history

-- a line of a history with the number of its line in the text
abbrev pub NumberedLine : Type 0
NumberedLine = ℕ × HistoryLine

abbrev pub in_header : {A : Type 0} → Result A HeaderFault → Result A HistoryFault
in_header (Ok x) = Ok x
in_header (Err fault) = Err (HistoryFault.Header fault)

abbrev pub at_line : {A : Type 0} → ℕ → Result A LineFault → Result A HistoryFault
at_line number (Ok x) = Ok x
at_line number (Err fault) = Err (HistoryFault.Line number fault)

abbrev pub onto_lines : ℕ → Option HistoryLine → List NumberedLine → List NumberedLine
onto_lines number None lines = lines
onto_lines number (Some line) lines = (number, line) ∷ lines

-- the lines of a history that these lines of a text are, the first of which has this number, or the first that is refused
abbrev pub lines_from : List (ℤ × ℤ) → ℕ → List (List ℕ) → Result (List NumberedLine) HistoryFault
lines_from schema number [] = Ok []
lines_from schema number (text ∷ texts) = (do
  line ← at_line number (line_in schema text)
  lines ← lines_from schema (number + 1) texts
  Ok (onto_lines number line lines))

-- the schema and the lines of a text
abbrev pub history_of : List ℕ → Result (List (ℤ × ℤ) × List NumberedLine) HistoryFault
history_of text = (do
  header ← in_header (history_header (all_of text))
  lines ← lines_from header.0 header.1.number header.1.lines
  Ok (header.0, lines))

-- ---- the verdict on it

abbrev pub history_lines : List NumberedLine → List HistoryLine
history_lines lines = map (λ line. line.1) lines

-- a line of the history is named by the number of its line in the text
abbrev pub verdict_numbered : List NumberedLine → Verdict → TextVerdict
verdict_numbered lines (Verdict.Yes commits reads) = TextVerdict.Yes commits reads
verdict_numbered lines (Verdict.No place cause) = TextVerdict.No (get_or (map (λ line. line.0) lines) place 0) cause

-- a text within the limit is read as a history, of which there is a verdict
abbrev pub text_verdict_of : List ℕ → Result TextVerdict HistoryFault
text_verdict_of text =
    if nat_lt most_input (length text) then Err HistoryFault.TooLong
    else (history_of text >>= λ history. Ok (verdict_numbered history.1 (verdict_of history.0 (history_lines history.1))))
