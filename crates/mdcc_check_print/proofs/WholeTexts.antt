-- A history that is written is read.
use Rattle.std.proofs.Common.{◌≡◌, ℕ, ◌+◌, List, [], ◌∷◌, ◌++◌, length, map, flat_map, codes, ℤ, Result, Ok, refl, ap, ◌∙◌}
use Rattle.mdcc_check.specs.declared.history.HistoryLine.{HistoryLine}
use Rattle.mdcc_def_language.specs.Header.{UnreadLines}
use Rattle.mdcc_def_language.specs.Lines.{lines_in}
use Rattle.mdcc_def_language.specs.declared.schedule.HeaderFault.{HeaderFault}
use Rattle.mdcc_def_language.specs.Words.{◌>>=◌}
use Rattle.mdcc_option.specs.Bounds.{IsSchema}
use Rattle.mdcc_check_print.proofs.HeaderTexts.{header-is, header-lines, line-first}
use Rattle.mdcc_check_print.proofs.LineTexts.{line-free, printed-read}
use Rattle.mdcc_check_histories.specs.Grammar.{history_header}
use Rattle.mdcc_check_print.specs.Printable.{ArePrintable, numbered_from}
use Rattle.mdcc_check_print.specs.Text.{bound_text, history_line_text, history_text, history_words_text}
use Rattle.mdcc_check_histories.specs.Texts.{NumberedLine, at_line, history_of, in_header, lines_from, onto_lines}
use Rattle.mdcc_check_histories.specs.declared.texts.HistoryFault.{HistoryFault}

module _ (schema : List (ℤ × ℤ)) where
  texts-are : (lines : List HistoryLine) → ArePrintable schema lines → lines_in (flat_map history_line_text lines) ≡ map history_line_text lines
  texts-are [] h = refl
  texts-are (line ∷ lines) h =
      line-first (history_words_text line) (flat_map history_line_text lines) (line-free schema line h.0) ∙ ap (λ texts. history_line_text line ∷ texts) (texts-are lines h.1)

  abbrev Lines : Type 0
  Lines = Result (List NumberedLine) HistoryFault

  lines-are : (number : ℕ) (lines : List HistoryLine) → ArePrintable schema lines → lines_from schema number (map history_line_text lines) ≡ Ok (numbered_from number lines)
  lines-are number [] h = refl
  lines-are number (line ∷ lines) h =
      ap (λ read. at_line number read >>= λ line. lines_from schema (number + 1) (map history_line_text lines) >>= λ lines. let r : Lines = Ok (onto_lines number line lines) in r) (printed-read schema line h.0)
      ∙ ap (λ read. read >>= λ lines. let r : Lines = Ok ((number, line) ∷ lines) in r) (lines-are (number + 1) lines h.1)

  abbrev History : Type 0
  History = Result (List (ℤ × ℤ) × List NumberedLine) HistoryFault

  pub history-read : (lines : List HistoryLine) → IsSchema schema → ArePrintable schema lines → history_of (history_text schema lines) ≡ Ok (schema, numbered_from (length schema + 3) lines)
  history-read lines s h =
      let texts : List (List ℕ) = map history_line_text lines in
      let header = header-is schema texts s in
      let all : lines_in (history_text schema lines) ≡ codes "mdcc-history 1\n" ∷ (map bound_text schema ++ (codes "start\n" ∷ texts)) =
      header-lines schema (flat_map history_line_text lines) s ∙ ap (λ ls. codes "mdcc-history 1\n" ∷ (map bound_text schema ++ (codes "start\n" ∷ ls))) (texts-are lines h) in
      ap (λ ls. finish (history_header (record { lines = ls; at = 0; number = 1 }))) all
      ∙ ap finish header.1
      ∙ ap (λ r. r >>= λ ls. let found : History = Ok (schema, ls) in found) (lines-are (length schema + 3) lines h)
    where
      finish : Result (List (ℤ × ℤ) × UnreadLines) HeaderFault → History
      finish read = in_header read >>= λ header. lines_from header.0 header.1.number header.1.lines >>= λ lines. Ok (header.0, lines)
