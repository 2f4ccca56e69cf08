-- A text has the verdict yes where and only where it is a right history.
use Rattle.std.proofs.Common.{◌≡◌, ℕ, suc, ◌+◌, ◌-◌, ◌≤◌, Bool, true, false, cond, nat_lt, List, [], ◌∷◌, length, ℤ, Option, Some, None, Result, Ok, Err, refl, sym, ap, subst, ◌∙◌, arith}
use Rattle.std.proofs.lemmas.Bool.{ltb-true}
use Rattle.mdcc_base.specs.Counts.{number_of}
use Rattle.mdcc_check.proofs.Right.{yes-right}
use Rattle.mdcc_check.proofs.Yes.{right-yes}
use Rattle.mdcc_check.specs.Histories.{AreLines, IsRightHistory}
use Rattle.mdcc_check.specs.Verdicts.{is_commit, verdict_of}
use Rattle.mdcc_check.specs.declared.history.HistoryLine.{HistoryLine}
use Rattle.mdcc_check.specs.declared.history.Verdict.{Verdict}
use Rattle.mdcc_def_language.specs.Errors.{most_input}
use Rattle.mdcc_def_language.specs.Header.{UnreadLines, all_of}
use Rattle.mdcc_def_language.specs.Words.{◌>>=◌}
use Rattle.mdcc_def_language.specs.declared.schedule.HeaderFault.{HeaderFault}
use Rattle.mdcc_check_histories.proofs.Typed.{read-is-line}
use Rattle.mdcc_check_histories.specs.Grammar.{history_header, line_in}
use Rattle.mdcc_check_histories.specs.Texts.{NumberedLine, at_line, history_lines, history_of, in_header, lines_from, onto_lines, text_verdict_of, verdict_numbered}
use Rattle.mdcc_check_histories.specs.declared.lines.LineFault.{LineFault}
use Rattle.mdcc_check_histories.specs.declared.texts.HistoryFault.{HistoryFault}
use Rattle.mdcc_check_histories.specs.declared.texts.TextVerdict.{TextVerdict}

abbrev History : Type 0
History = List (ℤ × ℤ) × List NumberedLine

abbrev judged : Result History HistoryFault → Result TextVerdict HistoryFault
judged read = read >>= λ history. Ok (verdict_numbered history.1 (verdict_of history.0 (history_lines history.1)))

pub not-long : (text : List ℕ) → length text ≤ most_input → nat_lt most_input (length text) ≡ false
not-long text h = by (nat_lt most_input (length text)) refl
  where
    by : (b : Bool) → nat_lt most_input (length text) ≡ b → b ≡ false
    by false e = refl
    by true e = absurd (omega (arith, ltb-true most_input (length text) e, h))

-- the verdict on a text whose header is read
pub text-judged : (text : List ℕ) (header : List (ℤ × ℤ) × UnreadLines) → length text ≤ most_input → history_header (all_of text) ≡ Ok header
    → (let r : Result TextVerdict HistoryFault = lines_from header.0 header.1.number header.1.lines >>= λ lines. Ok (verdict_numbered lines (verdict_of header.0 (history_lines lines))) in r) ≡ text_verdict_of text
text-judged text header few is =
    by (lines_from header.0 header.1.number header.1.lines)
    ∙ sym (ap (λ r. judged (in_header r >>= λ header. lines_from header.0 header.1.number header.1.lines >>= λ lines. let h : Result History HistoryFault = Ok (header.0, lines) in h)) is)
    ∙ sym (ap (λ b. cond b (Err HistoryFault.TooLong) (judged (history_of text))) (not-long text few))
  where
    by : (read : Result (List NumberedLine) HistoryFault) → (let r : Result TextVerdict HistoryFault = read >>= λ lines. Ok (verdict_numbered lines (verdict_of header.0 (history_lines lines))) in r)
        ≡ judged (read >>= λ lines. Ok (header.0, lines))
    by (Ok lines) = refl
    by (Err fault) = refl

-- ---- yes, so right

numbered-yes : (lines : List NumberedLine) (verdict : Verdict) (commits reads : ℕ)
    → (let r : Result TextVerdict HistoryFault = Ok (verdict_numbered lines verdict) in r) ≡ Ok (TextVerdict.Yes commits reads) → verdict ≡ Verdict.Yes commits reads
numbered-yes lines (Verdict.Yes c r) commits reads e = cc
numbered-yes lines (Verdict.No place cause) commits reads e = absurd (cc)

pub yes-text : (text : List ℕ) (commits reads : ℕ) → text_verdict_of text ≡ Ok (TextVerdict.Yes commits reads)
    → (history : History) × (history_of text ≡ Ok history) × IsRightHistory history.0 (history_lines history.1)
yes-text text commits reads e = by (nat_lt most_input (length text)) (history_of text) refl e
  where
    by : (long : Bool) (read : Result History HistoryFault) → history_of text ≡ read → cond long (Err HistoryFault.TooLong) (judged read) ≡ Ok (TextVerdict.Yes commits reads)
        → (history : History) × (history_of text ≡ Ok history) × IsRightHistory history.0 (history_lines history.1)
    by true read is e = absurd (cc)
    by false (Err fault) is e = absurd (cc)
    by false (Ok history) is e =
        (history, is, yes-right history.0 (history_lines history.1) commits reads (numbered-yes history.1 (verdict_of history.0 (history_lines history.1)) commits reads e))

-- ---- right, so yes

abbrev EachIsLine : Result (List NumberedLine) HistoryFault → Type 0
EachIsLine (Ok lines) = AreLines (history_lines lines)
EachIsLine (Err fault) = Unit {0}

lines-typed : (schema : List (ℤ × ℤ)) (number : ℕ) (texts : List (List ℕ)) → EachIsLine (lines_from schema number texts)
lines-typed schema number [] = tt
lines-typed schema number (text ∷ texts) = by (line_in schema text) refl (lines_from schema (number + 1) texts) (lines-typed schema (number + 1) texts)
  where
    by : (line : Result (Option HistoryLine) LineFault) → line_in schema text ≡ line → (read : Result (List NumberedLine) HistoryFault) → EachIsLine read
        → EachIsLine (at_line number line >>= λ line. read >>= λ lines. Ok (onto_lines number line lines))
    by (Err fault) is read each = tt
    by (Ok line) is (Err fault) each = tt
    by (Ok None) is (Ok lines) each = each
    by (Ok (Some line)) is (Ok lines) each = (read-is-line schema text line is, each)

typed : (text : List ℕ) (history : History) → history_of text ≡ Ok history → AreLines (history_lines history.1)
typed text history e = by (history_header (all_of text)) e
  where
    made : (schema : List (ℤ × ℤ)) (read : Result (List NumberedLine) HistoryFault) → EachIsLine read
        → (let r : Result History HistoryFault = read >>= λ lines. Ok (schema, lines) in r) ≡ Ok history → AreLines (history_lines history.1)
    made schema (Ok lines) each e = let same : lines ≡ history.1 = cc in subst (λ ls. AreLines (history_lines ls)) same each
    made schema (Err fault) each e = absurd (cc)

    by : (header : Result (List (ℤ × ℤ) × UnreadLines) HeaderFault)
        → (let r : Result History HistoryFault = in_header header >>= λ header. lines_from header.0 header.1.number header.1.lines >>= λ lines. Ok (header.0, lines) in r) ≡ Ok history
        → AreLines (history_lines history.1)
    by (Err fault) e = absurd (cc)
    by (Ok header) e = made header.0 (lines_from header.0 header.1.number header.1.lines) (lines-typed header.0 header.1.number header.1.lines) e

pub right-text : (text : List ℕ) (history : History) → length text ≤ most_input → history_of text ≡ Ok history → IsRightHistory history.0 (history_lines history.1)
    → text_verdict_of text ≡ Ok (TextVerdict.Yes (number_of is_commit (history_lines history.1)) (length history.1 - number_of is_commit (history_lines history.1)))
right-text text history few is right =
    ap (λ b. cond b (Err HistoryFault.TooLong) (judged (history_of text))) (not-long text few)
    ∙ ap judged is
    ∙ ap (λ v. let r : Result TextVerdict HistoryFault = Ok (verdict_numbered history.1 v) in r) (right-yes history.0 (history_lines history.1) (typed text history is) right)
    ∙ ap (λ n. let r : Result TextVerdict HistoryFault = Ok (TextVerdict.Yes (number_of is_commit (history_lines history.1)) (n - number_of is_commit (history_lines history.1))) in r) (same-length history.1)
  where
    same-length : (lines : List NumberedLine) → length (history_lines lines) ≡ length lines
    same-length [] = refl
    same-length (line ∷ lines) = ap (λ n. suc n) (same-length lines)
