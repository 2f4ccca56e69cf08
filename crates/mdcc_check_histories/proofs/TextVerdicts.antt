-- What is found of the lines of a text one after another is the verdict on all of them.
use Rattle.std.proofs.Common.{◌≡◌, ℕ, ◌+◌, ◌-◌, List, [], ◌∷◌, length, map, get_or, ℤ, Option, Some, None, option_map, Result, Ok, Err, refl, sym, ap, ◌∙◌, arith, add-one}
use Rattle.mdcc_base.specs.Counts.{number_of}
use Rattle.mdcc_check.specs.Verdicts.{Progress, after_line, first_fault, first_progress, history_verdict_by, is_commit, line_cause, onto_fault, verdict_of}
use Rattle.mdcc_check.specs.declared.history.HistoryCause.{HistoryCause}
use Rattle.mdcc_check.specs.declared.history.HistoryLine.{HistoryLine}
use Rattle.mdcc_def_language.specs.Words.{◌>>=◌}
use Rattle.mdcc_check_histories.specs.Grammar.{line_in}
use Rattle.mdcc_check_histories.specs.Tallies.{Tally, first_tally, found_first, is_read_line, lines_tallied, numbered_next, one_if, verdict_found, verdict_in, with_line, with_line_or_none}
use Rattle.mdcc_check_histories.specs.Texts.{NumberedLine, at_line, history_lines, lines_from, onto_lines, verdict_numbered}
use Rattle.mdcc_check_histories.specs.declared.lines.LineFault.{LineFault}
use Rattle.mdcc_check_histories.specs.declared.texts.HistoryFault.{HistoryFault}
use Rattle.mdcc_check_histories.specs.declared.texts.TextVerdict.{TextVerdict}

numbers : List NumberedLine → List ℕ
numbers lines = map (λ line. line.0) lines

-- ---- faults by their numbers

-- a fault by the number of its line
abbrev by_number : List NumberedLine → Option (ℕ × HistoryCause) → Option (ℕ × HistoryCause)
by_number lines = option_map (λ fault. (get_or (map (λ line. line.0) lines) fault.0 0, fault.1))

abbrev further : Option (ℕ × HistoryCause) → Option (ℕ × HistoryCause)
further = option_map (λ fault. (fault.0 + 1, fault.1))

further-fault : (place : ℕ) (cause : Option HistoryCause) (later : Option (ℕ × HistoryCause)) → onto_fault (place + 1) cause (further later) ≡ further (onto_fault place cause later)
further-fault place None later = refl
further-fault place (Some cause) later = refl

by-further : (line : NumberedLine) (lines : List NumberedLine) (fault : Option (ℕ × HistoryCause)) → by_number (line ∷ lines) (further fault) ≡ by_number lines fault
by-further line lines None = refl
by-further line lines (Some (place, cause)) = ap (λ n. Some (get_or (map (λ (l : NumberedLine). l.0) (line ∷ lines)) n 0, cause)) (add-one place)

plus-zero : (n : ℕ) → n ≡ n + 0
plus-zero n = omega arith

zero-plus : (n : ℕ) → 0 + n ≡ n
zero-plus n = omega arith

module _ (schema : List (ℤ × ℤ)) where
  fault-further : (place : ℕ) (p : Progress) (lines : List HistoryLine) → first_fault schema (place + 1) p lines ≡ further (first_fault schema place p lines)
  fault-further place p [] = refl
  fault-further place p (line ∷ lines) =
      ap (onto_fault (place + 1) (line_cause schema p line)) (fault-further (place + 1) (after_line schema p line) lines)
      ∙ further-fault place (line_cause schema p line) (first_fault schema (place + 1) (after_line schema p line) lines)

  -- the first line that fails, by its number
  abbrev fault_in : Progress → List NumberedLine → Option (ℕ × HistoryCause)
  fault_in p [] = None
  fault_in p (line ∷ lines) = onto_fault line.0 (line_cause schema p line.1) (fault_in (after_line schema p line.1) lines)

  fault-first : (line : NumberedLine) (lines : List NumberedLine) (cause : Option HistoryCause) (fault : Option (ℕ × HistoryCause))
      → onto_fault line.0 cause (by_number lines fault) ≡ by_number (line ∷ lines) (onto_fault 0 cause (further fault))
  fault-first line lines None fault = sym (by-further line lines fault)
  fault-first line lines (Some cause) fault = refl

  fault-numbered : (p : Progress) (lines : List NumberedLine) → fault_in p lines ≡ by_number lines (first_fault schema 0 p (history_lines lines))
  fault-numbered p [] = refl
  fault-numbered p (line ∷ lines) =
      let later = first_fault schema 0 (after_line schema p line.1) (history_lines lines) in
      ap (onto_fault line.0 (line_cause schema p line.1)) (fault-numbered (after_line schema p line.1) lines)
      ∙ fault-first line lines (line_cause schema p line.1) later
      ∙ ap (λ f. by_number (line ∷ lines) (onto_fault 0 (line_cause schema p line.1) f)) (sym (fault-further 0 (after_line schema p line.1) (history_lines lines)))

  -- ---- numbered lines in turn

  abbrev judged : Tally → List NumberedLine → Tally
  judged t [] = t
  judged t (line ∷ lines) = judged (with_line schema (record t { number = line.0 }) line.1) lines

  -- the number of the next line does not count
  same-verdict : (t : Tally) (lines : List NumberedLine) → verdict_in (judged (numbered_next t) lines) ≡ verdict_in (judged t lines)
  same-verdict t [] = refl
  same-verdict t (line ∷ lines) = refl

  -- what failed stays
  found-kept : (t : Tally) (lines : List NumberedLine) (number : ℕ) (cause : HistoryCause) → t.found ≡ Some (number, cause) → verdict_in (judged t lines) ≡ TextVerdict.No number cause
  found-kept t [] number cause e = ap (verdict_found t.commits t.reads) e
  found-kept t (line ∷ lines) number cause e =
      found-kept (with_line schema (record t { number = line.0 }) line.1) lines number cause (ap (λ f. found_first f line.0 (line_cause schema t.progress line.1)) e)

  abbrev Counted : Tally → List NumberedLine → Option (ℕ × HistoryCause) → TextVerdict
  Counted t lines found = verdict_found (t.commits + number_of is_commit (history_lines lines)) (t.reads + number_of is_read_line (history_lines lines)) found

  abbrev after : Tally → NumberedLine → Tally
  after t line = with_line schema (record t { number = line.0 }) line.1

  judged-found : (t : Tally) (lines : List NumberedLine) → t.found ≡ None → verdict_in (judged t lines) ≡ Counted t lines (fault_in t.progress lines)
  judged-found t [] e =
      ap (verdict_found t.commits t.reads) e
      ∙ ap (λ n. verdict_found n t.reads None) (plus-zero t.commits) ∙ ap (λ n. verdict_found (t.commits + 0) n None) (plus-zero t.reads)
  judged-found t (line ∷ lines) e = by (line_cause schema t.progress line.1) refl (judged-found (after t line) lines)
    where
      counts : (found : Option (ℕ × HistoryCause)) → Counted (after t line) lines found ≡ Counted t (line ∷ lines) found
      counts found =
          let commits : (after t line).commits + number_of is_commit (history_lines lines) ≡ t.commits + number_of is_commit (history_lines (line ∷ lines)) = omega arith in
          let reads : (after t line).reads + number_of is_read_line (history_lines lines) ≡ t.reads + number_of is_read_line (history_lines (line ∷ lines)) = omega arith in
          rw (commits, reads) refl

      by : (cause : Option HistoryCause) → line_cause schema t.progress line.1 ≡ cause → ((after t line).found ≡ None → verdict_in (judged (after t line) lines) ≡ Counted (after t line) lines (fault_in (after t line).progress lines))
          → verdict_in (judged (after t line) lines) ≡ Counted t (line ∷ lines) (fault_in t.progress (line ∷ lines))
      by None c ih =
          let found : (after t line).found ≡ None = ap (λ f. found_first f line.0 (line_cause schema t.progress line.1)) e ∙ ap (found_first None line.0) c in
          ih found ∙ counts (fault_in (after t line).progress lines) ∙ ap (λ o. Counted t (line ∷ lines) (onto_fault line.0 o (fault_in (after t line).progress lines))) (sym c)
      by (Some cause) c ih =
          let found : (after t line).found ≡ Some (line.0, cause) = ap (λ f. found_first f line.0 (line_cause schema t.progress line.1)) e ∙ ap (found_first None line.0) c in
          found-kept (after t line) lines line.0 cause found
          ∙ ap (λ o. Counted t (line ∷ lines) (onto_fault line.0 o (fault_in (after t line).progress lines))) (sym c)

  -- ---- the verdict on numbered lines

  reads-of : (lines : List HistoryLine) → number_of is_commit lines + number_of is_read_line lines ≡ length lines
  reads-of [] = refl
  reads-of (HistoryLine.Commit tx parts ∷ lines) = let ih = reads-of lines in omega arith
  reads-of (HistoryLine.Read known ∷ lines) = let ih = reads-of lines in omega arith

  numbered-by : (lines : List NumberedLine) (fault : Option (ℕ × HistoryCause))
      → verdict_found (number_of is_commit (history_lines lines)) (number_of is_read_line (history_lines lines)) (by_number lines fault) ≡ verdict_numbered lines (history_verdict_by (history_lines lines) fault)
  numbered-by lines (Some (place, cause)) = refl
  numbered-by lines None =
      let all = reads-of (history_lines lines) in
      let reads : number_of is_read_line (history_lines lines) ≡ length (history_lines lines) - number_of is_commit (history_lines lines) = omega arith in
      ap (TextVerdict.Yes (number_of is_commit (history_lines lines))) reads

  first-judged : (number : ℕ) (lines : List NumberedLine) → verdict_in (judged (first_tally number) lines) ≡ verdict_numbered lines (verdict_of schema (history_lines lines))
  first-judged number lines =
      let commits : ℕ = number_of is_commit (history_lines lines) in
      let reads : ℕ = number_of is_read_line (history_lines lines) in
      let found = by_number lines (first_fault schema 0 first_progress (history_lines lines)) in
      judged-found (first_tally number) lines refl
      ∙ ap (Counted (first_tally number) lines) (fault-numbered first_progress lines)
      ∙ ap (λ n. verdict_found n (0 + reads) found) (zero-plus commits) ∙ ap (λ n. verdict_found commits n found) (zero-plus reads)
      ∙ numbered-by lines (first_fault schema 0 first_progress (history_lines lines))

  -- ---- lines of a text in turn

  abbrev Found : Type 0
  Found = Result TextVerdict HistoryFault

  abbrev verdict_on : Tally → Result (List NumberedLine) HistoryFault → Found
  verdict_on t read = read >>= λ lines. Ok (verdict_in (judged t lines))

  skipped : (t : Tally) (read : Result (List NumberedLine) HistoryFault)
      → verdict_on (numbered_next t) read ≡ verdict_on t (read >>= λ lines. Ok (onto_lines t.number None lines))
  skipped t (Err fault) = refl
  skipped t (Ok lines) = ap (λ v. let found : Found = Ok v in found) (same-verdict t lines)

  taken : (t : Tally) (line : HistoryLine) (read : Result (List NumberedLine) HistoryFault)
      → verdict_on (numbered_next (with_line schema t line)) read ≡ verdict_on t (read >>= λ lines. Ok (onto_lines t.number (Some line) lines))
  taken t line (Err fault) = refl
  taken t line (Ok lines) = ap (λ v. let found : Found = Ok v in found) (same-verdict (with_line schema t line) lines)

  in-turn : (t : Tally) (texts : List (List ℕ)) → (let found : Found = lines_tallied schema t texts >>= λ t. Ok (verdict_in t) in found) ≡ verdict_on t (lines_from schema t.number texts)
  in-turn t [] = refl
  in-turn t (text ∷ texts) = by (line_in schema text) (λ next. in-turn next texts)
    where
      by : (line : Result (Option HistoryLine) LineFault)
          → ((next : Tally) → (let found : Found = lines_tallied schema next texts >>= λ t. Ok (verdict_in t) in found) ≡ verdict_on next (lines_from schema next.number texts))
          → (let found : Found = (at_line t.number line >>= λ line. Ok (numbered_next (with_line_or_none schema t line))) >>= (λ next. lines_tallied schema next texts) >>= λ t. Ok (verdict_in t) in found)
          ≡ verdict_on t (at_line t.number line >>= λ line. lines_from schema (t.number + 1) texts >>= λ lines. Ok (onto_lines t.number line lines))
      by (Err fault) ih = refl
      by (Ok None) ih = ih (numbered_next t) ∙ skipped t (lines_from schema (t.number + 1) texts)
      by (Ok (Some line)) ih = ih (numbered_next (with_line schema t line)) ∙ taken t line (lines_from schema (t.number + 1) texts)

  judged-each : (number : ℕ) (read : Result (List NumberedLine) HistoryFault)
      → verdict_on (first_tally number) read ≡ (read >>= λ lines. Ok (verdict_numbered lines (verdict_of schema (history_lines lines))))
  judged-each number (Err fault) = refl
  judged-each number (Ok lines) = ap (λ v. let found : Found = Ok v in found) (first-judged number lines)

  -- the lines of a text that are tallied have the verdict on all of them
  pub tallied-verdict : (number : ℕ) (texts : List (List ℕ))
      → (let found : Found = lines_tallied schema (first_tally number) texts >>= λ t. Ok (verdict_in t) in found)
      ≡ (lines_from schema number texts >>= λ lines. Ok (verdict_numbered lines (verdict_of schema (history_lines lines))))
  tallied-verdict number texts = in-turn (first_tally number) texts ∙ judged-each number (lines_from schema number texts)
