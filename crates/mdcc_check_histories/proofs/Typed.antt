-- The lines that are read are as code has them: parts of distinct keys, and versions of 64 bits.
use Rattle.std.proofs.Common.{◌≡◌, ℕ, ◌+◌, ◌-◌, ◌^◌, ◌<◌, ◌==◌, ◌&&◌, ◌||◌, Bool, true, false, cond, nat_lt, nat_abs, int_le, int_lt, ℤ, pos, negsuc, List, [], ◌∷◌, length, codes, Option, Some, None, Result, Ok, Err, refl, sym, ap, subst, ◌∙◌, arith, lit<}
use Rattle.std.proofs.lemmas.Bool.{and_parts, leb-true}
use Rattle.std.proofs.lemmas.Bool.Decides.{nat_tests}
use Rattle.std.proofs.lemmas.List.Sorted.{length_permutation}
use Rattle.std.specs.Str.Parse.{signed_digits_value}
use Rattle.mdcc_base.specs.declared.key.Key.{Key}
use Rattle.mdcc_option.proofs.Ordered.{IsPermutation-sorted_parts, ascending-sorted_parts}
use Rattle.mdcc_option.specs.Parts.{AreParts, is_key_repeated, sorted_parts}
use Rattle.mdcc_option.specs.Transaction.{checked_by, parts_fault, transaction_of}
use Rattle.mdcc_option.specs.declared.faults.DraftFault.{DraftFault}
use Rattle.mdcc_option.specs.declared.items.Part.{Part}
use Rattle.mdcc_check.specs.Histories.{IsLine}
use Rattle.mdcc_check.specs.declared.history.HistoryLine.{HistoryLine}
use Rattle.mdcc_def_language.specs.Lines.{bytes_of_line, line_end_of}
use Rattle.mdcc_def_language.specs.Schedule.{begins_with}
use Rattle.mdcc_def_language.specs.Words.{are_plain_digits, body_of, end_at, is_negative, key_of, number_of, parts_from, refused, values_of, within, word_after, word_at, word_end, ◌>>=◌}
use Rattle.mdcc_def_language.specs.declared.schedule.SchedFault.{SchedFault}
use Rattle.mdcc_def_language.specs.declared.schedule.SchedCause.TheVariants.{Number, Range, Word}
use Rattle.mdcc_sched_words.proofs.Seams.{bind_ok, guard_ok}
use Rattle.mdcc_check_histories.specs.Grammar.{committed, drafted, drafted_or_none, first_parts, first_read, in_text, later_read, line_in, parse_commit, parse_read_line, parse_spelled, seen_in, spelled_in, spelled_or_none, tx_of, version_in}
use Rattle.mdcc_check_histories.specs.declared.lines.LineFault.{LineFault}
use Rattle.mdcc_check_histories.specs.declared.lines.Spelled.{Spelled}

same-spelled : (x y : Spelled) → (let r : Result Spelled SchedFault = Ok x in r) ≡ Ok y → x ≡ y
same-spelled x y e = cc

-- ---- transactions

checked-are : (o : Option DraftFault) (parts made : List Part) → checked_by o parts ≡ Ok made → parts ≡ made
checked-are None parts made e = cc
checked-are (Some fault) parts made e = absurd (cc)

are-parts : (schema : List (ℤ × ℤ)) (parts made : List Part) → transaction_of schema parts ≡ Ok made → AreParts made
are-parts schema parts made e = by (length parts == 0) refl (nat_lt 8 (length parts)) refl (is_key_repeated parts) refl e
  where
    by : (b : Bool) → (length parts == 0) ≡ b → (c : Bool) → nat_lt 8 (length parts) ≡ c → (d : Bool) → is_key_repeated parts ≡ d
        → cond b (Err DraftFault.Empty) (cond c (Err DraftFault.TooMany) (cond d (Err DraftFault.RepeatedKey) (checked_by (parts_fault schema (sorted_parts parts)) (sorted_parts parts)))) ≡ Ok made → AreParts made
    by true i c j d k e = absurd (cc)
    by false i true j d k e = absurd (cc)
    by false i false j true k e = absurd (cc)
    by false i false j false k e =
        let same = checked-are (parts_fault schema (sorted_parts parts)) (sorted_parts parts) made e in
        let size : length parts ≡ length (sorted_parts parts) = sym (length_permutation parts (sorted_parts parts) (IsPermutation-sorted_parts parts)) in
        subst AreParts same (record {
          some = grind (arith, nat_tests, size, i);
          few = grind (arith, nat_tests, size, j);
          ascending = ascending-sorted_parts parts k;
        })

-- ---- versions

below : (z : ℤ) (n : ℕ) → int_le (pos 0) z ≡ true → int_le z (pos (2 ^ 64 - 1)) ≡ true → nat_abs z ≡ n → n < 2 ^ 64
below (pos m) n low high e = omega (arith, leb-true m (2 ^ 64 - 1) high, e)
below (negsuc m) n low high e = absurd (cc)

version-small : (word : List ℕ) (column n : ℕ) → version_in word column ≡ Ok n → n < 2 ^ 64
version-small word column n e =
    let found = bind_ok (number_of word column (pos 0) (pos (2 ^ 64 - 1))) (λ number. let r : Result ℕ SchedFault = Ok (nat_abs number) in r) n e in
    let told = guard_ok (are_plain_digits word || (int_lt (pos 0) (pos 0) && is_negative word)) (within column (pos 0) (pos (2 ^ 64 - 1)) (signed_digits_value 10 word)) column Number found.0 found.1 in
    let ranged = guard_ok (int_le (pos 0) (signed_digits_value 10 word) && int_le (signed_digits_value 10 word) (pos (2 ^ 64 - 1))) (let r : Result ℤ SchedFault = Ok (signed_digits_value 10 word) in r) column Range found.0 told.1 in
    let parts = and_parts (int_le (pos 0) (signed_digits_value 10 word)) (int_le (signed_digits_value 10 word) (pos (2 ^ 64 - 1))) ranged.0 in
    let same : signed_digits_value 10 word ≡ found.0 = cc (ranged.1) in
    let abs : nat_abs found.0 ≡ n = cc (found.2) in
    below (signed_digits_value 10 word) n parts.0 parts.1 (ap nat_abs same ∙ abs)

-- ---- lines

-- what is known of a line as it is spelled
abbrev IsSpelled : Spelled → Type 0
IsSpelled (Spelled.Commit tx parts) = Unit {0}
IsSpelled (Spelled.Read known) = known.token.version < 2 ^ 64

commit-spelled : (line : List ℕ) (s : Spelled) → parse_commit line ≡ Ok s → IsSpelled s
commit-spelled line s e =
    let start = bind_ok (word_after 6 line) _ s e in
    let tx = bind_ok (tx_of (word_at start.0 line) (start.0 + 1)) _ s start.2 in
    let next = bind_ok (word_after (word_end start.0 line) line) _ s tx.2 in
    let parts = bind_ok (first_parts (next.0 + 1) (parts_from 32 next.0 line)) _ s next.2 in
    let same : Spelled.Commit tx.0 parts.0 ≡ s = same-spelled _ s parts.2 in
    subst IsSpelled same tt

first-spelled : (key : Key) (at : ℕ) (line : List ℕ) (s : Spelled) → first_read key at line ≡ Ok s → IsSpelled s
first-spelled key at line s e =
    let end = bind_ok (end_at at line 1) _ s e in
    let same : Spelled.Read (record { key = key; token = record { version = 0; seen = [] }; item = None }) ≡ s = same-spelled _ s end.2 in
    subst IsSpelled same (lit< tt)

later-spelled : (key : Key) (version at : ℕ) (line : List ℕ) (s : Spelled) → version < 2 ^ 64 → later_read key version at line ≡ Ok s → IsSpelled s
later-spelled key version at line s small e =
    let first = bind_ok (word_after at line) _ s e in
    let seen = bind_ok (seen_in (word_at first.0 line) (first.0 + 1)) _ s first.2 in
    let second = bind_ok (word_after (word_end first.0 line) line) _ s seen.2 in
    let body = bind_ok (body_of (word_at second.0 line) (second.0 + 1)) _ s second.2 in
    let third = bind_ok (word_after (word_end second.0 line) line) _ s body.2 in
    let values = bind_ok (values_of (word_at third.0 line) (third.0 + 1)) _ s third.2 in
    let end = bind_ok (end_at (word_end third.0 line) line 1) _ s values.2 in
    let same : Spelled.Read (record { key = key; token = record { version = version; seen = seen.0 }; item = Some (record { body = body.0; values = values.0 }) }) ≡ s = same-spelled _ s end.2 in
    subst IsSpelled same small

read-spelled : (line : List ℕ) (s : Spelled) → parse_read_line line ≡ Ok s → IsSpelled s
read-spelled line s e =
    let start = bind_ok (word_after 4 line) _ s e in
    let key = bind_ok (key_of (word_at start.0 line) (start.0 + 1)) _ s start.2 in
    let next = bind_ok (word_after (word_end start.0 line) line) _ s key.2 in
    let version = bind_ok (version_in (word_at next.0 line) (next.0 + 1)) _ s next.2 in
    by key.0 version.0 next.0 (version-small (word_at next.0 line) (next.0 + 1) version.0 version.1) (version.0 == 0) version.2
  where
    by : (key : Key) (version next : ℕ) → version < 2 ^ 64 → (b : Bool) → cond b (first_read key (word_end next line) line) (later_read key version (word_end next line) line) ≡ Ok s → IsSpelled s
    by key version next small true e = first-spelled key (word_end next line) line s e
    by key version next small false e = later-spelled key version (word_end next line) line s small e

line-spelled : (line : List ℕ) (s : Spelled) → parse_spelled line ≡ Ok s → IsSpelled s
line-spelled line s e = by (begins_with (codes "commit") line) (begins_with (codes "read") line) e
  where
    by : (b c : Bool) → cond b (parse_commit line) (cond c (parse_read_line line) (refused 1 Word)) ≡ Ok s → IsSpelled s
    by true c e = commit-spelled line s e
    by false true e = read-spelled line s e
    by false false e = absurd (cc)

text-spelled : (text : List ℕ) (s : Spelled) → spelled_or_none text ≡ Ok (Some s) → IsSpelled s
text-spelled [] s e = absurd (cc)
text-spelled (b ∷ bs) s e = by (b == 35) e
  where
    by : (t : Bool) → cond t (let r : Result (Option Spelled) SchedFault = Ok None in r) (parse_spelled (b ∷ bs) >>= λ spelled. Ok (Some spelled)) ≡ Ok (Some s) → IsSpelled s
    by true e = absurd (cc)
    by false e =
        let found = bind_ok (parse_spelled (b ∷ bs)) _ (Some s) e in
        let same : found.0 ≡ s = cc (found.2) in
        subst IsSpelled same (line-spelled (b ∷ bs) found.0 found.1)

whole-spelled : (line : List ℕ) (s : Spelled) → spelled_in line ≡ Ok (Some s) → IsSpelled s
whole-spelled line s e =
    let found = bind_ok (spelled_or_none (bytes_of_line line)) _ (Some s) e in
    let end = bind_ok (line_end_of (bytes_of_line line) line) _ (Some s) found.2 in
    let same : found.0 ≡ Some s = cc (end.2) in
    text-spelled (bytes_of_line line) s (found.1 ∙ ap (λ (o : Option Spelled). let r : Result (Option Spelled) SchedFault = Ok o in r) same)

drafted-line : (schema : List (ℤ × ℤ)) (s : Spelled) (line : HistoryLine) → IsSpelled s → drafted schema s ≡ Ok line → IsLine line
drafted-line schema (Spelled.Commit tx parts) line h e = by (transaction_of schema parts) refl e
  where
    by : (made : Result (List Part) DraftFault) → transaction_of schema parts ≡ made → committed tx made ≡ Ok line → IsLine line
    by (Ok made) is e = let same : HistoryLine.Commit tx made ≡ line = cc in subst IsLine same (are-parts schema parts made is)
    by (Err fault) is e = absurd (cc)
drafted-line schema (Spelled.Read known) line h e = let same : HistoryLine.Read known ≡ line = cc in subst IsLine same h

-- a line that is read is as code has it
pub read-is-line : (schema : List (ℤ × ℤ)) (text : List ℕ) (line : HistoryLine) → line_in schema text ≡ Ok (Some line) → IsLine line
read-is-line schema text line e = by (spelled_in text) refl e
  where
    by : (read : Result (Option Spelled) SchedFault) → spelled_in text ≡ read → (in_text read >>= drafted_or_none schema) ≡ Ok (Some line) → IsLine line
    by (Err fault) is e = absurd (cc)
    by (Ok None) is e = absurd (cc)
    by (Ok (Some s)) is e = made (drafted schema s) refl e
      where
        made : (r : Result HistoryLine LineFault) → drafted schema s ≡ r → (r >>= λ line. Ok (Some line)) ≡ Ok (Some line) → IsLine line
        made (Ok found) is' e = let same : found ≡ line = cc in subst IsLine same (drafted-line schema s found (whole-spelled text s is) is')
        made (Err fault) is' e = absurd (cc)
