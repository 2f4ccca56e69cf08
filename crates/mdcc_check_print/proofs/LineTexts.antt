-- Lines that are written are read.
use Rattle.std.proofs.Common.{◌≡◌, ℕ, zero, suc, ◌+◌, ◌-◌, ◌^◌, ◌<◌, ◌≤◌, ◌==◌, inl, true, cond, List, [], ◌∷◌, ◌++◌, append-nil, append_assoc, length, length-append, take, map, flat_map, codes, Option, Some, None, Result, Ok, refl, sym, ap, subst, ◌∙◌, arith, ℤ, pos, negsuc, lit<, ne_eqb}
use Rattle.std.specs.Fmt.{decimal, signed_decimal}
use Rattle.std.specs.List.{join_with_byte, slice_split}
use Rattle.std.proofs.lemmas.Bool.{leb-true}
use Rattle.std.proofs.lemmas.Fmt.{decimal_digit, decimal_nonempty}
use Rattle.mdcc_base.specs.TxId.{tx_text}
use Rattle.mdcc_base.specs.declared.identifiers.TxId.{TxId}
use Rattle.mdcc_option.specs.Parts.{AreParts}
use Rattle.mdcc_option.specs.declared.items.Item.{Item}
use Rattle.mdcc_option.specs.declared.items.Known.{Known}
use Rattle.mdcc_option.specs.declared.items.Part.{Part}
use Rattle.mdcc_check.specs.declared.history.HistoryLine.{HistoryLine}
use Rattle.mdcc_def_language.specs.Lines.{bytes_of_line, line_end_by, line_end_of}
use Rattle.mdcc_def_language.specs.Report.{body_text, values_text}
use Rattle.mdcc_def_language.specs.Words.{body_of, end_at, is_key, key_of, parts_from, refused, text_eq, values_of, word_after, word_end, ◌>>=◌}
use Rattle.mdcc_def_language.specs.declared.schedule.SchedFault.{SchedFault}
use Rattle.mdcc_def_language.specs.declared.schedule.SchedCause.TheVariants.{Word}
use Rattle.mdcc_check_print.proofs.Cursor.{At, Ends, after-is, at-start, behind-word, drop-front, ends-here, free-append, is_free, next, part-is, then, word-end, word-is}
use Rattle.mdcc_check_print.proofs.PartTexts.{end-outside, key-free, key-read, parts-free, parts-read, space-outside, version-read, word-free, word-some, word_of, words-split}
use Rattle.mdcc_check_print.proofs.WordTexts.{body-free, body-read, decimal-free, seen-free, seen-read, tx-free, tx-read, values-read, values-text-free}
use Rattle.mdcc_check_histories.specs.Grammar.{committed, drafted_or_none, first_parts, first_read, in_text, later_read, nine_onto, parse_commit, parse_read_line, parse_spelled, seen_in, spelled_in, spelled_or_none, tx_of, version_in}
use Rattle.mdcc_check_print.specs.Text.{commit_text, history_line_text, history_shown_text, history_words_text, part_text, seen_text}
use Rattle.mdcc_check_histories.specs.declared.lines.LineFault.{LineFault}
use Rattle.mdcc_check_histories.specs.declared.lines.Spelled.{Spelled}
use Rattle.mdcc_check_print.specs.Printable.{AreValues, EachPart, Is64, IsItem, IsPrintable, IsSeen, IsShown, IsTx, PrintedIsRead}

-- ---- no word is empty

tx-some : (tx : TxId) → 0 < length (tx_text tx)
tx-some tx = omega (arith, length-append (decimal tx.centre) (46 ∷ (decimal tx.epoch ++ (46 ∷ decimal tx.seq))))

seen-some : (txs : List TxId) → 0 < length (seen_text txs)
seen-some [] = omega arith
seen-some (tx ∷ txs) = omega (arith, tx-some tx, length-append (tx_text tx) (flat_map (λ t. 44 ∷ tx_text t) txs))

body-some : (body : List ℕ) → 0 < length (body_text body)
body-some [] = omega arith
body-some (b ∷ bs) = omega arith

signed-some : (z : ℤ) → Is64 z → 0 < length (signed_decimal z)
signed-some (pos n) (low, high) = decimal_nonempty n (omega (arith, leb-true n (2 ^ 63 - 1) high))
signed-some (negsuc n) h = omega arith

values-some : (values : List ℤ) → AreValues values → 0 < length (values_text values)
values-some [] h = absurd (omega (arith, h.some))
values-some (z ∷ []) h = signed-some z h.each.0
values-some (z ∷ y ∷ ys) h = omega (arith, signed-some z h.each.0, length-append (signed_decimal z) (44 ∷ join_with_byte 44 (map signed_decimal (y ∷ ys))))

key-some : (key : List ℕ) → is_key key ≡ true → 0 < length key
key-some [] h = absurd (cc)
key-some (b ∷ bs) h = omega arith

-- ---- commits

take-all : {X : Type 0} (n : ℕ) (xs : List X) → length xs ≤ n → take n xs ≡ xs
take-all zero [] h = refl
take-all zero (x ∷ xs) h = absurd (omega (arith, h))
take-all (suc n) [] h = refl
take-all (suc n) (x ∷ xs) h = ap (λ ys. x ∷ ys) (take-all n xs (omega (arith, h)))

ends-parts : (ps : List Part) → Ends 32 (flat_map part_text ps)
ends-parts [] = tt
ends-parts (p ∷ ps) = refl

commit-read : (tx : TxId) (p : Part) (ps : List Part) → IsTx tx → EachPart (p ∷ ps) → length (p ∷ ps) ≤ 8
    → parse_spelled (codes "commit" ++ (32 ∷ (tx_text tx ++ flat_map part_text (p ∷ ps)))) ≡ Ok (Spelled.Commit tx (p ∷ ps))
commit-read tx p ps h each few =
    let parts : List Part = p ∷ ps in
    let behind : List ℕ = flat_map part_text parts in
    let line : List ℕ = codes "commit" ++ (32 ∷ (tx_text tx ++ behind)) in
    let free1 = tx-free tx h 32 (inl (lit< tt)) refl in
    let free2 = word-free 32 space-outside p each.0 in
    let a : At line 6 (32 ∷ (tx_text tx ++ behind)) = record { is = refl; within = omega arith } in
    let b = behind-word line 6 (tx_text tx) behind a free1 refl in
    let at : ℕ = 6 + 1 + length (tx_text tx) in
    let words : parts_from 32 (at + 1) line ≡ map word_of parts =
    ap (slice_split (λ b. b == 32)) (next 32 line at (word_of p ++ flat_map part_text ps) b).is ∙ words-split p ps each in
    let read : first_parts (at + 1 + 1) (parts_from 32 (at + 1) line) ≡ Ok parts =
    ap (first_parts (at + 1 + 1)) words ∙ ap (nine_onto []) (parts-read (at + 1 + 1) parts each) ∙ ap (λ (xs : List Part). let r : Result (List Part) SchedFault = Ok xs in r) (take-all 9 parts (omega (arith, few))) in
    let parsed : parse_commit line ≡ Ok (Spelled.Commit tx parts) =
    then (word_after 6 line) _ (6 + 1) _ (after-is line 6 (tx_text tx) behind a free1 refl (tx-some tx))
    (then _ _ tx _ (ap (λ w. tx_of w (6 + 1 + 1)) (word-is line 6 (tx_text tx) behind a free1 refl) ∙ tx-read tx h (6 + 1 + 1))
    (then _ _ (at + 1) _ (ap (λ n. word_after n line) (word-end line 6 (tx_text tx) behind a free1 refl) ∙ after-is line at (word_of p) (flat_map part_text ps) b free2 (ends-parts ps) (word-some p))
    (then _ _ parts _ read refl))) in
    ap (λ w. cond (text_eq w (codes "commit")) (parse_commit line) (cond (text_eq w (codes "read")) (parse_read_line line) (refused 1 Word)))
    (part-is 32 line 0 (codes "commit") (32 ∷ (tx_text tx ++ behind)) (at-start line) refl refl)
    ∙ parsed

-- ---- reads

first-read : (key : List ℕ) → is_key key ≡ true
    → parse_spelled (codes "read" ++ (32 ∷ (key ++ (32 ∷ 48 ∷ [])))) ≡ Ok (Spelled.Read (record { key = key; token = record { version = 0; seen = [] }; item = None }))
first-read key k =
    let behind : List ℕ = 32 ∷ 48 ∷ [] in
    let line : List ℕ = codes "read" ++ (32 ∷ (key ++ behind)) in
    let known : Known = record { key = key; token = record { version = 0; seen = [] }; item = None } in
    let free1 = key-free 32 key refl k in
    let a : At line 4 (32 ∷ (key ++ behind)) = record { is = refl; within = omega arith } in
    let b = behind-word line 4 key behind a free1 refl in
    let at : ℕ = 4 + 1 + length key in
    let zero-is : decimal 0 ≡ 48 ∷ [] = decimal_digit 0 (lit< tt) in
    let last : first_read key (word_end (at + 1) line) line ≡ Ok (Spelled.Read known) =
    then (end_at (word_end (at + 1) line) line 1) _ tt _ (ap (λ n. end_at n line 1) (word-end line at (48 ∷ []) [] b refl tt) ∙ ends-here line (at + 1 + 1) 1 (behind-word line at (48 ∷ []) [] b refl tt)) refl in
    let parsed : parse_read_line line ≡ Ok (Spelled.Read known) =
    then (word_after 4 line) _ (4 + 1) _ (after-is line 4 key behind a free1 refl (key-some key k))
    (then _ _ key _ (ap (λ w. key_of w (4 + 1 + 1)) (word-is line 4 key behind a free1 refl) ∙ key-read key (4 + 1 + 1) k)
    (then _ _ (at + 1) _ (ap (λ n. word_after n line) (word-end line 4 key behind a free1 refl) ∙ after-is line at (48 ∷ []) [] b refl tt (omega arith))
    (then _ _ 0 _ (ap (λ w. version_in w (at + 1 + 1)) (word-is line at (48 ∷ []) [] b refl tt ∙ sym zero-is) ∙ version-read 0 (at + 1 + 1) (lit< tt)) last))) in
    ap (λ w. cond (text_eq w (codes "commit")) (parse_commit line) (cond (text_eq w (codes "read")) (parse_read_line line) (refused 1 Word)))
    (part-is 32 line 0 (codes "read") (32 ∷ (key ++ behind)) (at-start line) refl refl)
    ∙ parsed

later-read : (key : List ℕ) (version : ℕ) (seen : List TxId) (item : Item) → is_key key ≡ true → 1 ≤ version → version < 2 ^ 64 → IsSeen seen → IsItem item
    → parse_spelled (codes "read" ++ (32 ∷ (key ++ (32 ∷ (decimal version ++ (32 ∷ (seen_text seen ++ (32 ∷ (body_text item.body ++ (32 ∷ values_text item.values))))))))))
    ≡ Ok (Spelled.Read (record { key = key; token = record { version = version; seen = seen }; item = Some item }))
later-read key version seen item k some v s i =
    let values : List ℕ = values_text item.values in
    let body : List ℕ = body_text item.body in
    let behind4 : List ℕ = 32 ∷ values in
    let behind3 : List ℕ = 32 ∷ (body ++ behind4) in
    let behind2 : List ℕ = 32 ∷ (seen_text seen ++ behind3) in
    let behind1 : List ℕ = 32 ∷ (decimal version ++ behind2) in
    let line : List ℕ = codes "read" ++ (32 ∷ (key ++ behind1)) in
    let known : Known = record { key = key; token = record { version = version; seen = seen }; item = Some item } in
    let free1 = key-free 32 key refl k in
    let free2 = decimal-free 32 version v (inl (lit< tt)) in
    let free3 = seen-free 32 seen s.each (inl (lit< tt)) refl refl refl in
    let free4 = body-free 32 item.body i.body (inl (lit< tt)) refl in
    let free5 = values-text-free 32 item.values i.values (inl (lit< tt)) refl refl in
    let a : At line 4 (32 ∷ (key ++ behind1)) = record { is = refl; within = omega arith } in
    let b = behind-word line 4 key behind1 a free1 refl in
    let at1 : ℕ = 4 + 1 + length key in
    let d = behind-word line at1 (decimal version) behind2 b free2 refl in
    let at2 : ℕ = at1 + 1 + length (decimal version) in
    let e = behind-word line at2 (seen_text seen) behind3 d free3 refl in
    let at3 : ℕ = at2 + 1 + length (seen_text seen) in
    let f = behind-word line at3 body behind4 e free4 refl in
    let at4 : ℕ = at3 + 1 + length body in
    let g : At line at4 (32 ∷ (values ++ [])) = subst (λ t. At line at4 (32 ∷ t)) (sym (append-nil values)) f in
    let last : later_read key version (word_end (at1 + 1) line) line ≡ Ok (Spelled.Read known) =
    then (word_after (word_end (at1 + 1) line) line) _ (at2 + 1) _ (ap (λ n. word_after n line) (word-end line at1 (decimal version) behind2 b free2 refl) ∙ after-is line at2 (seen_text seen) behind3 d free3 refl (seen-some seen))
    (then _ _ seen _ (ap (λ w. seen_in w (at2 + 1 + 1)) (word-is line at2 (seen_text seen) behind3 d free3 refl) ∙ seen-read seen (at2 + 1 + 1) s)
    (then _ _ (at3 + 1) _ (ap (λ n. word_after n line) (word-end line at2 (seen_text seen) behind3 d free3 refl) ∙ after-is line at3 body behind4 e free4 refl (body-some item.body))
    (then _ _ item.body _ (ap (λ w. body_of w (at3 + 1 + 1)) (word-is line at3 body behind4 e free4 refl) ∙ body-read item.body (at3 + 1 + 1) i.body)
    (then _ _ (at4 + 1) _ (ap (λ n. word_after n line) (word-end line at3 body behind4 e free4 refl) ∙ after-is line at4 values [] g free5 tt (values-some item.values i.values))
    (then _ _ item.values _ (ap (λ w. values_of w (at4 + 1 + 1)) (word-is line at4 values [] g free5 tt) ∙ values-read item.values (at4 + 1 + 1) i.values)
    (then _ _ tt _ (ap (λ n. end_at n line 1) (word-end line at4 values [] g free5 tt) ∙ ends-here line (at4 + 1 + length values) 1 (behind-word line at4 values [] g free5 tt)) refl)))))) in
    let parsed : parse_read_line line ≡ Ok (Spelled.Read known) =
    then (word_after 4 line) _ (4 + 1) _ (after-is line 4 key behind1 a free1 refl (key-some key k))
    (then _ _ key _ (ap (λ w. key_of w (4 + 1 + 1)) (word-is line 4 key behind1 a free1 refl) ∙ key-read key (4 + 1 + 1) k)
    (then _ _ (at1 + 1) _ (ap (λ n. word_after n line) (word-end line 4 key behind1 a free1 refl) ∙ after-is line at1 (decimal version) behind2 b free2 refl (decimal_nonempty version v))
    (then _ _ version _ (ap (λ w. version_in w (at1 + 1 + 1)) (word-is line at1 (decimal version) behind2 b free2 refl) ∙ version-read version (at1 + 1 + 1) v)
    (ap (λ t. cond t (first_read key (word_end (at1 + 1) line) line) (later_read key version (word_end (at1 + 1) line) line)) (ne_eqb version 0 (λ z. omega (arith, z, some))) ∙ last)))) in
    ap (λ w. cond (text_eq w (codes "commit")) (parse_commit line) (cond (text_eq w (codes "read")) (parse_read_line line) (refused 1 Word)))
    (part-is 32 line 0 (codes "read") (32 ∷ (key ++ behind1)) (at-start line) refl refl)
    ∙ parsed

-- ---- line ends

whole : (words : List ℕ) (spelled : Option Spelled) → is_free 10 words ≡ true → spelled_or_none words ≡ Ok spelled → spelled_in (words ++ codes "\n") ≡ Ok spelled
whole words spelled free e =
    let line : List ℕ = words ++ (10 ∷ []) in
    let bytes : bytes_of_line line ≡ words = part-is 10 line 0 words (10 ∷ []) (at-start line) free refl in
    let end : line_end_of words line ≡ Ok tt = ap (line_end_by (length words + 1)) (drop-front words (10 ∷ [])) in
    let read : (spelled_or_none words >>= λ s. line_end_of words line >>= λ _. let r : Result (Option Spelled) SchedFault = Ok s in r) ≡ Ok spelled = then _ _ spelled _ e (then _ _ tt _ end refl) in
    ap (λ t. spelled_or_none t >>= λ s. line_end_of t line >>= λ _. let r : Result (Option Spelled) SchedFault = Ok s in r) bytes ∙ read

-- ---- lines of a history

abbrev in_lines : List (ℤ × ℤ) → Result (Option Spelled) SchedFault → Result (Option HistoryLine) LineFault
in_lines schema r = in_text r >>= drafted_or_none schema

commit-front : (tx : TxId) (parts : List Part) → commit_text tx parts ≡ codes "commit" ++ (32 ∷ (tx_text tx ++ flat_map part_text parts))
commit-front tx parts = append_assoc (codes "commit ") (tx_text tx) (flat_map part_text parts)

commit-spelled : (tx : TxId) (parts : List Part) → IsTx tx → EachPart parts → AreParts parts → spelled_in (history_line_text (HistoryLine.Commit tx parts)) ≡ Ok (Some (Spelled.Commit tx parts))
commit-spelled tx [] h each are = absurd (omega (arith, are.some))
commit-spelled tx (p ∷ ps) h each are =
    let parts : List Part = p ∷ ps in
    let front : List ℕ = codes "commit" ++ (32 ∷ (tx_text tx ++ flat_map part_text parts)) in
    let free : is_free 10 front ≡ true = free-append 10 (tx_text tx) (flat_map part_text parts) (tx-free tx h 10 (inl (lit< tt)) refl) (parts-free 10 end-outside refl parts each) in
    let read : spelled_or_none front ≡ Ok (Some (Spelled.Commit tx parts)) = then (parse_spelled front) _ (Spelled.Commit tx parts) _ (commit-read tx p ps h each are.few) refl in
    whole (commit_text tx parts) (Some (Spelled.Commit tx parts)) (ap (is_free 10) (commit-front tx parts) ∙ free) (ap spelled_or_none (commit-front tx parts) ∙ read)

eight : (a b c d e f g h i j : List ℕ) → a ++ b ++ (c ++ d ++ e ++ f ++ g ++ h ++ i ++ j) ≡ a ++ (b ++ (c ++ (d ++ (e ++ (f ++ (g ++ (h ++ (i ++ j))))))))
eight a b c d e f g h i j = simp append_assoc refl

after-space : (xs : List ℕ) → is_free 10 xs ≡ true → is_free 10 (32 ∷ xs) ≡ true
after-space xs h = h

read-spelled : (key : List ℕ) (version : ℕ) (seen : List TxId) (item : Option Item) → is_key key ≡ true → IsShown version seen item
    → spelled_in (codes "read " ++ key ++ history_shown_text version seen item ++ codes "\n")
    ≡ Ok (Some (Spelled.Read (record { key = key; token = record { version = version; seen = seen }; item = item })))
read-spelled key version seen None k h =
    let front : List ℕ = codes "read" ++ (32 ∷ (key ++ (32 ∷ 48 ∷ []))) in
    let same : codes "read " ++ key ++ history_shown_text version seen None ≡ front = append_assoc (codes "read ") key (32 ∷ 48 ∷ []) in
    let known : Known = record { key = key; token = record { version = 0; seen = [] }; item = None } in
    let free : is_free 10 front ≡ true = free-append 10 key (32 ∷ 48 ∷ []) (key-free 10 key refl k) refl in
    let read : spelled_or_none front ≡ Ok (Some (Spelled.Read known)) = then (parse_spelled front) _ (Spelled.Read known) _ (first-read key k) refl in
    whole (codes "read " ++ key ++ history_shown_text version seen None) (Some (Spelled.Read known)) (ap (is_free 10) same ∙ free) (ap spelled_or_none same ∙ read)
    ∙ (λ i. Ok (Some (Spelled.Read (record { key = key; token = record { version = sym h.0 i; seen = sym h.1 i }; item = None }))))
read-spelled key version seen (Some item) k h =
    let values : List ℕ = values_text item.values in
    let body : List ℕ = body_text item.body in
    let front : List ℕ = codes "read" ++ (32 ∷ (key ++ (32 ∷ (decimal version ++ (32 ∷ (seen_text seen ++ (32 ∷ (body ++ (32 ∷ values))))))))) in
    let same : codes "read " ++ key ++ history_shown_text version seen (Some item) ≡ front =
    eight (codes "read ") key (codes " ") (decimal version) (codes " ") (seen_text seen) (codes " ") body (codes " ") values in
    let known : Known = record { key = key; token = record { version = version; seen = seen }; item = Some item } in
    let free : is_free 10 front ≡ true =
    free-append 10 key _ (key-free 10 key refl k)
    (free-append 10 (decimal version) _ (decimal-free 10 version h.1 (inl (lit< tt)))
    (free-append 10 (seen_text seen) _ (seen-free 10 seen h.2.each (inl (lit< tt)) refl refl refl)
    (free-append 10 body _ (body-free 10 item.body h.3.body (inl (lit< tt)) refl)
    (values-text-free 10 item.values h.3.values (inl (lit< tt)) refl refl)))) in
    let read : spelled_or_none front ≡ Ok (Some (Spelled.Read known)) = then (parse_spelled front) _ (Spelled.Read known) _ (later-read key version seen item k h.0 h.1 h.2 h.3) refl in
    whole (codes "read " ++ key ++ history_shown_text version seen (Some item)) (Some (Spelled.Read known)) (ap (is_free 10) same ∙ free) (ap spelled_or_none same ∙ read)

-- a line that is written is read as what was written
pub printed-read : PrintedIsRead
printed-read schema (HistoryLine.Commit tx parts) h =
    ap (λ r. in_lines schema r) (commit-spelled tx parts h.0 h.1 h.2)
    ∙ ap (λ t. then_some (committed tx t)) h.3
  where
    then_some : Result HistoryLine LineFault → Result (Option HistoryLine) LineFault
    then_some r = r >>= λ line. Ok (Some line)
printed-read schema (HistoryLine.Read known) h = ap (λ r. in_lines schema r) (read-spelled known.key known.token.version known.token.seen known.item h.0 h.1)

-- ---- no line end stands in the words of a line

read-free : (key : List ℕ) (version : ℕ) (seen : List TxId) (item : Option Item) → is_key key ≡ true → IsShown version seen item
    → is_free 10 (codes "read " ++ key ++ history_shown_text version seen item) ≡ true
read-free key version seen None k h =
    let front : List ℕ = codes "read" ++ (32 ∷ (key ++ (32 ∷ 48 ∷ []))) in
    let same : codes "read " ++ key ++ history_shown_text version seen None ≡ front = append_assoc (codes "read ") key (32 ∷ 48 ∷ []) in
    let free : is_free 10 front ≡ true = free-append 10 key (32 ∷ 48 ∷ []) (key-free 10 key refl k) refl in
    ap (is_free 10) same ∙ free
read-free key version seen (Some item) k h =
    let values : List ℕ = values_text item.values in
    let body : List ℕ = body_text item.body in
    let front : List ℕ = codes "read" ++ (32 ∷ (key ++ (32 ∷ (decimal version ++ (32 ∷ (seen_text seen ++ (32 ∷ (body ++ (32 ∷ values))))))))) in
    let same : codes "read " ++ key ++ history_shown_text version seen (Some item) ≡ front =
    eight (codes "read ") key (codes " ") (decimal version) (codes " ") (seen_text seen) (codes " ") body (codes " ") values in
    let free : is_free 10 front ≡ true =
    free-append 10 key _ (key-free 10 key refl k)
    (free-append 10 (decimal version) _ (decimal-free 10 version h.1 (inl (lit< tt)))
    (free-append 10 (seen_text seen) _ (seen-free 10 seen h.2.each (inl (lit< tt)) refl refl refl)
    (free-append 10 body _ (body-free 10 item.body h.3.body (inl (lit< tt)) refl)
    (values-text-free 10 item.values h.3.values (inl (lit< tt)) refl refl)))) in
    ap (is_free 10) same ∙ free

pub line-free : (schema : List (ℤ × ℤ)) (line : HistoryLine) → IsPrintable schema line → is_free 10 (history_words_text line) ≡ true
line-free schema (HistoryLine.Commit tx parts) h =
    let front : List ℕ = codes "commit" ++ (32 ∷ (tx_text tx ++ flat_map part_text parts)) in
    let free : is_free 10 front ≡ true = free-append 10 (tx_text tx) (flat_map part_text parts) (tx-free tx h.0 10 (inl (lit< tt)) refl) (parts-free 10 end-outside refl parts h.1) in
    ap (is_free 10) (commit-front tx parts) ∙ free
line-free schema (HistoryLine.Read known) h = read-free known.key known.token.version known.token.seen known.item h.0 h.1
