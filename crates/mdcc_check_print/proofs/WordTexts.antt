-- Words that are written are read.
use Rattle.std.proofs.Common.{◌≡◌, ℕ, zero, suc, ◌+◌, ◌-◌, ◌/◌, ◌%◌, ◌^◌, ◌<◌, ◌≤◌, ◌==◌, ◌&&◌, ◌⊎◌, inl, inr, Bool, true, false, not, cond, nat_le, nat_lt, List, [], ◌∷◌, ◌++◌, append-nil, length, map, flat_map, codes, Option, Some, None, Result, Ok, refl, ap, ◌∙◌, arith, ℤ, pos, negsuc, lit<, ne_eqb}
use Rattle.std.specs.Fmt.{decimal, digit_glyph, signed_decimal}
use Rattle.std.specs.List.{join_with_byte, list_all, onto_first, slice_split}
use Rattle.std.specs.Char.{is_ascii_digit}
use Rattle.std.specs.Str.{all_ascii_digits}
use Rattle.std.proofs.lemmas.Bool.{and_from, and_parts, cases_lt, eq-eqb, le-leb, le-ltb, leb-true, lt-ltb}
use Rattle.std.proofs.lemmas.Bool.Decides.{nat_tests}
use Rattle.std.proofs.lemmas.Fmt.{digits_decimal}
use Rattle.mdcc_base.specs.TxId.{tx_text}
use Rattle.mdcc_base.specs.declared.identifiers.TxId.{TxId}
use Rattle.mdcc_check.specs.Verdicts.{is_above}
use Rattle.mdcc_def_language.specs.Report.{body_text, byte_text, values_text}
use Rattle.mdcc_def_language.specs.Updates.{amounts_from, parse_amount, parse_amounts}
use Rattle.mdcc_def_language.specs.Words.{body_decoded, body_of, end_at, hex_bytes_of, natural_of, parts_from, refused, start_after, text_eq, value_of, values_from, values_of}
use Rattle.mdcc_def_language.specs.declared.schedule.SchedFault.{SchedFault}
use Rattle.mdcc_def_language.specs.declared.schedule.SchedCause.TheVariants.{Order, Range}
use Rattle.mdcc_check_print.proofs.Cursor.{at-start, behind, behind-last, end-is, ends-here, last-end, last-is, free-append, is_free, next, part-is, start-is, then}
use Rattle.mdcc_check_print.proofs.Hex.{bytes-read}
use Rattle.mdcc_check_print.proofs.Numbers.{model, natural-read, value-read}
use Rattle.mdcc_check_histories.specs.Grammar.{seen_in, tx_above, tx_in, tx_of, txs_from, txs_of}
use Rattle.mdcc_sched_words.specs.Spelled.{amount_text}
use Rattle.mdcc_check_print.specs.Text.{amounts_text, more_txs_text, seen_text}
use Rattle.mdcc_check_print.specs.Printable.{All64, AllAmounts, AreAmounts, AreTxs, AreValues, Is64, IsAmount, IsBody, IsSeen, IsTx, ascend}

-- ---- separators

not-true : (b : Bool) → not b ≡ true → b ≡ false
not-true true e = absurd (cc)
not-true false e = refl

module _ (separator : ℕ) where
  pub split-last : (xs : List ℕ) → is_free separator xs ≡ true → slice_split (λ b. b == separator) xs ≡ xs ∷ []
  split-last [] free = refl
  split-last (x ∷ xs) free =
      let parts = and_parts (not (x == separator)) (is_free separator xs) free in
      ap (λ t. cond t ([] ∷ slice_split (λ b. b == separator) xs) (onto_first x (slice_split (λ b. b == separator) xs))) (not-true _ parts.0)
      ∙ ap (onto_first x) (split-last xs parts.1)

  pub split-next : (xs ys : List ℕ) → is_free separator xs ≡ true → slice_split (λ b. b == separator) (xs ++ separator ∷ ys) ≡ xs ∷ slice_split (λ b. b == separator) ys
  split-next [] ys free =
      ap (λ t. cond t ([] ∷ slice_split (λ b. b == separator) ys) (onto_first separator (slice_split (λ b. b == separator) ys))) (eq-eqb separator separator refl)
  split-next (x ∷ xs) ys free =
      let parts = and_parts (not (x == separator)) (is_free separator xs) free in
      ap (λ t. cond t ([] ∷ slice_split (λ b. b == separator) (xs ++ separator ∷ ys)) (onto_first x (slice_split (λ b. b == separator) (xs ++ separator ∷ ys)))) (not-true _ parts.0)
      ∙ ap (onto_first x) (split-next xs ys parts.1)

  split-joined : (x : List ℕ) (xs : List (List ℕ)) → list_all (is_free separator) (x ∷ xs) ≡ true → slice_split (λ b. b == separator) (join_with_byte separator (x ∷ xs)) ≡ x ∷ xs
  split-joined x [] free = split-last x (and_parts (is_free separator x) true free).0
  split-joined x (y ∷ ys) free =
      let parts = and_parts (is_free separator x) (list_all (is_free separator) (y ∷ ys)) free in
      split-next x (join_with_byte separator (y ∷ ys)) parts.0 ∙ ap (λ zs. x ∷ zs) (split-joined y ys parts.1)

  free-joined : (other : ℕ) (x : List ℕ) (xs : List (List ℕ)) → (other == separator) ≡ false → list_all (is_free separator) (x ∷ xs) ≡ true → is_free separator (join_with_byte other (x ∷ xs)) ≡ true
  free-joined other x [] apart free = (and_parts (is_free separator x) true free).0
  free-joined other x (y ∷ ys) apart free =
      let parts = and_parts (is_free separator x) (list_all (is_free separator) (y ∷ ys)) free in
      free-append separator x (other ∷ join_with_byte other (y ∷ ys)) parts.0
      (and_from (not (other == separator)) _ (ap not apart) (free-joined other y ys apart parts.1))

-- no digit is this byte
abbrev pub NoDigit : ℕ → Type 0
NoDigit separator = (separator < 48) ⊎ (57 < separator)

digit-apart : (separator b : ℕ) → is_ascii_digit b ≡ true → NoDigit separator → (b == separator) ≡ false
digit-apart separator b e (inl low) = ne_eqb b separator (λ same. absurd (grind (arith, nat_tests, e, low, same)))
digit-apart separator b e (inr high) = ne_eqb b separator (λ same. absurd (grind (arith, nat_tests, e, high, same)))

all-apart : (separator : ℕ) (ds : List ℕ) → all_ascii_digits ds ≡ true → NoDigit separator → is_free separator ds ≡ true
all-apart separator [] e apart = refl
all-apart separator (d ∷ ds) e apart =
    let parts = and_parts (is_ascii_digit d) (all_ascii_digits ds) e in
    and_from (not (d == separator)) (is_free separator ds) (ap not (digit-apart separator d parts.0 apart)) (all-apart separator ds parts.1 apart)

pub decimal-free : (separator n : ℕ) → n < 2 ^ 64 → NoDigit separator → is_free separator (decimal n) ≡ true
decimal-free separator n h apart = all-apart separator (decimal n) (digits_decimal model n h) apart

pub signed-free : (separator : ℕ) (z : ℤ) → Is64 z → NoDigit separator → (45 == separator) ≡ false → is_free separator (signed_decimal z) ≡ true
signed-free separator (pos n) (low, high) apart minus = decimal-free separator n (omega (arith, leb-true n (2 ^ 63 - 1) high)) apart
signed-free separator (negsuc n) (low, high) apart minus =
    and_from (not (45 == separator)) _ (ap not minus) (decimal-free separator (suc n) (omega (arith, leb-true n (2 ^ 63 - 1) low)) apart)

-- ---- identifiers

module _ (tx : TxId) (h : IsTx tx) where
  pub tx-free : (separator : ℕ) → NoDigit separator → (46 == separator) ≡ false → is_free separator (tx_text tx) ≡ true
  tx-free separator apart dot =
      free-append separator (decimal tx.centre) _ (decimal-free separator tx.centre (omega (arith, h.centre_few)) apart)
      (and_from (not (46 == separator)) _ (ap not dot)
      (free-append separator (decimal tx.epoch) _ (decimal-free separator tx.epoch (omega (arith, h.epoch_few)) apart)
      (and_from (not (46 == separator)) _ (ap not dot) (decimal-free separator tx.seq (omega (arith, h.seq_few)) apart))))

  dot-apart : NoDigit 46
  dot-apart = inl (lit< tt)

  tx-parts : parts_from 46 0 (tx_text tx) ≡ decimal tx.centre ∷ decimal tx.epoch ∷ decimal tx.seq ∷ []
  tx-parts =
      split-next 46 (decimal tx.centre) (decimal tx.epoch ++ (46 ∷ decimal tx.seq)) (decimal-free 46 tx.centre (omega (arith, h.centre_few)) dot-apart)
      ∙ ap (λ ps. decimal tx.centre ∷ ps) (split-next 46 (decimal tx.epoch) (decimal tx.seq) (decimal-free 46 tx.epoch (omega (arith, h.epoch_few)) dot-apart)
      ∙ ap (λ ps. decimal tx.epoch ∷ ps) (split-last 46 (decimal tx.seq) (decimal-free 46 tx.seq (omega (arith, h.seq_few)) dot-apart)))

  pub tx-read : (column : ℕ) → tx_of (tx_text tx) column ≡ Ok tx
  tx-read column =
      ap (tx_in column) tx-parts
      ∙ then _ _ tx.centre _ (natural-read tx.centre column 1 9 h.centre_some h.centre_few (lit< tt))
      (then _ _ tx.epoch _ (natural-read tx.epoch column 1 (2 ^ 32 - 1) h.epoch_some h.epoch_few (lit< tt))
      (then _ _ tx.seq _ (natural-read tx.seq column 1 (2 ^ 32 - 1) h.seq_some h.seq_few (lit< tt)) refl))

-- ---- what a reader saw

txs-split : (tx : TxId) (txs : List TxId) → AreTxs (tx ∷ txs) → slice_split (λ b. b == 44) (tx_text tx ++ more_txs_text txs) ≡ map tx_text (tx ∷ txs)
txs-split tx [] h = ap (slice_split (λ b. b == 44)) (append-nil (tx_text tx)) ∙ split-last 44 (tx_text tx) (tx-free tx h.0 44 (inl (lit< tt)) refl)
txs-split tx (t ∷ ts) h = split-next 44 (tx_text tx) (tx_text t ++ more_txs_text ts) (tx-free tx h.0 44 (inl (lit< tt)) refl) ∙ ap (λ ps. tx_text tx ∷ ps) (txs-split t ts h.1)

tx-above-read : (last : Option TxId) (tx : TxId) (column : ℕ) → IsTx tx → is_above last tx ≡ true → tx_above last (tx_text tx) column ≡ Ok tx
tx-above-read last tx column h up =
    then _ _ tx _ (tx-read tx h column)
    (then _ _ tt _ (ap (λ t. cond t (let r : Result (Unit {0}) SchedFault = Ok tt in r) (refused column Order)) up) refl)

txs-read : (left : ℕ) (last : Option TxId) (column : ℕ) (txs : List TxId) → length txs ≤ left → AreTxs txs → ascend last txs ≡ true → txs_from left last column (map tx_text txs) ≡ Ok txs
txs-read left last column [] few h up = refl
txs-read zero last column (tx ∷ txs) few h up = absurd (omega (arith, few))
txs-read (suc left) last column (tx ∷ txs) few h up =
    let parts = and_parts (is_above last tx) (ascend (Some tx) txs) up in
    then _ _ tx _ (tx-above-read last tx column h.0 parts.0)
    (then _ _ txs _ (txs-read left (Some tx) (column + length (tx_text tx) + 1) txs (omega (arith, few)) h.1 parts.1) refl)

more-free : (separator : ℕ) (txs : List TxId) → AreTxs txs → NoDigit separator → (46 == separator) ≡ false → (44 == separator) ≡ false → is_free separator (more_txs_text txs) ≡ true
more-free separator [] h apart dot comma = refl
more-free separator (tx ∷ txs) h apart dot comma =
    and_from (not (44 == separator)) _ (ap not comma)
    (free-append separator (tx_text tx) (more_txs_text txs) (tx-free tx h.0 separator apart dot) (more-free separator txs h.1 apart dot comma))

pub seen-free : (separator : ℕ) (txs : List TxId) → AreTxs txs → NoDigit separator → (46 == separator) ≡ false → (44 == separator) ≡ false → (45 == separator) ≡ false → is_free separator (seen_text txs) ≡ true
seen-free separator [] h apart dot comma minus = and_from (not (45 == separator)) true (ap not minus) refl
seen-free separator (tx ∷ txs) h apart dot comma minus =
    free-append separator (tx_text tx) (more_txs_text txs) (tx-free tx h.0 separator apart dot) (more-free separator txs h.1 apart dot comma)

not-dash : (xs : List ℕ) → is_free 45 xs ≡ true → text_eq xs (codes "-") ≡ false
not-dash [] free = refl
not-dash (x ∷ xs) free = ap (λ t. t && text_eq xs []) (not-true (x == 45) (and_parts (not (x == 45)) (is_free 45 xs) free).0)

pub seen-read : (txs : List TxId) (column : ℕ) → IsSeen txs → seen_in (seen_text txs) column ≡ Ok txs
seen-read [] column h = refl
seen-read (tx ∷ txs) column h =
    let word : List ℕ = tx_text tx ++ more_txs_text txs in
    ap (λ t. cond t (let r : Result (List TxId) SchedFault = Ok [] in r) (txs_of word column))
    (not-dash word (free-append 45 (tx_text tx) (more_txs_text txs) (tx-free tx h.each.0 45 (inl (lit< tt)) refl) (more-free 45 txs h.each.1 (inl (lit< tt)) refl refl)))
    ∙ ap (txs_from 64 None column) (txs-split tx txs h.each)
    ∙ txs-read 64 None column (tx ∷ txs) h.few h.each h.up

-- ---- values

values-free : (separator : ℕ) (values : List ℤ) → All64 values → NoDigit separator → (45 == separator) ≡ false → list_all (is_free separator) (map signed_decimal values) ≡ true
values-free separator [] h apart minus = refl
values-free separator (z ∷ zs) h apart minus = and_from _ _ (signed-free separator z h.0 apart minus) (values-free separator zs h.1 apart minus)

values-from : (left column : ℕ) (values : List ℤ) → length values ≤ left → All64 values → values_from left column (map signed_decimal values) ≡ Ok values
values-from left column [] few h = refl
values-from zero column (z ∷ zs) few h = absurd (omega (arith, few))
values-from (suc left) column (z ∷ zs) few h =
    then _ _ z _ (value-read z column h.0) (then _ _ zs _ (values-from left (column + length (signed_decimal z) + 1) zs (omega (arith, few)) h.1) refl)

pub values-read : (values : List ℤ) (column : ℕ) → AreValues values → values_of (values_text values) column ≡ Ok values
values-read [] column h = absurd (omega (arith, h.some))
values-read (z ∷ zs) column h =
    ap (values_from 4 column) (split-joined 44 (signed_decimal z) (map signed_decimal zs) (values-free 44 (z ∷ zs) h.each (inl (lit< tt)) refl))
    ∙ values-from 4 column (z ∷ zs) h.few h.each

pub values-text-free : (separator : ℕ) (values : List ℤ) → AreValues values → NoDigit separator → (45 == separator) ≡ false → (44 == separator) ≡ false → is_free separator (values_text values) ≡ true
values-text-free separator [] h apart minus comma = absurd (omega (arith, h.some))
values-text-free separator (z ∷ zs) h apart minus comma = free-joined separator 44 (signed_decimal z) (map signed_decimal zs) comma (values-free separator (z ∷ zs) h.each apart minus)

-- ---- amounts

amount-read : (amount : ℕ × ℤ) (column : ℕ) → IsAmount amount → parse_amount (amount_text amount) column ≡ Ok amount
amount-read amount column h =
    let first : List ℕ = decimal amount.0 in
    let second : List ℕ = signed_decimal amount.1 in
    let word : List ℕ = first ++ (61 ∷ second) in
    let apart : NoDigit 61 = inr (lit< tt) in
    let free1 = decimal-free 61 amount.0 (omega (arith, h.few)) apart in
    let free2 = signed-free 61 amount.1 h.value apart refl in
    let a = at-start word in
    let b = behind 61 word 0 first (61 ∷ second) a in
    let at : ℕ = 0 + length first in
    let d = next 61 word at second b in
    then _ _ amount.0 _ (ap (λ p. natural_of p column 1 4) (part-is 61 word 0 first (61 ∷ second) a free1 refl) ∙ natural-read amount.0 column 1 4 h.some h.few (lit< tt))
    (then _ _ (at + 1) _ (ap (λ n. start_after 61 n word column) (end-is 61 word 0 first (61 ∷ second) a free1 refl) ∙ start-is 61 word at second b column)
    (then _ _ amount.1 _ (ap (λ p. value_of p (column + (at + 1))) (last-is 61 word (at + 1) second d free2) ∙ value-read amount.1 (column + (at + 1)) h.value)
    (then _ _ tt _ (ap (λ n. end_at n word column) (last-end 61 word (at + 1) second d free2) ∙ ends-here word (at + 1 + length second) column (behind-last 61 word (at + 1) second d)) refl)))

amounts-from : (left column : ℕ) (amounts : List (ℕ × ℤ)) → length amounts ≤ left → AllAmounts amounts → amounts_from left column (map amount_text amounts) ≡ Ok amounts
amounts-from left column [] few h = refl
amounts-from zero column (a ∷ as') few h = absurd (omega (arith, few))
amounts-from (suc left) column (a ∷ as') few h =
    then _ _ a _ (amount-read a column h.0) (then _ _ as' _ (amounts-from left (column + length (amount_text a) + 1) as' (omega (arith, few)) h.1) refl)

amount-free : (separator : ℕ) (amount : ℕ × ℤ) → IsAmount amount → NoDigit separator → (45 == separator) ≡ false → (61 == separator) ≡ false → is_free separator (amount_text amount) ≡ true
amount-free separator amount h apart minus equal =
    free-append separator (decimal amount.0) (61 ∷ signed_decimal amount.1) (decimal-free separator amount.0 (omega (arith, h.few)) apart)
    (and_from (not (61 == separator)) _ (ap not equal) (signed-free separator amount.1 h.value apart minus))

amounts-free : (separator : ℕ) (amounts : List (ℕ × ℤ)) → AllAmounts amounts → NoDigit separator → (45 == separator) ≡ false → (61 == separator) ≡ false → list_all (is_free separator) (map amount_text amounts) ≡ true
amounts-free separator [] h apart minus equal = refl
amounts-free separator (a ∷ as') h apart minus equal = and_from _ _ (amount-free separator a h.0 apart minus equal) (amounts-free separator as' h.1 apart minus equal)

pub amounts-read : (amounts : List (ℕ × ℤ)) (column : ℕ) → AreAmounts amounts → parse_amounts (amounts_text amounts) column ≡ Ok amounts
amounts-read [] column h = absurd (omega (arith, h.some))
amounts-read (a ∷ as') column h =
    ap (amounts_from 4 column) (split-joined 44 (amount_text a) (map amount_text as') (amounts-free 44 (a ∷ as') h.each (inl (lit< tt)) refl refl))
    ∙ amounts-from 4 column (a ∷ as') h.few h.each

pub amounts-text-free : (separator : ℕ) (amounts : List (ℕ × ℤ)) → AreAmounts amounts → NoDigit separator → (45 == separator) ≡ false → (61 == separator) ≡ false → (44 == separator) ≡ false → is_free separator (amounts_text amounts) ≡ true
amounts-text-free separator [] h apart minus equal comma = absurd (omega (arith, h.some))
amounts-text-free separator (a ∷ as') h apart minus equal comma = free-joined separator 44 (amount_text a) (map amount_text as') comma (amounts-free separator (a ∷ as') h.each apart minus equal)

-- ---- bodies

-- no digit of a hexadecimal number is this byte
abbrev pub NoGlyph : ℕ → Type 0
NoGlyph separator = (separator < 48) ⊎ ((57 < separator) × (separator < 97))

glyph-apart : (separator d : ℕ) → d < 16 → NoGlyph separator → (digit_glyph false d == separator) ≡ false
glyph-apart separator d h apart =
    elim (cases_lt d 10) [
      | inl low ↦ ap (λ t. cond t (48 + d) (87 + d) == separator) (lt-ltb d 10 low) ∙ ne_eqb (48 + d) separator (λ e. small apart e low)
      | inr high ↦ ap (λ t. cond t (48 + d) (87 + d) == separator) (le-ltb d 10 high) ∙ ne_eqb (87 + d) separator (λ e. large apart e high)
    ]
  where
    small : NoGlyph separator → 48 + d ≡ separator → d < 10 → ⊥
    small (inl low) e l = omega (arith, low, e)
    small (inr high) e l = omega (arith, high.0, e, l)

    large : NoGlyph separator → 87 + d ≡ separator → 10 ≤ d → ⊥
    large (inl low) e l = omega (arith, low, e)
    large (inr high) e l = omega (arith, high.1, e, l)

bytes-free : (separator : ℕ) (bs : List ℕ) → list_all (λ b. nat_lt b 256) bs ≡ true → NoGlyph separator → is_free separator (flat_map byte_text bs) ≡ true
bytes-free separator [] h apart = refl
bytes-free separator (b ∷ bs) h apart =
    let parts = and_parts (nat_lt b 256) (list_all (λ b. nat_lt b 256) bs) h in
    let small : b < 256 = grind (arith, nat_tests) in
    and_from _ _ (ap not (glyph-apart separator (b / 16) (omega (arith, small)) apart))
    (and_from _ _ (ap not (glyph-apart separator (b % 16) (omega arith) apart)) (bytes-free separator bs parts.1 apart))

pub body-free : (separator : ℕ) (body : List ℕ) → IsBody body → NoGlyph separator → (45 == separator) ≡ false → is_free separator (body_text body) ≡ true
body-free separator [] h apart minus = and_from (not (45 == separator)) true (ap not minus) refl
body-free separator (b ∷ bs) h apart minus = bytes-free separator (b ∷ bs) h.each apart

pub body-read : (body : List ℕ) (column : ℕ) → IsBody body → body_of (body_text body) column ≡ Ok body
body-read [] column h = refl
body-read (b ∷ bs) column h =
    let body : List ℕ = b ∷ bs in
    let word : List ℕ = flat_map byte_text body in
    ap (λ t. cond t (let r : Result (List ℕ) SchedFault = Ok [] in r) (body_decoded (hex_bytes_of word) column)) (not-dash word (bytes-free 45 body h.each (inl (lit< tt))))
    ∙ ap (λ o. body_decoded o column) (bytes-read body h.each)
    ∙ ap (λ t. cond t (let r : Result (List ℕ) SchedFault = Ok body in r) (refused column Range)) (and_from (nat_le 1 (length body)) (nat_le (length body) 128) (le-leb 1 (length body) (omega arith)) (le-leb (length body) 128 h.few))
