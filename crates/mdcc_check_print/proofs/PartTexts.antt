-- Update words that are written are read.
use Rattle.std.proofs.Common.{◌≡◌, ℕ, ◌+◌, ◌-◌, ◌^◌, ◌<◌, ◌==◌, ◌&&◌, inl, inr, true, false, not, cond, nat_le, List, [], ◌∷◌, ◌++◌, append-nil, append_assoc, length, map, flat_map, codes, Result, Ok, refl, sym, ap, subst, ◌∙◌, arith, ℤ, lit<, ne_eqb, true≢false, true}
use Rattle.std.specs.Fmt.{decimal}
use Rattle.std.specs.List.{list_all, slice_split}
use Rattle.std.proofs.lemmas.Bool.{and_from, and_parts}
use Rattle.mdcc_base.specs.Key.{is_key_byte}
use Rattle.mdcc_base.specs.declared.identifiers.TxId.{TxId}
use Rattle.mdcc_option.specs.declared.items.Item.{Item}
use Rattle.mdcc_option.specs.declared.items.Part.{Part}
use Rattle.mdcc_option.specs.declared.items.Update.{Update}
use Rattle.mdcc_def_language.specs.Report.{body_text, values_text}
use Rattle.mdcc_def_language.specs.Updates.{parse_amounts, parse_item}
use Rattle.mdcc_def_language.specs.Words.{body_of, end_at, is_key, key_of, part_at, part_end, refused, start_after, text_eq, values_of}
use Rattle.mdcc_def_language.specs.declared.schedule.SchedFault.{SchedFault}
use Rattle.mdcc_def_language.specs.declared.schedule.SchedCause.TheVariants.{Key, Word}
use Rattle.mdcc_check_print.proofs.Cursor.{At, Ends, at-start, behind, behind-last, end-is, ends-here, free-append, is_free, last-end, last-is, next, part-is, start-is, then}
use Rattle.mdcc_check_print.proofs.Numbers.{natural-read}
use Rattle.mdcc_check_print.proofs.WordTexts.{NoDigit, amounts-read, amounts-text-free, body-free, body-read, decimal-free, seen-free, seen-read, split-last, split-next, values-read, values-text-free}
use Rattle.mdcc_check_histories.specs.Grammar.{history_parts_of, parse_add, parse_write, part_of, seen_in, version_in}
use Rattle.mdcc_check_print.specs.Text.{amounts_text, history_update_text, part_text, seen_text}
use Rattle.mdcc_check_print.specs.Printable.{AreAmounts, EachPart, IsItem, IsPart, IsSeen, IsUpdate}

-- ---- a field of a word, behind a colon

module _ (word : List ℕ) (at : ℕ) (xs rest : List ℕ) (a : At word at (58 ∷ xs ++ rest)) (free : is_free 58 xs ≡ true) (ends : Ends 58 rest) where
  field-start : (column : ℕ) → start_after 58 at word column ≡ Ok (at + 1)
  field-start column = start-is 58 word at (xs ++ rest) a column

  field-is : part_at 58 (at + 1) word ≡ xs
  field-is = part-is 58 word (at + 1) xs rest (next 58 word at (xs ++ rest) a) free ends

  field-end : part_end 58 (at + 1) word ≡ at + 1 + length xs
  field-end = end-is 58 word (at + 1) xs rest (next 58 word at (xs ++ rest) a) free ends

  behind-field : At word (at + 1 + length xs) rest
  behind-field = behind 58 word (at + 1) xs rest (next 58 word at (xs ++ rest) a)

-- ---- keys

pub key-read : (key : List ℕ) (column : ℕ) → is_key key ≡ true → key_of key column ≡ Ok key
key-read key column h = ap (λ t. cond t (let r : Result (List ℕ) SchedFault = Ok key in r) (refused column Key)) h

bytes-apart : (separator : ℕ) (key : List ℕ) → is_key_byte separator ≡ false → list_all is_key_byte key ≡ true → is_free separator key ≡ true
bytes-apart separator [] apart h = refl
bytes-apart separator (b ∷ bs) apart h =
    let parts = and_parts (is_key_byte b) (list_all is_key_byte bs) h in
    and_from _ _ (ap not (ne_eqb b separator (λ e. true≢false (sym parts.0 ∙ ap is_key_byte e ∙ apart)))) (bytes-apart separator bs apart parts.1)

pub key-free : (separator : ℕ) (key : List ℕ) → is_key_byte separator ≡ false → is_key key ≡ true → is_free separator key ≡ true
key-free separator key apart h =
    bytes-apart separator key apart (and_parts (nat_le (length key) 32) (list_all is_key_byte key) (and_parts (nat_le 1 (length key)) (nat_le (length key) 32 && list_all is_key_byte key) h).1).1

pub version-read : (version column : ℕ) → version < 2 ^ 64 → version_in (decimal version) column ≡ Ok version
version-read version column h = natural-read version column 0 (2 ^ 64 - 1) (omega arith) (omega (arith, h)) (lit< tt)

-- ---- items

no-digit : NoDigit 58
no-digit = inr (lit< tt)

pub item-read : (word : List ℕ) (at column : ℕ) (item : Item) → IsItem item → At word at (58 ∷ body_text item.body ++ (58 ∷ values_text item.values)) → parse_item at word column ≡ Ok item
item-read word at column item h a =
    let body : List ℕ = body_text item.body in
    let values : List ℕ = values_text item.values in
    let free1 = body-free 58 item.body h.body (inr (lit< tt, lit< tt)) refl in
    let free2 = values-text-free 58 item.values h.values no-digit refl refl in
    let b = behind-field word at body (58 ∷ values) a free1 refl in
    let mid : ℕ = at + 1 + length body in
    let d = next 58 word mid values b in
    then _ _ (at + 1) _ (field-start word at body (58 ∷ values) a free1 refl column)
    (then _ _ item.body _ (ap (λ p. body_of p (column + (at + 1))) (field-is word at body (58 ∷ values) a free1 refl) ∙ body-read item.body (column + (at + 1)) h.body)
    (then _ _ (mid + 1) _ (ap (λ n. start_after 58 n word column) (field-end word at body (58 ∷ values) a free1 refl) ∙ start-is 58 word mid values b column)
    (then _ _ item.values _ (ap (λ p. values_of p (column + (mid + 1))) (last-is 58 word (mid + 1) values d free2) ∙ values-read item.values (column + (mid + 1)) h.values)
    (then _ _ tt _ (ap (λ n. end_at n word column) (last-end 58 word (mid + 1) values d free2) ∙ ends-here word (mid + 1 + length values) column (behind-last 58 word (mid + 1) values d)) refl))))

-- ---- update words

-- the same text, from the front on
abbrev front_text : List ℕ → ℕ → Update → List ℕ
front_text key version (Update.Write item seen) =
    codes "write:" ++ (key ++ (58 ∷ (decimal version ++ (58 ∷ (seen_text seen ++ (58 ∷ (body_text item.body ++ (58 ∷ values_text item.values))))))))
front_text key version (Update.Add amounts) = codes "add:" ++ (key ++ (58 ∷ (decimal version ++ (58 ∷ amounts_text amounts))))

ten : (a b c d e f g h i j : List ℕ) → a ++ (b ++ c ++ d ++ e) ++ (f ++ g ++ h ++ i ++ j) ≡ a ++ (b ++ (c ++ (d ++ (e ++ (f ++ (g ++ (h ++ (i ++ j))))))))
ten a b c d e f g h i j = simp append_assoc refl

six : (a b c d e f : List ℕ) → a ++ (b ++ c ++ d ++ e) ++ f ≡ a ++ (b ++ (c ++ (d ++ (e ++ f))))
six a b c d e f = simp append_assoc refl

from_front : (key : List ℕ) (version : ℕ) (update : Update) → history_update_text key version update ≡ front_text key version update
from_front key version (Update.Write item seen) =
    ten (codes "write:") key (codes ":") (decimal version) (codes ":") (seen_text seen) (codes ":") (body_text item.body) (codes ":") (values_text item.values)
from_front key version (Update.Add amounts) = six (codes "add:") key (codes ":") (decimal version) (codes ":") (amounts_text amounts)

module _ (key : List ℕ) (version : ℕ) (k : is_key key ≡ true) (v : version < 2 ^ 64) (column : ℕ) where
  key-free58 : is_free 58 key ≡ true
  key-free58 = key-free 58 key refl k

  version-free58 : is_free 58 (decimal version) ≡ true
  version-free58 = decimal-free 58 version v no-digit

  write-read : (item : Item) (seen : List TxId) → IsItem item → IsSeen seen
      → part_of (front_text key version (Update.Write item seen)) column ≡ Ok (record { key = key; version = version; update = Update.Write item seen })
  write-read item seen h s =
      let word : List ℕ = front_text key version (Update.Write item seen) in
      let behind3 : List ℕ = 58 ∷ (body_text item.body ++ (58 ∷ values_text item.values)) in
      let behind2 : List ℕ = 58 ∷ (seen_text seen ++ behind3) in
      let behind1 : List ℕ = 58 ∷ (decimal version ++ behind2) in
      let all : List ℕ = 58 ∷ (key ++ behind1) in
      let free3 = seen-free 58 seen s.each no-digit refl refl refl in
      let a : At word 5 all = record { is = refl; within = omega arith } in
      let b = behind-field word 5 key behind1 a key-free58 refl in
      let at1 : ℕ = 5 + 1 + length key in
      let d = behind-field word at1 (decimal version) behind2 b version-free58 refl in
      let at2 : ℕ = at1 + 1 + length (decimal version) in
      let e = behind-field word at2 (seen_text seen) behind3 d free3 refl in
      let at3 : ℕ = at2 + 1 + length (seen_text seen) in
      let parsed : parse_write word column ≡ Ok (record { key = key; version = version; update = Update.Write item seen }) = then _ _ key _ (ap (λ p. key_of p (column + (5 + 1))) (field-is word 5 key behind1 a key-free58 refl) ∙ key-read key (column + (5 + 1)) k)
      (then _ _ (at1 + 1) _ (ap (λ n. start_after 58 n word column) (field-end word 5 key behind1 a key-free58 refl) ∙ field-start word at1 (decimal version) behind2 b version-free58 refl column)
      (then _ _ version _ (ap (λ p. version_in p (column + (at1 + 1))) (field-is word at1 (decimal version) behind2 b version-free58 refl) ∙ version-read version (column + (at1 + 1)) v)
      (then _ _ (at2 + 1) _ (ap (λ n. start_after 58 n word column) (field-end word at1 (decimal version) behind2 b version-free58 refl) ∙ field-start word at2 (seen_text seen) behind3 d free3 refl column)
      (then _ _ seen _ (ap (λ p. seen_in p (column + (at2 + 1))) (field-is word at2 (seen_text seen) behind3 d free3 refl) ∙ seen-read seen (column + (at2 + 1)) s)
      (then _ _ item _ (ap (λ n. parse_item n word column) (field-end word at2 (seen_text seen) behind3 d free3 refl) ∙ item-read word at3 column item h e) refl))))) in
      ap (λ p. cond (text_eq p (codes "write")) (parse_write word column) (cond (text_eq p (codes "add")) (parse_add word column) (refused column Word))) (part-is 58 word 0 (codes "write") all (at-start word) refl refl) ∙ parsed

  add-read : (amounts : List (ℕ × ℤ)) → AreAmounts amounts
      → part_of (front_text key version (Update.Add amounts)) column ≡ Ok (record { key = key; version = version; update = Update.Add amounts })
  add-read amounts h =
      let word : List ℕ = front_text key version (Update.Add amounts) in
      let text : List ℕ = amounts_text amounts in
      let behind2 : List ℕ = 58 ∷ text in
      let behind1 : List ℕ = 58 ∷ (decimal version ++ behind2) in
      let all : List ℕ = 58 ∷ (key ++ behind1) in
      let free3 = amounts-text-free 58 amounts h no-digit refl refl refl in
      let a : At word 3 all = record { is = refl; within = omega arith } in
      let b = behind-field word 3 key behind1 a key-free58 refl in
      let at1 : ℕ = 3 + 1 + length key in
      let d = behind-field word at1 (decimal version) behind2 b version-free58 refl in
      let at2 : ℕ = at1 + 1 + length (decimal version) in
      let e = next 58 word at2 text d in
      let parsed : parse_add word column ≡ Ok (record { key = key; version = version; update = Update.Add amounts }) = then _ _ key _ (ap (λ p. key_of p (column + (3 + 1))) (field-is word 3 key behind1 a key-free58 refl) ∙ key-read key (column + (3 + 1)) k)
      (then _ _ (at1 + 1) _ (ap (λ n. start_after 58 n word column) (field-end word 3 key behind1 a key-free58 refl) ∙ field-start word at1 (decimal version) behind2 b version-free58 refl column)
      (then _ _ version _ (ap (λ p. version_in p (column + (at1 + 1))) (field-is word at1 (decimal version) behind2 b version-free58 refl) ∙ version-read version (column + (at1 + 1)) v)
      (then _ _ (at2 + 1) _ (ap (λ n. start_after 58 n word column) (field-end word at1 (decimal version) behind2 b version-free58 refl) ∙ start-is 58 word at2 text d column)
      (then _ _ amounts _ (ap (λ p. parse_amounts p (column + (at2 + 1))) (last-is 58 word (at2 + 1) text e free3) ∙ amounts-read amounts (column + (at2 + 1)) h)
      (then _ _ tt _ (ap (λ n. end_at n word column) (last-end 58 word (at2 + 1) text e free3) ∙ ends-here word (at2 + 1 + length text) column (behind-last 58 word (at2 + 1) text e)) refl))))) in
      ap (λ p. cond (text_eq p (codes "write")) (parse_write word column) (cond (text_eq p (codes "add")) (parse_add word column) (refused column Word))) (part-is 58 word 0 (codes "add") all (at-start word) refl refl) ∙ parsed

-- an update word without its space
abbrev pub word_of : Part → List ℕ
word_of part = history_update_text part.key part.version part.update

pub part-read : (part : Part) (column : ℕ) → IsPart part → part_of (word_of part) column ≡ Ok part
part-read part column h = ap (λ w. part_of w column) (from_front part.key part.version part.update) ∙ by part.update h.update
  where
    by : (update : Update) → IsUpdate update → part_of (front_text part.key part.version update) column ≡ Ok (record { key = part.key; version = part.version; update = update })
    by (Update.Write item seen) u = write-read part.key part.version h.key h.version column item seen u.0 u.1
    by (Update.Add amounts) u = add-read part.key part.version h.key h.version column amounts u

-- no update word is empty
pub word-some : (part : Part) → 0 < length (word_of part)
word-some part = by part.update
  where
    by : (update : Update) → 0 < length (history_update_text part.key part.version update)
    by (Update.Write item seen) = subst (λ t. 0 < length t) (sym (from_front part.key part.version (Update.Write item seen))) (omega arith)
    by (Update.Add amounts) = subst (λ t. 0 < length t) (sym (from_front part.key part.version (Update.Add amounts))) (omega arith)

-- a byte that stands in no update word
pub record Outside (separator : ℕ) : Type 0 where
  pub digit : NoDigit separator
  pub low : separator < 48
  pub key : is_key_byte separator ≡ false
  pub dot : (46 == separator) ≡ false
  pub comma : (44 == separator) ≡ false
  pub minus : (45 == separator) ≡ false
  pub colon : (58 == separator) ≡ false
  pub equal : (61 == separator) ≡ false
  pub write : is_free separator (codes "write:") ≡ true
  pub add : is_free separator (codes "add:") ≡ true

pub space-outside : Outside 32
space-outside = record { digit = inl (lit< tt); low = lit< tt; key = refl; dot = refl; comma = refl; minus = refl; colon = refl; equal = refl; write = refl; add = refl }

pub end-outside : Outside 10
end-outside = record { digit = inl (lit< tt); low = lit< tt; key = refl; dot = refl; comma = refl; minus = refl; colon = refl; equal = refl; write = refl; add = refl }

module _ (separator : ℕ) (o : Outside separator) where
  behind-colon : (xs : List ℕ) → is_free separator xs ≡ true → is_free separator (58 ∷ xs) ≡ true
  behind-colon xs h = and_from _ _ (ap not o.colon) h

  update-free : (key : List ℕ) (version : ℕ) (update : Update) → is_key key ≡ true → version < 2 ^ 64 → IsUpdate update → is_free separator (front_text key version update) ≡ true
  update-free key version (Update.Write item seen) k v u =
      free-append separator (codes "write:") _ o.write
      (free-append separator key _ (key-free separator key o.key k)
      (behind-colon _ (free-append separator (decimal version) _ (decimal-free separator version v o.digit)
      (behind-colon _ (free-append separator (seen_text seen) _ (seen-free separator seen u.1.each o.digit o.dot o.comma o.minus)
      (behind-colon _ (free-append separator (body_text item.body) _ (body-free separator item.body u.0.body (inl o.low) o.minus)
      (behind-colon _ (values-text-free separator item.values u.0.values o.digit o.minus o.comma)))))))))
  update-free key version (Update.Add amounts) k v u =
      free-append separator (codes "add:") _ o.add
      (free-append separator key _ (key-free separator key o.key k)
      (behind-colon _ (free-append separator (decimal version) _ (decimal-free separator version v o.digit)
      (behind-colon _ (amounts-text-free separator amounts u o.digit o.minus o.equal o.comma)))))

  pub word-free : (part : Part) → IsPart part → is_free separator (word_of part) ≡ true
  word-free part h = ap (is_free separator) (from_front part.key part.version part.update) ∙ update-free part.key part.version part.update h.key h.version h.update

-- ---- all update words of a commit

pub words-split : (p : Part) (ps : List Part) → EachPart (p ∷ ps) → slice_split (λ b. b == 32) (word_of p ++ flat_map part_text ps) ≡ map word_of (p ∷ ps)
words-split p [] h = ap (slice_split (λ b. b == 32)) (append-nil (word_of p)) ∙ split-last 32 (word_of p) (word-free 32 space-outside p h.0)
words-split p (q ∷ qs) h = split-next 32 (word_of p) (word_of q ++ flat_map part_text qs) (word-free 32 space-outside p h.0) ∙ ap (λ ws. word_of p ∷ ws) (words-split q qs h.1)

pub parts-read : (column : ℕ) (parts : List Part) → EachPart parts → history_parts_of column (map word_of parts) ≡ Ok parts
parts-read column [] h = refl
parts-read column (p ∷ ps) h =
    then _ _ p _ (part-read p column h.0) (then _ _ ps _ (parts-read (column + length (word_of p) + 1) ps h.1) refl)

pub parts-free : (separator : ℕ) → Outside separator → (32 == separator) ≡ false → (parts : List Part) → EachPart parts → is_free separator (flat_map part_text parts) ≡ true
parts-free separator o space [] h = refl
parts-free separator o space (p ∷ ps) h =
    and_from _ _ (ap not space) (free-append separator (word_of p) (flat_map part_text ps) (word-free separator o p h.0) (parts-free separator o space ps h.1))
