-- The base that an encoding tells is what the fact gives.
use Rattle.std.proofs.Common.{◌≡◌, ◌+◌, ◌≤◌, ◌++◌, ◌∷◌, ℕ, suc, Bool, true, false, List, [], Option, Some, None, cond, length, drop, take, ap, sym, ◌∙◌, arith, refl, append_assoc, append-nil, length-append}
use Rattle.std.specs.List.{AllByRecursion, flat_map, fold}
use Rattle.std.specs.Option.{option_or}
use Rattle.std.specs.Prelude.{◌&&◌, ◌==◌}
use Rattle.mdcc_base.specs.Key.{key_eq}
use Rattle.mdcc_base.specs.declared.identifiers.TxId.{TxId}
use Rattle.mdcc_base.specs.declared.key.Key.{Key}
use Rattle.mdcc_option.specs.OneCopy.{next_version}
use Rattle.mdcc_option.specs.declared.choices.Choice.{Choice}
use Rattle.mdcc_option.specs.declared.choices.Outcome.{Outcome}
use Rattle.mdcc_option.specs.declared.items.Delta.{Delta}
use Rattle.mdcc_option.specs.declared.items.Item.{Item}
use Rattle.mdcc_option.specs.declared.items.Update.{Update}
use Rattle.mdcc_def_messages.specs.Bytes.{counted_bytes, i64_bytes, u8_bytes, u64_bytes}
use Rattle.mdcc_def_messages.specs.Spelling.{fact_bytes}
use Rattle.mdcc_def_messages.specs.SpelledParts.{choice_bytes, delta_bytes, item_bytes, key_bytes, seen_bytes, update_bytes, write_set_bytes}
use Rattle.mdcc_def_messages.specs.WellFormed.{IsWellFormedFact}
use Rattle.mdcc_def_messages.specs.WellFormedParts.{IsWellFormedChoice, IsWellFormedInstance, IsWellFormedItem, IsWellFormedOf, IsWellFormedUpdate}
use Rattle.mdcc_def_messages.specs.declared.facts.Fact.{Fact}
use Rattle.mdcc_def_protocol.specs.Facts.{base_from, base_given, item_written}
use Rattle.mdcc_def_protocol.specs.Marks.{is_write}
use Rattle.mdcc_theorem_encoding.proofs.Places.{IsAt, apart-2}
use Rattle.mdcc_theorem_encoding.proofs.Items.{item_again}
use Rattle.mdcc_theorem_encoding.proofs.Common.{instance_again}
use Rattle.mdcc_theorem_encoding.proofs.Whole.{at_front}
use Rattle.mdcc_cells_delta_walk.specs.Passing.{byte_at, entry_head, past_update}
use Rattle.mdcc_cells_delta_walk.specs.Bases.{base_adopted, base_committed, base_in, gives_version, is_before_in, is_write_of, item_if_read, item_in, written_in}
use Rattle.mdcc_cells_delta_walk.specs.Entries.{bytes_at_update}
use Rattle.mdcc_cells_delta_walk.proofs.Heads.{in-head, in-window}
use Rattle.mdcc_cells_delta_walk.proofs.Passed.{passed, wide}
use Rattle.mdcc_cells_delta_walk.proofs.PartsThere.{IsChoiceThere, choice-there, instance-there, key-length}
use Rattle.mdcc_cells_delta_walk.proofs.ChoicesEntered.{rest-of, update-of}
use Rattle.mdcc_cells_delta_walk.proofs.FactsEntered.{adopted-instance, adopted-parts, adopted_text}

-- ---- one choice after the other

pub written-write : (key : Key) (version left : ℕ) (bytes : List ℕ) → is_write_of key version bytes ≡ true → written_in key version (suc left) bytes ≡ item_in (drop 1 (bytes_at_update bytes))
written-write key version left bytes is = rw is refl

pub written-pass : (key : Key) (version left : ℕ) (bytes : List ℕ) → is_write_of key version bytes ≡ false → written_in key version (suc left) bytes ≡ written_in key version left (past_update (bytes_at_update bytes))
written-pass key version left bytes is = rw is refl

-- ---- what stands there

short-item : (item : Item) → IsWellFormedItem item → length (item_bytes item) ≤ 162
short-item item fits =
    omega (
      arith,
      fits.body_fits,
      fits.count.1,
      wide i64_bytes 8 (λ x. refl) item.values,
      length-append (u8_bytes (length item.body) ++ item.body) (counted_bytes i64_bytes item.values),
      length-append (u8_bytes (length item.body)) item.body,
    )

pub item-there : (item : Item) (rest : List ℕ) → IsWellFormedItem item → item_in (item_bytes item ++ rest) ≡ Some item
item-there item rest fits =
    ap item_if_read (item_again (take 162 (item_bytes item ++ rest)) 0 item fits
    (in-window 162 (item_bytes item ++ rest) 0 (item_bytes item) (at_front (item_bytes item) rest) (omega (arith, short-item item fits))))

before-there : (bytes : List ℕ) (at : ℕ) (key : Key) (version : ℕ) (other : List ℕ) (found : ℕ) → IsWellFormedInstance other found
    → IsAt bytes at (key_bytes other ++ u64_bytes found) → at + 41 ≤ 64
    → is_before_in key version (entry_head bytes) at ≡ (next_version found == version && key_eq other key)
before-there bytes at key version other found fits h within =
    ap (gives_version key version) (instance_again (entry_head bytes) at other found fits (in-head bytes at (key_bytes other ++ u64_bytes found) h
    (omega (arith, fits.key_itself.fits, length-append (key_bytes other) (u64_bytes found), length-append (u8_bytes (length other)) other))))

update-writes : (update : Update) (rest : List ℕ) → (byte_at 0 (update_bytes update ++ rest) == 1) ≡ is_write update
update-writes (Update.Write item seen) rest = refl
update-writes (Update.Add amounts) rest = refl

-- ---- commits

-- whether a choice writes the version
abbrev writes_there : Key → ℕ → Choice → Bool
writes_there key version c = (next_version c.version == version && key_eq c.key key) && is_write c.update

write-of : (key : Key) (version : ℕ) (c : Choice) (rest : List ℕ) → IsWellFormedChoice c → is_write_of key version (choice_bytes c ++ rest) ≡ writes_there key version c
write-of key version c rest fits =
    let there : IsChoiceThere (choice_bytes c ++ rest) 0 c = choice-there (choice_bytes c ++ rest) 0 c (at_front (choice_bytes c) rest) in
    ap (λ b. b && (byte_at 0 (bytes_at_update (choice_bytes c ++ rest)) == 1))
    (before-there (choice_bytes c ++ rest) 9 key version c.key c.version (record { key_itself = fits.key; version_fits = fits.version }) there.instance (omega arith))
    ∙ ap (λ b. (next_version c.version == version && key_eq c.key key) && (byte_at 0 b == 1)) (update-of c rest fits)
    ∙ ap (λ b. (next_version c.version == version && key_eq c.key key) && b) (update-writes c.update (write_set_bytes c.write_set ++ rest))

first-stays : (f : Choice → Option Item) (item : Item) (choices : List Choice) → fold (λ base choice. option_or base (f choice)) (Some item) choices ≡ Some item
first-stays f item [] = refl
first-stays f item (c ∷ cs) = first-stays f item cs

base-by : (same : Bool) (update : Update) (read later : Option Item) (f : Choice → Option Item) (choices : List Choice)
    → (is_write update ≡ true → read ≡ item_written update) → later ≡ fold (λ base choice. option_or base (f choice)) None choices
    → cond (same && is_write update) read later ≡ fold (λ base choice. option_or base (f choice)) (cond same (item_written update) None) choices
base-by true (Update.Write item seen) read later f choices found is = found refl ∙ sym (first-stays f item choices)
base-by true (Update.Add amounts) read later f choices found is = is
base-by false update read later f choices found is = is

item-of : (update : Update) (rest : List ℕ) → IsWellFormedUpdate update → is_write update ≡ true → item_in (drop 1 (update_bytes update ++ rest)) ≡ item_written update
item-of (Update.Write item seen) rest fits writes =
    ap item_in (append_assoc (item_bytes item) (seen_bytes seen) rest) ∙ item-there item (seen_bytes seen ++ rest) fits.0
item-of (Update.Add amounts) rest fits writes = absurd (cc)

committed-again : (key : Key) (version : ℕ) (tx : TxId) (choices : List Choice) (rest : List ℕ) → AllByRecursion (IsWellFormedOf tx) choices
    → written_in key version (length choices) (flat_map choice_bytes choices ++ rest) ≡ fold (λ base choice. option_or base (base_given key version choice)) None choices
committed-again key version tx [] rest fits = refl
committed-again key version tx (c ∷ cs) rest fits =
    let wf : IsWellFormedChoice c = fits.0.choice_itself in
    let after : List ℕ = flat_map choice_bytes cs ++ rest in
    ap (written_in key version (suc (length cs))) (append_assoc (choice_bytes c) (flat_map choice_bytes cs) rest)
    ∙ ap (λ b. cond b (item_in (drop 1 (bytes_at_update (choice_bytes c ++ after)))) (written_in key version (length cs) (past_update (bytes_at_update (choice_bytes c ++ after))))) (write-of key version c after wf)
    ∙ ap (λ b. cond (writes_there key version c) (item_in (drop 1 (bytes_at_update (choice_bytes c ++ after)))) (written_in key version (length cs) b)) (rest-of c after wf)
    ∙ base-by (next_version c.version == version && key_eq c.key key) c.update (item_in (drop 1 (bytes_at_update (choice_bytes c ++ after)))) (written_in key version (length cs) after)
    (base_given key version) cs
    (λ writes. ap (λ b. item_in (drop 1 b)) (update-of c after wf) ∙ item-of c.update (write_set_bytes c.write_set ++ after) wf.update writes)
    (committed-again key version tx cs rest fits.1)

heard-base : (key : Key) (version : ℕ) (tx : TxId) (outcome : Outcome) → IsWellFormedFact (Fact.Heard tx outcome)
    → base_committed key version (fact_bytes (Fact.Heard tx outcome)) ≡ base_from key version (Fact.Heard tx outcome)
heard-base key version tx Outcome.Abort fits = refl
heard-base key version tx (Outcome.Commit choices) fits =
    ap (written_in key version (length choices)) (sym (append-nil (flat_map choice_bytes choices)))
    ∙ committed-again key version tx choices [] fits.outcome_itself.each

-- ---- adoptions

adopted-base : (at_key : Key) (at_version : ℕ) (key : List ℕ) (version : ℕ) (item : Item) (adds : List Delta) → IsWellFormedFact (Fact.Adopted key version item adds)
    → base_adopted at_key at_version (adopted_text key version item adds) ≡ base_from at_key at_version (Fact.Adopted key version item adds)
adopted-base at_key at_version key version item adds fits =
    let bytes : List ℕ = adopted_text key version item adds in
    let there : IsAt (adopted_text key version item adds) 1 (key_bytes key ++ u64_bytes version) = adopted-instance key version item adds in
    let few : length key ≤ 32 = fits.instance.key_itself.fits in
    let long : byte_at 1 (entry_head bytes) ≡ length key = key-length bytes 1 key (apart-2 bytes 1 (key_bytes key) (u64_bytes version) there).0 few (omega arith) in
    let front : length (u8_bytes 5 ++ (key_bytes key ++ u64_bytes version)) ≡ 10 + length key =
    omega (arith, length-append (u8_bytes 5) (key_bytes key ++ u64_bytes version), length-append (key_bytes key) (u64_bytes version), length-append (u8_bytes (length key)) key) in
    let read : item_in (drop (10 + byte_at 1 (entry_head bytes)) bytes) ≡ Some item =
    ap (λ n. item_in (drop (10 + n) bytes)) long ∙ ap (λ b. item_in (drop (10 + length key) b)) (adopted-parts key version item adds)
    ∙ ap item_in (passed (10 + length key) (u8_bytes 5 ++ (key_bytes key ++ u64_bytes version)) (item_bytes item ++ counted_bytes delta_bytes adds) front)
    ∙ item-there item (counted_bytes delta_bytes adds) fits.base in
    ap (λ b. cond b (item_in (drop (10 + byte_at 1 (entry_head bytes)) bytes)) None) (instance-there bytes 1 at_key at_version key version fits.instance there (omega arith))
    ∙ ap (λ read. cond (version == at_version && key_eq key at_key) read None) read

-- ---- facts

pub base-is-read : (key : Key) (version : ℕ) (fact : Fact) → IsWellFormedFact fact → base_in key version (fact_bytes fact) ≡ base_from key version fact
base-is-read key version (Fact.Booted epoch) fits = refl
base-is-read key version (Fact.Floor origin era upto) fits = refl
base-is-read key version (Fact.Promised other low high ballot) fits = refl
base-is-read key version (Fact.Voted other at ballot options offered) fits = refl
base-is-read key version (Fact.Heard tx outcome) fits = heard-base key version tx outcome fits
base-is-read key version (Fact.Adopted other at item adds) fits = adopted-base key version other at item adds fits
