-- Parts that stand at the head of entries are read there.
use Rattle.std.proofs.Common.{◌≡◌, ◌+◌, ◌<◌, ◌≤◌, ◌++◌, ◌^◌, ℕ, ℤ, Bool, true, false, List, Some, drop, length, take, ap, ◌∙◌, arith, refl, append_assoc, length-append}
use Rattle.std.specs.Prelude.{◌&&◌, ◌==◌, not}
use Rattle.mdcc_base.specs.Key.{key_eq}
use Rattle.mdcc_base.specs.declared.identifiers.TxId.{TxId}
use Rattle.mdcc_base.specs.declared.key.Key.{Key}
use Rattle.mdcc_option.specs.declared.choices.Choice.{Choice}
use Rattle.mdcc_option.specs.declared.items.Update.{Update}
use Rattle.mdcc_def_messages.specs.Bytes.{u32_bytes, u64_bytes, u8_bytes}
use Rattle.mdcc_def_messages.specs.SpelledParts.{amount_bytes, amounts_bytes, choice_bytes, key_bytes, tx_bytes, update_bytes, write_set_bytes}
use Rattle.mdcc_def_messages.specs.WellFormedParts.{IsWellFormedAmounts, IsWellFormedInstance, IsWellFormedTx, IsWellFormedUpdate}
use Rattle.mdcc_def_protocol.specs.Facts.{amounts_added}
use Rattle.mdcc_def_protocol.specs.Marks.{is_write}
use Rattle.mdcc_theorem_encoding.proofs.Places.{IsAt, apart-2, apart-5, taken, together}
use Rattle.mdcc_theorem_encoding.proofs.Numbers.{u32_again, u64_again}
use Rattle.mdcc_theorem_encoding.proofs.Identifiers.{tx_again}
use Rattle.mdcc_theorem_encoding.proofs.Items.{amounts_again}
use Rattle.mdcc_theorem_encoding.proofs.Whole.{at_front}
use Rattle.mdcc_cells_delta_walk.specs.Passing.{byte_at, entry_head}
use Rattle.mdcc_cells_delta_walk.specs.Entries.{added_in, amounts_in, amounts_read, is_instance_in, number_in, number_read, tx_in, tx_read, version_in}
use Rattle.mdcc_cells_delta_walk.proofs.Heads.{byte-there, in-head}
use Rattle.mdcc_cells_delta_walk.proofs.Passed.{wide}

pub tx-there : (bytes : List ℕ) (at : ℕ) (tx : TxId) → IsWellFormedTx tx → IsAt bytes at (tx_bytes tx) → at + 9 ≤ 64 → tx_in (entry_head bytes) at ≡ tx
tx-there bytes at tx fits h within = ap tx_read (tx_again (entry_head bytes) at tx fits (in-head bytes at (tx_bytes tx) h within))

pub instance-there : (bytes : List ℕ) (at : ℕ) (key : Key) (version : ℕ) (other : List ℕ) (found : ℕ) → IsWellFormedInstance other found
    → IsAt bytes at (key_bytes other ++ u64_bytes found) → at + 41 ≤ 64
    → is_instance_in key version (entry_head bytes) at ≡ (found == version && key_eq other key)
instance-there bytes at key version other found fits h within =
    let head : List ℕ = entry_head bytes in
    let long : length (key_bytes other) ≡ 1 + length other = omega (arith, length-append (u8_bytes (length other)) other) in
    let there : IsAt (entry_head bytes) at (key_bytes other ++ u64_bytes found) =
    in-head bytes at (key_bytes other ++ u64_bytes found) h (omega (arith, fits.key_itself.fits, long, length-append (key_bytes other) (u64_bytes found))) in
    let p = apart-2 head at (key_bytes other) (u64_bytes found) there in
    let q = apart-2 head at (u8_bytes (length other)) other p.0 in
    let count : byte_at at head ≡ length other = byte-there head at (length other) other p.0 in
    let text : take (byte_at at head) (drop (at + 1) head) ≡ other = ap (λ n. take n (drop (at + 1) head)) count ∙ taken head (at + 1) other q.1 in
    let place : at + 1 + byte_at at head ≡ at + length (key_bytes other) = omega (arith, count, long) in
    let number : version_in head (at + 1 + byte_at at head) ≡ found =
    ap (version_in head) place ∙ ap number_read (u64_again head (at + length (key_bytes other)) found fits.version_fits p.1) in
    ap (λ t. key_eq t key && version_in head (at + 1 + byte_at at head) == version) text
    ∙ ap (λ n. key_eq other key && n == version) number
    ∙ both-ways (key_eq other key) (found == version)
  where
    both-ways : (a b : Bool) → (a && b) ≡ (b && a)
    both-ways true true = refl
    both-ways true false = refl
    both-ways false true = refl
    both-ways false false = refl

pub number-there : (bytes : List ℕ) (at n : ℕ) → n < 2 ^ 32 → IsAt bytes at (u32_bytes n) → at + 4 ≤ 64 → number_in (entry_head bytes) at ≡ n
number-there bytes at n fits h within = ap number_read (u32_again (entry_head bytes) at n fits (in-head bytes at (u32_bytes n) h within))

short-amounts : (amounts : List (ℕ × ℤ)) → IsWellFormedAmounts amounts → length (amounts_bytes amounts) ≤ 37
short-amounts amounts fits = omega (arith, fits.count.1, wide amount_bytes 9 (λ x. refl) amounts)

pub amounts-there : (bytes : List ℕ) (at : ℕ) (amounts : List (ℕ × ℤ)) → IsWellFormedAmounts amounts → IsAt bytes at (amounts_bytes amounts) → at + 37 ≤ 64
    → amounts_in (entry_head bytes) at ≡ amounts
amounts-there bytes at amounts fits h within =
    ap amounts_read (amounts_again (entry_head bytes) at amounts fits (in-head bytes at (amounts_bytes amounts) h (omega (arith, short-amounts amounts fits))))

pub update-there : (update : Update) (rest : List ℕ) → IsWellFormedUpdate update → added_in (update_bytes update ++ rest) ≡ amounts_added update
update-there (Update.Write item seen) rest fits = refl
update-there (Update.Add amounts) rest fits =
    let p = apart-2 (update_bytes (Update.Add amounts) ++ rest) 0 (u8_bytes 2) (amounts_bytes amounts) (at_front (update_bytes (Update.Add amounts)) rest) in
    ap Some (amounts-there (update_bytes (Update.Add amounts) ++ rest) 1 amounts fits p.1 (omega arith))

-- the first byte of an update says whether it adds
pub update-first : (update : Update) (rest : List ℕ) → (byte_at 0 (update_bytes update ++ rest) == 2) ≡ not (is_write update)
update-first (Update.Write item seen) rest = refl
update-first (Update.Add amounts) rest = refl

-- ---- choices

abbrev pub choice_front : Choice → List ℕ
choice_front c = tx_bytes c.tx ++ key_bytes c.key ++ u64_bytes c.version

pub front-length : (c : Choice) → length (choice_front c) ≡ 18 + length c.key
front-length c =
    omega (arith, length-append (tx_bytes c.tx ++ key_bytes c.key) (u64_bytes c.version), length-append (tx_bytes c.tx) (key_bytes c.key), length-append (u8_bytes (length c.key)) c.key)

pub choice-parts : (c : Choice) (rest : List ℕ) → choice_bytes c ++ rest ≡ choice_front c ++ (update_bytes c.update ++ (write_set_bytes c.write_set ++ rest))
choice-parts c rest =
    append_assoc (choice_front c ++ update_bytes c.update) (write_set_bytes c.write_set) rest
    ∙ append_assoc (choice_front c) (update_bytes c.update) (write_set_bytes c.write_set ++ rest)

-- what stands at the front of a choice
pub record IsChoiceThere (bytes : List ℕ) (at : ℕ) (c : Choice) : Type 0 where
  pub tx : IsAt bytes at (tx_bytes c.tx)
  pub key : IsAt bytes (at + 9) (u8_bytes (length c.key) ++ c.key)
  pub instance : IsAt bytes (at + 9) (key_bytes c.key ++ u64_bytes c.version)

pub choice-there : (bytes : List ℕ) (at : ℕ) (c : Choice) → IsAt bytes at (choice_bytes c) → IsChoiceThere bytes at c
choice-there bytes at c h =
    let p = apart-5 bytes at (tx_bytes c.tx) (key_bytes c.key) (u64_bytes c.version) (update_bytes c.update) (write_set_bytes c.write_set) h in
    record { tx = p.0; key = p.1; instance = together bytes (at + 9) (at + 9 + length (key_bytes c.key)) (key_bytes c.key) (u64_bytes c.version) p.1 refl p.2 }

-- how long the key is
pub key-length : (bytes : List ℕ) (at : ℕ) (key : List ℕ) → IsAt bytes at (key_bytes key) → length key ≤ 32 → at + 33 ≤ 64 → byte_at at (entry_head bytes) ≡ length key
key-length bytes at key h few within =
    byte-there (entry_head bytes) at (length key) key (in-head bytes at (key_bytes key) h (omega (arith, length-append (u8_bytes (length key)) key)))
