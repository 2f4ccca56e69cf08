-- Parts of encodings that are passed: what stands after them is left.
use Rattle.std.proofs.Common.{◌≡◌, ◌+◌, ◌*◌, ◌++◌, ◌∷◌, ℕ, ℤ, List, [], length, drop, ap, ◌∙◌, arith, refl, append_assoc, length-append}
use Rattle.std.specs.List.{flat_map}
use Rattle.std.proofs.lemmas.List.{drop_at}
use Rattle.mdcc_base.specs.declared.identifiers.TxId.{TxId}
use Rattle.mdcc_option.specs.declared.items.Item.{Item}
use Rattle.mdcc_option.specs.declared.items.Update.{Update}
use Rattle.mdcc_def_messages.specs.Bytes.{counted_bytes, i64_bytes, u64_bytes, u8_bytes}
use Rattle.mdcc_def_messages.specs.SpelledParts.{amount_bytes, amounts_bytes, item_bytes, key_bytes, seen_bytes, tx_bytes, update_bytes, write_set_bytes, written_bytes}
use Rattle.mdcc_cells_delta_walk.specs.Passing.{after_counted, after_counted_item, after_counted_keys, after_counted_update, after_counted_write_set, past_update}

-- so many bytes
pub passed : (n : ℕ) (text rest : List ℕ) → length text ≡ n → drop n (text ++ rest) ≡ rest
passed n text rest long = drop_at text rest n long

-- elements of one width
pub wide : {X : Type 0} (f : X → List ℕ) (width : ℕ) → ((x : X) → length (f x) ≡ width) → (xs : List X) → length (flat_map f xs) ≡ width * length xs
wide f width each [] = omega arith
wide f width each (x ∷ xs) = omega (arith, length-append (f x) (flat_map f xs), each x, wide f width each xs)

pub counted-passed : {X : Type 0} (f : X → List ℕ) (width : ℕ) → ((x : X) → length (f x) ≡ width) → (xs : List X) (rest : List ℕ)
    → after_counted width (counted_bytes f xs ++ rest) ≡ rest
counted-passed f width each xs rest =
    passed (1 + width * length xs) (counted_bytes f xs) rest (omega (arith, wide f width each xs, length-append (u8_bytes (length xs)) (flat_map f xs)))

pub key-passed : (key rest : List ℕ) → after_counted 1 (key_bytes key ++ rest) ≡ rest
key-passed key rest = passed (1 + 1 * length key) (key_bytes key) rest (omega (arith, length-append (u8_bytes (length key)) key))

pub item-passed : (item : Item) (rest : List ℕ) → after_counted_item (item_bytes item ++ rest) ≡ rest
item-passed item rest =
    ap after_counted_item (append_assoc (key_bytes item.body) (counted_bytes i64_bytes item.values) rest)
    ∙ ap (after_counted 8) (key-passed item.body (counted_bytes i64_bytes item.values ++ rest))
    ∙ counted-passed i64_bytes 8 (λ x. refl) item.values rest

pub seen-passed : (seen : List TxId) (rest : List ℕ) → after_counted 9 (seen_bytes seen ++ rest) ≡ rest
seen-passed seen rest = counted-passed tx_bytes 9 (λ x. refl) seen rest

pub amounts-passed : (amounts : List (ℕ × ℤ)) (rest : List ℕ) → after_counted 9 (amounts_bytes amounts ++ rest) ≡ rest
amounts-passed amounts rest = counted-passed amount_bytes 9 (λ x. refl) amounts rest

pub update-passed : (update : Update) (rest : List ℕ) → after_counted_update (update_bytes update ++ rest) ≡ rest
update-passed (Update.Write item seen) rest =
    ap (λ b. after_counted 9 (after_counted_item b)) (append_assoc (item_bytes item) (seen_bytes seen) rest)
    ∙ ap (after_counted 9) (item-passed item (seen_bytes seen ++ rest))
    ∙ seen-passed seen rest
update-passed (Update.Add amounts) rest = amounts-passed amounts rest

written-passed : (written : List (List ℕ × ℕ)) (rest : List ℕ) → after_counted_keys (length written) (flat_map written_bytes written ++ rest) ≡ rest
written-passed [] rest = refl
written-passed (w ∷ ws) rest =
    ap (λ b. after_counted_keys (length ws) (drop 8 (after_counted 1 b)))
    (append_assoc (written_bytes w) (flat_map written_bytes ws) rest ∙ append_assoc (key_bytes w.0) (u64_bytes w.1) (flat_map written_bytes ws ++ rest))
    ∙ ap (λ b. after_counted_keys (length ws) (drop 8 b)) (key-passed w.0 (u64_bytes w.1 ++ (flat_map written_bytes ws ++ rest)))
    ∙ ap (after_counted_keys (length ws)) (passed 8 (u64_bytes w.1) (flat_map written_bytes ws ++ rest) refl)
    ∙ written-passed ws rest

pub write_set-passed : (write_set : List (List ℕ × ℕ)) (rest : List ℕ) → after_counted_write_set (write_set_bytes write_set ++ rest) ≡ rest
write_set-passed write_set rest = written-passed write_set rest

-- from the update of a choice on
pub choice-passed : (update : Update) (write_set : List (List ℕ × ℕ)) (rest : List ℕ) → past_update (update_bytes update ++ (write_set_bytes write_set ++ rest)) ≡ rest
choice-passed update write_set rest =
    ap after_counted_write_set (update-passed update (write_set_bytes write_set ++ rest)) ∙ write_set-passed write_set rest
