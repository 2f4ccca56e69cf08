-- What follows parts whose bytes are known.
use Rattle.std.proofs.Common.{◌≡◌, ℕ, zero, suc, ◌+◌, ◌-◌, ◌*◌, ◌<◌, List, [], ◌∷◌, ◌++◌, length, drop, refl, ap, ◌∙◌, append_assoc, arith, length-append}
use Rattle.std.proofs.lemmas.List.{drop_at}
use Rattle.std.specs.List.{flat_map}
use Rattle.mdcc_option.specs.declared.choices.Choice.{Choice}
use Rattle.mdcc_option.specs.declared.choices.Mark.{Mark}
use Rattle.mdcc_option.specs.declared.choices.Mark.TheVariants.{Accept, Reject}
use Rattle.mdcc_option.specs.declared.items.Item.{Item}
use Rattle.mdcc_option.specs.declared.items.Update.{Update}
use Rattle.mdcc_option.specs.declared.items.Update.TheVariants.{Add, Write}
use Rattle.mdcc_base.specs.declared.identifiers.TxId.{TxId}
use Rattle.mdcc_struct.specs.Options.{Marks}
use Rattle.mdcc_def_messages.specs.Bytes.{counted_bytes, i64_bytes, u64_bytes}
use Rattle.mdcc_def_messages.specs.SpelledParts.{amount_bytes, choice_bytes, entry_bytes, item_bytes, key_bytes, seen_bytes, tx_bytes, update_bytes, write_set_bytes, written_bytes}
use Rattle.mdcc_theorem_encoding.proofs.Choices.{entry_spelled}
use Rattle.mdcc_cells_vote_walk.specs.Passing.{after_choice, after_each, after_item, after_list, after_mark, after_marks, after_update, after_write_set, after_written}

pub passed_each : (n : ℕ) (bytes : List ℕ) → 0 < n → after_each n bytes ≡ after_each (n - 1) (after_written bytes)
passed_each zero bytes some = absurd (omega arith)
passed_each (suc n) bytes some = let same : n ≡ suc n - 1 = omega arith in ap (λ k. after_each k (after_written bytes)) same

pub passed_marks : (n : ℕ) (bytes : List ℕ) → 0 < n → after_marks n bytes ≡ after_marks (n - 1) (after_mark bytes)
passed_marks zero bytes some = absurd (omega arith)
passed_marks (suc n) bytes some = let same : n ≡ suc n - 1 = omega arith in ap (λ k. after_marks k (after_mark bytes)) same

-- ---- lists

after-list : (width n : ℕ) (text rest : List ℕ) → length text ≡ width * n → after_list width (n ∷ (text ++ rest)) ≡ rest
after-list width n text rest long =
    let end : 1 + width * n ≡ suc (length text) = omega arith in
    ap (λ k. drop k (n ∷ (text ++ rest))) end ∙ drop_at text rest (length text) refl

-- elements of one width
width-of : {X : Type 0} (spelled : X → List ℕ) (width : ℕ) → ((x : X) → length (spelled x) ≡ width) → (xs : List X) → length (flat_map spelled xs) ≡ width * length xs
width-of spelled width each [] = omega arith
width-of spelled width each (x ∷ xs) =
    grind (arith, length-append (spelled x) (flat_map spelled xs), each x, width-of spelled width each xs)

after-key : (key rest : List ℕ) → after_list 1 (key_bytes key ++ rest) ≡ rest
after-key key rest = after-list 1 (length key) key rest (omega arith)

after-counted : {X : Type 0} (spelled : X → List ℕ) (width : ℕ) → ((x : X) → length (spelled x) ≡ width) → (xs : List X) (rest : List ℕ)
    → after_list width (counted_bytes spelled xs ++ rest) ≡ rest
after-counted spelled width each xs rest = after-list width (length xs) (flat_map spelled xs) rest (width-of spelled width each xs)

-- ---- updates

after-item : (item : Item) (rest : List ℕ) → after_item (item_bytes item ++ rest) ≡ rest
after-item item rest =
    let values = counted_bytes i64_bytes item.values in
    ap (λ bytes. after_item (length item.body ∷ bytes)) (append_assoc item.body values rest)
    ∙ ap (after_list 8) (after-list 1 (length item.body) item.body (values ++ rest) (omega arith))
    ∙ after-counted i64_bytes 8 (λ z. refl) item.values rest

after-update : (update : Update) (rest : List ℕ) → after_update (update_bytes update ++ rest) ≡ rest
after-update (Write item seen) rest =
    ap (λ bytes. after_list 9 (after_item bytes)) (append_assoc (item_bytes item) (seen_bytes seen) rest)
    ∙ ap (after_list 9) (after-item item (seen_bytes seen ++ rest))
    ∙ after-counted tx_bytes 9 (λ tx. refl) seen rest
after-update (Add amounts) rest = after-counted amount_bytes 9 (λ amount. refl) amounts rest

-- ---- write sets and choices

after-written : (written : List ℕ × ℕ) (rest : List ℕ) → after_written (written_bytes written ++ rest) ≡ rest
after-written written rest =
    ap (λ bytes. after_written (length written.0 ∷ bytes)) (append_assoc written.0 (u64_bytes written.1) rest)
    ∙ ap (drop 8) (after-key written.0 (u64_bytes written.1 ++ rest))

after-each : (write_set : List (List ℕ × ℕ)) (rest : List ℕ) → after_each (length write_set) (flat_map written_bytes write_set ++ rest) ≡ rest
after-each [] rest = refl
after-each (w ∷ ws) rest =
    ap (λ bytes. after_each (length ws) (after_written bytes)) (append_assoc (written_bytes w) (flat_map written_bytes ws) rest)
    ∙ ap (after_each (length ws)) (after-written w (flat_map written_bytes ws ++ rest))
    ∙ after-each ws rest

pub after-choice : (choice : Choice) (rest : List ℕ) → after_choice (choice_bytes choice ++ rest) ≡ rest
after-choice choice rest =
    let written = written_bytes (choice.key, choice.version) in
    let update = update_bytes choice.update in
    let write_set = write_set_bytes choice.write_set in
    ap (λ bytes. after_write_set (after_update (after_written bytes)))
    (append_assoc (written ++ update) write_set rest ∙ append_assoc written update (write_set ++ rest))
    ∙ ap (λ bytes. after_write_set (after_update bytes)) (after-written (choice.key, choice.version) (update ++ (write_set ++ rest)))
    ∙ ap after_write_set (after-update choice.update (write_set ++ rest))
    ∙ after-each choice.write_set rest

-- ---- marks

pub after-mark : (tx : TxId) (mark : Mark) (rest : List ℕ) → after_mark (entry_bytes tx mark ++ rest) ≡ rest
after-mark tx Reject rest = refl
after-mark tx (Accept choice) rest = after-choice choice rest

pub after-marks : (options : Marks) (rest : List ℕ) → after_marks (length options) (flat_map entry_spelled options ++ rest) ≡ rest
after-marks [] rest = refl
after-marks (e ∷ es) rest =
    ap (λ bytes. after_marks (length es) (after_mark bytes)) (append_assoc (entry_spelled e) (flat_map entry_spelled es) rest)
    ∙ ap (after_marks (length es)) (after-mark e.0 e.1 (flat_map entry_spelled es ++ rest))
    ∙ after-marks es rest
