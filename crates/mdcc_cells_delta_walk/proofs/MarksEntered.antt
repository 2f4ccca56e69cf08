-- The marks of a vote and the deltas of an adoption, entered one after the other.
use Rattle.std.proofs.Common.{◌≡◌, ◌+◌, ◌++◌, ◌∷◌, ℕ, suc, List, [], Some, length, drop, ap, sym, ◌∙◌, arith, refl, append_assoc}
use Rattle.std.specs.List.{AllByRecursion, cons_option, flat_map}
use Rattle.std.specs.Prelude.{filter_map, map}
use Rattle.mdcc_base.specs.declared.identifiers.TxId.{TxId}
use Rattle.mdcc_base.specs.declared.key.Key.{Key}
use Rattle.mdcc_option.specs.declared.choices.Choice.{Choice}
use Rattle.mdcc_option.specs.declared.choices.Mark.{Mark}
use Rattle.mdcc_option.specs.declared.items.Delta.{Delta}
use Rattle.mdcc_option.specs.declared.items.Update.{Update}
use Rattle.mdcc_struct.specs.Options.{Marks}
use Rattle.mdcc_def_messages.specs.Bytes.{u8_bytes}
use Rattle.mdcc_def_messages.specs.SpelledParts.{amounts_bytes, choice_bytes, delta_bytes, entry_bytes, tx_bytes, write_set_bytes}
use Rattle.mdcc_def_messages.specs.WellFormedParts.{IsWellFormedDelta, IsWellFormedEntry}
use Rattle.mdcc_def_protocol.specs.Facts.{amounts_added, live_mark}
use Rattle.mdcc_def_protocol.specs.Marks.{Amounts}
use Rattle.mdcc_theorem_encoding.proofs.Places.{IsAt, apart-2}
use Rattle.mdcc_theorem_encoding.proofs.Whole.{at_front}
use Rattle.mdcc_cells_delta_walk.specs.Passing.{after_counted, byte_at, entry_head, past_update}
use Rattle.mdcc_cells_delta_walk.specs.Entries.{DeltaEntry, added_in, after_mark_entry, amounts_in, cons_entry, delta_entries_in, tx_in, tx_of_mark}
use Rattle.mdcc_cells_delta_walk.specs.declared.entries.Kind.{Kind}
use Rattle.mdcc_cells_delta_walk.proofs.Passed.{amounts-passed, choice-passed, passed}
use Rattle.mdcc_cells_delta_walk.proofs.PartsThere.{IsChoiceThere, amounts-there, choice-parts, choice-there, choice_front, front-length, key-length, tx-there, update-there}
use Rattle.mdcc_cells_delta_walk.proofs.ChoicesEntered.{delta_entry, update_rest}

-- ---- marks

-- an update as it weighs
abbrev pub weighed : TxId × Update → DeltaEntry
weighed e = (e.0, amounts_added e.1)

mark-after : (c : Choice) (tx : TxId) (rest : List ℕ) → length c.key ≡ byte_at 10 (entry_head (entry_bytes tx (Mark.Accept c) ++ rest))
    → after_mark_entry (entry_bytes tx (Mark.Accept c) ++ rest) ≡ update_rest c rest
mark-after c tx rest long =
    let one : 19 + length c.key ≡ suc (18 + length c.key) = omega arith in
    ap (λ n. drop (19 + n) (entry_bytes tx (Mark.Accept c) ++ rest)) (sym long)
    ∙ ap (λ n. drop n (entry_bytes tx (Mark.Accept c) ++ rest)) one
    ∙ ap (drop (18 + length c.key)) (choice-parts c rest)
    ∙ passed (18 + length c.key) (choice_front c) (update_rest c rest) (front-length c)

mark-entered : (key : List ℕ) (version : ℕ) (tx : TxId) (mark : Mark) (rest : List ℕ) (read : List ℕ → List DeltaEntry) → IsWellFormedEntry key version tx mark
    → (others : List (TxId × Update)) → read rest ≡ map weighed others
    → cons_entry (tx_of_mark (entry_bytes tx mark ++ rest)) (added_in (after_mark_entry (entry_bytes tx mark ++ rest)))
    (read (past_update (after_mark_entry (entry_bytes tx mark ++ rest)))) (read (after_mark_entry (entry_bytes tx mark ++ rest)))
    ≡ map weighed (cons_option (live_mark (tx, mark)) others)
mark-entered key version tx Mark.Reject rest read fits others is = is
mark-entered key version tx (Mark.Accept c) rest read fits others is =
    let front : IsAt (entry_bytes tx (Mark.Accept c) ++ rest) 0 (u8_bytes 1 ++ choice_bytes c) = at_front (u8_bytes 1 ++ choice_bytes c) rest in
    let there : IsChoiceThere (entry_bytes tx (Mark.Accept c) ++ rest) 1 c = choice-there (entry_bytes tx (Mark.Accept c) ++ rest) 1 c (apart-2 (entry_bytes tx (Mark.Accept c) ++ rest) 0 (u8_bytes 1) (choice_bytes c) front).1 in
    let long : byte_at 10 (entry_head (entry_bytes tx (Mark.Accept c) ++ rest)) ≡ length c.key =
    key-length (entry_bytes tx (Mark.Accept c) ++ rest) 10 c.key there.key fits.choice_itself.key.fits (omega arith) in
    let after : after_mark_entry (entry_bytes tx (Mark.Accept c) ++ rest) ≡ update_rest c rest = mark-after c tx rest (sym long) in
    ap (λ t. (t, added_in (after_mark_entry (entry_bytes tx (Mark.Accept c) ++ rest))) ∷ read (past_update (after_mark_entry (entry_bytes tx (Mark.Accept c) ++ rest))))
    (tx-there (entry_bytes tx (Mark.Accept c) ++ rest) 1 c.tx fits.choice_itself.tx there.tx (omega arith) ∙ fits.same_tx)
    ∙ ap (λ b. (tx, added_in b) ∷ read (past_update b)) after
    ∙ ap (λ a. (tx, a) ∷ read (past_update (update_rest c rest))) (update-there c.update (write_set_bytes c.write_set ++ rest) fits.choice_itself.update)
    ∙ ap (λ b. (tx, amounts_added c.update) ∷ read b) (choice-passed c.update c.write_set rest)
    ∙ ap (λ es. (tx, amounts_added c.update) ∷ es) is

-- the marks of a vote, as they are read
pub marks-read : (at_key : Key) (at_version : ℕ) (key : List ℕ) (version : ℕ) (options : Marks) (rest : List ℕ) → AllByRecursion (λ e. IsWellFormedEntry key version e.0 e.1) options
    → delta_entries_in Kind.Marks at_key at_version (length options) (flat_map (λ e. entry_bytes e.0 e.1) options ++ rest) ≡ map weighed (filter_map live_mark options)
marks-read at_key at_version key version [] rest fits = refl
marks-read at_key at_version key version (e ∷ es) rest fits =
    ap (delta_entries_in Kind.Marks at_key at_version (suc (length es))) (append_assoc (entry_bytes e.0 e.1) (flat_map (λ e. entry_bytes e.0 e.1) es) rest)
    ∙ mark-entered key version e.0 e.1 (flat_map (λ e. entry_bytes e.0 e.1) es ++ rest) (delta_entries_in Kind.Marks at_key at_version (length es)) fits.0 (filter_map live_mark es)
    (marks-read at_key at_version key version es rest fits.1)

-- ---- deltas

delta-entered : (d : Delta) (rest : List ℕ) (read : List ℕ → List DeltaEntry) → IsWellFormedDelta d
    → ((tx_in (entry_head (delta_bytes d ++ rest)) 0, Some (amounts_in (entry_head (drop 9 (delta_bytes d ++ rest))) 0)) ∷ read (after_counted 9 (drop 9 (delta_bytes d ++ rest))))
    ≡ (delta_entry (d.tx, d.amounts) ∷ read rest)
delta-entered d rest read fits =
    let p = apart-2 (delta_bytes d ++ rest) 0 (tx_bytes d.tx) (amounts_bytes d.amounts) (at_front (delta_bytes d) rest) in
    let after : drop 9 (delta_bytes d ++ rest) ≡ amounts_bytes d.amounts ++ rest =
    ap (drop 9) (append_assoc (tx_bytes d.tx) (amounts_bytes d.amounts) rest) ∙ passed 9 (tx_bytes d.tx) (amounts_bytes d.amounts ++ rest) refl in
    ap (λ t. (t, Some (amounts_in (entry_head (drop 9 (delta_bytes d ++ rest))) 0)) ∷ read (after_counted 9 (drop 9 (delta_bytes d ++ rest))))
    (tx-there (delta_bytes d ++ rest) 0 d.tx fits.tx p.0 (omega arith))
    ∙ ap (λ b. (d.tx, Some (amounts_in (entry_head b) 0)) ∷ read (after_counted 9 b)) after
    ∙ ap (λ a. (d.tx, Some a) ∷ read (after_counted 9 (amounts_bytes d.amounts ++ rest)))
    (amounts-there (amounts_bytes d.amounts ++ rest) 0 d.amounts fits.amounts (at_front (amounts_bytes d.amounts) rest) (omega arith))
    ∙ ap (λ b. (d.tx, Some d.amounts) ∷ read b) (amounts-passed d.amounts rest)

abbrev pub delta_pair : Delta → TxId × Amounts
delta_pair d = (d.tx, d.amounts)

-- adopted deltas, as they are read
pub deltas-read : (key : Key) (version : ℕ) (adds : List Delta) (rest : List ℕ) → AllByRecursion IsWellFormedDelta adds
    → delta_entries_in Kind.Deltas key version (length adds) (flat_map delta_bytes adds ++ rest) ≡ map delta_entry (map delta_pair adds)
deltas-read key version [] rest fits = refl
deltas-read key version (d ∷ ds) rest fits =
    ap (delta_entries_in Kind.Deltas key version (suc (length ds))) (append_assoc (delta_bytes d) (flat_map delta_bytes ds) rest)
    ∙ delta-entered d (flat_map delta_bytes ds ++ rest) (delta_entries_in Kind.Deltas key version (length ds)) fits.0
    ∙ ap (λ es. delta_entry (d.tx, d.amounts) ∷ es) (deltas-read key version ds rest fits.1)
