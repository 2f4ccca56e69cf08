-- The choices of a commit, entered one after the other.
use Rattle.std.proofs.Common.{◌≡◌, ◌+◌, ◌++◌, ◌∷◌, ℕ, suc, Bool, true, false, List, [], Option, Some, None, cond, length, drop, ap, ◌∙◌, arith, refl, append_assoc}
use Rattle.std.specs.List.{AllByRecursion, cons_option, flat_map}
use Rattle.std.specs.Prelude.{◌&&◌, ◌==◌, filter_map, map, not, option_map}
use Rattle.mdcc_base.specs.Key.{key_eq}
use Rattle.mdcc_base.specs.declared.identifiers.TxId.{TxId}
use Rattle.mdcc_base.specs.declared.key.Key.{Key}
use Rattle.mdcc_option.specs.declared.choices.Choice.{Choice}
use Rattle.mdcc_option.specs.declared.items.Update.{Update}
use Rattle.mdcc_def_messages.specs.SpelledParts.{choice_bytes, update_bytes, write_set_bytes}
use Rattle.mdcc_def_messages.specs.WellFormedParts.{IsWellFormedChoice, IsWellFormedOf}
use Rattle.mdcc_def_protocol.specs.Facts.{amounts_added, delta_given}
use Rattle.mdcc_def_protocol.specs.Marks.{Amounts, is_write}
use Rattle.mdcc_theorem_encoding.proofs.Whole.{at_front}
use Rattle.mdcc_cells_delta_walk.specs.Passing.{byte_at, entry_head, past_update}
use Rattle.mdcc_cells_delta_walk.specs.Entries.{DeltaEntry, added_in, after_other_choice, bytes_at_update, cons_entry, delta_entries_in, is_add_of, tx_in, tx_of_choice}
use Rattle.mdcc_cells_delta_walk.specs.declared.entries.Kind.{Kind}
use Rattle.mdcc_cells_delta_walk.proofs.Passed.{choice-passed, passed}
use Rattle.mdcc_cells_delta_walk.proofs.PartsThere.{IsChoiceThere, choice-parts, choice-there, choice_front, front-length, instance-there, key-length, tx-there, update-first, update-there}

-- what follows the update of a choice
abbrev pub update_rest : Choice → List ℕ → List ℕ
update_rest c rest = update_bytes c.update ++ (write_set_bytes c.write_set ++ rest)

pub update-of : (c : Choice) (rest : List ℕ) → IsWellFormedChoice c → bytes_at_update (choice_bytes c ++ rest) ≡ update_rest c rest
update-of c rest fits =
    let there : IsChoiceThere (choice_bytes c ++ rest) 0 c = choice-there (choice_bytes c ++ rest) 0 c (at_front (choice_bytes c) rest) in
    let long : byte_at 9 (entry_head (choice_bytes c ++ rest)) ≡ length c.key = key-length (choice_bytes c ++ rest) 9 c.key there.key fits.key.fits (omega arith) in
    ap (λ n. drop (18 + n) (choice_bytes c ++ rest)) long
    ∙ ap (drop (18 + length c.key)) (choice-parts c rest)
    ∙ passed (18 + length c.key) (choice_front c) (update_rest c rest) (front-length c)

pub rest-of : (c : Choice) (rest : List ℕ) → IsWellFormedChoice c → past_update (bytes_at_update (choice_bytes c ++ rest)) ≡ rest
rest-of c rest fits = ap past_update (update-of c rest fits) ∙ choice-passed c.update c.write_set rest

-- a choice of the instance that adds
abbrev pub adds_there : Key → ℕ → Choice → Bool
adds_there key version c = (c.version == version && key_eq c.key key) && not (is_write c.update)

add-of : (key : Key) (version : ℕ) (c : Choice) (rest : List ℕ) → IsWellFormedChoice c → is_add_of key version (choice_bytes c ++ rest) ≡ adds_there key version c
add-of key version c rest fits =
    let there : IsChoiceThere (choice_bytes c ++ rest) 0 c = choice-there (choice_bytes c ++ rest) 0 c (at_front (choice_bytes c) rest) in
    ap (λ b. b && (byte_at 0 (bytes_at_update (choice_bytes c ++ rest)) == 2))
    (instance-there (choice_bytes c ++ rest) 9 key version c.key c.version (record { key_itself = fits.key; version_fits = fits.version }) there.instance (omega arith))
    ∙ ap (λ b. (c.version == version && key_eq c.key key) && (byte_at 0 b == 2)) (update-of c rest fits)
    ∙ ap (λ b. (c.version == version && key_eq c.key key) && b) (update-first c.update (write_set_bytes c.write_set ++ rest))

-- a delta as an entry
abbrev pub delta_entry : TxId × Amounts → DeltaEntry
delta_entry d = (d.0, Some d.1)

abbrev pub taken_first : Option (TxId × Amounts) → List DeltaEntry → List DeltaEntry
taken_first None others = others
taken_first (Some d) others = delta_entry d ∷ others

-- a test that was decided
chosen : (test : Bool) (tx : TxId) (update past : List ℕ) (read : List ℕ → List DeltaEntry)
    → cons_entry (cond test (Some tx) None) (added_in (cond test update past)) (read (past_update (cond test update past))) (read (cond test update past))
    ≡ cond test ((tx, added_in update) ∷ read (past_update update)) (read past)
chosen true tx update past read = refl
chosen false tx update past read = refl

given-alike : (same : Bool) (update : Update) (tx : TxId) (others : List DeltaEntry)
    → cond (same && not (is_write update)) ((tx, amounts_added update) ∷ others) others
    ≡ taken_first (cond same (option_map (λ amounts. (tx, amounts)) (amounts_added update)) None) others
given-alike true (Update.Write item seen) tx others = refl
given-alike true (Update.Add amounts) tx others = refl
given-alike false update tx others = refl

choice-entered : (key : Key) (version : ℕ) (c : Choice) (rest : List ℕ) (read : List ℕ → List DeltaEntry) → IsWellFormedChoice c
    → cons_entry (tx_of_choice key version (choice_bytes c ++ rest)) (added_in (after_other_choice key version (choice_bytes c ++ rest)))
    (read (past_update (after_other_choice key version (choice_bytes c ++ rest)))) (read (after_other_choice key version (choice_bytes c ++ rest)))
    ≡ taken_first (delta_given key version c) (read rest)
choice-entered key version c rest read fits =
    let there : IsChoiceThere (choice_bytes c ++ rest) 0 c = choice-there (choice_bytes c ++ rest) 0 c (at_front (choice_bytes c) rest) in
    let tx : tx_in (entry_head (choice_bytes c ++ rest)) 0 ≡ c.tx = tx-there (choice_bytes c ++ rest) 0 c.tx fits.tx there.tx (omega arith) in
    let added : added_in (bytes_at_update (choice_bytes c ++ rest)) ≡ amounts_added c.update = ap added_in (update-of c rest fits) ∙ update-there c.update (write_set_bytes c.write_set ++ rest) fits.update in
    chosen (is_add_of key version (choice_bytes c ++ rest)) (tx_in (entry_head (choice_bytes c ++ rest)) 0) (bytes_at_update (choice_bytes c ++ rest)) (past_update (bytes_at_update (choice_bytes c ++ rest))) read
    ∙ ap (λ past. cond (is_add_of key version (choice_bytes c ++ rest)) ((tx_in (entry_head (choice_bytes c ++ rest)) 0, added_in (bytes_at_update (choice_bytes c ++ rest))) ∷ read past) (read past)) (rest-of c rest fits)
    ∙ ap (λ t. cond (is_add_of key version (choice_bytes c ++ rest)) ((t, added_in (bytes_at_update (choice_bytes c ++ rest))) ∷ read rest) (read rest)) tx
    ∙ ap (λ a. cond (is_add_of key version (choice_bytes c ++ rest)) ((c.tx, a) ∷ read rest) (read rest)) added
    ∙ ap (λ b. cond b ((c.tx, amounts_added c.update) ∷ read rest) (read rest)) (add-of key version c rest fits)
    ∙ given-alike (c.version == version && key_eq c.key key) c.update c.tx (read rest)

taken-map : (d : Option (TxId × Amounts)) (ds : List (TxId × Amounts)) → taken_first d (map delta_entry ds) ≡ map delta_entry (cons_option d ds)
taken-map None ds = refl
taken-map (Some d) ds = refl

-- the choices of a commit, as they are read
pub choices-read : (key : Key) (version : ℕ) (tx : TxId) (choices : List Choice) (rest : List ℕ) → AllByRecursion (IsWellFormedOf tx) choices
    → delta_entries_in Kind.Choices key version (length choices) (flat_map choice_bytes choices ++ rest) ≡ map delta_entry (filter_map (delta_given key version) choices)
choices-read key version tx [] rest fits = refl
choices-read key version tx (c ∷ cs) rest fits =
    ap (delta_entries_in Kind.Choices key version (suc (length cs))) (append_assoc (choice_bytes c) (flat_map choice_bytes cs) rest)
    ∙ choice-entered key version c (flat_map choice_bytes cs ++ rest) (delta_entries_in Kind.Choices key version (length cs)) fits.0.choice_itself
    ∙ ap (taken_first (delta_given key version c)) (choices-read key version tx cs rest fits.1)
    ∙ taken-map (delta_given key version c) (filter_map (delta_given key version) cs)
