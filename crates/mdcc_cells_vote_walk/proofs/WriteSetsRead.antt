-- The write sets of a fact, as they are read in its bytes.
use Rattle.std.proofs.Common.{◌≡◌, ℕ, Bool, true, false, List, [], ◌∷◌, ◌++◌, Option, Some, None, refl, sym, ap, ◌∙◌, append-nil, ◌⊎◌, inl, inr}
use Rattle.std.specs.Option.{option_and_then, option_map, option_or}
use Rattle.std.specs.Prelude.{filter_map, if◌then◌else◌}
use Rattle.std.proofs.lemmas.Bool.{cases_Bool}
use Rattle.mdcc_base.specs.TxId.{tx_eq}
use Rattle.mdcc_base.specs.declared.identifiers.Ballot.{Ballot}
use Rattle.mdcc_base.specs.declared.identifiers.TxId.{TxId}
use Rattle.mdcc_base.specs.declared.key.Key.{Key}
use Rattle.mdcc_option.specs.declared.choices.Choice.{Choice}
use Rattle.mdcc_option.specs.declared.choices.Mark.{Mark}
use Rattle.mdcc_option.specs.declared.choices.Mark.TheVariants.{Accept, Reject}
use Rattle.mdcc_struct.specs.Maps.{TxMap, are_ascending, value_of}
use Rattle.mdcc_struct.specs.Options.{Marks}
use Rattle.mdcc_struct.proofs.Order.{tx_eq-same}
use Rattle.mdcc_struct.proofs.Ordered.{ascending-below, ascending-tail, value_of-below}
use Rattle.mdcc_def_messages.specs.Spelling.{fact_bytes}
use Rattle.mdcc_def_messages.specs.WellFormed.{IsWellFormedFact}
use Rattle.mdcc_def_messages.specs.declared.facts.Fact.{Fact}
use Rattle.mdcc_def_protocol.specs.Facts.{choice_of_tx, write_set_of_mark, write_sets_from}
use Rattle.mdcc_def_protocol.specs.Marks.{choice_in}
use Rattle.mdcc_cells_vote_walk.specs.Older.{choice_by_head}
use Rattle.mdcc_cells_vote_walk.specs.WriteSets.{choice_any, choice_write_set}
use Rattle.mdcc_cells_vote_walk.specs.WriteSets as read
use Rattle.mdcc_cells_vote_walk.proofs.Headed.{any-head-again, any_head_from}
use Rattle.mdcc_cells_vote_walk.proofs.Marked.{choice-of}

-- ---- in a list of marks

-- the write set that a mark gives, or another one
abbrev or_other : Option Mark → Option (List (Key × ℕ)) → Option (List (Key × ℕ))
or_other mark other = option_or (option_map choice_write_set (option_and_then choice_in mark)) other

accepted-sets : (tx : TxId) (options : Marks) (others : TxMap (List (Key × ℕ))) → are_ascending options ≡ true
    → value_of (filter_map write_set_of_mark options ++ others) tx ≡ or_other (value_of options tx) (value_of others tx)
accepted-sets tx [] others up = refl
accepted-sets tx ((t, Accept choice) ∷ es) others up = by (tx_eq t tx) (accepted-sets tx es others (ascending-tail (t, Accept choice) es up))
  where
    by : (same : Bool) → value_of (filter_map write_set_of_mark es ++ others) tx ≡ or_other (value_of es tx) (value_of others tx)
        → (if same then Some choice.write_set else value_of (filter_map write_set_of_mark es ++ others) tx) ≡ or_other (if same then Some (Accept choice) else value_of es tx) (value_of others tx)
    by true more = refl
    by false more = more
accepted-sets tx ((t, Reject) ∷ es) others up = accepted-sets tx es others (ascending-tail (t, Reject) es up) ∙ by (cases_Bool (tx_eq t tx))
  where
    by : (tx_eq t tx ≡ true) ⊎ (tx_eq t tx ≡ false) → or_other (value_of es tx) (value_of others tx) ≡ or_other (if tx_eq t tx then Some Reject else value_of es tx) (value_of others tx)
    by (inl same) =
        let none : value_of es tx ≡ None = rw (← tx_eq-same t tx same) (value_of-below t es (ascending-below (t, Reject) es up)) in
        rw (none, same) refl
    by (inr other) = rw other refl

-- ---- in a fact

offered-set : (tx : TxId) (choice : Choice) → value_of ((choice.tx, choice.write_set) ∷ []) tx ≡ option_map choice_write_set (choice_of_tx tx choice)
offered-set tx choice = by (tx_eq choice.tx tx)
  where
    by : (same : Bool) → (if same then Some choice.write_set else None) ≡ option_map choice_write_set (if same then Some choice else None)
    by true = refl
    by false = refl

map-or : (a b : Option Choice) → option_map choice_write_set (option_or a b) ≡ option_or (option_map choice_write_set a) (option_map choice_write_set b)
map-or None b = refl
map-or (Some a) b = refl

sets-of : (tx : TxId) (key : Key) (version : ℕ) (ballot : Ballot) (options : Marks) (offered : Option Choice) → are_ascending options ≡ true
    → value_of (write_sets_from (Fact.Voted key version ballot options offered)) tx
    ≡ option_map choice_write_set (option_or (option_and_then choice_in (value_of options tx)) (option_and_then (choice_of_tx tx) offered))
sets-of tx key version ballot options None up =
    ap (λ sets. value_of sets tx) (sym (append-nil (filter_map write_set_of_mark options)))
    ∙ accepted-sets tx options [] up
    ∙ sym (map-or (option_and_then choice_in (value_of options tx)) None)
sets-of tx key version ballot options (Some choice) up =
    accepted-sets tx options ((choice.tx, choice.write_set) ∷ []) up
    ∙ ap (or_other (value_of options tx)) (offered-set tx choice)
    ∙ sym (map-or (option_and_then choice_in (value_of options tx)) (choice_of_tx tx choice))

set-by : (tx : TxId) (fact : Fact) → IsWellFormedFact fact → option_map choice_write_set (choice_by_head tx (fact_bytes fact) (any_head_from fact)) ≡ value_of (write_sets_from fact) tx
set-by tx (Fact.Booted epoch) w = refl
set-by tx (Fact.Floor origin era upto) w = refl
set-by tx (Fact.Promised k low high b) w = refl
set-by tx (Fact.Heard t outcome) w = refl
set-by tx (Fact.Adopted k v item adds) w = refl
set-by tx (Fact.Voted k v b options offered) w =
    ap (option_map choice_write_set) (choice-of k v b options offered w tx) ∙ sym (sets-of tx k v b options offered w.options_itself.ascending)

pub write-set-again : (tx : TxId) (fact : Fact) → IsWellFormedFact fact → read.write_set_in tx (fact_bytes fact) ≡ value_of (write_sets_from fact) tx
write-set-again tx fact w = ap (λ head. option_map choice_write_set (choice_by_head tx (fact_bytes fact) head)) (any-head-again fact w) ∙ set-by tx fact w
