-- A test that a ledger is allowed, for computed schedules: it looks for the sets of centres and the claims of which `IsAllowed` only says that there are some.
-- It takes what centres report as they do now, and not what they reported before some marks were forgotten.
use Rattle.std.specs.List.{list_any}
use Rattle.std.specs.Prelude.{Bool, List, None, Option, Some, [], false, filter, if◌then◌else◌, is_ok, is_some, length, map, nat_le, nat_lt, not, true, ℕ, ◌&&◌, ◌++◌, ◌+◌, ◌==◌, ◌||◌, ◌∷◌}
use Rattle.mdcc_base.specs.Ballot.{ballot_eq, is_fast}
use Rattle.mdcc_base.specs.Key.{key_eq}
use Rattle.mdcc_base.specs.Quorums.{all_centres}
use Rattle.mdcc_base.specs.TxId.{tx_eq}
use Rattle.mdcc_base.specs.declared.identifiers.Ballot.{Ballot}
use Rattle.mdcc_base.specs.declared.identifiers.TxId.{TxId}
use Rattle.mdcc_base.specs.declared.key.Key.{Key}
use Rattle.mdcc_option.specs.Equality.{amounts_eq, choices_eq, item_eq}
use Rattle.mdcc_option.specs.Parts.{are_parts_ascending}
use Rattle.mdcc_option.specs.Transaction.{choices_of, transaction_of}
use Rattle.mdcc_option.specs.declared.choices.Choice.{Choice}
use Rattle.mdcc_option.specs.declared.choices.Outcome.{Outcome}
use Rattle.mdcc_option.specs.declared.cluster.Cluster.{Cluster}
use Rattle.mdcc_option.specs.declared.items.Delta.{Delta}
use Rattle.mdcc_option.specs.declared.items.Item.{Item}
use Rattle.mdcc_option.specs.declared.items.Part.{Part}
use Rattle.mdcc_option.specs.declared.schema.Schema.{Schema}
use Rattle.mdcc_struct.specs.Maps.{TxMap, union, value_of}
use Rattle.mdcc_struct.specs.declared.options.Options.{Options}
use Rattle.mdcc_struct.specs.declared.report.Report.{Report}
use Rattle.mdcc_def_ledger.specs.AllowedLedgers.{did_all_hear, is_fast_vote_begun, part_in, seqs_begun}
use Rattle.mdcc_def_ledger.specs.AllowedStructures.{are_begun, promisers_of}
use Rattle.mdcc_def_ledger.specs.BootTest.{is_allowed_fact}
use Rattle.mdcc_def_protocol.specs.Belongs.{is_centre}
use Rattle.mdcc_def_protocol.specs.Facts.{base_of, current_of, epoch_of, executed_of, is_finished, report_of, votes_of}
use Rattle.mdcc_def_ledger.specs.Ledger.{Added, Entry, Valued, facts_of, outcome_of, structure_valued}
use Rattle.mdcc_def_protocol.specs.Manager.{parts_begin_fault}
use Rattle.mdcc_def_protocol.specs.Marks.{Amounts, choice_in, options_eq}
use Rattle.mdcc_def_protocol.specs.Structures.{first_structure, is_enough, with_claim}
use Rattle.mdcc_def_messages.specs.declared.facts.Fact.{Fact}

abbrev pub is_outcome_found : Outcome → Option Outcome → Bool
is_outcome_found (Outcome.Commit choices) (Some (Outcome.Commit choices')) = choices_eq choices choices'
is_outcome_found Outcome.Abort (Some Outcome.Abort) = true
is_outcome_found _ _ = false

-- parts that stand in key order make a transaction
abbrev pub is_draft : Schema → List Part → Bool
is_draft schema parts = are_parts_ascending parts && is_ok (transaction_of schema parts)

abbrev pub is_begun_allowed : Cluster → List Entry → ℕ → TxId → List Choice → Bool
is_begun_allowed cluster before a tx choices =
    tx.centre == a
    && nat_lt 0 (epoch_of (facts_of before a))
    && tx.epoch == epoch_of (facts_of before a)
    && tx.seq == seqs_begun before a tx.epoch + 1
    && choices_eq choices (choices_of tx (map part_in choices))
    && is_draft cluster.schema (map part_in choices)
    && not (is_some (parts_begin_fault (facts_of before a) (map part_in choices)))

abbrev pub subsets : List ℕ → List (List ℕ)
subsets [] = [] ∷ []
subsets (a ∷ as') = let rest = subsets as' in map (λ s. a ∷ s) rest ++ rest

abbrev pub claims_of_marks : Options → TxMap (Option Choice)
claims_of_marks options = map (λ e. (e.0, choice_in e.1)) options

-- what the centres report now below the ballot
abbrev pub reports_now : List Entry → Key → ℕ → Ballot → List ℕ → List Report
reports_now before key version ballot centres = map (λ a. report_of a (facts_of before a) key version ballot) centres

abbrev pub is_made_from : Cluster → List Entry → ℕ → Key → ℕ → Ballot → Options → List ℕ → Bool
is_made_from cluster before a key version ballot options centres =
    is_enough cluster (facts_of before a) key version (reports_now before key version ballot centres)
    && options_eq options (first_structure cluster (facts_of before a) key version (claims_of_marks options) (reports_now before key version ballot centres))

abbrev pub is_next_structure : Cluster → List Entry → ℕ → Key → ℕ → Options → Options → Bool
is_next_structure cluster before a key version options last =
    length options == length last + 1
    && list_any (λ e. options_eq options (with_claim cluster (facts_of before a) key version last (e.0, choice_in e.1))) options

abbrev pub is_made_by : Cluster → List Entry → ℕ → Key → ℕ → Ballot → Options → Option Options → Bool
is_made_by cluster before a key version ballot options None =
    list_any (is_made_from cluster before a key version ballot options) (subsets (promisers_of cluster.quorums before key version ballot))
is_made_by cluster before a key version ballot options (Some last) = is_next_structure cluster before a key version options last

abbrev pub is_made : Cluster → List Entry → ℕ → Key → ℕ → Ballot → Options → Bool
is_made cluster before a key version ballot options =
    is_made_by cluster before a key version ballot options (structure_valued before key version ballot)

abbrev pub is_valued_allowed : Cluster → List Entry → ℕ → Key → ℕ → Ballot → Options → Bool
is_valued_allowed cluster before a key version ballot options =
    not (is_fast ballot)
    && ballot.centre == a
    && nat_lt 0 (epoch_of (facts_of before a))
    && ballot.epoch == epoch_of (facts_of before a)
    && nat_le version (current_of (facts_of before a) key)
    && nat_le cluster.quorums.classic (length (promisers_of cluster.quorums before key version ballot))
    && are_begun before key version options
    && is_made cluster before a key version ballot options

abbrev pub deltas_eq : TxMap Amounts → List Delta → Bool
deltas_eq [] [] = true
deltas_eq (a ∷ as') (b ∷ bs) = tx_eq a.0 b.tx && amounts_eq a.1 b.amounts && deltas_eq as' bs
deltas_eq _ _ = false

abbrev pub is_base_eq : Item → Option Item → Bool
is_base_eq item (Some item') = item_eq item item'
is_base_eq item None = false

abbrev pub did_hold : List Entry → Key → ℕ → Item → List Delta → ℕ → Bool
did_hold earlier key version item adds b =
    current_of (facts_of earlier b) key == version
    && is_base_eq item (base_of (facts_of earlier b) key) && deltas_eq (executed_of (facts_of earlier b) key) adds

abbrev pub was_held : Cluster → List Entry → Key → ℕ → Item → List Delta → Bool
was_held cluster [] key version item adds = false
was_held cluster (e ∷ es) key version item adds =
    list_any (did_hold (e ∷ es) key version item adds) (all_centres cluster.quorums) || was_held cluster es key version item adds

-- a structure without the finished transactions that are not among these marks
abbrev pub without_finished : List Fact → Options → Options → Options
without_finished facts options structure = filter (λ e. is_some (value_of options e.0) || not (is_finished facts e.0)) structure

-- marks are those of a structure that was sent, but for finished transactions
abbrev pub is_valued_but : List Fact → Key → ℕ → Ballot → Options → Entry → Bool
is_valued_but facts key version ballot options (Valued a key' version' ballot' structure) =
    version' == version && ballot_eq ballot' ballot && key_eq key' key && options_eq (without_finished facts options structure) options
is_valued_but facts key version ballot options _ = false

abbrev pub is_fact_backed : Cluster → List Entry → ℕ → Fact → Bool
is_fact_backed cluster before a (Fact.Voted key version ballot options offered) =
    if is_fast ballot then is_fast_vote_begun before key version options offered
    else list_any (is_valued_but (facts_of before a) key version ballot (union (votes_of (facts_of before a) key version ballot) options)) before
is_fact_backed cluster before a (Fact.Heard tx outcome) = is_outcome_found outcome (outcome_of cluster.quorums before tx)
is_fact_backed cluster before a (Fact.Adopted key version item adds) = was_held cluster before key version item adds
is_fact_backed cluster before a (Fact.Floor centre epoch seq) = did_all_hear cluster.quorums before centre epoch seq
is_fact_backed cluster before a _ = true

abbrev pub is_entry_allowed : Cluster → List Entry → Entry → Bool
is_entry_allowed cluster before (Added a fact) =
    is_centre cluster a && is_allowed_fact cluster (facts_of before a) fact && is_fact_backed cluster before a fact
is_entry_allowed cluster before (Entry.Begun a tx choices) = is_centre cluster a && is_begun_allowed cluster before a tx choices
is_entry_allowed cluster before (Valued a key version ballot options) =
    is_centre cluster a && is_valued_allowed cluster before a key version ballot options

abbrev pub is_ledger_allowed : Cluster → List Entry → Bool
is_ledger_allowed cluster [] = true
is_ledger_allowed cluster (entry ∷ before) = is_ledger_allowed cluster before && is_entry_allowed cluster before entry
