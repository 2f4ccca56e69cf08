-- Which ledgers are allowed: each entry meets its condition over the entries before it. There is one row for each kind of entry:
-- a transaction is begun (IsAllowedBegun), a structure is sent (IsAllowedValued), and a fact is added, which its centre may add
-- after its own facts (MayAdd) and which the other entries back (IsBacked).
use Rattle.std.specs.List.{list_all, list_any}
use Rattle.std.specs.Prelude.{Bool, IsTrue, List, MatchBool, None, Ok, Option, Some, [], false, if◌then◌else◌, length, map, not, ℕ, ⊤, ◌&&◌, ◌++◌, ◌+◌, ◌<◌, ◌==◌, ◌∷◌, ◌≡◌, ◌≤◌, ◌⊎◌}
use Rattle.mdcc_base.specs.Ballot.{ballot_eq, is_fast}
use Rattle.mdcc_base.specs.Key.{key_eq}
use Rattle.mdcc_base.specs.Quorums.{all_centres}
use Rattle.mdcc_base.specs.Sizes.{Sizes}
use Rattle.mdcc_base.specs.declared.identifiers.Ballot.{Ballot}
use Rattle.mdcc_base.specs.declared.identifiers.TxId.{TxId}
use Rattle.mdcc_base.specs.declared.key.Key.{Key}
use Rattle.mdcc_option.specs.Parts.{are_parts_ascending}
use Rattle.mdcc_option.specs.Transaction.{choices_of, transaction_of}
use Rattle.mdcc_option.specs.declared.choices.Choice.{Choice}
use Rattle.mdcc_option.specs.declared.cluster.Cluster.{Cluster}
use Rattle.mdcc_option.specs.declared.items.Delta.{Delta}
use Rattle.mdcc_option.specs.declared.items.Item.{Item}
use Rattle.mdcc_option.specs.declared.items.Part.{Part}
use Rattle.mdcc_struct.specs.Maps.{union, value_of}
use Rattle.mdcc_struct.specs.declared.options.Options.{Options}
use Rattle.mdcc_def_protocol.specs.Belongs.{is_centre}
use Rattle.mdcc_def_protocol.specs.Facts.{are_heard, base_of, current_of, epoch_of, executed_of, is_finished, votes_of}
use Rattle.mdcc_def_ledger.specs.Ledger.{Added, Entry, Valued, facts_of, outcome_of}
use Rattle.mdcc_def_protocol.specs.Manager.{parts_begin_fault}
use Rattle.mdcc_def_protocol.specs.Marks.{options_eq}
use Rattle.mdcc_def_messages.specs.declared.facts.Fact.{Fact}
use Rattle.mdcc_def_ledger.specs.AllowedFacts.{MayAdd}
use Rattle.mdcc_def_ledger.specs.AllowedStructures.{IsMade, are_begun, is_begun, promisers_of}

-- ---- a transaction is begun

-- how many transactions were begun with an epoch of a centre
abbrev pub seqs_begun : List Entry → ℕ → ℕ → ℕ
seqs_begun [] a epoch = 0
seqs_begun (Entry.Begun a' tx choices ∷ entries) a epoch = seqs_begun entries a epoch + (if tx.centre == a && tx.epoch == epoch then 1 else 0)
seqs_begun (entry ∷ entries) a epoch = seqs_begun entries a epoch

abbrev pub part_in : Choice → Part
part_in choice = record { key = choice.key; version = choice.version; update = choice.update }

-- a manager that is booted began a transaction of the schema whose parts it could begin, under the next identifier of its epoch
pub record IsAllowedBegun (cluster : Cluster) (before : List Entry) (a : ℕ) (tx : TxId) (choices : List Choice) : Type 0 where
  pub centre : tx.centre ≡ a
  pub booted : 0 < epoch_of (facts_of before a)
  pub epoch : tx.epoch ≡ epoch_of (facts_of before a)
  pub seq : tx.seq ≡ seqs_begun before a tx.epoch + 1
  pub made : choices ≡ choices_of tx (map part_in choices)
  pub ascending : IsTrue (are_parts_ascending (map part_in choices))
  pub draft : transaction_of cluster.schema (map part_in choices) ≡ Ok (map part_in choices)
  pub held : parts_begin_fault (facts_of before a) (map part_in choices) ≡ None

-- ---- a structure is sent

-- a leader that is booted sent a structure for an instance that it holds, at a ballot of its own that a classic quorum promised
pub record IsAllowedValued (cluster : Cluster) (before : List Entry) (a : ℕ) (key : Key) (version : ℕ) (ballot : Ballot) (options : Options) : Type 0 where
  pub classic : IsTrue (not (is_fast ballot))
  pub centre : ballot.centre ≡ a
  pub booted : 0 < epoch_of (facts_of before a)
  pub epoch : ballot.epoch ≡ epoch_of (facts_of before a)
  pub held : version ≤ current_of (facts_of before a) key
  pub promised : cluster.quorums.classic ≤ length (promisers_of cluster.quorums before key version ballot)
  pub begun : IsTrue (are_begun before key version options)
  pub made : IsMade cluster before a key version ballot options

-- ---- what backs a fact

abbrev pub is_valued_as : Key → ℕ → Ballot → Options → Entry → Bool
is_valued_as key version ballot options (Valued a key' version' ballot' options') =
    version' == version && ballot_eq ballot' ballot && key_eq key' key && options_eq options' options
is_valued_as key version ballot options _ = false

-- the structure was sent
abbrev pub is_valued : List Entry → Key → ℕ → Ballot → Options → Bool
is_valued before key version ballot options = list_any (is_valued_as key version ballot options) before

-- marks are those of a structure that was sent, but that finished transactions may be missing
pub record IsSent (before : List Entry) (facts : List Fact) (key : Key) (version : ℕ) (ballot : Ballot) (options : Options) : Type 0 where
  pub structure : Options
  pub was : IsTrue (is_valued before key version ballot structure)
  pub same : (tx : TxId) → (value_of options tx ≡ value_of structure tx) ⊎ ((value_of options tx ≡ None) × IsTrue (is_finished facts tx))

-- a vote at the fast ballot is on a choice that was begun
abbrev pub is_fast_vote_begun : List Entry → Key → ℕ → Options → Option Choice → Bool
is_fast_vote_begun before key version options None = are_begun before key version options
is_fast_vote_begun before key version options (Some choice) = is_begun before choice

-- a centre, at an earlier entry, held just this
pub record WasHeld (before : List Entry) (key : Key) (version : ℕ) (item : Item) (adds : List Delta) (b : ℕ) (later earlier : List Entry) : Type 0 where
  pub parts : before ≡ later ++ earlier
  pub current : current_of (facts_of earlier b) key ≡ version
  pub base : base_of (facts_of earlier b) key ≡ Some item
  pub executed : executed_of (facts_of earlier b) key ≡ map (λ delta. (delta.tx, delta.amounts)) adds

-- whether each centre heard each transaction of an epoch from the first through this number
abbrev pub did_all_hear : Sizes → List Entry → ℕ → ℕ → ℕ → Bool
did_all_hear quorums before centre epoch seq = list_all (λ b. are_heard (facts_of before b) centre epoch seq) (all_centres quorums)

-- one row for each kind of fact: a fast vote is on a begun choice, a classic one makes the centre's votes a structure that was sent,
-- what is heard is the outcome, what is adopted was held somewhere, and a floor is over what all centres heard
abbrev pub IsBacked : Cluster → List Entry → ℕ → Fact → Type 0
IsBacked cluster before a (Fact.Booted epoch) = ⊤
IsBacked cluster before a (Fact.Promised key low high ballot) = ⊤
IsBacked cluster before a (Fact.Voted key version ballot options offered) =
    MatchBool (is_fast ballot)
    (IsTrue (is_fast_vote_begun before key version options offered))
    (IsSent before (facts_of before a) key version ballot (union (votes_of (facts_of before a) key version ballot) options))
IsBacked cluster before a (Fact.Heard tx outcome) = outcome_of cluster.quorums before tx ≡ Some outcome
IsBacked cluster before a (Fact.Adopted key version item adds) =
    (b : ℕ) × (later : List Entry) × (earlier : List Entry) × WasHeld before key version item adds b later earlier
IsBacked cluster before a (Fact.Floor centre epoch seq) = IsTrue (did_all_hear cluster.quorums before centre epoch seq)

-- ---- entries and ledgers

-- an entry is of a centre of the cluster, and meets the row of its kind
abbrev pub IsAllowedEntry : Cluster → List Entry → Entry → Type 0
IsAllowedEntry cluster before (Added a fact) =
    IsTrue (is_centre cluster a) × MayAdd cluster (facts_of before a) fact × IsBacked cluster before a fact
IsAllowedEntry cluster before (Entry.Begun a tx choices) = IsTrue (is_centre cluster a) × IsAllowedBegun cluster before a tx choices
IsAllowedEntry cluster before (Valued a key version ballot options) =
    IsTrue (is_centre cluster a) × IsAllowedValued cluster before a key version ballot options

-- each entry meets its condition over the entries before it
abbrev pub IsAllowed : Cluster → List Entry → Type 0
IsAllowed cluster [] = ⊤
IsAllowed cluster (entry ∷ before) = IsAllowed cluster before × IsAllowedEntry cluster before entry
