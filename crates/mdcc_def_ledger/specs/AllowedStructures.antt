-- Which structure a leader may send: its marks are on begun choices, and it is made of what a classic quorum promised and reported, or extends the last one.
use Rattle.std.specs.List.{AllByRecursion, list_all, list_any}
use Rattle.std.specs.Prelude.{Bool, IsTrue, List, None, Option, Some, [], false, filter, length, map, nat_le, not, true, ℕ, ◌&&◌, ◌++◌, ◌+◌, ◌==◌, ◌∷◌, ◌≡◌, ◌≤◌, ◌⊎◌}
use Rattle.mdcc_base.specs.Ballot.{ballot_eq}
use Rattle.mdcc_base.specs.Key.{key_eq}
use Rattle.mdcc_base.specs.Quorums.{all_centres}
use Rattle.mdcc_base.specs.Sizes.{Sizes}
use Rattle.mdcc_base.specs.TxId.{tx_eq}
use Rattle.mdcc_base.specs.declared.identifiers.Ballot.{Ballot}
use Rattle.mdcc_base.specs.declared.identifiers.TxId.{TxId}
use Rattle.mdcc_base.specs.declared.key.Key.{Key}
use Rattle.mdcc_option.specs.Equality.{choice_eq}
use Rattle.mdcc_option.specs.declared.choices.Choice.{Choice}
use Rattle.mdcc_option.specs.declared.choices.Mark.{Mark}
use Rattle.mdcc_option.specs.declared.cluster.Cluster.{Cluster}
use Rattle.mdcc_struct.specs.Maps.{TxMap}
use Rattle.mdcc_struct.specs.declared.options.Options.{Options}
use Rattle.mdcc_struct.specs.declared.report.Report.{Report}
use Rattle.mdcc_def_protocol.specs.Facts.{report_of}
use Rattle.mdcc_def_ledger.specs.Ledger.{Entry, choices_begun, facts_of, structure_valued}
use Rattle.mdcc_def_protocol.specs.Structures.{first_structure, is_enough, with_claim}
use Rattle.mdcc_def_messages.specs.declared.facts.Fact.{Fact}

-- ---- the marks of a structure

-- the choice is one with which its transaction was begun
abbrev pub is_begun : List Entry → Choice → Bool
is_begun before choice = list_any (choice_eq choice) (choices_begun before choice.tx)

-- the transaction was begun with a choice in the instance
abbrev pub is_placed : List Entry → Key → ℕ → TxId → Bool
is_placed before key version tx = list_any (λ choice. choice.version == version && key_eq choice.key key) (choices_begun before tx)

-- a mark accepts its transaction's own choice in the instance, or rejects a transaction that has one there.
-- Without this a learner that counts votes could decide a transaction by votes on a choice that is not its own
abbrev pub is_own_mark : List Entry → Key → ℕ → TxId × Mark → Bool
is_own_mark before key version (tx, Mark.Accept choice) =
    tx_eq choice.tx tx && choice.version == version && key_eq choice.key key && is_begun before choice
is_own_mark before key version (tx, Mark.Reject) = is_placed before key version tx

-- each mark of a structure does
abbrev pub are_begun : List Entry → Key → ℕ → Options → Bool
are_begun before key version options = list_all (is_own_mark before key version) options

-- ---- the promises and reports that it is made of

-- whether a fact promises this ballot for this version
abbrev pub has_promised_in : Key → ℕ → Ballot → Fact → Bool
has_promised_in key version ballot (Fact.Promised key' low high ballot') =
    nat_le low version && nat_le version high && ballot_eq ballot' ballot && key_eq key' key
has_promised_in key version ballot _ = false

-- whether a centre did
abbrev pub has_promised : List Entry → Key → ℕ → Ballot → ℕ → Bool
has_promised before key version ballot a = list_any (has_promised_in key version ballot) (facts_of before a)

-- the centres that promised this ballot for this version
abbrev pub promisers_of : Sizes → List Entry → Key → ℕ → Ballot → List ℕ
promisers_of quorums before key version ballot = filter (has_promised before key version ballot) (all_centres quorums)

-- a centre, at an earlier entry at which it had promised the ballot, reported just this below it. What it shows later may be less
pub record WasReported (before : List Entry) (key : Key) (version : ℕ) (ballot : Ballot) (report : Report) (later earlier : List Entry) : Type 0 where
  pub parts : before ≡ later ++ earlier
  pub promised : IsTrue (has_promised earlier key version ballot report.centre)
  pub same : report ≡ report_of report.centre (facts_of earlier report.centre) key version ballot

abbrev pub IsReport : List Entry → Key → ℕ → Ballot → Report → Type 0
IsReport before key version ballot report = (later : List Entry) × (earlier : List Entry) × WasReported before key version ballot report later earlier

-- the centres that the reports are from
abbrev pub centres_of : List Report → List ℕ
centres_of reports = map (λ report. report.centre) reports

abbrev pub are_distinct_centres : List ℕ → Bool
are_distinct_centres [] = true
are_distinct_centres (a ∷ as') = not (list_any (λ b. a == b) as') && are_distinct_centres as'

-- a set of centres out of a list: each once, in any order
abbrev pub IsAmongCentres : List ℕ → List ℕ → Type 0
IsAmongCentres centres among = IsTrue (list_all (λ a. list_any (λ b. a == b) among) centres) × IsTrue (are_distinct_centres centres)

-- ---- how it is made

-- the first structure of a ballot, made from the reports of enough centres that promised it, a classic quorum or more, and some claims. (Fast Paxos; Generalized Paxos.)
pub record IsFirstStructure (cluster : Cluster) (before : List Entry) (a : ℕ) (key : Key) (version : ℕ) (ballot : Ballot) (options : Options) (reports : List Report) (claims : TxMap (Option Choice)) : Type 0 where
  pub none_before : structure_valued before key version ballot ≡ None
  pub promised : IsAmongCentres (centres_of reports) (promisers_of cluster.quorums before key version ballot)
  pub reported : AllByRecursion (IsReport before key version ballot) reports
  pub enough : IsTrue (is_enough cluster (facts_of before a) key version reports)
  pub made : options ≡ first_structure cluster (facts_of before a) key version claims reports

-- a later structure, which extends the last one by the mark of a claim
pub record IsNextStructure (cluster : Cluster) (before : List Entry) (a : ℕ) (key : Key) (version : ℕ) (ballot : Ballot) (options last : Options) (claim : TxId × Option Choice) : Type 0 where
  pub last_before : structure_valued before key version ballot ≡ Some last
  pub is_more : length options ≡ length last + 1
  pub made : options ≡ with_claim cluster (facts_of before a) key version last claim

-- a structure is the first of its ballot on the instance, or a later one
abbrev pub IsMade : Cluster → List Entry → ℕ → Key → ℕ → Ballot → Options → Type 0
IsMade cluster before a key version ballot options =
    ((reports : List Report) × (claims : TxMap (Option Choice)) × IsFirstStructure cluster before a key version ballot options reports claims)
    ⊎ ((last : Options) × (claim : TxId × Option Choice) × IsNextStructure cluster before a key version ballot options last claim)
