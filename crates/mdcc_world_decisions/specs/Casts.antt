-- The votes that were cast on a transaction, and what they choose.
use Rattle.std.specs.Option.{option_or}
use Rattle.std.specs.Prelude.{List, None, Option, Some, [], filter_map, find, fold, if◌then◌else◌, unwrap_or, ℕ, ◌&&◌, ◌++◌, ◌==◌, ◌∷◌}
use Rattle.std.specs.declared.hash.BuildHasherDefault.{BuildHasherDefault}
use Rattle.std.specs.declared.hash.FoldHasher.{FoldHasher}
use Rattle.indexmap.specs.IndexMap.{IndexMap, get}
use Rattle.mdcc_base.specs.Ballot.{ballot_eq}
use Rattle.mdcc_base.specs.Key.{key_eq}
use Rattle.mdcc_base.specs.Quorums.{all_centres}
use Rattle.mdcc_base.specs.Sizes.{Sizes}
use Rattle.mdcc_base.specs.TxId.{tx_eq}
use Rattle.mdcc_base.specs.declared.identifiers.Ballot.{Ballot}
use Rattle.mdcc_base.specs.declared.identifiers.TxId.{TxId}
use Rattle.mdcc_base.specs.declared.key.Key.{Key}
use Rattle.mdcc_option.specs.declared.choices.Mark.{Mark}
use Rattle.mdcc_world_decisions.specs.declared.casts.Cast.{Cast}
use Rattle.mdcc_def_ledger.specs.Ledger.{Added, Entry, is_mark_of_quorum}
use Rattle.mdcc_def_messages.specs.declared.facts.Fact.{Fact}
use Rattle.mdcc_struct.specs.declared.options.Options.{Options}

-- ---- the votes of a ledger

-- a vote on a transaction, where it is the one that is asked for
abbrev pub cast_on : TxId → TxId → Cast → List Cast
cast_on tx other cast = if tx_eq tx other then cast ∷ [] else []

-- the votes on a transaction in a vote of a centre on some marks
abbrev pub casts_among : ℕ → Key → ℕ → Ballot → Options → TxId → List Cast
casts_among centre key version ballot [] tx = []
casts_among centre key version ballot (e ∷ es) tx =
    cast_on e.0 tx (record { centre = centre; key = key; version = version; ballot = ballot; mark = e.1 }) ++ casts_among centre key version ballot es tx

-- what an entry casts on a transaction
abbrev pub casts_from : TxId → Entry → List Cast
casts_from tx (Added centre (Fact.Voted key version ballot options offered)) = casts_among centre key version ballot options tx
casts_from tx entry = []

-- all votes that were cast on a transaction, in their order
abbrev pub casts_of : List Entry → TxId → List Cast
casts_of [] tx = []
casts_of (entry ∷ entries) tx = casts_of entries tx ++ casts_from tx entry

-- ---- the votes that are kept

abbrev pub CastsByTx : Type 0
CastsByTx = IndexMap TxId (List Cast) (BuildHasherDefault FoldHasher)

abbrev pub casts_at : CastsByTx → TxId → List Cast
casts_at casts tx = unwrap_or (get tx_eq casts tx) []

-- ---- what they choose

-- the mark that a centre gave in an instance at a ballot: its first vote there counts
abbrev pub mark_cast : List Cast → Key → ℕ → Ballot → ℕ → Option Mark
mark_cast [] key version ballot centre = None
mark_cast (c ∷ cs) key version ballot centre =
    if c.centre == centre && (c.version == version && ballot_eq c.ballot ballot && key_eq c.key key)
    then Some c.mark else mark_cast cs key version ballot centre

-- the marks that the centres give, in the order of the centres
abbrev pub marks_of_centres : Sizes → (ℕ → Option Mark) → List Mark
marks_of_centres quorums given = filter_map given (all_centres quorums)

-- the first of them that a quorum of the ballot gives
abbrev pub chosen_by : Sizes → Ballot → (ℕ → Option Mark) → Option Mark
chosen_by quorums ballot given = find (is_mark_of_quorum quorums ballot (marks_of_centres quorums given)) (marks_of_centres quorums given)

abbrev pub chosen_cast_at : Sizes → List Cast → Key → ℕ → Ballot → Option Mark
chosen_cast_at quorums casts key version ballot = chosen_by quorums ballot (mark_cast casts key version ballot)

-- the mark that is chosen at a ballot, or else the one found before
abbrev pub chosen_or : Sizes → List Cast → Key → ℕ → Option Mark → Ballot → Option Mark
chosen_or quorums casts key version found ballot = option_or (chosen_cast_at quorums casts key version ballot) found

-- the mark that is chosen at the last of these ballots where one is
abbrev pub chosen_cast : Sizes → List Cast → Key → ℕ → List Ballot → Option Mark
chosen_cast quorums casts key version ballots = fold (chosen_or quorums casts key version) None ballots
