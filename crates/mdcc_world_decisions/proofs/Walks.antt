-- Lists, one item after another.
use Rattle.std.proofs.Common.{◌≡◌, ℕ, List, [], ◌∷◌, ◌++◌, ◌+◌, Option, None, Some, Bool, refl, sym, ap, append_assoc, drop, map}
use Rattle.std.proofs.lemmas.List.{append-nil}
use Rattle.std.specs.List.{cons_option}
use Rattle.std.specs.Option.{option_to_list}
use Rattle.std.specs.Prelude.{filter_map, option_map, slice_get}
use Rattle.mdcc_base.specs.declared.identifiers.Ballot.{Ballot}
use Rattle.mdcc_base.specs.Sizes.{Sizes}
use Rattle.mdcc_base.specs.declared.identifiers.TxId.{TxId}
use Rattle.mdcc_base.specs.declared.key.Key.{Key}
use Rattle.mdcc_option.specs.declared.choices.Mark.{Mark}
use Rattle.mdcc_option.specs.declared.choices.Outcome.{Outcome}
use Rattle.mdcc_def_ledger.specs.Ledger.{Entry, new_outcome, outcome_come, outcome_of}
use Rattle.mdcc_def_protocol.specs.Marks.{is_commit}
use Rattle.mdcc_struct.proofs.Walks.{drop-get}
use Rattle.mdcc_struct.specs.declared.options.Options.{Options}
use Rattle.mdcc_struct.specs.Maps.{TxMap, txs_of}
use Rattle.mdcc_world_decisions.specs.Casts.{cast_on, casts_among}
use Rattle.mdcc_world_decisions.specs.declared.casts.Cast.{Cast}
use Rattle.mdcc_world_decisions.specs.Decided.{decided_since, newly_decided, all_newly_decided, with_decided_of}

-- the votes on some marks
pub among-next : (before : List Cast) (centre : ℕ) (key : Key) (version : ℕ) (ballot : Ballot) (options : Options) (i : ℕ) (e : TxId × Mark) (tx : TxId) → slice_get options i ≡ Some e
    → before ++ casts_among centre key version ballot (drop i options) tx
    ≡ (before ++ cast_on e.0 tx (record { centre = centre; key = key; version = version; ballot = ballot; mark = e.1 })) ++ casts_among centre key version ballot (drop (i + 1) options) tx
among-next before centre key version ballot options i e tx at = rw (drop-get options i e at) (sym (append_assoc before _ _))

-- what is made of each transaction
pub txs-next : {X Y : Type 0} (made : List Y) (f : TxId → Y) (xs : TxMap X) (i : ℕ) (e : TxId × X) → slice_get xs i ≡ Some e
    → made ++ map f (txs_of (drop i xs)) ≡ (made ++ f e.0 ∷ []) ++ map f (txs_of (drop (i + 1) xs))
txs-next made f xs i e at = rw (drop-get xs i e at) (sym (append_assoc made _ _))

-- the endings of one transaction more
pub come-next : (made : List (TxId × Bool)) (quorums : Sizes) (entries : List Entry) (was : TxId × Option Bool) (rest : List (TxId × Option Bool))
    → made ++ all_newly_decided quorums entries (was ∷ rest) ≡ (made ++ option_to_list (decided_since quorums entries was)) ++ all_newly_decided quorums entries rest
come-next made quorums entries was rest = one (decided_since quorums entries was)
  where
    one : (ending : Option (TxId × Bool)) → made ++ cons_option ending (all_newly_decided quorums entries rest) ≡ (made ++ option_to_list ending) ++ all_newly_decided quorums entries rest
    one None = ap (λ xs. xs ++ all_newly_decided quorums entries rest) (sym (append-nil made))
    one (Some x) = sym (append_assoc made (x ∷ []) (all_newly_decided quorums entries rest))

-- endings that were not before are outcomes that were not before
pub come-new : (quorums : Sizes) (entry : Entry) (before : List Entry) (txs : List TxId)
    → all_newly_decided quorums (entry ∷ before) (map (with_decided_of quorums before) txs)
    ≡ map (λ e. (e.0, is_commit e.1)) (filter_map (new_outcome quorums entry before) txs)
come-new quorums entry before [] = refl
come-new quorums entry before (tx ∷ txs) =
    rw (come-new quorums entry before txs) (one (outcome_of quorums (entry ∷ before) tx) (outcome_of quorums before tx) (filter_map (new_outcome quorums entry before) txs))
  where
    one : (now was : Option Outcome) (rest : List (TxId × Outcome))
        → cons_option (newly_decided tx (option_map is_commit now) (option_map is_commit was)) (map (λ e. (e.0, is_commit e.1)) rest)
        ≡ map (λ e. (e.0, is_commit e.1)) (cons_option (outcome_come tx now was) rest)
    one None was rest = refl
    one (Some now) None rest = refl
    one (Some now) (Some was) rest = refl
