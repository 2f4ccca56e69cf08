-- What is live in an instance, and how many marks stand there, in one walk of its chain. Of several facts that make a transaction live there the oldest counts, at whatever ballot.
use Rattle.std.specs.List.{fold, list_all, list_any}
use Rattle.std.specs.Option.{option_or}
use Rattle.std.specs.Prelude.{◌≡◌, Bool, List, None, Option, [], filter, is_some, not, true, ℕ, ◌&&◌, ◌+◌, ◌∷◌}
use Rattle.mdcc_base.specs.Ballot.{fast_ballot}
use Rattle.mdcc_base.specs.Counts.{number_of}
use Rattle.mdcc_base.specs.declared.identifiers.Ballot.{Ballot}
use Rattle.mdcc_base.specs.declared.identifiers.TxId.{TxId}
use Rattle.mdcc_base.specs.declared.key.Key.{Key}
use Rattle.mdcc_option.specs.declared.choices.Outcome.{Outcome}
use Rattle.mdcc_option.specs.declared.items.Update.{Update}
use Rattle.mdcc_struct.specs.Maps.{TxMap, are_ascending, value_of}
use Rattle.mdcc_struct.specs.declared.options.Options.{Options}
use Rattle.mdcc_def_messages.specs.WellFormed.{IsWellFormedFact}
use Rattle.mdcc_def_messages.specs.WellFormedParts.{choice_lt, delta_lt, is_ascending_by}
use Rattle.mdcc_def_messages.specs.declared.facts.Fact.{Fact}
use Rattle.mdcc_def_protocol.specs.Facts.{marks_voted, votes_of}
use Rattle.mdcc_def_protocol.specs.Plain.{plain_entries_at, plain_is_void, plain_live_and_void, plain_live_from, plain_live_of, plain_load_at}
use Rattle.mdcc_def_protocol.specs.Stores.{count_voted}
use Rattle.mdcc_def_protocol.specs.declared.fit.Load.{Load}
use Rattle.mdcc_escrow.specs.Weights.{no_load, with_live}
use Rattle.mdcc_facts.specs.Adding.{MayBeAdded}
use Rattle.mdcc_facts.specs.Listed.{are_voted_once}
use Rattle.mdcc_facts.specs.Weights.{with_mark}
use Rattle.mdcc_theorem_fact_folds.specs.Chains.{Covers, is_of_instance, is_vote_in}
use Rattle.mdcc_theorem_fact_folds.specs.New.{entries_beside, new_entries}

-- ---- live choices

-- what a fact makes live in an instance that no older fact of the chain does. It is the same whatever is added later
abbrev pub first_live : List Fact → Key → ℕ → Fact → TxMap Update
first_live older key version fact = new_entries (plain_live_and_void older key version) (plain_live_from key version fact)

-- without the void ones
abbrev pub counted_live : (TxId → Bool) → List Fact → Key → ℕ → Fact → TxMap Update
counted_live void older key version fact = filter (λ e. not (void e.0)) (first_live older key version fact)

-- the load, from the newest fact of the chain to the oldest
abbrev pub load_walk : List TxId → (TxId → Bool) → Key → ℕ → Load → List Fact → Load
load_walk seen void key version load [] = load
load_walk seen void key version load (fact ∷ older) =
    load_walk seen void key version (fold (with_live seen) load (counted_live void older key version fact)) older

abbrev pub LiveInChain : Type 0
LiveInChain =
    (keep : Fact → Bool) (key : Key) (version : ℕ) → Covers keep (is_of_instance key version)
    → (facts : List Fact) → plain_live_of facts key version ≡ filter (λ e. not (plain_is_void facts e.0)) (plain_live_and_void (filter keep facts) key version)

-- whether a transaction is void is asked of its own chain
abbrev pub LoadByWalk : Type 0
LoadByWalk =
    (keep : Fact → Bool) (key : Key) (version : ℕ) (seen : List TxId) → Covers keep (is_of_instance key version)
    → (facts : List Fact) → plain_load_at facts key version seen ≡ load_walk seen (plain_is_void facts) key version no_load (filter keep facts)

-- an older update counts before a later one
abbrev pub older_update : Key → ℕ → TxId → Option Update → Fact → Option Update
older_update key version tx later fact = option_or (value_of (plain_live_from key version fact) tx) later

-- makes the transaction live in the instance
abbrev pub is_live_by : Key → ℕ → TxId → Fact → Bool
is_live_by key version tx fact = is_some (value_of (plain_live_from key version fact) tx)

abbrev pub UpdateByWalk : Type 0
UpdateByWalk =
    (keep : Fact → Bool) (key : Key) (version : ℕ) (tx : TxId) → Covers keep (is_of_instance key version)
    → (facts : List Fact) → value_of (plain_live_and_void facts key version) tx ≡ fold (older_update key version tx) None (filter keep facts)

abbrev pub IsLiveByWalk : Type 0
IsLiveByWalk =
    (keep : Fact → Bool) (key : Key) (version : ℕ) (tx : TxId) → Covers keep (is_of_instance key version)
    → (facts : List Fact) → is_some (value_of (plain_live_and_void facts key version) tx) ≡ list_any (is_live_by key version tx) (filter keep facts)

-- ---- facts whose entries stand in order

-- marks ascend by transaction, committed choices by key, and adopted deltas by transaction
abbrev pub is_ordered : Fact → Bool
is_ordered (Fact.Voted key version ballot options offered) = are_ascending options
is_ordered (Fact.Heard tx (Outcome.Commit choices)) = is_ascending_by choice_lt choices
is_ordered (Fact.Adopted key version item adds) = is_ascending_by delta_lt adds
is_ordered _ = true

abbrev pub WellFormedAreOrdered : Type 0
WellFormedAreOrdered = (fact : Fact) → IsWellFormedFact fact → is_ordered fact ≡ true

-- each transaction of such a fact counts where no older fact has it
abbrev pub FirstLiveOfOrdered : Type 0
FirstLiveOfOrdered =
    (older : List Fact) (key : Key) (version : ℕ) (fact : Fact) → is_ordered fact ≡ true
    → first_live older key version fact ≡ entries_beside (plain_live_and_void older key version) (plain_live_from key version fact)

-- whether a transaction that a fact makes live counts: it is not void, and no older fact of the chain makes it live
abbrev pub is_live_counted : (TxId → Bool) → List Fact → Key → ℕ → TxId → Bool
is_live_counted void older key version tx = not (void tx) && not (list_any (is_live_by key version tx) older)

-- the load, one entry at a time
abbrev pub load_steps : List TxId → (TxId → Bool) → Key → ℕ → Load → List Fact → Load
load_steps seen void key version load [] = load
load_steps seen void key version load (fact ∷ older) =
    load_steps seen void key version (fold (with_live seen) load (filter (λ e. is_live_counted void older key version e.0) (plain_live_from key version fact))) older

abbrev pub LoadBySteps : Type 0
LoadBySteps =
    (keep : Fact → Bool) (key : Key) (version : ℕ) (seen : List TxId) → Covers keep (is_of_instance key version)
    → (facts : List Fact) → list_all is_ordered facts ≡ true
    → plain_load_at facts key version seen ≡ load_steps seen (plain_is_void facts) key version no_load (filter keep facts)

-- ---- entries

-- the marks of a fact at a ballot that no older fact of the chain has
abbrev pub first_marks : List Fact → Key → ℕ → Ballot → Fact → Options
first_marks older key version ballot fact = new_entries (votes_of older key version ballot) (marks_voted key version ballot fact)

abbrev pub entries_walk : Key → ℕ → ℕ × ℕ → List Fact → ℕ × ℕ
entries_walk key version counts [] = counts
entries_walk key version counts (fact ∷ older) =
    entries_walk key version (fold with_mark counts (first_marks older key version fast_ballot fact)) older

abbrev pub EntriesInChain : Type 0
EntriesInChain =
    (keep : Fact → Bool) (key : Key) (version : ℕ) → Covers keep (is_vote_in key version)
    → (facts : List Fact) → plain_entries_at facts key version ≡ plain_entries_at (filter keep facts) key version

abbrev pub EntriesByWalk : Type 0
EntriesByWalk =
    (keep : Fact → Bool) (key : Key) (version : ℕ) → Covers keep (is_vote_in key version)
    → (facts : List Fact) → plain_entries_at facts key version ≡ entries_walk key version (0, 0) (filter keep facts)

-- the counts with all marks of a fact at the fast ballot
abbrev pub with_fact_marks : Key → ℕ → ℕ × ℕ → Fact → ℕ × ℕ
with_fact_marks key version counts fact = fold with_mark counts (marks_voted key version fast_ballot fact)

-- where no mark was voted twice at its ballot, each counts
abbrev pub EntriesByFold : Type 0
EntriesByFold =
    (keep : Fact → Bool) (key : Key) (version : ℕ) → Covers keep (is_vote_in key version)
    → (facts : List Fact) → are_voted_once facts ≡ true → list_all is_ordered facts ≡ true
    → plain_entries_at facts key version ≡ fold (with_fact_marks key version) (0, 0) (filter keep facts)

-- so a store may keep the entries of each instance as two numbers
abbrev pub EntriesUpdate : Type 0
EntriesUpdate =
    (facts : List Fact) (fact : Fact) (key : Key) (version : ℕ) → MayBeAdded facts fact
    → plain_entries_at (fact ∷ facts) key version ≡ with_fact_marks key version (plain_entries_at facts key version) fact

-- how many transactions of a structure were voted, with those of one more fact
abbrev pub with_count : Key → ℕ → Ballot → Options → ℕ → Fact → ℕ
with_count key version ballot options count fact = count + number_of (λ e. is_some (value_of (marks_voted key version ballot fact) e.0)) options

abbrev pub CountInChain : Type 0
CountInChain =
    (keep : Fact → Bool) (key : Key) (version : ℕ) (ballot : Ballot) (options : Options) → Covers keep (is_vote_in key version)
    → (facts : List Fact) → count_voted facts key version ballot options ≡ count_voted (filter keep facts) key version ballot options

abbrev pub CountByFold : Type 0
CountByFold =
    (keep : Fact → Bool) (key : Key) (version : ℕ) (ballot : Ballot) (options : Options) → Covers keep (is_vote_in key version)
    → (facts : List Fact) → are_voted_once facts ≡ true
    → count_voted facts key version ballot options ≡ fold (with_count key version ballot options) 0 (filter keep facts)
