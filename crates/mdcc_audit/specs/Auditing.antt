-- An audit, one fact after another: what it keeps, what a fact changes of that, and what it says at the end.
use Rattle.std.specs.List.{list_all, list_any}
use Rattle.std.specs.Prelude.{Bool, Err, List, None, Ok, Option, Result, Some, [], false, fold, if◌then◌else◌, map, nat_lt, length, option_map, true, ℕ, ◌&&◌, ◌∷◌}
use Rattle.mdcc_base.specs.Sizes.{Sizes}
use Rattle.mdcc_base.specs.declared.identifiers.TxId.{TxId}
use Rattle.mdcc_base.specs.declared.key.Key.{Key}
use Rattle.mdcc_option.specs.declared.choices.Choice.{Choice}
use Rattle.mdcc_struct.specs.Maps.{TxMap, txs_of}
use Rattle.mdcc_def_messages.specs.declared.facts.Fact.{Fact}
use Rattle.mdcc_def_ledger.specs.Ledger.{with_tx}
use Rattle.mdcc_audit.specs.Firsts.{Pair, Said, Table, first_at, nothing_said}
use Rattle.mdcc_audit.specs.Sayings.{say_accepted, say_heard, say_marks, say_offered, say_outcome}
use Rattle.mdcc_audit.specs.Subjects.{at_instance, of_tx}
use Rattle.mdcc_audit.specs.Votes.{CountedVotes, is_among, is_own, nothing_counted, vote_all}
use Rattle.mdcc_audit.specs.declared.audited.AuditCause.{AuditCause}
use Rattle.mdcc_audit.specs.declared.audited.AuditFault.{AuditFault}
use Rattle.mdcc_audit.specs.declared.audited.Place.{Place}
use Rattle.mdcc_audit.specs.declared.audited.Verdict3.{Verdict3}
use Rattle.mdcc_audit.specs.declared.firsts.First.{First}
use Rattle.mdcc_audit.specs.declared.values.Value.{Value}

-- ---- what it keeps

-- what was said of outcomes, of marks at classic ballots and of choices; the votes; and the transactions that were named, ascending
pub record State : Type 0 where
  pub outcomes : Said
  pub marks : Said
  pub choices : Said
  pub counted : CountedVotes
  pub named : List TxId

abbrev pub nothing_taken : State
nothing_taken = record { outcomes = nothing_said; marks = nothing_said; choices = nothing_said; counted = nothing_counted; named = [] }

-- ---- a fact more

abbrev pub with_txs : List TxId → List TxId → List TxId
with_txs txs more = fold with_tx txs more

abbrev pub with_offered : List TxId → Option Choice → List TxId
with_offered txs None = txs
with_offered txs (Some choice) = with_tx txs choice.tx

abbrev pub after_fact : Sizes → State → Place → Fact → State
after_fact quorums state place (Fact.Voted key version ballot options offered) = record state {
  marks = say_marks state.marks place key version ballot options;
  choices = say_offered (fold (say_accepted place) state.choices options) place offered;
  counted = vote_all quorums state.counted place.centre key version ballot options;
  named = with_offered (with_txs state.named (txs_of options)) offered;
}
after_fact quorums state place (Fact.Heard tx outcome) = record state {
  outcomes = say_outcome state.outcomes place tx outcome;
  choices = say_heard state.choices place outcome;
  named = with_tx state.named tx;
}
after_fact quorums state place fact = state

-- ---- verdicts

abbrev pub is_accepted_at : CountedVotes → TxId → Key × ℕ → Bool
is_accepted_at counted tx e = is_among counted.accepted (at_instance tx e.0 e.1)

abbrev pub is_rejected_at : CountedVotes → TxId → Key × ℕ → Bool
is_rejected_at counted tx e = is_among counted.rejected (at_instance tx e.0 e.1)

-- Abort where one of its options is chosen rejected, else Commit where all are chosen accepted. (MDCC.)
abbrev pub verdict_at : CountedVotes → TxId → List (Key × ℕ) → Verdict3
verdict_at counted tx places =
    if list_any (is_rejected_at counted tx) places then Verdict3.Abort
    else (if nat_lt 0 (length places) && list_all (is_accepted_at counted tx) places then Verdict3.Commit else Verdict3.Open)

-- where no choice names it, a rejection that is chosen anywhere decides
abbrev pub verdict_unnamed : CountedVotes → TxId → Verdict3
verdict_unnamed counted tx = if is_among counted.rejected (of_tx tx) then Verdict3.Abort else Verdict3.Open

abbrev pub verdict_by : CountedVotes → TxId → Option (List (Key × ℕ)) → Verdict3
verdict_by counted tx None = verdict_unnamed counted tx
verdict_by counted tx (Some places) = verdict_at counted tx places

abbrev pub places_in : Value → Option (List (Key × ℕ))
places_in (Value.Places places) = Some places
places_in _ = None

abbrev pub places_said : Option First → Option (List (Key × ℕ))
places_said None = None
places_said (Some first) = places_in first.value

-- the write set of a transaction, as the first of its choices has it
abbrev pub write_set_of : State → TxId → Option (List (Key × ℕ))
write_set_of state tx = places_said (first_at state.choices.table (of_tx tx))

abbrev pub verdict_of : State → TxId → Verdict3
verdict_of state tx = verdict_by state.counted tx (write_set_of state tx)

-- ---- what is heard

-- these are the transaction's own choices, one in each instance of its write set
abbrev pub are_all_own : TxId → List (Key × ℕ) → List Choice → Bool
are_all_own tx [] [] = true
are_all_own tx (e ∷ es) (choice ∷ choices) = is_own tx e.0 e.1 choice && are_all_own tx es choices
are_all_own tx _ _ = false

abbrev pub is_whole : TxId → Option (List (Key × ℕ)) → List Choice → Bool
is_whole tx None choices = false
is_whole tx (Some places) choices = are_all_own tx places choices

abbrev pub is_commit_verdict : Verdict3 → Bool
is_commit_verdict Verdict3.Commit = true
is_commit_verdict _ = false

abbrev pub is_abort_verdict : Verdict3 → Bool
is_abort_verdict Verdict3.Abort = true
is_abort_verdict _ = false

-- an outcome is what the votes decide: a commit has all choices of the transaction
abbrev pub is_decided : State → TxId → Value → Bool
is_decided state tx (Value.Choices choices) = is_commit_verdict (verdict_of state tx) && is_whole tx (write_set_of state tx) choices
is_decided state tx Value.Refusal = is_abort_verdict (verdict_of state tx)
is_decided state tx (Value.Places places) = false

-- the first fact of which the outcome isn't what the votes decide
abbrev pub first_undecided : State → Table → Option Place
first_undecided state [] = None
first_undecided state (e ∷ es) = if is_decided state e.0.tx e.1.value then first_undecided state es else Some e.1.place

-- ---- at the end

abbrev pub undecided_pair : Option Place → Option Pair
undecided_pair found = option_map (λ place. (place, place)) found

-- a pair that was found, or else what comes of the next test
abbrev pub unless_found : {X : Type 0} → AuditCause → Option Pair → Result X AuditFault → Result X AuditFault
unless_found cause None next = next
unless_found cause (Some pair) next = Err (AuditFault.Contradiction cause pair.0 pair.1)

-- each transaction that was named, with its verdict
abbrev pub verdicts_of : State → TxMap Verdict3
verdicts_of state = map (λ tx. (tx, verdict_of state tx)) state.named

abbrev pub audit_end : State → Result (TxMap Verdict3) AuditFault
audit_end state =
    unless_found AuditCause.Outcomes state.outcomes.found
    (unless_found AuditCause.Marks state.marks.found
    (unless_found AuditCause.Choices state.choices.found
    (unless_found AuditCause.Undecided (undecided_pair (first_undecided state state.outcomes.table)) (Ok (verdicts_of state)))))

-- ---- whole logs

-- facts with their places
abbrev pub Placed : Type 0
Placed = Place × Fact

abbrev pub fact_taken : Sizes → State → Placed → State
fact_taken quorums state placed = after_fact quorums state placed.0 placed.1

-- what is kept after these facts, in this order
abbrev pub audit_state_after : Sizes → List Placed → State
audit_state_after quorums facts = fold (fact_taken quorums) nothing_taken facts
