-- How many bytes the facts have that are added while no centre leads.
use Rattle.std.proofs.Common.{◌≡◌, ℕ, ◌*◌, ◌≤◌, List, [], ◌∷◌, length, refl, arith, Option, Some, None}
use Rattle.std.specs.List.{AllByRecursion}
use Rattle.mdcc_base.specs.Counts.{sum_over}
use Rattle.mdcc_base.specs.declared.identifiers.Ballot.{Ballot}
use Rattle.mdcc_base.specs.declared.identifiers.TxId.{TxId}
use Rattle.mdcc_base.specs.declared.key.Key.{Key}
use Rattle.mdcc_option.specs.declared.choices.Choice.{Choice}
use Rattle.mdcc_option.specs.declared.choices.Mark.{Mark}
use Rattle.mdcc_option.specs.declared.choices.Outcome.{Outcome}
use Rattle.mdcc_theorem_encoding.proofs.Lengths.{length-fact}
use Rattle.mdcc_theorem_encoding.proofs.Longest.{longest_choice}
use Rattle.mdcc_def_messages.specs.Lengths.{choice_length, entry_length, fact_length, offered_length, outcome_length}
use Rattle.mdcc_def_messages.specs.Spelling.{fact_bytes}
use Rattle.mdcc_def_messages.specs.WellFormed.{IsWellFormedFact, IsWellFormedOffered}
use Rattle.mdcc_def_messages.specs.WellFormedParts.{IsWellFormedEntry, IsWellFormedOf, IsWellFormedOutcome}
use Rattle.mdcc_def_messages.specs.declared.facts.Fact.{Fact}

longest-choices : (tx : TxId) (choices : List Choice) → AllByRecursion (IsWellFormedOf tx) choices → sum_over choice_length choices ≤ 1119 * length choices
longest-choices tx [] w = omega arith
longest-choices tx (choice ∷ choices) w = omega (arith, longest_choice choice w.0.choice_itself, longest-choices tx choices w.1)

longest-outcome : (tx : TxId) (outcome : Outcome) → IsWellFormedOutcome tx outcome → outcome_length outcome ≤ 8954
longest-outcome tx Outcome.Abort w = omega arith
longest-outcome tx (Outcome.Commit choices) w = omega (arith, longest-choices tx choices w.each, w.count.1)

longest-entry : (key : Key) (version : ℕ) (tx : TxId) (mark : Mark) → IsWellFormedEntry key version tx mark → entry_length mark ≤ 1120
longest-entry key version tx Mark.Reject w = omega arith
longest-entry key version tx (Mark.Accept choice) w = omega (arith, longest_choice choice w.choice_itself)

longest-offered : (key : Key) (version : ℕ) (offered : Option Choice) → IsWellFormedOffered key version offered → offered_length offered ≤ 1120
longest-offered key version None w = omega arith
longest-offered key version (Some choice) w = omega (arith, longest_choice choice w.choice_itself)

by-length : (fact : Fact) (most : ℕ) → fact_length fact ≤ most → length (fact_bytes fact) ≤ most
by-length fact most h = omega (arith, length-fact fact)

-- a boot
pub boot-short : (epoch : ℕ) → length (fact_bytes (Fact.Booted epoch)) ≡ 5
boot-short epoch = refl

-- a vote of one mark
pub vote-short : (key : Key) (version : ℕ) (ballot : Ballot) (tx : TxId) (mark : Mark) (offered : Option Choice) → IsWellFormedFact (Fact.Voted key version ballot ((tx, mark) ∷ []) offered)
    → length (fact_bytes (Fact.Voted key version ballot ((tx, mark) ∷ []) offered)) ≤ 2295
vote-short key version ballot tx mark offered w =
    by-length (Fact.Voted key version ballot ((tx, mark) ∷ []) offered) 2295
    (omega (arith, w.instance.key_itself.fits, longest-entry key version tx mark w.options_itself.each.0, longest-offered key version offered w.offered_itself))

-- an outcome
pub heard-short : (tx : TxId) (outcome : Outcome) → IsWellFormedFact (Fact.Heard tx outcome) → length (fact_bytes (Fact.Heard tx outcome)) ≤ 8964
heard-short tx outcome w = by-length (Fact.Heard tx outcome) 8964 (omega (arith, longest-outcome tx outcome w.outcome_itself))
