-- Only a begin begins a transaction.
use Rattle.std.proofs.Common.{List, None, Option, Some, [], inl, inr, ℕ, ◌∷◌}
use Rattle.std.specs.List.{AllByRecursion}
use Rattle.mdcc_base.specs.declared.identifiers.TxId.{TxId}
use Rattle.mdcc_def_ledger.specs.Ledger.{Added, Entry, Valued}
use Rattle.mdcc_def_messages.specs.declared.facts.Fact.{Fact}
use Rattle.mdcc_option.specs.declared.choices.Choice.{Choice}
use Rattle.mdcc_def_rules.specs.Steps.{NodeStep}
use Rattle.mdcc_theorem_trace_states.specs.Words.{In}
use Rattle.mdcc_theorem_worlds.specs.StepSends.{IsValuedBy}
use Rattle.mdcc_theorem_commit_groups.specs.Groups.{entries_by}

-- structures alone begin nothing
pub valued-none : (me : ℕ) (entries : List Entry) (b : ℕ) (tx : TxId) (choices : List Choice) → AllByRecursion (IsValuedBy me) entries → In (Entry.Begun b tx choices) entries → ⊥
valued-none me [] b tx choices h i = i
valued-none me (Entry.Begun c t cs ∷ entries) b tx choices h i = h.0
valued-none me (Added c f ∷ entries) b tx choices h i = h.0
valued-none me (Valued c k v m os ∷ entries) b tx choices h i = elim i [ inl e ↦ absurd (cc) | inr r ↦ valued-none me entries b tx choices h.1 r ]

pub by-fact : (a : ℕ) (step : NodeStep) (o : Option Fact) (b : ℕ) (tx : TxId) (choices : List Choice) → In (Entry.Begun b tx choices) (entries_by a step o) → In (Entry.Begun b tx choices) step.entries
by-fact a step None b tx choices i = i
by-fact a step (Some fact) b tx choices i = elim i [ inl e ↦ absurd (cc) | inr r ↦ absurd r ]
