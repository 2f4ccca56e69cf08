use Rattle.std.proofs.Common.{◌≡◌}
use Rattle.mdcc_audit.specs.Auditing.{first_undecided}
use Rattle.mdcc_audit.specs.Represents.{state_of}
use Rattle.mdcc_audit.proofs.taken.Audit.first_undecided.Given as goal

abbrev pub invariant-loop-subject : goal.invariant-loop-subject
invariant-loop-subject l =
    (first_undecided (state_of l.self) l.subject-iterator ≡ first_undecided (state_of l.self) l.self.outcomes.table.entries) ×
    (goal.iterator-loop-subject).can_next l.subject-iterator ×
    (goal.iterator-loop-subject).is_finite l.subject-iterator
