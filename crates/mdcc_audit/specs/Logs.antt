-- Whole logs: the facts of all centres, each with its place.
use Rattle.std.specs.Prelude.{List, Result, [], ℕ, ◌++◌, ◌+◌, ◌∷◌}
use Rattle.mdcc_base.specs.Sizes.{Sizes}
use Rattle.mdcc_struct.specs.Maps.{TxMap}
use Rattle.mdcc_def_messages.specs.declared.facts.Fact.{Fact}
use Rattle.mdcc_audit.specs.Auditing.{Placed, audit_end, audit_state_after}
use Rattle.mdcc_audit.specs.declared.audited.AuditFault.{AuditFault}
use Rattle.mdcc_audit.specs.declared.audited.Verdict3.{Verdict3}

-- the facts of a centre, the oldest first, with their numbers from this one on
abbrev pub placed_log : ℕ → ℕ → List Fact → List Placed
placed_log centre number [] = []
placed_log centre number (fact ∷ facts) = (record { centre = centre; number = number }, fact) ∷ placed_log centre (number + 1) facts

-- the facts of logs, of which the first is that of this centre
abbrev pub placed_from : ℕ → List (List Fact) → List Placed
placed_from centre [] = []
placed_from centre (log ∷ logs) = placed_log centre 1 log ++ placed_from (centre + 1) logs

-- the K-th log is that of centre K
abbrev pub placed_of : List (List Fact) → List Placed
placed_of logs = placed_from 1 logs

-- what an audit of these logs says
abbrev pub audit_of : Sizes → List (List Fact) → Result (TxMap Verdict3) AuditFault
audit_of quorums logs = audit_end (audit_state_after quorums (placed_of logs))
