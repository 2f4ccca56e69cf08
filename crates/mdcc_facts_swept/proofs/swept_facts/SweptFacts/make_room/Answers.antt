use Rattle.std.proofs.Common.{subst, sym}
use Rattle.mdcc_facts_swept.specs.Swept.{CanAdd, IsSwept}
use Rattle.mdcc_facts_swept.proofs.Exact.{on-any}
use Rattle.mdcc_facts_swept.proofs.swept_facts.SweptFacts.make_room.Goals.{else-is_err, then-is_err+in_ok-compact}
use Rattle.mdcc_facts_swept.proofs.swept_facts.SweptFacts.make_room.Goals as goal

pub returns-clause-can : goal.returns-clause-can
returns-clause-can c =
    let some = c.self.invariant.0 in
    let was = subst (λ s. IsSwept s some.facts) c.self.view_is some.swept in
    let may = c.requires some.facts was in
    let swept : IsSwept c.if-is_err.self some.facts =
    elim c.if-is_err.branch [
      | then-is_err+in_ok-compact w ↦ subst (λ s. IsSwept s some.facts) (sym w.self-is) (w.in_ok-compact.ensures.kept some.facts was)
      | else-is_err w ↦ subst (λ s. IsSwept s some.facts) (sym w.self-is) was
    ] in
    on-any c.room_for-2.result (CanAdd c.if-is_err.self c.args.fact.now) (record { facts = some.facts; swept = swept; may = may })
