use Rattle.std.proofs.Common.{subst, sym, ap, ◌∙◌}
use Rattle.mdcc_given_back.specs.Compact.{compacted}
use Rattle.mdcc_given_back.specs.Counted.{without_floors}
use Rattle.mdcc_facts_kept.specs.Kept.{IsKept}
use Rattle.mdcc_facts_swept.specs.Swept.{HasHalf}
use Rattle.mdcc_facts_swept.proofs.Exact.{floor-alike}
use Rattle.mdcc_facts_swept.proofs.Steps.{IsAllWritten}
use Rattle.mdcc_facts_swept.proofs.swept_facts.SweptFacts.sweep.Goals as goal

pub exchange-requires-clause-floors : goal.exchange-requires-clause-floors
exchange-requires-clause-floors c facts is =
    let some = c.self.invariant.0 in
    floor-alike c.self.inside.kept some.facts facts some.swept.kept (subst (λ k. IsKept k facts) (ap (λ s. s.kept) c.self-inside.view_is ∙ c.in_ok-sweep_all.ensures.same) is) (some.swept.floor (ap (λ s. s.exact) c.self.view_is ∙ c.requires))

pub exchange-requires-clause-pool : goal.exchange-requires-clause-pool
exchange-requires-clause-pool c facts is =
    let all = subst (IsAllWritten c.sweep_all.new.next) (sym c.in_ok-sweep_all.ensures.same ∙ sym (ap (λ s. s.kept) c.self-inside.view_is)) c.in_ok-sweep_all.ensures.written in
    let half = subst (λ h. HasHalf h (compacted facts (without_floors is.rest))) (sym (ap (λ s. s.next) c.self-inside.view_is)) (all facts is) in
    half.pool

pub exchange-requires-clause-marked : goal.exchange-requires-clause-marked
exchange-requires-clause-marked c facts is =
    let all = subst (IsAllWritten c.sweep_all.new.next) (sym c.in_ok-sweep_all.ensures.same ∙ sym (ap (λ s. s.kept) c.self-inside.view_is)) c.in_ok-sweep_all.ensures.written in
    let half = subst (λ h. HasHalf h (compacted facts (without_floors is.rest))) (sym (ap (λ s. s.next) c.self-inside.view_is)) (all facts is) in
    half.marked
