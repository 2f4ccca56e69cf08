use Rattle.std.proofs.Common.{◌∷◌, subst, sym, ◌∙◌}
use Rattle.mdcc_facts_swept.specs.Swept.{CanAdd, IsSwept}
use Rattle.mdcc_facts_swept.proofs.Exact.{swept-more}
use Rattle.mdcc_facts_swept.proofs.swept_facts.SweptFacts.add.Goals as goal

pub put-requires-clause-can : goal.put-requires-clause-can
put-requires-clause-can c =
    let can = subst (λ s. CanAdd s c.args.fact.now) (sym c.self.view_is) c.in_ok-make_room.ensures.can in
    record { facts = can.facts; kept = can.swept.kept; may = can.may; few = sym (c.would_crowd.ensures can.facts can.swept.kept) ∙ c.if-would_crowd.false }

pub invariant_of-self-2 : goal.invariant_of-self-2
invariant_of-self-2 c =
    let can = subst (λ s. CanAdd s c.args.fact.now) (sym c.self.view_is) c.in_ok-make_room.ensures.can in
    let now = c.in_ok-put.ensures.ok can.facts can.swept.kept can.may (sym (c.would_crowd.ensures can.facts can.swept.kept) ∙ c.if-would_crowd.false) in (
      record {
        facts = c.args.fact.now ∷ can.facts;
        swept = swept-more c.self.inside.kept c.put.new.self can.facts c.args.fact.now c.self.inside.exact can.swept now can.may c.in_ok-put.ensures.used c.has_floor-has_floor.result c.stays_exact-self-inside.result (c.has_floor-has_floor.ensures (c.args.fact.now ∷ can.facts) now) c.stays_exact-self-inside.ensures;
      },
      c.self.invariant.1 ∙ sym c.put.ensures.cells,
    )

pub returns-clause-ok : goal.returns-clause-ok
returns-clause-ok c facts swept =
    let was = subst (λ s. IsSwept s facts) (sym c.self.view_is) (c.in_ok-make_room.ensures.kept facts swept) in
    let may = c.requires facts swept in
    let now = c.in_ok-put.ensures.ok facts was.kept may (sym (c.would_crowd.ensures facts was.kept) ∙ c.if-would_crowd.false) in
    swept-more c.self.inside.kept c.put.new.self facts c.args.fact.now c.self.inside.exact was now may c.in_ok-put.ensures.used c.has_floor-has_floor.result c.stays_exact-self-inside.result (c.has_floor-has_floor.ensures (c.args.fact.now ∷ facts) now) c.stays_exact-self-inside.ensures
