use Rattle.std.proofs.Common.{◌∷◌, List, ap, subst, sym, ◌∙◌}
use Rattle.mdcc_def_messages.specs.declared.facts.Fact.{Fact as AFact}
use Rattle.mdcc_cells_floors.specs.Epochs.{HoldsEpochs, floors_set, with_fact}
use Rattle.mdcc_facts_kept.specs.Adding.{MayBeSwept}
use Rattle.mdcc_facts_kept.specs.Kept.{IsKept, KeptRest}
use Rattle.mdcc_facts_kept.proofs.More.{floors-risen, kept-floor}
use Rattle.mdcc_facts_kept.proofs.kept_facts.KeptFacts.set_floor.Goals as goal

next-kept : (c : goal.In_ok-add) (facts : List AFact) → IsKept c.args.self.now facts → MayBeSwept facts c.args.fact.now
    → IsKept (record { inner = c.self.inside.inner; marked = c.self.inside.marked; floors = c.add.new.self; cells = c.self.inside.cells }) (c.args.fact.now ∷ facts)
next-kept c facts kept may =
    kept-floor c.args.self.now (record { inner = c.self.inside.inner; marked = c.self.inside.marked; floors = c.add.new.self; cells = c.self.inside.cells }) facts c.args.fact.now kept may
    (ap (λ (s : KeptRest). s.cells) c.self.view_is) c.requires.room
    (c.in_ok-add.ensures.holds facts (subst (λ (s : KeptRest). HoldsEpochs s.floors.entries facts) (sym c.self.view_is) kept.floors))
    c.requires.floor (ap (λ (s : KeptRest). s.inner) c.self.view_is) (ap (λ (s : KeptRest). s.marked) c.self.view_is)
    (ap floors_set (c.in_ok-add.ensures.ok ∙ ap (λ (s : KeptRest). with_fact s.floors.entries c.args.fact.now) c.self.view_is)
    ∙ floors-risen c.args.self.now.floors.entries facts c.args.fact.now kept.floors may.risen)

pub invariant_of-self-2 : goal.invariant_of-self-2
invariant_of-self-2 c =
    let can = c.requires.can in
    record {
      facts = c.args.fact.now ∷ can.facts;
      kept = next-kept c can.facts can.kept can.may;
      size = c.self.invariant.size;
      marks = c.self.invariant.marks;
      all_marks = c.self.invariant.all_marks;
    }

pub returns-clause-ok : goal.returns-clause-ok
returns-clause-ok c facts kept may = next-kept c facts kept may
