use Rattle.std.proofs.Common.{◌≡◌, ◌≤◌, ◌+◌, ◌*◌, ◌++◌, ◌∷◌, List, ap, false, length, subst, sym, ◌∙◌}
use Rattle.mdcc_def_messages.specs.Lengths.{cells_needed}
use Rattle.mdcc_def_messages.specs.declared.facts.Fact.{Fact as AFact}
use Rattle.mdcc_def_protocol.specs.News.{is_crowding}
use Rattle.mdcc_cells_facts.specs.Stored.{cells_taken}
use Rattle.mdcc_cells_floors.specs.Epochs.{HoldsEpochs, floors_set, with_fact}
use Rattle.mdcc_cells_marked.specs.Marks.{marks_of_fact}
use Rattle.mdcc_given_back.specs.Counted.{without_floors}
use Rattle.mdcc_index.specs.Stores.{HasFactsInCells}
use Rattle.mdcc_index.proofs.Adding.{facts_in_cells}
use Rattle.mdcc_facts_kept.specs.Adding.{MayBeSwept}
use Rattle.mdcc_facts_kept.specs.Kept.{IsKept, KeptRest}
use Rattle.mdcc_facts_kept.proofs.Asked.{crowding_asked}
use Rattle.mdcc_facts_kept.proofs.More.{floors-other, kept-other, marks-fit, may-inside, used-more}
use Rattle.mdcc_facts_kept.proofs.kept_facts.KeptFacts.enter.Goals as goal

pub put-requires-clause-can : goal.put-requires-clause-can
put-requires-clause-can c =
    let can = c.requires.can in
    record {
      facts = without_floors can.kept.rest;
      has =
          subst (λ (s : KeptRest). HasFactsInCells s.inner (without_floors can.kept.rest)) (sym c.self.view_is)
          (facts_in_cells c.args.self.now.inner (without_floors can.kept.rest) can.kept.inner);
      may = may-inside c.args.self.now can.facts c.args.fact.now can.kept can.may c.requires.floor;
    }

same-floors : (c : goal.After-add-2) (facts : List AFact) → IsKept c.args.self.now facts → floors_set c.add.new.self.entries ≡ floors_set c.args.self.now.floors.entries
same-floors c facts kept =
    ap floors_set (c.in_ok-add.ensures.ok ∙ ap (λ (s : KeptRest). with_fact s.floors.entries c.args.fact.now) c.self.view_is)
    ∙ floors-other c.args.self.now.floors.entries c.args.fact.now kept.floors.ascending c.requires.floor

next-kept : (c : goal.After-add-2) (facts : List AFact) → IsKept c.args.self.now facts → MayBeSwept facts c.args.fact.now → is_crowding facts c.args.fact.now ≡ false
    → IsKept (record { inner = c.put.new.self; marked = c.add-2.new.self; floors = c.add.new.self; cells = c.self.inside.cells }) (c.args.fact.now ∷ facts)
next-kept c facts kept may few =
    kept-other c.args.self.now (record { inner = c.put.new.self; marked = c.add-2.new.self; floors = c.add.new.self; cells = c.self.inside.cells }) facts c.args.fact.now kept may
    (ap (λ (s : KeptRest). s.cells) c.self.view_is) c.requires.room
    (c.in_ok-add.ensures.holds facts (subst (λ (s : KeptRest). HoldsEpochs s.floors.entries facts) (sym c.self.view_is) kept.floors))
    c.requires.floor
    (crowding_asked c.args.self.now facts kept c.args.fact.now ∙ few)
    (c.put.ensures.facts (without_floors kept.rest)
    (subst (λ (s : KeptRest). HasFactsInCells s.inner (without_floors kept.rest)) (sym c.self.view_is) (facts_in_cells c.args.self.now.inner (without_floors kept.rest) kept.inner))
    (may-inside c.args.self.now facts c.args.fact.now kept may c.requires.floor))
    (c.add-2.ensures.entries ∙ ap (λ (s : KeptRest). marks_of_fact c.args.fact.now ++ s.marked.entries) c.self.view_is)
    (same-floors c facts kept)

pub invariant_of-self-2 : goal.invariant_of-self-2
invariant_of-self-2 c =
    let can = c.requires.can in
    record {
      facts = c.args.fact.now ∷ can.facts;
      kept = next-kept c can.facts can.kept can.may can.few;
      size = c.put.ensures.cells ∙ c.self.invariant.size;
      marks =
          subst (λ room. length c.add-2.new.self.entries + 6 * c.put.new.self.cells.spare ≤ room) (sym c.add-2.ensures.room)
          (marks-fit c.add-2.new.self.entries c.self.inside.marked.entries (marks_of_fact c.args.fact.now) c.self.inside.inner.cells.spare c.put.new.self.cells.spare (cells_needed c.args.fact.now)
          c.self.inside.marked.room c.add-2.ensures.entries (c.marks_in_cells.ensures c.args.fact.now) c.put.ensures.used c.self.invariant.marks);
      all_marks = subst (λ room. 6 * c.self.inside.cells ≤ room) (sym c.add-2.ensures.room) c.self.invariant.all_marks;
    }

pub returns-clause-ok : goal.returns-clause-ok
returns-clause-ok c facts kept may few = next-kept c facts kept may few

pub returns-clause-used : goal.returns-clause-used
returns-clause-used c =
    let can = c.requires.can in
    used-more c.self.inside.inner.cells.spare (cells_taken c.self.inside.inner.cells.encodings) c.put.new.self.cells.spare (cells_taken c.put.new.self.cells.encodings)
    (cells_needed c.args.fact.now) (floors_set c.args.self.now.floors.entries) (floors_set c.add.new.self.entries) c.put.ensures.cells c.put.ensures.used (same-floors c can.facts can.kept)
    ∙ ap (λ (s : KeptRest). (cells_taken s.inner.cells.encodings + floors_set c.args.self.now.floors.entries) + cells_needed c.args.fact.now) c.self.view_is
