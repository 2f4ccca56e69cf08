use Rattle.std.proofs.Common.{◌≤◌, ◌∷◌, subst, sym}
use Rattle.mdcc_def_messages.specs.Lengths.{cells_needed}
use Rattle.mdcc_facts.specs.Adding.{MayBeAdded}
use Rattle.mdcc_cells_chains.specs.Walks.{older}
use Rattle.mdcc_given_back.specs.Compact.{compacted}
use Rattle.mdcc_given_back.specs.Counted.{without_floors}
use Rattle.mdcc_facts_swept.specs.Swept.{HasHalf}
use Rattle.mdcc_facts_kept.specs.declared.forgotten.Left.{Left}
use Rattle.mdcc_facts_swept.proofs.Steps.{SaysLeft, may-bared, may-whole, next-bared, next-dropped, next-whole, room-bared, room-whole}
use Rattle.mdcc_facts_swept.proofs.sweeping.sweep_one.Goals as goal

pub put-requires-clause-room : goal.put-requires-clause-room
put-requires-clause-room c =
    let store = c.requires.store in
    let at = c.in_ok-fact.ensures.fact store.facts store.kept in
    let left = subst (SaysLeft Left.Bared c.in_ok-fact.fact) c.in_ok-fact.ensures.same c.in-Bared.ensures store.facts store.kept c.args.number at in
    subst (λ f. cells_needed f ≤ c.args.next.now.pool.cells.spare) (sym c.in_ok-bared-in-Bared.ensures)
    (room-bared c.args.kept.now store.facts store.kept c.args.number c.in_ok-fact.fact at c.args.next.now store.size c.requires.size (c.requires.written store.facts store.kept) left)

pub put-requires-clause-can : goal.put-requires-clause-can
put-requires-clause-can c =
    let store = c.requires.store in
    let at = c.in_ok-fact.ensures.fact store.facts store.kept in
    let left = subst (SaysLeft Left.Bared c.in_ok-fact.fact) c.in_ok-fact.ensures.same c.in-Bared.ensures store.facts store.kept c.args.number at in
    record {
      facts = compacted store.facts (older c.args.number (without_floors store.kept.rest));
      has = c.requires.written store.facts store.kept;
      may = subst (MayBeAdded (compacted store.facts (older c.args.number (without_floors store.kept.rest)))) (sym c.in_ok-bared-in-Bared.ensures) (may-bared c.args.kept.now store.facts store.kept c.args.number c.in_ok-fact.fact at left);
    }

pub put-requires-in-Whole-clause-room : goal.put-requires-in-Whole-clause-room
put-requires-in-Whole-clause-room c =
    let store = c.requires.store in
    let at = c.in_ok-fact.ensures.fact store.facts store.kept in
    let left = subst (SaysLeft Left.Whole c.in_ok-fact.fact) c.in_ok-fact.ensures.same c.in-Whole.ensures store.facts store.kept c.args.number at in
    room-whole c.args.kept.now store.facts store.kept c.args.number c.in_ok-fact.fact at c.args.next.now store.size c.requires.size (c.requires.written store.facts store.kept) left

pub put-requires-in-Whole-clause-can : goal.put-requires-in-Whole-clause-can
put-requires-in-Whole-clause-can c =
    let store = c.requires.store in
    let at = c.in_ok-fact.ensures.fact store.facts store.kept in
    let left = subst (SaysLeft Left.Whole c.in_ok-fact.fact) c.in_ok-fact.ensures.same c.in-Whole.ensures store.facts store.kept c.args.number at in
    record {
      facts = compacted store.facts (older c.args.number (without_floors store.kept.rest));
      has = c.requires.written store.facts store.kept;
      may = may-whole c.args.kept.now store.facts store.kept c.args.number c.in_ok-fact.fact at left;
    }

pub returns-in-Dropped-clause-written : goal.returns-in-Dropped-clause-written
returns-in-Dropped-clause-written c facts is =
    let at = c.in_ok-fact.ensures.fact facts is in
    let left = subst (SaysLeft Left.Dropped c.in_ok-fact.fact) c.in_ok-fact.ensures.same c.in-Dropped.ensures facts is c.args.number at in
    subst (HasHalf c.args.next.now) (sym (next-dropped c.args.kept.now facts is c.args.number c.in_ok-fact.fact at left)) (c.requires.written facts is)

pub returns-in_ok-bared-in-Bared-clause-written : goal.returns-in_ok-bared-in-Bared-clause-written
returns-in_ok-bared-in-Bared-clause-written c facts is =
    let at = c.in_ok-fact.ensures.fact facts is in
    let left = subst (SaysLeft Left.Bared c.in_ok-fact.fact) c.in_ok-fact.ensures.same c.in-Bared.ensures facts is c.args.number at in
    let may = subst (MayBeAdded (compacted facts (older c.args.number (without_floors is.rest)))) (sym c.in_ok-bared-in-Bared.ensures) (may-bared c.args.kept.now facts is c.args.number c.in_ok-fact.fact at left) in
    subst (HasHalf c.put.new.self) (sym (next-bared c.args.kept.now facts is c.args.number c.in_ok-fact.fact at left))
    (subst (λ f. HasHalf c.put.new.self (f ∷ compacted facts (older c.args.number (without_floors is.rest)))) c.in_ok-bared-in-Bared.ensures
    (c.put.ensures.facts (compacted facts (older c.args.number (without_floors is.rest))) (c.requires.written facts is) may))

pub returns-in-Whole-clause-written : goal.returns-in-Whole-clause-written
returns-in-Whole-clause-written c facts is =
    let at = c.in_ok-fact.ensures.fact facts is in
    let left = subst (SaysLeft Left.Whole c.in_ok-fact.fact) c.in_ok-fact.ensures.same c.in-Whole.ensures facts is c.args.number at in
    let may = may-whole c.args.kept.now facts is c.args.number c.in_ok-fact.fact at left in
    subst (HasHalf c.put-in-Whole.new.self) (sym (next-whole c.args.kept.now facts is c.args.number c.in_ok-fact.fact at left))
    (c.put-in-Whole.ensures.facts (compacted facts (older c.args.number (without_floors is.rest))) (c.requires.written facts is) may)
