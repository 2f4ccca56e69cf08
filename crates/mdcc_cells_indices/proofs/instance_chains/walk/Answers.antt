use Rattle.std.proofs.Common.{◌<◌, get_or, length, sym, subst}
use Rattle.std.specs.Prelude.{IfSome}
use Rattle.mdcc_cells_indices.proofs.Beside.{number-below}
use Rattle.mdcc_cells_indices.proofs.Promised.{still-within}
use Rattle.mdcc_cells_indices.proofs.Walking.{IsWalking, walking-begins, walking-ends, walking-goes}
use Rattle.mdcc_cells_indices.proofs.instance_chains.walk.Goals as goal

pub loop-at-init : goal.loop-at-init
loop-at-init g c = (
  c.first-at.ensures.within,
  λ keep facts holds entries. walking-begins g.S.FactStep.step c.args.state.now keep facts c.args.index.now.keys c.args.numbers.now c.args.instance.now entries c.first-at.result c.first-at.ensures.value,
)

pub take-requires : goal.take-requires
take-requires g c =
    let within : c.in-Some.entry < length c.args.index.now.keys = subst (λ at. IfSome at (λ entry. entry < length c.args.index.now.keys)) c.in-Some.is c.loop-at.invariant.0 in
    number-below (length c.args.cells.now.encodings) c.args.index.now.keys c.args.numbers.now c.in-Some.entry c.requires.below within

pub loop-at-preserved : goal.loop-at-preserved
loop-at-preserved g c =
    let within : c.in-Some.entry < length c.args.index.now.keys = subst (λ at. IfSome at (λ entry. entry < length c.args.index.now.keys)) c.in-Some.is c.loop-at.invariant.0 in
    let below : get_or c.args.numbers.now c.in-Some.entry 0 < length c.args.cells.now.encodings =
    number-below (length c.args.cells.now.encodings) c.args.index.now.keys c.args.numbers.now c.in-Some.entry c.requires.below within in (
      still-within (length c.args.index.now.keys) c.in-Some.entry c.next-at.result within c.next-at.ensures.lower,
      λ keep facts holds entries.
          let walking = subst (λ at. IsWalking g.S.FactStep.step c.args.state.now keep facts c.args.instance.now at c.loop-at.state) c.in-Some.is (c.loop-at.invariant.1 keep facts holds entries) in
          let here = walking-goes g.S.FactStep.step c.args.state.now keep facts c.args.index.now.keys c.args.numbers.now c.args.instance.now entries c.args.cells.now.encodings c.in-Some.entry c.loop-at.state holds below walking in
          subst (λ state. IsWalking g.S.FactStep.step c.args.state.now keep facts c.args.instance.now c.next-at.result state) (sym (c.take.ensures here.fact here.well_formed here.bytes))
          (here.goes c.next-at.result c.next-at.ensures.value),
    )

pub returns : goal.returns
returns g c keep facts holds entries =
    walking-ends g.S.FactStep.step c.args.state.now keep facts c.args.index.now.keys c.args.numbers.now c.args.instance.now entries c.loop-at.state holds.well_formed
    (subst (λ at. IsWalking g.S.FactStep.step c.args.state.now keep facts c.args.instance.now at c.loop-at.state) c.in_default.is (c.loop-at.invariant.1 keep facts holds entries))
