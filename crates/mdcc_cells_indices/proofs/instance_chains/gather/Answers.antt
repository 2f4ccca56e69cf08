use Rattle.std.proofs.Common.{◌≡◌, ◌<◌, get_or, length, sym, subst}
use Rattle.std.specs.Prelude.{IfSome, OnOk}
use Rattle.mdcc_cells_vote_walk.specs.Gathered.{with_gathered}
use Rattle.mdcc_cells_indices.proofs.Beside.{number-below}
use Rattle.mdcc_cells_indices.proofs.Promised.{still-within}
use Rattle.mdcc_cells_indices.proofs.Walking.{IsWalking, walking-begins, walking-ends, walking-goes}
use Rattle.mdcc_cells_indices.proofs.instance_chains.gather.Goals as goal

pub loop-at-init : goal.loop-at-init
loop-at-init c = (
  c.first-at.ensures.within,
  λ keep facts holds entries. walking-begins (with_gathered c.args.instance.now.0 c.args.instance.now.1 c.args.ballot.now) c.args.gathered.now keep facts c.args.index.now.keys c.args.numbers.now c.args.instance.now entries c.first-at.result c.first-at.ensures.value,
)

pub gather-requires : goal.gather-requires
gather-requires c =
    let within : c.in-Some.entry < length c.args.index.now.keys = subst (λ at. IfSome at (λ entry. entry < length c.args.index.now.keys)) c.in-Some.is c.loop-at.invariant.0 in
    number-below (length c.args.cells.now.encodings) c.args.index.now.keys c.args.numbers.now c.in-Some.entry c.requires.below within

pub loop-at-preserved : goal.loop-at-preserved
loop-at-preserved c =
    let within : c.in-Some.entry < length c.args.index.now.keys = subst (λ at. IfSome at (λ entry. entry < length c.args.index.now.keys)) c.in-Some.is c.loop-at.invariant.0 in
    let below : get_or c.args.numbers.now c.in-Some.entry 0 < length c.args.cells.now.encodings =
    number-below (length c.args.cells.now.encodings) c.args.index.now.keys c.args.numbers.now c.in-Some.entry c.requires.below within in (
      still-within (length c.args.index.now.keys) c.in-Some.entry c.next-at.result within c.next-at.ensures.lower,
      λ keep facts holds entries.
          let walking = subst (λ at. IsWalking (with_gathered c.args.instance.now.0 c.args.instance.now.1 c.args.ballot.now) c.args.gathered.now keep facts c.args.instance.now at c.loop-at.gathered) c.in-Some.is (c.loop-at.invariant.1 keep facts holds entries) in
          let here = walking-goes (with_gathered c.args.instance.now.0 c.args.instance.now.1 c.args.ballot.now) c.args.gathered.now keep facts c.args.index.now.keys c.args.numbers.now c.args.instance.now entries c.args.cells.now.encodings c.in-Some.entry c.loop-at.gathered holds below walking in
          subst (λ state. IsWalking (with_gathered c.args.instance.now.0 c.args.instance.now.1 c.args.ballot.now) c.args.gathered.now keep facts c.args.instance.now c.next-at.result state) (sym (subst (λ r. OnOk r (c.gather.new.self ≡ with_gathered c.args.instance.now.0 c.args.instance.now.1 c.args.ballot.now c.loop-at.gathered here.fact)) c.in_ok-gather.was (c.gather.ensures here.fact here.well_formed here.bytes)))
          (here.goes c.next-at.result c.next-at.ensures.value),
    )

pub returns : goal.returns
returns c keep facts holds entries =
    walking-ends (with_gathered c.args.instance.now.0 c.args.instance.now.1 c.args.ballot.now) c.args.gathered.now keep facts c.args.index.now.keys c.args.numbers.now c.args.instance.now entries c.loop-at.gathered holds.well_formed
    (subst (λ at. IsWalking (with_gathered c.args.instance.now.0 c.args.instance.now.1 c.args.ballot.now) c.args.gathered.now keep facts c.args.instance.now at c.loop-at.gathered) c.in_default.is (c.loop-at.invariant.1 keep facts holds entries))
