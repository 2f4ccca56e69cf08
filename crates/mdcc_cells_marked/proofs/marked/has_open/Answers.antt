use Rattle.std.proofs.Common.{◌≡◌, ◌<◌, get_or, length, false, true, sym, subst, ap, ◌∙◌, arith}
use Rattle.std.specs.Prelude.{IfSome}
use Rattle.mdcc_cells_marked.specs.Marks.{is_open_instance, no_instance, with_instances}
use Rattle.mdcc_cells_marked.proofs.Beside.{read-at}
use Rattle.mdcc_cells_marked.proofs.Found.{IsLooking, looking-begins, looking-ends, looking-finds, looking-goes, still-within}
use Rattle.mdcc_cells_marked.proofs.marked.has_open.Goals as goal

pub loop-at-init : goal.loop-at-init
loop-at-init c = (
  c.first-at.ensures.within,
  λ facts kept. looking-begins facts c.args.tx.now c.args.txs.now.keys c.args.instances.now c.first-at.result c.first-at.ensures.value,
)

pub returns-then-is_open_instance : goal.returns-then-is_open_instance
returns-then-is_open_instance c facts kept =
    let looking = subst (λ at. IsLooking facts c.args.tx.now (with_instances c.args.txs.now.keys c.args.instances.now) at) c.in-Some.is (c.loop-at.invariant.1 facts kept) in
    let within : c.in-Some.entry < length c.args.txs.now.keys = subst (λ at. IfSome at (λ entry. entry < length c.args.txs.now.keys)) c.in-Some.is c.loop-at.invariant.0 in
    let here = read-at c.args.instances.now c.in-Some.entry c.index-instances-entry.result no_instance (omega (arith, within, c.requires)) c.index-instances-entry.is in
    let shown : is_open_instance facts (get_or c.args.instances.now c.in-Some.entry no_instance) ≡ true = ap (is_open_instance facts) here ∙ sym (c.is_open_instance.ensures facts kept) ∙ c.if-is_open_instance.true in
    sym (looking-finds facts c.args.tx.now c.args.txs.now.keys c.args.instances.now c.in-Some.entry looking shown)

pub loop-at-preserved : goal.loop-at-preserved
loop-at-preserved c =
    let within : c.in-Some.entry < length c.args.txs.now.keys = subst (λ at. IfSome at (λ entry. entry < length c.args.txs.now.keys)) c.in-Some.is c.loop-at.invariant.0 in (
      still-within (length c.args.txs.now.keys) c.in-Some.entry c.next-at.result within c.next-at.ensures.lower,
      λ facts kept.
          let looking = subst (λ at. IsLooking facts c.args.tx.now (with_instances c.args.txs.now.keys c.args.instances.now) at) c.in-Some.is (c.loop-at.invariant.1 facts kept) in
          let here = read-at c.args.instances.now c.in-Some.entry c.index-instances-entry.result no_instance (omega (arith, within, c.requires)) c.index-instances-entry.is in
          let closed : is_open_instance facts (get_or c.args.instances.now c.in-Some.entry no_instance) ≡ false = ap (is_open_instance facts) here ∙ sym (c.is_open_instance.ensures facts kept) ∙ c.if-is_open_instance.false in
          looking-goes facts c.args.tx.now c.args.txs.now.keys c.args.instances.now c.in-Some.entry c.next-at.result looking closed c.next-at.ensures.value,
    )

pub returns : goal.returns
returns c facts kept =
    sym
    (looking-ends facts c.args.tx.now c.args.txs.now.keys c.args.instances.now
    (subst (λ at. IsLooking facts c.args.tx.now (with_instances c.args.txs.now.keys c.args.instances.now) at) c.in_default.is (c.loop-at.invariant.1 facts kept)))
