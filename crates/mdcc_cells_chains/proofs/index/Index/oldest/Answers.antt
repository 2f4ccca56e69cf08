use Rattle.std.proofs.Common.{subst}
use Rattle.mdcc_cells_chains.proofs.Filtered.{IsLeading, leading-begins, leading-goes, leading-ends}
use Rattle.mdcc_cells_chains.proofs.index.Index.oldest.Goals as goal

pub loop-at-init : goal.loop-at-init
loop-at-init g c = leading-begins (g.K.IndexKey.same c.args.key.now) c.args.self.now.keys c.first-at.result c.first-at.ensures.value

pub loop-at-preserved : goal.loop-at-preserved
loop-at-preserved g c =
    let wanted = g.K.IndexKey.same c.args.key.now in
    let leading = subst (λ at. IsLeading wanted c.args.self.now.keys at c.loop-at.oldest) c.in-Some.is c.loop-at.invariant in
    leading-goes wanted c.args.self.now.keys c.in-Some.index c.loop-at.oldest c.next-at.result leading c.next-at.ensures.value

pub returns : goal.returns
returns g c =
    let wanted = g.K.IndexKey.same c.args.key.now in
    leading-ends wanted c.args.self.now.keys c.loop-at.oldest (subst (λ at. IsLeading wanted c.args.self.now.keys at c.loop-at.oldest) c.in_default.is c.loop-at.invariant)
