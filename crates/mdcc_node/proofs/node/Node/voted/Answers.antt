use Rattle.std.proofs.Common.{◌∙◌, sym, refl}
use Rattle.mdcc_node.proofs.Ending.{voted-settled}
use Rattle.mdcc_node.proofs.node.Node.voted.Goals as goal

pub returns-then-is_settled-clause-plan : goal.returns-then-is_settled-clause-plan
returns-then-is_settled-clause-plan g c = record {
  answer = λ cluster me facts volatile known.
      rw (voted-settled cluster me facts volatile c.args.vote.now (sym (c.is_settled.ensures facts known.store) ∙ c.if-is_settled.true), c.requires) refl;
  left = λ cluster me facts volatile known.
      rw (voted-settled cluster me facts volatile c.args.vote.now (sym (c.is_settled.ensures facts known.store) ∙ c.if-is_settled.true)) known;
  store = refl;
}
