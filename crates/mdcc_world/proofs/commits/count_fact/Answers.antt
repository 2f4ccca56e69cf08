use Rattle.std.proofs.Common.{◌∷◌, ◌++◌, Bool, List, ℕ, ap, ◌∙◌, map, subst}
use Rattle.mdcc_base.specs.declared.identifiers.TxId.{TxId}
use Rattle.mdcc_world_decisions.specs.Decided.{entry_decisions}
use Rattle.mdcc_world_decisions.specs.Represents.{RepresentsLedger}
use Rattle.mdcc_def_ledger.specs.Ledger.{Added}
use Rattle.mdcc_def_language.specs.declared.lines.Line.{Line}
use Rattle.mdcc_world.proofs.Took.{chosen-is}
use Rattle.mdcc_theorem_worlds.specs.StepEffects.{chosen_line}
use Rattle.mdcc_world.proofs.commits.count_fact.Goals as goal

pub returns-clause-ledger : goal.returns-clause-ledger
returns-clause-ledger c quorums entries stands =
    subst (λ (a : ℕ). RepresentsLedger c.add.new.self quorums (Added a c.args.fact.now ∷ entries)) c.number.ensures.value
    (c.in_ok-endings.ensures.stands quorums entries stands)

pub returns-clause-lines : goal.returns-clause-lines
returns-clause-lines c quorums entries stands =
    let a = c.args.centre in
    let fact = c.args.fact.now in
    let lines = c.args.lines.now in
    let endings = c.in_ok-endings.ensures.endings quorums entries stands in
    c.in_ok-push_chosen.ensures
    ∙ ap (λ (es : List (TxId × Bool)). lines ++ map chosen_line es) (c.as_slice.ensures ∙ endings)
    ∙ ap (λ (n : ℕ). lines ++ map chosen_line (entry_decisions quorums (Added n fact) entries)) c.number.ensures.value
    ∙ ap (λ (more : List Line). lines ++ more) (chosen-is quorums (Added a fact) entries)
