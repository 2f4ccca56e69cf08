use Rattle.std.proofs.Common.{◌++◌, List, ap, ◌∙◌, append_assoc}
use Rattle.mdcc_def_ledger.specs.Ledger.{Added}
use Rattle.mdcc_def_simulation.specs.AppliedSteps.{chosen_lines, heard_lines}
use Rattle.mdcc_def_language.specs.declared.lines.Line.{Line}
use Rattle.mdcc_world.proofs.commits.add_fact.Goals as goal

pub returns-clause-lines : goal.returns-clause-lines
returns-clause-lines c quorums entries stands =
    let a = c.args.centre in
    let fact = c.args.fact.now in
    c.in_ok-push_heard.ensures
    ∙ ap (λ (all : List Line). all ++ heard_lines a fact) (c.in_ok-count_fact.ensures.lines quorums entries stands)
    ∙ append_assoc c.args.lines.now (chosen_lines quorums (Added a fact) entries) (heard_lines a fact)
