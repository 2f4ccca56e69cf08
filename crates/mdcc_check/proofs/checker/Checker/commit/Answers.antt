use Rattle.std.proofs.Common.{IfOk, List, None, subst, ◌≡◌}
use Rattle.mdcc_check.proofs.checker.Checker.commit.Goals as goal
use Rattle.mdcc_check.specs.Verdicts.{RepresentsProgress, after_commit, commit_cause}
use Rattle.mdcc_option.specs.Transaction.{choices_of}
use Rattle.mdcc_option.specs.declared.items.Part.{Part}

pub returns-clause-cause : goal.returns-clause-cause
returns-clause-cause c p r =
    subst (λ (parts : List Part). IfOk c.commit_parts.result (λ cause. cause ≡ commit_cause c.args.schema.now p.store p.txs c.args.tx.now (choices_of c.args.tx.now parts)))
    c.parts.ensures.value (c.commit_parts.ensures.cause p r)

pub returns-clause-after : goal.returns-clause-after
returns-clause-after c p r =
    subst (λ (parts : List Part). IfOk c.commit_parts.result (λ cause. cause ≡ None → RepresentsProgress c.commit_parts.new.self (after_commit c.args.schema.now p c.args.tx.now (choices_of c.args.tx.now parts))))
    c.parts.ensures.value (c.commit_parts.ensures.after p r)
