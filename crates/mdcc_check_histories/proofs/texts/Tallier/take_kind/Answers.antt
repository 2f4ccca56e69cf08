use Rattle.mdcc_check_histories.proofs.Turns.{any-spelled}
use Rattle.mdcc_check_histories.proofs.texts.Tallier.take_kind.Goals as goal
use Rattle.mdcc_check_histories.specs.declared.lines.Spelled.{Spelled}

pub returns-in-Commit-clause-taken : goal.returns-in-Commit-clause-taken
returns-in-Commit-clause-taken c t h =
    rw (c.in-Commit.is, any-spelled c.args.schema.now t (Spelled.Commit c.in-Commit.tx c.args.slot.now.parts)) (c.commit_parts.ensures.taken t h)

pub returns-in-First-clause-taken : goal.returns-in-First-clause-taken
returns-in-First-clause-taken c t h = rw c.in-First.is (c.first_read.ensures.taken c.args.schema.now t c.in-First.field-0 h)

pub returns-in-Read-clause-taken : goal.returns-in-Read-clause-taken
returns-in-Read-clause-taken c t h = rw c.in-Read.is (c.read.ensures.taken c.args.schema.now t h)
