use Rattle.std.proofs.Common.{◌∙◌, ap}
use Rattle.mdcc_frag.specs.Joining.{join_step}
use Rattle.mdcc_frag.specs.declared.joined.Joined.TheVariants.{Whole}
use Rattle.mdcc_frag.proofs.Entries.{advance_kept, advance_full, advance_whole, is_there}
use Rattle.mdcc_frag.proofs.joiner.advance.Goals as goal

pub returns-then-not-branch-clause-taken : goal.returns-then-not-branch-clause-taken
returns-then-not-branch-clause-taken c =
    advance_kept c.args.piece.now c.args.bytes.now c.args.table.now.entries c.take_missing.new.table.entries c.in_ok-take_missing.field-0
    c.requires.missing c.in_ok-take_missing.ensures.taken c.if-not-branch.true

pub unreachable-requires : goal.unreachable-requires
unreachable-requires c =
    is_there c.args.piece.now c.args.bytes.now c.args.table.now.entries c.take_missing.new.table.entries c.in_ok-take_missing.field-0
    c.in_ok-take_missing.ensures.taken c.in-None.ensures.value

pub returns-clause-taken : goal.returns-clause-taken
returns-clause-taken c =
    ap (λ bytes. join_step (Whole bytes) c.pop.new.self.entries) c.into_bytes.ensures.bytes
    ∙ ap (λ table. join_step (Whole c.in-Some.partial.bytes) table.entries) c.in-Some.ensures.entries
    ∙ advance_whole c.args.piece.now c.args.bytes.now c.args.table.now.entries c.take_missing.new.table.entries c.in_ok-take_missing.field-0
    c.in-Some.partial c.requires.missing c.in_ok-take_missing.ensures.taken c.if-not-branch.false c.in-Some.ensures.value

pub into_bytes-requires-clause-whole : goal.into_bytes-requires-clause-whole
into_bytes-requires-clause-whole c =
    advance_full c.args.piece.now c.args.bytes.now c.args.table.now.entries c.take_missing.new.table.entries c.in_ok-take_missing.field-0
    c.in-Some.partial c.in_ok-take_missing.ensures.taken c.if-not-branch.false c.in-Some.ensures.value
