use Rattle.mdcc_frag.proofs.Entries.{taken, unchanged, on_err}
use Rattle.mdcc_frag.proofs.joiner.take_missing.Goals as goal

pub returns-clause-taken : goal.returns-clause-taken
returns-clause-taken c =
    taken c.args.piece.now c.args.bytes.now c.args.table.now.entries c.promote.new.self _ c.in-Some.partial.now c.take.new.self c.is_whole-complete.result
    c.in-Some.ensures.value c.requires.missing c.in_ok-take-in-Some.ensures.taken c.is_whole-complete.ensures c.promote.ensures.entries

pub returns-in_err-take-in-Some-clause-refused : goal.returns-in_err-take-in-Some-clause-refused
returns-in_err-take-in-Some-clause-refused c =
    on_err _ (unchanged c.args.piece.now c.args.table.now c.in-Some.partial.now c.take.new.self c.in-Some.ensures.value
    c.in_err-take-in-Some.ensures.out_of_memory)
