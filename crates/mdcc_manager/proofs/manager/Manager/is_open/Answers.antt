use Rattle.std.proofs.Common.{◌∙◌}
use Rattle.std.specs.Option.{option_copied}
use Rattle.mdcc_facts.proofs.Marked.{copied-some}
use Rattle.mdcc_manager.proofs.Kept.{found-kept, some-found}
use Rattle.mdcc_def_protocol.specs.Volatile.{opened_of}
use Rattle.mdcc_manager.proofs.manager.Manager.is_open.Goals as goal

pub returns : goal.returns
returns c me epoch quorums managing stands =
    let found = option_copied c.opened_of.result in
    rw (c.is_some.ensures, ← copied-some c.opened_of.result)
    (some-found (opened_of managing c.args.tx) found (found-kept _ managing c.args.tx found c.opened_of.ensures (c.deref.ensures.value ∙ stands.keeps)))
