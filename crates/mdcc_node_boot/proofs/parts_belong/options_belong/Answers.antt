use Rattle.std.proofs.Common.{◌≡◌, ◌&&◌, ◌∙◌, true, false, rules, sym}
use Rattle.mdcc_def_protocol.specs.Belongs.{mark_belongs, tx_belongs}
use Rattle.mdcc_node_boot.proofs.Marks.{one-apart, one-belongs}
use Rattle.mdcc_node_boot.proofs.parts_belong.options_belong.Goals as goal

pub returns-then-not-entry_belongs : goal.returns-then-not-entry_belongs
returns-then-not-entry_belongs c =
    let cluster = c.args.cluster.now in
    let apart : (tx_belongs cluster c.at-tx.result.0 && mark_belongs cluster c.at-tx.result.1.now) ≡ false = search (rules, c.entry_belongs.ensures, c.if-not-entry_belongs.true) in
    sym (one-apart cluster c.args.options.now c.loop-i.i c.at-tx.result.0 c.at-tx.result.1.now c.at-tx.ensures apart) ∙ c.loop-i.invariant

pub loop-i-preserved : goal.loop-i-preserved
loop-i-preserved c =
    let cluster = c.args.cluster.now in
    let belongs : (tx_belongs cluster c.at-tx.result.0 && mark_belongs cluster c.at-tx.result.1.now) ≡ true = search (rules, c.entry_belongs.ensures, c.if-not-entry_belongs.false) in
    sym (one-belongs cluster c.args.options.now c.loop-i.i c.at-tx.result.0 c.at-tx.result.1.now c.at-tx.ensures belongs) ∙ c.loop-i.invariant
