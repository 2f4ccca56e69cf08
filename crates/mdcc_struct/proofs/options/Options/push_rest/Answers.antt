use Rattle.std.proofs.Common.{◌+◌, ◌++◌, drop}
use Rattle.mdcc_base.specs.declared.identifiers.TxId.{TxId}
use Rattle.mdcc_option.specs.declared.choices.Mark.{Mark}
use Rattle.mdcc_struct.proofs.Walks.{drop-get, pushed_next, pushed_more, ascending-pushed}
use Rattle.mdcc_struct.proofs.options.Options.push_rest.Goals as goal

pub push_copy-requires : goal.push_copy-requires
push_copy-requires c =
    let other = c.args.other.now in
    let whole = c.args.self.now ++ drop c.args.from other in
    let x : TxId × Mark = (c.at-tx.result.0, c.at-tx.result.1.now) in
    let rest = drop (c.loop-place.place + 1) other in
    ascending-pushed c.loop-place.self rest whole x c.requires
    (pushed_next c.loop-place.self _ rest whole x (drop-get other c.loop-place.place x c.at-tx.ensures) c.loop-place.invariant)

pub loop-place-preserved : goal.loop-place-preserved
loop-place-preserved c =
    let other = c.args.other.now in
    let whole = c.args.self.now ++ drop c.args.from other in
    let x : TxId × Mark = (c.at-tx.result.0, c.at-tx.result.1.now) in
    let rest = drop (c.loop-place.place + 1) other in
    rw c.in_ok-push_copy.ensures.ok (pushed_more c.loop-place.self rest whole x
    (pushed_next c.loop-place.self _ rest whole x (drop-get other c.loop-place.place x c.at-tx.ensures) c.loop-place.invariant))
