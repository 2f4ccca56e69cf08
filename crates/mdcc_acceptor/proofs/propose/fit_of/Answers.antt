use Rattle.std.proofs.Common.{◌≡◌, true}
use Rattle.mdcc_def_protocol.specs.Facts.{live_of}
use Rattle.mdcc_escrow.specs.Sums.{IsBoundedLoad}
use Rattle.mdcc_acceptor.proofs.propose.fit_of.Goals as goal

pub returns-else-is_bounded : goal.returns-else-is_bounded
returns-else-is_bounded g c facts h held =
    let live = live_of facts c.args.choice.now.key c.args.choice.now.version in
    let bounded : IsBoundedLoad c.load-load.result = rw (c.load-load.ensures facts h held) (c.capped_loads_are_bounded.ensures live c.seen_in.result.now) in
    let answered : c.is_bounded.result ≡ true = c.is_bounded.ensures.1 bounded in
    let refused = c.if-is_bounded.false in
    absurd (cc)
