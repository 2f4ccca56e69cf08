use Rattle.std.proofs.Common.{◌≡◌, ap, ◌∙◌, length, List, refl}
use Rattle.mdcc_def_messages.specs.Mailbox.{Sent}
use Rattle.mdcc_world.proofs.Ended.{aborts-are, commits-are, undecided-are}
use Rattle.mdcc_world.proofs.world.World.end.Goals as goal

pub returns : goal.returns
returns c w stands =
    let totals = c.totals-totals.ensures w.cluster.quorums w.ledger stands.like.decisions in
    let events = stands.like.records.events in
    let messages : c.len.result ≡ length w.sent = c.len.ensures.value ∙ ap (λ (xs : List Sent). length xs) stands.like.records.network in
    let commits = commits-are w.cluster.quorums w.ledger in
    let aborts = aborts-are w.cluster.quorums w.ledger in
    let undecided = undecided-are w.cluster.quorums w.ledger in
    rw (totals, events, messages, commits, aborts, undecided) refl
