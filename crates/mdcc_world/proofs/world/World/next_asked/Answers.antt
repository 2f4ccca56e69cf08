use Rattle.std.proofs.Common.{◌∙◌, List, ap, arith}
use Rattle.mdcc_world_mail.specs.Waiting.{first_to}
use Rattle.mdcc_def_messages.specs.Mailbox.{Sent}
use Rattle.mdcc_world.proofs.Settled.{clear-next, next-of}
use Rattle.mdcc_world.specs.SettleEnd.{AreAsked}
use Rattle.mdcc_world.proofs.world.World.next_asked.Goals as goal

pub returns-clause-next : goal.returns-clause-next
returns-clause-next c w like =
    let centres = c.as_slice.result.now in
    let listed = c.args.listed.now in
    let are : AreAsked w listed centres = rw c.as_slice.ensures (c.in_ok-centres.ensures w like) in
    next-of w listed centres c.first_waiting.result are (c.first_waiting.ensures.number ∙ ap (λ (sent : List Sent). first_to centres sent) like.records.network)

pub returns-clause-clear : goal.returns-clause-clear
returns-clause-clear c w like few =
    let centres = c.as_slice.result.now in
    let listed = c.args.listed.now in
    let are : AreAsked w listed centres = rw c.as_slice.ensures (c.in_ok-centres.ensures w like) in
    let events = like.records.events in
    clear-next w listed centres c.first_waiting.result are (c.first_waiting.ensures.number ∙ ap (λ (sent : List Sent). first_to centres sent) like.records.network) (omega (events, few, arith))
