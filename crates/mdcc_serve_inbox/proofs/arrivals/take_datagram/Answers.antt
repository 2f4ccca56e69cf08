use Rattle.std.proofs.Common.{sym, ◌∙◌, ap}
use Rattle.mdcc_frag.specs.Joining.{JoinStep}
use Rattle.mdcc_serve_inbox.proofs.Lengths.{whole_short}
use Rattle.mdcc_serve_inbox.proofs.arrivals.take_datagram.Goals as goal

pub arrival_of-requires : goal.arrival_of-requires
arrival_of-requires c bytes is =
    whole_short c.args.datagram.now c.args.joiner.now bytes (sym (ap (λ (s : JoinStep). s.answer) c.in_ok-joined.ensures.answer) ∙ is)
