use Rattle.std.proofs.Common.{◌≡◌, length, sym, ◌∙◌}
use Rattle.mdcc_frag.proofs.Taken.{whole_by_count}
use Rattle.mdcc_frag.proofs.partial.Partial.is_whole.Goals as goal

pub returns : goal.returns
returns c =
    let came : c.len.result ≡ length c.self.inside.arrivals.items = c.len.ensures ∙ c.self.inside.arrivals.ok.0 in
    let all : c.len-2.result ≡ length c.self.inside.held.items = c.len-2.ensures ∙ c.self.inside.held.ok.0 in
    rw came (rw all (whole_by_count c.self.inside c.args.self.now c.self.invariant (sym c.self.view_is)))
