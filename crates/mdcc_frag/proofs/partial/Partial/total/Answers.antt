use Rattle.std.proofs.Common.{length, sym, ◌∙◌, ap}
use Rattle.mdcc_frag.specs.Partial.{PartialMessage}
use Rattle.mdcc_frag.proofs.Taken.{length_in}
use Rattle.mdcc_frag.proofs.partial.Partial.total.Goals as goal

pub returns : goal.returns
returns c = sym (length_in c.self.inside c.self.invariant) ∙ ap (λ (m : PartialMessage). length m.bytes) c.self.view_is
