use Rattle.std.proofs.Common.{arith}
use Rattle.mdcc_struct.proofs.Entries.{both_counted}
use Rattle.mdcc_struct.proofs.options.Options.rejected.Goals as goal

pub overflow_sub-result : goal.overflow_sub-result
overflow_sub-result c =
    let accepted = c.self.inside.accepted.items in
    let entries = c.self.inside.entries.items in
    omega (arith, both_counted accepted entries c.self.invariant.0, c.len.ensures, c.len-2.ensures, c.self.inside.entries.ok.0, c.self.inside.accepted.ok.0)

pub returns : goal.returns
returns c =
    let accepted = c.self.inside.accepted.items in
    let entries = c.self.inside.entries.items in
    rw (← c.self.view_is) (omega (arith, both_counted accepted entries c.self.invariant.0, c.len.ensures, c.len-2.ensures, c.self.inside.entries.ok.0, c.self.inside.accepted.ok.0))
