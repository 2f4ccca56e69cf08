use Rattle.std.proofs.Common.{arith, sym}
use Rattle.mdcc_struct.proofs.Ordered.{place_of-within, value_of-past, value_of-here, value_of-away}
use Rattle.mdcc_struct.proofs.options.Options.mark_from.Goals as goal

pub returns-then-place-len : goal.returns-then-place-len
returns-then-place-len c = sym (value_of-past c.args.self.now c.args.tx.now c.args.place c.len.ensures.ascending c.requires (omega arith))

pub at-found-requires : goal.at-found-requires
at-found-requires c = omega (arith, place_of-within c.args.self.now c.args.tx.now)

pub returns-then-is : goal.returns-then-is
returns-then-is c = sym (value_of-here c.args.self.now c.args.tx.now _ _ c.args.place c.len.ensures.ascending c.requires c.at-found.ensures (cc))

pub returns-else-is : goal.returns-else-is
returns-else-is c = sym (value_of-away c.args.self.now c.args.tx.now _ _ c.args.place c.len.ensures.ascending c.requires c.at-found.ensures (cc))
