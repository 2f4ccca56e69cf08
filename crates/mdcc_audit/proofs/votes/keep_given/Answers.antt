use Rattle.std.proofs.Common.{ap}
use Rattle.mdcc_audit.proofs.Kept.{tallied-more, tallied-new}
use Rattle.mdcc_audit.proofs.votes.keep_given.Goals as goal

pub returns-in_ok-add_given-in-Some : goal.returns-in_ok-add_given-in-Some
returns-in_ok-add_given-in-Some c =
    tallied-more c.args.tallies.now.entries _ c.args.subject c.args.centre c.args.given c.in-Some.tally.now c.add_given.new.tally c.in-Some.ensures.value
    (c.get_mut.follows.holds c.add_given.new.tally).0 c.in_ok-add_given-in-Some.ensures

pub returns-in_ok-insert-in-None : goal.returns-in_ok-insert-in-None
returns-in_ok-insert-in-None c =
    tallied-new c.args.tallies.now.entries c.get_mut.follows.lender-at-none.entries c.insert.new.self.entries c.args.subject c.args.centre c.args.given
    c.in_ok-tally-in-None.tally c.in-None.ensures.value (ap (λ m. m.entries) c.get_mut.follows.holds-at-none) c.in_ok-insert-in-None.ensures.entries c.in_ok-tally-in-None.ensures
