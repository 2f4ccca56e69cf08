use Rattle.std.proofs.Common.{refl}
use Rattle.mdcc_tests.proofs.adding.is_news.Goals as goal

pub returns-then-are_new : goal.returns-then-are_new
returns-then-are_new g c = λ facts h marks.
    rw c.in-Voted.is (record {
      well_formed = rw c.in-Voted.is at c.requires.well_formed;
      short = rw c.in-Voted.is at c.requires.short;
      promised = refl;
      voted = c.if-are_new.ensures.unvoted facts h refl;
      heard = refl;
      unfinished = c.if-are_new.ensures.unfinished facts h refl;
      marked = c.marks_offer.ensures c.in-Voted.key c.in-Voted.version c.in-Voted.ballot marks;
      no_floor = refl;
    })
