use Rattle.std.proofs.Common.{refl}
use Rattle.mdcc_theorem_fast_path.proofs.an_older_member_gives_no_vote.Goals as goal

pub returns-clause-lacks : goal.returns-clause-lacks
returns-clause-lacks c = record {
  untaken = record { up = refl; unstopped = refl; uncounted = record { opened = refl; none = tt } };
  others_accept = (record { up = refl; unstopped = refl; accepts = (refl, tt) }, (record { up = refl; unstopped = refl; accepts = (refl, tt) }, tt));
  up = refl;
  unstopped = refl;
  none = (refl, tt);
}

pub returns-clause-lines : goal.returns-clause-lines
returns-clause-lines c = refl
