use Rattle.std.proofs.Common.{refl}
use Rattle.mdcc_world_decisions.proofs.Stood.{ballots-voted}
use Rattle.mdcc_world_decisions.proofs.decisions.Decisions.cast.Goals as goal

pub returns : goal.returns
returns c quorums entries offered stands =
    record {
      knows = stands.knows;
      begun = stands.begun;
      casts = λ tx. rw (c.in_ok-keep_casts.ensures tx, stands.casts tx) refl;
      ballots = ballots-voted c.args.self.now.ballots c.keep_ballot.new.keys entries c.args.centre c.args.key.now c.args.version c.args.ballot.now c.args.options.now offered
          stands.ballots c.in_ok-keep_ballot.ensures;
      counts = stands.counts;
      few = stands.few;
    }
