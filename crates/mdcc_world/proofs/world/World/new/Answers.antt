use Rattle.std.proofs.Common.{[], ◌-◌, None, arith, refl, replicate}
use Rattle.mdcc_world.proofs.Firsts.{first-logs, first-stops, first-tails, first-ups, none-armed}
use Rattle.mdcc_world.proofs.NodesStay.{first-nodes}
use Rattle.mdcc_world.proofs.Took.{first-counted, value-of}
use Rattle.mdcc_theorem_worlds.proofs.Begins.{first-stands}
use Rattle.mdcc_world.proofs.world.World.new.Goals as goal

pub returns : goal.returns
returns c =
    let cluster = c.args.cluster in
    record {
      like = record {
        records = record {
          itself = first-stands cluster c.requires;
          cluster = refl;
          network = value-of c.in_ok-network.network [] c.in_ok-network.ensures;
          bytes = refl;
          reads = c.new-3.ensures;
          few_reads = omega arith;
          events = refl;
          stops = first-stops (replicate 9 None) cluster (λ a. none-armed 9 (a - 1));
          ups = first-ups c.first_ups-up.result cluster (rw (c.centres.ensures.value) at c.first_ups-up.ensures);
        };
        decisions = first-counted c.in_ok-decisions.decisions cluster.quorums cluster.quorums.centres c.in_ok-decisions.ensures;
        nodes = first-nodes c.in_ok-nodes.nodes.items cluster c.in_ok-nodes.ensures.nodes;
        logs = first-logs c.in_ok-nodes.logs cluster c.in_ok-nodes.ensures.logs;
        tails = first-tails c.in_ok-nodes.logs cluster c.in_ok-nodes.ensures.tails;
      };
      few = omega arith;
    }
