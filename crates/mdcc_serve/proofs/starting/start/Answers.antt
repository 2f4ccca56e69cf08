use Rattle.std.proofs.Common.{◌∙◌, List, ap, refl, rules, sym, ℕ}
use Rattle.mdcc_def_messages.specs.declared.facts.Fact.{Fact}
use Rattle.mdcc_def_server_runs.specs.Servers.{Log}
use Rattle.mdcc_serve.proofs.starting.start.Goals as goal

pub returns-clause-starts : goal.returns-clause-starts
returns-clause-starts g c =
    let runs = c.in_ok-node.ensures.runs in
    record {
      log = record { centre = c.args.centre; facts = runs.facts };
      of = refl;
      itself = record {
        node = runs.itself;
        kept = runs.kept;
        centre = refl;
        sender = record { centre = refl; epoch = runs.epoch; sent = refl };
        clients = search rules;
        own = c.in_ok-own.ensures;
        asked = c.in_ok-asked.ensures;
        waits = record { pending = search rules; all = refl; facts = tt; envelopes = tt };
      };
      holds = runs.holds;
      fresh = record { steps = refl; dropped = refl; lost = refl };
      passes = runs.passes;
      others = runs.others;
      stays = runs.stays;
      over = λ before of is.
          ap (λ (n : ℕ). let l : Log = record { centre = n; facts = runs.facts } in l) (sym of)
          ∙ ap (λ (fs : List Fact). let l : Log = record { centre = before.centre; facts = fs } in l) (runs.over before of is);
    }
