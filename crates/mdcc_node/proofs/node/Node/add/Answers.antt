use Rattle.std.proofs.Common.{◌≡◌, ◌∷◌, Some, refl}
use Rattle.mdcc_def_protocol.specs.Marks.{is_commit}
use Rattle.mdcc_def_rules.specs.Steps.{heard_by}
use Rattle.mdcc_node.proofs.node.Node.add.Goals as goal

pub returns-in-Heard-clause-ok : goal.returns-in-Heard-clause-ok
returns-in-Heard-clause-ok g c = λ cluster me facts volatile known.
    let same = c.requires.no_boot facts known.store in
    let heard : heard_by (Some c.args.fact.now) ≡ Some (c.in-Heard.tx, is_commit c.in-Heard.outcome) = rw c.in-Heard.is refl in
    rw heard (c.close.ensures.closed cluster me (c.args.fact.now ∷ facts) volatile (record {
      of = known.of;
      at = known.at;
      among = known.among;
      store = c.in_ok-add.ensures.ok facts known.store;
      manager = rw same known.manager;
      leader = rw same known.leader;
      recovery = known.recovery;
    }))
