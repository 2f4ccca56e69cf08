use Rattle.mdcc_def_rules.specs.declared.node.Input.{Input}
use Rattle.mdcc_serve_site.proofs.Acting.{StepLaws, acted_as, running_is}
use Rattle.mdcc_serve_site.proofs.site.Site.deliver.Goals as goal

pub deliver-requires-clause-running : goal.deliver-requires-clause-running
deliver-requires-clause-running c = running_is c.requires.served.0 c.args.self.now c.requires.served.1 c.requires.served.2

pub returns-clause-acted : goal.returns-clause-acted
returns-clause-acted c cluster site is =
    let laws : StepLaws = record {
      fact = c.steps_are_well_formed.ensures.fact;
      short = c.steps_are_well_formed.ensures.short;
      sends = c.steps_are_well_formed.ensures.sends;
      stays = c.steps_are_well_formed.ensures.stays;
      room = c.facts_have_room.ensures.cells;
      fact_counts = c.well_formed_facts_have_counts.ensures;
      message_counts = c.well_formed_messages_have_counts.ensures;
    } in
    acted_as laws cluster c.args.self.now site is (Input.Message c.args.envelope.now) c.requires.input c.deliver.new.self c.deliver.ensures.cells c.deliver.new.step c.deliver.result c.deliver.ensures.follows
