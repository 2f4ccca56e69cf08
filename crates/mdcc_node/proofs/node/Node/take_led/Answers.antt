use Rattle.std.proofs.Common.{refl}
use Rattle.mdcc_node.proofs.Ending.{lead-alone}
use Rattle.mdcc_node.proofs.Planned.{sends-plan, unless-any}
use Rattle.mdcc_def_rules.specs.LeaderRules.{lead_step}
use Rattle.mdcc_node.proofs.node.Node.take_led.Goals as goal
use Rattle.mdcc_def_rules.specs.Here.{here}

pub returns-in-Refused-clause-plan : goal.returns-in-Refused-clause-plan
returns-in-Refused-clause-plan g c = record {
  answer = λ cluster me facts volatile known. rw c.in-Refused.is (rw c.requires.blank refl);
  left = λ cluster me facts volatile known. rw c.in-Refused.is (c.take_refusal.ensures.left cluster me facts volatile known);
  store = c.take_refusal.ensures.store;
}

pub returns-in-Lead-clause-plan : goal.returns-in-Lead-clause-plan
returns-in-Lead-clause-plan g c =
    let m = c.in-Lead in
    record {
      answer = λ cluster me facts volatile known.
          rw (m.is, c.requires.blank)
          (sends-plan (lead_step (here cluster me facts) volatile c.args.from m.choice) c.lead.new.sends c.lead.result (lead-alone cluster me facts volatile c.args.from m.choice)
          (rw (c.requires.blank, c.number.ensures.value) at (c.lead.ensures.answer cluster me facts volatile known)));
      left = λ cluster me facts volatile known.
          rw m.is (unless-any c.lead.result c.lead.new.sends _ _ (rw c.number.ensures.value at (c.lead.ensures.left cluster me facts volatile known)));
      store = c.lead.ensures.store;
    }
