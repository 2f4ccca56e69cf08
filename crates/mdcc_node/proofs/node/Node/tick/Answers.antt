use Rattle.std.proofs.Common.{◌≡◌, ◌++◌, ◌∙◌, [], List, Ok, Result, ap, append_assoc, subst, sym}
use Rattle.mdcc_base.specs.Unless.{GivesUnless}
use Rattle.mdcc_def_messages.specs.declared.messages.Envelope.{Envelope}
use Rattle.mdcc_node.proofs.Led.{residual}
use Rattle.mdcc_node.proofs.Planned.{only-memory, only-memory-left}
use Rattle.mdcc_node.proofs.Ticks.{after-part}
use Rattle.mdcc_node.specs.StepPlans.{unless_refused}
use Rattle.mdcc_node.specs.Represents.{RepresentsCentre}
use Rattle.mdcc_node.specs.StepAnswers.{UnlessMemory, is_step_memory}
use Rattle.mdcc_def_protocol.specs.Recover.{tick}
use Rattle.mdcc_def_protocol.specs.Volatile.{Volatile, txs_opened, with_recovery}
use Rattle.mdcc_def_rules.specs.Steps.{only_sending}
use Rattle.mdcc_def_rules.specs.TickRules.{manager_ticked, recovery_act, recovery_ticked}
use Rattle.mdcc_def_rules.specs.declared.node.StepFault.{StepFault}
use Rattle.mdcc_node.proofs.node.Node.tick.Goals as goal
use Rattle.mdcc_def_rules.specs.Here.{here}

-- what a call that does not fail gives
abbrev given_sends : List Envelope → Result (List Envelope) StepFault
given_sends sends = Ok sends

pub returns-in_err-tick_opened : goal.returns-in_err-tick_opened
returns-in_err-tick_opened g c =
    let fault = c.in_err-tick_opened.field-0.0 in
    let same = residual c.from_residual.result fault c.from_residual.ensures.1 in
    record {
      answer = λ cluster me facts volatile known. rw same (only-memory fault _ _ (c.in_err-tick_opened.ensures.answer cluster me facts volatile known));
      left = λ cluster me facts volatile known. rw same (only-memory-left fault _ _ (c.in_err-tick_opened.ensures.answer cluster me facts volatile known));
      store = c.in_err-tick_opened.ensures.store;
    }

pub returns : goal.returns
returns g c = record {
  answer = λ cluster me facts volatile known.
      let first = manager_ticked (here cluster me facts) volatile in
      let next = tick cluster.quorums facts first.after.recovery (txs_opened first.after.manager) in
      let second = recovery_ticked (here cluster me facts) (only_sending first.after []) in
      let given : given_sends c.tick_opened.new.sends ≡ given_sends (c.args.sends.now ++ first.sends) = c.in_ok-tick_opened.ensures.answer cluster me facts volatile known in
      let told : c.tick_opened.new.sends ≡ c.args.sends.now ++ first.sends = cc in
      let both = after-part (recovery_act (here cluster me facts)) first (with_recovery first.after next.1) next.0 in
      let same : c.tick_opened.new.sends ++ second.sends ≡ c.args.sends.now ++ (recovery_ticked (here cluster me facts) first).sends =
      ap (λ (xs : List Envelope). xs ++ second.sends) told ∙ append_assoc c.args.sends.now first.sends second.sends ∙ ap (λ (xs : List Envelope). c.args.sends.now ++ xs) (sym both.0) in
      subst (λ (xs : List Envelope). GivesUnless is_step_memory (unless_refused c.tick_dangling.result c.tick_dangling.new.sends) (given_sends xs)) same
      (c.tick_dangling.ensures.answer cluster me facts first.after (c.in_ok-tick_opened.ensures.left cluster me facts volatile known));
  left = λ cluster me facts volatile known.
      let first = manager_ticked (here cluster me facts) volatile in
      let next = tick cluster.quorums facts first.after.recovery (txs_opened first.after.manager) in
      let both = after-part (recovery_act (here cluster me facts)) first (with_recovery first.after next.1) next.0 in
      subst (λ (v : Volatile). UnlessMemory (unless_refused c.tick_dangling.result c.tick_dangling.new.sends) (RepresentsCentre g.S.FactStore.stands c.tick_dangling.new.self cluster me facts v)) (sym both.1)
      (c.tick_dangling.ensures.left cluster me facts first.after (c.in_ok-tick_opened.ensures.left cluster me facts volatile known));
  store = c.tick_dangling.ensures.store ∙ c.in_ok-tick_opened.ensures.store;
}
