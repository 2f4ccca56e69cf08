use Rattle.std.proofs.Common.{◌∷◌, [], Ok, List, refl, subst}
use Rattle.mdcc_def_simulation.specs.Deliveries.{deliver_line}
use Rattle.mdcc_def_simulation.specs.Limits.{with_lines}
use Rattle.mdcc_def_language.specs.declared.lines.Line.{Line}
use Rattle.mdcc_world.proofs.Happened.{next-is, reported-happens, reported-result}
use Rattle.mdcc_world.specs.Represents.{Happens}
use Rattle.mdcc_theorem_worlds.specs.DeliveryProgress.{after_numbered_message}
use Rattle.mdcc_world.proofs.world.World.report_delivery.Goals as goal

pub returns-clause-happens : goal.returns-clause-happens
returns-clause-happens c w like =
    let number = c.args.number in
    let expected = after_numbered_message w number in
    let one : Happens {T = Unit {0}} c.apply_message.new.self [] c.apply_message.new.lines (Ok tt) expected =
    subst (λ (ls : List Line). Happens {T = Unit {0}} c.apply_message.new.self ls c.apply_message.new.lines (Ok tt) expected) c.new-reported.ensures (c.in_ok-apply_message.ensures.happens w like) in
    reported-result c.report_event.result c.apply_message.new.self c.args.lines.now c.report_event.new.lines (with_lines (deliver_line number) expected) c.report_event.ensures.ok c.report_event.ensures.memory
    (λ put. reported-happens c.apply_message.new.self c.args.lines.now c.report_event.new.lines c.apply_message.new.lines (Line.Deliver number c.next_message.result ∷ []) (deliver_line number) expected one
    (λ v like. rw (next-is c.apply_message.new.self v c.next_message.result like c.next_message.ensures) refl) put)
