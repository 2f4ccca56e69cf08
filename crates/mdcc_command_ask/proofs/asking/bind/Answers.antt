use Rattle.std.proofs.Common.{◌+◌}
use Rattle.mdcc_command_ask.proofs.Seen.{bind_comes, bound_recorded, failed_recorded}
use Rattle.mdcc_config.specs.IsConfig.{address_above}
use Rattle.mdcc_command_ask.proofs.asking.bind.Goals as goal

pub returns-in-Ok-clause-bound : goal.returns-in-Ok-clause-bound
returns-in-Ok-clause-bound g c =
    bound_recorded c.number.result c.args.order.now.centre c.answer_address-address.result (address_above c.args.config.now 32 c.args.order.now.centre) c.in-Ok.field-0
    (g.L.Link.calls c.args.link.now) (g.L.Link.calls c.bind.new.self) c.number.ensures.value c.answer_address-address.ensures c.in-Ok.ensures.call

pub returns-in-Ok-clause-comes : goal.returns-in-Ok-clause-comes
returns-in-Ok-clause-comes g c = bind_comes (c.args.order.now.centre + 16) c.answer_address-address.result (address_above c.args.config.now 32 c.args.order.now.centre) c.answer_address-address.ensures

pub returns-in-Err-clause-failed : goal.returns-in-Err-clause-failed
returns-in-Err-clause-failed g c =
    failed_recorded c.number.result c.args.order.now.centre c.answer_address-address.result (address_above c.args.config.now 32 c.args.order.now.centre) c.in-Err.field-0
    (g.L.Link.calls c.args.link.now) (g.L.Link.calls c.bind.new.self) c.number.ensures.value c.answer_address-address.ensures c.in-Err.ensures.call

pub returns-in-Err-clause-comes : goal.returns-in-Err-clause-comes
returns-in-Err-clause-comes g c = bind_comes (c.args.order.now.centre + 16) c.answer_address-address.result (address_above c.args.config.now 32 c.args.order.now.centre) c.answer_address-address.ensures
