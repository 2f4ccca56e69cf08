use Rattle.std.proofs.Common.{◌+◌, ap, ◌∙◌, arith}
use Rattle.std.proofs.lemmas.Grind.{common_steps}
use Rattle.mdcc_config.proofs.Ports.{port_behind}
use Rattle.mdcc_config.proofs.addresses.addresses_of.Goals as goal

pub loop-host-preserved : goal.loop-host-preserved
loop-host-preserved c = record {
  rest = grind (arith, common_steps);
  ports = rw c.in_ok-push.ensures.ok
      (port_behind c.loop-host.addresses c.in_ok-address_of.field-0 c.args.port c.loop-host.invariant.ports
      (c.in_ok-address_of.ensures.port ∙ ap (λ n. c.args.port + (n + 1)) c.len.ensures));
  few = grind (arith, common_steps);
}
