use Rattle.mdcc_config.proofs.HostTexts.{host_read, no_host}
use Rattle.mdcc_config.proofs.values.host_of.Goals as goal

pub returns-in-Ok : goal.returns-in-Ok
returns-in-Ok c = rw c.octets.ensures (host_read c.args.text.now _ c.in-Ok.ensures.value)

pub returns-in-Err : goal.returns-in-Err
returns-in-Err c = no_host c.args.text.now c.in-Err.ensures.value
