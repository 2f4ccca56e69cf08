use Rattle.std.proofs.Common.{sym}
use Rattle.mdcc_config.proofs.HostTexts.{host_read, host_dotted}
use Rattle.mdcc_config.proofs.laws.hosts_are_dotted.Goals as goal

pub returns : goal.returns
returns c = λ text octets. (host_dotted text octets, λ dotted. sym (host_read text octets dotted))
