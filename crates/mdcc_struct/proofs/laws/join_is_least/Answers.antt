use Rattle.mdcc_struct.proofs.Inclusion.{join-extends, join-least, joined-there}
use Rattle.mdcc_struct.proofs.laws.join_is_least.Goals as goal

pub returns-clause-extends : goal.returns-clause-extends
returns-clause-extends c = join-extends

pub returns-clause-least : goal.returns-clause-least
returns-clause-least c = join-least

pub returns-clause-there : goal.returns-clause-there
returns-clause-there c = joined-there
