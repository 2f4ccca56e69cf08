use Rattle.mdcc_audit.proofs.Kept.{said-new}
use Rattle.mdcc_audit.proofs.firsts.Firsts.say.Goals as goal

pub returns-in_ok-insert-in-None : goal.returns-in_ok-insert-in-None
returns-in_ok-insert-in-None c = said-new c.args.self.now.table.entries c.insert.new.self.entries c.args.self.now.found c.args.subject c.args.first c.in-None.ensures.value c.in_ok-insert-in-None.ensures.entries
