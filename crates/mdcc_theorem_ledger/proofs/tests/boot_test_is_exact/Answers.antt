use Rattle.mdcc_theorem_ledger.proofs.MayAddDecided.{Decides-fact, Decides-facts}
use Rattle.mdcc_theorem_ledger.proofs.tests.boot_test_is_exact.Goals as goal

pub returns-clause-one_fact : goal.returns-clause-one_fact
returns-clause-one_fact c = Decides-fact

pub returns-clause-all_facts : goal.returns-clause-all_facts
returns-clause-all_facts c = Decides-facts
