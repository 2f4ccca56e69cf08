use Rattle.mdcc_theorem_ledger.proofs.LedgerShown.{ledger_shown}
use Rattle.mdcc_theorem_ledger.proofs.tests.test_shows_allowed.Goals as goal

pub returns : goal.returns
returns c = ledger_shown
