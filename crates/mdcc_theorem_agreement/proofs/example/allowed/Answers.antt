use Rattle.std.proofs.Common.{refl, lit≤}
use Rattle.mdcc_def_protocol.specs.IsCluster.{IsCluster}
use Rattle.mdcc_theorem_ledger.proofs.LedgerShown.{ledger_shown}
use Rattle.mdcc_theorem_agreement.specs.Example.{three, ledger}
use Rattle.mdcc_theorem_agreement.proofs.example.allowed.Goals as goal

three_meet : IsCluster three
three_meet = record {
  quorums = record {
    some_centre = lit≤ tt;
    nine_centres = lit≤ tt;
    some_classic = lit≤ tt;
    classic_within = lit≤ tt;
    fast_within = lit≤ tt;
    classic_meet = lit≤ tt;
    fast_meet = lit≤ tt;
  };
  schema = record { some = lit≤ tt; few = lit≤ tt; each = refl };
  range = lit≤ tt;
  some_cells = lit≤ tt;
  cells = lit≤ tt;
}

pub returns-clause-ledger : goal.returns-clause-ledger
returns-clause-ledger c = record { of_cluster = three_meet; allowed = ledger_shown three ledger refl; few = lit≤ tt }

pub returns-clause-chosen : goal.returns-clause-chosen
returns-clause-chosen c = refl

pub returns-clause-committed : goal.returns-clause-committed
returns-clause-committed c = refl

pub returns-clause-held : goal.returns-clause-held
returns-clause-held c = refl

pub returns-clause-heard : goal.returns-clause-heard
returns-clause-heard c = refl
