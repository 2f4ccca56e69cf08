use Rattle.std.proofs.Common.{ap, sym, ◌∙◌}
use Rattle.mdcc_option.specs.StoreMap.{one_copy_of}
use Rattle.mdcc_check.proofs.Fits.{refused-kept}
use Rattle.mdcc_check.proofs.checker.Checker.commit_choices.Goals as goal
use Rattle.mdcc_check.specs.Verdicts.{apply_cause}

pub returns-in-Some-clause-kept : goal.returns-in-Some-clause-kept
returns-in-Some-clause-kept c p r fault e =
    let same = ap apply_cause (sym c.in_ok-apply.ensures.answer) ∙ sym c.apply_cause.ensures ∙ c.in-Some.is in
    record {
      store = c.in_ok-apply.ensures.ok ∙ refused-kept c.args.schema.now (one_copy_of c.args.self.now.store) c.args.choices.now c.in-Some.cause same ∙ r.store;
      txs = r.txs;
      versions = r.versions;
    }
