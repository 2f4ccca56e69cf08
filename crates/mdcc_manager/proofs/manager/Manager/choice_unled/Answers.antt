use Rattle.std.proofs.Common.{◌≡◌, None, Some, rules, ◌∙◌}
use Rattle.mdcc_manager.proofs.Kept.{found-kept, none-found, unled-found}
use Rattle.mdcc_def_protocol.specs.Volatile.{opened_of}
use Rattle.mdcc_manager.proofs.manager.Manager.choice_unled.Goals as goal

pub returns : goal.returns
returns c me epoch quorums managing stands =
    let tx = c.args.tx.now in
    let found = c.in_ok-opened_of.field-0.now in
    rw c.unled_at.ensures (unled-found (opened_of managing tx) found c.args.key.now
    (found-kept _ managing tx (Some found) c.in_ok-opened_of.ensures (c.deref.ensures.value ∙ stands.keeps)))

pub returns-in_err-opened_of : goal.returns-in_err-opened_of
returns-in_err-opened_of c me epoch quorums managing stands =
    let tx = c.args.tx.now in
    let none : c.from_residual.result ≡ None = search rules in
    none ∙ none-found _ (opened_of managing tx) (found-kept _ managing tx None c.in_err-opened_of.ensures (c.deref.ensures.value ∙ stands.keeps))
