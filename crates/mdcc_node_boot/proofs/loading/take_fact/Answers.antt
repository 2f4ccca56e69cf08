use Rattle.std.proofs.Common.{◌≡◌, ◌∙◌, ◌-◌, Err, ap, subst, sym, true, ℕ}
use Rattle.std.specs.Bool.{OnFalse}
use Rattle.mdcc_node_boot.proofs.Refused.{refused}
use Rattle.mdcc_node_boot.specs.Admission.{is_admitted}
use Rattle.mdcc_node_boot.specs.Loading.{refusal}
use Rattle.mdcc_facts.specs.Adding.{add_result, is_store_memory}
use Rattle.mdcc_def_protocol.specs.Cells.{cells_held}
use Rattle.mdcc_def_messages.specs.Lengths.{cells_needed}
use Rattle.mdcc_node_boot.proofs.loading.take_fact.Goals as goal

pub returns-in-Err : goal.returns-in-Err
returns-in-Err g c total facts held within =
    let cluster = c.args.cluster.now in
    let fact = c.args.fact.now in
    let admitted : is_admitted cluster facts fact ≡ true = sym (c.is_admitted.ensures facts held.list) ∙ c.if-not-is_admitted.false in
    let is : c.refusal.result ≡ refusal total facts c.args.taken fact c.in-Err.fault =
    c.refusal.ensures facts (c.in-Err.ensures.err facts held.list)
    ∙ ap (λ cells. refusal cells facts c.args.taken fact c.in-Err.fault) (c.in-Err.ensures.cells ∙ held.total) in
    let answer =
    subst (λ (n : ℕ). OnFalse (is_store_memory c.in-Err.fault) (Err c.in-Err.fault ≡ add_result (n - cells_held facts) (cells_needed fact) facts fact)) held.total
    (c.in-Err.ensures.answer facts held.list) in
    rw is (refused total cluster facts c.args.taken fact c.in-Err.fault c.admission_is_exact.ensures held.counted admitted within answer)
