use Rattle.std.proofs.Common.{◌++◌, ◌∷◌, [], take, sym, ap, ◌∙◌, add-one}
use Rattle.mdcc_def_protocol.specs.Plain.{plain_unresolved_of}
use Rattle.mdcc_index.proofs.Marked.{take-none, take-one}
use Rattle.mdcc_index.proofs.fact_pool.FactPool.unresolved_all.Goals.{in-Some+in_ok-push, in_default}
use Rattle.mdcc_index.proofs.fact_pool.FactPool.unresolved_all.Goals as goal

pub loop-place-preserved : goal.loop-place-preserved
loop-place-preserved c facts kept =
    let before = c.loop-place.invariant facts kept in
    elim c.match-unresolved.branch [
      | in-Some+in_ok-push w ↦
          w.all-is ∙ w.in_ok-push.ensures.ok ∙ ap (λ all. all ++ w.in-Some.entry ∷ []) before
          ∙ sym (take-one (plain_unresolved_of facts) c.loop-place.place w.in-Some.entry (sym (c.unresolved.ensures facts kept) ∙ w.in-Some.is))
          ∙ ap (λ n. take n (plain_unresolved_of facts)) (sym (add-one c.loop-place.place))
      | in_default w ↦
          w.all-is ∙ before
          ∙ sym (take-none (plain_unresolved_of facts) c.loop-place.place (sym (c.unresolved.ensures facts kept) ∙ w.in_default.is))
          ∙ ap (λ n. take n (plain_unresolved_of facts)) (sym (add-one c.loop-place.place))
    ]
