use Rattle.std.proofs.Common.{ap, ◌∙◌}
use Rattle.mdcc_def_protocol.specs.Stores.{ended_of}
use Rattle.mdcc_facts_kept.specs.Void.{void_if}
use Rattle.mdcc_facts_kept.proofs.VoidLeft.{void-found}
use Rattle.mdcc_facts_kept.proofs.kept_facts.KeptFacts.is_void_kept.Goals as goal

pub returns : goal.returns
returns c =
    let store = c.len-facts.ensures.store in
    c.void_if.ensures
    ∙ ap (λ o. void_if o c.finished.result) (c.ended.ensures store.facts store.kept)
    ∙ ap (λ b. void_if (ended_of store.facts c.args.tx) b) (c.finished.ensures.value store.facts store.kept)
    ∙ void-found c.args.self.now store.facts store.kept c.args.tx
