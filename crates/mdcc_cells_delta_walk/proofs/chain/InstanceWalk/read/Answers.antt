use Rattle.std.proofs.Common.{ap, sym, ◌∙◌}
use Rattle.mdcc_cells_delta_walk.specs.Chains.{later_encodings, encodings_from}
use Rattle.mdcc_cells_delta_walk.proofs.WalksOn.{from-next}
use Rattle.mdcc_cells_delta_walk.proofs.chain.InstanceWalk.read.Goals as goal

pub returns-in-Some-clause-rest : goal.returns-in-Some-clause-rest
returns-in-Some-clause-rest c =
    let s = c.self.inside in
    from-next s.cells.now.encodings s.numbers.now s.instance.now s.index.now.keys c.in-Some.index c.next-self-inside.result c.next-self-inside.ensures.value
    ∙ sym (ap (λ at. later_encodings (encodings_from s.cells.now.encodings s.index.now.keys s.numbers.now s.instance.now at)) c.in-Some.is)
    ∙ ap later_encodings c.self.view_is
