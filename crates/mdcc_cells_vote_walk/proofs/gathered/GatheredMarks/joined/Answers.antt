use Rattle.std.proofs.Common.{◌≡◌, [], ap, subst, sym, ◌∙◌}
use Rattle.std.specs.List.Sorted.{IsPermutation}
use Rattle.std.specs.Option.{option_or}
use Rattle.mdcc_struct.specs.Maps.{TxMap, value_of}
use Rattle.mdcc_struct.specs.Options.{Marks}
use Rattle.std.specs.Prelude.{ℕ}
use Rattle.mdcc_cells_vote_walk.specs.Gathered.{picked, ranked}
use Rattle.mdcc_cells_vote_walk.proofs.OldestFirst.{joined-oldest}
use Rattle.mdcc_cells_vote_walk.proofs.Picked.{given-same, ranked-listed}
use Rattle.mdcc_cells_vote_walk.proofs.gathered.GatheredMarks.joined.Goals as goal

pub returns : goal.returns
returns c =
    let gathered = c.args.self.now in
    let order = c.sort_unstable.new.self.items in
    let made : c.in_ok-order.order.items ≡ ranked gathered =
    c.in_ok-order.ensures ∙ ap (λ (places : TxMap ℕ). ranked places) c.deref.ensures.value
    ∙ sym (ranked-listed c.self.inside.accepted.items c.self.inside.places.items) ∙ ap (λ (marks : Marks). ranked marks) c.self.view_is in
    let empty : c.in_ok-votes.votes ≡ [] = given-same c.in_ok-votes.votes [] c.in_ok-votes.ensures in
    joined-oldest gathered c.put_all.new.votes order
    (subst (λ (places : TxMap ℕ). IsPermutation places order) made c.sort_unstable.ensures.permutation)
    c.sort_unstable.ensures.sorted
    c.len-most.ensures.ascending
    (λ tx. c.in_ok-put_all.ensures tx ∙ ap (λ (votes : Marks). option_or (value_of votes tx) (picked gathered tx c.deref-2.result.now)) empty ∙ ap (λ (places : TxMap ℕ). picked gathered tx places) c.deref-2.ensures.value)
