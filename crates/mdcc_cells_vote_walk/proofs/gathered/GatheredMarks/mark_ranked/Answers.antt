use Rattle.std.proofs.Common.{◌≡◌, ◌-◌, Some, get_or, length, ap, ◌∙◌, arith}
use Rattle.mdcc_option.specs.declared.choices.Mark.{Mark}
use Rattle.mdcc_struct.specs.Fields.{mark_in}
use Rattle.mdcc_struct.specs.Options.{Marks}
use Rattle.std.specs.Prelude.{List, ℕ}
use Rattle.mdcc_cells_vote_walk.specs.Gathered.{mark_ranked}
use Rattle.mdcc_cells_vote_walk.proofs.Picked.{ranked-beyond, ranked-there}
use Rattle.mdcc_cells_vote_walk.proofs.gathered.GatheredMarks.mark_ranked.Goals as goal

pub returns-then-rank-len : goal.returns-then-rank-len
returns-then-rank-len c =
    let accepted = c.self.inside.accepted.items in
    let places = c.self.inside.places.items in
    let e = c.index.result.now in
    let len : c.len-len.result ≡ length places = omega arith in
    ap Some (c.mark_in.ensures ∙ ap (λ (marks : List Mark). mark_in marks e.1) c.deref.ensures.value)
    ∙ ranked-there accepted places c.args.rank e (omega arith) (c.index.ensures ∙ ap (λ (n : ℕ). get_or places (n - 1 - c.args.rank) e) len)
    ∙ ap (λ (marks : Marks). mark_ranked marks c.args.rank) c.self.view_is

pub returns-else-rank-len : goal.returns-else-rank-len
returns-else-rank-len c =
    ranked-beyond c.self.inside.accepted.items c.self.inside.places.items c.args.rank (omega arith)
    ∙ ap (λ (marks : Marks). mark_ranked marks c.args.rank) c.self.view_is
