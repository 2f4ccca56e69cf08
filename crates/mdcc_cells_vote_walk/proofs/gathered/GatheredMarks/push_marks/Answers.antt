use Rattle.std.proofs.Common.{◌≡◌, ◌-◌, ◌++◌, ◌∷◌, [], Some, sym, ap, ◌∙◌, append_assoc, arith}
use Rattle.mdcc_struct.specs.Options.{Marks}
use Rattle.mdcc_cells_vote_walk.specs.Gathered.{first_entry, marks_read}
use Rattle.mdcc_cells_vote_walk.proofs.MarksGathered.{read_next}
use Rattle.mdcc_cells_vote_walk.proofs.gathered.GatheredMarks.push_marks.Goals as goal

pub loop-left-preserved : goal.loop-left-preserved
loop-left-preserved c =
    let before = c.loop-left.self in
    let left = c.loop-left.left - 1 in
    let e = c.in-Some.entry in
    let first : first_entry c.loop-left.cursor ≡ Some e = cc in
    ap (λ (marks : Marks). marks ++ marks_read left c.skip_to_next.new.cursor) c.in_ok-push-in-Some.ensures
    ∙ append_assoc before (e ∷ []) (marks_read left c.skip_to_next.new.cursor)
    ∙ ap (λ (marks : Marks). before ++ e ∷ marks) c.skip_to_next.ensures.marks
    ∙ ap (λ (marks : Marks). before ++ marks) (sym (read_next c.loop-left.left c.loop-left.cursor e (omega arith) first))
    ∙ c.loop-left.invariant
