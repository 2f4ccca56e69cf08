use Rattle.std.proofs.Common.{◌++◌, [], get_or, length, take, drop, min, ap, ◌∙◌}
use Rattle.std.specs.Prelude.{◌==◌}
use Rattle.mdcc_cells_indices.proofs.Endings.{byte-after, first-byte}
use Rattle.mdcc_cells_indices.proofs.outcomes.is_commit_at.Goals as goal

pub returns : goal.returns
returns c =
    ap (λ tag. tag == 1)
    (first-byte c.skip.new.self c.peek-count.new.into c.peek-count.result
    (c.peek-count.ensures.count ∙ ap (λ tag. min (length c.skip.new.self) (length tag)) c.as_mut_slice.ensures.value)
    (c.peek-count.ensures.bytes ∙ ap (λ tag. take c.peek-count.result c.skip.new.self ++ drop c.peek-count.result tag) c.as_mut_slice.ensures.value)
    ∙ ap (λ rest. get_or rest 0 0) (c.skip.ensures ∙ ap (drop 10) c.start-cursor.ensures)
    ∙ byte-after 10 (get_or c.args.cells.now.encodings c.args.number []))
