use Rattle.std.proofs.Common.{◌≡◌, ◌∙◌, List, ℕ, ap, sym, arith}
use Rattle.std.proofs.lemmas.Grind.{common_steps}
use Rattle.mdcc_frag.specs.Joining.{join_step}
use Rattle.mdcc_frag.specs.declared.joined.Joined.TheVariants.{Whole}
use Rattle.mdcc_frag.specs.Partial.{with_piece}
use Rattle.mdcc_frag.proofs.Entries.{first_alone, first_whole, first_kept}
use Rattle.mdcc_frag.proofs.joiner.begin.Goals as goal

pub returns-then-is_whole-clause-taken : goal.returns-then-is_whole-clause-taken
returns-then-is_whole-clause-taken c =
    ap (λ bytes. join_step (Whole bytes) c.args.table.now.entries) c.into_bytes.ensures.bytes
    ∙ first_whole c.args.piece.now c.args.bytes.now c.args.table.now.entries c.take.new.self c.requires.first
    (c.in_ok-take.ensures.taken ∙ ap (with_piece c.args.piece.now.index c.args.bytes.now) c.in_ok-partial.ensures)
    (sym c.if-is_whole.ensures)

pub returns-in-Ok-clause-taken : goal.returns-in-Ok-clause-taken
returns-in-Ok-clause-taken c =
    first_kept c.args.piece.now c.args.bytes.now c.args.table.now c.put.new.self c.take.new.self c.requires.cap c.requires.first
    (c.in_ok-take.ensures.taken ∙ ap (with_piece c.args.piece.now.index c.args.bytes.now) c.in_ok-partial.ensures)
    (sym c.if-is_whole.ensures) c.in-Ok.ensures.entries

pub returns-then-bytes-piece-clause-taken : goal.returns-then-bytes-piece-clause-taken
returns-then-bytes-piece-clause-taken c =
    let copied : c.extend_from_slice.new.self.items ≡ c.args.bytes.now =
    grind (arith, common_steps, c.in_ok-extend_from_slice.ensures.items, c.new-whole.ensures.items) in
    ap (λ (bytes : List ℕ). join_step (Whole bytes) c.args.table.now.entries) (c.from_vec.ensures ∙ copied)
    ∙ first_alone c.args.piece.now c.args.bytes.now c.args.table.now.entries c.requires.first c.requires.fits (omega (arith, c.if-bytes-piece.true))
