use Rattle.std.proofs.Common.{◌<◌, length, reverse, sym, ◌∙◌, arith}
use Rattle.std.proofs.lemmas.Bool.{ltb-true, ltb-false}
use Rattle.std.proofs.lemmas.List.{length-reverse}
use Rattle.mdcc_cells_chains.proofs.Indexed.{entry-read, has-entry, has-past}
use Rattle.mdcc_cells_chains.proofs.index.has_at.Goals as goal

pub returns-in-Some : goal.returns-in-Some
returns-in-Some g c =
    let keys = c.args.keys.now in
    let within : c.args.index < length c.args.keys.now = ltb-true c.args.index (length keys) (sym c.in-Some.ensures.lookup.0) in
    c.is_same.ensures
    ∙ sym (has-entry (g.K.IndexKey.same c.args.key.now) (reverse keys) c.args.index c.in-Some.other.now (entry-read keys c.args.index c.in-Some.other.now within c.in-Some.ensures.lookup.1))

pub returns-in-None : goal.returns-in-None
returns-in-None g c =
    sym (has-past (g.K.IndexKey.same c.args.key.now) (reverse c.args.keys.now) c.args.index
    (omega (arith, ltb-false c.args.index (length c.args.keys.now) (sym c.in-None.ensures.lookup.0), length-reverse c.args.keys.now)))
