use Rattle.std.proofs.Common.{List, ℕ, take, sym, ◌∙◌, ap, arith}
use Rattle.std.proofs.lemmas.List.{drop-drop}
use Rattle.mdcc_log_file.proofs.Bytes.{more_filled}
use Rattle.mdcc_log_file.proofs.reading.read_part.Goals as goal

pub returns-clause-filled : goal.returns-clause-filled
returns-clause-filled g c told =
    let bytes = (g.D.Disks.disk c.args.disks.now c.args.place).bytes in
    more_filled c.args.done c.in_ok-count.count c.args.into.now c.read.new.into _ _ (omega arith) c.in_ok-count.ensures.bound (c.requires.filled told)
    (c.in_ok-count.ensures.answer told ∙ ap (λ (l : List ℕ). take c.in_ok-count.count l) (sym (drop-drop c.args.done c.args.offset bytes)))
