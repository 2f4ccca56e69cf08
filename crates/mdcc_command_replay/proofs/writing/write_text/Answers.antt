use Rattle.std.proofs.lemmas.Result.{err_from_is_err_and}
use Rattle.mdcc_command_replay.proofs.Fronts.{front_at}
use Rattle.mdcc_command_replay.proofs.writing.write_text.Goals as goal

pub returns-in_err-write_all-clause-front : goal.returns-in_err-write_all-clause-front
returns-in_err-write_all-clause-front g c =
    let p = err_from_is_err_and c.from_residual.result c.from_residual.ensures.1 in
    rw p.1 (front_at _ _ c.args.text.now c.in_err-write_all.ensures.front.0 c.in_err-write_all.ensures.front.2)
