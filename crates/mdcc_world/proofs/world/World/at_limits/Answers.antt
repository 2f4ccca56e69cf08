use Rattle.mdcc_def_simulation.specs.Limits.{passed_bytes_limit, passed_log_limit}
use Rattle.mdcc_world.proofs.Happened.{residual}
use Rattle.mdcc_world.proofs.Limits.{limit-first, limit-then}
use Rattle.mdcc_world.proofs.world.World.at_limits.Goals.{in-Some+in_ok-at_log_limit, in_default}
use Rattle.mdcc_world.proofs.world.World.at_limits.Goals as goal

pub returns-in_err-at_log_limit-clause-limit : goal.returns-in_err-at_log_limit-clause-limit
returns-in_err-at_log_limit-clause-limit c w measures =
    let a = c.args.centre in
    let fault = c.in_err-at_log_limit.field-0.0 in
    rw (residual c.from_residual.result fault c.from_residual.ensures.1, c.in-Some.is)
    (limit-first (passed_log_limit w a c.in-Some.fact) (passed_bytes_limit w c.args.batch.now) fault (c.in_err-at_log_limit.ensures.limit w measures))

pub returns-clause-limit : goal.returns-clause-limit
returns-clause-limit c w measures =
    let a = c.args.centre in
    let sends = c.args.batch.now in
    let bytes = c.at_bytes_limit.ensures.limit w a measures in
    elim c.match-fact.branch [
      | in-Some+in_ok-at_log_limit b ↦
          rw b.in-Some.is (limit-then (passed_log_limit w a b.in-Some.fact) (passed_bytes_limit w sends) c.at_bytes_limit.result (b.in_ok-at_log_limit.ensures.limit w measures) bytes)
      | in_default b ↦ rw b.in_default.is bytes
    ]
