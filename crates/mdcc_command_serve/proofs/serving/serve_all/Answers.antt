use Rattle.std.proofs.Common.{Err, Ok, refl}
use Rattle.mdcc_command_serve.proofs.Known.{if_some_weaker}
use Rattle.mdcc_command_serve.proofs.serving.serve_all.Goals as goal

pub returns-in-Ok-clause-runs : goal.returns-in-Ok-clause-runs
returns-in-Ok-clause-runs g c =
    if_some_weaker (g.S.Source.left c.args.source.now) _ _ (λ input h. record { read = Ok c.in-Ok.config; gives = h; serves = c.serve_centres.ensures.serves }) c.in-Ok.ensures.config

pub returns-in-Err-clause-runs : goal.returns-in-Err-clause-runs
returns-in-Err-clause-runs g c =
    if_some_weaker (g.S.Source.left c.args.source.now) _ _ (λ input h. record { read = Err c.in-Err.failure; gives = h; serves = (refl, record { disks = refl; link = refl; output = refl }) }) c.in-Err.ensures.config

pub returns-in-Ok-clause-others : goal.returns-in-Ok-clause-others
returns-in-Ok-clause-others g c = c.serve_centres.ensures.others

pub returns-in-Err-clause-others : goal.returns-in-Err-clause-others
returns-in-Err-clause-others g c = record { others = λ p is. refl; crash = λ p is bytes left. left }
