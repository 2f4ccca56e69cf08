use Rattle.std.proofs.Common.{◌≡◌, [], List, ℕ, length, subst, arith, rules}
use Rattle.std.proofs.lemmas.List.{length-drop}
use Rattle.mdcc_log_file.specs.Frames.{AreFrames}
use Rattle.mdcc_log.proofs.Stands.{log_stands, log_broken}
use Rattle.mdcc_log.proofs.opening.read_log.Goals as goal

pub returns-clause-read : goal.returns-clause-read
returns-clause-read c =
    let none : c.new.result.items ≡ [] = search rules in
    log_stands c.in_ok-payloads.payloads.items c.in_ok-payloads.tail c.in_ok-payloads.gate c.args.bytes.now c.requires.long c.requires.first
    (subst (λ (l : List (List ℕ)). AreFrames 8 l c.in_ok-payloads.payloads.items c.in_ok-payloads.tail c.in_ok-payloads.gate c.args.bytes.now) none c.in_ok-payloads.ensures.read)

pub returns-in_err-payloads-clause-not_a_log : goal.returns-in_err-payloads-clause-not_a_log
returns-in_err-payloads-clause-not_a_log c n is =
    log_broken n c.args.bytes.now c.requires.long c.requires.first
    (c.in_err-payloads.ensures.not_a_log n (length c.args.bytes.now) (search rules) (omega (arith, length-drop 8 c.args.bytes.now)))
