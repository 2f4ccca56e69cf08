use Rattle.std.proofs.Common.{◌≡◌, [], ℕ, length, drop, sym, ◌∙◌, ap, arith, rules}
use Rattle.mdcc_log_file.specs.Area.{log_from}
use Rattle.mdcc_log.proofs.Stands.{copy_stands, copy_broken, tail_broken, gate_missing}
use Rattle.mdcc_log.proofs.opening.read_copy.Goals as goal

pub returns-clause-read : goal.returns-clause-read
returns-clause-read c =
    copy_stands c.args.generation c.count_in.result c.in_ok-records.records.items c.in_ok-payloads.payloads.items c.in_ok-records.start c.in_ok-payloads.tail c.in_ok-payloads.gate c.args.bytes.now
    c.requires.copy c.requires.generation.is c.requires.generation.some c.requires.generation.fits c.requires.generation.spelled c.requires.generation.long c.count_in.ensures.value c.count_in.ensures.fits c.count_in.ensures.spelled
    c.in_ok-records.ensures.read c.in_ok-payloads.ensures.read

pub returns-in_err-records-clause-not_a_log : goal.returns-in_err-records-clause-not_a_log
returns-in_err-records-clause-not_a_log c n is =
    copy_broken c.args.generation n c.args.bytes.now c.requires.copy c.requires.generation.is
    (sym (ap (λ (k : ℕ). log_from c.args.generation [] k 25 (drop 25 c.args.bytes.now)) c.count_in.ensures.value) ∙ (c.in_err-records.ensures.not_a_log n c.args.generation (search rules)))

pub returns-then-start-bytes-clause-not_a_log : goal.returns-then-start-bytes-clause-not_a_log
returns-then-start-bytes-clause-not_a_log c n is =
    let same : c.in_ok-records.start ≡ n = cc in
    gate_missing c.args.generation c.count_in.result n c.in_ok-records.records.items c.in_ok-records.start c.args.bytes.now c.requires.copy c.requires.generation.is c.requires.generation.long c.count_in.ensures.value c.in_ok-records.ensures.read (omega arith) same

pub returns-in_err-payloads-clause-not_a_log : goal.returns-in_err-payloads-clause-not_a_log
returns-in_err-payloads-clause-not_a_log c n is =
    tail_broken c.args.generation c.count_in.result n c.in_ok-records.records.items c.in_ok-records.start c.args.bytes.now c.requires.copy c.requires.generation.is c.requires.generation.long c.count_in.ensures.value c.in_ok-records.ensures.read (omega (arith, c.in_ok-records.ensures.read.within))
    (c.in_err-payloads.ensures.not_a_log n (length (drop c.in_ok-records.start c.args.bytes.now)) (search rules) (omega arith))
