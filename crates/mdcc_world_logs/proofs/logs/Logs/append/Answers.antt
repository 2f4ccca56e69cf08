use Rattle.std.proofs.Common.{◌≡◌, ◌-◌, ◌≤◌, ap, arith, refl, set, ◌∙◌, ℕ}
use Rattle.mdcc_world_logs.proofs.Calls.{appended, may-have, rest-there, settled-there, tail-appended, told-there}
use Rattle.mdcc_world_logs.proofs.Made.{on-ok-three}
use Rattle.mdcc_world_logs.proofs.Refusals.{on-err, same-may-have}
use Rattle.mdcc_world_logs.proofs.Standing.{held-same, log-is}
use Rattle.mdcc_world_logs.proofs.logs.Logs.append.Goals as goal
use Rattle.mdcc_theorem_encoding.proofs.Lengths.{length-fact}
use Rattle.mdcc_def_messages.specs.Spelling.{encodings_of}

pub append-requires-clause-short : goal.append-requires-clause-short
append-requires-clause-short c = omega (length-fact c.args.fact.now, c.requires.short, arith)

pub append-requires-clause-settled : goal.append-requires-clause-settled
append-requires-clause-settled c told =
    let a = c.args.centre in
    let place : c.from-index.result ≡ a = c.from-index.ensures ∙ c.number.ensures.value in
    let some : 1 ≤ a = omega arith in
    (settled-there c.args.self.now c.reserve_append.new.disks a c.index_mut.result.now c.requires.stand some c.requires.within
    (log-is c.args.self.now c.from-index.result a c.index_mut.result.now place some c.requires.within c.index_mut.ensures.value)
    (held-same c.args.self.now.disks c.reserve_append.new.disks c.reserve_append.ensures)).0

pub append-requires-clause-spare : goal.append-requires-clause-spare
append-requires-clause-spare c told =
    let a = c.args.centre in
    let place : c.from-index.result ≡ a = c.from-index.ensures ∙ c.number.ensures.value in
    let some : 1 ≤ a = omega arith in
    (settled-there c.args.self.now c.reserve_append.new.disks a c.index_mut.result.now c.requires.stand some c.requires.within
    (log-is c.args.self.now c.from-index.result a c.index_mut.result.now place some c.requires.within c.index_mut.ensures.value)
    (held-same c.args.self.now.disks c.reserve_append.new.disks c.reserve_append.ensures)).1

pub returns-in_err-reserve_append-clause-refused : goal.returns-in_err-reserve_append-clause-refused
returns-in_err-reserve_append-clause-refused c centres up facts stand running =
    let some : 1 ≤ c.args.centre = omega arith in
    on-err _ (same-may-have c.args.self.now _ c.args.centre centres up facts stand some c.requires.within c.args.fact.now refl
    (held-same c.args.self.now.disks c.reserve_append.new.disks c.reserve_append.ensures))

pub returns-clause-appended : goal.returns-clause-appended
returns-clause-appended c centres up facts stand running =
    let a = c.args.centre in
    let d = c.reserve_append.new.disks in
    let log = c.index_mut.result.now in
    let place : c.from-index.result ≡ a = c.from-index.ensures ∙ c.number.ensures.value in
    let some : 1 ≤ a = omega arith in
    let is = log-is c.args.self.now c.from-index.result a log place some c.requires.within c.index_mut.ensures.value in
    let same = held-same c.args.self.now.disks d c.reserve_append.ensures in
    let told = told-there c.args.self.now c.args.self.now a centres up facts stand running some c.requires.within d log is same in
    on-ok-three _ _ _ _ c.append.result
    (c.append.ensures.acknowledged (encodings_of (facts a)) told.0 told.1 (rest-there c.args.self.now c.args.self.now a centres up facts stand running some c.requires.within d log is same))
    c.append.ensures.few c.append.ensures.grown
    (λ rest few grown. appended c.args.self.now _ a centres up facts stand running some c.requires.within d log is same c.append.new.log c.args.fact.now
    (ap (λ (n : ℕ). set c.args.self.now.open.items (n - 1) c.append.new.log) place) c.append.ensures.others
    c.append.ensures.keeps.0 c.append.ensures.keeps.1 few grown rest)

pub returns-clause-tail : goal.returns-clause-tail
returns-clause-tail c centres up facts stand running =
    let a = c.args.centre in
    let d = c.reserve_append.new.disks in
    let log = c.index_mut.result.now in
    let place : c.from-index.result ≡ a = c.from-index.ensures ∙ c.number.ensures.value in
    let some : 1 ≤ a = omega arith in
    let is = log-is c.args.self.now c.from-index.result a log place some c.requires.within c.index_mut.ensures.value in
    let same = held-same c.args.self.now.disks d c.reserve_append.ensures in
    on-ok-three _ _ _ _ c.append.result (returns-clause-appended c centres up facts stand running) c.append.ensures.few c.append.ensures.grown
    (λ stands few grown. tail-appended c.args.self.now _ a centres up facts stand running some c.requires.within d log is same c.append.new.log c.args.fact.now
    (ap (λ (n : ℕ). set c.args.self.now.open.items (n - 1) c.append.new.log) place) c.append.ensures.others
    c.append.ensures.keeps.1 few grown stands)

pub returns-clause-refused : goal.returns-clause-refused
returns-clause-refused c centres up facts stand running =
    let a = c.args.centre in
    let d = c.reserve_append.new.disks in
    let log = c.index_mut.result.now in
    let place : c.from-index.result ≡ a = c.from-index.ensures ∙ c.number.ensures.value in
    let some : 1 ≤ a = omega arith in
    let is = log-is c.args.self.now c.from-index.result a log place some c.requires.within c.index_mut.ensures.value in
    let same = held-same c.args.self.now.disks d c.reserve_append.ensures in
    let told = told-there c.args.self.now c.args.self.now a centres up facts stand running some c.requires.within d log is same in
    let rest = rest-there c.args.self.now c.args.self.now a centres up facts stand running some c.requires.within d log is same in
    on-err c.append.result
    (may-have c.args.self.now _ a centres up facts stand running some c.requires.within d log is same c.append.new.log c.args.fact.now
    (ap (λ (n : ℕ). set c.args.self.now.open.items (n - 1) c.append.new.log) place) c.append.ensures.others
    (λ current spare left left_other. c.append.ensures.any_moment_reads (encodings_of (facts a)) current spare told.0 told.1 rest left left_other))
