use Rattle.std.proofs.Common.{◌≡◌, ◌+◌, ◌-◌, ◌≤◌, List, ap, arith, length, refl, set, subst, ◌∙◌, ℕ}
use Rattle.std.proofs.lemmas.Bool.{leb-true}
use Rattle.mdcc_log.specs.Crash.{ReadsAsEither, payloads_by}
use Rattle.mdcc_disks.specs.Memory.{IsBut, KeepsPlaces, at_place, crashed}
use Rattle.mdcc_world_logs.proofs.Calls.{every-is, may-have, rest-there, settled-there, tail-there, told-there}
use Rattle.mdcc_world_logs.proofs.Copied.{copy-stopped, copy-tail, standing-log}
use Rattle.mdcc_world_logs.proofs.Refusals.{on-err, same-may-have}
use Rattle.mdcc_world_logs.proofs.Standing.{held-same, log-is, same-disk}
use Rattle.mdcc_world_logs.proofs.logs.Logs.stop_copy.Goals as goal
use Rattle.mdcc_world_logs.specs.Tails.{tail_at}
use Rattle.mdcc_def_messages.specs.Spelling.{encodings_of}
use Rattle.mdcc_def_simulation.specs.Checkpoints.{checkpoint_every}
use Rattle.mdcc_theorem_encoding.proofs.Lengths.{length-fact}

pub returns-in_err-payload-clause-refused : goal.returns-in_err-payload-clause-refused
returns-in_err-payload-clause-refused c centres up facts stand running =
    let some : 1 ≤ c.args.centre = omega arith in
    on-err _ (same-may-have c.args.self.now c.args.self.now c.args.centre centres up facts stand some c.requires.within c.args.fact.now refl (λ p. same-disk c.args.self.now.disks p))

pub returns-in_err-reserve_append-clause-refused : goal.returns-in_err-reserve_append-clause-refused
returns-in_err-reserve_append-clause-refused c centres up facts stand running =
    let some : 1 ≤ c.args.centre = omega arith in
    on-err _ (same-may-have c.args.self.now _ c.args.centre centres up facts stand some c.requires.within c.args.fact.now refl
    (held-same c.args.self.now.disks c.reserve_append.new.disks c.reserve_append.ensures))

pub append_due_until-requires-clause-short : goal.append_due_until-requires-clause-short
append_due_until-requires-clause-short c =
    let same = c.deref.ensures.value ∙ c.in_ok-payload.ensures in
    omega (ap length same, length-fact c.args.fact.now, c.requires.short, arith)

pub append_due_until-requires-clause-settled : goal.append_due_until-requires-clause-settled
append_due_until-requires-clause-settled c told =
    let a = c.args.centre in
    let place : c.from-index.result ≡ a = c.from-index.ensures ∙ c.number-place.ensures.value in
    let some : 1 ≤ a = omega arith in
    (settled-there c.args.self.now c.reserve_append.new.disks a c.index_mut.result.now c.requires.stand some c.requires.within
    (log-is c.args.self.now c.from-index.result a c.index_mut.result.now place some c.requires.within c.index_mut.ensures.value)
    (held-same c.args.self.now.disks c.reserve_append.new.disks c.reserve_append.ensures)).0

pub append_due_until-requires-clause-spare : goal.append_due_until-requires-clause-spare
append_due_until-requires-clause-spare c told =
    let a = c.args.centre in
    let place : c.from-index.result ≡ a = c.from-index.ensures ∙ c.number-place.ensures.value in
    let some : 1 ≤ a = omega arith in
    (settled-there c.args.self.now c.reserve_append.new.disks a c.index_mut.result.now c.requires.stand some c.requires.within
    (log-is c.args.self.now c.from-index.result a c.index_mut.result.now place some c.requires.within c.index_mut.ensures.value)
    (held-same c.args.self.now.disks c.reserve_append.new.disks c.reserve_append.ensures)).1

pub append_due_until-requires-clause-due : goal.append_due_until-requires-clause-due
append_due_until-requires-clause-due c =
    let a = c.args.centre in
    let d = c.reserve_append.new.disks in
    let log = c.index_mut.result.now in
    let are = c.requires.stand in
    let place : c.from-index.result ≡ a = c.from-index.ensures ∙ c.number-place.ensures.value in
    let some : 1 ≤ a = omega arith in
    let is = log-is c.args.self.now c.from-index.result a log place some c.requires.within c.index_mut.ensures.value in
    let same = held-same c.args.self.now.disks d c.reserve_append.ensures in
    let rest = rest-there c.args.self.now c.args.self.now a are.0 are.1 are.2 are.3 are.4 some c.requires.within d log is same in
    let tail = tail-there c.args.self.now c.args.self.now a are.0 are.1 are.2 are.3 are.4 some c.requires.within d log is same in
    let every = every-is c.args.self.now c.args.self.now a are.0 are.1 are.2 are.3 are.4 some c.requires.within d log is same in
    let due : checkpoint_every ≤ tail_at c.args.self.now a + 1 = leb-true checkpoint_every (tail_at c.args.self.now a + 1) c.requires.due in
    omega (due, tail, rest.in_use.tail, every, arith)

pub returns-in-Ok-clause-stopped : goal.returns-in-Ok-clause-stopped
returns-in-Ok-clause-stopped c centres up facts stand running =
    let a = c.args.centre in
    let old = c.args.self.now in
    let d = c.reserve_append.new.disks in
    let mid = c.append_due_until.new.disks in
    let log = c.index_mut.result.now in
    let number : c.number-place.result ≡ a = c.number-place.ensures.value in
    let place : c.from-index.result ≡ a = c.from-index.ensures ∙ number in
    let some : 1 ≤ a = omega arith in
    let is = log-is old c.from-index.result a log place some c.requires.within c.index_mut.ensures.value in
    let same = held-same old.disks d c.reserve_append.ensures in
    let bytes = c.deref.ensures.value ∙ c.in_ok-payload.ensures in
    let fits : length c.deref.result.now ≤ 2097152 = omega (ap length bytes, length-fact c.args.fact.now, c.requires.short, arith) in
    let told = told-there old old a centres up facts stand running some c.requires.within d log is same in
    let rest = standing-log old a centres up facts stand running some c.requires.within log is d same c.args.fact.now c.deref.result.now bytes fits in
    copy-stopped old a centres up facts stand running some c.requires.within log is d same c.args.fact.now c.deref.result.now bytes fits c.args.call c.args.image c.requires.first c.requires.due
    mid c.crash.new.self _ c.append_due_until.new.frames
    (ap (λ (n : ℕ). set old.open.items (n - 1) c.append_due_until.new.frames) place) c.append_due_until.ensures.others
    (c.in-Ok.ensures.appended rest.log told.0 rest.in_use) (c.in-Ok.ensures.stopped rest.log told.0 told.1 rest.in_use)
    c.stopped_is_read.ensures c.stopped_is_roomy.ensures c.crash_leaves_the_image.ensures
    (subst (λ (n : ℕ). KeepsPlaces n mid c.crash.new.self) number c.crash.ensures.others)
    (subst (λ (n : ℕ). IsBut (crashed c.args.image (at_place mid n)) (at_place c.crash.new.self n)) number c.crash.ensures.place)
    (subst (λ (n : ℕ). KeepsPlaces (n + 16) c.crash.new.self c.crash-in-Ok.new.self) number c.crash-in-Ok.ensures.others)
    (subst (λ (n : ℕ). IsBut (crashed c.args.image (at_place c.crash.new.self (n + 16))) (at_place c.crash-in-Ok.new.self (n + 16))) number c.crash-in-Ok.ensures.place)

pub returns-in-Ok-clause-tail : goal.returns-in-Ok-clause-tail
returns-in-Ok-clause-tail c centres up facts stand running =
    let a = c.args.centre in
    let old = c.args.self.now in
    let d = c.reserve_append.new.disks in
    let mid = c.append_due_until.new.disks in
    let log = c.index_mut.result.now in
    let number : c.number-place.result ≡ a = c.number-place.ensures.value in
    let place : c.from-index.result ≡ a = c.from-index.ensures ∙ number in
    let some : 1 ≤ a = omega arith in
    let is = log-is old c.from-index.result a log place some c.requires.within c.index_mut.ensures.value in
    let same = held-same old.disks d c.reserve_append.ensures in
    let bytes = c.deref.ensures.value ∙ c.in_ok-payload.ensures in
    let fits : length c.deref.result.now ≤ 2097152 = omega (ap length bytes, length-fact c.args.fact.now, c.requires.short, arith) in
    let told = told-there old old a centres up facts stand running some c.requires.within d log is same in
    let rest = standing-log old a centres up facts stand running some c.requires.within log is d same c.args.fact.now c.deref.result.now bytes fits in
    copy-tail old a centres up facts stand running some c.requires.within log is d same c.args.fact.now c.deref.result.now bytes fits c.args.call c.args.image c.requires.first c.requires.due
    mid c.crash.new.self _ c.append_due_until.new.frames
    (ap (λ (n : ℕ). set old.open.items (n - 1) c.append_due_until.new.frames) place) c.append_due_until.ensures.others
    (c.in-Ok.ensures.appended rest.log told.0 rest.in_use) (c.in-Ok.ensures.stopped rest.log told.0 told.1 rest.in_use)
    c.stopped_is_read.ensures c.stopped_is_roomy.ensures c.crash_leaves_the_image.ensures
    (subst (λ (n : ℕ). KeepsPlaces n mid c.crash.new.self) number c.crash.ensures.others)
    (subst (λ (n : ℕ). IsBut (crashed c.args.image (at_place mid n)) (at_place c.crash.new.self n)) number c.crash.ensures.place)
    (subst (λ (n : ℕ). KeepsPlaces (n + 16) c.crash.new.self c.crash-in-Ok.new.self) number c.crash-in-Ok.ensures.others)
    (subst (λ (n : ℕ). IsBut (crashed c.args.image (at_place c.crash.new.self (n + 16))) (at_place c.crash-in-Ok.new.self (n + 16))) number c.crash-in-Ok.ensures.place)

pub returns-clause-refused : goal.returns-clause-refused
returns-clause-refused c centres up facts stand running =
    let a = c.args.centre in
    let old = c.args.self.now in
    let d = c.reserve_append.new.disks in
    let log = c.index_mut.result.now in
    let place : c.from-index.result ≡ a = c.from-index.ensures ∙ c.number-place.ensures.value in
    let some : 1 ≤ a = omega arith in
    let is = log-is old c.from-index.result a log place some c.requires.within c.index_mut.ensures.value in
    let same = held-same old.disks d c.reserve_append.ensures in
    let bytes = c.deref.ensures.value ∙ c.in_ok-payload.ensures in
    let told = told-there old old a centres up facts stand running some c.requires.within d log is same in
    let rest = rest-there old old a centres up facts stand running some c.requires.within d log is same in
    may-have old _ a centres up facts stand running some c.requires.within d log is same c.append_due_until.new.frames c.args.fact.now
    (ap (λ (n : ℕ). set old.open.items (n - 1) c.append_due_until.new.frames) place) c.append_due_until.ensures.others
    (λ current spare left left_other.
    subst (λ (p : List ℕ). ReadsAsEither (encodings_of (facts a)) p (payloads_by log.area current spare)) bytes
    (c.append_due_until.ensures.any_moment_reads (encodings_of (facts a)) current spare told.0 told.1 rest left left_other))
