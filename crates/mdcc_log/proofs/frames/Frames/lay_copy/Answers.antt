use Rattle.std.proofs.Common.{◌≡◌, ◌≤◌, ◌+◌, ◌-◌, ℕ, OnOk, IsTrue, length, sym, ◌∙◌, ap, subst}
use Rattle.mdcc_disks.specs.Disks.{LeavesOnly, Only, Within}
use Rattle.mdcc_log_file.specs.Calls.{MadeSome, with_calls}
use Rattle.mdcc_log_file.specs.declared.area.Spare.{Spare}
use Rattle.mdcc_log_file.specs.Area.{payloads_of, spare_of}
use Rattle.mdcc_log_file.specs.Both.{IsOnlyRead}
use Rattle.mdcc_log.specs.Checkpoint.{MayBegin, head_size, copy_of}
use Rattle.mdcc_log_file.specs.Copying.{IsShut}
use Rattle.mdcc_log.specs.Frames.{OpenAreas, IsInUse, laid_calls, place_of, other_of}
use Rattle.mdcc_log_file.proofs.Joined.{nothing_read}
use Rattle.mdcc_log.proofs.Uses.{apart_places, stands_as}
use Rattle.mdcc_log.proofs.frames.Frames.lay_copy.Goals as goal

pub write_copy-requires-clause-apart : goal.write_copy-requires-clause-apart
write_copy-requires-clause-apart g c =
    apart_places c.self.inside.centre c.self.inside.area c.place_of-place.result c.place_of-other.result c.self.invariant.area c.place_of-place.ensures (c.place_of-other.ensures ∙ ap (λ (n : ℕ). place_of c.self.inside.centre n) c.other_of-area.ensures.value)

pub write_copy-requires-clause-stands : goal.write_copy-requires-clause-stands
write_copy-requires-clause-stands g c told =
    let at : c.place_of-place.result ≡ place_of c.args.self.now.centre c.args.self.now.area = c.place_of-place.ensures ∙ ap (λ (v : OpenAreas). place_of v.centre v.area) c.self.view_is in
    let settled = c.requires.settled (subst (λ (n : ℕ). IsTrue (g.D.Disks.disk c.args.disks.now n).told) at told) in
    let uses_there = subst (λ (n : ℕ). IsInUse c.args.self.now settled.0 (g.D.Disks.disk c.args.disks.now n).bytes (g.D.Disks.may_leave c.args.disks.now n)) (sym at) settled.1 in
    (settled.0, (stands_as _ uses_there (c.head_size-head.ensures ∙ ap (λ (v : OpenAreas). head_size v.generation) c.self.view_is) (ap (λ (v : OpenAreas). v.start) c.self.view_is) (ap (λ (v : OpenAreas). v.size - 1) c.self.view_is) (ap (λ (v : OpenAreas). v.count) c.self.view_is) (ap (λ (v : OpenAreas). v.tail) c.self.view_is) (ap (λ (v : OpenAreas). v.body) c.self.view_is)))

pub write_copy-requires-clause-spare : goal.write_copy-requires-clause-spare
write_copy-requires-clause-spare g c told =
    let at_other : c.place_of-other.result ≡ place_of c.args.self.now.centre (other_of c.args.self.now.area) = c.place_of-other.ensures ∙ ap (λ (n : ℕ). place_of c.self.inside.centre n) c.other_of-area.ensures.value ∙ ap (λ (v : OpenAreas). place_of v.centre (other_of v.area)) c.self.view_is in
    let spare = c.requires.spare (subst (λ (n : ℕ). IsTrue (g.D.Disks.disk c.args.disks.now n).told) at_other told) in
    ap (λ (v : OpenAreas). v.spare) c.self.view_is ∙ subst (λ (n : ℕ). c.args.self.now.spare ≡ spare_of (g.D.Disks.disk c.args.disks.now n).bytes) (sym at_other) spare.spare

pub write_copy-requires-clause-durable : goal.write_copy-requires-clause-durable
write_copy-requires-clause-durable g c told =
    let at_other : c.place_of-other.result ≡ place_of c.args.self.now.centre (other_of c.args.self.now.area) = c.place_of-other.ensures ∙ ap (λ (n : ℕ). place_of c.self.inside.centre n) c.other_of-area.ensures.value ∙ ap (λ (v : OpenAreas). place_of v.centre (other_of v.area)) c.self.view_is in
    let spare = c.requires.spare (subst (λ (n : ℕ). IsTrue (g.D.Disks.disk c.args.disks.now n).told) at_other told) in
    subst (λ (n : ℕ). Only (g.D.Disks.disk c.args.disks.now n).bytes (g.D.Disks.may_leave c.args.disks.now n)) (sym at_other) spare.durable

pub returns-clause-written : goal.returns-clause-written
returns-clause-written g c log told there uses =
    let at : c.place_of-place.result ≡ place_of c.args.self.now.centre c.args.self.now.area = c.place_of-place.ensures ∙ ap (λ (v : OpenAreas). place_of v.centre v.area) c.self.view_is in
    let at_other : c.place_of-other.result ≡ place_of c.args.self.now.centre (other_of c.args.self.now.area) = c.place_of-other.ensures ∙ ap (λ (n : ℕ). place_of c.self.inside.centre n) c.other_of-area.ensures.value ∙ ap (λ (v : OpenAreas). place_of v.centre (other_of v.area)) c.self.view_is in
    let generation : c.self.inside.generation ≡ c.args.self.now.generation = ap (λ (v : OpenAreas). v.generation) c.self.view_is in
    let told_there = subst (λ (n : ℕ). IsTrue (g.D.Disks.disk c.args.disks.now n).told) (sym at) told in
    let uses_there = subst (λ (n : ℕ). IsInUse c.args.self.now log (g.D.Disks.disk c.args.disks.now n).bytes (g.D.Disks.may_leave c.args.disks.now n)) (sym at) uses in
    let there_too = subst (λ (n : ℕ). IsTrue (g.D.Disks.disk c.args.disks.now n).told) (sym at_other) there in
    subst (λ (n : ℕ). OnOk c.write_copy.result ((g.D.Disks.disk c.write_copy.new.disks (place_of c.args.self.now.centre (other_of c.args.self.now.area))).bytes ≡ copy_of 0 (n + 1) (payloads_of log))) generation
    (subst (λ (n : ℕ). OnOk c.write_copy.result ((g.D.Disks.disk c.write_copy.new.disks n).bytes ≡ copy_of 0 (c.self.inside.generation + 1) (payloads_of log))) at_other
    (c.write_copy.ensures.written log told_there there_too (stands_as _ uses_there (c.head_size-head.ensures ∙ ap (λ (v : OpenAreas). head_size v.generation) c.self.view_is) (ap (λ (v : OpenAreas). v.start) c.self.view_is) (ap (λ (v : OpenAreas). v.size - 1) c.self.view_is) (ap (λ (v : OpenAreas). v.count) c.self.view_is) (ap (λ (v : OpenAreas). v.tail) c.self.view_is) (ap (λ (v : OpenAreas). v.body) c.self.view_is))))

pub returns-clause-size : goal.returns-clause-size
returns-clause-size g c log told uses =
    let at : c.place_of-place.result ≡ place_of c.args.self.now.centre c.args.self.now.area = c.place_of-place.ensures ∙ ap (λ (v : OpenAreas). place_of v.centre v.area) c.self.view_is in
    let told_there = subst (λ (n : ℕ). IsTrue (g.D.Disks.disk c.args.disks.now n).told) (sym at) told in
    let uses_there = subst (λ (n : ℕ). IsInUse c.args.self.now log (g.D.Disks.disk c.args.disks.now n).bytes (g.D.Disks.may_leave c.args.disks.now n)) (sym at) uses in
    c.write_copy.ensures.size log told_there (stands_as _ uses_there (c.head_size-head.ensures ∙ ap (λ (v : OpenAreas). head_size v.generation) c.self.view_is) (ap (λ (v : OpenAreas). v.start) c.self.view_is) (ap (λ (v : OpenAreas). v.size - 1) c.self.view_is) (ap (λ (v : OpenAreas). v.count) c.self.view_is) (ap (λ (v : OpenAreas). v.tail) c.self.view_is) (ap (λ (v : OpenAreas). v.body) c.self.view_is))

pub returns-clause-long : goal.returns-clause-long
returns-clause-long g c there =
    let at_other : c.place_of-other.result ≡ place_of c.args.self.now.centre (other_of c.args.self.now.area) = c.place_of-other.ensures ∙ ap (λ (n : ℕ). place_of c.self.inside.centre n) c.other_of-area.ensures.value ∙ ap (λ (v : OpenAreas). place_of v.centre (other_of v.area)) c.self.view_is in
    subst (λ (n : ℕ). OnOk c.write_copy.result (9 ≤ length (g.D.Disks.disk c.write_copy.new.disks n).bytes)) at_other
    (c.write_copy.ensures.long (subst (λ (n : ℕ). IsTrue (g.D.Disks.disk c.args.disks.now n).told) (sym at_other) there))

pub returns-clause-shut : goal.returns-clause-shut
returns-clause-shut g c there =
    let at_other : c.place_of-other.result ≡ place_of c.args.self.now.centre (other_of c.args.self.now.area) = c.place_of-other.ensures ∙ ap (λ (n : ℕ). place_of c.self.inside.centre n) c.other_of-area.ensures.value ∙ ap (λ (v : OpenAreas). place_of v.centre (other_of v.area)) c.self.view_is in
    subst (λ (n : ℕ). OnOk c.write_copy.result (Within IsShut (g.D.Disks.may_leave c.write_copy.new.disks n))) at_other
    (c.write_copy.ensures.shut (subst (λ (n : ℕ). IsTrue (g.D.Disks.disk c.args.disks.now n).told) (sym at_other) there))

pub returns-clause-any_moment : goal.returns-clause-any_moment
returns-clause-any_moment g c there =
    let at_other : c.place_of-other.result ≡ place_of c.args.self.now.centre (other_of c.args.self.now.area) = c.place_of-other.ensures ∙ ap (λ (n : ℕ). place_of c.self.inside.centre n) c.other_of-area.ensures.value ∙ ap (λ (v : OpenAreas). place_of v.centre (other_of v.area)) c.self.view_is in
    subst (λ (n : ℕ). LeavesOnly g.D.Disks.moment g.D.Disks.left_since c.args.disks.now c.write_copy.new.disks n (MayBegin (g.D.Disks.disk c.args.disks.now n).bytes)) at_other
    (c.write_copy.ensures.any_moment (subst (λ (n : ℕ). IsTrue (g.D.Disks.disk c.args.disks.now n).told) (sym at_other) there))

pub returns-clause-reads : goal.returns-clause-reads
returns-clause-reads g c =
    let at : c.place_of-place.result ≡ place_of c.args.self.now.centre c.args.self.now.area = c.place_of-place.ensures ∙ ap (λ (v : OpenAreas). place_of v.centre v.area) c.self.view_is in
    subst (λ (n : ℕ). IsOnlyRead g.D.Disks.disk g.D.Disks.may_leave g.D.Disks.moment g.D.Disks.left_since c.args.disks.now c.write_copy.new.disks n) at c.write_copy.ensures.only_read

pub returns-then-self-clause-reads : goal.returns-then-self-clause-reads
returns-then-self-clause-reads g c = nothing_read g.D.Disks.disk g.D.Disks.may_leave g.D.Disks.moment g.D.Disks.left_since g.met.D.Disks.only_now c.args.disks.now (place_of c.args.self.now.centre c.args.self.now.area)

pub returns-clause-calls : goal.returns-clause-calls
returns-clause-calls g c log told uses =
    let at : c.place_of-place.result ≡ place_of c.args.self.now.centre c.args.self.now.area = c.place_of-place.ensures ∙ ap (λ (v : OpenAreas). place_of v.centre v.area) c.self.view_is in
    let at_other : c.place_of-other.result ≡ place_of c.args.self.now.centre (other_of c.args.self.now.area) = c.place_of-other.ensures ∙ ap (λ (n : ℕ). place_of c.self.inside.centre n) c.other_of-area.ensures.value ∙ ap (λ (v : OpenAreas). place_of v.centre (other_of v.area)) c.self.view_is in
    let generation : c.self.inside.generation ≡ c.args.self.now.generation = ap (λ (v : OpenAreas). v.generation) c.self.view_is in
    let told_there = subst (λ (n : ℕ). IsTrue (g.D.Disks.disk c.args.disks.now n).told) (sym at) told in
    let uses_there = subst (λ (n : ℕ). IsInUse c.args.self.now log (g.D.Disks.disk c.args.disks.now n).bytes (g.D.Disks.may_leave c.args.disks.now n)) (sym at) uses in
    let here = (place_of c.args.self.now.centre (other_of c.args.self.now.area)) in
    let made = c.write_copy.ensures.calls log told_there (stands_as _ uses_there (c.head_size-head.ensures ∙ ap (λ (v : OpenAreas). head_size v.generation) c.self.view_is) (ap (λ (v : OpenAreas). v.start) c.self.view_is) (ap (λ (v : OpenAreas). v.size - 1) c.self.view_is) (ap (λ (v : OpenAreas). v.count) c.self.view_is) (ap (λ (v : OpenAreas). v.tail) c.self.view_is) (ap (λ (v : OpenAreas). v.body) c.self.view_is)) in
    subst (λ (x : Spare). MadeSome (laid_calls x (c.args.self.now.generation + 1) (payloads_of log)) (g.D.Disks.disk c.args.disks.now here).calls (g.D.Disks.disk c.write_copy.new.disks here).calls) (ap (λ (v : OpenAreas). v.spare) c.self.view_is)
    (subst (λ (n : ℕ). MadeSome (laid_calls c.self.inside.spare (n + 1) (payloads_of log)) (g.D.Disks.disk c.args.disks.now here).calls (g.D.Disks.disk c.write_copy.new.disks here).calls) generation
    (subst (λ (n : ℕ). MadeSome (laid_calls c.self.inside.spare (c.self.inside.generation + 1) (payloads_of log)) (g.D.Disks.disk c.args.disks.now n).calls (g.D.Disks.disk c.write_copy.new.disks n).calls) at_other made))

pub returns-clause-all_calls : goal.returns-clause-all_calls
returns-clause-all_calls g c log told uses =
    let at : c.place_of-place.result ≡ place_of c.args.self.now.centre c.args.self.now.area = c.place_of-place.ensures ∙ ap (λ (v : OpenAreas). place_of v.centre v.area) c.self.view_is in
    let at_other : c.place_of-other.result ≡ place_of c.args.self.now.centre (other_of c.args.self.now.area) = c.place_of-other.ensures ∙ ap (λ (n : ℕ). place_of c.self.inside.centre n) c.other_of-area.ensures.value ∙ ap (λ (v : OpenAreas). place_of v.centre (other_of v.area)) c.self.view_is in
    let generation : c.self.inside.generation ≡ c.args.self.now.generation = ap (λ (v : OpenAreas). v.generation) c.self.view_is in
    let told_there = subst (λ (n : ℕ). IsTrue (g.D.Disks.disk c.args.disks.now n).told) (sym at) told in
    let uses_there = subst (λ (n : ℕ). IsInUse c.args.self.now log (g.D.Disks.disk c.args.disks.now n).bytes (g.D.Disks.may_leave c.args.disks.now n)) (sym at) uses in
    let here = (place_of c.args.self.now.centre (other_of c.args.self.now.area)) in
    let made = c.write_copy.ensures.all_calls log told_there (stands_as _ uses_there (c.head_size-head.ensures ∙ ap (λ (v : OpenAreas). head_size v.generation) c.self.view_is) (ap (λ (v : OpenAreas). v.start) c.self.view_is) (ap (λ (v : OpenAreas). v.size - 1) c.self.view_is) (ap (λ (v : OpenAreas). v.count) c.self.view_is) (ap (λ (v : OpenAreas). v.tail) c.self.view_is) (ap (λ (v : OpenAreas). v.body) c.self.view_is)) in
    subst (λ (x : Spare). OnOk c.write_copy.result ((g.D.Disks.disk c.write_copy.new.disks here).calls ≡ with_calls (laid_calls x (c.args.self.now.generation + 1) (payloads_of log)) (g.D.Disks.disk c.args.disks.now here).calls)) (ap (λ (v : OpenAreas). v.spare) c.self.view_is)
    (subst (λ (n : ℕ). OnOk c.write_copy.result ((g.D.Disks.disk c.write_copy.new.disks here).calls ≡ with_calls (laid_calls c.self.inside.spare (n + 1) (payloads_of log)) (g.D.Disks.disk c.args.disks.now here).calls)) generation
    (subst (λ (n : ℕ). OnOk c.write_copy.result ((g.D.Disks.disk c.write_copy.new.disks n).calls ≡ with_calls (laid_calls c.self.inside.spare (c.self.inside.generation + 1) (payloads_of log)) (g.D.Disks.disk c.args.disks.now n).calls)) at_other made))
