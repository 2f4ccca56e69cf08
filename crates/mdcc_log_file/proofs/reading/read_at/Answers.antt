use Rattle.std.proofs.Common.{◌≡◌, ◌+◌, ◌-◌, ◌∷◌, [], List, ℕ, length, subst, take, drop, ap, ◌∙◌, arith, rules}
use Rattle.mdcc_disks.specs.Disks.{AddsCall}
use Rattle.mdcc_disks.specs.Disks.DiskCall.{Read}
use Rattle.mdcc_log_file.specs.Calls.{ReadsAll, with_calls, read_calls}
use Rattle.mdcc_log_file.proofs.Moments.{both, others_joined, weakened}
use Rattle.mdcc_log_file.proofs.ReadCalls.{all_are_some, reads_more, reads_broken}
use Rattle.mdcc_log_file.proofs.reading.read_at.Goals as goal

pub returns-in_err-done-clause-calls : goal.returns-in_err-done-clause-calls
returns-in_err-done-clause-calls g c =
    let size = length c.args.into.now in
    let same : length c.loop-turn.into ≡ size = search rules in
    reads_broken c.args.offset size c.loop-turn.done _ (g.D.Disks.disk c.loop-turn.disks c.args.place).calls _ c.read_part.result (omega arith) c.loop-turn.invariant.calls
    (subst (λ (n : ℕ). AddsCall (Read (c.args.offset + c.loop-turn.done) (n - c.loop-turn.done)) (g.D.Disks.disk c.loop-turn.disks c.args.place).calls (g.D.Disks.disk c.read_part.new.disks c.args.place).calls c.read_part.result) same c.read_part.ensures.call)

pub returns-after-loop-turn-clause-calls : goal.returns-after-loop-turn-clause-calls
returns-after-loop-turn-clause-calls g c =
    let size = length c.args.into.now in
    let same : length c.loop-turn.into ≡ size = search rules in
    let done : c.loop-turn.done ≡ size = omega arith in
    all_are_some size (read_calls (c.args.offset + size) c.args.offset) _ _ (subst (λ (n : ℕ). ReadsAll n (read_calls (c.args.offset + size) c.args.offset) (g.D.Disks.disk c.args.disks.now c.args.place).calls (g.D.Disks.disk c.loop-turn.disks c.args.place).calls) done c.loop-turn.invariant.calls)

pub returns-then-done-into-clause-calls : goal.returns-then-done-into-clause-calls
returns-then-done-into-clause-calls g c =
    let size = length c.args.into.now in
    let same : length c.loop-turn.into ≡ size = search rules in
    let done : c.loop-turn.done ≡ size = omega arith in
    all_are_some size (read_calls (c.args.offset + size) c.args.offset) _ _ (subst (λ (n : ℕ). ReadsAll n (read_calls (c.args.offset + size) c.args.offset) (g.D.Disks.disk c.args.disks.now c.args.place).calls (g.D.Disks.disk c.loop-turn.disks c.args.place).calls) done c.loop-turn.invariant.calls)

pub loop-turn-preserved : goal.loop-turn-preserved
loop-turn-preserved g c =
    let inv = c.loop-turn.invariant in
    let more = c.in_ok-done.ensures in
    let place = c.args.place in
    let size = length c.args.into.now in
    let same : length c.loop-turn.into ≡ size = search rules in
    record {
      filled = λ told. more.filled (inv.others.told ∙ told) ∙ ap (λ (l : List ℕ). take (c.loop-turn.done + c.in_ok-done.field-0) (drop c.args.offset l)) inv.bytes;
      within = more.bound;
      each = omega (arith, inv.each, more.some);
      bytes = more.bytes ∙ inv.bytes;
      crash = λ x now. inv.crash x (more.crash x now);
      any_moment = both inv.any_moment (weakened (g.D.Disks.may_leave c.args.disks.now place) more.any_moment inv.crash);
      others = others_joined g.D.Disks.disk g.D.Disks.may_leave g.D.Disks.moment g.D.Disks.left_since c.args.disks.now c.loop-turn.disks c.read_part.new.disks place inv.others more.others;
      calls = reads_more c.args.offset size c.loop-turn.done c.in_ok-done.field-0 _ _ _ more.some inv.calls
          (subst (λ (n : ℕ). (g.D.Disks.disk c.read_part.new.disks place).calls ≡ with_calls (Read (c.args.offset + c.loop-turn.done) (n - c.loop-turn.done) ∷ []) (g.D.Disks.disk c.loop-turn.disks place).calls) same more.call.ok);
      later = omega (arith, inv.later, more.cause.later);
    }
