use Rattle.std.proofs.Common.{◌≡◌, ◌+◌, ◌∷◌, [], ℕ, length, subst, arith, rules}
use Rattle.mdcc_disks.specs.Disks.DiskCall.{Length}
use Rattle.mdcc_log_file.specs.Calls.{ReadsSome, read_calls}
use Rattle.mdcc_log_file.proofs.ReadCalls.{made_all, made_one, only_front, some_behind}
use Rattle.mdcc_log_file.proofs.reading.read_file.Goals as goal

pub returns-in_err-size-clause-calls : goal.returns-in_err-size-clause-calls
returns-in_err-size-clause-calls g c told =
    let size = length (g.D.Disks.disk c.args.disks.now c.args.place).bytes in
    only_front size (read_calls size 0) (Length ∷ []) _ _ (made_one _ _ _ _ c.length.ensures.call.calls)

pub returns-in_err-bytes-clause-calls : goal.returns-in_err-bytes-clause-calls
returns-in_err-bytes-clause-calls g c told =
    let size = length (g.D.Disks.disk c.args.disks.now c.args.place).bytes in
    only_front size (read_calls size 0) (Length ∷ []) _ _ (made_all _ _ _ c.in_ok-size.ensures.call.calls.ok)

pub returns-in_err-read_at-clause-calls : goal.returns-in_err-read_at-clause-calls
returns-in_err-read_at-clause-calls g c told =
    let size = length (g.D.Disks.disk c.args.disks.now c.args.place).bytes in
    let same : length c.deref_mut.result.now ≡ size = search rules in
    let all : 0 + size ≡ size = omega arith in
    some_behind size (read_calls size 0) (Length ∷ []) _ _ _ c.in_ok-size.ensures.call.calls.ok
    (subst (λ (n : ℕ). ReadsSome size (read_calls n 0) (g.D.Disks.disk c.length.new.self c.args.place).calls (g.D.Disks.disk c.read_at.new.disks c.args.place).calls) all
    (subst (λ (n : ℕ). ReadsSome n (read_calls (0 + n) 0) (g.D.Disks.disk c.length.new.self c.args.place).calls (g.D.Disks.disk c.read_at.new.disks c.args.place).calls) same c.read_at.ensures.calls))

pub returns-clause-calls : goal.returns-clause-calls
returns-clause-calls g c told =
    let size = length (g.D.Disks.disk c.args.disks.now c.args.place).bytes in
    let same : length c.deref_mut.result.now ≡ size = search rules in
    let all : 0 + size ≡ size = omega arith in
    some_behind size (read_calls size 0) (Length ∷ []) _ _ _ c.in_ok-size.ensures.call.calls.ok
    (subst (λ (n : ℕ). ReadsSome size (read_calls n 0) (g.D.Disks.disk c.length.new.self c.args.place).calls (g.D.Disks.disk c.read_at.new.disks c.args.place).calls) all
    (subst (λ (n : ℕ). ReadsSome n (read_calls (0 + n) 0) (g.D.Disks.disk c.length.new.self c.args.place).calls (g.D.Disks.disk c.read_at.new.disks c.args.place).calls) same c.read_at.ensures.calls))
