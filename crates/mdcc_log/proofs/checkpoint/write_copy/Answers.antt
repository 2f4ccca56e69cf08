use Rattle.std.proofs.Common.{inl, inr, ◌∷◌, ◌++◌, [], List, ℕ, length, IsTrue, sym, ◌∙◌, ap, subst, arith}
use Rattle.mdcc_disks.specs.Disks.{Within}
use Rattle.mdcc_log_file.proofs.Moments.{weakened, both}
use Rattle.mdcc_log_file.specs.Area.{payloads_of, area_gate, copy_body}
use Rattle.mdcc_log_file.specs.Copying.{IsShut, shut_calls, mark_calls}
use Rattle.mdcc_log.specs.Checkpoint.{StandsAs, MayBegin}
use Rattle.mdcc_log.proofs.Around.{shut_as, calls_are}
use Rattle.mdcc_log_file.proofs.Joined.{read_joined, read_beside, but_joined, but_two}
use Rattle.std.proofs.Common.{append_assoc}
use Rattle.mdcc_disks.specs.Disks.{DiskCall}
use Rattle.mdcc_disks.specs.Disks.DiskCall.{Cut, Sync}
use Rattle.mdcc_log_file.specs.Calls.{MadeSome, with_calls}
use Rattle.mdcc_log_file.proofs.Calls.{made_both, made_first}
use Rattle.mdcc_log.specs.Frames.{body_calls}
use Rattle.mdcc_log_file.proofs.ReadCalls.{all_both}
use Rattle.mdcc_log.proofs.checkpoint.write_copy.Goals as goal

pub clear_area-requires : goal.clear_area-requires
clear_area-requires g c = record {
  shut = λ told.
      let was : IsTrue (g.D.Disks.disk c.args.disks.now c.args.place).told = sym c.shut_area.ensures.others.told ∙ told in
      shut_as c.args.spare _ _ (c.requires.spare was) (c.in_ok-shut_area.ensures.shut was);
}

pub write_body-requires-clause-stands : goal.write_body-requires-clause-stands
write_body-requires-clause-stands g c told =
    let same = c.clear_area.ensures.others.others c.args.whole.place c.requires.apart ∙ c.shut_area.ensures.others.others c.args.whole.place c.requires.apart in
    let stands = c.requires.stands (sym (ap (λ d. d.told) same) ∙ told) in
    (stands.0, subst (λ d. StandsAs c.args.whole stands.0 d.bytes) (sym same) stands.1)

pub write_body-requires-clause-nine : goal.write_body-requires-clause-nine
write_body-requires-clause-nine g c told = ap (λ (l : List ℕ). length l) (c.in_ok-clear_area.ensures.cleared (sym c.clear_area.ensures.others.told ∙ told))

pub returns-clause-written : goal.returns-clause-written
returns-clause-written g c log told there stands =
    let same = c.clear_area.ensures.others.others c.args.whole.place c.requires.apart ∙ c.shut_area.ensures.others.others c.args.whole.place c.requires.apart in
    let stands_mid = subst (λ d. StandsAs c.args.whole log d.bytes) (sym same) stands in
    let told_mid : IsTrue (g.D.Disks.disk c.clear_area.new.disks c.args.whole.place).told = ap (λ d. d.told) same ∙ told in
    let there_one : IsTrue (g.D.Disks.disk c.shut_area.new.disks c.args.place).told = c.shut_area.ensures.others.told ∙ there in
    let there_two : IsTrue (g.D.Disks.disk c.clear_area.new.disks c.args.place).told = c.clear_area.ensures.others.told ∙ there_one in
    c.in_ok-end.ensures.written log told_mid there_two stands_mid ∙ ap (λ (l : List ℕ). l ++ (copy_body c.args.generation (payloads_of log) ++ 0 ∷ [])) (c.in_ok-clear_area.ensures.cleared there_one)

pub returns-clause-long : goal.returns-clause-long
returns-clause-long g c there =
    let there_two : IsTrue (g.D.Disks.disk c.clear_area.new.disks c.args.place).told = c.clear_area.ensures.others.told ∙ (c.shut_area.ensures.others.told ∙ there) in
    omega (arith, c.in_ok-end.ensures.end there_two, c.in_ok-end.ensures.bound.0)

pub returns-clause-shut : goal.returns-clause-shut
returns-clause-shut g c there =
    let old = (g.D.Disks.disk c.args.disks.now c.args.place).bytes in
    let shut_one : Within IsShut (g.D.Disks.may_leave c.shut_area.new.disks c.args.place) = λ x now.
    ap area_gate (c.in_ok-shut_area.ensures.durable there x now) ∙ (shut_as c.args.spare old _ (c.requires.spare there) (c.in_ok-shut_area.ensures.shut there)).gate in
    c.write_body.ensures.stays.shut (c.clear_area.ensures.stays.shut shut_one)

pub returns-in_err-shut_area-clause-any_moment : goal.returns-in_err-shut_area-clause-any_moment
returns-in_err-shut_area-clause-any_moment g c there =
    let old = (g.D.Disks.disk c.args.disks.now c.args.place).bytes in
    weakened (MayBegin old) (c.shut_area.ensures.any_moment there) (λ x may. inl may)

pub returns-in_err-clear_area-clause-any_moment : goal.returns-in_err-clear_area-clause-any_moment
returns-in_err-clear_area-clause-any_moment g c there =
    let old = (g.D.Disks.disk c.args.disks.now c.args.place).bytes in
    let shut_one : Within IsShut (g.D.Disks.may_leave c.shut_area.new.disks c.args.place) = λ x now.
    ap area_gate (c.in_ok-shut_area.ensures.durable there x now) ∙ (shut_as c.args.spare old _ (c.requires.spare there) (c.in_ok-shut_area.ensures.shut there)).gate in
    both (weakened (MayBegin old) (c.shut_area.ensures.any_moment there) (λ x may. inl may)) (weakened (MayBegin old) (c.clear_area.ensures.stays.any_moment shut_one) (λ x shut. inr shut))

pub returns-clause-any_moment : goal.returns-clause-any_moment
returns-clause-any_moment g c there =
    let old = (g.D.Disks.disk c.args.disks.now c.args.place).bytes in
    let shut_one : Within IsShut (g.D.Disks.may_leave c.shut_area.new.disks c.args.place) = λ x now.
    ap area_gate (c.in_ok-shut_area.ensures.durable there x now) ∙ (shut_as c.args.spare old _ (c.requires.spare there) (c.in_ok-shut_area.ensures.shut there)).gate in
    both (both (weakened (MayBegin old) (c.shut_area.ensures.any_moment there) (λ x may. inl may)) (weakened (MayBegin old) (c.clear_area.ensures.stays.any_moment shut_one) (λ x shut. inr shut))) (weakened (MayBegin old) (c.write_body.ensures.stays.any_moment (c.clear_area.ensures.stays.shut shut_one)) (λ x shut. inr shut))

pub returns-in_err-end-clause-any_moment : goal.returns-in_err-end-clause-any_moment
returns-in_err-end-clause-any_moment g c there =
    let old = (g.D.Disks.disk c.args.disks.now c.args.place).bytes in
    let shut_one : Within IsShut (g.D.Disks.may_leave c.shut_area.new.disks c.args.place) = λ x now.
    ap area_gate (c.in_ok-shut_area.ensures.durable there x now) ∙ (shut_as c.args.spare old _ (c.requires.spare there) (c.in_ok-shut_area.ensures.shut there)).gate in
    both (both (weakened (MayBegin old) (c.shut_area.ensures.any_moment there) (λ x may. inl may)) (weakened (MayBegin old) (c.clear_area.ensures.stays.any_moment shut_one) (λ x shut. inr shut))) (weakened (MayBegin old) (c.write_body.ensures.stays.any_moment (c.clear_area.ensures.stays.shut shut_one)) (λ x shut. inr shut))

pub returns-in_err-shut_area-clause-only_read : goal.returns-in_err-shut_area-clause-only_read
returns-in_err-shut_area-clause-only_read g c = read_beside g.D.Disks.disk g.D.Disks.may_leave g.D.Disks.moment g.D.Disks.left_since g.met.D.Disks.only_now c.args.disks.now c.shut_area.new.disks c.args.whole.place c.args.place c.requires.apart c.shut_area.ensures.others

pub returns-in_err-shut_area-clause-others : goal.returns-in_err-shut_area-clause-others
returns-in_err-shut_area-clause-others g c = but_two g.D.Disks.disk g.D.Disks.may_leave g.D.Disks.moment g.D.Disks.left_since g.met.D.Disks.only_now c.args.disks.now c.shut_area.new.disks c.args.whole.place c.args.place c.requires.apart c.shut_area.ensures.others c.shut_area.ensures.cause.later

pub returns-in_err-clear_area-clause-only_read : goal.returns-in_err-clear_area-clause-only_read
returns-in_err-clear_area-clause-only_read g c = read_joined g.D.Disks.disk g.D.Disks.may_leave g.D.Disks.moment g.D.Disks.left_since g.met.D.Disks.only_now c.args.disks.now c.shut_area.new.disks c.clear_area.new.disks c.args.whole.place (read_beside g.D.Disks.disk g.D.Disks.may_leave g.D.Disks.moment g.D.Disks.left_since g.met.D.Disks.only_now c.args.disks.now c.shut_area.new.disks c.args.whole.place c.args.place c.requires.apart c.shut_area.ensures.others) (read_beside g.D.Disks.disk g.D.Disks.may_leave g.D.Disks.moment g.D.Disks.left_since g.met.D.Disks.only_now c.shut_area.new.disks c.clear_area.new.disks c.args.whole.place c.args.place c.requires.apart c.clear_area.ensures.others)

pub returns-in_err-clear_area-clause-others : goal.returns-in_err-clear_area-clause-others
returns-in_err-clear_area-clause-others g c = but_joined g.D.Disks.disk g.D.Disks.may_leave g.D.Disks.moment g.D.Disks.left_since g.met.D.Disks.only_now c.args.disks.now c.shut_area.new.disks c.clear_area.new.disks c.args.whole.place c.args.place (but_two g.D.Disks.disk g.D.Disks.may_leave g.D.Disks.moment g.D.Disks.left_since g.met.D.Disks.only_now c.args.disks.now c.shut_area.new.disks c.args.whole.place c.args.place c.requires.apart c.shut_area.ensures.others c.shut_area.ensures.cause.later) (but_two g.D.Disks.disk g.D.Disks.may_leave g.D.Disks.moment g.D.Disks.left_since g.met.D.Disks.only_now c.shut_area.new.disks c.clear_area.new.disks c.args.whole.place c.args.place c.requires.apart c.clear_area.ensures.others c.clear_area.ensures.cause.later)

pub returns-clause-only_read : goal.returns-clause-only_read
returns-clause-only_read g c = read_joined g.D.Disks.disk g.D.Disks.may_leave g.D.Disks.moment g.D.Disks.left_since g.met.D.Disks.only_now c.args.disks.now c.clear_area.new.disks c.write_body.new.disks c.args.whole.place (read_joined g.D.Disks.disk g.D.Disks.may_leave g.D.Disks.moment g.D.Disks.left_since g.met.D.Disks.only_now c.args.disks.now c.shut_area.new.disks c.clear_area.new.disks c.args.whole.place (read_beside g.D.Disks.disk g.D.Disks.may_leave g.D.Disks.moment g.D.Disks.left_since g.met.D.Disks.only_now c.args.disks.now c.shut_area.new.disks c.args.whole.place c.args.place c.requires.apart c.shut_area.ensures.others) (read_beside g.D.Disks.disk g.D.Disks.may_leave g.D.Disks.moment g.D.Disks.left_since g.met.D.Disks.only_now c.shut_area.new.disks c.clear_area.new.disks c.args.whole.place c.args.place c.requires.apart c.clear_area.ensures.others)) c.write_body.ensures.only_read

pub returns-in_err-end-clause-only_read : goal.returns-in_err-end-clause-only_read
returns-in_err-end-clause-only_read g c = read_joined g.D.Disks.disk g.D.Disks.may_leave g.D.Disks.moment g.D.Disks.left_since g.met.D.Disks.only_now c.args.disks.now c.clear_area.new.disks c.write_body.new.disks c.args.whole.place (read_joined g.D.Disks.disk g.D.Disks.may_leave g.D.Disks.moment g.D.Disks.left_since g.met.D.Disks.only_now c.args.disks.now c.shut_area.new.disks c.clear_area.new.disks c.args.whole.place (read_beside g.D.Disks.disk g.D.Disks.may_leave g.D.Disks.moment g.D.Disks.left_since g.met.D.Disks.only_now c.args.disks.now c.shut_area.new.disks c.args.whole.place c.args.place c.requires.apart c.shut_area.ensures.others) (read_beside g.D.Disks.disk g.D.Disks.may_leave g.D.Disks.moment g.D.Disks.left_since g.met.D.Disks.only_now c.shut_area.new.disks c.clear_area.new.disks c.args.whole.place c.args.place c.requires.apart c.clear_area.ensures.others)) c.write_body.ensures.only_read

pub returns-clause-others : goal.returns-clause-others
returns-clause-others g c = but_joined g.D.Disks.disk g.D.Disks.may_leave g.D.Disks.moment g.D.Disks.left_since g.met.D.Disks.only_now c.args.disks.now c.clear_area.new.disks c.write_body.new.disks c.args.whole.place c.args.place (but_joined g.D.Disks.disk g.D.Disks.may_leave g.D.Disks.moment g.D.Disks.left_since g.met.D.Disks.only_now c.args.disks.now c.shut_area.new.disks c.clear_area.new.disks c.args.whole.place c.args.place (but_two g.D.Disks.disk g.D.Disks.may_leave g.D.Disks.moment g.D.Disks.left_since g.met.D.Disks.only_now c.args.disks.now c.shut_area.new.disks c.args.whole.place c.args.place c.requires.apart c.shut_area.ensures.others c.shut_area.ensures.cause.later) (but_two g.D.Disks.disk g.D.Disks.may_leave g.D.Disks.moment g.D.Disks.left_since g.met.D.Disks.only_now c.shut_area.new.disks c.clear_area.new.disks c.args.whole.place c.args.place c.requires.apart c.clear_area.ensures.others c.clear_area.ensures.cause.later)) c.write_body.ensures.others

pub returns-in_err-end-clause-others : goal.returns-in_err-end-clause-others
returns-in_err-end-clause-others g c = but_joined g.D.Disks.disk g.D.Disks.may_leave g.D.Disks.moment g.D.Disks.left_since g.met.D.Disks.only_now c.args.disks.now c.clear_area.new.disks c.write_body.new.disks c.args.whole.place c.args.place (but_joined g.D.Disks.disk g.D.Disks.may_leave g.D.Disks.moment g.D.Disks.left_since g.met.D.Disks.only_now c.args.disks.now c.shut_area.new.disks c.clear_area.new.disks c.args.whole.place c.args.place (but_two g.D.Disks.disk g.D.Disks.may_leave g.D.Disks.moment g.D.Disks.left_since g.met.D.Disks.only_now c.args.disks.now c.shut_area.new.disks c.args.whole.place c.args.place c.requires.apart c.shut_area.ensures.others c.shut_area.ensures.cause.later) (but_two g.D.Disks.disk g.D.Disks.may_leave g.D.Disks.moment g.D.Disks.left_since g.met.D.Disks.only_now c.shut_area.new.disks c.clear_area.new.disks c.args.whole.place c.args.place c.requires.apart c.clear_area.ensures.others c.clear_area.ensures.cause.later)) c.write_body.ensures.others

pub returns-clause-size : goal.returns-clause-size
returns-clause-size g c log told stands =
    let same = c.clear_area.ensures.others.others c.args.whole.place c.requires.apart ∙ c.shut_area.ensures.others.others c.args.whole.place c.requires.apart in
    c.in_ok-end.ensures.size log (ap (λ d. d.told) same ∙ told) (subst (λ d. StandsAs c.args.whole log d.bytes) (sym same) stands)

pub returns-in_err-shut_area-clause-calls : goal.returns-in_err-shut_area-clause-calls
returns-in_err-shut_area-clause-calls g c log told stands =
    subst (λ (l : List DiskCall). MadeSome l (g.D.Disks.disk c.args.disks.now c.args.place).calls (g.D.Disks.disk c.shut_area.new.disks c.args.place).calls) (calls_are c.args.spare c.args.generation (payloads_of log))
    (made_first (shut_calls c.args.spare ++ Sync ∷ []) ((Cut 9 ∷ mark_calls c.args.spare) ++ body_calls c.args.generation (payloads_of log)) _ _ c.shut_area.ensures.calls)

pub returns-in_err-clear_area-clause-calls : goal.returns-in_err-clear_area-clause-calls
returns-in_err-clear_area-clause-calls g c log told stands =
    subst (λ (l : List DiskCall). MadeSome l (g.D.Disks.disk c.args.disks.now c.args.place).calls (g.D.Disks.disk c.clear_area.new.disks c.args.place).calls) (calls_are c.args.spare c.args.generation (payloads_of log))
    (made_both (shut_calls c.args.spare ++ Sync ∷ []) ((Cut 9 ∷ mark_calls c.args.spare) ++ body_calls c.args.generation (payloads_of log)) _ _ _ c.in_ok-shut_area.ensures.all_calls (made_first (Cut 9 ∷ mark_calls c.args.spare) (body_calls c.args.generation (payloads_of log)) _ _ c.clear_area.ensures.calls))

pub returns-clause-calls : goal.returns-clause-calls
returns-clause-calls g c log told stands =
    let same = c.clear_area.ensures.others.others c.args.whole.place c.requires.apart ∙ c.shut_area.ensures.others.others c.args.whole.place c.requires.apart in
    let stands_mid = subst (λ d. StandsAs c.args.whole log d.bytes) (sym same) stands in
    let told_mid : IsTrue (g.D.Disks.disk c.clear_area.new.disks c.args.whole.place).told = ap (λ d. d.told) same ∙ told in
    subst (λ (l : List DiskCall). MadeSome l (g.D.Disks.disk c.args.disks.now c.args.place).calls (g.D.Disks.disk c.write_body.new.disks c.args.place).calls) (calls_are c.args.spare c.args.generation (payloads_of log))
    (made_both (shut_calls c.args.spare ++ Sync ∷ []) ((Cut 9 ∷ mark_calls c.args.spare) ++ body_calls c.args.generation (payloads_of log)) _ _ _ c.in_ok-shut_area.ensures.all_calls (made_both (Cut 9 ∷ mark_calls c.args.spare) (body_calls c.args.generation (payloads_of log)) _ _ _ c.in_ok-clear_area.ensures.all_calls (c.write_body.ensures.calls log told_mid stands_mid)))

pub returns-in_err-end-clause-calls : goal.returns-in_err-end-clause-calls
returns-in_err-end-clause-calls g c log told stands =
    let same = c.clear_area.ensures.others.others c.args.whole.place c.requires.apart ∙ c.shut_area.ensures.others.others c.args.whole.place c.requires.apart in
    let stands_mid = subst (λ d. StandsAs c.args.whole log d.bytes) (sym same) stands in
    let told_mid : IsTrue (g.D.Disks.disk c.clear_area.new.disks c.args.whole.place).told = ap (λ d. d.told) same ∙ told in
    subst (λ (l : List DiskCall). MadeSome l (g.D.Disks.disk c.args.disks.now c.args.place).calls (g.D.Disks.disk c.write_body.new.disks c.args.place).calls) (calls_are c.args.spare c.args.generation (payloads_of log))
    (made_both (shut_calls c.args.spare ++ Sync ∷ []) ((Cut 9 ∷ mark_calls c.args.spare) ++ body_calls c.args.generation (payloads_of log)) _ _ _ c.in_ok-shut_area.ensures.all_calls (made_both (Cut 9 ∷ mark_calls c.args.spare) (body_calls c.args.generation (payloads_of log)) _ _ _ c.in_ok-clear_area.ensures.all_calls (c.write_body.ensures.calls log told_mid stands_mid)))

pub returns-clause-all_calls : goal.returns-clause-all_calls
returns-clause-all_calls g c log told stands =
    let same = c.clear_area.ensures.others.others c.args.whole.place c.requires.apart ∙ c.shut_area.ensures.others.others c.args.whole.place c.requires.apart in
    let stands_mid = subst (λ d. StandsAs c.args.whole log d.bytes) (sym same) stands in
    let told_mid : IsTrue (g.D.Disks.disk c.clear_area.new.disks c.args.whole.place).told = ap (λ d. d.told) same ∙ told in
    let behind = (Cut 9 ∷ mark_calls c.args.spare) ++ body_calls c.args.generation (payloads_of log) in
    all_both (shut_calls c.args.spare ++ Sync ∷ []) behind _ _ _ c.in_ok-shut_area.ensures.all_calls
    (all_both (Cut 9 ∷ mark_calls c.args.spare) (body_calls c.args.generation (payloads_of log)) _ _ _ c.in_ok-clear_area.ensures.all_calls (c.in_ok-end.ensures.all_calls log told_mid stands_mid))
    ∙ ap (λ (l : List DiskCall). with_calls l (g.D.Disks.disk c.args.disks.now c.args.place).calls) (append_assoc (shut_calls c.args.spare) (Sync ∷ []) behind)
