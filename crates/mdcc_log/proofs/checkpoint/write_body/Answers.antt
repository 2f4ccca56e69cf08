use Rattle.std.proofs.Common.{◌≡◌, ◌∷◌, ◌++◌, [], List, ℕ, length, IsTrue, sym, ◌∙◌, ap, subst, arith, length-append}
use Rattle.mdcc_log_file.specs.Area.{payloads_of, counts_bytes}
use Rattle.mdcc_log.specs.Checkpoint.{StandsAs}
use Rattle.mdcc_log_file.proofs.ReadCalls.{made_one}
use Rattle.mdcc_log_file.proofs.Joined.{read_joined, read_beside, shut_joined, but_joined, but_two}
use Rattle.mdcc_log.proofs.Packs.{body_written, body_begun, body_middle, body_ending, body_ended}
use Rattle.mdcc_log.proofs.checkpoint.write_body.Goals as goal

-- the log stands at the other place while this one grows
pub copy_all-requires-clause-stands : goal.copy_all-requires-clause-stands
copy_all-requires-clause-stands g c told =
    let same = c.grow.ensures.others.others c.args.whole.place c.requires.apart in
    let stands = c.requires.stands (sym (ap (λ d. d.told) same) ∙ told) in
    (stands.0, subst (λ d. StandsAs c.args.whole stands.0 d.bytes) (sym same) stands.1)

pub copy_all-requires-clause-end : goal.copy_all-requires-clause-end
copy_all-requires-clause-end g c told =
    let was : IsTrue (g.D.Disks.disk c.args.disks.now c.args.place).told = sym c.grow.ensures.others.told ∙ told in
    let grown = c.in_ok-grow.ensures.grown was in
    let sixteen : length c.counts.result ≡ 16 = omega arith in
    omega (arith, ap (λ (l : List ℕ). length l) grown, c.requires.nine was, length-append (g.D.Disks.disk c.args.disks.now c.args.place).bytes c.counts.result, sixteen)

pub returns-clause-written : goal.returns-clause-written
returns-clause-written g c log told there stands =
    let same = c.grow.ensures.others.others c.args.whole.place c.requires.apart in
    let stands_mid = subst (λ d. StandsAs c.args.whole log d.bytes) (sym same) stands in
    let told_mid : IsTrue (g.D.Disks.disk c.grow.new.disks c.args.whole.place).told = ap (λ d. d.told) same ∙ told in
    let there_mid : IsTrue (g.D.Disks.disk c.grow.new.disks c.args.place).told = c.grow.ensures.others.told ∙ there in
    let there_end : IsTrue (g.D.Disks.disk c.copy_all.new.disks c.args.place).told = c.copy_all.ensures.others.told_two ∙ there_mid in
    let old = (g.D.Disks.disk c.args.disks.now c.args.place).bytes in
    body_written c.args.generation c.args.whole.count (payloads_of log) old _ _ _ stands.count_is
    (c.in_ok-grow.ensures.grown there ∙ ap (λ (l : List ℕ). old ++ l) c.counts.ensures)
    (c.in_ok-end.ensures.copied log told_mid there_mid stands_mid)
    (c.in_ok-grow-2.ensures.grown there_end)

pub returns-clause-size : goal.returns-clause-size
returns-clause-size g c log told stands =
    let same = c.grow.ensures.others.others c.args.whole.place c.requires.apart in
    c.in_ok-end.ensures.size log (ap (λ d. d.told) same ∙ told) (subst (λ d. StandsAs c.args.whole log d.bytes) (sym same) stands)

pub returns-clause-end : goal.returns-clause-end
returns-clause-end g c there =
    let there_mid = c.copy_all.ensures.others.told_two ∙ (c.grow.ensures.others.told ∙ there) in
    omega (arith, ap (λ (l : List ℕ). length l) (c.in_ok-grow-2.ensures.grown there_mid), c.in_ok-end.ensures.end (c.grow.ensures.others.told ∙ there), length-append (g.D.Disks.disk c.copy_all.new.disks c.args.place).bytes (0 ∷ []))

pub returns-in_err-grow-clause-calls : goal.returns-in_err-grow-clause-calls
returns-in_err-grow-clause-calls g c log told stands =
    let counts : c.counts.result ≡ counts_bytes c.args.generation (length (payloads_of log)) = c.counts.ensures ∙ ap (λ (n : ℕ). counts_bytes c.args.generation n) stands.count_is in
    body_begun c.args.generation (payloads_of log) c.counts.result counts _ _ (made_one _ _ _ _ c.grow.ensures.call)

pub returns-in_err-end-clause-calls : goal.returns-in_err-end-clause-calls
returns-in_err-end-clause-calls g c log told stands =
    let same = c.grow.ensures.others.others c.args.whole.place c.requires.apart in
    let stands_mid = subst (λ d. StandsAs c.args.whole log d.bytes) (sym same) stands in
    let told_mid : IsTrue (g.D.Disks.disk c.grow.new.disks c.args.whole.place).told = ap (λ d. d.told) same ∙ told in
    let counts : c.counts.result ≡ counts_bytes c.args.generation (length (payloads_of log)) = c.counts.ensures ∙ ap (λ (n : ℕ). counts_bytes c.args.generation n) stands.count_is in
    let old = (g.D.Disks.disk c.args.disks.now c.args.place).calls in
    body_middle c.args.generation (payloads_of log) c.counts.result counts old _ _ c.in_ok-grow.ensures.call.ok (c.copy_all.ensures.calls log told_mid stands_mid)

pub returns-in_err-grow-2-clause-calls : goal.returns-in_err-grow-2-clause-calls
returns-in_err-grow-2-clause-calls g c log told stands =
    let same = c.grow.ensures.others.others c.args.whole.place c.requires.apart in
    let stands_mid = subst (λ d. StandsAs c.args.whole log d.bytes) (sym same) stands in
    let told_mid : IsTrue (g.D.Disks.disk c.grow.new.disks c.args.whole.place).told = ap (λ d. d.told) same ∙ told in
    let counts : c.counts.result ≡ counts_bytes c.args.generation (length (payloads_of log)) = c.counts.ensures ∙ ap (λ (n : ℕ). counts_bytes c.args.generation n) stands.count_is in
    let old = (g.D.Disks.disk c.args.disks.now c.args.place).calls in
    body_ending c.args.generation (payloads_of log) c.counts.result counts old c.in_ok-end.end _ _ _ (c.in_ok-end.ensures.size log told_mid stands_mid) c.in_ok-grow.ensures.call.ok (c.in_ok-end.ensures.all_calls log told_mid stands_mid) (made_one _ _ _ _ c.grow-2.ensures.call)

pub returns-clause-calls : goal.returns-clause-calls
returns-clause-calls g c log told stands =
    let same = c.grow.ensures.others.others c.args.whole.place c.requires.apart in
    let stands_mid = subst (λ d. StandsAs c.args.whole log d.bytes) (sym same) stands in
    let told_mid : IsTrue (g.D.Disks.disk c.grow.new.disks c.args.whole.place).told = ap (λ d. d.told) same ∙ told in
    let counts : c.counts.result ≡ counts_bytes c.args.generation (length (payloads_of log)) = c.counts.ensures ∙ ap (λ (n : ℕ). counts_bytes c.args.generation n) stands.count_is in
    let old = (g.D.Disks.disk c.args.disks.now c.args.place).calls in
    body_ending c.args.generation (payloads_of log) c.counts.result counts old c.in_ok-end.end _ _ _ (c.in_ok-end.ensures.size log told_mid stands_mid) c.in_ok-grow.ensures.call.ok (c.in_ok-end.ensures.all_calls log told_mid stands_mid) (made_one _ _ _ _ c.grow-2.ensures.call)

pub returns-clause-all_calls : goal.returns-clause-all_calls
returns-clause-all_calls g c log told stands =
    let same = c.grow.ensures.others.others c.args.whole.place c.requires.apart in
    let stands_mid = subst (λ d. StandsAs c.args.whole log d.bytes) (sym same) stands in
    let told_mid : IsTrue (g.D.Disks.disk c.grow.new.disks c.args.whole.place).told = ap (λ d. d.told) same ∙ told in
    let counts : c.counts.result ≡ counts_bytes c.args.generation (length (payloads_of log)) = c.counts.ensures ∙ ap (λ (n : ℕ). counts_bytes c.args.generation n) stands.count_is in
    let old = (g.D.Disks.disk c.args.disks.now c.args.place).calls in
    body_ended c.args.generation (payloads_of log) c.counts.result counts old c.in_ok-end.end _ _ _ (c.in_ok-end.ensures.size log told_mid stands_mid) c.in_ok-grow.ensures.call.ok (c.in_ok-end.ensures.all_calls log told_mid stands_mid) c.in_ok-grow-2.ensures.call.ok

pub returns-in_err-grow-clause-only_read : goal.returns-in_err-grow-clause-only_read
returns-in_err-grow-clause-only_read g c = read_beside g.D.Disks.disk g.D.Disks.may_leave g.D.Disks.moment g.D.Disks.left_since g.met.D.Disks.only_now c.args.disks.now c.grow.new.disks c.args.whole.place c.args.place c.requires.apart c.grow.ensures.others

pub returns-in_err-grow-clause-others : goal.returns-in_err-grow-clause-others
returns-in_err-grow-clause-others g c = but_two g.D.Disks.disk g.D.Disks.may_leave g.D.Disks.moment g.D.Disks.left_since g.met.D.Disks.only_now c.args.disks.now c.grow.new.disks c.args.whole.place c.args.place c.requires.apart c.grow.ensures.others c.grow.ensures.cause.later

pub returns-in_err-end-clause-only_read : goal.returns-in_err-end-clause-only_read
returns-in_err-end-clause-only_read g c = read_joined g.D.Disks.disk g.D.Disks.may_leave g.D.Disks.moment g.D.Disks.left_since g.met.D.Disks.only_now c.args.disks.now c.grow.new.disks c.copy_all.new.disks c.args.whole.place (read_beside g.D.Disks.disk g.D.Disks.may_leave g.D.Disks.moment g.D.Disks.left_since g.met.D.Disks.only_now c.args.disks.now c.grow.new.disks c.args.whole.place c.args.place c.requires.apart c.grow.ensures.others) c.copy_all.ensures.only_read

pub returns-in_err-end-clause-stays : goal.returns-in_err-end-clause-stays
returns-in_err-end-clause-stays g c = shut_joined g.D.Disks.disk g.D.Disks.may_leave g.D.Disks.moment g.D.Disks.left_since g.met.D.Disks.only_now c.args.disks.now c.grow.new.disks c.copy_all.new.disks c.args.place (record { shut = c.grow.ensures.shut; any_moment = c.grow.ensures.any_moment }) c.copy_all.ensures.stays

pub returns-in_err-end-clause-others : goal.returns-in_err-end-clause-others
returns-in_err-end-clause-others g c = but_joined g.D.Disks.disk g.D.Disks.may_leave g.D.Disks.moment g.D.Disks.left_since g.met.D.Disks.only_now c.args.disks.now c.grow.new.disks c.copy_all.new.disks c.args.whole.place c.args.place (but_two g.D.Disks.disk g.D.Disks.may_leave g.D.Disks.moment g.D.Disks.left_since g.met.D.Disks.only_now c.args.disks.now c.grow.new.disks c.args.whole.place c.args.place c.requires.apart c.grow.ensures.others c.grow.ensures.cause.later) c.copy_all.ensures.others

pub returns-in_err-grow-2-clause-only_read : goal.returns-in_err-grow-2-clause-only_read
returns-in_err-grow-2-clause-only_read g c =
    read_joined g.D.Disks.disk g.D.Disks.may_leave g.D.Disks.moment g.D.Disks.left_since g.met.D.Disks.only_now c.args.disks.now c.copy_all.new.disks c.grow-2.new.disks c.args.whole.place
    (read_joined g.D.Disks.disk g.D.Disks.may_leave g.D.Disks.moment g.D.Disks.left_since g.met.D.Disks.only_now c.args.disks.now c.grow.new.disks c.copy_all.new.disks c.args.whole.place (read_beside g.D.Disks.disk g.D.Disks.may_leave g.D.Disks.moment g.D.Disks.left_since g.met.D.Disks.only_now c.args.disks.now c.grow.new.disks c.args.whole.place c.args.place c.requires.apart c.grow.ensures.others) c.copy_all.ensures.only_read)
    (read_beside g.D.Disks.disk g.D.Disks.may_leave g.D.Disks.moment g.D.Disks.left_since g.met.D.Disks.only_now c.copy_all.new.disks c.grow-2.new.disks c.args.whole.place c.args.place c.requires.apart c.grow-2.ensures.others)

pub returns-in_err-grow-2-clause-stays : goal.returns-in_err-grow-2-clause-stays
returns-in_err-grow-2-clause-stays g c =
    shut_joined g.D.Disks.disk g.D.Disks.may_leave g.D.Disks.moment g.D.Disks.left_since g.met.D.Disks.only_now c.args.disks.now c.copy_all.new.disks c.grow-2.new.disks c.args.place
    (shut_joined g.D.Disks.disk g.D.Disks.may_leave g.D.Disks.moment g.D.Disks.left_since g.met.D.Disks.only_now c.args.disks.now c.grow.new.disks c.copy_all.new.disks c.args.place (record { shut = c.grow.ensures.shut; any_moment = c.grow.ensures.any_moment }) c.copy_all.ensures.stays)
    (record { shut = c.grow-2.ensures.shut; any_moment = c.grow-2.ensures.any_moment })

pub returns-in_err-grow-2-clause-others : goal.returns-in_err-grow-2-clause-others
returns-in_err-grow-2-clause-others g c =
    but_joined g.D.Disks.disk g.D.Disks.may_leave g.D.Disks.moment g.D.Disks.left_since g.met.D.Disks.only_now c.args.disks.now c.copy_all.new.disks c.grow-2.new.disks c.args.whole.place c.args.place
    (but_joined g.D.Disks.disk g.D.Disks.may_leave g.D.Disks.moment g.D.Disks.left_since g.met.D.Disks.only_now c.args.disks.now c.grow.new.disks c.copy_all.new.disks c.args.whole.place c.args.place (but_two g.D.Disks.disk g.D.Disks.may_leave g.D.Disks.moment g.D.Disks.left_since g.met.D.Disks.only_now c.args.disks.now c.grow.new.disks c.args.whole.place c.args.place c.requires.apart c.grow.ensures.others c.grow.ensures.cause.later) c.copy_all.ensures.others)
    (but_two g.D.Disks.disk g.D.Disks.may_leave g.D.Disks.moment g.D.Disks.left_since g.met.D.Disks.only_now c.copy_all.new.disks c.grow-2.new.disks c.args.whole.place c.args.place c.requires.apart c.grow-2.ensures.others c.grow-2.ensures.cause.later)

pub returns-clause-only_read : goal.returns-clause-only_read
returns-clause-only_read g c =
    read_joined g.D.Disks.disk g.D.Disks.may_leave g.D.Disks.moment g.D.Disks.left_since g.met.D.Disks.only_now c.args.disks.now c.copy_all.new.disks c.grow-2.new.disks c.args.whole.place
    (read_joined g.D.Disks.disk g.D.Disks.may_leave g.D.Disks.moment g.D.Disks.left_since g.met.D.Disks.only_now c.args.disks.now c.grow.new.disks c.copy_all.new.disks c.args.whole.place (read_beside g.D.Disks.disk g.D.Disks.may_leave g.D.Disks.moment g.D.Disks.left_since g.met.D.Disks.only_now c.args.disks.now c.grow.new.disks c.args.whole.place c.args.place c.requires.apart c.grow.ensures.others) c.copy_all.ensures.only_read)
    (read_beside g.D.Disks.disk g.D.Disks.may_leave g.D.Disks.moment g.D.Disks.left_since g.met.D.Disks.only_now c.copy_all.new.disks c.grow-2.new.disks c.args.whole.place c.args.place c.requires.apart c.grow-2.ensures.others)

pub returns-clause-stays : goal.returns-clause-stays
returns-clause-stays g c =
    shut_joined g.D.Disks.disk g.D.Disks.may_leave g.D.Disks.moment g.D.Disks.left_since g.met.D.Disks.only_now c.args.disks.now c.copy_all.new.disks c.grow-2.new.disks c.args.place
    (shut_joined g.D.Disks.disk g.D.Disks.may_leave g.D.Disks.moment g.D.Disks.left_since g.met.D.Disks.only_now c.args.disks.now c.grow.new.disks c.copy_all.new.disks c.args.place (record { shut = c.grow.ensures.shut; any_moment = c.grow.ensures.any_moment }) c.copy_all.ensures.stays)
    (record { shut = c.grow-2.ensures.shut; any_moment = c.grow-2.ensures.any_moment })

pub returns-clause-others : goal.returns-clause-others
returns-clause-others g c =
    but_joined g.D.Disks.disk g.D.Disks.may_leave g.D.Disks.moment g.D.Disks.left_since g.met.D.Disks.only_now c.args.disks.now c.copy_all.new.disks c.grow-2.new.disks c.args.whole.place c.args.place
    (but_joined g.D.Disks.disk g.D.Disks.may_leave g.D.Disks.moment g.D.Disks.left_since g.met.D.Disks.only_now c.args.disks.now c.grow.new.disks c.copy_all.new.disks c.args.whole.place c.args.place (but_two g.D.Disks.disk g.D.Disks.may_leave g.D.Disks.moment g.D.Disks.left_since g.met.D.Disks.only_now c.args.disks.now c.grow.new.disks c.args.whole.place c.args.place c.requires.apart c.grow.ensures.others c.grow.ensures.cause.later) c.copy_all.ensures.others)
    (but_two g.D.Disks.disk g.D.Disks.may_leave g.D.Disks.moment g.D.Disks.left_since g.met.D.Disks.only_now c.copy_all.new.disks c.grow-2.new.disks c.args.whole.place c.args.place c.requires.apart c.grow-2.ensures.others c.grow-2.ensures.cause.later)
