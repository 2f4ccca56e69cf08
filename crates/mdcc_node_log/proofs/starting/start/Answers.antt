use Rattle.std.proofs.Common.{◌≡◌, ◌+◌, ◌++◌, ◌∷◌, ◌≤◌, ◌<◌, [], List, ℕ, Err, IsErrOf, Ok, inl, inr, refl, sym, ◌∙◌, ap, length, subst}
use Rattle.std.specs.List.{AllByRecursion}
use Rattle.std.specs.Prelude.{IsTrue}
use Rattle.std.proofs.lemmas.Result.{err_from_is_err_and}
use Rattle.mdcc_log_file.specs.Area.{AreaLog, payloads, payloads_of}
use Rattle.mdcc_log.specs.AtRest.{IsAtRest}
use Rattle.mdcc_log.specs.Crash.{ReadsAsEither}
use Rattle.mdcc_log.specs.Frames.{appended, place_of}
use Rattle.mdcc_log.specs.Tails.{tail_after}
use Rattle.mdcc_log_file.specs.declared.fault.LogFault.{LogFault}
use Rattle.mdcc_def_messages.specs.Spelling.{fact_bytes, encodings_of}
use Rattle.mdcc_node_log.proofs.Ended.{append_ends, append_kept, boot_ends, boots-over, kept_unless, open_ends}
use Rattle.mdcc_node_log.proofs.Kept.{append-keeps, each-fault, open-keeps, opened-before, rest-keeps}
use Rattle.mdcc_node_log.proofs.Named.{no-boot-memory, no-log-memory, of-disk}
use Rattle.mdcc_node_log.proofs.Others.{but_areas, but_joined, rose_areas}
use Rattle.mdcc_node_log.proofs.Places.{at_both}
use Rattle.mdcc_node_log.proofs.Roomy.{past_limit, roomy_log, roomy_more, same_log, within_limit}
use Rattle.mdcc_node_log.proofs.Starts.{after-crash, after-group, boot-fits, boot-refuses, open-refuses, refuses, same-payloads}
use Rattle.mdcc_node_log.proofs.Struck.{boot_leaves, left_read, left_struck, same_area, same_read, struck_as, struck_joined, struck_read}
use Rattle.mdcc_node_log.proofs.Unread.{no-log, of-no-log, open-unread}
use Rattle.mdcc_node_log.specs.Payloads.{BootsFrom}
use Rattle.mdcc_node_log.specs.Starting.{HasLogRoom, KeepsLog, KeepsUnlessDisk, StartGives}
use Rattle.mdcc_node_log.specs.Struck.{LeavesBoot, LeavesStruck}
use Rattle.mdcc_node_log.specs.declared.fault.StartFault.{StartFault}
use Rattle.mdcc_def_rules.specs.declared.node.BootFault.{BootFault}
use Rattle.mdcc_theorem_encoding.specs.Laws.{AreBytes}
use Rattle.mdcc_node_log.proofs.starting.start.Goals as goal
use Rattle.mdcc_def_rules.specs.Boot.{next_boot}

-- ---- what comes of it

pub returns-in_err-log-clause-starts : goal.returns-in_err-log-clause-starts
returns-in_err-log-clause-starts g c total facts holds are log =
    let p = err_from_is_err_and c.from_residual.result c.from_residual.ensures.1 in
    rw (p.1, p.2)
    (open-refuses total c.args.cluster facts (HasLogRoom c.args.every (g.D.Disks.disk c.args.disks.now c.args.centre) (g.D.Disks.disk c.args.disks.now (c.args.centre + 16))) c.in_err-log.field-0.0 (g.D.Disks.disk c.args.disks.now c.args.centre).bytes (g.D.Disks.disk c.args.disks.now (c.args.centre + 16)).bytes log.read
    (λ n is. c.in_err-log.ensures.not_a_log n is log.told_first log.told_second) c.in_err-log.ensures.not_full)

pub returns-in_err-log-clause-after_crash : goal.returns-in_err-log-clause-after_crash
returns-in_err-log-clause-after_crash g c total facts fact holds are told told_other either =
    after-crash (λ fs. StartGives g.S.FactStore.stands g.S.FactStore.cells total c.from_residual.result c.args.cluster c.args.centre c.args.every fs g.D.Disks.disk g.D.Disks.may_leave c.args.disks.now c.open.new.disks)
    c.args.cluster facts fact (g.D.Disks.disk c.args.disks.now c.args.centre) (g.D.Disks.disk c.args.disks.now (c.args.centre + 16)) (λ fs of_cluster log. returns-in_err-log-clause-starts g c total fs holds of_cluster log) are told told_other either

pub returns-in_err-node-clause-starts : goal.returns-in_err-node-clause-starts
returns-in_err-node-clause-starts g c total facts holds are log =
    let p = err_from_is_err_and c.from_residual-in_err-node.result c.from_residual-in_err-node.ensures.1 in
    let is = same-payloads (g.D.Disks.disk c.args.disks.now c.args.centre).bytes (g.D.Disks.disk c.args.disks.now (c.args.centre + 16)).bytes c.in_ok-log.payloads.items (encodings_of facts) (c.in_ok-log.ensures.payloads log.told_first log.told_second) log.read in
    let refused = c.in_err-node.ensures.node total facts holds are (c.as_slice.ensures.value ∙ is) in
    rw (p.1, p.2) (boot-refuses g.S.FactStore.stands g.S.FactStore.cells total c.args.cluster c.args.centre facts c.in_err-node.field-0.0 (HasLogRoom c.args.every (g.D.Disks.disk c.args.disks.now c.args.centre) (g.D.Disks.disk c.args.disks.now (c.args.centre + 16))) refused)

pub returns-in_err-node-clause-after_crash : goal.returns-in_err-node-clause-after_crash
returns-in_err-node-clause-after_crash g c total facts fact holds are told told_other either =
    after-crash (λ fs. StartGives g.S.FactStore.stands g.S.FactStore.cells total c.from_residual-in_err-node.result c.args.cluster c.args.centre c.args.every fs g.D.Disks.disk g.D.Disks.may_leave c.args.disks.now c.open.new.disks)
    c.args.cluster facts fact (g.D.Disks.disk c.args.disks.now c.args.centre) (g.D.Disks.disk c.args.disks.now (c.args.centre + 16)) (λ fs of_cluster log. returns-in_err-node-clause-starts g c total fs holds of_cluster log) are told told_other either

pub returns-in_err-persist_boot-clause-starts : goal.returns-in_err-persist_boot-clause-starts
returns-in_err-persist_boot-clause-starts g c total facts holds are log =
    let p = err_from_is_err_and c.from_residual-in_err-persist_boot.result c.from_residual-in_err-persist_boot.ensures.1 in
    let is = same-payloads (g.D.Disks.disk c.args.disks.now c.args.centre).bytes (g.D.Disks.disk c.args.disks.now (c.args.centre + 16)).bytes c.in_ok-log.payloads.items (encodings_of facts) (c.in_ok-log.ensures.payloads log.told_first log.told_second) log.read in
    let booted = c.in_ok-node.ensures.node total facts holds are (c.as_slice.ensures.value ∙ is) in
    let rest = c.in_ok-log.ensures.at_rest log.told_first log.told_second in
    let opened = c.in_ok-log.ensures.opened log.told_first log.told_second in
    let told = at_both (λ p. IsTrue (g.D.Disks.disk c.open.new.disks p).told) c.args.centre c.in_ok-log.log.centre c.in_ok-log.log.area c.in_ok-log.ensures.keeps.0 (c.open.ensures.others.told_one ∙ log.told_first) (c.open.ensures.others.told_two ∙ log.told_second) c.in_ok-log.ensures.range in
    rw (p.1, p.2)
    (refuses total c.args.cluster facts (HasLogRoom c.args.every (g.D.Disks.disk c.args.disks.now c.args.centre) (g.D.Disks.disk c.args.disks.now (c.args.centre + 16))) c.in_err-persist_boot.field-0.0 booted.3
    (λ full room. past_limit c.in_ok-log.log opened.log (g.D.Disks.disk c.open.new.disks (place_of c.in_ok-log.log.centre c.in_ok-log.log.area)).bytes (g.D.Disks.may_leave c.open.new.disks (place_of c.in_ok-log.log.centre c.in_ok-log.log.area)) opened.in_use
    facts c.in_ok-log.payloads.items (length (fact_bytes c.in_ok-node.boot)) opened.payloads_are is c.in_ok-node.ensures.short (roomy_log c.args.every (g.D.Disks.disk c.args.disks.now c.args.centre) (g.D.Disks.disk c.args.disks.now (c.args.centre + 16)) opened.log opened.read room) (subst (λ (n : ℕ). 17 ≤ n) (sym c.in_ok-log.ensures.keeps.1) room.often) (c.in_err-persist_boot.ensures.full full))
    (λ n bad. c.in_err-persist_boot.ensures.a_log n bad told.0))

pub returns-in_err-persist_boot-clause-after_crash : goal.returns-in_err-persist_boot-clause-after_crash
returns-in_err-persist_boot-clause-after_crash g c total facts fact holds are told told_other either =
    after-crash (λ fs. StartGives g.S.FactStore.stands g.S.FactStore.cells total c.from_residual-in_err-persist_boot.result c.args.cluster c.args.centre c.args.every fs g.D.Disks.disk g.D.Disks.may_leave c.args.disks.now c.persist_boot.new.disks)
    c.args.cluster facts fact (g.D.Disks.disk c.args.disks.now c.args.centre) (g.D.Disks.disk c.args.disks.now (c.args.centre + 16)) (λ fs of_cluster log. returns-in_err-persist_boot-clause-starts g c total fs holds of_cluster log) are told told_other either

pub returns-clause-starts : goal.returns-clause-starts
returns-clause-starts g c total facts holds are log =
    let is = same-payloads (g.D.Disks.disk c.args.disks.now c.args.centre).bytes (g.D.Disks.disk c.args.disks.now (c.args.centre + 16)).bytes c.in_ok-log.payloads.items (encodings_of facts) (c.in_ok-log.ensures.payloads log.told_first log.told_second) log.read in
    let booted = c.in_ok-node.ensures.node total facts holds are (c.as_slice.ensures.value ∙ is) in
    let rest = c.in_ok-log.ensures.at_rest log.told_first log.told_second in
    let opened = c.in_ok-log.ensures.opened log.told_first log.told_second in
    let told = at_both (λ p. IsTrue (g.D.Disks.disk c.open.new.disks p).told) c.args.centre c.in_ok-log.log.centre c.in_ok-log.log.area c.in_ok-log.ensures.keeps.0 (c.open.ensures.others.told_one ∙ log.told_first) (c.open.ensures.others.told_two ∙ log.told_second) c.in_ok-log.ensures.range in
    let bytes = ap fact_bytes booted.2 in
    let more = ap (λ (payloads : List (List ℕ)). payloads ++ fact_bytes c.in_ok-node.boot ∷ []) is ∙ ap (λ (payload : List ℕ). encodings_of facts ++ payload ∷ []) bytes in
    let epoch = c.epoch-epoch.ensures c.args.cluster c.args.centre _ _ booted.1 in
    let every_is = c.persist_boot.ensures.keeps.1 ∙ c.in_ok-log.ensures.keeps.1 in
    record {
      epoch = epoch;
      below = booted.0;
      node = booted.1;
      total_is = booted.4;
      fits = boot-fits total c.args.cluster facts are booted.3;
      place = c.persist_boot.ensures.keeps.0 ∙ c.in_ok-log.ensures.keeps.0;
      every_is = every_is;
      few = subst (λ (n : ℕ). c.persist_boot.new.log.tail < n) every_is c.in_ok-persist_boot.ensures.few;
      at_rest = subst (IsAtRest g.D.Disks.disk g.D.Disks.may_leave c.persist_boot.new.disks c.persist_boot.new.log) more (c.in_ok-persist_boot.ensures.acknowledged c.in_ok-log.payloads.items told.0 told.1 rest);
      within = within_limit c.in_ok-log.log opened.log (g.D.Disks.disk c.open.new.disks (place_of c.in_ok-log.log.centre c.in_ok-log.log.area)).bytes (g.D.Disks.may_leave c.open.new.disks (place_of c.in_ok-log.log.centre c.in_ok-log.log.area)) opened.in_use
          facts c.in_ok-log.payloads.items (length (fact_bytes c.in_ok-node.boot)) opened.payloads_are is c.in_ok-node.ensures.short c.in_ok-persist_boot.ensures.has_room;
      roomy = λ room. roomy_more c.in_ok-log.log opened.log (g.D.Disks.disk c.open.new.disks (place_of c.in_ok-log.log.centre c.in_ok-log.log.area)).bytes (g.D.Disks.may_leave c.open.new.disks (place_of c.in_ok-log.log.centre c.in_ok-log.log.area)) opened.in_use
          c.persist_boot.new.log (roomy_log c.args.every (g.D.Disks.disk c.args.disks.now c.args.centre) (g.D.Disks.disk c.args.disks.now (c.args.centre + 16)) opened.log opened.read room) (subst (λ (n : ℕ). 17 ≤ n) (sym c.in_ok-log.ensures.keeps.1) room.often) c.in_ok-persist_boot.ensures.grown;
    }

pub returns-clause-after_crash : goal.returns-clause-after_crash
returns-clause-after_crash g c total facts fact holds are told told_other either =
    after-crash (λ fs. StartGives g.S.FactStore.stands g.S.FactStore.cells total (Ok (record { node = c.in_ok-node.node; log = c.persist_boot.new.log; epoch = c.epoch-epoch.result })) c.args.cluster c.args.centre c.args.every fs g.D.Disks.disk g.D.Disks.may_leave c.args.disks.now c.persist_boot.new.disks)
    c.args.cluster facts fact (g.D.Disks.disk c.args.disks.now c.args.centre) (g.D.Disks.disk c.args.disks.now (c.args.centre + 16)) (λ fs of_cluster log. returns-clause-starts g c total fs holds of_cluster log) are told told_other either

pub returns-clause-at_rest : goal.returns-clause-at_rest
returns-clause-at_rest g c told told_other =
    let at = at_both (λ p. IsTrue (g.D.Disks.disk c.open.new.disks p).told) c.args.centre c.in_ok-log.log.centre c.in_ok-log.log.area c.in_ok-log.ensures.keeps.0 (c.open.ensures.others.told_one ∙ told) (c.open.ensures.others.told_two ∙ told_other) c.in_ok-log.ensures.range in
    (c.in_ok-log.payloads.items ++ fact_bytes c.in_ok-node.boot ∷ [], c.in_ok-persist_boot.ensures.acknowledged c.in_ok-log.payloads.items at.0 at.1 (c.in_ok-log.ensures.at_rest told told_other))

-- ---- after a refusal

pub returns-in_err-log-clause-refused : goal.returns-in_err-log-clause-refused
returns-in_err-log-clause-refused g c all told told_other read =
    let p = err_from_is_err_and c.from_residual.result c.from_residual.ensures.1 in
    rw (p.1, p.2)
    (open-keeps g.D.Disks.disk g.D.Disks.may_leave c.args.disks.now all c.args.centre c.args.every c.open.new.disks c.in_err-log.field-0.0 (g.D.Disks.disk c.args.disks.now c.args.centre).bytes (g.D.Disks.disk c.args.disks.now (c.args.centre + 16)).bytes read
    (λ n is. c.in_err-log.ensures.not_a_log n is told told_other) c.in_err-log.ensures.memory c.in_err-log.ensures.not_full)

pub returns-in_err-node-clause-refused : goal.returns-in_err-node-clause-refused
returns-in_err-node-clause-refused g c all told told_other read =
    let is = same-payloads (g.D.Disks.disk c.args.disks.now c.args.centre).bytes (g.D.Disks.disk c.args.disks.now (c.args.centre + 16)).bytes c.in_ok-log.payloads.items all (c.in_ok-log.ensures.payloads told told_other) read in
    let was = opened-before g.D.Disks.disk g.D.Disks.may_leave c.args.disks.now all c.args.centre c.args.every g.D.Disks.moment g.D.Disks.left_since c.open.new.disks c.in_ok-log.log c.in_ok-log.payloads.items c.in_ok-log.ensures.keeps.0 c.in_ok-log.ensures.range is (c.in_ok-log.ensures.opened told told_other) in
    each-fault (λ fault. KeepsLog all fault c.args.centre c.args.every g.D.Disks.disk g.D.Disks.may_leave c.args.disks.now c.open.new.disks) c.from_residual-in_err-node.result (λ fault. rest-keeps g.D.Disks.disk g.D.Disks.may_leave c.args.disks.now all c.args.centre c.args.every c.open.new.disks fault was)

pub returns-in_err-persist_boot-clause-refused : goal.returns-in_err-persist_boot-clause-refused
returns-in_err-persist_boot-clause-refused g c all told told_other read =
    let p = err_from_is_err_and c.from_residual-in_err-persist_boot.result c.from_residual-in_err-persist_boot.ensures.1 in
    let is = same-payloads (g.D.Disks.disk c.args.disks.now c.args.centre).bytes (g.D.Disks.disk c.args.disks.now (c.args.centre + 16)).bytes c.in_ok-log.payloads.items all (c.in_ok-log.ensures.payloads told told_other) read in
    let was = opened-before g.D.Disks.disk g.D.Disks.may_leave c.args.disks.now all c.args.centre c.args.every g.D.Disks.moment g.D.Disks.left_since c.open.new.disks c.in_ok-log.log c.in_ok-log.payloads.items c.in_ok-log.ensures.keeps.0 c.in_ok-log.ensures.range is (c.in_ok-log.ensures.opened told told_other) in
    let at = at_both (λ p. IsTrue (g.D.Disks.disk c.open.new.disks p).told) c.args.centre c.in_ok-log.log.centre c.in_ok-log.log.area c.in_ok-log.ensures.keeps.0 (c.open.ensures.others.told_one ∙ told) (c.open.ensures.others.told_two ∙ told_other) c.in_ok-log.ensures.range in
    rw (p.1, p.2)
    (append-keeps g.D.Disks.disk g.D.Disks.may_leave c.args.disks.now all c.args.centre c.args.every c.open.new.disks c.persist_boot.new.disks c.in_err-persist_boot.field-0.0 was
    c.in_err-persist_boot.ensures.full_keeps c.in_err-persist_boot.ensures.memory_keeps (λ n bad. c.in_err-persist_boot.ensures.a_log n bad at.0))

-- ---- areas that give no log

pub returns-in_err-log-clause-unread : goal.returns-in_err-log-clause-unread
returns-in_err-log-clause-unread g c n told told_other read =
    let p = err_from_is_err_and c.from_residual.result c.from_residual.ensures.1 in
    rw (p.1, p.2)
    (open-unread n c.args.centre g.D.Disks.disk c.args.disks.now c.open.new.disks c.in_err-log.field-0.0 read
    (λ m is. c.in_err-log.ensures.not_a_log m is told told_other) c.in_err-log.ensures.not_a_log_keeps c.in_err-log.ensures.memory c.in_err-log.ensures.not_full)

pub returns-in_err-node-clause-unread : goal.returns-in_err-node-clause-unread
returns-in_err-node-clause-unread g c n told told_other read =
    absurd (no-log (g.D.Disks.disk c.args.disks.now c.args.centre).bytes (g.D.Disks.disk c.args.disks.now (c.args.centre + 16)).bytes c.in_ok-log.payloads.items n (c.in_ok-log.ensures.payloads told told_other) read)

pub returns-in_err-persist_boot-clause-unread : goal.returns-in_err-persist_boot-clause-unread
returns-in_err-persist_boot-clause-unread g c n told told_other read =
    absurd (no-log (g.D.Disks.disk c.args.disks.now c.args.centre).bytes (g.D.Disks.disk c.args.disks.now (c.args.centre + 16)).bytes c.in_ok-log.payloads.items n (c.in_ok-log.ensures.payloads told told_other) read)

pub returns-clause-unread : goal.returns-clause-unread
returns-clause-unread g c n told told_other read =
    absurd (no-log (g.D.Disks.disk c.args.disks.now c.args.centre).bytes (g.D.Disks.disk c.args.disks.now (c.args.centre + 16)).bytes c.in_ok-log.payloads.items n (c.in_ok-log.ensures.payloads told told_other) read)

pub returns-in_err-log-clause-not_a_log : goal.returns-in_err-log-clause-not_a_log
returns-in_err-log-clause-not_a_log g c n = λ h told told_other.
    let p = err_from_is_err_and c.from_residual.result c.from_residual.ensures.1 in
    let is = sym p.1 ∙ h in
    let same : p.0 ≡ StartFault.Log (LogFault.NotALog n) = cc in
    let fault : c.in_err-log.field-0.0 ≡ LogFault.NotALog n = of-no-log n c.in_err-log.field-0.0 (sym p.2 ∙ same) in
    c.in_err-log.ensures.not_a_log n (rw fault refl) told told_other

pub returns-in_err-persist_boot-clause-not_a_log : goal.returns-in_err-persist_boot-clause-not_a_log
returns-in_err-persist_boot-clause-not_a_log g c n = λ h told told_other.
    let p = err_from_is_err_and c.from_residual-in_err-persist_boot.result c.from_residual-in_err-persist_boot.ensures.1 in
    let is = sym p.1 ∙ h in
    let same : p.0 ≡ StartFault.Log (LogFault.NotALog n) = cc in
    let fault : c.in_err-persist_boot.field-0.0 ≡ LogFault.NotALog n = of-no-log n c.in_err-persist_boot.field-0.0 (sym p.2 ∙ same) in
    let at = at_both (λ p. IsTrue (g.D.Disks.disk c.open.new.disks p).told) c.args.centre c.in_ok-log.log.centre c.in_ok-log.log.area c.in_ok-log.ensures.keeps.0 (c.open.ensures.others.told_one ∙ told) (c.open.ensures.others.told_two ∙ told_other) c.in_ok-log.ensures.range in
    absurd (c.in_err-persist_boot.ensures.a_log n (rw fault refl) at.0)

-- ---- at any moment

pub returns-in_err-log-clause-any_moment : goal.returns-in_err-log-clause-any_moment
returns-in_err-log-clause-any_moment g c total facts area log holds are told told_other left is =
    let boot = fact_bytes (next_boot facts) in
    let struck = left_struck (g.D.Disks.may_leave c.args.disks.now) c.args.centre area log boot left in
    record {
      current = c.open.ensures.any_moment_due area log boot struck.range told told_other struck.current;
      other = c.open.ensures.any_moment_idle area log (appended log boot) boot struck.range refl told told_other struck.current struck.other;
    }

pub returns-in_err-log-clause-any_moment_between : goal.returns-in_err-log-clause-any_moment_between
returns-in_err-log-clause-any_moment_between g c total facts fact area log holds are told told_other struck is =
    inl (record {
      current = c.open.ensures.any_moment_due area log (fact_bytes fact) struck.range told told_other struck.current;
      other = c.open.ensures.any_moment_idle area log (appended log (fact_bytes fact)) (fact_bytes fact) struck.range refl told told_other struck.current struck.other;
    })

pub returns-in_err-log-clause-any_moment_same : goal.returns-in_err-log-clause-any_moment_same
returns-in_err-log-clause-any_moment_same g c total facts current other holds are log never only only_other left left_other =
    inl (c.open.ensures.any_moment_same (encodings_of facts) current other never log.told_first log.told_second only only_other log.read left left_other)

pub returns-in_err-node-clause-any_moment : goal.returns-in_err-node-clause-any_moment
returns-in_err-node-clause-any_moment g c total facts area log holds are told told_other left is =
    let boot = fact_bytes (next_boot facts) in
    let struck = left_struck (g.D.Disks.may_leave c.args.disks.now) c.args.centre area log boot left in
    record {
      current = c.open.ensures.any_moment_due area log boot struck.range told told_other struck.current;
      other = c.open.ensures.any_moment_idle area log (appended log boot) boot struck.range refl told told_other struck.current struck.other;
    }

pub returns-in_err-node-clause-any_moment_between : goal.returns-in_err-node-clause-any_moment_between
returns-in_err-node-clause-any_moment_between g c total facts fact area log holds are told told_other struck is =
    inl (record {
      current = c.open.ensures.any_moment_due area log (fact_bytes fact) struck.range told told_other struck.current;
      other = c.open.ensures.any_moment_idle area log (appended log (fact_bytes fact)) (fact_bytes fact) struck.range refl told told_other struck.current struck.other;
    })

pub returns-in_err-node-clause-any_moment_same : goal.returns-in_err-node-clause-any_moment_same
returns-in_err-node-clause-any_moment_same g c total facts current other holds are log never only only_other left left_other =
    inl (c.open.ensures.any_moment_same (encodings_of facts) current other never log.told_first log.told_second only only_other log.read left left_other)

pub returns-in_err-persist_boot-clause-any_moment : goal.returns-in_err-persist_boot-clause-any_moment
returns-in_err-persist_boot-clause-any_moment g c total facts area log holds are told told_other left is =
    let boot = fact_bytes (next_boot facts) in
    let struck = left_struck (g.D.Disks.may_leave c.args.disks.now) c.args.centre area log boot left in
    let read = left_read g.D.Disks.disk g.D.Disks.may_leave g.met.D.Disks.as_read c.args.disks.now c.args.centre area log told told_other left in
    let at = at_both (λ p. IsTrue (g.D.Disks.disk c.open.new.disks p).told) c.args.centre c.in_ok-log.log.centre c.in_ok-log.log.area c.in_ok-log.ensures.keeps.0 (c.open.ensures.others.told_one ∙ told) (c.open.ensures.others.told_two ∙ told_other) c.in_ok-log.ensures.range in
    let opened = c.in_ok-log.ensures.opened told told_other in
    let due = c.persist_boot.ensures.any_moment opened.log at.0 at.1 opened.in_use in
    let idle = c.persist_boot.ensures.any_moment_other opened.log at.0 at.1 opened.in_use opened.spare in
    let booted = c.in_ok-node.ensures.node total facts holds are (c.as_slice.ensures.value ∙ (opened.payloads_are ∙ ap payloads_of (same_log opened.log log (sym opened.read ∙ read.log_is)) ∙ is)) in
    struck_joined g.D.Disks.moment g.D.Disks.left_since c.args.disks.now c.open.new.disks c.persist_boot.new.disks c.args.centre area log boot
    (record {
      current = c.open.ensures.any_moment_due area log boot struck.range told told_other struck.current;
      other = c.open.ensures.any_moment_idle area log (appended log boot) boot struck.range refl told told_other struck.current struck.other;
    })
    (struck_as g.D.Disks.moment g.D.Disks.left_since c.open.new.disks c.persist_boot.new.disks c.args.centre area c.in_ok-log.log.centre c.in_ok-log.log.area log opened.log boot (fact_bytes c.in_ok-node.boot) c.in_ok-log.ensures.keeps.0
    (same_area c.in_ok-log.log.area area (sym opened.choice ∙ read.choice)) (same_log opened.log log (sym opened.read ∙ read.log_is)) (ap fact_bytes booted.2) due idle)

pub returns-in_err-persist_boot-clause-any_moment_same : goal.returns-in_err-persist_boot-clause-any_moment_same
returns-in_err-persist_boot-clause-any_moment_same g c total facts current other holds are log never only only_other left left_other =
    let told = log.told_first in
    let told_other = log.told_second in
    let at = at_both (λ p. IsTrue (g.D.Disks.disk c.open.new.disks p).told) c.args.centre c.in_ok-log.log.centre c.in_ok-log.log.area c.in_ok-log.ensures.keeps.0 (c.open.ensures.others.told_one ∙ told) (c.open.ensures.others.told_two ∙ told_other) c.in_ok-log.ensures.range in
    let opened = c.in_ok-log.ensures.opened told told_other in
    let due = c.persist_boot.ensures.any_moment opened.log at.0 at.1 opened.in_use in
    let idle = c.persist_boot.ensures.any_moment_other opened.log at.0 at.1 opened.in_use opened.spare in
    let is = same-payloads (g.D.Disks.disk c.args.disks.now c.args.centre).bytes (g.D.Disks.disk c.args.disks.now (c.args.centre + 16)).bytes c.in_ok-log.payloads.items (encodings_of facts) (c.in_ok-log.ensures.payloads log.told_first log.told_second) log.read in
    let booted = c.in_ok-node.ensures.node total facts holds are (c.as_slice.ensures.value ∙ is) in
    let boot = fact_bytes (next_boot facts) in
    let struck = struck_as g.D.Disks.moment g.D.Disks.left_since c.open.new.disks c.persist_boot.new.disks c.args.centre c.in_ok-log.log.area c.in_ok-log.log.centre c.in_ok-log.log.area opened.log opened.log boot (fact_bytes c.in_ok-node.boot) c.in_ok-log.ensures.keeps.0 refl refl (ap fact_bytes booted.2) due idle in
    subst (λ (ps : List (List ℕ)). ReadsAsEither ps boot (payloads current other)) (sym opened.payloads_are ∙ is)
    (same_read g.D.Disks.moment g.D.Disks.left_since g.D.Disks.tears never (g.D.Disks.disk c.args.disks.now c.args.centre).bytes (g.D.Disks.disk c.args.disks.now (c.args.centre + 16)).bytes opened.log boot opened.read (g.D.Disks.may_leave c.args.disks.now c.args.centre) (g.D.Disks.may_leave c.args.disks.now (c.args.centre + 16)) c.args.disks.now c.open.new.disks c.persist_boot.new.disks c.args.centre c.in_ok-log.log.area
    c.in_ok-log.ensures.range opened.choice opened.in_use.valid only only_other (c.open.ensures.first told told_other).any_moment (c.open.ensures.second told told_other).any_moment struck current other left left_other)

pub returns-in_err-persist_boot-clause-any_moment_between : goal.returns-in_err-persist_boot-clause-any_moment_between
returns-in_err-persist_boot-clause-any_moment_between g c total facts fact area log holds are told told_other struck is =
    let at = at_both (λ p. IsTrue (g.D.Disks.disk c.open.new.disks p).told) c.args.centre c.in_ok-log.log.centre c.in_ok-log.log.area c.in_ok-log.ensures.keeps.0 (c.open.ensures.others.told_one ∙ told) (c.open.ensures.others.told_two ∙ told_other) c.in_ok-log.ensures.range in
    let opened = c.in_ok-log.ensures.opened told told_other in
    let due = c.persist_boot.ensures.any_moment opened.log at.0 at.1 opened.in_use in
    let idle = c.persist_boot.ensures.any_moment_other opened.log at.0 at.1 opened.in_use opened.spare in
    let opening : LeavesStruck g.D.Disks.moment g.D.Disks.left_since c.args.disks.now c.open.new.disks c.args.centre area log (fact_bytes fact) = record {
      current = c.open.ensures.any_moment_due area log (fact_bytes fact) struck.range told told_other struck.current;
      other = c.open.ensures.any_moment_idle area log (appended log (fact_bytes fact)) (fact_bytes fact) struck.range refl told told_other struck.current struck.other;
    } in
    inr (record {
      opened = c.open.new.disks;
      opening = opening;
      booting = after-crash (LeavesBoot g.D.Disks.moment g.D.Disks.left_since c.open.new.disks c.persist_boot.new.disks c.args.centre) c.args.cluster facts fact (g.D.Disks.disk c.args.disks.now c.args.centre) (g.D.Disks.disk c.args.disks.now (c.args.centre + 16))
          (λ fs of_cluster found.
          (let same = same-payloads (g.D.Disks.disk c.args.disks.now c.args.centre).bytes (g.D.Disks.disk c.args.disks.now (c.args.centre + 16)).bytes c.in_ok-log.payloads.items (encodings_of fs) (c.in_ok-log.ensures.payloads told told_other) found.read in
          let booted = c.in_ok-node.ensures.node total fs holds of_cluster (c.as_slice.ensures.value ∙ same) in
          boot_leaves g.D.Disks.moment g.D.Disks.left_since c.open.new.disks c.persist_boot.new.disks c.args.centre c.in_ok-log.log.centre c.in_ok-log.log.area opened.log fs (fact_bytes c.in_ok-node.boot) c.in_ok-log.ensures.keeps.0 c.in_ok-log.ensures.range (sym opened.payloads_are ∙ same) (ap fact_bytes booted.2) due idle))
          are told told_other (struck_read g.D.Disks.disk g.D.Disks.may_leave g.met.D.Disks.as_read c.args.disks.now c.args.centre area log facts (fact_bytes fact) told told_other struck is);
    })

pub returns-clause-any_moment : goal.returns-clause-any_moment
returns-clause-any_moment g c total facts area log holds are told told_other left is =
    let boot = fact_bytes (next_boot facts) in
    let struck = left_struck (g.D.Disks.may_leave c.args.disks.now) c.args.centre area log boot left in
    let read = left_read g.D.Disks.disk g.D.Disks.may_leave g.met.D.Disks.as_read c.args.disks.now c.args.centre area log told told_other left in
    let at = at_both (λ p. IsTrue (g.D.Disks.disk c.open.new.disks p).told) c.args.centre c.in_ok-log.log.centre c.in_ok-log.log.area c.in_ok-log.ensures.keeps.0 (c.open.ensures.others.told_one ∙ told) (c.open.ensures.others.told_two ∙ told_other) c.in_ok-log.ensures.range in
    let opened = c.in_ok-log.ensures.opened told told_other in
    let due = c.persist_boot.ensures.any_moment opened.log at.0 at.1 opened.in_use in
    let idle = c.persist_boot.ensures.any_moment_other opened.log at.0 at.1 opened.in_use opened.spare in
    let booted = c.in_ok-node.ensures.node total facts holds are (c.as_slice.ensures.value ∙ (opened.payloads_are ∙ ap payloads_of (same_log opened.log log (sym opened.read ∙ read.log_is)) ∙ is)) in
    struck_joined g.D.Disks.moment g.D.Disks.left_since c.args.disks.now c.open.new.disks c.persist_boot.new.disks c.args.centre area log boot
    (record {
      current = c.open.ensures.any_moment_due area log boot struck.range told told_other struck.current;
      other = c.open.ensures.any_moment_idle area log (appended log boot) boot struck.range refl told told_other struck.current struck.other;
    })
    (struck_as g.D.Disks.moment g.D.Disks.left_since c.open.new.disks c.persist_boot.new.disks c.args.centre area c.in_ok-log.log.centre c.in_ok-log.log.area log opened.log boot (fact_bytes c.in_ok-node.boot) c.in_ok-log.ensures.keeps.0
    (same_area c.in_ok-log.log.area area (sym opened.choice ∙ read.choice)) (same_log opened.log log (sym opened.read ∙ read.log_is)) (ap fact_bytes booted.2) due idle)

pub returns-clause-any_moment_same : goal.returns-clause-any_moment_same
returns-clause-any_moment_same g c total facts current other holds are log never only only_other left left_other =
    let told = log.told_first in
    let told_other = log.told_second in
    let at = at_both (λ p. IsTrue (g.D.Disks.disk c.open.new.disks p).told) c.args.centre c.in_ok-log.log.centre c.in_ok-log.log.area c.in_ok-log.ensures.keeps.0 (c.open.ensures.others.told_one ∙ told) (c.open.ensures.others.told_two ∙ told_other) c.in_ok-log.ensures.range in
    let opened = c.in_ok-log.ensures.opened told told_other in
    let due = c.persist_boot.ensures.any_moment opened.log at.0 at.1 opened.in_use in
    let idle = c.persist_boot.ensures.any_moment_other opened.log at.0 at.1 opened.in_use opened.spare in
    let is = same-payloads (g.D.Disks.disk c.args.disks.now c.args.centre).bytes (g.D.Disks.disk c.args.disks.now (c.args.centre + 16)).bytes c.in_ok-log.payloads.items (encodings_of facts) (c.in_ok-log.ensures.payloads log.told_first log.told_second) log.read in
    let booted = c.in_ok-node.ensures.node total facts holds are (c.as_slice.ensures.value ∙ is) in
    let boot = fact_bytes (next_boot facts) in
    let struck = struck_as g.D.Disks.moment g.D.Disks.left_since c.open.new.disks c.persist_boot.new.disks c.args.centre c.in_ok-log.log.area c.in_ok-log.log.centre c.in_ok-log.log.area opened.log opened.log boot (fact_bytes c.in_ok-node.boot) c.in_ok-log.ensures.keeps.0 refl refl (ap fact_bytes booted.2) due idle in
    subst (λ (ps : List (List ℕ)). ReadsAsEither ps boot (payloads current other)) (sym opened.payloads_are ∙ is)
    (same_read g.D.Disks.moment g.D.Disks.left_since g.D.Disks.tears never (g.D.Disks.disk c.args.disks.now c.args.centre).bytes (g.D.Disks.disk c.args.disks.now (c.args.centre + 16)).bytes opened.log boot opened.read (g.D.Disks.may_leave c.args.disks.now c.args.centre) (g.D.Disks.may_leave c.args.disks.now (c.args.centre + 16)) c.args.disks.now c.open.new.disks c.persist_boot.new.disks c.args.centre c.in_ok-log.log.area
    c.in_ok-log.ensures.range opened.choice opened.in_use.valid only only_other (c.open.ensures.first told told_other).any_moment (c.open.ensures.second told told_other).any_moment struck current other left left_other)

pub returns-clause-any_moment_between : goal.returns-clause-any_moment_between
returns-clause-any_moment_between g c total facts fact area log holds are told told_other struck is =
    let at = at_both (λ p. IsTrue (g.D.Disks.disk c.open.new.disks p).told) c.args.centre c.in_ok-log.log.centre c.in_ok-log.log.area c.in_ok-log.ensures.keeps.0 (c.open.ensures.others.told_one ∙ told) (c.open.ensures.others.told_two ∙ told_other) c.in_ok-log.ensures.range in
    let opened = c.in_ok-log.ensures.opened told told_other in
    let due = c.persist_boot.ensures.any_moment opened.log at.0 at.1 opened.in_use in
    let idle = c.persist_boot.ensures.any_moment_other opened.log at.0 at.1 opened.in_use opened.spare in
    let opening : LeavesStruck g.D.Disks.moment g.D.Disks.left_since c.args.disks.now c.open.new.disks c.args.centre area log (fact_bytes fact) = record {
      current = c.open.ensures.any_moment_due area log (fact_bytes fact) struck.range told told_other struck.current;
      other = c.open.ensures.any_moment_idle area log (appended log (fact_bytes fact)) (fact_bytes fact) struck.range refl told told_other struck.current struck.other;
    } in
    inr (record {
      opened = c.open.new.disks;
      opening = opening;
      booting = after-crash (LeavesBoot g.D.Disks.moment g.D.Disks.left_since c.open.new.disks c.persist_boot.new.disks c.args.centre) c.args.cluster facts fact (g.D.Disks.disk c.args.disks.now c.args.centre) (g.D.Disks.disk c.args.disks.now (c.args.centre + 16))
          (λ fs of_cluster found.
          (let same = same-payloads (g.D.Disks.disk c.args.disks.now c.args.centre).bytes (g.D.Disks.disk c.args.disks.now (c.args.centre + 16)).bytes c.in_ok-log.payloads.items (encodings_of fs) (c.in_ok-log.ensures.payloads told told_other) found.read in
          let booted = c.in_ok-node.ensures.node total fs holds of_cluster (c.as_slice.ensures.value ∙ same) in
          boot_leaves g.D.Disks.moment g.D.Disks.left_since c.open.new.disks c.persist_boot.new.disks c.args.centre c.in_ok-log.log.centre c.in_ok-log.log.area opened.log fs (fact_bytes c.in_ok-node.boot) c.in_ok-log.ensures.keeps.0 c.in_ok-log.ensures.range (sym opened.payloads_are ∙ same) (ap fact_bytes booted.2) due idle))
          are told told_other (struck_read g.D.Disks.disk g.D.Disks.may_leave g.met.D.Disks.as_read c.args.disks.now c.args.centre area log facts (fact_bytes fact) told told_other struck is);
    })

-- ---- all other places

pub returns-in_err-persist_boot-clause-others : goal.returns-in_err-persist_boot-clause-others
returns-in_err-persist_boot-clause-others g c =
    but_joined g.D.Disks.disk g.D.Disks.may_leave g.D.Disks.moment g.D.Disks.left_since c.args.disks.now c.open.new.disks c.persist_boot.new.disks c.args.centre (c.args.centre + 16) c.open.ensures.others
    (but_areas g.D.Disks.disk g.D.Disks.may_leave g.D.Disks.moment g.D.Disks.left_since c.open.new.disks c.persist_boot.new.disks c.args.centre c.in_ok-log.log.centre c.in_ok-log.log.area c.in_ok-log.ensures.keeps.0 c.in_ok-log.ensures.range c.persist_boot.ensures.others)

pub returns-clause-others : goal.returns-clause-others
returns-clause-others g c =
    but_joined g.D.Disks.disk g.D.Disks.may_leave g.D.Disks.moment g.D.Disks.left_since c.args.disks.now c.open.new.disks c.persist_boot.new.disks c.args.centre (c.args.centre + 16) c.open.ensures.others
    (but_areas g.D.Disks.disk g.D.Disks.may_leave g.D.Disks.moment g.D.Disks.left_since c.open.new.disks c.persist_boot.new.disks c.args.centre c.in_ok-log.log.centre c.in_ok-log.log.area c.in_ok-log.ensures.keeps.0 c.in_ok-log.ensures.range c.persist_boot.ensures.others)

-- ---- faults

pub returns-in_err-persist_boot-clause-disk_fault : goal.returns-in_err-persist_boot-clause-disk_fault
returns-in_err-persist_boot-clause-disk_fault g c = λ h.
    let p = err_from_is_err_and c.from_residual-in_err-persist_boot.result c.from_residual-in_err-persist_boot.ensures.1 in
    let is = sym p.1 ∙ h in
    let same : p.0 ≡ StartFault.Log LogFault.DiskFault = cc in
    let fault : c.in_err-persist_boot.field-0.0 ≡ LogFault.DiskFault = of-disk c.in_err-persist_boot.field-0.0 (sym p.2 ∙ same) in
    rose_areas g.D.Disks.disk g.D.Disks.may_leave g.D.Disks.moment g.D.Disks.left_since c.args.disks.now c.open.new.disks c.persist_boot.new.disks c.args.centre c.in_ok-log.log.centre c.in_ok-log.log.area c.in_ok-log.ensures.keeps.0 c.in_ok-log.ensures.range c.open.ensures.others (c.in_err-persist_boot.ensures.disk_fault (rw fault refl))

pub returns-in_err-persist_boot-clause-log_memory : goal.returns-in_err-persist_boot-clause-log_memory
returns-in_err-persist_boot-clause-log_memory g c = λ h.
    let p = err_from_is_err_and c.from_residual-in_err-persist_boot.result c.from_residual-in_err-persist_boot.ensures.1 in
    let is = sym p.1 ∙ h in
    let same : p.0 ≡ StartFault.Log LogFault.Memory = cc in
    no-log-memory c.in_err-persist_boot.field-0.0 (sym p.2 ∙ same)

pub returns-in_err-persist_boot-clause-boot_memory : goal.returns-in_err-persist_boot-clause-boot_memory
returns-in_err-persist_boot-clause-boot_memory g c = λ h.
    let p = err_from_is_err_and c.from_residual-in_err-persist_boot.result c.from_residual-in_err-persist_boot.ensures.1 in
    let is = sym p.1 ∙ h in
    let same : p.0 ≡ StartFault.Boot BootFault.Memory = cc in
    no-boot-memory c.in_err-persist_boot.field-0.0 (sym p.2 ∙ same)

-- ---- how many frames stand behind the records then

pub returns-clause-tail : goal.returns-clause-tail
returns-clause-tail g c log told told_other read =
    let opened = c.in_ok-log.ensures.opened told told_other in
    let same : opened.log ≡ log = same_log opened.log log (sym opened.read ∙ read) in
    c.in_ok-persist_boot.ensures.tail ∙ ap (λ (n : ℕ). tail_after n c.in_ok-log.log.tail) c.in_ok-log.ensures.keeps.1 ∙ ap (λ (n : ℕ). tail_after c.args.every n) opened.in_use.tail ∙ ap (λ (l : AreaLog). tail_after c.args.every (length l.tail)) same

-- ---- over any payloads

pub returns-in_err-log-clause-over_any : goal.returns-in_err-log-clause-over_any
returns-in_err-log-clause-over_any g c total holds =
    let p = err_from_is_err_and c.from_residual.result c.from_residual.ensures.1 in
    rw (p.1, p.2)
    (open_ends g.D.Disks.disk g.D.Disks.may_leave c.args.centre c.args.every c.args.disks.now c.open.new.disks g.S.FactStore.stands g.S.FactStore.cells total c.args.cluster c.in_err-log.field-0.0 c.in_err-log.ensures.not_full)

pub returns-in_err-node-clause-over_any : goal.returns-in_err-node-clause-over_any
returns-in_err-node-clause-over_any g c total holds =
    let p = err_from_is_err_and c.from_residual-in_err-node.result c.from_residual-in_err-node.ensures.1 in
    rw (p.1, p.2)
    (boot_ends g.D.Disks.disk g.D.Disks.may_leave c.args.centre c.args.every c.args.disks.now c.open.new.disks g.S.FactStore.stands g.S.FactStore.cells total c.args.cluster c.in_ok-log.payloads.items c.in_err-node.field-0.0
    (record {
      log = c.in_ok-log.log;
      of = c.in_ok-log.ensures.keeps.0;
      every_is = c.in_ok-log.ensures.keeps.1;
      bytes = subst (λ (ps : List (List ℕ)). AllByRecursion AreBytes ps) c.as_slice.ensures.value c.boot_node.ensures.bytes;
      short = c.in_ok-log.ensures.short;
      read = c.in_ok-log.ensures.payloads;
      open_log = c.in_ok-log.ensures.at_rest;
    })
    (boots-over g.S.FactStore.stands g.S.FactStore.cells total c.args.cluster c.args.centre c.as_slice.result.now c.in_ok-log.payloads.items (Err c.in_err-node.field-0.0) c.as_slice.ensures.value (c.in_err-node.ensures.boots total holds))
    c.in_err-node.ensures.no_log)

pub returns-in_err-persist_boot-clause-over_any : goal.returns-in_err-persist_boot-clause-over_any
returns-in_err-persist_boot-clause-over_any g c total holds =
    let p = err_from_is_err_and c.from_residual-in_err-persist_boot.result c.from_residual-in_err-persist_boot.ensures.1 in
    rw (p.1, p.2)
    (append_ends g.D.Disks.disk g.D.Disks.may_leave c.args.centre c.args.every c.args.disks.now c.persist_boot.new.disks g.S.FactStore.stands g.S.FactStore.cells total c.args.cluster c.in_err-persist_boot.field-0.0
    (λ is. (let said : IsErrOf {T = Unit {0}} (Err c.in_err-persist_boot.field-0.0) LogFault.LogFull = rw is refl in record {
      all = c.in_ok-log.payloads.items;
      opened = record {
        log = c.in_ok-log.log;
        of = c.in_ok-log.ensures.keeps.0;
        every_is = c.in_ok-log.ensures.keeps.1;
        bytes = subst (λ (ps : List (List ℕ)). AllByRecursion AreBytes ps) c.as_slice.ensures.value c.boot_node.ensures.bytes;
        short = c.in_ok-log.ensures.short;
        read = c.in_ok-log.ensures.payloads;
        open_log = λ told told_other. subst (λ d. IsAtRest g.D.Disks.disk g.D.Disks.may_leave d c.in_ok-log.log c.in_ok-log.payloads.items) (sym (c.in_err-persist_boot.ensures.full_keeps said)) (c.in_ok-log.ensures.at_rest told told_other);
      };
      booted = (c.in_ok-node.node, c.in_ok-node.boot);
      boots = subst (λ (ps : List (List ℕ)). BootsFrom g.S.FactStore.stands g.S.FactStore.cells total c.args.cluster c.args.centre ps (Ok (c.in_ok-node.node, c.in_ok-node.boot))) c.as_slice.ensures.value (c.in_ok-node.ensures.boots total holds);
      full = c.in_err-persist_boot.ensures.full said;
    })))

pub returns-clause-over_any : goal.returns-clause-over_any
returns-clause-over_any g c total holds = record {
  all = c.in_ok-log.payloads.items;
  boot = c.in_ok-node.boot;
  bytes = subst (λ (ps : List (List ℕ)). AllByRecursion AreBytes ps) c.as_slice.ensures.value c.boot_node.ensures.bytes;
  short = c.in_ok-log.ensures.short;
  read = c.in_ok-log.ensures.payloads;
  boots = subst (λ (ps : List (List ℕ)). BootsFrom g.S.FactStore.stands g.S.FactStore.cells total c.args.cluster c.args.centre ps (Ok (c.in_ok-node.node, c.in_ok-node.boot))) c.as_slice.ensures.value (c.in_ok-node.ensures.boots total holds);
  epoch = λ facts node. c.epoch-epoch.ensures c.args.cluster c.args.centre facts _ node;
  open_log = λ told told_other.
      let at = at_both (λ p. IsTrue (g.D.Disks.disk c.open.new.disks p).told) c.args.centre c.in_ok-log.log.centre c.in_ok-log.log.area c.in_ok-log.ensures.keeps.0 (c.open.ensures.others.told_one ∙ told) (c.open.ensures.others.told_two ∙ told_other) c.in_ok-log.ensures.range in
      c.in_ok-persist_boot.ensures.acknowledged c.in_ok-log.payloads.items at.0 at.1 (c.in_ok-log.ensures.at_rest told told_other);
}

-- ---- what a crash leaves where it is refused

pub returns-in_err-log-clause-any_moment_refused : goal.returns-in_err-log-clause-any_moment_refused
returns-in_err-log-clause-any_moment_refused g c all current other never told told_other only only_other read left left_other =
    each-fault (λ fault. KeepsUnlessDisk fault (payloads current other ≡ Ok all)) c.from_residual.result
    (λ fault. kept_unless fault (payloads current other ≡ Ok all) (c.open.ensures.any_moment_same all current other never told told_other only only_other read left left_other))

pub returns-in_err-node-clause-any_moment_refused : goal.returns-in_err-node-clause-any_moment_refused
returns-in_err-node-clause-any_moment_refused g c all current other never told told_other only only_other read left left_other =
    each-fault (λ fault. KeepsUnlessDisk fault (payloads current other ≡ Ok all)) c.from_residual-in_err-node.result
    (λ fault. kept_unless fault (payloads current other ≡ Ok all) (c.open.ensures.any_moment_same all current other never told told_other only only_other read left left_other))

pub returns-in_err-persist_boot-clause-any_moment_refused : goal.returns-in_err-persist_boot-clause-any_moment_refused
returns-in_err-persist_boot-clause-any_moment_refused g c all current other never told told_other only only_other read left left_other =
    let p = err_from_is_err_and c.from_residual-in_err-persist_boot.result c.from_residual-in_err-persist_boot.ensures.1 in
    let at = at_both (λ p. IsTrue (g.D.Disks.disk c.open.new.disks p).told) c.args.centre c.in_ok-log.log.centre c.in_ok-log.log.area c.in_ok-log.ensures.keeps.0 (c.open.ensures.others.told_one ∙ told) (c.open.ensures.others.told_two ∙ told_other) c.in_ok-log.ensures.range in
    rw (p.1, p.2)
    (append_kept c.open.new.disks c.persist_boot.new.disks c.in_err-persist_boot.field-0.0 (λ d. payloads current other ≡ Ok all) c.in_err-persist_boot.ensures.full_keeps c.in_err-persist_boot.ensures.memory_keeps
    (λ n bad. c.in_err-persist_boot.ensures.a_log n bad at.0)
    (λ same. c.open.ensures.any_moment_same all current other never told told_other only only_other read
    (subst (λ d. g.D.Disks.left_since d c.args.centre (g.D.Disks.moment c.args.disks.now) current) same left)
    (subst (λ d. g.D.Disks.left_since d (c.args.centre + 16) (g.D.Disks.moment c.args.disks.now) other) same left_other)))

-- ---- after a crash of an append of several facts

pub returns-in_err-log-clause-after_group : goal.returns-in_err-log-clause-after_group
returns-in_err-log-clause-after_group g c total facts more holds are told told_other either =
    after-group (λ fs. StartGives g.S.FactStore.stands g.S.FactStore.cells total c.from_residual.result c.args.cluster c.args.centre c.args.every fs g.D.Disks.disk g.D.Disks.may_leave c.args.disks.now c.open.new.disks)
    c.args.cluster facts more (g.D.Disks.disk c.args.disks.now c.args.centre) (g.D.Disks.disk c.args.disks.now (c.args.centre + 16)) (λ fs of_cluster log. returns-in_err-log-clause-starts g c total fs holds of_cluster log) are told told_other either

pub returns-in_err-node-clause-after_group : goal.returns-in_err-node-clause-after_group
returns-in_err-node-clause-after_group g c total facts more holds are told told_other either =
    after-group (λ fs. StartGives g.S.FactStore.stands g.S.FactStore.cells total c.from_residual-in_err-node.result c.args.cluster c.args.centre c.args.every fs g.D.Disks.disk g.D.Disks.may_leave c.args.disks.now c.open.new.disks)
    c.args.cluster facts more (g.D.Disks.disk c.args.disks.now c.args.centre) (g.D.Disks.disk c.args.disks.now (c.args.centre + 16)) (λ fs of_cluster log. returns-in_err-node-clause-starts g c total fs holds of_cluster log) are told told_other either

pub returns-in_err-persist_boot-clause-after_group : goal.returns-in_err-persist_boot-clause-after_group
returns-in_err-persist_boot-clause-after_group g c total facts more holds are told told_other either =
    after-group (λ fs. StartGives g.S.FactStore.stands g.S.FactStore.cells total c.from_residual-in_err-persist_boot.result c.args.cluster c.args.centre c.args.every fs g.D.Disks.disk g.D.Disks.may_leave c.args.disks.now c.persist_boot.new.disks)
    c.args.cluster facts more (g.D.Disks.disk c.args.disks.now c.args.centre) (g.D.Disks.disk c.args.disks.now (c.args.centre + 16)) (λ fs of_cluster log. returns-in_err-persist_boot-clause-starts g c total fs holds of_cluster log) are told told_other either

pub returns-clause-after_group : goal.returns-clause-after_group
returns-clause-after_group g c total facts more holds are told told_other either =
    after-group (λ fs. StartGives g.S.FactStore.stands g.S.FactStore.cells total (Ok (record { node = c.in_ok-node.node; log = c.persist_boot.new.log; epoch = c.epoch-epoch.result })) c.args.cluster c.args.centre c.args.every fs g.D.Disks.disk g.D.Disks.may_leave c.args.disks.now c.persist_boot.new.disks)
    c.args.cluster facts more (g.D.Disks.disk c.args.disks.now c.args.centre) (g.D.Disks.disk c.args.disks.now (c.args.centre + 16)) (λ fs of_cluster log. returns-clause-starts g c total fs holds of_cluster log) are told told_other either
