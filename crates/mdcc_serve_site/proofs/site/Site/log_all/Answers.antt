use Rattle.std.proofs.Common.{◌≡◌, ◌≤◌, ◌<◌, ◌++◌, ℕ, List, Result, Err, arith, inl, refl, subst, sym}
use Rattle.mdcc_log_file.specs.declared.fault.LogFault.{LogFault}
use Rattle.mdcc_log.specs.AtRest.{IsAtRest}
use Rattle.mdcc_log.specs.Groups.{AreFull, ReadsAsAllOrNone}
use Rattle.mdcc_log.specs.Crash.{payloads_by}
use Rattle.mdcc_serve_site.proofs.Logged.{append_fails, appended_stands, either_left, payloads_short, same_fault, settled_there, some_facts, spare_there}
use Rattle.mdcc_serve_site.proofs.site.Site.log_all.Goals as goal

-- the area, as its number is told
range-of : {told area : ℕ} → told ≡ area → told ≤ 1 → area ≤ 1
range-of is few = omega (is, few, arith)

err-of : {fault other : LogFault} → fault ≡ other → ◌≡◌ {A = Result (Unit {0}) LogFault} (Err fault) (Err other)
err-of is = cc

pub persist-requires-clause-short : goal.persist-requires-clause-short
persist-requires-clause-short g c = payloads_short c.args.payloads.now c.requires.short

pub persist-requires-clause-settled : goal.persist-requires-clause-settled
persist-requires-clause-settled g c told =
    settled_there g.D.Disks.disk g.D.Disks.may_leave c.current_is_read.ensures c.args.disks.now c.args.self.now.log c.args.self.now.centre c.requires.stands.1 c.requires.stands.2.open_log
    (range-of c.area-area.ensures.value c.area-area.ensures.range) told

pub persist-requires-clause-spare : goal.persist-requires-clause-spare
persist-requires-clause-spare g c told =
    spare_there g.D.Disks.disk g.D.Disks.may_leave c.current_is_read.ensures c.args.disks.now c.args.self.now.log c.args.self.now.centre c.requires.stands.1 c.requires.stands.2.open_log
    (range-of c.area-area.ensures.value c.area-area.ensures.range) told

pub returns-in-Ok-clause-logs : goal.returns-in-Ok-clause-logs
returns-in-Ok-clause-logs g c every before facts stands are =
    appended_stands g.D.Disks.disk g.D.Disks.may_leave c.current_is_read.ensures g.D.Disks.moment g.D.Disks.left_since c.args.disks.now c.persist.new.disks
    c.args.self.now.log c.args.self.now.centre (range-of c.area-area.ensures.value c.area-area.ensures.range) stands.open_log.of c.persist.ensures.others every c.persist.new.log before facts
    stands.open_log
    (λ all told told_other rest. subst (λ (ps : List (List ℕ)). IsAtRest g.D.Disks.disk g.D.Disks.may_leave c.persist.new.disks c.persist.new.log (all ++ ps)) are
    (c.in-Ok.ensures.acknowledged all told told_other rest))
    (c.in-Ok.ensures.few (inl (subst (λ (n : ℕ). c.args.self.now.log.tail < n) (sym stands.open_log.often) stands.few))) c.persist.ensures.keeps

pub returns-in-Err-clause-logs : goal.returns-in-Err-clause-logs
returns-in-Err-clause-logs g c every before facts stands are =
    same_fault g.D.Disks.disk g.D.Disks.may_leave every c.args.self.now.centre before facts _ _ c.args.disks.now c.persist.new.disks c.log_fault.ensures
    (append_fails g.D.Disks.disk g.D.Disks.may_leave c.current_is_read.ensures g.D.Disks.moment g.D.Disks.left_since c.args.disks.now c.persist.new.disks
    c.args.self.now.log c.args.self.now.centre (range-of c.area-area.ensures.value c.area-area.ensures.range) stands.open_log.of c.persist.ensures.others every c.in-Err.fault before facts
    (some_facts c.args.payloads.now facts are (c.in-Err.ensures.some refl)) stands.open_log g.met.D.Disks.counts_now
    (λ all current spare told told_other rest left left_other.
    subst (λ (ps : List (List ℕ)). ReadsAsAllOrNone all ps (payloads_by c.args.self.now.log.area current spare)) are
    (c.persist.ensures.any_moment_reads all current spare told told_other rest left left_other))
    (λ is. c.in-Err.ensures.disk_fault (err-of is))
    (λ is. c.in-Err.ensures.full_keeps (err-of is))
    (λ n is. c.in-Err.ensures.a_log n (err-of is)) (λ is. c.in-Err.ensures.memory_keeps (err-of is))
    (λ is. subst (λ (ps : List (List ℕ)). AreFull c.args.self.now.log ps) are (c.in-Err.ensures.full (err-of is))))

pub returns-in-Ok-clause-any_moment : goal.returns-in-Ok-clause-any_moment
returns-in-Ok-clause-any_moment g c every before facts stands are =
    either_left g.D.Disks.disk g.D.Disks.may_leave c.current_is_read.ensures g.D.Disks.moment g.D.Disks.left_since c.args.disks.now c.persist.new.disks
    c.args.self.now.log c.args.self.now.centre (range-of c.area-area.ensures.value c.area-area.ensures.range) stands.open_log.of c.persist.ensures.others before facts stands.open_log
    (λ all current spare told told_other rest left left_other.
    subst (λ (ps : List (List ℕ)). ReadsAsAllOrNone all ps (payloads_by c.args.self.now.log.area current spare)) are
    (c.persist.ensures.any_moment_reads all current spare told told_other rest left left_other))

pub returns-in-Err-clause-any_moment : goal.returns-in-Err-clause-any_moment
returns-in-Err-clause-any_moment g c every before facts stands are =
    either_left g.D.Disks.disk g.D.Disks.may_leave c.current_is_read.ensures g.D.Disks.moment g.D.Disks.left_since c.args.disks.now c.persist.new.disks
    c.args.self.now.log c.args.self.now.centre (range-of c.area-area.ensures.value c.area-area.ensures.range) stands.open_log.of c.persist.ensures.others before facts stands.open_log
    (λ all current spare told told_other rest left left_other.
    subst (λ (ps : List (List ℕ)). ReadsAsAllOrNone all ps (payloads_by c.args.self.now.log.area current spare)) are
    (c.persist.ensures.any_moment_reads all current spare told told_other rest left left_other))
