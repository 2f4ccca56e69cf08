use Rattle.std.proofs.Common.{◌≡◌, ◌+◌, ◌-◌, ◌≤◌, ◌∷◌, ◌++◌, [], List, Err, arith, inl, inr, length, length-append, rules, subst, sym, ℕ}
use Rattle.mdcc_serve.proofs.Together.{keep_stops, none_started, one_started, start_stops}
use Rattle.mdcc_serve.proofs.Standing.{one_stays, rest_stay, unless_so}
use Rattle.mdcc_serve.proofs.Full.{full_boots}
use Rattle.mdcc_serve.specs.Starts.{FailToStart, HaveStarted}
use Rattle.mdcc_serve.specs.Stays.{AllStay, OnFullBoot, UnlessDiskFault}
use Rattle.mdcc_serve_site.specs.declared.fault.ServeFault.{ServeFault}
use Rattle.mdcc_serve_site.specs.declared.site.Site.{Site}
use Rattle.mdcc_serve.proofs.Refused.{boots_still, none_boot, one_boots, says_still}
use Rattle.mdcc_serve.specs.Refusals.{AllBoot}
use Rattle.mdcc_serve.proofs.starting.start_all.Goals as goal

pub loop-number-init : goal.loop-number-init
loop-number-init g c =
    let none : c.new-sites.result.items ≡ [] = search rules in
    record {
      started = subst (λ (held : List Site). HaveStarted g.D.Disks.disk g.D.Disks.may_leave c.args.config.now.checkpoint c.args.config.now.cluster c.args.first held c.args.disks.now c.args.disks.now) (sym none)
          (none_started g.D.Disks.disk g.D.Disks.may_leave c.args.config.now.checkpoint c.args.config.now.cluster c.args.first c.args.disks.now);
      nodes = none_boot g.D.Disks.disk c.args.config.now.cluster c.args.disks.now c.args.first;
      stay = λ a low high. absurd (omega (low, high, arith));
      many = rw none (omega arith);
    }

pub loop-number-preserved : goal.loop-number-preserved
loop-number-preserved g c =
    let before = c.loop-number.invariant in
    let many : c.args.first + length c.loop-number.sites.items ≡ c.loop-number.number = before.many in
    let next = c.in_ok-start_next.ensures.starts in
    let more = length-append c.loop-number.sites.items (next.0 ∷ []) in
    let nine : c.args.config.now.cluster.quorums.centres ≤ 9 = c.requires.config.quorums.nine_centres in
    let among : c.args.last ≤ c.args.config.now.cluster.quorums.centres = c.requires.among in
    record {
      started = subst (λ (held : List Site). HaveStarted g.D.Disks.disk g.D.Disks.may_leave c.args.config.now.checkpoint c.args.config.now.cluster c.args.first held c.args.disks.now c.start_next.new.disks) (sym {A = List Site} next.1)
          (one_started g.D.Disks.disk g.D.Disks.may_leave c.args.config.now.checkpoint c.args.config.now.cluster c.args.first c.loop-number.number c.loop-number.sites.items c.args.disks.now c.loop-number.disks c.start_next.new.disks
          c.requires.some (sym many) (omega (nine, among, arith)) before.started g.D.Disks.tears next.0 next.2);
      nodes = one_boots g.D.Disks.disk c.args.config.now.cluster c.args.disks.now c.args.first c.loop-number.number before.nodes
          (boots_still g.D.Disks.disk c.args.config.now.cluster c.args.disks.now g.D.Disks.may_leave c.loop-number.disks c.loop-number.number
          (before.started.later c.loop-number.number (omega (many, arith)) (omega (nine, among, arith))) c.in_ok-start_next.ensures.node);
      stay = one_stays g.D.Disks.disk g.D.Disks.may_leave g.D.Disks.tears c.args.config.now.cluster c.args.disks.now c.loop-number.disks c.start_next.new.disks c.args.first c.loop-number.number (omega (nine, among, arith)) before.stay
          (before.started.later c.loop-number.number (omega (many, arith)) (omega (nine, among, arith))) next.2.others next.2.stays;
      many = rw next.1 (omega (more, many, arith));
    }

pub returns-in_err-start_next-clause-fails : goal.returns-in_err-start_next-clause-fails
returns-in_err-start_next-clause-fails g c =
    let before = c.loop-number.invariant in
    let many : c.args.first + length c.loop-number.sites.items ≡ c.loop-number.number = before.many in
    let nine : c.args.config.now.cluster.quorums.centres ≤ 9 = c.requires.config.quorums.nine_centres in
    let among : c.args.last ≤ c.args.config.now.cluster.quorums.centres = c.requires.among in
    let fault = c.in_err-start_next.field-0.0 in
    let count = c.args.last + 1 - c.args.first in
    let e : c.from_residual.result ≡ Err fault = search rules in
    rw e (elim c.in_err-start_next.ensures.fails [
      | inl fails ↦
          start_stops g.D.Disks.disk g.D.Disks.may_leave c.args.config.now.checkpoint c.args.config.now.cluster c.args.first c.loop-number.number c.loop-number.sites.items c.args.disks.now c.loop-number.disks c.start_next.new.disks
          c.requires.some (sym many) (omega (nine, among, arith)) before.started g.D.Disks.tears count fault (omega (many, arith)) (omega (nine, among, arith)) fails
      | inr lacks ↦
          let more = length-append c.loop-number.sites.items (lacks.1 ∷ []) in
          let started = one_started g.D.Disks.disk g.D.Disks.may_leave c.args.config.now.checkpoint c.args.config.now.cluster c.args.first c.loop-number.number c.loop-number.sites.items c.args.disks.now c.loop-number.disks c.start_next.new.disks
          c.requires.some (sym many) (omega (nine, among, arith)) before.started g.D.Disks.tears lacks.1 lacks.2 in
          subst (λ (f : ServeFault). FailToStart g.D.Disks.disk g.D.Disks.may_leave c.args.config.now.checkpoint g.D.Disks.tears c.args.config.now.cluster c.args.first count f c.args.disks.now c.start_next.new.disks) (sym lacks.0)
          (keep_stops g.D.Disks.disk g.D.Disks.may_leave c.args.config.now.checkpoint c.args.config.now.cluster c.args.first count (c.loop-number.sites.items ++ lacks.1 ∷ []) c.args.disks.now c.start_next.new.disks g.D.Disks.tears started
          (omega (more, many, arith)) (omega (nine, among, arith)))
    ])

-- ---- what is said of their logs

pub returns-in_err-start_next-clause-ends : goal.returns-in_err-start_next-clause-ends
returns-in_err-start_next-clause-ends g c =
    let before = c.loop-number.invariant in
    let many : c.args.first + length c.loop-number.sites.items ≡ c.loop-number.number = before.many in
    let nine : c.args.config.now.cluster.quorums.centres ≤ 9 = c.requires.config.quorums.nine_centres in
    let among : c.args.last ≤ c.args.config.now.cluster.quorums.centres = c.requires.among in
    let fault = c.in_err-start_next.field-0.0 in
    let e : c.from_residual.result ≡ Err fault = search rules in
    rw e (record {
      at = c.loop-number.number;
      from = omega (many, arith);
      to = omega arith;
      before = before.nodes;
      says = says_still g.D.Disks.disk c.args.config.now.cluster c.args.disks.now g.D.Disks.may_leave c.loop-number.disks c.loop-number.number
          (before.started.later c.loop-number.number (omega (many, arith)) (omega (nine, among, arith))) fault c.in_err-start_next.ensures.says;
    })

pub returns-clause-nodes : goal.returns-clause-nodes
returns-clause-nodes g c =
    let whole : c.loop-number.number ≡ c.args.last + 1 = omega arith in
    subst (λ (n : ℕ). AllBoot g.D.Disks.disk c.args.config.now.cluster c.args.disks.now c.args.first n) whole c.loop-number.invariant.nodes

-- ---- what stands where they end before

pub returns-in_err-start_next-clause-stay : goal.returns-in_err-start_next-clause-stay
returns-in_err-start_next-clause-stay g c =
    let before = c.loop-number.invariant in
    let many : c.args.first + length c.loop-number.sites.items ≡ c.loop-number.number = before.many in
    let nine : c.args.config.now.cluster.quorums.centres ≤ 9 = c.requires.config.quorums.nine_centres in
    let among : c.args.last ≤ c.args.config.now.cluster.quorums.centres = c.requires.among in
    let fault = c.in_err-start_next.field-0.0 in
    let e : c.from_residual.result ≡ Err fault = search rules in
    let rest = rest_stay g.D.Disks.disk g.D.Disks.may_leave g.D.Disks.tears c.args.config.now.cluster c.args.disks.now c.loop-number.disks c.start_next.new.disks c.args.first c.loop-number.number (c.args.last + 1) (omega (nine, among, arith)) (omega (nine, among, arith))
    before.stay (λ a low high. before.started.later a (omega (many, low, arith)) high) in
    rw e (elim c.in_err-start_next.ensures.fails [
      | inl fails ↦ unless_so fault fails.stays (rest fails.others)
      | inr lacks ↦ subst (λ (f : ServeFault). UnlessDiskFault f (AllStay g.D.Disks.disk g.D.Disks.may_leave g.D.Disks.tears c.args.config.now.cluster c.args.disks.now c.start_next.new.disks c.args.first (c.args.last + 1))) (sym lacks.0) (rest lacks.2.others lacks.2.stays)
    ])

pub returns-in_err-start_next-clause-full : goal.returns-in_err-start_next-clause-full
returns-in_err-start_next-clause-full g c =
    let before = c.loop-number.invariant in
    let many : c.args.first + length c.loop-number.sites.items ≡ c.loop-number.number = before.many in
    let nine : c.args.config.now.cluster.quorums.centres ≤ 9 = c.requires.config.quorums.nine_centres in
    let among : c.args.last ≤ c.args.config.now.cluster.quorums.centres = c.requires.among in
    let fault = c.in_err-start_next.field-0.0 in
    let e : c.from_residual.result ≡ Err fault = search rules in
    rw e (elim c.in_err-start_next.ensures.fails [
      | inl fails ↦
          full_boots g.D.Disks.disk g.D.Disks.may_leave c.args.config.now.checkpoint c.args.config.now.cluster c.args.disks.now c.loop-number.disks c.start_next.new.disks c.loop-number.number g.D.Disks.tears fault
          (before.started.later c.loop-number.number (omega (many, arith)) (omega (nine, among, arith))) c.in_err-start_next.ensures.says fails
      | inr lacks ↦ subst (OnFullBoot g.D.Disks.disk g.D.Disks.may_leave c.args.config.now.checkpoint c.args.config.now.cluster c.args.disks.now c.start_next.new.disks) (sym lacks.0) tt
    ])
