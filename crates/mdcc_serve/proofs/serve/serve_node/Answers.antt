use Rattle.std.proofs.Common.{◌≡◌, ◌∙◌, ◌+◌, ◌∷◌, [], ℕ, arith, subst, sym}
use Rattle.std.proofs.lemmas.Result.{IfErr-at_err}
use Rattle.mdcc_serve.specs.Centres.{all_seen, places}
use Rattle.mdcc_serve_site.specs.Moments.{Caused, outside}
use Rattle.mdcc_serve_site.specs.declared.fault.ServeFault.{ServeFault}
use Rattle.mdcc_serve.proofs.Others.{keeps_but}
use Rattle.mdcc_serve.proofs.Refused.{logs_may}
use Rattle.mdcc_serve.proofs.Untaken.{one_refuses}
use Rattle.mdcc_serve.specs.Others.{KeepsUnserved}
use Rattle.mdcc_serve.specs.Refusals.{LacksNode, SaysOfLogs}
use Rattle.mdcc_serve.specs.Stays.{NeverServed}
use Rattle.std.specs.Prelude.{IsErrAnd}
use Rattle.mdcc_serve.proofs.serve.serve_node.Goals as goal

pub serve-requires-clause-alike : goal.serve-requires-clause-alike
serve-requires-clause-alike g c a low high =
    let value = c.number-first.ensures.value in
    let is : c.args.centre ≡ a = omega (value, low, high, arith) in
    subst (λ (n : ℕ). (g.D.Disks.disk c.args.disks.now (n + 16)).told ≡ (g.D.Disks.disk c.args.disks.now n).told) is c.requires.alike

pub returns-clause-serves : goal.returns-clause-serves
returns-clause-serves g c log of is =
    c.serve.ensures.serves (log ∷ []) (of ∙ sym c.number-first.ensures.value, tt) (omega arith) (is, tt)

pub returns-clause-disk : goal.returns-clause-disk
returns-clause-disk g c a ended =
    let w = outside c.args.config.now.checkpoint g.D.Disks.disk g.D.Disks.may_leave g.L.Link.calls g.L.Link.lost g.L.Link.faults g.O.Sink.held g.O.Sink.faults in
    IfErr-at_err (λ (fault : ServeFault). Caused w fault (all_seen (places c.args.disks.now [] c.args.link.now c.args.out.now)) (all_seen (places c.serve.new.disks [] c.serve.new.link c.serve.new.out))) ended c.serve.ensures.causes

pub returns-clause-link : goal.returns-clause-link
returns-clause-link g c ended =
    let w = outside c.args.config.now.checkpoint g.D.Disks.disk g.D.Disks.may_leave g.L.Link.calls g.L.Link.lost g.L.Link.faults g.O.Sink.held g.O.Sink.faults in
    IfErr-at_err (λ (fault : ServeFault). Caused w fault (all_seen (places c.args.disks.now [] c.args.link.now c.args.out.now)) (all_seen (places c.serve.new.disks [] c.serve.new.link c.serve.new.out))) ended c.serve.ensures.causes

pub returns-clause-output : goal.returns-clause-output
returns-clause-output g c ended =
    let w = outside c.args.config.now.checkpoint g.D.Disks.disk g.D.Disks.may_leave g.L.Link.calls g.L.Link.lost g.L.Link.faults g.O.Sink.held g.O.Sink.faults in
    IfErr-at_err (λ (fault : ServeFault). Caused w fault (all_seen (places c.args.disks.now [] c.args.link.now c.args.out.now)) (all_seen (places c.serve.new.disks [] c.serve.new.link c.serve.new.out))) ended c.serve.ensures.causes

pub returns-clause-logs : goal.returns-clause-logs
returns-clause-logs g c =
    subst (λ (n : ℕ). SaysOfLogs g.D.Disks.disk c.args.config.now.cluster c.args.disks.now n (n + 1) c.serve.result) c.number-first.ensures.value c.serve.ensures.logs

pub returns-clause-may : goal.returns-clause-may
returns-clause-may g c =
    logs_may g.D.Disks.disk c.args.config.now.cluster c.args.disks.now c.number-first.result (c.number-first.result + 1) c.serve.result c.serve.ensures.logs

-- ---- where its log is refused

pub returns-clause-refused : goal.returns-clause-refused
returns-clause-refused g c =
    one_refuses g.D.Disks.disk g.D.Disks.may_leave g.D.Disks.tears g.L.Link.calls g.L.Link.lost c.args.config.now.cluster c.number-first.result c.args.centre c.args.disks.now c.serve.new.disks c.args.link.now c.serve.new.link c.args.out.now c.serve.new.out c.serve.result c.number-first.ensures.value c.serve.ensures.refused

-- ---- the disks of other centres

pub returns-clause-others : goal.returns-clause-others
returns-clause-others g c =
    keeps_but g.D.Disks.disk g.D.Disks.may_leave c.args.centre c.args.disks.now c.serve.new.disks
    (subst (λ (n : ℕ). KeepsUnserved g.D.Disks.disk g.D.Disks.may_leave n (n + 1) c.args.disks.now c.serve.new.disks) c.number-first.ensures.value c.serve.ensures.others)

-- ---- where no node boots from its log

pub returns-clause-unserved : goal.returns-clause-unserved
returns-clause-unserved g c =
    subst (λ (n : ℕ). LacksNode g.D.Disks.disk c.args.config.now.cluster c.args.disks.now n (n + 1)
    → IsErrAnd c.serve.result (NeverServed g.D.Disks.disk g.D.Disks.may_leave g.D.Disks.tears c.args.config.now.checkpoint g.L.Link.calls g.L.Link.lost c.args.config.now.cluster n (n + 1) c.args.disks.now c.serve.new.disks c.args.link.now c.serve.new.link c.args.out.now c.serve.new.out))
    c.number-first.ensures.value c.serve.ensures.unserved
