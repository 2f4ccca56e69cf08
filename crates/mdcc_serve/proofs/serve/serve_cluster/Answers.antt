use Rattle.std.proofs.Common.{◌≡◌, [], arith, length, ℕ, ◌+◌, subst}
use Rattle.std.proofs.lemmas.Result.{IfErr-at_err}
use Rattle.mdcc_serve.proofs.Ended.{follow_range, many_range}
use Rattle.mdcc_serve.specs.Centres.{all_seen, places}
use Rattle.mdcc_serve_site.specs.Moments.{Caused, outside}
use Rattle.mdcc_serve_site.specs.declared.fault.ServeFault.{ServeFault}
use Rattle.mdcc_serve.proofs.Refused.{logs_may}
use Rattle.mdcc_serve.specs.Others.{KeepsUnserved}
use Rattle.mdcc_serve.specs.Refusals.{AreTold, LacksNode, SaysOfLogs}
use Rattle.mdcc_serve.specs.Stays.{HasRefused, IsLogRefused, NeverServed}
use Rattle.std.specs.Prelude.{IfErr, IsErrAnd}
use Rattle.mdcc_serve.proofs.serve.serve_cluster.Goals as goal

pub serve-requires-clause-order : goal.serve-requires-clause-order
serve-requires-clause-order g c = let some = c.requires.config.quorums.some_centre in let value = c.centres-last.ensures.value in omega (some, value, arith)

pub serve-requires-clause-alike : goal.serve-requires-clause-alike
serve-requires-clause-alike g c a low high = let value = c.centres-last.ensures.value in c.requires.alike a low (omega (value, high, arith))

pub returns-clause-serves : goal.returns-clause-serves
returns-clause-serves g c logs numbers are =
    let centres = c.args.config.now.cluster.quorums.centres in
    let many : length logs ≡ centres = many_range 1 centres logs numbers in
    let value = c.centres-last.ensures.value in
    c.serve.ensures.serves logs (follow_range 1 centres logs numbers) (omega (many, value, arith)) are

pub returns-clause-disk : goal.returns-clause-disk
returns-clause-disk g c a ended =
    let w = outside c.args.config.now.checkpoint g.D.Disks.disk g.D.Disks.may_leave g.L.Link.calls g.L.Link.lost g.L.Link.faults g.O.Sink.held g.O.Sink.faults in
    IfErr-at_err (λ (fault : ServeFault). Caused w fault (all_seen (places c.args.disks.now [] c.args.link.now c.args.out.now)) (all_seen (places c.serve.new.disks [] c.serve.new.link c.serve.new.out))) ended c.serve.ensures.causes

pub returns-clause-link : goal.returns-clause-link
returns-clause-link g c ended =
    let w = outside c.args.config.now.checkpoint g.D.Disks.disk g.D.Disks.may_leave g.L.Link.calls g.L.Link.lost g.L.Link.faults g.O.Sink.held g.O.Sink.faults in
    IfErr-at_err (λ (fault : ServeFault). Caused w fault (all_seen (places c.args.disks.now [] c.args.link.now c.args.out.now)) (all_seen (places c.serve.new.disks [] c.serve.new.link c.serve.new.out))) ended c.serve.ensures.causes

pub returns-clause-output : goal.returns-clause-output
returns-clause-output g c ended =
    let w = outside c.args.config.now.checkpoint g.D.Disks.disk g.D.Disks.may_leave g.L.Link.calls g.L.Link.lost g.L.Link.faults g.O.Sink.held g.O.Sink.faults in
    IfErr-at_err (λ (fault : ServeFault). Caused w fault (all_seen (places c.args.disks.now [] c.args.link.now c.args.out.now)) (all_seen (places c.serve.new.disks [] c.serve.new.link c.serve.new.out))) ended c.serve.ensures.causes

pub returns-clause-logs : goal.returns-clause-logs
returns-clause-logs g c =
    subst (λ (n : ℕ). SaysOfLogs g.D.Disks.disk c.args.config.now.cluster c.args.disks.now 1 (n + 1) c.serve.result) c.centres-last.ensures.value c.serve.ensures.logs

pub returns-clause-may : goal.returns-clause-may
returns-clause-may g c =
    logs_may g.D.Disks.disk c.args.config.now.cluster c.args.disks.now 1 (c.centres-last.result + 1) c.serve.result c.serve.ensures.logs

pub returns-clause-others : goal.returns-clause-others
returns-clause-others g c = subst (λ (n : ℕ). KeepsUnserved g.D.Disks.disk g.D.Disks.may_leave 1 (n + 1) c.args.disks.now c.serve.new.disks) c.centres-last.ensures.value c.serve.ensures.others

-- ---- where no node boots from one of the logs

pub returns-clause-unserved : goal.returns-clause-unserved
returns-clause-unserved g c =
    subst (λ (n : ℕ). LacksNode g.D.Disks.disk c.args.config.now.cluster c.args.disks.now 1 (n + 1)
    → IsErrAnd c.serve.result (NeverServed g.D.Disks.disk g.D.Disks.may_leave g.D.Disks.tears c.args.config.now.checkpoint g.L.Link.calls g.L.Link.lost c.args.config.now.cluster 1 (n + 1) c.args.disks.now c.serve.new.disks c.args.link.now c.serve.new.link c.args.out.now c.serve.new.out))
    c.centres-last.ensures.value c.serve.ensures.unserved

-- ---- where a log is refused

pub returns-clause-refused : goal.returns-clause-refused
returns-clause-refused g c =
    subst (λ (n : ℕ). IfErr c.serve.result (λ fault. IsLogRefused fault → AreTold g.D.Disks.disk c.args.config.now.cluster c.args.disks.now 1 (n + 1)
    → HasRefused g.D.Disks.disk g.D.Disks.may_leave g.D.Disks.tears g.L.Link.calls g.L.Link.lost c.args.config.now.cluster 1 (n + 1) c.args.disks.now c.serve.new.disks c.args.link.now c.serve.new.link c.args.out.now c.serve.new.out))
    c.centres-last.ensures.value c.serve.ensures.refused
