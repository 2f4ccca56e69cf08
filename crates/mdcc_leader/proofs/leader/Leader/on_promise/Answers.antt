use Rattle.std.proofs.Common.{◌≡◌, Option, Some, is_some, true, refl, sym}
use Rattle.indexmap.specs.IndexMap.{get}
use Rattle.mdcc_base.specs.Key.{key_eq}
use Rattle.mdcc_leader.proofs.Keeping.{SameAt-refl}
use Rattle.mdcc_leader.proofs.Structured.{OnErr-map, OnOk-map}
use Rattle.mdcc_leader.proofs.Written.{represents-promised, represents-written}
use Rattle.mdcc_leader.proofs.leader.Leader.on_promise.Goals as goal
use Rattle.mdcc_leader.specs.Leads.{KeepsLead}

pub returns-in-Some-clause-ok : goal.returns-in-Some-clause-ok
returns-in-Some-clause-ok g c me epoch facts leading holds stands =
    let there : Some c.in-Some.led.now ≡ get key_eq c.args.self.now.leads c.args.promise.now.key = c.in-Some.ensures.value in
    let some : is_some (get key_eq c.args.self.now.leads c.args.promise.now.key) ≡ true = rw (← there) in
    let updates = (c.get_mut.follows.holds c.count.new.self).3 some in
    let kept : KeepsLead c.args.cluster.now.quorums leading c.args.promise.now.key (Some c.in-Some.led.now) = rw there (stands.keeps c.args.promise.now.key) in
    OnOk-map c.count.result
    (λ taken. represents-promised c.args.self.now _ me epoch c.args.cluster.now facts leading c.args.from c.args.promise.now c.in-Some.led.now c.count.new.self refl refl
    (λ k. updates.0 k) (sym there) stands (λ k. taken))
    (c.count.ensures.ok facts leading holds kept)

pub returns-in-Some-clause-err : goal.returns-in-Some-clause-err
returns-in-Some-clause-err g c me epoch quorums leading stands =
    let there : Some c.in-Some.led.now ≡ get key_eq c.args.self.now.leads c.args.promise.now.key = c.in-Some.ensures.value in
    let some : is_some (get key_eq c.args.self.now.leads c.args.promise.now.key) ≡ true = rw (← there) in
    let updates = (c.get_mut.follows.holds c.count.new.self).3 some in
    let kept : KeepsLead quorums leading c.args.promise.now.key (Some c.in-Some.led.now) = rw there (stands.keeps c.args.promise.now.key) in
    OnErr-map c.count.result
    (λ same. represents-written c.args.self.now _ me epoch quorums leading leading c.args.promise.now.key c.count.new.self refl refl (λ k. updates.0 k) stands
    (λ k other. SameAt-refl leading k) (rw same kept))
    c.count.ensures.err
