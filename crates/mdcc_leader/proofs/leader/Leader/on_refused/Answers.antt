use Rattle.std.proofs.Common.{◌≡◌, Option, Some, None, is_some, true, refl, sym, ◌∙◌, ap}
use Rattle.indexmap.specs.IndexMap.{get}
use Rattle.mdcc_base.specs.Key.{key_eq}
use Rattle.mdcc_leader.proofs.Keeping.{Keeps-refused, on_refused-elsewhere}
use Rattle.mdcc_leader.proofs.Written.{represents-same, represents-written}
use Rattle.mdcc_leader.proofs.leader.Leader.on_refused.Goals as goal
use Rattle.mdcc_leader.specs.Leads.{KeepsLead}
use Rattle.mdcc_def_protocol.specs.Leader.{on_refused}

pub returns-in-Some : goal.returns-in-Some
returns-in-Some c me epoch quorums leading stands =
    let there : Some c.in-Some.led.now ≡ get key_eq c.args.self.now.leads c.args.key.now = c.in-Some.ensures.value in
    let some : is_some (get key_eq c.args.self.now.leads c.args.key.now) ≡ true = rw (← there) in
    let updates = (c.get_mut.follows.holds c.refuse.new.self).3 some in
    let kept : KeepsLead quorums leading c.args.key.now (Some c.in-Some.led.now) = rw there (stands.keeps c.args.key.now) in
    represents-written c.args.self.now _ me epoch quorums leading _ c.args.key.now c.refuse.new.self refl refl (λ k. updates.0 k) stands
    (λ k other. on_refused-elsewhere leading c.args.key.now c.args.ballot c.args.promised k other)
    (Keeps-refused quorums leading c.args.key.now c.args.ballot c.args.promised c.in-Some.led.now c.refuse.new.self kept c.refuse.ensures.lead c.refuse.ensures.refused)

pub returns-in-None : goal.returns-in-None
returns-in-None c me epoch quorums leading stands =
    let none : None ≡ get key_eq c.args.self.now.leads c.args.key.now = c.in-None.ensures.value in
    let kept : KeepsLead quorums leading c.args.key.now None = rw none (stands.keeps c.args.key.now) in
    let same : on_refused leading c.args.key.now c.args.ballot c.args.promised ≡ leading = rw kept.lead refl in
    rw same (represents-same c.args.self.now _ me epoch quorums leading refl refl (λ k. rw c.get_mut.follows.holds-at-none refl) stands)
