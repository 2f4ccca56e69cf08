use Rattle.std.proofs.Common.{◌≡◌, Option, Some, is_some, nat_lt, true, false, refl, sym, arith}
use Rattle.std.proofs.lemmas.Bool.Decides.{nat_tests}
use Rattle.indexmap.specs.IndexMap.{get}
use Rattle.mdcc_base.specs.Key.{key_eq}
use Rattle.mdcc_leader.proofs.Keeping.{SameAt-refl}
use Rattle.mdcc_leader.proofs.Structured.{OnErr-map, OnOk-map}
use Rattle.mdcc_leader.proofs.Written.{represents-led, represents-written}
use Rattle.mdcc_leader.proofs.leader.Leader.lead.Goals as goal
use Rattle.mdcc_leader.specs.Leads.{KeepsLead}
use Rattle.mdcc_def_protocol.specs.Facts.{current_of}

pub returns-in-Some-clause-ok : goal.returns-in-Some-clause-ok
returns-in-Some-clause-ok g c me epoch facts leading holds stands =
    let there : Some c.in-Some.led.now ≡ get key_eq c.args.self.now.leads c.args.claim.now.key = c.in-Some.ensures.value in
    let some : is_some (get key_eq c.args.self.now.leads c.args.claim.now.key) ≡ true = rw (← there) in
    let updates = (c.get_mut.follows.holds c.take.new.self).3 some in
    let kept : KeepsLead c.args.cluster.now.quorums leading c.args.claim.now.key (Some c.in-Some.led.now) = rw there (stands.keeps c.args.claim.now.key) in
    let held : nat_lt (current_of facts c.args.claim.now.key) c.args.claim.now.version ≡ false = rw (← c.current.ensures facts holds) (grind (arith, nat_tests, c.if-is_behind.false)) in
    OnOk-map c.take.result
    (λ taken. represents-led c.args.self.now _ me epoch c.args.cluster.now facts leading c.args.claim.now c.in-Some.led.now c.take.new.self refl refl (λ k. updates.0 k)
    (sym there) held stands (λ k. taken))
    (c.take.ensures.ok facts leading holds kept)

pub returns-in-Some-clause-err : goal.returns-in-Some-clause-err
returns-in-Some-clause-err g c me epoch quorums leading stands =
    let there : Some c.in-Some.led.now ≡ get key_eq c.args.self.now.leads c.args.claim.now.key = c.in-Some.ensures.value in
    let some : is_some (get key_eq c.args.self.now.leads c.args.claim.now.key) ≡ true = rw (← there) in
    let updates = (c.get_mut.follows.holds c.take.new.self).3 some in
    let kept : KeepsLead quorums leading c.args.claim.now.key (Some c.in-Some.led.now) = rw there (stands.keeps c.args.claim.now.key) in
    OnErr-map c.take.result
    (λ same. represents-written c.args.self.now _ me epoch quorums leading leading c.args.claim.now.key c.take.new.self refl refl (λ k. updates.0 k) stands
    (λ k other. SameAt-refl leading k) (rw same kept))
    c.take.ensures.err
