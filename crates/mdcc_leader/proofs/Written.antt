-- That a leader stands for a state after a change at one key.
use Rattle.std.proofs.Common.{◌≡◌, List, ℕ, Bool, true, false, cond, Option, Ok, Some, None, is_some, nat_lt, refl, sym, ap, ◌∙◌, subst, inl, inr, arith}
use Rattle.std.proofs.lemmas.Bool.{cases_Bool}
use Rattle.indexmap.specs.IndexMap.{get}
use Rattle.mdcc_base.specs.Key.{key_eq}
use Rattle.mdcc_base.specs.Sizes.{Sizes}
use Rattle.mdcc_base.specs.declared.key.Key.{Key}
use Rattle.mdcc_leader.proofs.Keeping.{Keeps-replaced, Keeps-same, SameAt, lead-elsewhere, led_anew-elsewhere, on_promise-elsewhere}
use Rattle.mdcc_leader.proofs.Lookups.{key_eq-same}
use Rattle.mdcc_leader.specs.Answers.{left}
use Rattle.mdcc_leader.specs.Extending.{begun_with}
use Rattle.mdcc_leader.specs.Leads.{KeepsLead}
use Rattle.mdcc_leader.specs.Represents.{RepresentsLeading}
use Rattle.mdcc_leader.specs.declared.leader.Leader.{Leader}
use Rattle.mdcc_leader.specs.declared.led.Led.{Led}
use Rattle.mdcc_def_messages.specs.declared.facts.Fact.{Fact}
use Rattle.mdcc_option.specs.declared.choices.Claim.{Claim}
use Rattle.mdcc_option.specs.declared.cluster.Cluster.{Cluster}
use Rattle.mdcc_def_protocol.specs.Facts.{current_of}
use Rattle.mdcc_def_protocol.specs.Leader.{lead, led_anew, led_by, on_promise, promise_taken}
use Rattle.mdcc_def_protocol.specs.Volatile.{Lead, Leading, lead_of}
use Rattle.mdcc_def_protocol.specs.declared.leader.Promise.{Promise}

-- something is written at a key
pub represents-written : (old new : Leader) (me epoch : ℕ) (quorums : Sizes) (leading after : Leading) (key : Key) (led : Led)
    → new.centre ≡ old.centre → new.epoch ≡ old.epoch
    → ((k : Key) → get key_eq new.leads k ≡ cond (key_eq key k) (Some led) (get key_eq old.leads k))
    → RepresentsLeading old me epoch quorums leading → ((k : Key) → key_eq key k ≡ false → SameAt leading after k) → KeepsLead quorums after key (Some led)
    → RepresentsLeading new me epoch quorums after
represents-written old new me epoch quorums leading after key led centre since at stands others here = record {
  at = centre ∙ stands.at;
  since = since ∙ stands.since;
  keeps = λ k. elim (cases_Bool (key_eq key k)) [
    | inl same ↦
        let is : key ≡ k = key_eq-same key k same in
        let found : get key_eq new.leads k ≡ Some led = at k ∙ rw same refl in
        rw found (subst (λ x. KeepsLead quorums after x (Some led)) is here)
    | inr other ↦
        let found : get key_eq new.leads k ≡ get key_eq old.leads k = at k ∙ rw other refl in
        rw found (Keeps-same quorums leading after k (get key_eq old.leads k) (others k other) (stands.keeps k))
  ];
}

-- nothing is changed
pub represents-same : (old new : Leader) (me epoch : ℕ) (quorums : Sizes) (leading : Leading) → new.centre ≡ old.centre → new.epoch ≡ old.epoch
    → ((k : Key) → get key_eq new.leads k ≡ get key_eq old.leads k) → RepresentsLeading old me epoch quorums leading → RepresentsLeading new me epoch quorums leading
represents-same old new me epoch quorums leading centre since at stands = record {
  at = centre ∙ stands.at;
  since = since ∙ stands.since;
  keeps = λ k. rw (at k) (stands.keeps k);
}

-- a first lead is written
pub represents-begun : (old new : Leader) (me epoch : ℕ) (cluster : Cluster) (facts : List Fact) (leading : Leading) (claim : Claim) (begun : Lead)
    → new.centre ≡ old.centre → new.epoch ≡ old.epoch
    → ((k : Key) → get key_eq new.leads k ≡ cond (key_eq claim.key k) (Some (record { lead = begun; refused_round = 0 })) (get key_eq old.leads k))
    → get key_eq old.leads claim.key ≡ None → RepresentsLeading old me epoch cluster.quorums leading
    → Ok begun ≡ begun_with cluster old.centre old.epoch facts 0 0 claim
    → RepresentsLeading new me epoch cluster.quorums (left leading (led_anew cluster me epoch facts leading claim))
represents-begun old new me epoch cluster facts leading claim begun centre since at none stands is =
    let kept : KeepsLead cluster.quorums leading claim.key None = rw (← none) (stands.keeps claim.key) in
    let made : Ok begun ≡ begun_with cluster me epoch facts 0 0 claim = rw (← stands.at, ← stands.since) is in
    represents-written old new me epoch cluster.quorums leading _ claim.key (record { lead = begun; refused_round = 0 }) centre since at stands
    (λ k other. led_anew-elsewhere cluster me epoch facts leading claim k other)
    (Keeps-replaced cluster me epoch facts leading claim None begun kept made)

-- a lead that stands takes a claim
pub represents-led : (old new : Leader) (me epoch : ℕ) (cluster : Cluster) (facts : List Fact) (leading : Leading) (claim : Claim) (led after : Led)
    → new.centre ≡ old.centre → new.epoch ≡ old.epoch
    → ((k : Key) → get key_eq new.leads k ≡ cond (key_eq claim.key k) (Some after) (get key_eq old.leads k))
    → get key_eq old.leads claim.key ≡ Some led → nat_lt (current_of facts claim.key) claim.version ≡ false → RepresentsLeading old me epoch cluster.quorums leading
    → (KeepsLead cluster.quorums leading claim.key (Some led)
    → KeepsLead cluster.quorums (left leading (led_by cluster old.centre old.epoch facts leading claim (Some led.lead))) claim.key (Some after))
    → RepresentsLeading new me epoch cluster.quorums (left leading (lead cluster me epoch facts leading claim))
represents-led old new me epoch cluster facts leading claim led after centre since at there held stands takes =
    let kept : KeepsLead cluster.quorums leading claim.key (Some led) = rw (← there) (stands.keeps claim.key) in
    let taken : KeepsLead cluster.quorums (left leading (led_by cluster me epoch facts leading claim (Some led.lead))) claim.key (Some after) =
    rw (← stands.at, ← stands.since) (takes kept) in
    let same : lead cluster me epoch facts leading claim ≡ led_by cluster me epoch facts leading claim (Some led.lead) = rw (held, kept.lead) refl in
    represents-written old new me epoch cluster.quorums leading _ claim.key after centre since at stands
    (λ k other. lead-elsewhere cluster me epoch facts leading claim k other) (rw same taken)

-- a lead that stands takes a promise
pub represents-promised : (old new : Leader) (me epoch : ℕ) (cluster : Cluster) (facts : List Fact) (leading : Leading) (from : ℕ) (promise : Promise) (led after : Led)
    → new.centre ≡ old.centre → new.epoch ≡ old.epoch
    → ((k : Key) → get key_eq new.leads k ≡ cond (key_eq promise.key k) (Some after) (get key_eq old.leads k))
    → get key_eq old.leads promise.key ≡ Some led → RepresentsLeading old me epoch cluster.quorums leading
    → (KeepsLead cluster.quorums leading promise.key (Some led)
    → KeepsLead cluster.quorums (left leading (promise_taken cluster facts leading from promise (Some led.lead))) promise.key (Some after))
    → RepresentsLeading new me epoch cluster.quorums (left leading (on_promise cluster facts leading from promise))
represents-promised old new me epoch cluster facts leading from promise led after centre since at there stands takes =
    let kept : KeepsLead cluster.quorums leading promise.key (Some led) = rw (← there) (stands.keeps promise.key) in
    let same : on_promise cluster facts leading from promise ≡ promise_taken cluster facts leading from promise (Some led.lead) = rw kept.lead refl in
    represents-written old new me epoch cluster.quorums leading _ promise.key after centre since at stands
    (λ k other. on_promise-elsewhere cluster facts leading from promise k other) (rw same (takes kept))
