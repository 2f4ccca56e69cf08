-- What a leader's state has for a key after a claim, a promise or a refusal.
use Rattle.std.proofs.Common.{◌≡◌, ℕ, ◌+◌, ◌^◌, ◌≤◌, Bool, true, false, cond, max, List, Result, [], Option, Some, None, Ok, Err, OnOk, is_some, nat_le, nat_lt, refl, sym, ap, ◌∙◌, subst, inl, inr, arith, ◌∷◌, ◌++◌}
use Rattle.std.proofs.lemmas.Bool.{cases_Bool}
use Rattle.mdcc_base.specs.Ballot.{ballot_eq}
use Rattle.mdcc_base.specs.Key.{key_eq}
use Rattle.mdcc_base.specs.Sizes.{Sizes}
use Rattle.mdcc_base.specs.Unless.{GivesUnless}
use Rattle.mdcc_base.specs.declared.identifiers.Ballot.{Ballot}
use Rattle.mdcc_base.specs.declared.key.Key.{Key}
use Rattle.mdcc_leader.proofs.Lookups.{key_eq-refl, key_eq-same, lead_of-key, lead_of-with, number_at-with}
use Rattle.mdcc_leader.specs.Answers.{answer_alone, is_lead_memory, left}
use Rattle.mdcc_leader.specs.Extending.{begun_with, lead_counted, lead_extended}
use Rattle.mdcc_leader.specs.Leads.{AreOfCentres, KeepsLead, lead_in, round_led, round_refused}
use Rattle.mdcc_leader.specs.declared.led.Led.{Led}
use Rattle.mdcc_def_messages.specs.declared.facts.Fact.{Fact}
use Rattle.mdcc_option.specs.declared.choices.Claim.{Claim}
use Rattle.mdcc_option.specs.declared.cluster.Cluster.{Cluster}
use Rattle.mdcc_def_protocol.specs.Leader.{counted_promise, has_proposed, is_covered, is_promise_counted, is_waiting, lead, lead_begun, led_anew, led_again, led_by, led_on, next_round, on_promise, on_refused, promise_taken, refused_by, reports_of, structure_made, with_promise, with_refused, with_round_refused}
use Rattle.mdcc_def_protocol.specs.Facts.{current_of, promise_of}
use Rattle.mdcc_def_protocol.specs.Structures.{first_structure, is_crowded, is_enough, with_choice, with_claim}
use Rattle.mdcc_def_protocol.specs.Volatile.{Lead, Leading, lead_of, number_kept_at, structure_at, with_lead, with_number, with_structure}
use Rattle.mdcc_def_protocol.specs.declared.leader.LeadFault.{LeadFault}
use Rattle.mdcc_def_protocol.specs.declared.leader.Promise.{Promise}
use Rattle.mdcc_def_protocol.specs.declared.leader.PromiseAnswer.{PromiseAnswer}
use Rattle.mdcc_struct.specs.Maps.{value_of}

-- ---- at the key

-- a lead takes the place of the one that the key had, at its ballot
pub Keeps-with : (quorums : Sizes) (leading : Leading) (key : Key) (led : Led) (lead : Lead) → KeepsLead quorums leading key (Some led)
    → lead.key ≡ key → lead.ballot.round ≡ led.lead.ballot.round → AreOfCentres quorums lead.promises
    → KeepsLead quorums (with_lead leading lead) key (Some (record { lead = lead; refused_round = led.refused_round }))
Keeps-with quorums leading key led lead k is same of = record {
  lead = lead_of-with leading lead key ∙ rw (is, key_eq-refl key) refl;
  refused = k.refused;
  last = k.last ∙ sym same;
  promised = of;
}

-- a new lead
pub Keeps-anew : (cluster : Cluster) (me epoch : ℕ) (leading : Leading) (claim : Claim) (round : ℕ) (led : Option Led) → KeepsLead cluster.quorums leading claim.key led
    → KeepsLead cluster.quorums
    (record (with_lead leading (lead_begun cluster me epoch claim round)) { last_rounds = with_number leading.last_rounds claim.key round })
    claim.key (Some (record { lead = lead_begun cluster me epoch claim round; refused_round = round_refused led }))
Keeps-anew cluster me epoch leading claim round led k = record {
  lead = lead_of-with leading (lead_begun cluster me epoch claim round) claim.key ∙ rw (key_eq-refl claim.key) refl;
  refused = k.refused;
  last = number_at-with leading.last_rounds claim.key round claim.key ∙ rw (key_eq-refl claim.key) refl;
  promised = omega arith;
}

-- ---- at other keys

-- two states have the same for a key
pub record SameAt (a b : Leading) (key : Key) : Type 0 where
  pub leads : lead_of a key ≡ lead_of b key
  pub refused : number_kept_at a.refused_rounds key ≡ number_kept_at b.refused_rounds key
  pub last : number_kept_at a.last_rounds key ≡ number_kept_at b.last_rounds key

pub SameAt-refl : (a : Leading) (key : Key) → SameAt a a key
SameAt-refl a key = record { leads = refl; refused = refl; last = refl }

pub Keeps-same : (quorums : Sizes) (a b : Leading) (key : Key) (led : Option Led) → SameAt a b key → KeepsLead quorums a key led → KeepsLead quorums b key led
Keeps-same quorums a b key led s k = record {
  lead = sym s.leads ∙ k.lead;
  refused = sym s.refused ∙ k.refused;
  last = sym s.last ∙ k.last;
  promised = k.promised;
}

pub with_lead-elsewhere : (leading : Leading) (lead : Lead) (key : Key) → key_eq lead.key key ≡ false → SameAt leading (with_lead leading lead) key
with_lead-elsewhere leading lead key other = record {
  leads = sym (lead_of-with leading lead key ∙ rw other refl);
  refused = refl;
  last = refl;
}

-- by either branch of a test
SameAt-if : {A : Type 0} (leading : Leading) (key : Key) (test : Bool) (x y : A × Leading) → SameAt leading x.1 key → SameAt leading y.1 key
    → SameAt leading (cond test x y).1 key
SameAt-if leading key true x y h k = h
SameAt-if leading key false x y h k = k

SameAt-left : {A : Type 0} (leading : Leading) (key : Key) (test : Bool) (x y : Result (A × Leading) LeadFault) → SameAt leading (left leading x) key
    → SameAt leading (left leading y) key → SameAt leading (left leading (cond test x y)) key
SameAt-left leading key true x y h k = h
SameAt-left leading key false x y h k = k

pub led_anew-elsewhere : (cluster : Cluster) (me epoch : ℕ) (facts : List Fact) (leading : Leading) (claim : Claim) (key : Key) → key_eq claim.key key ≡ false
    → SameAt leading (left leading (led_anew cluster me epoch facts leading claim)) key
led_anew-elsewhere cluster me epoch facts leading claim key other =
    let round = next_round facts leading claim.key claim.version in
    SameAt-left leading key (nat_le (2 ^ 32) round) _ _ (SameAt-refl leading key) (record {
      leads = sym (lead_of-with leading (lead_begun cluster me epoch claim round) key ∙ rw other refl);
      refused = refl;
      last = sym (number_at-with leading.last_rounds claim.key round key ∙ rw other refl);
    })

led_on-elsewhere : (cluster : Cluster) (facts : List Fact) (leading : Leading) (of : Lead) (claim : Claim) (key : Key) → key_eq of.key key ≡ false
    → SameAt leading (led_on cluster facts leading of claim).1 key
led_on-elsewhere cluster facts leading of claim key other =
    let last = structure_at of.structures claim.version in
    let options = with_claim cluster facts of.key claim.version last (claim.tx, claim.choice) in
    SameAt-if leading key (is_some (value_of last claim.tx)) _ _ (SameAt-refl leading key)
    (SameAt-if leading key (is_some (value_of options claim.tx)) _ _
    (with_lead-elsewhere leading (record of { structures = with_structure of.structures claim.version options }) key other) (SameAt-refl leading key))

led_by-elsewhere : (cluster : Cluster) (me epoch : ℕ) (facts : List Fact) (leading : Leading) (claim : Claim) (key : Key) (found : Option Lead)
    → lead_of leading claim.key ≡ found → key_eq claim.key key ≡ false
    → SameAt leading (left leading (led_by cluster me epoch facts leading claim found)) key
led_by-elsewhere cluster me epoch facts leading claim key None at other = led_anew-elsewhere cluster me epoch facts leading claim key other
led_by-elsewhere cluster me epoch facts leading claim key (Some of) at other =
    let is : of.key ≡ claim.key = lead_of-key leading.leads claim.key of at in
    let apart : key_eq of.key key ≡ false = rw is other in
    let anew = led_anew-elsewhere cluster me epoch facts leading claim key other in
    SameAt-left leading key of.is_refused _ _ anew
    (SameAt-left leading key (is_covered cluster.quorums of claim.version) _ _ (led_on-elsewhere cluster facts leading of claim key apart)
    (SameAt-left leading key (is_waiting of claim.version) _ _
    (with_lead-elsewhere leading (record of { claims = with_choice of.claims (claim.tx, claim.choice) }) key apart) anew))

-- a claim changes nothing at other keys
pub lead-elsewhere : (cluster : Cluster) (me epoch : ℕ) (facts : List Fact) (leading : Leading) (claim : Claim) (key : Key) → key_eq claim.key key ≡ false
    → SameAt leading (left leading (lead cluster me epoch facts leading claim)) key
lead-elsewhere cluster me epoch facts leading claim key other =
    SameAt-left leading key (nat_lt (current_of facts claim.key) claim.version) _ _ (SameAt-refl leading key)
    (led_by-elsewhere cluster me epoch facts leading claim key (lead_of leading claim.key) refl other)

made-elsewhere : (cluster : Cluster) (facts : List Fact) (leading : Leading) (of : Lead) (key : Key) → key_eq of.key key ≡ false
    → SameAt leading (left leading (structure_made cluster facts leading of)) key
made-elsewhere cluster facts leading of key other =
    let options = first_structure cluster facts of.key of.version of.claims (reports_of of.promises) in
    SameAt-left leading key (is_crowded options) _ _ (SameAt-refl leading key)
    (with_lead-elsewhere leading (record of { claims = []; structures = with_structure of.structures of.version options }) key other)

counted-elsewhere : (cluster : Cluster) (facts : List Fact) (leading : Leading) (of : Lead) (key : Key) → key_eq of.key key ≡ false
    → SameAt leading (left leading (counted_promise cluster facts leading of)) key
counted-elsewhere cluster facts leading of key other =
    let kept = with_lead-elsewhere leading of key other in
    SameAt-left leading key (has_proposed of) _ _ kept
    (SameAt-left leading key (is_enough cluster facts of.key of.version (reports_of of.promises)) _ _ (made-elsewhere cluster facts leading of key other) kept)

promise_taken-elsewhere : (cluster : Cluster) (facts : List Fact) (leading : Leading) (from : ℕ) (promise : Promise) (key : Key) (found : Option Lead)
    → lead_of leading promise.key ≡ found → key_eq promise.key key ≡ false
    → SameAt leading (left leading (promise_taken cluster facts leading from promise found)) key
promise_taken-elsewhere cluster facts leading from promise key None at other = SameAt-refl leading key
promise_taken-elsewhere cluster facts leading from promise key (Some of) at other =
    let is : of.key ≡ promise.key = lead_of-key leading.leads promise.key of at in
    SameAt-left leading key (is_promise_counted of from promise) _ _
    (counted-elsewhere cluster facts leading (with_promise of from promise) key (rw is other)) (SameAt-refl leading key)

-- nor does a promise
pub on_promise-elsewhere : (cluster : Cluster) (facts : List Fact) (leading : Leading) (from : ℕ) (promise : Promise) (key : Key) → key_eq promise.key key ≡ false
    → SameAt leading (left leading (on_promise cluster facts leading from promise)) key
on_promise-elsewhere cluster facts leading from promise key other =
    promise_taken-elsewhere cluster facts leading from promise key (lead_of leading promise.key) refl other

refused-elsewhere : (leading : Leading) (k : Key) (ballot promised : Ballot) (key : Key) (found : Option Lead)
    → lead_of leading k ≡ found → key_eq k key ≡ false → SameAt leading (refused_by leading k ballot promised found) key
refused-elsewhere leading k ballot promised key None at other = SameAt-refl leading key
refused-elsewhere leading k ballot promised key (Some lead) at other =
    let is : (with_refused lead ballot).key ≡ k = refused_key lead ballot ∙ lead_of-key leading.leads k lead at in
    let kept = with_lead-elsewhere leading (with_refused lead ballot) key (rw is other) in
    record {
      leads = kept.leads;
      refused = sym (number_at-with leading.refused_rounds k _ key ∙ rw other refl);
      last = refl;
    }
  where
    refused_key : (lead : Lead) (ballot : Ballot) → (with_refused lead ballot).key ≡ lead.key
    refused_key lead ballot = grind arith

-- nor does a refusal
pub on_refused-elsewhere : (leading : Leading) (k : Key) (ballot promised : Ballot) (key : Key) → key_eq k key ≡ false
    → SameAt leading (on_refused leading k ballot promised) key
on_refused-elsewhere leading k ballot promised key other = refused-elsewhere leading k ballot promised key (lead_of leading k) refl other

-- ---- at the key, by call

with_refused-same : (of : Lead) (ballot : Ballot) → ((with_refused of ballot).key ≡ of.key) × ((with_refused of ballot).ballot.round ≡ of.ballot.round) × ((with_refused of ballot).promises ≡ of.promises)
with_refused-same of ballot =
    elim (cases_Bool (ballot_eq of.ballot ballot)) [
      | inl same ↦ rw same (refl, refl, refl)
      | inr other ↦ rw other (refl, refl, refl)
    ]

pub Keeps-refused : (quorums : Sizes) (leading : Leading) (key : Key) (ballot promised : Ballot) (led after : Led) → KeepsLead quorums leading key (Some led)
    → after.lead ≡ with_refused led.lead ballot → after.refused_round ≡ max led.refused_round promised.round
    → KeepsLead quorums (on_refused leading key ballot promised) key (Some after)
Keeps-refused quorums leading key ballot promised led after k is round =
    let same = with_refused-same led.lead ballot in
    let of : led.lead.key ≡ key = lead_of-key leading.leads key led.lead k.lead in
    let there : (with_refused led.lead ballot).key ≡ key = same.0 ∙ of in
    let greatest = max (number_kept_at leading.refused_rounds key) promised.round in
    rw k.lead (record {
      lead = lead_of-with leading (with_refused led.lead ballot) key ∙ rw (there, key_eq-refl key) (ap (λ x. Some x) (sym is));
      refused = number_at-with leading.refused_rounds key greatest key ∙ rw (key_eq-refl key, k.refused) (sym round);
      last = k.last ∙ sym same.1 ∙ ap (λ x. x.ballot.round) (sym is);
      promised = rw (is, same.2) k.promised;
    })

pub Keeps-replaced : (cluster : Cluster) (me epoch : ℕ) (facts : List Fact) (leading : Leading) (claim : Claim) (led : Option Led) (begun : Lead)
    → KeepsLead cluster.quorums leading claim.key led → Ok begun ≡ begun_with cluster me epoch facts (round_refused led) (round_led led) claim
    → KeepsLead cluster.quorums (left leading (led_anew cluster me epoch facts leading claim)) claim.key (Some (record { lead = begun; refused_round = round_refused led }))
Keeps-replaced cluster me epoch facts leading claim led begun k is =
    let round = 1 + max (promise_of facts claim.key claim.version).round (max (round_refused led) (round_led led)) in
    elim (cases_Bool (nat_le (2 ^ 32) round)) [
      | inl past ↦ absurd (let bad : Ok begun ≡ Err LeadFault.Exhausted = is ∙ rw past refl in cc)
      | inr within ↦
          let made : Ok begun ≡ Ok (lead_begun cluster me epoch claim round) = is ∙ rw within refl in
          let same : begun ≡ lead_begun cluster me epoch claim round = cc in
          rw (k.refused, k.last, within, same) (Keeps-anew cluster me epoch leading claim round led k)
    ]

Keeps-true : {A : Type 0} (quorums : Sizes) (leading : Leading) (key : Key) (led : Option Led) (test : Bool) (x y : Result (A × Leading) LeadFault) → test ≡ true
    → KeepsLead quorums (left leading x) key led → KeepsLead quorums (left leading (cond test x y)) key led
Keeps-true quorums leading key led true x y h k = k
Keeps-true quorums leading key led false x y h k = absurd (cc)

Keeps-false : {A : Type 0} (quorums : Sizes) (leading : Leading) (key : Key) (led : Option Led) (test : Bool) (x y : Result (A × Leading) LeadFault) → test ≡ false
    → KeepsLead quorums (left leading y) key led → KeepsLead quorums (left leading (cond test x y)) key led
Keeps-false quorums leading key led true x y h k = absurd (cc)
Keeps-false quorums leading key led false x y h k = k

Keeps-if : {A : Type 0} (quorums : Sizes) (key : Key) (refused : ℕ) (test : Bool) (x y : A × Leading) (a b : Lead)
    → KeepsLead quorums x.1 key (Some (record { lead = a; refused_round = refused })) → KeepsLead quorums y.1 key (Some (record { lead = b; refused_round = refused }))
    → KeepsLead quorums (cond test x y).1 key (Some (record { lead = cond test a b; refused_round = refused }))
Keeps-if quorums key refused true x y a b h k = h
Keeps-if quorums key refused false x y a b h k = k

-- a lead that proposes at once
pub Keeps-extended : (cluster : Cluster) (me epoch : ℕ) (facts : List Fact) (leading : Leading) (claim : Claim) (led : Led) → KeepsLead cluster.quorums leading claim.key (Some led)
    → led.lead.is_refused ≡ false → is_covered cluster.quorums led.lead claim.version ≡ true
    → KeepsLead cluster.quorums (left leading (led_by cluster me epoch facts leading claim (Some led.lead))) claim.key
    (Some (record { lead = lead_extended cluster facts led.lead claim; refused_round = led.refused_round }))
Keeps-extended cluster me epoch facts leading claim led k stands covered =
    let of = led.lead in
    let last = structure_at of.structures claim.version in
    let options = with_claim cluster facts of.key claim.version last (claim.tx, claim.choice) in
    let longer = record of { structures = with_structure of.structures claim.version options } in
    let there : of.key ≡ claim.key = lead_of-key leading.leads claim.key of k.lead in
    Keeps-false cluster.quorums leading claim.key _ of.is_refused _ _ stands
    (Keeps-true cluster.quorums leading claim.key _ (is_covered cluster.quorums of claim.version) _ _ covered
    (Keeps-if cluster.quorums claim.key led.refused_round (is_some (value_of last claim.tx)) _ _ of (cond (is_some (value_of options claim.tx)) longer of) k
    (Keeps-if cluster.quorums claim.key led.refused_round (is_some (value_of options claim.tx)) _ _ longer of
    (Keeps-with cluster.quorums leading claim.key led longer k there refl k.promised) k)))

-- a lead that waits
pub Keeps-waiting : (cluster : Cluster) (me epoch : ℕ) (facts : List Fact) (leading : Leading) (claim : Claim) (led : Led) → KeepsLead cluster.quorums leading claim.key (Some led)
    → led.lead.is_refused ≡ false → is_covered cluster.quorums led.lead claim.version ≡ false → is_waiting led.lead claim.version ≡ true
    → KeepsLead cluster.quorums (left leading (led_by cluster me epoch facts leading claim (Some led.lead))) claim.key
    (Some (record { lead = record led.lead { claims = with_choice led.lead.claims (claim.tx, claim.choice) }; refused_round = led.refused_round }))
Keeps-waiting cluster me epoch facts leading claim led k stands bare waits =
    let of = led.lead in
    let longer = record of { claims = with_choice of.claims (claim.tx, claim.choice) } in
    let there : of.key ≡ claim.key = lead_of-key leading.leads claim.key of k.lead in
    Keeps-false cluster.quorums leading claim.key _ of.is_refused _ _ stands
    (Keeps-false cluster.quorums leading claim.key _ (is_covered cluster.quorums of claim.version) _ _ bare
    (Keeps-true cluster.quorums leading claim.key _ (is_waiting of claim.version) _ _ waits
    (Keeps-with cluster.quorums leading claim.key led longer k there refl k.promised)))

-- a promise that counts
pub Keeps-counted : (cluster : Cluster) (facts : List Fact) (leading : Leading) (from : ℕ) (promise : Promise) (led : Led) (answer : PromiseAnswer)
    → KeepsLead cluster.quorums leading promise.key (Some led) → is_promise_counted led.lead from promise ≡ true
    → AreOfCentres cluster.quorums (with_promise led.lead from promise).promises
    → Ok answer ≡ answer_alone (counted_promise cluster facts leading (with_promise led.lead from promise))
    → KeepsLead cluster.quorums (left leading (promise_taken cluster facts leading from promise (Some led.lead))) promise.key
    (Some (record { lead = lead_counted cluster facts (with_promise led.lead from promise); refused_round = led.refused_round }))
Keeps-counted cluster facts leading from promise led answer k counts are given =
    let of = with_promise led.lead from promise in
    let options = first_structure cluster facts of.key of.version of.claims (reports_of of.promises) in
    let made = record of { claims = []; structures = with_structure of.structures of.version options } in
    let there : of.key ≡ promise.key = lead_of-key leading.leads promise.key led.lead k.lead in
    let kept = Keeps-with cluster.quorums leading promise.key led of k there refl are in
    let put = Keeps-with cluster.quorums leading promise.key led made k there refl are in
    Keeps-true cluster.quorums leading promise.key _ (is_promise_counted led.lead from promise) _ _ counts
    (by (has_proposed of) (is_enough cluster facts of.key of.version (reports_of of.promises)) (is_crowded options) _ _ of made answer kept put given)
  where
    by : (proposed enough crowded : Bool) (a b : PromiseAnswer) (of made : Lead) (answer : PromiseAnswer)
        → KeepsLead cluster.quorums (with_lead leading of) promise.key (Some (record { lead = of; refused_round = led.refused_round }))
        → KeepsLead cluster.quorums (with_lead leading made) promise.key (Some (record { lead = made; refused_round = led.refused_round }))
        → Ok answer ≡ answer_alone (cond proposed (Ok (PromiseAnswer.Counted, with_lead leading of))
        (cond enough (cond crowded (Err LeadFault.Crowded) (Ok (a, with_lead leading made))) (Ok (b, with_lead leading of))))
        → KeepsLead cluster.quorums (left leading (cond proposed (Ok (PromiseAnswer.Counted, with_lead leading of))
        (cond enough (cond crowded (Err LeadFault.Crowded) (Ok (a, with_lead leading made))) (Ok (b, with_lead leading of))))) promise.key
        (Some (record { lead = cond proposed of (cond enough made of); refused_round = led.refused_round }))
    by true enough crowded a b of made answer kept put given = kept
    by false true true a b of made answer kept put given = absurd (cc)
    by false true false a b of made answer kept put given = put
    by false false crowded a b of made answer kept put given = kept

pub Keeps-counted-by : (cluster : Cluster) (facts : List Fact) (leading : Leading) (from : ℕ) (promise : Promise) (led : Led) (after : Lead) (result : Result PromiseAnswer LeadFault)
    → KeepsLead cluster.quorums leading promise.key (Some led) → is_promise_counted led.lead from promise ≡ true
    → AreOfCentres cluster.quorums (with_promise led.lead from promise).promises
    → GivesUnless is_lead_memory result (answer_alone (counted_promise cluster facts leading (with_promise led.lead from promise)))
    → OnOk result (after ≡ lead_counted cluster facts (with_promise led.lead from promise))
    → OnOk result (KeepsLead cluster.quorums (left leading (promise_taken cluster facts leading from promise (Some led.lead))) promise.key
    (Some (record { lead = after; refused_round = led.refused_round })))
Keeps-counted-by cluster facts leading from promise led after (Ok answer) k counts are given is =
    rw is (Keeps-counted cluster facts leading from promise led answer k counts are given)
Keeps-counted-by cluster facts leading from promise led after (Err fault) k counts are given is = tt
