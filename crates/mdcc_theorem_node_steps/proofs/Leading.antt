-- What a leader answers to a claim, a promise or a refusal, and what it keeps, is well-formed.
use Rattle.std.proofs.Common.{◌≡◌, ℕ, ◌-◌, ◌^◌, ◌==◌, ◌<◌, ◌≤◌, Bool, false, true, cond, List, [], ◌∷◌, length, refl, sym, subst, Option, Some, None, Result, Ok, Err, is_some, find, not, nat_le, nat_lt, arith}
use Rattle.std.specs.Int.{IsInRange}
use Rattle.std.specs.List.{AllByRecursion, list_any}
use Rattle.std.specs.Prelude.{unwrap_or}
use Rattle.std.proofs.lemmas.Bool.{and_parts, cond_both, eqb-true, leb-false}
use Rattle.mdcc_base.specs.Ballot.{ballot_eq}
use Rattle.mdcc_base.specs.Key.{key_eq}
use Rattle.mdcc_base.specs.declared.identifiers.Ballot.{Ballot}
use Rattle.mdcc_base.specs.declared.key.Key.{Key}
use Rattle.mdcc_option.proofs.Equal.{Decides-key}
use Rattle.mdcc_option.specs.declared.choices.Claim.{Claim}
use Rattle.mdcc_option.specs.declared.cluster.Cluster.{Cluster}
use Rattle.mdcc_struct.specs.Maps.{value_of}
use Rattle.mdcc_struct.specs.declared.options.Options.{Options}
use Rattle.mdcc_struct.specs.declared.report.Report.{Report}
use Rattle.mdcc_def_protocol.specs.Facts.{current_of}
use Rattle.mdcc_def_protocol.specs.Leader.{counted_promise, is_at_odds, is_covered, is_promise_counted, is_waiting, lead, lead_begun, led_again, led_anew, led_by, led_on, next_round, on_promise, on_refused, prepare_of, promise_taken, refused_by, reports_of, structure_made, with_promise, with_refused, has_proposed}
use Rattle.mdcc_def_protocol.specs.Structures.{first_structure, is_crowded, with_choice, with_claim, is_enough}
use Rattle.mdcc_def_protocol.specs.Volatile.{CountedPromise, Lead, Leading, lead_of, structure_at, structure_found, with_lead, with_number, with_structure}
use Rattle.mdcc_def_messages.specs.WellFormedParts.{IsWellFormedClassic, IsWellFormedInstance, IsWellFormedOptions}
use Rattle.mdcc_def_messages.specs.WellFormed.{IsWellFormedPrepare, IsWellFormedPromise}
use Rattle.mdcc_def_messages.specs.declared.facts.Fact.{Fact}
use Rattle.mdcc_def_protocol.specs.declared.leader.LeadAnswer.{LeadAnswer}
use Rattle.mdcc_def_protocol.specs.declared.leader.LeadFault.{LeadFault}
use Rattle.mdcc_def_protocol.specs.declared.leader.Promise.{Promise}
use Rattle.mdcc_def_protocol.specs.declared.leader.PromiseAnswer.{PromiseAnswer}
use Rattle.mdcc_theorem_node_steps.specs.WellFormedVolatile.{IsWellFormedClaim, IsWellFormedCounted, IsWellFormedLead, IsWellFormedMade}
use Rattle.mdcc_theorem_node_steps.proofs.Claims.{IsFormedClaim}
use Rattle.mdcc_theorem_node_steps.proofs.Each.{each-append, each-kept, each-map, each-weaker}
use Rattle.mdcc_theorem_node_steps.proofs.Held.{HoldsIn}
use Rattle.mdcc_theorem_node_steps.proofs.Structuring.{AreMarks, claims-with, first-made, made-more}

-- ---- leads

abbrev pub AreLeads : Leading → Type 0
AreLeads leader = AllByRecursion IsWellFormedLead leader.leads

leads-with : (leader : Leading) (lead : Lead) → AreLeads leader → IsWellFormedLead lead → AreLeads (with_lead leader lead)
leads-with leader lead h w = (w, each-kept IsWellFormedLead (λ other. not (key_eq other.key lead.key)) leader.leads h)

-- what is found passes the test
holds-found : {X : Type 0} (P : X → Type 0) (test : X → Bool) (xs : List X) → AllByRecursion P xs → HoldsIn (λ x. P x × (test x ≡ true)) (find test xs)
holds-found P test [] h = tt
holds-found P test (x ∷ xs) h = cond_both (test x) (Some x) (find test xs) (HoldsIn (λ x. P x × (test x ≡ true))) (λ e. (h.0, e)) (λ e. holds-found P test xs h.1)

-- the lead of a key
abbrev IsLeadOf : Key → Lead → Type 0
IsLeadOf key lead = IsWellFormedLead lead × (key_eq lead.key key ≡ true)

-- ---- structures by version

structures-with : (key : Key) (structures : List (ℕ × Options)) (version : ℕ) (options : Options) → AllByRecursion (λ s. IsWellFormedMade key s.0 s.1) structures → IsWellFormedMade key version options
    → AllByRecursion (λ s. IsWellFormedMade key s.0 s.1) (with_structure structures version options)
structures-with key [] version options h w = (w, tt)
structures-with key (s ∷ ss) version options h w =
    cond_both (s.0 == version) ((version, options) ∷ ss) (s ∷ with_structure ss version options) (λ (m : List (ℕ × Options)). AllByRecursion (λ s. IsWellFormedMade key s.0 s.1) m)
    (λ e. (w, h.1)) (λ e. (h.0, structures-with key ss version options h.1 w))

structure-found : (key : Key) (structures : List (ℕ × Options)) (version : ℕ) → AllByRecursion (λ s. IsWellFormedMade key s.0 s.1) structures → HoldsIn (IsWellFormedMade key version) (structure_found structures version)
structure-found key [] version h = tt
structure-found key (s ∷ ss) version h =
    cond_both (s.0 == version) (Some s.1) (structure_found ss version) (HoldsIn (IsWellFormedMade key version))
    (λ e. subst (λ v. IsWellFormedMade key v s.1) (eqb-true s.0 version e) h.0) (λ e. structure-found key ss version h.1)

-- an empty structure where none was made
structure-here : (key : Key) (structures : List (ℕ × Options)) (version : ℕ) → version < 2 ^ 64 → AllByRecursion (λ s. IsWellFormedMade key s.0 s.1) structures
    → IsWellFormedMade key version (structure_at structures version)
structure-here key structures version fits h = by_found (structure_found structures version) (structure-found key structures version h)
  where
    by_found : (o : Option Options) → HoldsIn (IsWellFormedMade key version) o → IsWellFormedMade key version (unwrap_or o [])
    by_found None k = record { version_fits = fits; options_itself = record { count = omega arith; each = tt; ascending = refl }; room = refl }
    by_found (Some options) k = k

-- ---- claims

abbrev pub IsFormedLeadAnswer : Key → LeadAnswer → Type 0
IsFormedLeadAnswer key (LeadAnswer.Accept version ballot options) = IsWellFormedInstance key version × IsWellFormedClassic ballot × IsWellFormedOptions key version options × (is_crowded options ≡ false)
IsFormedLeadAnswer key (LeadAnswer.Prepare version through ballot) = IsWellFormedPrepare key version through ballot
IsFormedLeadAnswer key _ = Unit {0}

-- the answer for a key, and what is left
abbrev pub IsFormedLed : Key → LeadAnswer × Leading → Type 0
IsFormedLed key r = IsFormedLeadAnswer key r.0 × AreLeads r.1

abbrev pub OnOkOf : {X : Type 0} → (X → Type 0) → Result X LeadFault → Type 0
OnOkOf P (Ok x) = P x
OnOkOf P (Err fault) = Unit {0}

prepare-of : (key : Key) (lead : Lead) → IsLeadOf key lead → IsFormedLeadAnswer key (prepare_of lead)
prepare-of key lead w =
    subst (λ k. IsWellFormedPrepare k lead.version lead.through lead.ballot) ((Decides-key lead.key key).0 w.1)
    (record { instance = w.0.instance; not_below = w.0.not_below; through_fits = w.0.through_fits; classic = w.0.classic })

module _ (cluster : Cluster) (me : ℕ) (epoch : ℕ) (facts : List Fact) (leader : Leading) (claim : Claim) (of_me : IsInRange 1 9 me) (of_epoch : IsInRange 1 (2 ^ 32 - 1) epoch)
    (leads : AreLeads leader) (w : IsFormedClaim claim) where
  begun-lead : (round : ℕ) → 1 ≤ round → round < 2 ^ 32 → IsWellFormedLead (lead_begun cluster me epoch claim round)
  begun-lead round some below = record {
    instance = w.0;
    not_below = let fits = w.0.version_fits in omega arith;
    through_fits = omega arith;
    classic = record { round = (some, omega arith); epoch = of_epoch; centre = of_me };
    claims = (w.1, tt);
    promises = tt;
    structures = tt;
  }

  led-anew : OnOkOf (IsFormedLed claim.key) (led_anew cluster me epoch facts leader claim)
  led-anew =
      let round = next_round facts leader claim.key claim.version in
      let new = lead_begun cluster me epoch claim round in
      cond_both (nat_le (2 ^ 32) round) (Err LeadFault.Exhausted) (Ok (prepare_of new, record (with_lead leader new) { last_rounds = with_number leader.last_rounds claim.key round }))
      (OnOkOf (IsFormedLed claim.key)) (λ e. tt)
      (λ e.
      let formed = begun-lead round (omega arith) (leb-false (2 ^ 32) round e) in
      (prepare-of claim.key new (formed, (Decides-key claim.key claim.key).1 refl), leads-with leader new leads formed))

  led-again : (old : Lead) → IsLeadOf claim.key old → old.version ≡ claim.version → IsFormedLed claim.key (led_again leader old claim)
  led-again old h same =
      let own : IsWellFormedClaim old.key old.version claim.tx claim.choice =
      subst (λ k. IsWellFormedClaim k old.version claim.tx claim.choice) (sym ((Decides-key old.key claim.key).0 h.1)) (subst (λ v. IsWellFormedClaim claim.key v claim.tx claim.choice) (sym same) w.1) in (
        prepare-of claim.key old h,
        leads-with leader (record old { claims = with_choice old.claims (claim.tx, claim.choice) }) leads (record {
          instance = h.0.instance;
          not_below = h.0.not_below;
          through_fits = h.0.through_fits;
          classic = h.0.classic;
          claims = claims-with old.key old.version old.claims (claim.tx, claim.choice) h.0.claims own;
          promises = h.0.promises;
          structures = h.0.structures;
        }),
      )

  led-on : (old : Lead) → IsLeadOf claim.key old → IsFormedLed claim.key (led_on cluster facts leader old claim)
  led-on old h =
      let same : old.key ≡ claim.key = (Decides-key old.key claim.key).0 h.1 in
      let last = structure_at old.structures claim.version in
      let options = with_claim cluster facts old.key claim.version last (claim.tx, claim.choice) in
      let made : IsWellFormedMade old.key claim.version last = structure-here old.key old.structures claim.version w.0.version_fits h.0.structures in
      let more : IsWellFormedMade old.key claim.version options =
      made-more cluster facts old.key claim.version last (claim.tx, claim.choice) made (subst (λ k. IsWellFormedClaim k claim.version claim.tx claim.choice) (sym same) w.1) in
      let with_more = with_lead leader (record old { structures = with_structure old.structures claim.version options }) in
      let kept = leads-with leader (record old { structures = with_structure old.structures claim.version options }) leads (record {
        instance = h.0.instance;
        not_below = h.0.not_below;
        through_fits = h.0.through_fits;
        classic = h.0.classic;
        claims = h.0.claims;
        promises = h.0.promises;
        structures = structures-with old.key old.structures claim.version options h.0.structures more;
      }) in
      cond_both (is_some (value_of last claim.tx)) (LeadAnswer.Accept claim.version old.ballot last, leader)
      (cond (is_some (value_of options claim.tx)) (LeadAnswer.Accept claim.version old.ballot options, with_more) (LeadAnswer.Left, leader)) (IsFormedLed claim.key)
      (λ e. ((w.0, h.0.classic, subst (λ k. IsWellFormedOptions k claim.version last) same made.options_itself, made.room), leads))
      (λ e. cond_both (is_some (value_of options claim.tx)) (LeadAnswer.Accept claim.version old.ballot options, with_more) (LeadAnswer.Left, leader) (IsFormedLed claim.key)
      (λ f. ((w.0, h.0.classic, subst (λ k. IsWellFormedOptions k claim.version options) same more.options_itself, more.room), kept)) (λ f. (tt, leads)))

  led-by : (o : Option Lead) → HoldsIn (IsLeadOf claim.key) o → OnOkOf (IsFormedLed claim.key) (led_by cluster me epoch facts leader claim o)
  led-by None h = led-anew
  led-by (Some old) h =
      cond_both old.is_refused (led_anew cluster me epoch facts leader claim) _ (OnOkOf (IsFormedLed claim.key)) (λ e. led-anew)
      (λ e. cond_both (is_covered cluster.quorums old claim.version) (Ok (led_on cluster facts leader old claim)) _ (OnOkOf (IsFormedLed claim.key)) (λ f. led-on old h)
      (λ f. cond_both (is_waiting old claim.version) (Ok (led_again leader old claim)) (led_anew cluster me epoch facts leader claim) (OnOkOf (IsFormedLed claim.key))
      (λ g. led-again old h (eqb-true old.version claim.version (and_parts (old.version == claim.version) (not (has_proposed old)) g).0)) (λ g. led-anew)))

  pub led-formed : OnOkOf (IsFormedLed claim.key) (lead cluster me epoch facts leader claim)
  led-formed =
      cond_both (nat_lt (current_of facts claim.key) claim.version) (Ok (LeadAnswer.Behind, leader)) (led_by cluster me epoch facts leader claim (lead_of leader claim.key))
      (OnOkOf (IsFormedLed claim.key)) (λ e. (tt, leads))
      (λ e. led-by (lead_of leader claim.key) (holds-found IsWellFormedLead (λ old. key_eq old.key claim.key) leader.leads leads))

-- ---- promises

abbrev pub IsFormedPromiseAnswer : Key → PromiseAnswer → Type 0
IsFormedPromiseAnswer key (PromiseAnswer.Accept version ballot options) = IsWellFormedInstance key version × IsWellFormedClassic ballot × IsWellFormedOptions key version options × (is_crowded options ≡ false)
IsFormedPromiseAnswer key _ = Unit {0}

abbrev pub IsFormedTaken : Key → PromiseAnswer × Leading → Type 0
IsFormedTaken key r = IsFormedPromiseAnswer key r.0 × AreLeads r.1

abbrev pub IsFormedPromise : Promise → Type 0
IsFormedPromise promise = IsWellFormedPromise promise.key promise.version promise.through promise.ballot promise.reported promise.votes

made-formed : (cluster : Cluster) (facts : List Fact) (leader : Leading) (key : Key) (old : Lead) → AreLeads leader → IsLeadOf key old
    → OnOkOf (IsFormedTaken key) (structure_made cluster facts leader old)
made-formed cluster facts leader key old leads h =
    let options = first_structure cluster facts old.key old.version old.claims (reports_of old.promises) in
    let after = record old { claims = []; structures = with_structure old.structures old.version options } in
    cond_both (is_crowded options) (Err LeadFault.Crowded) (Ok (PromiseAnswer.Accept old.version old.ballot options, with_lead leader after)) (OnOkOf (IsFormedTaken key)) (λ e. tt)
    (λ e.
    let same : old.key ≡ key = (Decides-key old.key key).0 h.1 in
    let votes = each-map (λ (report : Report). AreMarks old.key old.version report.votes) (λ (promise : CountedPromise). record { centre = promise.from; ballot = promise.reported; votes = promise.votes }) old.promises
    (each-weaker (IsWellFormedCounted old.key old.version) (λ (promise : CountedPromise). AreMarks old.key old.version promise.votes) old.promises (λ promise k. (k.votes.each, k.votes.ascending)) h.0.promises) in
    let made : IsWellFormedMade old.key old.version options = first-made cluster facts old.key old.version old.claims (reports_of old.promises) h.0.instance.version_fits h.0.claims votes e in (
      (
        subst (λ k. IsWellFormedInstance k old.version) same h.0.instance,
        h.0.classic,
        subst (λ k. IsWellFormedOptions k old.version options) same made.options_itself,
        made.room,
      ),
      leads-with leader after leads (record {
        instance = h.0.instance;
        not_below = h.0.not_below;
        through_fits = h.0.through_fits;
        classic = h.0.classic;
        claims = tt;
        promises = h.0.promises;
        structures = structures-with old.key old.structures old.version options h.0.structures made;
      }),
    ))

counted-formed : (cluster : Cluster) (facts : List Fact) (leader : Leading) (key : Key) (new : Lead) → AreLeads leader → IsLeadOf key new
    → OnOkOf (IsFormedTaken key) (counted_promise cluster facts leader new)
counted-formed cluster facts leader key new leads h =
    let waiting = Ok (PromiseAnswer.Waiting (length new.promises), with_lead leader new) in
    cond_both (has_proposed new) (Ok (PromiseAnswer.Counted, with_lead leader new))
    (cond (is_enough cluster facts new.key new.version (reports_of new.promises)) (structure_made cluster facts leader new) waiting) (OnOkOf (IsFormedTaken key))
    (λ e. (tt, leads-with leader new leads h.0))
    (λ e. cond_both (is_enough cluster facts new.key new.version (reports_of new.promises)) (structure_made cluster facts leader new) waiting (OnOkOf (IsFormedTaken key))
    (λ f. made-formed cluster facts leader key new leads h) (λ f. (tt, leads-with leader new leads h.0)))

taken-formed : (cluster : Cluster) (facts : List Fact) (leader : Leading) (from : ℕ) (promise : Promise) (o : Option Lead) → AreLeads leader → IsFormedPromise promise → HoldsIn (IsLeadOf promise.key) o
    → OnOkOf (IsFormedTaken promise.key) (promise_taken cluster facts leader from promise o)
taken-formed cluster facts leader from promise None leads w h = (tt, leads)
taken-formed cluster facts leader from promise (Some old) leads w h =
    cond_both (is_promise_counted old from promise) (counted_promise cluster facts leader (with_promise old from promise)) (Ok (PromiseAnswer.Ignored, leader)) (OnOkOf (IsFormedTaken promise.key))
    (λ e. counted-formed cluster facts leader promise.key (with_promise old from promise) leads (new e, h.1)) (λ e. (tt, leads))
  where
    new : is_promise_counted old from promise ≡ true → IsWellFormedLead (with_promise old from promise)
    new e =
        let four = and_parts _ (not (is_at_odds old promise.reported promise.votes)) e in
        let three = and_parts _ (not (list_any (λ other. other.from == from) old.promises)) four.0 in
        let two = and_parts _ (not old.is_refused) three.0 in
        let same : old.version ≡ promise.version = eqb-true old.version promise.version (and_parts (old.version == promise.version) (ballot_eq old.ballot promise.ballot) two.0).0 in
        let votes : IsWellFormedOptions old.key old.version promise.votes =
        subst (λ k. IsWellFormedOptions k old.version promise.votes) (sym ((Decides-key old.key promise.key).0 h.1)) (subst (λ v. IsWellFormedOptions promise.key v promise.votes) (sym same) w.votes_itself) in
        record {
          instance = h.0.instance;
          not_below = h.0.not_below;
          through_fits = h.0.through_fits;
          classic = h.0.classic;
          claims = h.0.claims;
          promises = each-append (IsWellFormedCounted old.key old.version) old.promises (record { from = from; through = promise.through; reported = promise.reported; votes = promise.votes } ∷ []) h.0.promises
              (record { reported = w.reported_itself; votes = votes }, tt);
          structures = h.0.structures;
        }

pub promised-formed : (cluster : Cluster) (facts : List Fact) (leader : Leading) (from : ℕ) (promise : Promise) → AreLeads leader → IsFormedPromise promise
    → OnOkOf (IsFormedTaken promise.key) (on_promise cluster facts leader from promise)
promised-formed cluster facts leader from promise leads w =
    taken-formed cluster facts leader from promise (lead_of leader promise.key) leads w (holds-found IsWellFormedLead (λ old. key_eq old.key promise.key) leader.leads leads)

-- ---- refusals

refused-lead : (old : Lead) (ballot : Ballot) → IsWellFormedLead old → IsWellFormedLead (with_refused old ballot)
refused-lead old ballot w =
    cond_both (ballot_eq old.ballot ballot) (record old { is_refused = true }) old IsWellFormedLead
    (λ e. record { instance = w.instance; not_below = w.not_below; through_fits = w.through_fits; classic = w.classic; claims = w.claims; promises = w.promises; structures = w.structures }) (λ e. w)

leads-refused : (leader : Leading) (key : Key) (ballot promised : Ballot) (o : Option Lead) → AreLeads leader → HoldsIn (IsLeadOf key) o → AreLeads (refused_by leader key ballot promised o)
leads-refused leader key ballot promised None leads h = leads
leads-refused leader key ballot promised (Some old) leads h = leads-with leader (with_refused old ballot) leads (refused-lead old ballot h.0)

pub refused-leads : (leader : Leading) (key : Key) (ballot promised : Ballot) → AreLeads leader → AreLeads (on_refused leader key ballot promised)
refused-leads leader key ballot promised leads = leads-refused leader key ballot promised (lead_of leader key) leads (holds-found IsWellFormedLead (λ old. key_eq old.key key) leader.leads leads)
