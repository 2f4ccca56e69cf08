-- The leader: classic ballots on the instances of a key. (Fast Paxos; Generalized Paxos; MDCC.)
use Rattle.std.specs.List.{list_any}
use Rattle.std.specs.Prelude.{Bool, Err, List, None, Ok, Option, Result, Some, [], false, if◌then◌else◌, is_some, length, map, max, min, nat_le, nat_lt, not, true, ℕ, ◌&&◌, ◌++◌, ◌+◌, ◌-◌, ◌==◌, ◌^◌, ◌||◌, ◌∷◌}
use Rattle.mdcc_base.specs.Ballot.{ballot_eq, is_fast}
use Rattle.mdcc_base.specs.Counts.{number_of}
use Rattle.mdcc_base.specs.Sizes.{Sizes}
use Rattle.mdcc_base.specs.declared.identifiers.Ballot.{Ballot}
use Rattle.mdcc_base.specs.declared.key.Key.{Key}
use Rattle.mdcc_option.specs.declared.choices.Choice.{Choice}
use Rattle.mdcc_option.specs.declared.choices.Claim.{Claim}
use Rattle.mdcc_option.specs.declared.cluster.Cluster.{Cluster}
use Rattle.mdcc_struct.specs.Maps.{value_of}
use Rattle.mdcc_struct.specs.Options.{differing}
use Rattle.mdcc_struct.specs.declared.options.Options.{Options}
use Rattle.mdcc_struct.specs.declared.report.Report.{Report}
use Rattle.mdcc_def_protocol.specs.Facts.{current_of, promise_of}
use Rattle.mdcc_def_protocol.specs.Structures.{first_structure, is_crowded, is_enough, with_choice, with_claim}
use Rattle.mdcc_def_protocol.specs.Volatile.{CountedPromise, Lead, Leading, lead_of, number_kept_at, structure_at, structure_found, with_lead, with_number, with_structure}
use Rattle.mdcc_def_messages.specs.declared.facts.Fact.{Fact}
use Rattle.mdcc_def_protocol.specs.declared.leader.LeadAnswer.{LeadAnswer}
use Rattle.mdcc_def_protocol.specs.declared.leader.LeadFault.{LeadFault}
use Rattle.mdcc_def_protocol.specs.declared.leader.Promise.{Promise}
use Rattle.mdcc_def_protocol.specs.declared.leader.PromiseAnswer.{PromiseAnswer}

-- ---- a new lead

-- one above this node's promise for the instance, the greatest refused round of the key and the round of its last lead
abbrev pub next_round : List Fact → Leading → Key → ℕ → ℕ
next_round facts leader key version =
    1 + max (promise_of facts key version).round (max (number_kept_at leader.refused_rounds key) (number_kept_at leader.last_rounds key))

-- a lead over the version of the claim and as many above it as a classic range has
abbrev pub lead_begun : Cluster → ℕ → ℕ → Claim → ℕ → Lead
lead_begun cluster me epoch claim round = record {
  key = claim.key;
  version = claim.version;
  through = min (claim.version + cluster.gamma) (2 ^ 64 - 1);
  ballot = record { round = round; epoch = epoch; centre = me };
  is_refused = false;
  claims = (claim.tx, claim.choice) ∷ [];
  promises = [];
  structures = [];
}

abbrev pub prepare_of : Lead → LeadAnswer
prepare_of lead = LeadAnswer.Prepare lead.version lead.through lead.ballot

-- it takes the place of the old one, and the claim is pending
abbrev pub led_anew : Cluster → ℕ → ℕ → List Fact → Leading → Claim → Result (LeadAnswer × Leading) LeadFault
led_anew cluster me epoch facts leader claim =
    let round = next_round facts leader claim.key claim.version in
    if nat_le (2 ^ 32) round then Err LeadFault.Exhausted
    else (let lead = lead_begun cluster me epoch claim round in
    Ok (prepare_of lead, record (with_lead leader lead) { last_rounds = with_number leader.last_rounds claim.key round }))

-- ---- a lead that stands

-- the claim is pending, once for its transaction and with the choice where one of its claims gave it, and promises are asked for again
abbrev pub led_again : Leading → Lead → Claim → LeadAnswer × Leading
led_again leader lead claim =
    (prepare_of lead, with_lead leader (record lead { claims = with_choice lead.claims (claim.tx, claim.choice) }))

-- the structure at the claim's version is extended by the claim, unless it has it, and sent; a claim that is left out changes nothing
abbrev pub led_on : Cluster → List Fact → Leading → Lead → Claim → LeadAnswer × Leading
led_on cluster facts leader lead claim =
    let last = structure_at lead.structures claim.version in
    let options = with_claim cluster facts lead.key claim.version last (claim.tx, claim.choice) in
    if is_some (value_of last claim.tx) then (LeadAnswer.Accept claim.version lead.ballot last, leader)
    else (if is_some (value_of options claim.tx)
    then (
      LeadAnswer.Accept claim.version lead.ballot options,
      with_lead leader (record lead { structures = with_structure lead.structures claim.version options }),
    )
    else (LeadAnswer.Left, leader))

-- whether the lead has made the structure at its own version
abbrev pub has_proposed : Lead → Bool
has_proposed lead = is_some (structure_found lead.structures lead.version)

-- whether the promises of a classic quorum contain the version, and the lead has proposed where it is its own
abbrev pub is_covered : Sizes → Lead → ℕ → Bool
is_covered quorums lead version =
    nat_le lead.version version
    && nat_le quorums.classic (number_of (λ promise. nat_le version promise.through) lead.promises)
    && (nat_lt lead.version version || has_proposed lead)

-- whether the lead waits for promises at this version
abbrev pub is_waiting : Lead → ℕ → Bool
is_waiting lead version = lead.version == version && not (has_proposed lead)

-- by the lead of the key
abbrev pub led_by : Cluster → ℕ → ℕ → List Fact → Leading → Claim → Option Lead → Result (LeadAnswer × Leading) LeadFault
led_by cluster me epoch facts leader claim None = led_anew cluster me epoch facts leader claim
led_by cluster me epoch facts leader claim (Some lead) =
    if lead.is_refused then led_anew cluster me epoch facts leader claim
    else (if is_covered cluster.quorums lead claim.version then Ok (led_on cluster facts leader lead claim)
    else (if is_waiting lead claim.version then Ok (led_again leader lead claim)
    else led_anew cluster me epoch facts leader claim))

-- what the leader of a centre answers in its epoch to a claim, and leaves
abbrev pub lead : Cluster → ℕ → ℕ → List Fact → Leading → Claim → Result (LeadAnswer × Leading) LeadFault
lead cluster me epoch facts leader claim =
    if nat_lt (current_of facts claim.key) claim.version then Ok (LeadAnswer.Behind, leader)
    else led_by cluster me epoch facts leader claim (lead_of leader claim.key)

-- the claim of a choice
abbrev pub claim_of_choice : Choice → Claim
claim_of_choice choice = record { tx = choice.tx; key = choice.key; version = choice.version; choice = Some choice }

-- whether the structure of the key's lead at the claim's version has a mark of its transaction
abbrev pub is_marked_by : Option Lead → Claim → Bool
is_marked_by None claim = false
is_marked_by (Some lead) claim = is_some (value_of (structure_at lead.structures claim.version) claim.tx)

abbrev pub is_marked : Leading → Claim → Bool
is_marked leader claim = is_marked_by (lead_of leader claim.key) claim

-- ---- promises

-- whether votes differ at a transaction from others
abbrev pub is_differing : Options → Options → Bool
is_differing votes others = is_some (differing votes others)

-- whether votes that are reported at a classic ballot differ from those that a counted promise reports there
abbrev pub is_at_odds : Lead → Ballot → Options → Bool
is_at_odds lead reported votes =
    not (is_fast reported) && list_any (λ promise. ballot_eq promise.reported reported && is_differing votes promise.votes) lead.promises

-- whether a promise counts: it is this lead's, the first of its centre, and no report contradicts it
abbrev pub is_promise_counted : Lead → ℕ → Promise → Bool
is_promise_counted lead from promise =
    lead.version == promise.version
    && ballot_eq lead.ballot promise.ballot
    && not lead.is_refused
    && not (list_any (λ other. other.from == from) lead.promises)
    && not (is_at_odds lead promise.reported promise.votes)

abbrev pub reports_of : List CountedPromise → List Report
reports_of promises = map (λ promise. record { centre = promise.from; ballot = promise.reported; votes = promise.votes }) promises

-- the structure at the lead's own version is made of the promises that are enough. Structures above it stay
abbrev pub structure_made : Cluster → List Fact → Leading → Lead → Result (PromiseAnswer × Leading) LeadFault
structure_made cluster facts leader lead =
    let options = first_structure cluster facts lead.key lead.version lead.claims (reports_of lead.promises) in
    if is_crowded options then Err LeadFault.Crowded
    else Ok (
      PromiseAnswer.Accept lead.version lead.ballot options,
      with_lead leader (record lead { claims = []; structures = with_structure lead.structures lead.version options }),
    )

-- one promise more is counted; the first with which they are enough makes the structure
abbrev pub counted_promise : Cluster → List Fact → Leading → Lead → Result (PromiseAnswer × Leading) LeadFault
counted_promise cluster facts leader lead =
    if has_proposed lead then Ok (PromiseAnswer.Counted, with_lead leader lead)
    else (if is_enough cluster facts lead.key lead.version (reports_of lead.promises) then structure_made cluster facts leader lead
    else Ok (PromiseAnswer.Waiting (length lead.promises), with_lead leader lead))

abbrev pub with_promise : Lead → ℕ → Promise → Lead
with_promise lead from promise =
    record lead { promises = lead.promises ++ record { from = from; through = promise.through; reported = promise.reported; votes = promise.votes } ∷ [] }

-- by the lead of the key
abbrev pub promise_taken : Cluster → List Fact → Leading → ℕ → Promise → Option Lead → Result (PromiseAnswer × Leading) LeadFault
promise_taken cluster facts leader from promise None = Ok (PromiseAnswer.Ignored, leader)
promise_taken cluster facts leader from promise (Some lead) =
    if is_promise_counted lead from promise then counted_promise cluster facts leader (with_promise lead from promise)
    else Ok (PromiseAnswer.Ignored, leader)

-- what the leader answers to a promise, and leaves
abbrev pub on_promise : Cluster → List Fact → Leading → ℕ → Promise → Result (PromiseAnswer × Leading) LeadFault
on_promise cluster facts leader from promise = promise_taken cluster facts leader from promise (lead_of leader promise.key)

-- ---- refusals

abbrev pub with_refused : Lead → Ballot → Lead
with_refused lead ballot = if ballot_eq lead.ballot ballot then record lead { is_refused = true } else lead

-- the greatest refused round of a key is remembered
abbrev pub with_round_refused : Leading → Key → ℕ → Leading
with_round_refused leader key round =
    record leader { refused_rounds = with_number leader.refused_rounds key (max (number_kept_at leader.refused_rounds key) round) }

-- by the lead of the key
abbrev pub refused_by : Leading → Key → Ballot → Ballot → Option Lead → Leading
refused_by leader key ballot promised None = leader
refused_by leader key ballot promised (Some lead) = with_round_refused (with_lead leader (with_refused lead ballot)) key promised.round

-- what a refusal of a ballot, for one that was promised, leaves of the leader
abbrev pub on_refused : Leading → Key → Ballot → Ballot → Leading
on_refused leader key ballot promised = refused_by leader key ballot promised (lead_of leader key)
