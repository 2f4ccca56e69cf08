-- What a lead is after a claim, and the structure that its promises give.
use Rattle.std.specs.Prelude.{Err, List, None, Ok, Option, Result, Some, [], if◌then◌else◌, is_some, max, nat_le, ℕ, ◌+◌, ◌^◌, ◌||◌}
use Rattle.mdcc_base.specs.declared.identifiers.TxId.{TxId}
use Rattle.mdcc_def_messages.specs.declared.facts.Fact.{Fact}
use Rattle.mdcc_option.specs.declared.choices.Claim.{Claim}
use Rattle.mdcc_option.specs.declared.choices.Mark.{Mark}
use Rattle.mdcc_option.specs.declared.cluster.Cluster.{Cluster}
use Rattle.mdcc_def_protocol.specs.Facts.{is_settled, promise_of}
use Rattle.mdcc_def_protocol.specs.Leader.{has_proposed, lead_begun, reports_of}
use Rattle.mdcc_def_protocol.specs.Structures.{first_structure, is_enough, is_left_out, with_claim}
use Rattle.mdcc_def_protocol.specs.Volatile.{Lead, structure_at, with_structure}
use Rattle.mdcc_def_protocol.specs.declared.leader.LeadFault.{LeadFault}
use Rattle.mdcc_struct.specs.Maps.{value_of}
use Rattle.mdcc_struct.specs.declared.options.Options.{Options}

-- the structure at the claim's version has the claim, where it is not left out; one that has it stays
abbrev pub lead_extended : Cluster → List Fact → Lead → Claim → Lead
lead_extended cluster facts lead claim =
    let last = structure_at lead.structures claim.version in
    let options = with_claim cluster facts lead.key claim.version last (claim.tx, claim.choice) in
    if is_some (value_of last claim.tx) then lead
    else (if is_some (value_of options claim.tx) then record lead { structures = with_structure lead.structures claim.version options } else lead)

-- the first structure, where the promises are enough for it
abbrev pub structure_forced : Cluster → List Fact → Lead → Option Options
structure_forced cluster facts lead =
    if is_enough cluster facts lead.key lead.version (reports_of lead.promises)
    then Some (first_structure cluster facts lead.key lead.version lead.claims (reports_of lead.promises)) else None

-- a new lead for a claim, above the greatest refused round of its key and that of its last lead
abbrev pub begun_with : Cluster → ℕ → ℕ → List Fact → (refused last : ℕ) → Claim → Result Lead LeadFault
begun_with cluster me epoch facts refused last claim =
    let round = 1 + max (promise_of facts claim.key claim.version).round (max refused last) in
    if nat_le (2 ^ 32) round then Err LeadFault.Exhausted else Ok (lead_begun cluster me epoch claim round)

-- the mark of a claim that its structure has not, unless it is left out: where its transaction is settled, or there is no room
abbrev pub judged : List Fact → TxId → Options → Mark → Option Mark
judged facts tx options mark = if is_settled facts tx || is_left_out options mark then None else Some mark

-- one promise more is counted; with the first that make them enough the structure stands, and no claim is pending
abbrev pub lead_counted : Cluster → List Fact → Lead → Lead
lead_counted cluster facts lead =
    if has_proposed lead then lead
    else (if is_enough cluster facts lead.key lead.version (reports_of lead.promises)
    then record lead { claims = []; structures = with_structure lead.structures lead.version (first_structure cluster facts lead.key lead.version lead.claims (reports_of lead.promises)) }
    else lead)
