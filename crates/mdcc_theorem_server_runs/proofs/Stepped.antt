-- What a step of a centre's node leaves, and what a message, a tick or a request leaves.
use Rattle.std.proofs.Common.{◌≡◌, ℕ, Bool, List, [], ◌∷◌, ◌++◌, Option, Some, None, Result, Ok, Err, refl, sym, ◌∙◌, ap, append-nil, inr, subst}
use Rattle.std.specs.List.{AllByRecursion}
use Rattle.std.proofs.lemmas.List.Elements.{filter-append}
use Rattle.mdcc_base.specs.declared.identifiers.TxId.{TxId}
use Rattle.mdcc_base.specs.declared.key.Key.{Key}
use Rattle.mdcc_config.specs.declared.config.Config.{Config}
use Rattle.mdcc_def_messages.specs.declared.messages.ClientAnswer.{ClientAnswer}
use Rattle.mdcc_def_messages.specs.declared.messages.Envelope.{Envelope}
use Rattle.mdcc_option.specs.Transaction.{transaction_of}
use Rattle.mdcc_option.specs.declared.faults.DraftFault.{DraftFault}
use Rattle.mdcc_option.specs.declared.items.Part.{Part}
use Rattle.mdcc_def_rules.specs.Steps.{NodeStep, heard_by}
use Rattle.mdcc_def_rules.specs.declared.node.Answer.{Answer}
use Rattle.mdcc_def_rules.specs.declared.node.Input.{Input}
use Rattle.mdcc_def_rules.specs.declared.node.StepFault.{StepFault}
use Rattle.mdcc_theorem_server_runs.proofs.Joined.{LeavesOf, both_owed, each_owed}
use Rattle.mdcc_theorem_server_runs.proofs.Queued.{both_pending, pending_nil, pendings_are}
use Rattle.mdcc_theorem_server_runs.proofs.Seen.{inward_dropped, inward_none, inward_stepped}
use Rattle.mdcc_theorem_server_runs.specs.Inputs.{begin_input}
use Rattle.mdcc_theorem_server_runs.specs.Told.{IsOwed, between_centres, is_for_centre}
use Rattle.mdcc_def_server_runs.specs.Clients.{begun_for, known_of, with_end}
use Rattle.mdcc_def_server_runs.specs.Runs.{listed, run_of_inputs, step_on}
use Rattle.mdcc_def_server_runs.specs.Sending.{answer_to}
use Rattle.mdcc_def_server_runs.specs.Sites.{Site, idle_site}
use Rattle.mdcc_def_server_runs.specs.Steps.{answer_queued, begin_made, begin_noted, begin_taken, begin_taken_by, begin_told, dropped, end_of_begun, end_told, ends_told, input_made, input_taken, known_told, read_made, read_taken, reading_told, step_queued, stepped}
use Rattle.mdcc_def_server_runs.specs.declared.clients.Begun.{Begun}

-- ---- without a step

pub idle_leaves : (site : Site) → LeavesOf site [] (idle_site site)
idle_leaves site =
    record { mail = []; inward = inward_none; pending_is = pending_nil site.pending; messages = refl; owed = tt; centre_is = refl; node_is = refl; sent_is = refl }

pub dropped_leaves : (site : Site) → LeavesOf site [] (dropped site)
dropped_leaves site =
    record { mail = []; inward = inward_dropped; pending_is = pending_nil site.pending; messages = refl; owed = tt; centre_is = refl; node_is = refl; sent_is = refl }

refused_leaves : (site : Site) (fault : StepFault) → LeavesOf site (Err fault ∷ []) (dropped site)
refused_leaves site fault =
    record { mail = []; inward = inward_dropped; pending_is = pending_nil site.pending; messages = refl; owed = tt; centre_is = refl; node_is = refl; sent_is = refl }

-- an answer to the client
answer_leaves : (site : Site) (serial : ℕ) (answer : ClientAnswer) → LeavesOf site [] (answer_queued site serial answer)
answer_leaves site serial answer = record {
  mail = answer_to site.centre serial answer ∷ [];
  inward = inward_none;
  pending_is = refl;
  messages = refl;
  owed = (inr (record { serial = serial; answer = answer; is = refl }), tt);
  centre_is = refl;
  node_is = refl;
  sent_is = refl;
}

-- ---- with a step

-- at most one message, and that to the client
abbrev IsAnswer : ℕ → Option Envelope → Type 0
IsAnswer centre reply =
    (mail : List Envelope) → (between_centres (listed reply) ≡ []) × AllByRecursion (IsOwed centre mail) (listed reply)

none_answers : (centre : ℕ) → IsAnswer centre None
none_answers centre mail = (refl, tt)

some_answers : (centre serial : ℕ) (answer : ClientAnswer) → IsAnswer centre (Some (answer_to centre serial answer))
some_answers centre serial answer mail = (refl, (inr (record { serial = serial; answer = answer; is = refl }), tt))

-- its messages, with an answer among them
record AreOf (centre : ℕ) (step : NodeStep) (envelopes : List Envelope) : Type 0 where
  messages : between_centres envelopes ≡ between_centres step.sends
  owed : AllByRecursion (IsOwed centre step.sends) envelopes

answer_first : (centre : ℕ) (step : NodeStep) (reply : Option Envelope) → IsAnswer centre reply → AreOf centre step (listed reply ++ step.sends)
answer_first centre step reply answers = record {
  messages = filter-append is_for_centre (listed reply) step.sends ∙ ap (λ (xs : List Envelope). xs ++ between_centres step.sends) (answers []).0;
  owed = both_owed (IsOwed centre step.sends) (listed reply) step.sends (answers step.sends).1 (each_owed centre step.sends);
}

answer_last : (centre : ℕ) (step : NodeStep) (reply : Option Envelope) → IsAnswer centre reply → AreOf centre step (step.sends ++ listed reply)
answer_last centre step reply answers = record {
  messages = filter-append is_for_centre step.sends (listed reply)
      ∙ (ap (λ (xs : List Envelope). between_centres step.sends ++ xs) (answers []).0 ∙ append-nil (between_centres step.sends));
  owed = both_owed (IsOwed centre step.sends) step.sends (listed reply) (each_owed centre step.sends) (answers step.sends).1;
}

step_leaves : (site : Site) (step : NodeStep) (envelopes : List Envelope) → AreOf site.centre step envelopes
    → LeavesOf site (Ok step ∷ []) (stepped (step_queued site step envelopes))
step_leaves site step envelopes are = record {
  mail = envelopes;
  inward = inward_stepped;
  pending_is = ap (both_pending site.pending)
      (pendings_are (listed step.fact) (listed step.fact ++ []) envelopes envelopes (listed (heard_by step.fact)) (listed (heard_by step.fact) ++ [])
      (sym (append-nil (listed step.fact))) refl (sym (append-nil (listed (heard_by step.fact)))));
  messages = are.messages ∙ ap between_centres (sym (append-nil step.sends));
  owed = subst (λ (mail : List Envelope). AllByRecursion (IsOwed site.centre mail) envelopes) (sym (append-nil step.sends)) are.owed;
  centre_is = refl;
  node_is = refl;
  sent_is = refl;
}

-- ---- messages and ticks

end_answers : (centre : ℕ) (tx : TxId) (is_commit : Bool) (begun : Option Begun) → IsAnswer centre (end_told centre tx is_commit begun)
end_answers centre tx is_commit None = none_answers centre
end_answers centre tx is_commit (Some begun) = some_answers centre begun.serial (ClientAnswer.Heard tx is_commit)

ends_answer : (site : Site) (heard : Option (TxId × Bool)) → IsAnswer site.centre (ends_told site heard)
ends_answer site None = none_answers site.centre
ends_answer site (Some (tx, is_commit)) = end_answers site.centre tx is_commit (known_of site.clients tx)

made_leaves : (site : Site) (made : Result NodeStep StepFault) → LeavesOf site (made ∷ []) (input_made site made)
made_leaves site (Err fault) = refused_leaves site fault
made_leaves site (Ok step) =
    let heard = heard_by step.fact in
    step_leaves (record site { clients = with_end site.clients heard }) step (listed (ends_told site heard) ++ step.sends)
    (answer_first site.centre step (ends_told site heard) (ends_answer site heard))

pub input_leaves : (config : Config) (site : Site) (input : Input)
    → LeavesOf site (run_of_inputs config.cluster site.centre site.node (input ∷ [])) (input_taken config site input)
input_leaves config site input = made_leaves site (step_on config.cluster site.centre site.node input)

-- ---- reads

reading_answers : (centre serial : ℕ) (key : Key) (answer : Option Answer) → IsAnswer centre (reading_told centre serial key answer)
reading_answers centre serial key None = none_answers centre
reading_answers centre serial key (Some (Answer.Read reading)) = some_answers centre serial (ClientAnswer.Read key reading.token reading.item reading.due)
reading_answers centre serial key (Some (Answer.Begun tx)) = none_answers centre
reading_answers centre serial key (Some (Answer.Refused other fault)) = none_answers centre

read_made_leaves : (site : Site) (serial : ℕ) (key : Key) (made : Result NodeStep StepFault) → LeavesOf site (made ∷ []) (read_made site serial key made)
read_made_leaves site serial key (Err fault) = refused_leaves site fault
read_made_leaves site serial key (Ok step) =
    let reply = reading_told site.centre serial key step.answer in
    step_leaves site step (step.sends ++ listed reply) (answer_last site.centre step reply (reading_answers site.centre serial key step.answer))

pub read_leaves : (config : Config) (site : Site) (serial : ℕ) (key : Key)
    → LeavesOf site (run_of_inputs config.cluster site.centre site.node (Input.Read key ∷ [])) (read_taken config site serial key)
read_leaves config site serial key = read_made_leaves site serial key (step_on config.cluster site.centre site.node (Input.Read key))

-- ---- begins

begin_answers : (centre serial : ℕ) (answer : Option Answer) → IsAnswer centre (begin_told centre serial answer)
begin_answers centre serial None = none_answers centre
begin_answers centre serial (Some (Answer.Read reading)) = none_answers centre
begin_answers centre serial (Some (Answer.Begun tx)) = some_answers centre serial (ClientAnswer.Begun tx)
begin_answers centre serial (Some (Answer.Refused key fault)) = some_answers centre serial (ClientAnswer.Refused key fault)

-- what is noted of it changes nothing of that
noted_leaves : (site : Site) (serial : ℕ) (step : NodeStep) (envelopes : List Envelope) (answer : Option Answer) → AreOf site.centre step envelopes
    → LeavesOf site (Ok step ∷ []) (stepped (step_queued (begin_noted site serial answer) step envelopes))
noted_leaves site serial step envelopes None are = step_leaves site step envelopes are
noted_leaves site serial step envelopes (Some (Answer.Read reading)) are = step_leaves site step envelopes are
noted_leaves site serial step envelopes (Some (Answer.Begun tx)) are = step_leaves (begin_noted site serial (Some (Answer.Begun tx))) step envelopes are
noted_leaves site serial step envelopes (Some (Answer.Refused key fault)) are = step_leaves site step envelopes are

begin_made_leaves : (site : Site) (serial : ℕ) (made : Result NodeStep StepFault) → LeavesOf site (made ∷ []) (begin_made site serial made)
begin_made_leaves site serial (Err fault) = refused_leaves site fault
begin_made_leaves site serial (Ok step) =
    let reply = begin_told site.centre serial step.answer in
    noted_leaves site serial step (step.sends ++ listed reply) step.answer (answer_last site.centre step reply (begin_answers site.centre serial step.answer))

begin_by_leaves : (config : Config) (site : Site) (serial : ℕ) (parts : List Part) (known : Option TxId) (draft : Result (List Part) DraftFault)
    → transaction_of config.cluster.schema parts ≡ draft
    → LeavesOf site (run_of_inputs config.cluster site.centre site.node (begin_input known draft)) (begin_taken_by config site serial parts known)
begin_by_leaves config site serial parts (Some tx) draft is = answer_leaves site serial (known_told tx (end_of_begun (known_of site.clients tx)))
begin_by_leaves config site serial parts None (Err fault) is = rw is (answer_leaves site serial (ClientAnswer.Draft fault))
begin_by_leaves config site serial parts None (Ok made) is =
    rw is (begin_made_leaves site serial (step_on config.cluster site.centre site.node (Input.Begin made)))

pub begin_leaves : (config : Config) (site : Site) (serial : ℕ) (parts : List Part)
    → LeavesOf site (run_of_inputs config.cluster site.centre site.node (begin_input (begun_for site.clients serial) (transaction_of config.cluster.schema parts))) (begin_taken config site serial parts)
begin_leaves config site serial parts =
    begin_by_leaves config site serial parts (begun_for site.clients serial) (transaction_of config.cluster.schema parts) refl
