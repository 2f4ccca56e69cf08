-- What a centre did is also the run without the inputs that are refused.
use Rattle.std.specs.List.{AllByRecursion}
use Rattle.std.proofs.Common.{◌≡◌, ℕ, Bool, List, [], ◌∷◌, ◌++◌, Result, Ok, Err, refl, sym, ◌∙◌, ap, subst, map, length}
use Rattle.mdcc_base.specs.declared.identifiers.TxId.{TxId}
use Rattle.mdcc_config.specs.declared.config.Config.{Config}
use Rattle.mdcc_def_messages.specs.declared.facts.Fact.{Fact}
use Rattle.mdcc_def_messages.specs.declared.messages.Envelope.{Envelope}
use Rattle.mdcc_option.specs.declared.cluster.Cluster.{Cluster}
use Rattle.mdcc_def_rules.specs.Steps.{NodeStep, heard_by}
use Rattle.mdcc_def_rules.specs.declared.node.Input.{Input}
use Rattle.mdcc_def_rules.specs.declared.node.StepFault.{StepFault}
use Rattle.mdcc_theorem_server_runs.proofs.Grouped.{turns_are_runs}
use Rattle.mdcc_theorem_server_runs.proofs.Seen.{shows_as}
use Rattle.mdcc_theorem_server_runs.specs.Inputs.{inputs_in, turns}
use Rattle.mdcc_theorem_server_runs.specs.Laws.{IsRunWithout}
use Rattle.mdcc_theorem_server_runs.specs.Told.{IsOwed, TellsMade, between_centres, node_after, server_heard_line}
use Rattle.mdcc_def_server_runs.proofs.Refused.{run_without}
use Rattle.mdcc_def_server_runs.specs.Runs.{NodeState, after_step, in_steps, inputs_taken, listed, messages_sent, run_of_inputs, step_on, taken_by}
use Rattle.mdcc_def_server_runs.specs.Sites.{Doing, Site}
use Rattle.mdcc_def_server_runs.specs.Turns.{Given}

-- the steps alone
abbrev taken : List (Result NodeStep StepFault) → List (Result NodeStep StepFault)
taken [] = []
taken (Ok step ∷ made) = Ok step ∷ taken made
taken (Err fault ∷ made) = taken made

steps_taken : {X : Type 0} (part : NodeStep → List X) (made : List (Result NodeStep StepFault)) → in_steps part made ≡ in_steps part (taken made)
steps_taken part [] = refl
steps_taken part (Ok step ∷ made) = ap (λ xs. part step ++ xs) (steps_taken part made)
steps_taken part (Err fault ∷ made) = steps_taken part made

node_taken : (node : NodeState) (made : List (Result NodeStep StepFault)) → node_after node made ≡ node_after node (taken made)
node_taken node [] = refl
node_taken node (Ok step ∷ made) = node_taken (after_step node (Ok step)) made
node_taken node (Err fault ∷ made) = node_taken node made

tells_taken : {config : Config} {site : Site} {made : List (Result NodeStep StepFault)} {did : Doing} → TellsMade config site made did → TellsMade config site (taken made) did
tells_taken {config = config} {site = site} {made = made} one =
    let messages : messages_sent made ≡ messages_sent (taken made) = steps_taken (λ step. step.sends) made in
    record {
      mail = one.mail;
      shows = shows_as one.shows (ap (λ (facts : List Fact). site.pending.facts ++ facts) (steps_taken (λ step. listed step.fact) made))
          (ap (λ (heard : List (TxId × Bool)). map (server_heard_line site.centre) (site.pending.heard ++ heard)) (steps_taken (λ step. listed (heard_by step.fact)) made))
          refl (ap length (steps_taken (λ step. step ∷ []) made));
      messages = one.messages ∙ ap between_centres messages;
      owed = subst (λ (mail : List Envelope). AllByRecursion (IsOwed site.centre mail) one.mail) messages one.owed;
      centre_is = one.centre_is;
      node_is = one.node_is ∙ node_taken site.node made;
      epoch_is = one.epoch_is;
      sent_is = one.sent_is;
      logged_is = one.logged_is;
      pending_is = one.pending_is;
    }

-- the run over what is not refused has just these
run_taken : (cluster : Cluster) (me : ℕ) (node : NodeState) (inputs : List Input)
    → taken (run_of_inputs cluster me node inputs) ≡ run_of_inputs cluster me node (inputs_taken cluster me node inputs)
run_taken cluster me node [] = refl
run_taken cluster me node (input ∷ inputs) = by_made (step_on cluster me node input) refl (λ next. run_taken cluster me next inputs)
  where
    by_made : (made : Result NodeStep StepFault) → step_on cluster me node input ≡ made
        → ((next : NodeState) → taken (run_of_inputs cluster me next inputs) ≡ run_of_inputs cluster me next (inputs_taken cluster me next inputs))
        → taken (made ∷ run_of_inputs cluster me (after_step node made) inputs)
        ≡ run_of_inputs cluster me node (taken_by input made (inputs_taken cluster me (after_step node made) inputs))
    by_made (Err fault) e more = more node
    by_made (Ok step) e more = rw e (ap (λ xs. Ok step ∷ xs) (more (after_step node (Ok step))))

pub turns_run_without : (config : Config) (site : Site) (given : List Given)
    → IsRunWithout config site (inputs_taken config.cluster site.centre site.node (inputs_in config site given)) (turns config site given)
turns_run_without config site given =
    let inputs = inputs_in config site given in
    let run = turns_are_runs config site given in
    let without = run_without config.cluster site.centre site.node inputs in
    record {
      run = record {
        tells = subst (λ (made : List (Result NodeStep StepFault)). TellsMade config site made (turns config site given))
            (run_taken config.cluster site.centre site.node inputs) (tells_taken run.tells);
        node = run.node ∙ sym without.end;
      };
      none = without.none;
    }
