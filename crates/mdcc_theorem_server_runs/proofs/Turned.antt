-- What the inputs of a centre's turns leave is the run of its node over them.
use Rattle.std.proofs.Common.{◌≡◌, ℕ, ◌+◌, Bool, true, false, cond, List, [], ◌∷◌, ◌++◌, Option, Some, None, Result, sym, ◌∙◌, ap, subst}
use Rattle.mdcc_config.specs.declared.config.Config.{Config}
use Rattle.mdcc_frag.specs.Joining.{join}
use Rattle.mdcc_def_messages.specs.declared.messages.Envelope.{Envelope}
use Rattle.mdcc_def_messages.specs.declared.messages.Message.{Message}
use Rattle.mdcc_def_rules.specs.Steps.{NodeStep}
use Rattle.mdcc_def_rules.specs.declared.node.Input.{Input}
use Rattle.mdcc_def_rules.specs.declared.node.StepFault.{StepFault}
use Rattle.mdcc_theorem_server_runs.proofs.Joined.{LeavesOf, leaves_after, leaves_then, run_joined}
use Rattle.mdcc_theorem_server_runs.proofs.Queued.{quiet}
use Rattle.mdcc_theorem_server_runs.proofs.Seen.{inward_received}
use Rattle.mdcc_theorem_server_runs.proofs.Stepped.{begin_leaves, dropped_leaves, idle_leaves, input_leaves, read_leaves}
use Rattle.mdcc_theorem_server_runs.specs.Inputs.{asked_input, asked_inputs, asked_message_input, own_input, own_inputs, own_message_input, tick_input, turn_inputs}
use Rattle.mdcc_def_server_runs.specs.Arrivals.{Arrival, arrival_of, is_not_taken}
use Rattle.mdcc_def_server_runs.specs.Runs.{NodeState, run_of_inputs}
use Rattle.mdcc_def_server_runs.specs.Sites.{Doing, Site, after_acts, idle_site}
use Rattle.mdcc_def_server_runs.specs.Steps.{dropped, input_taken}
use Rattle.mdcc_def_server_runs.specs.Turns.{Given, asked_arrived, asked_message, asked_received, asked_taken, is_silent, own_arrived, own_message, own_received, own_taken, ticked, turn_inputs_taken}

-- what a centre leaves is what its node made of these inputs
abbrev pub RunsOn : Config → Site → List Input → Doing → Type 0
RunsOn config site inputs did = LeavesOf site (run_of_inputs config.cluster site.centre site.node inputs) did

runs_then : (config : Config) (site : Site) (xs ys : List Input) {first second : Doing}
    → RunsOn config site xs first → RunsOn config first.site ys second → RunsOn config site (xs ++ ys) (after_acts first.acts second)
runs_then config site xs ys {first = first} {second = second} one two =
    let run = run_of_inputs config.cluster site.centre site.node xs in
    let joined : run ++ run_of_inputs config.cluster first.site.centre first.site.node ys ≡ run_of_inputs config.cluster site.centre site.node (xs ++ ys) =
    ap (λ (c : ℕ). run ++ run_of_inputs config.cluster c first.site.node ys) one.centre_is
    ∙ ap (λ (n : NodeState). run ++ run_of_inputs config.cluster site.centre n ys) one.node_is
    ∙ sym (run_joined config.cluster site.centre site.node xs ys) in
    subst (λ (made : List (Result NodeStep StepFault)). LeavesOf site made (after_acts first.acts second)) joined (leaves_then one two)

-- ---- at its own endpoint

own_message_runs : (config : Config) (site : Site) (x : Envelope) → RunsOn config site (own_message_input x) (own_message config site x)
own_message_runs config site x = by_kind (is_not_taken x.message)
  where
    by_kind : (b : Bool) → RunsOn config site (cond b [] (Input.Message x ∷ [])) (cond b (dropped site) (input_taken config site (Input.Message x)))
    by_kind true = dropped_leaves site
    by_kind false = input_leaves config site (Input.Message x)

own_arrived_runs : (config : Config) (site : Site) (arrival : Arrival) → RunsOn config site (own_input arrival) (own_arrived config site arrival)
own_arrived_runs config site Arrival.Piece = idle_leaves site
own_arrived_runs config site Arrival.Refused = dropped_leaves site
own_arrived_runs config site (Arrival.Whole x) = own_message_runs config site x

own_taken_runs : (config : Config) (site : Site) (gave : Option (List ℕ)) → RunsOn config site (own_inputs site gave) (own_taken config site gave)
own_taken_runs config site None = idle_leaves site
own_taken_runs config site (Some bytes) =
    own_arrived_runs config (record site { own = (join bytes site.own).entries }) (arrival_of (join bytes site.own).answer)

own_runs : (config : Config) (site : Site) (gave : Option (List ℕ)) → RunsOn config site (own_inputs site gave) (own_received config site gave)
own_runs config site gave = leaves_after (inward_received site.centre gave) (own_taken_runs config site gave)

-- ---- at its client's

asked_message_runs : (config : Config) (site : Site) (message : Message) → RunsOn config site (asked_message_input config site message) (asked_message config site message)
asked_message_runs config site (Message.ClientRead serial key) = read_leaves config site serial key
asked_message_runs config site (Message.ClientBegin serial parts) = begin_leaves config site serial parts
asked_message_runs config site message = dropped_leaves site

asked_arrived_runs : (config : Config) (site : Site) (arrival : Arrival) → RunsOn config site (asked_input config site arrival) (asked_arrived config site arrival)
asked_arrived_runs config site Arrival.Piece = idle_leaves site
asked_arrived_runs config site Arrival.Refused = dropped_leaves site
asked_arrived_runs config site (Arrival.Whole x) = asked_message_runs config site x.message

asked_taken_runs : (config : Config) (site : Site) (gave : Option (List ℕ)) → RunsOn config site (asked_inputs config site gave) (asked_taken config site gave)
asked_taken_runs config site None = idle_leaves site
asked_taken_runs config site (Some bytes) =
    asked_arrived_runs config (record site { asked = (join bytes site.asked).entries }) (arrival_of (join bytes site.asked).answer)

asked_runs : (config : Config) (site : Site) (gave : Option (List ℕ)) → RunsOn config site (asked_inputs config site gave) (asked_received config site gave)
asked_runs config site gave = leaves_after (inward_received (site.centre + 16) gave) (asked_taken_runs config site gave)

-- ---- turns

ticked_runs : (config : Config) (given : Given) (site : Site) → RunsOn config site (tick_input given) (ticked config given site)
ticked_runs config given site = by_silence (is_silent given)
  where
    by_silence : (b : Bool) → RunsOn config site (cond b (Input.Tick ∷ []) []) (cond b (input_taken config site Input.Tick) (idle_site site))
    by_silence true = input_leaves config site Input.Tick
    by_silence false = idle_leaves site

pub inputs_run : (config : Config) (site : Site) (given : Given) → RunsOn config site (turn_inputs config site given) (turn_inputs_taken config site given)
inputs_run config site given =
    let own = own_received config site given.own in
    let asked = asked_received config own.site given.asked in
    runs_then config site (own_inputs site given.own ++ asked_inputs config own.site given.asked) (tick_input given)
    (runs_then config site (own_inputs site given.own) (asked_inputs config own.site given.asked) (own_runs config site given.own) (asked_runs config own.site given.asked))
    (ticked_runs config given asked.site)

-- the inputs of all turns, where nothing goes out
abbrev pub quiet_inputs : Config → Site → List Given → List Input
quiet_inputs config site [] = []
quiet_inputs config site (given ∷ more) = turn_inputs config site given ++ quiet_inputs config (turn_inputs_taken config site given).site more

pub quiet_runs : (config : Config) (site : Site) (given : List Given) → RunsOn config site (quiet_inputs config site given) (quiet config site given)
quiet_runs config site [] = idle_leaves site
quiet_runs config site (one ∷ given) =
    let next = (turn_inputs_taken config site one).site in
    runs_then config site (turn_inputs config site one) (quiet_inputs config next given) (inputs_run config site one) (quiet_runs config next given)
