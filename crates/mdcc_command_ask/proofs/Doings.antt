-- Doings one after another, and turns.
use Rattle.std.proofs.Common.{◌≡◌, ◌∙◌, ◌++◌, ◌==◌, ◌∷◌, [], Bool, List, None, Option, Some, ap, append-nil, append_assoc, cond, false, inl, inr, length, refl, sym, true, ℕ}
use Rattle.std.proofs.lemmas.Bool.{cases_Bool}
use Rattle.mdcc_command_ask.proofs.ActLists.{binds_receive, received_append, sends_receive}
use Rattle.mdcc_command_ask.specs.Acts.{ClientAct, at_link, received}
use Rattle.mdcc_command_ask.specs.Answers.{goes_on}
use Rattle.mdcc_command_ask.specs.Asking.{ClientDoing, acts_only, begins_asking, bound_for, bytes_taken, came, client_and_then, client_ended, client_starts, client_turn, client_turns, is_answered, joined_to, new_client, whole_asking}
use Rattle.mdcc_command_ask.specs.Requests.{is_open}
use Rattle.mdcc_command_ask.specs.declared.client.Client.{Client}
use Rattle.mdcc_command_ask.specs.declared.order.Order.{Order}
use Rattle.mdcc_config.specs.declared.config.Config.{Config}

abbrev doing : List ClientAct → Client → ClientDoing
doing acts client = record { acts = acts; client = client }

pub joined_assoc : (a b c : ClientDoing) → joined_to a (joined_to b c) ≡ joined_to (joined_to a b) c
joined_assoc a b c = ap (λ (acts : List ClientAct). doing acts c.client) (sym (append_assoc a.acts b.acts c.acts))

joined_nothing : (a : ClientDoing) → joined_to a (acts_only [] a.client) ≡ a
joined_nothing a = ap (λ (acts : List ClientAct). doing acts a.client) (append-nil a.acts)

module _ (config : Config) (order : Order) where
  -- once all is answered no turn does anything
  pub no_turns : (more : List (Option (List ℕ))) (client : Client) → is_answered client.phase ≡ true → client_turns config order more client ≡ acts_only [] client
  no_turns [] client e = refl
  no_turns (gave ∷ more) client e = ap (λ (b : Bool). cond b (acts_only [] client) (client_and_then (client_turn config order client gave) (client_turns config order more))) e

  -- and before one does
  next_turns : (gave : Option (List ℕ)) (more : List (Option (List ℕ))) (client : Client) → is_answered client.phase ≡ false
      → client_turns config order (gave ∷ more) client ≡ client_and_then (client_turn config order client gave) (client_turns config order more)
  next_turns gave more client e = ap (λ (b : Bool). cond b (acts_only [] client) (client_and_then (client_turn config order client gave) (client_turns config order more))) e

  pub one_turn : (gave : Option (List ℕ)) (client : Client) → is_answered client.phase ≡ false → client_turns config order (gave ∷ []) client ≡ client_turn config order client gave
  one_turn gave client e = next_turns gave [] client e ∙ joined_nothing (client_turn config order client gave)

  -- a turn, then others
  turns_behind : (gave : Option (List ℕ)) (rest more : List (Option (List ℕ))) (client : Client)
      → client_turns config order (rest ++ more) (client_turn config order client gave).client ≡ client_and_then (client_turns config order rest (client_turn config order client gave).client) (client_turns config order more)
      → client_turns config order (gave ∷ (rest ++ more)) client ≡ client_and_then (client_turns config order (gave ∷ rest) client) (client_turns config order more)
  turns_behind gave rest more client later = elim (cases_Bool (is_answered client.phase)) [
    | inl e ↦
        no_turns (gave ∷ (rest ++ more)) client e
        ∙ sym (ap (λ (d : ClientDoing). client_and_then d (client_turns config order more)) (no_turns (gave ∷ rest) client e) ∙ ap (joined_to (acts_only [] client)) (no_turns more client e))
    | inr e ↦
        next_turns gave (rest ++ more) client e
        ∙ ap (joined_to (client_turn config order client gave)) later
        ∙ joined_assoc (client_turn config order client gave) (client_turns config order rest (client_turn config order client gave).client) (client_turns config order more (client_turns config order rest (client_turn config order client gave).client).client)
        ∙ sym (ap (λ (d : ClientDoing). client_and_then d (client_turns config order more)) (next_turns gave rest client e))
  ]

  -- some turns, then others
  pub turns_more : (given more : List (Option (List ℕ))) (client : Client) → client_turns config order (given ++ more) client ≡ client_and_then (client_turns config order given client) (client_turns config order more)
  turns_more [] more client = refl
  turns_more (gave ∷ rest) more client = turns_behind gave rest more client (turns_more rest more (client_turn config order client gave).client)

  -- ---- receives

  pub came_receives : (gave : Option (List ℕ)) (client : Client) → received (came config order gave client).acts ≡ []
  came_receives None client = sends_receive config order (is_open client.phase) client
  came_receives (Some bytes) client = let reaction = bytes_taken config.cluster.schema order client bytes in sends_receive config order reaction.sends reaction.client

  -- a turn makes one
  pub turn_receives : (client : Client) (gave : Option (List ℕ)) → received (client_turn config order client gave).acts ≡ gave ∷ []
  turn_receives client gave = ap (λ (given : List (Option (List ℕ))). gave ∷ given) (came_receives gave client)

  -- the start makes none
  pub start_receives : received (client_starts config order).acts ≡ []
  start_receives =
      let reaction = goes_on config.cluster.schema order new_client in
      let acts = at_link (bound_for config order) in
      received_append acts (begins_asking config order new_client).acts ∙ (ap (λ (given : List (Option (List ℕ))). given ++ received (begins_asking config order new_client).acts) (binds_receive config order) ∙ sends_receive config order reaction.sends reaction.client)

  -- all that it does makes just those of its turns
  pub asked_receives : (turns : ℕ) (given : List (Option (List ℕ))) → received (client_turns config order given (client_starts config order).client).acts ≡ given → received (whole_asking config order turns given).acts ≡ given
  asked_receives turns given e =
      let its = client_turns config order given (client_starts config order).client in
      let end = client_ended (length given == turns) its.client in
      received_append (client_starts config order).acts (its.acts ++ end.acts)
      ∙ (ap (λ (none : List (Option (List ℕ))). none ++ received (its.acts ++ end.acts)) start_receives
      ∙ (received_append its.acts end.acts ∙ (append-nil (received its.acts) ∙ e)))
