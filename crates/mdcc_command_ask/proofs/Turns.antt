-- The turns of a client, one after another.
use Rattle.std.proofs.Common.{◌≡◌, ◌∙◌, ◌≤◌, ◌<◌, ◌+◌, ◌++◌, ◌==◌, ◌∷◌, ◌⊎◌, [], Bool, Err, IsTrue, List, Ok, OnOk, Option, Result, ap, arith, false, inl, inr, length, refl, subst, sym, true, ℕ}
use Rattle.std.proofs.lemmas.Bool.Decides.{nat_tests}
use Rattle.std.proofs.lemmas.List.{length_push}
use Rattle.mdcc_command_ask.proofs.ActLists.{received_append}
use Rattle.mdcc_command_ask.proofs.Doings.{asked_receives, one_turn, turn_receives, turns_more}
use Rattle.mdcc_command_ask.proofs.Seen.{broke_first, broke_later, did_nothing, joined_did, prints_alone, then_does}
use Rattle.mdcc_command_ask.specs.Acts.{received}
use Rattle.mdcc_command_ask.specs.Asking.{ClientDoing, client_ended, client_starts, client_turn, client_turns, end_text, is_answered, joined_to, turns_to_end, whole_asking}
use Rattle.mdcc_command_ask.specs.Effects.{Asks, BrokeOff, Did, Prints, Turned}
use Rattle.mdcc_command_ask.specs.declared.client.Client.{Client}
use Rattle.mdcc_command_ask.specs.declared.client.Phase.{Phase}
use Rattle.mdcc_command_ask.specs.declared.fault.AskFault.{AskFault}
use Rattle.mdcc_command_ask.specs.declared.order.Order.{Order}
use Rattle.mdcc_config.specs.declared.config.Config.{Config}
use Rattle.mdcc_link.specs.Link.{LinkCall}

-- one turn more is that of the client that there is
one_more : (config : Config) (order : Order) (first : Client) (given : List (Option (List ℕ))) (gave : Option (List ℕ)) (client : Client) → client ≡ (client_turns config order given first).client → is_answered client.phase ≡ false
    → client_turns config order (given ++ gave ∷ []) first ≡ joined_to (client_turns config order given first) (client_turn config order client gave)
one_more config order first given gave client same unanswered =
    let its : client_turns config order (gave ∷ []) client ≡ client_turn config order client gave = one_turn config order gave client unanswered in
    turns_more config order given (gave ∷ []) first
    ∙ ap (λ (c : Client). joined_to (client_turns config order given first) (client_turns config order (gave ∷ []) c)) (sym same)
    ∙ ap (joined_to (client_turns config order given first)) its

module _ {L O : Type 0} (calls : L → Option (List LinkCall)) (held : O → Option (List ℕ)) (config : Config) (order : Order) (first : Client) (l0 : L) (o0 : O) where
  -- so many turns were made
  pub record Went (index : ℕ) (l : L) (o : O) (client : Client) : Type 0 where
    pub given : List (Option (List ℕ))
    pub as_many : length given ≡ index
    pub receives : received (client_turns config order given first).acts ≡ given
    pub did : Did calls held (client_turns config order given first) l0 l o0 o client

  pub went_none : Went 0 l0 o0 first
  went_none = record { given = []; as_many = refl; receives = refl; did = did_nothing calls held first l0 o0 }

  -- with one turn more there is one receive more
  more_received : (index : ℕ) (gave : Option (List ℕ)) (l : L) (o : O) (client : Client) (went : Went index l o client) → is_answered client.phase ≡ false
      → received (client_turns config order (went.given ++ gave ∷ []) first).acts ≡ went.given ++ gave ∷ []
  more_received index gave l o client went unanswered =
      let before = client_turns config order went.given first in
      let turn = client_turn config order client gave in
      ap (λ (d : ClientDoing). received d.acts) (one_more config order first went.given gave client went.did.client_is unanswered)
      ∙ (received_append before.acts turn.acts
      ∙ (ap (λ (given : List (Option (List ℕ))). given ++ received turn.acts) went.receives ∙ ap (λ (given : List (Option (List ℕ))). went.given ++ given) (turn_receives config order client gave)))

  pub went_on : (index : ℕ) (gave : Option (List ℕ)) (l l1 : L) (o o1 : O) (client next : Client) → Went index l o client → is_answered client.phase ≡ false
      → Did calls held (client_turn config order client gave) l l1 o o1 next → Went (index + 1) l1 o1 next
  went_on index gave l l1 o o1 client next went unanswered turn =
      let more : length (went.given ++ gave ∷ []) ≡ length went.given + 1 = length_push went.given gave in
      record {
        given = went.given ++ gave ∷ [];
        as_many = omega (more, went.as_many, arith);
        receives = more_received index gave l o client went unanswered;
        did = subst (λ (d : ClientDoing). Did calls held d l0 l1 o0 o1 next) (sym (one_more config order first went.given gave client went.did.client_is unanswered))
            (joined_did calls held (client_turns config order went.given first) (client_turn config order client gave) l0 l l1 o0 o o1 client next went.did turn);
      }

  -- a turn broke off
  pub went_broke : (index turns : ℕ) (gave : Option (List ℕ)) (fault : AskFault) (l l1 : L) (o o1 : O) (client next : Client) → Went index l o client → is_answered client.phase ≡ false → index < turns
      → BrokeOff calls held (client_turn config order client gave) fault l l1 o o1
      → Turned calls held (λ given. client_turns config order given first) turns (Err fault) l0 l1 o0 o1 next
  went_broke index turns gave fault l l1 o o1 client next went unanswered below turn =
      let more : length (went.given ++ gave ∷ []) ≡ length went.given + 1 = length_push went.given gave in
      record {
        given = went.given ++ gave ∷ [];
        within = omega (more, went.as_many, below, arith);
        whole = tt;
        receives = more_received index gave l o client went unanswered;
        does = subst (λ (d : ClientDoing). BrokeOff calls held d fault l0 l1 o0 o1) (sym (one_more config order first went.given gave client went.did.client_is unanswered))
            (broke_later calls held (client_turns config order went.given first) (client_turn config order client gave) fault l0 l l1 o0 o o1 client went.did turn);
      }

  -- all is answered
  pub went_answered : (index turns : ℕ) (l : L) (o : O) (client : Client) → Went index l o client → index ≤ turns → is_answered client.phase ≡ true
      → Turned calls held (λ given. client_turns config order given first) turns (Ok tt) l0 l o0 o client
  went_answered index turns l o client went within answered = record { given = went.given; within = omega (went.as_many, within, arith); whole = inl answered; receives = went.receives; does = went.did }

  -- or the turns are over
  pub went_all : (turns : ℕ) (l : L) (o : O) (client : Client) → Went turns l o client → Turned calls held (λ given. client_turns config order given first) turns (Ok tt) l0 l o0 o client
  went_all turns l o client went = record { given = went.given; within = omega (went.as_many, arith); whole = inr went.as_many; receives = went.receives; does = went.did }

-- ---- the end

-- there were so many turns
at_end : (n turns : ℕ) → n ≡ turns → (n == turns) ≡ true
at_end n turns e = grind (arith, nat_tests)

-- what it prints at its end
end_is : (phase : Phase) (n turns : ℕ) → IsTrue (is_answered phase) ⊎ (n ≡ turns) → end_text true phase ≡ end_text (n == turns) phase
end_is Phase.Answered n turns whole = refl
end_is Phase.Reading n turns (inr e) = ap (λ (b : Bool). end_text b Phase.Reading) (sym (at_end n turns e))
end_is Phase.Beginning n turns (inr e) = ap (λ (b : Bool). end_text b Phase.Beginning) (sym (at_end n turns e))
end_is (Phase.Waiting tx) n turns (inr e) = ap (λ (b : Bool). end_text b (Phase.Waiting tx)) (sym (at_end n turns e))
end_is Phase.Reading n turns (inl h) = absurd (cc)
end_is Phase.Beginning n turns (inl h) = absurd (cc)
end_is (Phase.Waiting tx) n turns (inl h) = absurd (cc)

-- ---- all of it

pub on_ok : {T E : Type 0} (result : Result T E) (P : Type 0) → P → OnOk result P
on_ok (Ok x) P p = p
on_ok (Err e) P p = tt

module _ {L O : Type 0} (calls : L → Option (List LinkCall)) (held : O → Option (List ℕ)) (config : Config) (order : Order) (turns : ℕ) (l0 l1 : L) (o0 o1 : O) (c1 : Client) where
  -- the start broke off
  pub start_broke : (fault : AskFault) → BrokeOff calls held (client_starts config order) fault l0 l1 o0 o1 → Asks calls held (whole_asking config order turns) turns (Err fault) l0 l1 o0 o1
  start_broke fault broke = record {
    client = c1;
    turned = record {
      given = [];
      within = omega arith;
      whole = tt;
      receives = asked_receives config order turns [] refl;
      does = broke_first calls held (client_starts config order) (turns_to_end config order turns [] (client_starts config order).client) fault l0 l1 o0 o1 refl broke;
    };
  }

  module _ (l2 : L) (o2 : O) (c2 : Client) (start : Did calls held (client_starts config order) l0 l1 o0 o1 c1) where
    all_received : (given : List (Option (List ℕ))) → received (client_turns config order given c1).acts ≡ given → received (whole_asking config order turns given).acts ≡ given
    all_received given e = asked_receives config order turns given (subst (λ (c : Client). received (client_turns config order given c).acts ≡ given) start.client_is e)

    -- a turn did
    pub turns_broke : (fault : AskFault) → Turned calls held (λ given. client_turns config order given c1) turns (Err fault) l1 l2 o1 o2 c2 → Asks calls held (whole_asking config order turns) turns (Err fault) l0 l2 o0 o2
    turns_broke fault turned = record {
      client = c2;
      turned = record {
        given = turned.given;
        within = turned.within;
        whole = tt;
        receives = all_received turned.given turned.receives;
        does = then_does calls held (client_starts config order) (turns_to_end config order turns turned.given) (Err fault) l0 l1 l2 o0 o1 o2 c1 c2 start
            (broke_first calls held (client_turns config order turned.given c1) (client_ended (length turned.given == turns) (client_turns config order turned.given c1).client) fault l1 l2 o1 o2 refl turned.does);
      };
    }

    -- the end came
    pub end_came : {done : Unit {0}} (out_faults : O → ℕ) (o3 : O) (result : Result (Unit {0}) AskFault) → Turned calls held (λ given. client_turns config order given c1) turns (Ok done) l1 l2 o1 o2 c2
        → Prints held out_faults (end_text true c2.phase) result o2 o3 → Asks calls held (whole_asking config order turns) turns result l0 l2 o0 o3
    end_came out_faults o3 result turned prints =
        let is_over = length turned.given == turns in
        let end = subst (λ (text : List ℕ). Prints held out_faults text result o2 o3) (end_is c2.phase (length turned.given) turns turned.whole) prints in
        record {
          client = c2;
          turned = record {
            given = turned.given;
            within = turned.within;
            whole = on_ok result (IsTrue (is_answered c2.phase) ⊎ (length turned.given ≡ turns)) turned.whole;
            receives = all_received turned.given turned.receives;
            does = then_does calls held (client_starts config order) (turns_to_end config order turns turned.given) result l0 l1 l2 o0 o1 o3 c1 c2 start
                (then_does calls held (client_turns config order turned.given c1) (client_ended is_over) result l1 l2 l2 o1 o2 o3 c2 c2 turned.does
                (prints_alone calls held out_faults (end_text is_over c2.phase) c2 result l2 o2 o3 end));
          };
        }
