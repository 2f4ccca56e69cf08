use Rattle.std.proofs.Common.{[], ◌++◌, ◌∷◌, refl, arith}
use Rattle.mdcc_def_language.specs.declared.events.Event.{Event}
use Rattle.mdcc_def_simulation.specs.Events.{after_event}
use Rattle.mdcc_theorem_round_trip.specs.Example.{votes_delivered, proposals_delivered, world_begun, choice_on, first_item_key, second_item_key}
use Rattle.mdcc_theorem_round_trip.proofs.Examples.{is-happened, none-dropped}
use Rattle.mdcc_theorem_round_trip.proofs.example.Goals as goal

pub returns-clause-ready : goal.returns-clause-ready
returns-clause-ready c = record {
  quorums = omega arith;
  sites = refl;
  undecided = record { centre = refl; unstopped = refl; uncounted = record { opened = refl; none = tt }; unheard = refl; unfinished = refl; uncrowded = refl };
  choices = record { some = omega arith; own = (refl, (refl, tt)); apart = ((refl, tt), (tt, tt)) };
  belong = (refl, (refl, tt));
  quorum = record { size = refl; within = (omega arith, (omega arith, (omega arith, tt))); apart = ((refl, (refl, tt)), ((refl, tt), (tt, tt))) };
  accept = (
    record { centre = refl; unstopped = refl; accepts = (refl, (refl, tt)) },
    (record { centre = refl; unstopped = refl; accepts = (refl, (refl, tt)) }, (record { centre = refl; unstopped = refl; accepts = (refl, (refl, tt)) }, tt)),
  );
}

pub returns-clause-cells : goal.returns-clause-cells
returns-clause-cells c = record { votes = (omega arith, (omega arith, (omega arith, tt))); commit = omega arith }

pub returns-clause-trip : goal.returns-clause-trip
returns-clause-trip c = record {
  deliveries = record {
    asked = (choice_on second_item_key, 3) ∷ (choice_on first_item_key, 2) ∷ (choice_on first_item_key, 3) ∷ (choice_on second_item_key, 1) ∷ (choice_on second_item_key, 2) ∷ (choice_on first_item_key, 1) ∷ [];
    proposals = 6 ∷ 2 ∷ 3 ∷ 4 ∷ 5 ∷ 1 ∷ [];
    asks_each = record { moves = (0, 5) ∷ []; below = (omega arith, omega arith, tt); is = refl };
    proposals_are = refl;
    proposed = is-happened world_begun (after_event world_begun (Event.Deliver (6 ∷ 2 ∷ 3 ∷ 4 ∷ 5 ∷ 1 ∷ []))) refl;
    answered = (choice_on first_item_key, 1) ∷ (choice_on second_item_key, 2) ∷ (choice_on first_item_key, 3) ∷ (choice_on second_item_key, 1) ∷ (choice_on first_item_key, 2) ∷ (choice_on second_item_key, 3) ∷ [];
    votes = 12 ∷ 11 ∷ 9 ∷ 10 ∷ 8 ∷ 7 ∷ [];
    answers_each = record { moves = (1, 4) ∷ []; below = (omega arith, omega arith, tt); is = refl };
    votes_are = refl;
    voted = is-happened proposals_delivered.world (after_event proposals_delivered.world (Event.Deliver (12 ∷ 11 ∷ 9 ∷ 10 ∷ 8 ∷ 7 ∷ []))) refl;
  };
  undropped = none-dropped (proposals_delivered.lines ++ votes_delivered.lines) refl;
}
