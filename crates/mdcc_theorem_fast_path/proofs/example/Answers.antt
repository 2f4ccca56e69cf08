use Rattle.std.proofs.Common.{[], ◌++◌, ◌∷◌, refl, arith}
use Rattle.mdcc_def_language.specs.declared.events.Event.{Event}
use Rattle.mdcc_def_simulation.specs.Events.{after_event}
use Rattle.mdcc_theorem_round_trip.specs.Example.{choice_on, cluster_of_three, first_item_key, proposals_delivered, second_item_key, votes_delivered}
use Rattle.mdcc_theorem_round_trip.proofs.Examples.{is-happened, none-dropped}
use Rattle.mdcc_theorem_fast_path.specs.Example.{schedule}
use Rattle.mdcc_theorem_fast_path.specs.States.{state_after}
use Rattle.mdcc_theorem_fast_path.proofs.example.Goals as goal

pub returns-clause-trip : goal.returns-clause-trip
returns-clause-trip c =
    let begun = state_after cluster_of_three schedule in
    record {
      deliveries = record {
        asked = (choice_on second_item_key, 3) ∷ (choice_on first_item_key, 2) ∷ (choice_on first_item_key, 3) ∷ (choice_on second_item_key, 1) ∷ (choice_on second_item_key, 2) ∷ (choice_on first_item_key, 1) ∷ [];
        proposals = 6 ∷ 2 ∷ 3 ∷ 4 ∷ 5 ∷ 1 ∷ [];
        asks_each = record { moves = (0, 5) ∷ []; below = (omega arith, omega arith, tt); is = refl };
        proposals_are = refl;
        proposed = is-happened begun (after_event begun (Event.Deliver (6 ∷ 2 ∷ 3 ∷ 4 ∷ 5 ∷ 1 ∷ []))) refl;
        answered = (choice_on first_item_key, 1) ∷ (choice_on second_item_key, 2) ∷ (choice_on first_item_key, 3) ∷ (choice_on second_item_key, 1) ∷ (choice_on first_item_key, 2) ∷ (choice_on second_item_key, 3) ∷ [];
        votes = 12 ∷ 11 ∷ 9 ∷ 10 ∷ 8 ∷ 7 ∷ [];
        answers_each = record { moves = (1, 4) ∷ []; below = (omega arith, omega arith, tt); is = refl };
        votes_are = refl;
        voted = is-happened proposals_delivered.world (after_event proposals_delivered.world (Event.Deliver (12 ∷ 11 ∷ 9 ∷ 10 ∷ 8 ∷ 7 ∷ []))) refl;
      };
      undropped = none-dropped (proposals_delivered.lines ++ votes_delivered.lines) refl;
    }
