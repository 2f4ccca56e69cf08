-- Where each member of a fast quorum gives its vote to accept each choice, the outcome is the commit.
use Rattle.std.proofs.Common.{List, Option, Some, [], ap, arith, false, map, refl, subst, sym, true, ℕ, ◌+◌, ◌<◌, ◌∙◌, ◌∷◌, ◌≡◌, ◌≤◌}
use Rattle.std.specs.List.{AllByRecursion, list_all, list_any}
use Rattle.std.specs.Prelude.{filter_map, is_some, length, option_and_then}
use Rattle.mdcc_base.specs.AreQuorums.{AreQuorums}
use Rattle.mdcc_base.specs.Ballot.{fast_ballot}
use Rattle.mdcc_base.specs.Counts.{number_of}
use Rattle.mdcc_base.specs.Quorums.{all_centres}
use Rattle.mdcc_base.specs.Sizes.{Sizes}
use Rattle.mdcc_base.specs.declared.identifiers.TxId.{TxId}
use Rattle.mdcc_option.specs.declared.choices.Choice.{Choice}
use Rattle.mdcc_option.specs.declared.choices.Mark.{Mark}
use Rattle.mdcc_option.specs.declared.choices.Outcome.{Outcome}
use Rattle.mdcc_struct.specs.Options.{is_mark}
use Rattle.mdcc_def_ledger.specs.Ledger.{Entry, choices_begun, chosen_of, mark_given, outcome_of}
use Rattle.mdcc_def_protocol.specs.Marks.{choice_in, is_reject_found, outcome_of_marks}
use Rattle.mdcc_theorem_trace_states.specs.Sound.{HasOneMark, IsChosen}
use Rattle.mdcc_theorem_trace_states.proofs.Tests.{Decides-is_mark}
use Rattle.mdcc_theorem_trace_rules.proofs.Chosen.{chosen-from}
use Rattle.mdcc_theorem_trace_rules.proofs.Outcomes.{AreAmong, outcome-from}
use Rattle.mdcc_theorem_round_trip.specs.Deciding.{IsFastQuorum}
use Rattle.mdcc_theorem_round_trip.proofs.Lists.{each-weaker}
use Rattle.mdcc_theorem_fast_path.proofs.Lists.{members-counted}

abbrev accepting : Choice → Option Mark
accepting choice = Some (Mark.Accept choice)

-- ---- accepted marks commit

none-rejected : (choices : List Choice) → list_any is_reject_found (map accepting choices) ≡ false
none-rejected [] = refl
none-rejected (c ∷ cs) = none-rejected cs

all-marked : (choices : List Choice) → list_all is_some (map accepting choices) ≡ true
all-marked [] = refl
all-marked (c ∷ cs) = all-marked cs

all-accepted : (choices : List Choice) → filter_map (λ (mark : Option Mark). option_and_then choice_in mark) (map accepting choices) ≡ choices
all-accepted [] = refl
all-accepted (c ∷ cs) = ap (λ ds. c ∷ ds) (all-accepted cs)

commits : (choices : List Choice) → outcome_of_marks (map accepting choices) ≡ Some (Outcome.Commit choices)
commits choices = rw (none-rejected choices, all-marked choices) (ap (λ cs. Some (Outcome.Commit cs)) (all-accepted choices))

among : (f : Choice → Option Mark) (choices : List Choice) → AllByRecursion (λ (c : Choice). f c ≡ Some (Mark.Accept c)) choices → AreAmong (map accepting choices) (map f choices)
among f [] h = tt
among f (c ∷ cs) h = (λ x e. h.0 ∙ e, among f cs h.1)

-- ---- the marks of a quorum are chosen

-- the member gives its vote to accept the choice
abbrev pub Gives : List Entry → TxId → Choice → ℕ → Type 0
Gives es tx choice member = mark_given es choice.key choice.version fast_ballot tx member ≡ Some (Mark.Accept choice)

module _ (quorums : Sizes) (es : List Entry) (tx : TxId) (members : List ℕ) (sizes : AreQuorums quorums) (one : HasOneMark quorums es) (quorum : IsFastQuorum quorums members)
    (low : AllByRecursion (λ member. 1 ≤ member) members) where
  gives-chosen : (choice : Choice) → AllByRecursion (Gives es tx choice) members → IsChosen quorums es choice.key choice.version tx (Mark.Accept choice)
  gives-chosen choice h =
      let test = λ (a : ℕ). is_mark (Mark.Accept choice) (mark_given es choice.key choice.version fast_ballot tx a) in
      let counted = members-counted test members 1 quorums.centres quorum.apart (each members low quorum.within h) in
      record { ballot = fast_ballot; enough = subst (λ n. n ≤ number_of test (all_centres quorums)) quorum.size counted }
    where
      below : (m : ℕ) → m ≤ quorums.centres → m < 1 + quorums.centres
      below m k = omega (arith, k)

      each : (ms : List ℕ) → AllByRecursion (λ member. 1 ≤ member) ms → AllByRecursion (λ member. member ≤ quorums.centres) ms → AllByRecursion (Gives es tx choice) ms
          → AllByRecursion (λ m. (1 ≤ m) × (m < 1 + quorums.centres) × (is_mark (Mark.Accept choice) (mark_given es choice.key choice.version fast_ballot tx m) ≡ true)) ms
      each [] l u g = tt
      each (m ∷ ms) l u g = ((l.0, below m u.0, (Decides-is_mark (Mark.Accept choice) (mark_given es choice.key choice.version fast_ballot tx m)).1 g.0), each ms l.1 u.1 g.1)

  -- so the outcome of a transaction that was begun with these choices is the commit
  pub outcome-commits : (choices : List Choice) → choices_begun es tx ≡ choices → 0 < length choices → AllByRecursion (λ (choice : Choice). AllByRecursion (Gives es tx choice) members) choices
      → outcome_of quorums es tx ≡ Some (Outcome.Commit choices)
  outcome-commits choices begun some given =
      outcome-from quorums es tx (Outcome.Commit choices) (map accepting choices) (subst (λ cs. 0 < length cs) (sym begun) some)
      (subst (λ cs. AreAmong (map accepting choices) (map (λ (c : Choice). chosen_of quorums es c.key c.version tx) cs)) (sym begun)
      (among (λ (c : Choice). chosen_of quorums es c.key c.version tx) choices
      (each-weaker (λ (choice : Choice). AllByRecursion (Gives es tx choice) members) (λ (c : Choice). chosen_of quorums es c.key c.version tx ≡ Some (Mark.Accept c)) choices
      (λ c h. chosen-from quorums sizes es one c.key c.version tx (Mark.Accept c) (gives-chosen c h)) given)))
      (commits choices)
