-- The steps of an audit say what facts say, one thing after another.
use Rattle.std.proofs.Common.{◌≡◌, List, [], ◌∷◌, None, Option, Some, inl, inr, refl, sym, ap, ◌∙◌, fold, map}
use Rattle.std.proofs.lemmas.Bool.{cases_Bool}
use Rattle.std.proofs.lemmas.List.Sums.{fold-append}
use Rattle.std.specs.Option.{option_to_list}
use Rattle.std.specs.Prelude.{filter_map, flat_map, ℕ}
use Rattle.mdcc_base.specs.Ballot.{is_fast}
use Rattle.mdcc_base.specs.Sizes.{Sizes}
use Rattle.mdcc_base.specs.declared.identifiers.Ballot.{Ballot}
use Rattle.mdcc_base.specs.declared.identifiers.TxId.{TxId}
use Rattle.mdcc_base.specs.declared.key.Key.{Key}
use Rattle.mdcc_option.specs.declared.choices.Choice.{Choice}
use Rattle.mdcc_option.specs.declared.choices.Mark.{Mark}
use Rattle.mdcc_option.specs.declared.choices.Outcome.{Outcome}
use Rattle.mdcc_struct.specs.declared.options.Options.{Options}
use Rattle.mdcc_def_protocol.specs.Marks.{choice_in}
use Rattle.mdcc_def_messages.specs.declared.facts.Fact.{Fact}
use Rattle.mdcc_audit.specs.Auditing.{Placed, State, after_fact, fact_taken}
use Rattle.mdcc_audit.specs.Contradictions.{choice_sayings, choices_in, choices_named, mark_saying, mark_sayings, outcome_sayings}
use Rattle.mdcc_audit.specs.Firsts.{Said}
use Rattle.mdcc_audit.specs.Sayings.{say_accepted, say_choice, say_heard, say_marks, say_offered}
use Rattle.mdcc_audit.specs.declared.audited.Place.{Place}
use Rattle.mdcc_audit.proofs.Alike.{say_one}

fold-map : {X Y Z : Type 0} (f : Z → Y → Z) (g : X → Y) (z : Z) (xs : List X) → fold (λ z x. f z (g x)) z xs ≡ fold f z (map g xs)
fold-map f g z [] = refl
fold-map f g z (x ∷ xs) = fold-map f g (f z (g x)) xs

-- ---- outcomes

pub all-outcomes : (quorums : Sizes) (state : State) (facts : List Placed)
    → (fold (fact_taken quorums) state facts).outcomes ≡ fold say_one state.outcomes (flat_map outcome_sayings facts)
all-outcomes quorums state [] = refl
all-outcomes quorums state ((place, Fact.Heard tx outcome) ∷ facts) = all-outcomes quorums (after_fact quorums state place (Fact.Heard tx outcome)) facts
all-outcomes quorums state ((place, Fact.Voted key version ballot options offered) ∷ facts) =
    all-outcomes quorums (after_fact quorums state place (Fact.Voted key version ballot options offered)) facts
all-outcomes quorums state ((place, Fact.Booted epoch) ∷ facts) = all-outcomes quorums state facts
all-outcomes quorums state ((place, Fact.Floor centre epoch seq) ∷ facts) = all-outcomes quorums state facts
all-outcomes quorums state ((place, Fact.Promised key low high ballot) ∷ facts) = all-outcomes quorums state facts
all-outcomes quorums state ((place, Fact.Adopted key version item adds) ∷ facts) = all-outcomes quorums state facts

-- ---- marks

marks-said : (said : Said) (place : Place) (key : Key) (version : ℕ) (ballot : Ballot) (options : Options) (offered : Option Choice)
    → say_marks said place key version ballot options ≡ fold say_one said (mark_sayings (place, Fact.Voted key version ballot options offered))
marks-said said place key version ballot options offered =
    elim (cases_Bool (is_fast ballot)) [
      | inl fast ↦ rw fast refl
      | inr classic ↦ rw classic (fold-map say_one (mark_saying place key version ballot) said options)
    ]

pub all-marks : (quorums : Sizes) (state : State) (facts : List Placed)
    → (fold (fact_taken quorums) state facts).marks ≡ fold say_one state.marks (flat_map mark_sayings facts)
all-marks quorums state [] = refl
all-marks quorums state ((place, Fact.Voted key version ballot options offered) ∷ facts) =
    all-marks quorums (after_fact quorums state place (Fact.Voted key version ballot options offered)) facts
    ∙ ap (λ said. fold say_one said (flat_map mark_sayings facts)) (marks-said state.marks place key version ballot options offered)
    ∙ sym (fold-append say_one state.marks (mark_sayings (place, Fact.Voted key version ballot options offered)) (flat_map mark_sayings facts))
all-marks quorums state ((place, Fact.Heard tx outcome) ∷ facts) = all-marks quorums (after_fact quorums state place (Fact.Heard tx outcome)) facts
all-marks quorums state ((place, Fact.Booted epoch) ∷ facts) = all-marks quorums state facts
all-marks quorums state ((place, Fact.Floor centre epoch seq) ∷ facts) = all-marks quorums state facts
all-marks quorums state ((place, Fact.Promised key low high ballot) ∷ facts) = all-marks quorums state facts
all-marks quorums state ((place, Fact.Adopted key version item adds) ∷ facts) = all-marks quorums state facts

-- ---- choices

choices-said : (place : Place) (said : Said) (choices : List Choice) → fold (say_choice place) said choices ≡ fold say_one said (flat_map (choice_sayings place) choices)
choices-said place said [] = refl
choices-said place said (choice ∷ choices) = choices-said place (say_choice place said choice) choices

accepted-said : (place : Place) (said : Said) (options : Options)
    → fold (say_accepted place) said options ≡ fold (say_choice place) said (filter_map (λ e. choice_in e.1) options)
accepted-said place said [] = refl
accepted-said place said ((tx, Mark.Accept choice) ∷ es) = accepted-said place (say_choice place said choice) es
accepted-said place said ((tx, Mark.Reject) ∷ es) = accepted-said place said es

offered-said : (said : Said) (place : Place) (offered : Option Choice) → say_offered said place offered ≡ fold (say_choice place) said (option_to_list offered)
offered-said said place None = refl
offered-said said place (Some choice) = refl

voted-said : (place : Place) (said : Said) (key : Key) (version : ℕ) (ballot : Ballot) (options : Options) (offered : Option Choice)
    → say_offered (fold (say_accepted place) said options) place offered
    ≡ fold say_one said (choices_in (place, Fact.Voted key version ballot options offered))
voted-said place said key version ballot options offered =
    offered-said (fold (say_accepted place) said options) place offered
    ∙ ap (λ before. fold (say_choice place) before (option_to_list offered)) (accepted-said place said options)
    ∙ sym (fold-append (say_choice place) said (filter_map (λ e. choice_in e.1) options) (option_to_list offered))
    ∙ choices-said place said (choices_named (Fact.Voted key version ballot options offered))

heard-said : (place : Place) (said : Said) (tx : TxId) (outcome : Outcome) → say_heard said place outcome ≡ fold say_one said (choices_in (place, Fact.Heard tx outcome))
heard-said place said tx (Outcome.Commit choices) = choices-said place said choices
heard-said place said tx Outcome.Abort = refl

pub all-choices : (quorums : Sizes) (state : State) (facts : List Placed)
    → (fold (fact_taken quorums) state facts).choices ≡ fold say_one state.choices (flat_map choices_in facts)
all-choices quorums state [] = refl
all-choices quorums state ((place, Fact.Voted key version ballot options offered) ∷ facts) =
    all-choices quorums (after_fact quorums state place (Fact.Voted key version ballot options offered)) facts
    ∙ ap (λ said. fold say_one said (flat_map choices_in facts)) (voted-said place state.choices key version ballot options offered)
    ∙ sym (fold-append say_one state.choices (choices_in (place, Fact.Voted key version ballot options offered)) (flat_map choices_in facts))
all-choices quorums state ((place, Fact.Heard tx outcome) ∷ facts) =
    all-choices quorums (after_fact quorums state place (Fact.Heard tx outcome)) facts
    ∙ ap (λ said. fold say_one said (flat_map choices_in facts)) (heard-said place state.choices tx outcome)
    ∙ sym (fold-append say_one state.choices (choices_in (place, Fact.Heard tx outcome)) (flat_map choices_in facts))
all-choices quorums state ((place, Fact.Booted epoch) ∷ facts) = all-choices quorums state facts
all-choices quorums state ((place, Fact.Floor centre epoch seq) ∷ facts) = all-choices quorums state facts
all-choices quorums state ((place, Fact.Promised key low high ballot) ∷ facts) = all-choices quorums state facts
all-choices quorums state ((place, Fact.Adopted key version item adds) ∷ facts) = all-choices quorums state facts
