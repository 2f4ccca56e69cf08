-- When facts contradict each other: what each of them says, as a list, and that no two say different things of one subject.
use Rattle.std.specs.Option.{option_to_list}
use Rattle.std.specs.Prelude.{IsTrue, List, None, Some, [], false, ⊤, filter_map, flat_map, if◌then◌else◌, map, ℕ, ◌++◌, ◌↔◌, ◌∷◌, ◌≡◌, ◌⊎◌}
use Rattle.mdcc_base.specs.Ballot.{is_fast}
use Rattle.mdcc_base.specs.Sizes.{Sizes}
use Rattle.mdcc_base.specs.declared.identifiers.Ballot.{Ballot}
use Rattle.mdcc_base.specs.declared.identifiers.TxId.{TxId}
use Rattle.mdcc_base.specs.declared.key.Key.{Key}
use Rattle.mdcc_option.specs.declared.choices.Choice.{Choice}
use Rattle.mdcc_option.specs.declared.choices.Mark.{Mark}
use Rattle.mdcc_option.specs.declared.choices.Outcome.{Outcome}
use Rattle.mdcc_def_protocol.specs.Marks.{choice_in}
use Rattle.mdcc_def_messages.specs.declared.facts.Fact.{Fact}
use Rattle.mdcc_audit.specs.Auditing.{Placed, audit_state_after}
use Rattle.mdcc_audit.specs.Firsts.{Pair, place_lt}
use Rattle.mdcc_audit.specs.Logs.{placed_of}
use Rattle.mdcc_audit.specs.Sayings.{mark_value, outcome_value, said_at}
use Rattle.mdcc_audit.specs.Subjects.{in_vote, of_key, of_tx, subject_eq}
use Rattle.mdcc_audit.specs.declared.audited.Place.{Place}
use Rattle.mdcc_audit.specs.declared.firsts.First.{First}
use Rattle.mdcc_audit.specs.declared.subjects.Subject.{Subject}
use Rattle.mdcc_audit.specs.declared.values.Value.{Value}

-- something that a fact says of a subject
abbrev pub Saying : Type 0
Saying = Subject × First

-- ---- what a fact says

-- what is heard says an outcome
abbrev pub outcome_sayings : Placed → List Saying
outcome_sayings (place, Fact.Heard tx outcome) = (of_tx tx, said_at place (outcome_value outcome)) ∷ []
outcome_sayings (place, fact) = []

abbrev pub mark_saying : Place → Key → ℕ → Ballot → TxId × Mark → Saying
mark_saying place key version ballot e = (in_vote e.0 key version ballot, said_at place (mark_value e.1))

-- a vote at a classic ballot says marks
abbrev pub mark_sayings : Placed → List Saying
mark_sayings (place, Fact.Voted key version ballot options offered) = if is_fast ballot then [] else map (mark_saying place key version ballot) options
mark_sayings (place, fact) = []

-- the choices that a fact has
abbrev pub choices_named : Fact → List Choice
choices_named (Fact.Voted key version ballot options offered) = filter_map (λ e. choice_in e.1) options ++ option_to_list offered
choices_named (Fact.Heard tx (Outcome.Commit choices)) = choices
choices_named fact = []

-- a choice says what it is, and the write set
abbrev pub choice_sayings : Place → Choice → List Saying
choice_sayings place choice =
    (of_key choice.tx choice.key, said_at place (Value.Choices (choice ∷ []))) ∷ (of_tx choice.tx, said_at place (Value.Places choice.write_set)) ∷ []

abbrev pub choices_in : Placed → List Saying
choices_in (place, fact) = flat_map (choice_sayings place) (choices_named fact)

-- ---- no contradiction

abbrev pub IsOneOf : {X : Type 0} → X → List X → Type 0
IsOneOf x [] = ⊥
IsOneOf x (y ∷ ys) = (x ≡ y) ⊎ IsOneOf x ys

-- what is said of one subject is one thing
abbrev pub AreAlike : List Saying → Type 0
AreAlike sayings = (a b : Saying) → IsOneOf a sayings → IsOneOf b sayings → IsTrue (subject_eq a.0 b.0) → a.1.value ≡ b.1.value

-- no pair is found exactly where what is said is alike
abbrev pub FindsContradictions : Type 0
FindsContradictions = (quorums : Sizes) (facts : List Placed) →
    ((audit_state_after quorums facts).outcomes.found ≡ None ↔ AreAlike (flat_map outcome_sayings facts))
    × ((audit_state_after quorums facts).marks.found ≡ None ↔ AreAlike (flat_map mark_sayings facts))
    × ((audit_state_after quorums facts).choices.found ≡ None ↔ AreAlike (flat_map choices_in facts))

-- ---- the first contradiction

-- different things of one subject
abbrev pub Differ : Saying → Saying → Type 0
Differ a b = (a.0 ≡ b.0) × (a.1.value ≡ b.1.value → ⊥)

-- two places are not before two others: the first is no earlier, and where it is no later the second is no earlier
abbrev pub NotBefore : Place → Place → Place → Place → Type 0
NotBefore a b c d = (place_lt a c ≡ false) × (place_lt c a ≡ false → place_lt b d ≡ false)

-- these say different things, and no others that do are before them
pub record IsFirstPair (sayings : List Saying) (pair : Pair) : Type 0 where
  pub contradict : (a : Saying) × (b : Saying) × IsOneOf a sayings × IsOneOf b sayings × Differ a b × (a.1.place ≡ pair.0) × (b.1.place ≡ pair.1)
  pub first : (a b : Saying) → IsOneOf a sayings → IsOneOf b sayings → Differ a b → place_lt b.1.place a.1.place ≡ false → NotBefore a.1.place b.1.place pair.0 pair.1

-- they stand in order of their places
abbrev pub AreInOrder : List Saying → Type 0
AreInOrder [] = ⊤
AreInOrder (x ∷ xs) = ((e : Saying) → IsOneOf e xs → place_lt e.1.place x.1.place ≡ false) × AreInOrder xs

-- of what facts say in order of their places, the pair that is found is the first
abbrev pub FindsFirst : Type 0
FindsFirst = (quorums : Sizes) (facts : List Placed) (pair : Pair) →
    (AreInOrder (flat_map outcome_sayings facts) → (audit_state_after quorums facts).outcomes.found ≡ Some pair → IsFirstPair (flat_map outcome_sayings facts) pair)
    × (AreInOrder (flat_map mark_sayings facts) → (audit_state_after quorums facts).marks.found ≡ Some pair → IsFirstPair (flat_map mark_sayings facts) pair)
    × (AreInOrder (flat_map choices_in facts) → (audit_state_after quorums facts).choices.found ≡ Some pair → IsFirstPair (flat_map choices_in facts) pair)

-- what the facts of whole logs say stands in order
abbrev pub LogsAreInOrder : Type 0
LogsAreInOrder = (logs : List (List Fact)) →
    AreInOrder (flat_map outcome_sayings (placed_of logs)) × AreInOrder (flat_map mark_sayings (placed_of logs)) × AreInOrder (flat_map choices_in (placed_of logs))
