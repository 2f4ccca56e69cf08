-- What a fact says. A vote at a classic ballot says the mark of each transaction in the instance at that ballot. Each choice in a fact
-- says what its transaction's choice for that key is, and its write set. What is heard says the outcome.
use Rattle.std.specs.Prelude.{List, None, Option, Some, [], fold, if◌then◌else◌, ℕ, ◌∷◌}
use Rattle.mdcc_base.specs.Ballot.{is_fast}
use Rattle.mdcc_base.specs.declared.identifiers.Ballot.{Ballot}
use Rattle.mdcc_base.specs.declared.identifiers.TxId.{TxId}
use Rattle.mdcc_base.specs.declared.key.Key.{Key}
use Rattle.mdcc_option.specs.declared.choices.Choice.{Choice}
use Rattle.mdcc_option.specs.declared.choices.Mark.{Mark}
use Rattle.mdcc_option.specs.declared.choices.Outcome.{Outcome}
use Rattle.mdcc_struct.specs.declared.options.Options.{Options}
use Rattle.mdcc_audit.specs.Firsts.{Said, say}
use Rattle.mdcc_audit.specs.Subjects.{in_vote, of_key, of_tx}
use Rattle.mdcc_audit.specs.declared.audited.Place.{Place}
use Rattle.mdcc_audit.specs.declared.firsts.First.{First}
use Rattle.mdcc_audit.specs.declared.values.Value.{Value}

abbrev pub said_at : Place → Value → First
said_at place value = record { place = place; value = value }

abbrev pub outcome_value : Outcome → Value
outcome_value (Outcome.Commit choices) = Value.Choices choices
outcome_value Outcome.Abort = Value.Refusal

abbrev pub mark_value : Mark → Value
mark_value (Mark.Accept choice) = Value.Choices (choice ∷ [])
mark_value Mark.Reject = Value.Refusal

-- ---- outcomes

abbrev pub say_outcome : Said → Place → TxId → Outcome → Said
say_outcome said place tx outcome = say said (of_tx tx) (said_at place (outcome_value outcome))

-- ---- marks

abbrev pub say_mark : Place → Key → ℕ → Ballot → Said → TxId × Mark → Said
say_mark place key version ballot said e = say said (in_vote e.0 key version ballot) (said_at place (mark_value e.1))

abbrev pub say_marks : Said → Place → Key → ℕ → Ballot → Options → Said
say_marks said place key version ballot options =
    if is_fast ballot then said else fold (say_mark place key version ballot) said options

-- ---- choices

abbrev pub say_choice : Place → Said → Choice → Said
say_choice place said choice =
    say (say said (of_key choice.tx choice.key) (said_at place (Value.Choices (choice ∷ []))))
    (of_tx choice.tx) (said_at place (Value.Places choice.write_set))

abbrev pub say_choices : Said → Place → List Choice → Said
say_choices said place choices = fold (say_choice place) said choices

abbrev pub say_accepted : Place → Said → TxId × Mark → Said
say_accepted place said (tx, Mark.Accept choice) = say_choice place said choice
say_accepted place said (tx, Mark.Reject) = said

abbrev pub say_offered : Said → Place → Option Choice → Said
say_offered said place None = said
say_offered said place (Some choice) = say_choice place said choice

abbrev pub say_heard : Said → Place → Outcome → Said
say_heard said place (Outcome.Commit choices) = say_choices said place choices
say_heard said place Outcome.Abort = said
