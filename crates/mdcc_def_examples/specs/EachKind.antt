-- A message of each kind, with each of its cases, and a fact of each kind.
use Rattle.std.specs.Prelude.{ℕ, ◌-◌, ◌^◌, ℤ, pos, negsuc, true, false, List, [], ◌∷◌, map, Some, None}
use Rattle.mdcc_base.specs.declared.identifiers.Ballot.{Ballot}
use Rattle.mdcc_base.specs.declared.identifiers.TxId.{TxId}
use Rattle.mdcc_base.specs.Ballot.{fast_ballot}
use Rattle.mdcc_option.specs.declared.items.Item.{Item}
use Rattle.mdcc_option.specs.declared.items.Token.{Token}
use Rattle.mdcc_option.specs.declared.items.Part.{Part}
use Rattle.mdcc_option.specs.declared.items.Delta.{Delta}
use Rattle.mdcc_option.specs.declared.items.Update.TheVariants.{Write, Add}
use Rattle.mdcc_option.specs.declared.choices.Choice.{Choice}
use Rattle.mdcc_option.specs.declared.choices.Cause.TheVariants as causes
use Rattle.mdcc_option.specs.declared.choices.Mark.TheVariants as marks
use Rattle.mdcc_option.specs.declared.choices.Outcome.TheVariants as outcomes
use Rattle.mdcc_option.specs.declared.faults.BeginFault.TheVariants as begins
use Rattle.mdcc_option.specs.declared.faults.DraftFault.TheVariants as drafts
use Rattle.mdcc_struct.specs.Options.{Marks}
use Rattle.mdcc_def_messages.specs.declared.messages.ClientAnswer.{ClientAnswer}
use Rattle.mdcc_def_messages.specs.declared.messages.ClientAnswer.TheVariants as answers
use Rattle.mdcc_def_messages.specs.declared.messages.Envelope.{Envelope}
use Rattle.mdcc_def_messages.specs.declared.messages.Message.{Message}
use Rattle.mdcc_def_messages.specs.declared.messages.Message.TheVariants as messages
use Rattle.mdcc_def_messages.specs.declared.facts.Fact.{Fact}
use Rattle.mdcc_def_messages.specs.declared.facts.Fact.TheVariants as facts
use Rattle.mdcc_def_examples.specs.ByteValues.{first_tx, key_a, key_b, ten}

abbrev pub second_tx : TxId
second_tx = record { centre = 2; epoch = 1; seq = 2 ^ 32 - 1 }

abbrev pub leaders_ballot : Ballot
leaders_ballot = record { round = 258; epoch = 2; centre = 3 }

-- a body of two bytes, and the least and the greatest value
abbrev pub wide_item : Item
wide_item = record { body = 0 ∷ 255 ∷ []; values = negsuc (2 ^ 63 - 1) ∷ pos (2 ^ 63 - 1) ∷ [] }

abbrev pub both_seen : List TxId
both_seen = first_tx ∷ second_tx ∷ []

abbrev pub some_amounts : List (ℕ × ℤ)
some_amounts = (1, negsuc 3) ∷ (4, pos 300) ∷ []

abbrev pub two_keys : List (List ℕ × ℕ)
two_keys = (key_a, 7) ∷ (key_b, 2 ^ 64 - 1) ∷ []

abbrev pub writing : Choice
writing = record { tx = first_tx; key = key_a; version = 7; update = Write wide_item both_seen; write_set = two_keys }

abbrev pub adding_choice : Choice
adding_choice = record { tx = first_tx; key = key_b; version = 2 ^ 64 - 1; update = Add some_amounts; write_set = two_keys }

abbrev pub both_marks : Marks
both_marks = (first_tx, marks.Accept writing) ∷ (second_tx, marks.Reject) ∷ []

abbrev pub token : Token
token = record { version = 7; seen = both_seen }

abbrev pub deltas : List Delta
deltas = record { tx = first_tx; amounts = some_amounts } ∷ record { tx = second_tx; amounts = (2, pos 1) ∷ [] } ∷ []

abbrev pub parts : List Part
parts = record { key = key_a; version = 0; update = Write ten [] } ∷ record { key = key_b; version = 7; update = Add some_amounts } ∷ []

abbrev pub all_answers : List ClientAnswer
all_answers =
    answers.Read key_a token (Some wide_item) true
    ∷ answers.Read key_a (record { version = 0; seen = [] }) None false
    ∷ answers.Begun first_tx
    ∷ answers.Refused key_a (begins.Stale token)
    ∷ answers.Refused key_a (begins.Unseen 7)
    ∷ answers.Refused key_a begins.NoItem
    ∷ answers.Refused key_a begins.Sequence
    ∷ answers.Refused key_a begins.Busy
    ∷ answers.Heard first_tx false
    ∷ answers.Heard first_tx true
    ∷ answers.Draft drafts.Empty
    ∷ answers.Draft drafts.TooMany
    ∷ answers.Draft drafts.RepeatedKey
    ∷ answers.Draft drafts.BadAttribute
    ∷ answers.Draft drafts.ZeroAmount
    ∷ answers.Draft drafts.OutOfBounds
    ∷ []

abbrev pub all_messages : List Message
all_messages =
    messages.Propose writing
    ∷ messages.Voted key_a 7 fast_ballot first_tx (marks.Accept writing)
    ∷ messages.Voted key_a 7 leaders_ballot first_tx marks.Reject
    ∷ messages.Escalate key_a 7 first_tx causes.Behind
    ∷ messages.Escalate key_a 7 first_tx (causes.Classic leaders_ballot)
    ∷ messages.Escalate key_a 7 first_tx (causes.Limit 0)
    ∷ messages.Escalate key_a 7 first_tx causes.Full
    ∷ messages.Lead adding_choice
    ∷ messages.Prepare key_a 7 7 leaders_ballot
    ∷ messages.Promise key_a 7 107 leaders_ballot fast_ballot both_marks
    ∷ messages.Promise key_a 7 107 leaders_ballot leaders_ballot []
    ∷ messages.Accept key_a 7 leaders_ballot both_marks
    ∷ messages.Refused key_a 7 leaders_ballot leaders_ballot
    ∷ messages.Outcome first_tx outcomes.Abort
    ∷ messages.Outcome first_tx (outcomes.Commit (writing ∷ adding_choice ∷ []))
    ∷ messages.Ask first_tx key_a 7
    ∷ messages.SyncAsk key_a
    ∷ messages.SyncGive key_a 1 wide_item deltas
    ∷ messages.ClientRead 0 key_a
    ∷ messages.ClientBegin 1 parts
    ∷ messages.Mark 9 1 (2 ^ 32 - 1)
    ∷ messages.Finished first_tx
    ∷ map (messages.ClientAnswer (2 ^ 32 - 1)) all_answers

abbrev pub enveloped : Message → Envelope
enveloped message = record { from = 9; to = 17; message = message }

abbrev pub all_envelopes : List Envelope
all_envelopes = map enveloped all_messages

abbrev pub all_facts : List Fact
all_facts =
    facts.Booted 1
    ∷ facts.Promised key_a 7 107 leaders_ballot
    ∷ facts.Voted key_a 7 fast_ballot ((second_tx, marks.Reject) ∷ []) (Some writing)
    ∷ facts.Voted key_a 7 leaders_ballot both_marks None
    ∷ facts.Heard first_tx outcomes.Abort
    ∷ facts.Heard first_tx (outcomes.Commit (writing ∷ adding_choice ∷ []))
    ∷ facts.Adopted key_a 1 wide_item deltas
    ∷ facts.Floor 1 1 2
    ∷ []
