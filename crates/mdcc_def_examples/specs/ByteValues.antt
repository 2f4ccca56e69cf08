-- Messages and facts with their bytes.
use Rattle.std.specs.Prelude.{ℕ, pos, List, [], ◌∷◌, ◌++◌}
use Rattle.mdcc_base.specs.declared.identifiers.TxId.{TxId}
use Rattle.mdcc_option.specs.declared.items.Item.{Item}
use Rattle.mdcc_option.specs.declared.items.Update.TheVariants.{Write}
use Rattle.mdcc_option.specs.declared.choices.Choice.{Choice}
use Rattle.mdcc_def_messages.specs.declared.messages.Envelope.{Envelope}
use Rattle.mdcc_def_messages.specs.declared.messages.Message.TheVariants.{Propose, Ask}
use Rattle.mdcc_def_messages.specs.declared.facts.Fact.{Fact}
use Rattle.mdcc_def_messages.specs.declared.facts.Fact.TheVariants.{Booted}

-- the first transaction of centre 1
abbrev pub first_tx : TxId
first_tx = record { centre = 1; epoch = 1; seq = 1 }

abbrev pub key_a : List ℕ
key_a = 97 ∷ []

abbrev pub key_b : List ℕ
key_b = 98 ∷ []

abbrev pub ten : Item
ten = record { body = []; values = pos 10 ∷ [] }

-- it inserts the value 10 under the key a
abbrev pub insert_of_ten : Choice
insert_of_ten = record { tx = first_tx; key = key_a; version = 0; update = Write ten []; write_set = (key_a, 0) ∷ [] }

abbrev pub proposal : Envelope
proposal = record { from = 1; to = 1; message = Propose insert_of_ten }

abbrev pub proposal_spelled : List ℕ
proposal_spelled =
    (1 ∷ 1 ∷ 1 ∷ 1 ∷ [])
    ++ (1 ∷ 1 ∷ 0 ∷ 0 ∷ 0 ∷ 1 ∷ 0 ∷ 0 ∷ 0 ∷ [])
    ++ (1 ∷ 97 ∷ [])
    ++ (0 ∷ 0 ∷ 0 ∷ 0 ∷ 0 ∷ 0 ∷ 0 ∷ 0 ∷ [])
    ++ (1 ∷ 0 ∷ 1 ∷ [])
    ++ (10 ∷ 0 ∷ 0 ∷ 0 ∷ 0 ∷ 0 ∷ 0 ∷ 0 ∷ [])
    ++ (0 ∷ 1 ∷ 1 ∷ 97 ∷ [])
    ++ (0 ∷ 0 ∷ 0 ∷ 0 ∷ 0 ∷ 0 ∷ 0 ∷ 0 ∷ [])

-- centre 2 asks centre 3 about the transaction at the key b
abbrev pub question : Envelope
question = record { from = 2; to = 3; message = Ask first_tx key_b 0 }

-- its bytes behind the format and the kind
abbrev pub question_rest : List ℕ
question_rest =
    (2 ∷ 3 ∷ [])
    ++ (1 ∷ 1 ∷ 0 ∷ 0 ∷ 0 ∷ 1 ∷ 0 ∷ 0 ∷ 0 ∷ [])
    ++ (1 ∷ 98 ∷ [])
    ++ (0 ∷ 0 ∷ 0 ∷ 0 ∷ 0 ∷ 0 ∷ 0 ∷ 0 ∷ [])

abbrev pub question_spelled : List ℕ
question_spelled = (1 ∷ 10 ∷ []) ++ question_rest

-- the facts of a centre after its first boot
abbrev pub first_boot : List Fact
first_boot = Booted 1 ∷ []

abbrev pub first_log : List ℕ
first_log =
    (77 ∷ 68 ∷ 67 ∷ 67 ∷ 76 ∷ 79 ∷ 71 ∷ 49 ∷ [])
    ++ (1 ∷ 5 ∷ 0 ∷ 0 ∷ 0 ∷ [])
    ++ (1 ∷ 1 ∷ 0 ∷ 0 ∷ 0 ∷ [])
    ++ (0 ∷ [])
