-- To whom messages go.
use Rattle.std.specs.Prelude.{List, [], filter, map, not, ℕ, ◌==◌, ◌∷◌}
use Rattle.mdcc_base.specs.Quorums.{all_centres}
use Rattle.mdcc_base.specs.Sizes.{Sizes}
use Rattle.mdcc_def_messages.specs.declared.messages.Envelope.{Envelope}
use Rattle.mdcc_def_messages.specs.declared.messages.Message.{Message}

-- one message to several centres, in their order
abbrev pub to_each : List ℕ → ℕ → Message → List Envelope
to_each centres from message = map (λ to. record { from = from; to = to; message = message }) centres

-- to all centres, ascending, the sender among them
abbrev pub to_all : Sizes → ℕ → Message → List Envelope
to_all quorums from message = to_each (all_centres quorums) from message

-- to all but the sender
abbrev pub to_others : Sizes → ℕ → Message → List Envelope
to_others quorums from message = to_each (filter (λ to. not (to == from)) (all_centres quorums)) from message

abbrev pub to_one : ℕ → ℕ → Message → List Envelope
to_one from to message = record { from = from; to = to; message = message } ∷ []
