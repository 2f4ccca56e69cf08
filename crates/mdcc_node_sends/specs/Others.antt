-- Messages to other centres.
use Rattle.std.specs.Prelude.{List, [], if◌then◌else◌, not, ℕ, ◌==◌, ◌∷◌}
use Rattle.mdcc_def_messages.specs.declared.messages.Envelope.{Envelope}
use Rattle.mdcc_def_messages.specs.declared.messages.Message.{Message}

-- a message to a centre, where it is another one
abbrev pub to_other : ℕ → ℕ → Message → List Envelope
to_other from to message = if not (to == from) then record { from = from; to = to; message = message } ∷ [] else []
