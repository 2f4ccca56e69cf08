-- Messages that were sent, in order, each with whether it was delivered. They are numbered from 1.
use Rattle.std.specs.Prelude.{Bool, List, None, Option, [], false, slice_get, suc, true, zero, ℕ, ◌∷◌}
use Rattle.mdcc_def_messages.specs.declared.messages.Envelope.{Envelope}

-- a message that was sent, and whether it was delivered
pub record Sent : Type 0 where
  pub envelope : Envelope
  pub is_delivered : Bool

abbrev pub unsent : Envelope → Sent
unsent envelope = record { envelope = envelope; is_delivered = false }

abbrev pub with_delivered : List Sent → ℕ → List Sent
with_delivered [] place = []
with_delivered (s ∷ ss) zero = record { envelope = s.envelope; is_delivered = true } ∷ ss
with_delivered (s ∷ ss) (suc place) = s ∷ with_delivered ss place

-- the item of a number, from 1
abbrev pub numbered : {X : Type 0} → List X → ℕ → Option X
numbered xs zero = None
numbered xs (suc n) = slice_get xs n
