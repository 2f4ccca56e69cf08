-- Which messages wait for some centres, and the first that does.
use Rattle.std.specs.List.{list_any}
use Rattle.std.specs.Prelude.{Bool, List, None, Option, Some, [], if◌then◌else◌, length, nat_lt, not, ℕ, ◌&&◌, ◌+◌, ◌==◌, ◌∷◌}
use Rattle.mdcc_def_messages.specs.Mailbox.{Sent}

-- whether a message waits for a centre
abbrev pub waits_for : ℕ → Sent → Bool
waits_for centre sent = not sent.is_delivered && sent.envelope.to == centre

-- whether it waits for one of some centres
abbrev pub waits_among : List ℕ → Sent → Bool
waits_among centres sent = not sent.is_delivered && list_any (λ centre. centre == sent.envelope.to) centres

-- how many stand before the first that passes
abbrev pub before_first : {X : Type 0} → (X → Bool) → List X → ℕ
before_first test [] = 0
before_first test (x ∷ xs) = if test x then 0 else before_first test xs + 1

abbrev pub waiting_number_at : ℕ → ℕ → Option ℕ
waiting_number_at place count = if nat_lt place count then Some (place + 1) else None

-- the least number of a message that waits for one of some centres
abbrev pub first_to : List ℕ → List Sent → Option ℕ
first_to centres sent = waiting_number_at (before_first (waits_among centres) sent) (length sent)
