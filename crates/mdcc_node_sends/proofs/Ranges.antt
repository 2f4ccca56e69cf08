-- Messages to centres in turn.
use Rattle.std.proofs.Common.{◌≡◌, ◌<◌, ◌+◌, ◌-◌, ◌∷◌, ◌++◌, [], List, ℕ, not, suc, arith, refl, append_assoc, ◌==◌, inl, inr}
use Rattle.std.proofs.lemmas.Bool.{cases_Bool}
use Rattle.std.specs.List.{filter, range_with_len}
use Rattle.mdcc_node_sends.specs.Others.{to_other}
use Rattle.mdcc_def_rules.specs.Messages.{to_each}
use Rattle.mdcc_def_messages.specs.declared.messages.Envelope.{Envelope}
use Rattle.mdcc_def_messages.specs.declared.messages.Message.{Message}

-- the first of some numbers, where there are any
range_first : (a end : ℕ) → a < end → range_with_len a (end - a) ≡ a ∷ range_with_len (a + 1) (end - (a + 1))
range_first a end within =
    let more : end - a ≡ suc (end - (a + 1)) = omega (within, arith) in
    rw more refl

module _ (sends : List Envelope) (from : ℕ) (message : Message) (to end : ℕ) (within : to < end) where
  -- one more is sent
  pub next_sent : (sends ++ record { from = from; to = to; message = message } ∷ []) ++ to_each (range_with_len (to + 1) (end - (to + 1))) from message
      ≡ sends ++ to_each (range_with_len to (end - to)) from message
  next_sent = rw (range_first to end within, append_assoc) refl

  -- one more is told, but for the sender
  pub next_told : (sends ++ to_other from to message) ++ to_each (filter (λ t. not (t == from)) (range_with_len (to + 1) (end - (to + 1)))) from message
      ≡ sends ++ to_each (filter (λ t. not (t == from)) (range_with_len to (end - to))) from message
  next_told =
      elim (cases_Bool (not (to == from))) [
        | inl e ↦ rw (range_first to end within, e, append_assoc) refl
        | inr e ↦ rw (range_first to end within, e, append_assoc) refl
      ]
