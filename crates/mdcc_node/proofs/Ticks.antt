-- Parts of a tick, one after another.
use Rattle.std.proofs.Common.{◌≡◌, ◌++◌, ◌∷◌, [], List, ap, append_assoc, append-nil, fold, refl, sym}
use Rattle.mdcc_def_messages.specs.declared.messages.Envelope.{Envelope}
use Rattle.mdcc_def_protocol.specs.Volatile.{Volatile}
use Rattle.mdcc_def_rules.specs.Steps.{StepPart, only_sending, part_and_then}

module _ {X : Type 0} (act : Volatile → X → StepPart) where
  -- acts do the same behind other messages
  behind : (sent : List Envelope) (a b : StepPart) (xs : List X) → a.after ≡ b.after → a.sends ≡ sent ++ b.sends
      → ((fold (part_and_then act) a xs).sends ≡ sent ++ (fold (part_and_then act) b xs).sends) × ((fold (part_and_then act) a xs).after ≡ (fold (part_and_then act) b xs).after)
  behind sent a b [] same sends = (sends, same)
  behind sent a b (x ∷ xs) same sends =
      behind sent (part_and_then act a x) (part_and_then act b x) xs (ap (λ (v : Volatile). (act v x).after) same)
      (rw (sends, same) (append_assoc sent b.sends (act b.after x).sends))

  -- and so they do behind a part
  pub after-part : (first : StepPart) (kept : Volatile) (xs : List X)
      → ((fold (part_and_then act) (record first { after = kept }) xs).sends ≡ first.sends ++ (fold (part_and_then act) (only_sending kept []) xs).sends)
      × ((fold (part_and_then act) (record first { after = kept }) xs).after ≡ (fold (part_and_then act) (only_sending kept []) xs).after)
  after-part first kept xs = behind first.sends (record first { after = kept }) (only_sending kept []) xs refl (sym (append-nil first.sends))
