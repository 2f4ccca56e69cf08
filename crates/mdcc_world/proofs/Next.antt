-- The message that a world delivers next.
use Rattle.std.proofs.Common.{◌≡◌, ℕ, ◌+◌, Bool, true, false, List, [], ◌∷◌, Option, Some, None, refl, ◌∙◌, ap, arith, inl, inr, length}
use Rattle.std.specs.Prelude.{nat_lt, slice_get}
use Rattle.std.specs.Option.{option_map}
use Rattle.std.proofs.lemmas.Bool.{cases_Bool, ltb-false}
use Rattle.std.proofs.Math.Numerals.{add-one}
use Rattle.mdcc_world_mail.proofs.Firsts.{numbered_at, past}
use Rattle.mdcc_world_mail.specs.Waiting.{before_first, first_to, waiting_number_at, waits_among}
use Rattle.mdcc_def_messages.specs.Mailbox.{Sent, numbered}
use Rattle.mdcc_def_simulation.specs.State.{World}
use Rattle.mdcc_def_simulation.specs.Deliveries.{first_waiting, is_waiting_for}
use Rattle.mdcc_def_messages.specs.declared.messages.Envelope.{Envelope}
use Rattle.mdcc_world.specs.SettleEnd.{AreAsked}

-- a message with its number
abbrev pub with_number : ℕ → Sent → ℕ × Envelope
with_number number sent = (number, sent.envelope)

abbrev pub message_of : List Sent → Option ℕ → Option (ℕ × Envelope)
message_of sent None = None
message_of sent (Some number) = option_map (with_number number) (numbered sent number)

abbrev at_place : ℕ → List Sent → ℕ → Option (ℕ × Envelope)
at_place number sent place = option_map (with_number (number + place)) (slice_get sent place)

asked : (w : World) (listed centres : List ℕ) → AreAsked w listed centres → (sent : Sent) → is_waiting_for w listed sent ≡ waits_among centres sent
asked w listed centres are sent = elim (cases_Bool sent.is_delivered) [
  | inl e ↦ rw e refl
  | inr e ↦ rw (e, are sent.envelope.to) refl
]

one_later : (number : ℕ) (s : Sent) (rest : List Sent) (place : ℕ) → at_place (number + 1) rest place ≡ at_place number (s ∷ rest) (place + 1)
one_later number s rest place =
    let same : number + 1 + place ≡ number + (place + 1) = omega arith in
    let there : slice_get rest place ≡ slice_get (s ∷ rest) (place + 1) = rw (add-one place) refl in
    ap (λ (n : ℕ). option_map (with_number n) (slice_get rest place)) same ∙ ap (λ (o : Option Sent). option_map (with_number (number + (place + 1))) o) there

next_from : (w : World) (listed centres : List ℕ) → AreAsked w listed centres → (number : ℕ) (sent : List Sent)
    → first_waiting w listed number sent ≡ at_place number sent (before_first (waits_among centres) sent)
next_from w listed centres are number [] = refl
next_from w listed centres are number (s ∷ rest) = by_case (next_from w listed centres are (number + 1) rest) (waits_among centres s) refl
  where
    by_case : first_waiting w listed (number + 1) rest ≡ at_place (number + 1) rest (before_first (waits_among centres) rest)
        → (b : Bool) → waits_among centres s ≡ b
        → first_waiting w listed number (s ∷ rest) ≡ at_place number (s ∷ rest) (before_first (waits_among centres) (s ∷ rest))
    by_case later true e =
        let waits = asked w listed centres are s ∙ e in
        let same : number ≡ number + 0 = omega arith in
        rw (waits, first_waiting, e) (ap (λ (n : ℕ). Some (n, s.envelope)) same)
    by_case later false e =
        let waits = asked w listed centres are s ∙ e in
        rw (waits, first_waiting, e) (later ∙ one_later number s rest (before_first (waits_among centres) rest))

found : (sent : List Sent) (place : ℕ) → at_place 1 sent place ≡ message_of sent (waiting_number_at place (length sent))
found sent place = by_case (nat_lt place (length sent)) refl
  where
    by_case : (b : Bool) → nat_lt place (length sent) ≡ b → at_place 1 sent place ≡ message_of sent (waiting_number_at place (length sent))
    by_case true e =
        let same : 1 + place ≡ place + 1 = omega arith in
        rw (e, numbered_at sent place) (ap (λ (n : ℕ). option_map (with_number n) (slice_get sent place)) same)
    by_case false e = rw (e, past sent place (ltb-false place (length sent) e)) refl

-- the least number that waits for one of the centres is that of the message which a settle delivers next
pub next-is : (w : World) (listed centres : List ℕ) (sent : List Sent) → AreAsked w listed centres
    → first_waiting w listed 1 sent ≡ message_of sent (first_to centres sent)
next-is w listed centres sent are = next_from w listed centres are 1 sent ∙ found sent (before_first (waits_among centres) sent)
