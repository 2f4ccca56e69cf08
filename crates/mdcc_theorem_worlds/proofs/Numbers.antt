-- Messages by their numbers.
use Rattle.std.proofs.Common.{◌≡◌, ℕ, zero, suc, ◌+◌, ◌≤◌, ◌<◌, List, [], ◌∷◌, refl, sym, ap, subst, inl, inr, Some, None, arith, length}
use Rattle.std.specs.List.{AllByRecursion}
use Rattle.std.specs.Option.{option_map}
use Rattle.std.specs.Prelude.{slice_get}
use Rattle.std.proofs.lemmas.Bool.{cases_Bool}
use Rattle.mdcc_def_messages.specs.Mailbox.{Sent, numbered, with_delivered}
use Rattle.mdcc_def_simulation.specs.State.{World}
use Rattle.mdcc_def_simulation.specs.Deliveries.{first_waiting, is_waiting_for}
use Rattle.mdcc_def_messages.specs.declared.messages.Envelope.{Envelope}

each-got : {X : Type 0} (P : X → Type 0) (xs : List X) (n : ℕ) (x : X) → AllByRecursion P xs → slice_get xs n ≡ Some x → P x
each-got P [] n x h at = absurd (cc)
each-got P (y ∷ ys) zero x h at = let same : y ≡ x = cc in subst P same h.0
each-got P (y ∷ ys) (suc n) x h at = each-got P ys n x h.1 at

pub each-numbered : {X : Type 0} (P : X → Type 0) (xs : List X) (number : ℕ) (x : X) → AllByRecursion P xs → numbered xs number ≡ Some x → P x
each-numbered P xs zero x h at = absurd (cc)
each-numbered P xs (suc n) x h at = each-got P xs n x h at

got-below : {X : Type 0} (xs : List X) (n : ℕ) (x : X) → slice_get xs n ≡ Some x → n < length xs
got-below [] n x at = absurd (cc)
got-below (y ∷ ys) zero x at = omega arith
got-below (y ∷ ys) (suc n) x at = let ih = got-below ys n x at in omega (ih, arith)

-- a number that is sent is one of the list
pub sent-number : {X : Type 0} (xs : List X) (number : ℕ) (x : X) → numbered xs number ≡ Some x → (1 ≤ number) × (number ≤ length xs)
sent-number xs zero x at = absurd (cc)
sent-number xs (suc n) x at = let below = got-below xs n x at in (omega arith, omega (below, arith))

past-none : {X : Type 0} (xs : List X) (n : ℕ) → slice_get xs n ≡ None → length xs ≤ n
past-none [] n none = omega arith
past-none (y ∷ ys) zero none = absurd (cc)
past-none (y ∷ ys) (suc n) none = let ih = past-none ys n none in omega (ih, arith)

-- a number that is not sent is past the end
pub unsent-number : {X : Type 0} (xs : List X) (number : ℕ) → 1 ≤ number → numbered xs number ≡ None → length xs < number
unsent-number xs zero some none = absurd (omega (some, arith))
unsent-number xs (suc n) some none = let past = past-none xs n none in omega (past, arith)

got-delivered : (xs : List Sent) (i n : ℕ) → option_map (λ (s : Sent). s.envelope) (slice_get (with_delivered xs i) n) ≡ option_map (λ (s : Sent). s.envelope) (slice_get xs n)
got-delivered [] i n = refl
got-delivered (x ∷ xs) zero zero = refl
got-delivered (x ∷ xs) zero (suc n) = refl
got-delivered (x ∷ xs) (suc i) zero = refl
got-delivered (x ∷ xs) (suc i) (suc n) = got-delivered xs i n

-- a delivery leaves the messages
pub numbered-delivered : (xs : List Sent) (i number : ℕ)
    → option_map (λ (s : Sent). s.envelope) (numbered (with_delivered xs i) number) ≡ option_map (λ (s : Sent). s.envelope) (numbered xs number)
numbered-delivered xs i zero = refl
numbered-delivered xs i (suc n) = got-delivered xs i n

pub length-delivered : (xs : List Sent) (i : ℕ) → length (with_delivered xs i) ≡ length xs
length-delivered [] i = refl
length-delivered (x ∷ xs) zero = refl
length-delivered (x ∷ xs) (suc i) = let ih = length-delivered xs i in omega (ih, arith)

-- ---- the message that waits first

-- a message of the list, where its first has number n
pub record IsAmong (n : ℕ) (xs : List Sent) (next : ℕ × Envelope) : Type 0 where
  pub place : ℕ
  pub sent : Sent
  pub number : next.0 ≡ n + place
  pub there : slice_get xs place ≡ Some sent
  pub envelope : sent.envelope ≡ next.1

pub waiting-among : (w : World) (listed : List ℕ) (n : ℕ) (xs : List Sent) (next : ℕ × Envelope) → first_waiting w listed n xs ≡ Some next → IsAmong n xs next
waiting-among w listed n [] next found = absurd (cc)
waiting-among w listed n (x ∷ xs) next found = elim (cases_Bool (is_waiting_for w listed x)) [
  | inl e ↦
      let here : Some (n, x.envelope) ≡ Some next = rw (e, first_waiting) at found in
      let same : (n, x.envelope) ≡ next = cc in
      let number : n ≡ next.0 = ap (λ (p : ℕ × Envelope). p.0) same in
      let envelope : x.envelope ≡ next.1 = ap (λ (p : ℕ × Envelope). p.1) same in
      record { place = 0; sent = x; number = omega (number, arith); there = refl; envelope = envelope }
  | inr e ↦
      let later : first_waiting w listed (n + 1) xs ≡ Some next = rw (e, first_waiting) at found in
      let ih = waiting-among w listed (n + 1) xs next later in
      let number = ih.number in
      record { place = suc ih.place; sent = ih.sent; number = omega (number, arith); there = ih.there; envelope = ih.envelope }
]

-- the message that waits first is that of its number
pub record IsNumbered (xs : List Sent) (next : ℕ × Envelope) : Type 0 where
  pub sent : Sent
  pub there : numbered xs next.0 ≡ Some sent
  pub envelope : sent.envelope ≡ next.1

pub waiting-numbered : (w : World) (listed : List ℕ) (xs : List Sent) (next : ℕ × Envelope) → first_waiting w listed 1 xs ≡ Some next → IsNumbered xs next
waiting-numbered w listed xs next found =
    let among = waiting-among w listed 1 xs next found in
    let number = among.number in
    let is : next.0 ≡ suc among.place = omega (number, arith) in
    record { sent = among.sent; there = subst (λ (n : ℕ). numbered xs n ≡ Some among.sent) (sym is) among.there; envelope = among.envelope }
