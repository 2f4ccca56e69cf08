-- Deliver lines, number by number.
use Rattle.std.proofs.Common.{◌≡◌, ℕ, List, [], ◌∷◌, refl, ap, ◌∙◌, Ok, Err}
use Rattle.mdcc_def_simulation.specs.State.{Happened, World, after_lines}
use Rattle.mdcc_def_simulation.specs.Left.{deliveries_before}
use Rattle.mdcc_def_simulation.specs.Deliveries.{after_deliveries, after_delivery}
use Rattle.mdcc_def_simulation.specs.Events.{after_event}
use Rattle.mdcc_def_language.specs.declared.events.Event.{Event}
use Rattle.mdcc_def_language.specs.declared.world.EventFault.{EventFault}
use Rattle.mdcc_theorem_worlds.specs.DeliveryProgress.{IsDelivering, unmoved}

pub deliver-is : (w : World) (numbers : List ℕ) → after_event w (Event.Deliver numbers) ≡ after_deliveries numbers (unmoved w)
deliver-is w numbers = refl

-- ---- one number

pub next-of : (number : ℕ) (left : List ℕ) (h next : Happened) → after_delivery h.world number ≡ Ok next
    → after_deliveries (number ∷ left) h ≡ after_deliveries left (after_lines h.lines next)
next-of number left h next e = rw (e, after_deliveries) refl

next-before : (number : ℕ) (left : List ℕ) (h next : Happened) → after_delivery h.world number ≡ Ok next
    → deliveries_before (number ∷ left) h ≡ deliveries_before left (after_lines h.lines next)
next-before number left h next e = rw (e, deliveries_before) refl

pub refused-of : (number : ℕ) (left : List ℕ) (h : Happened) (fault : EventFault) → after_delivery h.world number ≡ Err fault
    → after_deliveries (number ∷ left) h ≡ Err fault
refused-of number left h fault e = rw (e, after_deliveries) refl

refused-before : (number : ℕ) (left : List ℕ) (h : Happened) (fault : EventFault) → after_delivery h.world number ≡ Err fault
    → deliveries_before (number ∷ left) h ≡ h
refused-before number left h fault e = rw (e, deliveries_before) refl

-- ---- the line

pub delivering-begins : (w : World) (whole : List ℕ) → IsDelivering w whole whole (unmoved w)
delivering-begins w whole = record { answer = refl; rest = refl }

pub delivering-goes_on : (w : World) (whole left rest : List ℕ) (number : ℕ) (reached next : Happened) → left ≡ number ∷ rest
    → IsDelivering w whole left reached → after_delivery reached.world number ≡ Ok next
    → IsDelivering w whole rest (after_lines reached.lines next)
delivering-goes_on w whole left rest number reached next first so_far is = record {
  answer = so_far.answer ∙ ap (λ (numbers : List ℕ). after_deliveries numbers reached) first ∙ next-of number rest reached next is;
  rest = so_far.rest ∙ ap (λ (numbers : List ℕ). deliveries_before numbers reached) first ∙ next-before number rest reached next is;
}

pub delivering-ends : (w : World) (whole left : List ℕ) (reached : Happened) → left ≡ [] → IsDelivering w whole left reached
    → (after_event w (Event.Deliver whole) ≡ Ok reached) × (deliveries_before whole (unmoved w) ≡ reached)
delivering-ends w whole left reached none so_far = (
  so_far.answer ∙ ap (λ (numbers : List ℕ). after_deliveries numbers reached) none,
  so_far.rest ∙ ap (λ (numbers : List ℕ). deliveries_before numbers reached) none,
)

pub delivering-refused : (w : World) (whole left rest : List ℕ) (number : ℕ) (reached : Happened) (fault : EventFault) → left ≡ number ∷ rest
    → IsDelivering w whole left reached → after_delivery reached.world number ≡ Err fault
    → (after_event w (Event.Deliver whole) ≡ Err fault) × (deliveries_before whole (unmoved w) ≡ reached)
delivering-refused w whole left rest number reached fault first so_far is = (
  so_far.answer ∙ ap (λ (numbers : List ℕ). after_deliveries numbers reached) first ∙ refused-of number rest reached fault is,
  so_far.rest ∙ ap (λ (numbers : List ℕ). deliveries_before numbers reached) first ∙ refused-before number rest reached fault is,
)
