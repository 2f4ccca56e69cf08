-- The laws of parts, from what stands at a place.
use Rattle.std.proofs.Common.{◌≡◌, ℕ, ◌+◌, List, ◌++◌, length, drop, Result, Ok, None, refl, sym, ap, ◌∙◌, append_assoc}
use Rattle.std.proofs.lemmas.List.{drop_at, drop-drop}
use Rattle.mdcc_option.specs.declared.items.Delta.{Delta}
use Rattle.mdcc_def_messages.specs.declared.wire.WireFault.{WireFault}
use Rattle.mdcc_def_messages.specs.SpelledParts.{delta_bytes}
use Rattle.mdcc_def_messages.specs.ReadingParts.{delta_at}
use Rattle.mdcc_def_messages.specs.WellFormedParts.{IsWellFormedDelta}
use Rattle.mdcc_theorem_encoding.specs.PartLaws.{AreReadBack, HaveOneSpelling}
use Rattle.mdcc_theorem_encoding.proofs.Places.{IsAt, IsBytes}
use Rattle.mdcc_theorem_encoding.proofs.Numbers.{IsFound}
use Rattle.mdcc_theorem_encoding.proofs.Items.{delta_again, delta_takes}
use Rattle.mdcc_theorem_encoding.proofs.Whole.{are_bytes}

-- a text stands behind its front
between : (front text rest : List ℕ) → IsAt (front ++ text ++ rest) (length front) text
between front text rest =
    let all = front ++ text ++ rest in
    let grouped : all ≡ front ++ (text ++ rest) = append_assoc front text rest in
    let here : drop (length front) all ≡ text ++ rest = ap (drop (length front)) grouped ∙ drop_at front (text ++ rest) (length front) refl in
    let behind : drop (length front + length text) all ≡ rest =
    sym (drop-drop (length text) (length front) all) ∙ ap (drop (length text)) here ∙ drop_at text rest (length text) refl in
    record { is = here ∙ ap (λ ys. text ++ ys) (sym behind) }

pub again_anywhere : {X : Type 0} {Fits : X → Type 0} {spelled : X → List ℕ} {read : List ℕ → ℕ → Result (X × ℕ) WireFault}
    → ((bytes : List ℕ) (at : ℕ) (x : X) → Fits x → IsAt bytes at (spelled x) → read bytes at ≡ Ok (x, at + length (spelled x)))
    → AreReadBack Fits spelled read
again_anywhere {spelled = spelled} again front rest x w = again (front ++ spelled x ++ rest) (length front) x w (between front (spelled x) rest)

pub takes_anywhere : {X : Type 0} {Fits : X → Type 0} {spelled : X → List ℕ} {read : List ℕ → ℕ → Result (X × ℕ) WireFault}
    → ((bytes : List ℕ) (at : ℕ) (x : X × ℕ) → IsBytes bytes → read bytes at ≡ Ok x → IsFound bytes spelled Fits at x)
    → HaveOneSpelling Fits spelled read
takes_anywhere {spelled = spelled} takes bytes at x after h e =
    let found = takes bytes at (x, after) (are_bytes bytes h) e in (
      found.fits,
      record { stands = found.reads.is_at.is ∙ ap (λ n. spelled x ++ drop n bytes) (sym found.reads.behind); behind = found.reads.behind },
    )

pub delta_again_alone : (bytes : List ℕ) (at : ℕ) (delta : Delta) → IsWellFormedDelta delta → IsAt bytes at (delta_bytes delta)
    → delta_at bytes at ≡ Ok (delta, at + length (delta_bytes delta))
delta_again_alone bytes at delta w h = delta_again at bytes None at delta w refl h

pub delta_takes_alone : (bytes : List ℕ) (at : ℕ) (x : Delta × ℕ) → IsBytes bytes → delta_at bytes at ≡ Ok x → IsFound bytes delta_bytes IsWellFormedDelta at x
delta_takes_alone bytes at x h e = let t = delta_takes at bytes h None at x e in record { reads = t.0; fits = t.1 }
