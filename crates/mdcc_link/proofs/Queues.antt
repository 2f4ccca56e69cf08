-- The datagrams that wait, and the pieces that they are.
use Rattle.std.proofs.Common.{◌≡◌, inl, inr, ℕ, ◌==◌, List, [], ◌∷◌, ◌++◌, length, map, find, Option, Some, None, sym, ◌∙◌, ap, refl, subst, arith}
use Rattle.std.specs.Option.{option_map}
use Rattle.std.specs.Prelude.{is_some}
use Rattle.std.proofs.lemmas.Grind.{common_steps}
use Rattle.std.proofs.lemmas.Bool.{cases_Bool}
use Rattle.mdcc_link.specs.declared.stored.Piece.{Piece}
use Rattle.mdcc_link.specs.declared.stored.Pending.{Pending}
use Rattle.mdcc_link.specs.Memory.{Waiting, without_first, without_at, first_waiting_at, arrived}
use Rattle.mdcc_link.specs.Stored.{bytes_of, waiting_in, pending_after, ArePiecesWithin, IsPieceWithin}
use Rattle.mdcc_link.proofs.Pieces.{made_push, made_grown, within_push}

pub without_waiting : (at : ℕ) (pool : List ℕ) (queue : List Pending) → without_at at (map (waiting_in pool) queue) ≡ map (waiting_in pool) (without_first (λ p. p.at == at) queue)
without_waiting at pool [] = refl
without_waiting at pool (p ∷ ps) = elim (cases_Bool (p.at == at)) [
  | inl here ↦ grind (arith, common_steps, here)
  | inr elsewhere ↦ grind (arith, common_steps, elsewhere, without_waiting at pool ps)
]

pub first_waiting : (at : ℕ) (pool : List ℕ) (queue : List Pending) → first_waiting_at at (map (waiting_in pool) queue) ≡ option_map (λ p. bytes_of p.piece pool) (find (λ p. p.at == at) queue)
first_waiting at pool [] = refl
first_waiting at pool (p ∷ ps) = elim (cases_Bool (p.at == at)) [
  | inl here ↦ grind (arith, common_steps, here)
  | inr elsewhere ↦ grind (arith, common_steps, elsewhere, first_waiting at pool ps)
]

pub piece_waits : (at : ℕ) (pool : List ℕ) (queue : List Pending) → is_some (option_map (λ p. p.piece) (find (λ p. p.at == at) queue)) ≡ is_some (first_waiting_at at (map (waiting_in pool) queue))
piece_waits at pool queue = whichever (find (λ p. p.at == at) queue) ∙ ap is_some (sym (first_waiting at pool queue))
  where
    whichever : (o : Option Pending) → is_some (option_map (λ p. p.piece) o) ≡ is_some (option_map (λ p. bytes_of p.piece pool) o)
    whichever None = refl
    whichever (Some p) = refl

pub arrived_waiting : (at : Option ℕ) (piece : Piece) (queue later : List Pending) (pool grown more : List ℕ) (bytes : List ℕ) → ArePiecesWithin (λ (p : Pending). p.piece) (length pool) queue
    → grown ≡ pool ++ more → later ≡ pending_after at piece queue → bytes_of piece grown ≡ bytes
    → map (waiting_in grown) later ≡ arrived at bytes (map (waiting_in pool) queue)
arrived_waiting None piece queue later pool grown more bytes within grows is made =
    ap (λ (l : List Pending). map (waiting_in grown) l) is
    ∙ made_grown (λ (p : Pending). p.piece) (λ p b. record { at = p.at; bytes = b }) queue pool grown more within grows
arrived_waiting (Some at) piece queue later pool grown more bytes within grows is made =
    made_push (λ (p : Pending). p.piece) (λ p b. record { at = p.at; bytes = b }) queue later (record { at = at; piece = piece }) pool grown more (record { at = at; bytes = bytes })
    within grows is (ap (λ (b : List ℕ). record { at = at; bytes = b }) made)

pub arrived_within : (at : Option ℕ) (piece : Piece) (queue later : List Pending) (size : ℕ) → ArePiecesWithin (λ (p : Pending). p.piece) size queue → later ≡ pending_after at piece queue → IsPieceWithin size piece
    → ArePiecesWithin (λ (p : Pending). p.piece) size later
arrived_within None piece queue later size within is fits = subst (λ (l : List Pending). ArePiecesWithin (λ (p : Pending). p.piece) size l) (sym is) within
arrived_within (Some at) piece queue later size within is fits =
    subst (λ (l : List Pending). ArePiecesWithin (λ (p : Pending). p.piece) size l) (sym is) (within_push (λ (p : Pending). p.piece) size queue (record { at = at; piece = piece }) within fits)

pub waiting_stay : (queue : List Pending) (pool grown more : List ℕ) (waiting : List Waiting) → ArePiecesWithin (λ (p : Pending). p.piece) (length pool) queue → map (waiting_in pool) queue ≡ waiting → grown ≡ pool ++ more
    → map (waiting_in grown) queue ≡ waiting
waiting_stay queue pool grown more waiting within shown grows = made_grown (λ (p : Pending). p.piece) (λ p b. record { at = p.at; bytes = b }) queue pool grown more within grows ∙ shown
