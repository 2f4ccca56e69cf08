-- How an area gate stands around a copy.
use Rattle.std.proofs.Common.{◌≡◌, inl, inr, ℕ, ◌≤◌, ◌==◌, Bool, cond, true, false, List, [], ◌∷◌, ◌++◌, length, get_or, take, drop, sym, ◌∙◌, ap, refl, arith, append_assoc, length-append}
use Rattle.std.proofs.Math.Seq.{get_or-append_seam}
use Rattle.std.specs.Cmp.Lexicographic.{same_text}
use Rattle.std.proofs.lemmas.Bool.{cases_lt, false≢true}
use Rattle.std.proofs.lemmas.List.{take_at, length-take-le}
use Rattle.mdcc_disks.specs.Disks.{DiskCall}
use Rattle.mdcc_disks.specs.Disks.DiskCall.{Write, Cut, Sync}
use Rattle.mdcc_log_file.specs.declared.area.Spare.{Spare}
use Rattle.mdcc_log_file.specs.declared.area.Spare.TheVariants as spares
use Rattle.mdcc_log_file.specs.Area.{area_mark, area_gate, is_second, spare_of, with_gate}
use Rattle.mdcc_log_file.specs.Copying.{IsShutAs, needs_mark, shut_bytes, shut_calls, mark_calls}
use Rattle.mdcc_log.specs.Checkpoint.{MayBegin, MayOpen, MayCopy, copy_of}
use Rattle.mdcc_log.specs.Frames.{body_calls, checkpoint_calls, laid_calls}
use Rattle.mdcc_log.proofs.AreaRead.{longer_test, short_test}

-- ---- the area gate around a copy

pub gate_shut : (bytes : List ℕ) → 8 ≤ length bytes → area_gate (with_gate 0 bytes) ≡ 0
gate_shut bytes long = ap (λ (n : ℕ). get_or (with_gate 0 bytes) n 0) (sym (length-take-le 8 bytes long)) ∙ get_or-append_seam (take 8 bytes) 0 (drop 9 bytes) 0

pub shut_as : (spare : Spare) (old new : List ℕ) → spare ≡ spare_of old → new ≡ shut_bytes old → IsShutAs spare new
shut_as spare old new spare_is is = elim (cases_lt 9 (length old)) [
  | inl long ↦
      let at : new ≡ with_gate 0 old = is ∙ ap (λ (b : Bool). cond b (with_gate 0 old) (area_mark ++ 0 ∷ [])) (longer_test old long) in
      let kind : spare ≡ spares.Long (area_gate old == 0) (is_second old) = spare_is ∙ ap (λ (b : Bool). cond b (spares.Long (area_gate old == 0) (is_second old)) spares.Short) (longer_test old long) in
      record {
        long = omega (arith, ap (λ (l : List ℕ). length l) at, length-append (take 8 old) (0 ∷ drop 9 old), length-take-le 8 old (omega arith));
        gate = ap area_gate at ∙ gate_shut old (omega arith);
        marked = λ unneeded. ap (λ (l : List ℕ). take 8 l) at ∙ take_at (take 8 old) (0 ∷ drop 9 old) 8 (length-take-le 8 old (omega arith)) ∙ same_text (take 8 old) area_mark (sym (mark_known (is_second old) (sym (ap needs_mark kind) ∙ unneeded)));
      }
  | inr short ↦
      let at : new ≡ area_mark ++ 0 ∷ [] = is ∙ ap (λ (b : Bool). cond b (with_gate 0 old) (area_mark ++ 0 ∷ [])) (short_test old short) in
      record { long = omega (arith, ap (λ (l : List ℕ). length l) at); gate = ap area_gate at; marked = λ unneeded. ap (λ (l : List ℕ). take 8 l) at }
]
  where
    mark_known : (b : Bool) → cond b false true ≡ false → b ≡ true
    mark_known true is' = refl
    mark_known false is' = absurd (false≢true (sym is'))

-- the calls of a checkpoint are those of its copy and then three
pub calls_laid : (spare : Spare) (generation : ℕ) (ps : List (List ℕ)) → laid_calls spare generation ps ++ (Sync ∷ Write 8 (1 ∷ []) ∷ Sync ∷ []) ≡ checkpoint_calls spare generation ps
calls_laid spare generation ps =
    append_assoc (shut_calls spare) (Sync ∷ Cut 9 ∷ (mark_calls spare ++ body_calls generation ps)) (Sync ∷ Write 8 (1 ∷ []) ∷ Sync ∷ [])
    ∙ ap (λ (l : List DiskCall). shut_calls spare ++ Sync ∷ Cut 9 ∷ l) (append_assoc (mark_calls spare) (body_calls generation ps) (Sync ∷ Write 8 (1 ∷ []) ∷ Sync ∷ []))

pub calls_are : (spare : Spare) (generation : ℕ) (ps : List (List ℕ)) → (shut_calls spare ++ Sync ∷ []) ++ ((Cut 9 ∷ mark_calls spare) ++ body_calls generation ps) ≡ laid_calls spare generation ps
calls_are spare generation ps = append_assoc (shut_calls spare) (Sync ∷ []) ((Cut 9 ∷ mark_calls spare) ++ body_calls generation ps)

-- what opening the area gate may leave is a copy with some area gate
pub opened_copy : (old bytes c : List ℕ) (generation : ℕ) (ps : List (List ℕ)) → bytes ≡ copy_of 0 generation ps → MayOpen bytes c → MayCopy old generation ps c
opened_copy old bytes c generation ps is (inl shut) = inr (inl shut)
opened_copy old bytes c generation ps is (inr opened) = inr (inr (opened.0, opened.1 ∙ ap (λ (l : List ℕ). with_gate opened.0 l) is))

-- and so is what is left before it is opened
pub begun_copy : (bytes : List ℕ) (generation : ℕ) (ps : List (List ℕ)) (c : List ℕ) → MayBegin bytes c → MayCopy bytes generation ps c
begun_copy bytes generation ps c (inl shutting) = inl shutting
begun_copy bytes generation ps c (inr shut) = inr (inl shut)
