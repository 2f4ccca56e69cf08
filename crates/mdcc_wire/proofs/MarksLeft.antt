-- Marks that are read one by one.
use Rattle.std.proofs.Common.{◌≡◌, ℕ, zero, suc, ◌-◌, ◌<◌, List, [], ◌∷◌, Result, Ok, Err, Option, Some, None, refl, ap, ◌∙◌, arith}
use Rattle.mdcc_base.specs.declared.identifiers.TxId.{TxId}
use Rattle.mdcc_option.specs.declared.choices.Mark.{Mark}
use Rattle.mdcc_struct.specs.Options.{Marks}
use Rattle.mdcc_def_messages.specs.declared.wire.WireFault.{WireFault}
use Rattle.mdcc_def_messages.specs.ReadingSteps.{◌>>=◌, u32_at, elements_at}
use Rattle.mdcc_def_messages.specs.ReadingParts.{entry_behind, options_at}
use Rattle.mdcc_wire.specs.Marks.{marks_from, options_marks}

abbrev done : {X : Type 0} → X → Result X WireFault
done x = Ok x

ok_is : {X : Type 0} (x y : X) → done x ≡ done y → x ≡ y
ok_is x y e = cc

bind_ok : {A B : Type 0} (r : Result A WireFault) (f : A → Result B WireFault) (y : B) → (r >>= f) ≡ Ok y → (x : A) × (r ≡ Ok x) × (f x ≡ Ok y)
bind_ok (Ok x) f y e = (x, refl, e)
bind_ok (Err fault) f y e = absurd cc

module _ (read : Option TxId → ℕ → Result ((TxId × Mark) × ℕ) WireFault) where
  -- where all are read they are the marks
  marks_all : (count : ℕ) (last : Option TxId) (at : ℕ) (xs : Marks × ℕ) → elements_at read (λ e. e.0) count last at ≡ Ok xs → marks_from read count last at ≡ xs.0
  marks_all zero last at xs e = ap (λ (y : Marks × ℕ). y.0) (ok_is ([], at) xs e)
  marks_all (suc count) last at xs e =
      let a = bind_ok (read last at) (λ first. elements_at read (λ e. e.0) count (Some first.0.0) first.1 >>= λ others. done (first.0 ∷ others.0, others.1)) xs e in
      let b = bind_ok (elements_at read (λ e. e.0) count (Some a.0.0.0) a.0.1) (λ others. done (a.0.0 ∷ others.0, others.1)) xs a.2 in
      let rest = marks_all count (Some a.0.0.0) a.0.1 b.0 b.1 in
      rw a.1 (ap (λ ms. a.0.0 ∷ ms) rest ∙ ap (λ (y : Marks × ℕ). y.0) (ok_is (a.0.0 ∷ b.0.0, b.0.1) xs b.2))

  -- none are left
  pub none_left : (count : ℕ) (last : Option TxId) (at : ℕ) → count ≡ 0 → marks_from read count last at ≡ []
  none_left count last at e = rw e refl

  some_left : (count : ℕ) → 0 < count → count ≡ suc (count - 1)
  some_left count some = omega (arith, some)

  -- the next one, and what is left then
  pub next_left : (count : ℕ) (last : Option TxId) (at : ℕ) (e : TxId × Mark) (after : ℕ) → 0 < count → Ok (e, after) ≡ read last at
      → marks_from read count last at ≡ e ∷ marks_from read (count - 1) (Some e.0) after
  next_left count last at e after some is = ap (λ k. marks_from read k last at) (some_left count some) ∙ rw (← is) refl

  -- a fault ends them
  pub fault_ends : (count : ℕ) (last : Option TxId) (at : ℕ) (fault : WireFault) → 0 < count → Err fault ≡ read last at → marks_from read count last at ≡ []
  fault_ends count last at fault some is = ap (λ k. marks_from read k last at) (some_left count some) ∙ rw (← is) refl

-- the marks of a structure that is read
pub options_all : (bytes : List ℕ) (at : ℕ) (key : List ℕ) (version : ℕ) (xs : Marks × ℕ) → options_at bytes at key version ≡ Ok xs
    → options_marks bytes at key version ≡ xs.0
options_all bytes at key version xs e =
    let a = bind_ok (u32_at bytes at) (λ count. elements_at (entry_behind at key version bytes) (λ e. e.0) count.0 None count.1) xs e in
    rw a.1 (marks_all (entry_behind at key version bytes) a.0.0 None a.0.1 xs a.2)
