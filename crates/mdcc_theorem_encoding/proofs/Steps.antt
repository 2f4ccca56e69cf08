-- Steps of a reading: what follows from an answer, and what makes one.
use Rattle.std.proofs.Common.{◌≡◌, ℕ, Bool, true, false, cond, Result, Ok, Err, Option, Some, None, refl, sym, ap, ◌∙◌}
use Rattle.mdcc_def_messages.specs.declared.wire.WireFault.{WireFault}
use Rattle.mdcc_def_messages.specs.ReadingSteps.{◌>>=◌, checked, unless_fault}

abbrev pub done : {X : Type 0} → X → Result X WireFault
done x = Ok x

pub ok_is : {X : Type 0} (x y : X) → done x ≡ done y → x ≡ y
ok_is x y e = cc

-- the value of a step that did not fail
pub bind_ok : {A B : Type 0} (r : Result A WireFault) (f : A → Result B WireFault) (y : B) → (r >>= f) ≡ Ok y → (x : A) × (r ≡ Ok x) × (f x ≡ Ok y)
bind_ok (Ok x) f y e = (x, refl, e)
bind_ok (Err fault) f y e = absurd cc

-- a test that did not fail
pub guard_ok : {X : Type 0} (b : Bool) (fault : WireFault) (x y : X) → cond b (Err fault) (Ok x) ≡ Ok y → (b ≡ false) × (x ≡ y)
guard_ok true fault x y e = absurd cc
guard_ok false fault x y e = (refl, cc)

-- a check that found nothing
pub none_found : (b : Bool) (fault : WireFault) → cond b None (Some fault) ≡ None → b ≡ true
none_found true fault e = refl
none_found false fault e = absurd cc

-- the value of a check that passed
pub checked_ok : {X : Type 0} (check : X → Option WireFault) (r : Result (X × ℕ) WireFault) (x : X × ℕ) → checked check r ≡ Ok x → (check x.0 ≡ None) × (r ≡ Ok x)
checked_ok {X = X} check (Ok y) x e = passed (check y.0) y x e refl
  where
    passed : (found : Option WireFault) (y x : X × ℕ) → unless_fault found y ≡ Ok x → check y.0 ≡ found → (check x.0 ≡ None) × (done y ≡ done x)
    passed None y x e is = let same = ok_is y x e in (ap (λ z. check z.0) (sym same) ∙ is, e)
    passed (Some fault) y x e is = absurd cc
checked_ok check (Err fault) x e = absurd cc

-- a check that passes leaves what was read
pub checked_again : {X : Type 0} (check : X → Option WireFault) (r : Result (X × ℕ) WireFault) (x : X × ℕ) → r ≡ Ok x → check x.0 ≡ None → checked check r ≡ Ok x
checked_again check r x e passes = rw (e, passes) refl
