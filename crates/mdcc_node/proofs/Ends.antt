-- Whether a vote decides.
use Rattle.std.proofs.Common.{◌≡◌, None, Option, Some, false, refl, true}
use Rattle.std.specs.Prelude.{is_some}

pub none-is-no-end : {X : Type 0} (x : Option X) → None ≡ x → is_some x ≡ true → ⊥
none-is-no-end None e f = cc
none-is-no-end (Some x) e f = cc

pub no-end-is-none : {X : Type 0} (x : Option X) → false ≡ is_some x → x ≡ None
no-end-is-none None e = refl
no-end-is-none (Some x) e = absurd (cc)
