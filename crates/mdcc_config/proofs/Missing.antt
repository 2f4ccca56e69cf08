-- Members that are missing.
use Rattle.std.proofs.Common.{◌≡◌, Option, Some, None, option_map, is_some, refl}

-- a value that is seen otherwise is there or not as before
pub is_some-map : {A B : Type 0} (f : A → B) (o : Option A) → is_some o ≡ is_some (option_map f o)
is_some-map f None = refl
is_some-map f (Some x) = refl
