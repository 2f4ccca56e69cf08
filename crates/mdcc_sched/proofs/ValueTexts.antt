-- Lists of values, and bodies, as texts.
use Rattle.std.proofs.Common.{ℕ, ℤ, ◌<◌, List, [], ◌∷◌, ◌++◌, length, map, flat_map, ◌≡◌, refl, sym, ap, arith, append-nil}
use Rattle.std.specs.Fmt.{signed_decimal}
use Rattle.std.specs.List.{join_with_byte}
use Rattle.mdcc_def_language.specs.Report.{values_text, body_text, byte_text}
use Rattle.mdcc_sched.specs.Texts.{more_values_text}

joined : (text : List ℕ) (values : List ℤ) → join_with_byte 44 (text ∷ map signed_decimal values) ≡ text ++ more_values_text values
joined text [] = sym (append-nil text)
joined text (value ∷ values) = ap (λ rest. text ++ 44 ∷ rest) (joined (signed_decimal value) values)

pub values_first : (value : ℤ) (values : List ℤ) → values_text (value ∷ values) ≡ signed_decimal value ++ more_values_text values
values_first value values = joined (signed_decimal value) values

pub body_bytes : (body : List ℕ) → 0 < length body → body_text body ≡ flat_map byte_text body
body_bytes [] h = absurd (omega (arith, h))
body_bytes (b ∷ bs) h = refl
