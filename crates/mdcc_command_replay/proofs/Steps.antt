-- Steps that may be refused, one after another.
use Rattle.std.proofs.Common.{ℕ, ◌+◌, nat_le, List, length, Bool, true, false, cond, Result, Ok, Err, IfOk}
use Rattle.mdcc_def_language.specs.Lines.{bounded, most_line_bytes, of_long}
use Rattle.mdcc_def_language.specs.Words.{◌>>=◌, refused}
use Rattle.mdcc_def_language.specs.declared.schedule.SchedFault.{SchedFault}
use Rattle.mdcc_def_language.specs.declared.schedule.SchedCause.TheVariants.{Range}

pub bind_ok : {A B E : Type 0} (P : A → Type 0) (Q : B → Type 0) (r : Result A E) (f : A → Result B E) → IfOk r P → ((a : A) → P a → IfOk (f a) Q) → IfOk (r >>= f) Q
bind_ok P Q (Ok a) f p next = next a p
bind_ok P Q (Err e) f p next = tt

-- whatever the first gives
pub bind_each : {A B E : Type 0} (Q : B → Type 0) (r : Result A E) (f : A → Result B E) → ((a : A) → IfOk (f a) Q) → IfOk (r >>= f) Q
bind_each Q (Ok a) f next = next a
bind_each Q (Err e) f next = tt

pub if_ok : {A E : Type 0} (P : A → Type 0) (test : Bool) (x y : Result A E) → IfOk x P → IfOk y P → IfOk (cond test x y) P
if_ok P true x y p q = p
if_ok P false x y p q = q

-- what is known of a line that is read is known where it isn't too long
pub bounded_ok : {A : Type 0} (P : A → Type 0) (text : List ℕ) (r : Result A SchedFault) → IfOk r P → IfOk (bounded text r) P
bounded_ok P text r p = if_ok P (nat_le (length text) most_line_bytes) r (of_long r) p (long r)
  where
    long : (r : Result _ SchedFault) → IfOk (of_long r) P
    long (Ok x) = tt
    long (Err fault) = if_ok P (nat_le fault.column most_line_bytes) (Err fault) (refused (most_line_bytes + 1) Range) tt tt
