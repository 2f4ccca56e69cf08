-- Bytes that a call which failed kept, before a call that is made again.
use Rattle.std.proofs.Common.{◌≡◌, ◌∙◌, List, None, Option, Some, Result, Ok, Err, refl, subst, ℕ}
use Rattle.std.specs.Io.KnownBytes.{Keeps, ReadConsumes, WriteAppends}

pub kept : (bytes : Option (List ℕ)) → Keeps bytes bytes
kept None = tt
kept (Some xs) = refl

pub kept_again : (old now new : Option (List ℕ)) → Keeps old now → Keeps now new → Keeps old new
kept_again None now new first second = tt
kept_again (Some xs) None new first second = absurd first
kept_again (Some xs) (Some ys) None first second = absurd second
kept_again (Some xs) (Some ys) (Some zs) first second = second ∙ first

pub kept_read : {E : Type 0} (old now new : Option (List ℕ)) (result : Result ℕ E) (buf : List ℕ) → Keeps old now → ReadConsumes now new result buf → ReadConsumes old new result buf
kept_read None now new (Ok n) buf first consumed = (tt, consumed.1)
kept_read None now new (Err e) buf first consumed = tt
kept_read (Some xs) None new result buf first consumed = absurd first
kept_read (Some xs) (Some ys) new result buf first consumed = subst (λ o. ReadConsumes (Some o) new result buf) first consumed

pub kept_write : {E : Type 0} (old now new : Option (List ℕ)) (result : Result ℕ E) (buf : List ℕ) → Keeps old now → WriteAppends now new result buf → WriteAppends old new result buf
kept_write None now new (Ok n) buf first written = tt
kept_write None now new (Err e) buf first written = tt
kept_write (Some xs) None new result buf first written = absurd first
kept_write (Some xs) (Some ys) new result buf first written = subst (λ o. WriteAppends (Some o) new result buf) first written
