-- What is known of an input where its source tells it.
use Rattle.std.proofs.Common.{IfSome, None, Option, Some}

pub if_some_weaker : {A : Type 0} (o : Option A) (P Q : A → Type 0) → ((x : A) → P x → Q x) → IfSome o P → IfSome o Q
if_some_weaker None P Q f h = tt
if_some_weaker (Some x) P Q f h = f x h
