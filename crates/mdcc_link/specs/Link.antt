-- What the calls of a link do.
use Rattle.std.specs.Prelude.{◌≡◌, ◌⊎◌, ℕ, ◌≤◌, List, [], ◌∷◌, ◌++◌, take, Option, None, Result, Ok, Err, OnOk, OnErr}
use Rattle.std.specs.Option.{option_map}
use Rattle.mdcc_base.specs.declared.faults.Failed.{Failed}
use Rattle.mdcc_base.specs.declared.outside.Address.{Address}
use Rattle.mdcc_link.specs.declared.link.Received.{Received}
use Rattle.mdcc_link.specs.declared.link.Received.TheVariants.{Got, Nothing}

-- a call with its arguments and its answer; a receive has the length of its buffer, and the bytes that came
pub data LinkCall : Type 0 where
  Bind : (at : ℕ) (address : Address) (result : Result (Unit {0}) Failed) → LinkCall
  Send : (from : ℕ) (to : Address) (bytes : List ℕ) (result : Result (Unit {0}) Failed) → LinkCall
  Receive : (at size : ℕ) (result : Result Received Failed) (bytes : List ℕ) → LinkCall

-- the calls recorded after one more; after a failed one it may be that no calls are recorded from then on
pub record AddsLinkCall {T : Type 0} (call : LinkCall) (old new : Option (List LinkCall)) (result : Result T Failed) : Type 0 where
  pub ok : OnOk result (new ≡ option_map (λ calls. calls ++ call ∷ []) old)
  pub err : OnErr result ((new ≡ None) ⊎ (new ≡ option_map (λ calls. calls ++ call ∷ []) old))

-- what a receive brought, of the buffer after it
abbrev pub brought : Result Received Failed → List ℕ → List ℕ
brought (Ok (Got count)) buffer = take count buffer
brought (Ok Nothing) buffer = []
brought (Err _) buffer = []

-- a receive counts within its buffer
abbrev pub ReceivesAtMost : Result Received Failed → ℕ → Type 0
ReceivesAtMost (Ok (Got count)) size = count ≤ size
ReceivesAtMost (Ok Nothing) size = Unit {0}
ReceivesAtMost (Err _) size = Unit {0}
