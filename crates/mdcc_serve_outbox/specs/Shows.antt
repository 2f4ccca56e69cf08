-- What the acts of a server leave at the link.
use Rattle.std.specs.Option.{option_map}
use Rattle.std.specs.Prelude.{Err, List, None, Ok, Option, Some, [], flat_map, length, min, ℕ, ◌-◌, ◌++◌, ◌^◌, ◌∷◌, ◌≡◌, ◌⊎◌}
use Rattle.mdcc_base.specs.Counts.{sum_over}
use Rattle.mdcc_link.specs.Link.{LinkCall}
use Rattle.mdcc_link.specs.declared.link.Received.TheVariants.{Got, Nothing}
use Rattle.mdcc_def_server_runs.specs.Acts.{Act}

-- a datagram is received into so many bytes: one more than it may have
abbrev pub receive_size : ℕ
receive_size = 1401

-- the call that an act is
abbrev pub call_of : Act → List LinkCall
call_of (Act.Bind at address) = LinkCall.Bind at address (Ok tt) ∷ []
call_of (Act.Receive at (Some bytes)) = LinkCall.Receive at receive_size (Ok (Got (length bytes))) bytes ∷ []
call_of (Act.Receive at None) = LinkCall.Receive at receive_size (Ok Nothing) [] ∷ []
call_of (Act.Send from to bytes answer) = LinkCall.Send from to bytes answer ∷ []
call_of _ = []

abbrev pub calls_of : List Act → List LinkCall
calls_of acts = flat_map call_of acts

-- the call that it is where it fails
abbrev pub failed_call : Act → List LinkCall
failed_call (Act.Bind at address) = LinkCall.Bind at address (Err (record {})) ∷ []
failed_call (Act.Receive at gave) = LinkCall.Receive at receive_size (Err (record {})) [] ∷ []
failed_call _ = []

-- a link that records its calls has these behind those before, unless it stopped to record them at one that failed
abbrev pub Records : List LinkCall → Option (List LinkCall) → Option (List LinkCall) → Type 0
Records calls old new = (new ≡ None) ⊎ (new ≡ option_map (λ before. before ++ calls) old)

-- how many sends failed
abbrev pub sends_failed_by : Act → ℕ
sends_failed_by (Act.Send from to bytes (Err _)) = 1
sends_failed_by _ = 0

abbrev pub failed_in : List Act → ℕ
failed_in acts = sum_over sends_failed_by acts

-- a count stands still at its end
abbrev pub count_limited : ℕ → ℕ
count_limited n = min n (2 ^ 64 - 1)
