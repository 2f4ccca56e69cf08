-- What an append does to the end of an area.
use Rattle.std.specs.Prelude.{◌≡◌, ◌⊎◌, ◌-◌, ℕ, List, [], ◌∷◌, ◌++◌, length}
use Rattle.std.specs.List.{flat_map}
use Rattle.mdcc_disks.specs.Disks.{DiskCall, Only}
use Rattle.mdcc_disks.specs.Disks.DiskCall.{Write, Sync}
use Rattle.mdcc_log_file.specs.Log.{frame_body, frame_bytes}

-- Behind this front stands a closed gate and nothing else, all of it durable.
pub record IsAtEnd (front : List ℕ) (size : ℕ) (bytes : List ℕ) (may_leave : List ℕ → Type 0) : Type 0 where
  pub file : bytes ≡ front ++ 0 ∷ []
  pub counted : size ≡ length bytes
  pub durable : Only bytes may_leave

-- what stands behind the first gate of the frames of these payloads, of which the other gates are open
abbrev pub group_body : List (List ℕ) → List ℕ
group_body [] = []
group_body (payload ∷ more) = frame_body payload ++ flat_map frame_bytes more

-- what a crash may leave while these bytes are written behind this front with an open gate: a closed gate with anything behind it, or
-- the bytes with a gate that may hold anything
abbrev pub MayStandBehind : List ℕ → List ℕ → List ℕ → Type 0
MayStandBehind front inner c = ((rest : List ℕ) × (c ≡ front ++ 0 ∷ rest)) ⊎ ((gate : ℕ) × (c ≡ front ++ gate ∷ (inner ++ 0 ∷ [])))

-- so it is while a payload is appended
abbrev pub MayAppend : List ℕ → List ℕ → List ℕ → Type 0
MayAppend front payload = MayStandBehind front (frame_body payload)

-- the calls of it: the bytes behind the closed gate, with a closed gate behind them; and then the gate is opened
abbrev pub behind_calls : ℕ → List ℕ → List DiskCall
behind_calls size bytes = Write size bytes ∷ Sync ∷ Write (size - 1) (1 ∷ []) ∷ Sync ∷ []
