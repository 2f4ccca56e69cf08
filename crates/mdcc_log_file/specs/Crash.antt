-- What a crash leaves while the end of a log is settled.
use Rattle.std.specs.Prelude.{◌≡◌, ◌≢◌, ◌⊎◌, ℕ, ◌+◌, ◌≤◌, ◌<◌, List, ◌∷◌, ◌++◌, length, take, drop, slice_index}
use Rattle.std.specs.List.{AllByRecursion}
use Rattle.mdcc_log_file.specs.Log.{payload_limit}

-- each payload is one that a frame may have
abbrev pub AreShort : List (List ℕ) → Type 0
AreShort payloads = AllByRecursion (λ payload. length payload ≤ payload_limit) payloads

-- the bytes with another last gate, where it was not closed: it is closed, or torn
pub record IsGateChanged (tears : ℕ → Type 0) (gate : ℕ) (bytes c : List ℕ) : Type 0 where
  pub was : slice_index bytes gate ≢ 0
  pub becomes : ℕ
  pub from : (becomes ≡ slice_index bytes gate) ⊎ ((becomes ≡ 0) ⊎ tears becomes)
  pub is : c ≡ take gate bytes ++ becomes ∷ drop (gate + 1) bytes

-- the bytes with a closed last gate and something behind it, where something was
pub record IsEndChanged (gate : ℕ) (bytes c : List ℕ) : Type 0 where
  pub longer : gate + 1 < length bytes
  pub rest : List ℕ
  pub is : c ≡ take gate bytes ++ 0 ∷ rest

-- what a crash may leave while the last gate is closed and the end is cut off
abbrev pub MayRepair : (ℕ → Type 0) → ℕ → List ℕ → List ℕ → Type 0
MayRepair tears gate bytes c = (c ≡ bytes) ⊎ (IsGateChanged tears gate bytes c ⊎ IsEndChanged gate bytes c)
