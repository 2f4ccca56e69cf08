-- What settling an area leaves.
use Rattle.std.specs.Prelude.{◌≡◌, ◌⊎◌, ℕ, ◌≤◌, ◌<◌, nat_le, true, List, [], ◌∷◌, ◌++◌, length, take, if◌then◌else◌}
use Rattle.mdcc_disks.specs.Disks.{DiskCall}
use Rattle.mdcc_log_file.specs.Log.{log_bytes}
use Rattle.mdcc_log_file.specs.Crash.{MayRepair}
use Rattle.mdcc_log_file.specs.Calls.{begin_calls, close_calls, cut_calls}
use Rattle.mdcc_log_file.specs.Area.{area_gate, is_torn, with_gate}

-- a log is begun, or closed behind its last gate
abbrev pub settled : ℕ → List ℕ → List ℕ
settled gate bytes = if nat_le (length bytes) 9 then log_bytes [] else take gate bytes ++ 0 ∷ []

abbrev pub settle_at : ℕ → List ℕ → List DiskCall
settle_at gate bytes = if nat_le (length bytes) 9 then begin_calls else close_calls gate bytes ++ cut_calls gate bytes

-- what a crash may leave meanwhile
abbrev pub MaySettle : (ℕ → Type 0) → ℕ → List ℕ → List ℕ → Type 0
MaySettle tears gate bytes c = ((length bytes ≤ 9) × (length c ≤ 9)) ⊎ ((9 < length bytes) × MayRepair tears gate bytes c)

-- with its area gate closed, where it is neither closed nor open
abbrev pub with_closed_gate : List ℕ → List ℕ
with_closed_gate bytes = if is_torn bytes then with_gate 0 bytes else bytes

-- what a crash may leave while the area gate is written: it is the old one, a closed one, or torn
pub record IsAreaGateChanged (tears : ℕ → Type 0) (bytes c : List ℕ) : Type 0 where
  pub torn : is_torn bytes ≡ true
  pub becomes : ℕ
  pub from : (becomes ≡ area_gate bytes) ⊎ ((becomes ≡ 0) ⊎ tears becomes)
  pub is : c ≡ with_gate becomes bytes

abbrev pub MayClose : (ℕ → Type 0) → List ℕ → List ℕ → Type 0
MayClose tears bytes c = (c ≡ bytes) ⊎ IsAreaGateChanged tears bytes c
