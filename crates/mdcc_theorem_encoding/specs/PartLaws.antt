-- Laws of the bytes of parts, wherever they stand.
use Rattle.std.specs.Prelude.{◌≡◌, ℕ, ◌+◌, List, ◌++◌, length, drop, Result, Ok}
use Rattle.mdcc_def_messages.specs.declared.wire.WireFault.{WireFault}
use Rattle.mdcc_theorem_encoding.specs.Laws.{AreBytes}

-- what is written of a part that meets its ranges and orders is read back, whatever stands before and behind it
abbrev pub AreReadBack : {X : Type 0} → (X → Type 0) → (X → List ℕ) → (List ℕ → ℕ → Result (X × ℕ) WireFault) → Type 0
AreReadBack {X = X} Fits spelled read =
    (front rest : List ℕ) (x : X) → Fits x → read (front ++ spelled x ++ rest) (length front) ≡ Ok (x, length front + length (spelled x))

-- what was read of a part: its one spelling stands there, and the place behind it was answered
pub record IsSpelledAt {X : Type 0} (spelled : X → List ℕ) (bytes : List ℕ) (at : ℕ) (x : X) (after : ℕ) : Type 0 where
  pub stands : drop at bytes ≡ spelled x ++ drop after bytes
  pub behind : after ≡ at + length (spelled x)

-- only parts that meet their ranges and orders are read, and only from their one spelling
abbrev pub HaveOneSpelling : {X : Type 0} → (X → Type 0) → (X → List ℕ) → (List ℕ → ℕ → Result (X × ℕ) WireFault) → Type 0
HaveOneSpelling {X = X} Fits spelled read =
    (bytes : List ℕ) (at : ℕ) (x : X) (after : ℕ) → AreBytes bytes → read bytes at ≡ Ok (x, after)
    → Fits x × IsSpelledAt spelled bytes at x after
