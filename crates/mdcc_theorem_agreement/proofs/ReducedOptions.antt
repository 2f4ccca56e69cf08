-- Instances, and marks in lists where the first of a transaction counts.
use Rattle.std.specs.Prelude.{◌≡◌, ◌⊎◌, ℕ, ◌==◌, Bool, true, false, cond, ◌&&◌, List, [], ◌∷◌, Option, Some, None}
use Rattle.mdcc_base.specs.Key.{key_eq}
use Rattle.mdcc_base.specs.TxId.{tx_eq}
use Rattle.mdcc_base.specs.declared.identifiers.TxId.{TxId}
use Rattle.mdcc_base.specs.declared.key.Key.{Key}
use Rattle.mdcc_option.specs.declared.choices.Choice.{Choice}
use Rattle.mdcc_option.specs.declared.choices.Mark.{Mark}
use Rattle.mdcc_option.specs.declared.items.Update.{Update}
use Rattle.mdcc_option.specs.declared.items.Update.TheVariants.{Write, Add}
use Rattle.mdcc_struct.specs.Options.{is_mark}

-- an instance
pub record Place : Type 0 where
  pub key : Key
  pub version : ℕ

abbrev pub place_eq : Place → Place → Bool
place_eq i j = key_eq i.key j.key && (i.version == j.version)

abbrev pub spot : Choice → Place
spot c = record { key = c.key; version = c.version }

-- the mark of a transaction in a structure; the first that stands there counts
abbrev pub mark_of : TxId → List (TxId × Mark) → Option Mark
mark_of t [] = None
mark_of t (p ∷ ps) = cond (tx_eq t p.0) (Some p.1) (mark_of t ps)

-- a structure gives a transaction this mark
abbrev pub gives : List (TxId × Mark) → TxId → Mark → Bool
gives ps t x = is_mark x (mark_of t ps)

abbrev pub Extends : List (TxId × Mark) → List (TxId × Mark) → Type 0
Extends more less = (t : TxId) (x : Mark) → mark_of t less ≡ Some x → mark_of t more ≡ Some x

abbrev pub In : {A : Type 0} → A → List A → Type 0
In x [] = ⊥
In x (y ∷ ys) = (y ≡ x) ⊎ In x ys

abbrev pub is_add : Update → Bool
is_add (Write b s) = false
is_add (Add m) = true

-- two choices of one instance that may both be accepted
abbrev pub agree : TxId → Update → TxId → Update → Type 0
agree t (Write b s) u (Write b' s') = ⊥
agree t (Write b s) u (Add m) = In u s
agree t (Add m) u (Write b s) = In t s
agree t (Add m) u (Add m') = Unit {0}

abbrev pub Agrees : Choice → Choice → Type 0
Agrees c d = agree c.tx c.update d.tx d.update

-- what a live choice asks of a new one
abbrev pub allows : Update → TxId → Update → Type 0
allows (Write b s) u x = In u s
allows (Add m) u (Write b s) = ⊥
allows (Add m) u (Add m') = Unit {0}

-- what an executed delta asks of a new one
abbrev pub allows_delta : Update → TxId → Type 0
allows_delta (Write b s) u = In u s
allows_delta (Add m) u = Unit {0}

-- no transaction stands twice
abbrev pub Distinct : List (TxId × Mark) → Type 0
Distinct [] = Unit {0}
Distinct (p ∷ ps) = (mark_of p.0 ps ≡ None) × Distinct ps

-- choices of different transactions
abbrev pub Apart : List Choice → Type 0
Apart [] = Unit {0}
Apart (c ∷ cs) = ((d : Choice) → In d cs → d.tx ≡ c.tx → ⊥) × Apart cs
