-- The sizes of quorums with the parts of an acceptor's room and the schema, and how many centres pass a test.
use Rattle.std.specs.List.{range_with_len}
use Rattle.std.specs.Prelude.{ℕ, ◌+◌, ◌*◌, ◌<◌, ◌≤◌, Bool, cond, List, [], ◌∷◌}
use Rattle.mdcc_option.specs.declared.schema.Schema.{Schema}

pub record Setup : Type 0 where
  pub centres : ℕ
  pub classic : ℕ
  pub fast : ℕ
  pub parts : ℕ
  pub schema : Schema

pub record IsSetup (s : Setup) : Type 0 where
  pub classic_within : s.classic ≤ s.fast
  pub fast_within : s.fast ≤ s.centres
  pub two_classic : s.centres < 2 * s.classic
  pub two_fast : 2 * s.centres < 2 * s.fast + s.classic
  pub classic_parts : s.classic ≤ s.parts
  pub parts_within : s.parts ≤ s.centres

-- the centres
abbrev pub centres_to : ℕ → List ℕ
centres_to n = range_with_len 1 n

-- how many pass
abbrev pub count : {A : Type 0} → (A → Bool) → List A → ℕ
count p [] = 0
count p (x ∷ xs) = cond (p x) 1 0 + count p xs
