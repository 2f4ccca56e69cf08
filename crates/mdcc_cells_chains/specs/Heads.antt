-- Heads of chains in blocks, of which those are written that have an index.
use Rattle.std.specs.Prelude.{◌≡◌, ◌<◌, ◌≤◌, ◌+◌, ◌*◌, ◌/◌, ◌%◌, ◌^◌, ℕ, zero, suc, List, [], ◌∷◌, Option, None, Some, IfSome, get_or, length}

-- so many values of a function, from an index on
abbrev pub listed_from : (ℕ → Option ℕ) → ℕ → ℕ → List (Option ℕ)
listed_from f at zero = []
listed_from f at (suc n) = f at ∷ listed_from f (at + 1) n

-- the head of a chain by the number of its block, if that was written
abbrev pub chain_head_in : List (Option ℕ) → Option ℕ → ℕ → Option ℕ
chain_head_in heads None chain = None
chain_head_in heads (Some block) chain = get_or heads (block * 64 + chain % 64) None

abbrev pub head_at : (blocks heads : List (Option ℕ)) → ℕ → Option ℕ
head_at blocks heads chain = chain_head_in heads (get_or blocks (chain / 64) None) chain

-- the heads of so many chains
abbrev pub heads_of : (blocks heads : List (Option ℕ)) → ℕ → List (Option ℕ)
heads_of blocks heads count = listed_from (head_at blocks heads) 0 count

-- how many blocks were written
abbrev pub used : List (Option ℕ) → ℕ
used [] = 0
used (None ∷ blocks) = used blocks
used (Some block ∷ blocks) = suc (used blocks)

-- the blocks lie one after the other, each at a place of its own, and there is room for all
pub record AreBlocks (blocks heads : List (Option ℕ)) (capacity : ℕ) : Type 0 where
  pub small : length blocks < 2 ^ 32
  pub long : length heads ≡ used blocks * 64
  pub reserved : length blocks * 64 ≤ capacity
  pub within : (at : ℕ) → IfSome (get_or blocks at None) (λ block. block < used blocks)
  pub apart : (a b block : ℕ) → get_or blocks a None ≡ Some block → get_or blocks b None ≡ Some block → a ≡ b
