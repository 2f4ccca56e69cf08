-- Keys in the order in which they were added, and the chains in which they are found.
use Rattle.std.specs.Prelude.{List, [], ◌∷◌, Option, None, Bool, ◌≡◌, ◌==◌, ◌<◌, ◌≤◌, ◌%◌, ℕ, ⊤, refl, get_or, length, reverse}
use Rattle.std.specs.Coded.{Coded, code_by, coded×, coded_list, coded_ℕ}
use Rattle.mdcc_cells_chains.specs.Links.{Links}
use Rattle.mdcc_cells_chains.specs.Walks.{walk, first_in, first_below, older}

-- how many keys there may be, and the keys, the newest first
pub record Keyed (K : Type 0) : Type 0 where
  pub room : ℕ
  pub keys : List K

abbrev pub keyed_code : {K : Type 0} → Coded K → Coded (Keyed K)
keyed_code {K = K} code = code_by (ℕ × List K) (coded× coded_ℕ (coded_list code)) (λ k. (k.room, k.keys)) (λ p. record { room = p.0; keys = p.1 }) (λ _. refl)

-- the chain of a key, out of so many
abbrev pub chain_of : {K : Type 0} → (K → ℕ) → ℕ → K → ℕ
chain_of hash count key = hash key % count

-- whether a key is in the chain of another
abbrev pub shares_chain : {K : Type 0} → (K → ℕ) → ℕ → K → K → Bool
shares_chain hash count key other = chain_of hash count other == chain_of hash count key

-- each index leads to the one before it in its chain
abbrev pub AreLinked : {K : Type 0} → (K → ℕ) → List (Option ℕ) → List K → Type 0
AreLinked chain links [] = ⊤
AreLinked chain links (k ∷ ks) = (get_or links (length ks) None ≡ first_in (walk (λ x. chain x == chain k) ks)) × AreLinked chain links ks

-- each chain begins with its newest index
abbrev pub AreHeads : {K : Type 0} → (K → ℕ) → List (Option ℕ) → List K → Type 0
AreHeads chain heads keys = (i : ℕ) → i < length heads → get_or heads i None ≡ first_in (walk (λ x. chain x == i) keys)

-- the keys, the oldest first, are found by these chains
pub record IsIndexed {K : Type 0} (hash : K → ℕ) (table : Links) (keys : List K) : Type 0 where
  pub some : 0 < length table.heads
  pub long : length table.links ≡ length keys
  pub within : length keys ≤ table.room
  pub heads : AreHeads (chain_of hash (length table.heads)) table.heads (reverse keys)
  pub links : AreLinked (chain_of hash (length table.heads)) table.links (reverse keys)

-- a walk through a chain has come so far that what is wanted below a limit is still before it
pub record IsOnWay {K : Type 0} (in_chain wanted : K → Bool) (limit : ℕ) (keys : List K) (at : Option ℕ) : Type 0 where
  pub left : ℕ
  pub begins : at ≡ first_in (walk in_chain (older left keys))
  pub rest : first_below limit (walk wanted (older left keys)) ≡ first_below limit (walk wanted keys)
