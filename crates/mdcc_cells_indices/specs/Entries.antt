-- Facts under the instances that they are of, each with its number, the number of the older facts.
use Rattle.std.specs.Prelude.{Bool, List, [], ◌∷◌, ◌++◌, ◌≡◌, ◌≤◌, ◌<◌, ⊤, ℕ, get_or, if◌then◌else◌, length, map, true}
use Rattle.mdcc_base.specs.declared.key.Key.{Key}
use Rattle.mdcc_option.specs.declared.choices.Outcome.{Outcome}
use Rattle.mdcc_def_messages.specs.declared.facts.Fact.{Fact}
use Rattle.mdcc_cells_chains.specs.Keyed.{Keyed}
use Rattle.mdcc_theorem_fact_folds.specs.Entered.{instance_of, instances_in}

-- how many entries there may be, and the entries, the newest first
pub record Entries : Type 0 where
  pub room : ℕ
  pub entries : List ((Key × ℕ) × ℕ)

-- each key with the number at its index. The keys stand the newest first, and the numbers the oldest first
abbrev pub beside : {K : Type 0} → List K → List ℕ → List (K × ℕ)
beside [] numbers = []
beside (key ∷ keys) numbers = (key, get_or numbers (length keys) 0) ∷ beside keys numbers

-- each instance has a number, and there is room for as many
pub record AreBeside (index : Keyed (Key × ℕ)) (numbers : List ℕ) (capacity : ℕ) : Type 0 where
  pub alike : length numbers ≡ length index.keys
  pub capacity_for : index.room ≤ capacity

-- each number is below a bound
abbrev pub AreBelow : ℕ → List ((Key × ℕ) × ℕ) → Type 0
AreBelow bound [] = ⊤
AreBelow bound (entry ∷ entries) = (entry.1 < bound) × AreBelow bound entries

-- ---- the entries of facts

abbrev pub instance_entries_at : List (Key × ℕ) → ℕ → List ((Key × ℕ) × ℕ)
instance_entries_at instances number = map (λ instance. (instance, number)) instances

-- the instances of a commit's choices
abbrev pub instances_of : Outcome → List (Key × ℕ)
instances_of (Outcome.Commit choices) = map instance_of choices
instances_of Outcome.Abort = []

-- those of a fact
abbrev pub entries_in : Fact → ℕ → List ((Key × ℕ) × ℕ)
entries_in fact number = instance_entries_at (instances_in fact) number

-- those of the facts that pass a test, the newest first, each with its number among all
abbrev pub entries_kept : (Fact → Bool) → List Fact → List ((Key × ℕ) × ℕ)
entries_kept keep [] = []
entries_kept keep (fact ∷ facts) = if keep fact then entries_in fact (length facts) ++ entries_kept keep facts else entries_kept keep facts

abbrev pub is_any : Fact → Bool
is_any fact = true

-- those of all facts
abbrev pub entries_of_facts : List Fact → List ((Key × ℕ) × ℕ)
entries_of_facts facts = entries_kept is_any facts
