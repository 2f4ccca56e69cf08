-- What is held of each key, in a table that has the number of the fact that gave the base.
use Rattle.std.specs.Option.{option_and_then}
use Rattle.std.specs.Prelude.{List, Option, None, Some, [], ℕ, ◌≡◌, ◌<◌, ◌≤◌, ◌==◌, fold, get_or, if◌then◌else◌, length, max, nat_lt}
use Rattle.mdcc_base.specs.Key.{key_eq}
use Rattle.mdcc_base.specs.declared.key.Key.{Key}
use Rattle.mdcc_option.specs.OneCopy.{next_version}
use Rattle.mdcc_option.specs.declared.choices.Choice.{Choice}
use Rattle.mdcc_option.specs.declared.items.Item.{Item}
use Rattle.mdcc_def_protocol.specs.Facts.{base_from, base_of, current_of, version_from, version_given}
use Rattle.mdcc_def_protocol.specs.Marks.{is_write}
use Rattle.mdcc_def_messages.specs.declared.facts.Fact.{Fact}
use Rattle.mdcc_cells_chains.specs.KeyTables.{index_of}
use Rattle.mdcc_cells_chains.specs.Keyed.{Keyed}
use Rattle.mdcc_cells_tables.specs.Numbers.{fact_numbered}
use Rattle.mdcc_cells_tables.specs.declared.held_table.HeldVersion.{HeldVersion}

-- the keys, the newest first, and at its index what is held of each
pub record Versions : Type 0 where
  pub keys : Keyed Key
  pub held : List HeldVersion

-- each key has what is held of it, and there is room for as many
pub record AreHeld (keys : Keyed Key) (held : List HeldVersion) (capacity : ℕ) : Type 0 where
  pub alike : length held ≡ length keys.keys
  pub capacity_for : keys.room ≤ capacity

abbrev pub no_versions : ℕ → Versions
no_versions room = record { keys = record { room = room; keys = [] }; held = [] }

-- ---- what is held of one key

-- version 0, which no fact gave
abbrev pub never_held : HeldVersion
never_held = record { version = 0; number = 0 }

abbrev pub held_at : List HeldVersion → Option ℕ → HeldVersion
held_at held None = never_held
held_at held (Some index) = get_or held index never_held

abbrev pub held_of : Versions → Key → HeldVersion
held_of table key = held_at table.held (index_of table.keys.keys key)

-- with one key set
abbrev pub held_with : Key → HeldVersion → Key → HeldVersion → HeldVersion
held_with key held other before = if key_eq key other then held else before

-- with a version from the fact of a number: only a greater one counts
abbrev pub raised : ℕ → ℕ → HeldVersion → HeldVersion
raised version number held = if nat_lt held.version version then record { version = version; number = number } else held

-- the same of the key of which it is a version
abbrev pub raised_with : Key → ℕ → ℕ → Key → HeldVersion → HeldVersion
raised_with key version number other before = if key_eq key other then raised version number before else before

-- the version that a committed choice gives its key; 0 where it gives none
abbrev pub version_written : Choice → ℕ
version_written choice = if is_write choice.update then next_version choice.version else 0

-- the greatest version of a key that the choices give
abbrev pub version_among : Key → List Choice → ℕ
version_among key choices = fold (λ version choice. max version (version_given key choice)) 0 choices

-- with one more fact, which has this number
abbrev pub next_held : Key → Fact → ℕ → HeldVersion → HeldVersion
next_held key fact number held = raised (version_from key fact) number held

-- ---- what a table says of facts

-- the base of a version, from the fact that gave it
abbrev pub base_by : List Fact → Key → HeldVersion → Option Item
base_by facts key held = if held.version == 0 then None else option_and_then (λ fact. base_from key held.version fact) (fact_numbered facts held.number)

pub record HoldsVersion (held : HeldVersion) (facts : List Fact) (key : Key) : Type 0 where
  pub version : current_of facts key ≡ held.version
  pub base : base_of facts key ≡ base_by facts key held
  pub number : 0 < held.version → held.number < length facts

-- of every key the table has the version that is held, and the number of the fact that gave its base
abbrev pub HoldsVersions : Versions → List Fact → Type 0
HoldsVersions table facts = (key : Key) → HoldsVersion (held_of table key) facts key

-- each fact that gave a base has a number below this one
abbrev pub AreGivenBelow : ℕ → Versions → Type 0
AreGivenBelow number table = (key : Key) → 0 < (held_of table key).version → (held_of table key).number < number

-- ---- what a reader of facts by their numbers asks

-- a version, and the number of the fact that gave its base; none at version 0
abbrev pub base_number : HeldVersion → Option (ℕ × ℕ)
base_number held = if held.version == 0 then None else Some (held.version, held.number)

-- the base is that which this one fact gives
pub record GivesBase (facts : List Fact) (key : Key) (version number : ℕ) : Type 0 where
  pub version_held : current_of facts key ≡ version
  pub above : 0 < version
  pub within : number < length facts
  pub base : (fact : Fact) → fact_numbered facts number ≡ Some fact → base_of facts key ≡ base_from key version fact

abbrev pub IsBaseNumber : List Fact → Key → Option (ℕ × ℕ) → Type 0
IsBaseNumber facts key None = base_of facts key ≡ None
IsBaseNumber facts key (Some found) = GivesBase facts key found.0 found.1
