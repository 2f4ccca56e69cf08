-- What the types of an event already say.
use Rattle.std.specs.List.{AllByRecursion}
use Rattle.std.specs.Prelude.{length, ⊤, ◌<◌, ◌^◌, ◌≤◌}
use Rattle.mdcc_base.specs.Key.{IsKey}
use Rattle.mdcc_option.specs.declared.items.Item.{Item}
use Rattle.mdcc_def_language.specs.declared.events.Event.{Event}
use Rattle.mdcc_def_language.specs.declared.events.UpdateWord.{UpdateWord}

-- a body of at most 128 bytes
pub record HasBody (item : Item) : Type 0 where
  pub fits : length item.body ≤ 128
  pub bytes : AllByRecursion (λ b. b < 2 ^ 8) item.body

abbrev pub IsGivenWord : UpdateWord → Type 0
IsGivenWord (UpdateWord.New key item) = IsKey key × HasBody item
IsGivenWord (UpdateWord.Set number item) = HasBody item
IsGivenWord word = ⊤

abbrev pub IsGivenEvent : Event → Type 0
IsGivenEvent (Event.Read a key) = IsKey key
IsGivenEvent (Event.Begin a words) = AllByRecursion IsGivenWord words
IsGivenEvent event = ⊤
