-- How a store keeps facts in a list.
use Rattle.std.specs.Prelude.{◌≡◌, ◌≤◌, Bool, List, [], false, length, not, reverse, true, ◌&&◌, ◌∷◌}
use Rattle.mdcc_base.specs.declared.key.Key.{Key}
use Rattle.mdcc_def_protocol.specs.Facts.{executed_of, has_floor}
use Rattle.mdcc_def_messages.specs.declared.facts.Fact.{Fact}
use Rattle.mdcc_facts.specs.Adding.{is_voted_before}

-- no mark was voted twice at its ballot
abbrev pub are_voted_once : List Fact → Bool
are_voted_once [] = true
are_voted_once (fact ∷ facts) = not (is_voted_before facts fact) && are_voted_once facts

-- the items are the facts in the order in which they were added, no key has more than 64 executed deltas, no mark was voted twice,
-- and no floor was set
pub record AreListed (items facts : List Fact) : Type 0 where
  pub newest_first : facts ≡ reverse items
  pub few : (key : Key) → length (executed_of facts key) ≤ 64
  pub once : are_voted_once facts ≡ true
  pub no_floor : has_floor facts ≡ false
