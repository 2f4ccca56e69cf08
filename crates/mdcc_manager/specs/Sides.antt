-- Whether the marks that are learned of a transaction decide it, by which of them accept.
use Rattle.std.specs.List.{list_all, list_any}
use Rattle.std.specs.Prelude.{Bool, List, Option, Some, None, false, is_some, not, ◌||◌}

-- whether a mark is learned that rejects
abbrev pub is_reject_side : Option Bool → Bool
is_reject_side (Some accepts) = not accepts
is_reject_side None = false

-- whether a transaction ends by these: one rejects, or each is learned
abbrev pub are_deciding : List (Option Bool) → Bool
are_deciding sides = list_any is_reject_side sides || list_all is_some sides
