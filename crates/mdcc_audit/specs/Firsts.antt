-- What was said first of each subject, and the first two facts that contradict each other.
use Rattle.std.specs.Map.{lookup}
use Rattle.std.specs.Prelude.{Bool, List, None, Option, Some, [], if◌then◌else◌, is_some, nat_lt, ◌&&◌, ◌++◌, ◌==◌, ◌||◌, ◌∷◌}
use Rattle.mdcc_audit.specs.Subjects.{subject_eq}
use Rattle.mdcc_audit.specs.Values.{value_eq}
use Rattle.mdcc_audit.specs.declared.audited.Place.{Place}
use Rattle.mdcc_audit.specs.declared.firsts.First.{First}
use Rattle.mdcc_audit.specs.declared.subjects.Subject.{Subject}

-- places are ordered by centre, then by number
abbrev pub place_lt : Place → Place → Bool
place_lt a b = nat_lt a.centre b.centre || (a.centre == b.centre && nat_lt a.number b.number)

abbrev pub Pair : Type 0
Pair = Place × Place

-- what was said first, in the order in which the subjects came
abbrev pub Table : Type 0
Table = List (Subject × First)

abbrev pub first_at : Table → Subject → Option First
first_at table subject = lookup (subject_eq subject) table

-- what is said of a subject is kept where it is the first
abbrev pub with_first : Table → Subject → First → Table
with_first table subject first = if is_some (first_at table subject) then table else table ++ (subject, first) ∷ []

-- two facts that say different things of one subject
abbrev pub pair_by : Option First → First → Option Pair
pair_by None later = None
pair_by (Some first) later = if value_eq first.value later.value then None else Some (first.place, later.place)

-- of a pair that was found and one that is found later, the one whose first fact is the earlier; of two with one first fact that found before
abbrev pub earlier : Option Pair → Option Pair → Option Pair
earlier found None = found
earlier None (Some pair) = Some pair
earlier (Some was) (Some pair) = if place_lt pair.0 was.0 then Some pair else Some was

-- what was said first, and the first pair
pub record Said : Type 0 where
  pub table : Table
  pub found : Option Pair

abbrev pub nothing_said : Said
nothing_said = record { table = []; found = None }

-- something more is said
abbrev pub say : Said → Subject → First → Said
say said subject first = record {
  table = with_first said.table subject first;
  found = earlier said.found (pair_by (first_at said.table subject) first);
}
