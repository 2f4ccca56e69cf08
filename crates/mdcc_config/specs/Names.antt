-- The names of a configuration's members, and the least one that is missing or unknown.
use Rattle.std.specs.Prelude.{ℕ, Bool, not, if◌then◌else◌, List, [], ◌∷◌, codes, Option, Some, None, is_none, bytes_eq}
use Rattle.std.specs.List.{list_any}
use Rattle.std.specs.Ordering.{nat_cmp, is_lt}
use Rattle.std.specs.Cmp.Lexicographic.{slice_cmp}
use Rattle.serde_json.specs.Data.{Members, no_members, member}
use Rattle.serde_json.specs.Find.{get_member}
use Rattle.mdcc_config.specs.declared.faults.MemberName.{MemberName}
use Rattle.mdcc_config.specs.declared.faults.MemberName.TheVariants.{Centres, Classic, Fast, Gamma, Bounds, Hosts, Port, Cells, Limit, Wait, Checkpoint}

-- how a member is named
abbrev pub name_text : MemberName → List ℕ
name_text Centres = codes "centres"
name_text Classic = codes "classic"
name_text Fast = codes "fast"
name_text Gamma = codes "gamma"
name_text Bounds = codes "bounds"
name_text Hosts = codes "hosts"
name_text Port = codes "port"
name_text Cells = codes "cells"
name_text Limit = codes "limit"
name_text Wait = codes "wait"
name_text Checkpoint = codes "checkpoint"

-- the members that must be there
abbrev pub required : List MemberName
required = Centres ∷ Classic ∷ Fast ∷ Gamma ∷ Bounds ∷ Hosts ∷ Port ∷ []

-- those that may be there
abbrev pub known_members : List MemberName
known_members = Centres ∷ Classic ∷ Fast ∷ Gamma ∷ Bounds ∷ Hosts ∷ Port ∷ Cells ∷ Limit ∷ Wait ∷ Checkpoint ∷ []

-- whether a member of this name may be there
abbrev pub is_known : List ℕ → Bool
is_known name = list_any (λ one. bytes_eq (name_text one) name) known_members

-- whether a member is missing
abbrev pub is_missing : Members → MemberName → Bool
is_missing ms name = is_none (get_member (name_text name) ms)

-- the name that comes first by its bytes
abbrev pub lesser : List ℕ → Option (List ℕ) → Option (List ℕ)
lesser name None = Some name
lesser name (Some least) = if is_lt (slice_cmp nat_cmp name least) then Some name else Some least

-- the least name so far, after a name that counts where this holds
abbrev pub lesser_if : Bool → List ℕ → Option (List ℕ) → Option (List ℕ)
lesser_if counts name least = if counts then lesser name least else least

-- the least of a name and those that are missing
abbrev pub least_missing : Members → Option (List ℕ) → List MemberName → Option (List ℕ)
least_missing ms least [] = least
least_missing ms least (one ∷ more) =
    least_missing ms (lesser_if (is_missing ms one) (name_text one) least) more

-- the least of a name and those that are unknown
abbrev pub least_unknown : Option (List ℕ) → Members → Option (List ℕ)
least_unknown least no_members = least
least_unknown least (member name d ms) = least_unknown (lesser_if (not (is_known name)) name least) ms

-- the least name that is missing or unknown
abbrev pub wrong_name : Members → Option (List ℕ)
wrong_name ms = least_unknown (least_missing ms None required) ms
