-- What the values of members are read as. No value: it is not of the kind that is stated. Inside, no value: it is of
-- that kind, and outside its range.
use Rattle.std.specs.Prelude.{◌≡◌, ◌↔◌, ℕ, ℤ, if◌then◌else◌, List, codes, Option, Some, None, option_map, option_and_then, bytes_eq}
use Rattle.std.specs.Option.{option_zip}
use Rattle.std.specs.Net.Grammar.{IsDotted}
use Rattle.std.specs.Net.Reader.{read_ipv4, whole_value}
use Rattle.serde_json.specs.Data.{Data, Items, no_items, item}
use Rattle.serde_json.specs.Find.{as_number, as_u64, as_i64, as_str, as_array}
use Rattle.mdcc_option.specs.declared.cluster.FastLimit.{FastLimit}

-- ---- numbers, which are read as u64 or as i64

abbrev pub natural_by : Option ℕ → Option ℤ → Option (Option ℕ)
natural_by (Some n) signed = Some (Some n)
natural_by None (Some z) = Some None
natural_by None None = None

-- a number that is not negative
abbrev pub natural : Data → Option (Option ℕ)
natural d = natural_by (option_and_then as_u64 (as_number d)) (option_and_then as_i64 (as_number d))

abbrev pub integer_by : Option ℤ → Option ℕ → Option (Option ℤ)
integer_by (Some z) unsigned = Some (Some z)
integer_by None (Some n) = Some None
integer_by None None = None

-- a number below 2^63
abbrev pub integer : Data → Option (Option ℤ)
integer d = integer_by (option_and_then as_i64 (as_number d)) (option_and_then as_u64 (as_number d))

-- ---- the entries of lists

abbrev pub BoundPair : Type 0
BoundPair = ℤ × ℤ

-- two such numbers
abbrev pub pair_in : Items → Option (Option BoundPair)
pair_in (item low (item high no_items)) = option_and_then (λ a. option_map (option_zip a) (integer high)) (integer low)
pair_in _ = None

abbrev pub pair : Data → Option (Option BoundPair)
pair d = option_and_then pair_in (as_array d)

-- four numbers below 256 without leading zeros, with dots between them
abbrev pub host_of : List ℕ → Option (List ℕ)
host_of text = whole_value (read_ipv4 text)

-- a text is read as a host if and only if it is the host in dotted decimal
abbrev pub HostsAreDotted : Type 0
HostsAreDotted = (text octets : List ℕ) → (host_of text ≡ Some octets) ↔ IsDotted text octets

abbrev pub host : Data → Option (Option (List ℕ))
host d = option_map host_of (as_str d)

-- ---- the fast limit

abbrev pub fast_limit_named : List ℕ → Option FastLimit
fast_limit_named text =
    if bytes_eq text (codes "safe") then Some FastLimit.Safe
    else (if bytes_eq text (codes "paper") then Some FastLimit.Paper else None)

abbrev pub limit : Data → Option (Option FastLimit)
limit d = option_map fast_limit_named (as_str d)
