-- Structures: maps from transaction to mark, ordered by inclusion. (Generalized Paxos.)
use Rattle.std.specs.Prelude.{Bool, false, true, not, Option, None, Some, filter, find, option_map, Result, Ok, Err}
use Rattle.std.specs.List.{list_all}
use Rattle.mdcc_base.specs.declared.identifiers.TxId.{TxId}
use Rattle.mdcc_option.specs.declared.choices.Mark.{Mark}
use Rattle.mdcc_option.specs.declared.choices.Mark.TheVariants.{Accept, Reject}
use Rattle.mdcc_option.specs.Equality.{mark_eq}
use Rattle.mdcc_struct.specs.Maps.{TxMap, value_of, union}

abbrev pub Marks : Type 0
Marks = TxMap Mark

abbrev pub is_accept : Mark → Bool
is_accept (Accept choice) = true
is_accept Reject = false

-- the marks that accept
abbrev pub accepts_in : Marks → Marks
accepts_in marks = filter (λ e. is_accept e.1) marks

-- the marks that reject
abbrev pub rejects_in : Marks → Marks
rejects_in marks = filter (λ e. not (is_accept e.1)) marks

-- whether there is a mark, and it is this one
abbrev pub is_mark : Mark → Option Mark → Bool
is_mark mark None = false
is_mark mark (Some other) = mark_eq mark other

-- whether there is a mark, and it is another one
abbrev pub is_other_mark : Mark → Option Mark → Bool
is_other_mark mark None = false
is_other_mark mark (Some other) = not (mark_eq mark other)

-- the entries that both have
abbrev pub meet_of : Marks → Marks → Marks
meet_of a b = filter (λ e. is_mark e.1 (value_of b e.0)) a

-- the least transaction at which the marks differ
abbrev pub differing : Marks → Marks → Option TxId
differing a b = option_map (λ e. e.0) (find (λ e. is_other_mark e.1 (value_of b e.0)) a)

-- the entries of both, or where the marks differ
abbrev pub join_by : Option TxId → Marks → Marks → Result Marks TxId
join_by None a b = Ok (union a b)
join_by (Some tx) a b = Err tx

abbrev pub join_of : Marks → Marks → Result Marks TxId
join_of a b = join_by (differing a b) a b

-- whether the first has each entry of the second
abbrev pub extends : Marks → Marks → Bool
extends a b = list_all (λ e. is_mark e.1 (value_of a e.0)) b
