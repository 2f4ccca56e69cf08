-- A one-copy store as a value.
use Rattle.std.specs.Ordering.{nat_cmp}
use Rattle.std.specs.Cmp.Lexicographic.{slice_cmp}
use Rattle.std.specs.FinMap.{FinMap, get}
use Rattle.mdcc_option.specs.Held.{Held}
use Rattle.mdcc_option.specs.OneCopy.{OneCopyStore}

-- finitely many keys, each with what is held of it
abbrev pub StoreMap : Type 0
StoreMap = FinMap (slice_cmp nat_cmp) Held

-- the store that it is
abbrev pub one_copy_of : StoreMap → OneCopyStore
one_copy_of map key = get map key
