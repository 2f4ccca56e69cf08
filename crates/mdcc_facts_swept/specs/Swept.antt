-- A store that gives cells back, and the lists of facts that it represents.
use Rattle.std.specs.Prelude.{◌≡◌, ◌+◌, ◌*◌, ◌≤◌, ◌==◌, Bool, List, false, length, true}
use Rattle.mdcc_def_messages.specs.declared.facts.Fact.{Fact}
use Rattle.mdcc_def_protocol.specs.Cells.{cells_held}
use Rattle.mdcc_def_protocol.specs.Facts.{has_floor}
use Rattle.mdcc_facts.specs.Adding.{MayBeAdded}
use Rattle.mdcc_cells_facts.specs.Holding.{AreWellFormed}
use Rattle.mdcc_cells_marked.specs.Marks.{MarkedTxs, marks_of}
use Rattle.mdcc_theorem_fact_folds.specs.Added.{AreAdded}
use Rattle.mdcc_index.specs.Stores.{HasFactsInCells, Store, cells_in_all}
use Rattle.mdcc_facts_kept.specs.Adding.{MayBeSwept}
use Rattle.mdcc_facts_kept.specs.Kept.{IsKept, KeptRest, are_promised_once, are_short, cells_occupied}

-- ---- facts that are written anew

-- what holds of facts in cells, each of which may be written anew behind the older ones
pub record AreSweepable (facts : List Fact) : Type 0 where
  pub added : AreAdded facts
  pub well_formed : AreWellFormed facts
  pub promised : are_promised_once facts ≡ true
  pub short : are_short facts ≡ true

-- ---- where what is left is written anew

pub record HalfStore : Type 0 where
  pub pool : Store
  pub marked : MarkedTxs

pub record HasHalf (half : HalfStore) (facts : List Fact) : Type 0 where
  pub pool : HasFactsInCells half.pool facts
  pub marked : half.marked.entries ≡ marks_of facts

-- there is room for the marks of all facts that have room
pub record IsHalf (half : HalfStore) : Type 0 where
  pub marks : length half.marked.entries + 6 * half.pool.cells.spare ≤ half.marked.room
  pub all_marks : 6 * cells_in_all half.pool ≤ half.marked.room

-- it has some facts, to which this one may be added
pub record CanPut (half : HalfStore) (fact : Fact) : Type 0 where
  pub facts : List Fact
  pub has : HasHalf half facts
  pub may : MayBeAdded facts fact

-- ---- the store

-- what is left, and whether no cell can be given back
pub record Swept : Type 0 where
  pub kept : KeptRest
  pub exact : Bool

-- where no cell can be given back, as many are in use as the facts hold; none can before a floor is set
pub record IsSwept (store : Swept) (facts : List Fact) : Type 0 where
  pub kept : IsKept store.kept facts
  pub counted : store.exact ≡ true → cells_occupied store.kept ≡ cells_held facts
  pub floor : store.exact ≡ false → has_floor facts ≡ true

pub record IsSweptStore (store : Swept) : Type 0 where
  pub facts : List Fact
  pub swept : IsSwept store facts

-- a fact after which cells may be given back: it may finish transactions or raise a version, or nothing is asked of it
abbrev pub may_free : Fact → Bool
may_free (Fact.Floor centre epoch seq) = true
may_free (Fact.Heard tx outcome) = true
may_free (Fact.Adopted key version item adds) = true
may_free (Fact.Voted key version ballot options offered) = length options == 0
may_free _ = false

-- it has some facts, to which this one may be added
pub record CanAdd (store : Swept) (fact : Fact) : Type 0 where
  pub facts : List Fact
  pub swept : IsSwept store facts
  pub may : MayBeSwept facts fact
