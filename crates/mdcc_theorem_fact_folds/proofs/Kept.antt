-- A fact that may be added says nothing a second time, its entries stand in order, it offers what it marks, and it sets no floor.
use Rattle.std.proofs.Common.{refl}
use Rattle.mdcc_theorem_fact_folds.specs.Added.{FactsStayAdded, NoFactsAreAdded}
use Rattle.mdcc_def_protocol.proofs.Plain.{no_floor_more}
use Rattle.mdcc_theorem_fact_folds.proofs.Sorted.{well_formed-ordered}

pub none-added : NoFactsAreAdded
none-added = record { voted = refl; heard = refl; ordered = refl; marked = refl; no_floor = refl }

pub stay-added : FactsStayAdded
stay-added facts fact h new = record {
  voted = rw (new.voted, h.voted) refl;
  heard = rw (new.heard, h.heard) refl;
  ordered = rw (well_formed-ordered fact new.well_formed, h.ordered) refl;
  marked = rw new.marked h.marked;
  no_floor = no_floor_more fact facts new.no_floor h.no_floor;
}
