-- A table has one more fact.
use Rattle.std.proofs.Common.{◌≡◌, ◌∷◌, [], ℕ, List, refl, sym, ap, ◌∙◌}
use Rattle.std.specs.Prelude.{Err, Ok, OnOk, Result}
use Rattle.mdcc_struct.specs.Maps.{TxMap}
use Rattle.mdcc_def_messages.specs.declared.facts.Fact.{Fact}
use Rattle.mdcc_def_protocol.specs.Floors.{origins_of, with_origin}
use Rattle.mdcc_cells_floors.specs.Epochs.{HoldsEpochs, floor_in, with_fact, with_floor}
use Rattle.mdcc_cells_floors.proofs.Floored.{floors-more}
use Rattle.mdcc_cells_floors.proofs.Origins.{ascending-with, keys-with, origin-with, origins-more}

pub holds_none : HoldsEpochs [] []
holds_none = record { keys = refl; ascending = refl; floors = λ centre epoch. refl; origins = refl }

-- a fact that names an epoch
named : (epochs : TxMap ℕ) (facts : List Fact) (fact : Fact) (centre epoch seq : ℕ) → with_fact epochs fact ≡ with_floor epochs centre epoch seq → origins_of (fact ∷ facts) ≡ with_origin (origins_of facts) (centre, epoch)
    → HoldsEpochs epochs facts → HoldsEpochs (with_floor epochs centre epoch seq) (fact ∷ facts)
named epochs facts fact centre epoch seq is origin kept = record {
  keys = keys-with epochs centre epoch seq kept.keys;
  ascending = ascending-with epochs centre epoch seq kept.ascending;
  floors = λ c e. ap (λ es. floor_in es c e) (sym is) ∙ floors-more epochs facts fact c e (kept.floors c e);
  origins = origin-with epochs centre epoch seq kept.keys kept.ascending ∙ ap (λ os. with_origin os (centre, epoch)) kept.origins ∙ sym origin;
}

pub holds_more : (epochs : TxMap ℕ) (facts : List Fact) (fact : Fact) → HoldsEpochs epochs facts → HoldsEpochs (with_fact epochs fact) (fact ∷ facts)
holds_more epochs facts (Fact.Heard tx outcome) kept = named epochs facts (Fact.Heard tx outcome) tx.centre tx.epoch 0 refl (origins-more facts (Fact.Heard tx outcome) (tx.centre, tx.epoch) refl) kept
holds_more epochs facts (Fact.Floor centre epoch seq) kept = named epochs facts (Fact.Floor centre epoch seq) centre epoch seq refl (origins-more facts (Fact.Floor centre epoch seq) (centre, epoch) refl) kept
holds_more epochs facts (Fact.Booted epoch) kept = record { keys = kept.keys; ascending = kept.ascending; floors = λ c e. floors-more epochs facts (Fact.Booted epoch) c e (kept.floors c e); origins = kept.origins }
holds_more epochs facts (Fact.Promised key low high ballot) kept =
    record { keys = kept.keys; ascending = kept.ascending; floors = λ c e. floors-more epochs facts (Fact.Promised key low high ballot) c e (kept.floors c e); origins = kept.origins }
holds_more epochs facts (Fact.Voted key version ballot options offered) kept =
    record { keys = kept.keys; ascending = kept.ascending; floors = λ c e. floors-more epochs facts (Fact.Voted key version ballot options offered) c e (kept.floors c e); origins = kept.origins }
holds_more epochs facts (Fact.Adopted key version item adds) kept =
    record { keys = kept.keys; ascending = kept.ascending; floors = λ c e. floors-more epochs facts (Fact.Adopted key version item adds) c e (kept.floors c e); origins = kept.origins }

pub on-ok : {T E : Type 0} {A B : Type 0} (r : Result T E) → (A → B) → OnOk r A → OnOk r B
on-ok (Ok x) f a = f a
on-ok (Err e) f a = tt
