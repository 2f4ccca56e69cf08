-- Facts that were taken in turn lie in the cells.
use Rattle.std.proofs.Common.{◌≡◌, ℕ, ◌+◌, ◌≤◌, Bool, true, false, not, nat_lt, List, [], ◌∷◌, Option, Some, None, Ok, Err, Result, refl, sym, ap, ◌∙◌, arith, if◌then◌else◌}
use Rattle.std.proofs.lemmas.Bool.Decides.{nat_tests}
use Rattle.mdcc_node_boot.specs.Loading.{exceeds_cells, loaded_by, past_fault}
use Rattle.mdcc_option.specs.declared.cluster.Cluster.{Cluster}
use Rattle.mdcc_def_ledger.specs.BootTest.{is_allowed_fact}
use Rattle.mdcc_def_protocol.specs.Cells.{cells_held}
use Rattle.mdcc_def_protocol.specs.Facts.{has_floor, is_floor}
use Rattle.mdcc_def_protocol.proofs.Plain.{cells_plain, no_floor_more}
use Rattle.mdcc_def_messages.specs.Lengths.{cells_needed, cells_used}
use Rattle.mdcc_def_messages.specs.declared.facts.Fact.{Fact}
use Rattle.mdcc_def_rules.specs.declared.node.BootFault.{BootFault}

-- an allowed fact sets no floor
unfloored : (cluster : Cluster) (facts : List Fact) (fact : Fact) → is_allowed_fact cluster facts fact ≡ true → is_floor fact ≡ false
unfloored cluster facts (Fact.Booted epoch) h = refl
unfloored cluster facts (Fact.Promised key low high ballot) h = refl
unfloored cluster facts (Fact.Voted key version ballot options offered) h = refl
unfloored cluster facts (Fact.Heard tx outcome) h = refl
unfloored cluster facts (Fact.Adopted key version item adds) h = refl
unfloored cluster facts (Fact.Floor centre epoch seq) h = absurd (cc)

-- facts without a floor that lie in so many cells
pub record AreWithin (cells : ℕ) (facts : List Fact) : Type 0 where
  pub no_floor : has_floor facts ≡ false
  pub within : cells_held facts ≤ cells

pub none_within : (cells : ℕ) → AreWithin cells []
none_within cells = record { no_floor = refl; within = omega arith }

-- a fact more that does not exceed them
over : (cells held held_more used needs : ℕ) → held ≡ used → held_more ≡ needs + used → nat_lt cells (held + needs) ≡ false → held_more ≤ cells
over cells held held_more used needs e f h = grind (arith, nat_tests)

pub stays_within : (cells : ℕ) (cluster : Cluster) (facts : List Fact) (fact : Fact) → AreWithin cells facts → is_allowed_fact cluster facts fact ≡ true
    → exceeds_cells cells facts fact ≡ false → AreWithin cells (fact ∷ facts)
stays_within cells cluster facts fact are allowed fits =
    let none : has_floor (fact ∷ facts) ≡ false = no_floor_more fact facts (unfloored cluster facts fact allowed) are.no_floor in
    record {
      no_floor = none;
      within = over cells (cells_held facts) (cells_held (fact ∷ facts)) (cells_used facts) (cells_needed fact) (cells_plain facts are.no_floor) (cells_plain (fact ∷ facts) none) fits;
    }

module _ (cells : ℕ) (cluster : Cluster) where
  by_one : (n : ℕ) (facts more : List Fact) (fact : Fact) (loaded : Result (List Fact) BootFault) (allowed past : Bool)
      → is_allowed_fact cluster facts fact ≡ allowed → exceeds_cells cells facts fact ≡ past → AreWithin cells facts
      → (AreWithin cells (fact ∷ facts) → loaded ≡ Ok more → AreWithin cells more)
      → (if not allowed then Err (BootFault.NotARun (n + 1)) else (if past then Err (past_fault cells facts fact) else loaded)) ≡ Ok more
      → AreWithin cells more
  by_one n facts more fact loaded false past a p are rest e = absurd (cc)
  by_one n facts more fact loaded true true a p are rest e = absurd (cc)
  by_one n facts more fact loaded true false a p are rest e = rest (stays_within cells cluster facts fact are a p) e

  -- those that payloads give
  pub loaded_within : (facts more : List Fact) (n : ℕ) (payloads : List (Option Fact)) → AreWithin cells facts
      → loaded_by cells cluster facts n payloads ≡ Ok more → AreWithin cells more
  loaded_within facts more n [] are e = let same : facts ≡ more = cc in rw (← same) are
  loaded_within facts more n (None ∷ payloads) are e = absurd (cc)
  loaded_within facts more n (Some fact ∷ payloads) are e =
      by_one n facts more fact (loaded_by cells cluster (fact ∷ facts) (n + 1) payloads) (is_allowed_fact cluster facts fact) (exceeds_cells cells facts fact) refl refl are
      (λ all h. loaded_within (fact ∷ facts) more (n + 1) payloads all h) e
