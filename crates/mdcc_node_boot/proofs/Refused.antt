-- Why an admitted fact is not taken by a store.
use Rattle.std.proofs.Common.{◌≡◌, ◌≤◌, ℕ, ◌+◌, ◌-◌, ◌^◌, Bool, true, false, not, nat_lt, min, List, [], ◌∷◌, Ok, Err, Result, Some, refl, ◌∙◌, ap, arith, if◌then◌else◌, ◌&&◌}
use Rattle.std.specs.Bool.{OnFalse}
use Rattle.std.proofs.lemmas.Bool.Decides.{nat_tests}
use Rattle.mdcc_node_boot.specs.Admission.{is_admitted}
use Rattle.mdcc_node_boot.specs.Laws.{AdmissionIsExact, AreCounted}
use Rattle.mdcc_node_boot.specs.Loading.{is_boot_memory, loaded_by, refusal, store_fault}
use Rattle.mdcc_facts.specs.Adding.{add_result, is_store_memory}
use Rattle.mdcc_def_ledger.specs.BootTest.{is_allowed_fact}
use Rattle.mdcc_option.specs.declared.cluster.Cluster.{Cluster}
use Rattle.mdcc_def_protocol.specs.Cells.{cells_held}
use Rattle.mdcc_def_protocol.specs.News.{is_crowding}
use Rattle.mdcc_def_messages.specs.Lengths.{cells_needed}
use Rattle.mdcc_def_protocol.specs.declared.stores.StoreFault.{StoreFault}
use Rattle.mdcc_def_messages.specs.declared.facts.Fact.{Fact}
use Rattle.mdcc_def_rules.specs.declared.node.BootFault.{BootFault}

abbrev added : Result (Unit {0}) StoreFault
added = Ok tt

-- too many deltas come before want of room
module _ (n total room needed used : ℕ) (more : List Fact) (all : room + used ≡ total) where
  past : nat_lt room needed ≡ true → nat_lt total (used + needed) ≡ true
  past lacks = grind (arith, nat_tests)

  same_room : nat_lt room needed ≡ true → BootFault.Room (min (used + needed) (2 ^ 64 - 1)) total ≡ BootFault.Room (min (total - room + needed) (2 ^ 64 - 1)) total
  same_room lacks =
      let same : used + needed ≡ total - room + needed = omega arith in
      ap (λ k. BootFault.Room (min k (2 ^ 64 - 1)) total) same

  by_fault : (crowds allowed : Bool) (fault : StoreFault) → allowed ≡ not crowds
      → OnFalse (is_store_memory fault) (Err fault ≡ (if nat_lt room needed then Err (StoreFault.NoRoom needed room) else (if crowds then Err StoreFault.Crowded else added)))
      → OnFalse (is_boot_memory (if crowds then BootFault.NotARun (n + 1) else store_fault total n fault))
      ((if not allowed then Err (BootFault.NotARun (n + 1))
      else (if nat_lt total (used + needed) then Err (BootFault.Room (min (used + needed) (2 ^ 64 - 1)) total) else Ok more))
      ≡ Err (if crowds then BootFault.NotARun (n + 1) else store_fault total n fault))
  by_fault true allowed fault e answer = rw e refl
  by_fault false allowed StoreFault.Memory e answer = tt
  by_fault false allowed StoreFault.Crowded e answer = by (nat_lt room needed) answer
    where
      by : (lacks : Bool) → Err StoreFault.Crowded ≡ (if lacks then Err (StoreFault.NoRoom needed room) else added)
          → (if not allowed then Err (BootFault.NotARun (n + 1))
          else (if nat_lt total (used + needed) then Err (BootFault.Room (min (used + needed) (2 ^ 64 - 1)) total) else Ok more))
          ≡ Err (BootFault.NotARun (n + 1))
      by true answer = absurd (cc)
      by false answer = absurd (cc)
  by_fault false allowed (StoreFault.NoRoom a b) e answer = by (nat_lt room needed) refl answer
    where
      by : (lacks : Bool) → nat_lt room needed ≡ lacks → Err (StoreFault.NoRoom a b) ≡ (if lacks then Err (StoreFault.NoRoom needed room) else added)
          → (if not allowed then Err (BootFault.NotARun (n + 1))
          else (if nat_lt total (used + needed) then Err (BootFault.Room (min (used + needed) (2 ^ 64 - 1)) total) else Ok more))
          ≡ Err (BootFault.Room (min (total - b + a) (2 ^ 64 - 1)) total)
      by false is answer = absurd (cc)
      by true is answer =
          let is_a : a ≡ needed = cc in
          let is_b : b ≡ room = cc in
          rw (e, past is, is_a, is_b) (ap (λ x. Err x) (same_room is))

left_over : (total used : ℕ) → used ≤ total → total - used + used ≡ total
left_over total used h = omega arith

pub refused : (cells : ℕ) (cluster : Cluster) (facts : List Fact) (n : ℕ) (fact : Fact) (fault : StoreFault)
    → AdmissionIsExact → AreCounted facts → is_admitted cluster facts fact ≡ true → cells_held facts ≤ cells
    → OnFalse (is_store_memory fault) (Err fault ≡ add_result (cells - cells_held facts) (cells_needed fact) facts fact)
    → OnFalse (is_boot_memory (refusal cells facts n fact fault)) (loaded_by cells cluster facts n (Some fact ∷ []) ≡ Err (refusal cells facts n fact fault))
refused cells cluster facts n fact fault exact counted admitted within answer =
    let same : is_allowed_fact cluster facts fact ≡ not (is_crowding facts fact) = exact cluster facts fact counted ∙ ap (λ b. b && not (is_crowding facts fact)) admitted in
    by_fault n cells (cells - cells_held facts) (cells_needed fact) (cells_held facts) (fact ∷ facts) (left_over cells (cells_held facts) within)
    (is_crowding facts fact) (is_allowed_fact cluster facts fact) fault same answer
