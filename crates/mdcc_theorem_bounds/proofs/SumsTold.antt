-- The sums, told of ledgers as they are defined.
use Rattle.std.proofs.Common.{◌≡◌, ℕ, ◌≤◌, List, [], ◌∷◌, refl, arith, inl, inr, not, Option, Some, None, Contains}
use Rattle.mdcc_base.specs.Counts.{number_of}
use Rattle.mdcc_base.specs.declared.identifiers.Ballot.{Ballot}
use Rattle.mdcc_base.specs.declared.key.Key.{Key}
use Rattle.mdcc_option.specs.declared.choices.Choice.{Choice}
use Rattle.mdcc_option.specs.declared.choices.Mark.TheVariants.{Accept}
use Rattle.mdcc_option.specs.declared.cluster.Cluster.{Cluster}
use Rattle.mdcc_option.specs.declared.items.Item.{Item}
use Rattle.mdcc_option.specs.declared.items.Update.{Update}
use Rattle.mdcc_option.specs.declared.items.Update.TheVariants.{Write, Add}
use Rattle.mdcc_struct.specs.declared.options.Options.{Options}
use Rattle.mdcc_def_ledger.specs.Ledger as ledger
use Rattle.mdcc_def_protocol.specs.Marks.{is_write}
use Rattle.mdcc_theorem_agreement.specs.Laws.{IsLedger, IsChosenAt, IsAbort, IsAcceptedBy, WasValued}
use Rattle.mdcc_theorem_agreement.proofs.MapValues.{total_sum}
use Rattle.mdcc_theorem_agreement.proofs.Reduction.{setup_of, reduced}
use Rattle.mdcc_theorem_agreement.proofs.ReducedFacts.{Quantity}
use Rattle.mdcc_theorem_agreement.proofs.ReducedLedger as small
use Rattle.mdcc_theorem_agreement.proofs.ReducedLedger.{one_add, IsQuantity}
use Rattle.mdcc_theorem_agreement.proofs.ReducedOptions.{Apart}
use Rattle.mdcc_theorem_agreement.proofs.LawsTold.{setup_fine, allowed, at_place, chosen_here, sent_here, not_aborted, accepted_here}
use Rattle.mdcc_theorem_agreement.proofs.Totals.{total}
use Rattle.mdcc_theorem_bounds.specs.Held.{IsBase}
use Rattle.mdcc_theorem_bounds.specs.Rooms.{AreOfDistinctTxs, AreWithinRooms, taken_from_room, added_to_room, room_below, room_above}
use Rattle.mdcc_theorem_bounds.proofs.Among.{Contains-In}
use Rattle.mdcc_theorem_bounds.proofs.ChosenSums as chosen
use Rattle.mdcc_theorem_bounds.proofs.HeldTold.{base_reduced}

apart_reduced : (cs : List Choice) → AreOfDistinctTxs cs → Apart cs
apart_reduced [] h = tt
apart_reduced (c ∷ cs) h = ((λ d g. h.0 d (Contains-In cs d g)), apart_reduced cs h.1)

one_number : (u : Update) → number_of (λ (x : Update). not (is_write x)) (u ∷ []) ≡ one_add u
one_number (Write item seen) = refl
one_number (Add m) = refl

adds_number : (cs : List Choice) → number_of (λ (c : Choice). not (is_write c.update)) cs ≡ total (λ (c : Choice). one_add c.update) cs
adds_number [] = refl
adds_number (c ∷ cs) = omega (arith, adds_number cs, one_number c.update)

-- what is within each quantity is within the rooms
within : (cluster : Cluster) (base : Option Item) (cs : List Choice) →
    ((q : Quantity) → IsQuantity (setup_of cluster) q → total (λ (c : Choice). q.amount c.update) cs ≤ q.room base) → AreWithinRooms cluster.schema base cs
within cluster base cs h = record {
  adds = omega (arith, adds_number cs, h (record { amount = one_add; room = λ b. 64 }) (inl refl));
  decreases = λ n low high.
      let bound : total (λ (c : Choice). small.taken n c.update) cs ≤ small.room_below cluster.schema n base =
      h (record { amount = small.taken n; room = small.room_below cluster.schema n }) (inr (n, omega arith, high, inl refl)) in
      omega (arith, total_sum (taken_from_room n) cs, same_below n base);
  increases = λ n low high.
      let bound : total (λ (c : Choice). small.given n c.update) cs ≤ small.room_above cluster.schema n base =
      h (record { amount = small.given n; room = small.room_above cluster.schema n }) (inr (n, omega arith, high, inr refl)) in
      omega (arith, total_sum (added_to_room n) cs, same_above n base);
}
  where
    same_below : (n : ℕ) (b : Option Item) → small.room_below cluster.schema n b ≡ room_below cluster.schema n b
    same_below n None = refl
    same_below n (Some item) = refl

    same_above : (n : ℕ) (b : Option Item) → small.room_above cluster.schema n b ≡ room_above cluster.schema n b
    same_above n None = refl
    same_above n (Some item) = refl

module _ (cluster : Cluster) (es : List ledger.Entry) (h : IsLedger cluster es) where
  pub sums_chosen : (key : Key) (version : ℕ) (base : Option Item) → IsBase cluster es key version base → (cs : List Choice) → AreOfDistinctTxs cs →
      ((c : Choice) → Contains cs c → ((k : Ballot) × IsChosenAt cluster es key version k c.tx (Accept c)) × (IsAbort cluster es c.tx → ⊥)) → AreWithinRooms cluster.schema base cs
  sums_chosen key version base held cs apart among =
      within cluster base cs (λ q is. chosen.sums_chosen (setup_of cluster) (setup_fine cluster es h) (reduced es) (allowed cluster es h) (at_place cluster es h key version) q is base
      (base_reduced cluster es h key version base held) cs (apart_reduced cs apart)
      (λ c listed.
      let one = among c (Contains-In cs c listed) in
      ((one.0.0, chosen_here cluster es h key version one.0.0 c.tx (Accept c) one.0.1), not_aborted cluster es h c.tx one.1)))

  pub sums_sent : (key : Key) (version : ℕ) (base : Option Item) → IsBase cluster es key version base → (m : Ballot) (options : Options) → WasValued es key version m options →
      (cs : List Choice) → AreOfDistinctTxs cs → ((c : Choice) → Contains cs c → IsAcceptedBy options c × (IsAbort cluster es c.tx → ⊥)) → AreWithinRooms cluster.schema base cs
  sums_sent key version base held m options sent cs apart among =
      within cluster base cs (λ q is. chosen.sums_structures (setup_of cluster) (setup_fine cluster es h) (reduced es) (allowed cluster es h) (at_place cluster es h key version) q is base
      (base_reduced cluster es h key version base held) m options (sent_here cluster es h key version m options sent) cs (apart_reduced cs apart)
      (λ c listed.
      let one = among c (Contains-In cs c listed) in
      (accepted_here cluster es h options c one.0, not_aborted cluster es h c.tx one.1)))
