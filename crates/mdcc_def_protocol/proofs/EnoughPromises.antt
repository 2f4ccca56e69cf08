-- Promises that are enough are those of a classic quorum at least.
use Rattle.std.proofs.Common.{◌≡◌, ℕ, ◌<◌, ◌≤◌, ◌&&◌, List, length, arith, false, inl, inr, ◌⊎◌, true}
use Rattle.std.proofs.lemmas.Bool.{and_parts, leb-false, leb-true, or_cases, or_parts}
use Rattle.std.specs.Prelude.{nat_le}
use Rattle.mdcc_base.specs.AreQuorums.{AreQuorums}
use Rattle.mdcc_base.specs.Sizes.{Sizes}
use Rattle.mdcc_base.specs.declared.key.Key.{Key}
use Rattle.mdcc_option.specs.declared.cluster.Cluster.{Cluster}
use Rattle.mdcc_option.specs.declared.cluster.FastLimit.{FastLimit}
use Rattle.mdcc_struct.specs.Forced.{forced_of}
use Rattle.mdcc_struct.specs.declared.report.Report.{Report}
use Rattle.mdcc_def_protocol.specs.Fit.{parts_of}
use Rattle.mdcc_def_protocol.specs.Structures.{fit_together, is_enough}
use Rattle.mdcc_def_messages.specs.declared.facts.Fact.{Fact}

-- the parts of an acceptor's room are as many as a classic quorum has centres, or as there are centres
pub parts-classic : (limit : FastLimit) (sizes : Sizes) → AreQuorums sizes → sizes.classic ≤ parts_of limit sizes
parts-classic FastLimit.Safe sizes h = omega arith
parts-classic FastLimit.Paper sizes h = omega (arith, h.classic_within, h.fast_within)

pub parts-within : (limit : FastLimit) (sizes : Sizes) → AreQuorums sizes → parts_of limit sizes ≤ sizes.centres
parts-within FastLimit.Safe sizes h = omega (arith, h.classic_within, h.fast_within)
parts-within FastLimit.Paper sizes h = omega arith

module _ (cluster : Cluster) (facts : List Fact) (key : Key) (version : ℕ) (reports : List Report) where
  -- there are as many as there are parts, or what a classic quorum of them forces fits together
  pub enough-cases : is_enough cluster facts key version reports ≡ true
      → (parts_of cluster.limit cluster.quorums ≤ length reports)
      ⊎ ((cluster.quorums.classic ≤ length reports) × (fit_together cluster facts key version (forced_of cluster.quorums reports) ≡ true))
  enough-cases h =
      let few = nat_le cluster.quorums.classic (length reports) in
      let fit = fit_together cluster facts key version (forced_of cluster.quorums reports) in
      elim (or_cases (nat_le (parts_of cluster.limit cluster.quorums) (length reports)) (few && fit) h) [
        | inl many ↦ inl (leb-true (parts_of cluster.limit cluster.quorums) (length reports) many)
        | inr both ↦ (let parts = and_parts few fit both in inr (leb-true cluster.quorums.classic (length reports) parts.0, parts.1))
      ]

  -- those that are not enough are fewer than the parts
  pub waiting-few : is_enough cluster facts key version reports ≡ false → length reports < parts_of cluster.limit cluster.quorums
  waiting-few h =
      let few = nat_le cluster.quorums.classic (length reports) in
      let fit = fit_together cluster facts key version (forced_of cluster.quorums reports) in
      leb-false (parts_of cluster.limit cluster.quorums) (length reports) (or_parts (nat_le (parts_of cluster.limit cluster.quorums) (length reports)) (few && fit) h).0

  pub enough-classic : cluster.quorums.classic ≤ parts_of cluster.limit cluster.quorums → is_enough cluster facts key version reports ≡ true
      → cluster.quorums.classic ≤ length reports
  enough-classic parts h = elim (enough-cases h) [ inl many ↦ omega arith | inr both ↦ both.0 ]
