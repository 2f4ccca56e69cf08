-- The reduced ledger of a ledger, entry by entry.
use Rattle.std.proofs.Common.{◌≡◌, ℕ, ◌==◌, Bool, true, false, ◌&&◌, List, [], ◌∷◌, ◌++◌, refl, inl, inr, map}
use Rattle.std.proofs.lemmas.Bool.{cases_Bool}
use Rattle.std.specs.Option.{option_or}
use Rattle.mdcc_base.specs.AreQuorums.{AreQuorums}
use Rattle.mdcc_base.specs.TxId.{tx_eq}
use Rattle.mdcc_base.specs.declared.identifiers.TxId.{TxId}
use Rattle.mdcc_option.specs.declared.choices.Mark.{Mark}
use Rattle.mdcc_option.specs.declared.cluster.Cluster.{Cluster}
use Rattle.mdcc_option.specs.declared.items.Delta.{Delta}
use Rattle.mdcc_def_protocol.specs.Fit.{parts_of}
use Rattle.mdcc_def_ledger.specs.Ledger as ledger
use Rattle.mdcc_def_protocol.specs.Marks.{Amounts}
use Rattle.mdcc_def_messages.specs.declared.facts.Fact.{Fact}
use Rattle.mdcc_def_protocol.proofs.EnoughPromises.{parts-classic, parts-within}
use Rattle.mdcc_theorem_agreement.proofs.Setups.{Setup, IsSetup}
use Rattle.mdcc_theorem_agreement.proofs.ReducedFacts.{ReducedFact, Booted, Floor, Promised, Voted, Heard, Adopted}
use Rattle.mdcc_theorem_agreement.proofs.ReducedLedger.{Entry, Happened, Begun, Valued, facts_of, IsTail}
use Rattle.mdcc_theorem_agreement.proofs.ReducedOptions.{mark_of}

-- the sizes of quorums, the parts of an acceptor's room, and the schema
abbrev pub setup_of : Cluster → Setup
setup_of cluster = record {
  centres = cluster.quorums.centres;
  classic = cluster.quorums.classic;
  fast = cluster.quorums.fast;
  parts = parts_of cluster.limit cluster.quorums;
  schema = cluster.schema;
}

pub IsSetup-of : (cluster : Cluster) → AreQuorums cluster.quorums → IsSetup (setup_of cluster)
IsSetup-of cluster h = record {
  classic_within = h.classic_within;
  fast_within = h.fast_within;
  two_classic = h.classic_meet;
  two_fast = h.fast_meet;
  classic_parts = parts-classic cluster.limit cluster.quorums h;
  parts_within = parts-within cluster.limit cluster.quorums h;
}

abbrev pub delta_pair : Delta → TxId × Amounts
delta_pair delta = (delta.tx, delta.amounts)

abbrev pub reduced_fact : Fact → ReducedFact
reduced_fact (Fact.Booted epoch) = Booted epoch
reduced_fact (Fact.Floor centre epoch seq) = Floor centre epoch seq
reduced_fact (Fact.Promised key low high ballot) = Promised key low high ballot
reduced_fact (Fact.Voted key version ballot options offered) = Voted (record { key = key; version = version }) ballot options
reduced_fact (Fact.Heard tx outcome) = Heard tx outcome
reduced_fact (Fact.Adopted key version item adds) = Adopted key version item (map delta_pair adds)

abbrev pub reduced_entry : ledger.Entry → Entry
reduced_entry (ledger.Added a f) = Happened a (reduced_fact f)
reduced_entry (ledger.Begun a tx choices) = Begun a tx choices
reduced_entry (ledger.Valued a key version ballot options) = Valued a (record { key = key; version = version }) ballot options

abbrev pub reduced : List ledger.Entry → List Entry
reduced [] = []
reduced (e ∷ es) = reduced_entry e ∷ reduced es

abbrev pub facts_reduced : List Fact → List ReducedFact
facts_reduced [] = []
facts_reduced (f ∷ fs) = reduced_fact f ∷ facts_reduced fs

pub facts_same : (a : ℕ) (es : List ledger.Entry) → facts_of a (reduced es) ≡ facts_reduced (ledger.facts_of es a)
facts_same a [] = refl
facts_same a (ledger.Begun b tx choices ∷ es) = facts_same a es
facts_same a (ledger.Valued b key version ballot options ∷ es) = facts_same a es
facts_same a (ledger.Added b f ∷ es) =
    elim (cases_Bool (b == a)) [
      | inl e ↦ rw (e, facts_same a es) refl
      | inr e ↦ rw (e, facts_same a es) refl
    ]

pub and_swap : (p q : Bool) → (p && q) ≡ (q && p)
and_swap true true = refl
and_swap true false = refl
and_swap false true = refl
and_swap false false = refl

-- the marks of a transaction in two lists, one after the other
pub mark_of-or : (t : TxId) (ps qs : List (TxId × Mark)) → mark_of t (ps ++ qs) ≡ option_or (mark_of t ps) (mark_of t qs)
mark_of-or t [] qs = refl
mark_of-or t (p ∷ ps) qs =
    elim (cases_Bool (tx_eq t p.0)) [
      | inl e ↦ rw e refl
      | inr e ↦ rw e (mark_of-or t ps qs)
    ]

-- what was before
pub tail_after : (later earlier : List ledger.Entry) → IsTail (reduced earlier) (reduced (later ++ earlier))
tail_after [] earlier = Rattle.mdcc_theorem_agreement.proofs.LedgersGrow.IsTail-same (reduced earlier)
tail_after (e ∷ later) earlier = inr (tail_after later earlier)
