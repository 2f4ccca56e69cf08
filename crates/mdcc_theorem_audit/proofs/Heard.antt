-- Each outcome that a centre heard is that of the ledger.
use Rattle.std.proofs.Common.{◌≡◌, ℕ, Bool, List, [], ◌∷◌, ◌++◌, ◌+◌, ◌==◌, Some, append_assoc, cond, false, true, inl, inr, refl, sym, ap, ◌∙◌, map, subst}
use Rattle.std.proofs.lemmas.List.{reverse-append}
use Rattle.std.specs.Prelude.{flat_map, reverse}
use Rattle.mdcc_base.specs.Quorums.{all_centres}
use Rattle.mdcc_base.specs.declared.identifiers.TxId.{TxId}
use Rattle.mdcc_option.specs.declared.choices.Outcome.{Outcome}
use Rattle.mdcc_option.specs.declared.cluster.Cluster.{Cluster}
use Rattle.mdcc_def_messages.specs.declared.facts.Fact.{Fact}
use Rattle.mdcc_def_ledger.specs.AllowedLedgers.{IsAllowed, IsAllowedEntry}
use Rattle.mdcc_def_ledger.specs.Ledger.{Added, Entry, facts_of, outcome_of}
use Rattle.mdcc_theorem_agreement.proofs.LawsTold.{outcome_kept}
use Rattle.mdcc_theorem_agreement.specs.Laws.{IsLedger}
use Rattle.mdcc_audit.proofs.InOrder.{either, from-each}
use Rattle.mdcc_audit.proofs.Tests.{Decides-subject}
use Rattle.mdcc_audit.specs.Auditing.{Placed}
use Rattle.mdcc_audit.specs.Contradictions.{AreAlike, IsOneOf, Saying, outcome_sayings}
use Rattle.mdcc_audit.specs.Logs.{placed_from, placed_log, placed_of}
use Rattle.mdcc_audit.specs.Sayings.{outcome_value}
use Rattle.mdcc_audit.specs.declared.subjects.Subject.{Subject}
use Rattle.mdcc_theorem_audit.specs.Ledgers.{logs_of}

-- ---- which facts stand in logs

in-log : (centre number : ℕ) (facts : List Fact) (one : Placed) → IsOneOf one (placed_log centre number facts) → IsOneOf one.1 facts
in-log centre number [] one is = elim is [ ]
in-log centre number (fact ∷ facts) one (inl same) = inl (ap (λ (p : Placed). p.1) same)
in-log centre number (fact ∷ facts) one (inr more) = inr (in-log centre (number + 1) facts one more)

pub in-logs : (centre : ℕ) (logs : List (List Fact)) (one : Placed) → IsOneOf one (placed_from centre logs) → (log : List Fact) × IsOneOf log logs × IsOneOf one.1 log
in-logs centre [] one is = elim is [ ]
in-logs centre (log ∷ logs) one is =
    elim (either one (placed_log centre 1 log) (placed_from (centre + 1) logs) is) [
      | inl here ↦ (log, inl refl, in-log centre 1 log one here)
      | inr there ↦ let h = in-logs (centre + 1) logs one there in (h.0, inr h.1, h.2)
    ]

pub from-mapped : {X Y : Type 0} (f : X → Y) (y : Y) (xs : List X) → IsOneOf y (map f xs) → (x : X) × (y ≡ f x)
from-mapped f y [] is = elim is [ ]
from-mapped f y (x ∷ xs) (inl same) = (x, same)
from-mapped f y (x ∷ xs) (inr more) = from-mapped f y xs more

pub from-reversed : {X : Type 0} (x : X) (xs : List X) → IsOneOf x (reverse xs) → IsOneOf x xs
from-reversed x [] is = is
from-reversed x (y ∷ xs) is =
    elim (either x (reverse xs) (y ∷ []) (subst (λ zs. IsOneOf x zs) (reverse-append (y ∷ []) xs) is)) [
      | inl more ↦ inr (from-reversed x xs more)
      | inr last ↦ inl (only last)
    ]
  where
    only : IsOneOf x (y ∷ []) → x ≡ y
    only (inl same) = same
    only (inr none) = elim none [ ]

-- ---- what was heard

allowed-before : (cluster : Cluster) (later before : List Entry) → IsAllowed cluster (later ++ before) → IsAllowed cluster before
allowed-before cluster [] before allowed = allowed
allowed-before cluster (e ∷ later) before allowed = allowed-before cluster later before allowed.0

one-more : (later before : List Entry) (e : Entry) → (later ++ e ∷ []) ++ before ≡ later ++ e ∷ before
one-more later before e = append_assoc later (e ∷ []) before

module _ (cluster : Cluster) (a : ℕ) (tx : TxId) (outcome : Outcome) where
  pub heard : (later before : List Entry) → IsLedger cluster (later ++ before) → IsOneOf (Fact.Heard tx outcome) (facts_of before a)
      → outcome_of cluster.quorums (later ++ before) tx ≡ Some outcome
  heard later [] h is = elim is [ ]
  heard later (Added c fact ∷ before) h is =
      let again : IsLedger cluster ((later ++ Added c fact ∷ []) ++ before) = subst (IsLedger cluster) (sym (one-more later before (Added c fact))) h in
      subst (λ entries. outcome_of cluster.quorums entries tx ≡ Some outcome) (one-more later before (Added c fact))
      (by_centre again (λ more. heard (later ++ Added c fact ∷ []) before again more) (c == a) refl)
    where
      now : (f : Fact) → IsAllowedEntry cluster before (Added c f) → Fact.Heard tx outcome ≡ f → outcome_of cluster.quorums before tx ≡ Some outcome
      now f entry same = (subst (λ g. IsAllowedEntry cluster before (Added c g)) (sym same) entry).2

      by_fact : IsLedger cluster ((later ++ Added c fact ∷ []) ++ before)
          → (IsOneOf (Fact.Heard tx outcome) (facts_of before a) → outcome_of cluster.quorums ((later ++ Added c fact ∷ []) ++ before) tx ≡ Some outcome)
          → IsOneOf (Fact.Heard tx outcome) (fact ∷ facts_of before a)
          → outcome_of cluster.quorums ((later ++ Added c fact ∷ []) ++ before) tx ≡ Some outcome
      by_fact again next (inl same) =
          outcome_kept cluster (later ++ Added c fact ∷ []) before again tx outcome
          (now fact (allowed-before cluster later (Added c fact ∷ before) h.allowed).1 same)
      by_fact again next (inr more) = next more

      by_centre : IsLedger cluster ((later ++ Added c fact ∷ []) ++ before)
          → (IsOneOf (Fact.Heard tx outcome) (facts_of before a) → outcome_of cluster.quorums ((later ++ Added c fact ∷ []) ++ before) tx ≡ Some outcome)
          → (here : Bool) → (c == a) ≡ here → outcome_of cluster.quorums ((later ++ Added c fact ∷ []) ++ before) tx ≡ Some outcome
      by_centre again next true here =
          by_fact again next (subst (λ b. IsOneOf (Fact.Heard tx outcome) (cond b (fact ∷ facts_of before a) (facts_of before a))) here is)
      by_centre again next false here =
          next (subst (λ b. IsOneOf (Fact.Heard tx outcome) (cond b (fact ∷ facts_of before a) (facts_of before a))) here is)
  heard later (Entry.Begun c t choices ∷ before) h is =
      let again : IsLedger cluster ((later ++ Entry.Begun c t choices ∷ []) ++ before) = subst (IsLedger cluster) (sym (one-more later before (Entry.Begun c t choices))) h in
      subst (λ entries. outcome_of cluster.quorums entries tx ≡ Some outcome) (one-more later before (Entry.Begun c t choices))
      (heard (later ++ Entry.Begun c t choices ∷ []) before again is)
  heard later (Entry.Valued c key version ballot options ∷ before) h is =
      let again : IsLedger cluster ((later ++ Entry.Valued c key version ballot options ∷ []) ++ before) =
      subst (IsLedger cluster) (sym (one-more later before (Entry.Valued c key version ballot options))) h in
      subst (λ entries. outcome_of cluster.quorums entries tx ≡ Some outcome) (one-more later before (Entry.Valued c key version ballot options))
      (heard (later ++ Entry.Valued c key version ballot options ∷ []) before again is)

-- ---- what is said of outcomes

-- a saying is that of the ledger's outcome
abbrev pub Tells : Cluster → List Entry → Saying → Type 0
Tells cluster ledger e = (outcome : Outcome) × (outcome_of cluster.quorums ledger e.0.tx ≡ Some outcome) × (e.1.value ≡ outcome_value outcome)

pub tells : (cluster : Cluster) (ledger : List Entry) → IsLedger cluster ledger → (e : Saying) → IsOneOf e (flat_map outcome_sayings (placed_of (logs_of cluster ledger))) → Tells cluster ledger e
tells cluster ledger h e is =
    let from = from-each outcome_sayings e (placed_of (logs_of cluster ledger)) is in
    let log = in-logs 1 (logs_of cluster ledger) from.0 from.1 in
    let centre = from-mapped (λ a. reverse (facts_of ledger a)) log.0 (all_centres cluster.quorums) log.1 in
    let there = from-reversed from.0.1 (facts_of ledger centre.0) (subst (λ facts. IsOneOf from.0.1 facts) centre.1 log.2) in
    of-fact from.0 centre.0 there from.2
  where
    of-fact : (one : Placed) (a : ℕ) → IsOneOf one.1 (facts_of ledger a) → IsOneOf e (outcome_sayings one) → Tells cluster ledger e
    of-fact (place, Fact.Heard tx outcome) a there (inl same) = (
      outcome,
      subst (λ (x : Saying). outcome_of cluster.quorums ledger x.0.tx ≡ Some outcome) (sym same) (heard cluster a tx outcome [] ledger h there),
      ap (λ (x : Saying). x.1.value) same,
    )
    of-fact (place, Fact.Heard tx outcome) a there (inr none) = elim none [ ]
    of-fact (place, Fact.Voted key version ballot options offered) a there none = elim none [ ]
    of-fact (place, Fact.Booted epoch) a there none = elim none [ ]
    of-fact (place, Fact.Floor centre era seq) a there none = elim none [ ]
    of-fact (place, Fact.Promised key low high ballot) a there none = elim none [ ]
    of-fact (place, Fact.Adopted key version item adds) a there none = elim none [ ]

some-same : (o p : Outcome) → Some o ≡ Some p → o ≡ p
some-same o p e = cc

pub outcomes-alike : (cluster : Cluster) (ledger : List Entry) → IsLedger cluster ledger → AreAlike (flat_map outcome_sayings (placed_of (logs_of cluster ledger)))
outcomes-alike cluster ledger h a b x y same =
    let p = tells cluster ledger h a x in
    let q = tells cluster ledger h b y in
    let subjects : a.0 ≡ b.0 = (Decides-subject a.0 b.0).0 same in
    let one : p.0 ≡ q.0 = some-same p.0 q.0 (sym p.1 ∙ ap (λ (s : Subject). outcome_of cluster.quorums ledger s.tx) subjects ∙ q.1) in
    p.2 ∙ ap outcome_value one ∙ sym q.2
