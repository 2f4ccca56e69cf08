-- Which facts a vote comes from, and that an option which a quorum gave something has a voter.
use Rattle.std.proofs.Common.{◌≡◌, ℕ, ◌+◌, ◌≤◌, ◌<◌, zero, suc, Bool, List, [], ◌∷◌, ◌++◌, ◌==◌, ◌&&◌, None, Option, Some, arith, cond, false, true, inl, inr, map, refl, sym, ap, ◌∙◌, ◌⊎◌, subst}
use Rattle.std.proofs.lemmas.Bool.{and_parts, cases_Bool, eqb-true}
use Rattle.std.proofs.lemmas.List.{reverse-append}
use Rattle.std.specs.List.{range_with_len}
use Rattle.std.specs.Option.{option_or}
use Rattle.std.specs.Prelude.{flat_map, reverse}
use Rattle.mdcc_base.specs.Ballot.{ballot_eq}
use Rattle.mdcc_base.specs.Counts.{number_of}
use Rattle.mdcc_base.specs.Key.{key_eq}
use Rattle.mdcc_base.specs.Quorums.{all_centres}
use Rattle.mdcc_base.specs.declared.identifiers.Ballot.{Ballot}
use Rattle.mdcc_base.specs.declared.identifiers.TxId.{TxId}
use Rattle.mdcc_base.specs.declared.key.Key.{Key}
use Rattle.mdcc_option.specs.declared.choices.Choice.{Choice}
use Rattle.mdcc_option.specs.declared.choices.Mark.{Mark}
use Rattle.mdcc_option.specs.declared.cluster.Cluster.{Cluster}
use Rattle.mdcc_struct.proofs.Values.{value_of-union}
use Rattle.mdcc_struct.specs.Maps.{value_of}
use Rattle.mdcc_struct.specs.declared.options.Options.{Options}
use Rattle.mdcc_def_protocol.specs.Facts.{marks_voted, votes_of}
use Rattle.mdcc_def_messages.specs.declared.facts.Fact.{Fact}
use Rattle.mdcc_def_ledger.specs.Ledger.{Entry, facts_of}
use Rattle.mdcc_theorem_agreement.proofs.ReducedOptions.{In}
use Rattle.mdcc_theorem_agreement.proofs.TestsDecide.{Decides-ballot, Decides-key}
use Rattle.mdcc_audit.specs.Auditing.{Placed}
use Rattle.mdcc_audit.specs.Contradictions.{IsOneOf}
use Rattle.mdcc_audit.specs.Logs.{placed_from, placed_log, placed_of}
use Rattle.mdcc_audit.specs.declared.audited.Place.{Place}
use Rattle.mdcc_theorem_audit.proofs.Begun.{value-listed}
use Rattle.mdcc_theorem_audit.specs.Ledgers.{logs_of}

-- ---- numbers

pub some-passes : {X : Type 0} (p : X → Bool) (xs : List X) → 0 < number_of p xs → (x : X) × IsOneOf x xs × (p x ≡ true)
some-passes p [] h = elim (none h) [ ]
  where
    none : 0 < 0 → ⊥
    none h = omega arith
some-passes p (x ∷ xs) h =
    elim (cases_Bool (p x)) [
      | inl e ↦ (x, inl refl, e)
      | inr e ↦
          let more : 0 < number_of p xs = rest (p x) e h in
          let k = some-passes p xs more in
          (k.0, inr k.1, k.2)
    ]
  where
    rest : (b : Bool) → b ≡ false → 0 < cond b 1 0 + number_of p xs → 0 < number_of p xs
    rest true e h = cc
    rest false e h = omega arith

pub number-within : {X : Type 0} (p q : X → Bool) (xs : List X) → ((x : X) → IsOneOf x xs → p x ≡ q x) → number_of p xs ≡ number_of q xs
number-within p q [] h = refl
number-within p q (x ∷ xs) h = rw (h x (inl refl), number-within p q xs (λ y there. h y (inr there))) refl

pub within-range : (a c n : ℕ) → IsOneOf a (range_with_len c n) → (c ≤ a) × (a < c + n)
within-range a c zero h = elim h [ ]
within-range a c (suc n) (inl same) = (omega arith, omega arith)
within-range a c (suc n) (inr more) = let k : (c + 1 ≤ a) × (a < (c + 1) + n) = within-range a (c + 1) n more in (omega arith, omega arith)

-- ---- the fact that a vote comes from

abbrev pub VoteIn : List Fact → Key → ℕ → Ballot → TxId → Mark → Type 0
VoteIn facts key version ballot t x = (options : Options) × (offered : Option Choice) × IsOneOf (Fact.Voted key version ballot options offered) facts × In (t, x) options

module _ (cluster : Cluster) (key : Key) (version : ℕ) (ballot : Ballot) (t : TxId) (x : Mark) where
  voted-here : (fact : Fact) (facts : List Fact) → value_of (marks_voted key version ballot fact) t ≡ Some x → VoteIn (fact ∷ facts) key version ballot t x
  voted-here (Fact.Booted epoch) facts h = cc
  voted-here (Fact.Floor origin era upto) facts h = cc
  voted-here (Fact.Promised k low high b) facts h = cc
  voted-here (Fact.Heard tx outcome) facts h = cc
  voted-here (Fact.Adopted k v item adds) facts h = cc
  voted-here (Fact.Voted k v b options offered) facts h = by_test (((v == version) && ballot_eq b ballot) && key_eq k key) refl
    where
      by_test : (test : Bool) → (((v == version) && ballot_eq b ballot) && key_eq k key) ≡ test → VoteIn (Fact.Voted k v b options offered ∷ facts) key version ballot t x
      by_test false away =
          let none : value_of (cond false options []) t ≡ Some x = subst (λ test. value_of (cond test options []) t ≡ Some x) away h in
          let bad : None ≡ Some x = none in
          cc
      by_test true here =
          let value : value_of options t ≡ Some x = subst (λ test. value_of (cond test options []) t ≡ Some x) here h in
          let one : (((v == version) && ballot_eq b ballot) ≡ true) × (key_eq k key ≡ true) = and_parts ((v == version) && ballot_eq b ballot) (key_eq k key) here in
          let two : ((v == version) ≡ true) × (ballot_eq b ballot ≡ true) = and_parts (v == version) (ballot_eq b ballot) one.0 in
          let fact : Fact.Voted key version ballot options offered ≡ Fact.Voted k v b options offered =
          ap (λ (z : Key). Fact.Voted z version ballot options offered) (sym ((Decides-key k key).0 one.1))
          ∙ ap (λ (z : ℕ). Fact.Voted k z ballot options offered) (sym (eqb-true v version two.0))
          ∙ ap (λ (z : Ballot). Fact.Voted k v z options offered) (sym ((Decides-ballot b ballot).0 two.1)) in
          (options, offered, inl fact, value-listed cluster options t x value)

  or-cases : (o p : Option Mark) → option_or o p ≡ Some x → (o ≡ Some x) ⊎ (p ≡ Some x)
  or-cases None p h = inr h
  or-cases (Some y) p h = inl h

  pub vote-fact : (facts : List Fact) → value_of (votes_of facts key version ballot) t ≡ Some x → VoteIn facts key version ballot t x
  vote-fact [] h = cc
  vote-fact (fact ∷ facts) h =
      elim (or-cases (value_of (votes_of facts key version ballot) t) (value_of (marks_voted key version ballot fact) t)
      (sym (value_of-union (votes_of facts key version ballot) (marks_voted key version ballot fact) t) ∙ h)) [
        | inl before ↦ let k = vote-fact facts before in (k.0, k.1, inr k.2, k.3)
        | inr here ↦ voted-here fact facts here
      ]

-- ---- where a fact stands in the logs

pub in-left : {X : Type 0} (x : X) (xs ys : List X) → IsOneOf x xs → IsOneOf x (xs ++ ys)
in-left x [] ys h = elim h [ ]
in-left x (y ∷ xs) ys (inl same) = inl same
in-left x (y ∷ xs) ys (inr more) = inr (in-left x xs ys more)

in-right : {X : Type 0} (x : X) (xs ys : List X) → IsOneOf x ys → IsOneOf x (xs ++ ys)
in-right x [] ys h = h
in-right x (y ∷ xs) ys h = inr (in-right x xs ys h)

placed-in-log : (fact : Fact) (c number : ℕ) (facts : List Fact) → IsOneOf fact facts → (place : Place) × IsOneOf (place, fact) (placed_log c number facts)
placed-in-log fact c number [] h = elim h [ ]
placed-in-log fact c number (f ∷ facts) (inl same) =
    (record { centre = c; number = number }, inl (ap (λ (z : Fact). let p : Placed = (record { centre = c; number = number }, z) in p) same))
placed-in-log fact c number (f ∷ facts) (inr more) = let k = placed-in-log fact c (number + 1) facts more in (k.0, inr k.1)

placed-in-logs : (fact : Fact) (log_of : ℕ → List Fact) (a c n : ℕ) → IsOneOf a (range_with_len c n) → IsOneOf fact (log_of a)
    → (place : Place) × IsOneOf (place, fact) (placed_from c (map log_of (range_with_len c n)))
placed-in-logs fact log_of a c zero there h = elim there [ ]
placed-in-logs fact log_of a c (suc n) (inl same) h =
    let k = placed-in-log fact c 1 (log_of c) (subst (λ (z : ℕ). IsOneOf fact (log_of z)) same h) in
    (k.0, in-left (k.0, fact) (placed_log c 1 (log_of c)) (placed_from (c + 1) (map log_of (range_with_len (c + 1) n))) k.1)
placed-in-logs fact log_of a c (suc n) (inr more) h =
    let k = placed-in-logs fact log_of a (c + 1) n more h in
    (k.0, in-right (k.0, fact) (placed_log c 1 (log_of c)) (placed_from (c + 1) (map log_of (range_with_len (c + 1) n))) k.1)

in-reversed : {X : Type 0} (x : X) (xs : List X) → IsOneOf x xs → IsOneOf x (reverse xs)
in-reversed x [] h = h
in-reversed x (y ∷ xs) (inl same) =
    subst (λ zs. IsOneOf x zs) (sym (reverse-append (y ∷ []) xs)) (in-right x (reverse xs) (y ∷ []) (inl same))
in-reversed x (y ∷ xs) (inr more) =
    subst (λ zs. IsOneOf x zs) (sym (reverse-append (y ∷ []) xs)) (in-left x (reverse xs) (y ∷ []) (in-reversed x xs more))

-- a fact of a centre of the cluster stands in the logs
pub fact-placed : (cluster : Cluster) (ledger : List Entry) (a : ℕ) (fact : Fact) → IsOneOf a (all_centres cluster.quorums) → IsOneOf fact (facts_of ledger a)
    → (place : Place) × IsOneOf (place, fact) (placed_of (logs_of cluster ledger))
fact-placed cluster ledger a fact centre h = placed-in-logs fact (λ b. reverse (facts_of ledger b)) a 1 cluster.quorums.centres centre (in-reversed fact (facts_of ledger a) h)

pub to-each : {X Y : Type 0} (f : X → List Y) (x : X) (y : Y) (xs : List X) → IsOneOf x xs → IsOneOf y (f x) → IsOneOf y (flat_map f xs)
to-each f x y [] there h = elim there [ ]
to-each f x y (z ∷ zs) (inl same) h = in-left y (f z) (flat_map f zs) (subst (λ w. IsOneOf y (f w)) same h)
to-each f x y (z ∷ zs) (inr more) h = in-right y (f z) (flat_map f zs) (to-each f x y zs more h)
