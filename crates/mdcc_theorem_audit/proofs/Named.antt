-- Each choice that a fact of an allowed ledger names was begun, and so those of one transaction are alike.
use Rattle.std.proofs.Common.{◌≡◌, ℕ, ◌<◌, Bool, List, [], ◌∷◌, None, Option, Some, arith, false, true, inl, inr, length, refl, sym, ap, ◌∙◌, subst}
use Rattle.std.proofs.lemmas.Bool.{MatchBool-at_true, MatchBool-at_false}
use Rattle.std.specs.Option.{option_to_list}
use Rattle.std.specs.Prelude.{IsTrue, filter_map, flat_map, reverse}
use Rattle.mdcc_base.specs.Ballot.{is_fast}
use Rattle.mdcc_base.specs.Quorums.{all_centres}
use Rattle.mdcc_base.specs.declared.identifiers.Ballot.{Ballot}
use Rattle.mdcc_base.specs.declared.identifiers.TxId.{TxId}
use Rattle.mdcc_base.specs.declared.key.Key.{Key}
use Rattle.mdcc_option.specs.declared.choices.Choice.{Choice}
use Rattle.mdcc_option.specs.declared.choices.Mark.{Mark}
use Rattle.mdcc_option.specs.declared.choices.Outcome.{Outcome}
use Rattle.mdcc_option.specs.declared.cluster.Cluster.{Cluster}
use Rattle.mdcc_struct.specs.declared.options.Options.{Options}
use Rattle.mdcc_def_protocol.specs.Facts.{votes_of}
use Rattle.mdcc_def_protocol.specs.Marks.{choice_in}
use Rattle.mdcc_def_messages.specs.declared.facts.Fact.{Fact}
use Rattle.mdcc_def_ledger.specs.AllowedFacts.{IsFastVote, MayVoteClassic}
use Rattle.mdcc_def_ledger.specs.AllowedLedgers.{IsAllowed, IsAllowedEntry, IsSent, is_fast_vote_begun}
use Rattle.mdcc_def_ledger.specs.Ledger.{Added, Entry, choices_begun, facts_of, outcome_of}
use Rattle.mdcc_struct.specs.Maps.{union}
use Rattle.mdcc_theorem_agreement.proofs.BegunOnce.{begun_apart, begun_once, begun_own}
use Rattle.mdcc_theorem_agreement.proofs.LawsTold.{allowed, commit_begun}
use Rattle.mdcc_theorem_agreement.proofs.OutcomeToReduced.{begun_found}
use Rattle.mdcc_theorem_agreement.proofs.ReducedLedger.{IsChoice, WasBegun}
use Rattle.mdcc_theorem_agreement.proofs.ReducedOptions.{In, spot}
use Rattle.mdcc_theorem_agreement.proofs.Reduction.{reduced, setup_of}
use Rattle.mdcc_theorem_agreement.proofs.TestsDecide.{same_place}
use Rattle.mdcc_theorem_agreement.specs.Laws.{IsLedger}
use Rattle.mdcc_audit.proofs.InOrder.{either, from-each}
use Rattle.mdcc_audit.proofs.Tests.{Decides-subject}
use Rattle.mdcc_audit.specs.Auditing.{Placed}
use Rattle.mdcc_audit.specs.Contradictions.{AreAlike, IsOneOf, Saying, choice_sayings, choices_in, choices_named}
use Rattle.mdcc_audit.specs.Logs.{placed_of}
use Rattle.mdcc_audit.specs.Subjects.{of_key, of_tx}
use Rattle.mdcc_audit.specs.declared.audited.Place.{Place as FactPlace}
use Rattle.mdcc_audit.specs.declared.subjects.Subject.{Subject}
use Rattle.mdcc_audit.specs.declared.values.Value.{Value}
use Rattle.mdcc_theorem_audit.proofs.Begun.{Fine, IsOwn, all-own, at, at-its-entry, begun-choice, choice-more, own-more, valued-own, value-listed}
use Rattle.mdcc_theorem_audit.proofs.Heard.{from-mapped, from-reversed, heard, in-logs}
use Rattle.mdcc_theorem_audit.proofs.Voted.{made}
use Rattle.mdcc_theorem_audit.proofs.WriteSets.{one-write_set}
use Rattle.mdcc_theorem_audit.specs.Ledgers.{logs_of}

-- ---- lists

pub listed-in : {X : Type 0} (x : X) (xs : List X) → IsOneOf x xs → In x xs
listed-in x [] h = elim h [ ]
listed-in x (y ∷ ys) (inl same) = inl (sym same)
listed-in x (y ∷ ys) (inr more) = inr (listed-in x ys more)

some-listed : {X : Type 0} (x : X) (xs : List X) → IsOneOf x xs → 0 < length xs
some-listed x [] h = elim h [ ]
some-listed x (y ∷ ys) h = omega arith

accepted-listed : (c : Choice) (options : Options) → IsOneOf c (filter_map (λ e. choice_in e.1) options) → (t : TxId) × In (t, Mark.Accept c) options
accepted-listed c [] h = elim h [ ]
accepted-listed c ((t, Mark.Accept d) ∷ os) (inl same) = (t, inl (ap (λ (z : Choice). let p : TxId × Mark = (t, Mark.Accept z) in p) (sym same)))
accepted-listed c ((t, Mark.Accept d) ∷ os) (inr more) = let k = accepted-listed c os more in (k.0, inr k.1)
accepted-listed c ((t, Mark.Reject) ∷ os) more = let k = accepted-listed c os more in (k.0, inr k.1)

-- ---- votes

module _ (cluster : Cluster) where
  fast-own : (a : ℕ) (es : List Entry) → Fine cluster es → (key : Key) (version : ℕ) (options : Options) (offered : Option Choice)
      → IsFastVote cluster (facts_of es a) key version options offered → is_fast_vote_begun es key version options offered ≡ true
      → (t : TxId) (x : Mark) → In (t, x) options → IsOwn es (at key version) t x
  fast-own a es fine key version options None may begun t x there = all-own cluster es fine key version options begun t x there
  fast-own a es fine key version [] (Some choice) may begun t x there = elim there [ ]
  fast-own a es fine key version ((tx, Mark.Accept c) ∷ []) (Some choice) may begun t x there = elim may [ ]
  fast-own a es fine key version (e ∷ f ∷ os) (Some choice) may begun t x there = elim (never e may) [ ]
    where
      never : (e : TxId × Mark) → IsFastVote cluster (facts_of es a) key version (e ∷ f ∷ os) (Some choice) → ⊥
      never (tx, Mark.Accept c) may = may
      never (tx, Mark.Reject) may = may
  fast-own a es fine key version ((tx, Mark.Reject) ∷ []) (Some choice) may begun t x (inr none) = elim none [ ]
  fast-own a es fine key version ((tx, Mark.Reject) ∷ []) (Some choice) may begun t x (inl same) =
      subst (λ (z : TxId × Mark). IsOwn es (at key version) z.0 z.1) same
      (choice, begun-choice es choice begun, may.of_tx, same_place (spot choice) (at key version) (may.of_key, may.of_version))

  -- each mark of a vote
  pub voted-own : (ledger : List Entry) → IsAllowed cluster ledger → Fine cluster ledger → (a : ℕ) (key : Key) (version : ℕ) (ballot : Ballot) (options : Options) (offered : Option Choice)
      → IsOneOf (Fact.Voted key version ballot options offered) (facts_of ledger a) → (t : TxId) (x : Mark) → In (t, x) options → IsOwn ledger (at key version) t x
  voted-own ledger ok fine a key version ballot options offered is t x there = by_ballot (is_fast ballot) refl
    where
      by_ballot : (fast : Bool) → is_fast ballot ≡ fast → IsOwn ledger (at key version) t x
      by_ballot true fast =
          at-its-entry cluster (Fact.Voted key version ballot options offered) (λ es. IsOwn es (at key version) t x)
          (λ e es known. own-more e es (at key version) t x known)
          (λ c es ok_before fine_before entry.
          fast-own c es fine_before key version options offered
          (MatchBool-at_true (IsFastVote cluster (facts_of es c) key version options offered) (MayVoteClassic (facts_of es c) key version ballot options offered) fast entry.1.kind)
          (MatchBool-at_true (IsTrue (is_fast_vote_begun es key version options offered)) (IsSent es (facts_of es c) key version ballot (union (votes_of (facts_of es c) key version ballot) options)) fast entry.2)
          t x there)
          a ledger ok fine is
      by_ballot false classic =
          let was = made cluster a key version ballot options offered classic t x there ledger ok is in
          valued-own cluster ledger ok fine key version ballot was.0 was.1 t x (value-listed cluster was.0 t x was.2)

  offered-begun : (ledger : List Entry) → IsAllowed cluster ledger → Fine cluster ledger → (a : ℕ) (key : Key) (version : ℕ) (ballot : Ballot) (options : Options) (choice : Choice)
      → IsOneOf (Fact.Voted key version ballot options (Some choice)) (facts_of ledger a) → IsChoice (reduced ledger) choice
  offered-begun ledger ok fine a key version ballot options choice is =
      at-its-entry cluster (Fact.Voted key version ballot options (Some choice)) (λ es. IsChoice (reduced es) choice)
      (λ e es known. choice-more e es choice known)
      (λ c es ok_before fine_before entry. by_ballot c es entry (is_fast ballot) refl) a ledger ok fine is
    where
      by_ballot : (c : ℕ) (es : List Entry) → IsAllowedEntry cluster es (Added c (Fact.Voted key version ballot options (Some choice)))
          → (fast : Bool) → is_fast ballot ≡ fast → IsChoice (reduced es) choice
      by_ballot c es entry true fast =
          begun-choice es choice
          (MatchBool-at_true (IsTrue (is_fast_vote_begun es key version options (Some choice))) (IsSent es (facts_of es c) key version ballot (union (votes_of (facts_of es c) key version ballot) options)) fast entry.2)
      by_ballot c es entry false classic =
          let may : MayVoteClassic (facts_of es c) key version ballot options (Some choice) =
          MatchBool-at_false (IsFastVote cluster (facts_of es c) key version options (Some choice)) (MayVoteClassic (facts_of es c) key version ballot options (Some choice)) classic entry.1.kind in
          let none : Some choice ≡ None = may.no_offer in
          cc

-- ---- choices that facts name

module _ (cluster : Cluster) (ledger : List Entry) (h : IsLedger cluster ledger) where
  pub fine : Fine cluster ledger
  fine = allowed cluster ledger h

  pub named-begun : (a : ℕ) (fact : Fact) → IsOneOf fact (facts_of ledger a) → (c : Choice) → IsOneOf c (choices_named fact) → IsChoice (reduced ledger) c
  named-begun a (Fact.Voted key version ballot options offered) is c named =
      elim (either c (filter_map (λ e. choice_in e.1) options) (option_to_list offered) named) [
        | inl accepted ↦
            let k = accepted-listed c options accepted in
            (voted-own cluster ledger h.allowed fine a key version ballot options offered is k.0 (Mark.Accept c) k.1).0
        | inr one ↦ of-offered offered is one
      ]
    where
      of-offered : (offered : Option Choice) → IsOneOf (Fact.Voted key version ballot options offered) (facts_of ledger a) → IsOneOf c (option_to_list offered) → IsChoice (reduced ledger) c
      of-offered None is one = elim one [ ]
      of-offered (Some choice) is (inr none) = elim none [ ]
      of-offered (Some choice) is (inl same) = subst (λ (z : Choice). IsChoice (reduced ledger) z) (sym same) (offered-begun cluster ledger h.allowed fine a key version ballot options choice is)
  named-begun a (Fact.Heard tx (Outcome.Commit choices)) is c named =
      let outcome : outcome_of cluster.quorums ledger tx ≡ Some (Outcome.Commit choices) = heard cluster a tx (Outcome.Commit choices) [] ledger h is in
      let same : choices_begun ledger tx ≡ choices = commit_begun cluster ledger h tx choices outcome in
      let listed : In c (choices_begun ledger tx) = subst (In c) (sym same) (listed-in c choices named) in
      let begun : WasBegun (reduced ledger) tx (choices_begun ledger tx) =
      begun_found ledger tx (subst (λ (z : List Choice). 0 < length z) (sym same) (some-listed c choices named)) in
      let own : c.tx ≡ tx = begun_own (setup_of cluster) (reduced ledger) tx (choices_begun ledger tx) fine begun c listed in
      (choices_begun ledger tx, subst (λ (z : TxId). WasBegun (reduced ledger) z (choices_begun ledger tx)) (sym own) begun, listed)
  named-begun a (Fact.Heard tx Outcome.Abort) is c named = elim named [ ]
  named-begun a (Fact.Booted epoch) is c named = elim named [ ]
  named-begun a (Fact.Floor origin era upto) is c named = elim named [ ]
  named-begun a (Fact.Promised key low high ballot) is c named = elim named [ ]
  named-begun a (Fact.Adopted key version item adds) is c named = elim named [ ]

  -- ---- what is said of choices

  -- a saying is that of a choice which was begun
  abbrev pub FromChoice : Saying → Type 0
  FromChoice e = (c : Choice) × (place : FactPlace) × IsChoice (reduced ledger) c × IsOneOf e (choice_sayings place c)

  pub from-choice : (e : Saying) → IsOneOf e (flat_map choices_in (placed_of (logs_of cluster ledger))) → FromChoice e
  from-choice e is =
      let from = from-each choices_in e (placed_of (logs_of cluster ledger)) is in
      let log = in-logs 1 (logs_of cluster ledger) from.0 from.1 in
      let centre = from-mapped (λ a. reverse (facts_of ledger a)) log.0 (all_centres cluster.quorums) log.1 in
      let there = from-reversed from.0.1 (facts_of ledger centre.0) (subst (λ facts. IsOneOf from.0.1 facts) centre.1 log.2) in
      of-fact from.0 centre.0 there from.2
    where
      of-fact : (one : Placed) (a : ℕ) → IsOneOf one.1 (facts_of ledger a) → IsOneOf e (choices_in one) → FromChoice e
      of-fact (place, fact) a there is =
          let k = from-each (choice_sayings place) e (choices_named fact) is in
          (k.0, place, named-begun a fact there k.0 k.1, k.2)

  -- choices of one transaction are of one list
  one-list : (c d : Choice) (p : IsChoice (reduced ledger) c) (q : IsChoice (reduced ledger) d) → c.tx ≡ d.tx → p.0 ≡ q.0
  one-list c d p q same =
      begun_once (setup_of cluster) (reduced ledger) d.tx p.0 q.0 fine (subst (λ (z : TxId). WasBegun (reduced ledger) z p.0) same p.1) q.1

  same-key : (c d : Choice) (p : IsChoice (reduced ledger) c) (q : IsChoice (reduced ledger) d) → c.tx ≡ d.tx → c.key ≡ d.key → c ≡ d
  same-key c d p q tx key =
      begun_apart (setup_of cluster) (reduced ledger) d.tx q.0 fine q.1 c d (subst (In c) (one-list c d p q tx) p.2) q.2 key

  same-write_set : (c d : Choice) (p : IsChoice (reduced ledger) c) (q : IsChoice (reduced ledger) d) → c.tx ≡ d.tx → c.write_set ≡ d.write_set
  same-write_set c d p q tx =
      one-write_set cluster ledger h.allowed d.tx q.0 q.1 c (subst (In c) (one-list c d p q tx) p.2)
      ∙ sym (one-write_set cluster ledger h.allowed d.tx q.0 q.1 d q.2)

  alike : (a b : Saying) (c d : Choice) (pc pd : FactPlace) → IsChoice (reduced ledger) c → IsChoice (reduced ledger) d → IsOneOf a (choice_sayings pc c) → IsOneOf b (choice_sayings pd d)
      → a.0 ≡ b.0 → a.1.value ≡ b.1.value
  alike a b c d pc pd p q (inr (inr none)) y same = elim none [ ]
  alike a b c d pc pd p q (inl x) (inr (inr none)) same = elim none [ ]
  alike a b c d pc pd p q (inr (inl x)) (inr (inr none)) same = elim none [ ]
  alike a b c d pc pd p q (inl x) (inl y) same =
      let subjects : of_key c.tx c.key ≡ of_key d.tx d.key = sym (ap (λ (z : Saying). z.0) x) ∙ same ∙ ap (λ (z : Saying). z.0) y in
      let one : c ≡ d = same-key c d p q (ap (λ (s : Subject). s.tx) subjects) (ap (λ (s : Subject). s.key) subjects) in
      ap (λ (z : Saying). z.1.value) x ∙ ap (λ (z : Choice). Value.Choices (z ∷ [])) one ∙ sym (ap (λ (z : Saying). z.1.value) y)
  alike a b c d pc pd p q (inr (inl x)) (inr (inl y)) same =
      let subjects : of_tx c.tx ≡ of_tx d.tx = sym (ap (λ (z : Saying). z.0) x) ∙ same ∙ ap (λ (z : Saying). z.0) y in
      let one : c.write_set ≡ d.write_set = same-write_set c d p q (ap (λ (s : Subject). s.tx) subjects) in
      ap (λ (z : Saying). z.1.value) x ∙ ap Value.Places one ∙ sym (ap (λ (z : Saying). z.1.value) y)
  alike a b c d pc pd p q (inl x) (inr (inl y)) same =
      let subjects : of_key c.tx c.key ≡ of_tx d.tx = sym (ap (λ (z : Saying). z.0) x) ∙ same ∙ ap (λ (z : Saying). z.0) y in
      let bad : false ≡ true = ap (λ (s : Subject). s.whole) subjects in
      cc
  alike a b c d pc pd p q (inr (inl x)) (inl y) same =
      let subjects : of_tx c.tx ≡ of_key d.tx d.key = sym (ap (λ (z : Saying). z.0) x) ∙ same ∙ ap (λ (z : Saying). z.0) y in
      let bad : true ≡ false = ap (λ (s : Subject). s.whole) subjects in
      cc

  pub choices-alike : AreAlike (flat_map choices_in (placed_of (logs_of cluster ledger)))
  choices-alike a b x y same =
      let p = from-choice a x in
      let q = from-choice b y in
      alike a b p.0 q.0 p.1 q.1 p.2 q.2 p.3 q.3 ((Decides-subject a.0 b.0).0 same)
