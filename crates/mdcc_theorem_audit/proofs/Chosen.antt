-- In the logs of an allowed ledger an option is noted as accepted or rejected just where the ledger has it chosen so.
use Rattle.std.proofs.Common.{◌≡◌, ℕ, ◌≤◌, ◌<◌, Bool, List, ◌==◌, ◌&&◌, None, Option, Some, arith, false, true, inl, inr, refl, sym, ap, ◌∙◌, subst}
use Rattle.std.proofs.lemmas.Bool.{and_from, cases_Bool, eq-eqb, le-leb, leb-true}
use Rattle.std.specs.Option.{option_map}
use Rattle.std.specs.Prelude.{flat_map}
use Rattle.mdcc_base.specs.Counts.{number_of}
use Rattle.mdcc_base.specs.Key.{key_eq}
use Rattle.mdcc_base.specs.Quorums.{all_centres, quorum_size}
use Rattle.mdcc_base.specs.TxId.{tx_eq}
use Rattle.mdcc_base.specs.declared.identifiers.Ballot.{Ballot}
use Rattle.mdcc_base.specs.declared.identifiers.TxId.{TxId}
use Rattle.mdcc_base.specs.declared.key.Key.{Key}
use Rattle.mdcc_option.specs.Equality.{mark_eq}
use Rattle.mdcc_option.specs.declared.choices.Choice.{Choice}
use Rattle.mdcc_option.specs.declared.choices.Mark.{Mark}
use Rattle.mdcc_option.specs.declared.cluster.Cluster.{Cluster}
use Rattle.mdcc_def_protocol.specs.Marks.{is_reject_found}
use Rattle.mdcc_def_ledger.specs.Ledger.{Entry, chosen_of, facts_of, is_chosen_at, mark_given, marks_given}
use Rattle.mdcc_theorem_agreement.proofs.BegunOnce.{one_choice}
use Rattle.mdcc_theorem_agreement.proofs.ChosenFound.{chosen_of-shows, quorum_some}
use Rattle.mdcc_theorem_agreement.proofs.LawsTold.{mark_found, setup_fine}
use Rattle.mdcc_theorem_agreement.proofs.ReducedOptions.{Place, spot}
use Rattle.mdcc_theorem_agreement.proofs.Reduction.{reduced, setup_of}
use Rattle.mdcc_theorem_agreement.proofs.TestsDecide.{Decides-key, Decides-mark, Decides-tx}
use Rattle.mdcc_theorem_agreement.specs.Laws.{IsLedger}
use Rattle.mdcc_audit.specs.Auditing.{audit_state_after, nothing_taken}
use Rattle.mdcc_audit.specs.Contradictions.{IsOneOf}
use Rattle.mdcc_audit.specs.Logs.{placed_of}
use Rattle.mdcc_audit.specs.Subjects.{at_instance, in_vote, of_tx}
use Rattle.mdcc_audit.specs.Votes.{CountedVotes, given_eq, given_of, is_among, is_own}
use Rattle.mdcc_audit.specs.declared.subjects.Subject.{Subject}
use Rattle.mdcc_audit.specs.declared.votes.Given.{Given}
use Rattle.mdcc_theorem_audit.proofs.Begun.{IsOwn, at}
use Rattle.mdcc_theorem_audit.proofs.Casts.{Cast, all-counted, casts_in, first_cast}
use Rattle.mdcc_theorem_audit.proofs.Logged.{first-given, no-whole}
use Rattle.mdcc_theorem_audit.proofs.Named.{fine, voted-own}
use Rattle.mdcc_theorem_audit.proofs.Noted.{Given-by, accepted-noted, counted_of, noted-accepted, noted-rejected, number-listed, number-none, number-same, passes, rejected-noted}
use Rattle.mdcc_theorem_audit.proofs.Voters.{number-within, some-passes, vote-fact, within-range}
use Rattle.mdcc_theorem_audit.specs.Ledgers.{logs_of}

pub one-answer : (a b : Bool) → (a ≡ true → b ≡ true) → (b ≡ true → a ≡ true) → a ≡ b
one-answer true b to back = sym (to refl)
one-answer false true to back = back refl
one-answer false false to back = refl

-- what is chosen accepts a choice
abbrev pub is_accept_found : Option Mark → Bool
is_accept_found (Some (Mark.Accept choice)) = true
is_accept_found _ = false

-- ---- what marks give

gives-rejection : (t : TxId) (key : Key) (version : ℕ) (o : Option Mark)
    → passes (given_eq Given.Rejection) (option_map (given_of t key version) o) ≡ passes (mark_eq Mark.Reject) o
gives-rejection t key version None = refl
gives-rejection t key version (Some Mark.Reject) = refl
gives-rejection t key version (Some (Mark.Accept c)) =
    elim (cases_Bool (is_own t key version c)) [ inl e ↦ rw e refl | inr e ↦ rw e refl ]

own-itself : (t : TxId) (key : Key) (version : ℕ) (c : Choice) → c.tx ≡ t → spot c ≡ at key version → is_own t key version c ≡ true
own-itself t key version c tx place =
    and_from (tx_eq c.tx t) (key_eq c.key key && (c.version == version)) ((Decides-tx c.tx t).1 tx)
    (and_from (key_eq c.key key) (c.version == version) ((Decides-key c.key key).1 (ap (λ (z : Place). z.key) place))
    (eq-eqb c.version version (ap (λ (z : Place). z.version) place)))

module _ (cluster : Cluster) (ledger : List Entry) (h : IsLedger cluster ledger) where
  some-quorum : (ballot : Ballot) → 0 < quorum_size cluster.quorums ballot
  some-quorum ballot = quorum_some cluster (setup_fine cluster ledger h) ledger (fine cluster ledger h) ballot

  abbrev casts : List Cast
  casts = flat_map casts_in (placed_of (logs_of cluster ledger))

  abbrev pub counted : CountedVotes
  counted = (audit_state_after cluster.quorums (placed_of (logs_of cluster ledger))).counted

  counted-is : counted ≡ counted_of cluster.quorums casts
  counted-is = all-counted cluster.quorums nothing_taken (placed_of (logs_of cluster ledger))

  abbrev given : Key → ℕ → Ballot → TxId → ℕ → Option Mark
  given key version ballot t a = mark_given ledger key version ballot t a

  given-number : (t : TxId) (key : Key) (version : ℕ) (ballot : Ballot) (g : Given)
      → number_of (λ a. passes (given_eq g) (first_cast casts a (in_vote t key version ballot))) (all_centres cluster.quorums)
      ≡ number_of (λ a. passes (given_eq g) (option_map (given_of t key version) (given key version ballot t a))) (all_centres cluster.quorums)
  given-number t key version ballot g =
      number-within (λ a. passes (given_eq g) (first_cast casts a (in_vote t key version ballot)))
      (λ a. passes (given_eq g) (option_map (given_of t key version) (given key version ballot t a))) (all_centres cluster.quorums)
      (λ a there. let range = within-range a 1 cluster.quorums.centres there in ap (passes (given_eq g)) (first-given t key version ballot cluster ledger a range.0 range.1))

  -- ---- voters

  -- who gave a mark has the fact, and so the mark is of a transaction with a choice in the instance
  voter-own : (key : Key) (version : ℕ) (ballot : Ballot) (t : TxId) (x : Mark) (a : ℕ) → given key version ballot t a ≡ Some x → IsOwn ledger (at key version) t x
  voter-own key version ballot t x a is =
      let k = vote-fact cluster key version ballot t x (facts_of ledger a) is in
      voted-own cluster ledger h.allowed (fine cluster ledger h) a key version ballot k.0 k.1 k.2 t x k.3

  -- the choice that is accepted in an instance is the transaction's one choice there
  one-accepted : (key : Key) (version : ℕ) (t : TxId) (c d : Choice) → IsOwn ledger (at key version) t (Mark.Accept c) → IsOwn ledger (at key version) t (Mark.Accept d) → c ≡ d
  one-accepted key version t c d p q = one_choice (setup_of cluster) (reduced ledger) c d (fine cluster ledger h) p.0 q.0 (p.1 ∙ sym q.1) (p.2 ∙ sym q.2)

  gives-acceptance : (key : Key) (version : ℕ) (ballot : Ballot) (t : TxId) (d : Choice) → IsOwn ledger (at key version) t (Mark.Accept d) → (a : ℕ) (o : Option Mark)
      → given key version ballot t a ≡ o → passes (given_eq Given.Acceptance) (option_map (given_of t key version) o) ≡ passes (mark_eq (Mark.Accept d)) o
  gives-acceptance key version ballot t d own a None is = refl
  gives-acceptance key version ballot t d own a (Some Mark.Reject) is = refl
  gives-acceptance key version ballot t d own a (Some (Mark.Accept c)) is =
      let mine : IsOwn ledger (at key version) t (Mark.Accept c) = voter-own key version ballot t (Mark.Accept c) a is in
      let same : d ≡ c = sym (one-accepted key version t c d mine own) in
      let left : is_own t key version c ≡ true = own-itself t key version c mine.1 mine.2 in
      let right : mark_eq (Mark.Accept d) (Mark.Accept c) ≡ true = (Decides-mark (Mark.Accept d) (Mark.Accept c)).1 (ap Mark.Accept same) in
      rw left (sym right)

  -- ---- what a quorum gave

  abbrev Chosen : Key → ℕ → Ballot → TxId → Mark → Type 0
  Chosen key version ballot t x = is_chosen_at cluster.quorums ledger key version ballot t x ≡ true

  abbrev number : Key → ℕ → Ballot → TxId → Mark → ℕ
  number key version ballot t x = number_of (λ a. passes (mark_eq x) (given key version ballot t a)) (all_centres cluster.quorums)

  listed-number : (key : Key) (version : ℕ) (ballot : Ballot) (t : TxId) (x : Mark)
      → number_of (mark_eq x) (marks_given cluster.quorums ledger key version ballot t) ≡ number key version ballot t x
  listed-number key version ballot t x = number-listed (mark_eq x) (given key version ballot t) (all_centres cluster.quorums)

  chosen-number : (key : Key) (version : ℕ) (ballot : Ballot) (t : TxId) (x : Mark) → Chosen key version ballot t x → quorum_size cluster.quorums ballot ≤ number key version ballot t x
  chosen-number key version ballot t x c =
      let enough : quorum_size cluster.quorums ballot ≤ number_of (mark_eq x) (marks_given cluster.quorums ledger key version ballot t) = leb-true _ _ c in
      omega (arith, listed-number key version ballot t x)

  number-chosen : (key : Key) (version : ℕ) (ballot : Ballot) (t : TxId) (x : Mark) → quorum_size cluster.quorums ballot ≤ number key version ballot t x → Chosen key version ballot t x
  number-chosen key version ballot t x enough =
      le-leb (quorum_size cluster.quorums ballot) (number_of (mark_eq x) (marks_given cluster.quorums ledger key version ballot t))
      (omega (arith, listed-number key version ballot t x))

  reject-number : (key : Key) (version : ℕ) (ballot : Ballot) (t : TxId)
      → number_of (λ a. passes (given_eq Given.Rejection) (option_map (given_of t key version) (given key version ballot t a))) (all_centres cluster.quorums)
      ≡ number key version ballot t Mark.Reject
  reject-number key version ballot t =
      number-same (λ a. passes (given_eq Given.Rejection) (option_map (given_of t key version) (given key version ballot t a)))
      (λ a. passes (mark_eq Mark.Reject) (given key version ballot t a)) (all_centres cluster.quorums) (λ a. gives-rejection t key version (given key version ballot t a))

  accept-number : (key : Key) (version : ℕ) (ballot : Ballot) (t : TxId) (d : Choice) → IsOwn ledger (at key version) t (Mark.Accept d)
      → number_of (λ a. passes (given_eq Given.Acceptance) (option_map (given_of t key version) (given key version ballot t a))) (all_centres cluster.quorums)
      ≡ number key version ballot t (Mark.Accept d)
  accept-number key version ballot t d own =
      number-same (λ a. passes (given_eq Given.Acceptance) (option_map (given_of t key version) (given key version ballot t a)))
      (λ a. passes (mark_eq (Mark.Accept d)) (given key version ballot t a)) (all_centres cluster.quorums)
      (λ a. gives-acceptance key version ballot t d own a (given key version ballot t a) refl)

  -- some centre gave a mark that is chosen
  pub voter-of : (key : Key) (version : ℕ) (ballot : Ballot) (t : TxId) (x : Mark) → Chosen key version ballot t x
      → (a : ℕ) × IsOneOf a (all_centres cluster.quorums) × (given key version ballot t a ≡ Some x)
  voter-of key version ballot t x c =
      let enough = chosen-number key version ballot t x c in
      let one = some-passes (λ a. passes (mark_eq x) (given key version ballot t a)) (all_centres cluster.quorums) (omega (arith, some-quorum ballot)) in
      (one.0, one.1, is-mark (given key version ballot t one.0) one.2)
    where
      is-mark : (o : Option Mark) → passes (mark_eq x) o ≡ true → o ≡ Some x
      is-mark None e = cc
      is-mark (Some y) e = ap Some (sym ((Decides-mark x y).0 e))

  -- a mark that is chosen is of a transaction with a choice in the instance
  pub chosen-own : (key : Key) (version : ℕ) (ballot : Ballot) (t : TxId) (x : Mark) → Chosen key version ballot t x → IsOwn ledger (at key version) t x
  chosen-own key version ballot t x c = let k = voter-of key version ballot t x c in voter-own key version ballot t x k.0 k.2

  rejection-chosen : (key : Key) (version : ℕ) (ballot : Ballot) (t : TxId) → Given-by cluster.quorums casts (in_vote t key version ballot) Given.Rejection
      → Chosen key version ballot t Mark.Reject
  rejection-chosen key version ballot t g =
      let first = given-number t key version ballot Given.Rejection in
      let second = reject-number key version ballot t in
      number-chosen key version ballot t Mark.Reject (omega (arith, first, second))

  chosen-rejection : (key : Key) (version : ℕ) (ballot : Ballot) (t : TxId) → Chosen key version ballot t Mark.Reject
      → Given-by cluster.quorums casts (in_vote t key version ballot) Given.Rejection
  chosen-rejection key version ballot t c =
      let enough = chosen-number key version ballot t Mark.Reject c in
      let first = given-number t key version ballot Given.Rejection in
      let second = reject-number key version ballot t in
      omega (arith, first, second)

  accepter : (key : Key) (version : ℕ) (ballot : Ballot) (t : TxId) → Given-by cluster.quorums casts (in_vote t key version ballot) Given.Acceptance
      → (d : Choice) × IsOwn ledger (at key version) t (Mark.Accept d)
  accepter key version ballot t g =
      let first = given-number t key version ballot Given.Acceptance in
      let one = some-passes (λ a. passes (given_eq Given.Acceptance) (option_map (given_of t key version) (given key version ballot t a))) (all_centres cluster.quorums)
      (omega (arith, first, some-quorum ballot)) in
      of-mark one.0 (given key version ballot t one.0) refl one.2
    where
      of-mark : (a : ℕ) (o : Option Mark) → given key version ballot t a ≡ o → passes (given_eq Given.Acceptance) (option_map (given_of t key version) o) ≡ true
          → (d : Choice) × IsOwn ledger (at key version) t (Mark.Accept d)
      of-mark a None is e = cc
      of-mark a (Some Mark.Reject) is e = cc
      of-mark a (Some (Mark.Accept c)) is e = (c, voter-own key version ballot t (Mark.Accept c) a is)

  acceptance-chosen : (key : Key) (version : ℕ) (ballot : Ballot) (t : TxId) → Given-by cluster.quorums casts (in_vote t key version ballot) Given.Acceptance
      → (d : Choice) × Chosen key version ballot t (Mark.Accept d)
  acceptance-chosen key version ballot t g =
      let one = accepter key version ballot t g in
      let first = given-number t key version ballot Given.Acceptance in
      let second = accept-number key version ballot t one.0 one.1 in
      (one.0, number-chosen key version ballot t (Mark.Accept one.0) (omega (arith, first, second)))

  chosen-acceptance : (key : Key) (version : ℕ) (ballot : Ballot) (t : TxId) (d : Choice) → Chosen key version ballot t (Mark.Accept d)
      → Given-by cluster.quorums casts (in_vote t key version ballot) Given.Acceptance
  chosen-acceptance key version ballot t d c =
      let enough = chosen-number key version ballot t (Mark.Accept d) c in
      let first = given-number t key version ballot Given.Acceptance in
      let second = accept-number key version ballot t d (chosen-own key version ballot t (Mark.Accept d) c) in
      omega (arith, first, second)

  -- ---- what is noted

  too-few : (s : Subject) (g : Given) → Given-by cluster.quorums casts s g → number_of (λ a. passes (given_eq g) (first_cast casts a s)) (all_centres cluster.quorums) ≡ 0 → ⊥
  too-few s g enough none = omega (arith, some-quorum s.ballot)

  -- what a quorum gave is an option in an instance
  not-whole : (s : Subject) (g : Given) → Given-by cluster.quorums casts s g → s ≡ in_vote s.tx s.key s.version s.ballot
  not-whole s g enough = by_whole s.whole refl
    where
      by_whole : (b : Bool) → s.whole ≡ b → s ≡ in_vote s.tx s.key s.version s.ballot
      by_whole false e = ap (λ (w : Bool). let z : Subject = record { tx = s.tx; whole = w; key = s.key; version = s.version; ballot = s.ballot } in z) e
      by_whole true e =
          elim (too-few s g enough
          (number-none (λ a. passes (given_eq g) (first_cast casts a s)) (all_centres cluster.quorums)
          (λ a. ap (passes (given_eq g)) (no-whole a s (placed_of (logs_of cluster ledger)) e)))) [ ]

  as-vote : (s : Subject) (g : Given) → Given-by cluster.quorums casts s g → Given-by cluster.quorums casts (in_vote s.tx s.key s.version s.ballot) g
  as-vote s g enough = subst (λ (z : Subject). Given-by cluster.quorums casts z g) (not-whole s g enough) enough

  -- a rejection that is noted of an instance is chosen there
  rejected-to : (t : TxId) (key : Key) (version : ℕ) → is_among counted.rejected (at_instance t key version) ≡ true
      → chosen_of cluster.quorums ledger key version t ≡ Some Mark.Reject
  rejected-to t key version among =
      let k = rejected-noted cluster.quorums some-quorum casts (at_instance t key version)
      (subst (λ (z : CountedVotes). is_among z.rejected (at_instance t key version) ≡ true) counted-is among) in
      let s = k.0 in
      elim k.1 [
        | inr whole ↦ (let bad : false ≡ true = ap (λ (z : Subject). z.whole) whole in cc)
        | inl here ↦
            let found = mark_found cluster ledger h s.key s.version s.ballot s.tx Mark.Reject (rejection-chosen s.key s.version s.ballot s.tx (as-vote s Given.Rejection k.2)) in
            subst (λ (z : Subject). chosen_of cluster.quorums ledger z.key z.version z.tx ≡ Some Mark.Reject) (sym here) found
      ]

  rejected-from : (t : TxId) (key : Key) (version : ℕ) → chosen_of cluster.quorums ledger key version t ≡ Some Mark.Reject
      → (is_among counted.rejected (at_instance t key version) ≡ true) × (is_among counted.rejected (of_tx t) ≡ true)
  rejected-from t key version chosen =
      let k = chosen_of-shows cluster ledger key version t Mark.Reject chosen in
      subst (λ (z : CountedVotes). (is_among z.rejected (at_instance t key version) ≡ true) × (is_among z.rejected (of_tx t) ≡ true)) (sym counted-is)
      (noted-rejected cluster.quorums some-quorum casts (in_vote t key version k.0) (chosen-rejection key version k.0 t k.1))

  is-reject : (o : Option Mark) → is_reject_found o ≡ true → o ≡ Some Mark.Reject
  is-reject None e = cc
  is-reject (Some (Mark.Accept c)) e = cc
  is-reject (Some Mark.Reject) e = refl

  pub rejected-is : (t : TxId) (key : Key) (version : ℕ) → is_among counted.rejected (at_instance t key version) ≡ is_reject_found (chosen_of cluster.quorums ledger key version t)
  rejected-is t key version =
      one-answer (is_among counted.rejected (at_instance t key version)) (is_reject_found (chosen_of cluster.quorums ledger key version t))
      (λ among. ap is_reject_found (rejected-to t key version among))
      (λ found. (rejected-from t key version (is-reject (chosen_of cluster.quorums ledger key version t) found)).0)

  accepted-to : (t : TxId) (key : Key) (version : ℕ) → is_among counted.accepted (at_instance t key version) ≡ true
      → is_accept_found (chosen_of cluster.quorums ledger key version t) ≡ true
  accepted-to t key version among =
      let k = accepted-noted cluster.quorums some-quorum casts (at_instance t key version)
      (subst (λ (z : CountedVotes). is_among z.accepted (at_instance t key version) ≡ true) counted-is among) in
      let s = k.0 in
      let one = acceptance-chosen s.key s.version s.ballot s.tx (as-vote s Given.Acceptance k.2) in
      let found = mark_found cluster ledger h s.key s.version s.ballot s.tx (Mark.Accept one.0) one.1 in
      subst (λ (z : Subject). is_accept_found (chosen_of cluster.quorums ledger z.key z.version z.tx) ≡ true) (sym k.1) (ap is_accept_found found)

  accepted-from : (t : TxId) (key : Key) (version : ℕ) (o : Option Mark) → chosen_of cluster.quorums ledger key version t ≡ o → is_accept_found o ≡ true
      → is_among counted.accepted (at_instance t key version) ≡ true
  accepted-from t key version None is e = cc
  accepted-from t key version (Some Mark.Reject) is e = cc
  accepted-from t key version (Some (Mark.Accept d)) is e =
      let k = chosen_of-shows cluster ledger key version t (Mark.Accept d) is in
      subst (λ (z : CountedVotes). is_among z.accepted (at_instance t key version) ≡ true) (sym counted-is)
      (noted-accepted cluster.quorums some-quorum casts (in_vote t key version k.0) (chosen-acceptance key version k.0 t d k.1))

  pub accepted-is : (t : TxId) (key : Key) (version : ℕ) → is_among counted.accepted (at_instance t key version) ≡ is_accept_found (chosen_of cluster.quorums ledger key version t)
  accepted-is t key version =
      one-answer (is_among counted.accepted (at_instance t key version)) (is_accept_found (chosen_of cluster.quorums ledger key version t))
      (accepted-to t key version) (accepted-from t key version (chosen_of cluster.quorums ledger key version t) refl)

  -- a transaction is noted as rejected where one of its options is chosen rejected at some ballot
  pub whole-to : (t : TxId) → is_among counted.rejected (of_tx t) ≡ true → (key : Key) × (version : ℕ) × (ballot : Ballot) × Chosen key version ballot t Mark.Reject
  whole-to t among =
      let k = rejected-noted cluster.quorums some-quorum casts (of_tx t) (subst (λ (z : CountedVotes). is_among z.rejected (of_tx t) ≡ true) counted-is among) in
      let s = k.0 in
      elim k.1 [
        | inl here ↦ (let bad : true ≡ false = ap (λ (z : Subject). z.whole) here in cc)
        | inr whole ↦ (
          s.key,
          s.version,
          s.ballot,
          subst (λ (z : Subject). Chosen s.key s.version s.ballot z.tx Mark.Reject) (sym whole) (rejection-chosen s.key s.version s.ballot s.tx (as-vote s Given.Rejection k.2)),
        )
      ]

  pub whole-from : (t : TxId) (key : Key) (version : ℕ) (ballot : Ballot) → Chosen key version ballot t Mark.Reject → is_among counted.rejected (of_tx t) ≡ true
  whole-from t key version ballot c =
      subst (λ (z : CountedVotes). is_among z.rejected (of_tx t) ≡ true) (sym counted-is)
      (noted-rejected cluster.quorums some-quorum casts (in_vote t key version ballot) (chosen-rejection key version ballot t c)).1
