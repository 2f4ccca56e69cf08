-- A centre shows few votes in an instance: at the fast ballot as its acceptor allows, at a classic one those of a structure that was sent.
use Rattle.std.proofs.Common.{Bool, List, None, Option, Some, [], arith, cond, false, inl, inr, length, not, refl, subst, sym, true, ℕ, ◌&&◌, ◌+◌, ◌<◌, ◌==◌, ◌∙◌, ◌∷◌, ◌≡◌, ◌≤◌, ap, max, ◌⊎◌}
use Rattle.std.specs.Prelude.{filter, nat_lt, ⊤}
use Rattle.std.proofs.lemmas.Bool.{MatchBool-at_true, cases_Bool, cond_both, eqb-true, ltb-true, and_from, and_parts, lt-ltb, true≢false}
use Rattle.mdcc_base.specs.Ballot.{ballot_eq, fast_ballot, is_fast}
use Rattle.mdcc_base.specs.Key.{key_eq}
use Rattle.mdcc_base.specs.TxId.{tx_eq}
use Rattle.mdcc_base.specs.declared.identifiers.Ballot.{Ballot}
use Rattle.mdcc_base.specs.declared.identifiers.TxId.{TxId}
use Rattle.mdcc_base.specs.declared.key.Key.{Key}
use Rattle.mdcc_option.specs.declared.choices.Cause.{Cause}
use Rattle.mdcc_option.specs.declared.choices.Choice.{Choice}
use Rattle.mdcc_option.specs.declared.choices.Mark.{Mark}
use Rattle.mdcc_option.specs.declared.cluster.Cluster.{Cluster}
use Rattle.mdcc_struct.specs.Maps.{union, value_of, with_entry}
use Rattle.mdcc_struct.specs.declared.options.Options.{Options}
use Rattle.mdcc_def_messages.specs.declared.facts.Fact.{Fact}
use Rattle.mdcc_def_protocol.specs.Acceptor.{fit_of, vote_by_fit, vote_on, vote_to_accept, vote_to_reject}
use Rattle.mdcc_def_protocol.specs.Facts.{current_of, entries_of, marks_voted, votes_of, is_finished, is_forgotten, shown_of, version_from, without_forgotten}
use Rattle.mdcc_def_protocol.specs.Marks.{accepts_in, is_accept, rejects_in}
use Rattle.mdcc_def_protocol.specs.Structures.{accept_room, reject_room}
use Rattle.mdcc_def_protocol.specs.declared.acceptor.ProposeAnswer.{ProposeAnswer}
use Rattle.mdcc_def_protocol.specs.declared.fit.Fit.{Fit}
use Rattle.mdcc_def_ledger.specs.AllowedFacts.{IsFastVote, MayVoteFast}
use Rattle.mdcc_def_ledger.specs.AllowedLedgers.{IsAllowed}
use Rattle.mdcc_def_ledger.specs.Ledger.{Added, Entry, Valued, facts_of}
use Rattle.mdcc_theorem_agreement.specs.Laws.{IsLedger}
use Rattle.mdcc_theorem_bounds.proofs.RoomTold.{room_sent}
use Rattle.mdcc_theorem_node_steps.proofs.Structuring.{count-with_entry, room-small}
use Rattle.mdcc_theorem_trace_rules.proofs.Chains.{HasOnce, backed, is-here, once-union, finished-more}
use Rattle.mdcc_theorem_trace_states.proofs.Maps.{tx-refl, tx-true}
use Rattle.mdcc_theorem_trace_states.proofs.Tests.{Decides-ballot}
use Rattle.mdcc_theorem_trace.proofs.Finished.{shown-voted}
use Rattle.mdcc_theorem_trace.proofs.Making.{once-filter}

-- so many marks accept, and so many reject
pub record AreFew (accepts rejects : ℕ) (votes : Options) : Type 0 where
  pub accepted : length (accepts_in votes) ≤ accepts
  pub rejected : length (rejects_in votes) ≤ rejects

-- ---- the fast ballot

-- an answer that is a vote leaves room for it
abbrev LeavesRoom : List Fact → Choice → ProposeAnswer → Type 0
LeavesRoom facts choice (ProposeAnswer.Vote (Mark.Accept other)) = length (accepts_in (shown_of facts choice.key choice.version fast_ballot)) < 512
LeavesRoom facts choice (ProposeAnswer.Vote Mark.Reject) = length (rejects_in (shown_of facts choice.key choice.version fast_ballot)) < 16384
LeavesRoom facts choice _ = ⊤

accept-leaves : (facts : List Fact) (choice : Choice) → LeavesRoom facts choice (vote_to_accept facts choice)
accept-leaves facts choice =
    cond_both (nat_lt (entries_of facts choice.key choice.version).0 (accept_room choice.update)) (ProposeAnswer.Vote (Mark.Accept choice)) (ProposeAnswer.Escalate Cause.Full) (LeavesRoom facts choice)
    (λ e.
    let below : length (accepts_in (shown_of facts choice.key choice.version fast_ballot)) < accept_room choice.update = ltb-true (entries_of facts choice.key choice.version).0 (accept_room choice.update) e in
    omega (arith, below, room-small choice.update))
    (λ e. tt)

reject-leaves : (facts : List Fact) (choice : Choice) → LeavesRoom facts choice (vote_to_reject facts choice)
reject-leaves facts choice =
    cond_both (nat_lt (entries_of facts choice.key choice.version).1 reject_room) (ProposeAnswer.Vote Mark.Reject) (ProposeAnswer.Escalate Cause.Full) (LeavesRoom facts choice)
    (λ e. ltb-true (entries_of facts choice.key choice.version).1 reject_room e) (λ e. tt)

fit-leaves : (facts : List Fact) (choice : Choice) (fit : Fit) → LeavesRoom facts choice (vote_by_fit facts choice fit)
fit-leaves facts choice Fit.Fits = accept-leaves facts choice
fit-leaves facts choice Fit.Conflict = reject-leaves facts choice
fit-leaves facts choice (Fit.Limit quantity) = tt
fit-leaves facts choice (Fit.Breaks quantity) = reject-leaves facts choice

vote-leaves : (cluster : Cluster) (facts : List Fact) (choice : Choice) → LeavesRoom facts choice (vote_on cluster facts choice)
vote-leaves cluster facts choice =
    cond_both (nat_lt choice.version (current_of facts choice.key)) (vote_to_reject facts choice) (vote_by_fit facts choice (fit_of cluster facts choice)) (LeavesRoom facts choice)
    (λ e. reject-leaves facts choice) (λ e. fit-leaves facts choice (fit_of cluster facts choice))

-- the same in the instance of the vote
abbrev LeavesRoomAt : List Fact → Key → ℕ → Mark → Type 0
LeavesRoomAt facts key version (Mark.Accept other) = length (accepts_in (shown_of facts key version fast_ballot)) < 512
LeavesRoomAt facts key version Mark.Reject = length (rejects_in (shown_of facts key version fast_ballot)) < 16384

marked-leaves : (facts : List Fact) (choice : Choice) (mark : Mark) → LeavesRoom facts choice (ProposeAnswer.Vote mark) → LeavesRoomAt facts choice.key choice.version mark
marked-leaves facts choice (Mark.Accept other) h = h
marked-leaves facts choice Mark.Reject h = h

may-leaves : (cluster : Cluster) (facts : List Fact) (key : Key) (version : ℕ) (tx : TxId) (mark : Mark) (choice : Choice) → MayVoteFast cluster facts key version tx mark choice
    → LeavesRoomAt facts key version mark
may-leaves cluster facts key version tx mark choice h =
    subst (λ z. LeavesRoomAt facts key z mark) h.of_version
    (subst (λ z. LeavesRoomAt facts z choice.version mark) h.of_key
    (marked-leaves facts choice mark (subst (λ z. LeavesRoom facts choice z) h.answer (vote-leaves cluster facts choice))))

-- what is shown beside one more vote
abbrev ShownWith : List Fact → Key → ℕ → Options → Options
ShownWith facts key version options = without_forgotten facts key version (union (votes_of facts key version fast_ballot) options)

-- ---- marks that are kept

both-tests : (keep test : TxId × Mark → Bool) (xs : Options) → length (filter test (filter keep xs)) ≡ length (filter (λ x. keep x && test x) xs)
both-tests keep test [] = refl
both-tests keep test (x ∷ xs) =
    let ih = both-tests keep test xs in
    elim (cases_Bool (keep x)) [
      | inl k ↦ elim (cases_Bool (test x)) [ inl t ↦ rw (k, t) (omega (arith, ih)) | inr t ↦ rw (k, t) ih ]
      | inr k ↦ rw k ih
    ]

fewer-kept : (less more test : TxId × Mark → Bool) (xs : Options) → ((x : TxId × Mark) → less x ≡ true → more x ≡ true) → length (filter test (filter less xs)) ≤ length (filter test (filter more xs))
fewer-kept less more test [] h = omega arith
fewer-kept less more test (x ∷ xs) h =
    let ih = fewer-kept less more test xs h in
    elim (cases_Bool (less x)) [
      | inl l ↦ let m = h x l in elim (cases_Bool (test x)) [ inl t ↦ rw (l, m, t) (omega (arith, ih)) | inr t ↦ rw (l, m, t) ih ]
      | inr l ↦ elim (cases_Bool (more x)) [
        | inl m ↦ elim (cases_Bool (test x)) [ inl t ↦ rw (l, m, t) (omega (arith, ih)) | inr t ↦ rw (l, m, t) ih ]
        | inr m ↦ rw (l, m) ih
      ]
    ]

one-kept : (keep test : TxId × Mark → Bool) (votes : Options) (e : TxId × Mark) → length (filter test (filter keep (with_entry votes e))) ≤ length (filter test (filter keep votes)) + cond (test e) 1 0
one-kept keep test votes e =
    let a = both-tests keep test (with_entry votes e) in
    let b = both-tests keep test votes in
    let c : length (filter (λ x. keep x && test x) (with_entry votes e)) ≤ length (filter (λ x. keep x && test x) votes) + cond (keep e && test e) 1 0 = count-with_entry (λ x. keep x && test x) votes e in
    let d : cond (keep e && test e) 1 0 ≤ cond (test e) 1 0 = less (keep e) (test e) in
    omega (arith, a, b, c, d)
  where
    less : (x y : Bool) → cond (x && y) 1 0 ≤ cond y 1 0
    less true y = omega arith
    less false true = omega arith
    less false false = omega arith

-- a mark that is forgotten stays so
kept-before : (f : Fact) (facts : List Fact) (key : Key) (version : ℕ) (x : TxId × Mark) → not (is_forgotten (f ∷ facts) key version x.0) ≡ true → not (is_forgotten facts key version x.0) ≡ true
kept-before f facts key version x h =
    elim (cases_Bool (is_forgotten facts key version x.0)) [
      | inl e ↦
          let p = and_parts (is_finished facts x.0) (nat_lt version (current_of facts key)) e in
          let still : is_forgotten (f ∷ facts) key version x.0 ≡ true =
          and_from (is_finished (f ∷ facts) x.0) (nat_lt version (current_of (f ∷ facts) key)) (finished-more f facts x.0 p.0) (lt-ltb version (current_of (f ∷ facts) key) (more version (current_of facts key) (version_from key f) (ltb-true version (current_of facts key) p.1))) in
          absurd (true≢false (sym h ∙ ap not still))
      | inr e ↦ ap not e
    ]
  where
    more : (a b c : ℕ) → a < b → a < max b c
    more a b c l = omega (arith, l)

few-kept : (f : Fact) (facts : List Fact) (key : Key) (version : ℕ) (votes : Options) → AreFew 512 16384 (without_forgotten facts key version votes) → AreFew 512 16384 (without_forgotten (f ∷ facts) key version votes)
few-kept f facts key version votes h =
    let keep : TxId × Mark → Bool = λ e. not (is_forgotten facts key version e.0) in
    let less : TxId × Mark → Bool = λ e. not (is_forgotten (f ∷ facts) key version e.0) in
    let a = fewer-kept less keep (λ e. is_accept e.1) votes (λ x g. kept-before f facts key version x g) in
    let b = fewer-kept less keep (λ e. not (is_accept e.1)) votes (λ x g. kept-before f facts key version x g) in
    record { accepted = omega (arith, h.accepted, a); rejected = omega (arith, h.rejected, b) }

one-more : (facts : List Fact) (key : Key) (version : ℕ) (tx : TxId) (mark : Mark) → LeavesRoomAt facts key version mark
    → AreFew 512 16384 (shown_of facts key version fast_ballot) → AreFew 512 16384 (ShownWith facts key version ((tx, mark) ∷ []))
one-more facts key version tx (Mark.Accept choice) room h =
    let keep : TxId × Mark → Bool = λ e. not (is_forgotten facts key version e.0) in
    let votes = votes_of facts key version fast_ballot in
    let a : length (accepts_in (filter keep (with_entry votes (tx, Mark.Accept choice)))) ≤ length (accepts_in (filter keep votes)) + 1 = one-kept keep (λ e. is_accept e.1) votes (tx, Mark.Accept choice) in
    let b : length (rejects_in (filter keep (with_entry votes (tx, Mark.Accept choice)))) ≤ length (rejects_in (filter keep votes)) + 0 = one-kept keep (λ e. not (is_accept e.1)) votes (tx, Mark.Accept choice) in
    record { accepted = omega (arith, room, a); rejected = omega (arith, h.rejected, b) }
one-more facts key version tx Mark.Reject room h =
    let keep : TxId × Mark → Bool = λ e. not (is_forgotten facts key version e.0) in
    let votes = votes_of facts key version fast_ballot in
    let a : length (accepts_in (filter keep (with_entry votes (tx, Mark.Reject)))) ≤ length (accepts_in (filter keep votes)) + 0 = one-kept keep (λ e. is_accept e.1) votes (tx, Mark.Reject) in
    let b : length (rejects_in (filter keep (with_entry votes (tx, Mark.Reject)))) ≤ length (rejects_in (filter keep votes)) + 1 = one-kept keep (λ e. not (is_accept e.1)) votes (tx, Mark.Reject) in
    record { accepted = omega (arith, h.accepted, a); rejected = omega (arith, room, b) }

vote-few : (cluster : Cluster) (facts : List Fact) (key : Key) (version : ℕ) (options : Options) (offered : Option Choice) → IsFastVote cluster facts key version options offered
    → AreFew 512 16384 (shown_of facts key version fast_ballot) → AreFew 512 16384 (ShownWith facts key version options)
vote-few cluster facts key version ((tx, Mark.Accept choice) ∷ []) None may h =
    one-more facts key version tx (Mark.Accept choice) (may-leaves cluster facts key version tx (Mark.Accept choice) choice may) h
vote-few cluster facts key version ((tx, Mark.Reject) ∷ []) (Some choice) may h =
    one-more facts key version tx Mark.Reject (may-leaves cluster facts key version tx Mark.Reject choice may) h
vote-few cluster facts key version [] offered may h = absurd may
vote-few cluster facts key version ((tx, Mark.Accept choice) ∷ []) (Some other) may h = absurd may
vote-few cluster facts key version ((tx, Mark.Reject) ∷ []) None may h = absurd may
vote-few cluster facts key version ((tx, Mark.Accept choice) ∷ e ∷ es) offered may h = absurd may
vote-few cluster facts key version ((tx, Mark.Reject) ∷ e ∷ es) offered may h = absurd may

pub fast-few : (cluster : Cluster) (es : List Entry) (a : ℕ) (key : Key) (version : ℕ) → IsAllowed cluster es → AreFew 512 16384 (shown_of (facts_of es a) key version fast_ballot)
fast-few cluster [] a key version legal = record { accepted = omega arith; rejected = omega arith }
fast-few cluster (Entry.Begun c tx choices ∷ es) a key version legal = fast-few cluster es a key version legal.0
fast-few cluster (Valued c k v b options ∷ es) a key version legal = fast-few cluster es a key version legal.0
fast-few cluster (Added c fact ∷ es) a key version legal =
    elim (cases_Bool (c == a)) [
      | inl e ↦ rw e (by_fact fact legal (eqb-true c a e) (fast-few cluster es a key version legal.0))
      | inr e ↦ rw e (fast-few cluster es a key version legal.0)
    ]
  where
    by_fact : (fact : Fact) → IsAllowed cluster (Added c fact ∷ es) → c ≡ a → AreFew 512 16384 (shown_of (facts_of es a) key version fast_ballot)
        → AreFew 512 16384 (shown_of (fact ∷ facts_of es a) key version fast_ballot)
    by_fact (Fact.Booted epoch) legal s h = few-kept (Fact.Booted epoch) (facts_of es a) key version (votes_of (facts_of es a) key version fast_ballot) h
    by_fact (Fact.Promised k low high b) legal s h = few-kept (Fact.Promised k low high b) (facts_of es a) key version (votes_of (facts_of es a) key version fast_ballot) h
    by_fact (Fact.Heard tx outcome) legal s h = few-kept (Fact.Heard tx outcome) (facts_of es a) key version (votes_of (facts_of es a) key version fast_ballot) h
    by_fact (Fact.Adopted k v item adds) legal s h = few-kept (Fact.Adopted k v item adds) (facts_of es a) key version (votes_of (facts_of es a) key version fast_ballot) h
    by_fact (Fact.Floor origin era upto) legal s h = few-kept (Fact.Floor origin era upto) (facts_of es a) key version (votes_of (facts_of es a) key version fast_ballot) h
    by_fact (Fact.Voted k v b options offered) legal s h =
        elim (cases_Bool (v == version && ballot_eq b fast_ballot && key_eq k key)) [
          | inl e ↦
              let p = is-here key version fast_ballot k v b e in
              let fast : is_fast b ≡ true = subst (λ z. is_fast z ≡ true) (sym p.ballot) refl in
              let may : IsFastVote cluster (facts_of es c) k v options offered = MatchBool-at_true _ _ fast legal.1.1.kind in
              let there : IsFastVote cluster (facts_of es a) key version options offered =
              subst (λ z. IsFastVote cluster (facts_of es z) key version options offered) s
              (subst (λ z. IsFastVote cluster (facts_of es c) key z options offered) p.version
              (subst (λ z. IsFastVote cluster (facts_of es c) z v options offered) p.key may)) in
              let voted : votes_of (Fact.Voted k v b options offered ∷ facts_of es a) key version fast_ballot ≡ union (votes_of (facts_of es a) key version fast_ballot) options = rw e refl in
              subst (λ (z : Options). AreFew 512 16384 (without_forgotten (Fact.Voted k v b options offered ∷ facts_of es a) key version z)) (sym voted)
              (few-kept (Fact.Voted k v b options offered) (facts_of es a) key version (union (votes_of (facts_of es a) key version fast_ballot) options) (vote-few cluster (facts_of es a) key version options offered there h))
          | inr e ↦
              let voted : votes_of (Fact.Voted k v b options offered ∷ facts_of es a) key version fast_ballot ≡ votes_of (facts_of es a) key version fast_ballot = rw e refl in
              subst (λ (z : Options). AreFew 512 16384 (without_forgotten (Fact.Voted k v b options offered ∷ facts_of es a) key version z)) (sym voted)
              (few-kept (Fact.Voted k v b options offered) (facts_of es a) key version (votes_of (facts_of es a) key version fast_ballot) h)
        ]

-- ---- classic ballots

once-votes : (facts : List Fact) (key : Key) (version : ℕ) (ballot : Ballot) → HasOnce (votes_of facts key version ballot)
once-votes [] key version ballot = tt
once-votes (fact ∷ facts) key version ballot = once-union (votes_of facts key version ballot) (marks_voted key version ballot fact) (once-votes facts key version ballot)

-- a map without a transaction
abbrev without : TxId → Options → Options
without tx options = filter (λ e. not (tx_eq e.0 tx)) options

without-others : (tx other : TxId) (options : Options) → tx_eq tx other ≡ false → value_of (without tx options) other ≡ value_of options other
without-others tx other [] apart = refl
without-others tx other (e ∷ es) apart =
    elim (cases_Bool (tx_eq e.0 tx)) [
      | inl s ↦
          let far : tx_eq e.0 other ≡ false = subst (λ z. tx_eq z other ≡ false) (sym (tx-true e.0 tx s)) apart in
          rw (s, far) (without-others tx other es apart)
      | inr n ↦ elim (cases_Bool (tx_eq e.0 other)) [
        | inl f ↦ rw (n, f) refl
        | inr f ↦ rw (n, f) (without-others tx other es apart)
      ]
    ]

less-without : (test : TxId × Mark → Bool) (tx : TxId) (options : Options) → length (filter test (without tx options)) ≤ length (filter test options)
less-without test tx [] = omega arith
less-without test tx (e ∷ es) =
    let ih = less-without test tx es in
    elim (cases_Bool (tx_eq e.0 tx)) [
      | inl s ↦ elim (cases_Bool (test e)) [ inl t ↦ rw (s, t) (omega (arith, ih)) | inr t ↦ rw (s, t) ih ]
      | inr n ↦ elim (cases_Bool (test e)) [ inl t ↦ rw (n, t) (omega (arith, ih)) | inr t ↦ rw (n, t) ih ]
    ]

-- which has one mark less
one-less : (test : TxId × Mark → Bool) (tx : TxId) (mark : Mark) (options : Options) → value_of options tx ≡ Some mark
    → length (filter test (without tx options)) + cond (test (tx, mark)) 1 0 ≤ length (filter test options)
one-less test tx mark [] found = absurd (cc)
one-less test tx mark ((u, x) ∷ es) found =
    elim (cases_Bool (tx_eq u tx)) [
      | inl s ↦
          let is : Some x ≡ Some mark = rw s at found in
          let same : x ≡ mark = cc in
          let here : u ≡ tx = tx-true u tx s in
          let ih = less-without test tx es in
          elim (cases_Bool (test (u, x))) [
            | inl t ↦ let v : test (tx, mark) ≡ true = subst (λ (z : TxId). test (z, mark) ≡ true) here (subst (λ (z : Mark). test (u, z) ≡ true) same t) in rw (s, t, v) (omega (arith, ih))
            | inr t ↦ let v : test (tx, mark) ≡ false = subst (λ (z : TxId). test (z, mark) ≡ false) here (subst (λ (z : Mark). test (u, z) ≡ false) same t) in rw (s, t, v) (omega (arith, ih))
          ]
      | inr n ↦
          let rest : value_of es tx ≡ Some mark = rw n at found in
          let ih = one-less test tx mark es rest in
          elim (cases_Bool (test (u, x))) [ inl t ↦ rw (n, t) (omega (arith, ih)) | inr t ↦ rw (n, t) ih ]
    ]

-- a map whose marks are in another one has no more of a kind
no-more : (test : TxId × Mark → Bool) (m n : Options) → HasOnce m → ((tx : TxId) (mark : Mark) → value_of m tx ≡ Some mark → value_of n tx ≡ Some mark)
    → length (filter test m) ≤ length (filter test n)
no-more test [] n once found = omega arith
no-more test ((tx, mark) ∷ es) n once found =
    let here : value_of n tx ≡ Some mark = found tx mark (let same = tx-refl tx in rw same refl) in
    let ih = no-more test es (without tx n) once.1 rest in
    let less = one-less test tx mark n here in
    elim (cases_Bool (test (tx, mark))) [
      | inl t ↦ rw t (let more = rw t at less in omega (arith, ih, more))
      | inr t ↦ rw t (omega (arith, ih, less-without test tx n))
    ]
  where
    rest : (other : TxId) (y : Mark) → value_of es other ≡ Some y → value_of (without tx n) other ≡ Some y
    rest other y h =
        elim (cases_Bool (tx_eq tx other)) [
          | inl s ↦ let none : value_of es other ≡ None = subst (λ z. value_of es z ≡ None) (tx-true tx other s) once.0 in absurd (cc)
          | inr f ↦ without-others tx other n f ∙ found other y (rw f h)
        ]

nothing-voted : (votes : Options) → ((tx : TxId) → value_of votes tx ≡ None) → AreFew 1023 32767 votes
nothing-voted [] none = record { accepted = omega arith; rejected = omega arith }
nothing-voted (e ∷ es) none = let here = none e.0 in let same = tx-refl e.0 in absurd (let bad = rw same at here in cc)

classic-few : (cluster : Cluster) (es : List Entry) (a : ℕ) (key : Key) (version : ℕ) (ballot : Ballot) → IsLedger cluster es → is_fast ballot ≡ false
    → AreFew 1023 32767 (shown_of (facts_of es a) key version ballot)
classic-few cluster es a key version ballot ledger classic =
    elim (backed cluster es a key version ballot ledger.allowed classic) [
      | inl none ↦ nothing-voted shown (λ tx. no-mark (value_of shown tx) (λ mark h. let bad : None ≡ Some mark = sym (none tx) ∙ shown-voted (facts_of es a) key version ballot tx mark h in absurd (cc)))
      | inr sent ↦
          let few = room_sent cluster es ledger key version ballot sent.structure sent.was in
          let once = once-filter (λ (e : TxId × Mark). not (is_forgotten (facts_of es a) key version e.0)) votes (once-votes (facts_of es a) key version ballot) in
          let found : (tx : TxId) (mark : Mark) → value_of shown tx ≡ Some mark → value_of sent.structure tx ≡ Some mark = λ tx mark h. of-structure (value_of votes tx) (value_of sent.structure tx) mark (shown-voted (facts_of es a) key version ballot tx mark h) (sent.same tx) in
          let a : length (accepts_in shown) ≤ length (accepts_in sent.structure) = no-more (λ e. is_accept e.1) shown sent.structure once found in
          let b : length (rejects_in shown) ≤ length (rejects_in sent.structure) = no-more (λ e. not (is_accept e.1)) shown sent.structure once found in
          record { accepted = omega (arith, few.0, a); rejected = omega (arith, few.1, b) }
    ]
  where
    votes : Options
    votes = votes_of (facts_of es a) key version ballot

    shown : Options
    shown = shown_of (facts_of es a) key version ballot

    no-mark : (o : Option Mark) → ((mark : Mark) → o ≡ Some mark → ⊥) → o ≡ None
    no-mark None h = refl
    no-mark (Some mark) h = absurd (h mark refl)

    of-structure : {P : Type 0} (v w : Option Mark) (mark : Mark) → v ≡ Some mark → (v ≡ w) ⊎ ((v ≡ None) × P) → w ≡ Some mark
    of-structure v w mark h same = elim same [ inl e ↦ sym e ∙ h | inr n ↦ let bad : None ≡ Some mark = sym n.0 ∙ h in absurd (cc) ]

-- ---- both

pub votes-few : (cluster : Cluster) (es : List Entry) (a : ℕ) (key : Key) (version : ℕ) (ballot : Ballot) → IsLedger cluster es → AreFew 1023 32767 (shown_of (facts_of es a) key version ballot)
votes-few cluster es a key version ballot ledger =
    elim (cases_Bool (is_fast ballot)) [
      | inl e ↦
          let few = fast-few cluster es a key version ledger.allowed in
          let more : AreFew 1023 32767 (shown_of (facts_of es a) key version fast_ballot) = record { accepted = omega (arith, few.accepted); rejected = omega (arith, few.rejected) } in
          subst (λ z. AreFew 1023 32767 (shown_of (facts_of es a) key version z)) (sym ((Decides-ballot ballot fast_ballot).0 e)) more
      | inr e ↦ classic-few cluster es a key version ballot ledger e
    ]
