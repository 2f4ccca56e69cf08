-- Admitted facts say nothing a second time and nothing of a finished transaction, and offer what they mark.
use Rattle.std.proofs.Common.{◌≡◌, ℕ, Bool, true, false, not, nat_le, nat_lt, ◌&&◌, ◌||◌, ◌==◌, ◌≤◌, List, [], ◌∷◌, length, Option, Some, None, is_some, refl, sym, ◌∙◌, arith, if◌then◌else◌, inl, inr}
use Rattle.std.specs.List.{list_all, list_any}
use Rattle.std.proofs.lemmas.Bool.{and_parts, cases_Bool}
use Rattle.std.proofs.lemmas.Bool.Decides.{nat_tests}
use Rattle.mdcc_node_boot.specs.Admission.{is_admitted_kind}
use Rattle.mdcc_node_boot.specs.Laws.{AdmittedMayBeAdded}
use Rattle.mdcc_node_boot.proofs.LastVotes.{voted_by_last}
use Rattle.mdcc_node_boot.proofs.Several.{kept_all}
use Rattle.mdcc_base.specs.Ballot.{ballot_lt, fast_ballot, is_fast}
use Rattle.mdcc_base.specs.Key.{key_eq}
use Rattle.mdcc_base.specs.TxId.{tx_eq}
use Rattle.mdcc_base.specs.declared.identifiers.Ballot.{Ballot}
use Rattle.mdcc_base.specs.declared.identifiers.TxId.{TxId}
use Rattle.mdcc_base.specs.declared.key.Key.{Key}
use Rattle.mdcc_facts.specs.Adding.{MayBeAdded, offers_unmarked}
use Rattle.mdcc_facts.specs.Past.{is_past_mark}
use Rattle.mdcc_option.specs.declared.choices.Choice.{Choice}
use Rattle.mdcc_option.specs.declared.choices.Mark.{Mark}
use Rattle.mdcc_option.specs.declared.cluster.Cluster.{Cluster}
use Rattle.mdcc_struct.proofs.Order.{tx_eq-refl, tx_eq-same}
use Rattle.mdcc_struct.specs.Maps.{value_of}
use Rattle.mdcc_struct.specs.declared.options.Options.{Options}
use Rattle.mdcc_def_protocol.specs.Acceptor.{new_marks, vote_on}
use Rattle.mdcc_def_ledger.specs.AllowedFacts.{are_apart, is_booted}
use Rattle.mdcc_def_ledger.specs.BootTest.{is_allowed_classic_vote, is_allowed_fast_vote, is_allowed_mark, is_answer}
use Rattle.mdcc_def_protocol.specs.Belongs.{fact_belongs}
use Rattle.mdcc_def_protocol.specs.Facts.{current_of, epoch_of, is_finished, is_heard, last_vote, promise_of, vote_of, votes_of}
use Rattle.mdcc_def_messages.specs.Lengths.{fact_length}
use Rattle.mdcc_def_messages.specs.WellFormed.{IsWellFormedFact}
use Rattle.mdcc_def_messages.specs.declared.facts.Fact.{Fact}
use Rattle.mdcc_theorem_ledger.proofs.MayAddDecided.{Decides-promise}
use Rattle.mdcc_theorem_ledger.proofs.TestsDecide.{Decides-fast, Decides-none}

not-true : (b : Bool) → not b ≡ true → b ≡ false
not-true false h = refl
not-true true h = absurd (cc)

-- ---- votes

not_above_fast : (a : Ballot) → is_fast a ≡ true → ballot_lt fast_ballot a ≡ false
not_above_fast a h = grind (arith, nat_tests)

four_of : (a b c d e f g i j : Bool) → (a && b && c && d && e && f && g && i && j) ≡ true → (a ≡ true) × (e ≡ true) × (f ≡ true) × (i ≡ true)
four_of a b c d e f g i j h =
    let o = and_parts (a && b && c && d && e && f && g && i) j h in
    let p = and_parts (a && b && c && d && e && f && g) i o.0 in
    let q = and_parts (a && b && c && d && e && f) g p.0 in
    let r = and_parts (a && b && c && d && e) f q.0 in
    let s = and_parts (a && b && c && d) e r.0 in
    let u = and_parts (a && b && c) d s.0 in
    ((and_parts a b (and_parts (a && b) c u.0).0).0, s.1, r.1, p.1)

-- what is not finished is not forgotten
none_last : (finished past : Bool) (last : Option (Ballot × Mark)) → finished ≡ false → (if finished && past then None else last) ≡ None → last ≡ None
none_last true past last f none = absurd (cc)
none_last false past last f none = none

new_mark : (cluster : Cluster) (facts : List Fact) (key : Key) (version : ℕ) (tx : TxId) (mark : Mark) (choice : Choice)
    → is_allowed_mark cluster facts key version tx mark choice ≡ true
    → (is_some (value_of (votes_of facts key version fast_ballot) tx) ≡ false) × (is_finished facts tx ≡ false) × (choice.tx ≡ tx)
new_mark cluster facts key version tx mark choice h =
    let may =
    four_of (tx_eq choice.tx tx) (choice.version == version) (key_eq choice.key key) (nat_le version (current_of facts key))
    (is_fast (promise_of facts key version)) (not (is_some (vote_of facts key version tx))) (not (is_heard facts tx)) (not (is_finished facts tx))
    (is_answer mark (vote_on cluster facts choice)) h in
    let unfinished = not-true (is_finished facts tx) may.3 in
    let none =
    none_last (is_finished facts tx) (nat_lt version (current_of facts key)) (last_vote facts key version tx) unfinished
    ((Decides-none (vote_of facts key version tx)).0 may.2) in (
      sym (voted_by_last facts key version tx fast_ballot None (sym none) (not_above_fast (promise_of facts key version) may.1)),
      unfinished,
      tx_eq-same choice.tx tx may.0,
    )

-- none of its marks was voted, none is of a finished transaction, and it offers what it marks
abbrev IsNewVote : List Fact → Key → ℕ → Ballot → Options → Option Choice → Type 0
IsNewVote facts key version ballot options offered =
    (list_any (λ e. is_some (value_of (votes_of facts key version ballot) e.0)) options ≡ false)
    × (list_any (λ e. is_finished facts e.0) options ≡ false)
    × (offers_unmarked (Fact.Voted key version ballot options offered) ≡ false)

new_fast : (cluster : Cluster) (facts : List Fact) (key : Key) (version : ℕ) (options : Options) (offered : Option Choice)
    → is_allowed_fast_vote cluster facts key version options offered ≡ true
    → IsNewVote facts key version fast_ballot options offered
new_fast cluster facts key version ((tx, Mark.Accept choice) ∷ []) None h =
    let new = new_mark cluster facts key version tx (Mark.Accept choice) choice h in
    (rw new.0 refl, rw new.1 refl, refl)
new_fast cluster facts key version ((tx, Mark.Reject) ∷ []) (Some choice) h =
    let new = new_mark cluster facts key version tx Mark.Reject choice h in
    (rw new.0 refl, rw new.1 refl, rw (new.2, tx_eq-refl tx) refl)
new_fast cluster facts key version _ _ h = absurd (cc)

not-either : (a b : Bool) → not (a || b) ≡ true → (a ≡ false) × (b ≡ false)
not-either true b h = absurd (cc)
not-either false b h = (refl, not-true b h)

none_any : {X : Type 0} (test other : X → Bool) (xs : List X) → list_all (λ x. not (test x || other x)) xs ≡ true
    → (list_any test xs ≡ false) × (list_any other xs ≡ false)
none_any test other [] h = (refl, refl)
none_any test other (x ∷ xs) h =
    let parts = and_parts (not (test x || other x)) (list_all (λ x. not (test x || other x)) xs) h in
    let first = not-either (test x) (other x) parts.0 in
    let rest = none_any test other xs parts.1 in
    (rw first.0 rest.0, rw first.1 rest.1)

last_two : (a b c d e f : Bool) → (a && b && c && d && e && f) ≡ true → (e ≡ true) × (f ≡ true)
last_two a b c d e f h =
    let p = and_parts (a && b && c && d && e) f h in
    ((and_parts (a && b && c && d) e p.0).1, p.1)

unoffered : (key : Key) (version : ℕ) (ballot : Ballot) (options : Options) (offered : Option Choice)
    → not (is_some offered) ≡ true → offers_unmarked (Fact.Voted key version ballot options offered) ≡ false
unoffered key version ballot options None h = refl
unoffered key version ballot options (Some choice) h = absurd (cc)

new_classic : (facts : List Fact) (key : Key) (version : ℕ) (ballot : Ballot) (options : Options) (offered : Option Choice)
    → is_allowed_classic_vote facts key version ballot options offered ≡ true
    → IsNewVote facts key version ballot options offered
new_classic facts key version ballot options offered h =
    let new =
    last_two (not (ballot_lt ballot (promise_of facts key version))) (nat_le version (current_of facts key)) (nat_lt 0 (length options)) (are_apart options)
    (length (new_marks facts key version ballot options) == length options) (not (is_some offered)) h in
    let none =
    none_any (λ e. is_some (value_of (votes_of facts key version ballot) e.0)) (λ e. is_finished facts e.0) options
    (sym (kept_all (λ e. not (is_past_mark facts key version ballot e.0)) options) ∙ new.0) in
    (none.0, none.1, unoffered key version ballot options offered new.1)

new_vote : (cluster : Cluster) (facts : List Fact) (key : Key) (version : ℕ) (ballot : Ballot) (options : Options) (offered : Option Choice)
    → is_admitted_kind cluster facts (Fact.Voted key version ballot options offered) ≡ true
    → IsNewVote facts key version ballot options offered
new_vote cluster facts key version ballot options offered h =
    elim (cases_Bool (is_fast ballot)) [
      | inl fast ↦
          let same : ballot ≡ fast_ballot = (Decides-fast ballot).0 fast in
          let vote : is_allowed_fast_vote cluster facts key version options offered ≡ true = rw fast at h in
          rw same (new_fast cluster facts key version options offered vote)
      | inr classic ↦
          let vote : is_allowed_classic_vote facts key version ballot options offered ≡ true = rw classic at h in
          new_classic facts key version ballot options offered vote
    ]

-- ---- all facts

addable : (cluster : Cluster) (facts : List Fact) (fact : Fact)
    → is_admitted_kind cluster facts fact ≡ true → IsWellFormedFact fact → fact_length fact ≤ 2097152
    → MayBeAdded facts fact
addable cluster facts (Fact.Booted epoch) h w s = record { well_formed = w; short = s; promised = refl; voted = refl; heard = refl; unfinished = refl; marked = refl; no_floor = refl }
addable cluster facts (Fact.Floor centre epoch seq) h w s = absurd (cc)
addable cluster facts (Fact.Promised key low high ballot) h w s =
    record { well_formed = w; short = s; promised = rw ((Decides-promise facts key low high ballot).0 h).is_new refl; voted = refl; heard = refl; unfinished = refl; marked = refl; no_floor = refl }
addable cluster facts (Fact.Voted key version ballot options offered) h w s =
    let new = new_vote cluster facts key version ballot options offered h in
    record { well_formed = w; short = s; promised = refl; voted = new.0; heard = refl; unfinished = new.1; marked = new.2; no_floor = refl }
addable cluster facts (Fact.Heard tx outcome) h w s =
    let none = not-either (is_heard facts tx) (is_finished facts tx) h in
    record { well_formed = w; short = s; promised = refl; voted = refl; heard = none.0; unfinished = none.1; marked = refl; no_floor = refl }
addable cluster facts (Fact.Adopted key version item adds) h w s = record { well_formed = w; short = s; promised = refl; voted = refl; heard = refl; unfinished = refl; marked = refl; no_floor = refl }

pub admitted_addable : AdmittedMayBeAdded
admitted_addable cluster facts fact h w s =
    addable cluster facts fact
    (and_parts (fact_belongs cluster fact && (is_booted fact || nat_lt 0 (epoch_of facts))) (is_admitted_kind cluster facts fact) h).1
    w s
