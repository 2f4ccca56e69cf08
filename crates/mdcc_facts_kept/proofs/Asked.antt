-- What is asked of a store is answered by the facts that are left.
use Rattle.std.proofs.Common.{◌≡◌, ◌≤◌, ◌+◌, ◌∷◌, [], ℕ, Bool, true, false, List, Option, None, is_some, refl, sym, ap, ◌∙◌, arith, inl, inr, length}
use Rattle.std.proofs.Math.Path.{fun_ext}
use Rattle.std.proofs.lemmas.Bool.{cases_Bool}
use Rattle.std.specs.List.{filter, list_any}
use Rattle.std.specs.Option.{option_map}
use Rattle.std.specs.Prelude.{if◌then◌else◌, min, nat_lt, not, ◌||◌, ◌&&◌, ◌-◌, ◌^◌}
use Rattle.mdcc_base.specs.Ballot.{fast_ballot}
use Rattle.mdcc_base.specs.Counts.{number_of}
use Rattle.mdcc_base.specs.declared.identifiers.Ballot.{Ballot}
use Rattle.mdcc_base.specs.declared.identifiers.TxId.{TxId}
use Rattle.mdcc_base.specs.declared.key.Key.{Key}
use Rattle.mdcc_option.specs.declared.choices.Mark.{Mark}
use Rattle.mdcc_option.specs.declared.choices.Outcome.{Outcome}
use Rattle.mdcc_struct.specs.Maps.{value_of}
use Rattle.mdcc_struct.specs.declared.options.Options.{Options}
use Rattle.mdcc_def_messages.specs.declared.facts.Fact.{Fact}
use Rattle.mdcc_def_protocol.specs.Facts.{base_of, choice_known, current_of, epoch_of, executed_of, first_choice_voted, heard_of, is_finished, is_forgotten, is_heard, is_idle, is_past, is_settled, last_ballot, last_vote, outcome_kept, promise_of, promised_through, shown_of, shows_mark, unresolved_of, vote_of, votes_of, without_forgotten}
use Rattle.mdcc_def_protocol.specs.Marks.{accepts_in, is_commit, rejects_in}
use Rattle.mdcc_def_protocol.specs.News.{is_crowding}
use Rattle.mdcc_def_protocol.specs.Plain.{plain_ended_of, plain_entries_at, plain_unresolved_of}
use Rattle.mdcc_def_protocol.specs.Stores.{count_voted, delta_of, ended_of, entries_at}
use Rattle.mdcc_facts.specs.Past.{count_past, is_past_mark}
use Rattle.mdcc_cells_marked.specs.Marks.{has_open_mark, is_open_mark}
use Rattle.mdcc_given_back.specs.Counted.{without_floors}
use Rattle.mdcc_given_back.proofs.EndingsLeft.{kept-stays, past-alike}
use Rattle.mdcc_given_back.proofs.FloorsLeft.{finished-stays}
use Rattle.mdcc_given_back.proofs.HeardLeft.{settled-by-rest}
use Rattle.mdcc_given_back.proofs.MarksLeft.{choice-by-rest, count_past-by-rest, entries-by-rest, shown-by-rest, vote-by-rest}
use Rattle.mdcc_given_back.proofs.UnsettledLeft.{unresolved-by-rest, write_set-by-rest}
use Rattle.mdcc_given_back.proofs.VersionsLeft.{base-stays, crowding-stays, current-stays, delta-stays, executed-stays}
use Rattle.mdcc_given_back.proofs.Walked.{ballot-stays, epoch-stays, promise-stays, range-stays}
use Rattle.mdcc_facts_kept.specs.Kept.{IsKept, KeptRest}
use Rattle.mdcc_facts_kept.proofs.WithoutFloors.{any-without, ballot-same, choice-same, crowding-same, current-same, delta-same, epoch-same, executed-same, heard-same, held-same, promise-same, range-same, unheard-same, vote-same, votes-same}

abbrev capped_counts : ℕ × ℕ → ℕ × ℕ
capped_counts entries = (min entries.0 (2 ^ 32 - 1), min entries.1 (2 ^ 32 - 1))

one-counted : {X : Type 0} (x : X) (a b : Bool) → number_of (λ (e : X). a) (x ∷ []) ≡ number_of (λ (e : X). b) (x ∷ []) → a ≡ b
one-counted x true true is = refl
one-counted x true false is = absurd (omega (arith, is))
one-counted x false true is = absurd (omega (arith, is))
one-counted x false false is = refl

none-more : {X : Type 0} (test more : X → Bool) (xs : List X) → list_any more xs ≡ false → number_of (λ x. test x || more x) xs ≡ number_of test xs
none-more test more [] none = refl
none-more test more (x ∷ xs) none = elim (cases_Bool (more x)) [
  | inl is ↦ absurd (let bad : true ≡ false = rw is at none in cc)
  | inr other ↦
      let rest : list_any more xs ≡ false = rw other at none in
      elim (cases_Bool (test x)) [
        | inl here ↦ rw here (ap (λ n. 1 + n) (none-more test more xs rest))
        | inr there ↦ rw (there, other) (ap (λ n. 0 + n) (none-more test more xs rest))
      ]
]

-- of a finished transaction the marks are shown that are not below the version held
open-same : (facts : List Fact) (tx : TxId) → is_finished facts tx ≡ true → (fact : Fact) → is_open_mark (without_floors facts) tx fact ≡ shows_mark facts tx fact
open-same facts tx is (Fact.Voted key version ballot options offered) =
    ap (λ n. is_some (value_of options tx) && not (nat_lt version n)) (current-same facts key)
    ∙ ap (λ b. is_some (value_of options tx) && not (b && nat_lt version (current_of facts key))) (sym is)
open-same facts tx is (Fact.Booted epoch) = refl
open-same facts tx is (Fact.Promised key low high ballot) = refl
open-same facts tx is (Fact.Heard t outcome) = refl
open-same facts tx is (Fact.Adopted key version item adds) = refl
open-same facts tx is (Fact.Floor centre epoch seq) = refl

any-same : (test other : Fact → Bool) → ((fact : Fact) → test fact ≡ other fact) → ((centre epoch seq : ℕ) → other (Fact.Floor centre epoch seq) ≡ false)
    → (facts : List Fact) → list_any test (without_floors facts) ≡ list_any other facts
any-same test other alike none facts = ap (λ (t : Fact → Bool). list_any t (without_floors facts)) (fun_ext alike) ∙ any-without other none facts

open-shown : (facts : List Fact) (tx : TxId) → is_finished facts tx ≡ true → has_open_mark (without_floors facts) tx ≡ list_any (shows_mark facts tx) facts
open-shown facts tx is = any-same (is_open_mark (without_floors facts) tx) (shows_mark facts tx) (open-same facts tx is) (λ centre epoch seq. refl) facts

module _ (store : KeptRest) (facts : List Fact) (kept : IsKept store facts) where
  pub promise_asked : (key : Key) (version : ℕ) → promise_of (without_floors kept.rest) key version ≡ promise_of facts key version
  promise_asked key version = promise-same kept.rest key version ∙ promise-stays kept.rest facts key version kept.is_rest

  pub range_asked : (key : Key) (version : ℕ) (ballot : Ballot) → promised_through (without_floors kept.rest) key version ballot ≡ promised_through facts key version ballot
  range_asked key version ballot = range-same kept.rest key version ballot ∙ range-stays kept.rest facts key version ballot kept.is_rest

  pub ballot_asked : (key : Key) (version : ℕ) (below : Ballot) → last_ballot (without_floors kept.rest) key version below ≡ last_ballot facts key version below
  ballot_asked key version below = ballot-same kept.rest key version below ∙ ballot-stays kept.rest facts key version below kept.is_rest

  pub epoch_asked : epoch_of (without_floors kept.rest) ≡ epoch_of facts
  epoch_asked = epoch-same kept.rest ∙ epoch-stays kept.rest facts kept.is_rest

  pub current_asked : (key : Key) → current_of (without_floors kept.rest) key ≡ current_of facts key
  current_asked key = current-same kept.rest key ∙ current-stays kept.rest facts key kept.is_rest kept.added.heard

  pub base_asked : (key : Key) → base_of (without_floors kept.rest) key ≡ base_of facts key
  base_asked key = held-same kept.rest key ∙ base-stays kept.rest facts key kept.is_rest kept.added.heard

  pub executed_asked : (key : Key) → executed_of (without_floors kept.rest) key ≡ executed_of facts key
  executed_asked key = executed-same kept.rest key ∙ executed-stays kept.rest facts key kept.is_rest kept.added.heard

  pub delta_asked : (key : Key) (tx : TxId) → delta_of (without_floors kept.rest) key tx ≡ delta_of facts key tx
  delta_asked key tx = delta-same kept.rest key tx ∙ delta-stays kept.rest facts key tx kept.is_rest kept.added.heard

  pub crowding_asked : (fact : Fact) → is_crowding (without_floors kept.rest) fact ≡ is_crowding facts fact
  crowding_asked fact = crowding-same kept.rest fact ∙ crowding-stays kept.rest facts fact kept.is_rest kept.added.heard

  pub vote_asked : (key : Key) (version : ℕ) (tx : TxId) → vote_of facts key version tx ≡ (if is_forgotten facts key version tx then None else last_vote (without_floors kept.rest) key version tx)
  vote_asked key version tx =
      vote-by-rest kept.rest facts key version tx kept.is_rest ∙ ap (λ vote. if is_forgotten facts key version tx then None else vote) (sym (vote-same kept.rest key version tx))

  pub choice_asked : (key : Key) (version : ℕ) (tx : TxId)
      → choice_known facts key version tx ≡ (if is_forgotten facts key version tx then None else first_choice_voted (without_floors kept.rest) key version tx)
  choice_asked key version tx =
      choice-by-rest kept.rest facts key version tx kept.is_rest kept.added.marked
      ∙ ap (λ choice. if is_forgotten facts key version tx then None else choice) (sym (choice-same kept.rest key version tx))

  pub shown_asked : (key : Key) (version : ℕ) (ballot : Ballot) → shown_of facts key version ballot ≡ without_forgotten facts key version (votes_of (without_floors kept.rest) key version ballot)
  shown_asked key version ballot =
      shown-by-rest kept.rest facts key version ballot kept.is_rest ∙ ap (without_forgotten facts key version) (sym (votes-same kept.rest key version ballot))

  pub unresolved_asked : unresolved_of facts ≡ filter (λ e. not (is_finished facts e.0)) (plain_unresolved_of (without_floors kept.rest))
  unresolved_asked =
      unresolved-by-rest kept.rest facts kept.is_rest kept.added.marked ∙ ap (filter (λ e. not (is_finished facts e.0))) (sym (unheard-same kept.rest))

  pub write_set_asked : (tx : TxId) → value_of (unresolved_of facts) tx ≡ (if is_finished facts tx then None else value_of (plain_unresolved_of (without_floors kept.rest)) tx)
  write_set_asked tx =
      write_set-by-rest kept.rest facts tx kept.is_rest kept.added.marked ∙ ap (λ sets. if is_finished facts tx then None else value_of sets tx) (sym (unheard-same kept.rest))

  pub settled_asked : (tx : TxId) → is_settled facts tx ≡ (is_heard (without_floors kept.rest) tx || is_finished facts tx)
  settled_asked tx = settled-by-rest kept.rest facts tx kept.is_rest ∙ ap (λ heard. is_some heard || is_finished facts tx) (sym (heard-same kept.rest tx))

  -- at the version held, and at later ones
  pub entries_asked : (key : Key) (version : ℕ) → current_of facts key ≤ version → plain_entries_at (without_floors kept.rest) key version ≡ entries_at facts key version
  entries_asked key version held =
      ap capped_counts
      (ap (λ (votes : Options). (length (accepts_in votes), length (rejects_in votes))) (votes-same kept.rest key version fast_ballot)
      ∙ sym (entries-by-rest kept.rest facts key version kept.is_rest held))

  pub past_asked : (key : Key) (version : ℕ) (ballot : Ballot) (tx : TxId)
      → (is_some (value_of (votes_of (without_floors kept.rest) key version ballot) tx) || is_finished facts tx) ≡ is_past_mark facts key version ballot tx
  past_asked key version ballot tx =
      one-counted {X = TxId × Mark} (tx, Mark.Reject) (is_some (value_of (votes_of (without_floors kept.rest) key version ballot) tx) || is_finished facts tx) (is_past_mark facts key version ballot tx)
      (ap (λ (votes : Options). number_of (λ (e : TxId × Mark). is_some (value_of votes tx) || is_finished facts tx) ((tx, Mark.Reject) ∷ [])) (votes-same kept.rest key version ballot)
      ∙ sym (count_past-by-rest kept.rest facts key version ballot ((tx, Mark.Reject) ∷ []) kept.is_rest))

  -- where none of the transactions is finished those are past that were voted
  pub count_asked : (key : Key) (version : ℕ) (ballot : Ballot) (options : Options) → list_any (λ e. is_finished facts e.0) options ≡ false
      → count_voted (without_floors kept.rest) key version ballot options ≡ count_past facts key version ballot options
  count_asked key version ballot options none =
      sym (none-more (λ e. is_some (value_of (votes_of (without_floors kept.rest) key version ballot) e.0)) (λ e. is_finished facts e.0) options none)
      ∙ ap (λ (test : TxId → Bool). number_of (λ e. test e.0) options) (fun_ext (past_asked key version ballot))

  -- ---- outcomes

  pub idle_asked : (tx : TxId)
      → (is_finished facts tx && (is_past facts (heard_of (without_floors kept.rest) tx) && not (has_open_mark (without_floors kept.rest) tx))) ≡ is_idle kept.rest tx
  idle_asked tx = by (is_finished facts tx) refl
    where
      same : is_finished kept.rest tx ≡ is_finished facts tx
      same = finished-stays kept.rest facts tx kept.is_rest

      past : is_past facts (heard_of (without_floors kept.rest) tx) ≡ is_past kept.rest (heard_of kept.rest tx)
      past = ap (is_past facts) (heard-same kept.rest tx) ∙ sym (past-alike kept.rest facts kept.is_rest kept.added.heard (heard_of kept.rest tx))

      by : (finished : Bool) → is_finished facts tx ≡ finished
          → (is_finished facts tx && (is_past facts (heard_of (without_floors kept.rest) tx) && not (has_open_mark (without_floors kept.rest) tx))) ≡ is_idle kept.rest tx
      by false none = rw (none, same ∙ none) refl
      by true is =
          ap (λ b. b && (is_past facts (heard_of (without_floors kept.rest) tx) && not (has_open_mark (without_floors kept.rest) tx))) is
          ∙ ap (λ b. b && not (has_open_mark (without_floors kept.rest) tx)) past
          ∙ ap (λ b. is_past kept.rest (heard_of kept.rest tx) && not b) (open-shown kept.rest tx (same ∙ is))
          ∙ ap (λ b. b && is_past kept.rest (heard_of kept.rest tx) && not (list_any (shows_mark kept.rest tx) kept.rest)) (sym (same ∙ is))

  pub heard_asked : (tx : TxId) → outcome_kept facts tx ≡ (if is_idle kept.rest tx then None else heard_of (without_floors kept.rest) tx)
  heard_asked tx =
      sym (kept-stays kept.rest facts tx kept.is_rest kept.added.heard)
      ∙ ap (λ (o : Option Outcome). if is_idle kept.rest tx then None else o) (sym (heard-same kept.rest tx))

  pub ended_asked : (tx : TxId) → ended_of facts tx ≡ (if is_idle kept.rest tx then None else plain_ended_of (without_floors kept.rest) tx)
  ended_asked tx = ap (λ (o : Option Outcome). option_map is_commit o) (heard_asked tx) ∙ within (is_idle kept.rest tx) (heard_of (without_floors kept.rest) tx)
    where
      within : (idle : Bool) (o : Option Outcome) → option_map is_commit (if idle then None else o) ≡ (if idle then None else option_map is_commit o)
      within true o = refl
      within false o = refl
