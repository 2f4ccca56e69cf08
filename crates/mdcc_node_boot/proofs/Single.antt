-- Votes of one mark at the fast ballot.
use Rattle.std.proofs.Common.{◌≡◌, ℕ, Bool, true, false, not, ◌&&◌, ◌==◌, nat_le, nat_lt, List, [], ◌∷◌, length, slice_get, Option, Some, None, is_some, refl, sym, ◌∙◌, ap, arith, if◌then◌else◌, inl, inr}
use Rattle.std.specs.List.{list_any}
use Rattle.std.proofs.lemmas.Bool.{cases_Bool, eqb-true}
use Rattle.std.proofs.lemmas.Bool.Decides.{nat_tests}
use Rattle.mdcc_node_boot.specs.Admission.{is_allowed_single}
use Rattle.mdcc_base.specs.Ballot.{is_fast}
use Rattle.mdcc_base.specs.Key.{key_eq}
use Rattle.mdcc_base.specs.TxId.{tx_eq}
use Rattle.mdcc_base.specs.declared.identifiers.Ballot.{Ballot}
use Rattle.mdcc_base.specs.declared.identifiers.TxId.{TxId}
use Rattle.mdcc_base.specs.declared.key.Key.{Key}
use Rattle.mdcc_option.specs.declared.choices.Choice.{Choice}
use Rattle.mdcc_option.specs.declared.choices.Mark.{Mark}
use Rattle.mdcc_option.specs.declared.choices.Outcome.{Outcome}
use Rattle.mdcc_option.specs.declared.cluster.Cluster.{Cluster}
use Rattle.mdcc_option.proofs.Equal.{Decides-tx, Decides-key}
use Rattle.mdcc_struct.specs.declared.options.Options.{Options}
use Rattle.mdcc_def_protocol.specs.Acceptor.{answer_after, answer_by_vote, answer_to_new, on_propose, vote_on}
use Rattle.mdcc_def_ledger.specs.BootTest.{is_allowed_fast_vote, is_allowed_mark, is_answer}
use Rattle.mdcc_def_protocol.specs.Facts.{current_of, heard_of, is_finished, is_heard, is_past, outcome_kept, promise_of, shows_mark, vote_of}
use Rattle.mdcc_def_protocol.specs.declared.acceptor.ProposeAnswer.{ProposeAnswer}
use Rattle.mdcc_def_messages.specs.declared.facts.Fact.{Fact}

-- ---- the acceptor's answer

same_version : (n : ℕ) → (n == n) ≡ true
same_version n = grind (arith, nat_tests)

module _ (cluster : Cluster) (facts : List Fact) (mark : Mark) (choice : Choice) where
  -- a transaction that was neither heard nor voted is voted where the version is held and no classic ballot is promised
  answer_new : is_answer mark (answer_to_new cluster facts choice)
      ≡ (nat_le choice.version (current_of facts choice.key) && is_fast (promise_of facts choice.key choice.version) && is_answer mark (vote_on cluster facts choice))
  answer_new =
      elim (cases_Bool (nat_lt (current_of facts choice.key) choice.version)) [
        | inl behind ↦
            let over : nat_le choice.version (current_of facts choice.key) ≡ false = grind (arith, nat_tests) in
            rw (behind, over) refl
        | inr not_behind ↦
            let held : nat_le choice.version (current_of facts choice.key) ≡ true = grind (arith, nat_tests) in
            elim (cases_Bool (is_fast (promise_of facts choice.key choice.version))) [
              | inl fast ↦ rw (not_behind, held, fast) refl
              | inr classic ↦ rw (not_behind, held, classic) refl
            ]
      ]

  -- the answer by whether the transaction is finished, and by its vote
  abbrev answer_by : Option Outcome → Bool → Option (Ballot × Mark) → ProposeAnswer
  answer_by (Some outcome) finished vote = ProposeAnswer.Known outcome
  answer_by None finished vote = if finished then ProposeAnswer.Finished else answer_by_vote cluster facts choice vote

  answer_is : (kept : Option Outcome)
      → answer_after cluster facts choice kept ≡ answer_by kept (is_finished facts choice.tx) (vote_of facts choice.key choice.version choice.tx)
  answer_is None = refl
  answer_is (Some outcome) = refl

  -- a finished transaction gets no vote
  never : (a b c d e : Bool) → false ≡ (a && b && c && d && false && e)
  never true true true true e = refl
  never true true true false e = refl
  never true true false d e = refl
  never true false c d e = refl
  never false b c d e = refl

  not_finished : (kept : Option Outcome) (vote : Option (Ballot × Mark)) (a b c d e : Bool) → is_answer mark (answer_by kept true vote) ≡ (a && b && c && d && false && e)
  not_finished None vote a b c d e = never a b c d e
  not_finished (Some outcome) vote a b c d e = never a b c d e

  -- of one that is not, what was heard is kept
  unfinished : (heard : Option Outcome) (vote : Option (Ballot × Mark)) (held fast voted : Bool)
      → is_answer mark (answer_to_new cluster facts choice) ≡ (held && fast && voted)
      → is_answer mark (answer_by heard false vote) ≡ (held && fast && not (is_some vote) && not (is_some heard) && true && voted)
  unfinished (Some outcome) vote held fast voted h = nothing held fast (not (is_some vote)) voted
    where
      nothing : (a b c d : Bool) → false ≡ (a && b && c && false && true && d)
      nothing true true true d = refl
      nothing true true false d = refl
      nothing true false c d = refl
      nothing false b c d = refl
  unfinished None (Some vote) held fast voted h = nothing held fast voted
    where
      nothing : (a b d : Bool) → false ≡ (a && b && false && true && true && d)
      nothing true true d = refl
      nothing true false d = refl
      nothing false b d = refl
  unfinished None None held fast voted h = h ∙ same held fast voted
    where
      same : (a b d : Bool) → (a && b && d) ≡ (a && b && true && true && true && d)
      same true true d = refl
      same true false d = refl
      same false b d = refl

  by_finished : (finished past shown : Bool) (heard : Option Outcome) (vote : Option (Ballot × Mark)) (held fast voted : Bool)
      → is_answer mark (answer_to_new cluster facts choice) ≡ (held && fast && voted)
      → is_answer mark (answer_by (if finished && past && shown then None else heard) finished vote)
      ≡ (held && fast && not (is_some vote) && not (is_some heard) && not finished && voted)
  by_finished true past shown heard vote held fast voted h =
      not_finished (if past && shown then None else heard) vote held fast (not (is_some vote)) (not (is_some heard)) voted
  by_finished false past shown heard vote held fast voted h = unfinished heard vote held fast voted h

  own_answer : is_answer mark (on_propose cluster facts choice)
      ≡ (nat_le choice.version (current_of facts choice.key) && is_fast (promise_of facts choice.key choice.version)
      && not (is_some (vote_of facts choice.key choice.version choice.tx)) && not (is_heard facts choice.tx) && not (is_finished facts choice.tx)
      && is_answer mark (vote_on cluster facts choice))
  own_answer =
      ap (is_answer mark) (answer_is (outcome_kept facts choice.tx))
      ∙ by_finished (is_finished facts choice.tx) (is_past facts (heard_of facts choice.tx)) (not (list_any (shows_mark facts choice.tx) facts))
      (heard_of facts choice.tx) (vote_of facts choice.key choice.version choice.tx)
      (nat_le choice.version (current_of facts choice.key)) (is_fast (promise_of facts choice.key choice.version)) (is_answer mark (vote_on cluster facts choice)) answer_new

  own_mark : is_answer mark (on_propose cluster facts choice) ≡ is_allowed_mark cluster facts choice.key choice.version choice.tx mark choice
  own_mark =
      rw ((Decides-tx choice.tx choice.tx).1 refl, (Decides-key choice.key choice.key).1 refl, same_version choice.version) own_answer

-- the mark is the acceptor's own where it answers a proposal of the choice so
pub answered : (cluster : Cluster) (facts : List Fact) (key : Key) (version : ℕ) (tx : TxId) (mark : Mark) (choice : Choice)
    → (tx_eq choice.tx tx && choice.version == version && key_eq choice.key key && is_answer mark (on_propose cluster facts choice))
    ≡ is_allowed_mark cluster facts key version tx mark choice
answered cluster facts key version tx mark choice =
    elim (cases_Bool (tx_eq choice.tx tx)) [
      | inr other ↦ rw other refl
      | inl of_tx ↦ elim (cases_Bool (choice.version == version)) [
        | inr other ↦ rw (of_tx, other) refl
        | inl of_version ↦ elim (cases_Bool (key_eq choice.key key)) [
          | inr other ↦ rw (of_tx, of_version, other) refl
          | inl of_key ↦
              equal key version tx (sym ((Decides-key choice.key key).0 of_key)) (sym (eqb-true choice.version version of_version)) (sym ((Decides-tx choice.tx tx).0 of_tx))
        ]
      ]
    ]
  where
    equal : (key : Key) (version : ℕ) (tx : TxId) → key ≡ choice.key → version ≡ choice.version → tx ≡ choice.tx
        → (tx_eq choice.tx tx && choice.version == version && key_eq choice.key key && is_answer mark (on_propose cluster facts choice))
        ≡ is_allowed_mark cluster facts key version tx mark choice
    equal key version tx k v t =
        rw (k, v, t, (Decides-tx choice.tx choice.tx).1 refl, (Decides-key choice.key choice.key).1 refl, same_version choice.version) (own_answer cluster facts mark choice)

-- ---- how many marks there are

module _ (cluster : Cluster) (facts : List Fact) (key : Key) (version : ℕ) where
  single : (tx : TxId) (mark : Mark) (offered : Option Choice)
      → is_allowed_fast_vote cluster facts key version ((tx, mark) ∷ []) offered ≡ is_allowed_single cluster facts key version tx mark offered
  single tx (Mark.Accept choice) None = refl
  single tx (Mark.Accept choice) (Some other) = refl
  single tx Mark.Reject None = refl
  single tx Mark.Reject (Some choice) = refl

  pub one_mark : (options : Options) (offered : Option Choice) (tx : TxId) (mark : Mark) → length options ≡ 1 → slice_get options 0 ≡ Some (tx, mark)
      → is_allowed_single cluster facts key version tx mark offered ≡ is_allowed_fast_vote cluster facts key version options offered
  one_mark [] offered tx mark count at = absurd (cc)
  one_mark ((tx', mark') ∷ []) offered tx mark count at =
      let same : (tx', mark') ≡ (tx, mark) = cc in
      let same_tx : tx ≡ tx' = sym (ap (λ (e : TxId × Mark). e.0) same) in
      let same_mark : mark ≡ mark' = sym (ap (λ (e : TxId × Mark). e.1) same) in
      rw (same_tx, same_mark) (sym (single tx' mark' offered))
  one_mark (e ∷ f ∷ es) offered tx mark count at = absurd (omega arith)

  pub other_marks : (options : Options) (offered : Option Choice) → (length options == 1) ≡ false
      → false ≡ is_allowed_fast_vote cluster facts key version options offered
  other_marks [] offered count = refl
  other_marks (e ∷ []) offered count = absurd (cc)
  other_marks ((tx, Mark.Accept choice) ∷ f ∷ es) offered count = refl
  other_marks ((tx, Mark.Reject) ∷ f ∷ es) offered count = refl
