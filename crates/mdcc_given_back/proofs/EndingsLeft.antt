-- An idle outcome that was not dropped is idle by the facts that are left.
use Rattle.std.proofs.Common.{◌≡◌, ◌==◌, ◌&&◌, ℕ, Bool, true, false, List, [], ◌∷◌, Option, Some, None, is_some, refl, sym, ap, ◌∙◌, inl, inr}
use Rattle.std.proofs.Math.Path.{fun_ext}
use Rattle.std.specs.List.{AllByRecursion, list_any}
use Rattle.std.specs.Option.{option_map}
use Rattle.std.specs.Prelude.{if◌then◌else◌, nat_le, not}
use Rattle.std.proofs.lemmas.Bool.{cases_Bool}
use Rattle.mdcc_base.specs.TxId.{tx_eq}
use Rattle.mdcc_base.specs.declared.identifiers.Ballot.{Ballot}
use Rattle.mdcc_base.specs.declared.identifiers.TxId.{TxId}
use Rattle.mdcc_base.specs.declared.key.Key.{Key}
use Rattle.mdcc_option.specs.OneCopy.{next_version}
use Rattle.mdcc_option.specs.declared.choices.Choice.{Choice}
use Rattle.mdcc_option.specs.declared.choices.Outcome.{Outcome}
use Rattle.mdcc_struct.specs.Maps.{value_of}
use Rattle.mdcc_struct.specs.declared.options.Options.{Options}
use Rattle.mdcc_struct.proofs.Order.{tx_eq-same}
use Rattle.mdcc_def_messages.specs.declared.facts.Fact.{Fact}
use Rattle.mdcc_def_protocol.specs.Facts.{heard_of, is_finished, is_forgotten, is_idle, is_needed, is_past, outcome_in, outcome_kept, shows_mark}
use Rattle.mdcc_def_protocol.specs.Marks.{is_commit, is_write}
use Rattle.mdcc_theorem_fact_folds.specs.Outcomes.{are_heard_once}
use Rattle.mdcc_given_back.specs.Endings.{EndedStays, HeardOfRest, IdleOfHeard, KeptByShown, KeptStays}
use Rattle.mdcc_given_back.specs.Rest.{AreRest, IsLeft, IsRest, bare, is_vote_past}
use Rattle.mdcc_given_back.proofs.Alike.{AnyFact, any-alike, each}
use Rattle.mdcc_given_back.proofs.FirstHeard.{IsFirst, first-heard}
use Rattle.mdcc_given_back.proofs.FloorsLeft.{finished-stays}
use Rattle.mdcc_given_back.proofs.HeardLeft.{heard-stays}
use Rattle.mdcc_given_back.proofs.PastVotes.{bared-same, dropped-none, past-value}
use Rattle.mdcc_given_back.proofs.VersionsLeft.{current-stays, forgotten-stays}

-- ---- what is left tells nothing else

left-first : (all : List Fact) (fact left : Fact) → IsFirst all fact → IsLeft all fact left → IsFirst all left
left-first all fact left p (inl same) = rw same p
left-first all fact left p (inr is) = rw is.1 (by fact p)
  where
    by : (fact : Fact) → IsFirst all fact → IsFirst all (bare fact)
    by (Fact.Heard tx outcome) p = p
    by (Fact.Booted k) p = tt
    by (Fact.Promised k low high b) p = tt
    by (Fact.Voted k v b options offered) p = tt
    by (Fact.Adopted k v item adds) p = tt
    by (Fact.Floor c e n) p = tt

rest-first : (all rest facts : List Fact) → AllByRecursion (IsFirst all) facts → AreRest all rest facts → AllByRecursion (IsFirst all) rest
rest-first all [] facts ps is = tt
rest-first all (left ∷ rest) [] ps is = absurd is
rest-first all (left ∷ rest) (fact ∷ facts) ps (inl is) = rest-first all (left ∷ rest) facts ps.1 is.1
rest-first all (left ∷ rest) (fact ∷ facts) ps (inr is) = (left-first all fact left ps.0 is.0, rest-first all rest facts ps.1 is.1)

first-outcome : (all : List Fact) (tx : TxId) (fact : Fact) (outcome : Outcome) → IsFirst all fact → outcome_in tx fact ≡ Some outcome → heard_of all tx ≡ Some outcome
first-outcome all tx (Fact.Heard t o) outcome p h = elim (cases_Bool (tx_eq t tx)) [
  | inl same ↦
      let told : Some o ≡ Some outcome = rw same at h in
      ap (heard_of all) (sym (tx_eq-same t tx same)) ∙ p ∙ told
  | inr other ↦ absurd (let bad : None ≡ Some outcome = rw other at h in cc)
]
first-outcome all tx (Fact.Booted k) outcome p h = absurd (cc)
first-outcome all tx (Fact.Promised k low high b) outcome p h = absurd (cc)
first-outcome all tx (Fact.Voted k v b options offered) outcome p h = absurd (cc)
first-outcome all tx (Fact.Adopted k v item adds) outcome p h = absurd (cc)
first-outcome all tx (Fact.Floor c e n) outcome p h = absurd (cc)

heard-first : (all facts : List Fact) (tx : TxId) (outcome : Outcome) → AllByRecursion (IsFirst all) facts → heard_of facts tx ≡ Some outcome → heard_of all tx ≡ Some outcome
heard-first all [] tx outcome ps h = absurd (cc)
heard-first all (fact ∷ facts) tx outcome ps h = by (heard-first all facts tx outcome ps.1) (heard_of facts tx) refl
  where
    by : (heard_of facts tx ≡ Some outcome → heard_of all tx ≡ Some outcome) → (o : Option Outcome) → heard_of facts tx ≡ o → heard_of all tx ≡ Some outcome
    by older None none =
        let here : outcome_in tx fact ≡ Some outcome = rw none at h in
        first-outcome all tx fact outcome ps.0 here
    by older (Some o) some =
        let same : Some o ≡ Some outcome = rw some at h in
        older (some ∙ same)

-- ---- the same choices are needed, and the same marks shown

module _ (rest facts : List Fact) (is : IsRest rest facts) (once : are_heard_once facts ≡ true) where
  needed-alike : (choice : Choice) → is_needed rest choice ≡ is_needed facts choice
  needed-alike choice =
      ap (λ n. if is_write choice.update then next_version choice.version == n else nat_le n choice.version) (current-stays rest facts choice.key is once)

  pub past-alike : (o : Option Outcome) → is_past rest o ≡ is_past facts o
  past-alike None = refl
  past-alike (Some Outcome.Abort) = refl
  past-alike (Some (Outcome.Commit choices)) = ap (λ (test : Choice → Bool). not (list_any test choices)) (fun_ext needed-alike)

  shows-alike : (tx : TxId) (fact : Fact) → shows_mark rest tx fact ≡ shows_mark facts tx fact
  shows-alike tx (Fact.Voted k v b options offered) = ap (λ c. is_some (value_of options tx) && not c) (forgotten-stays rest facts k v tx is once)
  shows-alike tx (Fact.Booted k) = refl
  shows-alike tx (Fact.Promised k low high b) = refl
  shows-alike tx (Fact.Heard t outcome) = refl
  shows-alike tx (Fact.Adopted k v item adds) = refl
  shows-alike tx (Fact.Floor c e n) = refl

  and-never : (a : Bool) → (a && false) ≡ false
  and-never true = refl
  and-never false = refl

  unshown : (tx : TxId) (k : Key) (v : ℕ) (b : Ballot) (options : Options) (offered : Option Choice) → AnyFact (Fact.Voted k v b options offered)
      → is_vote_past facts k v options ≡ true → shows_mark facts tx (Fact.Voted k v b options offered) ≡ false
  unshown tx k v b options offered p past = elim (cases_Bool (is_forgotten facts k v tx)) [
    | inl gone ↦ ap (λ c. is_some (value_of options tx) && not c) gone ∙ and-never (is_some (value_of options tx))
    | inr kept ↦ ap (λ o. is_some o && not (is_forgotten facts k v tx)) (past-value facts k v options tx past kept)
  ]

  any-shown : (tx : TxId) → list_any (shows_mark rest tx) rest ≡ list_any (shows_mark facts tx) facts
  any-shown tx =
      ap (λ (test : Fact → Bool). list_any test rest) (fun_ext (shows-alike tx))
      ∙ any-alike (shows_mark facts tx) facts AnyFact
      (dropped-none false (shows_mark facts tx) facts AnyFact (λ k v b. tt) (unshown tx) (λ t o. refl) (λ k v item adds. refl) (λ c e n. refl))
      (bared-same false (shows_mark facts tx) facts AnyFact (λ k v b. tt) (unshown tx) (λ t o. refl) (λ k v item adds. refl) (λ c e n. refl))
      rest facts (each AnyFact (λ fact. tt) facts) is

  -- where the same was heard it is idle by both
  idle-alike : (tx : TxId) → heard_of rest tx ≡ heard_of facts tx → is_idle rest tx ≡ is_idle facts tx
  idle-alike tx same =
      ap (λ b. b && is_past rest (heard_of rest tx) && not (list_any (shows_mark rest tx) rest)) (finished-stays rest facts tx is)
      ∙ ap (λ o. is_finished facts tx && is_past rest o && not (list_any (shows_mark rest tx) rest)) same
      ∙ ap (λ b. is_finished facts tx && b && not (list_any (shows_mark rest tx) rest)) (past-alike (heard_of facts tx))
      ∙ ap (λ b. is_finished facts tx && is_past facts (heard_of facts tx) && not b) (any-shown tx)

  kept-same : (tx : TxId) → heard_of rest tx ≡ heard_of facts tx → outcome_kept rest tx ≡ outcome_kept facts tx
  kept-same tx same = ap (λ (b : Bool). if b then None else heard_of rest tx) (idle-alike tx same) ∙ ap (λ (o : Option Outcome). if is_idle facts tx then None else o) same

  either-none : (b : Bool) (o : Option Outcome) → o ≡ None → (if b then None else o) ≡ None
  either-none true o h = refl
  either-none false o h = h

  kept-left : (tx : TxId) → outcome_kept rest tx ≡ outcome_kept facts tx
  kept-left tx = elim (cases_Bool (is_idle facts tx)) [
    | inr busy ↦ kept-same tx (heard-stays rest facts tx is busy)
    | inl idle ↦ by idle (heard_of rest tx) refl
  ]
    where
      by : is_idle facts tx ≡ true → (o : Option Outcome) → heard_of rest tx ≡ o → outcome_kept rest tx ≡ outcome_kept facts tx
      by idle None none = either-none (is_idle rest tx) (heard_of rest tx) none ∙ sym (ap (λ (b : Bool). if b then None else heard_of facts tx) idle)
      by idle (Some outcome) some =
          kept-same tx (some ∙ sym (heard-first facts rest tx outcome (rest-first facts rest facts (first-heard facts once) is) some))

  pub idle-left : (tx : TxId) → is_idle rest tx ≡ (is_finished facts tx && is_past facts (heard_of rest tx) && not (list_any (shows_mark facts tx) rest))
  idle-left tx =
      ap (λ b. b && is_past rest (heard_of rest tx) && not (list_any (shows_mark rest tx) rest)) (finished-stays rest facts tx is)
      ∙ ap (λ b. is_finished facts tx && b && not (list_any (shows_mark rest tx) rest)) (past-alike (heard_of rest tx))
      ∙ ap (λ (test : Fact → Bool). is_finished facts tx && is_past facts (heard_of rest tx) && not (list_any test rest)) (fun_ext (shows-alike tx))

  kept-shown : (tx : TxId)
      → outcome_kept facts tx
      ≡ (if is_finished facts tx && is_past facts (heard_of rest tx) && not (list_any (shows_mark facts tx) rest) then None else heard_of rest tx)
  kept-shown tx = sym (kept-left tx) ∙ ap (λ (b : Bool). if b then None else heard_of rest tx) (idle-left tx)

pub kept-by-shown : KeptByShown
kept-by-shown rest facts tx is once = kept-shown rest facts is once tx

pub kept-stays : KeptStays
kept-stays rest facts tx is once = kept-left rest facts is once tx

pub ended-stays : EndedStays
ended-stays rest facts tx is once = ap (λ o. option_map is_commit o) (kept-stays rest facts tx is once)

pub heard-of-rest : HeardOfRest
heard-of-rest rest facts tx outcome is once some = heard-first facts rest tx outcome (rest-first facts rest facts (first-heard facts once) is) some

pub idle-of-heard : IdleOfHeard
idle-of-heard rest facts tx is once heard = by (heard_of rest tx) refl
  where
    by : (o : Option Outcome) → heard_of rest tx ≡ o → is_idle rest tx ≡ is_idle facts tx
    by None none = absurd (let bad : false ≡ true = sym (ap (λ (o : Option Outcome). is_some o) none) ∙ heard in cc)
    by (Some outcome) some = idle-alike rest facts is once tx (some ∙ sym (heard-of-rest rest facts tx outcome is once some))
