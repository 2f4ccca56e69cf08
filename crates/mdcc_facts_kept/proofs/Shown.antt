-- The marks that are not forgotten, one after the other.
use Rattle.std.proofs.Common.{◌≡◌, ◌≤◌, ◌+◌, ◌∷◌, ◌∙◌, drop, ℕ, Bool, true, false, List, [], Option, Some, None, refl, sym, ap, inl, inr}
use Rattle.std.specs.Option.{option_map}
use Rattle.std.specs.Prelude.{find, if◌then◌else◌, not, slice_get}
use Rattle.std.proofs.lemmas.Bool.{cases_Bool}
use Rattle.mdcc_base.specs.Ballot.{is_fast}
use Rattle.mdcc_base.specs.declared.identifiers.Ballot.{Ballot}
use Rattle.mdcc_base.specs.declared.identifiers.TxId.{TxId}
use Rattle.mdcc_base.specs.declared.key.Key.{Key}
use Rattle.mdcc_option.specs.declared.choices.Mark.{Mark}
use Rattle.mdcc_struct.specs.Maps.{TxMap, are_ascending}
use Rattle.mdcc_struct.specs.declared.options.Options.{Options}
use Rattle.mdcc_struct.proofs.Walks.{ascending-filter}
use Rattle.mdcc_def_messages.specs.declared.facts.Fact.{Fact}
use Rattle.mdcc_def_protocol.specs.Facts.{is_forgotten, last_ballot, report_of, shown_of, votes_of, without_forgotten}
use Rattle.mdcc_def_protocol.specs.Stores.{is_above}
use Rattle.mdcc_facts.specs.Walks.{each_kept, rest_of}
use Rattle.mdcc_facts.proofs.Gathered.{ascending-votes}
use Rattle.mdcc_facts.proofs.Walking.{mark-none, mark-step, rest-next}
use Rattle.mdcc_given_back.proofs.NextMark.{next-kept, next-left, next-none}
use Rattle.mdcc_given_back.specs.Counted.{without_floors}
use Rattle.mdcc_facts_kept.specs.Kept.{IsKept, KeptRest}
use Rattle.mdcc_facts_kept.specs.Next.{marks_onward, next_shown, shown_from, tx_shown}
use Rattle.mdcc_facts_kept.proofs.Asked.{shown_asked}

-- ---- the next of the marks that are left

module _ (facts : List Fact) (key : Key) (version : ℕ) (ballot : Ballot) (votes : Options) (up : are_ascending votes ≡ true)
    (shown : shown_of facts key version ballot ≡ without_forgotten facts key version votes) (last : Option TxId) where
  abbrev keep : TxId → Bool
  keep tx = not (is_forgotten facts key version tx)

  abbrev told : TxId × Mark → Ballot × TxId × Mark
  told e = (ballot, e.0, e.1)

  after : (last : Option TxId) → next_shown facts key version ballot last ≡ option_map told (find (λ e. is_above last e.0) (without_forgotten facts key version votes))
  after last = ap (λ (m : Options). option_map told (find (λ e. is_above last e.0) m)) shown

  by : (o : Option (TxId × Mark)) → find (λ e. is_above last e.0) votes ≡ o → next_shown facts key version ballot last ≡ shown_from facts key version ballot (option_map told o)
  by None found = after last ∙ ap (option_map told) (next-none keep last votes found)
  by (Some e) found = elim (cases_Bool (is_forgotten facts key version e.0)) [
    | inl gone ↦ rw gone (after last ∙ ap (option_map told) (next-left keep last votes e up found (ap not gone)) ∙ sym (after (Some e.0)))
    | inr kept ↦ rw kept (after last ∙ ap (option_map told) (next-kept keep last votes e found (ap not kept)))
  ]

  pub next-by : next_shown facts key version ballot last ≡ shown_from facts key version ballot (option_map told (find (λ e. is_above last e.0) votes))
  next-by = by (find (λ e. is_above last e.0) votes) refl

pub next-asked : (store : KeptRest) (facts : List Fact) (kept : IsKept store facts) (key : Key) (version : ℕ) (ballot : Ballot) (last : Option TxId)
    → next_shown facts key version ballot last
    ≡ shown_from facts key version ballot (option_map (λ e. (ballot, e.0, e.1)) (find (λ e. is_above last e.0) (votes_of (without_floors kept.rest) key version ballot)))
next-asked store facts kept key version ballot last =
    next-by facts key version ballot (votes_of (without_floors kept.rest) key version ballot) (ascending-votes (without_floors kept.rest) key version ballot)
    (shown_asked store facts kept key version ballot) last

-- ---- all of them

pub shown-ascends : (facts : List Fact) (key : Key) (version : ℕ) (ballot : Ballot) → are_ascending (shown_of facts key version ballot) ≡ true
shown-ascends facts key version ballot =
    ascending-filter (λ e. not (is_forgotten facts key version e.0)) (votes_of facts key version ballot) (ascending-votes facts key version ballot)

find-rest : {X : Type 0} (last : Option TxId) (m : TxMap X) → find (λ e. is_above last e.0) m ≡ slice_get (rest_of each_kept last m) 0
find-rest last [] = refl
find-rest last (e ∷ es) = elim (cases_Bool (is_above last e.0)) [
  | inl above ↦ rw above refl
  | inr below ↦ rw below (find-rest last es)
]

pub marks-from : (m : Options) (ballot : Ballot) (last : Option TxId) → are_ascending m ≡ true
    → marks_onward m (option_map (λ e. (ballot, e.0, e.1)) (find (λ e. is_above last e.0) m)) ≡ rest_of each_kept last m
marks-from m ballot last up = by (rest_of each_kept last m) refl
  where
    first : find (λ (e : TxId × Mark). is_above last e.0) m ≡ slice_get (rest_of each_kept last m) 0
    first = find-rest last m

    by : (rest : Options) → rest_of each_kept last m ≡ rest → marks_onward m (option_map (λ e. (ballot, e.0, e.1)) (find (λ e. is_above last e.0) m)) ≡ rest_of each_kept last m
    by [] is = ap (λ o. marks_onward m (option_map (λ e. (ballot, e.0, e.1)) o)) (first ∙ ap (λ (r : Options). slice_get r 0) is) ∙ sym is
    by (e ∷ es) is =
        ap (λ o. marks_onward m (option_map (λ e. (ballot, e.0, e.1)) o)) (first ∙ ap (λ (r : Options). slice_get r 0) is)
        ∙ ap (λ (r : Options). e ∷ r) (rest-next each_kept last m e es up is)
        ∙ sym is

-- ---- one after the other

pub report-ascends : (facts : List Fact) (key : Key) (version : ℕ) (below : Ballot) → are_ascending (report_of 0 facts key version below).votes ≡ true
report-ascends facts key version below = by (is_fast below) (shown_of facts key version (last_ballot facts key version below)) (shown-ascends facts key version (last_ballot facts key version below))
  where
    by : (fast : Bool) (m : Options) → are_ascending m ≡ true → are_ascending {X = Mark} (if fast then [] else m) ≡ true
    by true m up = refl
    by false m up = up

shown-some : (ballot : Ballot) (o : Option (TxId × Mark)) (tx : TxId) → tx_shown (option_map (λ e. (ballot, e.0, e.1)) o) ≡ Some tx → (mark : Mark) × (o ≡ Some (tx, mark))
shown-some ballot None tx is = absurd (cc)
shown-some ballot (Some e) tx is = let one : e.0 ≡ tx = cc in (e.1, ap (λ (t : TxId). Some (t, e.1)) one)

shown-none : (ballot : Ballot) (o : Option (TxId × Mark)) → tx_shown (option_map (λ e. (ballot, e.0, e.1)) o) ≡ None → o ≡ None
shown-none ballot None is = refl
shown-none ballot (Some e) is = absurd (cc)

pub step-further : (m : Options) (ballot : Ballot) (last : Option TxId) (i : ℕ) (tx : TxId) → are_ascending m ≡ true → drop i m ≡ rest_of each_kept last m
    → tx_shown (option_map (λ e. (ballot, e.0, e.1)) (find (λ e. is_above last e.0) m)) ≡ Some tx → drop (i + 1) m ≡ rest_of each_kept (Some tx) m
step-further m ballot last i tx up so_far is =
    let found = shown-some ballot (find (λ e. is_above last e.0) m) tx is in
    mark-step last m i so_far up (tx, found.0) found.1

pub none-further : (m : Options) (ballot : Ballot) (last : Option TxId) (i place : ℕ) → drop i m ≡ rest_of each_kept last m
    → tx_shown (option_map (λ e. (ballot, e.0, e.1)) (find (λ e. is_above last e.0) m)) ≡ None → i ≤ place → slice_get m place ≡ None
none-further m ballot last i place so_far is within = mark-none last m i so_far (shown-none ballot (find (λ e. is_above last e.0) m) is) place within
