-- Which transactions facts bring does not depend on the order of the facts.
use Rattle.mdcc_option.specs.declared.choices.Mark.{Mark}
use Rattle.mdcc_struct.specs.declared.options.Options.{Options}
use Rattle.mdcc_facts.proofs.Gathered.{ascending-report}
use Rattle.std.proofs.Common.{◌≡◌, ℕ, Bool, true, false, List, [], ◌∷◌, Option, Some, None, is_some, refl, sym, ap, ◌∙◌, inl, inr, fold, suc, zero}
use Rattle.std.proofs.lemmas.Bool.{cases_Bool}
use Rattle.std.specs.List.{list_any}
use Rattle.std.specs.Option.{option_and_then, option_map}
use Rattle.std.specs.Prelude.{filter, find, if◌then◌else◌, map, ◌&&◌, ◌||◌, slice_get}
use Rattle.mdcc_base.specs.Ballot.{is_fast}
use Rattle.mdcc_base.specs.TxId.{tx_eq, tx_lt}
use Rattle.mdcc_base.specs.declared.identifiers.Ballot.{Ballot}
use Rattle.mdcc_base.specs.declared.identifiers.TxId.{TxId}
use Rattle.mdcc_base.specs.declared.key.Key.{Key}
use Rattle.mdcc_struct.proofs.Inclusion.{same_found}
use Rattle.mdcc_struct.proofs.Values.{value_of-union}
use Rattle.mdcc_struct.proofs.Walks.{ascending-union}
use Rattle.mdcc_struct.specs.Maps.{TxMap, are_ascending, txs_of, union, value_of}
use Rattle.mdcc_def_messages.specs.declared.facts.Fact.{Fact}
use Rattle.mdcc_def_protocol.specs.Facts.{deltas_from, last_ballot, marks_voted, votes_of}
use Rattle.mdcc_def_protocol.specs.Plain.{plain_mark_after, plain_report_of}
use Rattle.mdcc_def_protocol.specs.Stores.{is_above}
use Rattle.mdcc_facts.proofs.Walking.{beside, found-end, found-none, found-some, least_union, rest-next}
use Rattle.mdcc_facts.specs.Walks.{each_kept, is_next_tx, least_from, lower_passing, next_tx, rest_of}
use Rattle.mdcc_theorem_fact_folds.specs.Chains.{Covers, is_delta_in, is_vote_in}
use Rattle.mdcc_theorem_fact_folds.specs.Held.{ExecutedByJoin}
use Rattle.mdcc_theorem_fact_folds.specs.Votes.{MarkAfterByWalks, least_above, mark_walks, older_mark, MarkBelowBySteps, marks_further}
use Rattle.mdcc_theorem_fact_folds.proofs.Deltas.{deltas-joined, no_deltas}
use Rattle.mdcc_theorem_fact_folds.proofs.Ignored.{left_out, no_marks}
use Rattle.mdcc_theorem_fact_folds.proofs.Joined.{found-any, joined, joined-ascends, joined-chain, mark-walk, some-either, votes-joined}
use Rattle.mdcc_theorem_fact_folds.proofs.Walked.{below-walk}

-- ---- the transactions of ascending maps

abbrev units : {X : Type 0} → TxMap X → TxMap ℕ
units m = map (λ e. (e.0, 0)) m

abbrev zeroed : {X : Type 0} → Option X → Option ℕ
zeroed o = option_map (λ x. 0) o

units-value : {X : Type 0} (m : TxMap X) (tx : TxId) → value_of (units m) tx ≡ zeroed (value_of m tx)
units-value [] tx = refl
units-value (e ∷ es) tx =
    let ih = units-value es tx in
    elim (cases_Bool (tx_eq e.0 tx)) [
      | inl same ↦ rw same refl
      | inr other ↦ rw other ih
    ]

units-ascend : {X : Type 0} (m : TxMap X) → are_ascending (units m) ≡ are_ascending m
units-ascend [] = refl
units-ascend (e ∷ []) = refl
units-ascend (e ∷ f ∷ es) = ap (λ b. tx_lt e.0 f.0 && b) (units-ascend (f ∷ es))

units-txs : {X : Type 0} (m : TxMap X) → txs_of (units m) ≡ txs_of m
units-txs [] = refl
units-txs (e ∷ es) = ap (λ txs. e.0 ∷ txs) (units-txs es)

alike-some : {X Y : Type 0} (a : Option X) (b : Option Y) → is_some a ≡ is_some b → zeroed a ≡ zeroed b
alike-some None None h = refl
alike-some None (Some y) h = absurd (cc)
alike-some (Some x) None h = absurd (cc)
alike-some (Some x) (Some y) h = refl

-- ascending maps that have the same transactions list them alike
same_txs : {X Y : Type 0} (a : TxMap X) (b : TxMap Y) → are_ascending a ≡ true → are_ascending b ≡ true
    → ((tx : TxId) → is_some (value_of a tx) ≡ is_some (value_of b tx)) → txs_of a ≡ txs_of b
same_txs a b up up' h =
    sym (units-txs a)
    ∙ ap txs_of (same_found (units a) (units b) (units-ascend a ∙ up) (units-ascend b ∙ up')
    (λ tx. units-value a tx ∙ alike-some (value_of a tx) (value_of b tx) (h tx) ∙ sym (units-value b tx)))
    ∙ units-txs b

-- ---- the least transaction

least-txs : {X : Type 0} (test : TxId → Bool) (found : Option TxId) (m : TxMap X) → least_from test found m ≡ fold (lower_passing test) found (txs_of m)
least-txs test found [] = refl
least-txs test found (e ∷ es) = least-txs test (lower_passing test found e.0) es

or-either : (a b : Bool) → (a || b) ≡ (b || a)
or-either true true = refl
or-either true false = refl
or-either false true = refl
or-either false false = refl

some-union : {X : Type 0} (m n : TxMap X) (tx : TxId) → is_some (value_of (union m n) tx) ≡ (is_some (value_of n tx) || is_some (value_of m tx))
some-union m n tx = ap (λ o. is_some o) (value_of-union m n tx) ∙ some-either (value_of m tx) (value_of n tx)

least-sorted : {X : Type 0} (test : TxId → Bool) (found : Option TxId) (m n : TxMap X)
    → least_from test (least_from test found m) n ≡ least_from test found (union (union [] m) (union [] n))
least-sorted test found m n =
    ap (λ f. least_from test f n) (least_union test found [] m)
    ∙ least_union test (least_from test found (union [] m)) [] n
    ∙ least_union test found (union [] m) (union [] n)

least-swap : {X : Type 0} (test : TxId → Bool) (found : Option TxId) (m n : TxMap X)
    → least_from test (least_from test found m) n ≡ least_from test (least_from test found n) m
least-swap test found m n =
    let a = union [] m in
    let b = union [] n in
    least-sorted test found m n
    ∙ least-txs test found (union a b)
    ∙ ap (fold (lower_passing test) found)
    (same_txs (union a b) (union b a) (ascending-union a b (ascending-union [] m refl)) (ascending-union b a (ascending-union [] n refl))
    (λ tx. some-union a b tx ∙ or-either (is_some (value_of b tx)) (is_some (value_of a tx)) ∙ sym (some-union b a tx)))
    ∙ sym (least-txs test found (union b a))
    ∙ sym (least-sorted test found n m)

module _ {X : Type 0} (brings : Fact → TxMap X) where
  least-folded : (test : TxId → Bool) (found : Option TxId) (facts : List Fact)
      → fold (λ f fact. least_from test f (brings fact)) found facts ≡ least_from test found (joined brings facts)
  least-folded test found [] = refl
  least-folded test found (fact ∷ facts) =
      least-folded test (least_from test found (brings fact)) facts
      ∙ least-swap test found (brings fact) (joined brings facts)
      ∙ least_union test found (joined brings facts) (brings fact)

  -- ---- joined in any order

  abbrev with_more : TxMap X → Fact → TxMap X
  with_more later fact = union later (brings fact)

  present : (tx : TxId) (later : TxMap X) (facts : List Fact)
      → is_some (value_of (fold with_more later facts) tx) ≡ (is_some (value_of later tx) || list_any (λ fact. is_some (value_of (brings fact) tx)) facts)
  present tx later [] = by (is_some (value_of later tx))
    where
      by : (b : Bool) → b ≡ (b || false)
      by true = refl
      by false = refl
  present tx later (fact ∷ facts) =
      present tx (union later (brings fact)) facts
      ∙ ap (λ b. b || list_any (λ fact. is_some (value_of (brings fact) tx)) facts) (some-union later (brings fact) tx)
      ∙ by (is_some (value_of (brings fact) tx)) (is_some (value_of later tx)) (list_any (λ fact. is_some (value_of (brings fact) tx)) facts)
    where
      by : (a b c : Bool) → ((a || b) || c) ≡ (b || (a || c))
      by true true c = refl
      by true false c = refl
      by false true c = refl
      by false false c = refl

  more-ascends : (later : TxMap X) (facts : List Fact) → are_ascending later ≡ true → are_ascending (fold with_more later facts) ≡ true
  more-ascends later [] up = up
  more-ascends later (fact ∷ facts) up = more-ascends (union later (brings fact)) facts (ascending-union later (brings fact) up)

  txs-joined : (facts : List Fact) → txs_of (joined brings facts) ≡ txs_of (fold with_more [] facts)
  txs-joined facts =
      same_txs (joined brings facts) (fold with_more [] facts) (joined-ascends brings facts) (more-ascends [] facts refl)
      (λ tx. found-any brings tx facts ∙ sym (present tx [] facts))

pub executed-join : ExecutedByJoin
executed-join keep key version covers facts =
    ap txs_of
    (deltas-joined key version facts
    ∙ joined-chain (deltas_from key version) keep (λ fact left. no_deltas key version fact (left_out keep (is_delta_in key version) covers fact left)) facts)
    ∙ txs-joined (deltas_from key version) (filter keep facts)

-- ---- the next mark

abbrev paired : {X : Type 0} → TxId → Option X → Option (TxId × X)
paired tx o = option_map (λ x. (tx, x)) o

abbrev marked : {X : Type 0} → Ballot → TxId → Option X → Option (Ballot × TxId × X)
marked ballot tx o = option_map (λ x. (ballot, tx, x)) o

next-found : {X : Type 0} (last : Option TxId) (m : TxMap X) → are_ascending m ≡ true
    → find (λ e. is_above last e.0) m ≡ option_and_then (λ tx. paired tx (value_of m tx)) (next_tx each_kept last m)
next-found {X = X} last m up = by (next_tx each_kept last m) refl
  where
    at : (tx : TxId) → Some tx ≡ next_tx each_kept last m → (o : Option X) → o ≡ value_of m tx → find (λ e. is_above last e.0) m ≡ paired tx o
    at tx next None is = sym (found-none last m up tx next is)
    at tx next (Some x) is = sym (found-some last m up tx x next is)

    by : (o : Option TxId) → o ≡ next_tx each_kept last m → find (λ e. is_above last e.0) m ≡ option_and_then (λ tx. paired tx (value_of m tx)) o
    by None next = sym (found-end last m up next)
    by (Some tx) next = at tx next (value_of m tx) refl

with_ballot_of : {X : Type 0} (ballot : Ballot) (o : Option TxId) (f : TxId → Option X)
    → beside ballot (option_and_then (λ tx. paired tx (f tx)) o)
    ≡ option_and_then (λ tx. marked ballot tx (f tx)) o
with_ballot_of ballot None f = refl
with_ballot_of {X = X} ballot (Some tx) f = by (f tx)
  where
    by : (o : Option X) → beside ballot (paired tx o) ≡ marked ballot tx o
    by None = refl
    by (Some x) = refl

then-alike : {X Y : Type 0} (f g : X → Option Y) (o : Option X) → ((x : X) → f x ≡ g x) → option_and_then f o ≡ option_and_then g o
then-alike f g None h = refl
then-alike f g (Some x) h = h x

module _ (keep : Fact → Bool) (key : Key) (version : ℕ) (covers : Covers keep (is_vote_in key version)) (facts : List Fact) where
  next-walk : (ballot : Ballot) (last : Option TxId)
      → next_tx each_kept last (votes_of facts key version ballot) ≡ fold (least_above key version ballot last) None (filter keep facts)
  next-walk ballot last =
      ap (next_tx each_kept last)
      (votes-joined key version ballot facts
      ∙ joined-chain (marks_voted key version ballot) keep (λ fact left. no_marks key version ballot fact (left_out keep (is_vote_in key version) covers fact left)) facts)
      ∙ sym (least-folded (marks_voted key version ballot) (is_next_tx each_kept last) None (filter keep facts))

  pub after-ballot : (ballot : Ballot) (last : Option TxId)
      → beside ballot (find (λ e. is_above last e.0) (votes_of facts key version ballot))
      ≡ option_and_then (λ tx. marked ballot tx (fold (older_mark key version ballot tx) None (filter keep facts)))
      (fold (least_above key version ballot last) None (filter keep facts))
  after-ballot ballot last =
      ap (beside ballot)
      (next-found last (votes_of facts key version ballot) (ap are_ascending (votes-joined key version ballot facts) ∙ joined-ascends (marks_voted key version ballot) facts))
      ∙ with_ballot_of ballot (next_tx each_kept last (votes_of facts key version ballot)) (λ tx. value_of (votes_of facts key version ballot) tx)
      ∙ ap (option_and_then (λ tx. marked ballot tx (value_of (votes_of facts key version ballot) tx))) (next-walk ballot last)
      ∙ then-alike (λ tx. marked ballot tx (value_of (votes_of facts key version ballot) tx))
      (λ tx. marked ballot tx (fold (older_mark key version ballot tx) None (filter keep facts)))
      (fold (least_above key version ballot last) None (filter keep facts))
      (λ tx. ap (marked ballot tx) (mark-walk keep key version ballot tx covers facts))

pub after-walks : MarkAfterByWalks
after-walks keep key version below last covers facts = by (is_fast below) refl
  where
    by : (fast : Bool) → is_fast below ≡ fast → plain_mark_after facts key version below last ≡ (if fast then None else mark_walks key version below last (filter keep facts))
    by true is = rw is refl
    by false is =
        rw is
        (after-ballot keep key version covers facts (last_ballot facts key version below) last
        ∙ ap (λ ballot. option_and_then (λ tx. marked ballot tx (fold (older_mark key version ballot tx) None (filter keep facts)))
        (fold (least_above key version ballot last) None (filter keep facts))) (below-walk keep key version below covers facts))

-- ---- one mark after the other

next-first : {X : Type 0} (last : Option TxId) (m : TxMap X) → find (λ e. is_above last e.0) m ≡ slice_get (rest_of each_kept last m) 0
next-first last [] = refl
next-first last (e ∷ es) =
    elim (cases_Bool (is_above last e.0)) [
      | inl above ↦ rw above refl
      | inr below ↦ rw below (next-first last es)
    ]

-- so many entries further
abbrev entries_further : {X : Type 0} → TxMap X → Option TxId → ℕ → Option (TxId × X)
entries_further m last zero = find (λ e. is_above last e.0) m
entries_further m last (suc more) = option_and_then (λ e. entries_further m (Some e.0) more) (find (λ e. is_above last e.0) m)

further-at : {X : Type 0} (m : TxMap X) → are_ascending m ≡ true → (last : Option TxId) (more : ℕ) → entries_further m last more ≡ slice_get (rest_of each_kept last m) more
further-at m up last zero = next-first last m
further-at {X = X} m up last (suc more) = go (rest_of each_kept last m) refl (λ tx. further-at m up (Some tx) more)
  where
    go : (rest : TxMap X) → rest_of each_kept last m ≡ rest → ((tx : TxId) → entries_further m (Some tx) more ≡ slice_get (rest_of each_kept (Some tx) m) more)
        → entries_further m last (suc more) ≡ slice_get (rest_of each_kept last m) (suc more)
    go [] is ih = rw (next-first last m, is) refl
    go (e ∷ es) is ih = rw (next-first last m, is) (ih e.0 ∙ ap (λ rest. slice_get rest more) (rest-next each_kept last m e es up is))

all-above : {X : Type 0} (m : TxMap X) → rest_of each_kept None m ≡ m
all-above [] = refl
all-above (e ∷ es) = ap (λ rest. e ∷ rest) (all-above es)

module _ (ballot : Ballot) (m : Options) where
  abbrev next_in : Option TxId → Option (Ballot × TxId × Mark)
  next_in last = beside ballot (find (λ e. is_above last e.0) m)

  further-beside : (last : Option TxId) (more : ℕ) → marks_further next_in last more ≡ beside ballot (entries_further m last more)
  further-beside last zero = refl
  further-beside last (suc more) = by (find (λ e. is_above last e.0) m) (λ tx. further-beside (Some tx) more)
    where
      by : (o : Option (TxId × Mark)) → ((tx : TxId) → marks_further next_in (Some tx) more ≡ beside ballot (entries_further m (Some tx) more))
          → option_and_then (λ mark. marks_further next_in (Some mark.1) more) (beside ballot o) ≡ beside ballot (option_and_then (λ e. entries_further m (Some e.0) more) o)
      by None ih = refl
      by (Some e) ih = ih e.0

pub place-steps : MarkBelowBySteps
place-steps facts key version below place =
    let report = plain_report_of 0 facts key version below in
    ap (beside report.ballot) (sym (further-at report.votes (ascending-report facts key version below) None place ∙ ap (λ rest. slice_get rest place) (all-above report.votes)))
    ∙ sym (further-beside report.ballot report.votes None place)
