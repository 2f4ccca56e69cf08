-- A history of which no line fails is right.
use Rattle.std.proofs.Common.{Bool, Contains, List, None, Option, Some, [], ap, arith, cond, false, inl, inr, refl, subst, sym, true, ℕ, ℤ, ◌&&◌, ◌++◌, ◌+◌, ◌==◌, ◌∙◌, ◌∷◌, ◌≡◌}
use Rattle.std.proofs.lemmas.Bool.Decides.{Decides-eqb}
use Rattle.std.proofs.lemmas.List.Elements.{Contains-append_cases, Contains-append_left, Contains-append_right, Contains-push, Contains-push_cases}
use Rattle.std.specs.List.{list_all, list_any}
use Rattle.std.specs.Prelude.{find, is_some, not}
use Rattle.mdcc_base.specs.TxId.{tx_eq, tx_lt}
use Rattle.mdcc_base.specs.declared.identifiers.TxId.{TxId}
use Rattle.mdcc_option.proofs.Equal.{Decides-item, Decides-tx}
use Rattle.mdcc_option.specs.Held.{Held}
use Rattle.mdcc_option.specs.OneCopy.{applied_answer, may_apply, seen_of, shown, store_run, stored}
use Rattle.mdcc_option.specs.Transaction.{choices_of}
use Rattle.mdcc_option.specs.declared.choices.Choice.{Choice}
use Rattle.mdcc_option.specs.declared.items.Delta.{Delta}
use Rattle.mdcc_option.specs.declared.items.Item.{Item}
use Rattle.mdcc_option.specs.declared.items.Known.{Known as AKnown}
use Rattle.mdcc_check.proofs.Fits.{each-applied, goes-on}
use Rattle.mdcc_check.proofs.Known.{IsKnown, Known, KnowsAll, knows-more, knows-none}
use Rattle.mdcc_check.specs.Histories.{AreRightReads, IsRightHistory, are_distinct, commits_of, txs_committed}
use Rattle.mdcc_def_right_reads.specs.RightReads.{IsAdded, IsItemVersion, IsReadOf, IsWritten, are_txs_ascending}
use Rattle.mdcc_check.specs.Verdicts.{Progress, after_line, apply_cause, ascend_behind, deltas_of, deltas_seen, first_fault, first_progress, history_verdict_by, line_cause, onto_deltas, onto_fault, read_cause, seen_cause, verdict_of, version_cause}
use Rattle.mdcc_check.specs.Versions.{held_in}
use Rattle.mdcc_check.specs.declared.history.HistoryCause.{HistoryCause}
use Rattle.mdcc_check.specs.declared.history.HistoryLine.{HistoryLine}
use Rattle.mdcc_check.specs.declared.history.Verdict.{Verdict}

-- ---- reads

none-some : {X : Type 0} (x : X) → None ≡ Some x → ⊥
none-some x e = cc

some-none : {X : Type 0} (x : X) → Some x ≡ None → ⊥
some-none x e = cc

pub first-listed : {X : Type 0} (x : X) (xs : List X) → Contains (x ∷ xs) x
first-listed x xs = Contains-append_left (x ∷ []) xs x (Contains-push [] x)

-- a delta that is found is one of them, and the transaction's
found-by : (d : Delta) (ds : List Delta) (tx : TxId) (delta : Delta) (rest : Option Delta) → (rest ≡ Some delta → Contains ds delta × (delta.tx ≡ tx))
    → (b : Bool) → tx_eq d.tx tx ≡ b → cond b (Some d) rest ≡ Some delta → Contains (d ∷ ds) delta × (delta.tx ≡ tx)
found-by d ds tx delta rest ih true same e =
    let is : d ≡ delta = cc in
    (subst (Contains (d ∷ ds)) is (first-listed d ds), subst (λ (x : Delta). x.tx ≡ tx) is ((Decides-tx _ _).0 same))
found-by d ds tx delta rest ih false other e = let r = ih e in (Contains-append_right (d ∷ []) ds delta r.0, r.1)

found : (deltas : List Delta) (tx : TxId) (delta : Delta) → find (λ d. tx_eq d.tx tx) deltas ≡ Some delta → Contains deltas delta × (delta.tx ≡ tx)
found [] tx delta e = absurd (none-some delta e)
found (d ∷ ds) tx delta e = found-by d ds tx delta (find (λ d. tx_eq d.tx tx) ds) (found ds tx delta) (tx_eq d.tx tx) refl e

-- the deltas that were seen are among those of the version, and are the transactions'
pub record AreSeen (deltas : List Delta) (seen : List TxId) (found : List Delta) : Type 0 where
  pub txs : seen_of found ≡ seen
  pub among : (delta : Delta) → Contains found delta → Contains deltas delta

seen-none : (deltas : List Delta) → AreSeen deltas [] []
seen-none deltas = record { txs = refl; among = λ delta i. absurd (omega (arith, i.1)) }

seen-one : (deltas : List Delta) (tx : TxId) (txs : List TxId) (d : Delta) (ds : List Delta) → Contains deltas d → d.tx ≡ tx → AreSeen deltas txs ds → AreSeen deltas (tx ∷ txs) (d ∷ ds)
seen-one deltas tx txs d ds among same rest = record {
  txs = ap (λ x. x ∷ seen_of ds) same ∙ ap (λ xs. tx ∷ xs) rest.txs;
  among = λ delta i. elim (Contains-append_cases (d ∷ []) ds delta i) [
    | inl one ↦ (elim (Contains-push_cases [] d delta one) [
      | inl none ↦ absurd (omega (arith, none.1))
      | inr e ↦ subst (Contains deltas) e among
    ])
    | inr later ↦ rest.among delta later
  ];
}

seen-by : (deltas : List Delta) (tx : TxId) (txs : List TxId) (found : List Delta) (one : Option Delta) (rest : Option (List Delta))
    → ((d : Delta) → one ≡ Some d → Contains deltas d × (d.tx ≡ tx)) → ((ds : List Delta) → rest ≡ Some ds → AreSeen deltas txs ds)
    → onto_deltas one rest ≡ Some found → AreSeen deltas (tx ∷ txs) found
seen-by deltas tx txs found None rest is ih e = absurd (none-some found e)
seen-by deltas tx txs found (Some d) None is ih e = absurd (none-some found e)
seen-by deltas tx txs found (Some d) (Some ds) is ih e =
    let same : d ∷ ds ≡ found = cc in
    let one = is d refl in
    subst (AreSeen deltas (tx ∷ txs)) same (seen-one deltas tx txs d ds one.0 one.1 (ih ds refl))

seen : (deltas : List Delta) (txs : List TxId) (ds : List Delta) → deltas_of deltas txs ≡ Some ds → AreSeen deltas txs ds
seen deltas [] ds e = let same : [] ≡ ds = cc in subst (AreSeen deltas []) same (seen-none deltas)
seen deltas (tx ∷ txs) ds e = seen-by deltas tx txs ds (find (λ d. tx_eq d.tx tx) deltas) (deltas_of deltas txs) (found deltas tx) (seen deltas txs) e

ascend-alike : (tx : TxId) (txs : List TxId) → ascend_behind (Some tx) txs ≡ are_txs_ascending (tx ∷ txs)
ascend-alike tx [] = refl
ascend-alike tx (next ∷ txs) = ap (λ b. tx_lt tx next && b) (ascend-alike next txs)

-- the two ways to say that transactions ascend
pub ascending-alike : (txs : List TxId) → ascend_behind None txs ≡ are_txs_ascending txs
ascending-alike [] = refl
ascending-alike (tx ∷ txs) = ascend-alike tx txs

ascending-seen : (b : Bool) (ds : Option (List Delta)) (found : List Delta) → cond b ds None ≡ Some found → (b ≡ true) × (ds ≡ Some found)
ascending-seen true ds found e = (refl, e)
ascending-seen false ds found e = absurd (none-some found e)

is-value : (b : Bool) → cond b None (Some HistoryCause.Value) ≡ None → b ≡ true
is-value true e = refl
is-value false e = cc

-- a read without an item is of the first state of its key
never-none : (held : Option Held) (txs : List TxId) → version_cause held txs None ≡ None → ⊥
never-none None txs e = some-none _ e
never-none (Some held) txs e = never-seen (deltas_seen held.deltas txs) e
  where
    never-seen : (ds : Option (List Delta)) → seen_cause held ds None ≡ None → ⊥
    never-seen None e = some-none _ e
    never-seen (Some ds) e = some-none _ e

first-read : (version : ℕ) (held : Option Held) (txs : List TxId) (b : Bool) → (version == 0) ≡ b → cond b None (version_cause held txs None) ≡ None → version ≡ 0
first-read version held txs true is e = (Decides-eqb _ _).0 is
first-read version held txs false is e = absurd (never-none held txs e)

module _ (before : List (List Choice)) (known : AKnown) where
  -- a read of a version with these deltas
  shown-read : (item : Item) (h : Held) → IsKnown before known.key known.token.version h → (ds : List Delta) → AreSeen h.deltas known.token.seen ds
      → are_txs_ascending known.token.seen ≡ true → (shown (record h { deltas = ds })).0 ≡ item → IsItemVersion before known item (record h { deltas = ds })
  shown-read item h k ds s up is = record {
    written = subst (λ v. IsWritten before known.key v h.base) (sym k.same) k.written;
    added = λ delta i. subst (λ v. IsAdded before known.key v delta) (sym k.same) (k.added delta (s.among delta i));
    once = ap are_txs_ascending s.txs ∙ up;
    shows = λ i. (sym is i, record { version = sym k.same i; seen = sym s.txs i });
  }

  seen-read : (item : Item) (h : Held) → IsKnown before known.key known.token.version h → (found : Option (List Delta)) → deltas_seen h.deltas known.token.seen ≡ found
      → seen_cause h found (Some item) ≡ None → (held : Held) × IsItemVersion before known item held
  seen-read item h k None is e = absurd (some-none _ e)
  seen-read item h k (Some ds) is e =
      let parts = ascending-seen (ascend_behind None known.token.seen) (deltas_of h.deltas known.token.seen) ds is in (
        record h { deltas = ds },
        shown-read item h k ds (seen h.deltas known.token.seen ds parts.1) (sym (ascending-alike known.token.seen) ∙ parts.0) ((Decides-item _ _).0 (is-value _ e)),
      )

  version-read : (item : Item) (held : Option Held) → Known before known.key known.token.version held → version_cause held known.token.seen (Some item) ≡ None
      → (held : Held) × IsItemVersion before known item held
  version-read item None k e = absurd (some-none _ e)
  version-read item (Some h) k e = seen-read item h k (deltas_seen h.deltas known.token.seen) refl e

  read-by : (held : Option Held) → Known before known.key known.token.version held → (item : Option Item)
      → cond (not (is_some item) && known.token.version == 0) None (version_cause held known.token.seen item) ≡ None → IsReadOf before known item
  read-by held k None e = first-read known.token.version held known.token.seen (known.token.version == 0) refl e
  read-by held k (Some item) e = version-read item held k e

-- a read that fails for no cause is right
pub right-read : (before : List (List Choice)) (choices : List Choice) → KnowsAll before choices → (known : AKnown) → read_cause choices known ≡ None → IsReadOf before known known.item
right-read before choices k known e = read-by before known (held_in choices known.key known.token.version) (k known.key known.token.version) known.item e

-- ---- lines

no-fault : (place : ℕ) (cause : Option HistoryCause) (later : Option (ℕ × HistoryCause)) → onto_fault place cause later ≡ None → (cause ≡ None) × (later ≡ None)
no-fault place None later e = (refl, e)
no-fault place (Some cause) later e = cc

no-cause : (b : Bool) (cause : Option HistoryCause) → cond b (Some HistoryCause.Repeated) cause ≡ None → (b ≡ false) × (cause ≡ None)
no-cause false cause e = (refl, e)
no-cause true cause e = cc

-- none of these transactions is among those
abbrev pub are_others : List TxId → List TxId → Bool
are_others txs others = list_all (λ tx. not (list_any (tx_eq tx) txs)) others

-- none of the later ones is this one, and none is among the earlier ones
apart : (tx : TxId) (txs others : List TxId) → are_others (tx ∷ txs) others ≡ true → (not (list_any (λ other. tx_eq other tx) others) ≡ true) × (are_others txs others ≡ true)
apart tx txs [] e = (refl, refl)
apart tx txs (o ∷ os) e = let ih = apart tx txs os in grind arith

pub record Goes (schema : List (ℤ × ℤ)) (p : Progress) (before : List (List Choice)) (lines : List HistoryLine) : Type 0 where
  pub run : is_some (store_run schema p.store (commits_of lines)) ≡ true
  pub distinct : are_distinct (txs_committed lines) ≡ true
  pub others : are_others p.txs (txs_committed lines) ≡ true
  pub reads : AreRightReads before lines

goes : (schema : List (ℤ × ℤ)) (place : ℕ) (p : Progress) (before : List (List Choice)) (lines : List HistoryLine)
    → KnowsAll before p.choices → first_fault schema place p lines ≡ None → Goes schema p before lines
goes schema place p before [] k e = record { run = refl; distinct = refl; others = refl; reads = tt }
goes schema place p before (HistoryLine.Read known ∷ lines) k e =
    let parts = no-fault place (read_cause p.choices known) (first_fault schema (place + 1) p lines) e in
    let rest = goes schema (place + 1) p before lines k parts.1 in
    record {
      run = rest.run;
      distinct = rest.distinct;
      others = rest.others;
      reads = (right-read before p.choices k known parts.0, rest.reads);
    }
goes schema place p before (HistoryLine.Commit tx txn ∷ lines) k e =
    let choices = choices_of tx txn in
    let after = after_line schema p (HistoryLine.Commit tx txn) in
    let parts = no-fault place (line_cause schema p (HistoryLine.Commit tx txn)) (first_fault schema (place + 1) after lines) e in
    let causes = no-cause (list_any (tx_eq tx) p.txs) (apply_cause (applied_answer schema p.store choices)) parts.0 in
    let rest = goes schema (place + 1) after (before ++ choices ∷ []) lines (knows-more before choices p.choices k) parts.1 in
    let others = apart tx p.txs (txs_committed lines) rest.others in
    record {
      run = goes-on (list_all (may_apply schema p.store) choices) (stored schema p.store p.store choices) p.store
          (λ next. store_run schema next (commits_of lines)) (each-applied schema p.store choices causes.1) rest.run;
      distinct = both _ _ others.0 rest.distinct;
      others = both _ _ (ap not causes.0) others.1;
      reads = rest.reads;
    }
  where
    both : (a b : Bool) → a ≡ true → b ≡ true → (a && b) ≡ true
    both a b x y = rw (x, y) refl

no-verdict : (lines : List HistoryLine) (fault : Option (ℕ × HistoryCause)) (commits reads : ℕ) → history_verdict_by lines fault ≡ Verdict.Yes commits reads → fault ≡ None
no-verdict lines None commits reads e = refl
no-verdict lines (Some fault) commits reads e = cc

-- a history of which the verdict is yes is right
pub yes-right : (schema : List (ℤ × ℤ)) (lines : List HistoryLine) (commits reads : ℕ) → verdict_of schema lines ≡ Verdict.Yes commits reads → IsRightHistory schema lines
yes-right schema lines commits reads e =
    let g = goes schema 0 first_progress [] lines knows-none (no-verdict lines (first_fault schema 0 first_progress lines) commits reads e) in
    record { run = g.run; distinct = g.distinct; reads = g.reads }
