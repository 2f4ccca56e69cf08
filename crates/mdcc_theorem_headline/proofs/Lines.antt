-- In an allowed ledger each line that has its origin there is told of the committed transactions.
use Rattle.std.proofs.Common.{Bool, List, None, Option, Some, [], ap, false, inl, inr, refl, subst, sym, true, ℕ, ◌++◌, ◌∙◌, ◌∷◌, ◌≡◌}
use Rattle.std.specs.List.{AllByRecursion, filter_map}
use Rattle.mdcc_base.specs.declared.identifiers.TxId.{TxId}
use Rattle.mdcc_option.specs.declared.choices.Outcome.{Outcome}
use Rattle.mdcc_option.specs.declared.cluster.Cluster.{Cluster}
use Rattle.mdcc_option.specs.declared.items.Known.{Known}
use Rattle.mdcc_def_ledger.specs.Ledger.{Added, Entry, new_outcome, new_outcomes, outcome_come, outcome_of, txs_voted}
use Rattle.mdcc_def_protocol.specs.Marks.{is_commit}
use Rattle.mdcc_def_messages.specs.declared.facts.Fact.{Fact}
use Rattle.mdcc_def_language.specs.declared.lines.Line.{Line}
use Rattle.mdcc_theorem_agreement.specs.Laws.{IsLedger}
use Rattle.mdcc_theorem_agreement.proofs.LawsTold.{outcome_kept}
use Rattle.mdcc_theorem_agreement.proofs.ReducedOptions.{In}
use Rattle.mdcc_theorem_bounds.proofs.Among.{In-Contains}
use Rattle.mdcc_theorem_reports.specs.Origins.{Came, HasOrigin, WasHeard, WasRead}
use Rattle.mdcc_theorem_reports.specs.Origins.{AreInTurn, BeginsAt, IsLater}
use Rattle.mdcc_theorem_reports.proofs.Turns.{turn-grows}
use Rattle.mdcc_theorem_headline.specs.Truth.{AreTrueInTurn, IsReportedRead, IsTrueLine}
use Rattle.mdcc_theorem_headline.proofs.Reported.{abort-told, commit-told, ledger-before, read-told}

-- what came at an entry is the outcome behind it
came-is : (tx : TxId) (now before : Option Outcome) (x : TxId × Outcome) → outcome_come tx now before ≡ Some x → (tx ≡ x.0) × (now ≡ Some x.1)
came-is tx None before x e = absurd (cc)
came-is tx (Some outcome) (Some old) x e = absurd (cc)
came-is tx (Some outcome) None x e =
    let same : (tx, outcome) ≡ x = cc in
    (ap (λ (z : TxId × Outcome). z.0) same, ap (λ (z : TxId × Outcome). Some z.1) same)

pub in-news : (cluster : Cluster) (entry : Entry) (before : List Entry) (txs : List TxId) (x : TxId × Outcome) → In x (filter_map (new_outcome cluster.quorums entry before) txs) →
    outcome_of cluster.quorums (entry ∷ before) x.0 ≡ Some x.1
in-news cluster entry before [] x h = absurd h
in-news cluster entry before (tx ∷ txs) x h = by_come (new_outcome cluster.quorums entry before tx) refl (in-news cluster entry before txs x) h
  where
    by_come : (o : Option (TxId × Outcome)) → new_outcome cluster.quorums entry before tx ≡ o → (In x (filter_map (new_outcome cluster.quorums entry before) txs) → outcome_of cluster.quorums (entry ∷ before) x.0 ≡ Some x.1) →
        In x (filter_map (new_outcome cluster.quorums entry before) (tx ∷ txs)) → outcome_of cluster.quorums (entry ∷ before) x.0 ≡ Some x.1
    by_come None e rest g = rest (rw e at g)
    by_come (Some y) e rest g =
        let came = came-is tx (outcome_of cluster.quorums (entry ∷ before) tx) (outcome_of cluster.quorums before tx) y e in
        elim (let k : In x (y ∷ filter_map (new_outcome cluster.quorums entry before) txs) = rw e at g in k) [
          | inl here ↦ subst (λ (z : TxId × Outcome). outcome_of cluster.quorums (entry ∷ before) z.0 ≡ Some z.1) here (ap (outcome_of cluster.quorums (entry ∷ before)) (sym came.0) ∙ came.1)
          | inr there ↦ rest there
        ]

module _ (cluster : Cluster) (es : List Entry) (h : IsLedger cluster es) where
  -- an outcome is told as it is
  outcome-told : (tx : TxId) (outcome : Outcome) → outcome_of cluster.quorums es tx ≡ Some outcome → (is_committed : Bool) → is_commit outcome ≡ is_committed → IsTrueLine cluster es (Line.Chosen tx is_committed)
  outcome-told tx (Outcome.Commit choices) o true e = commit-told cluster es h tx choices o
  outcome-told tx (Outcome.Commit choices) o false e = absurd (cc)
  outcome-told tx Outcome.Abort o true e = absurd (cc)
  outcome-told tx Outcome.Abort o false e = abort-told cluster es h tx o

  heard-told : (a : ℕ) (tx : TxId) (is_committed : Bool) → IsTrueLine cluster es (Line.Chosen tx is_committed) → IsTrueLine cluster es (Line.Heard a tx is_committed)
  heard-told a tx true g = g
  heard-told a tx false g = g

  outcome-now : (later before : List Entry) → es ≡ later ++ before → (tx : TxId) (outcome : Outcome) → outcome_of cluster.quorums before tx ≡ Some outcome → outcome_of cluster.quorums es tx ≡ Some outcome
  outcome-now later before parts tx outcome o =
      subst (λ l. outcome_of cluster.quorums l tx ≡ Some outcome) (sym parts) (outcome_kept cluster later before (subst (IsLedger cluster) parts h) tx outcome o)

  came-now : (tx : TxId) (outcome : Outcome) → Came cluster.quorums es tx outcome → outcome_of cluster.quorums es tx ≡ Some outcome
  came-now tx outcome c =
      outcome-now c.later (c.entry ∷ c.before) c.parts tx outcome
      (in-news cluster c.entry c.before (txs_voted c.entry) (tx, outcome) (In-Contains (new_outcomes cluster.quorums c.entry c.before) (tx, outcome) c.is_new))

  heard-now : (a : ℕ) (tx : TxId) (outcome : Outcome) → WasHeard es a tx outcome → outcome_of cluster.quorums es tx ≡ Some outcome
  heard-now a tx outcome c =
      let there : IsLedger cluster (Added a (Fact.Heard tx outcome) ∷ c.before) = ledger-before cluster c.later (Added a (Fact.Heard tx outcome) ∷ c.before) (subst (IsLedger cluster) c.parts h) in
      let together : es ≡ (c.later ++ (Added a (Fact.Heard tx outcome) ∷ [])) ++ c.before = c.parts ∙ sym (moved c.later (Added a (Fact.Heard tx outcome)) c.before) in
      outcome-now (c.later ++ (Added a (Fact.Heard tx outcome) ∷ [])) c.before together tx outcome there.allowed.1.2
    where
      moved : (later : List Entry) (e : Entry) (before : List Entry) → (later ++ (e ∷ [])) ++ before ≡ later ++ (e ∷ before)
      moved [] e before = refl
      moved (x ∷ later) e before = ap (λ l. x ∷ l) (moved later e before)

  read-now : (a : ℕ) (known : Known) → WasRead es a known → IsReportedRead cluster es known
  read-now a known c =
      subst (λ l. IsReportedRead cluster l known) (sym c.parts)
      (subst (IsReportedRead cluster (c.later ++ c.before)) (sym c.shown) (read-told cluster c.later c.before (subst (IsLedger cluster) c.parts h) a known.key))

  line-told : (line : Line) → HasOrigin cluster.quorums es line → IsTrueLine cluster es line
  line-told (Line.Chosen tx is_committed) o = outcome-told tx o.0 (came-now tx o.0 o.2) is_committed o.1
  line-told (Line.Heard a tx is_committed) o = heard-told a tx is_committed (outcome-told tx o.0 (heard-now a tx o.0 o.2) is_committed o.1)
  line-told (Line.Read number a known) o = read-now a known o
  line-told (Line.Begun tx next) o = tt
  line-told (Line.Refused key fault) o = tt
  line-told (Line.Deliver number next) o = tt
  line-told (Line.Settle listed) o = tt
  line-told (Line.Settled deliveries next) o = tt
  line-told (Line.Tick a next) o = tt
  line-told (Line.Sweep a next) o = tt
  line-told (Line.Crash a) o = tt
  line-told (Line.Stop a call image) o = tt
  line-told (Line.Restart a epoch) o = tt
  line-told (Line.Stopped a) o = tt
  line-told (Line.Dropped a needed spare) o = tt
  line-told (Line.End events messages commits aborts undecided) o = tt

  -- each line that has its origin in the ledger is told
  pub lines-told : (lines : List Line) → AllByRecursion (HasOrigin cluster.quorums es) lines → AllByRecursion (IsTrueLine cluster es) lines
  lines-told [] o = tt
  lines-told (line ∷ lines) o = (line-told line o.0, lines-told lines o.1)

-- ---- in turn

-- a line is true of the ledger at which it begins
line-now : (cluster : Cluster) (now : List Entry) → IsLedger cluster now → (line : Line) → BeginsAt cluster.quorums now line → IsTrueLine cluster now line
line-now cluster now h (Line.Chosen tx is_committed) (outcome, is, entry, before, parts, new) =
    outcome-told cluster now h tx outcome
    (subst (λ l. outcome_of cluster.quorums l tx ≡ Some outcome) (sym parts)
    (in-news cluster entry before (txs_voted entry) (tx, outcome) (In-Contains (new_outcomes cluster.quorums entry before) (tx, outcome) new)))
    is_committed is
line-now cluster now h (Line.Heard a tx is_committed) (outcome, is, before, parts) =
    heard-told cluster now h a tx is_committed (outcome-told cluster now h tx outcome (heard-now cluster now h a tx outcome (record { later = []; before = before; parts = parts })) is_committed is)
line-now cluster now h (Line.Read number a known) same = subst (IsReportedRead cluster now) (sym same) (read-told cluster [] now h a known.key)
line-now cluster now h (Line.Begun tx next) o = tt
line-now cluster now h (Line.Refused key fault) o = tt
line-now cluster now h (Line.Deliver number next) o = tt
line-now cluster now h (Line.Settle listed) o = tt
line-now cluster now h (Line.Settled deliveries next) o = tt
line-now cluster now h (Line.Tick a next) o = tt
line-now cluster now h (Line.Sweep a next) o = tt
line-now cluster now h (Line.Crash a) o = tt
line-now cluster now h (Line.Stop a call image) o = tt
line-now cluster now h (Line.Restart a epoch) o = tt
line-now cluster now h (Line.Stopped a) o = tt
line-now cluster now h (Line.Dropped a needed spare) o = tt
line-now cluster now h (Line.End events messages commits aborts undecided) o = tt

-- lines that are told in turn are true in turn
pub turn-true : (cluster : Cluster) (first last : List Entry) (lines : List Line) → IsLedger cluster last → AreInTurn cluster.quorums first last lines → AreTrueInTurn cluster first last lines
turn-true cluster first last [] h t = t
turn-true cluster first last (line ∷ lines) h t =
    let more : IsLater t.0 last = turn-grows cluster.quorums t.0 last lines t.3 in
    let now : IsLedger cluster t.0 = ledger-before cluster more.0 t.0 (subst (IsLedger cluster) more.1 h) in
    (t.0, t.1, t.2, line-now cluster t.0 now line t.2, turn-true cluster t.0 last lines h t.3)
