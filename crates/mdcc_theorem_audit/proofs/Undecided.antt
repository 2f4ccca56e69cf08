-- Each outcome that was heard in an allowed ledger is what its votes decide.
use Rattle.std.proofs.Common.{◌≡◌, Bool, List, [], ◌∷◌, ◌++◌, ◌==◌, ◌&&◌, None, Some, cond, false, true, inl, inr, refl, sym, ap, ◌∙◌, ◌⊎◌, fold, subst}
use Rattle.std.proofs.lemmas.Bool.{and_from, eq-eqb}
use Rattle.std.specs.Prelude.{flat_map, is_some}
use Rattle.mdcc_base.specs.Key.{key_eq}
use Rattle.mdcc_base.specs.TxId.{tx_eq}
use Rattle.mdcc_base.specs.declared.identifiers.TxId.{TxId}
use Rattle.mdcc_option.specs.declared.choices.Choice.{Choice}
use Rattle.mdcc_option.specs.declared.choices.Outcome.{Outcome}
use Rattle.mdcc_option.specs.declared.cluster.Cluster.{Cluster}
use Rattle.mdcc_def_ledger.specs.Ledger.{Entry, choices_begun, outcome_of}
use Rattle.mdcc_theorem_agreement.proofs.BegunOnce.{begun_own}
use Rattle.mdcc_theorem_agreement.proofs.LawsTold.{commit_begun, setup_fine}
use Rattle.mdcc_theorem_agreement.proofs.OutcomeFromReduced.{begun_is}
use Rattle.mdcc_theorem_agreement.proofs.ReducedOptions.{In}
use Rattle.mdcc_theorem_agreement.proofs.Reduction.{reduced, setup_of}
use Rattle.mdcc_theorem_agreement.proofs.TestsDecide.{Decides-key, Decides-tx}
use Rattle.mdcc_theorem_agreement.specs.Laws.{IsLedger}
use Rattle.mdcc_audit.proofs.Alike.{say_one}
use Rattle.mdcc_audit.proofs.InOrder.{either}
use Rattle.mdcc_audit.proofs.Spoken.{all-outcomes}
use Rattle.mdcc_audit.specs.Auditing.{are_all_own, first_undecided, is_abort_verdict, is_commit_verdict, is_decided, is_whole, nothing_taken, verdict_by, verdict_of, verdict_unnamed, write_set_of}
use Rattle.mdcc_audit.specs.Contradictions.{IsOneOf, Saying, outcome_sayings}
use Rattle.mdcc_audit.specs.Firsts.{Said, Table, first_at, nothing_said, with_first}
use Rattle.mdcc_audit.specs.Logs.{placed_of}
use Rattle.mdcc_audit.specs.Sayings.{outcome_value}
use Rattle.mdcc_audit.specs.Subjects.{of_tx}
use Rattle.mdcc_audit.specs.Votes.{is_among, is_own}
use Rattle.mdcc_audit.specs.declared.audited.Verdict3.{Verdict3}
use Rattle.mdcc_audit.specs.declared.firsts.First.{First}
use Rattle.mdcc_audit.specs.declared.subjects.Subject.{Subject}
use Rattle.mdcc_theorem_audit.proofs.Chosen.{counted}
use Rattle.mdcc_theorem_audit.proofs.Heard.{tells}
use Rattle.mdcc_theorem_audit.proofs.Named.{fine}
use Rattle.mdcc_theorem_audit.proofs.Verdicts.{state, verdict-is, write-set}
use Rattle.mdcc_theorem_audit.proofs.WriteSets.{instances}
use Rattle.mdcc_theorem_audit.specs.Ledgers.{logs_of, verdict_for}

-- ---- what the table has was said

with-first-cases : (table : Table) (s : Subject) (f : First) (e : Saying) → IsOneOf e (with_first table s f) → IsOneOf e table ⊎ (e ≡ (let z : Saying = (s, f) in z))
with-first-cases table s f e is = by_test (is_some (first_at table s)) is
  where
    by_test : (b : Bool) → IsOneOf e (cond b table (table ++ (s, f) ∷ [])) → IsOneOf e table ⊎ (e ≡ (let z : Saying = (s, f) in z))
    by_test true is = inl is
    by_test false is =
        elim (either e table ((s, f) ∷ []) is) [
          | inl there ↦ inl there
          | inr here ↦ elim here [ inl same ↦ inr same | inr none ↦ elim none [ ] ]
        ]

table-said : (said : Said) (sayings : List Saying) (e : Saying) → IsOneOf e (fold say_one said sayings).table → IsOneOf e said.table ⊎ IsOneOf e sayings
table-said said [] e is = inl is
table-said said (x ∷ xs) e is =
    elim (table-said (say_one said x) xs e is) [
      | inr later ↦ inr (inr later)
      | inl now ↦ elim (with-first-cases said.table x.0 x.1 e now) [
        | inl before ↦ inl before
        | inr here ↦ inr (inl here)
      ]
    ]

-- ---- choices with which a transaction commits

all-own : (t : TxId) (cs : List Choice) → ((c : Choice) → In c cs → c.tx ≡ t) → are_all_own t (instances cs) cs ≡ true
all-own t [] own = refl
all-own t (c ∷ cs) own =
    and_from (is_own t c.key c.version c) (are_all_own t (instances cs) cs)
    (and_from (tx_eq c.tx t) (key_eq c.key c.key && (c.version == c.version)) ((Decides-tx c.tx t).1 (own c (inl refl)))
    (and_from (key_eq c.key c.key) (c.version == c.version) ((Decides-key c.key c.key).1 refl) (eq-eqb c.version c.version refl)))
    (all-own t cs (λ d there. own d (inr there)))

module _ (cluster : Cluster) (ledger : List Entry) (h : IsLedger cluster ledger) where
  -- a verdict without a write set is no commit
  never-commit : (b : Bool) → cond b Verdict3.Abort Verdict3.Open ≡ Verdict3.Commit → ⊥
  never-commit true e = cc
  never-commit false e = cc

  is-decided : (t : TxId) (outcome : Outcome) → outcome_of cluster.quorums ledger t ≡ Some outcome → is_decided (state cluster ledger h) t (outcome_value outcome) ≡ true
  is-decided t Outcome.Abort is = ap is_abort_verdict (verdict-is cluster ledger h t ∙ ap verdict_for is)
  is-decided t (Outcome.Commit cs) is =
      let verdict : verdict_of (state cluster ledger h) t ≡ Verdict3.Commit = verdict-is cluster ledger h t ∙ ap verdict_for is in
      and_from (is_commit_verdict (verdict_of (state cluster ledger h) t)) (is_whole t (write_set_of (state cluster ledger h) t) cs) (ap is_commit_verdict verdict)
      (elim (write-set cluster ledger h t) [
        | inr unnamed ↦
            let bare : verdict_unnamed (counted cluster ledger h) t ≡ Verdict3.Commit = sym (ap (verdict_by (counted cluster ledger h) t) unnamed.0) ∙ verdict in
            elim (never-commit (is_among (counted cluster ledger h).rejected (of_tx t)) bare) [ ]
        | inl named ↦
            let ds : List Choice = named.0 in
            let begun : choices_begun ledger t ≡ ds = begun_is cluster (setup_fine cluster ledger h) ledger (fine cluster ledger h) t ds named.1 in
            let same : ds ≡ cs = sym begun ∙ commit_begun cluster ledger h t cs is in
            ap (λ o. is_whole t o cs) named.2
            ∙ subst (λ (z : List Choice). are_all_own t (instances ds) z ≡ true) same
            (all-own t ds (λ c there. begun_own (setup_of cluster) (reduced ledger) t ds (fine cluster ledger h) named.1 c there))
      ])

  none-undecided : (table : Table) → ((e : Saying) → IsOneOf e table → is_decided (state cluster ledger h) e.0.tx e.1.value ≡ true) → first_undecided (state cluster ledger h) table ≡ None
  none-undecided [] each = refl
  none-undecided (e ∷ es) each = rw (each e (inl refl)) (none-undecided es (λ f there. each f (inr there)))

  -- no outcome that was heard is undecided
  pub all-decided : first_undecided (state cluster ledger h) (state cluster ledger h).outcomes.table ≡ None
  all-decided = none-undecided (state cluster ledger h).outcomes.table each
    where
      sayings-are : (state cluster ledger h).outcomes ≡ fold say_one nothing_said (flat_map outcome_sayings (placed_of (logs_of cluster ledger)))
      sayings-are = all-outcomes cluster.quorums nothing_taken (placed_of (logs_of cluster ledger))

      said : (e : Saying) → IsOneOf e (state cluster ledger h).outcomes.table → IsOneOf e (flat_map outcome_sayings (placed_of (logs_of cluster ledger)))
      said e is =
          elim (table-said nothing_said (flat_map outcome_sayings (placed_of (logs_of cluster ledger))) e (subst (λ (z : Said). IsOneOf e z.table) sayings-are is)) [
            | inl none ↦ elim none [ ]
            | inr there ↦ there
          ]

      each : (e : Saying) → IsOneOf e (state cluster ledger h).outcomes.table → is_decided (state cluster ledger h) e.0.tx e.1.value ≡ true
      each e is =
          let k = tells cluster ledger h e (said e is) in
          ap (λ v. is_decided (state cluster ledger h) e.0.tx v) k.2 ∙ is-decided e.0.tx k.0 k.1
