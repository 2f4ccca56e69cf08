-- The whole answer of an audit of an allowed ledger.
use Rattle.std.proofs.Common.{◌≡◌, ℕ, List, [], ◌∷◌, ◌++◌, ◌+◌, None, Ok, Option, Some, map, refl, sym, ap, ◌∙◌, fold}
use Rattle.std.proofs.lemmas.List.Sums.{fold-append}
use Rattle.std.specs.Option.{option_to_list}
use Rattle.std.specs.Prelude.{Result, flat_map}
use Rattle.mdcc_base.specs.Sizes.{Sizes}
use Rattle.mdcc_base.specs.declared.identifiers.TxId.{TxId}
use Rattle.mdcc_option.specs.declared.choices.Choice.{Choice}
use Rattle.mdcc_option.specs.declared.cluster.Cluster.{Cluster}
use Rattle.mdcc_struct.specs.Maps.{TxMap, txs_of}
use Rattle.mdcc_def_messages.specs.declared.facts.Fact.{Fact}
use Rattle.mdcc_def_ledger.specs.Ledger.{Entry, outcome_of, with_tx}
use Rattle.mdcc_theorem_agreement.specs.Laws.{IsLedger}
use Rattle.mdcc_audit.proofs.Alike.{found-none}
use Rattle.mdcc_audit.proofs.Spoken.{all-choices, all-marks, all-outcomes}
use Rattle.mdcc_audit.specs.Auditing.{Placed, State, fact_taken, first_undecided, nothing_taken, undecided_pair, unless_found, verdict_of, verdicts_of, with_offered, with_txs}
use Rattle.mdcc_audit.specs.Firsts.{Pair, Said}
use Rattle.mdcc_audit.specs.Logs.{audit_of, placed_from, placed_log, placed_of}
use Rattle.mdcc_audit.specs.declared.audited.AuditCause.{AuditCause}
use Rattle.mdcc_audit.specs.declared.audited.AuditFault.{AuditFault}
use Rattle.mdcc_audit.specs.declared.audited.Verdict3.{Verdict3}
use Rattle.mdcc_theorem_audit.proofs.Heard.{outcomes-alike}
use Rattle.mdcc_theorem_audit.proofs.Logged.{flat-append}
use Rattle.mdcc_theorem_audit.proofs.Named.{choices-alike}
use Rattle.mdcc_theorem_audit.proofs.Undecided.{all-decided}
use Rattle.mdcc_theorem_audit.proofs.Verdicts.{state, verdict-is}
use Rattle.mdcc_theorem_audit.proofs.Voted.{marks-alike}
use Rattle.mdcc_theorem_audit.specs.Ledgers.{logs_of, outcomes_in, txs_in, txs_named, verdict_for}

-- ---- which transactions are named

abbrev named_at : Placed → List TxId
named_at placed = txs_named placed.1

offered-named : (txs : List TxId) (offered : Option Choice) → with_offered txs offered ≡ fold with_tx txs (map (λ choice. choice.tx) (option_to_list offered))
offered-named txs None = refl
offered-named txs (Some choice) = refl

named-more : (quorums : Sizes) (s : State) (placed : Placed) → (fact_taken quorums s placed).named ≡ fold with_tx s.named (named_at placed)
named-more quorums s (place, Fact.Voted key version ballot options offered) =
    offered-named (with_txs s.named (txs_of options)) offered
    ∙ sym (fold-append with_tx s.named (txs_of options) (map (λ choice. choice.tx) (option_to_list offered)))
named-more quorums s (place, Fact.Heard tx outcome) = refl
named-more quorums s (place, Fact.Booted epoch) = refl
named-more quorums s (place, Fact.Floor centre era seq) = refl
named-more quorums s (place, Fact.Promised key low high ballot) = refl
named-more quorums s (place, Fact.Adopted key version item adds) = refl

all-named : (quorums : Sizes) (s : State) (facts : List Placed) → (fold (fact_taken quorums) s facts).named ≡ fold with_tx s.named (flat_map named_at facts)
all-named quorums s [] = refl
all-named quorums s (placed ∷ facts) =
    all-named quorums (fact_taken quorums s placed) facts ∙ ap (λ txs. fold with_tx txs (flat_map named_at facts)) (named-more quorums s placed)
    ∙ sym (fold-append with_tx s.named (named_at placed) (flat_map named_at facts))

log-named : (centre number : ℕ) (facts : List Fact) → flat_map named_at (placed_log centre number facts) ≡ flat_map txs_named facts
log-named centre number [] = refl
log-named centre number (fact ∷ facts) = ap (λ txs. txs_named fact ++ txs) (log-named centre (number + 1) facts)

logs-named : (centre : ℕ) (logs : List (List Fact)) → flat_map named_at (placed_from centre logs) ≡ flat_map (flat_map txs_named) logs
logs-named centre [] = refl
logs-named centre (log ∷ logs) =
    flat-append named_at (placed_log centre 1 log) (placed_from (centre + 1) logs)
    ∙ ap (λ txs. txs ++ flat_map named_at (placed_from (centre + 1) logs)) (log-named centre 1 log)
    ∙ ap (λ txs. flat_map txs_named log ++ txs) (logs-named (centre + 1) logs)

-- ---- the answer

not-refused : {X : Type 0} (outcomes marks choices undecided : Option Pair) (answer : Result X AuditFault) → outcomes ≡ None → marks ≡ None → choices ≡ None → undecided ≡ None
    → unless_found AuditCause.Outcomes outcomes (unless_found AuditCause.Marks marks (unless_found AuditCause.Choices choices (unless_found AuditCause.Undecided undecided answer))) ≡ answer
not-refused outcomes marks choices undecided answer a b c d = rw (a, b, c, d) refl

module _ (cluster : Cluster) (ledger : List Entry) (h : IsLedger cluster ledger) where
  abbrev facts : List Placed
  facts = placed_of (logs_of cluster ledger)

  no-outcomes : (state cluster ledger h).outcomes.found ≡ None
  no-outcomes = ap (λ (s : Said). s.found) (all-outcomes cluster.quorums nothing_taken facts) ∙ (found-none _).1 (outcomes-alike cluster ledger h)

  no-marks : (state cluster ledger h).marks.found ≡ None
  no-marks = ap (λ (s : Said). s.found) (all-marks cluster.quorums nothing_taken facts) ∙ (found-none _).1 (marks-alike cluster ledger h)

  pub no-choices : (state cluster ledger h).choices.found ≡ None
  no-choices = ap (λ (s : Said). s.found) (all-choices cluster.quorums nothing_taken facts) ∙ (found-none _).1 (choices-alike cluster ledger h)

  named-is : (state cluster ledger h).named ≡ txs_in (logs_of cluster ledger)
  named-is = all-named cluster.quorums nothing_taken facts ∙ ap (fold with_tx []) (logs-named 1 (logs_of cluster ledger))

  each-verdict : (txs : List TxId)
      → map (λ tx. let e : TxId × Verdict3 = (tx, verdict_of (state cluster ledger h) tx) in e) txs
      ≡ map (λ tx. let e : TxId × Verdict3 = (tx, verdict_for (outcome_of cluster.quorums ledger tx)) in e) txs
  each-verdict [] = refl
  each-verdict (tx ∷ txs) =
      ap (λ (v : Verdict3). (let e : TxId × Verdict3 = (tx, v) in e) ∷ map (λ tx. let e : TxId × Verdict3 = (tx, verdict_of (state cluster ledger h) tx) in e) txs) (verdict-is cluster ledger h tx)
      ∙ ap (λ (es : TxMap Verdict3). (let e : TxId × Verdict3 = (tx, verdict_for (outcome_of cluster.quorums ledger tx)) in e) ∷ es) (each-verdict txs)

  pub audited : audit_of cluster.quorums (logs_of cluster ledger) ≡ Ok (outcomes_in cluster ledger)
  audited =
      not-refused (state cluster ledger h).outcomes.found (state cluster ledger h).marks.found (state cluster ledger h).choices.found
      (undecided_pair (first_undecided (state cluster ledger h) (state cluster ledger h).outcomes.table)) (Ok (verdicts_of (state cluster ledger h)))
      no-outcomes no-marks no-choices (ap undecided_pair (all-decided cluster ledger h))
      ∙ ap Ok (each-verdict (state cluster ledger h).named
      ∙ ap (map (λ tx. let e : TxId × Verdict3 = (tx, verdict_for (outcome_of cluster.quorums ledger tx)) in e)) named-is)
