-- Each verdict of an audit of an allowed ledger is the ledger's outcome.
use Rattle.std.proofs.Common.{◌≡◌, ℕ, ◌<◌, Bool, List, [], ◌∷◌, ◌&&◌, ◌||◌, None, Option, Some, arith, cond, false, true, inl, inr, length, map, refl, sym, ap, ◌∙◌, ◌⊎◌, fold, subst}
use Rattle.std.proofs.lemmas.Bool.{false≢true, lt-ltb}
use Rattle.std.specs.List.{list_all, list_any}
use Rattle.std.specs.Option.{option_and_then, option_to_list}
use Rattle.std.specs.Prelude.{filter_map, flat_map, is_some, nat_lt}
use Rattle.mdcc_base.specs.declared.identifiers.Ballot.{Ballot}
use Rattle.mdcc_base.specs.declared.identifiers.TxId.{TxId}
use Rattle.mdcc_base.specs.declared.key.Key.{Key}
use Rattle.mdcc_option.specs.declared.choices.Choice.{Choice}
use Rattle.mdcc_option.specs.declared.choices.Mark.{Mark}
use Rattle.mdcc_option.specs.declared.choices.Outcome.{Outcome}
use Rattle.mdcc_option.specs.declared.cluster.Cluster.{Cluster}
use Rattle.mdcc_struct.specs.declared.options.Options.{Options}
use Rattle.mdcc_def_protocol.specs.Marks.{choice_in, is_reject_found, outcome_of_marks}
use Rattle.mdcc_def_messages.specs.declared.facts.Fact.{Fact}
use Rattle.mdcc_def_ledger.specs.Ledger.{Entry, chosen_of, choices_begun, facts_of, is_chosen_at, outcome_of}
use Rattle.mdcc_theorem_agreement.proofs.LawsTold.{chosen_here, setup_fine}
use Rattle.mdcc_theorem_agreement.proofs.OutcomeFromReduced.{begun_is, begun_some, outcome_aborted}
use Rattle.mdcc_theorem_agreement.proofs.OutcomeToReduced.{decided}
use Rattle.mdcc_theorem_agreement.proofs.ReducedLedger.{IsAborted, IsChosen, IsCommitted, WasBegun}
use Rattle.mdcc_theorem_agreement.proofs.ReducedOptions.{In, Place, spot}
use Rattle.mdcc_theorem_agreement.proofs.Reduction.{reduced, setup_of}
use Rattle.mdcc_theorem_agreement.proofs.ViewsReduced.{reduced_chosen}
use Rattle.mdcc_theorem_agreement.specs.Laws.{IsLedger}
use Rattle.mdcc_audit.proofs.Alike.{Also, Knows, None_said, knows-all, knows-nothing, say_one}
use Rattle.mdcc_audit.proofs.Spoken.{all-choices}
use Rattle.mdcc_audit.proofs.Tests.{Decides-subject}
use Rattle.mdcc_audit.specs.Auditing.{State, audit_state_after, is_accepted_at, is_rejected_at, nothing_taken, places_said, verdict_at, verdict_by, verdict_of, verdict_unnamed, write_set_of}
use Rattle.mdcc_audit.specs.Contradictions.{IsOneOf, Saying, choice_sayings, choices_in, choices_named}
use Rattle.mdcc_audit.specs.Firsts.{Said, first_at, nothing_said}
use Rattle.mdcc_audit.specs.Logs.{placed_of}
use Rattle.mdcc_audit.specs.Sayings.{said_at}
use Rattle.mdcc_audit.specs.Subjects.{at_instance, of_tx}
use Rattle.mdcc_audit.specs.Votes.{CountedVotes, is_among}
use Rattle.mdcc_audit.specs.declared.audited.Place.{Place as FactPlace}
use Rattle.mdcc_audit.specs.declared.audited.Verdict3.{Verdict3}
use Rattle.mdcc_audit.specs.declared.firsts.First.{First}
use Rattle.mdcc_audit.specs.declared.subjects.Subject.{Subject}
use Rattle.mdcc_audit.specs.declared.values.Value.{Value}
use Rattle.mdcc_theorem_audit.proofs.Chosen.{accepted-is, chosen-own, counted, is_accept_found, rejected-is, voter-of, whole-from, whole-to}
use Rattle.mdcc_theorem_audit.proofs.Named.{FromChoice, fine, from-choice}
use Rattle.mdcc_theorem_audit.proofs.Voters.{fact-placed, in-left, to-each, vote-fact}
use Rattle.mdcc_theorem_audit.proofs.WriteSets.{instances, one-write_set}
use Rattle.mdcc_theorem_audit.specs.Ledgers.{logs_of, verdict_for}

-- ---- marks as outcomes

verdict-by-tests : (any some all any_mark some_mark all_marks : Bool) (cs : List Choice) → any ≡ any_mark → some ≡ true → some_mark ≡ true → (any_mark ≡ false → all ≡ all_marks)
    → cond any Verdict3.Abort (cond (some && all) Verdict3.Commit Verdict3.Open)
    ≡ verdict_for (cond some_mark (cond any_mark (Some Outcome.Abort) (cond all_marks (Some (Outcome.Commit cs)) None)) None)
verdict-by-tests any some all true some_mark all_marks cs e f g each = rw (e, g) refl
verdict-by-tests any some all false some_mark true cs e f g each = rw (e, f, g, each refl) refl
verdict-by-tests any some all false some_mark false cs e f g each = rw (e, f, g, each refl) refl

module _ (votes : CountedVotes) (t : TxId) (chosen : Key → ℕ → Option Mark)
    (rejected : (key : Key) (version : ℕ) → is_among votes.rejected (at_instance t key version) ≡ is_reject_found (chosen key version))
    (accepted : (key : Key) (version : ℕ) → is_among votes.accepted (at_instance t key version) ≡ is_accept_found (chosen key version)) where
  abbrev marks : List Choice → List (Option Mark)
  marks choices = map (λ choice. chosen choice.key choice.version) choices

  any-rejected : (cs : List Choice) → list_any (is_rejected_at votes t) (instances cs) ≡ list_any is_reject_found (marks cs)
  any-rejected [] = refl
  any-rejected (c ∷ cs) = rw (rejected c.key c.version, any-rejected cs) refl

  accepted-some : (o : Option Mark) → is_reject_found o ≡ false → is_accept_found o ≡ is_some o
  accepted-some None e = refl
  accepted-some (Some (Mark.Accept c)) e = refl
  accepted-some (Some Mark.Reject) e = cc

  or-parts : (p q : Bool) → (p || q) ≡ false → (p ≡ false) × (q ≡ false)
  or-parts true q e = cc
  or-parts false q e = (refl, e)

  all-accepted : (cs : List Choice) → list_any is_reject_found (marks cs) ≡ false → list_all (is_accepted_at votes t) (instances cs) ≡ list_all is_some (marks cs)
  all-accepted [] none = refl
  all-accepted (c ∷ cs) none =
      let parts = or-parts (is_reject_found (chosen c.key c.version)) (list_any is_reject_found (marks cs)) none in
      rw (accepted c.key c.version ∙ accepted-some (chosen c.key c.version) parts.0, all-accepted cs parts.1) refl

  -- the verdict by marks is the outcome by marks
  pub verdict-of-marks : (cs : List Choice) → verdict_at votes t (instances cs) ≡ verdict_for (cond (nat_lt 0 (length cs)) (outcome_of_marks (marks cs)) None)
  verdict-of-marks [] = refl
  verdict-of-marks (c ∷ cs) =
      verdict-by-tests (list_any (is_rejected_at votes t) (instances (c ∷ cs))) (nat_lt 0 (length (instances (c ∷ cs)))) (list_all (is_accepted_at votes t) (instances (c ∷ cs)))
      (list_any is_reject_found (marks (c ∷ cs))) (nat_lt 0 (length (c ∷ cs))) (list_all is_some (marks (c ∷ cs)))
      (filter_map (λ mark. option_and_then choice_in mark) (marks (c ∷ cs)))
      (any-rejected (c ∷ cs)) (lt-ltb 0 (length (instances (c ∷ cs))) (omega arith)) (lt-ltb 0 (length (c ∷ cs)) (omega arith)) (all-accepted (c ∷ cs))

-- ---- the write set

accepted-in : (c : Choice) (options : Options) (t : TxId) → In (t, Mark.Accept c) options → IsOneOf c (filter_map (λ e. choice_in e.1) options)
accepted-in c [] t there = elim there [ ]
accepted-in c ((u, Mark.Accept d) ∷ os) t (inl same) = inl (one (ap (λ (z : TxId × Mark). z.1) same))
  where
    one : Mark.Accept d ≡ Mark.Accept c → c ≡ d
    one e = cc
accepted-in c ((u, Mark.Reject) ∷ os) t (inl same) = let bad : Mark.Reject ≡ Mark.Accept c = ap (λ (z : TxId × Mark). z.1) same in cc
accepted-in c ((u, Mark.Accept d) ∷ os) t (inr more) = inr (accepted-in c os t more)
accepted-in c ((u, Mark.Reject) ∷ os) t (inr more) = accepted-in c os t more

module _ (cluster : Cluster) (ledger : List Entry) (h : IsLedger cluster ledger) where
  abbrev pub state : State
  state = audit_state_after cluster.quorums (placed_of (logs_of cluster ledger))

  abbrev sayings : List Saying
  sayings = flat_map choices_in (placed_of (logs_of cluster ledger))

  choices-are : state.choices ≡ fold say_one nothing_said sayings
  choices-are = all-choices cluster.quorums nothing_taken (placed_of (logs_of cluster ledger))

  known : Knows (Also None_said sayings) (state.choices)
  known = subst (λ (said : Said). Knows (Also None_said sayings) said) (sym choices-are) (knows-all None_said nothing_said knows-nothing sayings)

  -- it is that of the choices with which the transaction was begun
  abbrev pub IsWriteSet : TxId → Type 0
  IsWriteSet t = (cs : List Choice) × WasBegun (reduced ledger) t cs × (write_set_of state t ≡ Some (instances cs))

  -- or else no choice of it is named
  abbrev pub IsUnnamed : TxId → Type 0
  IsUnnamed t = (write_set_of state t ≡ None) × ((c : Choice) (place : FactPlace) → c.tx ≡ t → IsOneOf (of_tx c.tx, said_at place (Value.Places c.write_set)) sayings → ⊥)

  said-of : (t : TxId) (f : First) (e : Saying) → FromChoice cluster ledger h e → of_tx t ≡ e.0 → e.1 ≡ f → Some f ≡ first_at state.choices.table (of_tx t) → IsWriteSet t
  said-of t f e (c, place, begun, inl is) subject first found =
      let bad : true ≡ false = ap (λ (s : Subject). s.whole) (subject ∙ ap (λ (z : Saying). z.0) is) in
      cc
  said-of t f e (c, place, begun, inr (inr none)) subject first found = elim none [ ]
  said-of t f e (c, place, begun, inr (inl is)) subject first found =
      let own : t ≡ c.tx = ap (λ (s : Subject). s.tx) (subject ∙ ap (λ (z : Saying). z.0) is) in
      let value : places_said (Some f) ≡ Some c.write_set =
      ap (λ (z : First). places_said (Some z)) (sym first) ∙ ap (λ (z : Saying). places_said (Some z.1)) is in
      let places : c.write_set ≡ instances begun.0 = one-write_set cluster ledger h.allowed c.tx begun.0 begun.1 c begun.2 in
      (begun.0, subst (λ (z : TxId). WasBegun (reduced ledger) z begun.0) (sym own) begun.1, ap places_said (sym found) ∙ value ∙ ap Some places)

  pub write-set : (t : TxId) → IsWriteSet t ⊎ IsUnnamed t
  write-set t = by_first (first_at state.choices.table (of_tx t)) refl
    where
      without : (e : Saying) → Also None_said sayings e → IsOneOf e sayings
      without e (inl none) = elim none [ ]
      without e (inr is) = is

      by_first : (o : Option First) → o ≡ first_at state.choices.table (of_tx t) → IsWriteSet t ⊎ IsUnnamed t
      by_first (Some f) is =
          let k = known.from (of_tx t) f is in
          inl (said-of t f k.0 (from-choice cluster ledger h k.0 (without k.0 k.1)) ((Decides-subject (of_tx t) k.0.0).0 k.2) k.3 is)
      by_first None is = inr (ap places_said (sym is), never)
        where
          never : (c : Choice) (place : FactPlace) → c.tx ≡ t
              → IsOneOf (of_tx c.tx, said_at place (Value.Places c.write_set)) sayings → ⊥
          never c place own there =
              let k = known.known (of_tx c.tx, said_at place (Value.Places c.write_set)) (inr there) in
              let found : Some k.0 ≡ first_at state.choices.table (of_tx t) = k.1 ∙ ap (λ (z : TxId). first_at state.choices.table (of_tx z)) own in
              let bad : None ≡ Some k.0 = is ∙ sym found in
              cc

  -- ---- verdicts

  named-verdict : (t : TxId) → IsWriteSet t → verdict_of state t ≡ verdict_for (outcome_of cluster.quorums ledger t)
  named-verdict t (cs, begun, is) =
      let same : choices_begun ledger t ≡ cs = begun_is cluster (setup_fine cluster ledger h) ledger (fine cluster ledger h) t cs begun in
      ap (verdict_by (counted cluster ledger h) t) is
      ∙ verdict-of-marks (counted cluster ledger h) t (λ key version. chosen_of cluster.quorums ledger key version t) (rejected-is cluster ledger h t) (accepted-is cluster ledger h t) cs
      ∙ ap (λ (zs : List Choice). verdict_for (cond (nat_lt 0 (length zs)) (outcome_of_marks (map (λ choice. chosen_of cluster.quorums ledger choice.key choice.version t) zs)) None)) (sym same)

  -- an accepted choice that is chosen is named
  accepted-named : (t : TxId) → IsUnnamed t → (key : Key) (version : ℕ) (ballot : Ballot) (c : Choice)
      → is_chosen_at cluster.quorums ledger key version ballot t (Mark.Accept c) ≡ true → ⊥
  accepted-named t unnamed key version ballot c chosen =
      let voter = voter-of cluster ledger h key version ballot t (Mark.Accept c) chosen in
      let own = chosen-own cluster ledger h key version ballot t (Mark.Accept c) chosen in
      let vote = vote-fact cluster key version ballot t (Mark.Accept c) (facts_of ledger voter.0) voter.2 in
      let placed = fact-placed cluster ledger voter.0 (Fact.Voted key version ballot vote.0 vote.1) voter.1 vote.2 in
      let e : Saying = (of_tx c.tx, said_at placed.0 (Value.Places c.write_set)) in
      unnamed.1 c placed.0 own.1
      (to-each choices_in (placed.0, Fact.Voted key version ballot vote.0 vote.1) e (placed_of (logs_of cluster ledger)) placed.1
      (to-each (choice_sayings placed.0) c e (choices_named (Fact.Voted key version ballot vote.0 vote.1))
      (in-left c (filter_map (λ e. choice_in e.1) vote.0) (option_to_list vote.1) (accepted-in c vote.0 t vote.3)) (inr (inl refl))))

  unnamed-verdict : (t : TxId) → IsUnnamed t → verdict_unnamed (counted cluster ledger h) t ≡ verdict_for (outcome_of cluster.quorums ledger t)
  unnamed-verdict t unnamed = by_rejected (is_among (counted cluster ledger h).rejected (of_tx t)) refl
    where
      aborted : (key : Key) (version : ℕ) (ballot : Ballot) → is_chosen_at cluster.quorums ledger key version ballot t Mark.Reject ≡ true
          → outcome_of cluster.quorums ledger t ≡ Some Outcome.Abort
      aborted key version ballot chosen =
          let own = chosen-own cluster ledger h key version ballot t Mark.Reject chosen in
          outcome_aborted cluster (setup_fine cluster ledger h) ledger (fine cluster ledger h) t (
            own.0,
            ballot,
            own.1,
            own.2,
            subst (λ (i : Place). IsChosen (setup_of cluster) (reduced ledger) i ballot t Mark.Reject) (sym own.3)
                (chosen_here cluster ledger h key version ballot t Mark.Reject chosen),
          )

      not-commit : (cs : List Choice) → IsCommitted (setup_of cluster) (reduced ledger) t cs → 0 < length cs → ⊥
      not-commit [] committed some = omega arith
      not-commit (c ∷ cs) committed some =
          let one = committed.1 c (inl refl) in
          accepted-named t unnamed c.key c.version one.0 c (reduced_chosen cluster ledger (spot c) one.0 t (Mark.Accept c) one.1)

      by_outcome : (o : Option Outcome) → outcome_of cluster.quorums ledger t ≡ o → is_among (counted cluster ledger h).rejected (of_tx t) ≡ false → Verdict3.Open ≡ verdict_for o
      by_outcome None is few = refl
      by_outcome (Some Outcome.Abort) is few =
          let a : IsAborted (setup_of cluster) (reduced ledger) t = decided cluster (setup_fine cluster ledger h) ledger (fine cluster ledger h) t Outcome.Abort is in
          let chosen = reduced_chosen cluster ledger (spot a.0) a.1 t Mark.Reject a.4 in
          elim (false≢true (sym few ∙ whole-from cluster ledger h t a.0.key a.0.version a.1 chosen)) [ ]
      by_outcome (Some (Outcome.Commit cs)) is few =
          let committed : IsCommitted (setup_of cluster) (reduced ledger) t cs = decided cluster (setup_fine cluster ledger h) ledger (fine cluster ledger h) t (Outcome.Commit cs) is in
          elim (not-commit cs committed (begun_some cluster ledger h.allowed t cs committed.0)) [ ]

      by_rejected : (b : Bool) → is_among (counted cluster ledger h).rejected (of_tx t) ≡ b → cond b Verdict3.Abort Verdict3.Open ≡ verdict_for (outcome_of cluster.quorums ledger t)
      by_rejected true is = let k = whole-to cluster ledger h t is in ap verdict_for (sym (aborted k.0 k.1 k.2 k.3))
      by_rejected false few = by_outcome (outcome_of cluster.quorums ledger t) refl few

  -- each verdict is the outcome
  pub verdict-is : (t : TxId) → verdict_of state t ≡ verdict_for (outcome_of cluster.quorums ledger t)
  verdict-is t =
      elim (write-set t) [
        | inl is ↦ named-verdict t is
        | inr unnamed ↦ ap (verdict_by (counted cluster ledger h) t) unnamed.0 ∙ unnamed-verdict t unnamed
      ]
