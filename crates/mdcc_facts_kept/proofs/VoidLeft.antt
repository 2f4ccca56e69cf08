-- Void transactions by what is left, and what is live.
use Rattle.std.proofs.Common.{◌≡◌, ◌≤◌, ◌∷◌, ◌∙◌, ℕ, Bool, true, false, List, [], Option, Some, None, Result, is_some, not, refl, sym, ap, inl, inr}
use Rattle.std.proofs.Math.Path.{fun_ext}
use Rattle.std.proofs.lemmas.Bool.{and_parts, cases_Bool}
use Rattle.std.proofs.lemmas.List.Sums.{fold-append}
use Rattle.std.specs.List.{list_any}
use Rattle.std.specs.Option.{option_map}
use Rattle.std.specs.Prelude.{filter, if◌then◌else◌, nat_le, nat_lt, ◌&&◌, ◌||◌, ◌==◌}
use Rattle.mdcc_base.specs.declared.identifiers.TxId.{TxId}
use Rattle.mdcc_base.specs.declared.key.Key.{Key}
use Rattle.mdcc_option.specs.OneCopy.{next_version}
use Rattle.mdcc_option.specs.declared.choices.Choice.{Choice}
use Rattle.mdcc_option.specs.declared.choices.Outcome.{Outcome}
use Rattle.mdcc_option.specs.declared.items.Update.{Update}
use Rattle.mdcc_struct.specs.Maps.{TxMap, union}
use Rattle.mdcc_def_messages.specs.Reading.{fact_of}
use Rattle.mdcc_def_messages.specs.Spelling.{encodings_of, fact_bytes}
use Rattle.mdcc_def_messages.specs.declared.facts.Fact.{Fact}
use Rattle.mdcc_def_messages.specs.declared.wire.WireFault.{WireFault}
use Rattle.mdcc_def_protocol.specs.Facts.{current_of, heard_of, is_finished, is_heard, is_idle, is_needed, is_past, is_void, live_and_void, live_from, shows_mark}
use Rattle.mdcc_def_protocol.specs.Fit.{capped, load_of}
use Rattle.mdcc_def_protocol.specs.Marks.{is_abort, is_commit, is_write}
use Rattle.mdcc_def_protocol.specs.Plain.{plain_live_and_void, plain_live_from}
use Rattle.mdcc_def_protocol.specs.Stores.{ended_of, load_at}
use Rattle.mdcc_theorem_encoding.proofs.Whole.{fact_again}
use Rattle.mdcc_cells_facts.specs.Holding.{AreWellFormed}
use Rattle.mdcc_cells_floors.specs.Epochs.{is_through}
use Rattle.mdcc_cells_marked.specs.Marks.{has_open_mark}
use Rattle.mdcc_index.specs.Loads.{plain_load_by}
use Rattle.mdcc_given_back.specs.Counted.{without_floors}
use Rattle.mdcc_given_back.proofs.EndingsLeft.{heard-of-rest, idle-of-heard}
use Rattle.mdcc_given_back.proofs.HeardLeft.{heard-stays, not-idle}
use Rattle.mdcc_given_back.proofs.LoadsLeft.{live_and_void-stay}
use Rattle.mdcc_given_back.proofs.MarksLeft.{filter-all, none-forgotten}
use Rattle.mdcc_facts_kept.specs.Kept.{IsKept, KeptRest}
use Rattle.mdcc_facts_kept.specs.Void.{facts_read_back, is_void_by, is_void_kept, void_if, with_fact_read}
use Rattle.mdcc_facts_kept.proofs.Asked.{current_asked, idle_asked}
use Rattle.mdcc_facts_kept.proofs.WithoutFloors.{heard-same, live-same}

-- ---- the facts in cells are read back

pub read-back : (facts : List Fact) → AreWellFormed facts → facts_read_back (encodings_of facts) ≡ facts
read-back [] well = refl
read-back (fact ∷ facts) well =
    fold-append (λ (fs : List Fact) (bytes : List ℕ). with_fact_read fs (fact_of bytes)) [] (encodings_of facts) (fact_bytes fact ∷ [])
    ∙ ap (λ (fs : List Fact). with_fact_read fs (fact_of (fact_bytes fact))) (read-back facts well.1)
    ∙ ap (λ (r : Result Fact WireFault). with_fact_read facts r) (fact_again fact well.0)

-- ---- which are void, by the outcome that is kept

idle-finished : (facts : List Fact) (tx : TxId) → is_idle facts tx ≡ true → is_finished facts tx ≡ true
idle-finished facts tx idle =
    (and_parts (is_finished facts tx) (is_past facts (heard_of facts tx)) (and_parts (is_finished facts tx && is_past facts (heard_of facts tx)) (not (list_any (shows_mark facts tx) facts)) idle).0).0

or-true : (a : Bool) → (a || true) ≡ true
or-true true = refl
or-true false = refl

module _ (facts : List Fact) (told : (tx : TxId) → is_finished facts tx ≡ true → is_heard facts tx ≡ true) (tx : TxId) where
  void-shown : (o : Option Outcome) → heard_of facts tx ≡ o → is_idle facts tx ≡ false → void_if (option_map is_commit o) (is_finished facts tx) ≡ is_void facts tx
  void-shown None none busy = elim (cases_Bool (is_finished facts tx)) [
    | inl finished ↦ absurd (let bad : false ≡ true = sym (ap (λ (o : Option Outcome). is_some o) none) ∙ told tx finished in cc)
    | inr unfinished ↦ unfinished ∙ sym (ap (λ b. is_abort (heard_of facts tx) || b) busy ∙ ap (λ (o : Option Outcome). is_abort o || false) none)
  ]
  void-shown (Some Outcome.Abort) some busy = sym (ap (λ (o : Option Outcome). is_abort o || is_idle facts tx) some)
  void-shown (Some (Outcome.Commit choices)) some busy = sym (ap (λ (o : Option Outcome). is_abort o || is_idle facts tx) some ∙ busy)

  pub void-ended : void_if (ended_of facts tx) (is_finished facts tx) ≡ is_void facts tx
  void-ended = elim (cases_Bool (is_idle facts tx)) [
    | inl idle ↦
        ap (λ (b : Bool). void_if (option_map is_commit (if b then None else heard_of facts tx)) (is_finished facts tx)) idle
        ∙ idle-finished facts tx idle
        ∙ sym (ap (λ b. is_abort (heard_of facts tx) || b) idle ∙ or-true (is_abort (heard_of facts tx)))
    | inr busy ↦
        ap (λ (b : Bool). void_if (option_map is_commit (if b then None else heard_of facts tx)) (is_finished facts tx)) busy
        ∙ void-shown (heard_of facts tx) refl busy
  ]

-- ---- by the facts that are left

past-by : (a b : List Fact) → ((key : Key) → current_of a key ≡ current_of b key) → (o : Option Outcome) → is_past a o ≡ is_past b o
past-by a b same None = refl
past-by a b same (Some Outcome.Abort) = refl
past-by a b same (Some (Outcome.Commit choices)) = ap (λ (test : Choice → Bool). not (list_any test choices)) (fun_ext needed)
  where
    needed : (choice : Choice) → is_needed a choice ≡ is_needed b choice
    needed choice = ap (λ n. if is_write choice.update then next_version choice.version == n else nat_le n choice.version) (same choice.key)

and-false : (a : Bool) → (a && false) ≡ false
and-false true = refl
and-false false = refl

module _ (store : KeptRest) (facts : List Fact) (kept : IsKept store facts) (tx : TxId) where
  left : List Fact
  left = without_floors kept.rest

  by-left : (o : Option Outcome) → heard_of kept.rest tx ≡ o
      → (is_abort o || (is_finished facts tx && (not (is_some o) || (is_past facts o && not (has_open_mark (without_floors kept.rest) tx))))) ≡ is_void facts tx
  by-left None none = elim (cases_Bool (is_finished facts tx)) [
    | inr unfinished ↦
        let unheard : heard_of facts tx ≡ None = sym (heard-stays kept.rest facts tx kept.is_rest (not-idle facts tx unfinished)) ∙ none in
        ap (λ b. b && true) unfinished ∙ sym (ap (λ (o : Option Outcome). is_abort o || is_idle facts tx) unheard ∙ not-idle facts tx unfinished)
    | inl finished ↦ elim (cases_Bool (is_idle facts tx)) [
      | inl idle ↦ ap (λ b. b && true) finished ∙ sym (ap (λ b. is_abort (heard_of facts tx) || b) idle ∙ or-true (is_abort (heard_of facts tx)))
      | inr busy ↦
          absurd
          (let unheard : heard_of facts tx ≡ None = sym (heard-stays kept.rest facts tx kept.is_rest busy) ∙ none in
          let bad : false ≡ true = sym (ap (λ (o : Option Outcome). is_some o) unheard) ∙ kept.added.told tx finished in
          cc)
    ]
  ]
  by-left (Some outcome) some =
      let heard : heard_of facts tx ≡ Some outcome = heard-of-rest kept.rest facts tx outcome kept.is_rest kept.added.heard some in
      let here : heard_of (without_floors kept.rest) tx ≡ Some outcome = heard-same kept.rest tx ∙ some in
      let idle : (is_finished facts tx && (is_past facts (Some outcome) && not (has_open_mark (without_floors kept.rest) tx))) ≡ is_idle facts tx =
      sym (ap (λ (o : Option Outcome). is_finished facts tx && (is_past facts o && not (has_open_mark (without_floors kept.rest) tx))) here)
      ∙ idle_asked store facts kept tx
      ∙ idle-of-heard kept.rest facts tx kept.is_rest kept.added.heard (ap (λ (o : Option Outcome). is_some o) some) in
      ap (λ b. is_abort (Some outcome) || b) idle ∙ sym (ap (λ (o : Option Outcome). is_abort o || is_idle facts tx) heard)

  through-finished : is_through store.floors.entries tx ≡ is_finished facts tx
  through-finished = ap (λ n. nat_lt 0 tx.seq && nat_le tx.seq n) (kept.floors.floors tx.centre tx.epoch)

  pub void-kept : is_void_kept store tx ≡ is_void facts tx
  void-kept =
      ap (λ (fs : List Fact). is_void_by fs (is_through store.floors.entries tx) tx)
      (ap facts_read_back kept.inner.cells.encodings_are ∙ read-back (without_floors kept.rest) kept.inner.cells.well_formed)
      ∙ ap (λ b. is_void_by (without_floors kept.rest) b tx) through-finished
      ∙ ap (λ b. is_abort (heard_of (without_floors kept.rest) tx) || (is_finished facts tx && (not (is_some (heard_of (without_floors kept.rest) tx)) || (b && not (has_open_mark (without_floors kept.rest) tx)))))
      (past-by (without_floors kept.rest) facts (current_asked store facts kept) (heard_of (without_floors kept.rest) tx))
      ∙ ap (λ (o : Option Outcome). is_abort o || (is_finished facts tx && (not (is_some o) || (is_past facts o && not (has_open_mark (without_floors kept.rest) tx))))) (heard-same kept.rest tx)
      ∙ by-left (heard_of kept.rest tx) refl

pub void-found : (store : KeptRest) (facts : List Fact) (kept : IsKept store facts) (tx : TxId) → void_if (ended_of facts tx) (is_finished facts tx) ≡ is_void_kept store tx
void-found store facts kept tx = void-ended facts kept.added.told tx ∙ sym (void-kept store facts kept tx)

-- ---- what is live at the version held, and at later ones

live_from-shown : (key : Key) (version : ℕ) (fact : Fact) → live_from (λ tx. false) key version fact ≡ plain_live_from key version fact
live_from-shown key version (Fact.Voted k v b options offered) = rw (filter-all options) refl
live_from-shown key version (Fact.Booted n) = refl
live_from-shown key version (Fact.Promised k l g b) = refl
live_from-shown key version (Fact.Heard tx outcome) = refl
live_from-shown key version (Fact.Adopted k v item deltas) = refl
live_from-shown key version (Fact.Floor c e n) = refl

none-gone : (facts : List Fact) (key : Key) (version : ℕ) → live_and_void (λ tx. false) facts key version ≡ plain_live_and_void facts key version
none-gone [] key version = refl
none-gone (fact ∷ facts) key version =
    ap (λ z. union z (live_from (λ tx. false) key version fact)) (none-gone facts key version)
    ∙ ap (union (plain_live_and_void facts key version)) (live_from-shown key version fact)

pub load-kept : (store : KeptRest) (facts : List Fact) (kept : IsKept store facts) (key : Key) (version : ℕ) (seen : List TxId) → current_of facts key ≤ version
    → plain_load_by (is_void_kept store) (without_floors kept.rest) key version seen ≡ load_at facts key version seen
load-kept store facts kept key version seen held =
    ap (λ (void : TxId → Bool). plain_load_by void (without_floors kept.rest) key version seen) (fun_ext (void-kept store facts kept))
    ∙ ap (λ (m : TxMap Update). capped (load_of (filter (λ e. not (is_void facts e.0)) m) seen))
    (live-same kept.rest key version
    ∙ live_and_void-stay kept.rest facts key version kept.is_rest kept.added.heard held
    ∙ sym (none-gone facts key version)
    ∙ sym (ap (λ (gone : TxId → Bool). live_and_void gone facts key version) (none-forgotten facts key version held)))
