-- The deltas of a version, noted from a fact and the chain before it, are crowded where they are more than 64.
use Rattle.std.proofs.Common.{◌≡◌, ◌+◌, ◌∷◌, ℕ, Bool, true, List, [], length, ap, sym, ◌∙◌, refl, zero-add}
use Rattle.std.specs.List.{fold, list_all, list_any}
use Rattle.std.specs.Prelude.{filter, map, nat_lt, not}
use Rattle.std.proofs.lemmas.Bool.{and_from, and_parts}
use Rattle.mdcc_base.specs.Counts.{number_of}
use Rattle.mdcc_base.specs.declared.identifiers.TxId.{TxId}
use Rattle.mdcc_base.specs.declared.key.Key.{Key}
use Rattle.mdcc_struct.specs.Maps.{txs_of}
use Rattle.mdcc_def_messages.specs.Spelling.{fact_bytes}
use Rattle.mdcc_def_messages.specs.declared.facts.Fact.{Fact}
use Rattle.mdcc_def_protocol.specs.Facts.{deltas_at, deltas_from}
use Rattle.mdcc_def_protocol.specs.Marks.{Amounts}
use Rattle.mdcc_cells_facts.specs.Holding.{AreWellFormed}
use Rattle.mdcc_theorem_fact_folds.specs.Held.{deltas_steps, deltas_walk, is_delta_by, next_executed}
use Rattle.mdcc_theorem_fact_folds.specs.Live.{is_ordered}
use Rattle.mdcc_theorem_fact_folds.proofs.Deltas.{counted-from}
use Rattle.mdcc_theorem_fact_folds.proofs.New.{length-number}
use Rattle.mdcc_theorem_fact_folds.proofs.Sorted.{well_formed-ordered}
use Rattle.mdcc_theorem_fact_folds.proofs.Steps.{first-deltas}
use Rattle.mdcc_cells_delta_walk.specs.Chains.{AreOf}
use Rattle.mdcc_cells_delta_walk.specs.Entries.{deltas_read}
use Rattle.mdcc_cells_delta_walk.specs.Steps.{deltas_step, no_deltas, noted, encoding_noted}
use Rattle.mdcc_cells_delta_walk.specs.declared.steps.WithDeltas.{WithDeltas}
use Rattle.mdcc_cells_delta_walk.proofs.FactsEntered.{deltas-are-read}
use Rattle.mdcc_cells_delta_walk.proofs.Noted.{txs-of-deltas}
use Rattle.mdcc_cells_delta_walk.proofs.Walked.{crowded-by-deltas}

-- ---- once there are too many

noted-stays : (s : WithDeltas) (txs : List TxId) → s.crowded ≡ true → fold noted s txs ≡ s
noted-stays s [] crowded = refl
noted-stays s (tx ∷ txs) crowded = let same : noted s tx ≡ s = rw crowded refl in ap (λ t. fold noted t txs) same ∙ noted-stays s txs crowded

pub crowded-stays : (s : WithDeltas) (texts : List (List ℕ)) → s.crowded ≡ true → fold encoding_noted s texts ≡ s
crowded-stays s [] crowded = refl
crowded-stays s (text ∷ texts) crowded =
    ap (λ t. fold encoding_noted t texts) (noted-stays s (txs_of (deltas_read s.key s.version text)) crowded) ∙ crowded-stays s texts crowded

-- ---- encodings and facts

steps-noted : (s : WithDeltas) (facts : List Fact) → AreWellFormed facts → fold encoding_noted s (map fact_bytes facts) ≡ fold deltas_step s facts
steps-noted s [] fits = refl
steps-noted s (fact ∷ facts) fits =
    ap (λ es. fold encoding_noted (fold noted s (txs_of es)) (map fact_bytes facts)) (deltas-are-read s.key s.version fact fits.0)
    ∙ ap (λ txs. fold encoding_noted (fold noted s txs) (map fact_bytes facts)) (txs-of-deltas (deltas_from s.key s.version fact))
    ∙ steps-noted (deltas_step s fact) facts fits.1

abbrev every : Fact → Bool
every fact = true

every-kept : (facts : List Fact) → filter every facts ≡ facts
every-kept [] = refl
every-kept (fact ∷ facts) = ap (λ fs. fact ∷ fs) (every-kept facts)

pub crowded-chain : (key : Key) (version : ℕ) (texts : List (List ℕ)) (facts : List Fact) (fact : Fact) → AreOf texts facts
    → (fold encoding_noted (deltas_step (no_deltas key version) fact) texts).crowded ≡ nat_lt 64 (length (next_executed facts key version fact))
crowded-chain key version texts facts fact of =
    ap (λ ts. (fold encoding_noted (deltas_step (no_deltas key version) fact) ts).crowded) of.encodings_are
    ∙ ap (λ s. s.crowded) (steps-noted (deltas_step (no_deltas key version) fact) facts of.well_formed)
    ∙ ap (λ fs. (fold deltas_step (no_deltas key version) fs).crowded) (sym (every-kept (fact ∷ facts)))
    ∙ crowded-by-deltas every key version (λ f is. refl) (fact ∷ facts)

-- ---- one delta after the other

walk-steps : (key : Key) (version count : ℕ) (facts : List Fact) → list_all is_ordered facts ≡ true → deltas_walk key version count facts ≡ deltas_steps key version count facts
walk-steps key version count [] ordered = refl
walk-steps key version count (fact ∷ older) ordered =
    let parts = and_parts (is_ordered fact) (list_all is_ordered older) ordered in
    let new = λ (e : TxId × Amounts). not (list_any (is_delta_by key version e.0) older) in
    ap (λ n. deltas_walk key version (count + n) older)
    (ap (λ m. length m) (first-deltas older key version fact parts.0) ∙ length-number new (deltas_from key version fact))
    ∙ walk-steps key version (count + number_of new (deltas_from key version fact)) older parts.1

are-ordered : (facts : List Fact) → AreWellFormed facts → list_all is_ordered facts ≡ true
are-ordered [] fits = refl
are-ordered (fact ∷ facts) fits = and_from (is_ordered fact) (list_all is_ordered facts) (well_formed-ordered fact fits.0) (are-ordered facts fits.1)

pub executed-steps : (key : Key) (version : ℕ) (texts : List (List ℕ)) (facts : List Fact) (fact : Fact) → AreOf texts facts → is_ordered fact ≡ true
    → length (next_executed facts key version fact) ≡ deltas_steps key version 0 (fact ∷ facts)
executed-steps key version texts facts fact of ordered =
    sym (counted-from key version 0 (fact ∷ facts) ∙ zero-add (length (deltas_at (fact ∷ facts) key version)))
    ∙ walk-steps key version 0 (fact ∷ facts) (and_from (is_ordered fact) (list_all is_ordered facts) ordered (are-ordered facts of.well_formed))
