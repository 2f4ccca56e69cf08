-- What is told of a transaction by an encoding is what the fact says.
use Rattle.std.proofs.Common.{◌≡◌, ◌++◌, ◌∷◌, ℕ, Bool, true, false, List, [], Option, Some, None, cond, ap, sym, ◌∙◌, arith, refl, append_assoc, inl, inr, subst}
use Rattle.std.specs.List.{AllByRecursion, cons_option}
use Rattle.std.specs.Prelude.{◌&&◌, ◌==◌, filter_map, is_some, map, not, option_map}
use Rattle.std.proofs.lemmas.Bool.{cases_Bool}
use Rattle.mdcc_base.specs.Key.{key_eq}
use Rattle.mdcc_base.specs.TxId.{tx_eq}
use Rattle.mdcc_base.specs.declared.identifiers.TxId.{TxId}
use Rattle.mdcc_base.specs.declared.key.Key.{Key}
use Rattle.mdcc_option.specs.declared.choices.Choice.{Choice}
use Rattle.mdcc_option.specs.declared.choices.Outcome.{Outcome}
use Rattle.mdcc_option.specs.declared.items.Update.{Update}
use Rattle.mdcc_struct.specs.Maps.{TxMap, value_of}
use Rattle.mdcc_def_messages.specs.Bytes.{u8_bytes}
use Rattle.mdcc_def_messages.specs.Spelling.{fact_bytes}
use Rattle.mdcc_def_messages.specs.SpelledParts.{outcome_bytes, tx_bytes}
use Rattle.mdcc_def_messages.specs.WellFormed.{IsWellFormedFact}
use Rattle.mdcc_def_messages.specs.WellFormedParts.{IsWellFormedOf}
use Rattle.mdcc_def_messages.specs.declared.facts.Fact.{Fact}
use Rattle.mdcc_def_protocol.specs.Facts.{amounts_added, delta_given, deltas_from}
use Rattle.mdcc_def_protocol.specs.Plain.{plain_live_from}
use Rattle.mdcc_def_protocol.specs.Marks.{Amounts}
use Rattle.mdcc_theorem_encoding.proofs.Places.{IsAt, apart-2}
use Rattle.mdcc_theorem_encoding.proofs.Whole.{at_front}
use Rattle.mdcc_theorem_fact_folds.specs.Live.{is_live_by}
use Rattle.mdcc_cells_delta_walk.specs.Passing.{entry_head}
use Rattle.mdcc_cells_delta_walk.specs.Entries.{deltas_read, live_read, tx_in}
use Rattle.mdcc_cells_delta_walk.specs.Steps.{amounts_of, has_live, is_of_other, option_joined, value_in}
use Rattle.mdcc_cells_delta_walk.proofs.PartsThere.{tx-there}
use Rattle.mdcc_cells_delta_walk.proofs.ChoicesEntered.{delta_entry}
use Rattle.mdcc_cells_delta_walk.proofs.MarksEntered.{weighed}
use Rattle.mdcc_cells_delta_walk.proofs.FactsEntered.{deltas-are-read, live-is-read}

-- ---- maps

pub value-of-deltas : (ds : TxMap Amounts) (tx : TxId) → option_joined (value_of (map delta_entry ds) tx) ≡ value_of ds tx
value-of-deltas [] tx = refl
value-of-deltas (d ∷ ds) tx =
    elim (cases_Bool (tx_eq d.0 tx)) [
      | inl same ↦ rw same refl
      | inr other ↦ rw other (value-of-deltas ds tx)
    ]

pub has-weighed : (es : TxMap Update) (tx : TxId) → is_some (value_of (map weighed es) tx) ≡ is_some (value_of es tx)
has-weighed [] tx = refl
has-weighed (e ∷ es) tx =
    elim (cases_Bool (tx_eq e.0 tx)) [
      | inl same ↦ rw same refl
      | inr other ↦ rw other (has-weighed es tx)
    ]

has-added : (ds : TxMap Amounts) (tx : TxId) → is_some (value_of (map (λ e. (e.0, Update.Add e.1)) ds) tx) ≡ is_some (value_of ds tx)
has-added [] tx = refl
has-added (d ∷ ds) tx =
    elim (cases_Bool (tx_eq d.0 tx)) [
      | inl same ↦ rw same refl
      | inr other ↦ rw other (has-added ds tx)
    ]

-- ---- outcomes of other transactions

none-first : (d : Option (TxId × Amounts)) (ds : TxMap Amounts) (tx t : TxId) → ((x : TxId × Amounts) → d ≡ Some x → x.0 ≡ t) → tx_eq t tx ≡ false
    → value_of ds tx ≡ None → value_of (cons_option d ds) tx ≡ None
none-first None ds tx t of other none = none
none-first (Some x) ds tx t of other none =
    let apart : tx_eq x.0 tx ≡ false = ap (λ u. tx_eq u tx) (of x refl) ∙ other in
    rw apart none

given-of : (key : Key) (version : ℕ) (c : Choice) (x : TxId × Amounts) → delta_given key version c ≡ Some x → x.0 ≡ c.tx
given-of key version c x is = by_test (c.version == version && key_eq c.key key) c.update is
  where
    by_test : (test : Bool) (update : Update) → cond test (option_map (λ amounts. (c.tx, amounts)) (amounts_added update)) None ≡ Some x → x.0 ≡ c.tx
    by_test true (Update.Write item seen) e = absurd (cc)
    by_test true (Update.Add amounts) e = let same : (c.tx, amounts) ≡ x = cc in ap (λ y. y.0) (sym same)
    by_test false update e = absurd (cc)

none-given : (key : Key) (version : ℕ) (tx t : TxId) (choices : List Choice) → AllByRecursion (IsWellFormedOf t) choices → tx_eq t tx ≡ false
    → value_of (filter_map (delta_given key version) choices) tx ≡ None
none-given key version tx t [] fits other = refl
none-given key version tx t (c ∷ cs) fits other =
    none-first (delta_given key version c) (filter_map (delta_given key version) cs) tx t (λ x is. given-of key version c x is ∙ fits.0.same_tx) other
    (none-given key version tx t cs fits.1 other)

-- a fact that tells how a transaction ended
heard-tx : (t : TxId) (outcome : Outcome) → IsWellFormedFact (Fact.Heard t outcome) → tx_in (entry_head (fact_bytes (Fact.Heard t outcome))) 1 ≡ t
heard-tx t outcome fits =
    let whole : IsAt (fact_bytes (Fact.Heard t outcome)) 0 (u8_bytes 4 ++ tx_bytes t) =
    subst (λ b. IsAt b 0 (u8_bytes 4 ++ tx_bytes t)) (append_assoc (u8_bytes 4) (tx_bytes t) (outcome_bytes outcome)) (at_front (u8_bytes 4 ++ tx_bytes t) (outcome_bytes outcome)) in
    tx-there (fact_bytes (Fact.Heard t outcome)) 1 t fits.tx_itself (apart-2 (fact_bytes (Fact.Heard t outcome)) 0 (u8_bytes 4) (tx_bytes t) whole).1 (omega arith)

not-true : (b : Bool) → not b ≡ true → b ≡ false
not-true true is = absurd (cc)
not-true false is = refl

pub none-heard : (key : Key) (version : ℕ) (tx t : TxId) (outcome : Outcome) → IsWellFormedFact (Fact.Heard t outcome) → tx_eq t tx ≡ false
    → value_of (deltas_from key version (Fact.Heard t outcome)) tx ≡ None
none-heard key version tx t Outcome.Abort fits other = refl
none-heard key version tx t (Outcome.Commit choices) fits other = none-given key version tx t choices fits.outcome_itself.each other

-- it brings no delta of another transaction
pub none-of-other : (key : Key) (version : ℕ) (tx : TxId) (fact : Fact) → IsWellFormedFact fact → is_of_other tx (fact_bytes fact) ≡ true
    → value_of (deltas_from key version fact) tx ≡ None
none-of-other key version tx (Fact.Booted epoch) fits other = absurd (cc)
none-of-other key version tx (Fact.Floor origin era upto) fits other = absurd (cc)
none-of-other key version tx (Fact.Promised of_key low high ballot) fits other = absurd (cc)
none-of-other key version tx (Fact.Voted of_key at ballot options offered) fits other = absurd (cc)
none-of-other key version tx (Fact.Heard t outcome) fits other =
    let apart : tx_eq t tx ≡ false = ap (λ u. tx_eq u tx) (sym (heard-tx t outcome fits)) ∙ not-true (tx_eq (tx_in (entry_head (fact_bytes (Fact.Heard t outcome))) 1) tx) other in
    none-heard key version tx t outcome fits apart
none-of-other key version tx (Fact.Adopted of_key at item adds) fits other = absurd (cc)

not-live-of-other : (key : Key) (version : ℕ) (tx : TxId) (fact : Fact) → IsWellFormedFact fact → is_of_other tx (fact_bytes fact) ≡ true
    → is_some (value_of (plain_live_from key version fact) tx) ≡ false
not-live-of-other key version tx (Fact.Booted epoch) fits other = absurd (cc)
not-live-of-other key version tx (Fact.Floor origin era upto) fits other = absurd (cc)
not-live-of-other key version tx (Fact.Promised of_key low high ballot) fits other = absurd (cc)
not-live-of-other key version tx (Fact.Voted of_key at ballot options offered) fits other = absurd (cc)
not-live-of-other key version tx (Fact.Heard t outcome) fits other =
    has-added (deltas_from key version (Fact.Heard t outcome)) tx ∙ ap is_some (none-of-other key version tx (Fact.Heard t outcome) fits other)
not-live-of-other key version tx (Fact.Adopted of_key at item adds) fits other = absurd (cc)

-- ---- what is told

found-unless : (other found says : Bool) → found ≡ says → (other ≡ true → says ≡ false) → (not other && found) ≡ says
found-unless true found says is none = sym (none refl)
found-unless false found says is none = is

pub live-is-found : (key : Key) (version : ℕ) (tx : TxId) (fact : Fact) → IsWellFormedFact fact → has_live key version tx (fact_bytes fact) ≡ is_live_by key version tx fact
live-is-found key version tx fact fits =
    found-unless (is_of_other tx (fact_bytes fact)) (is_some (value_of (live_read key version (fact_bytes fact)) tx)) (is_live_by key version tx fact)
    (ap (λ es. is_some (value_of es tx)) (live-is-read key version fact fits) ∙ has-weighed (plain_live_from key version fact) tx)
    (λ other. not-live-of-other key version tx fact fits other)

pub amounts-are-found : (key : Key) (version : ℕ) (tx : TxId) (fact : Fact) → IsWellFormedFact fact → amounts_of key version tx (fact_bytes fact) ≡ value_of (deltas_from key version fact) tx
amounts-are-found key version tx fact fits = by_other (is_of_other tx (fact_bytes fact)) refl
  where
    by_other : (other : Bool) → is_of_other tx (fact_bytes fact) ≡ other
        → cond other None (value_in tx (deltas_read key version (fact_bytes fact))) ≡ value_of (deltas_from key version fact) tx
    by_other true is = sym (none-of-other key version tx fact fits is)
    by_other false is = ap (value_in tx) (deltas-are-read key version fact fits) ∙ value-of-deltas (deltas_from key version fact) tx
