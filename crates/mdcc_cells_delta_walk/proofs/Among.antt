-- Loads over live entries one after the other, where a transaction counts at its last entry.
use Rattle.std.proofs.Common.{◌≡◌, ◌++◌, ◌∷◌, ℕ, Bool, true, false, List, [], ap, cond, drop, sym, ◌∙◌, refl, inl, inr}
use Rattle.std.specs.List.{fold, list_any}
use Rattle.std.specs.Prelude.{◌&&◌, ◌||◌, filter, is_some, map, not}
use Rattle.std.proofs.lemmas.Bool.{cases_Bool}
use Rattle.mdcc_base.specs.TxId.{tx_eq}
use Rattle.mdcc_base.specs.declared.identifiers.TxId.{TxId}
use Rattle.mdcc_base.specs.declared.key.Key.{Key}
use Rattle.mdcc_option.specs.declared.items.Update.{Update}
use Rattle.mdcc_struct.specs.Maps.{TxMap, are_ascending, txs_of, value_of}
use Rattle.mdcc_struct.proofs.Order.{tx_eq-sym}
use Rattle.mdcc_struct.proofs.Ordered.{ascending-below, ascending-tail, value_of-below}
use Rattle.mdcc_def_messages.specs.Spelling.{fact_bytes}
use Rattle.mdcc_def_messages.specs.declared.facts.Fact.{Fact}
use Rattle.mdcc_def_protocol.specs.Plain.{plain_live_from}
use Rattle.mdcc_def_protocol.specs.Fit.{has_tx}
use Rattle.mdcc_def_protocol.specs.declared.fit.Load.{Load}
use Rattle.mdcc_escrow.specs.Weights.{with_live}
use Rattle.mdcc_cells_facts.specs.Holding.{AreWellFormed}
use Rattle.mdcc_theorem_fact_folds.specs.Live.{is_live_by, is_live_counted, load_steps}
use Rattle.mdcc_theorem_fact_folds.proofs.Sorted.{live_from-ascend, well_formed-ordered}
use Rattle.mdcc_cells_delta_walk.specs.Chains.{AreOf}
use Rattle.mdcc_cells_delta_walk.specs.Entries.{DeltaEntry}
use Rattle.mdcc_cells_delta_walk.specs.LiveWalks.{counts_before, live_in, load_among}
use Rattle.mdcc_cells_delta_walk.specs.Loads.{with_added}
use Rattle.mdcc_cells_delta_walk.proofs.FactsEntered.{live-is-read}
use Rattle.mdcc_cells_delta_walk.proofs.MarksEntered.{weighed}
use Rattle.mdcc_cells_delta_walk.proofs.Summed.{alike}

-- ---- one entry

-- the entries that are left once the first was counted or passed
pub among-go : (seen : List TxId) (void : TxId → Bool) (load next : Load) (entries left rest : List DeltaEntry) (txs later : List TxId) (e : DeltaEntry) (counted : Bool)
    → entries ≡ e ∷ rest → left ≡ rest → txs ≡ txs_of entries → later ≡ drop 1 txs → counted ≡ (not (void e.0) && not (has_tx later e.0)) → next ≡ cond counted (with_added seen load e) load
    → load_among seen void next left ≡ load_among seen void load entries
among-go seen void load next entries left rest txs later e counted whole is txs-are later-is test by =
    let after : later ≡ txs_of rest = later-is ∙ ap (drop 1) txs-are ∙ ap (λ es. drop 1 (txs_of es)) whole in
    let same : counted ≡ counts_before void rest e.0 = test ∙ ap (λ l. not (void e.0) && not (has_tx l e.0)) after in
    ap (load_among seen void next) is
    ∙ ap (λ l. load_among seen void l rest) (by ∙ ap (λ b. cond b (with_added seen load e) load) same)
    ∙ sym (ap (load_among seen void load) whole)

pub txs-go : (entries left rest : List DeltaEntry) (txs later : List TxId) (e : DeltaEntry) → entries ≡ e ∷ rest → left ≡ rest → txs ≡ txs_of entries → later ≡ drop 1 txs → later ≡ txs_of left
txs-go entries left rest txs later e whole is txs-are later-is =
    later-is ∙ ap (drop 1) txs-are ∙ ap (λ es. drop 1 (txs_of es)) whole ∙ ap txs_of (sym is)

-- ---- transactions of entries

or-assoc : (a b c : Bool) → (a || b) || c ≡ a || (b || c)
or-assoc true b c = refl
or-assoc false b c = refl

has-more : (es : TxMap Update) (others : List DeltaEntry) (tx : TxId) → has_tx (txs_of (map weighed es ++ others)) tx ≡ is_some (value_of es tx) || has_tx (txs_of others) tx
has-more [] others tx = refl
has-more (e ∷ es) others tx =
    elim (cases_Bool (tx_eq e.0 tx)) [
      | inl same ↦ let turned : tx_eq tx e.0 ≡ true = tx_eq-sym tx e.0 ∙ same in rw (same, turned) refl
      | inr other ↦ let turned : tx_eq tx e.0 ≡ false = tx_eq-sym tx e.0 ∙ other in rw (other, turned) (has-more es others tx)
    ]

live-any : (key : Key) (version : ℕ) (facts : List Fact) (tx : TxId) → AreWellFormed facts
    → has_tx (txs_of (live_in key version (map fact_bytes facts))) tx ≡ list_any (is_live_by key version tx) facts
live-any key version [] tx fits = refl
live-any key version (fact ∷ facts) tx fits =
    ap (λ es. has_tx (txs_of (es ++ live_in key version (map fact_bytes facts))) tx) (live-is-read key version fact fits.0)
    ∙ has-more (plain_live_from key version fact) (live_in key version (map fact_bytes facts)) tx
    ∙ ap (λ b. is_live_by key version tx fact || b) (live-any key version facts tx fits.1)

-- ---- facts

-- no later entry of a fact is of the same transaction
once : (e : TxId × Update) (es : TxMap Update) → are_ascending (e ∷ es) ≡ true → is_some (value_of es e.0) ≡ false
once e es up = ap is_some (value_of-below e.0 es (ascending-below e es up))

-- the entries of a fact before those of the older ones
among-fact : (seen : List TxId) (void says : TxId → Bool) (others : List DeltaEntry) → ((tx : TxId) → (not (void tx) && not (has_tx (txs_of others) tx)) ≡ says tx)
    → (load : Load) (es : TxMap Update) → are_ascending es ≡ true
    → load_among seen void load (map weighed es ++ others) ≡ load_among seen void (fold (with_live seen) load (filter (λ e. says e.0) es)) others
among-fact seen void says others same load [] up = refl
among-fact seen void says others same load (e ∷ es) up =
    let alone : has_tx (txs_of (map weighed es ++ others)) e.0 ≡ has_tx (txs_of others) e.0 = has-more es others e.0 ∙ ap (λ b. b || has_tx (txs_of others) e.0) (once e es up) in
    let test : counts_before void (map weighed es ++ others) e.0 ≡ says e.0 = ap (λ b. not (void e.0) && not b) alone ∙ same e.0 in
    elim (cases_Bool (says e.0)) [
      | inl counted ↦
          let also : counts_before void (map weighed es ++ others) e.0 ≡ true = test ∙ counted in
          ap (λ b. load_among seen void (cond b (with_added seen load (weighed e)) load) (map weighed es ++ others)) also
          ∙ among-fact seen void says others same (with_added seen load (weighed e)) es (ascending-tail e es up)
          ∙ ap (λ l. load_among seen void (fold (with_live seen) l (filter (λ e. says e.0) es)) others) (alike seen load e.0 e.1)
          ∙ sym (ap (λ b. load_among seen void (fold (with_live seen) load (cond b (e ∷ filter (λ e. says e.0) es) (filter (λ e. says e.0) es))) others) counted)
      | inr passed ↦
          let also : counts_before void (map weighed es ++ others) e.0 ≡ false = test ∙ passed in
          ap (λ b. load_among seen void (cond b (with_added seen load (weighed e)) load) (map weighed es ++ others)) also
          ∙ among-fact seen void says others same load es (ascending-tail e es up)
          ∙ sym (ap (λ b. load_among seen void (fold (with_live seen) load (cond b (e ∷ filter (λ e. says e.0) es) (filter (λ e. says e.0) es))) others) passed)
    ]

among-facts : (seen : List TxId) (void : TxId → Bool) (key : Key) (version : ℕ) (load : Load) (facts : List Fact) → AreWellFormed facts
    → load_among seen void load (live_in key version (map fact_bytes facts)) ≡ load_steps seen void key version load facts
among-facts seen void key version load [] fits = refl
among-facts seen void key version load (fact ∷ older) fits =
    ap (λ es. load_among seen void load (es ++ live_in key version (map fact_bytes older))) (live-is-read key version fact fits.0)
    ∙ among-fact seen void (is_live_counted void older key version) (live_in key version (map fact_bytes older))
    (λ tx. ap (λ b. not (void tx) && not b) (live-any key version older tx fits.1)) load (plain_live_from key version fact)
    (live_from-ascend key version fact (well_formed-ordered fact fits.0))
    ∙ among-facts seen void key version (fold (with_live seen) load (filter (λ e. is_live_counted void older key version e.0) (plain_live_from key version fact))) older fits.1

pub among-is-summed : (seen : List TxId) (void : TxId → Bool) (key : Key) (version : ℕ) (load : Load) (texts : List (List ℕ)) (facts : List Fact) → AreOf texts facts
    → load_among seen void load (live_in key version texts) ≡ load_steps seen void key version load facts
among-is-summed seen void key version load texts facts of =
    ap (λ ts. load_among seen void load (live_in key version ts)) of.encodings_are ∙ among-facts seen void key version load facts of.well_formed
