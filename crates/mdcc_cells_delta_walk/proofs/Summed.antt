-- Loads over encodings, one entry and one encoding after the other.
use Rattle.std.proofs.Common.{◌≡◌, ◌∷◌, ℕ, Bool, true, false, List, [], Some, None, ap, sym, ◌∙◌, refl, inl, inr, cond}
use Rattle.std.specs.List.{fold, list_any}
use Rattle.std.specs.Prelude.{◌&&◌, ◌||◌, filter, map, not}
use Rattle.std.proofs.lemmas.Bool.{cases_Bool}
use Rattle.mdcc_base.specs.declared.identifiers.TxId.{TxId}
use Rattle.mdcc_base.specs.declared.key.Key.{Key}
use Rattle.mdcc_option.specs.declared.items.Update.{Update}
use Rattle.mdcc_struct.specs.Maps.{TxMap}
use Rattle.mdcc_def_messages.specs.Spelling.{fact_bytes}
use Rattle.mdcc_def_messages.specs.declared.facts.Fact.{Fact}
use Rattle.mdcc_def_protocol.specs.Facts.{amounts_added}
use Rattle.mdcc_def_protocol.specs.Plain.{plain_live_from}
use Rattle.mdcc_def_protocol.specs.declared.fit.Load.{Load}
use Rattle.mdcc_escrow.specs.Weights.{with_live}
use Rattle.mdcc_cells_facts.specs.Holding.{AreWellFormed}
use Rattle.mdcc_theorem_fact_folds.specs.Live.{is_live_by, is_live_counted, load_steps}
use Rattle.mdcc_cells_delta_walk.specs.Chains.{AreOf, first_encoding, later_encodings}
use Rattle.mdcc_cells_delta_walk.specs.Entries.{DeltaEntry, IsAtFirst, added_by, rest_in}
use Rattle.mdcc_cells_delta_walk.specs.Loads.{counts, load_over, with_added, with_entries}
use Rattle.mdcc_cells_delta_walk.specs.Steps.{has_live}
use Rattle.mdcc_cells_delta_walk.specs.declared.entries.Entries.{Entries}
use Rattle.mdcc_cells_delta_walk.proofs.FactsEntered.{live-is-read}
use Rattle.mdcc_cells_delta_walk.proofs.MarksEntered.{weighed}
use Rattle.mdcc_cells_delta_walk.proofs.Found.{live-is-found}

-- ---- what a reader and a walk come by

-- an entry that was found is the first
pub at-first : (es : List DeltaEntry) (tx : TxId) (e : Entries) → IsAtFirst es (Some tx) e → es ≡ (tx, added_by e) ∷ rest_in e
at-first [] tx e is = absurd (cc)
at-first (first ∷ others) tx e is =
    let some : Some tx ≡ Some first.0 = is.tx in
    let same : first.0 ≡ tx = cc in
    ap (λ t. (t, first.1) ∷ others) same ∙ ap (λ a. (tx, a) ∷ others) (sym is.added) ∙ ap (λ es. (tx, added_by e) ∷ es) (sym is.rest)

-- where none is found there is none
pub at-none : (es : List DeltaEntry) (e : Entries) → IsAtFirst es None e → es ≡ []
at-none [] e is = refl
at-none (first ∷ others) e is = let none : None ≡ Some first.0 = is.tx in absurd (cc)

pub read-first : (texts : List (List ℕ)) (text : List ℕ) → Some text ≡ first_encoding texts → texts ≡ text ∷ later_encodings texts
read-first [] text is = absurd (cc)
read-first (first ∷ texts) text is = let same : first ≡ text = cc in ap (λ t. t ∷ texts) same

pub read-none : (texts : List (List ℕ)) → None ≡ first_encoding texts → texts ≡ []
read-none [] is = refl
read-none (first ∷ texts) is = absurd (cc)

-- ---- entries

module _ (seen : List TxId) (void : TxId → Bool) (key : Key) (version : ℕ) (older : List (List ℕ)) (load : Load) (e : DeltaEntry) (es : List DeltaEntry) where
  entry-counted : counts void key version older e.0 ≡ true
      → with_entries seen void key version older load (e ∷ es) ≡ with_entries seen void key version older (with_added seen load e) es
  entry-counted is = rw is refl

  entry-passed : counts void key version older e.0 ≡ false
      → with_entries seen void key version older load (e ∷ es) ≡ with_entries seen void key version older load es
  entry-passed is = rw is refl

-- the entries that are left once the first was counted or passed
pub entries-go : (seen : List TxId) (void : TxId → Bool) (key : Key) (version : ℕ) (older : List (List ℕ)) (load next : Load) (entries left rest : List DeltaEntry) (e : DeltaEntry) (counted : Bool)
    → entries ≡ e ∷ rest → left ≡ rest → counted ≡ counts void key version older e.0 → next ≡ cond counted (with_added seen load e) load
    → with_entries seen void key version older next left ≡ with_entries seen void key version older load entries
entries-go seen void key version older load next entries left rest e true whole is test by =
    ap (with_entries seen void key version older next) is
    ∙ ap (λ l. with_entries seen void key version older l rest) by
    ∙ sym (entry-counted seen void key version older load e rest (sym test))
    ∙ ap (with_entries seen void key version older load) (sym whole)
entries-go seen void key version older load next entries left rest e false whole is test by =
    ap (with_entries seen void key version older next) is
    ∙ ap (λ l. with_entries seen void key version older l rest) by
    ∙ sym (entry-passed seen void key version older load e rest (sym test))
    ∙ ap (with_entries seen void key version older load) (sym whole)

-- ---- facts

-- a write weighs nothing but that it is one
pub alike : (seen : List TxId) (load : Load) (tx : TxId) (update : Update) → with_added seen load (tx, amounts_added update) ≡ with_live seen load (tx, update)
alike seen load tx (Update.Write item of_seen) = refl
alike seen load tx (Update.Add amounts) = refl

folded : (seen : List TxId) (told says : TxId → Bool) → ((tx : TxId) → told tx ≡ says tx) → (load : Load) (es : TxMap Update)
    → fold (with_added seen) load (filter (λ e. told e.0) (map weighed es)) ≡ fold (with_live seen) load (filter (λ e. says e.0) es)
folded seen told says same load [] = refl
folded seen told says same load (e ∷ es) =
    elim (cases_Bool (says e.0)) [
      | inl counted ↦
          let also : told e.0 ≡ true = same e.0 ∙ counted in
          rw (also, counted) (folded seen told says same (with_added seen load (weighed e)) es
          ∙ ap (λ l. fold (with_live seen) l (filter (λ e. says e.0) es)) (alike seen load e.0 e.1))
      | inr passed ↦
          let also : told e.0 ≡ false = same e.0 ∙ passed in
          rw (also, passed) (folded seen told says same load es)
    ]

any-live : (key : Key) (version : ℕ) (tx : TxId) (facts : List Fact) → AreWellFormed facts
    → list_any (has_live key version tx) (map fact_bytes facts) ≡ list_any (is_live_by key version tx) facts
any-live key version tx [] fits = refl
any-live key version tx (fact ∷ facts) fits =
    ap (λ b. b || list_any (has_live key version tx) (map fact_bytes facts)) (live-is-found key version tx fact fits.0)
    ∙ ap (λ b. is_live_by key version tx fact || b) (any-live key version tx facts fits.1)

steps-summed : (seen : List TxId) (void : TxId → Bool) (key : Key) (version : ℕ) (load : Load) (facts : List Fact) → AreWellFormed facts
    → load_over seen void key version load (map fact_bytes facts) ≡ load_steps seen void key version load facts
steps-summed seen void key version load [] fits = refl
steps-summed seen void key version load (fact ∷ older) fits =
    ap (λ es. load_over seen void key version (with_entries seen void key version (map fact_bytes older) load es) (map fact_bytes older)) (live-is-read key version fact fits.0)
    ∙ ap (λ l. load_over seen void key version l (map fact_bytes older))
    (folded seen (counts void key version (map fact_bytes older)) (is_live_counted void older key version)
    (λ tx. ap (λ b. not (void tx) && not b) (any-live key version tx older fits.1)) load (plain_live_from key version fact))
    ∙ steps-summed seen void key version (fold (with_live seen) load (filter (λ e. is_live_counted void older key version e.0) (plain_live_from key version fact))) older fits.1

pub load-is-summed : (seen : List TxId) (void : TxId → Bool) (key : Key) (version : ℕ) (load : Load) (texts : List (List ℕ)) (facts : List Fact) → AreOf texts facts
    → load_over seen void key version load texts ≡ load_steps seen void key version load facts
load-is-summed seen void key version load texts facts of =
    ap (load_over seen void key version load) of.encodings_are ∙ steps-summed seen void key version load facts of.well_formed
