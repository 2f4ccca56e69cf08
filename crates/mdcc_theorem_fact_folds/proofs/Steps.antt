-- The load and the deltas of an instance, one entry of a fact at a time.
use Rattle.mdcc_def_protocol.specs.News.{keys_in}
use Rattle.mdcc_base.specs.Counts.{number_of}
use Rattle.std.proofs.Common.{◌≡◌, ℕ, Bool, true, List, [], ◌∷◌, is_some, refl, sym, ap, ◌∙◌, inl, inr, fold, length, ◌+◌, zero-add}
use Rattle.std.specs.List.{list_all, list_any}
use Rattle.std.specs.Prelude.{filter, not, ◌&&◌, nat_lt, ◌||◌}
use Rattle.std.proofs.lemmas.Bool.{and_from, and_parts, cases_Bool}
use Rattle.mdcc_base.specs.declared.identifiers.TxId.{TxId}
use Rattle.mdcc_base.specs.declared.key.Key.{Key}
use Rattle.mdcc_option.specs.declared.items.Update.{Update}
use Rattle.mdcc_struct.specs.Maps.{value_of}
use Rattle.mdcc_def_messages.specs.declared.facts.Fact.{Fact}
use Rattle.mdcc_def_protocol.specs.Facts.{deltas_at, deltas_from}
use Rattle.mdcc_def_protocol.specs.Plain.{plain_is_void, plain_live_and_void, plain_live_from}
use Rattle.mdcc_def_protocol.specs.Marks.{Amounts}
use Rattle.mdcc_theorem_fact_folds.specs.Held.{FirstDeltasOfOrdered, is_delta_by, CrowdingBySteps, deltas_steps, deltas_walk, next_version_of}
use Rattle.mdcc_theorem_fact_folds.proofs.Deltas.{deltas-joined, counted-from, crowding-chains}
use Rattle.mdcc_theorem_fact_folds.proofs.New.{new-beside, length-number}
use Rattle.mdcc_def_protocol.specs.declared.fit.Load.{Load}
use Rattle.mdcc_escrow.specs.Weights.{no_load, with_live}
use Rattle.mdcc_theorem_fact_folds.specs.Live.{LoadBySteps, counted_live, is_live_by, is_live_counted, is_ordered, load_steps, load_walk}
use Rattle.mdcc_theorem_fact_folds.proofs.Joined.{found-any}
use Rattle.mdcc_theorem_fact_folds.proofs.Loads.{live-joined, load-walk}
use Rattle.mdcc_theorem_fact_folds.proofs.Sorted.{deltas-ascend, first-live}

all-kept : {X : Type 0} (p keep : X → Bool) (xs : List X) → list_all p xs ≡ true → list_all p (filter keep xs) ≡ true
all-kept p keep [] all = refl
all-kept p keep (x ∷ xs) all =
    let parts = and_parts (p x) (list_all p xs) all in
    elim (cases_Bool (keep x)) [
      | inl kept ↦ rw kept (and_from (p x) (list_all p (filter keep xs)) parts.0 (all-kept p keep xs parts.1))
      | inr left ↦ rw left (all-kept p keep xs parts.1)
    ]

kept-twice : {X : Type 0} (p q both : X → Bool) (xs : List X) → ((x : X) → both x ≡ (q x && p x)) → filter q (filter p xs) ≡ filter both xs
kept-twice p q both [] h = refl
kept-twice p q both (x ∷ xs) h =
    elim (cases_Bool (p x)) [
      | inl passes ↦ elim (cases_Bool (q x)) [
        | inl also ↦ rw (h x, passes, also) (ap (λ ys. x ∷ ys) (kept-twice p q both xs h))
        | inr not_also ↦ rw (h x, passes, not_also) (kept-twice p q both xs h)
      ]
      | inr fails ↦ elim (cases_Bool (q x)) [
        | inl also ↦ rw (h x, fails, also) (kept-twice p q both xs h)
        | inr not_also ↦ rw (h x, fails, not_also) (kept-twice p q both xs h)
      ]
    ]

live-before : (older : List Fact) (key : Key) (version : ℕ) (tx : TxId) → is_some (value_of (plain_live_and_void older key version) tx) ≡ list_any (is_live_by key version tx) older
live-before older key version tx = ap (λ m. is_some (value_of m tx)) (live-joined key version older) ∙ found-any (plain_live_from key version) tx older

module _ (seen : List TxId) (void : TxId → Bool) (key : Key) (version : ℕ) where
  counted-step : (older : List Fact) (fact : Fact) → is_ordered fact ≡ true
      → counted_live void older key version fact ≡ filter (λ e. is_live_counted void older key version e.0) (plain_live_from key version fact)
  counted-step older fact ordered =
      ap (filter (λ (e : TxId × Update). not (void e.0))) (first-live older key version fact ordered)
      ∙ kept-twice (λ (e : TxId × Update). not (is_some (value_of (plain_live_and_void older key version) e.0))) (λ e. not (void e.0))
      (λ e. is_live_counted void older key version e.0) (plain_live_from key version fact)
      (λ e. ap (λ b. not (void e.0) && not b) (sym (live-before older key version e.0)))

  steps-walk : (load : Load) (facts : List Fact) → list_all is_ordered facts ≡ true → load_walk seen void key version load facts ≡ load_steps seen void key version load facts
  steps-walk load [] ordered = refl
  steps-walk load (fact ∷ older) ordered =
      let parts = and_parts (is_ordered fact) (list_all is_ordered older) ordered in
      ap (λ live. load_walk seen void key version (fold (with_live seen) load live) older) (counted-step older fact parts.0)
      ∙ steps-walk (fold (with_live seen) load (filter (λ e. is_live_counted void older key version e.0) (plain_live_from key version fact))) older parts.1

pub load-steps : LoadBySteps
load-steps keep key version seen covers facts ordered =
    load-walk keep key version seen covers facts
    ∙ steps-walk seen (plain_is_void facts) key version no_load (filter keep facts) (all-kept is_ordered keep facts ordered)

-- ---- deltas

kept-alike : {X : Type 0} (p q : X → Bool) (xs : List X) → ((x : X) → p x ≡ q x) → filter p xs ≡ filter q xs
kept-alike p q [] h = refl
kept-alike p q (x ∷ xs) h =
    elim (cases_Bool (q x)) [
      | inl passes ↦ rw (h x, passes) (ap (λ ys. x ∷ ys) (kept-alike p q xs h))
      | inr fails ↦ rw (h x, fails) (kept-alike p q xs h)
    ]

pub first-deltas : FirstDeltasOfOrdered
first-deltas older key version fact ordered =
    new-beside (deltas_at older key version) (deltas_from key version fact) (deltas-ascend key version fact ordered)
    ∙ kept-alike (λ (e : TxId × Amounts). not (is_some (value_of (deltas_at older key version) e.0)))
    (λ e. not (list_any (is_delta_by key version e.0) older)) (deltas_from key version fact)
    (λ e. ap (λ b. not b) (ap (λ m. is_some (value_of m e.0)) (deltas-joined key version older) ∙ found-any (deltas_from key version) e.0 older))

deltas-steps : (key : Key) (version count : ℕ) (facts : List Fact) → list_all is_ordered facts ≡ true → deltas_walk key version count facts ≡ deltas_steps key version count facts
deltas-steps key version count [] ordered = refl
deltas-steps key version count (fact ∷ older) ordered =
    let parts = and_parts (is_ordered fact) (list_all is_ordered older) ordered in
    let new = λ (e : TxId × Amounts). not (list_any (is_delta_by key version e.0) older) in
    ap (λ n. deltas_walk key version (count + n) older)
    (ap (λ m. length m) (first-deltas older key version fact parts.0) ∙ length-number new (deltas_from key version fact))
    ∙ deltas-steps key version (count + number_of new (deltas_from key version fact)) older parts.1

any-alike : {X : Type 0} (p q : X → Bool) (xs : List X) → ((x : X) → p x ≡ q x) → list_any p xs ≡ list_any q xs
any-alike p q [] h = refl
any-alike p q (x ∷ xs) h = ap (λ b. b || list_any p xs) (h x) ∙ ap (λ b. q x || b) (any-alike p q xs h)

module _ (keep : Key → ℕ → Fact → Bool) (facts : List Fact) (fact : Fact) where
  abbrev version_with : Key → ℕ
  version_with key = next_version_of facts key fact

  abbrev chain_with : Key → List Fact
  chain_with key = fact ∷ filter (keep key (version_with key)) facts

  key-steps : (key : Key) → is_ordered fact ≡ true → list_all is_ordered facts ≡ true
      → length (deltas_at (chain_with key) key (version_with key)) ≡ deltas_steps key (version_with key) 0 (chain_with key)
  key-steps key ordered all =
      sym (counted-from key (version_with key) 0 (chain_with key) ∙ zero-add (length (deltas_at (chain_with key) key (version_with key))))
      ∙ deltas-steps key (version_with key) 0 (chain_with key)
      (and_from (is_ordered fact) (list_all is_ordered (filter (keep key (version_with key)) facts)) ordered (all-kept is_ordered (keep key (version_with key)) facts all))

pub crowding-steps : CrowdingBySteps
crowding-steps keep covers facts fact ordered all =
    crowding-chains keep covers facts fact
    ∙ any-alike (λ key. nat_lt 64 (length (deltas_at (chain_with keep facts fact key) key (version_with keep facts fact key))))
    (λ key. nat_lt 64 (deltas_steps key (version_with keep facts fact key) 0 (chain_with keep facts fact key))) (keys_in fact)
    (λ key. ap (nat_lt 64) (key-steps keep facts fact key ordered all))
