-- What is live in an instance, by any test of which transactions are void, is summed over the facts of its chain.
use Rattle.std.proofs.Common.{◌≡◌, ℕ, Bool, true, false, List, [], ◌∷◌, refl, sym, ap, ◌∙◌, fold, inl, inr, is_some}
use Rattle.std.specs.List.{list_all, list_any}
use Rattle.std.specs.Prelude.{filter, not, ◌&&◌}
use Rattle.std.proofs.lemmas.Bool.{and_parts, cases_Bool}
use Rattle.std.proofs.lemmas.List.Elements.{filter-append}
use Rattle.std.proofs.lemmas.List.Sums.{fold-append}
use Rattle.mdcc_base.specs.Counts.{number_of}
use Rattle.mdcc_base.specs.declared.identifiers.TxId.{TxId}
use Rattle.mdcc_base.specs.declared.key.Key.{Key}
use Rattle.mdcc_option.specs.OneCopy.{amount_at}
use Rattle.mdcc_option.specs.declared.choices.Outcome.{Outcome}
use Rattle.mdcc_option.specs.declared.items.Update.{Update}
use Rattle.mdcc_struct.specs.Maps.{TxMap, value_of}
use Rattle.mdcc_def_messages.specs.declared.facts.Fact.{Fact}
use Rattle.mdcc_def_protocol.specs.Fit.{amounts_in, capped, decrease, has_tx, increase, load_of}
use Rattle.mdcc_def_protocol.specs.Marks.{is_write}
use Rattle.mdcc_def_protocol.specs.Plain.{plain_live_and_void, plain_live_from}
use Rattle.mdcc_def_protocol.specs.declared.fit.Load.{Load}
use Rattle.mdcc_escrow.proofs.Weighing.{load_summed}
use Rattle.mdcc_escrow.specs.Weights.{no_load, with_live}
use Rattle.mdcc_theorem_fact_folds.specs.Chains.{Covers, is_of_instance}
use Rattle.mdcc_theorem_fact_folds.specs.Live.{first_live, is_live_by, is_live_counted, is_ordered, load_steps}
use Rattle.mdcc_theorem_fact_folds.proofs.Deltas.{no_deltas}
use Rattle.mdcc_theorem_fact_folds.proofs.Ignored.{left_out}
use Rattle.mdcc_theorem_fact_folds.proofs.Joined.{found-any, joined-chain}
use Rattle.mdcc_theorem_fact_folds.proofs.Loads.{AreAlike, live-joined}
use Rattle.mdcc_theorem_fact_folds.proofs.New.{firsts, number-sum, one_if, sum-firsts, sum-kept, weight_if}
use Rattle.mdcc_theorem_fact_folds.proofs.Sorted.{first-live}
use Rattle.mdcc_index.specs.Loads.{plain_load_by}
use Rattle.mdcc_index.proofs.Reading.{ordered-filtered}

-- ---- what is live comes from the chain

no-live-apart : (key : Key) (version : ℕ) (fact : Fact) → is_of_instance key version fact ≡ false → plain_live_from key version fact ≡ []
no-live-apart key version (Fact.Booted epoch) h = refl
no-live-apart key version (Fact.Floor origin era upto) h = refl
no-live-apart key version (Fact.Promised k low high b) h = refl
no-live-apart key version (Fact.Voted k v b options offered) h = rw h refl
no-live-apart key version (Fact.Heard t Outcome.Abort) h = refl
no-live-apart key version (Fact.Heard t (Outcome.Commit choices)) h = rw (no_deltas key version (Fact.Heard t (Outcome.Commit choices)) h) refl
no-live-apart key version (Fact.Adopted k v item adds) h = rw h refl

all-chain : (keep : Fact → Bool) (key : Key) (version : ℕ) → Covers keep (is_of_instance key version) → (facts : List Fact)
    → plain_live_and_void facts key version ≡ plain_live_and_void (filter keep facts) key version
all-chain keep key version covers facts =
    live-joined key version facts
    ∙ joined-chain (plain_live_from key version) keep (λ fact left. no-live-apart key version fact (left_out keep (is_of_instance key version) covers fact left)) facts
    ∙ sym (live-joined key version (filter keep facts))

-- ---- lists of which each sum is the same weigh the same

alike-number : {X : Type 0} (p : X → Bool) (a b : List X) → AreAlike a b → number_of p a ≡ number_of p b
alike-number p a b h = number-sum p a ∙ h (one_if p) ∙ sym (number-sum p b)

alike-kept : {X : Type 0} (p : X → Bool) (a b : List X) → AreAlike a b → AreAlike (filter p a) (filter p b)
alike-kept p a b h w = sum-kept p w a ∙ h (weight_if p w) ∙ sym (sum-kept p w b)

abbrev taken : ℕ → TxId × Update → ℕ
taken attribute e = decrease (amount_at attribute (amounts_in e.1))

abbrev given : ℕ → TxId × Update → ℕ
given attribute e = increase (amount_at attribute (amounts_in e.1))

load-alike : (seen : List TxId) (a b : TxMap Update) → AreAlike a b → load_of a seen ≡ load_of b seen
load-alike seen a b h =
    rw (
      alike-number (λ e. is_write e.1) a b h,
      alike-number (λ e. not (has_tx seen e.0)) a b h,
      alike-number (λ e. not (is_write e.1)) a b h,
      h (taken 1),
      h (taken 2),
      h (taken 3),
      h (taken 4),
      h (given 1),
      h (given 2),
      h (given 3),
      h (given 4),
    ) refl

-- ---- one entry of a fact at a time

kept-twice : {X : Type 0} (p q both : X → Bool) (xs : List X) → ((x : X) → both x ≡ (q x && p x)) → filter q (filter p xs) ≡ filter both xs
kept-twice p q both [] h = refl
kept-twice p q both (x ∷ xs) h =
    elim (cases_Bool (p x)) [
      | inl passes ↦ elim (cases_Bool (q x)) [
        | inl also ↦ rw (h x, passes, also) (ap (λ ys. x ∷ ys) (kept-twice p q both xs h))
        | inr not_also ↦ rw (h x, passes, not_also) (kept-twice p q both xs h)
      ]
      | inr fails ↦ elim (cases_Bool (q x)) [
        | inl also ↦ rw (h x, fails, also) (kept-twice p q both xs h)
        | inr not_also ↦ rw (h x, fails, not_also) (kept-twice p q both xs h)
      ]
    ]

live-before : (older : List Fact) (key : Key) (version : ℕ) (tx : TxId) → is_some (value_of (plain_live_and_void older key version) tx) ≡ list_any (is_live_by key version tx) older
live-before older key version tx = ap (λ m. is_some (value_of m tx)) (live-joined key version older) ∙ found-any (plain_live_from key version) tx older

module _ (seen : List TxId) (void : TxId → Bool) (key : Key) (version : ℕ) where
  abbrev all_of : List Fact → TxMap Update
  all_of facts = plain_live_and_void facts key version

  abbrev counts : TxId × Update → Bool
  counts e = not (void e.0)

  abbrev counted : List Fact → Fact → TxMap Update
  counted older fact = filter (λ e. is_live_counted void older key version e.0) (plain_live_from key version fact)

  counted-step : (older : List Fact) (fact : Fact) → is_ordered fact ≡ true → filter counts (first_live older key version fact) ≡ counted older fact
  counted-step older fact ordered =
      ap (filter counts) (first-live older key version fact ordered)
      ∙ kept-twice (λ (e : TxId × Update). not (is_some (value_of (all_of older) e.0))) counts
      (λ e. is_live_counted void older key version e.0) (plain_live_from key version fact)
      (λ e. ap (λ b. not (void e.0) && not b) (sym (live-before older key version e.0)))

  steps-folded : (load : Load) (facts : List Fact) → list_all is_ordered facts ≡ true
      → fold (with_live seen) load (filter counts (firsts all_of (plain_live_from key version) facts)) ≡ load_steps seen void key version load facts
  steps-folded load [] ordered = refl
  steps-folded load (fact ∷ older) ordered =
      let parts = and_parts (is_ordered fact) (list_all is_ordered older) ordered in
      ap (fold (with_live seen) load) (filter-append counts (first_live older key version fact) (firsts all_of (plain_live_from key version) older))
      ∙ fold-append (with_live seen) load (filter counts (first_live older key version fact)) (filter counts (firsts all_of (plain_live_from key version) older))
      ∙ ap (λ live. fold (with_live seen) (fold (with_live seen) load live) (filter counts (firsts all_of (plain_live_from key version) older))) (counted-step older fact parts.0)
      ∙ steps-folded (fold (with_live seen) load (counted older fact)) older parts.1

  load-stepped : (facts : List Fact) → list_all is_ordered facts ≡ true → capped (load_of (filter counts (all_of facts)) seen) ≡ load_steps seen void key version no_load facts
  load-stepped facts ordered =
      ap capped (load-alike seen (filter counts (all_of facts)) (filter counts (firsts all_of (plain_live_from key version) facts))
      (alike-kept counts (all_of facts) (firsts all_of (plain_live_from key version) facts)
      (λ w. sum-firsts all_of (plain_live_from key version) refl (λ fact older. refl) w facts)))
      ∙ sym (load_summed seen (filter counts (firsts all_of (plain_live_from key version) facts)))
      ∙ steps-folded no_load facts ordered

-- the load, one entry at a time
pub load-by-steps : (keep : Fact → Bool) (key : Key) (version : ℕ) (seen : List TxId) (void : TxId → Bool) → Covers keep (is_of_instance key version)
    → (facts : List Fact) → list_all is_ordered facts ≡ true → plain_load_by void facts key version seen ≡ load_steps seen void key version no_load (filter keep facts)
load-by-steps keep key version seen void covers facts ordered =
    ap (λ (live : TxMap Update). capped (load_of (filter (λ e. not (void e.0)) live) seen)) (all-chain keep key version covers facts)
    ∙ load-stepped seen void key version (filter keep facts) (ordered-filtered keep facts ordered)
