-- Loads and entries of an instance are summed over what each fact of its chain brings first.
use Rattle.std.proofs.Common.{◌≡◌, ℕ, ◌-◌, ◌^◌, min, Bool, false, List, [], ◌∷◌, length, refl, sym, ap, ◌∙◌, fold, is_some}
use Rattle.std.specs.Prelude.{filter, not}
use Rattle.std.proofs.lemmas.List.Elements.{filter-append}
use Rattle.std.proofs.lemmas.List.Sums.{fold-append}
use Rattle.mdcc_base.specs.Ballot.{fast_ballot}
use Rattle.mdcc_base.specs.Counts.{number_of, sum_over}
use Rattle.mdcc_base.specs.declared.identifiers.TxId.{TxId}
use Rattle.mdcc_base.specs.declared.key.Key.{Key}
use Rattle.mdcc_option.specs.OneCopy.{amount_at}
use Rattle.mdcc_option.specs.declared.choices.Mark.{Mark}
use Rattle.mdcc_option.specs.declared.choices.Outcome.{Outcome}
use Rattle.mdcc_option.specs.declared.items.Update.{Update}
use Rattle.mdcc_struct.specs.Maps.{TxMap, union, value_of}
use Rattle.mdcc_struct.specs.declared.options.Options.{Options}
use Rattle.mdcc_def_messages.specs.declared.facts.Fact.{Fact}
use Rattle.mdcc_def_protocol.specs.Facts.{marks_voted, votes_of}
use Rattle.mdcc_def_protocol.specs.Plain.{plain_entries_at, plain_is_void, plain_live_and_void, plain_live_from}
use Rattle.mdcc_def_protocol.specs.Fit.{amounts_in, capped, decrease, has_tx, increase, load_of}
use Rattle.mdcc_def_protocol.specs.Marks.{accepts_in, is_accept, is_write, rejects_in}
use Rattle.mdcc_def_protocol.specs.declared.fit.Load.{Load}
use Rattle.mdcc_escrow.proofs.Weighing.{load_summed}
use Rattle.mdcc_escrow.specs.Weights.{no_load, with_live}
use Rattle.mdcc_facts.proofs.Weighing.{marks_counted}
use Rattle.mdcc_facts.specs.Weights.{with_mark}
use Rattle.mdcc_theorem_fact_folds.specs.Chains.{Covers, is_of_instance}
use Rattle.mdcc_theorem_fact_folds.specs.Live.{EntriesByWalk, EntriesInChain, IsLiveByWalk, LiveInChain, LoadByWalk, UpdateByWalk, counted_live, entries_walk, first_live, first_marks, load_walk}
use Rattle.mdcc_theorem_fact_folds.proofs.Deltas.{no_deltas}
use Rattle.mdcc_theorem_fact_folds.proofs.Ignored.{left_out}
use Rattle.mdcc_theorem_fact_folds.proofs.Joined.{found-walk, joined, joined-chain, value-walk, votes-chain}
use Rattle.mdcc_theorem_fact_folds.proofs.New.{firsts, length-number, number-sum, one_if, sum-firsts, sum-kept, weight_if}

-- ---- what is live comes from the chain

no_live : (key : Key) (version : ℕ) (fact : Fact) → is_of_instance key version fact ≡ false → plain_live_from key version fact ≡ []
no_live key version (Fact.Booted epoch) h = refl
no_live key version (Fact.Floor origin era upto) h = refl
no_live key version (Fact.Promised k low high b) h = refl
no_live key version (Fact.Voted k v b options offered) h = rw h refl
no_live key version (Fact.Heard t Outcome.Abort) h = refl
no_live key version (Fact.Heard t (Outcome.Commit choices)) h = rw (no_deltas key version (Fact.Heard t (Outcome.Commit choices)) h) refl
no_live key version (Fact.Adopted k v item adds) h = rw h refl

pub live-joined : (key : Key) (version : ℕ) (facts : List Fact) → plain_live_and_void facts key version ≡ joined (plain_live_from key version) facts
live-joined key version [] = refl
live-joined key version (fact ∷ facts) = ap (λ m. union m (plain_live_from key version fact)) (live-joined key version facts)

all-chain : (keep : Fact → Bool) (key : Key) (version : ℕ) → Covers keep (is_of_instance key version) → (facts : List Fact)
    → plain_live_and_void facts key version ≡ plain_live_and_void (filter keep facts) key version
all-chain keep key version covers facts =
    live-joined key version facts
    ∙ joined-chain (plain_live_from key version) keep (λ fact left. no_live key version fact (left_out keep (is_of_instance key version) covers fact left)) facts
    ∙ sym (live-joined key version (filter keep facts))

pub live-chain : LiveInChain
live-chain keep key version covers facts = ap (filter (λ e. not (plain_is_void facts e.0))) (all-chain keep key version covers facts)

pub update-walk : UpdateByWalk
update-walk keep key version tx covers facts =
    ap (λ m. value_of m tx) (live-joined key version facts)
    ∙ value-walk (plain_live_from key version) keep (λ fact left. no_live key version fact (left_out keep (is_of_instance key version) covers fact left)) tx facts

pub is_live-walk : IsLiveByWalk
is_live-walk keep key version tx covers facts =
    ap (λ m. is_some (value_of m tx)) (live-joined key version facts)
    ∙ found-walk (plain_live_from key version) keep (λ fact left. no_live key version fact (left_out keep (is_of_instance key version) covers fact left)) tx facts

-- ---- loads by sums

abbrev pub AreAlike : {X : Type 0} → List X → List X → Type 0
AreAlike {X = X} a b = (w : X → ℕ) → sum_over w a ≡ sum_over w b

alike-number : {X : Type 0} (p : X → Bool) (a b : List X) → AreAlike a b → number_of p a ≡ number_of p b
alike-number p a b h = number-sum p a ∙ h (one_if p) ∙ sym (number-sum p b)

alike-kept : {X : Type 0} (p : X → Bool) (a b : List X) → AreAlike a b → AreAlike (filter p a) (filter p b)
alike-kept p a b h w = sum-kept p w a ∙ h (weight_if p w) ∙ sym (sum-kept p w b)

abbrev taken : ℕ → TxId × Update → ℕ
taken attribute e = decrease (amount_at attribute (amounts_in e.1))

abbrev given : ℕ → TxId × Update → ℕ
given attribute e = increase (amount_at attribute (amounts_in e.1))

load-alike : (seen : List TxId) (a b : TxMap Update) → AreAlike a b → load_of a seen ≡ load_of b seen
load-alike seen a b h =
    rw (
      alike-number (λ e. is_write e.1) a b h,
      alike-number (λ e. not (has_tx seen e.0)) a b h,
      alike-number (λ e. not (is_write e.1)) a b h,
      h (taken 1),
      h (taken 2),
      h (taken 3),
      h (taken 4),
      h (given 1),
      h (given 2),
      h (given 3),
      h (given 4),
    ) refl

-- ---- the walk of a load

module _ (seen : List TxId) (void : TxId → Bool) (key : Key) (version : ℕ) where
  abbrev all_of : List Fact → TxMap Update
  all_of facts = plain_live_and_void facts key version

  abbrev counts : TxId × Update → Bool
  counts e = not (void e.0)

  walk-folded : (load : Load) (facts : List Fact)
      → load_walk seen void key version load facts ≡ fold (with_live seen) load (filter counts (firsts all_of (plain_live_from key version) facts))
  walk-folded load [] = refl
  walk-folded load (fact ∷ older) =
      walk-folded (fold (with_live seen) load (counted_live void older key version fact)) older
      ∙ sym (fold-append (with_live seen) load (counted_live void older key version fact) (filter counts (firsts all_of (plain_live_from key version) older)))
      ∙ ap (fold (with_live seen) load) (sym (filter-append counts (first_live older key version fact) (firsts all_of (plain_live_from key version) older)))

  walk-load : (facts : List Fact) → capped (load_of (filter counts (plain_live_and_void facts key version)) seen) ≡ load_walk seen void key version no_load facts
  walk-load facts =
      ap capped (load-alike seen (filter counts (all_of facts)) (filter counts (firsts all_of (plain_live_from key version) facts))
      (alike-kept counts (all_of facts) (firsts all_of (plain_live_from key version) facts)
      (λ w. sum-firsts all_of (plain_live_from key version) refl (λ fact older. refl) w facts)))
      ∙ sym (load_summed seen (filter counts (firsts all_of (plain_live_from key version) facts)))
      ∙ sym (walk-folded no_load facts)

pub load-walk : LoadByWalk
load-walk keep key version seen covers facts =
    ap (λ live. capped (load_of live seen)) (live-chain keep key version covers facts)
    ∙ walk-load seen (plain_is_void facts) key version (filter keep facts)

-- ---- the walk of the entries

abbrev pub entries_in : Options → ℕ × ℕ
entries_in votes = (min (length (accepts_in votes)) (2 ^ 32 - 1), min (length (rejects_in votes)) (2 ^ 32 - 1))

alike-length : (p : TxId × Mark → Bool) (a b : Options) → AreAlike a b → length (filter p a) ≡ length (filter p b)
alike-length p a b h = length-number p a ∙ alike-number p a b h ∙ sym (length-number p b)

pub entries-alike : (a b : Options) → AreAlike a b → entries_in a ≡ entries_in b
entries-alike a b h =
    ap (λ n. (min n (2 ^ 32 - 1), min (length (rejects_in a)) (2 ^ 32 - 1))) (alike-length (λ e. is_accept e.1) a b h)
    ∙ ap (λ n. (min (length (accepts_in b)) (2 ^ 32 - 1), min n (2 ^ 32 - 1))) (alike-length (λ e. not (is_accept e.1)) a b h)

module _ (key : Key) (version : ℕ) where
  abbrev fast_votes : List Fact → Options
  fast_votes facts = votes_of facts key version fast_ballot

  abbrev fast_marks : Fact → Options
  fast_marks fact = marks_voted key version fast_ballot fact

  entries-folded : (from : ℕ × ℕ) (facts : List Fact) → entries_walk key version from facts ≡ fold with_mark from (firsts fast_votes fast_marks facts)
  entries-folded from [] = refl
  entries-folded from (fact ∷ older) =
      entries-folded (fold with_mark from (first_marks older key version fast_ballot fact)) older
      ∙ sym (fold-append with_mark from (first_marks older key version fast_ballot fact) (firsts fast_votes fast_marks older))

  pub votes-alike : (facts : List Fact) → AreAlike (fast_votes facts) (firsts fast_votes fast_marks facts)
  votes-alike facts w = sum-firsts fast_votes fast_marks refl (λ fact older. refl) w facts

  pub walk-entries : (facts : List Fact) → plain_entries_at facts key version ≡ entries_walk key version (0, 0) facts
  walk-entries facts =
      entries-alike (fast_votes facts) (firsts fast_votes fast_marks facts) (votes-alike facts)
      ∙ sym (marks_counted (firsts fast_votes fast_marks facts))
      ∙ sym (entries-folded (0, 0) facts)

pub entries-chain : EntriesInChain
entries-chain keep key version covers facts = ap entries_in (votes-chain keep key version fast_ballot covers facts)

pub entries-walk : EntriesByWalk
entries-walk keep key version covers facts = entries-chain keep key version covers facts ∙ walk-entries key version (filter keep facts)
