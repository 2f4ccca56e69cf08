-- Transactions of deltas, kept in order while they are at most 64.
use Rattle.std.proofs.Common.{◌≡◌, ◌≢◌, ◌⊎◌, ◌<◌, ◌≤◌, ◌∷◌, ℕ, Bool, true, false, List, [], Option, Some, None, length, ap, sym, ◌∙◌, arith, one-add, refl, inl, inr, subst}
use Rattle.std.specs.List.{fold, prefix_len}
use Rattle.std.specs.Option.{option_or}
use Rattle.std.specs.Prelude.{◌==◌, ◌||◌, insert, is_some, map}
use Rattle.std.proofs.lemmas.Bool.{cases_Bool, eqb-true, eqb-false}
use Rattle.std.proofs.lemmas.List.{length-map}
use Rattle.mdcc_base.specs.TxId.{tx_eq, tx_lt}
use Rattle.mdcc_base.specs.declared.identifiers.TxId.{TxId}
use Rattle.mdcc_base.specs.declared.key.Key.{Key}
use Rattle.mdcc_struct.specs.Maps.{TxMap, inserted, txs_of, union, value_of, with_entry}
use Rattle.mdcc_struct.proofs.Order.{tx_eq-sym}
use Rattle.mdcc_def_messages.specs.declared.facts.Fact.{Fact}
use Rattle.mdcc_def_protocol.specs.Facts.{deltas_from}
use Rattle.mdcc_def_protocol.specs.Fit.{has_tx}
use Rattle.mdcc_def_protocol.specs.Marks.{Amounts}
use Rattle.mdcc_facts_held.proofs.Sizes.{length-inserted, length-with_entry}
use Rattle.mdcc_theorem_fact_folds.specs.Held.{with_deltas}
use Rattle.mdcc_cells_delta_walk.specs.Steps.{deltas_step, noted}
use Rattle.mdcc_cells_delta_walk.specs.declared.steps.WithDeltas.{WithDeltas}
use Rattle.mdcc_cells_delta_walk.proofs.ChoicesEntered.{delta_entry}

pub older-some : {X : Type 0} (older found : Option X) → is_some older ≡ true → older ≡ option_or older found
older-some None found is = absurd (cc)
older-some (Some x) found is = refl

pub older-none : {X : Type 0} (older found : Option X) → is_some older ≡ false → found ≡ option_or older found
older-none None found is = refl
older-none (Some x) found is = absurd (cc)

pub txs-of-deltas : (ds : TxMap Amounts) → txs_of (map delta_entry ds) ≡ txs_of ds
txs-of-deltas [] = refl
txs-of-deltas (d ∷ ds) = ap (λ txs. d.0 ∷ txs) (txs-of-deltas ds)

pub prefix-within : {X : Type 0} (test : X → Bool) (xs : List X) → prefix_len test xs ≤ length xs
prefix-within test [] = omega arith
prefix-within test (x ∷ xs) =
    elim (cases_Bool (test x)) [
      | inl passes ↦ rw passes (omega (arith, prefix-within test xs))
      | inr fails ↦ rw fails (omega arith)
    ]

-- ---- one transaction more

pub has-txs : (m : TxMap Amounts) (tx : TxId) → has_tx (txs_of m) tx ≡ is_some (value_of m tx)
has-txs [] tx = refl
has-txs (e ∷ es) tx =
    elim (cases_Bool (tx_eq e.0 tx)) [
      | inl same ↦ let turned : tx_eq tx e.0 ≡ true = tx_eq-sym tx e.0 ∙ same in rw (same, turned) refl
      | inr other ↦ let turned : tx_eq tx e.0 ≡ false = tx_eq-sym tx e.0 ∙ other in rw (other, turned) (has-txs es tx)
    ]

pub txs-inserted : (m : TxMap Amounts) (e : TxId × Amounts) → txs_of (inserted m e) ≡ insert (txs_of m) (prefix_len (λ other. tx_lt other e.0) (txs_of m)) e.0
txs-inserted [] e = refl
txs-inserted (x ∷ xs) e =
    elim (cases_Bool (tx_lt x.0 e.0)) [
      | inl less ↦ rw (less, one-add) (ap (λ ys. x.0 ∷ ys) (txs-inserted xs e))
      | inr more ↦ rw more refl
    ]

-- what was noted are the transactions of a map, or there are too many
pub record IsNoted (key : Key) (version : ℕ) (m : TxMap Amounts) (s : WithDeltas) : Type 0 where
  pub same_key : s.key ≡ key
  pub same_version : s.version ≡ version
  pub state : ((s.crowded ≡ false) × (s.seen ≡ txs_of m) × (length m ≤ 64)) ⊎ ((s.crowded ≡ true) × (64 < length m))

noted-there : (s : WithDeltas) (tx : TxId) → s.crowded || has_tx s.seen tx ≡ true → noted s tx ≡ s
noted-there s tx there = rw there refl

noted-full : (s : WithDeltas) (tx : TxId) → s.crowded || has_tx s.seen tx ≡ false → (length s.seen == 64) ≡ true → noted s tx ≡ record s { crowded = true }
noted-full s tx new full = rw (new, full) refl

noted-new : (s : WithDeltas) (tx : TxId) → s.crowded || has_tx s.seen tx ≡ false → (length s.seen == 64) ≡ false
    → noted s tx ≡ record s { seen = insert s.seen (prefix_len (λ other. tx_lt other tx) s.seen) tx }
noted-new s tx new room = rw (new, room) refl

or-second : (a b : Bool) → a ≡ false → a || b ≡ b
or-second a b is = rw is refl

module _ (key : Key) (version : ℕ) (m : TxMap Amounts) (e : TxId × Amounts) (s : WithDeltas) (is : IsNoted key version m s) where
  module _ (open_still : s.crowded ≡ false) (seen : s.seen ≡ txs_of m) (few : length m ≤ 64) where
    has-alike : s.crowded || has_tx s.seen e.0 ≡ is_some (value_of m e.0)
    has-alike = or-second s.crowded (has_tx s.seen e.0) open_still ∙ ap (λ txs. has_tx txs e.0) seen ∙ has-txs m e.0

    there : is_some (value_of m e.0) ≡ true → IsNoted key version (with_entry m e) (noted s e.0)
    there found =
        let kept : with_entry m e ≡ m = rw found refl in
        let same : noted s e.0 ≡ s = noted-there s e.0 (has-alike ∙ found) in
        rw (kept, same) is

    new-one : is_some (value_of m e.0) ≡ false → (length s.seen == 64) ≡ true → IsNoted key version (with_entry m e) (noted s e.0)
    new-one none full =
        let put : with_entry m e ≡ inserted m e = rw none refl in
        let same : noted s e.0 ≡ record s { crowded = true } = noted-full s e.0 (has-alike ∙ none) full in
        let long : length s.seen ≡ 64 = eqb-true (length s.seen) 64 full in
        let over : 64 < length (inserted m e) = omega (arith, long, ap length seen, length-map m (λ x. x.0), length-inserted m e) in
        rw (put, same) (record { same_key = is.same_key; same_version = is.same_version; state = inr (refl, over) })

    new-within : is_some (value_of m e.0) ≡ false → (length s.seen == 64) ≡ false → IsNoted key version (with_entry m e) (noted s e.0)
    new-within none room =
        let put : with_entry m e ≡ inserted m e = rw none refl in
        let same : noted s e.0 ≡ record s { seen = insert s.seen (prefix_len (λ other. tx_lt other e.0) s.seen) e.0 } = noted-new s e.0 (has-alike ∙ none) room in
        let long : length s.seen ≡ length m = ap length seen ∙ length-map m (λ x. x.0) in
        let apart : length m ≢ 64 = λ l. eqb-false (length s.seen) 64 room (long ∙ l) in
        let within : length (inserted m e) ≤ 64 = omega (arith, few, apart, length-inserted m e) in
        rw (put, same) (record {
          same_key = is.same_key;
          same_version = is.same_version;
          state = inl (open_still, ap (λ txs. insert txs (prefix_len (λ other. tx_lt other e.0) txs) e.0) seen ∙ sym (txs-inserted m e), within);
        })

    noted-open : IsNoted key version (with_entry m e) (noted s e.0)
    noted-open =
        elim (cases_Bool (is_some (value_of m e.0))) [
          | inl found ↦ there found
          | inr none ↦ elim (cases_Bool (length s.seen == 64)) [ inl full ↦ new-one none full | inr room ↦ new-within none room ]
        ]

  noted-crowded : s.crowded ≡ true → 64 < length m → IsNoted key version (with_entry m e) (noted s e.0)
  noted-crowded crowded many =
      let same : noted s e.0 ≡ s = noted-there s e.0 (rw crowded refl) in
      let more : 64 < length (with_entry m e) = omega (arith, length-with_entry m e) in
      rw same (record { same_key = is.same_key; same_version = is.same_version; state = inr (crowded, more) })

  pub noted-one : IsNoted key version (with_entry m e) (noted s e.0)
  noted-one = elim is.state [ inl still ↦ noted-open still.0 still.1 still.2 | inr over ↦ noted-crowded over.0 over.1 ]

pub noted-all : (key : Key) (version : ℕ) (m es : TxMap Amounts) (s : WithDeltas) → IsNoted key version m s → IsNoted key version (union m es) (fold noted s (txs_of es))
noted-all key version m [] s is = is
noted-all key version m (e ∷ es) s is = noted-all key version (with_entry m e) es (noted s e.0) (noted-one key version m e s is)

pub noted-facts : (key : Key) (version : ℕ) (facts : List Fact) (m : TxMap Amounts) (s : WithDeltas) → IsNoted key version m s
    → IsNoted key version (fold (with_deltas key version) m facts) (fold deltas_step s facts)
noted-facts key version [] m s is = is
noted-facts key version (fact ∷ facts) m s is =
    let same : fold noted s (txs_of (deltas_from key version fact)) ≡ deltas_step s fact =
    ap (λ k. fold noted s (txs_of (deltas_from k version fact))) (sym is.same_key) ∙ ap (λ v. fold noted s (txs_of (deltas_from s.key v fact))) (sym is.same_version) in
    noted-facts key version facts (union m (deltas_from key version fact)) (deltas_step s fact)
    (subst (IsNoted key version (union m (deltas_from key version fact))) same (noted-all key version m (deltas_from key version fact) s is))
