-- Parts that make a transaction: sorted, in strict key order, and again a transaction as they stand.
use Rattle.std.proofs.Common.{◌≡◌, ℕ, ◌<◌, ◌==◌, true, false, List, [], ◌∷◌, length, refl, sym, ap, subst, inl, inr, arith, Option, Some, None, Ok, Err}
use Rattle.std.specs.Prelude.{map, nat_lt}
use Rattle.std.specs.List.{list_any}
use Rattle.std.proofs.lemmas.Bool.{and_parts, cases_Bool, or_from}
use Rattle.std.proofs.lemmas.List.Sorted.{length_permutation}
use Rattle.mdcc_base.specs.Key.{key_eq, key_lt}
use Rattle.mdcc_base.specs.declared.identifiers.TxId.{TxId}
use Rattle.mdcc_base.specs.declared.key.Key.{Key}
use Rattle.mdcc_option.specs.Parts.{are_parts_ascending, is_key_repeated, sorted_parts}
use Rattle.mdcc_option.specs.Transaction.{checked_by, choice_of_part, choices_of, parts_fault, transaction_of, write_set_of_parts}
use Rattle.mdcc_option.specs.declared.choices.Choice.{Choice}
use Rattle.mdcc_option.specs.declared.faults.DraftFault.{DraftFault}
use Rattle.mdcc_option.specs.declared.faults.DraftFault.TheVariants.{Empty, RepeatedKey, TooMany}
use Rattle.mdcc_option.specs.declared.items.Part.{Part}
use Rattle.mdcc_option.specs.declared.schema.Schema.{Schema}
use Rattle.mdcc_option.proofs.Ordered.{IsPermutation-sorted_parts, ascending-sorted_parts}
use Rattle.mdcc_def_ledger.specs.AllowedLedgers.{part_in}
use Rattle.mdcc_theorem_ledger.proofs.SortedParts.{sorted_parts-ascending}
use Rattle.mdcc_theorem_trace_states.specs.Words.{In}
use Rattle.mdcc_theorem_trace_states.proofs.Tests.{Decides-key}
use Rattle.mdcc_theorem_trace_states.proofs.Keys.{key_lt-irrefl, key_lt-trans}
use Rattle.mdcc_theorem_trace_states.specs.Steps.{IsTransaction}

-- ---- key order

above-all : (p : Part) (ps : List Part) (q : Part) → are_parts_ascending (p ∷ ps) ≡ true → In q ps → key_lt p.key q.key ≡ true
above-all p [] q h i = absurd i
above-all p (r ∷ rs) q h i =
    let parts = and_parts (key_lt p.key r.key) (are_parts_ascending (r ∷ rs)) h in
    elim i [
      | inl s ↦ subst (λ (z : Part). key_lt p.key z.key ≡ true) (sym s) parts.0
      | inr more ↦ key_lt-trans p.key r.key q.key parts.0 (above-all r rs q parts.1 more)
    ]

ascending-rest : (p : Part) (ps : List Part) → are_parts_ascending (p ∷ ps) ≡ true → are_parts_ascending ps ≡ true
ascending-rest p [] h = refl
ascending-rest p (q ∷ qs) h = (and_parts (key_lt p.key q.key) (are_parts_ascending (q ∷ qs)) h).1

none-alike : (p : Part) (qs : List Part) → ((q : Part) → In q qs → key_lt p.key q.key ≡ true) → list_any (λ (q : Part). key_eq q.key p.key) qs ≡ false
none-alike p [] h = refl
none-alike p (q ∷ qs) h =
    or_from (key_eq q.key p.key) (list_any (λ (q : Part). key_eq q.key p.key) qs) here (none-alike p qs (λ r i. h r (inr i)))
  where
    here : key_eq q.key p.key ≡ false
    here = elim (cases_Bool (key_eq q.key p.key)) [
      | inl e ↦ absurd (key_lt-irrefl p.key (subst (λ z. key_lt p.key z ≡ true) ((Decides-key q.key p.key).0 e) (h q (inl refl))))
      | inr e ↦ e
    ]

pub ascending-distinct : (ps : List Part) → are_parts_ascending ps ≡ true → is_key_repeated ps ≡ false
ascending-distinct [] h = refl
ascending-distinct (p ∷ ps) h =
    or_from (list_any (λ (q : Part). key_eq q.key p.key) ps) (is_key_repeated ps) (none-alike p ps (λ q i. above-all p ps q h i)) (ascending-distinct ps (ascending-rest p ps h))

-- ---- transactions

pub checked-ok : (o : Option DraftFault) (ps qs : List Part) → checked_by o ps ≡ Ok qs → (o ≡ None) × (ps ≡ qs)
checked-ok None ps qs h = (refl, cc)
checked-ok (Some fault) ps qs h = absurd (cc)

some-length : (ps : List Part) → (length ps == 0) ≡ false → 0 < length ps
some-length [] h = absurd (cc)
some-length (p ∷ ps) h = omega arith

made-again : (schema : Schema) (qs : List Part) → (length qs == 0) ≡ false → nat_lt 8 (length qs) ≡ false → is_key_repeated qs ≡ false → parts_fault schema (sorted_parts qs) ≡ None → IsTransaction schema (sorted_parts qs)
made-again schema qs some few distinct clear = record { some_part = subst (λ n. 0 < n) (sym long) (some-length qs some); ascending = sorted; again = again }
  where
    long : length (sorted_parts qs) ≡ length qs
    long = length_permutation qs (sorted_parts qs) (IsPermutation-sorted_parts qs)

    sorted : are_parts_ascending (sorted_parts qs) ≡ true
    sorted = ascending-sorted_parts qs distinct

    same : sorted_parts (sorted_parts qs) ≡ sorted_parts qs
    same = sorted_parts-ascending (sorted_parts qs) sorted

    again : transaction_of schema (sorted_parts qs) ≡ Ok (sorted_parts qs)
    again =
        let e : (length (sorted_parts qs) == 0) ≡ false = rw long some in
        let f : nat_lt 8 (length (sorted_parts qs)) ≡ false = rw long few in
        let g : is_key_repeated (sorted_parts qs) ≡ false = ascending-distinct (sorted_parts qs) sorted in
        rw (e, f, g, same, clear) refl

pub made-transaction : (schema : Schema) (qs ps : List Part) → transaction_of schema qs ≡ Ok ps → IsTransaction schema ps
made-transaction schema qs ps h =
    elim (cases_Bool (length qs == 0)) [
      | inl e ↦ let bad : Err Empty ≡ Ok ps = rw e at h in absurd (cc)
      | inr e ↦ elim (cases_Bool (nat_lt 8 (length qs))) [
        | inl f ↦ let bad : Err TooMany ≡ Ok ps = rw (e, f) at h in absurd (cc)
        | inr f ↦ elim (cases_Bool (is_key_repeated qs)) [
          | inl g ↦ let bad : Err RepeatedKey ≡ Ok ps = rw (e, f, g) at h in absurd (cc)
          | inr g ↦
              let both = checked-ok (parts_fault schema (sorted_parts qs)) (sorted_parts qs) ps (rw (e, f, g) at h) in
              subst (IsTransaction schema) both.1 (made-again schema qs e f g both.0)
        ]
      ]
    ]

-- ---- the choices of parts

parts-again : (tx : TxId) (ws : List (Key × ℕ)) (ps : List Part) → map part_in (map (choice_of_part tx ws) ps) ≡ ps
parts-again tx ws [] = refl
parts-again tx ws (p ∷ ps) = ap (λ z. p ∷ z) (parts-again tx ws ps)

pub part_in-choices : (tx : TxId) (ps : List Part) → map part_in (choices_of tx ps) ≡ ps
part_in-choices tx ps = parts-again tx (write_set_of_parts ps) ps

choices-tx : (tx : TxId) (ws : List (Key × ℕ)) (ps : List Part) (c : Choice) → In c (map (choice_of_part tx ws) ps) → c.tx ≡ tx
choices-tx tx ws [] c i = absurd i
choices-tx tx ws (p ∷ ps) c i = elim i [ inl s ↦ ap (λ (z : Choice). z.tx) s | inr r ↦ choices-tx tx ws ps c r ]

pub choices_of-tx : (tx : TxId) (ps : List Part) (c : Choice) → In c (choices_of tx ps) → c.tx ≡ tx
choices_of-tx tx ps c i = choices-tx tx (write_set_of_parts ps) ps c i

pub choices_of-some : (tx : TxId) (ps : List Part) → 0 < length ps → 0 < length (choices_of tx ps)
choices_of-some tx [] h = absurd (omega arith)
choices_of-some tx (p ∷ ps) h = omega arith
