-- The open transactions stay well-formed.
use Rattle.std.proofs.Common.{◌≡◌, ℕ, ◌-◌, ◌^◌, ◌<◌, Bool, true, cond, List, [], ◌∷◌, length, map, refl, sym, subst, arith}
use Rattle.std.specs.Int.{IsInRange}
use Rattle.std.specs.List.{AllByRecursion}
use Rattle.std.proofs.lemmas.Bool.{and_from, and_parts, cond_both, eq-eqb, or_left, or_right}
use Rattle.mdcc_base.specs.Key.{key_lt}
use Rattle.mdcc_base.specs.declared.identifiers.TxId.{TxId}
use Rattle.mdcc_base.specs.declared.key.Key.{Key}
use Rattle.mdcc_option.proofs.Equal.{Decides-key}
use Rattle.mdcc_option.specs.Equality.{written_eq}
use Rattle.mdcc_option.specs.Parts.{are_parts_ascending}
use Rattle.mdcc_option.specs.Transaction.{choice_of_part, choices_of, write_set_of_parts}
use Rattle.mdcc_option.specs.declared.items.Part.{Part}
use Rattle.mdcc_def_protocol.specs.Facts.{epoch_of}
use Rattle.mdcc_def_protocol.specs.Volatile.{Undecided}
use Rattle.mdcc_def_messages.specs.WellFormed.{IsWellFormedFact}
use Rattle.mdcc_def_messages.specs.WellFormedParts.{IsWellFormedCommit, IsWellFormedOf, IsWellFormedPart, IsWellFormedTx, IsWellFormedWriteSet, IsWellFormedWritten, choice_lt, is_ascending_by, is_written, written_lt}
use Rattle.mdcc_def_messages.specs.declared.facts.Fact.{Fact}
use Rattle.mdcc_theorem_node_steps.specs.Inputs.{AreWellFormedParts}
use Rattle.mdcc_theorem_node_steps.specs.WellFormedVolatile.{IsWellFormedOpen}
use Rattle.mdcc_theorem_node_steps.proofs.Each.{each-map, each-weaker}

-- ---- begun transactions

pub epoch-fits : (facts : List Fact) → AllByRecursion IsWellFormedFact facts → 0 < epoch_of facts → IsInRange 1 (2 ^ 32 - 1) (epoch_of facts)
epoch-fits [] w h = absurd (omega arith)
epoch-fits (Fact.Booted epoch ∷ facts) w h = w.0
epoch-fits (Fact.Promised key low high ballot ∷ facts) w h = epoch-fits facts w.1 h
epoch-fits (Fact.Voted key version ballot options offered ∷ facts) w h = epoch-fits facts w.1 h
epoch-fits (Fact.Heard tx outcome ∷ facts) w h = epoch-fits facts w.1 h
epoch-fits (Fact.Floor origin era upto ∷ facts) w h = epoch-fits facts w.1 h
epoch-fits (Fact.Adopted key version item adds ∷ facts) w h = epoch-fits facts w.1 h

pub length-map : {X Y : Type 0} (f : X → Y) (xs : List X) → length (map f xs) ≡ length xs
length-map f [] = refl
length-map f (x ∷ xs) = let ih = length-map f xs in omega arith

written-ascending : (parts : List Part) → are_parts_ascending parts ≡ true → is_ascending_by written_lt (write_set_of_parts parts) ≡ true
written-ascending [] h = refl
written-ascending (p ∷ []) h = refl
written-ascending (p ∷ q ∷ ps) h =
    let both = and_parts (key_lt p.key q.key) (are_parts_ascending (q ∷ ps)) h in and_from _ _ both.0 (written-ascending (q ∷ ps) both.1)

choices-ascending : (tx : TxId) (set : List (Key × ℕ)) (parts : List Part) → are_parts_ascending parts ≡ true → is_ascending_by choice_lt (map (choice_of_part tx set) parts) ≡ true
choices-ascending tx set [] h = refl
choices-ascending tx set (p ∷ []) h = refl
choices-ascending tx set (p ∷ q ∷ ps) h =
    let both = and_parts (key_lt p.key q.key) (are_parts_ascending (q ∷ ps)) h in and_from _ _ both.0 (choices-ascending tx set (q ∷ ps) both.1)

-- each part stands in the write set
own-written : (parts : List Part) → AllByRecursion (λ p. is_written (write_set_of_parts parts) p.key p.version ≡ true) parts
own-written [] = tt
own-written (p ∷ ps) = (
  or_left (written_eq (p.key, p.version) (p.key, p.version)) (is_written (write_set_of_parts ps) p.key p.version) (and_from _ _ ((Decides-key p.key p.key).1 refl) (eq-eqb p.version p.version refl)),
  each-weaker (λ (q : Part). is_written (write_set_of_parts ps) q.key q.version ≡ true) (λ (q : Part). is_written (write_set_of_parts (p ∷ ps)) q.key q.version ≡ true) ps
      (λ q h. or_right (written_eq (q.key, q.version) (p.key, p.version)) (is_written (write_set_of_parts ps) q.key q.version) h) (own-written ps),
)

pub each-both : {X : Type 0} (P Q : X → Type 0) (xs : List X) → AllByRecursion P xs → AllByRecursion Q xs → AllByRecursion (λ x. P x × Q x) xs
each-both P Q [] h k = tt
each-both P Q (x ∷ xs) h k = ((h.0, k.0), each-both P Q xs h.1 k.1)

-- the choices of a transaction that is begun with such parts
pub choices-formed : (tx : TxId) (parts : List Part) → IsWellFormedTx tx → AreWellFormedParts parts → IsWellFormedCommit tx (choices_of tx parts)
choices-formed tx parts of_tx w = record {
  count = subst (λ n. IsInRange 1 8 n) (sym (length-map (choice_of_part tx (write_set_of_parts parts)) parts)) w.count;
  each = each-map (IsWellFormedOf tx) (choice_of_part tx (write_set_of_parts parts)) parts
      (each-weaker (λ (p : Part). IsWellFormedPart p × (is_written (write_set_of_parts parts) p.key p.version ≡ true)) (λ (p : Part). IsWellFormedOf tx (choice_of_part tx (write_set_of_parts parts) p)) parts
      (λ p h. record {
        choice_itself = record { tx = of_tx; key = h.0.key; version = h.0.version; update = h.0.update; write_set = set; own = h.1 };
        same_tx = refl;
      }) (each-both IsWellFormedPart (λ (p : Part). is_written (write_set_of_parts parts) p.key p.version ≡ true) parts w.each (own-written parts)));
  ascending = choices-ascending tx (write_set_of_parts parts) parts w.ascending;
}
  where
    set : IsWellFormedWriteSet (write_set_of_parts parts)
    set = record {
      count = subst (λ n. IsInRange 1 8 n) (sym (length-map (λ (p : Part). (p.key, p.version)) parts)) w.count;
      each = each-map IsWellFormedWritten (λ (p : Part). (p.key, p.version)) parts
          (each-weaker IsWellFormedPart (λ (p : Part). IsWellFormedWritten (p.key, p.version)) parts (λ p h. record { key = h.key; version = h.version }) w.each);
      ascending = written-ascending parts w.ascending;
    }

-- ---- changes that leave the choices

pub opened-changed : (test : Undecided → Bool) (change : Undecided → Undecided) (ts : List Undecided) → ((t : Undecided) → IsWellFormedOpen t → IsWellFormedOpen (change t))
    → AllByRecursion IsWellFormedOpen ts → AllByRecursion IsWellFormedOpen (map (λ t. cond (test t) (change t) t) ts)
opened-changed test change [] f h = tt
opened-changed test change (t ∷ ts) f h = (cond_both (test t) (change t) t IsWellFormedOpen (λ e. f t h.0) (λ e. h.0), opened-changed test change ts f h.1)
