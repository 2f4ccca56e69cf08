-- The order of keys; the choices of a transaction are of distinct keys.
use Rattle.std.proofs.Common.{List, [], arith, inl, inr, refl, subst, sym, true, ◌&&◌, ◌==◌, ◌∙◌, ◌∷◌, ◌≡◌}
use Rattle.std.specs.Prelude.{map, nat_lt}
use Rattle.std.proofs.lemmas.Bool.{and_from, and_parts, cases_Bool, eq-eqb, eqb-true, lt-ltb, ltb-true, or_cases, or_left, or_right}
use Rattle.mdcc_base.specs.declared.key.Key.{Key}
use Rattle.mdcc_base.specs.Key.{key_lt}
use Rattle.mdcc_base.specs.declared.identifiers.TxId.{TxId}
use Rattle.mdcc_base.specs.TxId.{tx_eq}
use Rattle.mdcc_option.specs.declared.choices.Choice.{Choice}
use Rattle.mdcc_option.specs.declared.cluster.Cluster.{Cluster}
use Rattle.mdcc_option.specs.Parts.{are_parts_ascending}
use Rattle.mdcc_def_ledger.specs.Ledger.{Added, Entry, Valued, choices_begun}
use Rattle.mdcc_def_ledger.specs.AllowedLedgers.{IsAllowed, part_in}
use Rattle.mdcc_theorem_trace_states.specs.Words.{In}

pub key_lt-irrefl : (a : Key) → key_lt a a ≡ true → ⊥
key_lt-irrefl [] h = cc
key_lt-irrefl (x ∷ xs) h =
    elim (or_cases (nat_lt x x) (x == x && key_lt xs xs) h) [
      | inl e ↦ omega (arith, ltb-true x x e)
      | inr e ↦ key_lt-irrefl xs (and_parts (x == x) (key_lt xs xs) e).1
    ]

pub key_lt-trans : (a b c : Key) → key_lt a b ≡ true → key_lt b c ≡ true → key_lt a c ≡ true
key_lt-trans [] b [] h g = nothing b g
  where
    nothing : (b : Key) → key_lt b [] ≡ true → key_lt [] [] ≡ true
    nothing [] g = g
    nothing (y ∷ ys) g = absurd (cc)
key_lt-trans [] b (z ∷ zs) h g = refl
key_lt-trans (x ∷ xs) [] c h g = absurd (cc)
key_lt-trans (x ∷ xs) (y ∷ ys) [] h g = absurd (cc)
key_lt-trans (x ∷ xs) (y ∷ ys) (z ∷ zs) h g =
    elim (or_cases (nat_lt x y) (x == y && key_lt xs ys) h) [
      | inl e ↦ elim (or_cases (nat_lt y z) (y == z && key_lt ys zs) g) [
        | inl f ↦ or_left (nat_lt x z) _ (lt-ltb x z (omega (arith, ltb-true x y e, ltb-true y z f)))
        | inr f ↦ or_left (nat_lt x z) _ (lt-ltb x z (omega (arith, ltb-true x y e, eqb-true y z (and_parts (y == z) _ f).0)))
      ]
      | inr e ↦ elim (or_cases (nat_lt y z) (y == z && key_lt ys zs) g) [
        | inl f ↦ or_left (nat_lt x z) _ (lt-ltb x z (omega (arith, eqb-true x y (and_parts (x == y) _ e).0, ltb-true y z f)))
        | inr f ↦ or_right (nat_lt x z) _ (and_from (x == z) (key_lt xs zs)
            (eq-eqb x z (eqb-true x y (and_parts (x == y) _ e).0 ∙ eqb-true y z (and_parts (y == z) _ f).0))
            (key_lt-trans xs ys zs (and_parts (x == y) _ e).1 (and_parts (y == z) _ f).1))
      ]
    ]

pub asc-head : (c : Choice) (cs : List Choice) (d : Choice) → are_parts_ascending (map part_in (c ∷ cs)) ≡ true → In d cs → key_lt c.key d.key ≡ true
asc-head c [] d h i = absurd i
asc-head c (e ∷ es) d h i =
    let parts = and_parts (key_lt c.key e.key) (are_parts_ascending (map part_in (e ∷ es))) h in
    elim i [
      | inl s ↦ subst (λ (z : Choice). key_lt c.key z.key ≡ true) (sym s) parts.0
      | inr r ↦ key_lt-trans c.key e.key d.key parts.0 (asc-head e es d parts.1 r)
    ]

pub asc-tail : (c : Choice) (cs : List Choice) → are_parts_ascending (map part_in (c ∷ cs)) ≡ true → are_parts_ascending (map part_in cs) ≡ true
asc-tail c [] h = refl
asc-tail c (e ∷ es) h = (and_parts (key_lt c.key e.key) (are_parts_ascending (map part_in (e ∷ es))) h).1

asc-one : (cs : List Choice) (c d : Choice) → are_parts_ascending (map part_in cs) ≡ true → In c cs → In d cs → c.key ≡ d.key → c ≡ d
asc-one [] c d h i j e = absurd i
asc-one (x ∷ xs) c d h i j e =
    elim i [
      | inl s ↦ elim j [
        | inl r ↦ s ∙ sym r
        | inr r ↦ let l : key_lt c.key d.key ≡ true = subst (λ (z : Choice). key_lt z.key d.key ≡ true) (sym s) (asc-head x xs d h r) in
            absurd (key_lt-irrefl d.key (subst (λ z. key_lt z d.key ≡ true) e l))
      ]
      | inr s ↦ elim j [
        | inl r ↦ let l : key_lt d.key c.key ≡ true = subst (λ (z : Choice). key_lt z.key c.key ≡ true) (sym r) (asc-head x xs c h s) in
            absurd (key_lt-irrefl d.key (subst (λ z. key_lt d.key z ≡ true) e l))
        | inr r ↦ asc-one xs c d (asc-tail x xs h) s r e
      ]
    ]

pub begun-ascending : (cluster : Cluster) (es : List Entry) (t : TxId) → IsAllowed cluster es → are_parts_ascending (map part_in (choices_begun es t)) ≡ true
begun-ascending cluster [] t h = refl
begun-ascending cluster (Added b f ∷ es) t h = begun-ascending cluster es t h.0
begun-ascending cluster (Valued b k v m os ∷ es) t h = begun-ascending cluster es t h.0
begun-ascending cluster (Entry.Begun b u cs ∷ es) t h =
    elim (cases_Bool (tx_eq u t)) [ inl e ↦ rw e h.1.1.ascending | inr e ↦ rw e (begun-ascending cluster es t h.0) ]

-- a transaction has one choice on a key
pub one_choice : (cluster : Cluster) (es : List Entry) (t : TxId) (c d : Choice) → IsAllowed cluster es → In c (choices_begun es t) → In d (choices_begun es t) → c.key ≡ d.key → c ≡ d
one_choice cluster es t c d h i j e = asc-one (choices_begun es t) c d (begun-ascending cluster es t h) i j e
