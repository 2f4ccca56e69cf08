-- The quantity that a limit names is the number of deltas, or an attribute.
use Rattle.std.proofs.Common.{Bool, List, arith, None, Option, Some, [], ap, cond, false, inl, inr, length, map, refl, subst, true, ℕ, ℤ, ◌∙◌, ◌∷◌, ◌≡◌}
use Rattle.std.specs.Prelude.{nat_le, negsuc, pos}
use Rattle.std.proofs.lemmas.Bool.{and_parts, cases_Bool, le-leb}
use Rattle.mdcc_option.specs.declared.cluster.Cluster.{Cluster}
use Rattle.mdcc_option.specs.declared.items.Item.{Item}
use Rattle.mdcc_option.specs.declared.items.Update.{Update}
use Rattle.mdcc_def_protocol.specs.Belongs.{amounts_belong, is_attribute, update_belongs}
use Rattle.mdcc_def_protocol.specs.Fit.{Quantity, exact_fit, fast_fit, first_number, fit_in_room, fit_in_share, is_past_limit, is_past_room, limit_of, quantities_of, quantity_at}
use Rattle.mdcc_def_protocol.specs.Marks.{Amounts}
use Rattle.mdcc_def_protocol.specs.declared.fit.Fit.{Fit}
use Rattle.mdcc_def_protocol.specs.declared.fit.Load.{Load}
use Rattle.mdcc_theorem_trace_states.specs.Words.{Each}

number-is : (cluster : Cluster) (base : Item) (load : Load) (attribute : ℕ) (amount : ℤ) → (quantity_at cluster.schema base load (attribute, amount)).number ≡ attribute
number-is cluster base load attribute (pos n) = refl
number-is cluster base load attribute (negsuc n) = refl

numbers : (cluster : Cluster) (base : Item) (load : Load) (amounts : Amounts) → amounts_belong cluster amounts ≡ true →
    Each (λ (q : Quantity). nat_le q.number (length cluster.schema) ≡ true) (map (quantity_at cluster.schema base load) amounts)
numbers cluster base load [] h = tt
numbers cluster base load (a ∷ as') h =
    let p = and_parts (is_attribute cluster a.0) (amounts_belong cluster as') h in
    let q = and_parts (nat_le 1 a.0) (nat_le a.0 (length cluster.schema)) p.0 in
    (subst (λ z. nat_le z (length cluster.schema) ≡ true) (back (quantity_at cluster.schema base load a).number a.0 (number-is cluster base load a.0 a.1)) q.1, numbers cluster base load as' p.1)
  where
    back : (m n : ℕ) → m ≡ n → n ≡ m
    back m n e = cc

first-within : (n m : ℕ) (test : Quantity → Bool) (qs : List Quantity) → Each (λ (q : Quantity). nat_le q.number m ≡ true) qs → first_number test qs ≡ Some n → nat_le n m ≡ true
first-within n m test [] h e = absurd (cc)
first-within n m test (q ∷ qs) h e =
    elim (cases_Bool (test q)) [
      | inl i ↦ let s : Some q.number ≡ Some n = rw i at e in let r : q.number ≡ n = cc in subst (λ z. nat_le z m ≡ true) r h.0
      | inr i ↦ let s : first_number test qs ≡ Some n = rw i at e in first-within n m test qs h.1 s
    ]

limit-within : (cluster : Cluster) (base : Option Item) (load : Load) (u : Update) (n : ℕ) → update_belongs cluster u ≡ true → limit_of cluster base load u ≡ Some n → nat_le n (length cluster.schema) ≡ true
limit-within cluster None load (Update.Write it seen) n h e = absurd (cc)
limit-within cluster (Some base) load (Update.Write it seen) n h e = absurd (cc)
limit-within cluster None load (Update.Add amounts) n h e = absurd (cc)
limit-within cluster (Some base) load (Update.Add amounts) n h e =
    first-within n (length cluster.schema) (is_past_limit cluster.limit cluster.quorums) (quantities_of cluster.schema base load amounts) (le-leb 0 (length cluster.schema) (omega arith), numbers cluster base load amounts h) e

-- an exact fit names no limit
no-limit : (cluster : Cluster) (base : Option Item) (load : Load) (u : Update) (n : ℕ) → exact_fit cluster base load u ≡ Fit.Limit n → ⊥
no-limit cluster base load (Update.Write it seen) n e = pick _ e
  where
    pick : (b : Bool) → cond b Fit.Conflict Fit.Fits ≡ Fit.Limit n → ⊥
    pick true e = cc
    pick false e = cc
no-limit cluster None load (Update.Add amounts) n e = cc
no-limit cluster (Some base) load (Update.Add amounts) n e = pick _ (first_number is_past_room (quantities_of cluster.schema base load amounts)) e
  where
    pick : (b : Bool) (o : Option ℕ) → cond b Fit.Conflict (fit_in_room o) ≡ Fit.Limit n → ⊥
    pick true o e = cc
    pick false None e = cc
    pick false (Some m) e = cc

pub limit-belongs : (cluster : Cluster) (base : Option Item) (load : Load) (u : Update) (n : ℕ) → update_belongs cluster u ≡ true → fast_fit cluster base load u ≡ Fit.Limit n → nat_le n (length cluster.schema) ≡ true
limit-belongs cluster base load u n h e = by_case (exact_fit cluster base load u) (limit_of cluster base load u) refl refl e
  where
    by_case : (f : Fit) (o : Option ℕ) → exact_fit cluster base load u ≡ f → limit_of cluster base load u ≡ o → fit_in_share f o ≡ Fit.Limit n → nat_le n (length cluster.schema) ≡ true
    by_case Fit.Fits (Some m) i j g = let s : m ≡ n = cc in limit-within cluster base load u n h (j ∙ ap Some s)
    by_case Fit.Fits None i j g = absurd (cc)
    by_case Fit.Conflict o i j g = absurd (cc)
    by_case (Fit.Breaks m) o i j g = absurd (cc)
    by_case (Fit.Limit m) o i j g = absurd (no-limit cluster base load u m i)
