-- What a fit says of a list of live updates.
use Rattle.std.proofs.Common.{◌≡◌, ℕ, zero, suc, ◌+◌, ◌-◌, ◌*◌, ◌<◌, ◌≤◌, ◌==◌, Bool, true, false, List, [], ◌∷◌, ◌++◌, length, get_or, refl, sym, ap, ◌∙◌, subst, arith, inl, inr, Option, Some, None, map, ℤ, pos, negsuc, ◌+ℤ◌, ◌*ℤ◌}
use Rattle.std.proofs.lemmas.Bool.{cases_Bool, false≢true, and_parts, cases_eq, or_cases, ltb-false, eqb-true}
use Rattle.std.specs.List.{find, list_all, list_any, range_with_len}
use Rattle.std.specs.Prelude.{int_lt, nat_lt, not}
use Rattle.mdcc_base.specs.Counts.{number_of}
use Rattle.mdcc_base.specs.TxId.{tx_eq}
use Rattle.mdcc_base.specs.declared.identifiers.TxId.{TxId}
use Rattle.mdcc_option.specs.OneCopy.{amount_at}
use Rattle.mdcc_option.specs.declared.choices.Choice.{Choice}
use Rattle.mdcc_option.specs.declared.cluster.Cluster.{Cluster}
use Rattle.mdcc_option.specs.declared.items.Item.{Item}
use Rattle.mdcc_option.specs.declared.items.Update.{Update}
use Rattle.mdcc_option.specs.declared.items.Update.TheVariants.{Write, Add}
use Rattle.mdcc_struct.specs.Maps.{TxMap, value_of}
use Rattle.mdcc_def_protocol.specs.Fit.{has_tx, above_zero}
use Rattle.mdcc_def_protocol.specs.Fit as fit
use Rattle.mdcc_def_protocol.specs.declared.fit.Fit.{Fit}
use Rattle.mdcc_def_protocol.specs.declared.fit.Load.{Load}
use Rattle.mdcc_def_protocol.specs.Marks.{Amounts, is_write, seen_in}
use Rattle.mdcc_struct.proofs.Reports.{cases_Option}
use Rattle.mdcc_theorem_agreement.proofs.Reduction.{setup_of}
use Rattle.mdcc_theorem_agreement.proofs.LiveTotals.{update_of, total_listed}
use Rattle.mdcc_theorem_agreement.proofs.MapValues.{total_sum, tx_sym}
use Rattle.mdcc_theorem_agreement.proofs.Setups.{Setup}
use Rattle.mdcc_theorem_agreement.proofs.RoomsAsNumbers.{within_room, within_share}
use Rattle.mdcc_theorem_agreement.proofs.ReducedFacts.{Quantity}
use Rattle.mdcc_theorem_agreement.proofs.ReducedLedger.{one_add, taken, given, room_below, room_above, IsQuantity}
use Rattle.mdcc_theorem_agreement.proofs.ReducedOptions.{In, Apart, allows}
use Rattle.mdcc_theorem_agreement.proofs.TestsDecide.{Decides-tx}
use Rattle.mdcc_theorem_agreement.proofs.Totals.{total}

-- ---- what may stand beside one another

has_In : (t : TxId) (ts : List TxId) → has_tx ts t ≡ true → In t ts
has_In t [] h = absurd (cc)
has_In t (u ∷ us) h = elim (or_cases (tx_eq t u) (list_any (tx_eq t) us) h) [ inl e ↦ inl (sym ((Decides-tx t u).0 e)) | inr e ↦ inr (has_In t us e) ]

number_none : {X : Type 0} (p : X → Bool) (xs : List X) → number_of p xs ≡ 0 → (x : X) → In x xs → p x ≡ false
number_none p [] h x g = absurd g
number_none p (y ∷ ys) h x g =
    elim (cases_Bool (p y)) [
      | inl e ↦ absurd (let more : number_of p (y ∷ ys) ≡ 1 + number_of p ys = rw e refl in omega arith)
      | inr e ↦ elim g [
        | inl here ↦ ap p (sym here) ∙ e
        | inr there ↦ (let same : number_of p (y ∷ ys) ≡ 0 + number_of p ys = rw e refl in number_none p ys (omega arith) x there)
      ]
    ]

pub not_true : (b : Bool) → not b ≡ true → b ≡ false
not_true true h = absurd (cc)
not_true false h = refl

numbered : (n low count : ℕ) → low ≤ n → n < low + count → In n (range_with_len low count)
numbered n low zero h g = absurd (omega arith)
numbered n low (suc count) h g =
    elim (cases_eq n low) [
      | inl same ↦ inl (sym same)
      | inr other ↦ inr (numbered n (low + 1) count (omega arith) (omega arith))
    ]

not_false : (b : Bool) → not b ≡ false → b ≡ true
not_false true h = refl
not_false false h = absurd (cc)

abbrev pub FitsExactly : Cluster → Option Item → TxMap Update → Update → Type 0
FitsExactly cluster b live u = fit.is_fitting (fit.exact_fit cluster b (fit.load_of live (seen_in u)) u) ≡ true

fits_not_conflict : fit.is_fitting Fit.Conflict ≡ true → ⊥
fits_not_conflict h = false≢true h

pub exact_clear : (cluster : Cluster) (b : Option Item) (live : TxMap Update) (u : Update) → FitsExactly cluster b live u → (p : TxId × Update) → In p live → allows u p.0 p.1
exact_clear cluster b live (Write item seen) h p g =
    elim (cases_Bool (nat_lt 0 (number_of (λ e. not (has_tx seen e.0)) live))) [
      | inl e ↦ absurd (fits_not_conflict (rw e at h))
      | inr e ↦
          let none : number_of (λ (e : TxId × Update). not (has_tx seen e.0)) live ≡ 0 = omega (arith, ltb-false _ _ e) in
          has_In p.0 seen (not_false (has_tx seen p.0) (number_none (λ (e : TxId × Update). not (has_tx seen e.0)) live none p g))
    ]
exact_clear cluster None live (Add m) h p g = absurd (fits_not_conflict h)
exact_clear cluster (Some base) live (Add m) h p g =
    elim (cases_Bool (nat_lt 0 (number_of (λ e. is_write e.1) live))) [
      | inl e ↦ absurd (fits_not_conflict (rw e at h))
      | inr e ↦
          let none : number_of (λ (e : TxId × Update). is_write e.1) live ≡ 0 = omega (arith, ltb-false _ _ e) in
          beside p.1 (number_none (λ (e : TxId × Update). is_write e.1) live none p g)
    ]
  where
    beside : (x : Update) → is_write x ≡ false → allows (Add m) p.0 x
    beside (Write i s) k = absurd (cc)
    beside (Add n) k = tt

-- ---- each quantity that an Add changes is among those that a fit looks at

find_none : {X : Type 0} (p : X → Bool) (xs : List X) → find p xs ≡ None → (x : X) → In x xs → p x ≡ false
find_none p [] h x g = absurd g
find_none p (y ∷ ys) h x g =
    elim (cases_Bool (p y)) [
      | inl e ↦ absurd (let bad : Some y ≡ None = rw e at h in cc)
      | inr e ↦ elim g [ inl here ↦ ap p (sym here) ∙ e | inr there ↦ find_none p ys (rw e at h) x there ]
    ]

In-map : {X Y : Type 0} (f : X → Y) (x : X) (xs : List X) → In x xs → In (f x) (map f xs)
In-map f x [] h = h
In-map f x (y ∷ ys) h = elim h [ inl here ↦ inl (ap f here) | inr there ↦ inr (In-map f x ys there) ]

-- an amount that is not 0 stands in the list
amount_listed : (m : Amounts) (n : ℕ) → (amount_at n m ≡ pos 0 → ⊥) → In (n, amount_at n m) m
amount_listed [] n h = absurd (h refl)
amount_listed (a ∷ as') n h =
    elim (cases_Bool (a.0 == n)) [
      | inl e ↦
          let value : amount_at n (a ∷ as') ≡ a.1 = rw e refl in
          let here : a ≡ (n, a.1) = pair_same a n (eqb-true a.0 n e) in
          subst (λ z. In (n, z) (a ∷ as')) (sym value) (inl here)
      | inr e ↦
          let value : amount_at n (a ∷ as') ≡ amount_at n as' = rw e refl in
          let there : In (n, amount_at n as') as' = amount_listed as' n (λ z. h (value ∙ z)) in
          subst (λ z. In (n, z) (a ∷ as')) (sym value) (inr there)
    ]
  where
    pair_same : (a : ℕ × ℤ) (n : ℕ) → a.0 ≡ n → a ≡ (n, a.1)
    pair_same a n e = Rattle.mdcc_theorem_agreement.proofs.TestsDecide.same_pair {A = ℕ} {B = ℤ} a (n, a.1) (e, refl)

at_four : (f : ℕ → ℤ) (n : ℕ) → 0 < n → n ≤ 4 → get_or (map f (1 ∷ 2 ∷ 3 ∷ 4 ∷ [])) (n - 1) (pos 0) ≡ f n
at_four f zero h k = absurd (omega arith)
at_four f (suc zero) h k = refl
at_four f (suc (suc zero)) h k = refl
at_four f (suc (suc (suc zero))) h k = refl
at_four f (suc (suc (suc (suc zero)))) h k = refl
at_four f (suc (suc (suc (suc (suc n))))) h k = absurd (omega arith)

abbrev pub Looked : Cluster → Item → TxMap Update → List TxId → Amounts → Quantity → Type 0
Looked cluster base live seen m q =
    (x : fit.Quantity) × In x (fit.quantities_of cluster.schema base (fit.load_of live seen) m)
    × (x.sum ≡ pos (total (λ (p : TxId × Update). q.amount p.1) live)) × (x.amount ≡ pos (q.amount (Add m))) × (above_zero x.room ≡ q.room (Some base))

adds_number : (live : TxMap Update) → number_of (λ (e : TxId × Update). not (is_write e.1)) live ≡ total (λ (p : TxId × Update). one_add p.1) live
adds_number [] = refl
adds_number ((t, Write i s) ∷ es) = omega (arith, adds_number es)
adds_number ((t, Add m) ∷ es) = omega (arith, adds_number es)

looked_down : (cluster : Cluster) (base : Item) (live : TxMap Update) (seen : List TxId) (m : Amounts) (n : ℕ) → length cluster.schema ≤ 4 → 0 < n → n ≤ length cluster.schema →
    (z : ℤ) → amount_at n m ≡ z → In (n, z) m → 0 < fit.decrease z → Looked cluster base live seen m (record { amount = taken n; room = room_below cluster.schema n })
looked_down cluster base live seen m n four low high (pos k) is listed some = absurd (none k some)
  where
    none : (k : ℕ) → 0 < fit.decrease (pos k) → ⊥
    none zero h = omega arith
    none (suc k) h = omega arith
looked_down cluster base live seen m n four low high (negsuc k) is listed some = (
  fit.quantity_at cluster.schema base (fit.load_of live seen) (n, negsuc k),
  inr (In-map (fit.quantity_at cluster.schema base (fit.load_of live seen)) (n, negsuc k) m listed),
  at_four (fit.sum_at fit.decrease live) n low (omega arith) ∙ ap pos (sym (total_sum (λ (p : TxId × Update). taken n p.1) live)),
  (let value : taken n (Add m) ≡ fit.decrease (negsuc k) = ap fit.decrease is in ap pos (omega arith)),
  refl,
)

looked_up : (cluster : Cluster) (base : Item) (live : TxMap Update) (seen : List TxId) (m : Amounts) (n : ℕ) → length cluster.schema ≤ 4 → 0 < n → n ≤ length cluster.schema →
    (z : ℤ) → amount_at n m ≡ z → In (n, z) m → 0 < fit.increase z → Looked cluster base live seen m (record { amount = given n; room = room_above cluster.schema n })
looked_up cluster base live seen m n four low high (negsuc k) is listed some = absurd (omega arith)
looked_up cluster base live seen m n four low high (pos k) is listed some = (
  fit.quantity_at cluster.schema base (fit.load_of live seen) (n, pos k),
  inr (In-map (fit.quantity_at cluster.schema base (fit.load_of live seen)) (n, pos k) m listed),
  at_four (fit.sum_at fit.increase live) n low (omega arith) ∙ ap pos (sym (total_sum (λ (p : TxId × Update). given n p.1) live)),
  (let value : given n (Add m) ≡ fit.increase (pos k) = ap fit.increase is in ap pos (omega arith)),
  refl,
)

pub looked : (cluster : Cluster) (base : Item) (live : TxMap Update) (seen : List TxId) (m : Amounts) (q : Quantity) → length cluster.schema ≤ 4 →
    IsQuantity (setup_of cluster) q → 0 < q.amount (Add m) → Looked cluster base live seen m q
looked cluster base live seen m q four is some =
    elim is [
      | inl adds ↦ subst (Looked cluster base live seen m) (sym adds) (
        fit.delta_count (fit.load_of live seen),
        inl refl,
        ap pos (adds_number live),
        refl,
        refl,
      )
      | inr n ↦ elim n.3 [
        | inl down ↦
            let positive : 0 < taken n.0 (Add m) = subst (λ (z : Quantity). 0 < z.amount (Add m)) down some in
            let listed : In (n.0, amount_at n.0 m) m = amount_listed m n.0 (λ e. let none : taken n.0 (Add m) ≡ 0 = ap fit.decrease e in omega arith) in
            subst (Looked cluster base live seen m) (sym down) (looked_down cluster base live seen m n.0 four n.1 n.2 (amount_at n.0 m) refl listed positive)
        | inr up ↦
            let positive : 0 < given n.0 (Add m) = subst (λ (z : Quantity). 0 < z.amount (Add m)) up some in
            let listed : In (n.0, amount_at n.0 m) m = amount_listed m n.0 (λ e. let none : given n.0 (Add m) ≡ 0 = ap fit.increase e in omega arith) in
            subst (Looked cluster base live seen m) (sym up) (looked_up cluster base live seen m n.0 four n.1 n.2 (amount_at n.0 m) refl listed positive)
      ]
    ]

-- a Write takes nothing
pub write_nothing : (s : Setup) (q : Quantity) (b : Item) (seen : List TxId) → IsQuantity s q → q.amount (Write b seen) ≡ 0
write_nothing s q b seen is =
    elim is [
      | inl adds ↦ ap (λ (z : Quantity). z.amount (Write b seen)) adds
      | inr n ↦ elim n.3 [
        | inl down ↦ ap (λ (z : Quantity). z.amount (Write b seen)) down
        | inr up ↦ ap (λ (z : Quantity). z.amount (Write b seen)) up
      ]
    ]

first_none : (p : fit.Quantity → Bool) (xs : List fit.Quantity) → fit.first_number p xs ≡ None → find p xs ≡ None
first_none p xs h =
    elim (cases_Option (find p xs)) [
      | inl none ↦ none
      | inr some ↦ absurd (let bad : Some some.0.number ≡ None = rw some.1 at h in cc)
    ]

fits_room : (o : Option ℕ) → fit.is_fitting (fit.fit_in_room o) ≡ true → o ≡ None
fits_room None h = refl
fits_room (Some n) h = absurd (cc)

-- what fits exactly keeps each quantity within its room
pub exact_within : (cluster : Cluster) (b : Option Item) (live : TxMap Update) (u : Update) (q : Quantity) → length cluster.schema ≤ 4 → FitsExactly cluster b live u →
    IsQuantity (setup_of cluster) q → 0 < q.amount u → total (λ (p : TxId × Update). q.amount p.1) live + q.amount u ≤ q.room b
exact_within cluster b live (Write item seen) q four h is some = absurd (omega (arith, write_nothing (setup_of cluster) q item seen is))
exact_within cluster None live (Add m) q four h is some = absurd (fits_not_conflict h)
exact_within cluster (Some base) live (Add m) q four h is some =
    elim (cases_Bool (nat_lt 0 (number_of (λ e. is_write e.1) live))) [
      | inl e ↦ absurd (fits_not_conflict (rw e at h))
      | inr e ↦
          let none : find fit.is_past_room (fit.quantities_of cluster.schema base (fit.load_of live []) m) ≡ None =
          first_none fit.is_past_room (fit.quantities_of cluster.schema base (fit.load_of live []) m) (fits_room _ (rw e at h)) in
          let x : Looked cluster base live [] m q = looked cluster base live [] m q four is some in
          let test : fit.is_past_room x.0 ≡ false = find_none fit.is_past_room (fit.quantities_of cluster.schema base (fit.load_of live []) m) none x.0 x.1 in
          let told : int_lt x.0.room (pos (total (λ (p : TxId × Update). q.amount p.1) live) +ℤ pos (q.amount (Add m))) ≡ false = sym (ap (λ z. int_lt x.0.room (z +ℤ x.0.amount)) x.2 ∙ ap (λ z. int_lt x.0.room (pos (total (λ (p : TxId × Update). q.amount p.1) live) +ℤ z)) x.3) ∙ test in
          omega (arith, within_room x.0.room _ _ told, x.4)
    ]

-- what fits at an acceptor keeps each quantity within its share of the room
abbrev pub FitsFast : Cluster → Option Item → TxMap Update → Update → Type 0
FitsFast cluster b live u = fit.fast_fit cluster b (fit.load_of live (seen_in u)) u ≡ Fit.Fits

share_parts : (f : Fit) (o : Option ℕ) → fit.fit_in_share f o ≡ Fit.Fits → (f ≡ Fit.Fits) × (o ≡ None)
share_parts Fit.Fits None h = (refl, refl)
share_parts Fit.Fits (Some n) h = absurd (cc)
share_parts Fit.Conflict o h = absurd (cc)
share_parts (Fit.Limit n) o h = absurd (cc)
share_parts (Fit.Breaks n) o h = absurd (cc)

pub fast_exact : (cluster : Cluster) (b : Option Item) (live : TxMap Update) (u : Update) → FitsFast cluster b live u → FitsExactly cluster b live u
fast_exact cluster b live u h = ap fit.is_fitting (share_parts _ _ h).0

pub fast_within : (cluster : Cluster) (b : Option Item) (live : TxMap Update) (u : Update) (q : Quantity) → length cluster.schema ≤ 4 → FitsFast cluster b live u →
    IsQuantity (setup_of cluster) q → 0 < q.amount u →
    fit.parts_of cluster.limit cluster.quorums * (total (λ (p : TxId × Update). q.amount p.1) live + q.amount u) ≤ (cluster.quorums.fast + fit.parts_of cluster.limit cluster.quorums - cluster.quorums.centres) * q.room b
fast_within cluster b live (Write item seen) q four h is some = absurd (omega (arith, write_nothing (setup_of cluster) q item seen is))
fast_within cluster None live (Add m) q four h is some = absurd (fits_not_conflict (fast_exact cluster None live (Add m) h))
fast_within cluster (Some base) live (Add m) q four h is some =
    let limit : fit.first_number (fit.is_past_limit cluster.limit cluster.quorums) (fit.quantities_of cluster.schema base (fit.load_of live []) m) ≡ None = (share_parts _ _ h).1 in
    let none : find (fit.is_past_limit cluster.limit cluster.quorums) (fit.quantities_of cluster.schema base (fit.load_of live []) m) ≡ None =
    first_none (fit.is_past_limit cluster.limit cluster.quorums) (fit.quantities_of cluster.schema base (fit.load_of live []) m) limit in
    let x : Looked cluster base live [] m q = looked cluster base live [] m q four is some in
    let test : fit.is_past_limit cluster.limit cluster.quorums x.0 ≡ false = find_none (fit.is_past_limit cluster.limit cluster.quorums) (fit.quantities_of cluster.schema base (fit.load_of live []) m) none x.0 x.1 in
    let sum : ℕ = total (λ (p : TxId × Update). q.amount p.1) live in
    let share : ℕ = cluster.quorums.fast + fit.parts_of cluster.limit cluster.quorums - cluster.quorums.centres in
    let told : int_lt (pos share *ℤ x.0.room) (pos (fit.parts_of cluster.limit cluster.quorums) *ℤ (pos sum +ℤ pos (q.amount (Add m)))) ≡ false =
    sym (ap (λ z. int_lt (pos share *ℤ x.0.room) (pos (fit.parts_of cluster.limit cluster.quorums) *ℤ (z +ℤ x.0.amount))) x.2
    ∙ ap (λ z. int_lt (pos share *ℤ x.0.room) (pos (fit.parts_of cluster.limit cluster.quorums) *ℤ (pos sum +ℤ z))) x.3) ∙ test in
    subst (λ z. (fit.parts_of cluster.limit cluster.quorums) * (sum + q.amount (Add m)) ≤ share * z) x.4
    (within_share share (fit.parts_of cluster.limit cluster.quorums) sum (q.amount (Add m)) x.0.room told)

-- live Adds that are together within the room at each quantity
decreases_room : (cluster : Cluster) (base : Item) (live : TxMap Update) (n : ℕ) → length cluster.schema ≤ 4 → 0 < n → n ≤ length cluster.schema →
    fit.is_past_room (fit.decreases_at cluster.schema base (fit.load_of live []) n) ≡ false →
    total (λ (p : TxId × Update). taken n p.1) live ≤ room_below cluster.schema n (Some base)
decreases_room cluster base live n four low high h =
    let sum : get_or (fit.load_of live []).down (n - 1) (pos 0) ≡ pos (total (λ (p : TxId × Update). taken n p.1) live) =
    at_four (fit.sum_at fit.decrease live) n low (omega (arith, four)) ∙ ap pos (sym (total_sum (λ (p : TxId × Update). taken n p.1) live)) in
    let room : ℤ = (fit.decreases_at cluster.schema base (fit.load_of live []) n).room in
    let told : int_lt room (pos (total (λ (p : TxId × Update). taken n p.1) live) +ℤ pos 0) ≡ false = sym (ap (λ z. int_lt room (z +ℤ pos 0)) sum) ∙ h in
    omega (arith, within_room room (total (λ (p : TxId × Update). taken n p.1) live) 0 told)

increases_room : (cluster : Cluster) (base : Item) (live : TxMap Update) (n : ℕ) → length cluster.schema ≤ 4 → 0 < n → n ≤ length cluster.schema →
    fit.is_past_room (fit.increases_at cluster.schema base (fit.load_of live []) n) ≡ false →
    total (λ (p : TxId × Update). given n p.1) live ≤ room_above cluster.schema n (Some base)
increases_room cluster base live n four low high h =
    let sum : get_or (fit.load_of live []).up (n - 1) (pos 0) ≡ pos (total (λ (p : TxId × Update). given n p.1) live) =
    at_four (fit.sum_at fit.increase live) n low (omega (arith, four)) ∙ ap pos (sym (total_sum (λ (p : TxId × Update). given n p.1) live)) in
    let room : ℤ = (fit.increases_at cluster.schema base (fit.load_of live []) n).room in
    let told : int_lt room (pos (total (λ (p : TxId × Update). given n p.1) live) +ℤ pos 0) ≡ false = sym (ap (λ z. int_lt room (z +ℤ pos 0)) sum) ∙ h in
    omega (arith, within_room room (total (λ (p : TxId × Update). given n p.1) live) 0 told)

each_passes : {X : Type 0} (p : X → Bool) (xs : List X) → list_all (λ x. not (p x)) xs ≡ true → (x : X) → In x xs → p x ≡ false
each_passes p [] h x g = absurd g
each_passes p (y ∷ ys) h x g =
    let parts : (not (p y) ≡ true) × (list_all (λ z. not (p z)) ys ≡ true) = and_parts _ _ h in
    elim g [ inl here ↦ ap p (sym here) ∙ not_true (p y) parts.0 | inr there ↦ each_passes p ys parts.1 x there ]

In-left : {X : Type 0} (x : X) (xs ys : List X) → In x xs → In x (xs ++ ys)
In-left x [] ys h = absurd h
In-left x (z ∷ zs) ys h = elim h [ inl here ↦ inl here | inr there ↦ inr (In-left x zs ys there) ]

In-right : {X : Type 0} (x : X) (xs ys : List X) → In x ys → In x (xs ++ ys)
In-right x [] ys h = h
In-right x (z ∷ zs) ys h = inr (In-right x zs ys h)

pub together_within : (cluster : Cluster) (b : Option Item) (live : TxMap Update) (q : Quantity) → length cluster.schema ≤ 4 →
    fit.are_within_room cluster b (fit.load_of live []) ≡ true → IsQuantity (setup_of cluster) q →
    total (λ (p : TxId × Update). q.amount p.1) live ≤ q.room b
together_within cluster None live q four h is = absurd (false≢true h)
together_within cluster (Some base) live q four h is =
    let load : Load = fit.load_of live [] in
    let numbers : List ℕ = range_with_len 1 (length cluster.schema) in
    let downs : List fit.Quantity = map (fit.decreases_at cluster.schema base load) numbers in
    let ups : List fit.Quantity = map (fit.increases_at cluster.schema base load) numbers in
    let passes : (x : fit.Quantity) → In x (fit.quantities_taken cluster.schema base load) → fit.is_past_room x ≡ false =
    each_passes fit.is_past_room (fit.quantities_taken cluster.schema base load) h in
    elim is [
      | inl adds ↦
          let count : ℕ = number_of (λ (e : TxId × Update). not (is_write e.1)) live in
          let told : int_lt (pos 64) (pos count +ℤ pos 0) ≡ false = passes (record { number = 0; sum = pos count; room = pos 64; amount = pos 0 }) (inl refl) in
          let few : total (λ (p : TxId × Update). one_add p.1) live ≤ 64 = omega (arith, within_room (pos 64) count 0 told, adds_number live) in
          subst (λ (z : Quantity). total (λ (p : TxId × Update). z.amount p.1) live ≤ z.room (Some base)) (sym adds) few
      | inr n ↦
          let listed : In n.0 numbers = numbered n.0 1 (length cluster.schema) n.1 (omega (arith, n.2)) in
          elim n.3 [
            | inl down ↦
                let told = passes (fit.decreases_at cluster.schema base load n.0) (inr (In-left _ downs ups (In-map (fit.decreases_at cluster.schema base load) n.0 numbers listed))) in
                subst (λ (z : Quantity). total (λ (p : TxId × Update). z.amount p.1) live ≤ z.room (Some base)) (sym down)
                (decreases_room cluster base live n.0 four n.1 n.2 told)
            | inr up ↦
                let told = passes (fit.increases_at cluster.schema base load n.0) (inr (In-right _ downs ups (In-map (fit.increases_at cluster.schema base load) n.0 numbers listed))) in
                subst (λ (z : Quantity). total (λ (p : TxId × Update). z.amount p.1) live ≤ z.room (Some base)) (sym up)
                (increases_room cluster base live n.0 four n.1 n.2 told)
          ]
    ]

-- distinct choices that are found in the list take at most what the list takes
update_value : (t : TxId) (ps : TxMap Update) → update_of t ps ≡ value_of ps t
update_value t [] = refl
update_value t (p ∷ ps) = rw (tx_sym t p.0, update_value t ps) refl

pub total_found : (g : Update → ℕ) (ds : List Choice) (live : TxMap Update) → Apart ds → ((d : Choice) → In d ds → value_of live d.tx ≡ Some d.update) →
    total (λ (d : Choice). g d.update) ds ≤ total (λ (p : TxId × Update). g p.1) live
total_found g ds live apart h = total_listed g ds live apart (λ d listed. update_value d.tx live ∙ h d listed)
