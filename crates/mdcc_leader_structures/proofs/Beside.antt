-- What is live beside a structure weighs what its accepted marks weigh, and the executed deltas that count.
use Rattle.std.proofs.Common.{◌≡◌, ℕ, ◌+◌, Bool, true, false, List, [], ◌∷◌, ◌++◌, Option, Some, None, map, refl, sym, ap, ap₂, ◌∙◌, arith, inl, inr, fold}
use Rattle.std.specs.Prelude.{if◌then◌else◌, is_some, not, option_and_then, option_map, ◌&&◌, ◌||◌}
use Rattle.std.specs.List.{filter, filter_map}
use Rattle.std.specs.Option.{option_or}
use Rattle.std.proofs.lemmas.Bool.{cases_Bool}
use Rattle.std.proofs.lemmas.List.Sums.{fold-append}
use Rattle.mdcc_base.specs.Counts.{sum_over}
use Rattle.mdcc_base.specs.TxId.{tx_eq, tx_lt}
use Rattle.mdcc_base.specs.declared.identifiers.TxId.{TxId}
use Rattle.mdcc_base.specs.declared.key.Key.{Key}
use Rattle.mdcc_option.specs.declared.choices.Choice.{Choice}
use Rattle.mdcc_option.specs.declared.choices.Mark.{Mark}
use Rattle.mdcc_option.specs.declared.items.Update.{Update}
use Rattle.mdcc_struct.specs.Maps.{TxMap, are_ascending, inserted, txs_of, union, value_of}
use Rattle.mdcc_struct.specs.declared.options.Options.{Options}
use Rattle.mdcc_struct.proofs.Order.{tx_eq-refl, tx_eq-same, tx_eq-sym, tx_lt-apart}
use Rattle.mdcc_struct.proofs.Ordered.{IsBelow, ascending-below, ascending-cons, ascending-tail, value_of-below}
use Rattle.mdcc_struct.proofs.Values.{value_of-union}
use Rattle.mdcc_struct.proofs.Walks.{ascending-filter, ascending-union}
use Rattle.mdcc_def_messages.specs.declared.facts.Fact.{Fact}
use Rattle.mdcc_def_protocol.specs.Facts.{current_of, deltas_at, deltas_from, executed_of, is_void, live_mark}
use Rattle.mdcc_def_protocol.specs.Fit.{capped, load_of}
use Rattle.mdcc_def_protocol.specs.Marks.{Amounts, choice_in}
use Rattle.mdcc_def_protocol.specs.Structures.{live_at_leader}
use Rattle.mdcc_def_protocol.specs.declared.fit.Load.{Load}
use Rattle.mdcc_escrow.specs.Weights.{no_load, with_live}
use Rattle.mdcc_escrow.proofs.Weighing.{load_more, load_summed}
use Rattle.mdcc_leader_structures.specs.Live.{IsWeighed, has_accept, live_marks, with_delta, with_update}
use Rattle.mdcc_leader_structures.proofs.Sums.{HaveSameSums, is_new, same_load, size_if, sum_over-append, sum_over-filter, sum_over-same, sum_over-union}

-- ---- accepted marks

abbrev pub accepted : Options → TxMap Update
accepted options = filter_map live_mark options

pub accepted_value : (m : Options) (tx : TxId) → are_ascending m ≡ true → value_of (accepted m) tx ≡ option_map (λ c. c.update) (option_and_then choice_in (value_of m tx))
accepted_value [] tx up = refl
accepted_value ((t, Mark.Accept c) ∷ es) tx up =
    let rest = accepted_value es tx (ascending-tail (t, Mark.Accept c) es up) in
    elim (cases_Bool (tx_eq t tx)) [
      | inl same ↦ rw same refl
      | inr other ↦ rw other rest
    ]
accepted_value ((t, Mark.Reject) ∷ es) tx up =
    let rest = accepted_value es tx (ascending-tail (t, Mark.Reject) es up) in
    elim (cases_Bool (tx_eq t tx)) [
      | inl same ↦
          let none : value_of es tx ≡ None = ap (value_of es) (sym (tx_eq-same t tx same)) ∙ value_of-below t es (ascending-below (t, Mark.Reject) es up) in
          rw same (rest ∙ ap (λ o. option_map (λ (c : Choice). c.update) (option_and_then choice_in o)) none)
      | inr other ↦ rw other rest
    ]

some_mapped : {X Y : Type 0} (f : X → Y) (o : Option X) → is_some (option_map f o) ≡ is_some o
some_mapped f None = refl
some_mapped f (Some x) = refl

pub accept_there : (m : Options) (tx : TxId) → are_ascending m ≡ true → is_some (value_of (accepted m) tx) ≡ has_accept m tx
accept_there m tx up = ap is_some (accepted_value m tx up) ∙ some_mapped (λ (c : Choice). c.update) (option_and_then choice_in (value_of m tx))

IsBelow-accepted : (tx : TxId) (m : Options) → IsBelow tx m → IsBelow tx (accepted m)
IsBelow-accepted tx [] h = tt
IsBelow-accepted tx ((t, Mark.Accept c) ∷ es) h = (h.0, IsBelow-accepted tx es h.1)
IsBelow-accepted tx ((t, Mark.Reject) ∷ es) h = IsBelow-accepted tx es h.1

pub ascending-accepted : (m : Options) → are_ascending m ≡ true → are_ascending (accepted m) ≡ true
ascending-accepted [] up = refl
ascending-accepted ((t, Mark.Accept c) ∷ es) up =
    ascending-cons (t, c.update) (accepted es) (IsBelow-accepted t es (ascending-below (t, Mark.Accept c) es up)) (ascending-accepted es (ascending-tail (t, Mark.Accept c) es up))
ascending-accepted ((t, Mark.Reject) ∷ es) up = ascending-accepted es (ascending-tail (t, Mark.Reject) es up)

-- ---- executed deltas

abbrev pub as_add : TxId × Amounts → TxId × Update
as_add e = (e.0, Update.Add e.1)

pub added_value : (d : TxMap Amounts) (tx : TxId) → value_of (map as_add d) tx ≡ option_map (λ a. Update.Add a) (value_of d tx)
added_value [] tx = refl
added_value (e ∷ es) tx = elim (cases_Bool (tx_eq e.0 tx)) [
  | inl same ↦ rw same refl
  | inr other ↦ rw other (added_value es tx)
]

pub ascending-added : (d : TxMap Amounts) → are_ascending (map as_add d) ≡ are_ascending d
ascending-added [] = refl
ascending-added (e ∷ []) = refl
ascending-added (e ∷ f ∷ es) = ap (λ b. tx_lt e.0 f.0 && b) (ascending-added (f ∷ es))

ascending-deltas : (facts : List Fact) (key : Key) (version : ℕ) → are_ascending (deltas_at facts key version) ≡ true
ascending-deltas [] key version = refl
ascending-deltas (fact ∷ facts) key version =
    ascending-union (deltas_at facts key version) (deltas_from key version fact) (ascending-deltas facts key version)

pub ascending-executed : (facts : List Fact) (key : Key) → are_ascending (executed_of facts key) ≡ true
ascending-executed facts key = ascending-deltas facts key (current_of facts key)

-- the first map finds each entry of the second
abbrev AreFound : {X : Type 0} → TxMap X → TxMap X → Type 0
AreFound d [] = Unit {0}
AreFound d (e ∷ es) = (value_of d e.0 ≡ Some e.1) × AreFound d es

found_later : {X : Type 0} (x : TxId × X) (d s : TxMap X) → IsBelow x.0 s → AreFound d s → AreFound (x ∷ d) s
found_later x d [] h k = tt
found_later x d (e ∷ es) h k = (rw (tx_lt-apart x.0 e.0 h.0) k.0, found_later x d es h.1 k.1)

found_all : {X : Type 0} (d : TxMap X) → are_ascending d ≡ true → AreFound d d
found_all [] up = tt
found_all (x ∷ xs) up = (rw (tx_eq-refl x.0) refl, found_later x xs xs (ascending-below x xs up) (found_all xs (ascending-tail x xs up)))

-- ---- the load

-- a delta counts where the structure accepts no choice of its transaction, and that is not void
abbrev counts : List Fact → Options → TxId × Update → Bool
counts facts options e = is_new (accepted options) e && not (is_void facts e.0)

walked : (facts : List Fact) (key : Key) (options : Options) (load : Load) (s : TxMap Amounts) → are_ascending options ≡ true → AreFound (executed_of facts key) s
    → fold (with_delta facts key options) load (txs_of s) ≡ fold (with_live []) load (filter (counts facts options) (map as_add s))
walked facts key options load [] up h = refl
walked facts key options load (e ∷ es) up h =
    let there : is_some (value_of (accepted options) e.0) ≡ has_accept options e.0 = accept_there options e.0 up in
    elim (cases_Bool (has_accept options e.0)) [
      | inl has ↦
          let step : with_delta facts key options load e.0 ≡ load = rw has refl in
          ap (λ l. fold (with_delta facts key options) l (txs_of es)) step
          ∙ walked facts key options load es up h.1 ∙ rw (there, has) refl
      | inr free ↦ elim (cases_Bool (is_void facts e.0)) [
        | inl void ↦
            let step : with_delta facts key options load e.0 ≡ load = rw (free, h.0, void) refl in
            ap (λ l. fold (with_delta facts key options) l (txs_of es)) step
            ∙ walked facts key options load es up h.1 ∙ rw (there, free, void) refl
        | inr counted ↦
            let step : with_delta facts key options load e.0 ≡ with_live [] load (as_add e) = rw (free, h.0, counted) refl in
            ap (λ l. fold (with_delta facts key options) l (txs_of es)) step
            ∙ walked facts key options (with_live [] load (as_add e)) es up h.1 ∙ rw (there, free, counted) refl
      ]
    ]

both_tests : (a b : Bool) (n : ℕ) → (if a then (if b then n else 0) else 0) ≡ (if a && b then n else 0)
both_tests true b n = refl
both_tests false b n = refl

abbrev is_live_entry : List Fact → TxId × Update → Bool
is_live_entry facts e = not (is_void facts e.0)

parts_sum : (facts : List Fact) (options : Options) (d : TxMap Update) → are_ascending d ≡ true
    → HaveSameSums (filter (is_live_entry facts) (union (accepted options) d)) (filter (is_live_entry facts) (accepted options) ++ filter (counts facts options) d)
parts_sum facts options d up g =
    let p = is_live_entry facts in
    let a = accepted options in
    let whole = sum_over-filter p g (union a d) ∙ sum_over-union (size_if p g) a d up in
    let left = sum_over-filter p g a in
    let right : sum_over (size_if p g) (filter (is_new a) d) ≡ sum_over g (filter (counts facts options) d) =
    sum_over-filter (is_new a) (size_if p g) d
    ∙ sum_over-same (size_if (is_new a) (size_if p g)) (size_if (counts facts options) g) (λ e. both_tests (is_new a e) (p e) (g e)) d
    ∙ sym (sum_over-filter (counts facts options) g d)
    in
    whole ∙ ap₂ ◌+◌ (sym left) right ∙ sym (sum_over-append g (filter p a) (filter (counts facts options) d))

pub load_beside : (facts : List Fact) (key : Key) (options : Options) → are_ascending options ≡ true
    → fold (with_delta facts key options) (capped (load_of (live_marks facts options) [])) (txs_of (executed_of facts key))
    ≡ capped (load_of (live_at_leader facts key (current_of facts key) options) [])
load_beside facts key options up =
    let d = executed_of facts key in
    let ups = ascending-executed facts key in
    let marks = filter (is_live_entry facts) (accepted options) in
    let deltas = filter (counts facts options) (map as_add d) in
    let all : load_of (filter (is_live_entry facts) (union (accepted options) (map as_add d))) [] ≡ load_of (marks ++ deltas) [] =
    same_load (filter (is_live_entry facts) (union (accepted options) (map as_add d))) (marks ++ deltas) [] (parts_sum facts options (map as_add d) (ascending-added d ∙ ups))
    in
    walked facts key options (capped (load_of marks [])) d up (found_all d ups)
    ∙ ap (λ l. fold (with_live []) l deltas) (sym (load_summed [] marks))
    ∙ sym (fold-append (with_live []) no_load marks deltas)
    ∙ load_summed [] (marks ++ deltas)
    ∙ ap capped (sym all)

-- ---- what is live

value_of-kept : (void : TxId → Bool) (m : TxMap Update) (tx : TxId) → value_of (filter (λ e. not (void e.0)) m) tx ≡ (if void tx then None else value_of m tx)
value_of-kept void [] tx = elim (cases_Bool (void tx)) [ inl gone ↦ rw gone refl | inr stays ↦ rw stays refl ]
value_of-kept void (e ∷ es) tx =
    let rest = value_of-kept void es tx in
    elim (cases_Bool (tx_eq e.0 tx)) [
      | inl same ↦
          let is : e.0 ≡ tx = tx_eq-same e.0 tx same in
          elim (cases_Bool (void tx)) [
            | inl gone ↦
                let left : void e.0 ≡ true = ap void is ∙ gone in
                rw (left, gone) (rest ∙ rw gone refl)
            | inr stays ↦
                let kept : void e.0 ≡ false = ap void is ∙ stays in
                rw (kept, stays, same) refl
          ]
      | inr other ↦ elim (cases_Bool (void e.0)) [
        | inl gone ↦ rw (gone, other) rest
        | inr stays ↦ rw (stays, other) rest
      ]
    ]

some_either : {X : Type 0} (o p : Option X) → is_some (option_or o p) ≡ (is_some o || is_some p)
some_either None p = refl
some_either (Some x) p = refl

some_if : {X : Type 0} (void : Bool) (o : Option X) → is_some (if void then None else o) ≡ (is_some o && not void)
some_if true None = refl
some_if true (Some x) = refl
some_if false None = refl
some_if false (Some x) = refl

and_false : (b : Bool) → (b && false) ≡ false
and_false true = refl
and_false false = refl

and_true : (b : Bool) → (b && true) ≡ b
and_true true = refl
and_true false = refl

pub live_there : (facts : List Fact) (key : Key) (options : Options) (tx : TxId) → are_ascending options ≡ true
    → is_some (value_of (live_at_leader facts key (current_of facts key) options) tx)
    ≡ ((has_accept options tx || is_some (value_of (executed_of facts key) tx)) && not (is_void facts tx))
live_there facts key options tx up =
    let d = executed_of facts key in
    let m = union (accepted options) (map as_add d) in
    ap is_some (value_of-kept (is_void facts) m tx)
    ∙ some_if (is_void facts tx) (value_of m tx)
    ∙ ap (λ b. b && not (is_void facts tx))
    (ap is_some (value_of-union (accepted options) (map as_add d) tx)
    ∙ some_either (value_of (accepted options) tx) (value_of (map as_add d) tx)
    ∙ ap₂ ◌||◌ (accept_there options tx up) (ap is_some (added_value d tx) ∙ some_mapped (λ (a : Amounts). Update.Add a) (value_of d tx)))

module _ (facts : List Fact) (key : Key) (options : Options) (tx : TxId) (up : are_ascending options ≡ true) where
  pub live_void : is_void facts tx ≡ true → false ≡ is_some (value_of (live_at_leader facts key (current_of facts key) options) tx)
  live_void void = sym (live_there facts key options tx up ∙ ap (λ v. (has_accept options tx || is_some (value_of (executed_of facts key) tx)) && not v) void ∙ and_false (has_accept options tx || is_some (value_of (executed_of facts key) tx)))

  pub live_accept : is_void facts tx ≡ false → has_accept options tx ≡ true → true ≡ is_some (value_of (live_at_leader facts key (current_of facts key) options) tx)
  live_accept live has = sym (live_there facts key options tx up ∙ ap₂ (λ a v. (a || is_some (value_of (executed_of facts key) tx)) && not v) has live)

  pub live_delta : is_void facts tx ≡ false → has_accept options tx ≡ false
      → is_some (value_of (executed_of facts key) tx) ≡ is_some (value_of (live_at_leader facts key (current_of facts key) options) tx)
  live_delta live free =
      let d = is_some (value_of (executed_of facts key) tx) in
      sym (live_there facts key options tx up ∙ ap₂ (λ a v. (a || d) && not v) free live ∙ and_true d)

pub ascending-live : (facts : List Fact) (key : Key) (options : Options) → are_ascending options ≡ true
    → are_ascending (live_at_leader facts key (current_of facts key) options) ≡ true
ascending-live facts key options up =
    let m = union (accepted options) (map as_add (executed_of facts key)) in
    ascending-filter (is_live_entry facts) m (ascending-union (accepted options) (map as_add (executed_of facts key)) (ascending-accepted options up))

-- ---- one more mark

accepted_sum : (g : TxId × Update → ℕ) (m : Options) (tx : TxId) (c : Choice)
    → sum_over g (accepted (inserted m (tx, Mark.Accept c))) ≡ g (tx, c.update) + sum_over g (accepted m)
accepted_sum g [] tx c = refl
accepted_sum g ((t, Mark.Accept x) ∷ es) tx c =
    let rest = accepted_sum g es tx c in
    elim (cases_Bool (tx_lt t tx)) [
      | inl less ↦ rw less (omega arith)
      | inr over ↦ rw over refl
    ]
accepted_sum g ((t, Mark.Reject) ∷ es) tx c =
    let rest = accepted_sum g es tx c in
    elim (cases_Bool (tx_lt t tx)) [
      | inl less ↦ rw less rest
      | inr over ↦ rw over refl
    ]

accepted_other : (m : Options) (tx : TxId) (c : Choice) (t : TxId) → tx_eq tx t ≡ false → value_of (accepted (inserted m (tx, Mark.Accept c))) t ≡ value_of (accepted m) t
accepted_other [] tx c t h = rw h refl
accepted_other ((s, Mark.Accept x) ∷ es) tx c t h =
    let rest = accepted_other es tx c t h in
    elim (cases_Bool (tx_lt s tx)) [
      | inl less ↦ rw less (rw rest refl)
      | inr over ↦ rw (over, h) refl
    ]
accepted_other ((s, Mark.Reject) ∷ es) tx c t h =
    let rest = accepted_other es tx c t h in
    elim (cases_Bool (tx_lt s tx)) [
      | inl less ↦ rw less rest
      | inr over ↦ rw (over, h) refl
    ]

pub rejected_same : (m : Options) (tx : TxId) → accepted (inserted m (tx, Mark.Reject)) ≡ accepted m
rejected_same [] tx = refl
rejected_same ((s, Mark.Accept x) ∷ es) tx =
    elim (cases_Bool (tx_lt s tx)) [
      | inl less ↦ rw less (ap (λ m. (s, x.update) ∷ m) (rejected_same es tx))
      | inr over ↦ rw over refl
    ]
rejected_same ((s, Mark.Reject) ∷ es) tx =
    elim (cases_Bool (tx_lt s tx)) [
      | inl less ↦ rw less (rejected_same es tx)
      | inr over ↦ rw over refl
    ]

no_value : {X : Type 0} (o : Option X) → is_some o ≡ false → o ≡ None
no_value None h = refl
no_value (Some x) h = absurd (cc)

new_same : (a b : TxMap Update) (tx : TxId) → ((t : TxId) → tx_eq tx t ≡ false → value_of a t ≡ value_of b t) → (d : TxMap Amounts) → value_of d tx ≡ None
    → filter (is_new a) (map as_add d) ≡ filter (is_new b) (map as_add d)
new_same a b tx same [] none = refl
new_same a b tx same (e ∷ es) none =
    elim (cases_Bool (tx_eq e.0 tx)) [
      | inl is ↦ absurd (let bad : Some e.1 ≡ None = rw is at none in cc)
      | inr other ↦
          let rest = new_same a b tx same es (rw other at none) in
          let apart : tx_eq tx e.0 ≡ false = tx_eq-sym tx e.0 ∙ other in
          rw (same e.0 apart) (elim (cases_Bool (is_new b (as_add e))) [
            | inl keeps ↦ rw (keeps, rest) refl
            | inr leaves ↦ rw (leaves, rest) refl
          ])
    ]

module _ (facts : List Fact) (key : Key) (before : Options) (tx : TxId) (c : Choice) (free : is_some (value_of (executed_of facts key) tx) ≡ false) where
  none : value_of (executed_of facts key) tx ≡ None
  none = no_value (value_of (executed_of facts key) tx) free

  abbrev was : TxMap Update
  was = live_at_leader facts key (current_of facts key) before

  abbrev now : TxMap Update
  now = live_at_leader facts key (current_of facts key) (inserted before (tx, Mark.Accept c))

  more_sum : (g : TxId × Update → ℕ) → sum_over g now ≡ size_if (is_live_entry facts) g (tx, c.update) + sum_over g was
  more_sum g =
      let gp = size_if (is_live_entry facts) g in
      let d = map as_add (executed_of facts key) in
      let up : are_ascending d ≡ true = ascending-added (executed_of facts key) ∙ ascending-executed facts key in
      let a = accepted before in
      let a' = accepted (inserted before (tx, Mark.Accept c)) in
      let s = sum_over-filter (is_live_entry facts) g (union a d) ∙ sum_over-union gp a d up in
      let s' = sum_over-filter (is_live_entry facts) g (union a' d) ∙ sum_over-union gp a' d up in
      let one : sum_over gp a' ≡ gp (tx, c.update) + sum_over gp a = accepted_sum gp before tx c in
      let rest : sum_over gp (filter (is_new a') d) ≡ sum_over gp (filter (is_new a) d) =
      ap (sum_over gp) (new_same a' a tx (λ t apart. accepted_other before tx c t apart) (executed_of facts key) none)
      in
      omega (arith, s, s', one, rest)

  pub accepted_weighed : (load : Load) → IsWeighed facts key before load → IsWeighed facts key (inserted before (tx, Mark.Accept c)) (with_update facts load tx c.update)
  accepted_weighed load is = elim (cases_Bool (is_void facts tx)) [
    | inl void ↦
        let same : HaveSameSums now was = λ g.
        let m = more_sum g in
        let one : size_if (is_live_entry facts) g (tx, c.update) ≡ 0 = rw void refl in
        omega (arith, m, one)
        in
        rw void (is ∙ ap capped (sym (same_load now was [] same)))
    | inr live ↦
        let same : HaveSameSums now (was ++ (tx, c.update) ∷ []) = λ g.
        let m = more_sum g in
        let n = sum_over-append g was ((tx, c.update) ∷ []) in
        let one : size_if (is_live_entry facts) g (tx, c.update) ≡ g (tx, c.update) = rw live refl in
        omega (arith, m, n, one)
        in
        rw live (ap (λ l. with_live [] l (tx, c.update)) is ∙ load_more [] was (tx, c.update) ∙ ap capped (sym (same_load now (was ++ (tx, c.update) ∷ []) [] same)))
  ]

pub rejected_weighed : (facts : List Fact) (key : Key) (before : Options) (tx : TxId) (load : Load) → IsWeighed facts key before load → IsWeighed facts key (inserted before (tx, Mark.Reject)) load
rejected_weighed facts key before tx load is = rw (rejected_same before tx) is
