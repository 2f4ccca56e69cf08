-- In order of their commits the committed transactions fit what the earlier ones left of each key.
use Rattle.std.proofs.Common.{◌≡◌, ℕ, ◌+◌, ◌≤◌, true, false, List, [], ◌∷◌, ◌++◌, refl, sym, ap, ◌∙◌, subst, arith, inl, inr}
use Rattle.std.proofs.lemmas.Bool.{false≢true, cases_lt}
use Rattle.mdcc_base.specs.declared.identifiers.Ballot.{Ballot}
use Rattle.mdcc_base.specs.declared.identifiers.TxId.{TxId}
use Rattle.mdcc_base.specs.declared.key.Key.{Key}
use Rattle.mdcc_option.specs.declared.choices.Choice.{Choice}
use Rattle.mdcc_option.specs.declared.choices.Mark.TheVariants.{Accept}
use Rattle.mdcc_option.specs.declared.items.Item.{Item}
use Rattle.mdcc_option.specs.declared.items.Update.TheVariants.{Write, Add}
use Rattle.mdcc_def_protocol.specs.Marks.{Amounts}
use Rattle.mdcc_theorem_agreement.proofs.AcceptedAgree.{consistent}
use Rattle.mdcc_theorem_agreement.proofs.OneBase.{one_outcome, IsCommitted-tail, holds, Update-cases}
use Rattle.mdcc_theorem_agreement.proofs.BegunOnce.{begun_once, begun_own, begun_apart, In-append}
use Rattle.mdcc_theorem_agreement.proofs.LedgersGrow.{IsTail-same, IsTail-drop, Allowed-tail}
use Rattle.mdcc_theorem_agreement.proofs.LiveTotals.{In-right}
use Rattle.mdcc_theorem_agreement.proofs.Setups.{Setup, IsSetup}
use Rattle.mdcc_theorem_agreement.proofs.ReducedFacts.{executed, base}
use Rattle.mdcc_theorem_agreement.proofs.ReducedLedger.{IsTail, Entry, Happened, Begun, Valued, facts_of, WasBegun, IsChosen, IsAborted, IsCommitted, MayBegin, Allowed, Holds}
use Rattle.mdcc_theorem_agreement.proofs.ReducedOptions.{spot, In, Place, is_add, Agrees}
use Rattle.mdcc_theorem_agreement.proofs.TestsDecide.{same_place}
use Rattle.mdcc_theorem_agreement.proofs.Totals.{total}
use Rattle.mdcc_theorem_bounds.proofs.ChosenSums.{sums_chosen}
use Rattle.mdcc_theorem_bounds.proofs.ExecutedCommitted.{CommittedAdd, executed_committed}
use Rattle.mdcc_theorem_one_copy.proofs.Slots.{Slot, slot, Applies, IsRun, IsBatch, IsOrder}
use Rattle.mdcc_theorem_one_copy.proofs.SlotsLeft.{AllKeyed, Has, closed, write_below, delta_shows, delta_there, item_shows, OnceEach, AllOwn, deltas_apart}

-- where a transaction was begun
begun_at : (es : List Entry) (t : TxId) (cs : List Choice) → WasBegun es t cs → (a : ℕ) × (old : List Entry) × IsTail (Begun a t cs ∷ old) es
begun_at [] t cs h = absurd h
begun_at (Happened b f ∷ es) t cs h = let r : (a : ℕ) × (old : List Entry) × IsTail (Begun a t cs ∷ old) es = begun_at es t cs h in (r.0, r.1, inr r.2)
begun_at (Valued b j l sent ∷ es) t cs h = let r : (a : ℕ) × (old : List Entry) × IsTail (Begun a t cs ∷ old) es = begun_at es t cs h in (r.0, r.1, inr r.2)
begun_at (Begun b u ds ∷ es) t cs h =
    elim h [
      | inl here ↦ (b, es, inl (let tx : u ≡ t = here.0 in let choices : ds ≡ cs = here.1 in cc))
      | inr there ↦ let r : (a : ℕ) × (old : List Entry) × IsTail (Begun a t cs ∷ old) es = begun_at es t cs there in (r.0, r.1, inr r.2)
    ]

begun_before : (b : Entry) (old : List Entry) (e : Entry) (es : List Entry) → IsTail (b ∷ old) (e ∷ es) → IsTail old es
begun_before b old e es h =
    elim h [
      | inl same ↦ (let rest : old ≡ es = cc in subst (λ y. IsTail y es) (sym rest) (IsTail-same es))
      | inr there ↦ IsTail-drop b old es there
    ]

-- committed choices of one instance agree
agree_committed : (s : Setup) → IsSetup s → (es : List Entry) → Allowed s es → (t u : TxId) (cs ds : List Choice) → IsCommitted s es t cs → IsCommitted s es u ds →
    (t ≡ u → ⊥) → (c d : Choice) → In c cs → In d ds → (spot c) ≡ (spot d) → Agrees c d
agree_committed s sizes es legal t u cs ds g h other c d listed listed' place =
    let own : c.tx ≡ t = begun_own s es t cs legal g.0 c listed in
    let own' : d.tx ≡ u = begun_own s es u ds legal h.0 d listed' in
    let chosen : (k : Ballot) × IsChosen s es (spot c) k t (Accept c) = g.1 c listed in
    let chosen' : (k : Ballot) × IsChosen s es (spot d) k u (Accept d) = h.1 d listed' in
    consistent s es legal (spot c) sizes chosen.0 chosen'.0 c d
    (subst (λ z. IsChosen s es (spot c) chosen.0 z (Accept c)) (sym own) chosen.1)
    (subst (λ z. IsChosen s es z chosen'.0 d.tx (Accept d)) (sym place)
    (subst (λ z. IsChosen s es (spot d) chosen'.0 z (Accept d)) (sym own') chosen'.1))
    (λ same. other (sym own ∙ same ∙ own'))
    (λ aborted. one_outcome s sizes es legal t cs g (subst (IsAborted s es) own aborted))
    (λ aborted. one_outcome s sizes es legal u ds h (subst (IsAborted s es) own' aborted))

pub keyed_of : (s : Setup) (es : List Entry) → Allowed s es → (done : List (TxId × List Choice)) → ((x : TxId × List Choice) → In x done → IsCommitted s es x.0 x.1) → AllKeyed done
keyed_of s es legal done known = λ x h d f g k same. begun_apart s es x.0 x.1 legal (known x h).0 d f g k same

pub own_of : (s : Setup) (es : List Entry) → Allowed s es → (done : List (TxId × List Choice)) → ((x : TxId × List Choice) → In x done → IsCommitted s es x.0 x.1) → AllOwn done
own_of s es legal done known = λ x h c listed. begun_own s es x.0 x.1 legal (known x h).0 c listed

pub order_complete : (s : Setup) (es : List Entry) (done : List (TxId × List Choice)) → IsOrder s es done → (t : TxId) (cs : List Choice) → IsCommitted s es t cs → In (t, cs) done
order_complete s [] done order t cs h = absurd h.0
order_complete s (e ∷ es) done (batch, older, is, rest, a_batch, complete) t cs h = complete t cs h

module _ (s : Setup) (sizes : IsSetup s) (e : Entry) (es : List Entry) (legal : Allowed s (e ∷ es)) where
  -- what a committed Write has seen was committed before the entry
  seen_before : (t : TxId) (cs : List Choice) → WasBegun (e ∷ es) t cs → (c : Choice) → In c cs → (seen : List TxId) (b : Item) → c.update ≡ Write b seen →
      (u : TxId) → In u seen → (m : Amounts) × CommittedAdd s es (u, m) (spot c)
  seen_before t cs begun c listed seen b is u h =
      let r : (a : ℕ) × (old : List Entry) × IsTail (Begun a t cs ∷ old) (e ∷ es) = begun_at (e ∷ es) t cs begun in
      let may : MayBegin r.1 r.0 t cs = (Allowed-tail s (Begun r.0 t cs ∷ r.1) (e ∷ es) r.2 legal).1 in
      let there : (m : Amounts) × In (u, m) (executed (facts_of r.0 r.1) (spot c)) = may.seen c seen b listed is u h in
      (there.0, executed_committed s es legal.0 r.1 (begun_before (Begun r.0 t cs) r.1 e es r.2) r.0 (spot c) (u, there.0) there.1)

  -- a committed choice is chosen and not aborted
  live_choice : (t : TxId) (cs : List Choice) → IsCommitted s (e ∷ es) t cs → (c : Choice) → In c cs → (i : Place) → (spot c) ≡ i →
      ((k : Ballot) × IsChosen s (e ∷ es) i k c.tx (Accept c)) × (IsAborted s (e ∷ es) c.tx → ⊥)
  live_choice t cs committed c listed i at_i =
      let own : c.tx ≡ t = begun_own s (e ∷ es) t cs legal committed.0 c listed in
      let chosen : (k : Ballot) × IsChosen s (e ∷ es) (spot c) k t (Accept c) = committed.1 c listed in (
        (
          chosen.0,
          subst (λ z. IsChosen s (e ∷ es) z chosen.0 c.tx (Accept c)) at_i
              (subst (λ z. IsChosen s (e ∷ es) (spot c) chosen.0 z (Accept c)) (sym own) chosen.1),
        ),
        (λ aborted. one_outcome s sizes (e ∷ es) legal t cs committed (subst (IsAborted s (e ∷ es)) own aborted)),
      )

  -- one more transaction
  applies : (done : List (TxId × List Choice)) → IsRun s done → AllKeyed done → OnceEach done → AllOwn done →
      ((x : TxId × List Choice) → In x done → IsCommitted s (e ∷ es) x.0 x.1) →
      ((t : TxId) (cs : List Choice) → IsCommitted s es t cs → In (t, cs) done) →
      (t : TxId) (cs : List Choice) → IsCommitted s (e ∷ es) t cs → (IsCommitted s es t cs → ⊥) → ((x : TxId × List Choice) → In x done → x.0 ≡ t → ⊥) →
      Applies s done (t, cs)
  applies done run keyed once own all_committed complete t cs committed fresh apart c listed =
      let key : Key = c.key in
      let here : Slot = slot done c.key in
      let r : (a : ℕ) × (old : List Entry) × IsTail (Begun a t cs ∷ old) (e ∷ es) = begun_at (e ∷ es) t cs committed.0 in
      let may : MayBegin r.1 r.0 t cs = (Allowed-tail s (Begun r.0 t cs ∷ r.1) (e ∷ es) r.2 legal).1 in
      let older : IsTail r.1 es = begun_before (Begun r.0 t cs) r.1 e es r.2 in
      let mine : c.tx ≡ t = begun_own s (e ∷ es) t cs legal committed.0 c listed in
      let hold : Holds s es c.key c.version (base (facts_of r.0 r.1) c.key) =
      subst (λ z. Holds s es c.key z (base (facts_of r.0 r.1) c.key)) (may.held c listed) (holds s sizes es legal.0 r.1 older r.0 c.key) in
      -- a choice of the run on this key and version agrees
      let agrees : (d : Choice) → Has done c.key d → d.version ≡ c.version → Agrees c d =
      λ d has now. agree_committed s sizes (e ∷ es) legal t has.0.0 cs has.0.1 committed (all_committed has.0 has.1)
      (λ same. apart has.0 has.1 (sym same)) c d listed has.2 (same_place (spot c) (spot d) (sym has.3, sym now)) in
      let at_least : c.version ≤ (slot done c.key).version =
      elim hold [
        | inl first ↦ omega (arith, first.0)
        | inr gave ↦
            let write : Has done c.key gave.3.0 = ((gave.1, gave.0), complete gave.1 gave.0 gave.2, gave.3.3, gave.3.4) in
            omega (arith, gave.3.5, write_below s done c.key gave.3.0 run keyed write (ap is_add gave.3.6))
      ] in
      let at_most : (slot done c.key).version ≤ c.version =
      elim (cases_lt c.version (slot done c.key).version) [
        | inl over ↦ absurd (
            let w : (d : Choice) × Has done c.key d × (d.version ≡ c.version) × (is_add d.update ≡ false) = closed s done c.key c.version run over in
            elim (Update-cases w.0.update) [
              | inl wrote ↦ elim (Update-cases c.update) [
                | inl also ↦ (let none : ⊥ = rw (also.2, wrote.2) at (agrees w.0 w.1 w.2) in none)
                | inr add ↦
                    (let seen : In c.tx wrote.0 = rw (add.1, wrote.2) at (agrees w.0 w.1 w.2) in
                    let seen_there : (m : Amounts) × CommittedAdd s es (c.tx, m) (spot w.0) =
                    seen_before w.1.0.0 w.1.0.1 (all_committed w.1.0 w.1.1).0 w.0 w.1.2 wrote.0 wrote.1 wrote.2 c.tx seen in
                    let before : CommittedAdd s es (c.tx, seen_there.0) (spot w.0) = seen_there.1 in
                    let earlier : IsCommitted s es t before.0 = subst (λ z. IsCommitted s es z before.0) mine before.1 in
                    let same : before.0 ≡ cs = begun_once s (e ∷ es) t before.0 cs legal
                    (IsCommitted-tail s t before.0 es (e ∷ es) (inr (IsTail-same es)) earlier).0 committed.0 in
                    fresh (subst (IsCommitted s es t) same earlier))
              ]
              | inr add ↦ false≢true (sym w.3 ∙ ap is_add add.1)
            ])
        | inr under ↦ under
      ] in
      let version : (slot done c.key).version ≡ c.version = omega arith in (
        version,
        elim (Update-cases c.update) [
          | inl w ↦ rw w.2 (
            (λ d delta.
                let shown : Has done c.key d × (d.version ≡ (slot done c.key).version) × (is_add d.update ≡ true) = delta_shows s done c.key d run delta in
                elim (Update-cases d.update) [
                  | inl bad ↦ absurd (false≢true (sym (ap is_add bad.2) ∙ shown.2))
                  | inr add ↦ rw (w.2, add.1) at (agrees d shown.0 (shown.1 ∙ version))
                ]),
            (λ u h.
                let seen_there : (m : Amounts) × CommittedAdd s es (u, m) (spot c) = seen_before t cs committed.0 c listed w.0 w.1 w.2 u h in
                let before : CommittedAdd s es (u, seen_there.0) (spot c) = seen_there.1 in
                let has : Has done c.key before.2 = ((u, before.0), complete u before.0 before.1, before.3, ap (λ (z : Place). z.key) before.4) in (
                  before.2,
                  delta_there s done c.key before.2 run keyed has (ap is_add before.5) (ap (λ (z : Place). z.version) before.4 ∙ sym version),
                  own (u, before.0) has.1 before.2 before.3,
                )),
          )
          | inr a ↦ rw a.1 (
            (elim (item_shows s done c.key run) [
              | inl first ↦ absurd (omega (arith, first.0, may.above c listed (ap is_add a.1)))
              | inr w ↦ (w.2, w.6)
            ]),
            (λ q listed_q.
                let room : Holds s (e ∷ es) c.key c.version (slot done c.key).item =
                elim (item_shows s done c.key run) [
                  | inl first ↦ inl (sym version ∙ first.0, first.1)
                  | inr w ↦ inr (w.3.0.1, w.3.0.0, all_committed w.3.0 w.3.1, (w.0, w.1, w.2, w.3.2, w.3.3, w.4 ∙ version, w.5, w.6))
                ] in
                let bound : q.amount c.update + total (λ d. q.amount d.update) (slot done c.key).deltas ≤ q.room (slot done c.key).item =
                sums_chosen s sizes (e ∷ es) legal (spot c) q listed_q (slot done c.key).item room (c ∷ (slot done c.key).deltas) (
                  (λ d delta same.
                      let has : Has done c.key d = (delta_shows s done c.key d run delta).0 in
                      apart has.0 has.1 (sym (own has.0 has.1 d has.2) ∙ same ∙ mine)),
                  deltas_apart s done c.key run once own,
                )
                (λ d in_all. elim in_all [
                  | inl is_c ↦ subst (λ z. ((k : Ballot) × IsChosen s (e ∷ es) (spot c) k z.tx (Accept z)) × (IsAborted s (e ∷ es) z.tx → ⊥)) is_c
                      (live_choice t cs committed c listed (spot c) refl)
                  | inr delta ↦
                      let shown : Has done c.key d × (d.version ≡ (slot done c.key).version) × (is_add d.update ≡ true) = delta_shows s done c.key d run delta in
                      live_choice shown.0.0.0 shown.0.0.1 (all_committed shown.0.0 shown.0.1) d shown.0.2 (spot c)
                      (same_place (spot d) (spot c) (shown.0.3, shown.1 ∙ version))
                ]) in
                let same_amount : q.amount c.update ≡ q.amount (Add a.0) = ap q.amount a.1 in
                omega arith),
          )
        ],
      )

  -- the older commits are all that the older ledger has; with a batch on top it is a run
  batch_run : (older : List (TxId × List Choice)) → IsRun s older → AllKeyed older → OnceEach older → AllOwn older →
      ((x : TxId × List Choice) → In x older → IsCommitted s es x.0 x.1) →
      ((t : TxId) (cs : List Choice) → IsCommitted s es t cs → In (t, cs) older) →
      (batch : List (TxId × List Choice)) → IsBatch s e es batch →
      IsRun s (batch ++ older) × OnceEach (batch ++ older) × ((x : TxId × List Choice) → In x (batch ++ older) → IsCommitted s (e ∷ es) x.0 x.1)
  batch_run older run keyed once own known complete [] is =
      (run, once, (λ x h. IsCommitted-tail s x.0 x.1 es (e ∷ es) (inr (IsTail-same es)) (known x h)))
  batch_run older run keyed once own known complete (x ∷ batch) is =
      let rest : IsRun s (batch ++ older) × OnceEach (batch ++ older) × ((y : TxId × List Choice) → In y (batch ++ older) → IsCommitted s (e ∷ es) y.0 y.1) =
      batch_run older run keyed once own known complete batch is.3 in
      let new : (y : TxId × List Choice) → In y (batch ++ older) → y.0 ≡ x.0 → ⊥ =
      λ y h same. elim (In-append y batch older h) [
        | inl now ↦ is.2 y now same
        | inr before ↦
            let earlier : IsCommitted s es x.0 y.1 = subst (λ z. IsCommitted s es z y.1) same (known y before) in
            let choices : y.1 ≡ x.1 = begun_once s (e ∷ es) x.0 y.1 x.1 legal (IsCommitted-tail s x.0 y.1 es (e ∷ es) (inr (IsTail-same es)) earlier).0 is.0.0 in
            is.1 (subst (IsCommitted s es x.0) choices earlier)
      ] in (
        (
          rest.0,
          applies (batch ++ older) rest.0 (keyed_of s (e ∷ es) legal (batch ++ older) rest.2) rest.1 (own_of s (e ∷ es) legal (batch ++ older) rest.2) rest.2
              (λ t cs h. In-right (t, cs) batch older (complete t cs h)) x.0 x.1 is.0 is.1 new,
        ),
        (new, rest.1),
        (λ y h. elim h [
          | inl here ↦ subst (λ (z : TxId × List Choice). IsCommitted s (e ∷ es) z.0 z.1) here is.0
          | inr there ↦ rest.2 y there
        ]),
      )

-- the committed transactions, in the order in which they became so, are a run
pub run_order : (s : Setup) → IsSetup s → (es : List Entry) → Allowed s es → (done : List (TxId × List Choice)) → IsOrder s es done →
    IsRun s done × OnceEach done × ((x : TxId × List Choice) → In x done → IsCommitted s es x.0 x.1)
run_order s sizes [] legal done order = rw order (tt, tt, (λ x h. absurd h))
run_order s sizes (e ∷ es) legal done (batch, older, is, rest, a_batch, complete) =
    let before : IsRun s older × OnceEach older × ((x : TxId × List Choice) → In x older → IsCommitted s es x.0 x.1) = run_order s sizes es legal.0 older rest in
    rw is (batch_run s sizes e es legal older before.0 (keyed_of s es legal.0 older before.2) before.1 (own_of s es legal.0 older before.2) before.2
    (order_complete s es older rest) batch a_batch)

pub run : (s : Setup) → IsSetup s → (es : List Entry) → Allowed s es → (done : List (TxId × List Choice)) → IsOrder s es done → IsRun s done
run s sizes es legal done order = (run_order s sizes es legal done order).0
