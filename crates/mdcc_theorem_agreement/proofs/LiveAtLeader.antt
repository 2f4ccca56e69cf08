-- What is live at an acceptor and at a leader, and what a fit there says.
use Rattle.std.proofs.Common.{◌≡◌, ℕ, ◌+◌, ◌≤◌, ◌==◌, Bool, true, false, List, [], ◌∷◌, length, refl, sym, ap, ◌∙◌, subst, arith, inl, inr, Option, Some, None, map}
use Rattle.std.proofs.lemmas.Bool.{and_parts, cases_Bool, eqb-true, or_cases, false≢true}
use Rattle.std.specs.List.{filter, filter_map, list_any}
use Rattle.std.specs.Option.{option_or}
use Rattle.std.specs.Prelude.{is_some, not}
use Rattle.mdcc_base.specs.TxId.{tx_eq}
use Rattle.mdcc_base.specs.declared.identifiers.TxId.{TxId}
use Rattle.mdcc_base.specs.declared.key.Key.{Key}
use Rattle.mdcc_option.specs.declared.choices.Choice.{Choice}
use Rattle.mdcc_option.specs.declared.choices.Mark.{Mark}
use Rattle.mdcc_option.specs.declared.choices.Mark.TheVariants.{Accept, Reject}
use Rattle.mdcc_option.specs.declared.cluster.Cluster.{Cluster}
use Rattle.mdcc_option.specs.declared.items.Update.{Update}
use Rattle.mdcc_option.specs.declared.items.Update.TheVariants.{Write, Add}
use Rattle.mdcc_struct.specs.Maps.{TxMap, value_of, union}
use Rattle.mdcc_struct.specs.declared.options.Options.{Options}
use Rattle.mdcc_def_protocol.specs.Facts as full
use Rattle.mdcc_def_ledger.specs.Ledger as ledger
use Rattle.mdcc_def_protocol.specs.Fit.{are_within_room, load_of}
use Rattle.mdcc_def_protocol.specs.Marks.{is_write, Amounts}
use Rattle.mdcc_def_protocol.specs.Structures.{fit_together, is_add_accepted, live_at_leader}
use Rattle.mdcc_def_messages.specs.declared.facts.Fact.{Fact}
use Rattle.mdcc_struct.proofs.Values.{value_of-union}
use Rattle.mdcc_theorem_agreement.proofs.Reduction.{setup_of, reduced, facts_same}
use Rattle.mdcc_theorem_agreement.proofs.FitsBound.{FitsExactly, exact_clear, exact_within, not_true, together_within, total_found}
use Rattle.mdcc_theorem_agreement.proofs.HeldReduced.{AllFine, current_same, base_same, executed_valued, executed_listed}
use Rattle.mdcc_theorem_agreement.proofs.MapValues.{mark_value, Once}
use Rattle.mdcc_theorem_agreement.proofs.ReducedFacts.{ReducedFact, executed, current, base}
use Rattle.mdcc_theorem_agreement.proofs.ReducedLedger.{facts_of, AreTogether, IsChoice, IsAcceptedIn, IsFit, Allowed, Executes, IsLive, MayCount, WasBegun}
use Rattle.mdcc_theorem_agreement.proofs.ReducedOptions.{In, Place, spot, allows, allows_delta, is_add}
use Rattle.mdcc_theorem_agreement.proofs.Totals.{total}
use Rattle.mdcc_theorem_agreement.proofs.BegunOnce.{HasAdd, begun_apart, executed_adds}
use Rattle.mdcc_theorem_agreement.proofs.LedgersGrow.{IsTail-same}
use Rattle.mdcc_theorem_agreement.proofs.VoidAborted.{not_void}
use Rattle.mdcc_theorem_agreement.proofs.TestsDecide.{Decides-tx}

-- ---- void

-- updates without those that are void
abbrev pub unvoid : List Fact → TxMap Update → TxMap Update
unvoid fs m = filter (λ e. not (full.is_void fs e.0)) m

pub value_unvoid : (fs : List Fact) (m : TxMap Update) (t : TxId) → full.is_void fs t ≡ false → value_of (unvoid fs m) t ≡ value_of m t
value_unvoid fs [] t h = refl
value_unvoid fs (e ∷ es) t h =
    elim (cases_Bool (full.is_void fs e.0)) [
      | inl v ↦ rw v (elim (cases_Bool (tx_eq e.0 t)) [
        | inl same ↦ absurd (false≢true (sym h ∙ ap (full.is_void fs) (sym ((Decides-tx e.0 t).0 same)) ∙ v))
        | inr other ↦ rw other (value_unvoid fs es t h)
      ])
      | inr v ↦ rw v (elim (cases_Bool (tx_eq e.0 t)) [
        | inl same ↦ rw same refl
        | inr other ↦ rw other (value_unvoid fs es t h)
      ])
    ]

pub value_In : {X : Type 0} (m : TxMap X) (t : TxId) (x : X) → value_of m t ≡ Some x → In (t, x) m
value_In [] t x h = absurd (cc)
value_In {X = X} (e ∷ es) t x h =
    elim (cases_Bool (tx_eq e.0 t)) [
      | inl same ↦
          let is : Some e.1 ≡ Some x = rw same at h in
          let value : e.1 ≡ x = cc in
          inl (Rattle.mdcc_theorem_agreement.proofs.TestsDecide.same_pair {A = TxId} {B = X} e (t, x) ((Decides-tx e.0 t).0 same, value))
      | inr other ↦ inr (value_In es t x (rw other at h))
    ]

-- the updates of accepted marks
abbrev pub updates_in : Options → TxMap Update
updates_in options = filter_map full.live_mark options

pub updates_value : (options : Options) (t : TxId) (c : Choice) → value_of options t ≡ Some (Accept c) → value_of (updates_in options) t ≡ Some c.update
updates_value [] t c h = absurd (cc)
updates_value ((u, Accept d) ∷ es) t c h =
    elim (cases_Bool (tx_eq u t)) [
      | inl e ↦ (let is : Some (Accept d) ≡ Some (Accept c) = rw e at h in let same : d ≡ c = cc in rw e (ap (λ z. Some z.update) same))
      | inr e ↦ (let more : value_of es t ≡ Some (Accept c) = rw e at h in rw e (updates_value es t c more))
    ]
updates_value ((u, Reject) ∷ es) t c h =
    elim (cases_Bool (tx_eq u t)) [
      | inl e ↦ (let bad : Some Reject ≡ Some (Accept c) = rw e at h in absurd (cc))
      | inr e ↦ updates_value es t c (rw e at h)
    ]

pub updates_from : (options : Options) (p : TxId × Update) → In p (updates_in options) → (c : Choice) × In (p.0, Accept c) options × (c.update ≡ p.1)
updates_from [] p h = absurd h
updates_from ((u, Accept d) ∷ es) p h =
    elim h [
      | inl here ↦ (d, inl (ap (λ (z : TxId × Update). let w : TxId × Mark = (z.0, Accept d) in w) here), ap (λ (z : TxId × Update). z.1) here)
      | inr there ↦ (let k : (c : Choice) × In (p.0, Accept c) es × (c.update ≡ p.1) = updates_from es p there in (k.0, inr k.1, k.2))
    ]
updates_from ((u, Reject) ∷ es) p h = (let k : (c : Choice) × In (p.0, Accept c) es × (c.update ≡ p.1) = updates_from es p h in (k.0, inr k.1, k.2))

-- the updates of deltas
abbrev pub adds_of : TxMap Amounts → TxMap Update
adds_of m = map (λ e. (e.0, Add e.1)) m

pub adds_some : (m : TxMap Amounts) (t : TxId) → is_some (value_of m t) ≡ true → is_some (value_of (adds_of m) t) ≡ true
adds_some [] t h = h
adds_some (e ∷ es) t h =
    elim (cases_Bool (tx_eq e.0 t)) [
      | inl same ↦ rw same refl
      | inr other ↦ rw other (adds_some es t (rw other at h))
    ]

pub adds_value : (m : TxMap Amounts) (t : TxId) (x : Amounts) → value_of m t ≡ Some x → value_of (adds_of m) t ≡ Some (Add x)
adds_value [] t x h = absurd (cc)
adds_value (e ∷ es) t x h =
    elim (cases_Bool (tx_eq e.0 t)) [
      | inl same ↦ (let is : Some e.1 ≡ Some x = rw same at h in let value : e.1 ≡ x = cc in rw same (ap (λ y. Some (Add y)) value))
      | inr other ↦ (let more : value_of es t ≡ Some x = rw other at h in rw other (adds_value es t x more))
    ]

-- what is not accepted has no update
pub updates_none : (options : Options) (t : TxId) → Once options → ((c : Choice) → value_of options t ≡ Some (Accept c) → ⊥) → value_of (updates_in options) t ≡ None
updates_none [] t once none = refl
updates_none ((v, Accept d) ∷ es) t once none =
    elim (cases_Bool (tx_eq v t)) [
      | inl e ↦ absurd (none d (rw e refl))
      | inr e ↦ rw e (updates_none es t once.1 (λ c g. none c (rw e g)))
    ]
updates_none ((v, Reject) ∷ es) t once none =
    elim (cases_Bool (tx_eq v t)) [
      | inl e ↦
          let gone : value_of es t ≡ None = ap (value_of es) (sym ((Decides-tx v t).0 e)) ∙ once.0 in
          updates_none es t once.1 (λ c g. let bad : None ≡ Some (Accept c) = sym gone ∙ g in cc)
      | inr e ↦ updates_none es t once.1 (λ c g. none c (rw e g))
    ]

pub adds_from : (m : TxMap Amounts) (p : TxId × Update) → In p (adds_of m) → (a : Amounts) × In (p.0, a) m × (Add a ≡ p.1)
adds_from [] p h = absurd h
adds_from (e ∷ es) p h =
    elim h [
      | inl here ↦ (
        e.1,
        inl (Rattle.mdcc_theorem_agreement.proofs.TestsDecide.same_pair {A = TxId} {B = Amounts} e (p.0, e.1) (ap (λ (z : TxId × Update). z.0) here, refl)),
        ap (λ (z : TxId × Update). z.1) here,
      )
      | inr there ↦ (let k : (a : Amounts) × In (p.0, a) es × (Add a ≡ p.1) = adds_from es p there in (k.0, inr k.1, k.2))
    ]

pub some_or_left : {X : Type 0} (a b : Option X) → is_some a ≡ true → is_some (option_or a b) ≡ true
some_or_left None b h = absurd (false≢true h)
some_or_left (Some x) b h = refl

pub some_or_right : {X : Type 0} (a b : Option X) → is_some b ≡ true → is_some (option_or a b) ≡ true
some_or_right None b h = h
some_or_right (Some x) b h = refl

pub some_value : {X : Type 0} (o : Option X) → is_some o ≡ true → (x : X) × (o ≡ Some x)
some_value None h = absurd (false≢true h)
some_value (Some x) h = (x, refl)

-- ---- at a leader

abbrev pub all_at_leader : List Fact → Key → ℕ → Options → TxMap Update
all_at_leader fs key version options = union (updates_in options) (adds_of (full.deltas_at fs key version))

leader_accepted : (fs : List Fact) (key : Key) (version : ℕ) (options : Options) (t : TxId) (c : Choice) → full.is_void fs t ≡ false →
    value_of options t ≡ Some (Accept c) → value_of (live_at_leader fs key version options) t ≡ Some c.update
leader_accepted fs key version options t c free h =
    value_unvoid fs (all_at_leader fs key version options) t free
    ∙ value_of-union (updates_in options) (adds_of (full.deltas_at fs key version)) t
    ∙ ap (λ o. option_or o (value_of (adds_of (full.deltas_at fs key version)) t)) (updates_value options t c h)

leader_there : (fs : List Fact) (key : Key) (version : ℕ) (options : Options) (t : TxId) → full.is_void fs t ≡ false →
    is_some (value_of (full.deltas_at fs key version) t) ≡ true → is_some (value_of (live_at_leader fs key version options) t) ≡ true
leader_there fs key version options t free h =
    ap is_some (value_unvoid fs (all_at_leader fs key version options) t free ∙ value_of-union (updates_in options) (adds_of (full.deltas_at fs key version)) t)
    ∙ some_or_right (value_of (updates_in options) t) (value_of (adds_of (full.deltas_at fs key version)) t) (adds_some (full.deltas_at fs key version) t h)

-- what an executed delta gives, unless its transaction has an accepted mark
leader_delta : (fs : List Fact) (key : Key) (version : ℕ) (options : Options) (t : TxId) (m : Amounts) → full.is_void fs t ≡ false →
    value_of (updates_in options) t ≡ None → value_of (full.deltas_at fs key version) t ≡ Some m → value_of (live_at_leader fs key version options) t ≡ Some (Add m)
leader_delta fs key version options t m free none h =
    value_unvoid fs (all_at_leader fs key version options) t free ∙ value_of-union (updates_in options) (adds_of (full.deltas_at fs key version)) t
    ∙ ap (λ o. option_or o (value_of (adds_of (full.deltas_at fs key version)) t)) none ∙ adds_value (full.deltas_at fs key version) t m h

-- what an executed delta asks, from what a live update asks
pub delta_allowed : (u : Update) (t : TxId) (x : Update) → allows u t x → allows_delta u t
delta_allowed (Write b s) t x h = h
delta_allowed (Add m) t x h = tt

-- what has no accepted Add takes nothing
any_there : {X : Type 0} (p : X → Bool) (xs : List X) (x : X) → In x xs → p x ≡ true → list_any p xs ≡ true
any_there p [] x h g = absurd h
any_there p (y ∷ ys) x h g =
    elim (cases_Bool (p y)) [
      | inl e ↦ rw e refl
      | inr e ↦ rw e (elim h [ inl here ↦ absurd (false≢true (sym e ∙ ap p here ∙ g)) | inr there ↦ any_there p ys x there g ])
    ]

no_add : (marks : Options) → list_any is_add_accepted marks ≡ false → (c : Choice) (u : Update) → c.update ≡ u → IsAcceptedIn marks c → is_add u ≡ false
no_add marks none c (Write b seen) e h = refl
no_add marks none c (Add m) e h =
    let add : is_add_accepted (c.tx, Accept c) ≡ true = ap (λ u. not (is_write u)) e in
    absurd (false≢true (sym none ∙ any_there is_add_accepted marks (c.tx, Accept c) (value_In marks c.tx (Accept c) (sym (mark_value c.tx marks) ∙ h)) add))

module _ (cluster : Cluster) (four : length cluster.schema ≤ 4) (es : List ledger.Entry) (allowed : Allowed (setup_of cluster) (reduced es)) (a : ℕ) (fine : AllFine (ledger.facts_of es a)) where
  abbrev own_facts : List Fact
  own_facts = ledger.facts_of es a

  abbrev reduced_facts : List ReducedFact
  reduced_facts = facts_of a (reduced es)

  pub held_now : (key : Key) → current reduced_facts key ≡ full.current_of own_facts key
  held_now key = ap (λ fs. current fs key) (facts_same a es) ∙ current_same own_facts key fine

  pub base_now : (key : Key) → base reduced_facts key ≡ full.base_of own_facts key
  base_now key = ap (λ fs. base fs key) (facts_same a es) ∙ base_same own_facts key fine

  -- a choice that may count is not void at the version held
  pub free_here : (i : Place) (d : Choice) → MayCount (setup_of cluster) (reduced es) i d → full.current_of own_facts i.key ≡ i.version → full.is_void own_facts d.tx ≡ false
  free_here i d counts held = not_void cluster es allowed a i d fine counts (held_now i.key ∙ held)

  -- the amounts of an executed delta are those of the choice
  pub delta_value : (i : Place) (d : Choice) → MayCount (setup_of cluster) (reduced es) i d → Executes reduced_facts i d →
      (x : Amounts) × (value_of (full.deltas_at own_facts i.key i.version) d.tx ≡ Some x) × (d.update ≡ Add x)
  delta_value i d counts executes =
      let some : (x : Amounts) × (value_of (full.deltas_at own_facts i.key i.version) d.tx ≡ Some x) =
      some_value (value_of (full.deltas_at own_facts i.key i.version) d.tx)
      (executed_valued own_facts i (d.tx, executes.0) (subst (λ fs. In (d.tx, executes.0) (executed fs i)) (facts_same a es) executes.2)) in
      let listed : In (d.tx, some.0) (full.deltas_at own_facts i.key i.version) = value_In (full.deltas_at own_facts i.key i.version) d.tx some.0 some.1 in
      let there : In (d.tx, some.0) (executed reduced_facts i) =
      subst (λ fs. In (d.tx, some.0) (executed fs i)) (sym (facts_same a es)) (executed_listed own_facts i (d.tx, some.0) listed) in
      let add : HasAdd (reduced es) (d.tx, some.0) i = executed_adds (setup_of cluster) (reduced es) allowed (reduced es) (IsTail-same (reduced es)) a i (d.tx, some.0) there in
      let begun : WasBegun (reduced es) d.tx add.1.0 = subst (λ t. WasBegun (reduced es) t add.1.0) add.2 add.1.1 in
      let same : add.0 ≡ d = begun_apart (setup_of cluster) (reduced es) d.tx add.1.0 allowed begun add.0 d add.1.2 (counts.1 add.1.0 begun)
      (ap (λ (z : Place). z.key) (add.3 ∙ sym counts.0)) in
      (some.0, some.1, ap (λ z. z.update) (sym same) ∙ add.4)

  -- what a leader counts is live with its own update
  pub is_live : (i : Place) (options : Options) → Once options → full.current_of own_facts i.key ≡ i.version → (d : Choice) → IsLive reduced_facts i options d →
      MayCount (setup_of cluster) (reduced es) i d → value_of (live_at_leader own_facts i.key i.version options) d.tx ≡ Some d.update
  is_live i options once held d live counts =
      elim live [
        | inl accepted ↦ leader_accepted own_facts i.key i.version options d.tx d (free_here i d counts held) (sym (mark_value d.tx options) ∙ accepted)
        | inr executes ↦
            let delta : (x : Amounts) × (value_of (full.deltas_at own_facts i.key i.version) d.tx ≡ Some x) × (d.update ≡ Add x) = delta_value i d counts executes.0 in
            leader_delta own_facts i.key i.version options d.tx delta.0 (free_here i d counts held)
            (updates_none options d.tx once (λ c g. executes.1 c (mark_value d.tx options ∙ g))) delta.1
            ∙ ap Some (sym delta.2)
      ]

  -- forced marks that fit together
  pub together_reduced : (i : Place) (marks : Options) → Once marks → fit_together cluster own_facts i.key i.version marks ≡ true → AreTogether (setup_of cluster) (reduced es) a i marks
  together_reduced i marks once h =
      elim (or_cases (not (list_any is_add_accepted marks)) _ h) [
        | inl none ↦ inl (λ c accepted. no_add marks (not_true (list_any is_add_accepted marks) none) c c.update refl accepted)
        | inr both ↦
            let parts : ((full.current_of own_facts i.key == i.version) ≡ true)
            × (are_within_room cluster (full.base_of own_facts i.key) (load_of (live_at_leader own_facts i.key i.version marks) []) ≡ true) = and_parts _ _ both in
            let held : full.current_of own_facts i.key ≡ i.version = eqb-true _ _ parts.0 in
            inr (record {
              held = held_now i.key ∙ held;
              within = λ q is ds apart among.
                  let whole : total (λ (p : TxId × Update). q.amount p.1) (live_at_leader own_facts i.key i.version marks) ≤ q.room (full.base_of own_facts i.key) =
                  together_within cluster (full.base_of own_facts i.key) (live_at_leader own_facts i.key i.version marks) q four parts.1 is in
                  let part : total (λ (d : Choice). q.amount d.update) ds ≤ total (λ (p : TxId × Update). q.amount p.1) (live_at_leader own_facts i.key i.version marks) =
                  total_found q.amount ds (live_at_leader own_facts i.key i.version marks) apart (λ d g. is_live i marks once held d (among d g).0 (among d g).1) in
                  let room : q.room (base reduced_facts i.key) ≡ q.room (full.base_of own_facts i.key) = ap q.room (base_now i.key) in
                  omega (arith, whole, part, room);
            })
      ]

  -- a choice that a leader accepts fits
  pub leader_fit : (i : Place) (options : Options) → Once options → (t : TxId) (c : Choice) → c.tx ≡ t → spot c ≡ i → IsChoice (reduced es) c →
      full.current_of own_facts i.key ≡ i.version → FitsExactly cluster (full.base_of own_facts i.key) (live_at_leader own_facts i.key i.version options) c.update →
      IsFit (setup_of cluster) 1 1 (reduced es) reduced_facts (IsAcceptedIn options) (IsLive reduced_facts i options) i t c
  leader_fit i options once t c own here begun held fits =
      record {
        own = own;
        here = here;
        begun = begun;
        held = held_now i.key ∙ held;
        clear = record {
          chosen = λ d g counts. exact_clear cluster (full.base_of own_facts i.key) (live_at_leader own_facts i.key i.version options) c.update fits (d.tx, d.update)
              (value_In (live_at_leader own_facts i.key i.version options) d.tx d.update (is_live i options once held d (inl g) counts));
          deltas = λ d g counts.
              let delta : (x : Amounts) × (value_of (full.deltas_at own_facts i.key i.version) d.tx ≡ Some x) × (d.update ≡ Add x) = delta_value i d counts g in
              let some : (x : Update) × (value_of (live_at_leader own_facts i.key i.version options) d.tx ≡ Some x) =
              some_value (value_of (live_at_leader own_facts i.key i.version options) d.tx) (leader_there own_facts i.key i.version options d.tx (free_here i d counts held) (ap is_some delta.1)) in
              delta_allowed c.update d.tx some.0 (exact_clear cluster (full.base_of own_facts i.key) (live_at_leader own_facts i.key i.version options) c.update fits (d.tx, some.0)
              (value_In (live_at_leader own_facts i.key i.version options) d.tx some.0 some.1));
        };
        within = λ q is positive ds apart among.
            let bound : total (λ (p : TxId × Update). q.amount p.1) (live_at_leader own_facts i.key i.version options) + q.amount c.update ≤ q.room (full.base_of own_facts i.key) =
            exact_within cluster (full.base_of own_facts i.key) (live_at_leader own_facts i.key i.version options) c.update q four fits is positive in
            let part : total (λ (d : Choice). q.amount d.update) ds ≤ total (λ (p : TxId × Update). q.amount p.1) (live_at_leader own_facts i.key i.version options) =
            total_found q.amount ds (live_at_leader own_facts i.key i.version options) apart (λ d g. is_live i options once held d (among d g).0 (among d g).1) in
            let room : q.room (base reduced_facts i.key) ≡ q.room (full.base_of own_facts i.key) = ap q.room (base_now i.key) in
            omega arith;
      }
