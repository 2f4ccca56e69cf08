-- What is live at an acceptor: each of it is what a begun choice of the instance takes, and each accepted vote is in it.
use Rattle.std.proofs.Common.{◌≡◌, ℕ, ◌+◌, ◌-◌, ◌*◌, ◌≤◌, ◌==◌, true, false, ◌&&◌, List, [], ◌∷◌, length, refl, sym, ap, ◌∙◌, subst, arith, inl, inr, Some, None, Bool, ◌<◌, ◌⊎◌}
use Rattle.std.proofs.Math.Nat.{mul-le-mul_left}
use Rattle.std.proofs.lemmas.Bool.{cases_Bool, and_parts, and_from, eqb-true, ltb-true, false≢true}
use Rattle.std.specs.Option.{option_or}
use Rattle.std.specs.Prelude.{is_some, not}
use Rattle.mdcc_base.specs.Ballot.{ballot_eq}
use Rattle.mdcc_base.specs.Key.{key_eq}
use Rattle.mdcc_base.specs.declared.identifiers.Ballot.{Ballot}
use Rattle.mdcc_base.specs.declared.identifiers.TxId.{TxId}
use Rattle.mdcc_base.specs.declared.key.Key.{Key}
use Rattle.mdcc_option.specs.declared.choices.Choice.{Choice}
use Rattle.mdcc_option.specs.declared.choices.Mark.TheVariants.{Accept}
use Rattle.mdcc_option.specs.declared.cluster.Cluster.{Cluster}
use Rattle.mdcc_option.specs.declared.items.Update.{Update}
use Rattle.mdcc_option.specs.declared.items.Update.TheVariants.{Add}
use Rattle.mdcc_struct.specs.Maps.{value_of}
use Rattle.mdcc_def_protocol.specs.Fit.{parts_of}
use Rattle.mdcc_def_protocol.specs.Facts as full
use Rattle.mdcc_def_ledger.specs.Ledger as ledger
use Rattle.mdcc_def_protocol.specs.Marks.{Amounts}
use Rattle.mdcc_def_messages.specs.declared.facts.Fact.{Fact}
use Rattle.mdcc_struct.proofs.Values.{value_of-union}
use Rattle.mdcc_struct.proofs.Reports.{cases_Option}
use Rattle.mdcc_theorem_agreement.proofs.BegunOnce.{one_choice, executed_adds, HasAdd}
use Rattle.mdcc_theorem_agreement.proofs.Reduction.{setup_of, reduced_fact, reduced, facts_reduced, facts_same}
use Rattle.mdcc_theorem_agreement.proofs.FitsBound.{FitsFast, fast_exact, fast_within, exact_clear, total_found}
use Rattle.mdcc_theorem_agreement.proofs.HeldReduced.{AllFine, In-union, executed_valued, deltas_same}
use Rattle.mdcc_theorem_agreement.proofs.LedgersGrow.{IsTail-same}
use Rattle.mdcc_theorem_agreement.proofs.LiveTotals.{In-left, In-right}
use Rattle.mdcc_theorem_agreement.proofs.LiveAtLeader.{value_unvoid, value_In, updates_in, updates_value, updates_from, adds_of, adds_some, adds_from, some_or_left, some_or_right, some_value, delta_allowed, held_now, base_now, free_here}
use Rattle.mdcc_theorem_agreement.proofs.SumsWithinRooms.{any_choice, listed_fact}
use Rattle.mdcc_theorem_agreement.proofs.Setups.{IsSetup}
use Rattle.mdcc_theorem_agreement.proofs.ReducedFacts.{ReducedFact, Voted, votes, executed, executed_by, base, IsAcceptedVote}
use Rattle.mdcc_theorem_agreement.proofs.ReducedLedger.{facts_of, IsChoice, IsFit, Allowed, MayCount}
use Rattle.mdcc_theorem_agreement.proofs.ReducedOptions.{In, Place, spot, mark_of}
use Rattle.mdcc_theorem_agreement.proofs.TestsDecide.{same_place, Decides-key}
use Rattle.mdcc_theorem_agreement.proofs.Totals.{total}
use Rattle.mdcc_theorem_agreement.proofs.ViewsReduced.{votes_same}
use Rattle.mdcc_option.specs.declared.choices.Mark.{Mark}
use Rattle.mdcc_struct.specs.declared.options.Options.{Options}
use Rattle.std.specs.List.{filter}
use Rattle.mdcc_theorem_agreement.proofs.FloorsReduced.{value_left}

-- an accepted vote makes its transaction live
voted_live : (gone : TxId → Bool) (f : Fact) (key : Key) (version : ℕ) (k : Ballot) (t : TxId) (c : Choice) → value_of (full.marks_voted key version k f) t ≡ Some (Accept c) → gone t ≡ false →
    is_some (value_of (full.live_from gone key version f) t) ≡ true
voted_live gone (Fact.Booted epoch) key version k t c h kept = absurd (cc)
voted_live gone (Fact.Floor centre epoch seq) key version k t c h kept = absurd (cc)
voted_live gone (Fact.Promised k' low high b) key version k t c h kept = absurd (cc)
voted_live gone (Fact.Heard u o) key version k t c h kept = absurd (cc)
voted_live gone (Fact.Adopted k' v item adds) key version k t c h kept = absurd (cc)
voted_live gone (Fact.Voted k' v b options offered) key version k t c h kept =
    elim (cases_Bool (((v == version) && ballot_eq b k) && key_eq k' key)) [
      | inl e ↦
          let given : value_of options t ≡ Some (Accept c) = rw e at h in
          let one : (((v == version) && ballot_eq b k) ≡ true) × (key_eq k' key ≡ true) = and_parts _ _ e in
          let two : ((v == version) ≡ true) × (ballot_eq b k ≡ true) = and_parts _ _ one.0 in
          let test : ((v == version) && key_eq k' key) ≡ true = and_from _ _ two.0 one.1 in
          rw test (ap is_some (updates_value (filter (λ e. not (gone e.0)) options) t c (value_left gone options t kept ∙ given)))
      | inr e ↦ (let bad : None ≡ Some (Accept c) = rw e at h in absurd (cc))
    ]

pub vote_live : (gone : TxId → Bool) (fs : List Fact) (key : Key) (version : ℕ) (k : Ballot) (t : TxId) (c : Choice) → value_of (full.votes_of fs key version k) t ≡ Some (Accept c) → gone t ≡ false →
    is_some (value_of (full.live_and_void gone fs key version) t) ≡ true
vote_live gone [] key version k t c h kept = absurd (cc)
vote_live gone (f ∷ fs) key version k t c h kept =
    let both : option_or (value_of (full.votes_of fs key version k) t) (value_of (full.marks_voted key version k f) t) ≡ Some (Accept c) =
    sym (value_of-union (full.votes_of fs key version k) (full.marks_voted key version k f) t) ∙ h in
    ap is_some (value_of-union (full.live_and_void gone fs key version) (full.live_from gone key version f) t)
    ∙ elim (cases_Option (value_of (full.votes_of fs key version k) t)) [
      | inl none ↦ some_or_right (value_of (full.live_and_void gone fs key version) t) (value_of (full.live_from gone key version f) t)
          (voted_live gone f key version k t c (let is : option_or None (value_of (full.marks_voted key version k f) t) ≡ Some (Accept c) = rw none at both in is) kept)
      | inr some ↦ some_or_left (value_of (full.live_and_void gone fs key version) t) (value_of (full.live_from gone key version f) t)
          (vote_live gone fs key version k t c (some.1 ∙ (let is : Some some.0 ≡ Some (Accept c) = rw some.1 at both in is)) kept)
    ]

-- and an executed delta does
delta_in : (gone : TxId → Bool) (f : Fact) (key : Key) (version : ℕ) (t : TxId) → is_some (value_of (full.deltas_from key version f) t) ≡ true → is_some (value_of (full.live_from gone key version f) t) ≡ true
delta_in gone (Fact.Booted epoch) key version t h = absurd (false≢true h)
delta_in gone (Fact.Floor centre epoch seq) key version t h = absurd (false≢true h)
delta_in gone (Fact.Promised k' low high b) key version t h = absurd (false≢true h)
delta_in gone (Fact.Voted k' v b options offered) key version t h = absurd (false≢true h)
delta_in gone (Fact.Heard u o) key version t h = adds_some (full.deltas_from key version (Fact.Heard u o)) t h
delta_in gone (Fact.Adopted k' v item adds) key version t h = adds_some (full.deltas_from key version (Fact.Adopted k' v item adds)) t h

delta_live : (gone : TxId → Bool) (fs : List Fact) (key : Key) (version : ℕ) (t : TxId) → is_some (value_of (full.deltas_at fs key version) t) ≡ true → is_some (value_of (full.live_and_void gone fs key version) t) ≡ true
delta_live gone [] key version t h = absurd (false≢true h)
delta_live gone (f ∷ fs) key version t h =
    let both : is_some (option_or (value_of (full.deltas_at fs key version) t) (value_of (full.deltas_from key version f) t)) ≡ true =
    ap is_some (sym (value_of-union (full.deltas_at fs key version) (full.deltas_from key version f) t)) ∙ h in
    ap is_some (value_of-union (full.live_and_void gone fs key version) (full.live_from gone key version f) t)
    ∙ elim (cases_Option (value_of (full.deltas_at fs key version) t)) [
      | inl none ↦ some_or_right (value_of (full.live_and_void gone fs key version) t) (value_of (full.live_from gone key version f) t)
          (delta_in gone f key version t (let is : is_some (option_or None (value_of (full.deltas_from key version f) t)) ≡ true = rw none at both in is))
      | inr some ↦ some_or_left (value_of (full.live_and_void gone fs key version) t) (value_of (full.live_from gone key version f) t)
          (delta_live gone fs key version t (ap is_some some.1))
    ]

-- where each live update comes from
live_from : (gone : TxId → Bool) (fs : List Fact) (key : Key) (version : ℕ) (p : TxId × Update) → In p (full.live_and_void gone fs key version) → (f : Fact) × In f fs × In p (full.live_from gone key version f)
live_from gone [] key version p h = absurd h
live_from gone (f ∷ fs) key version p h =
    elim (In-union (full.live_and_void gone fs key version) (full.live_from gone key version f) p h) [
      | inl before ↦ (let k : (g : Fact) × In g fs × In p (full.live_from gone key version g) = live_from gone fs key version p before in (k.0, inr k.1, k.2))
      | inr now ↦ (f, inl refl, now)
    ]

In-reduced : (f : Fact) (fs : List Fact) → In f fs → In (reduced_fact f) (facts_reduced fs)
In-reduced f [] h = h
In-reduced f (g ∷ fs) h = elim h [ inl here ↦ inl (ap reduced_fact here) | inr there ↦ inr (In-reduced f fs there) ]

executed_fact : (f : Fact) (fs : List Fact) (i : Place) (p : TxId × Amounts) → In f fs → In p (executed_by (reduced_fact f) i) → In p (executed (facts_reduced fs) i)
executed_fact f [] i p h g = absurd h
executed_fact f (e ∷ fs) i p h g =
    elim h [
      | inl here ↦ In-left p (executed_by (reduced_fact e) i) (executed (facts_reduced fs) i) (subst (λ z. In p (executed_by (reduced_fact z) i)) (sym here) g)
      | inr there ↦ In-right p (executed_by (reduced_fact e) i) (executed (facts_reduced fs) i) (executed_fact f fs i p there g)
    ]

In-left_of : (p : TxId × Mark → Bool) (x : TxId × Mark) (xs : Options) → In x (filter p xs) → In x xs
In-left_of p x [] h = h
In-left_of p x (y ∷ ys) h =
    elim (cases_Bool (p y)) [
      | inl e ↦ (let listed : (y ≡ x) ⊎ In x (filter p ys) = rw e at h in elim listed [ inl here ↦ inl here | inr there ↦ inr (In-left_of p x ys there) ])
      | inr e ↦ inr (In-left_of p x ys (rw e at h))
    ]

module _ (cluster : Cluster) (sizes : IsSetup (setup_of cluster)) (four : length cluster.schema ≤ 4) (es : List ledger.Entry) (allowed : Allowed (setup_of cluster) (reduced es))
    (a : ℕ) (fine : AllFine (ledger.facts_of es a)) where
  abbrev own_facts : List Fact
  own_facts = ledger.facts_of es a

  abbrev reduced_facts : List ReducedFact
  reduced_facts = facts_of a (reduced es)

  -- what is forgotten there
  abbrev gone_at : Place → TxId → Bool
  gone_at i t = full.is_forgotten own_facts i.key i.version t

  abbrev Origin : Place → TxId × Update → Type 0
  Origin i p = (c : Choice) × IsChoice (reduced es) c × (c.tx ≡ p.0) × (spot c ≡ i) × (c.update ≡ p.1)

  delta_origin : (i : Place) (p : TxId × Update) (f : Fact) → In f own_facts → In p (adds_of (full.deltas_from i.key i.version f)) → Origin i p
  delta_origin i p f h g =
      let from : (m : Amounts) × In (p.0, m) (full.deltas_from i.key i.version f) × (Add m ≡ p.1) = adds_from (full.deltas_from i.key i.version f) p g in
      let listed : In (p.0, from.0) (executed (facts_reduced own_facts) i) = executed_fact f own_facts i (p.0, from.0) h (subst (In (p.0, from.0)) (deltas_same f i) from.1) in
      let add : HasAdd (reduced es) (p.0, from.0) i = executed_adds (setup_of cluster) (reduced es) allowed (reduced es) (IsTail-same (reduced es)) a i (p.0, from.0)
      (subst (λ fs. In (p.0, from.0) (executed fs i)) (sym (facts_same a es)) listed) in
      (add.0, add.1, add.2, add.3, add.4 ∙ from.2)

  origin : (i : Place) (p : TxId × Update) (f : Fact) → In f own_facts → In p (full.live_from (gone_at i) i.key i.version f) → Origin i p
  origin i p (Fact.Booted epoch) h g = absurd g
  origin i p (Fact.Floor centre epoch seq) h g = absurd g
  origin i p (Fact.Promised k' low high b) h g = absurd g
  origin i p (Fact.Heard u o) h g = delta_origin i p (Fact.Heard u o) h g
  origin i p (Fact.Adopted k' v item adds) h g = delta_origin i p (Fact.Adopted k' v item adds) h g
  origin i p (Fact.Voted k' v b options offered) h g =
      elim (cases_Bool ((v == i.version) && key_eq k' i.key)) [
        | inl e ↦
            let parts : ((v == i.version) ≡ true) × (key_eq k' i.key ≡ true) = and_parts _ _ e in
            let listed : In p (updates_in (filter (λ e. not (gone_at i e.0)) options)) = rw e at g in
            let kept : (c : Choice) × In (p.0, Accept c) (filter (λ e. not (gone_at i e.0)) options) × (c.update ≡ p.1) = updates_from (filter (λ e. not (gone_at i e.0)) options) p listed in
            let from : (c : Choice) × In (p.0, Accept c) options × (c.update ≡ p.1) = (kept.0, In-left_of (λ e. not (gone_at i e.0)) (p.0, Accept kept.0) options kept.1, kept.2) in
            let there : In (Voted (record { key = k'; version = v }) b options) reduced_facts =
            subst (In (Voted (record { key = k'; version = v }) b options)) (sym (facts_same a es)) (In-reduced (Fact.Voted k' v b options offered) own_facts h) in
            let is : (from.0.tx ≡ p.0) × IsChoice (reduced es) from.0 × (spot from.0 ≡ record { key = k'; version = v }) =
            listed_fact (setup_of cluster) sizes (reduced es) allowed a (reduced es) (IsTail-same (reduced es)) (record { key = k'; version = v }) b options there p.0 from.0 from.1 in
            (from.0, is.1, is.0, is.2 ∙ same_place (record { key = k'; version = v }) i ((Decides-key k' i.key).0 parts.1, eqb-true v i.version parts.0), from.2)
        | inr e ↦ (let none : ⊥ = rw e at g in absurd none)
      ]

  -- at the version held nothing is forgotten
  none_gone : (i : Place) (t : TxId) → full.current_of own_facts i.key ≡ i.version → gone_at i t ≡ false
  none_gone i t held =
      elim (cases_Bool (gone_at i t)) [
        | inl e ↦ absurd (let over : i.version < full.current_of own_facts i.key = ltb-true _ _ (and_parts _ _ e).1 in omega arith)
        | inr e ↦ e
      ]

  -- an accepted vote that may count is live with its own update
  accepted_live : (i : Place) (d : Choice) → full.current_of own_facts i.key ≡ i.version → IsAcceptedVote reduced_facts i d → MayCount (setup_of cluster) (reduced es) i d → value_of (full.live_of own_facts i.key i.version) d.tx ≡ Some d.update
  accepted_live i d held vote counts =
      let given : value_of (full.votes_of own_facts i.key i.version vote.0) d.tx ≡ Some (Accept d) =
      sym (votes_same own_facts i vote.0 d.tx) ∙ ap (λ fs. mark_of d.tx (votes fs i vote.0)) (sym (facts_same a es)) ∙ vote.1 in
      let some : (x : Update) × (value_of (full.live_and_void (gone_at i) own_facts i.key i.version) d.tx ≡ Some x) =
      some_value (value_of (full.live_and_void (gone_at i) own_facts i.key i.version) d.tx) (vote_live (gone_at i) own_facts i.key i.version vote.0 d.tx d given (none_gone i d.tx held)) in
      let from : (f : Fact) × In f own_facts × In (d.tx, some.0) (full.live_from (gone_at i) i.key i.version f) =
      live_from (gone_at i) own_facts i.key i.version (d.tx, some.0) (value_In (full.live_and_void (gone_at i) own_facts i.key i.version) d.tx some.0 some.1) in
      let c : Origin i (d.tx, some.0) = origin i (d.tx, some.0) from.0 from.1 from.2 in
      let is : (d.tx ≡ d.tx) × IsChoice (reduced es) d × (spot d ≡ i) = any_choice (setup_of cluster) sizes (reduced es) allowed i a vote.0 d.tx d vote.1 in
      let same : c.0 ≡ d = one_choice (setup_of cluster) (reduced es) c.0 d allowed c.1 is.1 c.2 (c.3 ∙ sym is.2) in
      value_unvoid own_facts (full.live_and_void (gone_at i) own_facts i.key i.version) d.tx (free_here cluster four es allowed a fine i d counts held) ∙ some.1 ∙ ap Some (sym c.4 ∙ ap (λ z. z.update) same)

  pub acceptor_fit : (i : Place) (t : TxId) (c : Choice) → c.tx ≡ t → spot c ≡ i → IsChoice (reduced es) c →
      full.current_of own_facts i.key ≡ i.version → FitsFast cluster (full.base_of own_facts i.key) (full.live_of own_facts i.key i.version) c.update →
      IsFit (setup_of cluster) (parts_of cluster.limit cluster.quorums) (cluster.quorums.fast + parts_of cluster.limit cluster.quorums - cluster.quorums.centres) (reduced es) reduced_facts (IsAcceptedVote reduced_facts i) (IsAcceptedVote reduced_facts i) i t c
  acceptor_fit i t c own here begun held fits =
      let exact = fast_exact cluster (full.base_of own_facts i.key) (full.live_of own_facts i.key i.version) c.update fits in
      record {
        own = own;
        here = here;
        begun = begun;
        held = held_now cluster four es allowed a fine i.key ∙ held;
        clear = record {
          chosen = λ d g counts. exact_clear cluster (full.base_of own_facts i.key) (full.live_of own_facts i.key i.version) c.update exact (d.tx, d.update)
              (value_In (full.live_of own_facts i.key i.version) d.tx d.update (accepted_live i d held g counts));
          deltas = λ d g counts.
              let there : is_some (value_of (full.live_and_void (gone_at i) own_facts i.key i.version) d.tx) ≡ true =
              delta_live (gone_at i) own_facts i.key i.version d.tx (executed_valued own_facts i (d.tx, g.0) (subst (λ fs. In (d.tx, g.0) (executed fs i)) (facts_same a es) g.2)) in
              let some : (x : Update) × (value_of (full.live_and_void (gone_at i) own_facts i.key i.version) d.tx ≡ Some x) = some_value (value_of (full.live_and_void (gone_at i) own_facts i.key i.version) d.tx) there in
              delta_allowed c.update d.tx some.0 (exact_clear cluster (full.base_of own_facts i.key) (full.live_of own_facts i.key i.version) c.update exact (d.tx, some.0)
              (value_In (full.live_of own_facts i.key i.version) d.tx some.0
              (value_unvoid own_facts (full.live_and_void (gone_at i) own_facts i.key i.version) d.tx (free_here cluster four es allowed a fine i d counts held) ∙ some.1)));
        };
        within = λ q is positive ds apart among.
            let bound = fast_within cluster (full.base_of own_facts i.key) (full.live_of own_facts i.key i.version) c.update q four fits is positive in
            let part : total (λ (d : Choice). q.amount d.update) ds ≤ total (λ (p : TxId × Update). q.amount p.1) (full.live_of own_facts i.key i.version) =
            total_found q.amount ds (full.live_of own_facts i.key i.version) apart (λ d g. accepted_live i d held (among d g).0 (among d g).1) in
            let less : parts_of cluster.limit cluster.quorums * (total (λ (d : Choice). q.amount d.update) ds + q.amount c.update)
            ≤ parts_of cluster.limit cluster.quorums * (total (λ (p : TxId × Update). q.amount p.1) (full.live_of own_facts i.key i.version) + q.amount c.update) = mul-le-mul_left (parts_of cluster.limit cluster.quorums) (omega arith) in
            let room : (cluster.quorums.fast + parts_of cluster.limit cluster.quorums - cluster.quorums.centres) * q.room (base reduced_facts i.key)
            ≡ (cluster.quorums.fast + parts_of cluster.limit cluster.quorums - cluster.quorums.centres) * q.room (full.base_of own_facts i.key) =
            ap (λ z. (cluster.quorums.fast + parts_of cluster.limit cluster.quorums - cluster.quorums.centres) * q.room z) (base_now cluster four es allowed a fine i.key) in
            omega arith;
      }
