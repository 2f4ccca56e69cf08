-- What is heard, finished and forgotten, of a centre's facts and of its reduced facts.
use Rattle.std.proofs.Common.{◌≡◌, ℕ, zero, suc, ◌<◌, ◌≤◌, ◌==◌, Bool, true, false, ◌&&◌, nat_le, nat_lt, max, List, [], ◌∷◌, refl, sym, ap, ◌∙◌, subst, arith, inl, inr, ◌⊎◌, Option, Some, None}
use Rattle.std.proofs.lemmas.Bool.{false≢true, cases_Bool, and_parts, and_from, or_cases, or_left, or_right, leb-true, le-leb, ltb-true, lt-ltb, eqb-true, eq-eqb}
use Rattle.std.specs.List.{list_all, filter}
use Rattle.std.specs.Option.{option_or}
use Rattle.std.specs.Prelude.{is_some, not}
use Rattle.mdcc_base.specs.Ballot.{is_fast}
use Rattle.mdcc_base.specs.Quorums.{all_centres}
use Rattle.mdcc_base.specs.TxId.{tx_eq}
use Rattle.mdcc_base.specs.declared.identifiers.Ballot.{Ballot}
use Rattle.mdcc_base.specs.declared.identifiers.TxId.{TxId}
use Rattle.mdcc_option.specs.declared.choices.Outcome.{Outcome}
use Rattle.mdcc_option.specs.declared.cluster.Cluster.{Cluster}
use Rattle.mdcc_struct.specs.Maps.{value_of}
use Rattle.mdcc_struct.specs.declared.options.Options.{Options}
use Rattle.mdcc_def_ledger.specs.AllowedLedgers.{did_all_hear}
use Rattle.mdcc_def_protocol.specs.Facts as full
use Rattle.mdcc_def_ledger.specs.Ledger as ledger
use Rattle.mdcc_def_messages.specs.declared.facts.Fact.{Fact}
use Rattle.mdcc_theorem_agreement.proofs.HeldReduced.{AllFine, current_same}
use Rattle.mdcc_theorem_agreement.proofs.LedgersGrow.{forgotten-none, kept_same}
use Rattle.mdcc_theorem_agreement.proofs.Reduction.{setup_of, facts_reduced, reduced, facts_same}
use Rattle.mdcc_theorem_agreement.proofs.ReducedFacts.{Heard, HasHeard, finished, forgotten, shown, votes, report, voted_below}
use Rattle.mdcc_theorem_agreement.proofs.ReducedLedger.{AllHeard}
use Rattle.mdcc_theorem_agreement.proofs.ReducedOptions.{In, Place, mark_of}
use Rattle.mdcc_theorem_agreement.proofs.TestsDecide.{Decides-tx}
use Rattle.mdcc_theorem_agreement.proofs.ViewsReduced.{votes_same, voted_below_same}

-- ---- heard

first_some : {X : Type 0} (a b : Option X) (x : X) → option_or a b ≡ Some x → (a ≡ Some x) ⊎ (b ≡ Some x)
first_some None b x h = inr h
first_some (Some y) b x h = inl h

pub heard_listed : (fs : List Fact) (t : TxId) (o : Outcome) → full.heard_of fs t ≡ Some o → In (Heard t o) (facts_reduced fs)
heard_listed [] t o h = absurd (cc)
heard_listed (f ∷ fs) t o h =
    elim (first_some (full.heard_of fs t) (full.outcome_in t f) o h) [
      | inl before ↦ inr (heard_listed fs t o before)
      | inr now ↦ inl (here f now)
    ]
  where
    here : (f : Fact) → full.outcome_in t f ≡ Some o → Rattle.mdcc_theorem_agreement.proofs.Reduction.reduced_fact f ≡ Heard t o
    here (Fact.Booted epoch) g = absurd (cc)
    here (Fact.Promised k low high b) g = absurd (cc)
    here (Fact.Voted k v b os offered) g = absurd (cc)
    here (Fact.Adopted k v item adds) g = absurd (cc)
    here (Fact.Floor centre epoch seq) g = absurd (cc)
    here (Fact.Heard u p) g =
        elim (cases_Bool (tx_eq u t)) [
          | inl e ↦ (let is : Some p ≡ Some o = rw e at g in let same : p ≡ o = cc in let tx : u ≡ t = (Decides-tx u t).0 e in rw (same, tx) refl)
          | inr e ↦ (let none : None ≡ Some o = rw e at g in absurd (cc))
        ]

listed-heard : (fs : List Fact) (t : TxId) (o : Outcome) → In (Heard t o) (facts_reduced fs) → HasHeard (facts_reduced fs) t
listed-heard [] t o h = h
listed-heard (f ∷ fs) t o h = elim h [ inl here ↦ first f here | inr there ↦ later f (listed-heard fs t o there) ]
  where
    later : (f : Fact) → HasHeard (facts_reduced fs) t → HasHeard (facts_reduced (f ∷ fs)) t
    later (Fact.Booted epoch) g = g
    later (Fact.Promised k low high b) g = g
    later (Fact.Voted k v b os offered) g = g
    later (Fact.Adopted k v item adds) g = g
    later (Fact.Floor centre epoch seq) g = g
    later (Fact.Heard u p) g = inr g

    first : (f : Fact) → Rattle.mdcc_theorem_agreement.proofs.Reduction.reduced_fact f ≡ Heard t o → HasHeard (facts_reduced (f ∷ fs)) t
    first (Fact.Booted epoch) e = absurd (cc)
    first (Fact.Promised k low high b) e = absurd (cc)
    first (Fact.Voted k v b os offered) e = absurd (cc)
    first (Fact.Adopted k v item adds) e = absurd (cc)
    first (Fact.Floor centre epoch seq) e = absurd (cc)
    first (Fact.Heard u p) e = inl (cc)

some_there : {X : Type 0} (o : Option X) → is_some o ≡ true → (x : X) × (o ≡ Some x)
some_there None h = absurd (false≢true h)
some_there (Some x) h = (x, refl)

pub heard_has : (fs : List Fact) (t : TxId) → full.is_heard fs t ≡ true → HasHeard (facts_reduced fs) t
heard_has fs t h =
    let some : (o : Outcome) × (full.heard_of fs t ≡ Some o) = some_there (full.heard_of fs t) h in
    listed-heard fs t some.0 (heard_listed fs t some.0 some.1)

-- what is not heard has no fact
pub has_heard : (fs : List Fact) (t : TxId) → full.is_heard fs t ≡ false → HasHeard (facts_reduced fs) t → ⊥
has_heard [] t h g = g
has_heard (f ∷ fs) t h g = by (λ e k. has_heard fs t e k) f h g
  where
    left_none : {X : Type 0} (a b : Option X) → is_some (option_or a b) ≡ false → is_some a ≡ false
    left_none None b e = refl
    left_none (Some x) b e = e

    both_none : {X : Type 0} (a b : Option X) → is_some (option_or a b) ≡ false → is_some b ≡ false
    both_none None b e = e
    both_none (Some x) b e = absurd (false≢true (sym e))

    by : (full.is_heard fs t ≡ false → HasHeard (facts_reduced fs) t → ⊥) → (f : Fact) → full.is_heard (f ∷ fs) t ≡ false → HasHeard (facts_reduced (f ∷ fs)) t → ⊥
    by known (Fact.Booted epoch) e k = known (left_none (full.heard_of fs t) None e) k
    by known (Fact.Promised a low high b) e k = known (left_none (full.heard_of fs t) None e) k
    by known (Fact.Voted a v b os offered) e k = known (left_none (full.heard_of fs t) None e) k
    by known (Fact.Adopted a v item adds) e k = known (left_none (full.heard_of fs t) None e) k
    by known (Fact.Floor centre epoch seq) e k = known (left_none (full.heard_of fs t) None e) k
    by known (Fact.Heard u p) e k =
        elim k [
          | inl same ↦
              let test : tx_eq u t ≡ true = (Decides-tx u t).1 same in
              let some : is_some (full.outcome_in t (Fact.Heard u p)) ≡ true = rw test refl in
              false≢true (sym (both_none (full.heard_of fs t) (full.outcome_in t (Fact.Heard u p)) e) ∙ some)
          | inr there ↦ known (left_none (full.heard_of fs t) (full.outcome_in t (Fact.Heard u p)) e) there
        ]

-- ---- finished

to_finished : (fs : List Fact) (t : TxId) → 0 < t.seq → t.seq ≤ full.floor_of fs t.centre t.epoch → finished (facts_reduced fs) t ≡ true
to_finished [] t some h = absurd (omega arith)
to_finished (Fact.Booted epoch ∷ fs) t some h = to_finished fs t some (omega arith)
to_finished (Fact.Promised k low high b ∷ fs) t some h = to_finished fs t some (omega arith)
to_finished (Fact.Voted k v b os offered ∷ fs) t some h = to_finished fs t some (omega arith)
to_finished (Fact.Heard u o ∷ fs) t some h = to_finished fs t some (omega arith)
to_finished (Fact.Adopted k v item adds ∷ fs) t some h = to_finished fs t some (omega arith)
to_finished (Fact.Floor centre epoch seq ∷ fs) t some h =
    elim (cases_Bool (centre == t.centre && epoch == t.epoch)) [
      | inl e ↦
          let parts : ((centre == t.centre) ≡ true) × ((epoch == t.epoch) ≡ true) = and_parts _ _ e in
          let there : t.seq ≤ max (full.floor_of fs t.centre t.epoch) seq = rw e at h in
          elim (cases_Bool (nat_le t.seq seq)) [
            | inl now ↦ or_left ((centre == t.centre) && ((epoch == t.epoch) && (nat_lt 0 t.seq && nat_le t.seq seq))) (finished (facts_reduced fs) t)
                (and_from _ _ parts.0 (and_from _ _ parts.1 (and_from _ _ (lt-ltb _ _ some) now)))
            | inr over ↦ or_right ((centre == t.centre) && ((epoch == t.epoch) && (nat_lt 0 t.seq && nat_le t.seq seq))) (finished (facts_reduced fs) t)
                (to_finished fs t some (older t.seq (full.floor_of fs t.centre t.epoch) seq there over))
          ]
      | inr e ↦
          let there : t.seq ≤ max (full.floor_of fs t.centre t.epoch) 0 = rw e at h in
          or_right ((centre == t.centre) && ((epoch == t.epoch) && (nat_lt 0 t.seq && nat_le t.seq seq))) (finished (facts_reduced fs) t)
          (to_finished fs t some (omega arith))
    ]
  where
    older : (n a b : ℕ) → n ≤ max a b → nat_le n b ≡ false → n ≤ a
    older n a b g over = elim (cases_Bool (nat_le n a)) [
      | inl e ↦ leb-true n a e
      | inr e ↦ absurd (let p : b < n = Rattle.std.proofs.lemmas.Bool.leb-false n b over in let q : a < n = Rattle.std.proofs.lemmas.Bool.leb-false n a e in omega arith)
    ]

from_finished : (fs : List Fact) (t : TxId) → finished (facts_reduced fs) t ≡ true → (0 < t.seq) × (t.seq ≤ full.floor_of fs t.centre t.epoch)
from_finished [] t h = absurd (cc)
from_finished (Fact.Booted epoch ∷ fs) t h = (let k : (0 < t.seq) × (t.seq ≤ full.floor_of fs t.centre t.epoch) = from_finished fs t h in (k.0, omega (arith, k.1)))
from_finished (Fact.Promised a low high b ∷ fs) t h = (let k : (0 < t.seq) × (t.seq ≤ full.floor_of fs t.centre t.epoch) = from_finished fs t h in (k.0, omega (arith, k.1)))
from_finished (Fact.Voted a v b os offered ∷ fs) t h = (let k : (0 < t.seq) × (t.seq ≤ full.floor_of fs t.centre t.epoch) = from_finished fs t h in (k.0, omega (arith, k.1)))
from_finished (Fact.Heard u o ∷ fs) t h = (let k : (0 < t.seq) × (t.seq ≤ full.floor_of fs t.centre t.epoch) = from_finished fs t h in (k.0, omega (arith, k.1)))
from_finished (Fact.Adopted a v item adds ∷ fs) t h = (let k : (0 < t.seq) × (t.seq ≤ full.floor_of fs t.centre t.epoch) = from_finished fs t h in (k.0, omega (arith, k.1)))
from_finished (Fact.Floor centre epoch seq ∷ fs) t h =
    elim (or_cases ((centre == t.centre) && ((epoch == t.epoch) && (nat_lt 0 t.seq && nat_le t.seq seq))) (finished (facts_reduced fs) t) h) [
      | inl now ↦
          let one : ((centre == t.centre) ≡ true) × (((epoch == t.epoch) && (nat_lt 0 t.seq && nat_le t.seq seq)) ≡ true) = and_parts _ _ now in
          let two : ((epoch == t.epoch) ≡ true) × ((nat_lt 0 t.seq && nat_le t.seq seq) ≡ true) = and_parts _ _ one.1 in
          let three : (nat_lt 0 t.seq ≡ true) × (nat_le t.seq seq ≡ true) = and_parts _ _ two.1 in
          let test : (centre == t.centre && epoch == t.epoch) ≡ true = and_from _ _ one.0 two.0 in
          let under : t.seq ≤ seq = leb-true _ _ three.1 in
          (ltb-true _ _ three.0, rw test (omega (arith, under)))
      | inr before ↦
          let k : (0 < t.seq) × (t.seq ≤ full.floor_of fs t.centre t.epoch) = from_finished fs t before in
          (k.0, omega (arith, k.1))
    ]

both_ways : (a b : Bool) → (a ≡ true → b ≡ true) → (b ≡ true → a ≡ true) → a ≡ b
both_ways true b f g = sym (f refl)
both_ways false true f g = g refl
both_ways false false f g = refl

pub finished_same : (fs : List Fact) (t : TxId) → finished (facts_reduced fs) t ≡ full.is_finished fs t
finished_same fs t =
    both_ways (finished (facts_reduced fs) t) (full.is_finished fs t)
    (λ h. let k : (0 < t.seq) × (t.seq ≤ full.floor_of fs t.centre t.epoch) = from_finished fs t h in and_from _ _ (lt-ltb _ _ k.0) (le-leb _ _ k.1))
    (λ h. let k : (nat_lt 0 t.seq ≡ true) × (nat_le t.seq (full.floor_of fs t.centre t.epoch) ≡ true) = and_parts _ _ h in to_finished fs t (ltb-true _ _ k.0) (leb-true _ _ k.1))

-- ---- forgotten

pub forgotten_same : (fs : List Fact) → AllFine fs → (i : Place) (t : TxId) → forgotten (facts_reduced fs) i t ≡ full.is_forgotten fs i.key i.version t
forgotten_same fs fine i t = rw (finished_same fs t, current_same fs i.key fine) refl

-- what a test of transactions leaves
pub value_left : (gone : TxId → Bool) (m : Options) (t : TxId) → gone t ≡ false → value_of (filter (λ e. not (gone e.0)) m) t ≡ value_of m t
value_left gone [] t h = refl
value_left gone (e ∷ es) t h =
    elim (cases_Bool (gone e.0)) [
      | inl g ↦ elim (cases_Bool (tx_eq e.0 t)) [
        | inl same ↦ absurd (false≢true (sym h ∙ ap gone (sym ((Decides-tx e.0 t).0 same)) ∙ g))
        | inr other ↦ rw (g, other) (value_left gone es t h)
      ]
      | inr k ↦ elim (cases_Bool (tx_eq e.0 t)) [
        | inl same ↦ rw (k, same) refl
        | inr other ↦ rw (k, other) (value_left gone es t h)
      ]
    ]

pub value_gone : (gone : TxId → Bool) (m : Options) (t : TxId) → gone t ≡ true → value_of (filter (λ e. not (gone e.0)) m) t ≡ None
value_gone gone [] t h = refl
value_gone gone (e ∷ es) t h =
    elim (cases_Bool (gone e.0)) [
      | inl g ↦ rw g (value_gone gone es t h)
      | inr k ↦ elim (cases_Bool (tx_eq e.0 t)) [
        | inl same ↦ absurd (false≢true (sym k ∙ ap gone ((Decides-tx e.0 t).0 same) ∙ h))
        | inr other ↦ rw (k, other) (value_gone gone es t h)
      ]
    ]

-- what is shown
pub shown_told : (fs : List Fact) → AllFine fs → (i : Place) (k : Ballot) (t : TxId) →
    mark_of t (shown (facts_reduced fs) i k) ≡ value_of (full.shown_of fs i.key i.version k) t
shown_told fs fine i k t =
    elim (cases_Bool (full.is_forgotten fs i.key i.version t)) [
      | inl e ↦ forgotten-none (facts_reduced fs) i t (votes (facts_reduced fs) i k) (forgotten_same fs fine i t ∙ e)
          ∙ sym (value_gone (full.is_forgotten fs i.key i.version) (full.votes_of fs i.key i.version k) t e)
      | inr e ↦ kept_same (facts_reduced fs) i t (votes (facts_reduced fs) i k) (forgotten_same fs fine i t ∙ e)
          ∙ votes_same fs i k t
          ∙ sym (value_left (full.is_forgotten fs i.key i.version) (full.votes_of fs i.key i.version k) t e)
    ]

pub report_marks : (a : ℕ) (fs : List Fact) → AllFine fs → (i : Place) (m : Ballot) (t : TxId) → is_fast m ≡ false →
    mark_of t (report (facts_reduced fs) i m).marks ≡ value_of (full.report_of a fs i.key i.version m).votes t
report_marks a fs fine i m t classic =
    rw classic
    (shown_told fs fine i (voted_below (facts_reduced fs) i m) t
    ∙ ap (λ k. value_of (full.shown_of fs i.key i.version k) t) (voted_below_same fs i m))

-- ---- floors

each_heard : (fs : List Fact) (centre epoch seq n : ℕ) → full.are_heard fs centre epoch seq ≡ true → 0 < n → n ≤ seq →
    full.is_heard fs (record { centre = centre; epoch = epoch; seq = n }) ≡ true
each_heard fs centre epoch zero n h some low = absurd (omega arith)
each_heard fs centre epoch (suc seq) n h some low =
    let parts : (full.is_heard fs (record { centre = centre; epoch = epoch; seq = suc seq }) ≡ true) × (full.are_heard fs centre epoch seq ≡ true) = and_parts _ _ h in
    elim (cases_Bool (n == suc seq)) [
      | inl e ↦ subst (λ y. full.is_heard fs (record { centre = centre; epoch = epoch; seq = y }) ≡ true) (sym (eqb-true n (suc seq) e)) parts.0
      | inr e ↦ each_heard fs centre epoch seq n parts.1 some (let other : (n ≡ suc seq) → ⊥ = λ same. false≢true (sym e ∙ eq-eqb n (suc seq) same) in under n seq low other)
    ]
  where
    under : (a b : ℕ) → a ≤ suc b → ((a ≡ suc b) → ⊥) → a ≤ b
    under a b g other = elim (cases_Bool (nat_le a b)) [
      | inl e ↦ leb-true a b e
      | inr e ↦ absurd (other (let over : b < a = Rattle.std.proofs.lemmas.Bool.leb-false a b e in omega arith))
    ]

each_of : (p : ℕ → Bool) (xs : List ℕ) → list_all p xs ≡ true → (x : ℕ) → In x xs → p x ≡ true
each_of p [] h x g = absurd g
each_of p (y ∷ ys) h x g =
    let parts : (p y ≡ true) × (list_all p ys ≡ true) = and_parts _ _ h in
    elim g [ inl here ↦ ap p (sym here) ∙ parts.0 | inr there ↦ each_of p ys parts.1 x there ]

pub all_heard : (cluster : Cluster) (es : List ledger.Entry) (centre epoch seq : ℕ) → did_all_hear cluster.quorums es centre epoch seq ≡ true →
    (t : TxId) → t.centre ≡ centre → t.epoch ≡ epoch → 0 < t.seq → t.seq ≤ seq → AllHeard (setup_of cluster) (reduced es) t
all_heard cluster es centre epoch seq h t of_centre of_epoch some low b listed =
    let there : full.are_heard (ledger.facts_of es b) centre epoch seq ≡ true = each_of (λ b. full.are_heard (ledger.facts_of es b) centre epoch seq) (all_centres cluster.quorums) h b listed in
    let heard : full.is_heard (ledger.facts_of es b) (record { centre = centre; epoch = epoch; seq = t.seq }) ≡ true = each_heard (ledger.facts_of es b) centre epoch seq t.seq there some low in
    let own : full.is_heard (ledger.facts_of es b) t ≡ true =
    subst (λ c. full.is_heard (ledger.facts_of es b) (record { centre = c; epoch = t.epoch; seq = t.seq }) ≡ true) (sym of_centre)
    (subst (λ e. full.is_heard (ledger.facts_of es b) (record { centre = centre; epoch = e; seq = t.seq }) ≡ true) (sym of_epoch) heard) in
    subst (λ fs. HasHeard fs t) (sym (facts_same b es)) (heard_has (ledger.facts_of es b) t own)
