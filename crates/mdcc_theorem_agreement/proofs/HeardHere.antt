-- What stays in longer ledgers, and what a centre knows of a transaction that it has heard.
use Rattle.mdcc_option.specs.declared.choices.Outcome.TheVariants.{Abort, Commit}
use Rattle.mdcc_option.specs.declared.choices.Mark.TheVariants.{Accept, Reject}
use Rattle.mdcc_option.specs.declared.items.Update.TheVariants.{Add, Write}
use Rattle.mdcc_theorem_agreement.proofs.ReducedFacts.{Adopted, Booted, Floor, HasHeard, Heard, Promised, ReducedFact, Voted, adds_at, amounts_of, current, current_by, executed, executed_by, raised, votes}
use Rattle.mdcc_theorem_agreement.proofs.ReducedLedger.{Allowed, Begun, Entry, Executes, Happened, IsAborted, IsChoice, IsChosen, IsCommitted, IsTail, MayCount, MayHappen, Valued, facts_of, given}
use Rattle.mdcc_def_protocol.specs.Marks.{Amounts}
use Rattle.mdcc_base.specs.declared.identifiers.Ballot.{Ballot}
use Rattle.mdcc_option.specs.declared.choices.Choice.{Choice}
use Rattle.mdcc_theorem_agreement.proofs.TestsDecide.{Decides-is_mark, Decides-place}
use Rattle.mdcc_option.proofs.Equal.{Decides-key, Decides-tx}
use Rattle.mdcc_theorem_agreement.proofs.ReducedOptions.{In, Place, gives, mark_of, place_eq, spot}
use Rattle.mdcc_theorem_agreement.proofs.BegunOnce.{IsChoice-tail, WasBegun-tail, begun_apart, begun_once}
use Rattle.mdcc_theorem_agreement.proofs.LedgersGrow.{IsTail-same, votes_more}
use Rattle.mdcc_option.specs.declared.items.Item.{Item}
use Rattle.mdcc_base.specs.declared.key.Key.{Key}
use Rattle.std.proofs.Common.{ℕ, [], Some, List, ap, arith, cond, inl, inr, refl, subst, suc, sym, true, ◌∷◌, ◌++◌, ◌≡◌, ◌≤◌, ◌==◌, ◌⊎◌, ◌∙◌}
use Rattle.mdcc_option.specs.declared.choices.Mark.{Mark}
use Rattle.mdcc_option.specs.declared.choices.Outcome.{Outcome}
use Rattle.mdcc_theorem_agreement.proofs.Setups.{Setup, centres_to, count}
use Rattle.mdcc_base.specs.declared.identifiers.TxId.{TxId}
use Rattle.mdcc_option.specs.declared.items.Update.{Update}
use Rattle.std.proofs.lemmas.Bool.{cases_Bool, eqb-true, false≢true}
use Rattle.mdcc_theorem_agreement.proofs.ReportsCounted.{count-le}
use Rattle.mdcc_base.specs.Key.{key_eq}
use Rattle.mdcc_base.specs.TxId.{tx_eq}

-- what is chosen stays chosen
pub votes_tail : (a : ℕ) (i : Place) (k : Ballot) (t : TxId) (x : Mark) (old es : List Entry) → IsTail old es →
    mark_of t (votes (facts_of a old) i k) ≡ Some x → mark_of t (votes (facts_of a es) i k) ≡ Some x
votes_tail a i k t x old [] tail h = subst (λ y. mark_of t (votes (facts_of a y) i k) ≡ Some x) tail h
votes_tail a i k t x old (e ∷ es) tail h =
    elim tail [
      | inl same ↦ subst (λ y. mark_of t (votes (facts_of a y) i k) ≡ Some x) same h
      | inr rest ↦ votes_more a e es i k t x (votes_tail a i k t x old es rest h)
    ]

pub IsChosen-tail : (s : Setup) (i : Place) (k : Ballot) (t : TxId) (x : Mark) (old es : List Entry) → IsTail old es → IsChosen s old i k t x → IsChosen s es i k t x
IsChosen-tail s i k t x old es tail h =
    let more : count (λ a. gives (votes (facts_of a old) i k) t x) (centres_to s.centres) ≤ count (λ a. gives (votes (facts_of a es) i k) t x) (centres_to s.centres) =
    count-le (λ a. gives (votes (facts_of a old) i k) t x) (λ a. gives (votes (facts_of a es) i k) t x) (centres_to s.centres)
    (λ a listed g. (Decides-is_mark (mark_of t (votes (facts_of a es) i k)) x).1
    (votes_tail a i k t x old es tail ((Decides-is_mark (mark_of t (votes (facts_of a old) i k)) x).0 g))) in
    omega arith

pub IsAborted-tail : (s : Setup) (t : TxId) (old es : List Entry) → IsTail old es → IsAborted s old t → IsAborted s es t
IsAborted-tail s t old es tail h = (h.0, h.1, IsChoice-tail h.0 old es tail h.2, h.3, IsChosen-tail s (spot h.0) h.1 t Reject old es tail h.4)

pub IsCommitted-tail : (s : Setup) (t : TxId) (cs : List Choice) (old es : List Entry) → IsTail old es → IsCommitted s old t cs → IsCommitted s es t cs
IsCommitted-tail s t cs old es tail h =
    (WasBegun-tail t cs old es tail h.0, (λ c listed. ((h.1 c listed).0, IsChosen-tail s (spot c) (h.1 c listed).0 t (Accept c) old es tail (h.1 c listed).1)))

-- a fact that was heard
heard-in : (fs : List ReducedFact) (t : TxId) → HasHeard fs t → (o : Outcome) × In (Heard t o) fs
heard-in [] t h = absurd h
heard-in (Booted e ∷ fs) t h = let r : (o : Outcome) × In (Heard t o) fs = heard-in fs t h in (r.0, inr r.1)
heard-in (Floor origin era upto ∷ fs) t h = let r : (o : Outcome) × In (Heard t o) fs = heard-in fs t h in (r.0, inr r.1)
heard-in (Promised key low high m ∷ fs) t h = let r : (o : Outcome) × In (Heard t o) fs = heard-in fs t h in (r.0, inr r.1)
heard-in (Voted j l marks ∷ fs) t h = let r : (o : Outcome) × In (Heard t o) fs = heard-in fs t h in (r.0, inr r.1)
heard-in (Adopted key version base given ∷ fs) t h = let r : (o : Outcome) × In (Heard t o) fs = heard-in fs t h in (r.0, inr r.1)
heard-in (Heard u o ∷ fs) t h =
    elim h [
      | inl here ↦ (o, inl (ap (λ z. Heard z o) here))
      | inr there ↦ (let r : (o : Outcome) × In (Heard t o) fs = heard-in fs t there in (r.0, inr r.1))
    ]

-- each fact met its condition when it came
pub fact_met : (s : Setup) (a : ℕ) (f : ReducedFact) (es : List Entry) → Allowed s es → In f (facts_of a es) → (old : List Entry) × IsTail old es × MayHappen s old a f
fact_met s a f [] allowed h = absurd h
fact_met s a f (Begun b t cs ∷ es) allowed h =
    let r : (old : List Entry) × IsTail old es × MayHappen s old a f = fact_met s a f es allowed.0 h in (r.0, inr r.1, r.2)
fact_met s a f (Valued b j l sent ∷ es) allowed h =
    let r : (old : List Entry) × IsTail old es × MayHappen s old a f = fact_met s a f es allowed.0 h in (r.0, inr r.1, r.2)
fact_met s a f (Happened b g ∷ es) allowed h =
    elim (cases_Bool (b == a)) [
      | inl e ↦
          let listed : (g ≡ f) ⊎ In f (facts_of a es) = rw e at h in
          elim listed [
            | inl here ↦ (es, inr (IsTail-same es), subst (λ z. MayHappen s es z f) (eqb-true b a e) (subst (MayHappen s es b) here allowed.1))
            | inr there ↦ (let r : (old : List Entry) × IsTail old es × MayHappen s old a f = fact_met s a f es allowed.0 there in (r.0, inr r.1, r.2))
          ]
      | inr e ↦ (let r : (old : List Entry) × IsTail old es × MayHappen s old a f = fact_met s a f es allowed.0 (rw e at h) in (r.0, inr r.1, r.2))
    ]

-- what was heard is aborted, or committed with the choices that were heard
pub heard_outcome : (s : Setup) (a : ℕ) (t : TxId) (es : List Entry) → Allowed s es → HasHeard (facts_of a es) t →
    IsAborted s es t ⊎ ((cs : List Choice) × IsCommitted s es t cs × In (Heard t (Commit cs)) (facts_of a es))
heard_outcome s a t es allowed h =
    let there : (o : Outcome) × In (Heard t o) (facts_of a es) = heard-in (facts_of a es) t h in
    outcome there.0 there.1
  where
    outcome : (o : Outcome) → In (Heard t o) (facts_of a es) → IsAborted s es t ⊎ ((cs : List Choice) × IsCommitted s es t cs × In (Heard t (Commit cs)) (facts_of a es))
    outcome Abort h =
        let met : (old : List Entry) × IsTail old es × IsAborted s old t = fact_met s a (Heard t Abort) es allowed h in
        inl (IsAborted-tail s t met.0 es met.1 met.2)
    outcome (Commit cs) h =
        let met : (old : List Entry) × IsTail old es × IsCommitted s old t cs = fact_met s a (Heard t (Commit cs)) es allowed h in
        inr (cs, IsCommitted-tail s t cs met.0 es met.1 met.2, h)

left_of : {A : Type 0} (x : A) (xs ys : List A) → In x xs → In x (xs ++ ys)
left_of x [] ys h = absurd h
left_of x (y ∷ xs) ys h = elim h [ inl here ↦ inl here | inr there ↦ inr (left_of x xs ys there) ]

right_of : {A : Type 0} (x : A) (xs ys : List A) → In x ys → In x (xs ++ ys)
right_of x [] ys h = h
right_of x (y ∷ xs) ys h = inr (right_of x xs ys h)

-- what a committed transaction does at a centre that heard it
adds_at-finds : (cs : List Choice) (d : Choice) (m : Amounts) → In d cs → d.update ≡ Add m → In (d.tx, m) (adds_at cs (spot d))
adds_at-finds [] d m h is = absurd h
adds_at-finds (c ∷ cs) d m h is =
    elim h [
      | inl here ↦
          let place : place_eq (spot c) (spot d) ≡ true = (Decides-place (spot c) (spot d)).1 (ap (λ z. spot z) here) in
          let added : c.update ≡ Add m = ap (λ z. z.update) here ∙ is in
          let tx : c.tx ≡ d.tx = ap (λ z. z.tx) here in
          left_of (d.tx, m) (cond (place_eq (spot c) (spot d)) (amounts_of c.tx c.update) []) (adds_at cs (spot d))
          (rw (place, added, tx) (inl refl))
      | inr there ↦ right_of (d.tx, m) (cond (place_eq (spot c) (spot d)) (amounts_of c.tx c.update) []) (adds_at cs (spot d)) (adds_at-finds cs d m there is)
    ]

raised-finds : (cs : List Choice) (d : Choice) → ((c e : Choice) → In c cs → In e cs → c.key ≡ e.key → c ≡ e) → In d cs → (seen : List TxId) (body : Item) → d.update ≡ Write body seen →
    raised cs d.key ≡ suc d.version
raised-finds [] d apart h seen body write = absurd h
raised-finds (c ∷ cs) d apart h seen body write =
    elim (cases_Bool (key_eq c.key d.key)) [
      | inl e ↦
          let same : c ≡ d = apart c d (inl refl) h ((Decides-key c.key d.key).0 e) in
          let is : c.update ≡ Write body seen = ap (λ z. z.update) same ∙ write in
          rw (e, is) (ap (λ (z : Choice). suc z.version) same)
      | inr e ↦ rw e (elim h [
        | inl here ↦ absurd (false≢true (sym e ∙ (Decides-key c.key d.key).1 (ap (λ z. z.key) here)))
        | inr there ↦ raised-finds cs d (λ x y g k. apart x y (inr g) (inr k)) there seen body write
      ])
    ]

executed-in : (fs : List ReducedFact) (f : ReducedFact) (i : Place) (p : TxId × Amounts) → In f fs → In p (executed_by f i) → In p (executed fs i)
executed-in [] f i p h g = absurd h
executed-in (e ∷ fs) f i p h g =
    elim h [
      | inl here ↦ left_of p (executed_by e i) (executed fs i) (subst (λ z. In p (executed_by z i)) (sym here) g)
      | inr there ↦ right_of p (executed_by e i) (executed fs i) (executed-in fs f i p there g)
    ]

current-in : (fs : List ReducedFact) (f : ReducedFact) (key : Key) → In f fs → current_by f key ≤ current fs key
current-in [] f key h = absurd h
current-in (e ∷ fs) f key h =
    elim h [
      | inl here ↦ (let same : current_by e key ≡ current_by f key = ap (λ z. current_by z key) here in omega arith)
      | inr there ↦ omega (arith, current-in fs f key there)
    ]

update_cases : (u : Update) → ((body : Item) × (seen : List TxId) × (u ≡ Write body seen)) ⊎ ((m : Amounts) × (u ≡ Add m))
update_cases (Write body seen) = inl (body, seen, refl)
update_cases (Add m) = inr (m, refl)

-- of a committed choice at the version that is held: it is an Add, and is executed
pub heard_done : (s : Setup) (es : List Entry) → Allowed s es → (a : ℕ) (d : Choice) (cs : List Choice) → IsCommitted s es d.tx cs → In (Heard d.tx (Commit cs)) (facts_of a es) →
    In d cs → current (facts_of a es) d.key ≡ d.version → Executes (facts_of a es) (spot d) d
heard_done s es allowed a d cs committed heard listed held =
    elim (update_cases d.update) [
      | inr add ↦ (add.0, add.1, executed-in (facts_of a es) (Heard d.tx (Commit cs)) (spot d) (d.tx, add.0) heard (adds_at-finds cs d add.0 listed add.1))
      | inl write ↦
          let over : raised cs d.key ≤ current (facts_of a es) d.key = current-in (facts_of a es) (Heard d.tx (Commit cs)) d.key heard in
          let is : raised cs d.key ≡ suc d.version = raised-finds cs d (begun_apart s es d.tx cs allowed committed.0) listed write.1 write.0 write.2 in
          absurd (omega arith)
    ]

module _ (s : Setup) (all : List Entry) (legal : Allowed s all) where
  -- a choice at the version held, of a transaction that was heard and is not aborted, is executed
  pub heard_here : (old : List Entry) → IsTail old all → Allowed s old → (a : ℕ) (d : Choice) → IsChoice all d → (IsAborted s all d.tx → ⊥) →
      HasHeard (facts_of a old) d.tx → current (facts_of a old) d.key ≡ d.version → Executes (facts_of a old) (spot d) d
  heard_here old tail allowed a d choice free heard held =
      elim (heard_outcome s a d.tx old allowed heard) [
        | inl aborted ↦ absurd (free (IsAborted-tail s d.tx old all tail aborted))
        | inr known ↦
            let same : choice.0 ≡ known.0 = begun_once s all d.tx choice.0 known.0 legal choice.1 (WasBegun-tail d.tx known.0 old all tail known.1.0) in
            heard_done s old allowed a d known.0 known.1 known.2 (subst (In d) same choice.2) held
      ]

  -- a choice that is not aborted may count
  pub may_count : (old : List Entry) → IsTail old all → (i : Place) (d : Choice) → IsChoice all d → spot d ≡ i → (IsAborted s all d.tx → ⊥) → MayCount s old i d
  may_count old tail i d choice here free = (
    here,
    (λ cs begun. subst (In d) (begun_once s all d.tx choice.0 cs legal choice.1 (WasBegun-tail d.tx cs old all tail begun)) choice.2),
    (λ aborted. free (IsAborted-tail s d.tx old all tail aborted)),
  )

pub cases_heard : (fs : List ReducedFact) (t : TxId) → HasHeard fs t ⊎ (HasHeard fs t → ⊥)
cases_heard [] t = inr (λ h. h)
cases_heard (Booted e ∷ fs) t = cases_heard fs t
cases_heard (Floor origin era upto ∷ fs) t = cases_heard fs t
cases_heard (Promised key low high m ∷ fs) t = cases_heard fs t
cases_heard (Voted j l marks ∷ fs) t = cases_heard fs t
cases_heard (Adopted key version base given ∷ fs) t = cases_heard fs t
cases_heard (Heard u o ∷ fs) t =
    elim (cases_Bool (tx_eq u t)) [
      | inl e ↦ inl (inl ((Decides-tx u t).0 e))
      | inr e ↦ elim (cases_heard fs t) [
        | inl there ↦ inl (inr there)
        | inr none ↦ inr (λ h. elim h [ inl same ↦ false≢true (sym e ∙ (Decides-tx u t).1 same) | inr there ↦ none there ])
      ]
    ]
