-- What a longer ledger keeps of a shorter one.
use Rattle.std.proofs.Common.{◌≡◌, ℕ, ◌==◌, true, ◌&&◌, List, [], ◌∷◌, refl, sym, ap, ◌∙◌, subst, inl, inr, ◌⊎◌, Some, None, arith, cond, false, nat_le, nat_lt, ◌<◌, ◌≤◌}
use Rattle.std.proofs.lemmas.Bool.{cases_Bool, and_parts, eqb-true, and_from, leb-true, lt-ltb, ltb-true, or_cases, or_parts, or_right, false≢true}
use Rattle.mdcc_base.specs.Ballot.{ballot_eq}
use Rattle.mdcc_base.specs.TxId.{tx_eq}
use Rattle.mdcc_base.specs.declared.identifiers.Ballot.{Ballot}
use Rattle.mdcc_base.specs.declared.identifiers.TxId.{TxId}
use Rattle.mdcc_option.specs.declared.choices.Mark.{Mark}
use Rattle.mdcc_theorem_agreement.proofs.BallotOrder.{Below-cases, Below-trans}
use Rattle.mdcc_theorem_agreement.proofs.Ballots.{Below}
use Rattle.mdcc_theorem_agreement.proofs.Setups.{Setup}
use Rattle.mdcc_theorem_agreement.proofs.ReducedFacts.{ReducedFact, Voted, promise, votes, HasPromised, Adopted, Booted, Floor, HasHeard, Heard, Promised, current, finished, forgotten, shown, without_forgotten}
use Rattle.mdcc_theorem_agreement.proofs.ReducedLedger.{IsTail, Entry, Happened, Begun, Valued, facts_of, WasSent, last_sent, Step, Grown, MayVote, MayHappen, Meets, Allowed, AllHeard}
use Rattle.mdcc_theorem_agreement.proofs.ReducedOptions.{Place, place_eq, mark_of, Extends}
use Rattle.mdcc_theorem_agreement.proofs.TestsDecide.{Decides-place, Decides-tx, Decides-ballot}
use Rattle.mdcc_theorem_agreement.proofs.VotesOfFacts.{promise-least, HasPromised-more, votes-more, votes-cases}

pub Allowed-tail : (s : Setup) (old es : List Entry) → IsTail old es → Allowed s es → Allowed s old
Allowed-tail s old [] tail h = subst (Allowed s) (sym tail) h
Allowed-tail s old (e ∷ es) tail h =
    elim tail [ inl same ↦ subst (Allowed s) (sym same) h | inr rest ↦ Allowed-tail s old es rest h.0 ]

pub IsTail-same : (es : List Entry) → IsTail es es
IsTail-same [] = refl
IsTail-same (e ∷ es) = inl refl

pub IsTail-drop : (e : Entry) (old es : List Entry) → IsTail (e ∷ old) es → IsTail old es
IsTail-drop e old [] tail = absurd (cc)
IsTail-drop e old (d ∷ es) tail =
    elim tail [
      | inl same ↦ inr (let tails : old ≡ es = cc in subst (λ y. IsTail y es) (sym tails) (IsTail-same es))
      | inr rest ↦ inr (IsTail-drop e old es rest)
    ]

-- a centre keeps its promises
promised-more : (a : ℕ) (e : Entry) (es : List Entry) (i : Place) (m : Ballot) → HasPromised (facts_of a es) i m → HasPromised (facts_of a (e ∷ es)) i m
promised-more a (Begun b t cs) es i m h = h
promised-more a (Valued b j l marks) es i m h = h
promised-more a (Happened b f) es i m h =
    elim (cases_Bool (b == a)) [ inl e ↦ rw e (HasPromised-more f (facts_of a es) i m h) | inr e ↦ rw e h ]

pub promised-tail : (a : ℕ) (i : Place) (m : Ballot) (old es : List Entry) → IsTail old es → HasPromised (facts_of a old) i m → HasPromised (facts_of a es) i m
promised-tail a i m old [] tail h = subst (λ y. HasPromised (facts_of a y) i m) tail h
promised-tail a i m old (e ∷ es) tail h =
    elim tail [
      | inl same ↦ subst (λ y. HasPromised (facts_of a y) i m) same h
      | inr rest ↦ promised-more a e es i m (promised-tail a i m old es rest h)
    ]

-- what one more entry adds to a centre's votes
pub votes_cases : (a : ℕ) (e : Entry) (es : List Entry) (i : Place) (k : Ballot) (t : TxId) (x : Mark) →
    mark_of t (votes (facts_of a (e ∷ es)) i k) ≡ Some x →
    (mark_of t (votes (facts_of a es) i k) ≡ Some x)
    ⊎ ((marks : List (TxId × Mark)) × (e ≡ Happened a (Voted i k marks)) × (mark_of t marks ≡ Some x))
votes_cases a (Begun b u cs) es i k t x h = inl h
votes_cases a (Valued b j l marks) es i k t x h = inl h
votes_cases a (Happened b f) es i k t x h =
    elim (cases_Bool (b == a)) [
      | inl e ↦
          let vote : mark_of t (votes (f ∷ facts_of a es) i k) ≡ Some x = rw e at h in
          let centre : b ≡ a = eqb-true b a e in
          elim (votes-cases f (facts_of a es) i k t x vote) [
            | inl before ↦ inl before
            | inr here ↦ let fact : f ≡ Voted i k here.0 = here.1 in inr (here.0, cc, here.2)
          ]
      | inr e ↦ inl (rw e at h)
    ]

pub votes_more : (a : ℕ) (e : Entry) (es : List Entry) (i : Place) (k : Ballot) (t : TxId) (x : Mark) →
    mark_of t (votes (facts_of a es) i k) ≡ Some x → mark_of t (votes (facts_of a (e ∷ es)) i k) ≡ Some x
votes_more a (Begun b u cs) es i k t x h = h
votes_more a (Valued b j l marks) es i k t x h = h
votes_more a (Happened b f) es i k t x h =
    elim (cases_Bool (b == a)) [ inl e ↦ rw e (votes-more f (facts_of a es) i k t x h) | inr e ↦ rw e h ]

pub Below-over : (k m p : Ballot) → Below k m → (Below p m → ⊥) → Below k p
Below-over k m p below most =
    elim (Below-cases p m) [
      | inl under ↦ absurd (most under)
      | inr rest ↦ elim rest [ inl same ↦ rw same below | inr over ↦ Below-trans k m p below over ]
    ]

-- a vote below a promise stood before it
pub votes_kept : (s : Setup) (old es : List Entry) (a : ℕ) (i : Place) (k m : Ballot) (t : TxId) (x : Mark) →
    IsTail old es → Allowed s es → HasPromised (facts_of a old) i m → Below k m →
    mark_of t (votes (facts_of a es) i k) ≡ Some x → mark_of t (votes (facts_of a old) i k) ≡ Some x
votes_kept s old [] a i k m t x tail allowed promised below vote = absurd (cc)
votes_kept s old (e ∷ es) a i k m t x tail allowed promised below vote =
    elim tail [
      | inl same ↦ subst (λ y. mark_of t (votes (facts_of a y) i k) ≡ Some x) (sym same) vote
      | inr rest ↦ elim (votes_cases a e es i k t x vote) [
        | inl before ↦ votes_kept s old es a i k m t x rest allowed.0 promised below before
        | inr here ↦
            let may : MayVote s es a i k here.0 = subst (Meets s es) here.1 allowed.1 in
            absurd (may.promise_held (Below-over k m (promise (facts_of a es) i) below
            (promise-least (facts_of a es) i m (promised-tail a i m old es rest promised))))
      ]
    ]

-- a structure keeps the marks of those that it grew from
pub Grown-extends : (s : Setup) (es : List Entry) (a : ℕ) (i : Place) (less : List (TxId × Mark)) (steps : List Step) (more : List (TxId × Mark)) →
    Grown s es a i less steps more → Extends more less
Grown-extends s es a i less [] more g t x h = rw g at h
Grown-extends s es a i less (p ∷ ps) more g t x h =
    let before : mark_of t p.before ≡ Some x = Grown-extends s es a i less ps p.before g.0 t x h in
    let after : mark_of t ((p.tx, p.mark) ∷ p.before) ≡ Some x =
    elim (cases_Bool (tx_eq t p.tx)) [
      | inl e ↦
          let same : t ≡ p.tx = (Decides-tx t p.tx).0 e in
          let none : mark_of p.tx p.before ≡ None = g.1.new in
          absurd (cc)
      | inr e ↦ rw e before
    ] in
    g.2.same t ∙ after

pub last-sent : (es : List Entry) (i : Place) (m : Ballot) (marks : List (TxId × Mark)) → last_sent es i m ≡ Some marks → WasSent es i m marks
last-sent [] i m marks h = cc
last-sent (Happened b f ∷ es) i m marks h = last-sent es i m marks h
last-sent (Begun b t cs ∷ es) i m marks h = last-sent es i m marks h
last-sent (Valued b j l sent ∷ es) i m marks h =
    elim (cases_Bool (place_eq j i && ballot_eq l m)) [
      | inl e ↦
          let parts : (place_eq j i ≡ true) × (ballot_eq l m ≡ true) = and_parts _ _ e in
          let is : Some sent ≡ Some marks = rw e at h in
          inl ((Decides-place j i).0 parts.0, (Decides-ballot l m).0 parts.1, cc)
      | inr e ↦ inr (last-sent es i m marks (rw e at h))
    ]

-- a mark of a grown structure stood in the one that it grew from, or its transaction was not heard by the leader
pub Grown-cases : (s : Setup) (es : List Entry) (a : ℕ) (i : Place) (less : List (TxId × Mark)) (steps : List Step) (more : List (TxId × Mark)) →
    Grown s es a i less steps more → (t : TxId) (y : Mark) → mark_of t more ≡ Some y →
    (mark_of t less ≡ Some y) ⊎ (AllHeard s es t → ⊥)
Grown-cases s es a i less [] more g t y h = inl (rw g h)
Grown-cases s es a i less (p ∷ ps) more g t y h =
    elim (cases_Bool (tx_eq t p.tx)) [
      | inl e ↦
          let same : t ≡ p.tx = (Decides-tx t p.tx).0 e in
          inr (λ heard. g.1.unheard (subst (λ z. HasHeard (facts_of a es) z) same (heard a g.1.centre)))
      | inr e ↦
          let before : mark_of t ((p.tx, p.mark) ∷ p.before) ≡ Some y = sym (g.2.same t) ∙ h in
          Grown-cases s es a i less ps p.before g.0 t y (rw e at before)
    ]

-- what was heard stays heard
HasHeard-more : (f : ReducedFact) (fs : List ReducedFact) (t : TxId) → HasHeard fs t → HasHeard (f ∷ fs) t
HasHeard-more (Booted e) fs t h = h
HasHeard-more (Floor origin era upto) fs t h = h
HasHeard-more (Promised key low high m) fs t h = h
HasHeard-more (Voted j l marks) fs t h = h
HasHeard-more (Heard u o) fs t h = inr h
HasHeard-more (Adopted key version base deltas) fs t h = h

heard-more : (a : ℕ) (e : Entry) (es : List Entry) (t : TxId) → HasHeard (facts_of a es) t → HasHeard (facts_of a (e ∷ es)) t
heard-more a (Begun b u cs) es t h = h
heard-more a (Valued b j l marks) es t h = h
heard-more a (Happened b f) es t h = elim (cases_Bool (b == a)) [ inl e ↦ rw e (HasHeard-more f (facts_of a es) t h) | inr e ↦ rw e h ]

pub heard_tail : (s : Setup) (t : TxId) (old es : List Entry) → IsTail old es → AllHeard s old t → AllHeard s es t
heard_tail s t old [] tail h = subst (λ y. AllHeard s y t) tail h
heard_tail s t old (e ∷ es) tail h =
    elim tail [
      | inl same ↦ subst (λ y. AllHeard s y t) same h
      | inr rest ↦ (λ a listed. heard-more a e es t (heard_tail s t old es rest h a listed))
    ]

sent_more : (e : Entry) (es : List Entry) (i : Place) (m : Ballot) (marks : List (TxId × Mark)) → WasSent es i m marks → WasSent (e ∷ es) i m marks
sent_more (Happened b f) es i m marks h = h
sent_more (Begun b t cs) es i m marks h = h
sent_more (Valued b j l sent) es i m marks h = inr h

pub sent_tail : (i : Place) (m : Ballot) (marks : List (TxId × Mark)) (old es : List Entry) → IsTail old es → WasSent old i m marks → WasSent es i m marks
sent_tail i m marks old [] tail h = subst (λ y. WasSent y i m marks) tail h
sent_tail i m marks old (e ∷ es) tail h =
    elim tail [
      | inl same ↦ subst (λ y. WasSent y i m marks) same h
      | inr rest ↦ sent_more e es i m marks (sent_tail i m marks old es rest h)
    ]

pub IsTail-trans : (x y z : List Entry) → IsTail x y → IsTail y z → IsTail x z
IsTail-trans x y [] g h = rw h at g
IsTail-trans x y (e ∷ es) g h =
    elim h [ inl same ↦ rw same at g | inr rest ↦ inr (IsTail-trans x y es g rest) ]

-- what is finished at a centre, all have heard
finished-cases : (f : ReducedFact) (fs : List ReducedFact) (t : TxId) → finished (f ∷ fs) t ≡ true →
    ((last : ℕ) × (f ≡ Floor t.centre t.epoch last) × (0 < t.seq) × (t.seq ≤ last)) ⊎ (finished fs t ≡ true)
finished-cases (Booted e) fs t h = inr h
finished-cases (Promised key low high m) fs t h = inr h
finished-cases (Voted j l marks) fs t h = inr h
finished-cases (Heard u o) fs t h = inr h
finished-cases (Adopted key version base deltas) fs t h = inr h
finished-cases (Floor origin era upto) fs t h =
    elim (or_cases ((origin == t.centre) && ((era == t.epoch) && (nat_lt 0 t.seq && nat_le t.seq upto))) (finished fs t) h) [
      | inl e ↦
          let one : ((origin == t.centre) ≡ true) × (((era == t.epoch) && (nat_lt 0 t.seq && nat_le t.seq upto)) ≡ true) = and_parts _ _ e in
          let two : ((era == t.epoch) ≡ true) × ((nat_lt 0 t.seq && nat_le t.seq upto) ≡ true) = and_parts _ _ one.1 in
          let three : (nat_lt 0 t.seq ≡ true) × (nat_le t.seq upto ≡ true) = and_parts _ _ two.1 in
          let first : origin ≡ t.centre = eqb-true _ _ one.0 in
          let second : era ≡ t.epoch = eqb-true _ _ two.0 in
          inl (upto, cc, ltb-true _ _ three.0, leb-true _ _ three.1)
      | inr e ↦ inr e
    ]

pub finished_heard : (s : Setup) (a : ℕ) (t : TxId) (es : List Entry) → Allowed s es → finished (facts_of a es) t ≡ true → AllHeard s es t
finished_heard s a t [] allowed h = absurd (cc)
finished_heard s a t (Begun b u cs ∷ es) allowed h = finished_heard s a t es allowed.0 h
finished_heard s a t (Valued b j l marks ∷ es) allowed h = finished_heard s a t es allowed.0 h
finished_heard s a t (Happened b f ∷ es) allowed h =
    heard_tail s t es (Happened b f ∷ es) (inr (IsTail-same es))
    (elim (cases_Bool (b == a)) [
      | inl e ↦ elim (finished-cases f (facts_of a es) t (rw e at h)) [
        | inl floor ↦
            let may : MayHappen s es b (Floor t.centre t.epoch floor.0) = subst (MayHappen s es b) floor.1 allowed.1 in
            may t refl refl floor.2 floor.3
        | inr before ↦ finished_heard s a t es allowed.0 before
      ]
      | inr e ↦ finished_heard s a t es allowed.0 (rw e at h)
    ])

pub not_finished : (s : Setup) (a : ℕ) (t : TxId) (es : List Entry) → Allowed s es → (AllHeard s es t → ⊥) → finished (facts_of a es) t ≡ false
not_finished s a t es allowed h =
    elim (cases_Bool (finished (facts_of a es) t)) [ inl e ↦ absurd (h (finished_heard s a t es allowed e)) | inr e ↦ e ]

pub unfinished-before : (f : ReducedFact) (fs : List ReducedFact) (t : TxId) → finished (f ∷ fs) t ≡ false → finished fs t ≡ false
unfinished-before (Booted e) fs t h = h
unfinished-before (Promised key low high m) fs t h = h
unfinished-before (Voted j l marks) fs t h = h
unfinished-before (Heard u o) fs t h = h
unfinished-before (Adopted key version base deltas) fs t h = h
unfinished-before (Floor origin era upto) fs t h = (or_parts _ _ h).1

pub forgotten-none : (fs : List ReducedFact) (i : Place) (t : TxId) (ps : List (TxId × Mark)) → forgotten fs i t ≡ true → mark_of t (without_forgotten fs i ps) ≡ None
forgotten-none fs i t [] gone = refl
forgotten-none fs i t (p ∷ ps) gone =
    elim (cases_Bool (forgotten fs i p.0)) [
      | inl e ↦ rw e (forgotten-none fs i t ps gone)
      | inr e ↦
          let other : tx_eq t p.0 ≡ false = elim (cases_Bool (tx_eq t p.0)) [
            | inl same ↦ absurd (false≢true (sym e ∙ ap (forgotten fs i) (sym ((Decides-tx t p.0).0 same)) ∙ gone))
            | inr differ ↦ differ
          ] in
          rw (e, other) (forgotten-none fs i t ps gone)
    ]

-- a mark that is shown was voted, and a mark of a transaction that is not finished is shown
pub shown-voted : (fs : List ReducedFact) (i : Place) (t : TxId) (x : Mark) (ps : List (TxId × Mark)) → mark_of t (without_forgotten fs i ps) ≡ Some x → mark_of t ps ≡ Some x
shown-voted fs i t x [] h = h
shown-voted fs i t x (p ∷ ps) h =
    elim (cases_Bool (forgotten fs i p.0)) [
      | inl gone ↦ elim (cases_Bool (tx_eq t p.0)) [
        | inl e ↦
            let same : t ≡ p.0 = (Decides-tx t p.0).0 e in
            let none : mark_of t (without_forgotten fs i ps) ≡ None = rw same (forgotten-none fs i p.0 ps gone) in
            let some : mark_of t (without_forgotten fs i ps) ≡ Some x = rw gone at h in
            absurd (cc)
        | inr e ↦ rw e (shown-voted fs i t x ps (rw gone at h))
      ]
      | inr kept ↦
          let rest : cond (tx_eq t p.0) (Some p.1) (mark_of t (without_forgotten fs i ps)) ≡ Some x = rw kept at h in
          elim (cases_Bool (tx_eq t p.0)) [
            | inl e ↦ rw e (rw e at rest)
            | inr e ↦ rw e (shown-voted fs i t x ps (rw e at rest))
          ]
    ]

pub voted-shown : (fs : List ReducedFact) (i : Place) (t : TxId) (x : Mark) (ps : List (TxId × Mark)) → finished fs t ≡ false → mark_of t ps ≡ Some x → mark_of t (without_forgotten fs i ps) ≡ Some x
voted-shown fs i t x [] fresh h = h
voted-shown fs i t x (p ∷ ps) fresh h =
    elim (cases_Bool (forgotten fs i p.0)) [
      | inl gone ↦ rw gone (
          elim (cases_Bool (tx_eq t p.0)) [
            | inl e ↦
                let same : t ≡ p.0 = (Decides-tx t p.0).0 e in
                let done : finished fs p.0 ≡ true = (and_parts _ _ gone).0 in
                absurd (false≢true (sym fresh ∙ ap (finished fs) same ∙ done))
            | inr e ↦ voted-shown fs i t x ps fresh (rw e at h)
          ])
      | inr kept ↦ rw kept (
          elim (cases_Bool (tx_eq t p.0)) [
            | inl e ↦ rw e (rw e at h)
            | inr e ↦ rw e (voted-shown fs i t x ps fresh (rw e at h))
          ])
    ]

-- what is forgotten stays forgotten
finished-more : (f : ReducedFact) (fs : List ReducedFact) (t : TxId) → finished fs t ≡ true → finished (f ∷ fs) t ≡ true
finished-more (Booted e) fs t h = h
finished-more (Promised key low high m) fs t h = h
finished-more (Voted j l marks) fs t h = h
finished-more (Heard u o) fs t h = h
finished-more (Adopted key version base deltas) fs t h = h
finished-more (Floor origin era upto) fs t h =
    or_right ((origin == t.centre) && ((era == t.epoch) && (nat_lt 0 t.seq && nat_le t.seq upto))) (finished fs t) h

pub forgotten-more : (f : ReducedFact) (fs : List ReducedFact) (i : Place) (t : TxId) → forgotten fs i t ≡ true → forgotten (f ∷ fs) i t ≡ true
forgotten-more f fs i t h =
    let parts : (finished fs t ≡ true) × (nat_lt i.version (current fs i.key) ≡ true) = and_parts _ _ h in
    let over : i.version < current fs i.key = ltb-true _ _ parts.1 in
    and_from (finished (f ∷ fs) t) (nat_lt i.version (current (f ∷ fs) i.key)) (finished-more f fs t parts.0) (lt-ltb _ _ (omega arith))

pub still-shown : (f : ReducedFact) (fs : List ReducedFact) (i : Place) (t : TxId) → forgotten (f ∷ fs) i t ≡ false → forgotten fs i t ≡ false
still-shown f fs i t h =
    elim (cases_Bool (forgotten fs i t)) [ inl e ↦ absurd (false≢true (sym h ∙ forgotten-more f fs i t e)) | inr e ↦ e ]

pub shown-kept : (fs : List ReducedFact) (i : Place) (t : TxId) (x : Mark) (ps : List (TxId × Mark)) → mark_of t (without_forgotten fs i ps) ≡ Some x → forgotten fs i t ≡ false
shown-kept fs i t x ps h =
    elim (cases_Bool (forgotten fs i t)) [
      | inl e ↦ (let none : mark_of t (without_forgotten fs i ps) ≡ None = forgotten-none fs i t ps e in absurd (cc))
      | inr e ↦ e
    ]

pub kept-shown : (fs : List ReducedFact) (i : Place) (t : TxId) (x : Mark) (ps : List (TxId × Mark)) → forgotten fs i t ≡ false → mark_of t ps ≡ Some x → mark_of t (without_forgotten fs i ps) ≡ Some x
kept-shown fs i t x [] fresh h = h
kept-shown fs i t x (p ∷ ps) fresh h =
    elim (cases_Bool (forgotten fs i p.0)) [
      | inl gone ↦ rw gone (
          elim (cases_Bool (tx_eq t p.0)) [
            | inl e ↦
                let same : t ≡ p.0 = (Decides-tx t p.0).0 e in
                absurd (false≢true (sym fresh ∙ ap (forgotten fs i) same ∙ gone))
            | inr e ↦ kept-shown fs i t x ps fresh (rw e at h)
          ])
      | inr kept ↦ rw kept (
          elim (cases_Bool (tx_eq t p.0)) [
            | inl e ↦ rw e (rw e at h)
            | inr e ↦ rw e (kept-shown fs i t x ps fresh (rw e at h))
          ])
    ]

-- of a transaction that not all have heard, a report shows just the mark that was voted
pub kept_same : (fs : List ReducedFact) (i : Place) (t : TxId) (ps : List (TxId × Mark)) → forgotten fs i t ≡ false → mark_of t (without_forgotten fs i ps) ≡ mark_of t ps
kept_same fs i t [] h = refl
kept_same fs i t (p ∷ ps) h =
    elim (cases_Bool (forgotten fs i p.0)) [
      | inl gone ↦
          let other : tx_eq t p.0 ≡ false = elim (cases_Bool (tx_eq t p.0)) [
            | inl same ↦ absurd (false≢true (sym h ∙ ap (forgotten fs i) ((Decides-tx t p.0).0 same) ∙ gone))
            | inr differ ↦ differ
          ] in
          rw (gone, other) (kept_same fs i t ps h)
      | inr kept ↦ rw kept (ap (λ z. cond (tx_eq t p.0) (Some p.1) z) (kept_same fs i t ps h))
    ]

pub forgotten_heard : (s : Setup) (es : List Entry) → Allowed s es → (a : ℕ) (i : Place) (t : TxId) → forgotten (facts_of a es) i t ≡ true → AllHeard s es t
forgotten_heard s es allowed a i t h = finished_heard s a t es allowed (and_parts _ _ h).0

pub shown_same : (s : Setup) (es : List Entry) → Allowed s es → (a : ℕ) (i : Place) (k : Ballot) (t : TxId) → (AllHeard s es t → ⊥) →
    mark_of t (shown (facts_of a es) i k) ≡ mark_of t (votes (facts_of a es) i k)
shown_same s es allowed a i k t unheard =
    kept_same (facts_of a es) i t (votes (facts_of a es) i k)
    (elim (cases_Bool (forgotten (facts_of a es) i t)) [ inl e ↦ absurd (unheard (forgotten_heard s es allowed a i t e)) | inr e ↦ e ])
