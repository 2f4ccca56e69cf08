-- The answer to an Accept is good.
use Rattle.std.proofs.Common.{Bool, List, None, Option, Some, [], ap, arith, false, inl, inr, length, not, refl, subst, sym, true, ℕ, ◌&&◌, ◌==◌, ◌∙◌, ◌||◌, ◌∷◌, ◌≡◌, ◌⊎◌}
use Rattle.std.specs.Prelude.{filter, is_some, nat_lt}
use Rattle.std.specs.Option.{option_or}
use Rattle.std.specs.List.{list_all}
use Rattle.std.proofs.lemmas.Bool.{and_from, and_parts, cases_Bool, eq-eqb, eqb-true, le-leb, lt-ltb, ltb-false, not-true, not_from_false, true≢false}
use Rattle.mdcc_base.specs.declared.identifiers.Ballot.{Ballot}
use Rattle.mdcc_base.specs.declared.key.Key.{Key}
use Rattle.mdcc_base.specs.declared.identifiers.TxId.{TxId}
use Rattle.mdcc_base.specs.Ballot.{ballot_eq, ballot_lt, is_fast}
use Rattle.mdcc_base.specs.Key.{key_eq}
use Rattle.mdcc_base.specs.TxId.{tx_eq}
use Rattle.mdcc_option.specs.declared.cluster.Cluster.{Cluster}
use Rattle.mdcc_option.specs.declared.choices.Mark.{Mark}
use Rattle.mdcc_struct.specs.declared.options.Options.{Options}
use Rattle.mdcc_struct.specs.Maps.{union, value_of}
use Rattle.mdcc_def_messages.specs.declared.facts.Fact.{Fact}
use Rattle.mdcc_def_protocol.specs.Facts.{current_of, is_finished, is_heard, is_settled, marks_voted, promise_of, votes_of}
use Rattle.mdcc_def_protocol.specs.declared.acceptor.AcceptAnswer.{AcceptAnswer}
use Rattle.mdcc_def_rules.specs.AcceptorRules.{accept_step, accepted_step, all_votes_sent, votes_sent}
use Rattle.mdcc_def_protocol.specs.Acceptor.{answer_to_marks, new_marks, on_accept}
use Rattle.mdcc_def_ledger.specs.Ledger.{Added, Entry, facts_of, mark_given}
use Rattle.mdcc_def_ledger.specs.AllowedLedgers.{IsAllowed, IsBacked, IsSent, is_valued}
use Rattle.mdcc_def_ledger.specs.BootTest.{is_allowed_kind}
use Rattle.mdcc_def_protocol.specs.Belongs.{ballot_belongs, mark_belongs, options_belong, tx_belongs}
use Rattle.mdcc_def_messages.specs.declared.messages.Message.{Message}
use Rattle.mdcc_def_protocol.specs.Volatile.{Volatile}
use Rattle.mdcc_theorem_trace_states.specs.Words.{Each, In}
use Rattle.mdcc_theorem_trace_states.specs.Invariant.{IsGoodBy}
use Rattle.mdcc_theorem_trace_states.specs.VolatileInvariant.{IsPlaced}
use Rattle.mdcc_theorem_trace_states.specs.Sound.{IsSoundMark}
use Rattle.mdcc_theorem_trace_states.specs.MessageMeaning.{TrueWhenSent}
use Rattle.mdcc_theorem_trace_states.proofs.Tests.{Decides-ballot, Decides-key, may-add}
use Rattle.mdcc_theorem_trace_states.proofs.Lists.{In-filter, IsTail-same}
use Rattle.mdcc_theorem_trace_states.proofs.Maps.{is_some-none, tx-true, value_of-union}
use Rattle.mdcc_theorem_trace_states.proofs.Kept.{ArePlaced-fact, Keeps-more, quiet-fact}
use Rattle.mdcc_theorem_trace_states.proofs.Belonging.{facts-belong, promise-belongs}
use Rattle.mdcc_theorem_trace_rules.proofs.Begins.{Each-flat_map, sends-good, stands-each}
use Rattle.mdcc_theorem_trace_rules.specs.Laws.{HasEachMark}
use Rattle.mdcc_theorem_trace_rules.proofs.Chains.{HasOnce, backed, chain, once-apart, once-at, once-filter, structure-once}
use Rattle.mdcc_theorem_trace_rules.specs.Closed.{IsClosed}
use Rattle.mdcc_theorem_trace_states.specs.Steps.{IsUp}

-- ---- the marks that are new

pub neither : (x y : Bool) → (x || y) ≡ false → (x ≡ false) × (y ≡ false)
neither true y h = absurd (cc)
neither false true h = absurd (cc)
neither false false h = (refl, refl)

new-at : (fs : List Fact) (ys xs : Options) (t : TxId) → value_of ys t ≡ None → is_finished fs t ≡ false → value_of (filter (λ (e : TxId × Mark). not (is_some (value_of ys e.0) || is_finished fs e.0)) xs) t ≡ value_of xs t
new-at fs ys [] t h u = refl
new-at fs ys (x ∷ xs) t h u =
    elim (cases_Bool (tx_eq x.0 t)) [
      | inl e ↦
          let n : value_of ys x.0 ≡ None = subst (λ z. value_of ys z ≡ None) (sym (tx-true x.0 t e)) h in
          let m : is_finished fs x.0 ≡ false = subst (λ z. is_finished fs z ≡ false) (sym (tx-true x.0 t e)) u in
          let new : not (is_some (value_of ys x.0) || is_finished fs x.0) ≡ true = rw n (rw m refl) in
          rw new (rw e refl)
      | inr e ↦ elim (cases_Bool (not (is_some (value_of ys x.0) || is_finished fs x.0))) [
        | inl g ↦ rw g (rw e (new-at fs ys xs t h u))
        | inr g ↦ rw g (rw e (new-at fs ys xs t h u))
      ]
    ]

-- a finished transaction has no new mark
new-none : (fs : List Fact) (ys xs : Options) (t : TxId) → is_finished fs t ≡ true → value_of (filter (λ (e : TxId × Mark). not (is_some (value_of ys e.0) || is_finished fs e.0)) xs) t ≡ None
new-none fs ys [] t f = refl
new-none fs ys (x ∷ xs) t f =
    elim (cases_Bool (tx_eq x.0 t)) [
      | inl e ↦
          let m : is_finished fs x.0 ≡ true = subst (λ z. is_finished fs z ≡ true) (sym (tx-true x.0 t e)) f in
          rw (past (is_some (value_of ys x.0)) (is_finished fs x.0) m) (new-none fs ys xs t f)
      | inr e ↦ elim (cases_Bool (not (is_some (value_of ys x.0) || is_finished fs x.0))) [
        | inl g ↦ rw g (rw e (new-none fs ys xs t f))
        | inr g ↦ rw g (new-none fs ys xs t f)
      ]
    ]
  where
    past : (p q : Bool) → q ≡ true → not (p || q) ≡ false
    past true q h = refl
    past false true h = refl
    past false false h = absurd (cc)

-- the votes with the new marks
with-new : (fs : List Fact) (ys xs : Options) (t : TxId) → is_finished fs t ≡ false → value_of (union ys (filter (λ (e : TxId × Mark). not (is_some (value_of ys e.0) || is_finished fs e.0)) xs)) t ≡ option_or (value_of ys t) (value_of xs t)
with-new fs ys xs t u = value_of-union ys _ t ∙ by_case (value_of ys t) refl
  where
    by_case : (o : Option Mark) → value_of ys t ≡ o → option_or (value_of ys t) (value_of (filter (λ (e : TxId × Mark). not (is_some (value_of ys e.0) || is_finished fs e.0)) xs) t) ≡ option_or (value_of ys t) (value_of xs t)
    by_case None e = ap (λ z. option_or (value_of ys t) z) (new-at fs ys xs t e u)
    by_case (Some y) e = rw e refl

with-old : (fs : List Fact) (ys xs : Options) (t : TxId) → is_finished fs t ≡ true → value_of (union ys (filter (λ (e : TxId × Mark). not (is_some (value_of ys e.0) || is_finished fs e.0)) xs)) t ≡ value_of ys t
with-old fs ys xs t f = value_of-union ys _ t ∙ (ap (λ z. option_or (value_of ys t) z) (new-none fs ys xs t f) ∙ by_case (value_of ys t))
  where
    by_case : (o : Option Mark) → option_or o None ≡ o
    by_case None = refl
    by_case (Some y) = refl

-- the vote, with what a structure brings, is the mark of a structure, or there is none and the transaction is finished
abbrev IsAt : List Fact → Key → ℕ → Ballot → Options → Options → TxId → Type 0
IsAt fs k v b xs s t = (value_of (union (votes_of fs k v b) (new_marks fs k v b xs)) t ≡ value_of s t)
    ⊎ ((value_of (union (votes_of fs k v b) (new_marks fs k v b xs)) t ≡ None) × (is_finished fs t ≡ true))

-- the votes, with what a structure brings, are a structure, but for what is finished
sent-with : (cluster : Cluster) (es : List Entry) (a : ℕ) (k : Key) (v : ℕ) (b : Ballot) (xs : Options) → IsAllowed cluster es → is_fast b ≡ false → is_valued es k v b xs ≡ true →
    IsSent es (facts_of es a) k v b (union (votes_of (facts_of es a) k v b) (new_marks (facts_of es a) k v b xs))
sent-with cluster es a k v b xs legal classic was =
    elim (backed cluster es a k v b legal classic) [
      | inl n ↦ record { structure = xs; was = was; same = each xs (λ t y g. let bad : None ≡ Some y = sym (n t) ∙ g in absurd (cc)) (λ t u. rw (n t) refl) }
      | inr s ↦ elim (chain cluster es k v b xs s.structure legal was s.was) [
        | inl x ↦ record { structure = s.structure; was = s.was; same = each s.structure (λ t y g. sym (mine t s.structure y (s.same t) g) ∙ g) (λ t u. let q = left_open t s.structure u (s.same t) in (rw q (right t s.structure x (value_of s.structure t) refl))) }
        | inr x ↦ record { structure = xs; was = was; same = each xs (λ t y g. x t y (sym (mine t s.structure y (s.same t) g) ∙ g)) (λ t u. let q = left_open t s.structure u (s.same t) in (rw q (left t s.structure x (value_of s.structure t) refl))) }
      ]
    ]
  where
    -- a vote that stands is the structure's; and so is none, where the transaction is not finished
    mine : (t : TxId) (s : Options) (y : Mark) → (value_of (votes_of (facts_of es a) k v b) t ≡ value_of s t) ⊎ ((value_of (votes_of (facts_of es a) k v b) t ≡ None) × (is_finished (facts_of es a) t ≡ true)) → value_of (votes_of (facts_of es a) k v b) t ≡ Some y → value_of (votes_of (facts_of es a) k v b) t ≡ value_of s t
    mine t s y (inl q) g = q
    mine t s y (inr n) g = let bad : None ≡ Some y = sym n.0 ∙ g in absurd (cc)

    left_open : (t : TxId) (s : Options) → is_finished (facts_of es a) t ≡ false → (value_of (votes_of (facts_of es a) k v b) t ≡ value_of s t) ⊎ ((value_of (votes_of (facts_of es a) k v b) t ≡ None) × (is_finished (facts_of es a) t ≡ true)) → value_of (votes_of (facts_of es a) k v b) t ≡ value_of s t
    left_open t s u (inl q) = q
    left_open t s u (inr n) = absurd (true≢false (sym n.1 ∙ u))

    each : (s : Options) → ((t : TxId) (y : Mark) → value_of (votes_of (facts_of es a) k v b) t ≡ Some y → value_of s t ≡ Some y) →
        ((t : TxId) → is_finished (facts_of es a) t ≡ false → option_or (value_of (votes_of (facts_of es a) k v b) t) (value_of xs t) ≡ value_of s t) → (t : TxId) → IsAt (facts_of es a) k v b xs s t
    each s old new t =
        elim (cases_Bool (is_finished (facts_of es a) t)) [
          | inl f ↦ finished f (value_of (votes_of (facts_of es a) k v b) t) refl
          | inr f ↦ inl (with-new (facts_of es a) (votes_of (facts_of es a) k v b) xs t f ∙ new t f)
        ]
      where
        finished : is_finished (facts_of es a) t ≡ true → (o : Option Mark) → value_of (votes_of (facts_of es a) k v b) t ≡ o → IsAt (facts_of es a) k v b xs s t
        finished f None e = inr (with-old (facts_of es a) (votes_of (facts_of es a) k v b) xs t f ∙ e, f)
        finished f (Some y) e = inl (with-old (facts_of es a) (votes_of (facts_of es a) k v b) xs t f ∙ (e ∙ sym (old t y e)))

    left : (t : TxId) (s : Options) → HasEachMark s xs → (o : Option Mark) → value_of s t ≡ o → option_or (value_of s t) (value_of xs t) ≡ value_of xs t
    left t s x None e = rw e refl
    left t s x (Some y) e = rw e (sym (x t y e))

    right : (t : TxId) (s : Options) → HasEachMark xs s → (o : Option Mark) → value_of s t ≡ o → option_or (value_of s t) (value_of xs t) ≡ value_of s t
    right t s x (Some y) e = rw e refl
    right t s x None e = rw e (none (value_of xs t) refl)
      where
        none : (o : Option Mark) → value_of xs t ≡ o → o ≡ None
        none None g = refl
        none (Some y) g = let bad : None ≡ Some y = sym e ∙ x t y g in absurd (cc)

-- a mark of the votes is the structure's
pub same-mark : (cluster : Cluster) (es : List Entry) (a : ℕ) (k : Key) (v : ℕ) (b : Ballot) (xs : Options) (t : TxId) (x y : Mark) → IsAllowed cluster es → is_fast b ≡ false → is_valued es k v b xs ≡ true → value_of xs t ≡ Some x →
    value_of (votes_of (facts_of es a) k v b) t ≡ Some y → y ≡ x
same-mark cluster es a k v b xs t x y legal classic was h g =
    elim (backed cluster es a k v b legal classic) [
      | inl n ↦ let bad : None ≡ Some y = sym (n t) ∙ g in absurd (cc)
      | inr s ↦ elim (s.same t) [
        | inl q ↦
            let i : value_of s.structure t ≡ Some y = sym q ∙ g in
            elim (chain cluster es k v b xs s.structure legal was s.was) [
              | inl e ↦ let r : Some y ≡ Some x = sym i ∙ e t x h in cc
              | inr e ↦ let r : Some y ≡ Some x = sym (e t y i) ∙ h in cc
            ]
        | inr n ↦ let bad : None ≡ Some y = sym n.0 ∙ g in absurd (cc)
      ]
    ]

filter-twice : {A : Type 0} (p : A → Bool) (xs : List A) → filter p (filter p xs) ≡ filter p xs
filter-twice p [] = refl
filter-twice p (x ∷ xs) = elim (cases_Bool (p x)) [ inl e ↦ rw e (rw e (ap (λ z. x ∷ z) (filter-twice p xs))) | inr e ↦ rw e (filter-twice p xs) ]

all-filter : {A : Type 0} (p q : A → Bool) (xs : List A) → list_all q xs ≡ true → list_all q (filter p xs) ≡ true
all-filter p q [] h = refl
all-filter p q (x ∷ xs) h =
    let r = and_parts (q x) (list_all q xs) h in
    elim (cases_Bool (p x)) [ inl e ↦ rw e (and_from (q x) _ r.0 (all-filter p q xs r.1)) | inr e ↦ rw e (all-filter p q xs r.1) ]

-- ---- the rule

module _ (also : List Entry → Type 0) (shut : IsClosed also) (cluster : Cluster) (es : List Entry) (a : ℕ) (volatile : Volatile) (up : IsUp also cluster es a volatile) (l : ℕ) (k : Key) (v : ℕ) (b : Ballot) (xs : Options)
    (classic : is_fast b ≡ false) (was : is_valued es k v b xs ≡ true) (ballot-in : ballot_belongs cluster b ≡ true) (options-in : options_belong cluster xs ≡ true)
    (sound : (t : TxId) (m : Mark) → value_of xs t ≡ Some m → IsSoundMark es k v t m)
    (voted : IsAllowed cluster (Added a (Fact.Voted k v b (new_marks (facts_of es a) k v b xs) None) ∷ es) → also (Added a (Fact.Voted k v b (new_marks (facts_of es a) k v b xs) None) ∷ es)) where
  once : HasOnce xs
  once = structure-once cluster es k v b xs up.legal was

  abbrev pub marks : Options
  marks = new_marks (facts_of es a) k v b xs

  abbrev pub fact : Fact
  fact = Fact.Voted k v b (new_marks (facts_of es a) k v b xs) None

  abbrev pub GoodAccepted : AcceptAnswer → Type 0
  GoodAccepted answer = IsGoodBy cluster also es a (accepted_step a (facts_of es a) volatile l k v b xs answer) (accepted_step a (facts_of es a) volatile l k v b xs answer).fact

  -- a vote that a message says is given, in a ledger where it is
  each-sent : (ledger : List Entry) (os : Options) → ((e : TxId × Mark) → In e os → is_settled (facts_of es a) e.0 ≡ false → mark_given ledger k v b e.0 a ≡ Some e.1) → Each (TrueWhenSent cluster ledger) (all_votes_sent a (facts_of es a) k v b os)
  each-sent ledger os h =
      Each-flat_map (TrueWhenSent cluster ledger) (votes_sent a k v b) (filter (λ (e : TxId × Mark). not (is_settled (facts_of es a) e.0)) os)
      (λ e i. stands-each cluster ledger a (Message.Voted k v b e.0 e.1) _ up.centre (let r = In-filter (λ (e : TxId × Mark). not (is_settled (facts_of es a) e.0)) os e i in h e r.0 (not-true _ r.1)))

  new-in : (e : TxId × Mark) → In e (new_marks (facts_of es a) k v b xs) → In e xs × (value_of (votes_of (facts_of es a) k v b) e.0 ≡ None) × (is_finished (facts_of es a) e.0 ≡ false)
  new-in e i = let r = In-filter (λ (e : TxId × Mark). not (is_some (value_of (votes_of (facts_of es a) k v b) e.0) || is_finished (facts_of es a) e.0)) xs e i in let n = neither (is_some (value_of (votes_of (facts_of es a) k v b) e.0)) (is_finished (facts_of es a) e.0) (not-true _ r.1) in (r.0, is_some-none _ n.0, n.1)

  vote-legal : ballot_lt b (promise_of (facts_of es a) k v) ≡ false → nat_lt (current_of (facts_of es a) k) v ≡ false → nat_lt 0 (length (new_marks (facts_of es a) k v b xs)) ≡ true → IsAllowed cluster (Added a fact ∷ es)
  vote-legal above within some =
      (up.legal, (up.centre, may-add cluster (facts_of es a) fact (and_from _ _ (and_from _ _ (and_from _ _ (and_from _ _ ballot-in (all-filter _ (λ (e : TxId × Mark). tx_belongs cluster e.0 && mark_belongs cluster e.1) xs options-in)) refl) (lt-ltb 0 _ up.booted)) kind-of), sent))
    where
      twice : new_marks (facts_of es a) k v b (new_marks (facts_of es a) k v b xs) ≡ new_marks (facts_of es a) k v b xs
      twice = filter-twice (λ (e : TxId × Mark). not (is_some (value_of (votes_of (facts_of es a) k v b) e.0) || is_finished (facts_of es a) e.0)) xs

      kind-of : is_allowed_kind cluster (facts_of es a) fact ≡ true
      kind-of =
          rw classic
          (and_from _ _ (and_from _ _ (and_from _ _ (and_from _ _ (and_from _ _ (not_from_false (ballot_lt b (promise_of (facts_of es a) k v)) above) (le-leb v _ (ltb-false _ _ within))) some)
          (once-apart (new_marks (facts_of es a) k v b xs) (once-filter (λ (e : TxId × Mark). not (is_some (value_of (votes_of (facts_of es a) k v b) e.0) || is_finished (facts_of es a) e.0)) xs once)))
          (eq-eqb _ _ (ap (λ (z : Options). length z) twice))) refl)

      sent : IsBacked cluster es a fact
      sent = rw classic (sent-with cluster es a k v b xs up.legal classic was)

  vote-good : ballot_lt b (promise_of (facts_of es a) k v) ≡ false → nat_lt (current_of (facts_of es a) k) v ≡ false → nat_lt 0 (length (new_marks (facts_of es a) k v b xs)) ≡ true → GoodAccepted AcceptAnswer.Vote
  vote-good above within some =
      let legal = vote-legal above within some in (
        refl,
        record {
          own = (refl, tt);
          legal = legal;
          placed = ArePlaced-fact cluster a fact es legal up.placed placed;
          more = voted legal;
          stand = each-sent (Added a fact ∷ es) (new_marks (facts_of es a) k v b xs) (λ e i u. given e i);
          keeps = Keeps-more cluster (Added a fact) es a volatile legal (quiet-fact a a fact es refl) up.keeps;
        },
      )
    where
      placed : (j : Key) (w : ℕ) (m : Ballot) (t : TxId) (x : Mark) → value_of (marks_voted j w m fact) t ≡ Some x → IsPlaced es j w t
      placed j w m t x h =
          elim (cases_Bool (v == w && ballot_eq b m && key_eq k j)) [
            | inl e ↦
                let both = and_parts (v == w && ballot_eq b m) (key_eq k j) e in
                let first = and_parts (v == w) (ballot_eq b m) both.0 in
                let g : value_of (new_marks (facts_of es a) k v b xs) t ≡ Some x = rw e at h in
                subst (λ z. IsPlaced es z w t) ((Decides-key k j).0 both.1) (subst (λ z. IsPlaced es k z t) (eqb-true v w first.0) (placed-new t x g))
            | inr e ↦ let bad : None ≡ Some x = rw e at h in absurd (cc)
          ]
        where
          value-in : (os : Options) (t : TxId) (x : Mark) → value_of os t ≡ Some x → (e : TxId × Mark) × (In e os) × (e.0 ≡ t)
          value-in [] t x g = absurd (cc)
          value-in (e ∷ os) t x g =
              elim (cases_Bool (tx_eq e.0 t)) [
                | inl n ↦ (e, inl refl, tx-true e.0 t n)
                | inr n ↦ let i : value_of os t ≡ Some x = rw n at g in let r = value-in os t x i in (r.0, inr r.1, r.2)
              ]

          placed-new : (t : TxId) (x : Mark) → value_of (new_marks (facts_of es a) k v b xs) t ≡ Some x → IsPlaced es k v t
          placed-new t x g =
              let r = value-in (new_marks (facts_of es a) k v b xs) t x g in
              let i = new-in r.0 r.1 in
              subst (λ z. IsPlaced es k v z) r.2 (sound r.0.0 r.0.1 (once-at xs r.0 once i.0)).placed

      given : (e : TxId × Mark) → In e (new_marks (facts_of es a) k v b xs) → mark_given (Added a fact ∷ es) k v b e.0 a ≡ Some e.1
      given e i =
          let r = new-in e i in
          let test : (v == v && ballot_eq b b && key_eq k k) ≡ true = and_from _ _ (and_from _ _ (eq-eqb v v refl) ((Decides-ballot b b).1 refl)) ((Decides-key k k).1 refl) in
          rw (eq-eqb a a refl) (rw test (with-new (facts_of es a) (votes_of (facts_of es a) k v b) xs e.0 r.2 ∙ (rw r.1 (once-at xs e once r.0))))

  older-good : new_marks (facts_of es a) k v b xs ≡ [] → GoodAccepted AcceptAnswer.Older
  older-good none = sends-good also cluster es a volatile volatile (all_votes_sent a (facts_of es a) k v b xs) up up.keeps (each-sent es xs given)
    where
      given : (e : TxId × Mark) → In e xs → is_settled (facts_of es a) e.0 ≡ false → mark_given es k v b e.0 a ≡ Some e.1
      given e i u = by_case (value_of (votes_of (facts_of es a) k v b) e.0) refl
        where
          by_case : (o : Option Mark) → value_of (votes_of (facts_of es a) k v b) e.0 ≡ o → value_of (votes_of (facts_of es a) k v b) e.0 ≡ Some e.1
          by_case (Some y) g = g ∙ ap Some (same-mark cluster es a k v b xs e.0 e.1 y up.legal classic was (once-at xs e once i) g)
          by_case None g = let h : value_of (new_marks (facts_of es a) k v b xs) e.0 ≡ Some e.1 = new-at (facts_of es a) (votes_of (facts_of es a) k v b) xs e.0 g (neither (is_heard (facts_of es a) e.0) (is_finished (facts_of es a) e.0) u).1 ∙ once-at xs e once i in
              let bad : None ≡ Some e.1 = ap (λ (z : Options). value_of z e.0) (sym none) ∙ h in absurd (cc)

  pub accept-good : IsGoodBy cluster also es a (accept_step a (facts_of es a) volatile l k v b xs) (accept_step a (facts_of es a) volatile l k v b xs).fact
  accept-good =
      elim (cases_Bool (ballot_lt b (promise_of (facts_of es a) k v))) [
        | inl e ↦ subst GoodAccepted (sym (refused e)) (sends-good also cluster es a volatile volatile _ up up.keeps (record { from = up.centre; old = es; tail = IsTail-same es; says = (ballot-in, promise-belongs cluster (facts_of es a) k v (facts-belong cluster es a up.legal)) }, tt))
        | inr e ↦ elim (cases_Bool (nat_lt (current_of (facts_of es a) k) v)) [
          | inl f ↦ subst GoodAccepted (sym (behind e f)) (sends-good also cluster es a volatile volatile _ up up.keeps (record { from = up.centre; old = es; tail = IsTail-same es; says = tt }, tt))
          | inr f ↦ subst GoodAccepted (sym (answered e f)) (by_case e f (new_marks (facts_of es a) k v b xs) refl)
        ]
      ]
    where
      refused : ballot_lt b (promise_of (facts_of es a) k v) ≡ true → on_accept (facts_of es a) k v b xs ≡ AcceptAnswer.Refused (promise_of (facts_of es a) k v)
      refused e = rw e refl

      behind : ballot_lt b (promise_of (facts_of es a) k v) ≡ false → nat_lt (current_of (facts_of es a) k) v ≡ true → on_accept (facts_of es a) k v b xs ≡ AcceptAnswer.Behind (current_of (facts_of es a) k)
      behind e f = rw e (rw f refl)

      answered : ballot_lt b (promise_of (facts_of es a) k v) ≡ false → nat_lt (current_of (facts_of es a) k) v ≡ false → on_accept (facts_of es a) k v b xs ≡ answer_to_marks (new_marks (facts_of es a) k v b xs)
      answered e f = rw e (rw f refl)

      by_case : ballot_lt b (promise_of (facts_of es a) k v) ≡ false → nat_lt (current_of (facts_of es a) k) v ≡ false → (os : Options) → new_marks (facts_of es a) k v b xs ≡ os → GoodAccepted (answer_to_marks os)
      by_case e f [] g = older-good g
      by_case e f (m ∷ ms) g = vote-good e f (subst (λ (z : Options). nat_lt 0 (length z) ≡ true) (sym g) (lt-ltb 0 _ (omega arith)))
