-- The structures of one ballot are a chain; a centre's votes at a classic ballot are one of them.
use Rattle.std.proofs.Common.{Bool, List, None, Option, Some, [], ap, arith, false, inl, inr, length, not, refl, subst, sym, true, ℕ, ◌&&◌, ◌==◌, ◌∙◌, ◌∷◌, ◌≡◌, ◌⊎◌}
use Rattle.std.specs.Prelude.{filter, filter_map, find, fold, is_some, nat_le, nat_lt, option_map, ⊤}
use Rattle.std.specs.List.{cons_option}
use Rattle.std.proofs.lemmas.Bool.{MatchBool-at_false, and_from, and_parts, cases_Bool, eqb-true, le-leb, leb-true, or_cases, or_left, or_right, true≢false}
use Rattle.mdcc_base.specs.declared.identifiers.Ballot.{Ballot}
use Rattle.mdcc_base.specs.declared.key.Key.{Key}
use Rattle.mdcc_base.specs.Sizes.{Sizes}
use Rattle.mdcc_base.specs.declared.identifiers.TxId.{TxId}
use Rattle.mdcc_base.specs.Ballot.{ballot_eq, is_fast}
use Rattle.mdcc_base.specs.Key.{key_eq}
use Rattle.mdcc_base.specs.Quorums.{threshold}
use Rattle.mdcc_base.specs.TxId.{tx_eq, tx_lt}
use Rattle.mdcc_option.specs.declared.choices.Choice.{Choice}
use Rattle.mdcc_option.specs.declared.cluster.Cluster.{Cluster}
use Rattle.mdcc_option.specs.declared.choices.Mark.{Mark}
use Rattle.mdcc_struct.specs.declared.options.Options.{Options}
use Rattle.mdcc_struct.specs.Maps.{TxMap, inserted, union, value_of, with_entry}
use Rattle.mdcc_struct.specs.declared.report.Report.{Report}
use Rattle.mdcc_struct.specs.Forced.{ballot_reported, forced_of, marks_reported, reports_with}
use Rattle.mdcc_def_protocol.specs.Marks.{options_eq}
use Rattle.mdcc_def_messages.specs.declared.facts.Fact.{Fact}
use Rattle.mdcc_def_protocol.specs.Facts.{floor_of, is_finished, is_settled, votes_of}
use Rattle.mdcc_def_protocol.specs.Structures.{all_claims, first_structure, is_left_out, mark_of_choice, with_claim}
use Rattle.mdcc_def_ledger.specs.Ledger.{Added, Entry, Valued, facts_of, structure_valued}
use Rattle.mdcc_def_ledger.specs.AllowedLedgers.{IsAllowed, IsSent, is_valued, is_valued_as}
use Rattle.mdcc_def_ledger.specs.AllowedStructures.{IsMade}
use Rattle.mdcc_def_ledger.specs.AllowedFacts.{are_apart}
use Rattle.mdcc_theorem_trace_rules.specs.Laws.{HasEachMark}
use Rattle.mdcc_theorem_trace_states.specs.Words.{In, IsTail}
use Rattle.mdcc_theorem_trace_states.proofs.Tests.{Decides-ballot, Decides-key, Decides-options, Decides-tx}
use Rattle.mdcc_theorem_trace_states.proofs.Maps.{is_some-none, tx-true, value_of-inserted}

-- ---- maps that have a transaction once

abbrev pub HasOnce : {X : Type 0} → TxMap X → Type 0
HasOnce [] = ⊤
HasOnce (e ∷ es) = (value_of es e.0 ≡ None) × HasOnce es

pub once-value : {X : Type 0} (m : TxMap X) (e : TxId × X) → HasOnce m → In e m → value_of m e.0 ≡ Some e.1
once-value [] e h i = absurd i
once-value (x ∷ xs) e h i =
    elim i [
      | inl s ↦ let t : tx_eq x.0 e.0 ≡ true = (Decides-tx x.0 e.0).1 (ap (λ z. z.0) (sym s)) in rw t (ap (λ z. Some z.1) (sym s))
      | inr r ↦
          let v = once-value xs e h.1 r in
          elim (cases_Bool (tx_eq x.0 e.0)) [
            | inl t ↦ let n : value_of xs e.0 ≡ None = subst (λ z. value_of xs z ≡ None) (tx-true x.0 e.0 t) h.0 in let bad : None ≡ Some e.1 = sym n ∙ v in absurd (cc)
            | inr t ↦ rw t v
          ]
    ]

pub once-at : (m : Options) (e : TxId × Mark) → HasOnce m → In e m → value_of m e.0 ≡ Some e.1
once-at m e h i = once-value m e h i

pub once-apart : (os : Options) → HasOnce os → are_apart os ≡ true
once-apart [] h = refl
once-apart (e ∷ os) h = and_from (not (is_some (value_of os e.0))) (are_apart os) (rw h.0 refl) (once-apart os h.1)

none-filter : {X : Type 0} (p : TxId × X → Bool) (m : TxMap X) (t : TxId) → value_of m t ≡ None → value_of (filter p m) t ≡ None
none-filter p [] t h = refl
none-filter p (e ∷ es) t h =
    elim (cases_Bool (tx_eq e.0 t)) [
      | inl g ↦ let bad : Some e.1 ≡ None = rw g at h in absurd (cc)
      | inr g ↦ let rest : value_of es t ≡ None = rw g at h in
          elim (cases_Bool (p e)) [ inl f ↦ rw f (rw g (none-filter p es t rest)) | inr f ↦ rw f (none-filter p es t rest) ]
    ]

pub once-filter : {X : Type 0} (p : TxId × X → Bool) (m : TxMap X) → HasOnce m → HasOnce (filter p m)
once-filter p [] h = tt
once-filter p (e ∷ es) h =
    elim (cases_Bool (p e)) [ inl f ↦ rw f (none-filter p es e.0 h.0, once-filter p es h.1) | inr f ↦ rw f (once-filter p es h.1) ]

once-inserted : {X : Type 0} (m : TxMap X) (e : TxId × X) → value_of m e.0 ≡ None → HasOnce m → HasOnce (inserted m e)
once-inserted [] e n h = (refl, tt)
once-inserted {X = X} (x ∷ xs) e n h =
    elim (cases_Bool (tx_lt x.0 e.0)) [
      | inl l ↦ rw l (value_of-inserted xs e x.0 rest ∙ (rw apart h.0), once-inserted xs e rest h.1)
      | inr l ↦ rw l (n, h)
    ]
  where
    other : tx_eq x.0 e.0 ≡ false
    other = elim (cases_Bool (tx_eq x.0 e.0)) [ inl g ↦ let bad : Some x.1 ≡ None = rw g at n in absurd (cc) | inr g ↦ g ]

    rest : value_of xs e.0 ≡ None
    rest = rw other at n

    apart : tx_eq e.0 x.0 ≡ false
    apart = elim (cases_Bool (tx_eq e.0 x.0)) [ inl g ↦ absurd (true≢false (sym ((Decides-tx x.0 e.0).1 (sym (tx-true e.0 x.0 g))) ∙ other)) | inr g ↦ g ]

pub once-with : {X : Type 0} (m : TxMap X) (e : TxId × X) → HasOnce m → HasOnce (with_entry m e)
once-with m e h = elim (cases_Bool (is_some (value_of m e.0))) [ inl k ↦ rw k h | inr k ↦ rw k (once-inserted m e (is_some-none _ k) h) ]

pub once-union : {X : Type 0} (xs ys : TxMap X) → HasOnce xs → HasOnce (union xs ys)
once-union xs [] h = h
once-union xs (e ∷ ys) h = once-union (with_entry xs e) ys (once-with xs e h)

pub once-reported : (rs : List Report) (m : Options) → HasOnce m → HasOnce (fold (λ marks (r : Report). union marks r.votes) m rs)
once-reported [] m h = h
once-reported (r ∷ rs) m h = once-reported rs (union m r.votes) (once-union m r.votes h)

gone : (f : TxId → Mark → Option Mark) (m : Options) (t : TxId) → value_of m t ≡ None → value_of (filter_map (λ (e : TxId × Mark). option_map {U = TxId × Mark} (λ (x : Mark). (e.0, x)) (f e.0 e.1)) m) t ≡ None
gone f [] t h = refl
gone f (e ∷ es) t h =
    elim (cases_Bool (tx_eq e.0 t)) [
      | inl k ↦ let bad : Some e.1 ≡ None = rw k at h in absurd (cc)
      | inr k ↦ let g : value_of es t ≡ None = rw k at h in by_case k (gone f es t g) (f e.0 e.1)
    ]
  where
    by_case : tx_eq e.0 t ≡ false → value_of (filter_map (λ (e : TxId × Mark). option_map {U = TxId × Mark} (λ (x : Mark). (e.0, x)) (f e.0 e.1)) es) t ≡ None → (o : Option Mark) →
        value_of (cons_option (option_map {U = TxId × Mark} (λ (x : Mark). (e.0, x)) o) (filter_map (λ (e : TxId × Mark). option_map {U = TxId × Mark} (λ (x : Mark). (e.0, x)) (f e.0 e.1)) es)) t ≡ None
    by_case k rest None = rest
    by_case k rest (Some x) = rw k rest

once-some : (f : TxId → Mark → Option Mark) (m : Options) → HasOnce m → HasOnce (filter_map (λ (e : TxId × Mark). option_map {U = TxId × Mark} (λ (x : Mark). (e.0, x)) (f e.0 e.1)) m)
once-some f [] h = tt
once-some f (e ∷ es) h = by_case (once-some f es h.1) (gone f es e.0 h.0) (f e.0 e.1)
  where
    by_case : HasOnce (filter_map (λ (e : TxId × Mark). option_map {U = TxId × Mark} (λ (x : Mark). (e.0, x)) (f e.0 e.1)) es) → value_of (filter_map (λ (e : TxId × Mark). option_map {U = TxId × Mark} (λ (x : Mark). (e.0, x)) (f e.0 e.1)) es) e.0 ≡ None → (o : Option Mark) →
        HasOnce (cons_option (option_map {U = TxId × Mark} (λ (x : Mark). (e.0, x)) o) (filter_map (λ (e : TxId × Mark). option_map {U = TxId × Mark} (λ (x : Mark). (e.0, x)) (f e.0 e.1)) es))
    by_case rest none None = rest
    by_case rest none (Some x) = (none, rest)

pub once-forced : (q : Sizes) (rs : List Report) → HasOnce (forced_of q rs)
once-forced q rs =
    elim (cases_Bool (is_fast (ballot_reported rs))) [
      | inl e ↦ rw e (once-some (λ t m. find (λ mark. nat_le (threshold q (length rs)) (reports_with rs t mark)) (filter_map (λ (r : Report). value_of r.votes t) rs)) (marks_reported rs) (once-reported rs [] tt))
      | inr e ↦ rw e (once-reported (filter (λ (r : Report). ballot_eq r.ballot (ballot_reported rs)) rs) [] tt)
    ]

pub once-claim : (cluster : Cluster) (facts : List Fact) (k : Key) (v : ℕ) (os : Options) (e : TxId × Option Choice) → HasOnce os → HasOnce (with_claim cluster facts k v os e)
once-claim cluster facts k v os e h =
    elim (cases_Bool (is_some (value_of os e.0))) [
      | inl g ↦ rw g h
      | inr g ↦ rw g (elim (cases_Bool (is_settled facts e.0)) [ inl n ↦ rw n h | inr n ↦ rw n (elim (cases_Bool (is_left_out os (mark_of_choice cluster facts k v os e.1))) [ inl f ↦ rw f h | inr f ↦ rw f (once-inserted os (e.0, mark_of_choice cluster facts k v os e.1) (is_some-none _ g) h) ]) ])
    ]

once-claims : (cluster : Cluster) (facts : List Fact) (k : Key) (v : ℕ) (cs : List (TxId × Option Choice)) (os : Options) → HasOnce os → HasOnce (fold (with_claim cluster facts k v) os cs)
once-claims cluster facts k v [] os h = h
once-claims cluster facts k v (c ∷ cs) os h = once-claims cluster facts k v cs (with_claim cluster facts k v os c) (once-claim cluster facts k v os c h)

pub once-first : (cluster : Cluster) (facts : List Fact) (k : Key) (v : ℕ) (claims : TxMap (Option Choice)) (rs : List Report) → HasOnce (first_structure cluster facts k v claims rs)
once-first cluster facts k v claims rs = once-claims cluster facts k v (all_claims claims rs) (forced_of cluster.quorums rs) (once-forced cluster.quorums rs)

-- ---- equality of structures

entry_of : TxId → Mark → TxId × Mark
entry_of t m = (t, m)

same_entry : (x y : TxId × Mark) (xs ys : Options) → ((x.0 ≡ y.0) × (x.1 ≡ y.1)) × (xs ≡ ys) → x ∷ xs ≡ y ∷ ys
unfolding entry_of
same_entry x y xs ys h = let e : entry_of x.0 x.1 ≡ entry_of y.0 y.1 = cc in let f : x ≡ y = e in cc

-- ---- chains

extends-inserted : (os : Options) (e : TxId × Mark) → value_of os e.0 ≡ None → HasEachMark os (inserted os e)
extends-inserted os e n t x h =
    value_of-inserted os e t n ∙
    elim (cases_Bool (tx_eq e.0 t)) [
      | inl g ↦ let none : value_of os t ≡ None = subst (λ z. value_of os z ≡ None) (tx-true e.0 t g) n in let bad : None ≡ Some x = sym none ∙ h in absurd (cc)
      | inr g ↦ rw g h
    ]

pub extends-claim : (cluster : Cluster) (facts : List Fact) (k : Key) (v : ℕ) (os : Options) (e : TxId × Option Choice) → HasEachMark os (with_claim cluster facts k v os e)
extends-claim cluster facts k v os e =
    elim (cases_Bool (is_some (value_of os e.0))) [
      | inl g ↦ rw g (λ t x h. h)
      | inr g ↦ rw g (elim (cases_Bool (is_settled facts e.0)) [ inl n ↦ rw n (λ t x h. h) | inr n ↦ rw n (elim (cases_Bool (is_left_out os (mark_of_choice cluster facts k v os e.1))) [ inl f ↦ rw f (λ t x h. h) | inr f ↦ rw f (extends-inserted os (e.0, mark_of_choice cluster facts k v os e.1) (is_some-none _ g)) ]) ])
    ]

-- where the newest entry is a structure of the instance and ballot
pub record IsHere (k : Key) (v : ℕ) (b : Ballot) (j : Key) (w : ℕ) (m : Ballot) : Type 0 where
  pub key : j ≡ k
  pub version : w ≡ v
  pub ballot : m ≡ b

pub is-here : (k : Key) (v : ℕ) (b : Ballot) (j : Key) (w : ℕ) (m : Ballot) → (w == v && ballot_eq m b && key_eq j k) ≡ true → IsHere k v b j w m
is-here k v b j w m e =
    let both = and_parts (w == v && ballot_eq m b) (key_eq j k) e in
    let first = and_parts (w == v) (ballot_eq m b) both.0 in
    record { key = (Decides-key j k).0 both.1; version = eqb-true w v first.0; ballot = (Decides-ballot m b).0 first.1 }

last-of : (es : List Entry) (k : Key) (v : ℕ) (b : Ballot) (j : Key) (w : ℕ) (m : Ballot) → IsHere k v b j w m → structure_valued es j w m ≡ structure_valued es k v b
last-of es k v b j w m h = ap (λ z. structure_valued es z w m) h.key ∙ (ap (λ z. structure_valued es k z m) h.version ∙ ap (λ z. structure_valued es k v z) h.ballot)

-- the last structure extends each that was sent
pub record HasLast (es : List Entry) (k : Key) (v : ℕ) (b : Ballot) (os : Options) : Type 0 where
  pub last : Options
  pub is : structure_valued es k v b ≡ Some last
  pub extends : HasEachMark os last

-- a new structure extends the last one
next-extends : (cluster : Cluster) (es : List Entry) (c : ℕ) (j : Key) (w : ℕ) (m : Ballot) (os last : Options) → IsMade cluster es c j w m os → structure_valued es j w m ≡ Some last → HasEachMark last os
next-extends cluster es c j w m os last made h =
    elim made [
      | inl first ↦ let n : structure_valued es j w m ≡ None = first.2.none_before in let bad : None ≡ Some last = sym n ∙ h in absurd (cc)
      | inr next ↦
          let s : Some next.0 ≡ Some last = sym next.2.last_before ∙ h in
          let r : next.0 ≡ last = cc in
          let x = extends-claim cluster (facts_of es c) j w next.0 next.1 in
          λ t y g. subst (λ z. value_of z t ≡ Some y) (sym next.2.made) (x t y (subst (λ z. value_of z t ≡ Some y) (sym r) g))
    ]

pub chain-last : (cluster : Cluster) (es : List Entry) (k : Key) (v : ℕ) (b : Ballot) (os : Options) → IsAllowed cluster es → is_valued es k v b os ≡ true → HasLast es k v b os
chain-last cluster [] k v b os legal h = absurd (cc)
chain-last cluster (Entry.Begun c t cs ∷ es) k v b os legal h = let r = chain-last cluster es k v b os legal.0 h in record { last = r.last; is = r.is; extends = r.extends }
chain-last cluster (Added c f ∷ es) k v b os legal h = let r = chain-last cluster es k v b os legal.0 h in record { last = r.last; is = r.is; extends = r.extends }
chain-last cluster (Valued c j w m xs ∷ es) k v b os legal h =
    elim (cases_Bool (w == v && ballot_eq m b && key_eq j k)) [
      | inl e ↦ record { last = xs; is = rw e refl; extends = here e (or_cases (is_valued_as k v b os (Valued c j w m xs)) (is_valued es k v b os) h) (λ g. chain-last cluster es k v b os legal.0 g) }
      | inr e ↦ let g : is_valued es k v b os ≡ true = rw e at h in let r = chain-last cluster es k v b os legal.0 g in record { last = r.last; is = rw e r.is; extends = r.extends }
    ]
  where
    here : (w == v && ballot_eq m b && key_eq j k) ≡ true → (is_valued_as k v b os (Valued c j w m xs) ≡ true) ⊎ (is_valued es k v b os ≡ true) → (is_valued es k v b os ≡ true → HasLast es k v b os) → HasEachMark os xs
    here e (inl g) rest = let s : xs ≡ os = (Decides-options xs os).0 (and_parts (w == v && ballot_eq m b && key_eq j k) (options_eq xs os) g).1 in λ t x i. subst (λ z. value_of z t ≡ Some x) (sym s) i
    here e (inr g) rest =
        let r = rest g in
        let x = next-extends cluster es c j w m xs r.last legal.1.1.made (last-of es k v b j w m (is-here k v b j w m e) ∙ r.is) in
        λ t y i. x t y (r.extends t y i)

-- of two structures of one ballot one extends the other
pub chain : (cluster : Cluster) (es : List Entry) (k : Key) (v : ℕ) (b : Ballot) (xs ys : Options) → IsAllowed cluster es → is_valued es k v b xs ≡ true → is_valued es k v b ys ≡ true → HasEachMark xs ys ⊎ HasEachMark ys xs
chain cluster [] k v b xs ys legal h g = absurd (cc)
chain cluster (Entry.Begun c t cs ∷ es) k v b xs ys legal h g = chain cluster es k v b xs ys legal.0 h g
chain cluster (Added c f ∷ es) k v b xs ys legal h g = chain cluster es k v b xs ys legal.0 h g
chain cluster (Valued c j w m os ∷ es) k v b xs ys legal h g =
    elim (or_cases (is_valued_as k v b xs (Valued c j w m os)) (is_valued es k v b xs) h) [
      | inl x ↦ inr (newest xs x (chain-last cluster (Valued c j w m os ∷ es) k v b ys legal g))
      | inr x ↦ elim (or_cases (is_valued_as k v b ys (Valued c j w m os)) (is_valued es k v b ys) g) [
        | inl y ↦ inl (newest ys y (chain-last cluster (Valued c j w m os ∷ es) k v b xs legal h))
        | inr y ↦ chain cluster es k v b xs ys legal.0 x y
      ]
    ]
  where
    newest : (zs : Options) → is_valued_as k v b zs (Valued c j w m os) ≡ true → {us : Options} → HasLast (Valued c j w m os ∷ es) k v b us → HasEachMark us zs
    newest zs e r =
        let p = and_parts (w == v && ballot_eq m b && key_eq j k) (options_eq os zs) e in
        let s : os ≡ zs = (Decides-options os zs).0 p.1 in
        let i : Some os ≡ Some r.last = rw p.0 at r.is in
        let q : r.last ≡ zs = cc in
        λ t y k. subst (λ z. value_of z t ≡ Some y) q (r.extends t y k)

-- ---- votes are structures

pub valued-more : (e : Entry) (es : List Entry) (k : Key) (v : ℕ) (b : Ballot) (os : Options) → is_valued es k v b os ≡ true → is_valued (e ∷ es) k v b os ≡ true
valued-more e es k v b os h = or_right (is_valued_as k v b os e) (is_valued es k v b os) h

pub valued-tail : (old es : List Entry) (k : Key) (v : ℕ) (b : Ballot) (os : Options) → IsTail old es → is_valued old k v b os ≡ true → is_valued es k v b os ≡ true
valued-tail old [] k v b os tail h = subst (λ z. is_valued z k v b os ≡ true) tail h
valued-tail old (e ∷ es) k v b os tail h =
    elim tail [ inl s ↦ subst (λ z. is_valued z k v b os ≡ true) s h | inr r ↦ valued-more e es k v b os (valued-tail old es k v b os r h) ]

abbrev pub IsBackedVotes : List Entry → List Fact → Key → ℕ → Ballot → Options → Type 0
IsBackedVotes es fs k v b votes = ((t : TxId) → value_of votes t ≡ None) ⊎ IsSent es fs k v b votes

-- what is finished stays so
pub finished-more : (f : Fact) (fs : List Fact) (t : TxId) → is_finished fs t ≡ true → is_finished (f ∷ fs) t ≡ true
finished-more f fs t h =
    let p = and_parts (nat_lt 0 t.seq) (nat_le t.seq (floor_of fs t.centre t.epoch)) h in
    let q = leb-true t.seq (floor_of fs t.centre t.epoch) p.1 in
    and_from (nat_lt 0 t.seq) _ p.0 (le-leb _ _ (omega (arith, q)))

IsSent-more : (e : Entry) (es : List Entry) (fs : List Fact) (k : Key) (v : ℕ) (b : Ballot) (os : Options) → IsSent es fs k v b os → IsSent (e ∷ es) fs k v b os
IsSent-more e es fs k v b os h = record { structure = h.structure; was = valued-more e es k v b h.structure h.was; same = h.same }

IsSent-facts : (f : Fact) (es : List Entry) (fs : List Fact) (k : Key) (v : ℕ) (b : Ballot) (os : Options) → IsSent es fs k v b os → IsSent es (f ∷ fs) k v b os
IsSent-facts f es fs k v b os h = record { structure = h.structure; was = h.was; same = λ t. elim (h.same t) [ inl s ↦ inl s | inr n ↦ inr (n.0, finished-more f fs t n.1) ] }

backed-more : (e : Entry) (es : List Entry) (fs : List Fact) (k : Key) (v : ℕ) (b : Ballot) (os : Options) → IsBackedVotes es fs k v b os → IsBackedVotes (e ∷ es) fs k v b os
backed-more e es fs k v b os h = elim h [ inl n ↦ inl n | inr s ↦ inr (IsSent-more e es fs k v b os s) ]

backed-facts : (f : Fact) (es : List Entry) (fs : List Fact) (k : Key) (v : ℕ) (b : Ballot) (os : Options) → IsBackedVotes es fs k v b os → IsBackedVotes es (f ∷ fs) k v b os
backed-facts f es fs k v b os h = elim h [ inl n ↦ inl n | inr s ↦ inr (IsSent-facts f es fs k v b os s) ]

pub backed : (cluster : Cluster) (es : List Entry) (a : ℕ) (k : Key) (v : ℕ) (b : Ballot) → IsAllowed cluster es → is_fast b ≡ false → IsBackedVotes es (facts_of es a) k v b (votes_of (facts_of es a) k v b)
backed cluster [] a k v b legal classic = inl (λ t. refl)
backed cluster (Entry.Begun c t cs ∷ es) a k v b legal classic = backed-more (Entry.Begun c t cs) es (facts_of es a) k v b _ (backed cluster es a k v b legal.0 classic)
backed cluster (Valued c j w m os ∷ es) a k v b legal classic = backed-more (Valued c j w m os) es (facts_of es a) k v b _ (backed cluster es a k v b legal.0 classic)
backed cluster (Added c f ∷ es) a k v b legal classic =
    elim (cases_Bool (c == a)) [
      | inl e ↦ rw e (by-fact f legal (eqb-true c a e) (backed-more (Added c f) es (facts_of es a) k v b _ (backed cluster es a k v b legal.0 classic)))
      | inr e ↦ rw e (backed-more (Added c f) es (facts_of es a) k v b _ (backed cluster es a k v b legal.0 classic))
    ]
  where
    by-fact : (f : Fact) → IsAllowed cluster (Added c f ∷ es) → c ≡ a → IsBackedVotes (Added c f ∷ es) (facts_of es a) k v b (votes_of (facts_of es a) k v b) → IsBackedVotes (Added c f ∷ es) (f ∷ facts_of es a) k v b (votes_of (f ∷ facts_of es a) k v b)
    by-fact (Fact.Booted n) legal s h = backed-facts (Fact.Booted n) _ _ k v b _ h
    by-fact (Fact.Promised j lo hi m) legal s h = backed-facts (Fact.Promised j lo hi m) _ _ k v b _ h
    by-fact (Fact.Floor centre era upto) legal s h = backed-facts (Fact.Floor centre era upto) _ _ k v b _ h
    by-fact (Fact.Heard u o) legal s h = backed-facts (Fact.Heard u o) _ _ k v b _ h
    by-fact (Fact.Adopted j w it ds) legal s h = backed-facts (Fact.Adopted j w it ds) _ _ k v b _ h
    by-fact (Fact.Voted j w m os off) legal s h =
        elim (cases_Bool (w == v && ballot_eq m b && key_eq j k)) [
          | inl e ↦ rw e (let p = is-here k v b j w m e in
              let n : is_fast m ≡ false = subst (λ z. is_fast z ≡ false) (sym p.ballot) classic in
              let x : IsSent es (facts_of es c) j w m (union (votes_of (facts_of es c) j w m) os) = MatchBool-at_false _ _ n legal.1.2 in
              inr (IsSent-more (Added c (Fact.Voted j w m os off)) es (Fact.Voted j w m os off ∷ facts_of es a) k v b (union (votes_of (facts_of es a) k v b) os)
              (IsSent-facts (Fact.Voted j w m os off) es (facts_of es a) k v b (union (votes_of (facts_of es a) k v b) os)
              (subst (λ z. IsSent es (facts_of es z) k v b (union (votes_of (facts_of es z) k v b) os)) s
              (subst (λ z. IsSent es (facts_of es c) k v z (union (votes_of (facts_of es c) k v z) os)) p.ballot
              (subst (λ z. IsSent es (facts_of es c) k z m (union (votes_of (facts_of es c) k z m) os)) p.version
              (subst (λ z. IsSent es (facts_of es c) z w m (union (votes_of (facts_of es c) z w m) os)) p.key x)))))))
          | inr e ↦ rw e (backed-facts (Fact.Voted j w m os off) _ _ k v b _ h)
        ]

pub last-valued : (fs : List Entry) (j : Key) (w : ℕ) (m : Ballot) (last : Options) → structure_valued fs j w m ≡ Some last → is_valued fs j w m last ≡ true
last-valued [] j w m last h = absurd (cc)
last-valued (Entry.Begun c t cs ∷ fs) j w m last h = last-valued fs j w m last h
last-valued (Added c f ∷ fs) j w m last h = last-valued fs j w m last h
last-valued (Valued c i u n zs ∷ fs) j w m last h =
    elim (cases_Bool (u == w && ballot_eq n m && key_eq i j)) [
      | inl e ↦ let s : Some zs ≡ Some last = rw e at h in let r : zs ≡ last = cc in or_left _ (is_valued fs j w m last) (and_from (u == w && ballot_eq n m && key_eq i j) (options_eq zs last) e ((Decides-options zs last).1 r))
      | inr e ↦ let g : structure_valued fs j w m ≡ Some last = rw e at h in or_right _ (is_valued fs j w m last) (last-valued fs j w m last g)
    ]

-- structures have each transaction once
pub structure-once : (cluster : Cluster) (es : List Entry) (k : Key) (v : ℕ) (b : Ballot) (os : Options) → IsAllowed cluster es → is_valued es k v b os ≡ true → HasOnce os
structure-once cluster [] k v b os legal h = absurd (cc)
structure-once cluster (Entry.Begun c t cs ∷ es) k v b os legal h = structure-once cluster es k v b os legal.0 h
structure-once cluster (Added c f ∷ es) k v b os legal h = structure-once cluster es k v b os legal.0 h
structure-once cluster (Valued c j w m xs ∷ es) k v b os legal h =
    elim (or_cases (is_valued_as k v b os (Valued c j w m xs)) (is_valued es k v b os) h) [
      | inl e ↦
          let s : xs ≡ os = (Decides-options xs os).0 (and_parts (w == v && ballot_eq m b && key_eq j k) (options_eq xs os) e).1 in
          subst HasOnce s (made legal.1.1.made (λ last g. structure-once cluster es j w m last legal.0 g))
      | inr e ↦ structure-once cluster es k v b os legal.0 e
    ]
  where
    made : IsMade cluster es c j w m xs → ((last : Options) → is_valued es j w m last ≡ true → HasOnce last) → HasOnce xs
    made (inl first) rest = subst HasOnce (sym first.2.made) (once-first cluster (facts_of es c) j w first.1 first.0)
    made (inr next) rest = subst HasOnce (sym next.2.made) (once-claim cluster (facts_of es c) j w next.0 next.1 (rest next.0 (last-valued es j w m next.0 next.2.last_before)))
