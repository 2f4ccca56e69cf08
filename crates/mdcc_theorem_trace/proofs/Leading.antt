-- What a leader keeps, and what it may rest a structure on.
use Rattle.std.proofs.Common.{Bool, List, None, Option, Some, [], ap, arith, false, inl, inr, length, not, refl, subst, suc, sym, true, zero, ℕ, ◌&&◌, ◌+◌, ◌<◌, ◌==◌, ◌∙◌, ◌∷◌, ◌≡◌, ◌≤◌}
use Rattle.std.specs.Prelude.{filter, map}
use Rattle.std.specs.Option.{option_or}
use Rattle.std.specs.List.{list_all, list_any, range_with_len}
use Rattle.std.proofs.lemmas.Bool.{and_from, and_parts, cases_Bool, eq-eqb, eqb-false, eqb-true, le-leb, not-true, or_left, or_parts, or_right, true≢false}
use Rattle.mdcc_base.specs.declared.identifiers.Ballot.{Ballot}
use Rattle.mdcc_base.specs.declared.key.Key.{Key}
use Rattle.mdcc_base.specs.Quorums.{all_centres}
use Rattle.mdcc_base.specs.Ballot.{ballot_eq}
use Rattle.mdcc_base.specs.Key.{key_eq}
use Rattle.mdcc_option.specs.declared.cluster.Cluster.{Cluster}
use Rattle.mdcc_struct.specs.declared.options.Options.{Options}
use Rattle.mdcc_def_messages.specs.declared.facts.Fact.{Fact}
use Rattle.mdcc_def_protocol.specs.Facts.{epoch_of, promised_through, range_promised}
use Rattle.mdcc_def_ledger.specs.Ledger.{Added, Entry, Valued, facts_of, structure_valued}
use Rattle.mdcc_def_ledger.specs.AllowedLedgers.{IsAllowed}
use Rattle.mdcc_def_ledger.specs.AllowedStructures.{IsAmongCentres, are_distinct_centres, has_promised, has_promised_in, promisers_of}
use Rattle.mdcc_def_protocol.specs.Volatile.{CountedPromise, Lead, Leading, lead_of, number_kept_at, with_lead, with_number}
use Rattle.mdcc_theorem_trace_states.specs.Words.{Each, In, IsTail, count_where}
use Rattle.mdcc_theorem_trace_states.specs.VolatileInvariant.{IsLead, IsPromise, Leads}
use Rattle.mdcc_theorem_trace_states.proofs.Tests.{Decides-ballot, Decides-key}
use Rattle.mdcc_theorem_trace_states.proofs.Lists.{Each-at, Each-filter, Each-from, In-filter, find_some}
use Rattle.mdcc_theorem_trace_rules.proofs.Votes.{AllDiffer, at_places}
use Rattle.mdcc_theorem_trace_states.proofs.Led.{IsLead-more}
use Rattle.mdcc_theorem_trace_states.proofs.Walk.{bounds}

-- ---- numbers by key

pub number-same : (l : List (Key × ℕ)) (k : Key) (n : ℕ) → number_kept_at (with_number l k n) k ≡ n
number-same [] k n = let t : key_eq k k ≡ true = (Decides-key k k).1 refl in rw t refl
number-same (e ∷ es) k n =
    elim (cases_Bool (key_eq e.0 k)) [
      | inl g ↦ let t : key_eq k k ≡ true = (Decides-key k k).1 refl in rw g (rw t refl)
      | inr g ↦ rw g (rw g (number-same es k n))
    ]

pub number-other : (l : List (Key × ℕ)) (k j : Key) (n : ℕ) → key_eq k j ≡ false → number_kept_at (with_number l k n) j ≡ number_kept_at l j
number-other [] k j n h = rw h refl
number-other (e ∷ es) k j n h =
    elim (cases_Bool (key_eq e.0 k)) [
      | inl g ↦ let s : e.0 ≡ k = (Decides-key e.0 k).0 g in let t : key_eq e.0 j ≡ false = subst (λ z. key_eq z j ≡ false) (sym s) h in rw g (rw h (rw t refl))
      | inr g ↦ rw g (elim (cases_Bool (key_eq e.0 j)) [ inl f ↦ rw f refl | inr f ↦ rw f (number-other es k j n h) ])
    ]

pub number-grows : (l : List (Key × ℕ)) (k j : Key) (n : ℕ) → number_kept_at l k ≤ n → number_kept_at l j ≤ number_kept_at (with_number l k n) j
number-grows l k j n h =
    elim (cases_Bool (key_eq k j)) [
      | inl e ↦ let s : k ≡ j = (Decides-key k j).0 e in
          subst (λ z. number_kept_at l z ≤ number_kept_at (with_number l k n) z) s (let g = number-same l k n in omega (arith, g, h))
      | inr e ↦ let g = number-other l k j n e in omega (arith, g)
    ]

-- ---- leads by key

pub lead-in : (l : Leading) (k : Key) (x : Lead) → lead_of l k ≡ Some x → In x l.leads × (x.key ≡ k)
lead-in l k x h = let r = find_some (λ (y : Lead). key_eq y.key k) l.leads x h in (r.0, (Decides-key x.key k).0 r.1)

pub other-keys : (xs : List Lead) (k : Key) (x : Lead) → In x (filter (λ (y : Lead). not (key_eq y.key k)) xs) → In x xs × (key_eq x.key k ≡ false)
other-keys xs k x i = let r = In-filter (λ (y : Lead). not (key_eq y.key k)) xs x i in (r.0, not-true _ r.1)

-- a lead put in its place, with the ledger as it is
pub lead-kept : (cluster : Cluster) (es : List Entry) (a : ℕ) (l : Leading) (x : Lead) → Leads cluster es a l → IsLead cluster es a l.last_rounds x → Leads cluster es a (with_lead l x)
lead-kept cluster es a l x h g = record {
  fresh = h.fresh;
  leads = (g, Each-filter (IsLead cluster es a l.last_rounds) (λ (y : Lead). not (key_eq y.key x.key)) l.leads h.leads);
}

IsLead-rounds : (cluster : Cluster) (es : List Entry) (a : ℕ) (rs ts : List (Key × ℕ)) (x : Lead) → number_kept_at rs x.key ≤ number_kept_at ts x.key → IsLead cluster es a rs x → IsLead cluster es a ts x
IsLead-rounds cluster es a rs ts x more g = record {
  centre = g.centre;
  epoch = g.epoch;
  above = g.above;
  within = omega (arith, g.within, more);
  held = g.held;
  range = g.range;
  claims = g.claims;
  promises = g.promises;
  apart = g.apart;
  waits = g.waits;
  found = g.found;
}

-- a new lead, with a round above the last one
pub new-kept : (cluster : Cluster) (es : List Entry) (a : ℕ) (l : Leading) (x : Lead) (n : ℕ) → Leads cluster es a l → number_kept_at l.last_rounds x.key ≤ n → IsLead cluster es a (with_number l.last_rounds x.key n) x →
    Leads cluster es a (record (with_lead l x) { last_rounds = with_number l.last_rounds x.key n })
new-kept cluster es a l x n h more g = record {
  fresh = λ k v r i. h.fresh k v r (let m = number-grows l.last_rounds x.key k n more in omega (arith, i, m));
  leads = (
    g,
    Each-from (IsLead cluster es a (with_number l.last_rounds x.key n)) (filter (λ (y : Lead). not (key_eq y.key x.key)) l.leads)
        (λ y i. let r = other-keys l.leads x.key y i in IsLead-rounds cluster es a l.last_rounds (with_number l.last_rounds x.key n) y (number-grows l.last_rounds x.key y.key n more) (Each-at (IsLead cluster es a l.last_rounds) l.leads y h.leads r.0)),
  );
}

pub number-new : (l : List (Key × ℕ)) (k : Key) (n : ℕ) → n ≤ number_kept_at (with_number l k n) k
number-new l k n = let g = number-same l k n in omega (arith, g)

valued-elsewhere : (es : List Entry) (c : ℕ) (j : Key) (w : ℕ) (m : Ballot) (os : Options) (k : Key) (v : ℕ) (b : Ballot) → ((j ≡ k) → (m ≡ b) → ⊥) → structure_valued (Valued c j w m os ∷ es) k v b ≡ structure_valued es k v b
valued-elsewhere es c j w m os k v b h =
    elim (cases_Bool (w == v && ballot_eq m b && key_eq j k)) [
      | inl e ↦
          let both = and_parts (w == v && ballot_eq m b) (key_eq j k) e in
          let first = and_parts (w == v) (ballot_eq m b) both.0 in
          absurd (h ((Decides-key j k).0 both.1) ((Decides-ballot m b).0 first.1))
      | inr e ↦ rw e refl
    ]

-- a structure of a lead is sent
pub valued-kept : (cluster : Cluster) (es : List Entry) (a : ℕ) (l : Leading) (x y : Lead) (w : ℕ) (os : Options) → IsAllowed cluster (Valued a x.key w x.ballot os ∷ es) → Leads cluster es a l → IsLead cluster es a l.last_rounds x → y.key ≡ x.key →
    IsLead cluster (Valued a x.key w x.ballot os ∷ es) a l.last_rounds y → Leads cluster (Valued a x.key w x.ballot os ∷ es) a (with_lead l y)
valued-kept cluster es a l x y w os legal h g key k = record {
  fresh = λ j v r i. valued-elsewhere es a x.key w x.ballot os j v (record { round = r; epoch = epoch_of (facts_of es a); centre = a }) (λ s t. used j r i s t) ∙ h.fresh j v r i;
  leads = (
    k,
    Each-from (IsLead cluster (Valued a x.key w x.ballot os ∷ es) a l.last_rounds) (filter (λ (z : Lead). not (key_eq z.key y.key)) l.leads) (λ z i.
        let r = other-keys l.leads y.key z i in
        IsLead-more cluster (Valued a x.key w x.ballot os) es a l.last_rounds z legal refl
        (λ v. valued-elsewhere es a x.key w x.ballot os z.key v z.ballot (λ s t. true≢false (sym ((Decides-key z.key y.key).1 (sym s ∙ sym key)) ∙ r.1)))
        (Each-at (IsLead cluster es a l.last_rounds) l.leads z h.leads r.0)),
  );
}
  where
    used : (j : Key) (r : ℕ) → number_kept_at l.last_rounds j < r → x.key ≡ j → x.ballot ≡ record { round = r; epoch = epoch_of (facts_of es a); centre = a } → ⊥
    used j r i s t =
        let n : x.ballot.round ≡ r = ap (λ (z : Ballot). z.round) t in
        let m : x.ballot.round ≤ number_kept_at l.last_rounds j = subst (λ z. x.ballot.round ≤ number_kept_at l.last_rounds z) s g.within in omega (arith, n, m, i)

-- ---- promises

any-more : (f : Fact) (fs : List Fact) (k : Key) (v : ℕ) (m : Ballot) → list_any (has_promised_in k v m) fs ≡ true → list_any (has_promised_in k v m) (f ∷ fs) ≡ true
any-more f fs k v m h = or_right (has_promised_in k v m f) (list_any (has_promised_in k v m) fs) h

pub through-any : (fs : List Fact) (k : Key) (low high : ℕ) (m : Ballot) (v : ℕ) → promised_through fs k low m ≡ Some high → low ≤ v → v ≤ high → list_any (has_promised_in k v m) fs ≡ true
through-any [] k low high m v h x y = absurd (cc)
through-any (f ∷ fs) k low high m v h x y = by_case (λ g. through-any fs k low high m v g x y) (promised_through fs k low m) refl h
  where
    new : (f : Fact) → range_promised k low m f ≡ Some high → has_promised_in k v m f ≡ true
    new (Fact.Booted n) g = absurd (cc)
    new (Fact.Heard t o) g = absurd (cc)
    new (Fact.Floor origin era upto) g = absurd (cc)
    new (Fact.Adopted j w it ds) g = absurd (cc)
    new (Fact.Voted j w b os off) g = absurd (cc)
    new (Fact.Promised j lo hi b) g =
        elim (cases_Bool (lo == low && ballot_eq b m && key_eq j k)) [
          | inl e ↦
              let both = and_parts (lo == low && ballot_eq b m) (key_eq j k) e in
              let first = and_parts (lo == low) (ballot_eq b m) both.0 in
              let i : Some hi ≡ Some high = rw e at g in
              let ends : hi ≡ high = cc in
              let lows : lo ≡ low = eqb-true lo low first.0 in
              and_from _ _ (and_from _ _ (and_from _ _ (le-leb lo v (omega (arith, lows, x))) (le-leb v hi (omega (arith, ends, y)))) first.1) both.1
          | inr e ↦ let bad : None ≡ Some high = rw e at g in absurd (cc)
        ]

    by_case : (promised_through fs k low m ≡ Some high → list_any (has_promised_in k v m) fs ≡ true) → (o : Option ℕ) → promised_through fs k low m ≡ o → option_or o (range_promised k low m f) ≡ Some high → list_any (has_promised_in k v m) (f ∷ fs) ≡ true
    by_case rest None e g = or_left (has_promised_in k v m f) (list_any (has_promised_in k v m) fs) (new f g)
    by_case rest (Some n) e g = any-more f fs k v m (rest (e ∙ g))

has-more : (e : Entry) (es : List Entry) (k : Key) (v : ℕ) (m : Ballot) (b : ℕ) → has_promised es k v m b ≡ true → has_promised (e ∷ es) k v m b ≡ true
has-more (Entry.Begun c t cs) es k v m b h = h
has-more (Valued c j w n os) es k v m b h = h
has-more (Added c f) es k v m b h = elim (cases_Bool (c == b)) [ inl e ↦ rw e (any-more f (facts_of es b) k v m h) | inr e ↦ rw e h ]

has-tail : (old es : List Entry) (k : Key) (v : ℕ) (m : Ballot) (b : ℕ) → IsTail old es → has_promised old k v m b ≡ true → has_promised es k v m b ≡ true
has-tail old [] k v m b tail h = subst (λ z. has_promised z k v m b ≡ true) tail h
has-tail old (e ∷ es) k v m b tail h = elim tail [ inl s ↦ subst (λ z. has_promised z k v m b ≡ true) s h | inr r ↦ has-more e es k v m b (has-tail old es k v m b r h) ]

pub promise-has : (cluster : Cluster) (es : List Entry) (k : Key) (low v : ℕ) (m : Ballot) (p : CountedPromise) → IsPromise cluster es k low m p → low ≤ v → v ≤ p.through → has_promised es k v m p.from ≡ true
promise-has cluster es k low v m p h x y = has-tail h.old es k v m p.from h.tail (through-any (facts_of h.old p.from) k low p.through m v h.promised x y)

-- ---- the centres of counted promises

any-from : (a : ℕ) (xs : List ℕ) → list_any (λ b. a == b) xs ≡ false → (b : ℕ) → In b xs → a ≡ b → ⊥
any-from a [] h b i e = i
any-from a (x ∷ xs) h b i e =
    let p = or_parts (a == x) (list_any (λ b. a == b) xs) h in
    elim i [ inl s ↦ eqb-false a x p.0 (e ∙ s) | inr r ↦ any-from a xs p.1 b r e ]

from-in : (p : CountedPromise) (ps : List CountedPromise) → In p ps → In p.from (map (λ (q : CountedPromise). q.from) ps)
from-in p [] i = absurd i
from-in p (q ∷ qs) i = elim i [ inl s ↦ inl (ap (λ (z : CountedPromise). z.from) s) | inr r ↦ inr (from-in p qs r) ]

pub differ : (t : CountedPromise → Bool) (ps : List CountedPromise) → are_distinct_centres (map (λ (p : CountedPromise). p.from) ps) ≡ true → AllDiffer t (λ (p : CountedPromise). p.from) ps
differ t [] h = tt
differ t (p ∷ ps) h =
    let r = and_parts (not (list_any (λ b. p.from == b) (map (λ (q : CountedPromise). q.from) ps))) (are_distinct_centres (map (λ (q : CountedPromise). q.from) ps)) h in
    (Each-from (λ (y : CountedPromise). t p ≡ true → t y ≡ true → p.from ≡ y.from → ⊥) ps (λ y i u w e. any-from p.from (map (λ (q : CountedPromise). q.from) ps) (not-true _ r.0) y.from (from-in y ps i) e), differ t ps r.1)

length-filter-count : (q : ℕ → Bool) (xs : List ℕ) → length (filter q xs) ≡ count_where q xs
length-filter-count q [] = refl
length-filter-count q (x ∷ xs) =
    elim (cases_Bool (q x)) [ inl e ↦ rw e (omega (arith, length-filter-count q xs)) | inr e ↦ rw e (omega (arith, length-filter-count q xs)) ]

-- as many promisers as counted promises that contain the version
pub promisers-enough : (cluster : Cluster) (es : List Entry) (k : Key) (low v : ℕ) (m : Ballot) (t : CountedPromise → Bool) (ps : List CountedPromise) → Each (IsPromise cluster es k low m) ps → are_distinct_centres (map (λ (p : CountedPromise). p.from) ps) ≡ true →
    ((p : CountedPromise) → t p ≡ true → (low ≤ v) × (v ≤ p.through)) → count_where t ps ≤ length (promisers_of cluster.quorums es k v m)
promisers-enough cluster es k low v m t ps each apart range =
    let most = at_places cluster.quorums.centres 1 t (λ (p : CountedPromise). p.from) (has_promised es k v m) ps at (differ t ps apart) in
    let len = length-filter-count (has_promised es k v m) (all_centres cluster.quorums) in omega (arith, most, len)
  where
    at : (p : CountedPromise) → In p ps → t p ≡ true → (1 ≤ p.from) × (p.from < 1 + cluster.quorums.centres) × (has_promised es k v m p.from ≡ true)
    at p i e =
        let h = Each-at (IsPromise cluster es k low m) ps p each i in
        let b = bounds cluster p.from h.centre in
        let r = range p e in (b.0, omega (arith, b.1), promise-has cluster es k low v m p h r.0 r.1)

in-range : (n s a : ℕ) → s ≤ a → a < s + n → In a (range_with_len s n)
in-range n s a h g = go n s a h g
  where
    go : (n s a : ℕ) → s ≤ a → a < s + n → In a (range_with_len s n)
    go zero s a h g = absurd (omega (arith, h, g))
    go (suc n) s a h g = elim (cases_Bool (a == s)) [ inl e ↦ inl (eqb-true a s e) | inr e ↦ let ne = eqb-false a s e in inr (go n (s + 1) a (above ne) (omega (arith, g))) ]
      where
        above : (a ≡ s → ⊥) → s + 1 ≤ a
        above ne = omega (arith, h, ne)

any-of : (a : ℕ) (xs : List ℕ) → In a xs → list_any (λ b. a == b) xs ≡ true
any-of a [] i = absurd i
any-of a (x ∷ xs) i = elim i [ inl s ↦ or_left (a == x) _ (eq-eqb a x s) | inr r ↦ or_right (a == x) _ (any-of a xs r) ]

filter-in : (q : ℕ → Bool) (xs : List ℕ) (a : ℕ) → In a xs → q a ≡ true → In a (filter q xs)
filter-in q [] a i h = absurd i
filter-in q (x ∷ xs) a i h =
    elim (cases_Bool (q x)) [
      | inl e ↦ rw e (elim i [ inl s ↦ inl s | inr r ↦ inr (filter-in q xs a r h) ])
      | inr e ↦ rw e (elim i [ inl s ↦ absurd (true≢false (sym (subst (λ z. q z ≡ true) s h) ∙ e)) | inr r ↦ filter-in q xs a r h ])
    ]

-- the centres of promises that contain the version are among the promisers
pub among : (cluster : Cluster) (es : List Entry) (k : Key) (low v : ℕ) (m : Ballot) (ps : List CountedPromise) → Each (IsPromise cluster es k low m) ps → are_distinct_centres (map (λ (p : CountedPromise). p.from) ps) ≡ true → Each (λ (p : CountedPromise). (low ≤ v) × (v ≤ p.through)) ps →
    IsAmongCentres (map (λ (p : CountedPromise). p.from) ps) (promisers_of cluster.quorums es k v m)
among cluster es k low v m ps each apart range = (all ps each range, apart)
  where
    all : (ps : List CountedPromise) → Each (IsPromise cluster es k low m) ps → Each (λ (p : CountedPromise). (low ≤ v) × (v ≤ p.through)) ps → list_all (λ a. list_any (λ b. a == b) (promisers_of cluster.quorums es k v m)) (map (λ (p : CountedPromise). p.from) ps) ≡ true
    all [] h r = refl
    all (p ∷ ps) h r =
        let b = bounds cluster p.from h.0.centre in
        and_from (list_any (λ b. p.from == b) (promisers_of cluster.quorums es k v m)) _
        (any-of p.from (promisers_of cluster.quorums es k v m) (filter-in (has_promised es k v m) (all_centres cluster.quorums) p.from (in-range cluster.quorums.centres 1 p.from b.0 (omega (arith, b.1))) (promise-has cluster es k low v m p h.0 r.0.0 r.0.1)))
        (all ps h.1 r.1)
