-- What is of the cluster: the facts of an allowed ledger, what they say, and begun choices.
use Rattle.std.proofs.Common.{Bool, Err, List, None, Ok, Option, Some, [], arith, cond, false, inl, inr, length, not, refl, subst, sym, true, ℕ, ◌&&◌, ◌==◌, ◌∙◌, ◌∷◌, ◌≡◌, ◌||◌, ℤ}
use Rattle.std.specs.Prelude.{filter_map, fold, map, nat_le, nat_lt, option_map}
use Rattle.std.specs.List.{cons_option, list_all}
use Rattle.std.specs.Option.{option_or}
use Rattle.std.proofs.lemmas.Bool.{and_from, and_parts, cases_Bool, le-leb, ltb-true}
use Rattle.mdcc_base.specs.Ballot.{ballot_eq, ballot_lt, ballot_max, fast_ballot}
use Rattle.mdcc_base.specs.Key.{key_eq}
use Rattle.mdcc_base.specs.TxId.{tx_eq}
use Rattle.mdcc_base.specs.declared.identifiers.Ballot.{Ballot}
use Rattle.mdcc_base.specs.declared.identifiers.TxId.{TxId}
use Rattle.mdcc_base.specs.declared.key.Key.{Key}
use Rattle.mdcc_option.specs.Equality.{txs_eq}
use Rattle.mdcc_option.specs.Parts.{is_key_repeated, sorted_parts}
use Rattle.mdcc_option.specs.Transaction.{are_attributes, choice_of_part, parts_fault, transaction_of, update_fault, write_set_of_parts}
use Rattle.mdcc_option.specs.declared.choices.Choice.{Choice}
use Rattle.mdcc_option.specs.declared.choices.Mark.{Mark}
use Rattle.mdcc_option.specs.declared.choices.Outcome.{Outcome}
use Rattle.mdcc_option.specs.declared.cluster.Cluster.{Cluster}
use Rattle.mdcc_option.specs.declared.faults.BeginFault.{BeginFault}
use Rattle.mdcc_option.specs.declared.faults.DraftFault.{DraftFault}
use Rattle.mdcc_option.specs.declared.faults.DraftFault.TheVariants.{Empty, RepeatedKey, TooMany}
use Rattle.mdcc_option.specs.declared.items.Delta.{Delta}
use Rattle.mdcc_option.specs.declared.items.Item.{Item}
use Rattle.mdcc_option.specs.declared.items.Part.{Part}
use Rattle.mdcc_option.specs.declared.items.Update.{Update}
use Rattle.mdcc_struct.specs.Maps.{TxMap, txs_of, value_of}
use Rattle.mdcc_struct.specs.declared.options.Options.{Options}
use Rattle.mdcc_def_ledger.specs.AllowedLedgers.{IsAllowed, part_in}
use Rattle.mdcc_def_protocol.specs.Belongs.{adds_belong, amounts_belong, ballot_belongs, choice_belongs, fact_belongs, is_attribute, is_centre, item_belongs, mark_belongs, offered_belongs, options_belong, tx_belongs, txs_belong, update_belongs}
use Rattle.mdcc_def_protocol.specs.Facts.{amounts_added, ballot_promised, ballot_voted, base_at, base_from, base_given, base_of, current_of, delta_given, deltas_at, deltas_from, item_written, last_ballot, marks_voted, promise_of, promised_through, range_promised, token_of, votes_of}
use Rattle.mdcc_def_ledger.specs.Ledger.{Added, Entry, Valued, choices_begun, facts_of, mark_given}
use Rattle.mdcc_def_protocol.specs.Manager.{part_begin_fault, parts_begin_fault, update_begin_fault}
use Rattle.mdcc_def_protocol.specs.Marks.{Amounts}
use Rattle.mdcc_def_messages.specs.declared.facts.Fact.{Fact}
use Rattle.mdcc_theorem_trace_states.specs.Words.{Each}
use Rattle.mdcc_theorem_trace_states.proofs.Tests.{Decides-ballot, Decides-txs}
use Rattle.mdcc_theorem_trace_states.proofs.Lists.{Each-map}
use Rattle.mdcc_theorem_trace_states.proofs.Maps.{each-union, each-value, value_of-union}
use Rattle.mdcc_theorem_trace_states.proofs.Sorting.{checked-ok}

pub all-each : {A : Type 0} (p : A → Bool) (xs : List A) → list_all p xs ≡ true → Each (λ x. p x ≡ true) xs
all-each p [] h = tt
all-each p (x ∷ xs) h = let g = and_parts (p x) (list_all p xs) h in (g.0, all-each p xs g.1)

pub each-all : {A : Type 0} (p : A → Bool) (xs : List A) → Each (λ x. p x ≡ true) xs → list_all p xs ≡ true
each-all p [] h = refl
each-all p (x ∷ xs) h = and_from (p x) (list_all p xs) h.0 (each-all p xs h.1)

-- ---- facts

abbrev pub AreOf : Cluster → List Fact → Type 0
AreOf cluster facts = Each (λ (f : Fact). fact_belongs cluster f ≡ true) facts

pub facts-belong : (cluster : Cluster) (es : List Entry) (a : ℕ) → IsAllowed cluster es → AreOf cluster (facts_of es a)
facts-belong cluster [] a h = tt
facts-belong cluster (Entry.Begun c t cs ∷ es) a h = facts-belong cluster es a h.0
facts-belong cluster (Valued c k v m os ∷ es) a h = facts-belong cluster es a h.0
facts-belong cluster (Added c f ∷ es) a h =
    elim (cases_Bool (c == a)) [
      | inl e ↦ rw e (h.1.1.belongs, facts-belong cluster es a h.0)
      | inr e ↦ rw e (facts-belong cluster es a h.0)
    ]

-- the parts of a vote
pub record IsVoteOf (cluster : Cluster) (b : Ballot) (os : Options) (off : Option Choice) : Type 0 where
  pub ballot : ballot_belongs cluster b ≡ true
  pub options : options_belong cluster os ≡ true
  pub offered : offered_belongs cluster off ≡ true

pub vote-of : (cluster : Cluster) (k : Key) (v : ℕ) (b : Ballot) (os : Options) (off : Option Choice) → fact_belongs cluster (Fact.Voted k v b os off) ≡ true → IsVoteOf cluster b os off
vote-of cluster k v b os off h =
    let all = and_parts (ballot_belongs cluster b && options_belong cluster os) (offered_belongs cluster off) h in
    let first = and_parts (ballot_belongs cluster b) (options_belong cluster os) all.0 in
    record { ballot = first.0; options = first.1; offered = all.1 }

-- ---- ballots

max-belongs : (cluster : Cluster) (a b : Ballot) → ballot_belongs cluster a ≡ true → ballot_belongs cluster b ≡ true → ballot_belongs cluster (ballot_max a b) ≡ true
max-belongs cluster a b h g = elim (cases_Bool (ballot_lt a b)) [ inl e ↦ rw e g | inr e ↦ rw e h ]

or-fast : (cluster : Cluster) (t : Bool) (b : Ballot) → ballot_belongs cluster b ≡ true → ballot_belongs cluster (cond t b fast_ballot) ≡ true
or-fast cluster true b h = h
or-fast cluster false b h = refl

promised-belongs : (cluster : Cluster) (k : Key) (v : ℕ) (f : Fact) → fact_belongs cluster f ≡ true → ballot_belongs cluster (ballot_promised k v f) ≡ true
promised-belongs cluster k v (Fact.Booted n) h = refl
promised-belongs cluster k v (Fact.Floor origin era upto) h = refl
promised-belongs cluster k v (Fact.Promised j lo hi b) h = or-fast cluster (nat_le lo v && nat_le v hi && key_eq j k) b h
promised-belongs cluster k v (Fact.Voted j w b os off) h = or-fast cluster (w == v && key_eq j k) b (vote-of cluster j w b os off h).ballot
promised-belongs cluster k v (Fact.Heard t o) h = refl
promised-belongs cluster k v (Fact.Adopted j w it ds) h = refl

pub promise-belongs : (cluster : Cluster) (fs : List Fact) (k : Key) (v : ℕ) → AreOf cluster fs → ballot_belongs cluster (promise_of fs k v) ≡ true
promise-belongs cluster [] k v h = refl
promise-belongs cluster (f ∷ fs) k v h = max-belongs cluster (promise_of fs k v) (ballot_promised k v f) (promise-belongs cluster fs k v h.1) (promised-belongs cluster k v f h.0)

voted-belongs : (cluster : Cluster) (k : Key) (v : ℕ) (m : Ballot) (f : Fact) → fact_belongs cluster f ≡ true → ballot_belongs cluster (ballot_voted k v m f) ≡ true
voted-belongs cluster k v m (Fact.Booted n) h = refl
voted-belongs cluster k v m (Fact.Floor origin era upto) h = refl
voted-belongs cluster k v m (Fact.Promised j lo hi b) h = refl
voted-belongs cluster k v m (Fact.Voted j w b os off) h = or-fast cluster (w == v && ballot_lt b m && key_eq j k) b (vote-of cluster j w b os off h).ballot
voted-belongs cluster k v m (Fact.Heard t o) h = refl
voted-belongs cluster k v m (Fact.Adopted j w it ds) h = refl

pub last-belongs : (cluster : Cluster) (fs : List Fact) (k : Key) (v : ℕ) (m : Ballot) → AreOf cluster fs → ballot_belongs cluster (last_ballot fs k v m) ≡ true
last-belongs cluster [] k v m h = refl
last-belongs cluster (f ∷ fs) k v m h = max-belongs cluster (last_ballot fs k v m) (ballot_voted k v m f) (last-belongs cluster fs k v m h.1) (voted-belongs cluster k v m f h.0)

pub through-belongs : (cluster : Cluster) (fs : List Fact) (k : Key) (v : ℕ) (m : Ballot) (high : ℕ) → AreOf cluster fs → promised_through fs k v m ≡ Some high → ballot_belongs cluster m ≡ true
through-belongs cluster [] k v m high h e = absurd (cc)
through-belongs cluster (f ∷ fs) k v m high h e = by_case (λ g. through-belongs cluster fs k v m high h.1 g) (promised_through fs k v m) refl e
  where
    new : (f : Fact) → fact_belongs cluster f ≡ true → range_promised k v m f ≡ Some high → ballot_belongs cluster m ≡ true
    new (Fact.Booted n) h g = absurd (cc)
    new (Fact.Floor origin era upto) h g = absurd (cc)
    new (Fact.Heard t o) h g = absurd (cc)
    new (Fact.Adopted j w it ds) h g = absurd (cc)
    new (Fact.Voted j w b os off) h g = absurd (cc)
    new (Fact.Promised j lo hi b) h g =
        elim (cases_Bool (lo == v && ballot_eq b m && key_eq j k)) [
          | inl i ↦
              let both = and_parts (lo == v && ballot_eq b m) (key_eq j k) i in
              let first = and_parts (lo == v) (ballot_eq b m) both.0 in
              subst (λ z. ballot_belongs cluster z ≡ true) ((Decides-ballot b m).0 first.1) h
          | inr i ↦ let bad : None ≡ Some high = rw i at g in absurd (cc)
        ]

    by_case : (promised_through fs k v m ≡ Some high → ballot_belongs cluster m ≡ true) → (o : Option ℕ) → promised_through fs k v m ≡ o → option_or o (range_promised k v m f) ≡ Some high → ballot_belongs cluster m ≡ true
    by_case rest None i g = new f h.0 g
    by_case rest (Some n) i g = rest (i ∙ g)

-- ---- votes

abbrev pub IsMarkOf : Cluster → TxId → Mark → Type 0
IsMarkOf cluster t m = (tx_belongs cluster t && mark_belongs cluster m) ≡ true

pub votes-belong : (cluster : Cluster) (fs : List Fact) (k : Key) (v : ℕ) (b : Ballot) → AreOf cluster fs → Each (λ (e : TxId × Mark). IsMarkOf cluster e.0 e.1) (votes_of fs k v b)
votes-belong cluster [] k v b h = tt
votes-belong cluster (f ∷ fs) k v b h = each-union (λ (e : TxId × Mark). IsMarkOf cluster e.0 e.1) (votes_of fs k v b) (marks_voted k v b f) (votes-belong cluster fs k v b h.1) (new f h.0)
  where
    new : (f : Fact) → fact_belongs cluster f ≡ true → Each (λ (e : TxId × Mark). IsMarkOf cluster e.0 e.1) (marks_voted k v b f)
    new (Fact.Booted n) h = tt
    new (Fact.Floor origin era upto) h = tt
    new (Fact.Promised j lo hi m) h = tt
    new (Fact.Heard t o) h = tt
    new (Fact.Adopted j w it ds) h = tt
    new (Fact.Voted j w m os off) h =
        elim (cases_Bool (w == v && ballot_eq m b && key_eq j k)) [
          | inl e ↦ rw e (all-each (λ (e : TxId × Mark). tx_belongs cluster e.0 && mark_belongs cluster e.1) os (vote-of cluster j w m os off h).options)
          | inr e ↦ rw e tt
        ]

-- a mark that a centre gives, its transaction and its ballot
pub record IsGivenOf (cluster : Cluster) (b : Ballot) (t : TxId) (m : Mark) : Type 0 where
  pub ballot : ballot_belongs cluster b ≡ true
  pub tx : tx_belongs cluster t ≡ true
  pub mark : mark_belongs cluster m ≡ true

vote-ballot : (cluster : Cluster) (fs : List Fact) (k : Key) (v : ℕ) (b : Ballot) (t : TxId) (m : Mark) → AreOf cluster fs → value_of (votes_of fs k v b) t ≡ Some m → ballot_belongs cluster b ≡ true
vote-ballot cluster [] k v b t m h e = absurd (cc)
vote-ballot cluster (f ∷ fs) k v b t m h e = by_case (λ g. vote-ballot cluster fs k v b t m h.1 g) (value_of (votes_of fs k v b) t) refl (sym (value_of-union (votes_of fs k v b) (marks_voted k v b f) t) ∙ e)
  where
    new : (f : Fact) → fact_belongs cluster f ≡ true → value_of (marks_voted k v b f) t ≡ Some m → ballot_belongs cluster b ≡ true
    new (Fact.Booted n) h g = absurd (cc)
    new (Fact.Floor origin era upto) h g = absurd (cc)
    new (Fact.Promised j lo hi c) h g = absurd (cc)
    new (Fact.Heard u o) h g = absurd (cc)
    new (Fact.Adopted j w it ds) h g = absurd (cc)
    new (Fact.Voted j w c os off) h g =
        elim (cases_Bool (w == v && ballot_eq c b && key_eq j k)) [
          | inl i ↦
              let both = and_parts (w == v && ballot_eq c b) (key_eq j k) i in
              let first = and_parts (w == v) (ballot_eq c b) both.0 in
              subst (λ z. ballot_belongs cluster z ≡ true) ((Decides-ballot c b).0 first.1) (vote-of cluster j w c os off h).ballot
          | inr i ↦ let bad : ◌≡◌ {A = Option Mark} None (Some m) = rw i at g in absurd (cc)
        ]

    by_case : (value_of (votes_of fs k v b) t ≡ Some m → ballot_belongs cluster b ≡ true) → (o : Option Mark) → value_of (votes_of fs k v b) t ≡ o → option_or (value_of (votes_of fs k v b) t) (value_of (marks_voted k v b f) t) ≡ Some m → ballot_belongs cluster b ≡ true
    by_case rest None i g = new f h.0 (let s : value_of (marks_voted k v b f) t ≡ Some m = rw i at g in s)
    by_case rest (Some n) i g = rest (let s : Some n ≡ Some m = rw i at g in i ∙ s)

pub given-belongs : (cluster : Cluster) (es : List Entry) (k : Key) (v : ℕ) (b : Ballot) (t : TxId) (a : ℕ) (m : Mark) → IsAllowed cluster es → mark_given es k v b t a ≡ Some m → IsGivenOf cluster b t m
given-belongs cluster es k v b t a m legal h =
    let of = facts-belong cluster es a legal in
    let both = and_parts (tx_belongs cluster t) (mark_belongs cluster m) (each-value (IsMarkOf cluster) (votes_of (facts_of es a) k v b) t m (votes-belong cluster (facts_of es a) k v b of) h) in
    record { ballot = vote-ballot cluster (facts_of es a) k v b t m of h; tx = both.0; mark = both.1 }

-- ---- what is held

choice-update : (cluster : Cluster) (c : Choice) → choice_belongs cluster c ≡ true → (tx_belongs cluster c.tx ≡ true) × (update_belongs cluster c.update ≡ true)
choice-update cluster c h = and_parts (tx_belongs cluster c.tx) (update_belongs cluster c.update) h

written-belongs : (cluster : Cluster) (u : Update) (item : Item) → update_belongs cluster u ≡ true → item_written u ≡ Some item → item_belongs cluster item ≡ true
written-belongs cluster (Update.Write it seen) item h e = let s : it ≡ item = cc in subst (λ z. item_belongs cluster z ≡ true) s (and_parts (item_belongs cluster it) (txs_belong cluster seen) h).0
written-belongs cluster (Update.Add amounts) item h e = absurd (cc)

commit-base : (cluster : Cluster) (k : Key) (v : ℕ) (cs : List Choice) (o : Option Item) (item : Item) → list_all (choice_belongs cluster) cs ≡ true → ((it : Item) → o ≡ Some it → item_belongs cluster it ≡ true) →
    fold (λ base (choice : Choice). option_or base (base_given k v choice)) o cs ≡ Some item → item_belongs cluster item ≡ true
commit-base cluster k v [] o item h f e = f item e
commit-base cluster k v (c ∷ cs) o item h f e =
    let both = and_parts (choice_belongs cluster c) (list_all (choice_belongs cluster) cs) h in
    commit-base cluster k v cs (option_or o (base_given k v c)) item both.1 (λ it g. next both.0 o refl it g) e
  where
    new : (it : Item) → choice_belongs cluster c ≡ true → base_given k v c ≡ Some it → item_belongs cluster it ≡ true
    new it h g = by_test (choice-update cluster c h).1 g
      where
        by_test : update_belongs cluster c.update ≡ true → base_given k v c ≡ Some it → item_belongs cluster it ≡ true
        by_test u g = pick _ u g
          where
            pick : (t : Bool) → update_belongs cluster c.update ≡ true → cond t (item_written c.update) None ≡ Some it → item_belongs cluster it ≡ true
            pick true u g = written-belongs cluster c.update it u g
            pick false u g = absurd (cc)

    next : choice_belongs cluster c ≡ true → (p : Option Item) → o ≡ p → (it : Item) → option_or o (base_given k v c) ≡ Some it → item_belongs cluster it ≡ true
    next h (Some y) i it g = f it (let s : Some y ≡ Some it = rw i at g in i ∙ s)
    next h None i it g = new it h (let s : base_given k v c ≡ Some it = rw i at g in s)

base-from : (cluster : Cluster) (k : Key) (v : ℕ) (f : Fact) (item : Item) → fact_belongs cluster f ≡ true → base_from k v f ≡ Some item → item_belongs cluster item ≡ true
base-from cluster k v (Fact.Booted n) item h e = absurd (cc)
base-from cluster k v (Fact.Floor origin era upto) item h e = absurd (cc)
base-from cluster k v (Fact.Promised j lo hi b) item h e = absurd (cc)
base-from cluster k v (Fact.Voted j w b os off) item h e = absurd (cc)
base-from cluster k v (Fact.Heard t (Outcome.Commit cs)) item h e = commit-base cluster k v cs None item (and_parts (tx_belongs cluster t) (list_all (choice_belongs cluster) cs) h).1 (λ it g. absurd (cc)) e
base-from cluster k v (Fact.Heard t Outcome.Abort) item h e = absurd (cc)
base-from cluster k v (Fact.Adopted j w it ds) item h e =
    elim (cases_Bool (w == v && key_eq j k)) [
      | inl i ↦ let s : Some it ≡ Some item = rw i at e in let r : it ≡ item = cc in subst (λ z. item_belongs cluster z ≡ true) r (and_parts (item_belongs cluster it) (adds_belong cluster ds) h).0
      | inr i ↦ let bad : ◌≡◌ {A = Option Item} None (Some item) = rw i at e in absurd (cc)
    ]

base-at : (cluster : Cluster) (fs : List Fact) (k : Key) (v : ℕ) (item : Item) → AreOf cluster fs → base_at fs k v ≡ Some item → item_belongs cluster item ≡ true
base-at cluster [] k v item h e = absurd (cc)
base-at cluster (f ∷ fs) k v item h e = by_case (λ g. base-at cluster fs k v item h.1 g) (base_at fs k v) refl e
  where
    by_case : (base_at fs k v ≡ Some item → item_belongs cluster item ≡ true) → (o : Option Item) → base_at fs k v ≡ o → option_or o (base_from k v f) ≡ Some item → item_belongs cluster item ≡ true
    by_case rest None i g = base-from cluster k v f item h.0 g
    by_case rest (Some n) i g = rest (i ∙ g)

pub base-belongs : (cluster : Cluster) (fs : List Fact) (k : Key) (item : Item) → AreOf cluster fs → base_of fs k ≡ Some item → item_belongs cluster item ≡ true
base-belongs cluster fs k item h e = pick (current_of fs k == 0) e
  where
    pick : (t : Bool) → cond t None (base_at fs k (current_of fs k)) ≡ Some item → item_belongs cluster item ≡ true
    pick true g = absurd (cc)
    pick false g = base-at cluster fs k (current_of fs k) item h g

abbrev pub IsDeltaOf : Cluster → TxId → Amounts → Type 0
IsDeltaOf cluster t amounts = (tx_belongs cluster t && amounts_belong cluster amounts) ≡ true

added-belongs : (cluster : Cluster) (t : TxId) (u : Update) (amounts : Amounts) → tx_belongs cluster t ≡ true → update_belongs cluster u ≡ true → amounts_added u ≡ Some amounts → IsDeltaOf cluster t amounts
added-belongs cluster t (Update.Write it seen) amounts g h e = absurd (cc)
added-belongs cluster t (Update.Add ns) amounts g h e = let s : ns ≡ amounts = cc in subst (λ z. IsDeltaOf cluster t z) s (and_from (tx_belongs cluster t) (amounts_belong cluster ns) g h)

abbrev pub AreDeltasWith : Cluster → Key → ℕ → List Choice → Option (TxId × Amounts) → Type 0
AreDeltasWith cluster k v cs o = Each (λ (e : TxId × Amounts). IsDeltaOf cluster e.0 e.1) (cons_option o (filter_map (delta_given k v) cs))

commit-deltas : (cluster : Cluster) (k : Key) (v : ℕ) (cs : List Choice) → list_all (choice_belongs cluster) cs ≡ true → Each (λ (e : TxId × Amounts). IsDeltaOf cluster e.0 e.1) (filter_map (delta_given k v) cs)
commit-deltas cluster k v [] h = tt
commit-deltas cluster k v (c ∷ cs) h =
    let both = and_parts (choice_belongs cluster c) (list_all (choice_belongs cluster) cs) h in
    by_test (commit-deltas cluster k v cs both.1) (choice-update cluster c both.0) (c.version == v && key_eq c.key k)
  where
    by_amounts : Each (λ (e : TxId × Amounts). IsDeltaOf cluster e.0 e.1) (filter_map (delta_given k v) cs) → (tx_belongs cluster c.tx ≡ true) × (update_belongs cluster c.update ≡ true) → (o : Option Amounts) → amounts_added c.update ≡ o →
        AreDeltasWith cluster k v cs (option_map {U = TxId × Amounts} (λ (amounts : Amounts). (c.tx, amounts)) o)
    by_amounts rest of None e = rest
    by_amounts rest of (Some amounts) e = (added-belongs cluster c.tx c.update amounts of.0 of.1 e, rest)

    by_test : Each (λ (e : TxId × Amounts). IsDeltaOf cluster e.0 e.1) (filter_map (delta_given k v) cs) → (tx_belongs cluster c.tx ≡ true) × (update_belongs cluster c.update ≡ true) → (t : Bool) →
        AreDeltasWith cluster k v cs (cond t (option_map {U = TxId × Amounts} (λ (amounts : Amounts). (c.tx, amounts)) (amounts_added c.update)) None)
    by_test rest of true = by_amounts rest of (amounts_added c.update) refl
    by_test rest of false = rest

pub deltas-belong : (cluster : Cluster) (fs : List Fact) (k : Key) (v : ℕ) → AreOf cluster fs → Each (λ (e : TxId × Amounts). IsDeltaOf cluster e.0 e.1) (deltas_at fs k v)
deltas-belong cluster [] k v h = tt
deltas-belong cluster (f ∷ fs) k v h = each-union (λ (e : TxId × Amounts). IsDeltaOf cluster e.0 e.1) (deltas_at fs k v) (deltas_from k v f) (deltas-belong cluster fs k v h.1) (new f h.0)
  where
    new : (f : Fact) → fact_belongs cluster f ≡ true → Each (λ (e : TxId × Amounts). IsDeltaOf cluster e.0 e.1) (deltas_from k v f)
    new (Fact.Booted n) h = tt
    new (Fact.Floor origin era upto) h = tt
    new (Fact.Promised j lo hi m) h = tt
    new (Fact.Voted j w m os off) h = tt
    new (Fact.Heard t (Outcome.Commit cs)) h = commit-deltas cluster k v cs (and_parts (tx_belongs cluster t) (list_all (choice_belongs cluster) cs) h).1
    new (Fact.Heard t Outcome.Abort) h = tt
    new (Fact.Adopted j w it ds) h =
        elim (cases_Bool (w == v && key_eq j k)) [
          | inl e ↦ rw e (Each-map (λ (e : TxId × Amounts). IsDeltaOf cluster e.0 e.1) (λ (d : Delta). (d.tx, d.amounts)) ds
              (all-each (λ (d : Delta). tx_belongs cluster d.tx && amounts_belong cluster d.amounts) ds (and_parts (item_belongs cluster it) (adds_belong cluster ds) h).1))
          | inr e ↦ rw e tt
        ]

-- ---- begun choices

attributes-belong : (cluster : Cluster) (last : ℕ) (amounts : Amounts) → are_attributes (length cluster.schema) last amounts ≡ true → amounts_belong cluster amounts ≡ true
attributes-belong cluster last [] h = refl
attributes-belong cluster last (a ∷ as') h =
    let p = and_parts (nat_lt last a.0) (nat_le a.0 (length cluster.schema) && are_attributes (length cluster.schema) a.0 as') h in
    let q = and_parts (nat_le a.0 (length cluster.schema)) (are_attributes (length cluster.schema) a.0 as') p.1 in
    and_from (is_attribute cluster a.0) (amounts_belong cluster as') (and_from (nat_le 1 a.0) (nat_le a.0 (length cluster.schema)) (le-leb 1 a.0 (omega (arith, ltb-true last a.0 p.0))) q.0) (attributes-belong cluster a.0 as' q.1)

-- what a node holds was seen by a write that it begins
seen-belongs : (cluster : Cluster) (fs : List Fact) (k : Key) (v : ℕ) (it : Item) (seen : List TxId) → AreOf cluster fs → update_begin_fault fs k v (Update.Write it seen) ≡ None → txs_belong cluster seen ≡ true
seen-belongs cluster fs k v it seen of h =
    elim (cases_Bool ((token_of fs k).version == v && txs_eq (token_of fs k).seen seen)) [
      | inl e ↦
          let s : (token_of fs k).seen ≡ seen = (Decides-txs (token_of fs k).seen seen).0 (and_parts ((token_of fs k).version == v) (txs_eq (token_of fs k).seen seen) e).1 in
          subst (λ z. txs_belong cluster z ≡ true) s (each (deltas_at fs k (current_of fs k)) (deltas-belong cluster fs k (current_of fs k) of))
      | inr e ↦ absurd (let bad = rw e at h in cc)
    ]
  where
    each : (ds : TxMap Amounts) → Each (λ (e : TxId × Amounts). IsDeltaOf cluster e.0 e.1) ds → txs_belong cluster (txs_of ds) ≡ true
    each [] g = refl
    each (d ∷ ds) g = and_from (tx_belongs cluster d.0) (txs_belong cluster (txs_of ds)) (and_parts (tx_belongs cluster d.0) (amounts_belong cluster d.1) g.0).0 (each ds g.1)

begun-update : (cluster : Cluster) (fs : List Fact) (k : Key) (v : ℕ) (u : Update) → AreOf cluster fs → update_fault cluster.schema u ≡ None → update_begin_fault fs k v u ≡ None → update_belongs cluster u ≡ true
begun-update cluster fs k v (Update.Write it seen) of h g =
    and_from (item_belongs cluster it) (txs_belong cluster seen) item (seen-belongs cluster fs k v it seen of g)
  where
    item : item_belongs cluster it ≡ true
    item = elim (cases_Bool (length it.values == length cluster.schema)) [ inl e ↦ e | inr e ↦ absurd (let bad = rw e at h in cc) ]
begun-update cluster fs k v (Update.Add amounts) of h g =
    elim (cases_Bool (length amounts == 0 || not (are_attributes (length cluster.schema) 0 amounts))) [
      | inl e ↦ absurd (let bad = rw e at h in cc)
      | inr e ↦ attributes-belong cluster 0 amounts (attributes (are_attributes (length cluster.schema) 0 amounts) refl e)
    ]
  where
    attributes : (b : Bool) → are_attributes (length cluster.schema) 0 amounts ≡ b → (length amounts == 0 || not b) ≡ false → are_attributes (length cluster.schema) 0 amounts ≡ true
    attributes true i e = i
    attributes false i e = absurd (bad (length amounts == 0) e)
      where
        bad : (x : Bool) → (x || true) ≡ false → ⊥
        bad true j = cc
        bad false j = cc

part-clear : (schema : List (ℤ × ℤ)) (p : Part) (ps : List Part) → parts_fault schema (p ∷ ps) ≡ None → (update_fault schema p.update ≡ None) × (parts_fault schema ps ≡ None)
part-clear schema p ps h = by_case (update_fault schema p.update) refl
  where
    by_case : (o : Option DraftFault) → update_fault schema p.update ≡ o → (update_fault schema p.update ≡ None) × (parts_fault schema ps ≡ None)
    by_case None e = (e, let g : parts_fault schema ps ≡ None = rw e at h in g)
    by_case (Some fault) e = absurd (let bad : Some fault ≡ None = rw e at h in cc)

part-held : (fs : List Fact) (p : Part) (ps : List Part) → parts_begin_fault fs (p ∷ ps) ≡ None → (part_begin_fault fs p ≡ None) × (parts_begin_fault fs ps ≡ None)
part-held fs p ps h = by_case (part_begin_fault fs p) refl
  where
    by_case : (o : Option BeginFault) → part_begin_fault fs p ≡ o → (part_begin_fault fs p ≡ None) × (parts_begin_fault fs ps ≡ None)
    by_case None e = (e, let g : parts_begin_fault fs ps ≡ None = rw e at h in g)
    by_case (Some fault) e = absurd (let bad = rw e at h in cc)

parts-belong : (cluster : Cluster) (fs : List Fact) (ps : List Part) → AreOf cluster fs → parts_fault cluster.schema ps ≡ None → parts_begin_fault fs ps ≡ None → Each (λ (p : Part). update_belongs cluster p.update ≡ true) ps
parts-belong cluster fs [] of h g = tt
parts-belong cluster fs (p ∷ ps) of h g =
    let c = part-clear cluster.schema p ps h in
    let b = part-held fs p ps g in
    (begun-update cluster fs p.key p.version p.update of c.0 b.0, parts-belong cluster fs ps of c.1 b.1)

pub draft-clear : (schema : List (ℤ × ℤ)) (qs ps : List Part) → transaction_of schema qs ≡ Ok ps → parts_fault schema ps ≡ None
draft-clear schema qs ps h =
    elim (cases_Bool (length qs == 0)) [
      | inl e ↦ let bad : Err Empty ≡ Ok ps = rw e at h in absurd (cc)
      | inr e ↦ elim (cases_Bool (nat_lt 8 (length qs))) [
        | inl f ↦ let bad : Err TooMany ≡ Ok ps = rw (e, f) at h in absurd (cc)
        | inr f ↦ elim (cases_Bool (is_key_repeated qs)) [
          | inl g ↦ let bad : Err RepeatedKey ≡ Ok ps = rw (e, f, g) at h in absurd (cc)
          | inr g ↦
              let both = checked-ok (parts_fault schema (sorted_parts qs)) (sorted_parts qs) ps (rw (e, f, g) at h) in
              subst (λ z. parts_fault schema z ≡ None) both.1 both.0
        ]
      ]
    ]

made-belong : (cluster : Cluster) (t : TxId) (ws : List (Key × ℕ)) (ps : List Part) → tx_belongs cluster t ≡ true → Each (λ (p : Part). update_belongs cluster p.update ≡ true) ps → Each (λ (c : Choice). choice_belongs cluster c ≡ true) (map (choice_of_part t ws) ps)
made-belong cluster t ws [] h g = tt
made-belong cluster t ws (p ∷ ps) h g = (and_from (tx_belongs cluster t) (update_belongs cluster p.update) h g.0, made-belong cluster t ws ps h g.1)

pub begun-belong : (cluster : Cluster) (es : List Entry) (t : TxId) → IsAllowed cluster es → Each (λ (c : Choice). choice_belongs cluster c ≡ true) (choices_begun es t)
begun-belong cluster [] t h = tt
begun-belong cluster (Added c f ∷ es) t h = begun-belong cluster es t h.0
begun-belong cluster (Valued c k v m os ∷ es) t h = begun-belong cluster es t h.0
begun-belong cluster (Entry.Begun c u cs ∷ es) t h =
    elim (cases_Bool (tx_eq u t)) [
      | inl e ↦ rw e here
      | inr e ↦ rw e (begun-belong cluster es t h.0)
    ]
  where
    tx : tx_belongs cluster u ≡ true
    tx = subst (λ z. is_centre cluster z ≡ true) (sym h.1.1.centre) h.1.0

    here : Each (λ (c : Choice). choice_belongs cluster c ≡ true) cs
    here =
        subst (λ z. Each (λ (c : Choice). choice_belongs cluster c ≡ true) z) (sym h.1.1.made)
        (made-belong cluster u (write_set_of_parts (map part_in cs)) (map part_in cs) tx
        (parts-belong cluster (facts_of es c) (map part_in cs) (facts-belong cluster es c h.0) (draft-clear cluster.schema (map part_in cs) (map part_in cs) h.1.1.draft) h.1.1.held))
