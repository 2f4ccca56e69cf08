-- The committed transactions of an allowed ledger are a run of the one-copy store.
use Rattle.std.proofs.Common.{◌≡◌, ℕ, suc, ◌≤◌, ◌==◌, true, false, cond, List, [], ◌∷◌, ◌++◌, length, refl, sym, ap, ◌∙◌, subst, arith, inl, inr, ◌⊎◌, Option, Some, None, Ok, Err, map}
use Rattle.std.proofs.lemmas.Bool.{cases_Bool, false≢true, and_from}
use Rattle.std.specs.List.{filter_map, list_all, list_any}
use Rattle.std.specs.Option.{option_and_then}
use Rattle.std.specs.Prelude.{is_some, nat_lt}
use Rattle.mdcc_base.specs.Key.{key_eq}
use Rattle.mdcc_base.specs.declared.identifiers.TxId.{TxId}
use Rattle.mdcc_base.specs.declared.key.Key.{Key}
use Rattle.mdcc_option.specs.Held.{Held}
use Rattle.mdcc_option.specs.OneCopy as copy
use Rattle.mdcc_option.specs.OneCopy.{OneCopyStore}
use Rattle.mdcc_option.specs.Parts.{is_key_repeated, sorted_parts}
use Rattle.mdcc_option.specs.Transaction.{checked_by, fault_or, parts_fault, transaction_of, update_fault}
use Rattle.mdcc_option.specs.declared.choices.Choice.{Choice}
use Rattle.mdcc_option.specs.declared.choices.Outcome.{Outcome}
use Rattle.mdcc_option.specs.declared.choices.Outcome.TheVariants.{Commit, Abort}
use Rattle.mdcc_option.specs.declared.cluster.Cluster.{Cluster}
use Rattle.mdcc_option.specs.declared.faults.DraftFault.{DraftFault}
use Rattle.mdcc_option.specs.declared.faults.DraftFault.TheVariants.{Empty, TooMany, RepeatedKey}
use Rattle.mdcc_option.specs.declared.items.Item.{Item}
use Rattle.mdcc_option.specs.declared.items.Part.{Part}
use Rattle.mdcc_option.specs.declared.items.Update.{Update}
use Rattle.mdcc_option.specs.declared.items.Update.TheVariants.{Write}
use Rattle.mdcc_option.specs.declared.schema.Schema.{Schema}
use Rattle.mdcc_struct.specs.Maps.{txs_of}
use Rattle.mdcc_def_ledger.specs.AllowedLedgers.{IsAllowed, IsAllowedBegun, part_in}
use Rattle.mdcc_def_protocol.specs.Facts as full
use Rattle.mdcc_def_ledger.specs.Ledger as ledger
use Rattle.mdcc_def_protocol.specs.Manager.{update_begin_fault}
use Rattle.mdcc_def_messages.specs.declared.facts.Fact.{Fact}
use Rattle.mdcc_struct.proofs.Reports.{cases_Option}
use Rattle.mdcc_theorem_agreement.proofs.BegunOnce.{In-append}
use Rattle.mdcc_theorem_agreement.proofs.OutcomeToReduced.{decided}
use Rattle.mdcc_theorem_agreement.proofs.Reduction.{reduced}
use Rattle.mdcc_theorem_agreement.proofs.ChoicesGive.{last_version, Update-is}
use Rattle.mdcc_theorem_agreement.proofs.VersionsLow.{begun, begun-after, begun-reduced, low_all}
use Rattle.mdcc_theorem_agreement.proofs.BegunReduced.{part_clear, write_clear, not_repeated, none_repeated, In-parts}
use Rattle.mdcc_theorem_agreement.proofs.OutcomeFromReduced.{begun_some, outcome_committed}
use Rattle.mdcc_theorem_agreement.proofs.ReducedLedger.{WasBegun, IsCommitted, Allowed}
use Rattle.mdcc_theorem_agreement.proofs.ReducedOptions.{In}
use Rattle.mdcc_theorem_agreement.proofs.TestsDecide.{Decides-key, same_pair}
use Rattle.mdcc_theorem_agreement.proofs.LawsTold.{setup_fine, allowed}
use Rattle.mdcc_theorem_agreement.specs.Laws.{IsLedger, IsCommit}
use Rattle.mdcc_theorem_agreement.proofs.Reduction.{setup_of}
use Rattle.mdcc_theorem_one_copy.proofs.CommitsListed.{onto, In-onto, onto-In, news, done, commit_pair}
use Rattle.mdcc_theorem_one_copy.proofs.CommitsOrdered.{ordered}
use Rattle.mdcc_theorem_one_copy.proofs.CommitsFit.{run_order, order_complete, keyed_of, own_of}
use Rattle.mdcc_theorem_one_copy.proofs.Slots.{on_key, updated, after, slot, IsRun}
use Rattle.mdcc_theorem_one_copy.proofs.Sorted.{Ascending, ascending_union}
use Rattle.mdcc_theorem_one_copy.proofs.SlotsLeft.{AllKeyed, AllOwn, OnceEach, Has, on_key-shows, delta_shows}
use Rattle.mdcc_theorem_one_copy.proofs.StoreLikeSlots.{LikeSlot, IsValid, Made, made_write, made_add}

-- ---- the store after one transaction

-- what a key has afterwards
abbrev Found : Schema → OneCopyStore → OneCopyStore → List Choice → Key → Option Choice → Type 0
Found schema before acc cs key None = copy.stored schema before acc cs key ≡ acc key
Found schema before acc cs key (Some c) = copy.stored schema before acc cs key ≡ copy.held_after schema before c

on_none : (cs : List Choice) (key : Key) → ((d : Choice) → In d cs → d.key ≡ key → ⊥) → on_key cs key ≡ None
on_none [] key h = refl
on_none (c ∷ cs) key h =
    elim (cases_Bool (key_eq c.key key)) [
      | inl e ↦ absurd (h c (inl refl) ((Decides-key c.key key).0 e))
      | inr e ↦ rw e (on_none cs key (λ d g. h d (inr g)))
    ]

-- different keys one after the other
abbrev pub KeysApart : List Choice → Type 0
KeysApart [] = Unit {0}
KeysApart (c ∷ cs) = ((d : Choice) → In d cs → d.key ≡ c.key → ⊥) × KeysApart cs

past : (schema : Schema) (before acc acc' : OneCopyStore) (cs ds : List Choice) (key : Key) (o : Option Choice) → copy.stored schema before acc cs key ≡ copy.stored schema before acc' ds key →
    acc' key ≡ acc key → Found schema before acc' ds key o → Found schema before acc cs key o
past schema before acc acc' cs ds key None next value rest = next ∙ rest ∙ value
past schema before acc acc' cs ds key (Some d) next value rest = next ∙ rest

-- where each choice may be applied, a key has what its choice makes of it
found_after : (schema : Schema) (before acc : OneCopyStore) (cs : List Choice) (key : Key) → KeysApart cs →
    ((c : Choice) → In c cs → (h : Held) × (copy.held_after schema before c ≡ Some h)) → Found schema before acc cs key (on_key cs key)
found_after schema before acc [] key apart known = refl
found_after schema before acc (c ∷ cs) key apart known =
    let h : (x : Held) × (copy.held_after schema before c ≡ Some x) = known c (inl refl) in
    let value : copy.with_held acc c.key (copy.held_after schema before c) key ≡ cond (key_eq c.key key) (Some h.0) (acc key) = ap (λ o. copy.with_held acc c.key o key) h.1 in
    let rest : Found schema before (copy.with_held acc c.key (copy.held_after schema before c)) cs key (on_key cs key) =
    found_after schema before (copy.with_held acc c.key (copy.held_after schema before c)) cs key apart.1 (λ d g. known d (inr g)) in
    elim (cases_Bool (key_eq c.key key)) [
      | inl e ↦
          let none : on_key cs key ≡ None = on_none cs key (λ d g same. apart.0 d g (same ∙ sym ((Decides-key c.key key).0 e))) in
          let here : Found schema before (copy.with_held acc c.key (copy.held_after schema before c)) cs key None =
          subst (Found schema before (copy.with_held acc c.key (copy.held_after schema before c)) cs key) none rest in
          let found : on_key (c ∷ cs) key ≡ Some c = rw e refl in
          subst (Found schema before acc (c ∷ cs) key) (sym found) (here ∙ value ∙ ap (λ b. cond b (Some h.0) (acc key)) e ∙ sym h.1)
      | inr e ↦
          let same : on_key (c ∷ cs) key ≡ on_key cs key = rw e refl in
          subst (Found schema before acc (c ∷ cs) key) (sym same)
          (past schema before acc (copy.with_held acc c.key (copy.held_after schema before c)) (c ∷ cs) cs key (on_key cs key) refl (value ∙ ap (λ b. cond b (Some h.0) (acc key)) e) rest)
    ]

abbrev Like : Cluster → OneCopyStore → List (TxId × List Choice) → Type 0
Like cluster store done = (key : Key) → LikeSlot cluster.schema (store key) (slot done key)

all_apply : (schema : Schema) (store : OneCopyStore) (cs : List Choice) → ((c : Choice) → In c cs → (h : Held) × (copy.held_after schema store c ≡ Some h)) → list_all (copy.may_apply schema store) cs ≡ true
all_apply schema store [] known = refl
all_apply schema store (c ∷ cs) known = and_from _ _ (ap is_some (known c (inl refl)).1) (all_apply schema store cs (λ d g. known d (inr g)))

module _ (cluster : Cluster) where
  -- one more transaction changes the store as the run does
  one_more : (store : OneCopyStore) (older : List (TxId × List Choice)) (x : TxId × List Choice) → Like cluster store older → IsRun (setup_of cluster) (x ∷ older) → OnceEach (x ∷ older) → AllOwn (x ∷ older) →
      KeysApart x.1 → AllKeyed (x ∷ older) → ((c : Choice) → In c x.1 → IsValid cluster.schema c) →
      (next : OneCopyStore) × (copy.applied cluster.schema store x.1 ≡ Some next) × Like cluster next (x ∷ older)
  one_more store older x like run once own apart keyed valid =
      let made : (c : Choice) → In c x.1 → Made cluster.schema store c (slot older c.key) = λ c g.
      elim (Update-is c.update) [
        | inl w ↦ made_write cluster store c (slot older c.key) w.0 w.1 (valid c g) w.2 (like c.key) (run.1 c g)
        | inr a ↦ made_add cluster store c (slot older c.key) a.0 a.1 (like c.key) (run.1 c g) (λ d delta same.
            let has : Has older c.key d = (delta_shows (setup_of cluster) older c.key d run.0 delta).0 in
            once.0 has.0 has.1 (sym (own has.0 (inr has.1) d has.2) ∙ same ∙ own x (inl refl) c g))
      ] in
      let known : (c : Choice) → In c x.1 → (h : Held) × (copy.held_after cluster.schema store c ≡ Some h) = λ c g. ((made c g).0, (made c g).1) in (
        copy.stored cluster.schema store store x.1,
        rw (all_apply cluster.schema store x.1 known) refl,
        (λ key.
            let found : Found cluster.schema store store x.1 key (on_key x.1 key) = found_after cluster.schema store store x.1 key apart known in
            elim (cases_Option (on_key x.1 key)) [
              | inl none ↦
                  let kept : copy.stored cluster.schema store store x.1 key ≡ store key = subst (Found cluster.schema store store x.1 key) none found in
                  let same : slot (x ∷ older) key ≡ slot older key = ap (after (slot older key)) none in
                  subst (λ o. LikeSlot cluster.schema o (slot (x ∷ older) key)) (sym kept) (subst (LikeSlot cluster.schema (store key)) (sym same) (like key))
              | inr some ↦
                  let shown : In some.0 x.1 × (some.0.key ≡ key) = on_key-shows x.1 key some.0 some.1 in
                  let there : copy.stored cluster.schema store store x.1 key ≡ copy.held_after cluster.schema store some.0 = subst (Found cluster.schema store store x.1 key) some.1 found in
                  let now : Made cluster.schema store some.0 (slot older key) = subst (λ k. Made cluster.schema store some.0 (slot older k)) shown.1 (made some.0 shown.0) in
                  let slot_now : slot (x ∷ older) key ≡ updated (slot older key) some.0 some.0.update = ap (after (slot older key)) some.1 in
                  subst (λ o. LikeSlot cluster.schema o (slot (x ∷ older) key)) (sym (there ∙ now.1)) (subst (LikeSlot cluster.schema (Some now.0)) (sym slot_now) now.2)
            ]),
      )

  -- a list of transactions
  abbrev Valid : TxId × List Choice → Type 0
  Valid x = KeysApart x.1 × ((c : Choice) → In c x.1 → IsValid cluster.schema c)

  suffix_run : (xs acc : List (TxId × List Choice)) → IsRun (setup_of cluster) (onto xs acc) → IsRun (setup_of cluster) acc
  suffix_run [] acc h = h
  suffix_run (x ∷ xs) acc h = (suffix_run xs (x ∷ acc) h).0

  suffix_once : (xs acc : List (TxId × List Choice)) → OnceEach (onto xs acc) → OnceEach acc
  suffix_once [] acc h = h
  suffix_once (x ∷ xs) acc h = (suffix_once xs (x ∷ acc) h).1

  store_more : (xs acc : List (TxId × List Choice)) (store : OneCopyStore) → Like cluster store acc → IsRun (setup_of cluster) (onto xs acc) → OnceEach (onto xs acc) → AllOwn (onto xs acc) →
      AllKeyed (onto xs acc) → ((x : TxId × List Choice) → In x (onto xs acc) → Valid x) →
      (next : OneCopyStore) × (copy.store_run cluster.schema store (map (λ (x : TxId × List Choice). x.1) xs) ≡ Some next) × Like cluster next (onto xs acc)
  store_more [] acc store like run once own keyed valid = (store, refl, like)
  store_more (x ∷ xs) acc store like run once own keyed valid =
      let inside : (y : TxId × List Choice) → In y (x ∷ acc) → In y (onto xs (x ∷ acc)) = λ y g. In-onto xs (x ∷ acc) y g in
      let here : Valid x = valid x (inside x (inl refl)) in
      let one : (next : OneCopyStore) × (copy.applied cluster.schema store x.1 ≡ Some next) × Like cluster next (x ∷ acc) =
      one_more store acc x like (suffix_run xs (x ∷ acc) run) (suffix_once xs (x ∷ acc) once) (λ y g. own y (inside y g)) here.0 (λ y g. keyed y (inside y g)) here.1 in
      let rest : (next : OneCopyStore) × (copy.store_run cluster.schema one.0 (map (λ (y : TxId × List Choice). y.1) xs) ≡ Some next) × Like cluster next (onto xs (x ∷ acc)) =
      store_more xs (x ∷ acc) one.0 one.2 run once own keyed valid in
      (rest.0, ap (λ o. option_and_then (λ st. copy.store_run cluster.schema st (map (λ (y : TxId × List Choice). y.1) xs)) o) one.1 ∙ rest.1, rest.2)

  after_append : (xs ys : List (List Choice)) (store : OneCopyStore) → copy.store_run cluster.schema store (xs ++ ys) ≡ option_and_then (λ st. copy.store_run cluster.schema st ys) (copy.store_run cluster.schema store xs)
  after_append [] ys store = refl
  after_append (x ∷ xs) ys store =
      elim (cases_Option (copy.applied cluster.schema store x)) [
        | inl none ↦ rw none refl
        | inr some ↦ rw some.1 (after_append xs ys some.0)
      ]

  pairs_choices : (os : List (TxId × Outcome)) → filter_map ledger.choices_committed os ≡ map (λ (x : TxId × List Choice). x.1) (filter_map commit_pair os)
  pairs_choices [] = refl
  pairs_choices ((t, Commit cs) ∷ os) = ap (λ z. cs ∷ z) (pairs_choices os)
  pairs_choices ((t, Abort) ∷ os) = pairs_choices os

-- ---- begun choices are valid

deltas_ascending : (fs : List Fact) (key : Key) (version : ℕ) → Ascending (txs_of (full.deltas_at fs key version))
deltas_ascending [] key version = tt
deltas_ascending (f ∷ fs) key version = ascending_union (full.deltas_at fs key version) (full.deltas_from key version f) (deltas_ascending fs key version)

keys_distinct : (cs : List Choice) → is_key_repeated (map part_in cs) ≡ false → KeysApart cs
keys_distinct [] h = tt
keys_distinct (e ∷ cs) h =
    elim (cases_Bool (list_any (λ q. key_eq q.key e.key) (map part_in cs))) [
      | inl f ↦ absurd (let bad : true ≡ false = rw f at h in false≢true (sym bad))
      | inr f ↦ (
        (λ d g same. none_repeated (map part_in cs) e.key (part_in e) f (part_in d) (In-parts d cs g) (sym same)),
        keys_distinct cs (rw f at h),
      )
    ]

no_fault : (a b : Option DraftFault) → fault_or a b ≡ None → (a ≡ None) × (b ≡ None)
no_fault None b h = (refl, h)
no_fault (Some fault) b h = absurd (cc)

faults_none : (schema : Schema) (ps : List Part) → parts_fault schema ps ≡ None → (p : Part) → In p ps → update_fault schema p.update ≡ None
faults_none schema [] h p g = absurd g
faults_none schema (q ∷ ps) h p g =
    let both = no_fault (update_fault schema q.update) (parts_fault schema ps) h in
    elim g [ inl here ↦ ap (λ (z : Part). update_fault schema z.update) (sym here) ∙ both.0 | inr there ↦ faults_none schema ps both.1 p there ]

checked_ok : (o : Option DraftFault) (ps qs : List Part) → checked_by o ps ≡ Ok qs → (o ≡ None) × (ps ≡ qs)
checked_ok None ps qs h = (refl, cc)
checked_ok (Some fault) ps qs h = absurd (cc)

draft_faults : (schema : Schema) (ps : List Part) → transaction_of schema ps ≡ Ok ps → parts_fault schema ps ≡ None
draft_faults schema ps h =
    elim (cases_Bool (length ps == 0)) [
      | inl f ↦ absurd (let bad : Err Empty ≡ Ok ps = rw f at h in cc)
      | inr f ↦ elim (cases_Bool (nat_lt 8 (length ps))) [
        | inl g ↦ absurd (let bad : Err TooMany ≡ Ok ps = rw (f, g) at h in cc)
        | inr g ↦ elim (cases_Bool (is_key_repeated ps)) [
          | inl e ↦ absurd (let bad : Err RepeatedKey ≡ Ok ps = rw (f, g, e) at h in cc)
          | inr e ↦
              let both = checked_ok (parts_fault schema (sorted_parts ps)) (sorted_parts ps) ps (rw (f, g, e) at h) in
              subst (λ z. parts_fault schema z ≡ None) both.1 both.0
        ]
      ]
    ]

seen_ascending : (fs : List Fact) (key : Key) (version : ℕ) (u : Update) → update_begin_fault fs key version u ≡ None → (b : Item) (s : List TxId) → u ≡ Write b s → Ascending s
seen_ascending fs key version u h b s is =
    let clear : update_begin_fault fs key version (Write b s) ≡ None = subst (λ z. update_begin_fault fs key version z ≡ None) is h in
    let parts = write_clear (full.token_of fs key) version s clear in
    subst Ascending parts.1 (deltas_ascending fs key (full.current_of fs key))

begun_valid : (cluster : Cluster) (n : ℕ) → n ≤ last_version → (es : List ledger.Entry) → IsAllowed cluster es → ((t : TxId) (cs : List Choice) (c : Choice) → WasBegun (reduced es) t cs → In c cs → suc c.version ≤ n) →
    (t : TxId) (cs : List Choice) → WasBegun (reduced es) t cs → KeysApart cs × ((c : Choice) → In c cs → IsValid cluster.schema c)
begun_valid cluster n short [] allowed low t cs h = absurd h
begun_valid cluster n short (ledger.Added b f ∷ es) allowed low t cs h = begun_valid cluster n short es allowed.0 low t cs h
begun_valid cluster n short (ledger.Valued b k v l os ∷ es) allowed low t cs h = begun_valid cluster n short es allowed.0 low t cs h
begun_valid cluster n short (ledger.Begun b u ds ∷ es) allowed low t cs h =
    elim h [
      | inr there ↦ begun_valid cluster n short es allowed.0 (λ w gs c g k. low w gs c (inr g) k) t cs there
      | inl here ↦
          let may : IsAllowedBegun cluster es b u ds = allowed.1.1 in
          subst (λ (z : List Choice). KeysApart z × ((c : Choice) → In c z → IsValid cluster.schema c)) here.1 (
            keys_distinct ds (not_repeated cluster (map part_in ds) (map part_in ds) may.draft),
            (λ c g. record {
              fault = faults_none cluster.schema (map part_in ds) (draft_faults cluster.schema (map part_in ds) may.draft) (part_in c) (In-parts c ds g);
              low = (let bound : suc c.version ≤ n = low u ds c (inl (refl, refl)) g in omega arith);
              seen = λ item s is. seen_ascending (ledger.facts_of es b) c.key c.version c.update (part_clear (ledger.facts_of es b) (map part_in ds) may.held (part_in c) (In-parts c ds g)) item s is;
            }),
          )
    ]

-- ---- the committed transactions

pub store_of : (cluster : Cluster) (es : List ledger.Entry) → IsLedger cluster es →
    (store : OneCopyStore) × (copy.store_run cluster.schema copy.empty_store (ledger.committed_of cluster.quorums es) ≡ Some store) × Like cluster store (done cluster es)
store_of cluster [] h = (copy.empty_store, refl, (λ key. (refl, refl, refl)))
store_of cluster (e ∷ es) h =
    let before : IsLedger cluster es = record { of_cluster = h.of_cluster; allowed = h.allowed.0; few = omega (arith, h.few, begun-after (e ∷ []) es) } in
    let older : (store : OneCopyStore) × (copy.store_run cluster.schema copy.empty_store (ledger.committed_of cluster.quorums es) ≡ Some store) × Like cluster store (done cluster es) = store_of cluster es before in
    let legal : Allowed (setup_of cluster) (reduced (e ∷ es)) = allowed cluster (e ∷ es) h in
    let order = run_order (setup_of cluster) (setup_fine cluster (e ∷ es) h) (reduced (e ∷ es)) legal (done cluster (e ∷ es)) (ordered cluster (e ∷ es) h) in
    let few : begun (reduced (e ∷ es)) ≤ last_version = omega (arith, h.few, begun-reduced (e ∷ es)) in
    let valid : (x : TxId × List Choice) → In x (done cluster (e ∷ es)) → KeysApart x.1 × ((c : Choice) → In c x.1 → IsValid cluster.schema c) = λ x g.
    begun_valid cluster (begun (reduced (e ∷ es))) few (e ∷ es) h.allowed (low_all (setup_of cluster) (reduced (e ∷ es)) legal).1 x.0 x.1 (order.2 x g).0 in
    let more : (store : OneCopyStore) × (copy.store_run cluster.schema older.0 (map (λ (x : TxId × List Choice). x.1) (news cluster e es)) ≡ Some store) × Like cluster store (done cluster (e ∷ es)) =
    store_more cluster (news cluster e es) (done cluster es) older.0 older.2 order.0 order.1 (own_of (setup_of cluster) (reduced (e ∷ es)) legal (done cluster (e ∷ es)) order.2)
    (keyed_of (setup_of cluster) (reduced (e ∷ es)) legal (done cluster (e ∷ es)) order.2) valid in (
      more.0,
      after_append cluster (ledger.committed_of cluster.quorums es) (filter_map ledger.choices_committed (ledger.new_outcomes cluster.quorums e es)) copy.empty_store
          ∙ ap (λ o. option_and_then (λ st. copy.store_run cluster.schema st (filter_map ledger.choices_committed (ledger.new_outcomes cluster.quorums e es))) o) older.1
          ∙ ap (copy.store_run cluster.schema older.0) (pairs_choices cluster (ledger.new_outcomes cluster.quorums e es))
          ∙ more.1,
      more.2,
    )

pub commits_run : (cluster : Cluster) (es : List ledger.Entry) → IsLedger cluster es → copy.IsRun cluster.schema (ledger.committed_of cluster.quorums es)
commits_run cluster es h = ap is_some (store_of cluster es h).1

-- which transactions they are
In-two : {A : Type 0} (x : A) (xs ys : List A) → (In x xs → In x (xs ++ ys)) × (In x ys → In x (xs ++ ys))
In-two x [] ys = ((λ h. absurd h), (λ h. h))
In-two x (y ∷ xs) ys = ((λ h. elim h [ inl here ↦ inl here | inr there ↦ inr ((In-two x xs ys).0 there) ]), (λ h. inr ((In-two x xs ys).1 h)))

onto-cases : {A : Type 0} (xs acc : List A) (y : A) → In y (onto xs acc) → In y xs ⊎ In y acc
onto-cases [] acc y h = inr h
onto-cases (x ∷ xs) acc y h =
    elim (onto-cases xs (x ∷ acc) y h) [
      | inl there ↦ inl (inr there)
      | inr more ↦ elim more [ inl here ↦ inl (inl here) | inr old ↦ inr old ]
    ]

In-choices : (x : TxId × List Choice) (xs : List (TxId × List Choice)) → In x xs → In x.1 (map (λ (y : TxId × List Choice). y.1) xs)
In-choices x [] h = h
In-choices x (y ∷ ys) h = elim h [ inl here ↦ inl (ap (λ (z : TxId × List Choice). z.1) here) | inr there ↦ inr (In-choices x ys there) ]

choices-In : (cs : List Choice) (xs : List (TxId × List Choice)) → In cs (map (λ (y : TxId × List Choice). y.1) xs) → (t : TxId) × In (t, cs) xs
choices-In cs [] h = absurd h
choices-In cs (y ∷ ys) h =
    elim h [
      | inl here ↦ (y.0, inl (same_pair {A = TxId} {B = List Choice} y (y.0, cs) (refl, here)))
      | inr there ↦ (let k : (t : TxId) × In (t, cs) ys = choices-In cs ys there in (k.0, inr k.1))
    ]

done_listed : (cluster : Cluster) (es : List ledger.Entry) (x : TxId × List Choice) → In x (done cluster es) → In x.1 (ledger.committed_of cluster.quorums es)
done_listed cluster [] x h = absurd h
done_listed cluster (e ∷ es) x h =
    elim (onto-cases (news cluster e es) (done cluster es) x h) [
      | inl now ↦ (In-two x.1 (ledger.committed_of cluster.quorums es) (filter_map ledger.choices_committed (ledger.new_outcomes cluster.quorums e es))).1
          (subst (In x.1) (sym (pairs_choices cluster (ledger.new_outcomes cluster.quorums e es))) (In-choices x (news cluster e es) now))
      | inr before ↦ (In-two x.1 (ledger.committed_of cluster.quorums es) (filter_map ledger.choices_committed (ledger.new_outcomes cluster.quorums e es))).0 (done_listed cluster es x before)
    ]

listed_done : (cluster : Cluster) (es : List ledger.Entry) (cs : List Choice) → In cs (ledger.committed_of cluster.quorums es) → (t : TxId) × In (t, cs) (done cluster es)
listed_done cluster [] cs h = absurd h
listed_done cluster (e ∷ es) cs h =
    elim (In-append cs (ledger.committed_of cluster.quorums es) (filter_map ledger.choices_committed (ledger.new_outcomes cluster.quorums e es)) h) [
      | inl before ↦ (let k : (t : TxId) × In (t, cs) (done cluster es) = listed_done cluster es cs before in (k.0, In-onto (news cluster e es) (done cluster es) (k.0, cs) k.1))
      | inr now ↦ (let k : (t : TxId) × In (t, cs) (news cluster e es) = choices-In cs (news cluster e es) (subst (In cs) (pairs_choices cluster (ledger.new_outcomes cluster.quorums e es)) now) in
          (k.0, onto-In (news cluster e es) (done cluster es) (k.0, cs) k.1))
    ]

pub commits_each : (cluster : Cluster) (es : List ledger.Entry) → IsLedger cluster es → (t : TxId) (cs : List Choice) → IsCommit cluster es t cs → In cs (ledger.committed_of cluster.quorums es)
commits_each cluster es h t cs g =
    done_listed cluster es (t, cs) (order_complete (setup_of cluster) (reduced es) (done cluster es) (ordered cluster es h) t cs
    (decided cluster (setup_fine cluster es h) es (allowed cluster es h) t (Commit cs) g))

pub commits_only : (cluster : Cluster) (es : List ledger.Entry) → IsLedger cluster es → (cs : List Choice) → In cs (ledger.committed_of cluster.quorums es) → (t : TxId) × IsCommit cluster es t cs
commits_only cluster es h cs g =
    let k : (t : TxId) × In (t, cs) (done cluster es) = listed_done cluster es cs g in
    let order = run_order (setup_of cluster) (setup_fine cluster es h) (reduced es) (allowed cluster es h) (done cluster es) (ordered cluster es h) in
    let committed : IsCommitted (setup_of cluster) (reduced es) k.0 cs = order.2 (k.0, cs) k.1 in
    (k.0, outcome_committed cluster (setup_fine cluster es h) es (allowed cluster es h) k.0 cs (begun_some cluster es h.allowed k.0 cs committed.0) committed)
