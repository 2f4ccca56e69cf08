-- A transaction that is begun may begin in the reduced ledger.
use Rattle.std.proofs.Common.{◌≡◌, ℕ, ◌+◌, ◌<◌, ◌≤◌, ◌==◌, true, false, cond, ◌&&◌, List, [], ◌∷◌, length, refl, sym, ap, ◌∙◌, subst, arith, inl, inr, Option, Some, None, Ok, Err, map}
use Rattle.std.proofs.lemmas.Bool.{cases_Bool, false≢true, and_parts, or_cases, eqb-true, eq-eqb, eqb-false}
use Rattle.std.specs.List.{list_any}
use Rattle.std.specs.Option.{option_or, option_map}
use Rattle.std.specs.Prelude.{nat_lt}
use Rattle.mdcc_base.specs.Key.{key_eq}
use Rattle.mdcc_base.specs.declared.identifiers.TxId.{TxId}
use Rattle.mdcc_base.specs.declared.key.Key.{Key}
use Rattle.mdcc_option.specs.Equality.{txs_eq}
use Rattle.mdcc_option.specs.Parts.{is_key_repeated}
use Rattle.mdcc_option.specs.Transaction.{choice_of_part, transaction_of}
use Rattle.mdcc_option.specs.declared.choices.Choice.{Choice}
use Rattle.mdcc_option.specs.declared.cluster.Cluster.{Cluster}
use Rattle.mdcc_option.specs.declared.faults.BeginFault.TheVariants.{Stale, Unseen, NoItem}
use Rattle.mdcc_option.specs.declared.faults.DraftFault.TheVariants.{Empty, TooMany, RepeatedKey}
use Rattle.mdcc_option.specs.declared.items.Item.{Item}
use Rattle.mdcc_option.specs.declared.items.Part.{Part}
use Rattle.mdcc_option.specs.declared.items.Token.{Token}
use Rattle.mdcc_option.specs.declared.items.Update.{Update}
use Rattle.mdcc_option.specs.declared.items.Update.TheVariants.{Write, Add}
use Rattle.mdcc_struct.specs.Maps.{TxMap, txs_of}
use Rattle.mdcc_def_ledger.specs.AllowedLedgers.{IsAllowedBegun, IsAllowed, seqs_begun, part_in}
use Rattle.mdcc_def_protocol.specs.Facts as full
use Rattle.mdcc_def_ledger.specs.Ledger as ledger
use Rattle.mdcc_def_protocol.specs.Manager.{write_fault, add_fault, part_begin_fault, parts_begin_fault, update_begin_fault}
use Rattle.mdcc_def_protocol.specs.Marks.{Amounts}
use Rattle.mdcc_def_messages.specs.declared.facts.Fact.{Fact}
use Rattle.mdcc_theorem_agreement.proofs.Reduction.{reduced, facts_reduced, facts_same}
use Rattle.mdcc_theorem_agreement.proofs.HeldReduced.{AllFine, current_same, executed_listed}
use Rattle.mdcc_theorem_agreement.proofs.ReducedFacts.{current, executed}
use Rattle.mdcc_theorem_agreement.proofs.ReducedLedger.{WasBegun, MayBegin}
use Rattle.mdcc_theorem_agreement.proofs.ReducedOptions.{In, spot, is_add}
use Rattle.mdcc_theorem_agreement.proofs.TestsDecide.{Decides-key, Decides-txs}

-- ---- an identifier is begun once

abbrev own_seq : TxId → ℕ → ℕ → ℕ
own_seq tx a epoch = cond ((tx.centre == a) && (tx.epoch == epoch)) 1 0

pub seq_below : (cluster : Cluster) (es : List ledger.Entry) → IsAllowed cluster es → (t : TxId) (ds : List Choice) → WasBegun (reduced es) t ds → t.seq ≤ seqs_begun es t.centre t.epoch
seq_below cluster [] allowed t ds h = absurd h
seq_below cluster (ledger.Added b f ∷ es) allowed t ds h = seq_below cluster es allowed.0 t ds h
seq_below cluster (ledger.Valued b k v l os ∷ es) allowed t ds h = seq_below cluster es allowed.0 t ds h
seq_below cluster (ledger.Begun b u cs ∷ es) allowed t ds h =
    elim h [
      | inl here ↦
          let may : IsAllowedBegun cluster es b u cs = allowed.1.1 in
          let number : u.seq ≡ seqs_begun es b u.epoch + 1 = may.seq in
          let own : own_seq u u.centre u.epoch ≡ 1 = rw (eq-eqb u.centre u.centre refl, eq-eqb u.epoch u.epoch refl) refl in
          let same : seqs_begun es b u.epoch ≡ seqs_begun es u.centre u.epoch = ap (λ z. seqs_begun es z u.epoch) (sym may.centre) in
          let bound : u.seq ≤ seqs_begun es u.centre u.epoch + own_seq u u.centre u.epoch = omega arith in
          subst (λ (z : TxId). z.seq ≤ seqs_begun es z.centre z.epoch + own_seq u z.centre z.epoch) here.0 bound
      | inr there ↦ omega (arith, seq_below cluster es allowed.0 t ds there)
    ]

-- ---- the choices are made of the parts

made_own : (tx : TxId) (ws : List (Key × ℕ)) (parts : List Part) (c : Choice) →
    In c (map (choice_of_part tx ws) parts) → c.tx ≡ tx
made_own tx ws [] c h = absurd h
made_own tx ws (p ∷ ps) c h = elim h [ inl here ↦ ap (λ (z : Choice). z.tx) (sym here) | inr there ↦ made_own tx ws ps c there ]

pub none_repeated : (ps : List Part) (key : Key) (p : Part) → list_any (λ q. key_eq q.key p.key) ps ≡ false → (q : Part) → In q ps → p.key ≡ q.key → ⊥
none_repeated [] key p h q g same = g
none_repeated (r ∷ ps) key p h q g same =
    elim (cases_Bool (key_eq r.key p.key)) [
      | inl e ↦ (let bad : true ≡ false = rw e at h in false≢true (sym bad))
      | inr e ↦ elim g [
        | inl here ↦ false≢true (sym e ∙ (Decides-key r.key p.key).1 (ap (λ (z : Part). z.key) here ∙ sym same))
        | inr there ↦ none_repeated ps key p (rw e at h) q there same
      ]
    ]

pub In-parts : (c : Choice) (cs : List Choice) → In c cs → In (part_in c) (map part_in cs)
In-parts c [] h = h
In-parts c (d ∷ cs) h = elim h [ inl here ↦ inl (ap part_in here) | inr there ↦ inr (In-parts c cs there) ]

keys_apart : (cs : List Choice) → is_key_repeated (map part_in cs) ≡ false → (c d : Choice) → In c cs → In d cs → c.key ≡ d.key → c ≡ d
keys_apart [] h c d g k same = absurd g
keys_apart (e ∷ cs) h c d g k same =
    elim (cases_Bool (list_any (λ q. key_eq q.key e.key) (map part_in cs))) [
      | inl f ↦ absurd (let bad : true ≡ false = rw f at h in false≢true (sym bad))
      | inr f ↦ elim g [
        | inl here ↦ elim k [
          | inl too ↦ sym here ∙ too
          | inr there ↦ absurd (none_repeated (map part_in cs) e.key (part_in e) f (part_in d) (In-parts d cs there) (ap (λ (z : Choice). z.key) here ∙ same))
        ]
        | inr there ↦ elim k [
          | inl here ↦ absurd (none_repeated (map part_in cs) e.key (part_in e) f (part_in c) (In-parts c cs there) (ap (λ (z : Choice). z.key) here ∙ sym same))
          | inr too ↦ keys_apart cs (rw f at h) c d there too same
        ]
      ]
    ]

pub not_repeated : (cluster : Cluster) (ps qs : List Part) → transaction_of cluster.schema ps ≡ Ok qs → is_key_repeated ps ≡ false
not_repeated cluster ps qs h =
    elim (cases_Bool (is_key_repeated ps)) [
      | inr e ↦ e
      | inl e ↦ absurd (elim (cases_Bool (length ps == 0)) [
        | inl f ↦ (let bad : Err Empty ≡ Ok qs = rw f at h in cc)
        | inr f ↦ elim (cases_Bool (nat_lt 8 (length ps))) [
          | inl g ↦ (let bad : Err TooMany ≡ Ok qs = rw (f, g) at h in cc)
          | inr g ↦ (let bad : Err RepeatedKey ≡ Ok qs = rw (f, g, e) at h in cc)
        ]
      ])
    ]

-- ---- what the parts name is held

pub or_none_left : {X : Type 0} (a b : Option X) → option_or a b ≡ None → (a ≡ None) × (b ≡ None)
or_none_left None b h = (refl, h)
or_none_left (Some x) b h = absurd (cc)

pub map_none : {X Y : Type 0} (f : X → Y) (o : Option X) → option_map f o ≡ None → o ≡ None
map_none f None h = refl
map_none f (Some x) h = absurd (cc)

pub part_clear : (fs : List Fact) (ps : List Part) → parts_begin_fault fs ps ≡ None → (p : Part) → In p ps → part_begin_fault fs p ≡ None
part_clear fs [] h p g = absurd g
part_clear fs (q ∷ ps) h p g =
    let both = or_none_left (option_map (λ fault. (q.key, fault)) (part_begin_fault fs q)) (parts_begin_fault fs ps) h in
    elim g [
      | inl here ↦ ap (part_begin_fault fs) (sym here) ∙ map_none (λ fault. (q.key, fault)) (part_begin_fault fs q) both.0
      | inr there ↦ part_clear fs ps both.1 p there
    ]

pub write_clear : (token : Token) (version : ℕ) (seen : List TxId) → write_fault token version seen ≡ None → (token.version ≡ version) × (token.seen ≡ seen)
write_clear token version seen h =
    elim (cases_Bool ((token.version == version) && txs_eq token.seen seen)) [
      | inl e ↦ (let parts : ((token.version == version) ≡ true) × (txs_eq token.seen seen ≡ true) = and_parts _ _ e in
          (eqb-true token.version version parts.0, (Decides-txs token.seen seen).0 parts.1))
      | inr e ↦ absurd (let bad : Some (Stale token) ≡ None = rw e at h in cc)
    ]

add_clear : (now version : ℕ) → add_fault now version ≡ None → (now ≡ version) × (0 < version)
add_clear now version h =
    elim (cases_Bool (now == version)) [
      | inr e ↦ absurd (let bad : Some (Unseen now) ≡ None = rw e at h in cc)
      | inl e ↦ elim (cases_Bool (now == 0)) [
        | inl f ↦ absurd (let bad : Some NoItem ≡ None = rw (e, f) at h in cc)
        | inr f ↦ (let same : now ≡ version = eqb-true now version e in
            let some : now ≡ 0 → ⊥ = eqb-false now 0 f in (same, above version (λ z. some (same ∙ z))))
      ]
    ]
  where
    above : (n : ℕ) → (n ≡ 0 → ⊥) → 0 < n
    above n h = elim (Rattle.std.proofs.lemmas.Bool.cases_lt 0 n) [ inl some ↦ some | inr none ↦ absurd (h (omega arith)) ]

version_clear : (fs : List Fact) (key : Key) (version : ℕ) (u : Update) → update_begin_fault fs key version u ≡ None → full.current_of fs key ≡ version
version_clear fs key version (Write item seen) h = (write_clear (full.token_of fs key) version seen h).0
version_clear fs key version (Add m) h = (add_clear (full.current_of fs key) version h).0

above_clear : (fs : List Fact) (key : Key) (version : ℕ) (u : Update) → update_begin_fault fs key version u ≡ None → is_add u ≡ true → 0 < version
above_clear fs key version (Write item seen) h add = absurd (cc)
above_clear fs key version (Add m) h add = (add_clear (full.current_of fs key) version h).1

-- the transactions of deltas
In-keys : (m : TxMap Amounts) (u : TxId) → In u (txs_of m) → (a : Amounts) × In (u, a) m
In-keys [] u h = absurd h
In-keys (e ∷ es) u h =
    elim h [
      | inl here ↦ (e.1, inl (Rattle.mdcc_theorem_agreement.proofs.TestsDecide.same_pair {A = TxId} {B = Amounts} e (u, e.1) (here, refl)))
      | inr there ↦ (let k : (a : Amounts) × In (u, a) es = In-keys es u there in (k.0, inr k.1))
    ]

seen_clear : (fs : List Fact) (key : Key) (version : ℕ) (item : Item) (seen : List TxId) → update_begin_fault fs key version (Write item seen) ≡ None →
    (u : TxId) → In u seen → (m : Amounts) × In (u, m) (executed (facts_reduced fs) (record { key = key; version = version }))
seen_clear fs key version item seen h u g =
    let parts : (full.current_of fs key ≡ version) × (txs_of (full.deltas_at fs key (full.current_of fs key)) ≡ seen) = write_clear (full.token_of fs key) version seen h in
    let listed : In u (txs_of (full.deltas_at fs key version)) = subst (λ z. In u (txs_of (full.deltas_at fs key z))) parts.0 (subst (In u) (sym parts.1) g) in
    let from : (a : Amounts) × In (u, a) (full.deltas_at fs key version) = In-keys (full.deltas_at fs key version) u listed in
    (from.0, executed_listed fs (record { key = key; version = version }) (u, from.0) from.1)

pub may_begin : (cluster : Cluster) (es : List ledger.Entry) → IsAllowed cluster es → (a : ℕ) → AllFine (ledger.facts_of es a) → (tx : TxId) (cs : List Choice) →
    IsAllowedBegun cluster es a tx cs → MayBegin (reduced es) a tx cs
may_begin cluster es allowed a fine tx cs h =
    let fs : List Fact = ledger.facts_of es a in
    let clear : (c : Choice) → In c cs → part_begin_fault fs (part_in c) ≡ None = λ c g. part_clear fs (map part_in cs) h.held (part_in c) (In-parts c cs g) in
    record {
      new = λ ds g. (let bound : tx.seq ≤ seqs_begun es tx.centre tx.epoch = seq_below cluster es allowed tx ds g in
          let number : tx.seq ≡ seqs_begun es a tx.epoch + 1 = h.seq in
          let same : seqs_begun es tx.centre tx.epoch ≡ seqs_begun es a tx.epoch = ap (λ z. seqs_begun es z tx.epoch) h.centre in omega arith);
      own = λ c g. made_own tx (map (λ part. (part.key, part.version)) (map part_in cs)) (map part_in cs) c (subst (In c) h.made g);
      apart = λ c d g k same. keys_apart cs (not_repeated cluster (map part_in cs) (map part_in cs) h.draft) c d g k same;
      held = λ c g. ap (λ z. current z c.key) (facts_same a es) ∙ current_same fs c.key fine ∙ version_clear fs c.key c.version c.update (clear c g);
      above = λ c g add. above_clear fs c.key c.version c.update (clear c g) add;
      seen = λ c s b g is u listed.
          let write : update_begin_fault fs c.key c.version (Write b s) ≡ None = subst (λ z. update_begin_fault fs c.key c.version z ≡ None) is (clear c g) in
          let there : (m : Amounts) × In (u, m) (executed (facts_reduced fs) (spot c)) = seen_clear fs c.key c.version b s write u listed in
          (there.0, subst (λ z. In (u, there.0) (executed z (spot c))) (sym (facts_same a es)) there.1);
    }
