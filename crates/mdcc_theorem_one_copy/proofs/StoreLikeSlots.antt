-- What the one-copy store has of a key, and what a run leaves of it.
use Rattle.std.proofs.Common.{◌≡◌, ℕ, suc, ◌+◌, ◌-◌, ◌<◌, ◌≤◌, ◌==◌, true, ◌&&◌, List, [], ◌∷◌, length, get_or, refl, sym, ap, ◌∙◌, subst, arith, inl, inr, ◌⊎◌, Option, Some, None, pos, ◌≤ℤ◌, ◌-ℤ◌}
use Rattle.std.proofs.lemmas.Bool.{cases_Bool, and_from, le-leb, eqb-true, eq-eqb}
use Rattle.std.proofs.lemmas.Int.{ints}
use Rattle.mdcc_base.specs.TxId.{tx_lt}
use Rattle.mdcc_base.specs.declared.identifiers.TxId.{TxId}
use Rattle.mdcc_option.specs.Bounds.{are_within}
use Rattle.mdcc_option.specs.Equality.{txs_eq}
use Rattle.mdcc_option.specs.Held.{Held}
use Rattle.mdcc_option.specs.OneCopy as copy
use Rattle.mdcc_option.specs.OneCopy.{OneCopyStore, amount_at, next_version, seen_of, with_delta}
use Rattle.mdcc_option.specs.Transaction.{update_fault}
use Rattle.mdcc_option.specs.declared.choices.Choice.{Choice}
use Rattle.mdcc_option.specs.declared.cluster.Cluster.{Cluster}
use Rattle.mdcc_option.specs.declared.faults.DraftFault.TheVariants.{BadAttribute, OutOfBounds}
use Rattle.mdcc_option.specs.declared.items.Delta.{Delta}
use Rattle.mdcc_option.specs.declared.items.Item.{Item}
use Rattle.mdcc_option.specs.declared.items.Update.{Update}
use Rattle.mdcc_option.specs.declared.items.Update.TheVariants.{Write, Add}
use Rattle.mdcc_option.specs.declared.schema.Schema.{Schema}
use Rattle.mdcc_def_protocol.specs.Fit.{above_zero, decrease, increase, amounts_in}
use Rattle.mdcc_def_protocol.specs.Marks.{Amounts}
use Rattle.mdcc_struct.proofs.Reports.{cases_Option}
use Rattle.mdcc_theorem_agreement.proofs.ChoicesGive.{last_version}
use Rattle.mdcc_theorem_agreement.proofs.Reduction.{setup_of}
use Rattle.mdcc_theorem_agreement.proofs.ReducedLedger.{one_add, taken, given, room_below, room_above}
use Rattle.mdcc_theorem_agreement.proofs.ReducedOptions.{In, is_add}
use Rattle.mdcc_theorem_agreement.proofs.TestsDecide.{Decides-txs}
use Rattle.mdcc_theorem_agreement.proofs.Totals.{total}
use Rattle.mdcc_theorem_one_copy.proofs.ValuesBounded.{down_sum, up_sum, Within, within_bounds, all_within, bounds_at, room_down, room_up}
use Rattle.mdcc_theorem_one_copy.proofs.Slots.{Slot, updated, suits, Suits}
use Rattle.mdcc_theorem_one_copy.proofs.Sorted.{Ascending, ascending_same, ascending_with_delta}

-- what the store has of a key is what the run left
pub record LikeHeld (schema : Schema) (h : Held) (sl : Slot) : Type 0 where
  pub version : h.version ≡ sl.version
  pub item : sl.item ≡ Some h.base
  pub values : length h.base.values ≡ length schema
  pub good : are_within schema h.base.values ≡ true
  pub ascending : Ascending (seen_of h.deltas)
  pub from : (t : TxId) → In t (seen_of h.deltas) → (d : Choice) × In d sl.deltas × (d.tx ≡ t)
  pub to : (d : Choice) → In d sl.deltas → In d.tx (seen_of h.deltas)
  pub sums : (g : Amounts → ℕ) → total (λ (e : Delta). g e.amounts) h.deltas ≡ total (λ (d : Choice). g (amounts_in d.update)) sl.deltas
  pub adds : (d : Choice) → In d sl.deltas → is_add d.update ≡ true

abbrev pub LikeSlot : Schema → Option Held → Slot → Type 0
LikeSlot schema None sl = (sl.version ≡ 0) × (sl.item ≡ None) × (sl.deltas ≡ [])
LikeSlot schema (Some h) sl = LikeHeld schema h sl

-- a choice by which the store may be changed
pub record IsValid (schema : Schema) (c : Choice) : Type 0 where
  pub fault : update_fault schema c.update ≡ None
  pub low : suc c.version ≤ last_version
  pub seen : (b : Item) (s : List TxId) → c.update ≡ Write b s → Ascending s

next_suc : (v : ℕ) → suc v ≤ last_version → next_version v ≡ suc v
next_suc v h = omega arith

-- ---- a Write

write_valid : (schema : Schema) (b : Item) (s : List TxId) → update_fault schema (Write b s) ≡ None → (length b.values ≡ length schema) × (are_within schema b.values ≡ true)
write_valid schema b s h =
    elim (cases_Bool (length b.values == length schema)) [
      | inr e ↦ absurd (let bad : Some BadAttribute ≡ None = rw e at h in cc)
      | inl e ↦ elim (cases_Bool (are_within schema b.values)) [
        | inl f ↦ (eqb-true _ _ e, f)
        | inr f ↦ absurd (let bad : Some OutOfBounds ≡ None = rw (e, f) at h in cc)
      ]
    ]

abbrev fresh : ℕ → Item → Held
fresh version b = record { version = version; base = b; deltas = [] }

fresh_within : (schema : Schema) (b : Item) → are_within schema b.values ≡ true → Within schema b.values [] 0
fresh_within schema b good =
    all_within schema b.values [] 0 (λ j low high.
    let both : ((get_or schema j (pos 0, pos 0)).0 ≤ℤ get_or b.values j (pos 0)) × (get_or b.values j (pos 0) ≤ℤ (get_or schema j (pos 0, pos 0)).1) = bounds_at schema b.values good j low high in
    (omega (arith, ints, both.0), omega (arith, ints, both.1)))

fresh_bounded : (schema : Schema) (version : ℕ) (b : Item) → are_within schema b.values ≡ true → copy.is_in_bounds schema (fresh version b) ≡ true
fresh_bounded schema version b good = and_from _ _ (within_bounds schema b.values [] 0 (fresh_within schema b good)) refl

version_like : (schema : Schema) (o : Option Held) (sl : Slot) → LikeSlot schema o sl → copy.version_held o ≡ sl.version
version_like schema None sl h = sym h.0
version_like schema (Some x) sl h = h.version

empty_seen : (s : List TxId) → ((t : TxId) → In t s → ⊥) → [] ≡ s
empty_seen [] h = refl
empty_seen (t ∷ ts) h = absurd (h t (inl refl))

deltas_like : (schema : Schema) (o : Option Held) (sl : Slot) (s : List TxId) → LikeSlot schema o sl → Ascending s →
    ((d : Choice) → In d sl.deltas → In d.tx s) → ((u : TxId) → In u s → (d : Choice) × In d sl.deltas × (d.tx ≡ u)) → seen_of (copy.deltas_in o) ≡ s
deltas_like schema None sl s h sorted to from =
    empty_seen s (λ t g. let d : (e : Choice) × In e sl.deltas × (e.tx ≡ t) = from t g in let none' : In d.0 [] = subst (In d.0) h.2 d.1 in none')
deltas_like schema (Some x) sl s h sorted to from =
    ascending_same (seen_of x.deltas) s h.ascending sorted
    (λ t g. let d : (e : Choice) × In e sl.deltas × (e.tx ≡ t) = h.from t g in subst (λ z. In z s) d.2 (to d.0 d.1))
    (λ t g. let d : (e : Choice) × In e sl.deltas × (e.tx ≡ t) = from t g in subst (λ z. In z (seen_of x.deltas)) d.2 (h.to d.0 d.1))

-- what a choice makes of its key
abbrev pub Made : Schema → OneCopyStore → Choice → Slot → Type 0
Made schema store c sl = (h : Held) × (copy.held_after schema store c ≡ Some h) × LikeHeld schema h (updated sl c c.update)

bounded_some : (schema : Schema) (o : Option Held) (h : Held) → o ≡ Some h → copy.is_in_bounds schema h ≡ true → copy.if_in_bounds schema o ≡ Some h
bounded_some schema o h is good = rw is (rw good refl)

pub made_write : (cluster : Cluster) (store : OneCopyStore) (c : Choice) (sl : Slot) (b : Item) (s : List TxId) → IsValid cluster.schema c → c.update ≡ Write b s →
    LikeSlot cluster.schema (store c.key) sl → Suits (setup_of cluster) sl c → Made cluster.schema store c sl
made_write cluster store c sl b s valid is like suit =
    let fault : update_fault cluster.schema (Write b s) ≡ None = subst (λ u. update_fault cluster.schema u ≡ None) is valid.fault in
    let parts : (length b.values ≡ length cluster.schema) × (are_within cluster.schema b.values ≡ true) = write_valid cluster.schema b s fault in
    let fits : suits (setup_of cluster) sl c (Write b s) = subst (suits (setup_of cluster) sl c) is suit.1 in
    let version : copy.version_held (store c.key) ≡ c.version = version_like cluster.schema (store c.key) sl like ∙ suit.0 in
    let keys : seen_of (copy.deltas_in (store c.key)) ≡ s = deltas_like cluster.schema (store c.key) sl s like (valid.seen b s is) fits.0 fits.1 in
    let test : ((copy.version_held (store c.key) == c.version) && txs_eq (seen_of (copy.deltas_in (store c.key))) s) ≡ true =
    and_from _ _ (eq-eqb _ _ version) ((Decides-txs _ _).1 keys) in
    let written : copy.written c.version b s (store c.key) ≡ Some (fresh (next_version c.version) b) = rw test refl in
    let held : copy.updated c.tx c.version c.update (store c.key) ≡ Some (fresh (next_version c.version) b) = ap (λ u. copy.updated c.tx c.version u (store c.key)) is ∙ written in
    let like_after : LikeHeld cluster.schema (fresh (next_version c.version) b) (updated sl c (Write b s)) = record {
      version = next_suc c.version valid.low ∙ ap suc (sym suit.0);
      item = refl;
      values = parts.0;
      good = parts.1;
      ascending = tt;
      from = λ t g. absurd g;
      to = λ d g. absurd g;
      sums = λ g. refl;
      adds = λ d g. absurd g;
    } in (
      fresh (next_version c.version) b,
      bounded_some cluster.schema (copy.updated c.tx c.version c.update (store c.key)) (fresh (next_version c.version) b) held (fresh_bounded cluster.schema (next_version c.version) b parts.1),
      subst (λ u. LikeHeld cluster.schema (fresh (next_version c.version) b) (updated sl c u)) (sym is) like_after,
    )

-- ---- an Add

total_more : (g : Delta → ℕ) (ds : List Delta) (e : Delta) → total g (with_delta ds e) ≡ g e + total g ds
total_more g [] e = refl
total_more g (x ∷ xs) e =
    elim (cases_Bool (tx_lt e.tx x.tx)) [
      | inl less ↦ rw less refl
      | inr over ↦ rw over (omega (arith, total_more g xs e))
    ]

seen_cases : (ds : List Delta) (e : Delta) (t : TxId) → In t (seen_of (with_delta ds e)) → (e.tx ≡ t) ⊎ In t (seen_of ds)
seen_cases [] e t h = elim h [ inl here ↦ inl here | inr none ↦ absurd none ]
seen_cases (x ∷ xs) e t h =
    elim (cases_Bool (tx_lt e.tx x.tx)) [
      | inl less ↦ (let listed : (e.tx ≡ t) ⊎ ((x.tx ≡ t) ⊎ In t (seen_of xs)) = rw less at h in listed)
      | inr over ↦ (let listed : (x.tx ≡ t) ⊎ In t (seen_of (with_delta xs e)) = rw over at h in
          elim listed [
            | inl here ↦ inr (inl here)
            | inr there ↦ elim (seen_cases xs e t there) [ inl new ↦ inl new | inr old ↦ inr (inr old) ]
          ])
    ]

seen_more : (ds : List Delta) (e : Delta) → In e.tx (seen_of (with_delta ds e)) × ((t : TxId) → In t (seen_of ds) → In t (seen_of (with_delta ds e)))
seen_more [] e = (inl refl, (λ t h. absurd h))
seen_more (x ∷ xs) e =
    elim (cases_Bool (tx_lt e.tx x.tx)) [
      | inl less ↦ rw less (inl refl, (λ t h. inr h))
      | inr over ↦ rw over (inr (seen_more xs e).0, (λ t h. elim h [ inl here ↦ inl here | inr there ↦ inr ((seen_more xs e).1 t there) ]))
    ]

one_for_add : (u : Update) → is_add u ≡ true → one_add u ≡ 1
one_for_add (Write b s) g = absurd (cc)
one_for_add (Add m) g = refl

total_ones : (ds : List Choice) → ((d : Choice) → In d ds → is_add d.update ≡ true) → total (λ (d : Choice). one_add d.update) ds ≡ total (λ (d : Choice). 1) ds
total_ones [] h = refl
total_ones (d ∷ ds) h = omega (arith, total_ones ds (λ e g. h e (inr g)), one_for_add d.update (h d (inl refl)))

length_total : (ds : List Delta) → length ds ≡ total (λ (e : Delta). 1) ds
length_total [] = refl
length_total (e ∷ es) = omega (arith, length_total es)

module _ (cluster : Cluster) (c : Choice) (sl : Slot) (m : Amounts) (h : Held) (is : c.update ≡ Add m) (like : LikeHeld cluster.schema h sl) (suit : suits (setup_of cluster) sl c (Add m))
    (new : (d : Choice) → In d sl.deltas → d.tx ≡ c.tx → ⊥) where
  abbrev delta : Delta
  delta = record { tx = c.tx; amounts = m }

  abbrev more : List Delta
  more = with_delta h.deltas delta

  abbrev after : Held
  after = record { version = h.version; base = h.base; deltas = more }

  none_there : In c.tx (seen_of h.deltas) → ⊥
  none_there g = let d : (e : Choice) × In e sl.deltas × (e.tx ≡ c.tx) = like.from c.tx g in new d.0 d.1 d.2

  sum_more : (g : Amounts → ℕ) → total (λ (e : Delta). g e.amounts) more ≡ g (amounts_in c.update) + total (λ (d : Choice). g (amounts_in d.update)) sl.deltas
  sum_more g =
      let one : g (amounts_in c.update) ≡ g m = ap (λ u. g (amounts_in u)) is in
      omega (arith, total_more (λ (e : Delta). g e.amounts) h.deltas delta, like.sums g)

  down_more : (n : ℕ) → 0 < n → n ≤ length cluster.schema → down_sum more n ≤ room_below cluster.schema n (Some h.base)
  down_more n low high =
      let bound : total (λ (d : Choice). taken n d.update) sl.deltas + taken n c.update ≤ room_below cluster.schema n sl.item =
      suit.1 (record { amount = taken n; room = room_below cluster.schema n }) (inr (n, low, high, inl refl)) in
      let room : room_below cluster.schema n sl.item ≡ room_below cluster.schema n (Some h.base) = ap (room_below cluster.schema n) like.item in
      omega (arith, sum_more (λ a. decrease (amount_at n a)))

  up_more : (n : ℕ) → 0 < n → n ≤ length cluster.schema → up_sum more n ≤ room_above cluster.schema n (Some h.base)
  up_more n low high =
      let bound : total (λ (d : Choice). given n d.update) sl.deltas + given n c.update ≤ room_above cluster.schema n sl.item =
      suit.1 (record { amount = given n; room = room_above cluster.schema n }) (inr (n, low, high, inr refl)) in
      let room : room_above cluster.schema n sl.item ≡ room_above cluster.schema n (Some h.base) = ap (room_above cluster.schema n) like.item in
      omega (arith, sum_more (λ a. increase (amount_at n a)))

  more_within : Within cluster.schema h.base.values more 0
  more_within =
      all_within cluster.schema h.base.values more 0 (λ j low high.
      let n : ℕ = (0 + j) + 1 in
      let back : ((0 + j) + 1) - 1 ≡ j = omega arith in
      let both : ((get_or cluster.schema j (pos 0, pos 0)).0 ≤ℤ get_or h.base.values j (pos 0)) × (get_or h.base.values j (pos 0) ≤ℤ (get_or cluster.schema j (pos 0, pos 0)).1) =
      bounds_at cluster.schema h.base.values like.good j low high in
      let down : down_sum more ((0 + j) + 1) ≤ room_below cluster.schema ((0 + j) + 1) (Some h.base) = down_more ((0 + j) + 1) (omega arith) (omega arith) in
      let up : up_sum more ((0 + j) + 1) ≤ room_above cluster.schema ((0 + j) + 1) (Some h.base) = up_more ((0 + j) + 1) (omega arith) (omega arith) in (
        room_down (get_or cluster.schema j (pos 0, pos 0)).0 (get_or h.base.values j (pos 0)) (down_sum more ((0 + j) + 1)) both.0
            (subst (λ k. down_sum more ((0 + j) + 1) ≤ above_zero (get_or h.base.values k (pos 0) -ℤ (get_or cluster.schema k (pos 0, pos 0)).0)) back down),
        room_up (get_or cluster.schema j (pos 0, pos 0)).1 (get_or h.base.values j (pos 0)) (up_sum more ((0 + j) + 1)) both.1
            (subst (λ k. up_sum more ((0 + j) + 1) ≤ above_zero ((get_or cluster.schema k (pos 0, pos 0)).1 -ℤ get_or h.base.values k (pos 0))) back up),
      ))

  more_few : length more ≤ 64
  more_few =
      let bound : total (λ (d : Choice). one_add d.update) sl.deltas + one_add c.update ≤ 64 =
      suit.1 (record { amount = one_add; room = λ b. 64 }) (inl refl) in
      let one : one_add c.update ≡ 1 = ap one_add is in
      omega (arith, length_total more, sum_more (λ a. 1), total_ones sl.deltas like.adds)

  after_bounded : copy.is_in_bounds cluster.schema after ≡ true
  after_bounded = and_from _ _ (within_bounds cluster.schema h.base.values more 0 more_within) (le-leb _ _ more_few)

  after_like : LikeHeld cluster.schema after (updated sl c (Add m))
  after_like = record {
    version = like.version;
    item = like.item;
    values = like.values;
    good = like.good;
    ascending = ascending_with_delta h.deltas delta none_there like.ascending;
    from = λ t g. elim (seen_cases h.deltas delta t g) [
      | inl here ↦ (c, inl refl, here)
      | inr there ↦ (let d : (e : Choice) × In e sl.deltas × (e.tx ≡ t) = like.from t there in (d.0, inr d.1, d.2))
    ];
    to = λ d g. elim g [
      | inl here ↦ subst (λ (z : Choice). In z.tx (seen_of more)) here (seen_more h.deltas delta).0
      | inr there ↦ (seen_more h.deltas delta).1 d.tx (like.to d there)
    ];
    sums = λ g. sum_more g;
    adds = λ d g. elim g [ inl here ↦ subst (λ (z : Choice). is_add z.update ≡ true) here (ap is_add is) | inr there ↦ like.adds d there ];
  }

pub made_add : (cluster : Cluster) (store : OneCopyStore) (c : Choice) (sl : Slot) (m : Amounts) → c.update ≡ Add m →
    LikeSlot cluster.schema (store c.key) sl → Suits (setup_of cluster) sl c → ((d : Choice) → In d sl.deltas → d.tx ≡ c.tx → ⊥) → Made cluster.schema store c sl
made_add cluster store c sl m is like suit new =
    let fits : suits (setup_of cluster) sl c (Add m) = subst (suits (setup_of cluster) sl c) is suit.1 in
    elim (cases_Option (store c.key)) [
      | inl none ↦ absurd (let l : LikeSlot cluster.schema None sl = rw none at like in let bad : Some fits.0.0 ≡ None = sym fits.0.1 ∙ l.1 in cc)
      | inr some ↦
          let l : LikeHeld cluster.schema some.0 sl = rw some.1 at like in
          let test : (some.0.version == c.version) ≡ true = eq-eqb _ _ (l.version ∙ suit.0) in
          let added : copy.added c.version (record { tx = c.tx; amounts = m }) (Some some.0) ≡ Some (after cluster c sl m some.0 is l fits new) = rw test refl in
          let held : copy.updated c.tx c.version c.update (store c.key) ≡ Some (after cluster c sl m some.0 is l fits new) =
          ap (λ u. copy.updated c.tx c.version u (store c.key)) is ∙ ap (copy.added c.version (record { tx = c.tx; amounts = m })) some.1 ∙ added in (
            after cluster c sl m some.0 is l fits new,
            bounded_some cluster.schema (copy.updated c.tx c.version c.update (store c.key)) (after cluster c sl m some.0 is l fits new) held (after_bounded cluster c sl m some.0 is l fits new),
            subst (λ u. LikeHeld cluster.schema (after cluster c sl m some.0 is l fits new) (updated sl c u)) (sym is) (after_like cluster c sl m some.0 is l fits new),
          )
    ]
