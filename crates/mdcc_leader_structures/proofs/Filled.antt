-- Claims as they lie in memory.
use Rattle.std.proofs.Common.{◌≡◌, ℕ, zero, suc, ◌+◌, ◌-◌, ◌<◌, ◌≤◌, true, false, List, [], ◌∷◌, ◌++◌, Option, Some, None, refl, sym, ap, ◌∙◌, arith, inl, inr, length, take, drop, get_or, length-append, one-add, subst}
use Rattle.std.specs.Prelude.{All, if◌then◌else◌, insert, is_some, nat_lt, slice_get}
use Rattle.std.specs.Option.{option_and_then, option_map, option_or}
use Rattle.std.specs.List.{prefix_len}
use Rattle.std.specs.List.Sorted.{IsPartitionedBy, IsPartitionPoint}
use Rattle.std.proofs.Math.Dec.{eqb-suc-zero}
use Rattle.std.proofs.Math.ListN.{set}
use Rattle.std.proofs.Math.Seq.{get_or-append_seam}
use Rattle.std.proofs.lemmas.Bool.{cases_Bool}
use Rattle.std.proofs.lemmas.Bool.Decides.{nat_tests}
use Rattle.std.proofs.lemmas.List.{drop-map, length-map, map-append, map-set, take-map}
use Rattle.std.proofs.lemmas.List.Elements.{All-append, All-cons, All-drop, All-head, All-set, All-tail, All-take, All-weaker}
use Rattle.std.proofs.lemmas.List.Sums.{prefix_len_is, prefix_len_passes}
use Rattle.std.proofs.lemmas.Option.{slice_get-get_or, slice_get-map, slice_get_read}
use Rattle.mdcc_base.specs.TxId.{tx_eq, tx_lt}
use Rattle.mdcc_base.specs.declared.identifiers.TxId.{TxId}
use Rattle.mdcc_option.specs.declared.choices.Choice.{Choice}
use Rattle.mdcc_struct.specs.Maps.{TxMap, are_ascending, inserted, value_of}
use Rattle.mdcc_struct.specs.Places.{place_of}
use Rattle.mdcc_struct.proofs.Order.{tx_eq-lt, tx_eq-same, tx_lt-other}
use Rattle.mdcc_struct.proofs.Ordered.{IsBelow, IsBelow-trans, ascending-below, ascending-cons, ascending-tail, inserted-place, place_of-above, place_of-within, value_if, value_of-away, value_of-below, value_of-here, value_of-past, value_of-place}
use Rattle.mdcc_def_protocol.specs.Structures.{with_choice}
use Rattle.mdcc_leader_structures.specs.Fields.{AreClaimEntries, choice_in, choices_kept, claims_in, filled, filled_place, kept_choice_place}
use Rattle.mdcc_leader_structures.specs.declared.claims.Entry.{Entry}

-- ---- the place of a transaction

prefix_len-entries : (choices : List Choice) (entries : List Entry) (tx : TxId)
    → prefix_len (λ e. tx_lt e.tx tx) entries ≡ place_of (claims_in choices entries) tx
prefix_len-entries choices [] tx = refl
prefix_len-entries choices (e ∷ es) tx = rw (prefix_len-entries choices es tx) refl

no_entry : Entry
no_entry = record { tx = record { centre = 0; epoch = 0; seq = 0 }; place = 0 }

pub partitioned-entries : (choices : List Choice) (entries : List Entry) (tx : TxId) → are_ascending (claims_in choices entries) ≡ true
    → IsPartitionedBy (λ (e : Entry). tx_lt e.tx tx) entries
partitioned-entries choices entries tx h i j d up within below =
    let at : slice_get (claims_in choices entries) j ≡ Some ((get_or entries j d).tx, choice_in choices (get_or entries j d).place) =
    slice_get-map _ entries j ∙ rw (slice_get-get_or entries j d within) refl in
    let above : j < place_of (claims_in choices entries) tx = place_of-above (claims_in choices entries) tx j _ h at below in
    prefix_len_passes (λ (e : Entry). tx_lt e.tx tx) entries i d (omega (arith, prefix_len-entries choices entries tx))

pub place_of-point : (choices : List Choice) (entries : List Entry) (tx : TxId) (k : ℕ) → k ≤ length entries
    → IsPartitionPoint (λ (e : Entry). tx_lt e.tx tx ≡ true) (λ (e : Entry). tx_lt e.tx tx ≡ false) entries k
    → k ≡ place_of (claims_in choices entries) tx
place_of-point choices entries tx k within point =
    sym (prefix_len_is (λ (e : Entry). tx_lt e.tx tx) entries k no_entry within (λ i l. point.0 i no_entry (omega arith) l) (λ l. point.1 k no_entry (omega arith) l))
    ∙ prefix_len-entries choices entries tx

-- ---- one more choice

slice_get_left : {X : Type 0} (xs ys : List X) (i : ℕ) → i < length xs → slice_get (xs ++ ys) i ≡ slice_get xs i
slice_get_left [] ys i h = absurd (omega arith)
slice_get_left (x ∷ xs) ys zero h = refl
slice_get_left (x ∷ xs) ys (suc i) h = slice_get_left xs ys i (omega arith)

some_within : {X : Type 0} (xs : List X) (i : ℕ) → i < length xs → is_some (slice_get xs i) ≡ true
some_within [] i h = absurd (omega arith)
some_within (x ∷ xs) zero h = refl
some_within (x ∷ xs) (suc i) h = some_within xs i (omega arith)

slice_get_seam : {X : Type 0} (xs : List X) (y : X) → slice_get (xs ++ y ∷ []) (length xs) ≡ Some y
slice_get_seam xs y = slice_get-get_or (xs ++ y ∷ []) (length xs) y (omega (arith, length-append xs (y ∷ []))) ∙ ap Some (get_or-append_seam xs y [] y)

choice_in-suc : (choices : List Choice) (place : ℕ) → choice_in choices (suc place) ≡ slice_get choices place
choice_in-suc choices place =
    let e : suc place - 1 ≡ place = omega arith in
    ap (λ b. if b then None else slice_get choices (suc place - 1)) (eqb-suc-zero place) ∙ ap (slice_get choices) e

choice_in-kept : (choices : List Choice) (choice : Option Choice) (place : ℕ) → place ≤ length choices → choice_in (choices_kept choices choice) place ≡ choice_in choices place
choice_in-kept choices None place h = refl
choice_in-kept choices (Some choice) zero h = refl
choice_in-kept choices (Some choice) (suc place) h =
    choice_in-suc (choices ++ choice ∷ []) place ∙ slice_get_left choices (choice ∷ []) place (omega arith) ∙ sym (choice_in-suc choices place)

choice_in-kept_place : (choices : List Choice) (choice : Option Choice) → choice_in (choices_kept choices choice) (kept_choice_place choices choice) ≡ choice
choice_in-kept_place choices (Some choice) =
    let e : length choices + 1 ≡ suc (length choices) = omega arith in
    ap (choice_in (choices ++ choice ∷ [])) e ∙ choice_in-suc (choices ++ choice ∷ []) (length choices) ∙ slice_get_seam choices choice
choice_in-kept_place choices None = refl

length-kept : (choices : List Choice) (choice : Option Choice) → length choices ≤ length (choices_kept choices choice)
length-kept choices (Some choice) = omega (arith, length-append choices (choice ∷ []))
length-kept choices None = omega arith

kept_place-within : (choices : List Choice) (choice : Option Choice) → kept_choice_place choices choice ≤ length (choices_kept choices choice)
kept_place-within choices (Some choice) = omega (arith, length-append choices (choice ∷ []))
kept_place-within choices None = omega arith

claims_in-kept : (choices : List Choice) (choice : Option Choice) (entries : List Entry) → All (λ e. e.place ≤ length choices) entries
    → claims_in (choices_kept choices choice) entries ≡ claims_in choices entries
claims_in-kept choices choice [] h = refl
claims_in-kept choices choice (e ∷ es) h =
    let here : e.place ≤ length choices = All-head (λ (e : Entry). e.place ≤ length choices) e es h in
    rw (choice_in-kept choices choice e.place here, claims_in-kept choices choice es (All-tail (λ (e : Entry). e.place ≤ length choices) e es h)) refl

-- ---- claims by place

IsBelow-with_choice : (t : TxId) (m : TxMap (Option Choice)) (e : TxId × Option Choice) → tx_lt t e.0 ≡ true → IsBelow t m → IsBelow t (with_choice m e)
IsBelow-with_choice t [] e h k = (h, tt)
IsBelow-with_choice t (x ∷ xs) e h k =
    elim (cases_Bool (tx_lt x.0 e.0)) [
      | inl less ↦ rw less (k.0, IsBelow-with_choice t xs e h k.1)
      | inr over ↦ elim (cases_Bool (tx_eq x.0 e.0)) [
        | inl same ↦ rw (over, same) k
        | inr other ↦ rw (over, other) (h, k)
      ]
    ]

pub ascending-with_choice : (m : TxMap (Option Choice)) (e : TxId × Option Choice) → are_ascending m ≡ true → are_ascending (with_choice m e) ≡ true
ascending-with_choice [] e up = refl
ascending-with_choice (x ∷ xs) e up =
    let below = ascending-below x xs up in
    let rest = ascending-tail x xs up in
    elim (cases_Bool (tx_lt x.0 e.0)) [
      | inl less ↦ rw less (ascending-cons x (with_choice xs e) (IsBelow-with_choice x.0 xs e less below) (ascending-with_choice xs e rest))
      | inr over ↦ elim (cases_Bool (tx_eq x.0 e.0)) [
        | inl same ↦ rw (over, same) (ascending-cons (x.0, option_or x.1 e.1) xs below rest)
        | inr other ↦
            let more : tx_lt e.0 x.0 ≡ true = tx_lt-other x.0 e.0 over other in
            rw (over, other) (ascending-cons e (x ∷ xs) (more, IsBelow-trans e.0 x.0 xs more below) up)
      ]
    ]

-- a claim of a transaction that has none is put in at its place
with_choice-new : (m : TxMap (Option Choice)) (e : TxId × Option Choice) → value_of m e.0 ≡ None → with_choice m e ≡ inserted m e
with_choice-new [] e none = refl
with_choice-new (x ∷ xs) e none =
    elim (cases_Bool (tx_eq x.0 e.0)) [
      | inl same ↦ absurd (let bad : Some x.1 ≡ None = rw same at none in cc)
      | inr other ↦
          let rest : value_of xs e.0 ≡ None = rw other at none in
          elim (cases_Bool (tx_lt x.0 e.0)) [
            | inl less ↦ rw less (ap (λ ys. x ∷ ys) (with_choice-new xs e rest))
            | inr over ↦ rw (over, other) refl
          ]
    ]

-- that of one that has one stands in its place
with_choice-there : (m : TxMap (Option Choice)) (e : TxId × Option Choice) (was : Option Choice) → are_ascending m ≡ true → value_of m e.0 ≡ Some was
    → with_choice m e ≡ set m (place_of m e.0) (e.0, option_or was e.1)
with_choice-there [] e was up found = absurd (cc)
with_choice-there (x ∷ xs) e was up found =
    elim (cases_Bool (tx_eq x.0 e.0)) [
      | inl same ↦
          let is : x.0 ≡ e.0 = tx_eq-same x.0 e.0 same in
          let here : Some x.1 ≡ Some was = rw same at found in
          let value : x.1 ≡ was = cc in
          rw (tx_eq-lt x.0 e.0 same, same) (ap (λ z. z ∷ xs) (λ i. (is i, option_or (value i) e.1)))
      | inr other ↦
          let rest : value_of xs e.0 ≡ Some was = rw other at found in
          elim (cases_Bool (tx_lt x.0 e.0)) [
            | inl less ↦ rw (less, one-add) (ap (λ ys. x ∷ ys) (with_choice-there xs e was (ascending-tail x xs up) rest))
            | inr over ↦
                let more : tx_lt e.0 x.0 ≡ true = tx_lt-other x.0 e.0 over other in
                let none : value_of xs e.0 ≡ None = value_of-below e.0 xs (IsBelow-trans e.0 x.0 xs more (ascending-below x xs up)) in
                absurd (let bad : None ≡ Some was = sym none ∙ rest in cc)
          ]
    ]

-- ---- one more claim

abbrev pub kept_entry : List Choice → TxId → Option Choice → Entry
kept_entry choices tx choice = record { tx = tx; place = kept_choice_place choices choice }

claims_in-insert : (choices : List Choice) (entries : List Entry) (k : ℕ) (tx : TxId) (choice : Option Choice) → All (λ e. e.place ≤ length choices) entries
    → claims_in (choices_kept choices choice) (insert entries k (kept_entry choices tx choice)) ≡ insert (claims_in choices entries) k (tx, choice)
claims_in-insert choices entries k tx choice h =
    let f : Entry → TxId × Option Choice = λ e. (e.tx, choice_in (choices_kept choices choice) e.place) in
    map-append f (take k entries) (kept_entry choices tx choice ∷ drop k entries)
    ∙ rw (choice_in-kept_place choices choice, ← take-map f k entries, ← drop-map f k entries, claims_in-kept choices choice entries h) refl

within-kept : (choices : List Choice) (choice : Option Choice) (entries : List Entry) → All (λ e. e.place ≤ length choices) entries → All (λ e. e.place ≤ length (choices_kept choices choice)) entries
within-kept choices choice entries h = All-weaker (λ (e : Entry). e.place ≤ length choices) (λ (e : Entry). e.place ≤ length (choices_kept choices choice)) (λ e k. omega (arith, length-kept choices choice)) entries h

pub claims_in-inserted : (choices : List Choice) (entries : List Entry) (tx : TxId) (choice : Option Choice) → AreClaimEntries choices entries
    → value_of (claims_in choices entries) tx ≡ None
    → claims_in (choices_kept choices choice) (insert entries (place_of (claims_in choices entries) tx) (kept_entry choices tx choice)) ≡ with_choice (claims_in choices entries) (tx, choice)
claims_in-inserted choices entries tx choice h none =
    claims_in-insert choices entries _ tx choice h.within ∙ sym (inserted-place (claims_in choices entries) (tx, choice))
    ∙ sym (with_choice-new (claims_in choices entries) (tx, choice) none)

pub AreEntries-inserted : (choices : List Choice) (entries : List Entry) (tx : TxId) (choice : Option Choice) → AreClaimEntries choices entries
    → value_of (claims_in choices entries) tx ≡ None
    → AreClaimEntries (choices_kept choices choice) (insert entries (place_of (claims_in choices entries) tx) (kept_entry choices tx choice))
AreEntries-inserted choices entries tx choice h none =
    let k = place_of (claims_in choices entries) tx in
    let P : Entry → Type 0 = λ e. e.place ≤ length (choices_kept choices choice) in
    let all : All P entries = within-kept choices choice entries h.within in record {
      within = All-append P (take k entries) (kept_entry choices tx choice ∷ drop k entries) (All-take P k entries all)
          (All-cons P (kept_entry choices tx choice) (drop k entries) (kept_place-within choices choice) (All-drop P k entries all));
      ascending = rw (claims_in-inserted choices entries tx choice h none) (ascending-with_choice (claims_in choices entries) (tx, choice) h.ascending);
    }

-- ---- the choice of a claim that is there

filled-suc : (choices : List Choice) (place : ℕ) (choice : Option Choice) → filled choices (suc place) choice ≡ choices
filled-suc choices place choice = ap (λ b. if b then choices_kept choices choice else choices) (eqb-suc-zero place)

filled_place-suc : (choices : List Choice) (place : ℕ) (choice : Option Choice) → filled_place choices (suc place) choice ≡ suc place
filled_place-suc choices place choice = ap (λ b. if b then kept_choice_place choices choice else suc place) (eqb-suc-zero place)

length-filled : (choices : List Choice) (place : ℕ) (choice : Option Choice) → length choices ≤ length (filled choices place choice)
length-filled choices zero choice = length-kept choices choice
length-filled choices (suc place) choice = omega (arith, ap length (filled-suc choices place choice))

filled_place-within : (choices : List Choice) (place : ℕ) (choice : Option Choice) → place ≤ length choices → filled_place choices place choice ≤ length (filled choices place choice)
filled_place-within choices zero choice h = kept_place-within choices choice
filled_place-within choices (suc place) choice h = omega (arith, ap length (filled-suc choices place choice), filled_place-suc choices place choice)

some_or : {X : Type 0} (o p : Option X) → is_some o ≡ true → o ≡ option_or o p
some_or None p h = absurd (cc)
some_or (Some x) p h = refl

choice_in-filled_place : (choices : List Choice) (place : ℕ) (choice : Option Choice) → place ≤ length choices
    → choice_in (filled choices place choice) (filled_place choices place choice) ≡ option_or (choice_in choices place) choice
choice_in-filled_place choices zero choice h = choice_in-kept_place choices choice
choice_in-filled_place choices (suc place) choice h =
    ap (λ cs. choice_in cs (filled_place choices (suc place) choice)) (filled-suc choices place choice)
    ∙ ap (choice_in choices) (filled_place-suc choices place choice)
    ∙ some_or (choice_in choices (suc place)) choice (ap is_some (choice_in-suc choices place) ∙ some_within choices place (omega arith))

claims_in-filled : (choices : List Choice) (at : ℕ) (choice : Option Choice) (entries : List Entry) → All (λ e. e.place ≤ length choices) entries
    → claims_in (filled choices at choice) entries ≡ claims_in choices entries
claims_in-filled choices zero choice entries h = claims_in-kept choices choice entries h
claims_in-filled choices (suc at) choice entries h = ap (λ cs. claims_in cs entries) (filled-suc choices at choice)

module _ (choices : List Choice) (entries : List Entry) (tx : TxId) (choice : Option Choice) (place : ℕ) (h : AreClaimEntries choices entries)
    (found : value_of (claims_in choices entries) tx ≡ Some (choice_in choices place)) (within : place ≤ length choices) where
  abbrev filled_entries : List Entry
  filled_entries = set entries (place_of (claims_in choices entries) tx) (record { tx = tx; place = filled_place choices place choice })

  pub claims_in-set : claims_in (filled choices place choice) filled_entries ≡ with_choice (claims_in choices entries) (tx, choice)
  claims_in-set =
      let f : Entry → TxId × Option Choice = λ e. (e.tx, choice_in (filled choices place choice) e.place) in
      map-set f entries (place_of (claims_in choices entries) tx) (record { tx = tx; place = filled_place choices place choice })
      ∙ rw (choice_in-filled_place choices place choice within, claims_in-filled choices place choice entries h.within) refl
      ∙ sym (with_choice-there (claims_in choices entries) (tx, choice) (choice_in choices place) h.ascending found)

  pub AreEntries-set : AreClaimEntries (filled choices place choice) filled_entries
  AreEntries-set =
      let P : Entry → Type 0 = λ e. e.place ≤ length (filled choices place choice) in
      let all : All P entries = All-weaker (λ (e : Entry). e.place ≤ length choices) P (λ e k. omega (arith, length-filled choices place choice)) entries h.within in record {
        within = All-set P entries (place_of (claims_in choices entries) tx) (record { tx = tx; place = filled_place choices place choice }) (filled_place-within choices place choice within) all;
        ascending = rw claims_in-set (ascending-with_choice (claims_in choices entries) (tx, choice) h.ascending);
      }

-- the entry of a transaction that has a claim stands at its place
pub found_at : (choices : List Choice) (entries : List Entry) (tx : TxId) (e : Entry) → are_ascending (claims_in choices entries) ≡ true
    → is_some (value_of (claims_in choices entries) tx) ≡ true
    → slice_get (claims_in choices entries) (place_of (claims_in choices entries) tx) ≡ Some (e.tx, choice_in choices e.place)
    → value_of (claims_in choices entries) tx ≡ Some (choice_in choices e.place)
found_at choices entries tx e up some at =
    let m = claims_in choices entries in
    let value : value_of m tx ≡ option_and_then (value_if tx) (Some (e.tx, choice_in choices e.place)) = value_of-place m tx up ∙ ap (option_and_then (value_if tx)) at in
    elim (cases_Bool (tx_eq e.tx tx)) [
      | inl same ↦ value ∙ rw same refl
      | inr other ↦ absurd (let bad : is_some (value_of m tx) ≡ false = ap is_some value ∙ rw other refl in cc)
    ]

-- whether the entry at a transaction's place is its own
pub some_at : {X : Type 0} (m : TxMap X) (tx t : TxId) (x : X) (k : ℕ) → are_ascending m ≡ true → k ≡ place_of m tx → slice_get m k ≡ Some (t, x) → is_some (value_of m tx) ≡ tx_eq t tx
some_at m tx t x k up place at =
    elim (cases_Bool (tx_eq t tx)) [
      | inl same ↦ ap is_some (value_of-here m tx t x k up place at same) ∙ sym same
      | inr other ↦ ap is_some (value_of-away m tx t x k up place at other) ∙ sym other
    ]

pub no_value : {X : Type 0} (o : Option X) → is_some o ≡ false → o ≡ None
no_value None h = refl
no_value (Some x) h = absurd (cc)

-- a transaction that has a claim has its place within
pub found_within : {X : Type 0} (m : TxMap X) (tx : TxId) (k : ℕ) → are_ascending m ≡ true → k ≡ place_of m tx → is_some (value_of m tx) ≡ true → k < length m
found_within m tx k up place some =
    elim (cases_Bool (nat_lt k (length m))) [
      | inl less ↦ grind (arith, nat_tests)
      | inr over ↦
          let within = place_of-within m tx in
          let past : length m ≤ k = grind (arith, nat_tests) in
          let none = value_of-past m tx k up place (omega arith) in
          absurd (let bad : false ≡ true = sym (ap is_some none) ∙ some in cc)
    ]

All_get : {X : Type 0} (P : X → Type 0) (xs : List X) (i : ℕ) (x : X) → All P xs → slice_get xs i ≡ Some x → P x
All_get P [] i x h at = absurd (cc)
All_get P (y ∷ ys) zero x h at = let same : y ≡ x = cc in subst P same (All-head P y ys h)
All_get P (y ∷ ys) (suc i) x h at = All_get P ys i x (All-tail P y ys h) at

module _ (choices : List Choice) (entries : List Entry) (tx : TxId) (choice : Option Choice) (at : ℕ) (e : Entry) (h : AreClaimEntries choices entries)
    (place : at ≡ place_of (claims_in choices entries) tx) (some : is_some (value_of (claims_in choices entries) tx) ≡ true) (is : e ≡ get_or entries at e) where
  entry_there : slice_get entries at ≡ Some e
  entry_there =
      let same : length (claims_in choices entries) ≡ length entries = length-map entries _ in
      slice_get_read entries (length entries) at e refl (omega (arith, same, found_within (claims_in choices entries) tx at h.ascending place some)) is

  claim_there : value_of (claims_in choices entries) tx ≡ Some (choice_in choices e.place)
  claim_there =
      let f : Entry → TxId × Option Choice = λ e. (e.tx, choice_in choices e.place) in
      let here : slice_get (claims_in choices entries) at ≡ Some (f e) = slice_get-map f entries at ∙ ap (option_map f) entry_there in
      found_at choices entries tx e h.ascending some (ap (slice_get (claims_in choices entries)) (sym place) ∙ here)

  place_within : e.place ≤ length choices
  place_within = All_get (λ (e : Entry). e.place ≤ length choices) entries at e h.within entry_there

  pub claims_in-there : claims_in (filled choices e.place choice) (set entries at (record { tx = tx; place = filled_place choices e.place choice })) ≡ with_choice (claims_in choices entries) (tx, choice)
  claims_in-there =
      ap (λ k. claims_in (filled choices e.place choice) (set entries k (record { tx = tx; place = filled_place choices e.place choice }))) place
      ∙ claims_in-set choices entries tx choice e.place h claim_there place_within

  pub AreEntries-there : AreClaimEntries (filled choices e.place choice) (set entries at (record { tx = tx; place = filled_place choices e.place choice }))
  AreEntries-there =
      subst (λ k. AreClaimEntries (filled choices e.place choice) (set entries k (record { tx = tx; place = filled_place choices e.place choice }))) (sym place)
      (AreEntries-set choices entries tx choice e.place h claim_there place_within)
