-- Structures as they lie in memory.
use Rattle.std.proofs.Common.{◌≡◌, ℕ, ◌+◌, ◌<◌, ◌≤◌, true, false, List, [], ◌∷◌, ◌++◌, Some, None, refl, sym, ap, ◌∙◌, arith, inl, inr, length, take, drop, get_or, length-append}
use Rattle.std.specs.Prelude.{slice_get, All, insert, not}
use Rattle.std.specs.List.{prefix_len}
use Rattle.std.specs.List.Sorted.{IsPartitionedBy, IsPartitionPoint}
use Rattle.std.proofs.lemmas.Bool.{cases_Bool}
use Rattle.std.proofs.lemmas.Grind.{common_steps}
use Rattle.std.proofs.lemmas.List.{length-map, map-append, take-map, drop-map}
use Rattle.std.proofs.lemmas.List.Elements.{All-head, All-tail, All-append, All-cons, All-nil, All-take, All-drop, All-weaker, filter-append}
use Rattle.std.proofs.lemmas.List.Filters.{length-filter_both}
use Rattle.std.proofs.lemmas.List.Sums.{prefix_len_passes, prefix_len_is}
use Rattle.std.proofs.lemmas.Option.{slice_get-map, slice_get-get_or}
use Rattle.mdcc_base.specs.declared.identifiers.TxId.{TxId}
use Rattle.mdcc_base.specs.TxId.{tx_lt}
use Rattle.mdcc_option.specs.declared.choices.Mark.{Mark}
use Rattle.mdcc_option.specs.declared.choices.Mark.TheVariants.{Accept, Reject}
use Rattle.mdcc_struct.specs.declared.options.Entry.{Entry}
use Rattle.mdcc_struct.specs.Fields.{mark_in, marks_in, AreEntries, kept, kept_place}
use Rattle.mdcc_struct.specs.Maps.{value_of, inserted, are_ascending}
use Rattle.mdcc_struct.specs.Options.{Marks, is_accept, accepts_in, rejects_in}
use Rattle.mdcc_struct.specs.Places.{place_of}
use Rattle.mdcc_struct.proofs.Ordered.{place_of-above, inserted-place, ascending-inserted}

-- ---- the place of a transaction

pub prefix_len-entries : (accepted : List Mark) (entries : List Entry) (tx : TxId)
    → prefix_len (λ e. tx_lt e.tx tx) entries ≡ place_of (marks_in accepted entries) tx
prefix_len-entries accepted [] tx = refl
prefix_len-entries accepted (e ∷ es) tx = rw (prefix_len-entries accepted es tx) refl

-- the entry at a place
pub entry-at : (accepted : List Mark) (entries : List Entry) (k : ℕ) (e : Entry) → k < length entries → e ≡ get_or entries k e
    → slice_get (marks_in accepted entries) k ≡ Some (e.tx, mark_in accepted e.place)
entry-at accepted entries k e within is =
    slice_get-map _ entries k ∙ rw (slice_get-get_or entries k e within, ← is) refl

no_entry : Entry
no_entry = record { tx = record { centre = 0; epoch = 0; seq = 0 }; place = 0 }

pub partitioned-entries : (accepted : List Mark) (entries : List Entry) (tx : TxId) → are_ascending (marks_in accepted entries) ≡ true
    → IsPartitionedBy (λ (e : Entry). tx_lt e.tx tx) entries
partitioned-entries accepted entries tx h i j d up within below =
    let at : slice_get (marks_in accepted entries) j ≡ Some ((get_or entries j d).tx, mark_in accepted (get_or entries j d).place) =
    slice_get-map _ entries j ∙ rw (slice_get-get_or entries j d within) refl in
    let above : j < place_of (marks_in accepted entries) tx = place_of-above (marks_in accepted entries) tx j _ h at below in
    prefix_len_passes (λ (e : Entry). tx_lt e.tx tx) entries i d (omega (arith, prefix_len-entries accepted entries tx))

pub place_of-point : (accepted : List Mark) (entries : List Entry) (tx : TxId) (k : ℕ) → k ≤ length entries
    → IsPartitionPoint (λ (e : Entry). tx_lt e.tx tx ≡ true) (λ (e : Entry). tx_lt e.tx tx ≡ false) entries k
    → k ≡ place_of (marks_in accepted entries) tx
place_of-point accepted entries tx k within point =
    sym (prefix_len_is (λ (e : Entry). tx_lt e.tx tx) entries k no_entry within (λ i l. point.0 i no_entry (omega arith) l) (λ l. point.1 k no_entry (omega arith) l))
    ∙ prefix_len-entries accepted entries tx

-- ---- one more mark

pub mark_in-kept : (accepted : List Mark) (mark : Mark) (place : ℕ) → place ≤ length accepted → mark_in (kept accepted mark) place ≡ mark_in accepted place
mark_in-kept accepted (Accept choice) place h = grind (arith, common_steps)
mark_in-kept accepted Reject place h = refl

pub mark_in-kept_place : (accepted : List Mark) (mark : Mark) → mark_in (kept accepted mark) (kept_place accepted mark) ≡ mark
mark_in-kept_place accepted (Accept choice) = grind (arith, common_steps)
mark_in-kept_place accepted Reject = refl

pub length-kept : (accepted : List Mark) (mark : Mark) → length accepted ≤ length (kept accepted mark)
length-kept accepted (Accept choice) = omega (arith, length-append accepted (Accept choice ∷ []))
length-kept accepted Reject = omega arith

pub kept_place-within : (accepted : List Mark) (mark : Mark) → kept_place accepted mark ≤ length (kept accepted mark)
kept_place-within accepted (Accept choice) = omega (arith, length-append accepted (Accept choice ∷ []))
kept_place-within accepted Reject = omega arith

pub marks_in-kept : (accepted : List Mark) (mark : Mark) (entries : List Entry) → All (λ e. e.place ≤ length accepted) entries
    → marks_in (kept accepted mark) entries ≡ marks_in accepted entries
marks_in-kept accepted mark [] h = refl
marks_in-kept accepted mark (e ∷ es) h =
    let here : e.place ≤ length accepted = All-head (λ (e : Entry). e.place ≤ length accepted) e es h in
    rw (mark_in-kept accepted mark e.place here, marks_in-kept accepted mark es (All-tail (λ (e : Entry). e.place ≤ length accepted) e es h)) refl

-- ---- how many marks accept

accepts-inserted : (m : Marks) (e : TxId × Mark) → length (accepts_in (inserted m e)) ≡ length (accepts_in (e ∷ m))
accepts-inserted [] e = refl
accepts-inserted (x ∷ xs) e =
    let further = accepts-inserted xs e in
    elim (cases_Bool (tx_lt x.0 e.0)) [
      | inl less ↦ elim (cases_Bool (is_accept x.1)) [ inl accepts ↦ grind arith | inr rejects ↦ grind arith ]
      | inr over ↦ rw over refl
    ]

accepts-cons : (accepted : List Mark) (m : Marks) (tx : TxId) (mark : Mark) → length (accepts_in m) ≡ length accepted
    → length (accepts_in ((tx, mark) ∷ m)) ≡ length (kept accepted mark)
accepts-cons accepted m tx (Accept choice) h = omega (arith, h, length-append accepted (Accept choice ∷ []))
accepts-cons accepted m tx Reject h = h

accepts-pushed : (accepted : List Mark) (m : Marks) (tx : TxId) (mark : Mark) → length (accepts_in m) ≡ length accepted
    → length (accepts_in (m ++ (tx, mark) ∷ [])) ≡ length (kept accepted mark)
accepts-pushed accepted m tx (Accept choice) h =
    let e : TxId × Mark = (tx, Accept choice) in
    omega (arith, h, ap length (filter-append (λ (e : TxId × Mark). is_accept e.1) m (e ∷ [])), length-append (accepts_in m) (e ∷ []), length-append accepted (Accept choice ∷ []))
accepts-pushed accepted m tx Reject h =
    let e : TxId × Mark = (tx, Reject) in
    omega (arith, h, ap length (filter-append (λ (e : TxId × Mark). is_accept e.1) m (e ∷ [])), length-append (accepts_in m) [])

pub both_counted : (accepted : List Mark) (entries : List Entry) → AreEntries accepted entries
    → length accepted + length (rejects_in (marks_in accepted entries)) ≡ length entries
both_counted accepted entries h =
    let marks = marks_in accepted entries in
    let same : length marks ≡ length entries = length-map entries _ in
    omega (arith, h.counted, same, length-filter_both (λ (e : TxId × Mark). is_accept e.1) (λ (e : TxId × Mark). not (is_accept e.1)) (λ e. refl) marks)

abbrev pub kept_entry : List Mark → TxId → Mark → Entry
kept_entry accepted tx mark = record { tx = tx; place = kept_place accepted mark }

-- the marks with one more at any place
pub marks_in-insert : (accepted : List Mark) (entries : List Entry) (k : ℕ) (tx : TxId) (mark : Mark) → All (λ e. e.place ≤ length accepted) entries
    → marks_in (kept accepted mark) (insert entries k (kept_entry accepted tx mark)) ≡ insert (marks_in accepted entries) k (tx, mark)
marks_in-insert accepted entries k tx mark h =
    let f : Entry → TxId × Mark = λ e. (e.tx, mark_in (kept accepted mark) e.place) in
    map-append f (take k entries) (kept_entry accepted tx mark ∷ drop k entries)
    ∙ rw (mark_in-kept_place accepted mark, ← take-map f k entries, ← drop-map f k entries, marks_in-kept accepted mark entries h) refl

within-kept : (accepted : List Mark) (mark : Mark) (entries : List Entry) → All (λ e. e.place ≤ length accepted) entries → All (λ e. e.place ≤ length (kept accepted mark)) entries
within-kept accepted mark entries h = All-weaker (λ (e : Entry). e.place ≤ length accepted) (λ (e : Entry). e.place ≤ length (kept accepted mark)) (λ e k. omega (arith, length-kept accepted mark)) entries h

within-insert : (accepted : List Mark) (entries : List Entry) (k : ℕ) (tx : TxId) (mark : Mark) → All (λ e. e.place ≤ length accepted) entries
    → All (λ e. e.place ≤ length (kept accepted mark)) (insert entries k (kept_entry accepted tx mark))
within-insert accepted entries k tx mark h =
    let P : Entry → Type 0 = λ e. e.place ≤ length (kept accepted mark) in
    let all : All P entries = within-kept accepted mark entries h in
    All-append P (take k entries) (kept_entry accepted tx mark ∷ drop k entries) (All-take P k entries all)
    (All-cons P (kept_entry accepted tx mark) (drop k entries) (kept_place-within accepted mark) (All-drop P k entries all))

pub marks_in-inserted : (accepted : List Mark) (entries : List Entry) (tx : TxId) (mark : Mark) → AreEntries accepted entries
    → marks_in (kept accepted mark) (insert entries (place_of (marks_in accepted entries) tx) (kept_entry accepted tx mark)) ≡ inserted (marks_in accepted entries) (tx, mark)
marks_in-inserted accepted entries tx mark h =
    marks_in-insert accepted entries _ tx mark h.within ∙ sym (inserted-place (marks_in accepted entries) (tx, mark))

pub AreEntries-inserted : (accepted : List Mark) (entries : List Entry) (tx : TxId) (mark : Mark) → AreEntries accepted entries
    → value_of (marks_in accepted entries) tx ≡ None
    → AreEntries (kept accepted mark) (insert entries (place_of (marks_in accepted entries) tx) (kept_entry accepted tx mark))
AreEntries-inserted accepted entries tx mark h none = record {
  within = within-insert accepted entries _ tx mark h.within;
  ascending = rw (marks_in-inserted accepted entries tx mark h) (ascending-inserted (marks_in accepted entries) (tx, mark) h.ascending none);
  counted = rw (marks_in-inserted accepted entries tx mark h) (accepts-inserted (marks_in accepted entries) (tx, mark) ∙ accepts-cons accepted (marks_in accepted entries) tx mark h.counted);
}

pub marks_in-pushed : (accepted : List Mark) (entries : List Entry) (tx : TxId) (mark : Mark) → AreEntries accepted entries
    → marks_in (kept accepted mark) (entries ++ kept_entry accepted tx mark ∷ []) ≡ marks_in accepted entries ++ (tx, mark) ∷ []
marks_in-pushed accepted entries tx mark h =
    map-append _ entries (kept_entry accepted tx mark ∷ [])
    ∙ rw (mark_in-kept_place accepted mark, marks_in-kept accepted mark entries h.within) refl

pub AreEntries-pushed : (accepted : List Mark) (entries : List Entry) (tx : TxId) (mark : Mark) → AreEntries accepted entries
    → are_ascending (marks_in accepted entries ++ (tx, mark) ∷ []) ≡ true
    → AreEntries (kept accepted mark) (entries ++ kept_entry accepted tx mark ∷ [])
AreEntries-pushed accepted entries tx mark h up =
    let P : Entry → Type 0 = λ e. e.place ≤ length (kept accepted mark) in record {
      within = All-append P entries (kept_entry accepted tx mark ∷ []) (within-kept accepted mark entries h.within)
          (All-cons P (kept_entry accepted tx mark) [] (kept_place-within accepted mark) (All-nil P));
      ascending = rw (marks_in-pushed accepted entries tx mark h) up;
      counted = rw (marks_in-pushed accepted entries tx mark h) (accepts-pushed accepted (marks_in accepted entries) tx mark h.counted);
    }
