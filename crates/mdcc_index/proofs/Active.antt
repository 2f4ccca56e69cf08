-- A rejection at the fast ballot says nothing of promises, of what is live, or of what is held.
use Rattle.std.proofs.Common.{◌≡◌, ℕ, Bool, true, false, List, [], ◌∷◌, is_some, refl, sym, ap, ◌∙◌, arith, inl, inr}
use Rattle.std.specs.List.{filter, fold, list_any}
use Rattle.std.specs.Prelude.{filter_map, if◌then◌else◌, length, nat_lt, not, ◌&&◌, ◌||◌}
use Rattle.std.proofs.lemmas.Bool.{cases_Bool, ltb-false}
use Rattle.mdcc_base.specs.Ballot.{ballot_eq, ballot_max, fast_ballot}
use Rattle.mdcc_base.specs.declared.identifiers.Ballot.{Ballot}
use Rattle.mdcc_base.specs.declared.identifiers.TxId.{TxId}
use Rattle.mdcc_base.specs.declared.key.Key.{Key}
use Rattle.mdcc_option.specs.declared.choices.Mark.{Mark}
use Rattle.mdcc_option.specs.declared.items.Update.{Update}
use Rattle.mdcc_struct.proofs.Votes.{ballot_eq-same}
use Rattle.mdcc_struct.specs.Maps.{value_of}
use Rattle.mdcc_struct.specs.Options.{accepts_in}
use Rattle.mdcc_struct.specs.declared.options.Options.{Options}
use Rattle.mdcc_def_messages.specs.declared.facts.Fact.{Fact}
use Rattle.mdcc_def_protocol.specs.Facts.{live_mark}
use Rattle.mdcc_def_protocol.specs.Plain.{plain_live_from}
use Rattle.mdcc_def_protocol.specs.declared.fit.Load.{Load}
use Rattle.mdcc_escrow.specs.Weights.{with_live}
use Rattle.mdcc_theorem_fact_folds.specs.Chains.{Covers, is_delta_in, is_of_instance}
use Rattle.mdcc_theorem_fact_folds.specs.Live.{is_live_by, is_live_counted, load_steps}
use Rattle.mdcc_theorem_fact_folds.specs.Votes.{with_voted_ballot}
use Rattle.mdcc_theorem_fact_folds.proofs.Chosen.{max_left}
use Rattle.mdcc_cells_indices.specs.Active.{is_active}
use Rattle.mdcc_cells_indices.specs.Entries.{is_any}
use Rattle.mdcc_index.proofs.Stepped.{deltas-covered}

pub any-kept : (facts : List Fact) → filter is_any facts ≡ facts
any-kept [] = refl
any-kept (fact ∷ facts) = ap (λ fs. fact ∷ fs) (any-kept facts)

-- ---- what such a vote says

parts-false : (a b : Bool) → (not a || b) ≡ false → (a ≡ true) × (b ≡ false)
parts-false true false h = (refl, refl)
parts-false true true h = absurd (cc)
parts-false false b h = absurd (cc)

no-mark-live : (options : Options) → nat_lt 0 (length (accepts_in options)) ≡ false → filter_map live_mark options ≡ []
no-mark-live [] h = refl
no-mark-live ((tx, Mark.Accept choice) ∷ es) h = absurd (omega (arith, ltb-false 0 (length (accepts_in ((tx, Mark.Accept choice) ∷ es))) h))
no-mark-live ((tx, Mark.Reject) ∷ es) h = no-mark-live es h

pick-none : {X : Type 0} (b : Bool) (x y : X) → x ≡ y → (if b then x else y) ≡ y
pick-none true x y h = h
pick-none false x y h = refl

no-live : (key : Key) (version : ℕ) (fact : Fact) → is_active fact ≡ false → plain_live_from key version fact ≡ []
no-live key version (Fact.Booted epoch) h = absurd (cc)
no-live key version (Fact.Floor origin era upto) h = absurd (cc)
no-live key version (Fact.Promised k low high b) h = absurd (cc)
no-live key version (Fact.Voted k v b options offered) h =
    pick-none _ (filter_map live_mark options) [] (no-mark-live options (parts-false (ballot_eq b fast_ballot) (nat_lt 0 (length (accepts_in options))) h).1)
no-live key version (Fact.Heard tx outcome) h = absurd (cc)
no-live key version (Fact.Adopted k v item adds) h = absurd (cc)

pub same-ballot : (key : Key) (version : ℕ) (below ballot : Ballot) (fact : Fact) → is_active fact ≡ false → with_voted_ballot key version below ballot fact ≡ ballot
same-ballot key version below ballot (Fact.Booted epoch) h = absurd (cc)
same-ballot key version below ballot (Fact.Floor origin era upto) h = absurd (cc)
same-ballot key version below ballot (Fact.Promised k low high b) h = absurd (cc)
same-ballot key version below ballot (Fact.Voted k v b options offered) h =
    let fast = ballot_eq-same b fast_ballot (parts-false (ballot_eq b fast_ballot) (nat_lt 0 (length (accepts_in options))) h).0 in
    ap (λ a. ballot_max a ballot) (pick-none _ b fast_ballot fast) ∙ max_left ballot
same-ballot key version below ballot (Fact.Heard tx outcome) h = absurd (cc)
same-ballot key version below ballot (Fact.Adopted k v item adds) h = absurd (cc)

-- ---- chains without them

-- a fact that changes nothing may be left out
pub fold-active : {S : Type 0} (step : S → Fact → S) → ((s : S) (fact : Fact) → is_active fact ≡ false → step s fact ≡ s)
    → (keep : Fact → Bool) (s : S) (facts : List Fact) → fold step s (filter keep (filter is_active facts)) ≡ fold step s (filter keep facts)
fold-active step ignores keep s [] = refl
fold-active step ignores keep s (fact ∷ facts) = elim (cases_Bool (is_active fact)) [
  | inl active ↦ elim (cases_Bool (keep fact)) [
    | inl kept ↦ rw (active, kept) (fold-active step ignores keep (step s fact) facts)
    | inr left ↦ rw (active, left) (fold-active step ignores keep s facts)
  ]
  | inr idle ↦ elim (cases_Bool (keep fact)) [
    | inl kept ↦ rw (idle, kept) (fold-active step ignores keep s facts ∙ ap (λ t. fold step t (filter keep facts)) (sym (ignores s fact idle)))
    | inr left ↦ rw (idle, left) (fold-active step ignores keep s facts)
  ]
]

-- an active fact of an instance
abbrev pub is_active_of : Key → ℕ → Fact → Bool
is_active_of key version fact = is_active fact && is_of_instance key version fact

kept-both : {X : Type 0} (p q : X → Bool) (xs : List X) → filter q (filter p xs) ≡ filter (λ x. p x && q x) xs
kept-both p q [] = refl
kept-both p q (x ∷ xs) = elim (cases_Bool (p x)) [
  | inl passes ↦ elim (cases_Bool (q x)) [
    | inl also ↦ rw (passes, also) (ap (λ ys. x ∷ ys) (kept-both p q xs))
    | inr not_also ↦ rw (passes, not_also) (kept-both p q xs)
  ]
  | inr fails ↦ rw fails (kept-both p q xs)
]

pub active-chain : (key : Key) (version : ℕ) (facts : List Fact) → filter (is_of_instance key version) (filter is_active facts) ≡ filter (is_active_of key version) facts
active-chain key version facts = kept-both is_active (is_of_instance key version) facts

-- no vote brings deltas
pub active-deltas : (key : Key) (version : ℕ) → Covers (is_active_of key version) (is_delta_in key version)
active-deltas key version (Fact.Booted epoch) h = absurd (cc)
active-deltas key version (Fact.Floor origin era upto) h = absurd (cc)
active-deltas key version (Fact.Promised k low high b) h = absurd (cc)
active-deltas key version (Fact.Voted k v b options offered) h = absurd (cc)
active-deltas key version (Fact.Heard tx outcome) h = deltas-covered key version (Fact.Heard tx outcome) h
active-deltas key version (Fact.Adopted k v item adds) h = deltas-covered key version (Fact.Adopted k v item adds) h

-- ---- what is live

module _ (keep : Fact → Bool) (key : Key) (version : ℕ) where
  not-live : (tx : TxId) (fact : Fact) → is_active fact ≡ false → is_live_by key version tx fact ≡ false
  not-live tx fact idle = ap (λ live. is_some (value_of live tx)) (no-live key version fact idle)

  any-active : (tx : TxId) (facts : List Fact) → list_any (is_live_by key version tx) (filter keep (filter is_active facts)) ≡ list_any (is_live_by key version tx) (filter keep facts)
  any-active tx [] = refl
  any-active tx (fact ∷ facts) = elim (cases_Bool (is_active fact)) [
    | inl active ↦ elim (cases_Bool (keep fact)) [
      | inl kept ↦ rw (active, kept) (ap (λ b. is_live_by key version tx fact || b) (any-active tx facts))
      | inr left ↦ rw (active, left) (any-active tx facts)
    ]
    | inr idle ↦ elim (cases_Bool (keep fact)) [
      | inl kept ↦ rw (idle, kept, not-live tx fact idle) (any-active tx facts)
      | inr left ↦ rw (idle, left) (any-active tx facts)
    ]
  ]

  module _ (seen : List TxId) (void : TxId → Bool) where
    pub load-active : (load : Load) (facts : List Fact)
        → load_steps seen void key version load (filter keep (filter is_active facts)) ≡ load_steps seen void key version load (filter keep facts)
    load-active load [] = refl
    load-active load (fact ∷ facts) = elim (cases_Bool (is_active fact)) [
      | inl active ↦ elim (cases_Bool (keep fact)) [
        | inl kept ↦
            rw (active, kept) (
            ap (λ counted. load_steps seen void key version (fold (with_live seen) load (filter counted (plain_live_from key version fact))) (filter keep (filter is_active facts)))
            (λ i (e : TxId × Update). not (void e.0) && not (any-active e.0 facts i))
            ∙ load-active (fold (with_live seen) load (filter (λ e. is_live_counted void (filter keep facts) key version e.0) (plain_live_from key version fact))) facts
            )
        | inr left ↦ rw (active, left) (load-active load facts)
      ]
      | inr idle ↦ elim (cases_Bool (keep fact)) [
        | inl kept ↦
            rw (idle, kept) (
            load-active load facts
            ∙ sym (ap (λ live. load_steps seen void key version (fold (with_live seen) load (filter (λ e. is_live_counted void (filter keep facts) key version e.0) live)) (filter keep facts))
            (no-live key version fact idle))
            )
        | inr left ↦ rw (idle, left) (load-active load facts)
      ]
    ]
