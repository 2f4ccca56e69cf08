-- Marks one after the other.
use Rattle.std.proofs.Common.{◌≡◌, ℕ, ◌+◌, ◌≤◌, Bool, true, false, List, [], ◌∷◌, ◌++◌, Option, Some, None, drop, fold, length, refl, ap, ◌∙◌, inl, inr}
use Rattle.std.specs.Prelude.{slice_get}
use Rattle.std.specs.List.{list_any}
use Rattle.std.specs.Option.{option_map}
use Rattle.std.proofs.lemmas.Bool.{cases_Bool}
use Rattle.std.proofs.lemmas.List.{drop_all}
use Rattle.std.proofs.lemmas.List.Sums.{fold-append}
use Rattle.mdcc_base.specs.declared.identifiers.TxId.{TxId}
use Rattle.mdcc_option.specs.declared.choices.Choice.{Choice}
use Rattle.mdcc_option.specs.declared.choices.Mark.{Mark}
use Rattle.mdcc_option.specs.declared.items.Delta.{Delta}
use Rattle.mdcc_struct.specs.Maps.{TxMap}
use Rattle.mdcc_struct.specs.declared.options.Options.{Options}
use Rattle.mdcc_struct.proofs.Walks.{drop-get}
use Rattle.mdcc_def_messages.specs.declared.facts.Fact.{Fact}
use Rattle.mdcc_def_protocol.specs.Facts.{is_void}
use Rattle.mdcc_def_protocol.specs.Marks.{Amounts}
use Rattle.mdcc_def_protocol.specs.Structures.{with_choice}
use Rattle.mdcc_def_protocol.specs.declared.fit.Load.{Load}
use Rattle.mdcc_escrow.specs.Weights.{with_live}
use Rattle.mdcc_leader_structures.specs.Live.{live_marks}
use Rattle.mdcc_leader_structures.specs.Marked.{claims_of}

pub any-here : {X : Type 0} (p : X → Bool) (xs : List X) (i : ℕ) (x : X) → slice_get xs i ≡ Some x → p x ≡ true → list_any p (drop i xs) ≡ true
any-here p xs i x at h = rw (drop-get xs i x at, h) refl

pub any-further : {X : Type 0} (p : X → Bool) (xs : List X) (i : ℕ) (x : X) → slice_get xs i ≡ Some x → p x ≡ false → list_any p (drop i xs) ≡ list_any p (drop (i + 1) xs)
any-further p xs i x at h = rw (drop-get xs i x at, h) refl

pub fold-next : {X A : Type 0} (f : A → X → A) (a : A) (xs : List X) (i : ℕ) (x : X) → slice_get xs i ≡ Some x → fold f a (drop i xs) ≡ fold f (f a x) (drop (i + 1) xs)
fold-next f a xs i x at = ap (fold f a) (drop-get xs i x at)

pub fold-end : {X A : Type 0} (f : A → X → A) (a : A) (xs : List X) (i : ℕ) → length xs ≤ i → fold f a (drop i xs) ≡ a
fold-end f a xs i past = ap (fold f a) (drop_all i xs past)

-- ---- what is live of marks

marked_first : (facts : List Fact) (x : TxId × Mark) (xs : Options) → live_marks facts (x ∷ xs) ≡ live_marks facts (x ∷ []) ++ live_marks facts xs
marked_first facts (tx, Mark.Accept choice) xs = elim (cases_Bool (is_void facts tx)) [
  | inl void ↦ rw void refl
  | inr live ↦ rw live refl
]
marked_first facts (tx, Mark.Reject) xs = refl

pub marked_next : (facts : List Fact) (load : Load) (m : Options) (i : ℕ) (x : TxId × Mark) → slice_get m i ≡ Some x
    → fold (with_live []) load (live_marks facts (drop i m)) ≡ fold (with_live []) (fold (with_live []) load (live_marks facts (x ∷ []))) (live_marks facts (drop (i + 1) m))
marked_next facts load m i x at =
    ap (λ n. fold (with_live []) load (live_marks facts n)) (drop-get m i x at)
    ∙ ap (fold (with_live []) load) (marked_first facts x (drop (i + 1) m))
    ∙ fold-append (with_live []) load (live_marks facts (x ∷ [])) (live_marks facts (drop (i + 1) m))

pub marked_end : (facts : List Fact) (load : Load) (m : Options) (i : ℕ) → length m ≤ i → fold (with_live []) load (live_marks facts (drop i m)) ≡ load
marked_end facts load m i past = ap (λ n. fold (with_live []) load (live_marks facts n)) (drop_all i m past)

-- ---- what marks claim

claims_first : (x : TxId × Mark) (xs : Options) → claims_of (x ∷ xs) ≡ claims_of (x ∷ []) ++ claims_of xs
claims_first (tx, Mark.Accept choice) xs = refl
claims_first (tx, Mark.Reject) xs = refl

pub claims_next : (claims : TxMap (Option Choice)) (m : Options) (i : ℕ) (x : TxId × Mark) → slice_get m i ≡ Some x
    → fold with_choice claims (claims_of (drop i m)) ≡ fold with_choice (fold with_choice claims (claims_of (x ∷ []))) (claims_of (drop (i + 1) m))
claims_next claims m i x at =
    ap (λ n. fold with_choice claims (claims_of n)) (drop-get m i x at)
    ∙ ap (fold with_choice claims) (claims_first x (drop (i + 1) m))
    ∙ fold-append with_choice claims (claims_of (x ∷ [])) (claims_of (drop (i + 1) m))

pub claims_end : (claims : TxMap (Option Choice)) (m : Options) (i : ℕ) → length m ≤ i → fold with_choice claims (claims_of (drop i m)) ≡ claims
claims_end claims m i past = ap (λ n. fold with_choice claims (claims_of n)) (drop_all i m past)

-- ---- deltas that there may be

abbrev delta_with : TxId → Amounts → Delta
delta_with tx amounts = record { tx = tx; amounts = amounts }

pub delta_there : (o : Option Amounts) (tx : TxId) (delta : Delta) → option_map (λ amounts. delta_with tx amounts) o ≡ Some delta → o ≡ Some delta.amounts
delta_there None tx delta h = absurd (cc)
delta_there (Some amounts) tx delta h =
    let is : delta_with tx amounts ≡ delta = cc in
    ap (λ (d : Delta). Some d.amounts) is
