-- One mark: a mark that is chosen is in every structure above its ballot.
use Rattle.std.proofs.Common.{Bool, List, Option, [], arith, false, inl, inr, length, refl, subst, suc, sym, true, zero, ℕ, ◌+◌, ◌<◌, ◌==◌, ◌∙◌, ◌∷◌, ◌≡◌, ◌≤◌}
use Rattle.std.specs.Prelude.{filter, fold}
use Rattle.std.specs.List.{list_all, list_any, range_with_len}
use Rattle.std.proofs.lemmas.Bool.{and_parts, cases_Bool, eq-eqb, eqb-true, or_cases, or_left, or_right, true≢false}
use Rattle.mdcc_base.specs.Ballot.{is_fast}
use Rattle.mdcc_base.specs.declared.identifiers.Ballot.{Ballot}
use Rattle.mdcc_base.specs.declared.key.Key.{Key}
use Rattle.mdcc_base.specs.declared.identifiers.TxId.{TxId}
use Rattle.mdcc_option.specs.declared.choices.Choice.{Choice}
use Rattle.mdcc_option.specs.declared.cluster.Cluster.{Cluster}
use Rattle.mdcc_struct.specs.declared.options.Options.{Options}
use Rattle.mdcc_def_messages.specs.declared.facts.Fact.{Fact}
use Rattle.mdcc_def_protocol.specs.Facts.{last_ballot, report_of, shown_of}
use Rattle.mdcc_def_protocol.specs.Structures.{with_claim}
use Rattle.mdcc_theorem_trace_states.specs.Words.{In, IsTail, count_where}
use Rattle.mdcc_theorem_trace_states.proofs.Lists.{IsTail-same}
use Rattle.mdcc_theorem_trace_rules.specs.Laws.{HasEachMark}
use Rattle.mdcc_theorem_trace_rules.proofs.Chains.{extends-claim}

pub tail-drop : {A : Type 0} (e : A) (old es : List A) → IsTail (e ∷ old) es → IsTail old es
tail-drop e old [] tail = absurd (cc)
tail-drop e old (d ∷ es) tail =
    elim tail [
      | inl same ↦ inr (let tails : old ≡ es = cc in subst (λ y. IsTail y es) (sym tails) (IsTail-same es))
      | inr rest ↦ inr (tail-drop e old es rest)
    ]

pub claims-extend : (cluster : Cluster) (facts : List Fact) (k : Key) (v : ℕ) (cs : List (TxId × Option Choice)) (os : Options) → HasEachMark os (fold (with_claim cluster facts k v) os cs)
claims-extend cluster facts k v [] os t x h = h
claims-extend cluster facts k v (c ∷ cs) os t x h = claims-extend cluster facts k v cs (with_claim cluster facts k v os c) t x (extends-claim cluster facts k v os c t x h)

pub any-in : (a : ℕ) (xs : List ℕ) → list_any (λ b. a == b) xs ≡ true → In a xs
any-in a [] h = absurd (cc)
any-in a (x ∷ xs) h = elim (or_cases (a == x) (list_any (λ b. a == b) xs) h) [ inl e ↦ inl (eqb-true a x e) | inr e ↦ inr (any-in a xs e) ]

pub in-any : (a : ℕ) (xs : List ℕ) → In a xs → list_any (λ b. a == b) xs ≡ true
in-any a [] i = absurd i
in-any a (x ∷ xs) i = elim i [ inl s ↦ or_left (a == x) _ (eq-eqb a x s) | inr r ↦ or_right (a == x) _ (in-any a xs r) ]

pub all-at : {A : Type 0} (p : A → Bool) (xs : List A) (x : A) → list_all p xs ≡ true → In x xs → p x ≡ true
all-at p [] x h i = absurd i
all-at p (y ∷ ys) x h i = let r = and_parts (p y) (list_all p ys) h in elim i [ inl s ↦ subst (λ z. p z ≡ true) (sym s) r.0 | inr j ↦ all-at p ys x r.1 j ]

pub in-range-bounds : (s n a : ℕ) → In a (range_with_len s n) → (s ≤ a) × (a < s + n)
in-range-bounds s zero a i = absurd i
in-range-bounds s (suc n) a i = elim i [ inl e ↦ (omega (arith, e), omega (arith, e)) | inr r ↦ let b = in-range-bounds (s + 1) n a r in (omega (arith, b.0), omega (arith, b.1)) ]

-- above the fast ballot a centre reports the votes that it shows
pub votes-told : (a : ℕ) (fs : List Fact) (k : Key) (v : ℕ) (m : Ballot) → is_fast m ≡ false → (report_of a fs k v m).votes ≡ shown_of fs k v (last_ballot fs k v m)
votes-told a fs k v m classic = rw classic refl

pub count-in : {A : Type 0} (p q : A → Bool) (xs : List A) → ((a : A) → In a xs → p a ≡ true → q a ≡ true) → count_where p xs ≤ count_where q xs
count-in p q [] h = omega arith
count-in p q (x ∷ xs) h =
    elim (cases_Bool (p x)) [
      | inl e ↦ rw e (rw (h x (inl refl) e) (omega (arith, count-in p q xs (λ a i. h a (inr i)))))
      | inr e ↦ rw e (omega (arith, count-in p q xs (λ a i. h a (inr i))))
    ]

pub in-filter : {A : Type 0} (p : A → Bool) (xs : List A) (x : A) → In x xs → p x ≡ true → In x (filter p xs)
in-filter p [] x i h = absurd i
in-filter p (y ∷ ys) x i h =
    elim (cases_Bool (p y)) [
      | inl e ↦ rw e (elim i [ inl s ↦ inl s | inr r ↦ inr (in-filter p ys x r h) ])
      | inr e ↦ rw e (elim i [ inl s ↦ absurd (true≢false (sym (subst (λ z. p z ≡ true) s h) ∙ e)) | inr r ↦ in-filter p ys x r h ])
    ]

pub all-true : {A : Type 0} (xs : List A) → count_where (λ x. true) xs ≡ length xs
all-true [] = refl
all-true (x ∷ xs) = omega (arith, all-true xs)
