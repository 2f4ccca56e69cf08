-- The room of a structure, told of ledgers as they are defined.
use Rattle.std.proofs.Common.{◌≡◌, ℕ, ◌*◌, ◌<◌, Bool, true, cond, List, [], ◌∷◌, length, refl, sym, ap, ◌∙◌, subst, arith, inl, inr, ◌⊎◌, Some, None}
use Rattle.std.proofs.lemmas.Bool.{cases_Bool}
use Rattle.mdcc_base.specs.TxId.{tx_eq}
use Rattle.mdcc_base.specs.declared.identifiers.Ballot.{Ballot}
use Rattle.mdcc_base.specs.declared.identifiers.TxId.{TxId}
use Rattle.mdcc_base.specs.declared.key.Key.{Key}
use Rattle.mdcc_option.specs.declared.choices.Mark.{Mark}
use Rattle.mdcc_option.specs.declared.choices.Mark.TheVariants.{Accept, Reject}
use Rattle.mdcc_option.specs.declared.cluster.Cluster.{Cluster}
use Rattle.mdcc_struct.specs.declared.options.Options.{Options}
use Rattle.mdcc_def_ledger.specs.Ledger as ledger
use Rattle.mdcc_def_protocol.specs.Marks.{accepts_in, rejects_in}
use Rattle.mdcc_theorem_agreement.specs.Laws as law
use Rattle.mdcc_theorem_agreement.specs.Laws.{IsLedger}
use Rattle.mdcc_theorem_agreement.proofs.MarksAreFew as crowd
use Rattle.mdcc_theorem_agreement.proofs.MapValues.{tx_true, tx_ne}
use Rattle.mdcc_theorem_agreement.proofs.Reduction.{setup_of, reduced}
use Rattle.mdcc_theorem_agreement.proofs.AllowedReduced.{sent_apart}
use Rattle.mdcc_theorem_agreement.proofs.ReducedLedger.{WasSent, Kind, kinds, is_accepted, is_rejected, ApartTx, OfKind}
use Rattle.mdcc_theorem_agreement.proofs.ReducedOptions.{In, Place, mark_of, Distinct}
use Rattle.mdcc_theorem_agreement.proofs.TestsDecide.{Decides-tx, same_pair}
use Rattle.mdcc_theorem_agreement.proofs.LawsTold.{setup_fine, allowed, sent_here}

-- the transactions whose marks pass
abbrev passing : (Mark → Bool) → Options → List TxId
passing p [] = []
passing p (e ∷ os) = cond (p e.1) (e.0 ∷ passing p os) (passing p os)

In-passing : (p : Mark → Bool) (os : Options) (t : TxId) → In t (passing p os) → (x : Mark) × In (t, x) os × (p x ≡ true)
In-passing p [] t h = absurd h
In-passing p (e ∷ os) t h =
    let later : In t (passing p os) → (x : Mark) × In (t, x) (e ∷ os) × (p x ≡ true) =
    λ g. let k : (x : Mark) × In (t, x) os × (p x ≡ true) = In-passing p os t g in (k.0, inr k.1, k.2) in
    elim (cases_Bool (p e.1)) [
      | inl f ↦ (let listed : (e.0 ≡ t) ⊎ In t (passing p os) = rw f at h in
          elim listed [
            | inl here ↦ (e.1, inl (same_pair {A = TxId} {B = Mark} e (t, e.1) (here, refl)), f)
            | inr there ↦ later there
          ])
      | inr f ↦ later (rw f at h)
    ]

marked_there : (os : Options) (p : TxId × Mark) → In p os → mark_of p.0 os ≡ None → ⊥
marked_there [] p h none = h
marked_there (e ∷ os) p h none =
    elim (cases_Bool (tx_eq p.0 e.0)) [
      | inl f ↦ (let bad : Some e.1 ≡ None = rw f at none in cc)
      | inr f ↦ elim h [
        | inl here ↦ tx_ne p.0 e.0 f (ap (λ (z : TxId × Mark). z.0) (sym here))
        | inr there ↦ marked_there os p there (rw f at none)
      ]
    ]

passing_apart : (p : Mark → Bool) (os : Options) → Distinct os → ApartTx (passing p os)
passing_apart p [] h = tt
passing_apart p (e ∷ os) h =
    elim (cases_Bool (p e.1)) [
      | inl f ↦ rw f (
        (λ u g same.
            let k : (x : Mark) × In (u, x) os × (p x ≡ true) = In-passing p os u g in
            let none : mark_of u os ≡ None = ap (λ z. mark_of z os) same ∙ h.0 in
            marked_there os (u, k.0) k.1 none),
        passing_apart p os h.1,
      )
      | inr f ↦ rw f (passing_apart p os h.1)
    ]

distinct_mark : (os : Options) → Distinct os → (p : TxId × Mark) → In p os → mark_of p.0 os ≡ Some p.1
distinct_mark [] h p g = absurd g
distinct_mark (e ∷ os) h p g =
    elim g [
      | inl here ↦ subst (λ (z : TxId × Mark). mark_of z.0 (e ∷ os) ≡ Some z.1) here (let test : tx_eq e.0 e.0 ≡ true = tx_true e.0 e.0 refl in rw test refl)
      | inr there ↦ elim (cases_Bool (tx_eq p.0 e.0)) [
        | inl f ↦ absurd (marked_there os p there (ap (λ z. mark_of z os) ((Decides-tx p.0 e.0).0 f) ∙ h.0))
        | inr f ↦ rw f (distinct_mark os h.1 p there)
      ]
    ]

passing_kind : (p : Mark → Bool) (os : Options) → Distinct os → (t : TxId) → In t (passing p os) → OfKind p os t
passing_kind p os h t g =
    let k : (x : Mark) × In (t, x) os × (p x ≡ true) = In-passing p os t g in
    (k.0, k.2, distinct_mark os h (t, k.0) k.1)

accepted_length : (os : Options) → length (passing is_accepted os) ≡ length (accepts_in os)
accepted_length [] = refl
accepted_length ((t, Accept c) ∷ os) = omega (arith, accepted_length os)
accepted_length ((t, Reject) ∷ os) = accepted_length os

rejected_length : (os : Options) → length (passing is_rejected os) ≡ length (rejects_in os)
rejected_length [] = refl
rejected_length ((t, Accept c) ∷ os) = rejected_length os
rejected_length ((t, Reject) ∷ os) = omega (arith, rejected_length os)

pub room_sent : (cluster : Cluster) (es : List ledger.Entry) → IsLedger cluster es → (key : Key) (version : ℕ) (m : Ballot) (options : Options) → law.WasValued es key version m options →
    (length (accepts_in options) < 1024) × (length (rejects_in options) < 32768)
room_sent cluster es h key version m options sent =
    let i : Place = record { key = key; version = version } in
    let there : WasSent (reduced es) (record { key = key; version = version }) m options = sent_here cluster es h key version m options sent in
    let distinct : Distinct options = sent_apart (setup_of cluster) (reduced es) (allowed cluster es h) i m options there in
    let few : (k : Kind) → In k kinds → length (passing k.test options) < 2 * k.limit = λ k listed.
    crowd.few_structures (setup_of cluster) (setup_fine cluster es h) (reduced es) (allowed cluster es h) i m options there k listed (passing k.test options)
    (passing_apart k.test options distinct) (passing_kind k.test options distinct) in
    let one : length (passing is_accepted options) < 2 * 512 = few (record { test = is_accepted; limit = 512 }) (inl refl) in
    let two : length (passing is_rejected options) < 2 * 16384 = few (record { test = is_rejected; limit = 16384 }) (inr (inl refl)) in
    (omega (arith, accepted_length options), omega (arith, rejected_length options))
