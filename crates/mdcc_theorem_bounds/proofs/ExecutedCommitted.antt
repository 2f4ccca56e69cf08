-- What is executed was committed.
use Rattle.std.proofs.Common.{◌≡◌, ℕ, ◌==◌, true, ◌&&◌, List, [], ◌∷◌, ◌++◌, sym, ◌∙◌, subst, inl, inr}
use Rattle.std.proofs.lemmas.Bool.{cases_Bool, and_parts, eqb-true}
use Rattle.mdcc_base.specs.Key.{key_eq}
use Rattle.mdcc_base.specs.declared.identifiers.TxId.{TxId}
use Rattle.mdcc_option.specs.declared.choices.Choice.{Choice}
use Rattle.mdcc_option.specs.declared.choices.Outcome.TheVariants.{Commit, Abort}
use Rattle.mdcc_option.specs.declared.items.Update.TheVariants.{Add}
use Rattle.mdcc_def_protocol.specs.Marks.{Amounts}
use Rattle.mdcc_theorem_agreement.proofs.OneBase.{IsCommitted-tail}
use Rattle.mdcc_theorem_agreement.proofs.BegunOnce.{begun_own, In-append, adds_at-shows}
use Rattle.mdcc_theorem_agreement.proofs.LedgersGrow.{IsTail-same}
use Rattle.mdcc_theorem_agreement.proofs.Setups.{Setup}
use Rattle.mdcc_theorem_agreement.proofs.ReducedFacts.{ReducedFact, Booted, Floor, Promised, Voted, Heard, Adopted, executed_by, executed}
use Rattle.mdcc_theorem_agreement.proofs.ReducedLedger.{IsTail, Entry, Happened, Begun, Valued, facts_of, IsCommitted, MayHappen, Meets, Allowed}
use Rattle.mdcc_theorem_agreement.proofs.ReducedOptions.{spot, In, Place}
use Rattle.mdcc_theorem_agreement.proofs.TestsDecide.{Decides-key, same_place}

-- a delta is the Add of a committed transaction at an instance
abbrev pub CommittedAdd : Setup → List Entry → TxId × Amounts → Place → Type 0
CommittedAdd s es p i = (cs : List Choice) × IsCommitted s es p.0 cs × (d : Choice) × In d cs × ((spot d) ≡ i) × (d.update ≡ Add p.1)

CommittedAdd-tail : (s : Setup) (p : TxId × Amounts) (i : Place) (old es : List Entry) → IsTail old es → CommittedAdd s old p i → CommittedAdd s es p i
CommittedAdd-tail s p i old es tail h = (h.0, IsCommitted-tail s p.0 h.0 old es tail h.1, h.2, h.3, h.4, h.5)

-- what one fact executes was committed, where that holds of all that stood before
executed_by-committed : (s : Setup) (es : List Entry) → Allowed s es →
    ((old : List Entry) → IsTail old es → (a : ℕ) (i : Place) (p : TxId × Amounts) → In p (executed (facts_of a old) i) → CommittedAdd s es p i) →
    (a : ℕ) (f : ReducedFact) → MayHappen s es a f → (i : Place) (p : TxId × Amounts) → In p (executed_by f i) → CommittedAdd s es p i
executed_by-committed s es allowed known a (Booted e) may i p h = absurd h
executed_by-committed s es allowed known a (Floor origin era upto) may i p h = absurd h
executed_by-committed s es allowed known a (Promised key low high l) may i p h = absurd h
executed_by-committed s es allowed known a (Voted j l marks) may i p h = absurd h
executed_by-committed s es allowed known a (Heard t Abort) may i p h = absurd h
executed_by-committed s es allowed known a (Heard t (Commit cs)) may i p h =
    let shown : (c : Choice) × In c cs × (c.tx ≡ p.0) × (spot c ≡ i) × (c.update ≡ Add p.1) = adds_at-shows p cs i h in
    let own : shown.0.tx ≡ t = begun_own s es t cs allowed may.0 shown.0 shown.1 in
    (cs, subst (λ z. IsCommitted s es z cs) (sym own ∙ shown.2) may, shown.0, shown.1, shown.3, shown.4)
executed_by-committed s es allowed known a (Adopted key version item deltas) may i p h =
    elim (cases_Bool (key_eq key i.key && (version == i.version))) [
      | inl e ↦
          let parts : (key_eq key i.key ≡ true) × ((version == i.version) ≡ true) = and_parts _ _ e in
          let place : record { key = key; version = version } ≡ i = same_place (record { key = key; version = version }) i ((Decides-key key i.key).0 parts.0, eqb-true version i.version parts.1) in
          let listed : In p deltas = rw e at h in
          known may.old may.before may.giver i p (subst (λ z. In p (executed (facts_of may.giver may.old) z)) place (may.executed_there p listed))
      | inr e ↦ let none : ⊥ = rw e at h in absurd none
    ]

executed_entry : (s : Setup) (es : List Entry) (e : Entry) → Allowed s es → Meets s es e →
    ((old : List Entry) → IsTail old es → (a : ℕ) (i : Place) (p : TxId × Amounts) → In p (executed (facts_of a old) i) → CommittedAdd s es p i) →
    (a : ℕ) (i : Place) (p : TxId × Amounts) → In p (executed (facts_of a (e ∷ es)) i) → CommittedAdd s es p i
executed_entry s es (Begun b t cs) allowed meets known a i p h = known es (IsTail-same es) a i p h
executed_entry s es (Valued b j l sent) allowed meets known a i p h = known es (IsTail-same es) a i p h
executed_entry s es (Happened b f) allowed meets known a i p h =
    elim (cases_Bool (b == a)) [
      | inl e ↦
          let listed : In p (executed_by f i ++ executed (facts_of a es) i) = rw e at h in
          elim (In-append p (executed_by f i) (executed (facts_of a es) i) listed) [
            | inl here ↦ executed_by-committed s es allowed known b f meets i p here
            | inr there ↦ known es (IsTail-same es) a i p there
          ]
      | inr e ↦ known es (IsTail-same es) a i p (rw e at h)
    ]

pub executed_committed : (s : Setup) (es : List Entry) → Allowed s es → (old : List Entry) → IsTail old es →
    (a : ℕ) (i : Place) (p : TxId × Amounts) → In p (executed (facts_of a old) i) → CommittedAdd s es p i
executed_committed s [] allowed old tail a i p h = let none : In p (executed (facts_of a []) i) = subst (λ y. In p (executed (facts_of a y) i)) tail h in absurd none
executed_committed s (e ∷ es) allowed old tail a i p h =
    CommittedAdd-tail s p i es (e ∷ es) (inr (IsTail-same es))
    (elim tail [
      | inl same ↦ executed_entry s es e allowed.0 allowed.1 (executed_committed s es allowed.0) a i p (subst (λ y. In p (executed (facts_of a y) i)) same h)
      | inr rest ↦ executed_committed s es allowed.0 old rest a i p h
    ])
