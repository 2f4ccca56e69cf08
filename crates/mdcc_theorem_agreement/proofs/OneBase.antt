-- What a centre holds at a version is what the one committed Write of the version before gave.
use Rattle.std.proofs.Common.{◌≡◌, ℕ, suc, ◌≤◌, ◌<◌, ◌==◌, nat_lt, List, [], ◌∷◌, refl, sym, ap, ◌∙◌, subst, arith, inl, inr, ◌⊎◌, Option, Some}
use Rattle.std.proofs.lemmas.Bool.{cases_Bool, ltb-true, ltb-false, false≢true}
use Rattle.mdcc_base.specs.Key.{key_eq}
use Rattle.mdcc_base.specs.TxId.{tx_eq}
use Rattle.mdcc_base.specs.declared.identifiers.Ballot.{Ballot}
use Rattle.mdcc_base.specs.declared.identifiers.TxId.{TxId}
use Rattle.mdcc_base.specs.declared.key.Key.{Key}
use Rattle.mdcc_option.specs.declared.choices.Choice.{Choice}
use Rattle.mdcc_option.specs.declared.choices.Mark.TheVariants.{Accept, Reject}
use Rattle.mdcc_option.specs.declared.choices.Outcome.TheVariants.{Commit, Abort}
use Rattle.mdcc_option.specs.declared.items.Item.{Item}
use Rattle.mdcc_option.specs.declared.items.Update.{Update}
use Rattle.mdcc_option.specs.declared.items.Update.TheVariants.{Write, Add}
use Rattle.mdcc_def_protocol.specs.Marks.{Amounts}
use Rattle.mdcc_theorem_agreement.proofs.AcceptedAgree.{consistent}
use Rattle.mdcc_theorem_agreement.proofs.HeardHere.{IsChosen-tail}
use Rattle.mdcc_theorem_agreement.proofs.BegunOnce.{WasBegun-tail, begun_once, begun_own, one_choice}
use Rattle.mdcc_theorem_agreement.proofs.LedgersGrow.{IsTail-same, IsTail-drop}
use Rattle.mdcc_theorem_agreement.proofs.OneMark.{one_mark}
use Rattle.mdcc_theorem_agreement.proofs.Setups.{Setup, IsSetup}
use Rattle.mdcc_theorem_agreement.proofs.ReducedFacts.{ReducedFact, Booted, Floor, Promised, Voted, Heard, Adopted, raised, written, current_by, current, base_by, base}
use Rattle.mdcc_theorem_agreement.proofs.ReducedLedger.{IsTail, Entry, Happened, Begun, Valued, facts_of, WasBegun, IsChoice, IsChosen, IsAborted, IsCommitted, MayHappen, Meets, Allowed, WritesOn, Gave, Holds}
use Rattle.mdcc_theorem_agreement.proofs.ReducedOptions.{spot, In, Agrees}
use Rattle.mdcc_theorem_agreement.proofs.TestsDecide.{Decides-key, Decides-tx, same_place}

-- a transaction has one outcome
pub one_outcome : (s : Setup) → IsSetup s → (es : List Entry) → Allowed s es → (t : TxId) (cs : List Choice) → IsCommitted s es t cs → IsAborted s es t → ⊥
one_outcome s sizes es legal t cs committed aborted =
    let c : Choice = aborted.0 in
    let begun : WasBegun es t aborted.2.0 = rw (← aborted.3) aborted.2.1 in
    let same : aborted.2.0 ≡ cs = begun_once s es t aborted.2.0 cs legal begun committed.0 in
    let listed : In aborted.0 cs = subst (In aborted.0) same aborted.2.2 in
    let chosen : (k : Ballot) × IsChosen s es (spot aborted.0) k t (Accept aborted.0) = committed.1 aborted.0 listed in
    let marks : Accept aborted.0 ≡ Reject = one_mark s sizes es legal (spot aborted.0) chosen.0 aborted.1 t (Accept aborted.0) Reject chosen.1 aborted.4 in
    cc

pub IsCommitted-tail : (s : Setup) (t : TxId) (cs : List Choice) (old es : List Entry) → IsTail old es → IsCommitted s old t cs → IsCommitted s es t cs
IsCommitted-tail s t cs old es tail h =
    (WasBegun-tail t cs old es tail h.0, (λ c listed. ((h.1 c listed).0, IsChosen-tail s (spot c) (h.1 c listed).0 t (Accept c) old es tail (h.1 c listed).1)))

pub Update-cases : (u : Update) → ((seen : List TxId) × (body : Item) × (u ≡ Write body seen)) ⊎ ((m : Amounts) × (u ≡ Add m))
Update-cases (Write body seen) = inl (seen, body, refl)
Update-cases (Add m) = inr (m, refl)

raised-shows : (cs : List Choice) (key : Key) → 0 < raised cs key → WritesOn cs key (raised cs key) (written cs key)
raised-shows [] key h = absurd (omega arith)
raised-shows (c ∷ cs) key h =
    elim (cases_Bool (key_eq c.key key)) [
      | inl e ↦
          let on : c.key ≡ key = (Decides-key c.key key).0 e in
          elim (Update-cases c.update) [
            | inl w ↦ (
              c,
              w.0,
              w.1,
              inl refl,
              on,
              (let value : raised (c ∷ cs) key ≡ suc c.version = rw (e, w.2) refl in sym value),
              w.2,
              (let value : written (c ∷ cs) key ≡ Some w.1 = rw (e, w.2) refl in value),
            )
            | inr a ↦ let none : raised (c ∷ cs) key ≡ 0 = rw (e, a.1) refl in absurd (omega arith)
          ]
      | inr e ↦
          let number : raised (c ∷ cs) key ≡ raised cs key = rw e refl in
          let item : written (c ∷ cs) key ≡ written cs key = rw e refl in
          let rest : WritesOn cs key (raised cs key) (written cs key) = raised-shows cs key (omega arith) in
          (rest.0, rest.1, rest.2, inr rest.3, rest.4, rest.5 ∙ sym number, rest.6, item ∙ rest.7)
    ]

module _ (s : Setup) (sizes : IsSetup s) (all : List Entry) (legal : Allowed s all) where
  one_fact : (es : List Entry) → IsTail es all → Allowed s es →
      ((old : List Entry) → IsTail old es → (a : ℕ) (key : Key) → Holds s all key (current (facts_of a old) key) (base (facts_of a old) key)) →
      (a : ℕ) (f : ReducedFact) → MayHappen s es a f → (key : Key) → 0 < current_by f key → Gave s all key (current_by f key) (base_by f key)
  one_fact es tail allowed known a (Booted e) may key h = absurd (omega arith)
  one_fact es tail allowed known a (Floor origin era upto) may key h = absurd (omega arith)
  one_fact es tail allowed known a (Promised k low high l) may key h = absurd (omega arith)
  one_fact es tail allowed known a (Voted j l marks) may key h = absurd (omega arith)
  one_fact es tail allowed known a (Heard t Abort) may key h = absurd (omega arith)
  one_fact es tail allowed known a (Heard t (Commit cs)) may key h = (cs, t, IsCommitted-tail s t cs es all tail may, raised-shows cs key h)
  one_fact es tail allowed known a (Adopted k version item ds) may key h =
      elim (cases_Bool (key_eq k key)) [
        | inl e ↦
            let on : k ≡ key = (Decides-key k key).0 e in
            let number : current_by (Adopted k version item ds) key ≡ version = rw e refl in
            let there : Holds s all k (current (facts_of may.giver may.old) k) (base (facts_of may.giver may.old) k) = known may.old may.before may.giver k in
            elim there [
              | inl first ↦ absurd (omega (arith, may.held))
              | inr gave ↦ rw e (rw (← may.held, ← may.base_there, ← on) gave)
            ]
        | inr e ↦ let number : current_by (Adopted k version item ds) key ≡ 0 = rw e refl in absurd (omega arith)
      ]

  one_entry : (e : Entry) (es : List Entry) → IsTail (e ∷ es) all → Allowed s es → Meets s es e →
      ((old : List Entry) → IsTail old es → (a : ℕ) (key : Key) → Holds s all key (current (facts_of a old) key) (base (facts_of a old) key)) →
      (a : ℕ) (key : Key) → Holds s all key (current (facts_of a (e ∷ es)) key) (base (facts_of a (e ∷ es)) key)
  one_entry (Begun b t cs) es tail allowed meets known a key = known es (IsTail-same es) a key
  one_entry (Valued b j l sent) es tail allowed meets known a key = known es (IsTail-same es) a key
  one_entry (Happened b f) es tail allowed meets known a key =
      elim (cases_Bool (b == a)) [
        | inl e ↦ rw e (elim (cases_Bool (nat_lt (current (facts_of a es) key) (current_by f key))) [
          | inl up ↦
              let higher : current (facts_of a es) key < current_by f key = ltb-true _ _ up in
              let gave : Gave s all key (current_by f key) (base_by f key) =
              one_fact es (IsTail-drop (Happened b f) es all tail) allowed known b f meets key (omega arith) in
              let number : current (f ∷ facts_of a es) key ≡ current_by f key = omega arith in
              let item : base (f ∷ facts_of a es) key ≡ base_by f key = rw up refl in
              rw (number, item) (inr gave)
          | inr up ↦
              let lower : current_by f key ≤ current (facts_of a es) key = ltb-false _ _ up in
              let number : current (f ∷ facts_of a es) key ≡ current (facts_of a es) key = omega arith in
              let item : base (f ∷ facts_of a es) key ≡ base (facts_of a es) key = rw up refl in
              rw (number, item) (known es (IsTail-same es) a key)
        ])
        | inr e ↦ rw e (known es (IsTail-same es) a key)
      ]

  holds_before : (es : List Entry) → IsTail es all → Allowed s es → (old : List Entry) → IsTail old es →
      (a : ℕ) (key : Key) → Holds s all key (current (facts_of a old) key) (base (facts_of a old) key)
  holds_before [] tail allowed old before a key = subst (λ y. Holds s all key (current (facts_of a y) key) (base (facts_of a y) key)) (sym before) (inl (refl, refl))
  holds_before (e ∷ es) tail allowed old before a key =
      elim before [
        | inl same ↦ subst (λ y. Holds s all key (current (facts_of a y) key) (base (facts_of a y) key)) (sym same)
            (one_entry e es tail allowed.0 allowed.1 (holds_before es (IsTail-drop e es all tail) allowed.0) a key)
        | inr rest ↦ holds_before es (IsTail-drop e es all tail) allowed.0 old rest a key
      ]

  pub holds : (old : List Entry) → IsTail old all → (a : ℕ) (key : Key) → Holds s all key (current (facts_of a old) key) (base (facts_of a old) key)
  holds old tail a key = holds_before all (IsTail-same all) legal old tail a key

  -- two committed Writes of one instance are one
  pub same_write : (cs ds : List Choice) (t u : TxId) (c d : Choice) (body body' : Item) (seen seen' : List TxId) →
      IsCommitted s all t cs → IsCommitted s all u ds → In c cs → In d ds → (spot c) ≡ (spot d) → c.update ≡ Write body seen → d.update ≡ Write body' seen' → c ≡ d
  same_write cs ds t u c d body body' seen seen' committed committed' listed listed' place is is' =
      let own : c.tx ≡ t = begun_own s all t cs legal committed.0 c listed in
      let own' : d.tx ≡ u = begun_own s all u ds legal committed'.0 d listed' in
      let choice : IsChoice all c = (cs, rw own committed.0, listed) in
      let choice' : IsChoice all d = (ds, rw own' committed'.0, listed') in
      elim (cases_Bool (tx_eq c.tx d.tx)) [
        | inl e ↦ one_choice s all c d legal choice choice' ((Decides-tx c.tx d.tx).0 e) place
        | inr e ↦
            let chosen : (k : Ballot) × IsChosen s all (spot c) k t (Accept c) = committed.1 c listed in
            let chosen' : (k : Ballot) × IsChosen s all (spot d) k u (Accept d) = committed'.1 d listed' in
            let agrees : Agrees c d = consistent s all legal (spot c) sizes chosen.0 chosen'.0 c d
            (subst (λ z. IsChosen s all (spot c) chosen.0 z (Accept c)) (sym own) chosen.1)
            (subst (λ z. IsChosen s all z chosen'.0 d.tx (Accept d)) (sym place)
            (subst (λ z. IsChosen s all (spot d) chosen'.0 z (Accept d)) (sym own') chosen'.1))
            (λ same. false≢true (sym e ∙ (Decides-tx c.tx d.tx).1 same))
            (λ aborted. one_outcome s sizes all legal t cs committed (subst (IsAborted s all) own aborted))
            (λ aborted. one_outcome s sizes all legal u ds committed' (subst (IsAborted s all) own' aborted)) in
            let none : ⊥ = rw (is, is') at agrees in
            absurd none
      ]

  pub same_place_of : (c d : Choice) (key : Key) (v : ℕ) → c.key ≡ key → d.key ≡ key → suc c.version ≡ v → suc d.version ≡ v → (spot c) ≡ (spot d)
  same_place_of c d key v p q g h = same_place (spot c) (spot d) (p ∙ sym q, omega arith)

  one_write : (key : Key) (v : ℕ) (x y : Option Item) → Gave s all key v x → Gave s all key v y → x ≡ y
  one_write key v x y (cs, t, committed, (c, seen, body, listed, on, number, is, item)) (ds, u, committed', (d, seen', body', listed', on', number', is', item')) =
      let same : c ≡ d = same_write cs ds t u c d body body' seen seen' committed committed' listed listed' (same_place_of c d key v on on' number number') is is' in
      let writes : Write body seen ≡ Write body' seen' = sym is ∙ ap (λ z. z.update) same ∙ is' in
      let bodies : body ≡ body' = cc in
      item ∙ ap Some bodies ∙ sym item'

  -- centres that hold one version hold one item
  pub one_base : (key : Key) (v : ℕ) (x y : Option Item) → Holds s all key v x → Holds s all key v y → x ≡ y
  one_base key v x y g h =
      elim g [
        | inl first ↦ elim h [
          | inl too ↦ first.1 ∙ sym too.1
          | inr gave ↦ absurd (let number : suc gave.3.0.version ≡ v = gave.3.5 in let none : v ≡ 0 = first.0 in omega arith)
        ]
        | inr gave ↦ elim h [
          | inl first ↦ absurd (let number : suc gave.3.0.version ≡ v = gave.3.5 in let none : v ≡ 0 = first.0 in omega arith)
          | inr too ↦ one_write key v x y gave too
        ]
      ]
