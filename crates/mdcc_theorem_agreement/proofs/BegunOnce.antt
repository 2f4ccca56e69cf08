-- Transactions that were begun: one for an identifier, and what its tokens name.
use Rattle.std.proofs.Common.{cond, ◌≡◌, ℕ, ◌==◌, true, ◌&&◌, List, [], ◌∷◌, ◌++◌, refl, sym, ap, ◌∙◌, subst, inl, inr, ◌⊎◌}
use Rattle.std.proofs.lemmas.Bool.{cases_Bool, and_parts, eqb-true}
use Rattle.mdcc_base.specs.Key.{key_eq}
use Rattle.mdcc_base.specs.declared.identifiers.TxId.{TxId}
use Rattle.mdcc_option.specs.declared.choices.Choice.{Choice}
use Rattle.mdcc_option.specs.declared.choices.Outcome.TheVariants.{Commit, Abort}
use Rattle.mdcc_option.specs.declared.items.Item.{Item}
use Rattle.mdcc_option.specs.declared.items.Update.{Update}
use Rattle.mdcc_option.specs.declared.items.Update.TheVariants.{Write, Add}
use Rattle.mdcc_def_protocol.specs.Marks.{Amounts}
use Rattle.mdcc_theorem_agreement.proofs.LedgersGrow.{IsTail-same}
use Rattle.mdcc_theorem_agreement.proofs.Setups.{Setup}
use Rattle.mdcc_theorem_agreement.proofs.ReducedFacts.{ReducedFact, Booted, Floor, Promised, Voted, Heard, Adopted, amounts_of, adds_at, executed_by, executed}
use Rattle.mdcc_theorem_agreement.proofs.ReducedLedger.{Entry, Happened, Begun, Valued, facts_of, WasBegun, IsChoice, IsTail, MayHappen, Meets, Allowed}
use Rattle.mdcc_theorem_agreement.proofs.ReducedOptions.{spot, In, Place, place_eq}
use Rattle.mdcc_theorem_agreement.proofs.TestsDecide.{Decides-key, Decides-place, same_place}

pub WasBegun-more : (e : Entry) (es : List Entry) (t : TxId) (cs : List Choice) → WasBegun es t cs → WasBegun (e ∷ es) t cs
WasBegun-more (Happened b f) es t cs h = h
WasBegun-more (Valued b j l sent) es t cs h = h
WasBegun-more (Begun b u ds) es t cs h = inr h

pub WasBegun-tail : (t : TxId) (cs : List Choice) (old es : List Entry) → IsTail old es → WasBegun old t cs → WasBegun es t cs
WasBegun-tail t cs old [] tail h = subst (λ y. WasBegun y t cs) tail h
WasBegun-tail t cs old (e ∷ es) tail h =
    elim tail [ inl same ↦ subst (λ y. WasBegun y t cs) same h | inr rest ↦ WasBegun-more e es t cs (WasBegun-tail t cs old es rest h) ]

pub IsChoice-tail : (c : Choice) (old es : List Entry) → IsTail old es → IsChoice old c → IsChoice es c
IsChoice-tail c old es tail h = (h.0, WasBegun-tail c.tx h.0 old es tail h.1, h.2)

-- an identifier is begun once
pub begun_once : (s : Setup) (es : List Entry) (t : TxId) (cs ds : List Choice) → Allowed s es → WasBegun es t cs → WasBegun es t ds → cs ≡ ds
begun_once s [] t cs ds allowed g h = absurd g
begun_once s (Happened b f ∷ es) t cs ds allowed g h = begun_once s es t cs ds allowed.0 g h
begun_once s (Valued b j l sent ∷ es) t cs ds allowed g h = begun_once s es t cs ds allowed.0 g h
begun_once s (Begun b u us ∷ es) t cs ds allowed g h =
    elim g [
      | inl here ↦ elim h [
        | inl too ↦ sym here.1 ∙ too.1
        | inr there ↦ absurd (allowed.1.new ds (rw here.0 there))
      ]
      | inr there ↦ elim h [
        | inl here ↦ absurd (allowed.1.new cs (rw here.0 there))
        | inr too ↦ begun_once s es t cs ds allowed.0 there too
      ]
    ]

-- the choices of a transaction are its own, and of different keys
pub begun_own : (s : Setup) (es : List Entry) (t : TxId) (cs : List Choice) → Allowed s es → WasBegun es t cs → (c : Choice) → In c cs → c.tx ≡ t
begun_own s [] t cs allowed g c h = absurd g
begun_own s (Happened b f ∷ es) t cs allowed g c h = begun_own s es t cs allowed.0 g c h
begun_own s (Valued b j l sent ∷ es) t cs allowed g c h = begun_own s es t cs allowed.0 g c h
begun_own s (Begun b u us ∷ es) t cs allowed g c h =
    elim g [
      | inl here ↦ allowed.1.own c (rw here.1 h) ∙ here.0
      | inr there ↦ begun_own s es t cs allowed.0 there c h
    ]

pub begun_apart : (s : Setup) (es : List Entry) (t : TxId) (cs : List Choice) → Allowed s es → WasBegun es t cs →
    (c d : Choice) → In c cs → In d cs → c.key ≡ d.key → c ≡ d
begun_apart s [] t cs allowed g c d h k same = absurd g
begun_apart s (Happened b f ∷ es) t cs allowed g c d h k same = begun_apart s es t cs allowed.0 g c d h k same
begun_apart s (Valued b j l sent ∷ es) t cs allowed g c d h k same = begun_apart s es t cs allowed.0 g c d h k same
begun_apart s (Begun b u us ∷ es) t cs allowed g c d h k same =
    elim g [
      | inl here ↦ allowed.1.apart c d (rw here.1 h) (rw here.1 k) same
      | inr there ↦ begun_apart s es t cs allowed.0 there c d h k same
    ]

-- a transaction has one choice at an instance
pub one_choice : (s : Setup) (es : List Entry) (c d : Choice) → Allowed s es → IsChoice es c → IsChoice es d → c.tx ≡ d.tx → (spot c) ≡ (spot d) → c ≡ d
one_choice s es c d allowed g h tx place =
    let begun : WasBegun es c.tx h.0 = rw tx h.1 in
    let same : h.0 ≡ g.0 = begun_once s es c.tx h.0 g.0 allowed begun g.1 in
    begun_apart s es c.tx g.0 allowed g.1 c d g.2 (rw (← same) h.2) (ap (λ z. z.key) place)

-- a delta is the Add of a transaction that was begun, at its instance
abbrev pub HasAdd : List Entry → TxId × Amounts → Place → Type 0
HasAdd es p i = (d : Choice) × IsChoice es d × (d.tx ≡ p.0) × (spot d ≡ i) × (d.update ≡ Add p.1)

pub HasAdd-tail : (p : TxId × Amounts) (i : Place) (old es : List Entry) → IsTail old es → HasAdd old p i → HasAdd es p i
HasAdd-tail p i old es tail h = (h.0, IsChoice-tail h.0 old es tail h.1, h.2, h.3, h.4)

pub In-append : {A : Type 0} (x : A) (xs ys : List A) → In x (xs ++ ys) → In x xs ⊎ In x ys
In-append x [] ys h = inr h
In-append x (y ∷ xs) ys h =
    elim h [ inl here ↦ inl (inl here) | inr there ↦ elim (In-append x xs ys there) [ inl a ↦ inl (inr a) | inr b ↦ inr b ] ]

pub amounts_of-shows : (p : TxId × Amounts) (t : TxId) (u : Update) → In p (amounts_of t u) → (t ≡ p.0) × (u ≡ Add p.1)
amounts_of-shows p t (Write b s) h = absurd h
amounts_of-shows p t (Add m) h =
    elim h [
      | inl here ↦ (ap (λ (z : TxId × Amounts). z.0) here, ap (λ (z : TxId × Amounts). Add z.1) here)
      | inr none ↦ absurd none
    ]

pub adds_at-shows : (p : TxId × Amounts) (cs : List Choice) (i : Place) → In p (adds_at cs i) →
    (c : Choice) × In c cs × (c.tx ≡ p.0) × (spot c ≡ i) × (c.update ≡ Add p.1)
adds_at-shows p [] i h = absurd h
adds_at-shows p (c ∷ cs) i h =
    let later : In p (adds_at cs i) → (d : Choice) × In d (c ∷ cs) × (d.tx ≡ p.0) × (spot d ≡ i) × (d.update ≡ Add p.1) =
    λ g. let more : (d : Choice) × In d cs × (d.tx ≡ p.0) × (spot d ≡ i) × (d.update ≡ Add p.1) = adds_at-shows p cs i g in
    (more.0, inr more.1, more.2, more.3, more.4) in
    elim (In-append p (cond (place_eq (spot c) i) (amounts_of c.tx c.update) []) (adds_at cs i) h) [
      | inl here ↦ elim (cases_Bool (place_eq (spot c) i)) [
        | inl e ↦
            let listed : In p (amounts_of c.tx c.update) = rw e at here in
            let shown : (c.tx ≡ p.0) × (c.update ≡ Add p.1) = amounts_of-shows p c.tx c.update listed in
            (c, inl refl, shown.0, (Decides-place (spot c) i).0 e, shown.1)
        | inr e ↦ let none : ⊥ = rw e at here in absurd none
      ]
      | inr there ↦ later there
    ]

-- what one fact executes was begun with an Add, where that holds of all that stood before
executed_by-adds : (s : Setup) (es : List Entry) → Allowed s es →
    ((old : List Entry) → IsTail old es → (a : ℕ) (i : Place) (p : TxId × Amounts) → In p (executed (facts_of a old) i) → HasAdd es p i) →
    (a : ℕ) (f : ReducedFact) → MayHappen s es a f → (i : Place) (p : TxId × Amounts) → In p (executed_by f i) → HasAdd es p i
executed_by-adds s es allowed known a (Booted e) may i p h = absurd h
executed_by-adds s es allowed known a (Floor origin era upto) may i p h = absurd h
executed_by-adds s es allowed known a (Promised key low high l) may i p h = absurd h
executed_by-adds s es allowed known a (Voted j l marks) may i p h = absurd h
executed_by-adds s es allowed known a (Heard t Abort) may i p h = absurd h
executed_by-adds s es allowed known a (Heard t (Commit cs)) may i p h =
    let shown : (c : Choice) × In c cs × (c.tx ≡ p.0) × (spot c ≡ i) × (c.update ≡ Add p.1) = adds_at-shows p cs i h in
    let own : shown.0.tx ≡ t = begun_own s es t cs allowed may.0 shown.0 shown.1 in
    (shown.0, (cs, rw own may.0, shown.1), shown.2, shown.3, shown.4)
executed_by-adds s es allowed known a (Adopted key version base deltas) may i p h =
    elim (cases_Bool (key_eq key i.key && (version == i.version))) [
      | inl e ↦
          let parts : (key_eq key i.key ≡ true) × ((version == i.version) ≡ true) = and_parts _ _ e in
          let place : record { key = key; version = version } ≡ i = same_place (record { key = key; version = version }) i ((Decides-key key i.key).0 parts.0, eqb-true version i.version parts.1) in
          let listed : In p deltas = rw e at h in
          known may.old may.before may.giver i p (subst (λ z. In p (executed (facts_of may.giver may.old) z)) place (may.executed_there p listed))
      | inr e ↦ let none : ⊥ = rw e at h in absurd none
    ]

executed_entry : (s : Setup) (es : List Entry) (e : Entry) → Allowed s es → Meets s es e →
    ((old : List Entry) → IsTail old es → (a : ℕ) (i : Place) (p : TxId × Amounts) → In p (executed (facts_of a old) i) → HasAdd es p i) →
    (a : ℕ) (i : Place) (p : TxId × Amounts) → In p (executed (facts_of a (e ∷ es)) i) → HasAdd es p i
executed_entry s es (Begun b t cs) allowed meets known a i p h = known es (IsTail-same es) a i p h
executed_entry s es (Valued b j l sent) allowed meets known a i p h = known es (IsTail-same es) a i p h
executed_entry s es (Happened b f) allowed meets known a i p h =
    elim (cases_Bool (b == a)) [
      | inl e ↦
          let listed : In p (executed_by f i ++ executed (facts_of a es) i) = rw e at h in
          elim (In-append p (executed_by f i) (executed (facts_of a es) i) listed) [
            | inl here ↦ executed_by-adds s es allowed known b f meets i p here
            | inr there ↦ known es (IsTail-same es) a i p there
          ]
      | inr e ↦ known es (IsTail-same es) a i p (rw e at h)
    ]

pub executed_adds : (s : Setup) (es : List Entry) → Allowed s es → (old : List Entry) → IsTail old es →
    (a : ℕ) (i : Place) (p : TxId × Amounts) → In p (executed (facts_of a old) i) → HasAdd es p i
executed_adds s [] allowed old tail a i p h = let none : In p (executed (facts_of a []) i) = subst (λ y. In p (executed (facts_of a y) i)) tail h in absurd none
executed_adds s (e ∷ es) allowed old tail a i p h =
    HasAdd-tail p i es (e ∷ es) (inr (IsTail-same es))
    (elim tail [
      | inl same ↦ executed_entry s es e allowed.0 allowed.1 (executed_adds s es allowed.0) a i p (subst (λ y. In p (executed (facts_of a y) i)) same h)
      | inr rest ↦ executed_adds s es allowed.0 old rest a i p h
    ])

-- what a Write has seen are Adds at its instance
abbrev pub HasSeen : List Entry → TxId → Place → Type 0
HasSeen es u i = (m : Amounts) × HasAdd es (u, m) i

pub seen_adds : (s : Setup) (es : List Entry) → Allowed s es → (t : TxId) (cs : List Choice) → WasBegun es t cs →
    (c : Choice) → In c cs → (seen : List TxId) (b : Item) → c.update ≡ Write b seen → (u : TxId) → In u seen → HasSeen es u (spot c)
seen_adds s [] allowed t cs g c h seen b is u listed = absurd g
seen_adds s (Happened z f ∷ es) allowed t cs g c h seen b is u listed =
    let k : HasSeen es u (spot c) = seen_adds s es allowed.0 t cs g c h seen b is u listed in
    (k.0, HasAdd-tail (u, k.0) (spot c) es (Happened z f ∷ es) (inr (IsTail-same es)) k.1)
seen_adds s (Valued z j l sent ∷ es) allowed t cs g c h seen b is u listed =
    let k : HasSeen es u (spot c) = seen_adds s es allowed.0 t cs g c h seen b is u listed in
    (k.0, HasAdd-tail (u, k.0) (spot c) es (Valued z j l sent ∷ es) (inr (IsTail-same es)) k.1)
seen_adds s (Begun z w us ∷ es) allowed t cs g c h seen b is u listed =
    let k : HasSeen es u (spot c) =
    elim g [
      | inl here ↦
          let there : (m : Amounts) × In (u, m) (executed (facts_of z es) (spot c)) = allowed.1.seen c seen b (rw here.1 h) is u listed in
          (there.0, executed_adds s es allowed.0 es (IsTail-same es) z (spot c) (u, there.0) there.1)
      | inr there ↦ seen_adds s es allowed.0 t cs there c h seen b is u listed
    ] in
    (k.0, HasAdd-tail (u, k.0) (spot c) es (Begun z w us ∷ es) (inr (IsTail-same es)) k.1)
