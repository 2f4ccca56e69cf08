-- What transactions that fit leave of a key.
use Rattle.std.proofs.Common.{◌≡◌, ℕ, suc, ◌≤◌, ◌<◌, true, false, List, [], ◌∷◌, refl, sym, ap, ◌∙◌, subst, arith, inl, inr, ◌⊎◌, Some, None}
use Rattle.std.proofs.lemmas.Bool.{cases_Bool, false≢true, cases_order}
use Rattle.mdcc_base.specs.Key.{key_eq}
use Rattle.mdcc_base.specs.declared.identifiers.TxId.{TxId}
use Rattle.mdcc_base.specs.declared.key.Key.{Key}
use Rattle.mdcc_option.specs.declared.choices.Choice.{Choice}
use Rattle.mdcc_option.specs.declared.items.Item.{Item}
use Rattle.mdcc_option.specs.declared.items.Update.TheVariants.{Write, Add}
use Rattle.mdcc_def_protocol.specs.Marks.{Amounts}
use Rattle.mdcc_struct.proofs.Reports.{cases_Option}
use Rattle.mdcc_theorem_agreement.proofs.OneBase.{Update-cases}
use Rattle.mdcc_theorem_agreement.proofs.Setups.{Setup}
use Rattle.mdcc_theorem_agreement.proofs.ReducedOptions.{In, Apart, is_add}
use Rattle.mdcc_theorem_agreement.proofs.TestsDecide.{Decides-key}
use Rattle.mdcc_theorem_one_copy.proofs.Slots.{Slot, on_key, updated, after, slot, Applies, IsRun}

-- the choice on a key
pub on_key-shows : (cs : List Choice) (key : Key) (c : Choice) → on_key cs key ≡ Some c → In c cs × (c.key ≡ key)
on_key-shows [] key c h = absurd (cc)
on_key-shows (d ∷ cs) key c h =
    elim (cases_Bool (key_eq d.key key)) [
      | inl e ↦
          let is : Some d ≡ Some c = rw e at h in
          let same : d ≡ c = cc in
          (inl same, ap (λ (z : Choice). z.key) (sym same) ∙ (Decides-key d.key key).0 e)
      | inr e ↦ let rest : In c cs × (c.key ≡ key) = on_key-shows cs key c (rw e at h) in (inr rest.0, rest.1)
    ]

pub on_key-finds : (cs : List Choice) (key : Key) (c : Choice) → ((d e : Choice) → In d cs → In e cs → d.key ≡ e.key → d ≡ e) →
    In c cs → c.key ≡ key → on_key cs key ≡ Some c
on_key-finds [] key c apart h on = absurd h
on_key-finds (d ∷ cs) key c apart h on =
    elim (cases_Bool (key_eq d.key key)) [
      | inl e ↦
          let same : d ≡ c = apart d c (inl refl) h ((Decides-key d.key key).0 e ∙ sym on) in
          rw e (ap Some same)
      | inr e ↦ rw e (elim h [
        | inl here ↦ absurd (false≢true (sym e ∙ (Decides-key d.key key).1 (ap (λ (z : Choice). z.key) here ∙ on)))
        | inr there ↦ on_key-finds cs key c (λ x y g k. apart x y (inr g) (inr k)) there on
      ])
    ]

-- the choices of each transaction are of different keys
abbrev pub AllKeyed : List (TxId × List Choice) → Type 0
AllKeyed done = (x : TxId × List Choice) → In x done → (d e : Choice) → In d x.1 → In e x.1 → d.key ≡ e.key → d ≡ e

-- a choice of one of them, on a key
abbrev pub Has : List (TxId × List Choice) → Key → Choice → Type 0
Has done key c = (x : TxId × List Choice) × In x done × In c x.1 × (c.key ≡ key)

Has-more : (x : TxId × List Choice) (done : List (TxId × List Choice)) (key : Key) (c : Choice) → Has done key c → Has (x ∷ done) key c
Has-more x done key c h = (h.0, inr h.1, h.2, h.3)

Has-new : (x : TxId × List Choice) (done : List (TxId × List Choice)) (key : Key) (c : Choice) → on_key x.1 key ≡ Some c → Has (x ∷ done) key c
Has-new x done key c h = (x, inl refl, (on_key-shows x.1 key c h).0, (on_key-shows x.1 key c h).1)

-- what one more transaction does to a key
pub data Step (done : List (TxId × List Choice)) (x : TxId × List Choice) (key : Key) : Type 0 where
  other : on_key x.1 key ≡ None → Step done x key
  wrote : (c : Choice) (s : List TxId) (b : Item) → on_key x.1 key ≡ Some c → c.update ≡ Write b s → Step done x key
  added : (c : Choice) (m : Amounts) → on_key x.1 key ≡ Some c → c.update ≡ Add m → Step done x key

pub step : (done : List (TxId × List Choice)) (x : TxId × List Choice) (key : Key) → Step done x key
step done x key =
    elim (cases_Option (on_key x.1 key)) [
      | inl none ↦ other none
      | inr some ↦ elim (Update-cases some.0.update) [
        | inl w ↦ wrote some.0 w.0 w.1 some.1 w.2
        | inr a ↦ added some.0 a.0 some.1 a.1
      ]
    ]

pub slot-other : (done : List (TxId × List Choice)) (x : TxId × List Choice) (key : Key) → on_key x.1 key ≡ None → slot (x ∷ done) key ≡ slot done key
slot-other done x key h = rw h refl

pub slot-wrote : (done : List (TxId × List Choice)) (x : TxId × List Choice) (key : Key) (c : Choice) (s : List TxId) (b : Item) → on_key x.1 key ≡ Some c → c.update ≡ Write b s →
    slot (x ∷ done) key ≡ record { version = suc (slot done key).version; item = Some b; deltas = [] }
slot-wrote done x key c s b h u = ap (after (slot done key)) h ∙ ap (updated (slot done key) c) u

pub slot-added : (done : List (TxId × List Choice)) (x : TxId × List Choice) (key : Key) (c : Choice) (m : Amounts) → on_key x.1 key ≡ Some c → c.update ≡ Add m →
    slot (x ∷ done) key ≡ record { version = (slot done key).version; item = (slot done key).item; deltas = c ∷ (slot done key).deltas }
slot-added done x key c m h u = ap (after (slot done key)) h ∙ ap (updated (slot done key) c) u

-- the version that a choice of the newest transaction named was the present one
named : (z : Setup) → (done : List (TxId × List Choice)) (x : TxId × List Choice) (key : Key) (c : Choice) → Applies z done x → on_key x.1 key ≡ Some c → (slot done key).version ≡ c.version
named z done x key c applies h =
    let shown : In c x.1 × (c.key ≡ key) = on_key-shows x.1 key c h in
    let is : (slot done c.key).version ≡ c.version = (applies c shown.0).0 in
    subst (λ z. (slot done z).version ≡ c.version) shown.1 is

-- versions only rise
version-rises : (done : List (TxId × List Choice)) (x : TxId × List Choice) (key : Key) → (slot done key).version ≤ (slot (x ∷ done) key).version
version-rises done x key =
    elim (step done x key) [
      | other none ↦ omega (arith, ap (λ (z : Slot). z.version) (slot-other done x key none))
      | wrote c s b h u ↦ omega (arith, ap (λ (z : Slot). z.version) (slot-wrote done x key c s b h u))
      | added c m h u ↦ omega (arith, ap (λ (z : Slot). z.version) (slot-added done x key c m h u))
    ]

-- each version below the present one was closed by a Write
pub closed : (z : Setup) → (done : List (TxId × List Choice)) (key : Key) (w : ℕ) → IsRun z done → w < (slot done key).version →
    (c : Choice) × Has done key c × (c.version ≡ w) × (is_add c.update ≡ false)
closed z [] key w run h = absurd (omega arith)
closed z (x ∷ done) key w run h =
    elim (step done x key) [
      | other none ↦
          let rest : (c : Choice) × Has done key c × (c.version ≡ w) × (is_add c.update ≡ false) =
          closed z done key w run.0 (omega (arith, ap (λ (z : Slot). z.version) (slot-other done x key none))) in
          (rest.0, Has-more x done key rest.0 rest.1, rest.2, rest.3)
      | added c m g u ↦
          let rest : (c : Choice) × Has done key c × (c.version ≡ w) × (is_add c.update ≡ false) =
          closed z done key w run.0 (omega (arith, ap (λ (z : Slot). z.version) (slot-added done x key c m g u))) in
          (rest.0, Has-more x done key rest.0 rest.1, rest.2, rest.3)
      | wrote c s b g u ↦
          let is : (slot done key).version ≡ c.version = named z done x key c run.1 g in
          let up : (slot (x ∷ done) key).version ≡ suc (slot done key).version = ap (λ (z : Slot). z.version) (slot-wrote done x key c s b g u) in
          elim (cases_order w c.version) [
            | inl same ↦ (c, Has-new x done key c g, sym same, ap is_add u)
            | inr more ↦ elim more [
              | inl less ↦
                  let rest : (d : Choice) × Has done key d × (d.version ≡ w) × (is_add d.update ≡ false) = closed z done key w run.0 (omega arith) in
                  (rest.0, Has-more x done key rest.0 rest.1, rest.2, rest.3)
              | inr over ↦ absurd (omega arith)
            ]
          ]
    ]

-- no choice of a run is above the present version
pub within_version : (z : Setup) → (done : List (TxId × List Choice)) (key : Key) (c : Choice) → IsRun z done → AllKeyed done → Has done key c → c.version ≤ (slot done key).version
within_version z [] key c run keyed h = absurd h.1
within_version z (x ∷ done) key c run keyed h =
    elim h.1 [
      | inl here ↦
          let listed : In c x.1 = rw here h.2 in
          let found : on_key x.1 key ≡ Some c = on_key-finds x.1 key c (keyed x (inl refl)) listed h.3 in
          omega (arith, named z done x key c run.1 found, version-rises done x key)
      | inr there ↦ omega (arith, within_version z done key c run.0 (λ y k. keyed y (inr k)) (h.0, there, h.2, h.3), version-rises done x key)
    ]

-- a Write of a run is below the present version
pub write_below : (z : Setup) → (done : List (TxId × List Choice)) (key : Key) (c : Choice) → IsRun z done → AllKeyed done → Has done key c → is_add c.update ≡ false → c.version < (slot done key).version
write_below z [] key c run keyed h is = absurd h.1
write_below z (x ∷ done) key c run keyed h is =
    elim h.1 [
      | inl here ↦
          let listed : In c x.1 = rw here h.2 in
          let found : on_key x.1 key ≡ Some c = on_key-finds x.1 key c (keyed x (inl refl)) listed h.3 in
          elim (Update-cases c.update) [
            | inl w ↦ omega (arith, named z done x key c run.1 found, ap (λ (z : Slot). z.version) (slot-wrote done x key c w.0 w.1 found w.2))
            | inr a ↦ absurd (false≢true (sym is ∙ ap is_add a.1))
          ]
      | inr there ↦ omega (arith, write_below z done key c run.0 (λ y k. keyed y (inr k)) (h.0, there, h.2, h.3) is, version-rises done x key)
    ]

-- the deltas are the Adds of the present version
pub delta_shows : (z : Setup) → (done : List (TxId × List Choice)) (key : Key) (d : Choice) → IsRun z done → In d (slot done key).deltas →
    Has done key d × (d.version ≡ (slot done key).version) × (is_add d.update ≡ true)
delta_shows z [] key d run h = absurd h
delta_shows z (x ∷ done) key d run h =
    elim (step done x key) [
      | other none ↦
          let is : slot (x ∷ done) key ≡ slot done key = slot-other done x key none in
          let rest : Has done key d × (d.version ≡ (slot done key).version) × (is_add d.update ≡ true) =
          delta_shows z done key d run.0 (subst (λ (z : Slot). In d z.deltas) is h) in
          (Has-more x done key d rest.0, rest.1 ∙ sym (ap (λ (z : Slot). z.version) is), rest.2)
      | wrote c s b g u ↦ absurd (let none : In d [] = subst (λ (z : Slot). In d z.deltas) (slot-wrote done x key c s b g u) h in none)
      | added c m g u ↦
          let is : slot (x ∷ done) key ≡ record { version = (slot done key).version; item = (slot done key).item; deltas = c ∷ (slot done key).deltas } = slot-added done x key c m g u in
          let listed : In d (c ∷ (slot done key).deltas) = subst (λ (z : Slot). In d z.deltas) is h in
          let number : (slot (x ∷ done) key).version ≡ (slot done key).version = ap (λ (z : Slot). z.version) is in
          elim listed [
            | inl here ↦
                let new : Has (x ∷ done) key c = Has-new x done key c g in (
                  subst (Has (x ∷ done) key) here new,
                  ap (λ (z : Choice). z.version) (sym here) ∙ sym (named z done x key c run.1 g) ∙ sym number,
                  ap (λ (z : Choice). is_add z.update) (sym here) ∙ ap is_add u,
                )
            | inr there ↦
                let rest : Has done key d × (d.version ≡ (slot done key).version) × (is_add d.update ≡ true) = delta_shows z done key d run.0 there in
                (Has-more x done key d rest.0, rest.1 ∙ sym number, rest.2)
          ]
    ]

pub delta_there : (z : Setup) → (done : List (TxId × List Choice)) (key : Key) (d : Choice) → IsRun z done → AllKeyed done → Has done key d → is_add d.update ≡ true →
    d.version ≡ (slot done key).version → In d (slot done key).deltas
delta_there z [] key d run keyed h add now = absurd h.1
delta_there z (x ∷ done) key d run keyed h add now =
    elim (step done x key) [
      | other none ↦
          let is : slot (x ∷ done) key ≡ slot done key = slot-other done x key none in
          elim h.1 [
            | inl here ↦ absurd (
                let found : on_key x.1 key ≡ Some d = on_key-finds x.1 key d (keyed x (inl refl)) (rw here h.2) h.3 in
                cc)
            | inr there ↦ subst (λ (z : Slot). In d z.deltas) (sym is)
                (delta_there z done key d run.0 (λ y k. keyed y (inr k)) (h.0, there, h.2, h.3) add (now ∙ ap (λ (z : Slot). z.version) is))
          ]
      | wrote c s b g u ↦
          let up : (slot (x ∷ done) key).version ≡ suc (slot done key).version = ap (λ (z : Slot). z.version) (slot-wrote done x key c s b g u) in
          elim h.1 [
            | inl here ↦ absurd (
                let found : on_key x.1 key ≡ Some d = on_key-finds x.1 key d (keyed x (inl refl)) (rw here h.2) h.3 in
                let same : Some c ≡ Some d = sym g ∙ found in
                let choice : c ≡ d = cc in
                false≢true (sym (ap is_add u) ∙ ap (λ (z : Choice). is_add z.update) choice ∙ add))
            | inr there ↦ absurd (omega (arith, within_version z done key d run.0 (λ y k. keyed y (inr k)) (h.0, there, h.2, h.3)))
          ]
      | added c m g u ↦
          let is : slot (x ∷ done) key ≡ record { version = (slot done key).version; item = (slot done key).item; deltas = c ∷ (slot done key).deltas } = slot-added done x key c m g u in
          subst (λ (z : Slot). In d z.deltas) (sym is) (elim h.1 [
            | inl here ↦
                let found : on_key x.1 key ≡ Some d = on_key-finds x.1 key d (keyed x (inl refl)) (rw here h.2) h.3 in
                let same : Some c ≡ Some d = sym g ∙ found in
                inl (cc)
            | inr there ↦ inr (delta_there z done key d run.0 (λ y k. keyed y (inr k)) (h.0, there, h.2, h.3) add (now ∙ ap (λ (z : Slot). z.version) is))
          ])
    ]

-- the item is that of the Write that gave the present version
abbrev pub Written : List (TxId × List Choice) → Key → Slot → Type 0
Written done key sl =
    (c : Choice) × (s : List TxId) × (b : Item) × Has done key c × (suc c.version ≡ sl.version) × (c.update ≡ Write b s) × (sl.item ≡ Some b)

pub item_shows : (z : Setup) → (done : List (TxId × List Choice)) (key : Key) → IsRun z done →
    (((slot done key).version ≡ 0) × ((slot done key).item ≡ None)) ⊎ Written done key (slot done key)
item_shows z [] key run = inl (refl, refl)
item_shows z (x ∷ done) key run =
    elim (step done x key) [
      | other none ↦
          let is : slot (x ∷ done) key ≡ slot done key = slot-other done x key none in
          elim (item_shows z done key run.0) [
            | inl first ↦ inl (ap (λ (z : Slot). z.version) is ∙ first.0, ap (λ (z : Slot). z.item) is ∙ first.1)
            | inr w ↦ inr (w.0, w.1, w.2, Has-more x done key w.0 w.3, w.4 ∙ sym (ap (λ (z : Slot). z.version) is), w.5, ap (λ (z : Slot). z.item) is ∙ w.6)
          ]
      | wrote c s b g u ↦
          let is : slot (x ∷ done) key ≡ record { version = suc (slot done key).version; item = Some b; deltas = [] } = slot-wrote done x key c s b g u in
          inr (c, s, b, Has-new x done key c g, ap suc (sym (named z done x key c run.1 g)) ∙ sym (ap (λ (z : Slot). z.version) is), u, ap (λ (z : Slot). z.item) is)
      | added c m g u ↦
          let is : slot (x ∷ done) key ≡ record { version = (slot done key).version; item = (slot done key).item; deltas = c ∷ (slot done key).deltas } = slot-added done x key c m g u in
          elim (item_shows z done key run.0) [
            | inl first ↦ inl (ap (λ (z : Slot). z.version) is ∙ first.0, ap (λ (z : Slot). z.item) is ∙ first.1)
            | inr w ↦ inr (w.0, w.1, w.2, Has-more x done key w.0 w.3, w.4 ∙ sym (ap (λ (z : Slot). z.version) is), w.5, ap (λ (z : Slot). z.item) is ∙ w.6)
          ]
    ]

-- each transaction stands once, with its own choices
abbrev pub OnceEach : List (TxId × List Choice) → Type 0
OnceEach [] = Unit {0}
OnceEach (x ∷ xs) = ((y : TxId × List Choice) → In y xs → y.0 ≡ x.0 → ⊥) × OnceEach xs

abbrev pub AllOwn : List (TxId × List Choice) → Type 0
AllOwn done = (x : TxId × List Choice) → In x done → (c : Choice) → In c x.1 → c.tx ≡ x.0

pub deltas_apart : (z : Setup) → (done : List (TxId × List Choice)) (key : Key) → IsRun z done → OnceEach done → AllOwn done → Apart (slot done key).deltas
deltas_apart z [] key run once own = tt
deltas_apart z (x ∷ done) key run once own =
    let rest : Apart (slot done key).deltas = deltas_apart z done key run.0 once.1 (λ y k. own y (inr k)) in
    elim (step done x key) [
      | other none ↦ subst (λ (z : Slot). Apart z.deltas) (sym (slot-other done x key none)) rest
      | wrote c s b g u ↦ subst (λ (z : Slot). Apart z.deltas) (sym (slot-wrote done x key c s b g u)) tt
      | added c m g u ↦ subst (λ (z : Slot). Apart z.deltas) (sym (slot-added done x key c m g u)) (
        (λ d h same.
            let has : Has done key d = (delta_shows z done key d run.0 h).0 in
            let mine : c.tx ≡ x.0 = own x (inl refl) c (on_key-shows x.1 key c g).0 in
            let its : d.tx ≡ has.0.0 = own has.0 (inr has.1) d has.2 in
            once.0 has.0 has.1 (sym its ∙ same ∙ mine)),
        rest,
      )
    ]
