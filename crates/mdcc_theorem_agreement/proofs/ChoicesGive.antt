-- The version, the base and the deltas that choices give, as computed and in the reduced ledger.
use Rattle.std.proofs.Common.{◌≡◌, ℕ, suc, ◌-◌, ◌^◌, ◌<◌, ◌≤◌, ◌==◌, Bool, true, false, cond, ◌&&◌, max, List, [], ◌∷◌, refl, sym, ap, ◌∙◌, subst, arith, inl, inr, ◌⊎◌, Option, Some, None}
use Rattle.std.proofs.lemmas.Bool.{cases_Bool, eq-eqb, ne_eqb}
use Rattle.std.specs.List.{fold}
use Rattle.std.specs.Option.{option_or}
use Rattle.std.specs.Prelude.{is_some}
use Rattle.mdcc_base.specs.Key.{key_eq}
use Rattle.mdcc_base.specs.declared.identifiers.TxId.{TxId}
use Rattle.mdcc_base.specs.declared.key.Key.{Key}
use Rattle.mdcc_option.specs.OneCopy.{next_version}
use Rattle.mdcc_option.specs.declared.choices.Choice.{Choice}
use Rattle.mdcc_option.specs.declared.items.Item.{Item}
use Rattle.mdcc_option.specs.declared.items.Update.{Update}
use Rattle.mdcc_option.specs.declared.items.Update.TheVariants.{Write, Add}
use Rattle.mdcc_def_protocol.specs.Facts as full
use Rattle.mdcc_def_protocol.specs.Marks.{Amounts, is_write}
use Rattle.mdcc_theorem_agreement.proofs.ReducedFacts.{raised, written}
use Rattle.mdcc_theorem_agreement.proofs.ReducedOptions.{In}
use Rattle.mdcc_theorem_agreement.proofs.TestsDecide.{Decides-key}

abbrev pub last_version : ℕ
last_version = 2 ^ 64 - 1

-- choices of different keys, of versions that can be followed
pub record IsFine (cs : List Choice) : Type 0 where
  pub apart : (c d : Choice) → In c cs → In d cs → c.key ≡ d.key → c ≡ d
  pub low : (c : Choice) → In c cs → suc c.version ≤ last_version

IsFine-tail : (c : Choice) (cs : List Choice) → IsFine (c ∷ cs) → IsFine cs
IsFine-tail c cs h = record {
  apart = λ x y g k. h.apart x y (inr g) (inr k);
  low = λ x g. h.low x (inr g);
}

next_suc : (v : ℕ) → suc v ≤ last_version → next_version v ≡ suc v
next_suc v h = omega arith

key_true : (a b : Key) → a ≡ b → key_eq a b ≡ true
key_true a b h = (Decides-key a b).1 h

given_write : (key : Key) (c : Choice) (b : Item) (s : List TxId) → c.key ≡ key → c.update ≡ Write b s → full.version_given key c ≡ next_version c.version
given_write key c b s on is = rw (ap is_write is, key_true c.key key on) refl

given_add : (key : Key) (c : Choice) (m : Amounts) → c.update ≡ Add m → full.version_given key c ≡ 0
given_add key c m is = rw (ap is_write is) refl

given_off : (key : Key) (c : Choice) → key_eq c.key key ≡ false → full.version_given key c ≡ 0
given_off key c e = elim (cases_Bool (is_write c.update)) [ inl w ↦ rw (w, e) refl | inr w ↦ rw w refl ]

-- the versions that choices give
abbrev versions : Key → ℕ → List Choice → ℕ
versions key acc cs = fold (λ version choice. max version (full.version_given key choice)) acc cs

fold_low : (key : Key) (acc : ℕ) (cs : List Choice) → ((d : Choice) → In d cs → full.version_given key d ≤ acc) → versions key acc cs ≡ acc
fold_low key acc [] h = refl
fold_low key acc (c ∷ cs) h =
    let same : max acc (full.version_given key c) ≡ acc = omega (arith, h c (inl refl)) in
    ap (λ z. versions key z cs) same ∙ fold_low key acc cs (λ d g. h d (inr g))

pub Update-is : (u : Update) → ((b : Item) × (s : List TxId) × (u ≡ Write b s)) ⊎ ((m : Amounts) × (u ≡ Add m))
Update-is (Write b s) = inl (b, s, refl)
Update-is (Add m) = inr (m, refl)

pub versions_raised : (key : Key) (cs : List Choice) → IsFine cs → versions key 0 cs ≡ raised cs key
versions_raised key [] h = refl
versions_raised key (c ∷ cs) h =
    elim (cases_Bool (key_eq c.key key)) [
      | inl e ↦
          let on : c.key ≡ key = (Decides-key c.key key).0 e in
          let others : (d : Choice) → In d cs → full.version_given key d ≤ full.version_given key c = λ d g.
          elim (cases_Bool (key_eq d.key key)) [
            | inl f ↦ (let same : c ≡ d = h.apart c d (inl refl) (inr g) (on ∙ sym ((Decides-key d.key key).0 f)) in
                let values : full.version_given key c ≡ full.version_given key d = ap (full.version_given key) same in omega arith)
            | inr f ↦ (let zero_there : full.version_given key d ≡ 0 = given_off key d f in omega arith)
          ] in
          let start : max 0 (full.version_given key c) ≡ full.version_given key c = omega arith in
          let all : versions key 0 (c ∷ cs) ≡ full.version_given key c = ap (λ z. versions key z cs) start ∙ fold_low key (full.version_given key c) cs others in
          all ∙ elim (Update-is c.update) [
            | inl w ↦ given_write key c w.0 w.1 on w.2 ∙ next_suc c.version (h.low c (inl refl)) ∙ (let value : raised (c ∷ cs) key ≡ suc c.version = rw (e, w.2) refl in sym value)
            | inr a ↦ given_add key c a.0 a.1 ∙ (let value : raised (c ∷ cs) key ≡ 0 = rw (e, a.1) refl in sym value)
          ]
      | inr e ↦
          let start : max 0 (full.version_given key c) ≡ 0 = omega (arith, given_off key c e) in
          let value : raised (c ∷ cs) key ≡ raised cs key = rw e refl in
          ap (λ z. versions key z cs) start ∙ versions_raised key cs (IsFine-tail c cs h) ∙ sym value
    ]

-- the base that choices give a version
abbrev bases : Key → ℕ → Option Item → List Choice → Option Item
bases key v acc cs = fold (λ base choice. option_or base (full.base_given key v choice)) acc cs

fold_some : (key : Key) (v : ℕ) (b : Item) (cs : List Choice) → bases key v (Some b) cs ≡ Some b
fold_some key v b [] = refl
fold_some key v b (c ∷ cs) = fold_some key v b cs

fold_none : (key : Key) (v : ℕ) (cs : List Choice) → ((d : Choice) → In d cs → full.base_given key v d ≡ None) → bases key v None cs ≡ None
fold_none key v [] h = refl
fold_none key v (c ∷ cs) h = ap (λ z. bases key v z cs) (h c (inl refl)) ∙ fold_none key v cs (λ d g. h d (inr g))

base_off : (key : Key) (v : ℕ) (c : Choice) → key_eq c.key key ≡ false → full.base_given key v c ≡ None
base_off key v c e = elim (cases_Bool (next_version c.version == v)) [ inl w ↦ rw (w, e) refl | inr w ↦ rw w refl ]

base_add : (key : Key) (v : ℕ) (c : Choice) (m : Amounts) → c.update ≡ Add m → full.base_given key v c ≡ None
base_add key v c m is = rw is (both (next_version c.version == v && key_eq c.key key))
  where
    both : (b : Bool) → cond {A = Option Item} b None None ≡ None
    both true = refl
    both false = refl

base_wrong : (key : Key) (v : ℕ) (c : Choice) → (next_version c.version ≡ v → ⊥) → full.base_given key v c ≡ None
base_wrong key v c h = rw (ne_eqb (next_version c.version) v h) refl

base_write : (key : Key) (c : Choice) (b : Item) (s : List TxId) → c.key ≡ key → c.update ≡ Write b s → full.base_given key (next_version c.version) c ≡ Some b
base_write key c b s on is = rw (is, key_true c.key key on, eq-eqb (next_version c.version) (next_version c.version) refl) refl

-- at the version that they give, the base that is written; at no higher version any
pub bases_written : (key : Key) (cs : List Choice) → IsFine cs → 0 < raised cs key → bases key (raised cs key) None cs ≡ written cs key
bases_written key [] h some = absurd (omega arith)
bases_written key (c ∷ cs) h some =
    elim (cases_Bool (key_eq c.key key)) [
      | inl e ↦
          let on : c.key ≡ key = (Decides-key c.key key).0 e in
          elim (Update-is c.update) [
            | inl w ↦
                let value : raised (c ∷ cs) key ≡ suc c.version = rw (e, w.2) refl in
                let item : written (c ∷ cs) key ≡ Some w.0 = rw (e, w.2) refl in
                let number : next_version c.version ≡ raised (c ∷ cs) key = next_suc c.version (h.low c (inl refl)) ∙ sym value in
                let here : full.base_given key (raised (c ∷ cs) key) c ≡ Some w.0 =
                subst (λ z. full.base_given key z c ≡ Some w.0) number (base_write key c w.0 w.1 on w.2) in
                ap (λ z. bases key (raised (c ∷ cs) key) z cs) here ∙ fold_some key (raised (c ∷ cs) key) w.0 cs ∙ sym item
            | inr a ↦ absurd (let value : raised (c ∷ cs) key ≡ 0 = rw (e, a.1) refl in omega arith)
          ]
      | inr e ↦
          let value : raised (c ∷ cs) key ≡ raised cs key = rw e refl in
          let item : written (c ∷ cs) key ≡ written cs key = rw e refl in
          ap (λ v. bases key v None (c ∷ cs)) value ∙ ap (λ z. bases key (raised cs key) z cs) (base_off key (raised cs key) c e)
          ∙ bases_written key cs (IsFine-tail c cs h) (omega arith) ∙ sym item
    ]

pub written_some : (key : Key) (cs : List Choice) → 0 < raised cs key → is_some (written cs key) ≡ true
written_some key [] h = absurd (omega arith)
written_some key (c ∷ cs) h =
    elim (cases_Bool (key_eq c.key key)) [
      | inl e ↦ elim (Update-is c.update) [
        | inl w ↦ (let item : written (c ∷ cs) key ≡ Some w.0 = rw (e, w.2) refl in ap is_some item)
        | inr a ↦ absurd (let value : raised (c ∷ cs) key ≡ 0 = rw (e, a.1) refl in omega arith)
      ]
      | inr e ↦ (let value : raised (c ∷ cs) key ≡ raised cs key = rw e refl in
          let item : written (c ∷ cs) key ≡ written cs key = rw e refl in ap is_some item ∙ written_some key cs (omega arith))
    ]

pub bases_above : (key : Key) (v : ℕ) (cs : List Choice) → versions key 0 cs < v → bases key v None cs ≡ None
bases_above key v cs h = fold_none key v cs (λ d g. none d (omega (arith, most 0 cs d g)))
  where
    grows : (acc : ℕ) (cs : List Choice) → acc ≤ versions key acc cs
    grows acc [] = omega arith
    grows acc (c ∷ cs) = omega (arith, grows (max acc (full.version_given key c)) cs)

    most : (acc : ℕ) (cs : List Choice) (d : Choice) → In d cs → full.version_given key d ≤ versions key acc cs
    most acc [] d g = absurd g
    most acc (c ∷ cs) d g = elim g [
      | inl here ↦ (let same : full.version_given key c ≡ full.version_given key d = ap (full.version_given key) here in omega (arith, grows (max acc (full.version_given key c)) cs))
      | inr there ↦ most (max acc (full.version_given key c)) cs d there
    ]

    none : (d : Choice) → full.version_given key d < v → full.base_given key v d ≡ None
    none d low = elim (cases_Bool (key_eq d.key key)) [
      | inl e ↦ elim (Update-is d.update) [
        | inl w ↦ base_wrong key v d (λ same. omega (arith, given_write key d w.0 w.1 ((Decides-key d.key key).0 e) w.2))
        | inr a ↦ base_add key v d a.0 a.1
      ]
      | inr e ↦ base_off key v d e
    ]
