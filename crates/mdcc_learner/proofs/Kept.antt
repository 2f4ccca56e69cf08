-- What a map has at a key after a write.
use Rattle.std.proofs.Common.{◌≡◌, Bool, true, false, ◌&&◌, cond, List, [], ◌++◌, Option, Some, None, refl, sym, ap, ◌∙◌, subst, inl, inr, append-nil}
use Rattle.std.proofs.lemmas.Bool.{cases_Bool}
use Rattle.mdcc_base.specs.Key.{key_eq}
use Rattle.mdcc_base.specs.declared.key.Key.{Key}
use Rattle.mdcc_option.proofs.Equal.{Decides-key}

pub key_eq-same : (a b : Key) → key_eq a b ≡ true → a ≡ b
key_eq-same a b e = (Decides-key a b).0 e

pub cond-and : {X : Type 0} (a b : Bool) (xs : List X) → cond (a && b) xs [] ≡ cond a (cond b xs []) []
cond-and true b xs = refl
cond-and false b xs = refl

-- a map M with values V at keys K, of which lists are read
module _ {K V X M : Type 0} (eq : K → K → Bool) (same : (a b : K) → eq a b ≡ true → a ≡ b) (get : M → K → Option V) (read : Option V → List X) where
  -- the value w is put at a key: what is read has more behind what was there
  put : (old new : M) (k key : K) (w : V) (more : List X) → get new key ≡ cond (eq k key) (Some w) (get old key) → read (Some w) ≡ read (get old k) ++ more
      → read (get new key) ≡ read (get old key) ++ cond (eq k key) more []
  put old new k key w more at behind =
      elim (cases_Bool (eq k key)) [
        | inl e ↦
            let P : K → Type 0 = λ x. read (Some w) ≡ read (get old x) ++ more in
            rw (at, e) (subst P (same k key e) behind)
        | inr e ↦ rw (at, e) (sym (append-nil _))
      ]

  -- the same where there was no value
  pub put-new : (old lent new : M) (k key : K) (w : V) (more : List X) → lent ≡ old → None ≡ get old k → read None ≡ [] → read (Some w) ≡ more
      → get new key ≡ cond (eq k key) (Some w) (get lent key) → read (get new key) ≡ read (get old key) ++ cond (eq k key) more []
  put-new old lent new k key w more is none empty all at =
      let P : M → Type 0 = λ m. get new key ≡ cond (eq k key) (Some w) (get m key) in
      put old new k key w more (subst P is at) (rw (← none, empty) all)

  -- what is read stays where the value put is read as the one that was there
  pub put-same : (old new : M) (k key : K) (v w : V) → Some v ≡ get old k → read (Some w) ≡ read (Some v) → get new key ≡ cond (eq k key) (Some w) (get old key)
      → read (get new key) ≡ read (get old key)
  put-same old new k key v w there alike at =
      elim (cases_Bool (eq k key)) [
        | inl e ↦
            let P : K → Type 0 = λ x. Some v ≡ get old x in
            rw (at, e) (alike ∙ ap read (subst P (same k key e) there))
        | inr e ↦ rw (at, e)
      ]
