-- Keys that are told apart by a test.
use Rattle.std.specs.Prelude.{◌≡◌, ℕ, Bool, true, ◌==◌, ◌&&◌, List, [], ◌∷◌, nat_eq, refl}
use Rattle.std.proofs.lemmas.Bool.{and_parts, eqb-true}
use Rattle.mdcc_base.specs.Key.{key_eq}
use Rattle.mdcc_base.specs.TxId.{tx_eq}
use Rattle.mdcc_base.specs.Identifier.{Identifier}

-- whether they are one version of one key
abbrev pub instance_eq : List ℕ × ℕ → List ℕ × ℕ → Bool
instance_eq a b = key_eq a.0 b.0 && a.1 == b.1

pub tx_eq-one : (a b : Identifier) → tx_eq a b ≡ true → a ≡ b
tx_eq-one a b same =
    let first = and_parts (a.centre == b.centre) (a.epoch == b.epoch && a.seq == b.seq) same in
    let rest = and_parts (a.epoch == b.epoch) (a.seq == b.seq) first.1 in
    let centre : a.centre ≡ b.centre = eqb-true a.centre b.centre first.0 in
    let epoch : a.epoch ≡ b.epoch = eqb-true a.epoch b.epoch rest.0 in
    let seq : a.seq ≡ b.seq = eqb-true a.seq b.seq rest.1 in
    λ i. record { centre = centre i; epoch = epoch i; seq = seq i }

pub key_eq-one : (a b : List ℕ) → key_eq a b ≡ true → a ≡ b
key_eq-one [] [] same = refl
key_eq-one [] (b ∷ bs) same = absurd (cc)
key_eq-one (a ∷ as') [] same = absurd (cc)
key_eq-one (a ∷ as') (b ∷ bs) same =
    let parts = and_parts (nat_eq a b) (key_eq as' bs) same in
    let head : a ≡ b = eqb-true a b parts.0 in
    let tail : as' ≡ bs = key_eq-one as' bs parts.1 in
    λ i. head i ∷ tail i

pub instance_eq-one : (a b : List ℕ × ℕ) → instance_eq a b ≡ true → a ≡ b
instance_eq-one a b same =
    let parts = and_parts (key_eq a.0 b.0) (a.1 == b.1) same in
    let key : a.0 ≡ b.0 = key_eq-one a.0 b.0 parts.0 in
    let version : a.1 ≡ b.1 = eqb-true a.1 b.1 parts.1 in
    λ i. (key i, version i)
