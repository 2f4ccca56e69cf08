-- The centres for which a settle delivers.
use Rattle.std.proofs.Common.{◌≡◌, ℕ, ◌-◌, ◌==◌, ◌&&◌, ◌≤◌, Bool, true, false, List, refl, ap, ◌∙◌, inl, inr, arith, get_or, nat_le}
use Rattle.std.specs.List.{list_any}
use Rattle.std.proofs.lemmas.Bool.{and_parts, cases_Bool, le-leb, leb-true}
use Rattle.mdcc_def_protocol.specs.Belongs.{is_centre}
use Rattle.mdcc_def_simulation.specs.State.{World, centre_at, is_up_at}
use Rattle.mdcc_world.specs.Nodes.{UpsRepresent}
use Rattle.mdcc_world.specs.SettleEnd.{AreAsked, is_listed_centre}
use Rattle.mdcc_world.specs.Represents.{IsLike}
use Rattle.mdcc_world.specs.declared.world.World.{World as TheWorld}
use Rattle.mdcc_theorem_worlds.proofs.Stays.{some-centre}

-- whether a centre is among the first so many, and is up and named
abbrev pub asked_to : List Bool → ℕ → List ℕ → ℕ → Bool
asked_to ups count listed a = nat_le 1 a && nat_le a count && (get_or ups (a - 1) false && is_listed_centre listed a)

-- the centres are those of the first so many that are
abbrev pub AreAskedTo : List Bool → ℕ → List ℕ → List ℕ → Type 0
AreAskedTo ups count listed centres = (a : ℕ) → list_any (λ centre. centre == a) centres ≡ asked_to ups count listed a

-- there are nine centres at most
among : (w : World) (a : ℕ) (listed : List ℕ) (ups : List Bool) → UpsRepresent ups w → w.cluster.quorums.centres ≤ 9
    → asked_to ups 9 listed a ≡ (is_up_at w a && is_listed_centre listed a)
among w a listed ups stand nine = elim (cases_Bool (nat_le 1 a && nat_le a 9)) [
  | inl e ↦
      let both = and_parts (nat_le 1 a) (nat_le a 9) e in
      let here = stand a (leb-true 1 a both.0) (leb-true a 9 both.1) in
      inside (nat_le 1 a) (nat_le a 9) (get_or ups (a - 1) false) (is_up_at w a) (is_listed_centre listed a) both.0 both.1 here
  | inr e ↦ elim (cases_Bool (is_centre w.cluster a)) [
    | inl centre ↦
        let within = some-centre w.cluster a centre in
        let some = le-leb 1 a within.0 in
        let few = le-leb a 9 (let h = within.1 in omega (h, nine, arith)) in
        let clash : true ≡ false = rw (some, few) at e in
        absurd (cc)
    | inr centre ↦ beyond (nat_le 1 a) (nat_le a 9) (get_or ups (a - 1) false && is_listed_centre listed a) (is_listed_centre listed a) (centre_at w a).is_up (is_centre w.cluster a) e centre
  ]
]
  where
    inside : (b c u v named : Bool) → b ≡ true → c ≡ true → u ≡ v → (b && c && (u && named)) ≡ (v && named)
    inside true true u v named e f g = ap (λ (x : Bool). x && named) g
    inside true false u v named e f g = absurd (cc)
    inside false c u v named e f g = absurd (cc)

    beyond : (b c x named up centre : Bool) → (b && c) ≡ false → centre ≡ false → (b && c && x) ≡ ((centre && up) && named)
    beyond true true x named up true e f = absurd (cc)
    beyond true true x named up false e f = absurd (cc)
    beyond true false x named up true e f = absurd (cc)
    beyond true false x named up false e f = refl
    beyond false c x named up true e f = absurd (cc)
    beyond false c x named up false e f = refl

pub all-asked : (world : TheWorld) (w : World) (listed centres : List ℕ) → IsLike world w → AreAskedTo world.up 9 listed centres → AreAsked w listed centres
all-asked world w listed centres like are a = are a ∙ among w a listed world.up like.records.ups like.records.itself.cluster_itself.quorums.nine_centres
