-- Centres that are alike but for the frames of the tails of their logs.
use Rattle.std.proofs.Common.{◌≡◌, ℕ, zero, suc, ◌-◌, Bool, List, [], ◌∷◌, Option, refl, sym, ap, ◌∙◌, map, length, get_or}
use Rattle.std.proofs.lemmas.List.{length-map}
use Rattle.mdcc_base.specs.declared.outside.Image.{Image}
use Rattle.mdcc_def_protocol.specs.Volatile.{Volatile}
use Rattle.mdcc_def_simulation.specs.State.{SimulatedSite, World, booted, centre_at}

-- all of a centre but the frames of the tail of its log
abbrev pub bare : SimulatedSite → Bool × (Option (ℕ × Image) × Volatile)
bare site = (site.is_up, (site.stop, site.volatile))

got-bare : (sites : List SimulatedSite) (n : ℕ) → bare (get_or sites n booted) ≡ get_or (map bare sites) n (bare booted)
got-bare [] n = refl
got-bare (site ∷ sites) zero = refl
got-bare (site ∷ sites) (suc n) = got-bare sites n

pub alike-at : (v w : World) → map bare v.centres ≡ map bare w.centres → (a : ℕ) → bare (centre_at v a) ≡ bare (centre_at w a)
alike-at v w same a = got-bare v.centres (a - 1) ∙ ap (λ sites. get_or sites (a - 1) (bare booted)) same ∙ sym (got-bare w.centres (a - 1))

pub as-many : (v w : World) → map bare v.centres ≡ map bare w.centres → length v.centres ≡ length w.centres
as-many v w same = sym (length-map v.centres bare) ∙ ap length same ∙ length-map w.centres bare
