-- The first world.
use Rattle.std.proofs.Common.{◌≡◌, ℕ, ◌-◌, ◌≤◌, ◌&&◌, Bool, true, false, List, [], ◌∷◌, None, Option, sym, ap, ◌∙◌, inl, inr, get_or, nat_le, refl, replicate, suc, zero}
use Rattle.std.proofs.lemmas.Bool.{and_from, cases_Bool, le-leb}
use Rattle.mdcc_base.specs.declared.outside.Image.{Image}
use Rattle.mdcc_world_logs.specs.Represents.{LogsRepresent}
use Rattle.mdcc_world_logs.specs.Tails.{tail_at}
use Rattle.mdcc_world_logs.specs.declared.logs.Logs.{Logs}
use Rattle.mdcc_option.specs.declared.cluster.Cluster.{Cluster}
use Rattle.mdcc_def_protocol.specs.Belongs.{is_centre}
use Rattle.mdcc_def_ledger.specs.Ledger.{facts_of}
use Rattle.mdcc_def_simulation.specs.State.{SimulatedSite, booted_to, centre_at, first_world, is_up_at}
use Rattle.mdcc_def_messages.specs.declared.facts.Fact.{Fact}
use Rattle.mdcc_theorem_worlds.proofs.Begins.{first-facts, first-site}
use Rattle.mdcc_theorem_worlds.proofs.Stays.{some-centre}
use Rattle.mdcc_world.proofs.Took.{logs-same}
use Rattle.mdcc_world.specs.Nodes.{StopsRepresent, TailsRepresent, UpsRepresent}

within-is : (cluster : Cluster) (a : ℕ) → 1 ≤ a → is_centre cluster a ≡ nat_le a cluster.quorums.centres
within-is cluster a some = ap (λ (b : Bool). b && nat_le a cluster.quorums.centres) (le-leb 1 a some)

-- all its centres are up
pub first-ups : (ups : List Bool) (cluster : Cluster) → ((a : ℕ) → 1 ≤ a → a ≤ 9 → get_or ups (a - 1) false ≡ nat_le a cluster.quorums.centres)
    → UpsRepresent ups (first_world cluster)
first-ups ups cluster are a some few = are a some few ∙ elim (cases_Bool (is_centre cluster a)) [
  | inl e ↦
      let up : (centre_at (first_world cluster) a).is_up ≡ true = ap (λ (s : SimulatedSite). s.is_up) (first-site cluster a e) in
      sym (within-is cluster a some) ∙ e ∙ sym (and_from (is_centre cluster a) (centre_at (first_world cluster) a).is_up e up)
  | inr e ↦ sym (within-is cluster a some) ∙ e ∙ sym (ap (λ (b : Bool). b && (centre_at (first_world cluster) a).is_up) e)
]

up-first : (cluster : Cluster) (a : ℕ) → is_centre cluster a ≡ true → is_up_at (first_world cluster) a ≡ true
up-first cluster a here = and_from (is_centre cluster a) (centre_at (first_world cluster) a).is_up here (ap (λ (s : SimulatedSite). s.is_up) (first-site cluster a here))

pub none-armed : (n k : ℕ) → ◌≡◌ {A = Option (ℕ × Image)} (get_or (replicate n None) k None) None
none-armed zero k = refl
none-armed (suc n) zero = refl
none-armed (suc n) (suc k) = none-armed n k

-- no stop is armed
pub first-stops : (stops : List (Option (ℕ × Image))) (cluster : Cluster) → ((a : ℕ) → get_or stops (a - 1) None ≡ None) → StopsRepresent stops (first_world cluster)
first-stops stops cluster none a here = none a ∙ ap (λ (s : SimulatedSite). s.stop) (sym (first-site cluster a here))

-- each log has one frame
pub first-tails : (logs : Logs) (cluster : Cluster) → ((a : ℕ) → 1 ≤ a → a ≤ cluster.quorums.centres → tail_at logs a ≡ 1) → TailsRepresent logs (first_world cluster)
first-tails logs cluster are a here =
    let both = some-centre cluster a here in
    are a both.0 both.1 ∙ ap (λ (s : SimulatedSite). s.tail) (sym (first-site cluster a here))

-- and that is the first boot
pub first-logs : (logs : Logs) (cluster : Cluster) → LogsRepresent logs cluster.quorums.centres (λ a. true) (λ a. Fact.Booted 1 ∷ [])
    → LogsRepresent logs cluster.quorums.centres (is_up_at (first_world cluster)) (facts_of (first_world cluster).ledger)
first-logs logs cluster stand =
    logs-same logs cluster.quorums.centres (λ a. true) (is_up_at (first_world cluster)) (λ a. Fact.Booted 1 ∷ []) (facts_of (booted_to cluster.quorums.centres))
    (λ a some within. sym (up-first cluster a (within-is cluster a some ∙ le-leb a cluster.quorums.centres within)))
    (λ a some within. sym (first-facts cluster.quorums.centres a some within)) stand
