-- A group lasts while other centres' entries come.
use Rattle.std.proofs.Common.{List, None, false, refl, true, ℕ, ◌++◌, ◌==◌, ◌≡◌}
use Rattle.mdcc_option.specs.declared.cluster.Cluster.{Cluster}
use Rattle.mdcc_def_ledger.specs.Ledger.{Entry}
use Rattle.mdcc_def_protocol.specs.Volatile.{Volatile}
use Rattle.mdcc_def_rules.specs.declared.node.Input.{Input}
use Rattle.mdcc_def_simulation.specs.State.{SimulatedSite}
use Rattle.mdcc_theorem_trace_states.specs.Invariant.{IsOf}
use Rattle.mdcc_theorem_trace_states.specs.Steps.{IsFair, IsUp}
use Rattle.mdcc_theorem_trace_states.specs.VolatileInvariant.{IsCentre}
use Rattle.mdcc_theorem_trace_states.specs.Words.{Each}
use Rattle.mdcc_theorem_trace_states.proofs.Kept.{IsCentre-others, true-more}
use Rattle.mdcc_theorem_trace_states.proofs.Lists.{Each-like}
use Rattle.mdcc_theorem_commit_groups.specs.Groups.{IsGroup, IsSoundLedger}

-- an input that was fair stays so
pub fair-more : (cluster : Cluster) (new es : List Entry) (input : Input) → IsFair cluster es input → IsFair cluster (new ++ es) input
fair-more cluster new es (Input.Message envelope) h = true-more cluster new es envelope h
fair-more cluster new es Input.Tick h = h
fair-more cluster new es Input.Sweep h = h
fair-more cluster new es (Input.Begin parts) h = h
fair-more cluster new es (Input.Read key) h = h

pub all-fair : (cluster : Cluster) (new es : List Entry) (inputs : List Input) → Each (IsFair cluster es) inputs → Each (IsFair cluster (new ++ es)) inputs
all-fair cluster new es inputs h = Each-like (IsFair cluster es) (IsFair cluster (new ++ es)) inputs (λ input g. fair-more cluster new es input g) h

-- a centre that is up and keeps this
abbrev site : Volatile → SimulatedSite
site volatile = record { is_up = true; stop = None; tail = 0; volatile = volatile }

pub up-others : (also : List Entry → Type 0) (cluster : Cluster) (new es : List Entry) (a b : ℕ) (volatile : Volatile) → (b == a) ≡ false → Each (IsOf b) new
    → IsSoundLedger also cluster (new ++ es) → IsUp also cluster es a volatile → IsUp also cluster (new ++ es) a volatile
up-others also cluster new es a b volatile other own sound up =
    let as_centre : IsCentre cluster es a (site volatile) = record { booted = up.booted; keeps = λ u. up.keeps } in
    let now = IsCentre-others cluster new es b a (site volatile) sound.legal own other as_centre in
    record {
      sizes = sound.sizes;
      legal = sound.legal;
      placed = sound.placed;
      more = sound.more;
      centre = up.centre;
      booted = now.booted;
      keeps = now.keeps refl;
    }

pub last : (also : List Entry → Type 0) (cluster : Cluster) (new es : List Entry) (a b : ℕ) (volatile : Volatile) (inputs : List Input) → (b == a) ≡ false → Each (IsOf b) new
    → IsSoundLedger also cluster (new ++ es) → IsGroup also cluster es a volatile inputs → IsGroup also cluster (new ++ es) a volatile inputs
last also cluster new es a b volatile inputs other own sound g = record {
  up = up-others also cluster new es a b volatile other own sound g.up;
  fair = all-fair cluster new es inputs g.fair;
}
