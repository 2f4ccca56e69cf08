-- A boot begins a new group.
use Rattle.std.proofs.Common.{List, None, [], arith, inl, inr, refl, sym, true, ℕ, ◌+◌, ◌<◌, ◌==◌, ◌∷◌, ◌≡◌, ◌≤◌}
use Rattle.std.proofs.lemmas.Bool.{cases_Bool, eq-eqb}
use Rattle.mdcc_base.specs.Counts.{number_of}
use Rattle.mdcc_base.specs.declared.key.Key.{Key}
use Rattle.mdcc_option.specs.declared.cluster.Cluster.{Cluster}
use Rattle.mdcc_def_ledger.specs.AllowedFacts.{is_booted}
use Rattle.mdcc_def_ledger.specs.AllowedLedgers.{IsAllowed, seqs_begun}
use Rattle.mdcc_def_ledger.specs.Ledger.{Added, Entry, Valued, facts_of, structure_valued}
use Rattle.mdcc_def_protocol.specs.Belongs.{is_centre}
use Rattle.mdcc_def_protocol.specs.Facts.{epoch_of}
use Rattle.mdcc_def_protocol.specs.Volatile.{initial_volatile}
use Rattle.mdcc_def_rules.specs.Boot.{next_boot}
use Rattle.mdcc_theorem_trace_states.specs.Steps.{AreGood}
use Rattle.mdcc_theorem_trace_states.proofs.Boots.{boot-legal, boot-placed, epoch-count, keeps-nothing, seqs-none}
use Rattle.mdcc_theorem_trace_states.proofs.Led.{valued-epoch}
use Rattle.mdcc_theorem_commit_groups.specs.Groups.{IsGroup, IsSoundLedger}

-- epochs do not fall
pub epoch-grows : (cluster : Cluster) (e : Entry) (es : List Entry) (a : ℕ) → IsAllowed cluster (e ∷ es) → epoch_of (facts_of es a) ≤ epoch_of (facts_of (e ∷ es) a)
epoch-grows cluster (Entry.Begun c t cs) es a legal = omega arith
epoch-grows cluster (Valued c k v m os) es a legal = omega arith
epoch-grows cluster (Added c f) es a legal =
    let old = epoch-count cluster es a legal.0 in
    let now = epoch-count cluster (Added c f ∷ es) a legal in
    elim (cases_Bool (c == a)) [
      | inl e ↦
          let it : facts_of (Added c f ∷ es) a ≡ f ∷ facts_of es a = rw e refl in
          let fresh : epoch_of (f ∷ facts_of es a) ≡ number_of is_booted (f ∷ facts_of es a) = rw it at now in
          rw it (omega (arith, old, fresh))
      | inr e ↦ rw e (omega arith)
    ]

pub boots : (also : List Entry → Type 0) → AreGood also → (cluster : Cluster) (es : List Entry) (a : ℕ) → is_centre cluster a ≡ true → IsSoundLedger also cluster es
    → IsGroup also cluster (Added a (next_boot (facts_of es a)) ∷ es) a initial_volatile []
boots also good cluster es a centre sound =
    let legal = boot-legal cluster es a sound.legal centre in
    record {
      up = record {
        sizes = sound.sizes;
        legal = legal;
        placed = boot-placed cluster es a (epoch_of (facts_of es a) + 1) legal sound.placed;
        more = good.boot cluster es a (epoch_of (facts_of es a) + 1) legal sound.more;
        centre = centre;
        booted = above;
        keeps = keeps-nothing cluster (Added a (next_boot (facts_of es a)) ∷ es) a new none;
      };
      fair = tt;
    }
  where
    above : 0 < epoch_of (facts_of (Added a (next_boot (facts_of es a)) ∷ es) a)
    above = rw (eq-eqb a a refl) (omega arith)

    new : (k : Key) (v r : ℕ) → structure_valued (Added a (next_boot (facts_of es a)) ∷ es) k v
        (record { round = r; epoch = epoch_of (facts_of (Added a (next_boot (facts_of es a)) ∷ es) a); centre = a }) ≡ None
    new k v r =
        rw (eq-eqb a a refl)
        (valued-epoch cluster es k v (record { round = r; epoch = epoch_of (facts_of es a) + 1; centre = a }) sound.legal (λ e fs g. epoch-grows cluster e fs a g) (omega arith))

    none : 0 ≡ seqs_begun (Added a (next_boot (facts_of es a)) ∷ es) a (epoch_of (facts_of (Added a (next_boot (facts_of es a)) ∷ es) a))
    none = rw (eq-eqb a a refl) (sym (seqs-none cluster es a (epoch_of (facts_of es a) + 1) sound.legal (omega arith)))
