-- One centre more that is booted for the first time.
use Rattle.std.proofs.Common.{◌≡◌, ◌≢◌, ◌+◌, ◌-◌, ◌≤◌, ◌<◌, ◌∷◌, ◌++◌, [], List, None, Ok, Option, ap, arith, get_or, inl, inr, length, nat_le, refl, subst, suc, sym, true, zero, ℕ, ◌∙◌}
use Rattle.std.proofs.lemmas.Bool.{and_from, le-leb}
use Rattle.std.proofs.lemmas.Bool.Decides.{eqb_tells}
use Rattle.std.proofs.lemmas.List.{get_or-append_right, get_or_append_left}
use Rattle.mdcc_base.specs.declared.outside.Image.{Image}
use Rattle.mdcc_disks.specs.Contents.{durable, struck}
use Rattle.mdcc_log_file.specs.Area.{fresh, payloads, read_areas}
use Rattle.mdcc_log_file.specs.Both.{KeepsBut}
use Rattle.mdcc_log.specs.Frames.{OpenAreas}
use Rattle.mdcc_disks.specs.History.{Event, replayed}
use Rattle.mdcc_disks.specs.Memory.{AllMemory, AreNew, IsNewMemory, DiskPlace, at_place, disk_of, left_since_of, may_leave_of, moment_of, is_there, no_place, standing}
use Rattle.mdcc_world_logs.proofs.Nodes.{length-more}
use Rattle.mdcc_world_logs.proofs.Standing.{AreSame, IsKept, IsSame, both-same, elsewhere, log-at-rest, log-stays, others-same}
use Rattle.mdcc_world_logs.proofs.Tails.{tail-open, tail-same}
use Rattle.mdcc_world_logs.specs.Represents.{IsLogOf, log_at, no_log}
use Rattle.mdcc_world_logs.specs.Starting.{AreBegun, first_facts}
use Rattle.mdcc_world_logs.specs.Tails.{tail_at}
use Rattle.mdcc_world_logs.specs.declared.logs.Logs.{Logs}
use Rattle.mdcc_option.specs.declared.cluster.Cluster.{Cluster}
use Rattle.mdcc_node_log.specs.Logged.{AreLogged}
use Rattle.mdcc_node_log.specs.Starting.{HasLogRoom, IsLogOnDisks as IsReadAs}
use Rattle.mdcc_def_simulation.specs.Checkpoints.{checkpoint_every}

-- ---- empty disks

new-at : (places : List DiskPlace) (p : ℕ) → AreNew places → ((get_or places p no_place).events ≡ []) × ((get_or places p no_place).crash ≡ None)
new-at [] p new = (refl, refl)
new-at (place ∷ places) zero new = (new.0.0, new.0.1.0)
new-at (place ∷ places) (suc p) new = new-at places p new.1

new-empty : (place : DiskPlace) → place.events ≡ [] → place.crash ≡ None → (standing place).kept ≡ []
new-empty place events crash =
    ap (λ (es : List Event). (struck place.crash (replayed (durable []) es)).kept) events ∙ ap (λ (c : Option Image). (struck c (durable [])).kept) crash

none-there : (disks : AllMemory) (centres p : ℕ) → disks.count ≡ centres + 16 → 1 ≤ p → p ≤ centres + 16 → is_there disks p ≡ true
none-there disks centres p counted some few = and_from (nat_le 1 p) (nat_le p disks.count) (le-leb 1 p (omega (some, arith))) (le-leb p disks.count (omega (few, counted, arith)))

pub none-begun : (logs : Logs) (centres : ℕ) (script : List ℕ) → IsNewMemory (centres + 16) script logs.disks → logs.open.items ≡ [] → AreBegun logs centres 0
none-begun logs centres script new none = record {
  stand = record { as_many = ap length none; each = λ a some few. absurd (omega (some, few, arith)) };
  tails = λ a some few. absurd (omega (some, few, arith));
  there = λ a some few. none-there logs.disks centres a new.counted (omega (some, arith)) (omega (few, arith));
  there_other = λ a some few. none-there logs.disks centres (a + 16) new.counted (omega (some, arith)) (omega (few, arith));
  empty = λ a some few. let new_place = new-at logs.disks.places a new.new in new-empty (at_place logs.disks a) new_place.0 new_place.1;
  empty_other = λ a some few. let new_place = new-at logs.disks.places (a + 16) new.new in new-empty (at_place logs.disks (a + 16)) new_place.0 new_place.1;
}

-- ---- no facts are read of them

pub none-logged : (cluster : Cluster) → AreLogged cluster []
none-logged cluster = record { allowed = refl; well_formed = tt }

module _ (logs : Logs) (d : AllMemory) (centres count a : ℕ) (begun : AreBegun logs centres count) (next : count < a) (few : a ≤ centres) (same : (p : ℕ) → IsSame logs.disks d p) where
  empty-here : (disk_of d a).bytes ≡ []
  empty-here = (same a).bytes ∙ begun.empty a next few

  empty-there : (disk_of d (a + 16)).bytes ≡ []
  empty-there = (same (a + 16)).bytes ∙ begun.empty_other a next few

  pub none-read : IsReadAs [] (disk_of d a) (disk_of d (a + 16))
  none-read = record {
    told_first = (same a).there ∙ begun.there a next few;
    told_second = (same (a + 16)).there ∙ begun.there_other a next few;
    read = ap (λ (bytes : List ℕ). payloads bytes (disk_of d (a + 16)).bytes) empty-here ∙ ap (λ (bytes : List ℕ). payloads [] bytes) empty-there;
  }

  pub none-fresh : read_areas (disk_of d a).bytes (disk_of d (a + 16)).bytes ≡ Ok fresh
  none-fresh = ap (λ (bytes : List ℕ). read_areas bytes (disk_of d (a + 16)).bytes) empty-here ∙ ap (λ (bytes : List ℕ). read_areas [] bytes) empty-there

  pub none-room : HasLogRoom checkpoint_every (disk_of d a) (disk_of d (a + 16))
  none-room = record {
    log = fresh;
    read = none-fresh;
    roomy = record { generations = omega arith; frames = omega arith; records = inl refl };
    often = omega arith;
  }

-- ---- one more

pub next-begun : (old new : Logs) (d : AllMemory) (centres count a : ℕ) (log : OpenAreas) → AreBegun old centres count → a ≡ count + 1 → a ≤ centres → centres ≤ 9
    → ((p : ℕ) → IsSame old.disks d p) → KeepsBut disk_of may_leave_of moment_of left_since_of d new.disks a (a + 16) → new.open.items ≡ old.open.items ++ log ∷ []
    → IsKept new.disks a log (first_facts a) → log.tail ≡ 1 → AreBegun new centres a
next-begun old new d centres count a log begun next few most same keeps items kept one =
    let beside : (p : ℕ) → p ≢ a → p ≢ a + 16 → IsSame old.disks new.disks p = λ p first second. both-same old.disks d new.disks p (same p) (elsewhere d new.disks a (a + 16) p keeps first second) in
    let others : (b : ℕ) → b ≤ 9 → b ≢ a → AreSame old.disks new.disks b = others-same old.disks new.disks a (omega (few, most, arith)) beside in
    let before : length old.open.items ≡ a - 1 = begun.stand.as_many ∙ omega (next, arith) in
    let none : (a - 1) - (a - 1) ≡ 0 = omega arith in
    let log_here : log_at new a ≡ log =
    ap (λ (logs : List OpenAreas). get_or logs (a - 1) no_log) items ∙ get_or-append_right old.open.items (log ∷ []) (a - 1) (a - 1) no_log before (omega arith) ∙ ap (λ (n : ℕ). get_or (log ∷ []) n no_log) none in
    let here : IsLogOf new a true (first_facts a) = log-at-rest new a log true (first_facts a) (omega (few, most, arith))
    (keeps.told_one ∙ (same a).there ∙ begun.there a (omega (next, arith)) few) (keeps.told_two ∙ (same (a + 16)).there ∙ begun.there_other a (omega (next, arith)) few)
    log_here kept.centre kept.every kept.few kept.roomy kept.at_rest in
    record {
      stand = record {
        as_many = ap length items ∙ length-more old.open.items log ∙ omega (before, next, arith);
        each = λ b some late. elim (eqb_tells b a) [
          | inl is ↦ subst (λ (n : ℕ). IsLogOf new n true (first_facts n)) (sym is.1) here
          | inr other ↦
              let less : b ≤ count = omega (other.1, late, next, arith) in
              let was = begun.stand.each b some less in
              let log_there : log_at new b ≡ log_at old b =
              ap (λ (logs : List OpenAreas). get_or logs (b - 1) no_log) items ∙ get_or_append_left old.open.items (log ∷ []) no_log (b - 1) (omega (some, less, begun.stand.as_many, arith)) in
              log-stays old new b true (first_facts b) log_there (others b was.range other.1) was
        ];
      };
      tails = λ b some late. elim (eqb_tells b a) [
        | inl is ↦ subst (λ (n : ℕ). tail_at new n ≡ 1) (sym is.1) (tail-open new a (first_facts a) (here.open refl) ∙ ap (λ (l : OpenAreas). l.tail) log_here ∙ one)
        | inr other ↦ tail-same old new b (others b (omega (late, few, most, arith)) other.1) ∙ begun.tails b some (omega (other.1, late, next, arith))
      ];
      there = λ b more late. (others b (omega (late, most, arith)) (λ is. absurd (omega (is, more, arith)))).first.there ∙ begun.there b (omega (next, more, arith)) late;
      there_other = λ b more late. (others b (omega (late, most, arith)) (λ is. absurd (omega (is, more, arith)))).second.there ∙ begun.there_other b (omega (next, more, arith)) late;
      empty = λ b more late. (others b (omega (late, most, arith)) (λ is. absurd (omega (is, more, arith)))).first.bytes ∙ begun.empty b (omega (next, more, arith)) late;
      empty_other = λ b more late. (others b (omega (late, most, arith)) (λ is. absurd (omega (is, more, arith)))).second.bytes ∙ begun.empty_other b (omega (next, more, arith)) late;
    }
