-- What a centre keeps while another acts.
use Rattle.std.proofs.Common.{◌≡◌, ◌≢◌, ℕ, ◌+◌, ◌≤◌, List, [], sym, ◌∙◌, subst, inl, inr, arith, IsTrue}
use Rattle.mdcc_log_file.specs.Area.{AreaLog}
use Rattle.mdcc_log.specs.AtRest.{IsAtRest}
use Rattle.mdcc_log.specs.Frames.{IsInUse, IsSpare, OpenAreas, other_of, place_of}
use Rattle.mdcc_disks.specs.Disks.{Disk, Within}
use Rattle.mdcc_def_messages.specs.Spelling.{encodings_of}
use Rattle.mdcc_def_messages.specs.declared.facts.Fact.{Fact}
use Rattle.mdcc_option.specs.declared.cluster.Cluster.{Cluster}
use Rattle.mdcc_node_log.proofs.Places.{at_both}
use Rattle.mdcc_def_server_runs.specs.Sites.{Site}
use Rattle.mdcc_serve_site.specs.Logs.{MayHaveFacts}
use Rattle.mdcc_serve_site.specs.Moments.{DiskPasses, KeepsOthers, Outside}
use Rattle.mdcc_serve_site.specs.SiteState.{HoldsLog, HoldsSite}
use Rattle.mdcc_serve_site.specs.declared.site.Site.{Site as TheSite}

-- no place of one centre is one of the other
pub record AreApart (a b : ℕ) : Type 0 where
  pub here_here : a ≢ b
  pub here_there : a ≢ b + 16
  pub there_here : a + 16 ≢ b
  pub there_there : a + 16 ≢ b + 16

pub apart : (a b : ℕ) → a ≤ 9 → b ≤ 9 → a ≢ b → AreApart a b
apart a b few most other = record {
  here_here = other;
  here_there = λ e. absurd (omega (e, few, arith));
  there_here = λ e. absurd (omega (e, most, arith));
  there_there = λ e. other (omega (e, arith));
}

-- what may come after a crash is no more than before
in_use_kept : (frames : OpenAreas) (log : AreaLog) (bytes : List ℕ) (old new : List ℕ → Type 0) → Within old new → IsInUse frames log bytes old → IsInUse frames log bytes new
in_use_kept frames log bytes old new within is = record {
  valid = is.valid;
  file = is.file;
  generation = is.generation;
  count = is.count;
  start = is.start;
  tail = is.tail;
  body = is.body;
  size = is.size;
  durable = λ c left. is.durable c (within c left);
}

spare_kept : (frames : OpenAreas) (bytes : List ℕ) (old new : List ℕ → Type 0) → Within old new → IsSpare frames bytes old → IsSpare frames bytes new
spare_kept frames bytes old new within is = record { idle = is.idle; spare = is.spare; durable = λ c left. is.durable c (within c left) }

module _ {D : Type 0} (disk : D → ℕ → Disk) (may_leave : D → ℕ → List ℕ → Type 0) where
  -- nothing was done at a place
  abbrev IsSame : D → D → ℕ → Type 0
  IsSame old new p = (disk new p ≡ disk old p) × Within (may_leave old p) (may_leave new p)

  rest_kept : (old new : D) (log : OpenAreas) (centre : ℕ) (all : List (List ℕ)) → log.centre ≡ centre → IsSame old new centre → IsSame old new (centre + 16)
      → IsAtRest disk may_leave old log all → IsAtRest disk may_leave new log all
  rest_kept old new log centre all of here there rest =
      let both = at_both (IsSame old new) centre log.centre log.area of here there rest.range in
      record {
        log = rest.log;
        range = rest.range;
        payloads_are = rest.payloads_are;
        in_use = subst (λ (d : Disk). IsInUse log rest.log d.bytes (may_leave new (place_of log.centre log.area))) (sym both.0.0)
            (in_use_kept log rest.log (disk old (place_of log.centre log.area)).bytes (may_leave old (place_of log.centre log.area)) (may_leave new (place_of log.centre log.area)) both.0.1 rest.in_use);
        spare = subst (λ (d : Disk). IsSpare log d.bytes (may_leave new (place_of log.centre (other_of log.area)))) (sym both.1.0)
            (spare_kept log (disk old (place_of log.centre (other_of log.area))).bytes (may_leave old (place_of log.centre (other_of log.area))) (may_leave new (place_of log.centre (other_of log.area))) both.1.1 rest.spare);
      }

  pub facts_kept : (old new : D) (a b : ℕ) (facts : List Fact) (next : List Fact) → AreApart a b → KeepsOthers disk may_leave b old new
      → MayHaveFacts disk may_leave old a facts next → MayHaveFacts disk may_leave new a facts next
  facts_kept old new a b facts next apart keeps has first second left left_second =
      has first second (keeps.crash a apart.here_here apart.here_there first left) (keeps.crash (a + 16) apart.there_here apart.there_there second left_second)

  -- more may be said of what it has
  pub facts_or_more : (disks : D) (a : ℕ) (facts : List Fact) (next : List Fact) → MayHaveFacts disk may_leave disks a facts [] → MayHaveFacts disk may_leave disks a facts next
  facts_or_more disks a facts next has first second left left_second = elim (has first second left left_second) [
    | inl is ↦ inl is
    | inr is ↦ inl is
  ]

  pub log_kept : (every : ℕ) (old new : D) (log : OpenAreas) (a b : ℕ) (facts : List Fact) → AreApart a b → KeepsOthers disk may_leave b old new → DiskPasses disk may_leave old new
      → HoldsLog disk may_leave every old log a facts → HoldsLog disk may_leave every new log a facts
  log_kept every old new log a b facts apart keeps passes holds =
      let here = keeps.others a apart.here_here apart.here_there in
      let there = keeps.others (a + 16) apart.there_here apart.there_there in
      record {
        open_log = record {
          of = holds.open_log.of;
          often = holds.open_log.often;
          alike = passes.told (a + 16) ∙ (holds.open_log.alike ∙ sym (passes.told a));
          at_rest = λ told. rest_kept old new log a (encodings_of facts) holds.open_log.of (here, keeps.crash a apart.here_here apart.here_there) (there, keeps.crash (a + 16) apart.there_here apart.there_there)
              (holds.open_log.at_rest (subst IsTrue (passes.told a) told));
          left = λ told. facts_kept old new a b facts [] apart keeps (holds.open_log.left (subst IsTrue (passes.told a) told));
        };
        few = holds.few;
      }

pub site_kept : {D L O : Type 0} (w : Outside D L O) (cluster : Cluster) (old new : D) (held : TheSite) (site : Site) (b : ℕ) → AreApart site.centre b
    → KeepsOthers w.disk w.may_leave b old new → DiskPasses w.disk w.may_leave old new → HoldsSite w cluster old held site → HoldsSite w cluster new held site
site_kept w cluster old new held site b apart keeps passes holds =
    record { itself = holds.itself; log = log_kept w.disk w.may_leave w.every old new held.log site.centre b site.logged apart keeps passes holds.log }
