-- What a begin line does.
use Rattle.std.proofs.Common.{◌≡◌, ℕ, true, List, refl, sym, ap, ◌∙◌, subst, Option, Some, Result, Ok, Err, map}
use Rattle.std.specs.List.{AllByRecursion}
use Rattle.mdcc_base.specs.Unless.{GivesUnless}
use Rattle.mdcc_option.specs.Transaction.{transaction_of}
use Rattle.mdcc_option.specs.declared.cluster.Cluster.{Cluster}
use Rattle.mdcc_option.specs.declared.items.Known.{Known}
use Rattle.mdcc_option.specs.declared.items.Part.{Part}
use Rattle.mdcc_def_language.specs.Resolve.{resolve}
use Rattle.mdcc_def_simulation.specs.State.{World, is_up_at}
use Rattle.mdcc_def_simulation.specs.Events.{after_event}
use Rattle.mdcc_def_language.specs.declared.events.Event.{Event}
use Rattle.mdcc_def_language.specs.declared.events.UpdateWord.{UpdateWord}
use Rattle.mdcc_def_language.specs.declared.lines.Line.{Line}
use Rattle.mdcc_def_language.specs.declared.schedule.ResolveFault.{ResolveFault}
use Rattle.mdcc_def_language.specs.declared.world.EventFault.{EventFault}
use Rattle.mdcc_sched.specs.Free.{is_resolve_memory}
use Rattle.mdcc_theorem_node_steps.specs.Inputs.{AreWellFormedParts}
use Rattle.mdcc_world.proofs.Happened.{memory-happens}
use Rattle.mdcc_world.specs.Represents.{Happens, IsLike}
use Rattle.mdcc_world.specs.declared.world.World.{World as TheWorld}
use Rattle.mdcc_theorem_worlds.proofs.Drafting.{parts-formed}
use Rattle.mdcc_theorem_worlds.proofs.Events.{begin-is}
use Rattle.mdcc_theorem_worlds.specs.BeginEffects.{after_begin_resolved, after_begin_words}
use Rattle.mdcc_theorem_worlds.specs.Words.{IsGivenWord}

module _ (world : TheWorld) (w : World) (a : ℕ) (words : List UpdateWord) (like : IsLike world w) (up : is_up_at w a ≡ true) where
  reported : after_begin_words w a words ≡ after_begin_resolved w a (resolve words (map (λ (k : Known). Some k) w.reads))
  reported = rw up refl

  -- it is what its words stand for by the reads that are kept
  pub begin-as : (r : Result (List Part) ResolveFault) → r ≡ resolve words world.reads → after_event w (Event.Begin a words) ≡ after_begin_resolved w a r
  begin-as r is =
      begin-is w a words ∙ reported
      ∙ ap (λ (reads : List (Option Known)). after_begin_resolved w a (resolve words reads)) (sym like.records.reads)
      ∙ ap (λ (r : Result (List Part) ResolveFault). after_begin_resolved w a r) (sym is)

-- the parts of a transaction are well-formed
pub formed-parts : (world : TheWorld) (w : World) (words : List UpdateWord) (resolved made : List Part) → IsLike world w → AllByRecursion IsGivenWord words
    → Ok resolved ≡ resolve words world.reads → transaction_of world.cluster.schema resolved ≡ Ok made → AreWellFormedParts made
formed-parts world w words resolved made like are is drafted =
    parts-formed w.cluster.schema w.reads words resolved made like.records.itself.cluster_itself.schema like.records.itself.reads are
    (ap (λ (reads : List (Option Known)). resolve words reads) (sym like.records.reads) ∙ sym is)
    (ap (λ (cluster : Cluster). transaction_of cluster.schema resolved) (sym like.records.cluster) ∙ drafted)

-- ---- what was resolved

pub gives-ok : (r expected : Result (List Part) ResolveFault) (parts : List Part) → GivesUnless is_resolve_memory r expected → r ≡ Ok parts → Ok parts ≡ expected
gives-ok r expected parts gives is = subst (λ (r : Result (List Part) ResolveFault). GivesUnless is_resolve_memory r expected) is gives

pub unresolved-as : {T : Type 0} (r : Result T EventFault) (new : TheWorld) (before after : List Line) (w : World) (a : ℕ) (fault : ResolveFault) (resolved : Result (List Part) ResolveFault)
    → GivesUnless is_resolve_memory (Err fault) resolved → Happens new before after r (after_begin_resolved w a (Err fault)) → Happens new before after r (after_begin_resolved w a resolved)
unresolved-as r new before after w a (ResolveFault.NoRead number) resolved gives happens =
    subst (λ (x : Result (List Part) ResolveFault). Happens new before after r (after_begin_resolved w a x)) gives happens
unresolved-as r new before after w a (ResolveFault.NoItem key) resolved gives happens =
    subst (λ (x : Result (List Part) ResolveFault). Happens new before after r (after_begin_resolved w a x)) gives happens
unresolved-as r new before after w a ResolveFault.Memory resolved gives happens = memory-happens r new before after (after_begin_resolved w a resolved) happens
