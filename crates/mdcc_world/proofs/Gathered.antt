-- Lines that were gathered first, and then put after others.
use Rattle.std.proofs.Common.{◌≡◌, ◌++◌, [], List, Result, Ok, Err, ap, ◌∙◌}
use Rattle.mdcc_def_language.specs.declared.lines.Line.{Line}
use Rattle.mdcc_def_language.specs.declared.world.EventFault.{EventFault}
use Rattle.mdcc_def_simulation.specs.State.{Happened}
use Rattle.mdcc_world.specs.Represents.{Happens, HasHappened}
use Rattle.mdcc_world.specs.declared.world.World.{World as TheWorld}

put-after : (world : TheWorld) (none reported before after : List Line) (h : Happened) → none ≡ [] → after ≡ before ++ reported → HasHappened world none reported h → HasHappened world before after h
put-after world none reported before after h empty put happened = record {
  like = happened.like;
  lines = put ∙ ap (λ (ls : List Line). before ++ ls) (happened.lines ∙ ap (λ (ls : List Line). ls ++ h.lines) empty);
}

pub gathered : (result : Result (Unit {0}) EventFault) (world : TheWorld) (none reported before after : List Line) (expected : Result Happened EventFault) → none ≡ [] → after ≡ before ++ reported
    → Happens world none reported result expected → Happens world before after result expected
gathered (Ok x) world none reported before after (Ok h) empty put happens = put-after world none reported before after h empty put happens
gathered (Ok x) world none reported before after (Err fault) empty put happens = happens
gathered (Err fault) world none reported before after expected empty put happens = happens
