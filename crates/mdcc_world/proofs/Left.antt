-- What stands after a refusal.
use Rattle.std.proofs.Common.{◌≡◌, ◌≤◌, Bool, true, false, List, Result, Ok, Err, arith, append-nil, subst, sym, ◌∙◌}
use Rattle.std.specs.Bool.{OnFalse}
use Rattle.mdcc_def_simulation.specs.State.{Happened, World}
use Rattle.mdcc_def_language.specs.declared.lines.Line.{Line}
use Rattle.mdcc_def_language.specs.declared.world.EventFault.{EventFault}
use Rattle.mdcc_world.proofs.Happened.{any-fault}
use Rattle.mdcc_world.specs.Faults.{OnRefusal, is_free}
use Rattle.mdcc_world.specs.Represents.{HasHappened, IsLike, RepresentsWorld}
use Rattle.mdcc_world.specs.declared.world.World.{World as TheWorld}
use Rattle.mdcc_theorem_worlds.specs.DeliveryProgress.{unmoved}

-- ---- what follows from what stands

on-false : (b : Bool) {P Q : Type 0} → (P → Q) → OnFalse b P → OnFalse b Q
on-false true f p = tt
on-false false f p = f p

both-false : (b : Bool) {P Q R : Type 0} → (P → Q → R) → OnFalse b P → OnFalse b Q → OnFalse b R
both-false true f p q = tt
both-false false f p q = f p q

pub refusal-then : {T : Type 0} (r : Result T EventFault) {P Q : Type 0} → (P → Q) → OnRefusal r P → OnRefusal r Q
refusal-then (Ok x) f p = tt
refusal-then (Err fault) f p = on-false (is_free fault) f p

pub refusal-both : {T : Type 0} (r : Result T EventFault) {P Q R : Type 0} → (P → Q → R) → OnRefusal r P → OnRefusal r Q → OnRefusal r R
refusal-both (Ok x) f p q = tt
refusal-both (Err fault) f p q = both-false (is_free fault) f p q

pub refusal-always : {T : Type 0} (r : Result T EventFault) {P : Type 0} → P → OnRefusal r P
refusal-always (Ok x) p = tt
refusal-always (Err fault) p = any-fault (is_free fault) p

-- ---- worlds

as-before : (world new : TheWorld) (before after : List Line) (w : World) → IsLike world w → (new ≡ world) × (after ≡ before) → HasHappened new before after (unmoved w)
as-before world new before after w like same = record {
  like = subst (λ (x : TheWorld). IsLike x w) (sym same.0) like;
  lines = same.1 ∙ sym (append-nil before);
}

-- nothing has happened
pub left-unmoved : {T : Type 0} (r : Result T EventFault) (world new : TheWorld) (before after : List Line) (w : World) → IsLike world w
    → OnRefusal r ((new ≡ world) × (after ≡ before)) → OnRefusal r (HasHappened new before after (unmoved w))
left-unmoved r world new before after w like kept = refusal-then r (as-before world new before after w like) kept

pub left-few : {T : Type 0} (r : Result T EventFault) (world new : TheWorld) (before after : List Line) → world.events ≤ 100000
    → OnRefusal r ((new ≡ world) × (after ≡ before)) → OnRefusal r (new.events ≤ 100000)
left-few r world new before after few kept = refusal-then r (λ (same : (new ≡ world) × (after ≡ before)). subst (λ (x : TheWorld). x.events ≤ 100000) (sym same.0) few) kept

pub left-stands : {T : Type 0} (r : Result T EventFault) (new : TheWorld) (before after : List Line) (h : Happened)
    → OnRefusal r (HasHappened new before after h) → OnRefusal r (new.events ≤ 100000) → OnRefusal r (RepresentsWorld new h.world)
left-stands r new before after h happened few = refusal-both r (stands-few new before after h) happened few
  where
    stands-few : (new : TheWorld) (before after : List Line) (h : Happened) → HasHappened new before after h → new.events ≤ 100000 → RepresentsWorld new h.world
    stands-few new before after h happened few =
        let events = happened.like.records.events in
        record { like = happened.like; few = omega (events, few, arith) }
