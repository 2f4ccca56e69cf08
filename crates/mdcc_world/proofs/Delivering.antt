-- A deliver line, number by number.
use Rattle.std.proofs.Common.{◌≡◌, ℕ, ◌+◌, ◌≤◌, ◌∷◌, [], ◌||◌, ◌++◌, ◌∙◌, Bool, true, false, List, Ok, Err, ap, append_assoc, arith, length, length-append, refl, sym, subst, append-nil}
use Rattle.std.specs.Bool.{OnFalse, OnTrue}
use Rattle.mdcc_def_simulation.specs.State.{Happened, World, after_lines}
use Rattle.mdcc_def_simulation.specs.Left.{deliveries_before}
use Rattle.mdcc_def_simulation.specs.Deliveries.{after_deliveries, after_delivery}
use Rattle.mdcc_def_simulation.specs.Limits.{is_limit, is_out_of_memory}
use Rattle.mdcc_def_language.specs.declared.events.Event.{Event}
use Rattle.mdcc_def_language.specs.declared.lines.Line.{Line}
use Rattle.mdcc_def_language.specs.declared.world.EventFault.{EventFault}
use Rattle.mdcc_world.proofs.CutShort.{deliver-cut, of-last}
use Rattle.mdcc_world.proofs.Happened.{fault-then, happened-then, has-come}
use Rattle.mdcc_world.proofs.Limited.{limit-with}
use Rattle.mdcc_world.specs.CutShort.{IsCutShort}
use Rattle.mdcc_world.specs.Faults.{OnRefusal}
use Rattle.mdcc_world.specs.Represents.{HasHappened, Happens, IsLike}
use Rattle.mdcc_world.specs.declared.world.World.{World as TheWorld}
use Rattle.mdcc_theorem_worlds.proofs.Delivers.{delivering-begins, delivering-goes_on, delivering-refused}
use Rattle.mdcc_theorem_worlds.specs.DeliveryProgress.{IsDelivering, unmoved}

-- the world stands for what a deliver line has brought where these numbers are left
pub record HasDelivered (world : TheWorld) (before after : List Line) (w : World) (whole left : List ℕ) : Type 0 where
  pub reached : Happened
  pub happened : HasHappened world before after reached
  pub so_far : IsDelivering w whole left reached
  pub made : List ℕ
  pub split : whole ≡ made ++ left
  pub first : after_deliveries made (unmoved w) ≡ Ok reached
  pub counted : world.events ≤ w.events + length made

pub delivers-begin : (world : TheWorld) (lines : List Line) (w : World) (whole : List ℕ) → IsLike world w → HasDelivered world lines lines w whole whole
delivers-begin world lines w whole like = record {
  reached = unmoved w;
  happened = record { like = like; lines = sym (append-nil lines) };
  so_far = delivering-begins w whole;
  made = [];
  split = refl;
  first = refl;
  counted = (let events = like.records.events in omega (events, arith));
}

-- a refusal that is neither for want of memory nor for a limit
both : (a b : Bool) {P Q R : Type 0} → (P → Q → R) → OnFalse (a || b) P → OnFalse a Q → OnFalse (a || b) R
both true b f p q = tt
both false true f p q = tt
both false false f p q = f p q

pub refusal-and : (fault : EventFault) {P Q R : Type 0} → (P → Q → R) → OnRefusal {T = Unit {0}} (Err fault) P → OnFalse (is_out_of_memory fault) Q → OnRefusal {T = Unit {0}} (Err fault) R
refusal-and fault f p q = both (is_out_of_memory fault) (is_limit fault) f p q

module _ (world : TheWorld) (before lines : List Line) (w : World) (whole left : List ℕ) (has : HasDelivered world before lines w whole left) where
  pub delivers-go_on : (new : TheWorld) (after : List Line) (number : ℕ) (rest : List ℕ) → left ≡ number ∷ rest
      → ((v : World) → IsLike world v → Happens {T = Unit {0}} new lines after (Ok tt) (after_delivery v number))
      → new.events ≤ world.events + 1
      → HasDelivered new before after w whole rest
  delivers-go_on new after number rest first happens more =
      let come = has-come {T = Unit {0}} tt new lines after (after_delivery has.reached.world number) (happens has.reached.world has.happened.like) in
      record {
        reached = after_lines has.reached.lines come.h;
        happened = happened-then world new before lines after has.reached come.h has.happened come.happened;
        so_far = delivering-goes_on w whole left rest number has.reached come.h first has.so_far come.is;
        made = has.made ++ number ∷ [];
        split = has.split ∙ ap (λ (xs : List ℕ). has.made ++ xs) first ∙ sym (append_assoc has.made (number ∷ []) rest);
        first = of-last has.made number (unmoved w) has.reached come.h has.first come.is;
        counted = (let counted = has.counted in let many = length-append has.made (number ∷ []) in omega (counted, more, many, arith));
      }

  pub delivers-refused : (number : ℕ) (rest : List ℕ) (fault : EventFault) → left ≡ number ∷ rest
      → ((v : World) → IsLike world v → OnFalse (is_out_of_memory fault) (after_delivery v number ≡ Err fault))
      → OnFalse (is_out_of_memory fault) (after_deliveries whole (unmoved w) ≡ Err fault)
  delivers-refused number rest fault first closed =
      fault-then (is_out_of_memory fault) (λ (e : after_delivery has.reached.world number ≡ Err fault).
      (delivering-refused w whole left rest number has.reached fault first has.so_far e).0)
      (closed has.reached.world has.happened.like)

  pub delivers-left : (new : TheWorld) (after : List Line) (number : ℕ) (rest : List ℕ) (fault : EventFault) → left ≡ number ∷ rest
      → ((v : World) → IsLike world v → OnFalse (is_out_of_memory fault) (after_delivery v number ≡ Err fault))
      → OnRefusal {T = Unit {0}} (Err fault) ((new ≡ world) × (after ≡ lines))
      → OnRefusal {T = Unit {0}} (Err fault) (HasHappened new before after (deliveries_before whole (unmoved w)))
  delivers-left new after number rest fault first closed kept =
      refusal-and fault (λ (same : (new ≡ world) × (after ≡ lines)) (e : after_delivery has.reached.world number ≡ Err fault).
      let reached = (delivering-refused w whole left rest number has.reached fault first has.so_far e).1 in
      rw (same.0, same.1) (subst (λ (h : Happened). HasHappened world before lines h) (sym reached) has.happened))
      kept (closed has.reached.world has.happened.like)

  pub delivers-limited : (after : List Line) (number : ℕ) (rest : List ℕ) (fault : EventFault) → left ≡ number ∷ rest
      → ((v : World) → IsLike world v → OnFalse (is_out_of_memory fault) (after_delivery v number ≡ Err fault))
      → after ≡ lines
      → OnTrue (is_limit fault) (after ≡ before ++ (deliveries_before whole (unmoved w)).lines)
  delivers-limited after number rest fault first closed same =
      limit-with fault (λ (e : after_delivery has.reached.world number ≡ Err fault).
      let reached = (delivering-refused w whole left rest number has.reached fault first has.so_far e).1 in
      same ∙ has.happened.lines ∙ ap (λ (h : Happened). before ++ h.lines) (sym reached))
      (closed has.reached.world has.happened.like)

  -- no memory at the next number
  pub delivers-cut : (new : TheWorld) (after : List Line) → new.events ≤ world.events + 1 → after ≡ lines → IsCutShort new before after w (Event.Deliver whole)
  delivers-cut new after more same =
      let counted = has.counted in
      deliver-cut new before after w whole has.made left has.reached has.split has.first has.so_far.answer has.so_far.rest (omega (counted, more, arith))
      (same ∙ has.happened.lines)
