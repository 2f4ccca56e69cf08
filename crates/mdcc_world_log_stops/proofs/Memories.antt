-- What a disk in memory holds after a call.
use Rattle.std.proofs.Common.{◌≡◌, ◌∷◌, ◌++◌, [], Bool, Err, List, Ok, OnOk, Result, ap, false, refl, ℕ, ◌∙◌}
use Rattle.mdcc_base.specs.declared.faults.Failed.{Failed}
use Rattle.mdcc_disks.specs.Contents.{Contents, done, durable}
use Rattle.mdcc_disks.specs.Disks.{DiskCall}
use Rattle.mdcc_disks.specs.History.{Event, after, replayed}
use Rattle.mdcc_disks.specs.Memory.{AllMemory, DiskPlace, MakesCallAt, at_place, called, standing}

replayed_more : (contents : Contents) (events : List Event) (event : Event) → replayed contents (events ++ event ∷ []) ≡ after (replayed contents events) event
replayed_more contents [] event = refl
replayed_more contents (first ∷ events) event = replayed_more (after contents first) events event

called_standing : (number : ℕ) (failed : Bool) (call : DiskCall) (place : DiskPlace) → standing (called number failed call place) ≡ done call failed (standing place)
called_standing number failed call place =
    replayed_more (durable []) place.events (record { number = number; crash = place.crash; call = call; failed = failed })

-- it was made
pub call_made : {T : Type 0} (place : ℕ) (call : DiskCall) (old new : AllMemory) (result : Result T Failed) → MakesCallAt place call old new result
    → OnOk result (standing (at_place new place) ≡ done call false (standing (at_place old place)))
call_made place call old new (Ok x) made = ap standing made.ok.1.1.1 ∙ called_standing new.calls false call (at_place old place)
call_made place call old new (Err e) made = tt
