-- What a disk in memory holds after a call.
use Rattle.std.proofs.Common.{◌≡◌, ◌⊎◌, ◌∷◌, ◌++◌, [], Bool, Err, List, Ok, OnErr, OnOk, Result, ap, false, inl, inr, refl, true, ℕ, ◌∙◌}
use Rattle.mdcc_base.specs.declared.faults.Failed.{Failed}
use Rattle.mdcc_disks.specs.Contents.{Contents, IsImage, done, durable}
use Rattle.mdcc_disks.specs.Disks.DiskCall.{Sync}
use Rattle.mdcc_disks.specs.Disks.{DiskCall, Only}
use Rattle.mdcc_disks.specs.History.{Event, after, replayed}
use Rattle.mdcc_disks.specs.Memory.{AllMemory, DiskPlace, KeepsPlaces, MakesCallAt, at_place, called, standing}

replayed-more : (contents : Contents) (events : List Event) (event : Event) → replayed contents (events ++ event ∷ []) ≡ after (replayed contents events) event
replayed-more contents [] event = refl
replayed-more contents (first ∷ events) event = replayed-more (after contents first) events event

called-standing : (number : ℕ) (failed : Bool) (call : DiskCall) (place : DiskPlace) → standing (called number failed call place) ≡ done call failed (standing place)
called-standing number failed call place =
    replayed-more (durable []) place.events (record { number = number; crash = place.crash; call = call; failed = failed })

-- it was made
pub call-made : {T : Type 0} (place : ℕ) (call : DiskCall) (old new : AllMemory) (result : Result T Failed) → MakesCallAt place call old new result
    → OnOk result (standing (at_place new place) ≡ done call false (standing (at_place old place)))
call-made place call old new (Ok x) made = ap standing made.ok.1.1.1 ∙ called-standing new.calls false call (at_place old place)
call-made place call old new (Err e) made = tt

-- it failed: it was made all the same, or it found no memory
pub call-failed : {T : Type 0} (place : ℕ) (call : DiskCall) (old new : AllMemory) (result : Result T Failed) → MakesCallAt place call old new result
    → OnErr result ((standing (at_place new place) ≡ done call true (standing (at_place old place))) ⊎ (standing (at_place new place) ≡ standing (at_place old place)))
call-failed place call old new (Ok x) made = tt
call-failed place call old new (Err e) made = elim made.err [
  | inl hit ↦ inl (ap standing hit.1.1.1 ∙ called-standing new.calls true call (at_place old place))
  | inr missed ↦ inr (ap standing missed)
]

pub places-kept : (place : ℕ) (old mid new : AllMemory) → KeepsPlaces place old mid → KeepsPlaces place mid new → KeepsPlaces place old new
places-kept place old mid new one two = record {
  counted = two.counted ∙ one.counted;
  listed = two.listed ∙ one.listed;
  others = λ p other. two.others p other ∙ one.others p other;
}

-- where a crash leaves what a read gives, all is durable
pub all-durable : (contents : Contents) (bytes : List ℕ) → contents.kept ≡ bytes → Only contents.kept (IsImage contents) → contents ≡ durable bytes
all-durable contents bytes is only =
    let lost = only contents.lost (inr (inl refl)) in
    let torn = only contents.torn (inr (inr refl)) in
    ap (λ (l : List ℕ). record { kept = contents.kept; lost = l; torn = contents.torn }) lost
    ∙ ap (λ (l : List ℕ). record { kept = contents.kept; lost = contents.kept; torn = l }) torn
    ∙ ap (λ (l : List ℕ). durable l) is

-- a sync that failed leaves all as it was
pub sync-failed : {T : Type 0} (place : ℕ) (old new : AllMemory) (fault : Failed) → MakesCallAt {T = T} place Sync old new (Err fault)
    → standing (at_place new place) ≡ standing (at_place old place)
sync-failed {T} place old new fault made = elim (call-failed {T = T} place Sync old new (Err fault) made) [ inl same ↦ same | inr same ↦ same ]

pub on-err-weaker : {T E : Type 0} {P Q : Type 0} (result : Result T E) → (P → Q) → OnErr result P → OnErr result Q
on-err-weaker (Ok x) f p = tt
on-err-weaker (Err e) f p = f p

pub on-ok-three : {T E : Type 0} (P Q R S : Type 0) (result : Result T E) → OnOk result P → OnOk result Q → OnOk result R → (P → Q → R → S) → OnOk result S
on-ok-three P Q R S (Ok x) p q r f = f p q r
on-ok-three P Q R S (Err e) p q r f = tt
