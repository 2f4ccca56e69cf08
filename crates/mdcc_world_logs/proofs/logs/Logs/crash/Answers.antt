use Rattle.std.proofs.Common.{◌≡◌, ◌+◌, Bool, List, ℕ, arith, refl, subst}
use Rattle.mdcc_base.specs.declared.outside.Image.TheVariants.{Lost}
use Rattle.mdcc_disks.specs.Memory.{IsBut, KeepsPlaces, at_place, crashed}
use Rattle.mdcc_world_logs.proofs.Calls.{crash-same, crash-stays}
use Rattle.mdcc_world_logs.proofs.Standing.{IsSame, same-areas}
use Rattle.mdcc_world_logs.proofs.Tails.{has-tail, tail-same}
use Rattle.mdcc_world_logs.proofs.logs.Logs.crash.Goals as goal
use Rattle.mdcc_world_logs.specs.Represents.{LogsRepresent}
use Rattle.mdcc_world_logs.specs.Tails.{tail_at}
use Rattle.mdcc_world_logs.specs.declared.logs.Logs.{Logs}
use Rattle.mdcc_def_messages.specs.declared.facts.Fact.{Fact}

same : (c : goal.After-crash-2) (centres : ℕ) (up : ℕ → Bool) (facts : ℕ → List Fact) → LogsRepresent c.args.self.now centres up facts → (p : ℕ) → IsSame c.args.self.now.disks c.crash-2.new.self p
same c centres up facts stand =
    let old = c.args.self.now.disks in
    let mid = c.crash.new.self in
    let place : c.number-place.result ≡ c.args.centre = c.number-place.ensures.value in
    crash-same c.crash_leaves_the_image.ensures c.args.self.now mid c.crash-2.new.self c.args.centre centres up facts (omega arith) c.requires
    (subst (λ (n : ℕ). KeepsPlaces n old mid) place c.crash.ensures.others)
    (subst (λ (n : ℕ). IsBut (crashed Lost (at_place old n)) (at_place mid n)) place c.crash.ensures.place)
    (subst (λ (n : ℕ). KeepsPlaces (n + 16) mid c.crash-2.new.self) place c.crash-2.ensures.others)
    (subst (λ (n : ℕ). IsBut (crashed Lost (at_place mid (n + 16))) (at_place c.crash-2.new.self (n + 16))) place c.crash-2.ensures.place) stand

pub returns-clause-kept : goal.returns-clause-kept
returns-clause-kept c centres up facts stand running =
    crash-stays c.args.self.now _ c.args.centre centres up facts (omega arith) c.requires refl (same c centres up facts stand) stand

pub returns-clause-tail : goal.returns-clause-tail
returns-clause-tail c centres up facts stand running =
    let new : Logs = record { disks = c.crash-2.new.self; «open» = c.args.self.now.open } in
    let alike = same-areas c.args.self.now.disks c.crash-2.new.self (same c centres up facts stand) in
    has-tail c.args.self.now new c.args.centre (tail_at c.args.self.now c.args.centre) (λ b low other. alike b)
    (tail-same c.args.self.now new c.args.centre (alike c.args.centre))
