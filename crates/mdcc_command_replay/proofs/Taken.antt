-- One line of a replay after another.
use Rattle.std.proofs.Common.{◌≡◌, ◌+◌, ◌∷◌, [], List, ℕ, Option, Some, None, Result, Ok, Err, ap, subst}
use Rattle.mdcc_option.specs.declared.cluster.Cluster.{Cluster}
use Rattle.mdcc_def_simulation.specs.Replay.{Replay, lines_replayed}
use Rattle.mdcc_def_simulation.specs.State.{World}
use Rattle.mdcc_command_replay.proofs.Fronts.{ends_behind, front_behind, reached_on}
use Rattle.mdcc_command_replay.specs.Writing.{IsLeftBy, LeavesLast, Reached, ReplayProgress, Replayed, ReplayedTo, StandsLast, refusal_in}
use Rattle.mdcc_command_replay.specs.declared.refusals.Refusal.{Refusal}
use Rattle.mdcc_command_replay.specs.declared.reports.Ended.{Ended}
use Rattle.mdcc_command_replay.specs.declared.reports.Ended.TheVariants.{Early, Whole}
use Rattle.mdcc_command_replay.specs.declared.writing.Failure.{Failure}

-- the lines that are left, in the world that is left
abbrev pub left_lines : Cluster → ℕ → List (List ℕ) → World → Replay
left_lines cluster number lines w = lines_replayed cluster number w lines

go_on : (is_now : World → Type 0) (a b c : Option (List ℕ)) (whole mid : Replay) (left : World → Replay) (r : Result (Option Refusal) Failure) → ReplayProgress a b whole mid
    → ReplayedTo is_now b c mid left r → ReplayedTo is_now a c whole left r
go_on is_now a b c whole mid left (Ok None) p h = reached_on is_now a b c whole mid left p h
go_on is_now a b c whole mid left (Ok (Some refusal)) p h = ends_behind a b c whole mid (Some refusal) p h
go_on is_now a b c whole mid left (Err failure) p h = front_behind a b c whole mid p h

-- a line behind those that were taken
pub line_taken : (was is_now : World → Type 0) (a b c : Option (List ℕ)) (cluster : Cluster) (number : ℕ) (lines : List (List ℕ)) (line : List ℕ) (others : List (List ℕ)) (whole : Replay)
    (r : Result (Option Refusal) Failure) → lines ≡ line ∷ others → Reached was a b whole (left_lines cluster number lines)
    → ((w : World) (behind : List (List ℕ)) → was w → ReplayedTo is_now b c (lines_replayed cluster number w (line ∷ behind)) (left_lines cluster (number + 1) behind) r)
    → ReplayedTo is_now a c whole (left_lines cluster (number + 1) others) r
line_taken was is_now a b c cluster number lines line others whole r e h next =
    let at_lines : List (List ℕ) → Type 0 = λ ls. ReplayProgress a b whole (left_lines cluster number ls h.world) in
    go_on is_now a b c whole (left_lines cluster number (line ∷ others) h.world) (left_lines cluster (number + 1) others) r (subst at_lines e h.progress) (next h.world others h.stands)

pub finish : (a b c : Option (List ℕ)) (whole mid : Replay) (r : Result (Option Refusal) Failure) → ReplayProgress a b whole mid → Replayed b c mid r → Replayed a c whole r
finish a b c whole mid (Ok refusal) p h = ends_behind a b c whole mid refusal p h
finish a b c whole mid (Err failure) p h = front_behind a b c whole mid p h

-- the end behind them
pub all_taken : (is_now : World → Type 0) (a b c : Option (List ℕ)) (cluster : Cluster) (number : ℕ) (lines : List (List ℕ)) (whole : Replay) (r : Result (Option Refusal) Failure) → lines ≡ []
    → Reached is_now a b whole (left_lines cluster number lines)
    → ((w : World) (cluster : Cluster) (number : ℕ) → is_now w → Replayed b c (lines_replayed cluster number w []) r)
    → Replayed a c whole r
all_taken is_now a b c cluster number lines whole r e h last =
    let at_lines : List (List ℕ) → Type 0 = λ ls. ReplayProgress a b whole (left_lines cluster number ls h.world) in
    finish a b c whole (left_lines cluster number [] h.world) r (subst at_lines e h.progress) (last h.world cluster number h.stands)

-- the world that is left at the end
pub last_taken : (is_now : World → Type 0) (a b : Option (List ℕ)) (cluster : Cluster) (number : ℕ) (lines : List (List ℕ)) (whole : Replay) → lines ≡ []
    → Reached is_now a b whole (left_lines cluster number lines) → StandsLast is_now whole
last_taken is_now a b cluster number lines whole e h =
    let at_lines : List (List ℕ) → Type 0 = λ ls. ReplayProgress a b whole (left_lines cluster number ls h.world) in
    let end : ReplayProgress a b whole (left_lines cluster number [] h.world) = subst at_lines e h.progress in
    record { world = h.world; last = ap (λ (r : Replay). r.world) end.same; stands = h.stands }

-- what is left behind the lines
pub left_written : {W : Type 0} (a b : Option (List ℕ)) (whole : Replay) (replayed : Result (Option Refusal) Failure) (world : W) (r : Result (Ended W) Failure) → IsLeftBy replayed world r
    → Replayed a b whole replayed → Replayed a b whole (refusal_in r)
left_written a b whole replayed world (Ok (Whole left)) e h = rw e.0 at h
left_written a b whole replayed world (Ok (Early refusal)) e h = rw e at h
left_written a b whole replayed world (Err failure) e h = rw e at h

pub left_last : {W : Type 0} (stands : W → World → Type 0) (whole : Replay) (replayed : Result (Option Refusal) Failure) (world : W) (r : Result (Ended W) Failure) → IsLeftBy replayed world r
    → (replayed ≡ Ok None → StandsLast (stands world) whole) → LeavesLast stands whole r
left_last stands whole replayed world (Ok (Whole left)) e h = rw e.1 (h e.0)
left_last stands whole replayed world (Ok (Early refusal)) e h = tt
left_last stands whole replayed world (Err failure) e h = tt
