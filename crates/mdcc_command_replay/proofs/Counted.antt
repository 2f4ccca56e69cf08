-- The numbers of a sample.
use Rattle.std.proofs.Common.{◌≡◌, ◌+◌, ◌++◌, List, [], ◌∷◌, Option, Some, None, Result, Ok, Err, length, not, is_some, inl, inr, ℕ, refl, ap, ◌∙◌, subst, arith}
use Rattle.std.proofs.lemmas.List.{length-map}
use Rattle.std.specs.Io.KnownBytes.{Appends}
use Rattle.mdcc_base.specs.Counts.{number_of}
use Rattle.mdcc_def_ledger.specs.Ledger.{outcome_of, txs_begun}
use Rattle.mdcc_option.specs.declared.choices.Outcome.{Outcome}
use Rattle.mdcc_def_protocol.specs.Marks.{is_abort}
use Rattle.mdcc_def_simulation.specs.Replay.{Replay}
use Rattle.mdcc_def_simulation.specs.Runs.{end_line, is_commit_found, outcomes_of}
use Rattle.mdcc_def_language.specs.Errors.{ReplayFault}
use Rattle.mdcc_def_language.specs.declared.lines.Line.{Line}
use Rattle.mdcc_command_replay.specs.Refusals.{fault_of}
use Rattle.mdcc_command_replay.specs.Runs.{IsStatus}
use Rattle.mdcc_command_replay.specs.Samples.{EndsAs, numbers_of, sample_lines_by, sample_numbers_text, sample_of, shop_text}
use Rattle.mdcc_command_replay.specs.Writing.{LeavesLast, Replayed, StandsLast, refusal_in}
use Rattle.mdcc_command_replay.specs.declared.refusals.Refusal.{Refusal}
use Rattle.mdcc_command_replay.specs.declared.reports.Ended.{Ended}
use Rattle.mdcc_command_replay.specs.declared.reports.Ended.TheVariants.{Early, Whole}
use Rattle.mdcc_command_replay.specs.declared.samples.Numbers.{Numbers}
use Rattle.mdcc_command_replay.specs.declared.writing.Failure.{Failure}
use Rattle.mdcc_command_replay.specs.declared.writing.Failure.TheVariants.{Output, Memory}
use Rattle.mdcc_def_simulation.specs.State.{World}

-- each outcome is a commit, an abort or none
all_counted : (os : List (Option Outcome)) → number_of is_commit_found os + number_of is_abort os + number_of (λ o. not (is_some o)) os ≡ length os
all_counted [] = refl
all_counted (Some (Outcome.Commit choices) ∷ os) = let h = all_counted os in omega arith
all_counted (Some Outcome.Abort ∷ os) = let h = all_counted os in omega arith
all_counted (None ∷ os) = let h = all_counted os in omega arith

begun_counted : (w : World) → number_of is_commit_found (outcomes_of w) + number_of is_abort (outcomes_of w) + number_of (λ o. not (is_some o)) (outcomes_of w) ≡ length (txs_begun w.ledger)
begun_counted w = all_counted (outcomes_of w) ∙ length-map (txs_begun w.ledger) (outcome_of w.cluster.quorums w.ledger)

-- the numbers of a world, by its last line and its reads
pub world_counted : (w : World) (events messages commits aborts undecided reads begun : ℕ) → Line.End events messages commits aborts undecided ≡ end_line w → reads ≡ length w.reads → begun ≡ commits + aborts + undecided
    → let numbers : Numbers = record { begun = begun; commits = commits; aborts = aborts; undecided = undecided; reads = reads; messages = messages } in numbers ≡ numbers_of w
world_counted w events messages commits aborts undecided reads begun e r b =
    let c : commits ≡ number_of is_commit_found (outcomes_of w) = cc in
    let a : aborts ≡ number_of is_abort (outcomes_of w) = cc in
    let u : undecided ≡ number_of (λ o. not (is_some o)) (outcomes_of w) = cc in
    let m : messages ≡ length w.sent = cc in
    let all : begun ≡ length (txs_begun w.ledger) = omega (arith, b, c, a, u, begun_counted w) in
    λ i. record { begun = all i; commits = c i; aborts = a i; undecided = u i; reads = r i; messages = m i }

-- how a replay ended of which nothing is kept
pub ends_as : {W : Type 0} (stands : W → World → Type 0) (before after : Option (List ℕ)) (whole : Replay) (end : Ended W) → Replayed before after whole (refusal_in (Ok end)) → LeavesLast stands whole (Ok end) → EndsAs stands whole end
ends_as stands before after whole (Whole world) written last = (written.fault, last)
ends_as stands before after whole (Early refusal) written last = written.fault

-- the two lines of a replay that came to its end
pub lines_told : (is_now : World → Type 0) (whole : Replay) (first : List ℕ) (numbers : Numbers) (text : List ℕ) → whole.fault ≡ None → StandsLast is_now whole → ((w : World) → is_now w → numbers ≡ numbers_of w)
    → text ≡ first ++ sample_numbers_text numbers → text ≡ sample_lines_by first whole.fault whole.world
lines_told is_now whole first numbers text none last counted e =
    rw (none, last.last) (e ∙ ap (λ (n : Numbers). first ++ sample_numbers_text n) (counted last.world last.stands))

-- nothing is written of one that ended early
pub none_told : (whole : Replay) (first : List ℕ) (fault : ReplayFault) → whole.fault ≡ Some fault → sample_lines_by first whole.fault whole.world ≡ []
none_told whole first fault e = rw e refl

-- a status of a refused header
pub sample_refused : (before after : Option (List ℕ)) (whole : Replay) (first : List ℕ) (r : Result (Option Refusal) Failure) (status : ℕ) → whole.text ≡ sample_lines_by first whole.fault whole.world → Replayed before after whole r → IsStatus r status → status ≡ 3 → Appends before after []
sample_refused before after whole first (Ok None) status e h (inl s) is = absurd (omega (arith, s, is))
sample_refused before after whole first (Ok (Some refusal)) status e h (inl s) is =
    subst (Appends before after) (e ∙ none_told whole first (fault_of refusal) h.fault) h.wrote
sample_refused before after whole first (Ok None) status e h (inr s) is = absurd (omega (arith, s, is))
sample_refused before after whole first (Ok (Some refusal)) status e h (inr s) is = absurd (omega (arith, s, is))
sample_refused before after whole first (Err Output) status e h s is = absurd (omega (arith, s, is))
sample_refused before after whole first (Err Memory) status e h s is = absurd (omega (arith, s, is))

pub sample_lines : (seed items orders : ℕ) → (sample_of seed items orders).text ≡ sample_lines_by (shop_text seed items orders) (sample_of seed items orders).fault (sample_of seed items orders).world
unfolding sample_of
sample_lines seed items orders = refl
