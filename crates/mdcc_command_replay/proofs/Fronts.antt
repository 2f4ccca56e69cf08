-- What was written of a replay, part by part.
use Rattle.std.proofs.Common.{◌≡◌, ◌≤◌, ◌++◌, [], List, ℕ, Option, Result, Ok, Err, OnOk, OnErr, inl, inr, length, take, drop, take-append-drop, refl, sym, ap, ◌∙◌, subst, append_assoc, append-nil}
use Rattle.std.specs.Io.KnownBytes.{Appends}
use Rattle.std.proofs.KnownBytes.{Appends-nil, Appends-trans}
use Rattle.mdcc_base.specs.Causes.{HasCause}
use Rattle.mdcc_base.specs.declared.faults.Failed.{Failed}
use Rattle.mdcc_def_simulation.specs.Replay.{Replay, after_text}
use Rattle.mdcc_def_simulation.specs.State.{World}
use Rattle.mdcc_command_replay.specs.Writing.{Front, ReplayProgress, Ends, Reached, Tells}
use Rattle.mdcc_command_replay.specs.declared.refusals.Refusal.{Refusal}

pub not_begun : (held : Option (List ℕ)) (replay : Replay) → ReplayProgress held held replay replay
not_begun held replay = record { part = []; wrote = Appends-nil held; same = refl }

after_both : (first second : List ℕ) (replay : Replay) → after_text first (after_text second replay) ≡ after_text (first ++ second) replay
after_both first second replay = ap (λ (text : List ℕ). let r : Replay = record { text = text; fault = replay.fault; world = replay.world } in r) (sym (append_assoc first second replay.text))

pub goes_on : (a b c : Option (List ℕ)) (whole mid left : Replay) → ReplayProgress a b whole mid → ReplayProgress b c mid left → ReplayProgress a c whole left
goes_on a b c whole mid left p q = record {
  part = p.part ++ q.part;
  wrote = Appends-trans a b c p.part q.part p.wrote q.wrote;
  same = p.same ∙ ap (after_text p.part) q.same ∙ after_both p.part q.part left;
}

pub front_behind : (a b c : Option (List ℕ)) (whole left : Replay) → ReplayProgress a b whole left → Front b c left.text → Front a c whole.text
front_behind a b c whole left p q = record {
  part = p.part ++ q.part;
  behind = q.behind;
  wrote = Appends-trans a b c p.part q.part p.wrote q.wrote;
  whole = ap (λ (r : Replay). r.text) p.same ∙ ap (λ (text : List ℕ). p.part ++ text) q.whole ∙ sym (append_assoc p.part q.part q.behind);
}

pub ends_behind : (a b c : Option (List ℕ)) (whole left : Replay) (refusal : Option Refusal) → ReplayProgress a b whole left → Ends b c left refusal → Ends a c whole refusal
ends_behind a b c whole left refusal p q = record {
  wrote = (let P : List ℕ → Type 0 = Appends a c in subst P (sym (ap (λ (r : Replay). r.text) p.same)) (Appends-trans a b c p.part left.text p.wrote q.wrote));
  fault = ap (λ (r : Replay). r.fault) p.same ∙ q.fault;
}

-- nothing was written
pub nothing_written : (held : Option (List ℕ)) (text : List ℕ) → Front held held text
nothing_written held text = record { part = []; behind = text; wrote = Appends-nil held; whole = refl }

-- all was written
pub all_written : (a b : Option (List ℕ)) (text : List ℕ) → Appends a b text → Front a b text
all_written a b text h = record { part = text; behind = []; wrote = h; whole = sym (append-nil text) }

-- a front of the first part
pub front_of_first : (a b : Option (List ℕ)) (first second : List ℕ) → Front a b first → Front a b (first ++ second)
front_of_first a b first second p = record {
  part = p.part;
  behind = p.behind ++ second;
  wrote = p.wrote;
  whole = ap (λ (text : List ℕ). text ++ second) p.whole ∙ append_assoc p.part p.behind second;
}

-- the first bytes of a text
pub front_at : (a b : Option (List ℕ)) (text : List ℕ) (n : ℕ) → Appends a b (take n text) → Front a b text
front_at a b text n h = record { part = take n text; behind = drop n text; wrote = h; whole = sym (take-append-drop n text) }

pub tells_by : (a b : Option (List ℕ)) (faults_before faults_after : ℕ) (text : List ℕ) (r : Result (Unit {0}) Failed) → OnOk r (Appends a b text)
    → OnErr r ((n : ℕ) × (n ≤ length text) × Appends a b (take n text)) → HasCause faults_before faults_after r → Tells a b faults_before faults_after text
tells_by a b faults_before faults_after text (Ok done) all front cause = inl all
tells_by a b faults_before faults_after text (Err failed) all front cause = inr (front_at a b text front.0 front.2, cause.failed)

-- one line more
pub reached_on : (is_now : World → Type 0) (a b c : Option (List ℕ)) (whole mid : Replay) (left : World → Replay) → ReplayProgress a b whole mid → Reached is_now b c mid left → Reached is_now a c whole left
reached_on is_now a b c whole mid left p q = record {
  world = q.world;
  stands = q.stands;
  progress = goes_on a b c whole mid (left q.world) p q.progress;
}
