-- What a status says of what was written.
use Rattle.std.proofs.Common.{◌≡◌, List, ℕ, Bool, true, false, Option, Some, None, Result, Ok, Err, IfSome, inl, inr, refl, sym, ap, ◌∙◌, subst}
use Rattle.std.specs.Bool.{OnFalse}
use Rattle.std.specs.Io.KnownBytes.{Appends}
use Rattle.mdcc_def_language.specs.Errors.{AtEvent, AtHeader, AtLine, ReplayFault, TooLong, error_text, status_at_event, status_at_line, status_of}
use Rattle.mdcc_def_language.specs.declared.schedule.SchedCause.{SchedCause}
use Rattle.mdcc_def_language.specs.declared.world.EventFault.{EventFault}
use Rattle.mdcc_def_simulation.specs.Replay.{Replay}
use Rattle.mdcc_command_replay.proofs.Fronts.{all_written}
use Rattle.mdcc_command_replay.specs.Refusals.{faults_of}
use Rattle.mdcc_command_replay.specs.Runs.{IsStatus, is_own_status, is_status, refusal_line}
use Rattle.mdcc_command_replay.specs.Writing.{Front, Replayed}
use Rattle.mdcc_command_replay.specs.declared.refusals.Refusal.{Refusal}
use Rattle.mdcc_command_replay.specs.declared.writing.Failure.{Failure}
use Rattle.mdcc_command_replay.specs.declared.writing.Failure.TheVariants.{Output, Memory}

unless_true : {P : Type 0} (test : Bool) → P → OnFalse test P
unless_true true p = tt
unless_true false p = p

-- of a status that no input has nothing is asked
own_status : (P : ℕ → Type 0) (status own : ℕ) → is_own_status own ≡ true → status ≡ own → OnFalse (is_own_status status) (P status)
own_status P status own is e = subst (λ (s : ℕ). OnFalse (is_own_status s) (P s)) (sym e) (subst (λ (t : Bool). OnFalse t (P own)) (sym is) tt)

pub front_written : (a b : Option (List ℕ)) (whole : Replay) (r : Result (Option Refusal) Failure) → Replayed a b whole r → Front a b whole.text
front_written a b whole (Ok refusal) h = all_written a b whole.text h.wrote
front_written a b whole (Err failure) h = h

pub whole_written : (a b : Option (List ℕ)) (whole : Replay) (r : Result (Option Refusal) Failure) (status : ℕ) → Replayed a b whole r → IsStatus r status
    → OnFalse (is_own_status status) ((status ≡ status_of whole.fault) × Appends a b whole.text)
whole_written a b whole (Ok refusal) status h (inl e) = unless_true (is_own_status status) (e ∙ ap status_of (sym h.fault), h.wrote)
whole_written a b whole (Ok refusal) status h (inr e) = own_status (λ (s : ℕ). (s ≡ status_of whole.fault) × Appends a b whole.text) status 10 refl e
whole_written a b whole (Err Output) status h e = own_status (λ (s : ℕ). (s ≡ status_of whole.fault) × Appends a b whole.text) status 6 refl e
whole_written a b whole (Err Memory) status h e = own_status (λ (s : ℕ). (s ≡ status_of whole.fault) × Appends a b whole.text) status 10 refl e

told_by : (P : List ℕ → Type 0) (test : Bool) (whole : Replay) (refusal : Option Refusal) → whole.fault ≡ faults_of refusal → OnFalse test (P (error_text (faults_of refusal))) → OnFalse test (P (error_text whole.fault))
told_by P test whole refusal e h = subst (λ fault. OnFalse test (P (error_text fault))) (sym e) h

pub line_told : (a b : Option (List ℕ)) (whole : Replay) (r : Result (Option Refusal) Failure) (status : ℕ) (P : List ℕ → Type 0) → Replayed a b whole r → IsStatus r status
    → OnFalse (is_own_status status) (P (refusal_line r)) → OnFalse (is_own_status status) (P (error_text whole.fault))
line_told a b whole (Ok refusal) status P h s told = told_by P (is_own_status status) whole refusal h.fault told
line_told a b whole (Err Output) status P h e told = own_status (λ s. P (error_text whole.fault)) status 6 refl e
line_told a b whole (Err Memory) status P h e told = own_status (λ s. P (error_text whole.fault)) status 10 refl e

-- ---- which there are

known_at_line : (cause : SchedCause) → is_status (status_at_line cause) ≡ true
known_at_line SchedCause.Word = refl
known_at_line SchedCause.Number = refl
known_at_line SchedCause.Key = refl
known_at_line SchedCause.Range = refl
known_at_line SchedCause.Order = refl
known_at_line SchedCause.Memory = refl

known_at_event : (fault : EventFault) → is_status (status_at_event fault) ≡ true
known_at_event (EventFault.NoMessage number) = refl
known_at_event (EventFault.Down centre) = refl
known_at_event (EventFault.Up centre) = refl
known_at_event (EventFault.NoRead number) = refl
known_at_event (EventFault.Begin fault) = refl
known_at_event (EventFault.Limit name value) = refl
known_at_event EventFault.Memory = refl

known_of : (fault : Option ReplayFault) → is_status (status_of fault) ≡ true
known_of None = refl
known_of (Some TooLong) = refl
known_of (Some (AtHeader fault)) = refl
known_of (Some (AtLine line fault)) = known_at_line fault.cause
known_of (Some (AtEvent line fault)) = known_at_event fault

pub known_status : (r : Result (Option Refusal) Failure) (status : ℕ) → IsStatus r status → is_status status ≡ true
known_status (Ok refusal) status (inl e) = ap is_status e ∙ known_of (faults_of refusal)
known_status (Ok refusal) status (inr e) = ap is_status e
known_status (Err Output) status e = ap is_status e
known_status (Err Memory) status e = ap is_status e

-- ---- known inputs

pub for_any : (known : Option (List ℕ)) (P : List ℕ → Type 0) → ((input : List ℕ) → P input) → IfSome known P
for_any None P h = tt
for_any (Some input) P h = h input

pub for_such : (known : Option (List ℕ)) (P Q : List ℕ → Type 0) → ((input : List ℕ) → P input → Q input) → IfSome known P → IfSome known Q
for_such None P Q h p = tt
for_such (Some input) P Q h p = h input p
