-- What the clauses on single statuses say of what was written.
use Rattle.std.proofs.Common.{◌≡◌, ◌==◌, ◌||◌, Bool, IfSome, List, None, Option, Some, [], false, inl, inr, true, ℕ}
use Rattle.std.specs.Bool.{OnFalse}
use Rattle.std.specs.Io.KnownBytes.{Appends}
use Rattle.std.proofs.lemmas.Bool.{cases_Bool, eqb-true}
use Rattle.mdcc_def_simulation.specs.Replay.{output_of, replay_of}
use Rattle.mdcc_command_replay.specs.Runs.{is_own_status}
use Rattle.mdcc_command_replay.specs.Writing.{Front}
use Rattle.mdcc_theorem_headline.specs.Headline.{ReplayTellsTruth}
use Rattle.mdcc_command.specs.Prints.{IsWrittenByStatus, PrintsTruth}

-- the tests on a status
none_of : (two three five six ten : Bool) → (two || (three || five)) ≡ false → (six || ten) ≡ false → (two || (five || (six || ten))) ≡ false
none_of true three five six ten h k = absurd (cc)
none_of false true five six ten h k = absurd (cc)
none_of false false true six ten h k = absurd (cc)
none_of false false false six ten h k = k

nothing_at : (status : ℕ) (P : Type 0) → (status ≡ 2 → P) → (status ≡ 3 → P) → (status ≡ 5 → P) → (status == 2 || (status == 3 || status == 5)) ≡ true → P
nothing_at status P two three five h =
    elim (cases_Bool (status == 2)) [
      | inl e ↦ two (eqb-true status 2 e)
      | inr e ↦ elim (cases_Bool (status == 3)) [
        | inl f ↦ three (eqb-true status 3 f)
        | inr f ↦ five (eqb-true status 5 (rw (e, f) at h))
      ]
    ]

written_by : (status : ℕ) (before after : Option (List ℕ)) (text : List ℕ) → (status ≡ 2 → Appends before after []) → (status ≡ 3 → Appends before after []) → (status ≡ 5 → Appends before after [])
    → Front before after text → OnFalse (is_own_status status) (Appends before after text) → IsWrittenByStatus status before after text
written_by status before after text two three five front whole =
    elim (cases_Bool (status == 2 || (status == 3 || status == 5))) [
      | inl e ↦ rw e (nothing_at status (Appends before after []) two three five e)
      | inr e ↦ rw e (elim (cases_Bool (status == 6 || status == 10)) [
        | inl f ↦ rw f front
        | inr f ↦ rw f (let none : is_own_status status ≡ false = none_of (status == 2) (status == 3) (status == 5) (status == 6) (status == 10) e f in rw none at whole)
      ])
    ]

second : (P Q : Type 0) (test : Bool) → OnFalse test (P × Q) → OnFalse test Q
second P Q true h = h
second P Q false h = h.1

-- for each input
pub printed : (left : Option (List ℕ)) (status : ℕ) (before after : Option (List ℕ)) → (status ≡ 2 → Appends before after []) → (status ≡ 3 → Appends before after []) → (status ≡ 5 → Appends before after [])
    → IfSome left (λ input. Front before after (output_of (replay_of input)).text)
    → IfSome left (λ input. let output = output_of (replay_of input) in OnFalse (is_own_status status) ((status ≡ output.status) × Appends before after output.text))
    → ((input : List ℕ) → ReplayTellsTruth input) → IfSome left (λ input. PrintsTruth input status before after)
printed None status before after two three five front whole truth = tt
printed (Some input) status before after two three five front whole truth =
    record { written = written_by status before after (replay_of input).text two three five front (second _ _ (is_own_status status) whole); tells_truth = truth input }
