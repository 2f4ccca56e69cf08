-- The status of a command by the logs that it opens.
use Rattle.std.proofs.Common.{◌≡◌, ◌⊎◌, ◌<◌, ◌&&◌, ◌==◌, Err, IsTrue, List, Ok, Result, arith, inl, inr, refl, sym, ◌∙◌, ap, ℕ}
use Rattle.std.specs.Prelude.{is_err}
use Rattle.mdcc_log_file.specs.declared.fault.LogFault.{LogFault}
use Rattle.mdcc_command_endings.proofs.Accepted.{IsUnlucky, status_done, status_failed}
use Rattle.mdcc_command_endings.specs.Endings.{failure_status, status_after}
use Rattle.mdcc_command_endings.specs.Logs.{ComesBefore, EndsByLogs, IsFirstRefused, LogRefusal, SaysLogs, SaysRefused, refusal_failure}
use Rattle.mdcc_command_endings.specs.declared.fault.Failure.{Failure}
use Rattle.mdcc_base.specs.declared.source.ReadAllFault.{ReadAllFault}
use Rattle.mdcc_config.specs.declared.faults.ConfigFault.{ConfigFault}
use Rattle.mdcc_def_messages.specs.declared.facts.Fact.{Fact}
use Rattle.mdcc_def_rules.specs.declared.node.BootFault.{BootFault}

module _ (node : ℕ → Result (List Fact) LogRefusal) (first last : ℕ) where
  -- ---- a failure by its status

  abbrev None : Type 0
  None = (a : ℕ) × (why : LogRefusal) × IsFirstRefused node first last a why × (failure_status (refusal_failure a why) ≡ 9)

  none_of : (failure : Failure) → SaysRefused node first last failure → failure_status failure ≡ 9 → None
  none_of (Failure.Log a (LogFault.NotALog offset)) says is = (a, LogRefusal.NotALog offset, says, refl)
  none_of (Failure.Log a LogFault.DiskFault) says is = absurd (omega (is, arith))
  none_of (Failure.Log a LogFault.LogFull) says is = absurd (omega (is, arith))
  none_of (Failure.Log a LogFault.Memory) says is = absurd (omega (is, arith))
  none_of (Failure.Boot a (BootFault.NotARun n)) says is = (a, LogRefusal.NoNode (BootFault.NotARun n), says, refl)
  none_of (Failure.Boot a BootFault.Epochs) says is = absurd (omega (is, arith))
  none_of (Failure.Boot a (BootFault.Room needed cells)) says is = absurd (omega (is, arith))
  none_of (Failure.Boot a BootFault.Memory) says is = absurd (omega (is, arith))
  none_of (Failure.Input ReadAllFault.Failed) says is = absurd (omega (is, arith))
  none_of (Failure.Input ReadAllFault.TooLong) says is = absurd (omega (is, arith))
  none_of (Failure.Input ReadAllFault.Memory) says is = absurd (omega (is, arith))
  none_of (Failure.Config ConfigFault.Json) says is = absurd (omega (is, arith))
  none_of (Failure.Config (ConfigFault.Member name)) says is = absurd (omega (is, arith))
  none_of (Failure.Config (ConfigFault.Kind name)) says is = absurd (omega (is, arith))
  none_of (Failure.Config (ConfigFault.Range name)) says is = absurd (omega (is, arith))
  none_of (Failure.Config (ConfigFault.Quorums fault)) says is = absurd (omega (is, arith))
  none_of (Failure.Config (ConfigFault.Schema fault)) says is = absurd (omega (is, arith))
  none_of (Failure.Config (ConfigFault.Address centre)) says is = absurd (omega (is, arith))
  none_of (Failure.Config ConfigFault.Memory) says is = absurd (omega (is, arith))
  none_of Failure.Centre says is = absurd (omega (is, arith))
  none_of Failure.Link says is = absurd (omega (is, arith))
  none_of Failure.Serial says is = absurd (omega (is, arith))
  none_of Failure.Output says is = absurd (omega (is, arith))
  none_of Failure.Memory says is = absurd (omega (is, arith))

  abbrev Epochs : Type 0
  Epochs = (a : ℕ) × IsFirstRefused node first last a (LogRefusal.NoNode BootFault.Epochs)

  epochs_of : (failure : Failure) → SaysRefused node first last failure → failure_status failure ≡ 12 → Epochs
  epochs_of (Failure.Boot a BootFault.Epochs) says is = (a, says)
  epochs_of (Failure.Boot a (BootFault.NotARun n)) says is = absurd (omega (is, arith))
  epochs_of (Failure.Boot a (BootFault.Room needed cells)) says is = absurd (omega (is, arith))
  epochs_of (Failure.Boot a BootFault.Memory) says is = absurd (omega (is, arith))
  epochs_of (Failure.Log a (LogFault.NotALog offset)) says is = absurd (omega (is, arith))
  epochs_of (Failure.Log a LogFault.DiskFault) says is = absurd (omega (is, arith))
  epochs_of (Failure.Log a LogFault.LogFull) says is = absurd (omega (is, arith))
  epochs_of (Failure.Log a LogFault.Memory) says is = absurd (omega (is, arith))
  epochs_of (Failure.Input ReadAllFault.Failed) says is = absurd (omega (is, arith))
  epochs_of (Failure.Input ReadAllFault.TooLong) says is = absurd (omega (is, arith))
  epochs_of (Failure.Input ReadAllFault.Memory) says is = absurd (omega (is, arith))
  epochs_of (Failure.Config ConfigFault.Json) says is = absurd (omega (is, arith))
  epochs_of (Failure.Config (ConfigFault.Member name)) says is = absurd (omega (is, arith))
  epochs_of (Failure.Config (ConfigFault.Kind name)) says is = absurd (omega (is, arith))
  epochs_of (Failure.Config (ConfigFault.Range name)) says is = absurd (omega (is, arith))
  epochs_of (Failure.Config (ConfigFault.Quorums fault)) says is = absurd (omega (is, arith))
  epochs_of (Failure.Config (ConfigFault.Schema fault)) says is = absurd (omega (is, arith))
  epochs_of (Failure.Config (ConfigFault.Address centre)) says is = absurd (omega (is, arith))
  epochs_of (Failure.Config ConfigFault.Memory) says is = absurd (omega (is, arith))
  epochs_of Failure.Centre says is = absurd (omega (is, arith))
  epochs_of Failure.Link says is = absurd (omega (is, arith))
  epochs_of Failure.Serial says is = absurd (omega (is, arith))
  epochs_of Failure.Output says is = absurd (omega (is, arith))
  epochs_of Failure.Memory says is = absurd (omega (is, arith))

  -- ---- what came before

  abbrev Before : ℕ → ℕ → Type 0
  Before a status = (status ≡ 5) ⊎ ((status ≡ 7) ⊎ ((status ≡ 10) ⊎ ((status ≡ 11) × (first < a))))

  before_at : (a status : ℕ) (failure : Failure) → ComesBefore first a failure → status ≡ failure_status failure → Before a status
  before_at a status (Failure.Log b LogFault.DiskFault) comes is = inr (inl is)
  before_at a status (Failure.Log b LogFault.LogFull) comes is = inr (inr (inr (is, (let low = comes.0 in let high = comes.1 in omega (low, high, arith)))))
  before_at a status Failure.Memory comes is = inr (inr (inl is))
  before_at a status (Failure.Log b (LogFault.NotALog offset)) comes is = absurd comes
  before_at a status (Failure.Log b LogFault.Memory) comes is = absurd comes
  before_at a status (Failure.Boot b why) comes is = absurd comes
  before_at a status (Failure.Input fault) comes is = absurd comes
  before_at a status (Failure.Config fault) comes is = absurd comes
  before_at a status Failure.Centre comes is = absurd comes
  before_at a status Failure.Link comes is = absurd comes
  before_at a status Failure.Serial comes is = absurd comes
  before_at a status Failure.Output comes is = absurd comes

  ten_isnt : (status n : ℕ) → status ≡ 10 → status ≡ n → (n ≡ 10 → ⊥) → ⊥
  ten_isnt status n ten is other = other (omega (ten, is, arith))

  -- ---- of a command that opened them

  pub ends_by_logs : {T : Type 0} (done : Result T Failure) (status : ℕ) → (status ≡ status_after done) ⊎ IsTrue (is_err done && status == 10) → SaysLogs node first last done → EndsByLogs node first last status
  ends_by_logs (Ok done) status status_is says = record {
    none = λ is. absurd (not_done is (λ h. absurd (omega (h, arith))));
    epochs = λ is. absurd (not_done is (λ h. absurd (omega (h, arith))));
    refused = λ a why refused. absurd (says.refused a why refused);
  }
    where
      not_done : {n : ℕ} → status ≡ n → (n ≡ 0 → ⊥) → ⊥
      not_done is zero = zero (sym is ∙ status_done done status status_is)
  ends_by_logs {T = T} (Err failure) status status_is says = record {
    none = λ is. elim by_status [
      | inl e ↦ none_of failure says.says (sym e ∙ is)
      | inr ten ↦ absurd (ten_isnt status 9 ten is (λ h. absurd (omega (h, arith))))
    ];
    epochs = λ is. elim by_status [
      | inl e ↦ epochs_of failure says.says (sym e ∙ is)
      | inr ten ↦ absurd (ten_isnt status 12 ten is (λ h. absurd (omega (h, arith))))
    ];
    refused = λ a why refused. elim by_status [
      | inl e ↦ elim (says.refused a why refused) [
        | inl same ↦ inl (e ∙ ap failure_status same)
        | inr before ↦ inr (before_at a status failure before e)
      ]
      | inr ten ↦ inr (inr (inr (inl ten)))
    ];
  }
    where
      by_status : (status ≡ failure_status failure) ⊎ (status ≡ 10)
      by_status = status_failed {T = T} (Err failure) failure status refl status_is

  -- ---- of one that opened none

  pub ends_unlucky : {T : Type 0} (done : Result T Failure) (failure : Failure) (status : ℕ) → done ≡ Err failure → (status ≡ status_after done) ⊎ IsTrue (is_err done && status == 10) → IsUnlucky failure → EndsByLogs node first last status
  ends_unlucky done failure status is status_is unlucky = record {
    none = λ at. absurd (not_at 9 at (λ h. absurd (omega (h, arith))) (λ h. absurd (omega (h, arith))));
    epochs = λ at. absurd (not_at 12 at (λ h. absurd (omega (h, arith))) (λ h. absurd (omega (h, arith))));
    refused = λ a why refused. elim either [
      | inl five ↦ inr (inl five)
      | inr ten ↦ inr (inr (inr (inl ten)))
    ];
  }
    where
      either : (status ≡ 5) ⊎ (status ≡ 10)
      either = elim (status_failed done failure status is status_is) [
        | inl e ↦ elim unlucky.why [
          | inl failed ↦ inl (e ∙ ap failure_status failed)
          | inr ten ↦ inr (e ∙ ten)
        ]
        | inr ten ↦ inr ten
      ]

      not_at : (n : ℕ) → status ≡ n → (n ≡ 5 → ⊥) → (n ≡ 10 → ⊥) → ⊥
      not_at n at five ten = elim either [
        | inl e ↦ five (sym at ∙ e)
        | inr e ↦ ten (sym at ∙ e)
      ]
