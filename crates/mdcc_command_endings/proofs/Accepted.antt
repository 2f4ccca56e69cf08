-- What becomes of an input that is a configuration.
use Rattle.std.proofs.Common.{◌≡◌, ◌⊎◌, ◌&&◌, ◌==◌, Bool, Err, IsTrue, List, Ok, Result, arith, false, true, inl, inr, refl, sym, ◌∙◌, ap, ℕ}
use Rattle.std.proofs.lemmas.Bool.{and_parts, eqb-true}
use Rattle.std.specs.Bool.{OnFalse}
use Rattle.std.specs.Prelude.{MatchBool, is_err}
use Rattle.mdcc_base.specs.declared.source.ReadAllFault.{ReadAllFault}
use Rattle.mdcc_config.specs.Configuration.{is_config_memory}
use Rattle.mdcc_config.specs.declared.config.Config.{Config}
use Rattle.mdcc_config.specs.declared.faults.ConfigFault.{ConfigFault}
use Rattle.mdcc_command_endings.specs.Endings.{failure_status, status_after}
use Rattle.mdcc_command_endings.specs.Readings.{GivesConfig, IsConfigRead}
use Rattle.mdcc_command_endings.specs.declared.fault.Failure.{Failure}

-- the read failed, or there was no memory
pub record IsUnlucky (failure : Failure) : Type 0 where
  pub why : (failure ≡ Failure.Input ReadAllFault.Failed) ⊎ (failure_status failure ≡ 10)

not_both : (input : List ℕ) (config : Config) (fault : ConfigFault) → IsConfigRead input (Ok config) → IsConfigRead input (Err fault) → ⊥
not_both input config fault is other = let bad : Ok config ≡ Err fault = sym is.is ∙ other.is in cc

config_unlucky : (input : List ℕ) (config : Config) (fault : ConfigFault) → IsConfigRead input (Ok config) → OnFalse (is_config_memory fault) (IsConfigRead input (Err fault)) → IsUnlucky (Failure.Config fault)
config_unlucky input config ConfigFault.Json is gives = absurd (not_both input config _ is gives)
config_unlucky input config (ConfigFault.Member name) is gives = absurd (not_both input config _ is gives)
config_unlucky input config (ConfigFault.Kind name) is gives = absurd (not_both input config _ is gives)
config_unlucky input config (ConfigFault.Range name) is gives = absurd (not_both input config _ is gives)
config_unlucky input config (ConfigFault.Quorums fault) is gives = absurd (not_both input config _ is gives)
config_unlucky input config (ConfigFault.Schema fault) is gives = absurd (not_both input config _ is gives)
config_unlucky input config (ConfigFault.Address centre) is gives = absurd (not_both input config _ is gives)
config_unlucky input config ConfigFault.Memory is gives = record { why = inr refl }

-- it is read as itself, unless the read failed or there was no memory
pub accepted : (input : List ℕ) (config : Config) (read : Result Config Failure) → IsConfigRead input (Ok config) → GivesConfig input read
    → (read ≡ Ok config) ⊎ ((failure : Failure) × (read ≡ Err failure) × IsUnlucky failure)
accepted input config (Ok other) is gives = inl (let both : Ok other ≡ Ok config = sym gives.is ∙ is.is in cc)
accepted input config (Err (Failure.Input ReadAllFault.Failed)) is gives = inr (Failure.Input ReadAllFault.Failed, refl, record { why = inl refl })
accepted input config (Err (Failure.Input ReadAllFault.TooLong)) is gives = (let short = is.short in absurd (omega (short, gives, arith)))
accepted input config (Err (Failure.Input ReadAllFault.Memory)) is gives = inr (Failure.Input ReadAllFault.Memory, refl, record { why = inr refl })
accepted input config (Err (Failure.Config fault)) is gives = inr (Failure.Config fault, refl, config_unlucky input config fault is gives)
accepted input config (Err Failure.Centre) is gives = absurd gives
accepted input config (Err (Failure.Log centre fault)) is gives = absurd gives
accepted input config (Err (Failure.Boot centre fault)) is gives = absurd gives
accepted input config (Err Failure.Link) is gives = absurd gives
accepted input config (Err Failure.Serial) is gives = absurd gives
accepted input config (Err Failure.Output) is gives = absurd gives
accepted input config (Err Failure.Memory) is gives = absurd gives

-- ---- whether there is its centre

pub from_true : (b : Bool) (P Q : Type 0) → b ≡ true → MatchBool b P Q → P
from_true true P Q e p = p
from_true false P Q e q = absurd (cc)

-- ---- the status of what was done

pub status_done : {T : Type 0} (done : T) (status : ℕ) → (status ≡ status_after (Ok done)) ⊎ IsTrue (is_err {E = Failure} (Ok done) && status == 10) → status ≡ 0
status_done done status (inl e) = e
status_done done status (inr h) = let bad : false ≡ true = (and_parts false (status == 10) h).0 in absurd (cc)

pub status_failed : {T : Type 0} (done : Result T Failure) (failure : Failure) (status : ℕ) → done ≡ Err failure → (status ≡ status_after done) ⊎ IsTrue (is_err done && status == 10) → (status ≡ failure_status failure) ⊎ (status ≡ 10)
status_failed done failure status is (inl e) = inl (e ∙ ap status_after is)
status_failed done failure status is (inr h) = inr (eqb-true status 10 (and_parts (is_err done) (status == 10) h).1)
