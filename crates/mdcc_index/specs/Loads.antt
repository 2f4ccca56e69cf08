-- What is live in an instance, where any test says which transactions are void.
use Rattle.std.specs.Prelude.{Bool, List, filter, not, ℕ}
use Rattle.mdcc_base.specs.declared.identifiers.TxId.{TxId}
use Rattle.mdcc_base.specs.declared.key.Key.{Key}
use Rattle.mdcc_def_messages.specs.declared.facts.Fact.{Fact}
use Rattle.mdcc_def_protocol.specs.Fit.{capped, load_of}
use Rattle.mdcc_def_protocol.specs.Plain.{plain_live_and_void}
use Rattle.mdcc_def_protocol.specs.declared.fit.Load.{Load}

-- what the live choices weigh beside a seen set. By what the facts themselves say of void ones it is plain_load_at
abbrev pub plain_load_by : (TxId → Bool) → List Fact → Key → ℕ → List TxId → Load
plain_load_by void facts key version seen = capped (load_of (filter (λ e. not (void e.0)) (plain_live_and_void facts key version)) seen)
