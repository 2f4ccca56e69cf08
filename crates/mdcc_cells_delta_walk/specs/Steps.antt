-- What steps over facts know, with one more fact.
use Rattle.std.specs.List.{fold, prefix_len}
use Rattle.std.specs.Prelude.{◌≡◌, ◌≤◌, Bool, List, None, Option, Some, [], false, filter, if◌then◌else◌, insert, is_some, length, nat_lt, not, true, ℕ, ◌&&◌, ◌==◌, ◌||◌}
use Rattle.mdcc_base.specs.TxId.{tx_eq, tx_lt}
use Rattle.mdcc_base.specs.declared.identifiers.TxId.{TxId}
use Rattle.mdcc_base.specs.declared.key.Key.{Key}
use Rattle.mdcc_def_messages.specs.declared.facts.Fact.{Fact}
use Rattle.mdcc_def_protocol.specs.Facts.{current_of, deltas_at, deltas_from, executed_of}
use Rattle.mdcc_def_protocol.specs.Fit.{has_tx}
use Rattle.mdcc_def_protocol.specs.Marks.{Amounts}
use Rattle.mdcc_struct.specs.Maps.{txs_of, value_of}
use Rattle.mdcc_theorem_fact_folds.specs.Chains.{Covers, is_delta_in}
use Rattle.mdcc_theorem_fact_folds.specs.Held.{older_amounts}
use Rattle.mdcc_cells_delta_walk.specs.Entries.{DeltaEntry, deltas_read, live_read, tx_in}
use Rattle.mdcc_cells_delta_walk.specs.Passing.{byte_at, entry_head}
use Rattle.mdcc_cells_delta_walk.specs.declared.steps.OlderAmounts.{OlderAmounts}
use Rattle.mdcc_cells_delta_walk.specs.declared.steps.WithDeltas.{WithDeltas}

abbrev pub amounts_step : OlderAmounts → Fact → OlderAmounts
amounts_step s fact = record s { found = older_amounts s.key s.version s.tx s.found fact }

-- with a transaction in its place, where it is not there; they are crowded where it would be the 65th
abbrev pub noted : WithDeltas → TxId → WithDeltas
noted s tx =
    if s.crowded || has_tx s.seen tx then s
    else (if length s.seen == 64 then record s { crowded = true } else record s { seen = insert s.seen (prefix_len (λ other. tx_lt other tx) s.seen) tx })

abbrev pub deltas_step : WithDeltas → Fact → WithDeltas
deltas_step s fact = fold noted s (txs_of (deltas_from s.key s.version fact))

-- with the deltas of an encoding
abbrev pub encoding_noted : WithDeltas → List ℕ → WithDeltas
encoding_noted s text = fold noted s (txs_of (deltas_read s.key s.version text))

abbrev pub no_deltas : Key → ℕ → WithDeltas
no_deltas key version = record { key = key; version = version; seen = []; crowded = false }

-- ---- what is read

-- the fact that is encoded says how another transaction ended
abbrev pub is_of_other : TxId → List ℕ → Bool
is_of_other tx bytes = byte_at 0 (entry_head bytes) == 4 && not (tx_eq (tx_in (entry_head bytes) 1) tx)

abbrev pub option_joined : Option (Option Amounts) → Option Amounts
option_joined None = None
option_joined (Some added) = added

-- what the first entry of a transaction adds
abbrev pub value_in : TxId → List DeltaEntry → Option Amounts
value_in tx entries = option_joined (value_of entries tx)

-- whether a fact makes a transaction live, by its encoding
abbrev pub has_live : Key → ℕ → TxId → List ℕ → Bool
has_live key version tx bytes = not (is_of_other tx bytes) && is_some (value_of (live_read key version bytes) tx)

abbrev pub amounts_of : Key → ℕ → TxId → List ℕ → Option Amounts
amounts_of key version tx bytes = if is_of_other tx bytes then None else value_in tx (deltas_read key version bytes)

-- ---- what walks know at their end

-- they are crowded where the version has more than 64 deltas
abbrev pub CrowdedByDeltas : Type 0
CrowdedByDeltas =
    (keep : Fact → Bool) (key : Key) (version : ℕ) → Covers keep (is_delta_in key version)
    → (facts : List Fact) → (fold deltas_step (no_deltas key version) (filter keep facts)).crowded ≡ nat_lt 64 (length (deltas_at facts key version))

-- where at most 64 deltas are executed, the transactions that were noted are theirs
abbrev pub ExecutedAreNoted : Type 0
ExecutedAreNoted =
    (keep : Fact → Bool) (key : Key) (facts : List Fact) → Covers keep (is_delta_in key (current_of facts key)) → length (executed_of facts key) ≤ 64
    → (fold deltas_step (no_deltas key (current_of facts key)) (filter keep facts)).seen ≡ txs_of (executed_of facts key)

abbrev pub amounts_sought : Key → ℕ → TxId → OlderAmounts
amounts_sought key version tx = record { key = key; version = version; tx = tx; found = None }

-- the amounts that were found are the fold's
abbrev pub AmountsAreFolded : Type 0
AmountsAreFolded =
    (key : Key) (version : ℕ) (tx : TxId) (facts : List Fact)
    → (fold amounts_step (amounts_sought key version tx) facts).found ≡ fold (older_amounts key version tx) None facts
