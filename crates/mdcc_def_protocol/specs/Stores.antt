-- What a store of facts answers that its facts do not say as it stands: capped sums, counts, and lists by place or one entry at a time.
use Rattle.std.specs.Prelude.{Bool, List, None, Option, Some, find, is_some, min, option_map, slice_get, true, ℕ, ◌-◌, ◌^◌}
use Rattle.mdcc_base.specs.Counts.{number_of}
use Rattle.mdcc_base.specs.TxId.{tx_lt}
use Rattle.mdcc_base.specs.declared.identifiers.Ballot.{Ballot}
use Rattle.mdcc_base.specs.declared.identifiers.TxId.{TxId}
use Rattle.mdcc_base.specs.declared.key.Key.{Key}
use Rattle.mdcc_option.specs.declared.choices.Mark.{Mark}
use Rattle.mdcc_option.specs.declared.items.Delta.{Delta}
use Rattle.mdcc_struct.specs.Maps.{value_of}
use Rattle.mdcc_struct.specs.declared.options.Options.{Options}
use Rattle.mdcc_def_protocol.specs.Facts.{entries_of, executed_of, live_of, outcome_kept, report_of, unresolved_of, votes_of}
use Rattle.mdcc_def_protocol.specs.Fit.{capped, load_of}
use Rattle.mdcc_def_protocol.specs.Marks.{is_commit}
use Rattle.mdcc_def_messages.specs.declared.facts.Fact.{Fact}
use Rattle.mdcc_def_protocol.specs.declared.fit.Load.{Load}

-- the delta of an executed transaction
abbrev pub delta_of : List Fact → Key → TxId → Option Delta
delta_of facts key tx = option_map (λ amounts. record { tx = tx; amounts = amounts }) (value_of (executed_of facts key) tx)

-- what the live choices of an instance weigh beside a seen set
abbrev pub load_at : List Fact → Key → ℕ → List TxId → Load
load_at facts key version seen = capped (load_of (live_of facts key version) seen)

-- how many marks accept and how many reject in an instance at the fast ballot. Counts stop at 2^32 - 1
abbrev pub entries_at : List Fact → Key → ℕ → ℕ × ℕ
entries_at facts key version =
    let entries = entries_of facts key version in
    (min entries.0 (2 ^ 32 - 1), min entries.1 (2 ^ 32 - 1))

-- the mark at a place of the votes at the greatest ballot below another one
abbrev pub mark_below : List Fact → Key → ℕ → Ballot → ℕ → Option (Ballot × TxId × Mark)
mark_below facts key version below place =
    let report = report_of 0 facts key version below in
    option_map (λ e. (report.ballot, e.0, e.1)) (slice_get report.votes place)

-- above the last transaction; each is where there is no last one
abbrev pub is_above : Option TxId → TxId → Bool
is_above None tx = true
is_above (Some last) tx = tx_lt last tx

-- the next mark above a transaction of the votes at the greatest ballot below another one
abbrev pub mark_after : List Fact → Key → ℕ → Ballot → Option TxId → Option (Ballot × TxId × Mark)
mark_after facts key version below last =
    let report = report_of 0 facts key version below in
    option_map (λ e. (report.ballot, e.0, e.1)) (find (λ e. is_above last e.0) report.votes)

-- how many transactions of a structure were voted in an instance at a ballot
abbrev pub count_voted : List Fact → Key → ℕ → Ballot → Options → ℕ
count_voted facts key version ballot options =
    let votes = votes_of facts key version ballot in
    number_of (λ e. is_some (value_of votes e.0)) options

-- whether the outcome that is kept of a transaction is a commit
abbrev pub ended_of : List Fact → TxId → Option Bool
ended_of facts tx = option_map is_commit (outcome_kept facts tx)

-- the unresolved transaction at a place, with its write set
abbrev pub unresolved_at : List Fact → ℕ → Option (TxId × List (Key × ℕ))
unresolved_at facts place = slice_get (unresolved_of facts) place
