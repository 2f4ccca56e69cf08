-- Which facts may stand after those before them, but for whether they leave too many deltas on a version: that a store says as it takes them.
use Rattle.std.specs.List.{list_all}
use Rattle.std.specs.Prelude.{Bool, List, None, Option, Some, false, if◌then◌else◌, nat_lt, not, ℕ, ◌&&◌, ◌+◌, ◌==◌, ◌||◌}
use Rattle.mdcc_base.specs.Ballot.{is_fast}
use Rattle.mdcc_base.specs.declared.identifiers.Ballot.{Ballot}
use Rattle.mdcc_base.specs.declared.identifiers.TxId.{TxId}
use Rattle.mdcc_base.specs.declared.key.Key.{Key}
use Rattle.mdcc_option.specs.declared.choices.Choice.{Choice}
use Rattle.mdcc_option.specs.declared.choices.Mark.{Mark}
use Rattle.mdcc_option.specs.declared.cluster.Cluster.{Cluster}
use Rattle.mdcc_struct.specs.declared.options.Options.{Options}
use Rattle.mdcc_facts.specs.Past.{is_past_mark}
use Rattle.mdcc_def_ledger.specs.BootTest.{is_allowed_classic_vote, is_allowed_fast_vote, is_allowed_mark, is_allowed_promise}
use Rattle.mdcc_def_ledger.specs.AllowedFacts.{is_booted}
use Rattle.mdcc_def_protocol.specs.Belongs.{fact_belongs}
use Rattle.mdcc_def_protocol.specs.Facts.{epoch_of, is_settled}
use Rattle.mdcc_def_protocol.specs.News.{is_news}
use Rattle.mdcc_def_messages.specs.declared.facts.Fact.{Fact}

-- one mark at the fast ballot, with the choice offered exactly where it is a rejection
abbrev pub is_allowed_single : Cluster → List Fact → Key → ℕ → TxId → Mark → Option Choice → Bool
is_allowed_single cluster facts key version tx (Mark.Accept choice) None =
    is_allowed_mark cluster facts key version tx (Mark.Accept choice) choice
is_allowed_single cluster facts key version tx Mark.Reject (Some choice) =
    is_allowed_mark cluster facts key version tx Mark.Reject choice
is_allowed_single cluster facts key version tx mark offered = false

-- no mark of the structure was voted at the ballot, and none is of a finished transaction
abbrev pub are_new : List Fact → Key → ℕ → Ballot → Options → Bool
are_new facts key version ballot options = list_all (λ e. not (is_past_mark facts key version ballot e.0)) options

abbrev pub is_allowed_vote : Cluster → List Fact → Key → ℕ → Ballot → Options → Option Choice → Bool
is_allowed_vote cluster facts key version ballot options offered =
    if is_fast ballot then is_allowed_fast_vote cluster facts key version options offered
    else is_allowed_classic_vote facts key version ballot options offered

abbrev pub is_next_epoch : List Fact → ℕ → Bool
is_next_epoch facts epoch = epoch == epoch_of facts + 1

abbrev pub is_admitted_kind : Cluster → List Fact → Fact → Bool
is_admitted_kind cluster facts (Fact.Booted epoch) = is_next_epoch facts epoch
is_admitted_kind cluster facts (Fact.Promised key low high ballot) = is_allowed_promise facts key low high ballot
is_admitted_kind cluster facts (Fact.Voted key version ballot options offered) =
    is_allowed_vote cluster facts key version ballot options offered
is_admitted_kind cluster facts (Fact.Heard tx outcome) = not (is_settled facts tx)
is_admitted_kind cluster facts (Fact.Adopted key version item adds) = is_news facts key version adds
-- no fact of this kind is of the cluster yet
is_admitted_kind cluster facts (Fact.Floor centre epoch seq) = false

abbrev pub is_admitted : Cluster → List Fact → Fact → Bool
is_admitted cluster facts fact = fact_belongs cluster fact && (is_booted fact || nat_lt 0 (epoch_of facts)) && is_admitted_kind cluster facts fact
