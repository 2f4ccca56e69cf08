-- AllowedFacts as a test, which a boot makes of each fact of its log. It is the same row by row: it passes exactly where the
-- condition holds (the law boot_test_is_exact of mdcc_theorem_ledger).
use Rattle.std.specs.Prelude.{Bool, List, None, Option, Some, [], false, if◌then◌else◌, is_some, length, nat_le, nat_lt, not, true, ℕ, ◌&&◌, ◌+◌, ◌==◌, ◌||◌, ◌∷◌}
use Rattle.mdcc_base.specs.Ballot.{ballot_lt, is_fast}
use Rattle.mdcc_base.specs.Counts.{number_of}
use Rattle.mdcc_base.specs.Key.{key_eq}
use Rattle.mdcc_base.specs.TxId.{tx_eq}
use Rattle.mdcc_base.specs.declared.identifiers.Ballot.{Ballot}
use Rattle.mdcc_base.specs.declared.identifiers.TxId.{TxId}
use Rattle.mdcc_base.specs.declared.key.Key.{Key}
use Rattle.mdcc_option.specs.Equality.{mark_eq}
use Rattle.mdcc_option.specs.declared.choices.Choice.{Choice}
use Rattle.mdcc_option.specs.declared.choices.Mark.{Mark}
use Rattle.mdcc_option.specs.declared.cluster.Cluster.{Cluster}
use Rattle.mdcc_struct.specs.declared.options.Options.{Options}
use Rattle.mdcc_def_protocol.specs.Acceptor.{new_marks, vote_on}
use Rattle.mdcc_def_protocol.specs.Belongs.{fact_belongs}
use Rattle.mdcc_def_protocol.specs.Facts.{are_heard, current_of, epoch_of, floor_of, is_finished, is_heard, promise_of, promised_through, vote_of}
use Rattle.mdcc_def_protocol.specs.News.{is_crowding, is_news}
use Rattle.mdcc_def_protocol.specs.declared.acceptor.ProposeAnswer.{ProposeAnswer}
use Rattle.mdcc_def_messages.specs.declared.facts.Fact.{Fact}
use Rattle.mdcc_def_ledger.specs.AllowedFacts.{are_apart, is_booted}

abbrev pub is_allowed_promise : List Fact → Key → ℕ → ℕ → Ballot → Bool
is_allowed_promise facts key low high ballot =
    not (is_fast ballot)
    && not (ballot_lt ballot (promise_of facts key low))
    && not (is_some (promised_through facts key low ballot))
    && (high == low || (nat_le low high && nat_le (current_of facts key) low))

abbrev pub is_answer : Mark → ProposeAnswer → Bool
is_answer mark (ProposeAnswer.Vote mark') = mark_eq mark mark'
is_answer mark _ = false

-- the mark is the acceptor's own of this choice
abbrev pub is_allowed_mark : Cluster → List Fact → Key → ℕ → TxId → Mark → Choice → Bool
is_allowed_mark cluster facts key version tx mark choice =
    tx_eq choice.tx tx
    && choice.version == version
    && key_eq choice.key key
    && nat_le version (current_of facts key)
    && is_fast (promise_of facts key version)
    && not (is_some (vote_of facts key version tx))
    && not (is_heard facts tx)
    && not (is_finished facts tx)
    && is_answer mark (vote_on cluster facts choice)

abbrev pub is_allowed_fast_vote : Cluster → List Fact → Key → ℕ → Options → Option Choice → Bool
is_allowed_fast_vote cluster facts key version ((tx, Mark.Accept choice) ∷ []) None =
    is_allowed_mark cluster facts key version tx (Mark.Accept choice) choice
is_allowed_fast_vote cluster facts key version ((tx, Mark.Reject) ∷ []) (Some choice) =
    is_allowed_mark cluster facts key version tx Mark.Reject choice
is_allowed_fast_vote cluster facts key version _ _ = false

abbrev pub is_allowed_classic_vote : List Fact → Key → ℕ → Ballot → Options → Option Choice → Bool
is_allowed_classic_vote facts key version ballot options offered =
    not (ballot_lt ballot (promise_of facts key version))
    && nat_le version (current_of facts key)
    && nat_lt 0 (length options)
    && are_apart options
    && length (new_marks facts key version ballot options) == length options
    && not (is_some offered)

abbrev pub is_allowed_kind : Cluster → List Fact → Fact → Bool
is_allowed_kind cluster facts (Fact.Booted epoch) = epoch == number_of is_booted facts + 1
is_allowed_kind cluster facts (Fact.Promised key low high ballot) = is_allowed_promise facts key low high ballot
is_allowed_kind cluster facts (Fact.Voted key version ballot options offered) =
    if is_fast ballot then is_allowed_fast_vote cluster facts key version options offered
    else is_allowed_classic_vote facts key version ballot options offered
is_allowed_kind cluster facts (Fact.Heard tx outcome) =
    not (is_heard facts tx) && not (is_finished facts tx) && not (is_crowding facts (Fact.Heard tx outcome))
is_allowed_kind cluster facts (Fact.Adopted key version item adds) =
    is_news facts key version adds && not (is_crowding facts (Fact.Adopted key version item adds))
is_allowed_kind cluster facts (Fact.Floor centre epoch seq) = nat_lt (floor_of facts centre epoch) seq && are_heard facts centre epoch seq

-- whether a fact may stand after these facts of its centre
abbrev pub is_allowed_fact : Cluster → List Fact → Fact → Bool
is_allowed_fact cluster facts fact =
    fact_belongs cluster fact && (is_booted fact || nat_lt 0 (epoch_of facts)) && is_allowed_kind cluster facts fact

-- facts of a centre, the newest first, of which each is allowed after those before it
abbrev pub are_allowed_facts : Cluster → List Fact → Bool
are_allowed_facts cluster [] = true
are_allowed_facts cluster (fact ∷ facts) = are_allowed_facts cluster facts && is_allowed_fact cluster facts fact
