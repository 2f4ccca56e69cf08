-- What passes a test of well-formed values is well-formed.
use Rattle.std.proofs.Common.{◌≡◌, ℕ, ◌-◌, ◌^◌, ◌<◌, ℤ, pos, negsuc, Bool, true, ◌&&◌, not, ◌==◌, List, [], ◌∷◌, length, inl, inr}
use Rattle.std.specs.Prelude.{FitsSigned, Option, Some, None, nat_le}
use Rattle.std.specs.Int.{w64, IsInRange, is_in_range}
use Rattle.std.specs.List.{AllByRecursion, list_all}
use Rattle.std.proofs.lemmas.Bool.{and_parts, or_cases, ltb-true, leb-true, eqb-true}
use Rattle.mdcc_base.specs.declared.identifiers.Ballot.{Ballot}
use Rattle.mdcc_base.specs.declared.identifiers.TxId.{TxId}
use Rattle.mdcc_base.specs.Ballot.{fast_ballot, is_fast}
use Rattle.mdcc_base.specs.Key.{IsKey, is_key_byte, key_eq}
use Rattle.mdcc_base.specs.TxId.{tx_eq, tx_lt}
use Rattle.mdcc_option.proofs.Equal.{Decides-key, Decides-tx}
use Rattle.mdcc_option.specs.Parts.{are_parts_ascending as parts_ascending}
use Rattle.mdcc_option.specs.Transaction.{is_zero_amount}
use Rattle.mdcc_option.specs.declared.items.Item.{Item}
use Rattle.mdcc_option.specs.declared.items.Part.{Part}
use Rattle.mdcc_option.specs.declared.items.Delta.{Delta}
use Rattle.mdcc_option.specs.declared.items.Token.{Token}
use Rattle.mdcc_option.specs.declared.items.Update.{Update}
use Rattle.mdcc_option.specs.declared.items.Update.TheVariants.{Write, Add}
use Rattle.mdcc_option.specs.declared.choices.Cause.{Cause}
use Rattle.mdcc_option.specs.declared.choices.Cause.TheVariants.{Behind, Classic, Limit, Full}
use Rattle.mdcc_option.specs.declared.choices.Choice.{Choice}
use Rattle.mdcc_option.specs.declared.choices.Mark.{Mark}
use Rattle.mdcc_option.specs.declared.choices.Mark.TheVariants.{Accept, Reject}
use Rattle.mdcc_option.specs.declared.choices.Outcome.{Outcome}
use Rattle.mdcc_option.specs.declared.choices.Outcome.TheVariants.{Commit, Abort}
use Rattle.mdcc_option.specs.declared.faults.BeginFault.{BeginFault}
use Rattle.mdcc_option.specs.declared.faults.BeginFault.TheVariants as begins
use Rattle.mdcc_struct.specs.Maps.{are_ascending}
use Rattle.mdcc_struct.specs.Options.{Marks}
use Rattle.mdcc_def_messages.specs.declared.messages.ClientAnswer.{ClientAnswer}
use Rattle.mdcc_def_messages.specs.declared.messages.ClientAnswer.TheVariants as answers
use Rattle.mdcc_def_messages.specs.declared.messages.Envelope.{Envelope}
use Rattle.mdcc_def_messages.specs.declared.messages.Message.{Message}
use Rattle.mdcc_def_messages.specs.declared.messages.Message.TheVariants as messages
use Rattle.mdcc_def_messages.specs.declared.facts.Fact.{Fact}
use Rattle.mdcc_def_messages.specs.declared.facts.Fact.TheVariants as facts
use Rattle.mdcc_def_messages.specs.WellFormedParts.{is_u8, is_u32, is_u64, is_i64, is_ascending_by, is_well_formed_key, IsWellFormedTx, is_well_formed_tx, IsWellFormedClassic, is_well_formed_classic, IsWellFormedBallot, is_well_formed_ballot, IsWellFormedItem, is_well_formed_item, IsWellFormedSeen, is_well_formed_seen, IsWellFormedAmount, is_well_formed_amount, attribute_lt, IsWellFormedAmounts, is_well_formed_amounts, IsWellFormedUpdate, is_well_formed_update, IsWellFormedPart, is_well_formed_part, IsWellFormedDelta, is_well_formed_delta, delta_lt, IsWellFormedWritten, is_well_formed_written, written_lt, IsWellFormedWriteSet, is_well_formed_write_set, is_written, IsWellFormedChoice, is_well_formed_choice, IsWellFormedWithin, is_well_formed_within, IsWellFormedEntry, is_well_formed_entry, IsWellFormedOptions, is_well_formed_options, IsWellFormedOf, is_well_formed_of, choice_lt, IsWellFormedCommit, is_well_formed_commit, IsWellFormedOutcome, is_well_formed_outcome, IsWellFormedHeard, is_well_formed_heard, IsWellFormedCause, is_well_formed_cause, IsWellFormedInstance, is_well_formed_instance, IsWellFormedGiven, is_well_formed_given}
use Rattle.mdcc_def_messages.specs.WellFormed.{IsWellFormedToken, is_well_formed_token, IsWellFormedShown, is_well_formed_shown, IsWellFormedRefusal, is_well_formed_refusal, IsWellFormedRead, is_well_formed_read, IsWellFormedAnswer, is_well_formed_answer, IsWellFormedVoted, is_well_formed_voted, IsWellFormedEscalate, is_well_formed_escalate, IsWellFormedPrepare, is_well_formed_prepare, IsWellFormedPromise, is_well_formed_promise, IsWellFormedAccept, is_well_formed_accept, IsWellFormedRefused, is_well_formed_refused, IsWellFormedBegin, is_well_formed_begin, IsWellFormedMessage, is_well_formed_message, IsEndpoint, is_message_endpoint, IsWellFormedEnvelope, is_well_formed_envelope, IsWellFormedPromised, is_well_formed_promised, IsWellFormedOffer, is_well_formed_offer, IsWellFormedOffered, is_well_formed_offered, IsWellFormedVote, is_well_formed_vote, IsWellFormedFact, is_well_formed_fact}

-- ---- tests that pass together

all_3 : (a b c : Bool) → (a && b && c) ≡ true → (a ≡ true) × (b ≡ true) × (c ≡ true)
all_3 a b c h =
    let last : ((a && b) ≡ true) × (c ≡ true) = and_parts (a && b) c h in
    let rest : (a ≡ true) × (b ≡ true) = and_parts a b last.0 in
    (rest.0, rest.1, last.1)

all_4 : (a b c d : Bool) → (a && b && c && d) ≡ true → (a ≡ true) × (b ≡ true) × (c ≡ true) × (d ≡ true)
all_4 a b c d h =
    let last : ((a && b && c) ≡ true) × (d ≡ true) = and_parts (a && b && c) d h in
    let rest : (a ≡ true) × (b ≡ true) × (c ≡ true) = all_3 a b c last.0 in
    (rest.0, rest.1, rest.2, last.1)

all_5 : (a b c d e : Bool) → (a && b && c && d && e) ≡ true → (a ≡ true) × (b ≡ true) × (c ≡ true) × (d ≡ true) × (e ≡ true)
all_5 a b c d e h =
    let last : ((a && b && c && d) ≡ true) × (e ≡ true) = and_parts (a && b && c && d) e h in
    let rest : (a ≡ true) × (b ≡ true) × (c ≡ true) × (d ≡ true) = all_4 a b c d last.0 in
    (rest.0, rest.1, rest.2, rest.3, last.1)

all_6 : (a b c d e f : Bool) → (a && b && c && d && e && f) ≡ true → (a ≡ true) × (b ≡ true) × (c ≡ true) × (d ≡ true) × (e ≡ true) × (f ≡ true)
all_6 a b c d e f h =
    let last : ((a && b && c && d && e) ≡ true) × (f ≡ true) = and_parts (a && b && c && d && e) f h in
    let rest : (a ≡ true) × (b ≡ true) × (c ≡ true) × (d ≡ true) × (e ≡ true) = all_5 a b c d e last.0 in
    (rest.0, rest.1, rest.2, rest.3, rest.4, last.1)

-- each element of a list whose elements pass
each_by : {X : Type 0} (test : X → Bool) (P : X → Type 0) → ((x : X) → test x ≡ true → P x)
    → (xs : List X) → list_all test xs ≡ true → AllByRecursion P xs
each_by test P passes [] h = tt
each_by test P passes (x ∷ xs) h =
    let parts : (test x ≡ true) × (list_all test xs ≡ true) = and_parts (test x) (list_all test xs) h in
    (passes x parts.0, each_by test P passes xs parts.1)

in_range : (low high n : ℕ) → is_in_range low high n ≡ true → IsInRange low high n
in_range low high n h =
    let parts : (nat_le low n ≡ true) × (nat_le n high ≡ true) = and_parts (nat_le low n) (nat_le n high) h in
    (leb-true low n parts.0, leb-true n high parts.1)

signed : (z : ℤ) → is_i64 z ≡ true → FitsSigned w64 z
signed (pos n) h = record { sfits = ltb-true n (2 ^ 63) h }
signed (negsuc n) h = record { sfits = ltb-true n (2 ^ 63) h }

-- ---- parts

well_formed_key : (key : List ℕ) → is_well_formed_key key ≡ true → IsKey key
well_formed_key key h =
    let p : (nat_le 1 (length key) ≡ true) × (nat_le (length key) 32 ≡ true) × (list_all is_key_byte key ≡ true) = all_3 (nat_le 1 (length key)) (nat_le (length key) 32) (list_all is_key_byte key) h in
    record { some = leb-true 1 (length key) p.0; fits = leb-true (length key) 32 p.1; plain = p.2 }

well_formed_tx : (tx : TxId) → is_well_formed_tx tx ≡ true → IsWellFormedTx tx
well_formed_tx tx h =
    let p : (is_in_range 1 9 tx.centre ≡ true) × (is_in_range 1 (2 ^ 32 - 1) tx.epoch ≡ true) × (is_in_range 1 (2 ^ 32 - 1) tx.seq ≡ true) = all_3 (is_in_range 1 9 tx.centre) (is_in_range 1 (2 ^ 32 - 1) tx.epoch) (is_in_range 1 (2 ^ 32 - 1) tx.seq) h in
    record { centre = in_range 1 9 tx.centre p.0; epoch = in_range 1 (2 ^ 32 - 1) tx.epoch p.1; seq = in_range 1 (2 ^ 32 - 1) tx.seq p.2 }

well_formed_classic : (ballot : Ballot) → is_well_formed_classic ballot ≡ true → IsWellFormedClassic ballot
well_formed_classic ballot h =
    let p : (is_in_range 1 (2 ^ 32 - 1) ballot.round ≡ true) × (is_in_range 1 (2 ^ 32 - 1) ballot.epoch ≡ true) × (is_in_range 1 9 ballot.centre ≡ true) = all_3 (is_in_range 1 (2 ^ 32 - 1) ballot.round) (is_in_range 1 (2 ^ 32 - 1) ballot.epoch) (is_in_range 1 9 ballot.centre) h in
    record { round = in_range 1 (2 ^ 32 - 1) ballot.round p.0; epoch = in_range 1 (2 ^ 32 - 1) ballot.epoch p.1; centre = in_range 1 9 ballot.centre p.2 }

fast-is : (ballot : Ballot) → is_fast ballot ≡ true → ballot ≡ fast_ballot
fast-is ballot h =
    let p : (ballot.round == 0 ≡ true) × ((ballot.epoch == 0 && ballot.centre == 0) ≡ true) =
    and_parts (ballot.round == 0) (ballot.epoch == 0 && ballot.centre == 0) h in
    let q : (ballot.epoch == 0 ≡ true) × (ballot.centre == 0 ≡ true) = and_parts (ballot.epoch == 0) (ballot.centre == 0) p.1 in
    let round : ballot.round ≡ 0 = eqb-true ballot.round 0 p.0 in
    let epoch : ballot.epoch ≡ 0 = eqb-true ballot.epoch 0 q.0 in
    let centre : ballot.centre ≡ 0 = eqb-true ballot.centre 0 q.1 in
    λ i. record { round = round i; epoch = epoch i; centre = centre i }

well_formed_ballot : (ballot : Ballot) → is_well_formed_ballot ballot ≡ true → IsWellFormedBallot ballot
well_formed_ballot ballot h =
    elim (or_cases (is_fast ballot) (is_well_formed_classic ballot) h) [
      | inl fast ↦ inl (fast-is ballot fast)
      | inr classic ↦ inr (well_formed_classic ballot classic)
    ]

well_formed_item : (item : Item) → is_well_formed_item item ≡ true → IsWellFormedItem item
well_formed_item item h =
    let p : (nat_le (length item.body) 128 ≡ true) × (list_all is_u8 item.body ≡ true) × (is_in_range 1 4 (length item.values) ≡ true) × (list_all is_i64 item.values ≡ true) = all_4 (nat_le (length item.body) 128) (list_all is_u8 item.body) (is_in_range 1 4 (length item.values)) (list_all is_i64 item.values) h in
    record { body_fits = leb-true (length item.body) 128 p.0; bytes = each_by is_u8 (λ b. b < 2 ^ 8) (λ b e. ltb-true b (2 ^ 8) e) item.body p.1; count = in_range 1 4 (length item.values) p.2; values = each_by is_i64 (FitsSigned w64) signed item.values p.3 }

well_formed_seen : (seen : List TxId) → is_well_formed_seen seen ≡ true → IsWellFormedSeen seen
well_formed_seen seen h =
    let p : (nat_le (length seen) 64 ≡ true) × (list_all is_well_formed_tx seen ≡ true) × (is_ascending_by tx_lt seen ≡ true) = all_3 (nat_le (length seen) 64) (list_all is_well_formed_tx seen) (is_ascending_by tx_lt seen) h in
    record { few = leb-true (length seen) 64 p.0; each = each_by is_well_formed_tx IsWellFormedTx well_formed_tx seen p.1; ascending = p.2 }

well_formed_amount : (amount : ℕ × ℤ) → is_well_formed_amount amount ≡ true → IsWellFormedAmount amount
well_formed_amount amount h =
    let p : (is_in_range 1 4 amount.0 ≡ true) × (is_i64 amount.1 ≡ true) × (not (is_zero_amount amount) ≡ true) = all_3 (is_in_range 1 4 amount.0) (is_i64 amount.1) (not (is_zero_amount amount)) h in
    record { attribute = in_range 1 4 amount.0 p.0; fits = signed amount.1 p.1; not_zero = p.2 }

well_formed_amounts : (amounts : List (ℕ × ℤ)) → is_well_formed_amounts amounts ≡ true → IsWellFormedAmounts amounts
well_formed_amounts amounts h =
    let p : (is_in_range 1 4 (length amounts) ≡ true) × (list_all is_well_formed_amount amounts ≡ true) × (is_ascending_by attribute_lt amounts ≡ true) = all_3 (is_in_range 1 4 (length amounts)) (list_all is_well_formed_amount amounts) (is_ascending_by attribute_lt amounts) h in
    record { count = in_range 1 4 (length amounts) p.0; each = each_by is_well_formed_amount IsWellFormedAmount well_formed_amount amounts p.1; ascending = p.2 }

well_formed_update : (update : Update) → is_well_formed_update update ≡ true → IsWellFormedUpdate update
well_formed_update (Write item seen) h =
    let p : (is_well_formed_item item ≡ true) × (is_well_formed_seen seen ≡ true) = and_parts (is_well_formed_item item) (is_well_formed_seen seen) h in
    (well_formed_item item p.0, well_formed_seen seen p.1)
well_formed_update (Add amounts) h = well_formed_amounts amounts h

well_formed_part : (part : Part) → is_well_formed_part part ≡ true → IsWellFormedPart part
well_formed_part part h =
    let p : (is_well_formed_key part.key ≡ true) × (is_u64 part.version ≡ true) × (is_well_formed_update part.update ≡ true) = all_3 (is_well_formed_key part.key) (is_u64 part.version) (is_well_formed_update part.update) h in
    record { key = well_formed_key part.key p.0; version = ltb-true part.version (2 ^ 64) p.1; update = well_formed_update part.update p.2 }

well_formed_delta : (delta : Delta) → is_well_formed_delta delta ≡ true → IsWellFormedDelta delta
well_formed_delta delta h =
    let p : (is_well_formed_tx delta.tx ≡ true) × (is_well_formed_amounts delta.amounts ≡ true) = and_parts (is_well_formed_tx delta.tx) (is_well_formed_amounts delta.amounts) h in
    record { tx = well_formed_tx delta.tx p.0; amounts = well_formed_amounts delta.amounts p.1 }

well_formed_written : (written : List ℕ × ℕ) → is_well_formed_written written ≡ true → IsWellFormedWritten written
well_formed_written written h =
    let p : (is_well_formed_key written.0 ≡ true) × (is_u64 written.1 ≡ true) = and_parts (is_well_formed_key written.0) (is_u64 written.1) h in
    record { key = well_formed_key written.0 p.0; version = ltb-true written.1 (2 ^ 64) p.1 }

well_formed_write_set : (write_set : List (List ℕ × ℕ)) → is_well_formed_write_set write_set ≡ true → IsWellFormedWriteSet write_set
well_formed_write_set write_set h =
    let p : (is_in_range 1 8 (length write_set) ≡ true) × (list_all is_well_formed_written write_set ≡ true) × (is_ascending_by written_lt write_set ≡ true) = all_3 (is_in_range 1 8 (length write_set)) (list_all is_well_formed_written write_set) (is_ascending_by written_lt write_set) h in
    record { count = in_range 1 8 (length write_set) p.0; each = each_by is_well_formed_written IsWellFormedWritten well_formed_written write_set p.1; ascending = p.2 }

well_formed_choice : (choice : Choice) → is_well_formed_choice choice ≡ true → IsWellFormedChoice choice
well_formed_choice choice h =
    let p : (is_well_formed_tx choice.tx ≡ true) × (is_well_formed_key choice.key ≡ true) × (is_u64 choice.version ≡ true) × (is_well_formed_update choice.update ≡ true) × (is_well_formed_write_set choice.write_set ≡ true) × (is_written choice.write_set choice.key choice.version ≡ true) = all_6 (is_well_formed_tx choice.tx) (is_well_formed_key choice.key) (is_u64 choice.version) (is_well_formed_update choice.update) (is_well_formed_write_set choice.write_set) (is_written choice.write_set choice.key choice.version) h in
    record { tx = well_formed_tx choice.tx p.0; key = well_formed_key choice.key p.1; version = ltb-true choice.version (2 ^ 64) p.2; update = well_formed_update choice.update p.3; write_set = well_formed_write_set choice.write_set p.4; own = p.5 }

well_formed_within : (key : List ℕ) (version : ℕ) (tx : TxId) (choice : Choice) → is_well_formed_within key version tx choice ≡ true → IsWellFormedWithin key version tx choice
well_formed_within key version tx choice h =
    let p : (is_well_formed_choice choice ≡ true) × (tx_eq choice.tx tx ≡ true) × (key_eq choice.key key ≡ true) × (choice.version == version ≡ true) = all_4 (is_well_formed_choice choice) (tx_eq choice.tx tx) (key_eq choice.key key) (choice.version == version) h in
    record { choice_itself = well_formed_choice choice p.0; same_tx = (Decides-tx choice.tx tx).0 p.1; same_key = (Decides-key choice.key key).0 p.2; same_version = eqb-true choice.version version p.3 }

well_formed_entry : (key : List ℕ) (version : ℕ) (tx : TxId) (mark : Mark) → is_well_formed_entry key version tx mark ≡ true → IsWellFormedEntry key version tx mark
well_formed_entry key version tx Reject h = well_formed_tx tx h
well_formed_entry key version tx (Accept choice) h = well_formed_within key version tx choice h

well_formed_options : (key : List ℕ) (version : ℕ) (options : Marks) → is_well_formed_options key version options ≡ true → IsWellFormedOptions key version options
well_formed_options key version options h =
    let p : (is_u32 (length options) ≡ true) × (list_all (λ e. is_well_formed_entry key version e.0 e.1) options ≡ true) × (are_ascending options ≡ true) = all_3 (is_u32 (length options)) (list_all (λ e. is_well_formed_entry key version e.0 e.1) options) (are_ascending options) h in
    record { count = ltb-true (length options) (2 ^ 32) p.0; each = each_by (λ (e : TxId × Mark). is_well_formed_entry key version e.0 e.1) (λ e. IsWellFormedEntry key version e.0 e.1) (λ e. well_formed_entry key version e.0 e.1) options p.1; ascending = p.2 }

well_formed_of : (tx : TxId) (choice : Choice) → is_well_formed_of tx choice ≡ true → IsWellFormedOf tx choice
well_formed_of tx choice h =
    let p : (is_well_formed_choice choice ≡ true) × (tx_eq choice.tx tx ≡ true) = and_parts (is_well_formed_choice choice) (tx_eq choice.tx tx) h in
    record { choice_itself = well_formed_choice choice p.0; same_tx = (Decides-tx choice.tx tx).0 p.1 }

well_formed_commit : (tx : TxId) (choices : List Choice) → is_well_formed_commit tx choices ≡ true → IsWellFormedCommit tx choices
well_formed_commit tx choices h =
    let p : (is_in_range 1 8 (length choices) ≡ true) × (list_all (is_well_formed_of tx) choices ≡ true) × (is_ascending_by choice_lt choices ≡ true) = all_3 (is_in_range 1 8 (length choices)) (list_all (is_well_formed_of tx) choices) (is_ascending_by choice_lt choices) h in
    record { count = in_range 1 8 (length choices) p.0; each = each_by (is_well_formed_of tx) (IsWellFormedOf tx) (well_formed_of tx) choices p.1; ascending = p.2 }

well_formed_outcome : (tx : TxId) (outcome : Outcome) → is_well_formed_outcome tx outcome ≡ true → IsWellFormedOutcome tx outcome
well_formed_outcome tx Abort h = tt
well_formed_outcome tx (Commit choices) h = well_formed_commit tx choices h

well_formed_heard : (tx : TxId) (outcome : Outcome) → is_well_formed_heard tx outcome ≡ true → IsWellFormedHeard tx outcome
well_formed_heard tx outcome h =
    let p : (is_well_formed_tx tx ≡ true) × (is_well_formed_outcome tx outcome ≡ true) = and_parts (is_well_formed_tx tx) (is_well_formed_outcome tx outcome) h in
    record { tx_itself = well_formed_tx tx p.0; outcome_itself = well_formed_outcome tx outcome p.1 }

well_formed_cause : (cause : Cause) → is_well_formed_cause cause ≡ true → IsWellFormedCause cause
well_formed_cause Behind h = tt
well_formed_cause (Classic ballot) h = well_formed_classic ballot h
well_formed_cause (Limit quantity) h = leb-true quantity 4 h
well_formed_cause Full h = tt

well_formed_instance : (key : List ℕ) (version : ℕ) → is_well_formed_instance key version ≡ true → IsWellFormedInstance key version
well_formed_instance key version h =
    let p : (is_well_formed_key key ≡ true) × (is_u64 version ≡ true) = and_parts (is_well_formed_key key) (is_u64 version) h in
    record { key_itself = well_formed_key key p.0; version_fits = ltb-true version (2 ^ 64) p.1 }

well_formed_given : (key : List ℕ) (version : ℕ) (item : Item) (adds : List Delta) → is_well_formed_given key version item adds ≡ true → IsWellFormedGiven key version item adds
well_formed_given key version item adds h =
    let p : (is_well_formed_instance key version ≡ true) × (nat_le 1 version ≡ true) × (is_well_formed_item item ≡ true) × (nat_le (length adds) 64 ≡ true) × (list_all is_well_formed_delta adds ≡ true) × (is_ascending_by delta_lt adds ≡ true) = all_6 (is_well_formed_instance key version) (nat_le 1 version) (is_well_formed_item item) (nat_le (length adds) 64) (list_all is_well_formed_delta adds) (is_ascending_by delta_lt adds) h in
    record { instance = well_formed_instance key version p.0; some_version = leb-true 1 version p.1; base = well_formed_item item p.2; few = leb-true (length adds) 64 p.3; each = each_by is_well_formed_delta IsWellFormedDelta well_formed_delta adds p.4; ascending = p.5 }

-- ---- what a client is answered

well_formed_token : (token : Token) → is_well_formed_token token ≡ true → IsWellFormedToken token
well_formed_token token h =
    let p : (is_u64 token.version ≡ true) × (is_well_formed_seen token.seen ≡ true) = and_parts (is_u64 token.version) (is_well_formed_seen token.seen) h in
    record { version = ltb-true token.version (2 ^ 64) p.0; seen = well_formed_seen token.seen p.1 }

well_formed_shown : (item : Option Item) → is_well_formed_shown item ≡ true → IsWellFormedShown item
well_formed_shown None h = tt
well_formed_shown (Some item) h = well_formed_item item h

well_formed_refusal : (fault : BeginFault) → is_well_formed_refusal fault ≡ true → IsWellFormedRefusal fault
well_formed_refusal (begins.Stale token) h = well_formed_token token h
well_formed_refusal (begins.Unseen version) h = ltb-true version (2 ^ 64) h
well_formed_refusal begins.NoItem h = tt
well_formed_refusal begins.Sequence h = tt
well_formed_refusal begins.Busy h = tt
well_formed_refusal begins.Memory h = absurd cc

well_formed_read : (key : List ℕ) (token : Token) (item : Option Item) → is_well_formed_read key token item ≡ true → IsWellFormedRead key token item
well_formed_read key token item h =
    let p : (is_well_formed_key key ≡ true) × (is_well_formed_token token ≡ true) × (is_well_formed_shown item ≡ true) = all_3 (is_well_formed_key key) (is_well_formed_token token) (is_well_formed_shown item) h in
    record { key_itself = well_formed_key key p.0; token_itself = well_formed_token token p.1; item_itself = well_formed_shown item p.2 }

well_formed_answer : (answer : ClientAnswer) → is_well_formed_answer answer ≡ true → IsWellFormedAnswer answer
well_formed_answer (answers.Read key token item due) h = well_formed_read key token item h
well_formed_answer (answers.Begun tx) h = well_formed_tx tx h
well_formed_answer (answers.Refused key fault) h =
    let p : (is_well_formed_key key ≡ true) × (is_well_formed_refusal fault ≡ true) = and_parts (is_well_formed_key key) (is_well_formed_refusal fault) h in
    (well_formed_key key p.0, well_formed_refusal fault p.1)
well_formed_answer (answers.Heard tx commit) h = well_formed_tx tx h
well_formed_answer (answers.Draft fault) h = tt

-- ---- messages

well_formed_voted : (key : List ℕ) (version : ℕ) (ballot : Ballot) (tx : TxId) (mark : Mark) → is_well_formed_voted key version ballot tx mark ≡ true → IsWellFormedVoted key version ballot tx mark
well_formed_voted key version ballot tx mark h =
    let p : (is_well_formed_instance key version ≡ true) × (is_well_formed_ballot ballot ≡ true) × (is_well_formed_entry key version tx mark ≡ true) = all_3 (is_well_formed_instance key version) (is_well_formed_ballot ballot) (is_well_formed_entry key version tx mark) h in
    record { instance = well_formed_instance key version p.0; ballot_itself = well_formed_ballot ballot p.1; entry = well_formed_entry key version tx mark p.2 }

well_formed_escalate : (key : List ℕ) (version : ℕ) (tx : TxId) (cause : Cause) → is_well_formed_escalate key version tx cause ≡ true → IsWellFormedEscalate key version tx cause
well_formed_escalate key version tx cause h =
    let p : (is_well_formed_instance key version ≡ true) × (is_well_formed_tx tx ≡ true) × (is_well_formed_cause cause ≡ true) = all_3 (is_well_formed_instance key version) (is_well_formed_tx tx) (is_well_formed_cause cause) h in
    record { instance = well_formed_instance key version p.0; tx_itself = well_formed_tx tx p.1; cause_itself = well_formed_cause cause p.2 }

well_formed_prepare : (key : List ℕ) (version through : ℕ) (ballot : Ballot) → is_well_formed_prepare key version through ballot ≡ true → IsWellFormedPrepare key version through ballot
well_formed_prepare key version through ballot h =
    let p : (is_well_formed_instance key version ≡ true) × (nat_le version through ≡ true) × (is_u64 through ≡ true) × (is_well_formed_classic ballot ≡ true) = all_4 (is_well_formed_instance key version) (nat_le version through) (is_u64 through) (is_well_formed_classic ballot) h in
    record { instance = well_formed_instance key version p.0; not_below = leb-true version through p.1; through_fits = ltb-true through (2 ^ 64) p.2; classic = well_formed_classic ballot p.3 }

well_formed_promise : (key : List ℕ) (version through : ℕ) (ballot reported : Ballot) (votes : Marks) → is_well_formed_promise key version through ballot reported votes ≡ true → IsWellFormedPromise key version through ballot reported votes
well_formed_promise key version through ballot reported votes h =
    let p : (is_well_formed_prepare key version through ballot ≡ true) × (is_well_formed_ballot reported ≡ true) × (is_well_formed_options key version votes ≡ true) = all_3 (is_well_formed_prepare key version through ballot) (is_well_formed_ballot reported) (is_well_formed_options key version votes) h in
    record { prepare = well_formed_prepare key version through ballot p.0; reported_itself = well_formed_ballot reported p.1; votes_itself = well_formed_options key version votes p.2 }

well_formed_accept : (key : List ℕ) (version : ℕ) (ballot : Ballot) (options : Marks) → is_well_formed_accept key version ballot options ≡ true → IsWellFormedAccept key version ballot options
well_formed_accept key version ballot options h =
    let p : (is_well_formed_instance key version ≡ true) × (is_well_formed_classic ballot ≡ true) × (is_well_formed_options key version options ≡ true) = all_3 (is_well_formed_instance key version) (is_well_formed_classic ballot) (is_well_formed_options key version options) h in
    record { instance = well_formed_instance key version p.0; classic = well_formed_classic ballot p.1; options_itself = well_formed_options key version options p.2 }

well_formed_refused : (key : List ℕ) (version : ℕ) (ballot promised : Ballot) → is_well_formed_refused key version ballot promised ≡ true → IsWellFormedRefused key version ballot promised
well_formed_refused key version ballot promised h =
    let p : (is_well_formed_instance key version ≡ true) × (is_well_formed_classic ballot ≡ true) × (is_well_formed_ballot promised ≡ true) = all_3 (is_well_formed_instance key version) (is_well_formed_classic ballot) (is_well_formed_ballot promised) h in
    record { instance = well_formed_instance key version p.0; classic = well_formed_classic ballot p.1; promised_itself = well_formed_ballot promised p.2 }

well_formed_begin : (serial : ℕ) (parts : List Part) → is_well_formed_begin serial parts ≡ true → IsWellFormedBegin serial parts
well_formed_begin serial parts h =
    let p : (is_u32 serial ≡ true) × (is_in_range 1 8 (length parts) ≡ true) × (list_all is_well_formed_part parts ≡ true) × (parts_ascending parts ≡ true) = all_4 (is_u32 serial) (is_in_range 1 8 (length parts)) (list_all is_well_formed_part parts) (parts_ascending parts) h in
    record { serial_fits = ltb-true serial (2 ^ 32) p.0; count = in_range 1 8 (length parts) p.1; each = each_by is_well_formed_part IsWellFormedPart well_formed_part parts p.2; ascending = p.3 }

well_formed_message : (message : Message) → is_well_formed_message message ≡ true → IsWellFormedMessage message
well_formed_message (messages.Propose choice) h = well_formed_choice choice h
well_formed_message (messages.Voted key version ballot tx mark) h = well_formed_voted key version ballot tx mark h
well_formed_message (messages.Escalate key version tx cause) h = well_formed_escalate key version tx cause h
well_formed_message (messages.Lead choice) h = well_formed_choice choice h
well_formed_message (messages.Prepare key version through ballot) h = well_formed_prepare key version through ballot h
well_formed_message (messages.Promise key version through ballot reported votes) h =
    well_formed_promise key version through ballot reported votes h
well_formed_message (messages.Accept key version ballot options) h = well_formed_accept key version ballot options h
well_formed_message (messages.Refused key version ballot promised) h = well_formed_refused key version ballot promised h
well_formed_message (messages.Outcome tx outcome) h = well_formed_heard tx outcome h
well_formed_message (messages.Ask tx key version) h =
    let p : (is_well_formed_tx tx ≡ true) × (is_well_formed_instance key version ≡ true) = and_parts (is_well_formed_tx tx) (is_well_formed_instance key version) h in
    (well_formed_tx tx p.0, well_formed_instance key version p.1)
well_formed_message (messages.SyncAsk key) h = well_formed_key key h
well_formed_message (messages.SyncGive key version item adds) h = well_formed_given key version item adds h
well_formed_message (messages.ClientRead serial key) h =
    let p : (is_u32 serial ≡ true) × (is_well_formed_key key ≡ true) = and_parts (is_u32 serial) (is_well_formed_key key) h in
    (ltb-true serial (2 ^ 32) p.0, well_formed_key key p.1)
well_formed_message (messages.ClientBegin serial parts) h = well_formed_begin serial parts h
well_formed_message (messages.ClientAnswer serial answer) h =
    let p : (is_u32 serial ≡ true) × (is_well_formed_answer answer ≡ true) = and_parts (is_u32 serial) (is_well_formed_answer answer) h in
    (ltb-true serial (2 ^ 32) p.0, well_formed_answer answer p.1)
well_formed_message (messages.Mark centre epoch seq) h = well_formed_tx (record { centre = centre; epoch = epoch; seq = seq }) h
well_formed_message (messages.Finished tx) h = well_formed_tx tx h

well_formed_endpoint : (n : ℕ) → is_message_endpoint n ≡ true → IsEndpoint n
well_formed_endpoint n h =
    elim (or_cases (is_in_range 1 9 n) (is_in_range 17 25 n) h) [
      | inl e ↦ inl (in_range 1 9 n e)
      | inr e ↦ inr (in_range 17 25 n e)
    ]

pub well_formed_envelope : (envelope : Envelope) → is_well_formed_envelope envelope ≡ true → IsWellFormedEnvelope envelope
well_formed_envelope envelope h =
    let p : (is_message_endpoint envelope.from ≡ true) × (is_message_endpoint envelope.to ≡ true) × (is_well_formed_message envelope.message ≡ true) = all_3 (is_message_endpoint envelope.from) (is_message_endpoint envelope.to) (is_well_formed_message envelope.message) h in
    record { from = well_formed_endpoint envelope.from p.0; to = well_formed_endpoint envelope.to p.1; message = well_formed_message envelope.message p.2 }

-- ---- facts

well_formed_promised : (key : List ℕ) (low high : ℕ) (ballot : Ballot) → is_well_formed_promised key low high ballot ≡ true → IsWellFormedPromised key low high ballot
well_formed_promised key low high ballot h =
    let p : (is_well_formed_instance key low ≡ true) × (is_u64 high ≡ true) × (is_well_formed_ballot ballot ≡ true) = all_3 (is_well_formed_instance key low) (is_u64 high) (is_well_formed_ballot ballot) h in
    record { instance = well_formed_instance key low p.0; high_fits = ltb-true high (2 ^ 64) p.1; ballot_itself = well_formed_ballot ballot p.2 }

well_formed_offer : (key : List ℕ) (version : ℕ) (choice : Choice) → is_well_formed_offer key version choice ≡ true → IsWellFormedOffer key version choice
well_formed_offer key version choice h =
    let p : (is_well_formed_choice choice ≡ true) × (key_eq choice.key key ≡ true) × (choice.version == version ≡ true) = all_3 (is_well_formed_choice choice) (key_eq choice.key key) (choice.version == version) h in
    record { choice_itself = well_formed_choice choice p.0; same_key = (Decides-key choice.key key).0 p.1; same_version = eqb-true choice.version version p.2 }

well_formed_offered : (key : List ℕ) (version : ℕ) (offered : Option Choice) → is_well_formed_offered key version offered ≡ true → IsWellFormedOffered key version offered
well_formed_offered key version None h = tt
well_formed_offered key version (Some choice) h = well_formed_offer key version choice h

well_formed_vote : (key : List ℕ) (version : ℕ) (ballot : Ballot) (options : Marks) (offered : Option Choice) → is_well_formed_vote key version ballot options offered ≡ true → IsWellFormedVote key version ballot options offered
well_formed_vote key version ballot options offered h =
    let p : (is_well_formed_instance key version ≡ true) × (is_well_formed_ballot ballot ≡ true) × (is_well_formed_options key version options ≡ true) × (is_well_formed_offered key version offered ≡ true) = all_4 (is_well_formed_instance key version) (is_well_formed_ballot ballot) (is_well_formed_options key version options) (is_well_formed_offered key version offered) h in
    record { instance = well_formed_instance key version p.0; ballot_itself = well_formed_ballot ballot p.1; options_itself = well_formed_options key version options p.2; offered_itself = well_formed_offered key version offered p.3 }

pub well_formed_fact : (fact : Fact) → is_well_formed_fact fact ≡ true → IsWellFormedFact fact
well_formed_fact (facts.Booted epoch) h = in_range 1 (2 ^ 32 - 1) epoch h
well_formed_fact (facts.Promised key low high ballot) h = well_formed_promised key low high ballot h
well_formed_fact (facts.Voted key version ballot options offered) h = well_formed_vote key version ballot options offered h
well_formed_fact (facts.Heard tx outcome) h = well_formed_heard tx outcome h
well_formed_fact (facts.Adopted key version item adds) h = well_formed_given key version item adds h
well_formed_fact (facts.Floor centre epoch seq) h = well_formed_tx (record { centre = centre; epoch = epoch; seq = seq }) h
