-- The lengths are those of the spellings.
use Rattle.std.proofs.Common.{◌≡◌, ℕ, ◌+◌, ◌*◌, ℤ, List, [], ◌∷◌, ◌++◌, length, refl, sym, arith, length-append}
use Rattle.std.specs.Prelude.{Option, Some, None}
use Rattle.std.specs.List.{flat_map}
use Rattle.mdcc_base.specs.Counts.{sum_over}
use Rattle.mdcc_base.specs.declared.identifiers.TxId.{TxId}
use Rattle.mdcc_option.specs.declared.items.Item.{Item}
use Rattle.mdcc_option.specs.declared.items.Part.{Part}
use Rattle.mdcc_option.specs.declared.items.Delta.{Delta}
use Rattle.mdcc_option.specs.declared.items.Update.{Update}
use Rattle.mdcc_option.specs.declared.items.Update.TheVariants.{Write, Add}
use Rattle.mdcc_option.specs.declared.choices.Cause.{Cause}
use Rattle.mdcc_option.specs.declared.choices.Cause.TheVariants.{Behind, Classic, Limit, Full}
use Rattle.mdcc_option.specs.declared.choices.Choice.{Choice}
use Rattle.mdcc_option.specs.declared.choices.Mark.{Mark}
use Rattle.mdcc_option.specs.declared.choices.Mark.TheVariants as marks
use Rattle.mdcc_option.specs.declared.choices.Outcome.{Outcome}
use Rattle.mdcc_option.specs.declared.choices.Outcome.TheVariants.{Commit, Abort}
use Rattle.mdcc_option.specs.declared.faults.BeginFault.{BeginFault}
use Rattle.mdcc_option.specs.declared.faults.BeginFault.TheVariants as begins
use Rattle.mdcc_def_messages.specs.declared.messages.ClientAnswer.{ClientAnswer}
use Rattle.mdcc_def_messages.specs.declared.messages.ClientAnswer.TheVariants as answers
use Rattle.mdcc_def_messages.specs.declared.messages.Envelope.{Envelope}
use Rattle.mdcc_def_messages.specs.declared.messages.Message.{Message}
use Rattle.mdcc_def_messages.specs.declared.messages.Message.TheVariants as messages
use Rattle.mdcc_def_messages.specs.declared.facts.Fact.{Fact}
use Rattle.mdcc_def_messages.specs.declared.facts.Fact.TheVariants as facts
use Rattle.mdcc_struct.specs.Options.{Marks}
use Rattle.mdcc_def_messages.specs.Bytes.{u64_bytes, i64_bytes, counted_bytes}
use Rattle.mdcc_def_messages.specs.SpelledParts.{key_bytes, tx_bytes, ballot_bytes, item_bytes, seen_bytes, amount_bytes, amounts_bytes, update_bytes, part_bytes, delta_bytes, written_bytes, write_set_bytes, choice_bytes, entry_bytes, options_bytes, outcome_bytes, cause_bytes, heard_bytes, given_bytes}
use Rattle.mdcc_def_messages.specs.SpelledAnswers.{shown_item_bytes, begin_fault_bytes, flag_bytes, answer_bytes}
use Rattle.mdcc_def_messages.specs.Spelling.{body_bytes, message_bytes, offered_bytes, fact_bytes}
use Rattle.mdcc_def_messages.specs.Lengths.{shown_item_length, begin_fault_length, answer_length, body_length, message_length, offered_length, fact_length, key_length, item_length, seen_length, amounts_length, update_length, part_length, delta_length, written_length, write_set_length, choice_length, entry_length, options_length, outcome_length, cause_length, heard_length, given_length}

-- lists joined of several
length-three : {X : Type 0} (a b c : List X) → length (a ++ b ++ c) ≡ length a + length b + length c
length-three a b c = omega (arith, length-append (a ++ b) c, length-append a b)

length-four : {X : Type 0} (a b c d : List X) → length (a ++ b ++ c ++ d) ≡ length a + length b + length c + length d
length-four a b c d = omega (arith, length-append (a ++ b ++ c) d, length-three a b c)

length-five : {X : Type 0} (a b c d e : List X) → length (a ++ b ++ c ++ d ++ e) ≡ length a + length b + length c + length d + length e
length-five a b c d e = omega (arith, length-append (a ++ b ++ c ++ d) e, length-four a b c d)

length-six : {X : Type 0} (a b c d e f : List X)
    → length (a ++ b ++ c ++ d ++ e ++ f) ≡ length a + length b + length c + length d + length e + length f
length-six a b c d e f = omega (arith, length-append (a ++ b ++ c ++ d ++ e) f, length-five a b c d e)

-- lists of parts, each of which has its length
length-each : {X : Type 0} (bytes_of : X → List ℕ) (size : X → ℕ) → ((x : X) → length (bytes_of x) ≡ size x)
    → (xs : List X) → length (flat_map bytes_of xs) ≡ sum_over size xs
length-each bytes_of size each [] = refl
length-each bytes_of size each (x ∷ xs) =
    omega (arith, length-append (bytes_of x) (flat_map bytes_of xs), each x, length-each bytes_of size each xs)

-- the same where all have one length
length-equal : {X : Type 0} (bytes_of : X → List ℕ) (size : ℕ) → ((x : X) → length (bytes_of x) ≡ size)
    → (xs : List X) → length (flat_map bytes_of xs) ≡ size * length xs
length-equal bytes_of size each [] = omega arith
length-equal bytes_of size each (x ∷ xs) =
    grind (arith, length-append (bytes_of x) (flat_map bytes_of xs), each x, length-equal bytes_of size each xs)

pub length-key : (key : List ℕ) → length (key_bytes key) ≡ key_length key
length-key key = omega arith

length-item : (item : Item) → length (item_bytes item) ≡ item_length item
length-item item =
    omega (arith, length-append item.body (counted_bytes i64_bytes item.values), length-equal i64_bytes 8 (λ z. refl) item.values)

length-seen : (seen : List TxId) → length (seen_bytes seen) ≡ seen_length seen
length-seen seen = omega (arith, length-equal tx_bytes 9 (λ tx. refl) seen)

length-amounts : (amounts : List (ℕ × ℤ)) → length (amounts_bytes amounts) ≡ amounts_length amounts
length-amounts amounts = omega (arith, length-equal amount_bytes 9 (λ a. refl) amounts)

length-update : (update : Update) → length (update_bytes update) ≡ update_length update
length-update (Write item seen) = omega (arith, length-append (item_bytes item) (seen_bytes seen), length-item item, length-seen seen)
length-update (Add amounts) = omega (arith, length-amounts amounts)

length-part : (part : Part) → length (part_bytes part) ≡ part_length part
length-part part =
    omega (arith, length-three part.key (u64_bytes part.version) (update_bytes part.update), length-update part.update)

length-delta : (delta : Delta) → length (delta_bytes delta) ≡ delta_length delta
length-delta delta = omega (arith, length-amounts delta.amounts)

length-written : (written : List ℕ × ℕ) → length (written_bytes written) ≡ written_length written
length-written written = omega (arith, length-append written.0 (u64_bytes written.1))

length-write_set : (write_set : List (List ℕ × ℕ)) → length (write_set_bytes write_set) ≡ write_set_length write_set
length-write_set write_set = omega (arith, length-each written_bytes written_length length-written write_set)

pub length-choice : (choice : Choice) → length (choice_bytes choice) ≡ choice_length choice
length-choice choice =
    omega (
      arith,
      length-four choice.key (u64_bytes choice.version) (update_bytes choice.update) (write_set_bytes choice.write_set),
      length-update choice.update,
      length-write_set choice.write_set,
    )

pub length-entry : (tx : TxId) (mark : Mark) → length (entry_bytes tx mark) ≡ entry_length mark
length-entry tx marks.Reject = refl
length-entry tx (marks.Accept choice) = omega (arith, length-choice choice)

pub length-options : (options : Marks) → length (options_bytes options) ≡ options_length options
length-options options =
    omega (arith, length-each (λ (e : TxId × Mark). entry_bytes e.0 e.1) (λ e. entry_length e.1) (λ e. length-entry e.0 e.1) options)

length-outcome : (outcome : Outcome) → length (outcome_bytes outcome) ≡ outcome_length outcome
length-outcome Abort = refl
length-outcome (Commit choices) = omega (arith, length-each choice_bytes choice_length length-choice choices)

length-cause : (cause : Cause) → length (cause_bytes cause) ≡ cause_length cause
length-cause Behind = refl
length-cause (Classic ballot) = refl
length-cause (Limit quantity) = refl
length-cause Full = refl

length-heard : (tx : TxId) (outcome : Outcome) → length (heard_bytes tx outcome) ≡ heard_length outcome
length-heard tx outcome = omega (arith, length-outcome outcome)

length-given : (key : List ℕ) (version : ℕ) (item : Item) (adds : List Delta) → length (given_bytes key version item adds) ≡ given_length key item adds
length-given key version item adds =
    omega (
      arith,
      length-four key (u64_bytes version) (item_bytes item) (counted_bytes delta_bytes adds),
      length-item item,
      length-each delta_bytes delta_length length-delta adds,
    )

-- ---- what a client is answered

length-shown_item : (item : Option Item) → length (shown_item_bytes item) ≡ shown_item_length item
length-shown_item None = refl
length-shown_item (Some item) = omega (arith, length-item item)

length-begin_fault : (fault : BeginFault) → length (begin_fault_bytes fault) ≡ begin_fault_length fault
length-begin_fault (begins.Stale token) = omega (arith, length-seen token.seen)
length-begin_fault (begins.Unseen version) = refl
length-begin_fault begins.NoItem = refl
length-begin_fault begins.Sequence = refl
length-begin_fault begins.Busy = refl
length-begin_fault begins.Memory = refl

length-answer : (answer : ClientAnswer) → length (answer_bytes answer) ≡ answer_length answer
length-answer (answers.Read key token item due) =
    omega (
      arith,
      length-five key (u64_bytes token.version) (shown_item_bytes item) (seen_bytes token.seen) (flag_bytes due),
      length-shown_item item,
      length-seen token.seen,
    )
length-answer (answers.Begun tx) = refl
length-answer (answers.Refused key fault) = omega (arith, length-append key (begin_fault_bytes fault), length-begin_fault fault)
length-answer (answers.Heard tx commit) = refl
length-answer (answers.Draft fault) = refl

-- ---- messages

length-body : (message : Message) → length (body_bytes message) ≡ body_length message
length-body (messages.Propose choice) = length-choice choice
length-body (messages.Voted key version ballot tx mark) =
    omega (arith, length-four key (u64_bytes version) (ballot_bytes ballot) (entry_bytes tx mark), length-entry tx mark)
length-body (messages.Escalate key version tx cause) =
    omega (arith, length-four key (u64_bytes version) (tx_bytes tx) (cause_bytes cause), length-cause cause)
length-body (messages.Lead choice) = length-choice choice
length-body (messages.Prepare key version through ballot) =
    omega (arith, length-four key (u64_bytes version) (u64_bytes through) (ballot_bytes ballot))
length-body (messages.Promise key version through ballot reported votes) =
    omega (
      arith,
      length-six key (u64_bytes version) (u64_bytes through) (ballot_bytes ballot) (ballot_bytes reported) (options_bytes votes),
      length-options votes,
    )
length-body (messages.Accept key version ballot options) =
    omega (arith, length-four key (u64_bytes version) (ballot_bytes ballot) (options_bytes options), length-options options)
length-body (messages.Refused key version ballot promised) =
    omega (arith, length-four key (u64_bytes version) (ballot_bytes ballot) (ballot_bytes promised))
length-body (messages.Outcome tx outcome) = length-heard tx outcome
length-body (messages.Ask tx key version) = omega (arith, length-append key (u64_bytes version))
length-body (messages.SyncAsk key) = length-key key
length-body (messages.SyncGive key version item adds) = length-given key version item adds
length-body (messages.ClientRead serial key) = omega arith
length-body (messages.ClientBegin serial parts) = omega (arith, length-each part_bytes part_length length-part parts)
length-body (messages.ClientAnswer serial answer) = omega (arith, length-answer answer)
length-body (messages.Mark centre epoch seq) = refl
length-body (messages.Finished tx) = refl

pub length-message : (envelope : Envelope) → message_length envelope ≡ length (message_bytes envelope)
length-message envelope = omega (arith, length-body envelope.message)

-- ---- facts and logs

length-offered : (offered : Option Choice) → length (offered_bytes offered) ≡ offered_length offered
length-offered None = refl
length-offered (Some choice) = omega (arith, length-choice choice)

length-fact_bytes : (fact : Fact) → length (fact_bytes fact) ≡ fact_length fact
length-fact_bytes (facts.Booted epoch) = refl
length-fact_bytes (facts.Promised key low high ballot) =
    omega (arith, length-four key (u64_bytes low) (u64_bytes high) (ballot_bytes ballot))
length-fact_bytes (facts.Voted key version ballot options offered) =
    omega (
      arith,
      length-five key (u64_bytes version) (ballot_bytes ballot) (options_bytes options) (offered_bytes offered),
      length-options options,
      length-offered offered,
    )
length-fact_bytes (facts.Heard tx outcome) = omega (arith, length-heard tx outcome)
length-fact_bytes (facts.Adopted key version item adds) = omega (arith, length-given key version item adds)
length-fact_bytes (facts.Floor centre epoch seq) = refl

pub length-fact : (fact : Fact) → fact_length fact ≡ length (fact_bytes fact)
length-fact fact = sym (length-fact_bytes fact)
