-- Messages: what is read is what is spelled.
use Rattle.std.proofs.Common.{◌≡◌, ℕ, ◌+◌, true, List, [], ◌∷◌, ◌++◌, length, Ok, None, refl, ap, subst, arith}
use Rattle.std.proofs.lemmas.Bool.{and_parts}
use Rattle.mdcc_base.specs.declared.identifiers.Ballot.{Ballot}
use Rattle.mdcc_base.specs.declared.identifiers.TxId.{TxId}
use Rattle.mdcc_base.specs.Key.{key_lt}
use Rattle.mdcc_option.specs.declared.items.Item.{Item}
use Rattle.mdcc_option.specs.declared.items.Part.{Part}
use Rattle.mdcc_option.specs.declared.items.Delta.{Delta}
use Rattle.mdcc_option.specs.declared.choices.Cause.{Cause}
use Rattle.mdcc_option.specs.declared.choices.Choice.{Choice}
use Rattle.mdcc_option.specs.declared.choices.Mark.{Mark}
use Rattle.mdcc_option.specs.declared.choices.Outcome.{Outcome}
use Rattle.mdcc_option.specs.Parts.{are_parts_ascending}
use Rattle.mdcc_struct.specs.Options.{Marks}
use Rattle.mdcc_def_messages.specs.declared.messages.ClientAnswer.{ClientAnswer}
use Rattle.mdcc_def_messages.specs.declared.messages.Message.{Message}
use Rattle.mdcc_def_messages.specs.declared.messages.Message.TheVariants as messages
use Rattle.mdcc_def_messages.specs.Bytes.{u32_bytes, u64_bytes, counted_bytes, u8_bytes}
use Rattle.mdcc_def_messages.specs.SpelledParts.{key_bytes, tx_bytes, ballot_bytes, part_bytes, choice_bytes, entry_bytes, options_bytes, cause_bytes, heard_bytes, given_bytes}
use Rattle.mdcc_def_messages.specs.SpelledAnswers.{answer_bytes}
use Rattle.mdcc_def_messages.specs.Spelling.{kind_of, body_bytes}
use Rattle.mdcc_def_messages.specs.ReadingSteps.{◌>>=◌, u32_at, u64_at, checked, list_at}
use Rattle.mdcc_def_messages.specs.ReadingParts.{key_at, tx_at, ballot_at, classic_at, part_behind, choice_at, mark_entry_at, options_at, cause_at}
use Rattle.mdcc_def_messages.specs.ReadingAnswers.{answer_at}
use Rattle.mdcc_def_messages.specs.Reading.{instance_at, at_least, heard_at, sync_given_at, propose_at, voted_at, escalate_at, lead_at, prepare_at, promise_at, accept_at, refused_message_at, ended_at, ask_at, sync_ask_at, sync_give_at, client_read_at, client_begin_at, client_answer_at, finished_at, mark_at, numbers_at}
use Rattle.mdcc_def_messages.specs.WellFormedParts.{is_ascending_by, IsWellFormedPart}
use Rattle.mdcc_def_messages.specs.WellFormed.{IsWellFormedMessage}
use Rattle.mdcc_theorem_encoding.proofs.Places.{IsAt, IsBytes, apart-2, apart-3, apart-5, end-2, end-3, end-5}
use Rattle.mdcc_theorem_encoding.proofs.Steps.{done, ok_is, bind_ok}
use Rattle.mdcc_theorem_encoding.proofs.Numbers.{IsFound, u32_again, u32_takes}
use Rattle.mdcc_theorem_encoding.proofs.Lists.{Reads-then, list_again, list_takes, follows, ascends}
use Rattle.mdcc_theorem_encoding.proofs.Identifiers.{key_again, key_takes, tx_again, tx_takes, ballot_again, ballot_takes, classic_again, classic_takes}
use Rattle.mdcc_theorem_encoding.proofs.Items.{part_again, part_takes}
use Rattle.mdcc_theorem_encoding.proofs.Choices.{choice_again, choice_takes, entry_spelled, entry_behind_again, entry_behind_takes, options_again, options_take}
use Rattle.mdcc_theorem_encoding.proofs.Common.{least_again, least_takes, instance_spelled, instance_again, instance_takes, heard_again, heard_takes, given_again, given_takes, cause_again, cause_takes, numbers_again, numbers_take}
use Rattle.mdcc_theorem_encoding.proofs.Answers.{answer_again, answer_takes}

-- a well-formed message of a kind
abbrev pub OfKind : ℕ → Message → Type 0
OfKind kind message = IsWellFormedMessage message × (kind_of message ≡ kind)

-- parts in order
parts_ascending : (parts : List Part) → are_parts_ascending parts ≡ true → is_ascending_by (λ a b. key_lt a.key b.key) parts ≡ true
parts_ascending [] h = refl
parts_ascending (p ∷ []) h = refl
parts_ascending (p ∷ q ∷ ps) h =
    let parts = and_parts (key_lt p.key q.key) (are_parts_ascending (q ∷ ps)) h in
    rw (parts.0, parts_ascending (q ∷ ps) parts.1) refl

ascending_parts : (parts : List Part) → is_ascending_by (λ a b. key_lt a.key b.key) parts ≡ true → are_parts_ascending parts ≡ true
ascending_parts [] h = refl
ascending_parts (p ∷ []) h = refl
ascending_parts (p ∷ q ∷ ps) h =
    let parts = and_parts (key_lt p.key q.key) (is_ascending_by (λ a b. key_lt a.key b.key) (q ∷ ps)) h in
    rw (parts.0, ascending_parts (q ∷ ps) parts.1) refl

pub propose_again : (bytes : List ℕ) (at : ℕ) (choice : Choice) → IsWellFormedMessage (messages.Propose choice) → IsAt bytes at (choice_bytes choice)
    → propose_at bytes at ≡ Ok (messages.Propose choice, at + length (choice_bytes choice))
propose_again bytes at choice w h =
    let e0 = choice_again bytes at choice w h in
    rw (e0) refl

pub propose_takes : (bytes : List ℕ) (at : ℕ) (x : Message × ℕ) → IsBytes bytes → propose_at bytes at ≡ Ok x
    → IsFound bytes body_bytes (OfKind 1) at x
propose_takes bytes at x h e =
    let a0 = bind_ok (choice_at bytes at) (λ choice. done (messages.Propose choice.0, choice.1)) x e in
    let t0 = choice_takes bytes at a0.0 h a0.1 in
    subst (IsFound bytes body_bytes (OfKind 1) at) (ok_is {X = Message × ℕ} (messages.Propose a0.0.0, a0.0.1) x a0.2) (record {
      reads = t0.reads;
      fits = (t0.fits, refl);
    })

pub voted_again : (bytes : List ℕ) (at : ℕ) (key : List ℕ) (version : ℕ) (ballot : Ballot) (tx : TxId) (mark : Mark) → IsWellFormedMessage (messages.Voted key version ballot tx mark) → IsAt bytes at (key_bytes key ++ u64_bytes version ++ ballot_bytes ballot ++ entry_bytes tx mark)
    → voted_at bytes at ≡ Ok (messages.Voted key version ballot tx mark, at + length (key_bytes key ++ u64_bytes version ++ ballot_bytes ballot ++ entry_bytes tx mark))
voted_again bytes at key version ballot tx mark w h =
    let p = apart-3 bytes at (instance_spelled ((key, version))) (ballot_bytes ballot) (entry_spelled ((tx, mark))) h in
    let e0 = instance_again bytes at key version w.instance p.0 in
    let e1 = ballot_again bytes (at + length (instance_spelled ((key, version)))) ballot w.ballot_itself p.1 in
    let e2 = entry_behind_again (at + length (instance_spelled ((key, version))) + length (ballot_bytes ballot)) key version bytes None (at + length (instance_spelled ((key, version))) + length (ballot_bytes ballot)) ((tx, mark)) w.entry refl p.2 in
    rw (e0, e1, e2) (ap (λ n. done (messages.Voted key version ballot tx mark, n)) (end-3 at (instance_spelled ((key, version))) (ballot_bytes ballot) (entry_spelled ((tx, mark)))))

pub voted_takes : (bytes : List ℕ) (at : ℕ) (x : Message × ℕ) → IsBytes bytes → voted_at bytes at ≡ Ok x
    → IsFound bytes body_bytes (OfKind 2) at x
voted_takes bytes at x h e =
    let a0 = bind_ok (instance_at bytes at) (λ place. ballot_at bytes place.1 >>= λ ballot. mark_entry_at bytes ballot.1 place.0.0 place.0.1 >>= λ entry. done (messages.Voted place.0.0 place.0.1 ballot.0 entry.0.0 entry.0.1, entry.1)) x e in
    let a1 = bind_ok (ballot_at bytes a0.0.1) (λ ballot. mark_entry_at bytes ballot.1 a0.0.0.0 a0.0.0.1 >>= λ entry. done (messages.Voted a0.0.0.0 a0.0.0.1 ballot.0 entry.0.0 entry.0.1, entry.1)) x a0.2 in
    let a2 = bind_ok (mark_entry_at bytes a1.0.1 a0.0.0.0 a0.0.0.1) (λ entry. done (messages.Voted a0.0.0.0 a0.0.0.1 a1.0.0 entry.0.0 entry.0.1, entry.1)) x a1.2 in
    let t0 = instance_takes bytes at a0.0 h a0.1 in
    let t1 = ballot_takes bytes a0.0.1 a1.0 h a1.1 in
    let t2 = entry_behind_takes a1.0.1 a0.0.0.0 a0.0.0.1 bytes h None a1.0.1 a2.0 a2.1 in
    subst (IsFound bytes body_bytes (OfKind 2) at) (ok_is {X = Message × ℕ} (messages.Voted a0.0.0.0 a0.0.0.1 a1.0.0 a2.0.0.0 a2.0.0.1, a2.0.1) x a2.2) (record {
      reads = Reads-then bytes at (instance_spelled a0.0.0 ++ ballot_bytes a1.0.0) a1.0.1 (entry_spelled a2.0.0) a2.0.1 (Reads-then bytes at (instance_spelled a0.0.0) a0.0.1 (ballot_bytes a1.0.0) a1.0.1 (t0.reads) t1.reads) t2.0;
      fits = (record { instance = t0.fits; ballot_itself = t1.fits; entry = t2.1 }, refl);
    })

pub escalate_again : (bytes : List ℕ) (at : ℕ) (key : List ℕ) (version : ℕ) (tx : TxId) (cause : Cause) → IsWellFormedMessage (messages.Escalate key version tx cause) → IsAt bytes at (key_bytes key ++ u64_bytes version ++ tx_bytes tx ++ cause_bytes cause)
    → escalate_at bytes at ≡ Ok (messages.Escalate key version tx cause, at + length (key_bytes key ++ u64_bytes version ++ tx_bytes tx ++ cause_bytes cause))
escalate_again bytes at key version tx cause w h =
    let p = apart-3 bytes at (instance_spelled ((key, version))) (tx_bytes tx) (cause_bytes cause) h in
    let e0 = instance_again bytes at key version w.instance p.0 in
    let e1 = tx_again bytes (at + length (instance_spelled ((key, version)))) tx w.tx_itself p.1 in
    let e2 = cause_again bytes (at + length (instance_spelled ((key, version))) + length (tx_bytes tx)) cause w.cause_itself p.2 in
    rw (e0, e1, e2) (ap (λ n. done (messages.Escalate key version tx cause, n)) (end-3 at (instance_spelled ((key, version))) (tx_bytes tx) (cause_bytes cause)))

pub escalate_takes : (bytes : List ℕ) (at : ℕ) (x : Message × ℕ) → IsBytes bytes → escalate_at bytes at ≡ Ok x
    → IsFound bytes body_bytes (OfKind 3) at x
escalate_takes bytes at x h e =
    let a0 = bind_ok (instance_at bytes at) (λ place. tx_at bytes place.1 >>= λ tx. cause_at bytes tx.1 >>= λ cause. done (messages.Escalate place.0.0 place.0.1 tx.0 cause.0, cause.1)) x e in
    let a1 = bind_ok (tx_at bytes a0.0.1) (λ tx. cause_at bytes tx.1 >>= λ cause. done (messages.Escalate a0.0.0.0 a0.0.0.1 tx.0 cause.0, cause.1)) x a0.2 in
    let a2 = bind_ok (cause_at bytes a1.0.1) (λ cause. done (messages.Escalate a0.0.0.0 a0.0.0.1 a1.0.0 cause.0, cause.1)) x a1.2 in
    let t0 = instance_takes bytes at a0.0 h a0.1 in
    let t1 = tx_takes bytes a0.0.1 a1.0 h a1.1 in
    let t2 = cause_takes bytes a1.0.1 a2.0 h a2.1 in
    subst (IsFound bytes body_bytes (OfKind 3) at) (ok_is {X = Message × ℕ} (messages.Escalate a0.0.0.0 a0.0.0.1 a1.0.0 a2.0.0, a2.0.1) x a2.2) (record {
      reads = Reads-then bytes at (instance_spelled a0.0.0 ++ tx_bytes a1.0.0) a1.0.1 (cause_bytes a2.0.0) a2.0.1 (Reads-then bytes at (instance_spelled a0.0.0) a0.0.1 (tx_bytes a1.0.0) a1.0.1 (t0.reads) t1.reads) t2.reads;
      fits = (record { instance = t0.fits; tx_itself = t1.fits; cause_itself = t2.fits }, refl);
    })

pub lead_again : (bytes : List ℕ) (at : ℕ) (choice : Choice) → IsWellFormedMessage (messages.Lead choice) → IsAt bytes at (choice_bytes choice)
    → lead_at bytes at ≡ Ok (messages.Lead choice, at + length (choice_bytes choice))
lead_again bytes at choice w h =
    let e0 = choice_again bytes at choice w h in
    rw (e0) refl

pub lead_takes : (bytes : List ℕ) (at : ℕ) (x : Message × ℕ) → IsBytes bytes → lead_at bytes at ≡ Ok x
    → IsFound bytes body_bytes (OfKind 4) at x
lead_takes bytes at x h e =
    let a0 = bind_ok (choice_at bytes at) (λ choice. done (messages.Lead choice.0, choice.1)) x e in
    let t0 = choice_takes bytes at a0.0 h a0.1 in
    subst (IsFound bytes body_bytes (OfKind 4) at) (ok_is {X = Message × ℕ} (messages.Lead a0.0.0, a0.0.1) x a0.2) (record {
      reads = t0.reads;
      fits = (t0.fits, refl);
    })

pub prepare_again : (bytes : List ℕ) (at : ℕ) (key : List ℕ) (version through : ℕ) (ballot : Ballot) → IsWellFormedMessage (messages.Prepare key version through ballot) → IsAt bytes at (key_bytes key ++ u64_bytes version ++ u64_bytes through ++ ballot_bytes ballot)
    → prepare_at bytes at ≡ Ok (messages.Prepare key version through ballot, at + length (key_bytes key ++ u64_bytes version ++ u64_bytes through ++ ballot_bytes ballot))
prepare_again bytes at key version through ballot w h =
    let p = apart-3 bytes at (instance_spelled ((key, version))) (u64_bytes through) (ballot_bytes ballot) h in
    let e0 = instance_again bytes at key version w.instance p.0 in
    let e1 = least_again bytes (at + length (instance_spelled ((key, version)))) version through w.not_below w.through_fits p.1 in
    let e2 = classic_again bytes (at + length (instance_spelled ((key, version))) + length (u64_bytes through)) ballot w.classic p.2 in
    rw (e0, e1, e2) (ap (λ n. done (messages.Prepare key version through ballot, n)) (end-3 at (instance_spelled ((key, version))) (u64_bytes through) (ballot_bytes ballot)))

pub prepare_takes : (bytes : List ℕ) (at : ℕ) (x : Message × ℕ) → IsBytes bytes → prepare_at bytes at ≡ Ok x
    → IsFound bytes body_bytes (OfKind 5) at x
prepare_takes bytes at x h e =
    let a0 = bind_ok (instance_at bytes at) (λ place. checked (at_least place.1 place.0.1) (u64_at bytes place.1) >>= λ through. classic_at bytes through.1 >>= λ ballot. done (messages.Prepare place.0.0 place.0.1 through.0 ballot.0, ballot.1)) x e in
    let a1 = bind_ok (checked (at_least a0.0.1 a0.0.0.1) (u64_at bytes a0.0.1)) (λ through. classic_at bytes through.1 >>= λ ballot. done (messages.Prepare a0.0.0.0 a0.0.0.1 through.0 ballot.0, ballot.1)) x a0.2 in
    let a2 = bind_ok (classic_at bytes a1.0.1) (λ ballot. done (messages.Prepare a0.0.0.0 a0.0.0.1 a1.0.0 ballot.0, ballot.1)) x a1.2 in
    let t0 = instance_takes bytes at a0.0 h a0.1 in
    let t1 = least_takes bytes a0.0.1 a0.0.0.1 a1.0 h a1.1 in
    let t2 = classic_takes bytes a1.0.1 a2.0 h a2.1 in
    subst (IsFound bytes body_bytes (OfKind 5) at) (ok_is {X = Message × ℕ} (messages.Prepare a0.0.0.0 a0.0.0.1 a1.0.0 a2.0.0, a2.0.1) x a2.2) (record {
      reads = Reads-then bytes at (instance_spelled a0.0.0 ++ u64_bytes a1.0.0) a1.0.1 (ballot_bytes a2.0.0) a2.0.1 (Reads-then bytes at (instance_spelled a0.0.0) a0.0.1 (u64_bytes a1.0.0) a1.0.1 (t0.reads) t1.0) t2.reads;
      fits = (record { instance = t0.fits; not_below = t1.2; through_fits = t1.1; classic = t2.fits }, refl);
    })

pub promise_again : (bytes : List ℕ) (at : ℕ) (key : List ℕ) (version through : ℕ) (ballot reported : Ballot) (votes : Marks) → IsWellFormedMessage (messages.Promise key version through ballot reported votes) → IsAt bytes at (key_bytes key ++ u64_bytes version ++ u64_bytes through ++ ballot_bytes ballot ++ ballot_bytes reported ++ options_bytes votes)
    → promise_at bytes at ≡ Ok (messages.Promise key version through ballot reported votes, at + length (key_bytes key ++ u64_bytes version ++ u64_bytes through ++ ballot_bytes ballot ++ ballot_bytes reported ++ options_bytes votes))
promise_again bytes at key version through ballot reported votes w h =
    let p = apart-5 bytes at (instance_spelled ((key, version))) (u64_bytes through) (ballot_bytes ballot) (ballot_bytes reported) (options_bytes votes) h in
    let e0 = instance_again bytes at key version w.prepare.instance p.0 in
    let e1 = least_again bytes (at + length (instance_spelled ((key, version)))) version through w.prepare.not_below w.prepare.through_fits p.1 in
    let e2 = classic_again bytes (at + length (instance_spelled ((key, version))) + length (u64_bytes through)) ballot w.prepare.classic p.2 in
    let e3 = ballot_again bytes (at + length (instance_spelled ((key, version))) + length (u64_bytes through) + length (ballot_bytes ballot)) reported w.reported_itself p.3 in
    let e4 = options_again bytes (at + length (instance_spelled ((key, version))) + length (u64_bytes through) + length (ballot_bytes ballot) + length (ballot_bytes reported)) key version votes w.votes_itself p.4 in
    rw (e0, e1, e2, e3, e4) (ap (λ n. done (messages.Promise key version through ballot reported votes, n)) (end-5 at (instance_spelled ((key, version))) (u64_bytes through) (ballot_bytes ballot) (ballot_bytes reported) (options_bytes votes)))

pub promise_takes : (bytes : List ℕ) (at : ℕ) (x : Message × ℕ) → IsBytes bytes → promise_at bytes at ≡ Ok x
    → IsFound bytes body_bytes (OfKind 6) at x
promise_takes bytes at x h e =
    let a0 = bind_ok (instance_at bytes at) (λ place. checked (at_least place.1 place.0.1) (u64_at bytes place.1) >>= λ through. classic_at bytes through.1 >>= λ ballot. ballot_at bytes ballot.1 >>= λ reported. options_at bytes reported.1 place.0.0 place.0.1 >>= λ votes. done (messages.Promise place.0.0 place.0.1 through.0 ballot.0 reported.0 votes.0, votes.1)) x e in
    let a1 = bind_ok (checked (at_least a0.0.1 a0.0.0.1) (u64_at bytes a0.0.1)) (λ through. classic_at bytes through.1 >>= λ ballot. ballot_at bytes ballot.1 >>= λ reported. options_at bytes reported.1 a0.0.0.0 a0.0.0.1 >>= λ votes. done (messages.Promise a0.0.0.0 a0.0.0.1 through.0 ballot.0 reported.0 votes.0, votes.1)) x a0.2 in
    let a2 = bind_ok (classic_at bytes a1.0.1) (λ ballot. ballot_at bytes ballot.1 >>= λ reported. options_at bytes reported.1 a0.0.0.0 a0.0.0.1 >>= λ votes. done (messages.Promise a0.0.0.0 a0.0.0.1 a1.0.0 ballot.0 reported.0 votes.0, votes.1)) x a1.2 in
    let a3 = bind_ok (ballot_at bytes a2.0.1) (λ reported. options_at bytes reported.1 a0.0.0.0 a0.0.0.1 >>= λ votes. done (messages.Promise a0.0.0.0 a0.0.0.1 a1.0.0 a2.0.0 reported.0 votes.0, votes.1)) x a2.2 in
    let a4 = bind_ok (options_at bytes a3.0.1 a0.0.0.0 a0.0.0.1) (λ votes. done (messages.Promise a0.0.0.0 a0.0.0.1 a1.0.0 a2.0.0 a3.0.0 votes.0, votes.1)) x a3.2 in
    let t0 = instance_takes bytes at a0.0 h a0.1 in
    let t1 = least_takes bytes a0.0.1 a0.0.0.1 a1.0 h a1.1 in
    let t2 = classic_takes bytes a1.0.1 a2.0 h a2.1 in
    let t3 = ballot_takes bytes a2.0.1 a3.0 h a3.1 in
    let t4 = options_take bytes a3.0.1 a0.0.0.0 a0.0.0.1 a4.0 h a4.1 in
    subst (IsFound bytes body_bytes (OfKind 6) at) (ok_is {X = Message × ℕ} (messages.Promise a0.0.0.0 a0.0.0.1 a1.0.0 a2.0.0 a3.0.0 a4.0.0, a4.0.1) x a4.2) (record {
      reads = Reads-then bytes at (instance_spelled a0.0.0 ++ u64_bytes a1.0.0 ++ ballot_bytes a2.0.0 ++ ballot_bytes a3.0.0) a3.0.1 (options_bytes a4.0.0) a4.0.1 (Reads-then bytes at (instance_spelled a0.0.0 ++ u64_bytes a1.0.0 ++ ballot_bytes a2.0.0) a2.0.1 (ballot_bytes a3.0.0) a3.0.1 (Reads-then bytes at (instance_spelled a0.0.0 ++ u64_bytes a1.0.0) a1.0.1 (ballot_bytes a2.0.0) a2.0.1 (Reads-then bytes at (instance_spelled a0.0.0) a0.0.1 (u64_bytes a1.0.0) a1.0.1 (t0.reads) t1.0) t2.reads) t3.reads) t4.reads;
      fits = (record { prepare = record { instance = t0.fits; not_below = t1.2; through_fits = t1.1; classic = t2.fits }; reported_itself = t3.fits; votes_itself = t4.fits }, refl);
    })

pub accept_again : (bytes : List ℕ) (at : ℕ) (key : List ℕ) (version : ℕ) (ballot : Ballot) (options : Marks) → IsWellFormedMessage (messages.Accept key version ballot options) → IsAt bytes at (key_bytes key ++ u64_bytes version ++ ballot_bytes ballot ++ options_bytes options)
    → accept_at bytes at ≡ Ok (messages.Accept key version ballot options, at + length (key_bytes key ++ u64_bytes version ++ ballot_bytes ballot ++ options_bytes options))
accept_again bytes at key version ballot options w h =
    let p = apart-3 bytes at (instance_spelled ((key, version))) (ballot_bytes ballot) (options_bytes options) h in
    let e0 = instance_again bytes at key version w.instance p.0 in
    let e1 = classic_again bytes (at + length (instance_spelled ((key, version)))) ballot w.classic p.1 in
    let e2 = options_again bytes (at + length (instance_spelled ((key, version))) + length (ballot_bytes ballot)) key version options w.options_itself p.2 in
    rw (e0, e1, e2) (ap (λ n. done (messages.Accept key version ballot options, n)) (end-3 at (instance_spelled ((key, version))) (ballot_bytes ballot) (options_bytes options)))

pub accept_takes : (bytes : List ℕ) (at : ℕ) (x : Message × ℕ) → IsBytes bytes → accept_at bytes at ≡ Ok x
    → IsFound bytes body_bytes (OfKind 7) at x
accept_takes bytes at x h e =
    let a0 = bind_ok (instance_at bytes at) (λ place. classic_at bytes place.1 >>= λ ballot. options_at bytes ballot.1 place.0.0 place.0.1 >>= λ options. done (messages.Accept place.0.0 place.0.1 ballot.0 options.0, options.1)) x e in
    let a1 = bind_ok (classic_at bytes a0.0.1) (λ ballot. options_at bytes ballot.1 a0.0.0.0 a0.0.0.1 >>= λ options. done (messages.Accept a0.0.0.0 a0.0.0.1 ballot.0 options.0, options.1)) x a0.2 in
    let a2 = bind_ok (options_at bytes a1.0.1 a0.0.0.0 a0.0.0.1) (λ options. done (messages.Accept a0.0.0.0 a0.0.0.1 a1.0.0 options.0, options.1)) x a1.2 in
    let t0 = instance_takes bytes at a0.0 h a0.1 in
    let t1 = classic_takes bytes a0.0.1 a1.0 h a1.1 in
    let t2 = options_take bytes a1.0.1 a0.0.0.0 a0.0.0.1 a2.0 h a2.1 in
    subst (IsFound bytes body_bytes (OfKind 7) at) (ok_is {X = Message × ℕ} (messages.Accept a0.0.0.0 a0.0.0.1 a1.0.0 a2.0.0, a2.0.1) x a2.2) (record {
      reads = Reads-then bytes at (instance_spelled a0.0.0 ++ ballot_bytes a1.0.0) a1.0.1 (options_bytes a2.0.0) a2.0.1 (Reads-then bytes at (instance_spelled a0.0.0) a0.0.1 (ballot_bytes a1.0.0) a1.0.1 (t0.reads) t1.reads) t2.reads;
      fits = (record { instance = t0.fits; classic = t1.fits; options_itself = t2.fits }, refl);
    })

pub refused_again : (bytes : List ℕ) (at : ℕ) (key : List ℕ) (version : ℕ) (ballot promised : Ballot) → IsWellFormedMessage (messages.Refused key version ballot promised) → IsAt bytes at (key_bytes key ++ u64_bytes version ++ ballot_bytes ballot ++ ballot_bytes promised)
    → refused_message_at bytes at ≡ Ok (messages.Refused key version ballot promised, at + length (key_bytes key ++ u64_bytes version ++ ballot_bytes ballot ++ ballot_bytes promised))
refused_again bytes at key version ballot promised w h =
    let p = apart-3 bytes at (instance_spelled ((key, version))) (ballot_bytes ballot) (ballot_bytes promised) h in
    let e0 = instance_again bytes at key version w.instance p.0 in
    let e1 = classic_again bytes (at + length (instance_spelled ((key, version)))) ballot w.classic p.1 in
    let e2 = ballot_again bytes (at + length (instance_spelled ((key, version))) + length (ballot_bytes ballot)) promised w.promised_itself p.2 in
    rw (e0, e1, e2) (ap (λ n. done (messages.Refused key version ballot promised, n)) (end-3 at (instance_spelled ((key, version))) (ballot_bytes ballot) (ballot_bytes promised)))

pub refused_takes : (bytes : List ℕ) (at : ℕ) (x : Message × ℕ) → IsBytes bytes → refused_message_at bytes at ≡ Ok x
    → IsFound bytes body_bytes (OfKind 8) at x
refused_takes bytes at x h e =
    let a0 = bind_ok (instance_at bytes at) (λ place. classic_at bytes place.1 >>= λ ballot. ballot_at bytes ballot.1 >>= λ promised. done (messages.Refused place.0.0 place.0.1 ballot.0 promised.0, promised.1)) x e in
    let a1 = bind_ok (classic_at bytes a0.0.1) (λ ballot. ballot_at bytes ballot.1 >>= λ promised. done (messages.Refused a0.0.0.0 a0.0.0.1 ballot.0 promised.0, promised.1)) x a0.2 in
    let a2 = bind_ok (ballot_at bytes a1.0.1) (λ promised. done (messages.Refused a0.0.0.0 a0.0.0.1 a1.0.0 promised.0, promised.1)) x a1.2 in
    let t0 = instance_takes bytes at a0.0 h a0.1 in
    let t1 = classic_takes bytes a0.0.1 a1.0 h a1.1 in
    let t2 = ballot_takes bytes a1.0.1 a2.0 h a2.1 in
    subst (IsFound bytes body_bytes (OfKind 8) at) (ok_is {X = Message × ℕ} (messages.Refused a0.0.0.0 a0.0.0.1 a1.0.0 a2.0.0, a2.0.1) x a2.2) (record {
      reads = Reads-then bytes at (instance_spelled a0.0.0 ++ ballot_bytes a1.0.0) a1.0.1 (ballot_bytes a2.0.0) a2.0.1 (Reads-then bytes at (instance_spelled a0.0.0) a0.0.1 (ballot_bytes a1.0.0) a1.0.1 (t0.reads) t1.reads) t2.reads;
      fits = (record { instance = t0.fits; classic = t1.fits; promised_itself = t2.fits }, refl);
    })

pub ended_again : (bytes : List ℕ) (at : ℕ) (tx : TxId) (outcome : Outcome) → IsWellFormedMessage (messages.Outcome tx outcome) → IsAt bytes at (heard_bytes tx outcome)
    → ended_at bytes at ≡ Ok (messages.Outcome tx outcome, at + length (heard_bytes tx outcome))
ended_again bytes at tx outcome w h =
    let e0 = heard_again bytes at tx outcome w h in
    rw (e0) refl

pub ended_takes : (bytes : List ℕ) (at : ℕ) (x : Message × ℕ) → IsBytes bytes → ended_at bytes at ≡ Ok x
    → IsFound bytes body_bytes (OfKind 9) at x
ended_takes bytes at x h e =
    let a0 = bind_ok (heard_at bytes at) (λ heard. done (messages.Outcome heard.0.0 heard.0.1, heard.1)) x e in
    let t0 = heard_takes bytes at a0.0 h a0.1 in
    subst (IsFound bytes body_bytes (OfKind 9) at) (ok_is {X = Message × ℕ} (messages.Outcome a0.0.0.0 a0.0.0.1, a0.0.1) x a0.2) (record {
      reads = t0.reads;
      fits = (t0.fits, refl);
    })

pub ask_again : (bytes : List ℕ) (at : ℕ) (tx : TxId) (key : List ℕ) (version : ℕ) → IsWellFormedMessage (messages.Ask tx key version) → IsAt bytes at (tx_bytes tx ++ key_bytes key ++ u64_bytes version)
    → ask_at bytes at ≡ Ok (messages.Ask tx key version, at + length (tx_bytes tx ++ key_bytes key ++ u64_bytes version))
ask_again bytes at tx key version w h =
    let p = apart-2 bytes at (tx_bytes tx) (instance_spelled ((key, version))) h in
    let e0 = tx_again bytes at tx w.0 p.0 in
    let e1 = instance_again bytes (at + length (tx_bytes tx)) key version w.1 p.1 in
    rw (e0, e1) (ap (λ n. done (messages.Ask tx key version, n)) (end-2 at (tx_bytes tx) (instance_spelled ((key, version)))))

pub ask_takes : (bytes : List ℕ) (at : ℕ) (x : Message × ℕ) → IsBytes bytes → ask_at bytes at ≡ Ok x
    → IsFound bytes body_bytes (OfKind 10) at x
ask_takes bytes at x h e =
    let a0 = bind_ok (tx_at bytes at) (λ tx. instance_at bytes tx.1 >>= λ place. done (messages.Ask tx.0 place.0.0 place.0.1, place.1)) x e in
    let a1 = bind_ok (instance_at bytes a0.0.1) (λ place. done (messages.Ask a0.0.0 place.0.0 place.0.1, place.1)) x a0.2 in
    let t0 = tx_takes bytes at a0.0 h a0.1 in
    let t1 = instance_takes bytes a0.0.1 a1.0 h a1.1 in
    subst (IsFound bytes body_bytes (OfKind 10) at) (ok_is {X = Message × ℕ} (messages.Ask a0.0.0 a1.0.0.0 a1.0.0.1, a1.0.1) x a1.2) (record {
      reads = Reads-then bytes at (tx_bytes a0.0.0) a0.0.1 (instance_spelled a1.0.0) a1.0.1 (t0.reads) t1.reads;
      fits = ((t0.fits, t1.fits), refl);
    })

pub sync_ask_again : (bytes : List ℕ) (at : ℕ) (key : List ℕ) → IsWellFormedMessage (messages.SyncAsk key) → IsAt bytes at (key_bytes key)
    → sync_ask_at bytes at ≡ Ok (messages.SyncAsk key, at + length (key_bytes key))
sync_ask_again bytes at key w h =
    let e0 = key_again bytes at key w h in
    rw (e0) refl

pub sync_ask_takes : (bytes : List ℕ) (at : ℕ) (x : Message × ℕ) → IsBytes bytes → sync_ask_at bytes at ≡ Ok x
    → IsFound bytes body_bytes (OfKind 11) at x
sync_ask_takes bytes at x h e =
    let a0 = bind_ok (key_at bytes at) (λ key. done (messages.SyncAsk key.0, key.1)) x e in
    let t0 = key_takes bytes at a0.0 h a0.1 in
    subst (IsFound bytes body_bytes (OfKind 11) at) (ok_is {X = Message × ℕ} (messages.SyncAsk a0.0.0, a0.0.1) x a0.2) (record {
      reads = t0.reads;
      fits = (t0.fits, refl);
    })

pub sync_give_again : (bytes : List ℕ) (at : ℕ) (key : List ℕ) (version : ℕ) (item : Item) (adds : List Delta) → IsWellFormedMessage (messages.SyncGive key version item adds) → IsAt bytes at (given_bytes key version item adds)
    → sync_give_at bytes at ≡ Ok (messages.SyncGive key version item adds, at + length (given_bytes key version item adds))
sync_give_again bytes at key version item adds w h =
    let e0 = given_again bytes at key version item adds w h in
    rw (e0) refl

pub sync_give_takes : (bytes : List ℕ) (at : ℕ) (x : Message × ℕ) → IsBytes bytes → sync_give_at bytes at ≡ Ok x
    → IsFound bytes body_bytes (OfKind 12) at x
sync_give_takes bytes at x h e =
    let a0 = bind_ok (sync_given_at bytes at) (λ given. done (messages.SyncGive given.0.0 given.0.1 given.0.2 given.0.3, given.1)) x e in
    let t0 = given_takes bytes at a0.0 h a0.1 in
    subst (IsFound bytes body_bytes (OfKind 12) at) (ok_is {X = Message × ℕ} (messages.SyncGive a0.0.0.0 a0.0.0.1 a0.0.0.2 a0.0.0.3, a0.0.1) x a0.2) (record {
      reads = t0.reads;
      fits = (t0.fits, refl);
    })

pub client_read_again : (bytes : List ℕ) (at : ℕ) (serial : ℕ) (key : List ℕ) → IsWellFormedMessage (messages.ClientRead serial key) → IsAt bytes at (u32_bytes serial ++ key_bytes key)
    → client_read_at bytes at ≡ Ok (messages.ClientRead serial key, at + length (u32_bytes serial ++ key_bytes key))
client_read_again bytes at serial key w h =
    let p = apart-2 bytes at (u32_bytes serial) (key_bytes key) h in
    let e0 = u32_again bytes at serial w.0 p.0 in
    let e1 = key_again bytes (at + length (u32_bytes serial)) key w.1 p.1 in
    rw (e0, e1) (ap (λ n. done (messages.ClientRead serial key, n)) (end-2 at (u32_bytes serial) (key_bytes key)))

pub client_read_takes : (bytes : List ℕ) (at : ℕ) (x : Message × ℕ) → IsBytes bytes → client_read_at bytes at ≡ Ok x
    → IsFound bytes body_bytes (OfKind 13) at x
client_read_takes bytes at x h e =
    let a0 = bind_ok (u32_at bytes at) (λ serial. key_at bytes serial.1 >>= λ key. done (messages.ClientRead serial.0 key.0, key.1)) x e in
    let a1 = bind_ok (key_at bytes a0.0.1) (λ key. done (messages.ClientRead a0.0.0 key.0, key.1)) x a0.2 in
    let t0 = u32_takes bytes at a0.0 h a0.1 in
    let t1 = key_takes bytes a0.0.1 a1.0 h a1.1 in
    subst (IsFound bytes body_bytes (OfKind 13) at) (ok_is {X = Message × ℕ} (messages.ClientRead a0.0.0 a1.0.0, a1.0.1) x a1.2) (record {
      reads = Reads-then bytes at (u32_bytes a0.0.0) a0.0.1 (key_bytes a1.0.0) a1.0.1 (t0.0) t1.reads;
      fits = ((t0.1, t1.fits), refl);
    })

pub client_begin_again : (bytes : List ℕ) (at : ℕ) (serial : ℕ) (parts : List Part) → IsWellFormedMessage (messages.ClientBegin serial parts) → IsAt bytes at (u32_bytes serial ++ counted_bytes part_bytes parts)
    → client_begin_at bytes at ≡ Ok (messages.ClientBegin serial parts, at + length (u32_bytes serial ++ counted_bytes part_bytes parts))
client_begin_again bytes at serial parts w h =
    let p = apart-2 bytes at (u32_bytes serial) (counted_bytes part_bytes parts) h in
    let e0 = u32_again bytes at serial w.serial_fits p.0 in
    let e1 = list_again bytes key_lt (part_behind (at + length (u32_bytes serial)) bytes) (λ part. part.key) part_bytes IsWellFormedPart (part_again (at + length (u32_bytes serial)) bytes) (at + length (u32_bytes serial)) 1 8 (omega arith) (at + length (u32_bytes serial)) parts w.count w.each (follows key_lt (λ part. part.key) parts (parts_ascending parts w.ascending)) p.1 in
    rw (e0, e1) (ap (λ n. done (messages.ClientBegin serial parts, n)) (end-2 at (u32_bytes serial) (counted_bytes part_bytes parts)))

pub client_begin_takes : (bytes : List ℕ) (at : ℕ) (x : Message × ℕ) → IsBytes bytes → client_begin_at bytes at ≡ Ok x
    → IsFound bytes body_bytes (OfKind 14) at x
client_begin_takes bytes at x h e =
    let a0 = bind_ok (u32_at bytes at) (λ serial. list_at serial.1 1 8 (part_behind serial.1 bytes) (λ part. part.key) bytes serial.1 >>= λ parts. done (messages.ClientBegin serial.0 parts.0, parts.1)) x e in
    let a1 = bind_ok (list_at a0.0.1 1 8 (part_behind a0.0.1 bytes) (λ part. part.key) bytes a0.0.1) (λ parts. done (messages.ClientBegin a0.0.0 parts.0, parts.1)) x a0.2 in
    let t0 = u32_takes bytes at a0.0 h a0.1 in
    let t1 = list_takes bytes key_lt (part_behind a0.0.1 bytes) (λ part. part.key) part_bytes IsWellFormedPart h (part_takes a0.0.1 bytes h) a0.0.1 1 8 a0.0.1 a1.0 a1.1 in
    subst (IsFound bytes body_bytes (OfKind 14) at) (ok_is {X = Message × ℕ} (messages.ClientBegin a0.0.0 a1.0.0, a1.0.1) x a1.2) (record {
      reads = Reads-then bytes at (u32_bytes a0.0.0) a0.0.1 (counted_bytes part_bytes a1.0.0) a1.0.1 (t0.0) t1.reads;
      fits = (record { serial_fits = t0.1; count = t1.count; each = t1.fits; ascending = ascending_parts a1.0.0 (ascends key_lt (λ part. part.key) None a1.0.0 t1.follows) }, refl);
    })

pub client_answer_again : (bytes : List ℕ) (at : ℕ) (serial : ℕ) (answer : ClientAnswer) → IsWellFormedMessage (messages.ClientAnswer serial answer) → IsAt bytes at (u32_bytes serial ++ answer_bytes answer)
    → client_answer_at bytes at ≡ Ok (messages.ClientAnswer serial answer, at + length (u32_bytes serial ++ answer_bytes answer))
client_answer_again bytes at serial answer w h =
    let p = apart-2 bytes at (u32_bytes serial) (answer_bytes answer) h in
    let e0 = u32_again bytes at serial w.0 p.0 in
    let e1 = answer_again bytes (at + length (u32_bytes serial)) answer w.1 p.1 in
    rw (e0, e1) (ap (λ n. done (messages.ClientAnswer serial answer, n)) (end-2 at (u32_bytes serial) (answer_bytes answer)))

pub client_answer_takes : (bytes : List ℕ) (at : ℕ) (x : Message × ℕ) → IsBytes bytes → client_answer_at bytes at ≡ Ok x
    → IsFound bytes body_bytes (OfKind 15) at x
client_answer_takes bytes at x h e =
    let a0 = bind_ok (u32_at bytes at) (λ serial. answer_at bytes serial.1 >>= λ answer. done (messages.ClientAnswer serial.0 answer.0, answer.1)) x e in
    let a1 = bind_ok (answer_at bytes a0.0.1) (λ answer. done (messages.ClientAnswer a0.0.0 answer.0, answer.1)) x a0.2 in
    let t0 = u32_takes bytes at a0.0 h a0.1 in
    let t1 = answer_takes bytes a0.0.1 a1.0 h a1.1 in
    subst (IsFound bytes body_bytes (OfKind 15) at) (ok_is {X = Message × ℕ} (messages.ClientAnswer a0.0.0 a1.0.0, a1.0.1) x a1.2) (record {
      reads = Reads-then bytes at (u32_bytes a0.0.0) a0.0.1 (answer_bytes a1.0.0) a1.0.1 (t0.0) t1.reads;
      fits = ((t0.1, t1.fits), refl);
    })

pub mark_again : (bytes : List ℕ) (at centre epoch seq : ℕ) → IsWellFormedMessage (messages.Mark centre epoch seq) → IsAt bytes at (u8_bytes centre ++ u32_bytes epoch ++ u32_bytes seq)
    → mark_at bytes at ≡ Ok (messages.Mark centre epoch seq, at + length (u8_bytes centre ++ u32_bytes epoch ++ u32_bytes seq))
mark_again bytes at centre epoch seq w h =
    let e0 = numbers_again bytes at centre epoch seq w h in
    rw (e0) refl

pub mark_takes : (bytes : List ℕ) (at : ℕ) (x : Message × ℕ) → IsBytes bytes → mark_at bytes at ≡ Ok x
    → IsFound bytes body_bytes (OfKind 16) at x
mark_takes bytes at x h e =
    let a0 = bind_ok (numbers_at bytes at) (λ numbers. done (messages.Mark numbers.0.0 numbers.0.1 numbers.0.2, numbers.1)) x e in
    let t0 = numbers_take bytes at a0.0 h a0.1 in
    subst (IsFound bytes body_bytes (OfKind 16) at) (ok_is {X = Message × ℕ} (messages.Mark a0.0.0.0 a0.0.0.1 a0.0.0.2, a0.0.1) x a0.2) (record {
      reads = t0.reads;
      fits = (t0.fits, refl);
    })

pub finished_again : (bytes : List ℕ) (at : ℕ) (tx : TxId) → IsWellFormedMessage (messages.Finished tx) → IsAt bytes at (tx_bytes tx)
    → finished_at bytes at ≡ Ok (messages.Finished tx, at + length (tx_bytes tx))
finished_again bytes at tx w h =
    let e0 = tx_again bytes at tx w h in
    rw (e0) refl

pub finished_takes : (bytes : List ℕ) (at : ℕ) (x : Message × ℕ) → IsBytes bytes → finished_at bytes at ≡ Ok x
    → IsFound bytes body_bytes (OfKind 17) at x
finished_takes bytes at x h e =
    let a0 = bind_ok (tx_at bytes at) (λ tx. done (messages.Finished tx.0, tx.1)) x e in
    let t0 = tx_takes bytes at a0.0 h a0.1 in
    subst (IsFound bytes body_bytes (OfKind 17) at) (ok_is {X = Message × ℕ} (messages.Finished a0.0.0, a0.0.1) x a0.2) (record {
      reads = t0.reads;
      fits = (t0.fits, refl);
    })
