-- Whole facts and whole messages: what is read is what is spelled.
use Rattle.std.proofs.Common.{◌≡◌, ℕ, zero, suc, ◌+◌, ◌^◌, ◌<◌, Bool, true, false, cond, List, [], ◌∷◌, ◌++◌, length, drop, Ok, Err, None, refl, sym, ap, subst, ◌∙◌, arith, inl, inr, append-nil, length-append}
use Rattle.std.specs.Prelude.{◌==◌, ◌||◌}
use Rattle.std.specs.Int.{IsInRange, is_in_range}
use Rattle.std.specs.List.{AllByRecursion}
use Rattle.std.proofs.lemmas.Bool.{eqb-true, or_cases}
use Rattle.std.proofs.lemmas.List.{nil_from_length, drop_at}
use Rattle.mdcc_def_messages.specs.declared.facts.Fact.{Fact}
use Rattle.mdcc_def_messages.specs.declared.facts.Fact.TheVariants as facts
use Rattle.mdcc_def_messages.specs.declared.messages.Envelope.{Envelope}
use Rattle.mdcc_def_messages.specs.declared.messages.Message.{Message}
use Rattle.mdcc_def_messages.specs.declared.messages.Message.TheVariants as messages
use Rattle.mdcc_def_messages.specs.declared.wire.WireFault.{WireFault}
use Rattle.mdcc_def_messages.specs.declared.wire.WireFault.TheVariants.{Trailing, Kind, Range}
use Rattle.std.proofs.lemmas.Bool.Decides.{Decides-eqb}
use Rattle.mdcc_def_messages.specs.Bytes.{u8_bytes, u32_bytes, u64_bytes}
use Rattle.mdcc_def_messages.specs.SpelledParts.{key_bytes, ballot_bytes, options_bytes, heard_bytes, given_bytes}
use Rattle.mdcc_def_messages.specs.Spelling.{kind_of, body_bytes, message_bytes, offered_bytes, fact_bytes, format_of}
use Rattle.mdcc_def_messages.specs.ReadingSteps.{◌>>=◌, u8_at, checked}
use Rattle.mdcc_def_messages.specs.Reading.{known, endpoint, whole, body_at, view_of, fact_at, fact_of, known_in}
use Rattle.mdcc_def_messages.specs.WellFormed.{IsEndpoint, is_message_endpoint, IsWellFormedMessage, IsWellFormedEnvelope, IsWellFormedFact}
use Rattle.mdcc_theorem_encoding.proofs.Places.{IsAt, IsBytes, apart-2, apart-5}
use Rattle.mdcc_theorem_encoding.proofs.Steps.{ok_is, bind_ok, checked_ok, none_found}
use Rattle.mdcc_theorem_encoding.proofs.Numbers.{Reads, IsFound, range_true, range_is, u8_again, u8_takes}
use Rattle.mdcc_theorem_encoding.proofs.Lists.{Reads-then}
use Rattle.mdcc_theorem_encoding.proofs.MessagesRead.{OfKind, propose_again, propose_takes, voted_again, voted_takes, escalate_again, escalate_takes, lead_again, lead_takes, prepare_again, prepare_takes, promise_again, promise_takes, accept_again, accept_takes, refused_again, refused_takes, ended_again, ended_takes, ask_again, ask_takes, sync_ask_again, sync_ask_takes, sync_give_again, sync_give_takes, client_read_again, client_read_takes, client_begin_again, client_begin_takes, client_answer_again, client_answer_takes, mark_again, mark_takes, finished_again, finished_takes}
use Rattle.mdcc_theorem_encoding.proofs.FactsRead.{booted_again, booted_takes, promised_again, promised_takes, vote_again, vote_takes, heard_fact_again, heard_fact_takes, adopted_again, adopted_takes, floor_again, floor_takes}

-- behind all bytes there is nothing
all_dropped : (bytes : List ℕ) → drop (0 + length bytes) bytes ≡ []
all_dropped bytes = ap (λ n. drop n bytes) (omega arith) ∙ none bytes
  where
    none : (text : List ℕ) → drop (length text) text ≡ []
    none [] = refl
    none (b ∷ text) = none text

-- a text stands at the front of what begins with it
pub at_front : (text rest : List ℕ) → IsAt (text ++ rest) 0 text
at_front text rest = record { is = ap (λ ys. text ++ ys) (sym (ap (λ n. drop n (text ++ rest)) (omega arith) ∙ drop_at text rest (length text) refl)) }

alone : (text : List ℕ) → IsAt text 0 text
alone text = record { is = sym (append-nil text) ∙ ap (λ rest. text ++ rest) (sym (all_dropped text)) }

-- what stands at the front of bytes and ends with them is all of them
all_is : (bytes text : List ℕ) (after : ℕ) → Reads bytes 0 text after → after ≡ length bytes → bytes ≡ text
all_is bytes text after r e =
    let len : 0 + length text ≡ 0 + length bytes = omega (arith, r.behind, e) in
    let rest : drop (0 + length text) bytes ≡ [] = ap (λ n. drop n bytes) len ∙ all_dropped bytes in
    r.is_at.is ∙ ap (λ ys. text ++ ys) rest ∙ append-nil text

whole_again : {X : Type 0} (bytes : List ℕ) (x : X) (after : ℕ) → after ≡ length bytes → whole bytes (x, after) ≡ Ok x
whole_again bytes x after e = rw (e, same (length bytes)) refl
  where
    same : (n : ℕ) → (n == n) ≡ true
    same n = (Decides-eqb n n).1 refl

whole_is : {X : Type 0} (bytes : List ℕ) (x : X × ℕ) (y : X) → whole bytes x ≡ Ok y → (x.0 ≡ y) × (x.1 ≡ length bytes)
whole_is {X = X} bytes x y h =
    let g = turned (x.1 == length bytes) x.0 y (Trailing x.1) h in
    (g.1, eqb-true x.1 (length bytes) g.0)
  where
    turned : (b : Bool) (x y : X) (fault : WireFault) → cond b (Ok x) (Err fault) ≡ Ok y → (b ≡ true) × (x ≡ y)
    turned true x y fault h = (refl, ok_is x y h)
    turned false x y fault h = absurd cc

known_is : (lowest highest n : ℕ) → known lowest highest n ≡ None → IsInRange lowest highest n
known_is lowest highest n h = range_is lowest highest n (none_found (is_in_range lowest highest n) Kind h)

-- ---- facts

-- a fact that stands at the front of bytes is read, if it is all of them
fact_front : (bytes : List ℕ) (fact : Fact) → IsWellFormedFact fact → IsAt bytes 0 (fact_bytes fact) → fact_of bytes ≡ whole bytes (fact, length (fact_bytes fact))
fact_front bytes (facts.Booted epoch) w h =
    let p = apart-2 bytes 0 (u8_bytes 1) (u32_bytes epoch) h in
    let kind = u8_again bytes 0 1 (omega arith) p.0 in
    let fact = booted_again bytes 1 epoch w p.1 in
    rw (kind, fact) (ap (λ n. whole bytes (facts.Booted epoch, n)) (omega arith))
fact_front bytes (facts.Promised key low high ballot) w h =
    let p = apart-2 bytes 0 (u8_bytes 2) (key_bytes key ++ u64_bytes low ++ u64_bytes high ++ ballot_bytes ballot) h in
    let kind = u8_again bytes 0 2 (omega arith) p.0 in
    let fact = promised_again bytes 1 key low high ballot w p.1 in
    rw (kind, fact) (ap (λ n. whole bytes (facts.Promised key low high ballot, n)) (omega arith))
fact_front bytes (facts.Voted key version ballot options offered) w h =
    let p = apart-2 bytes 0 (u8_bytes 3) (key_bytes key ++ u64_bytes version ++ ballot_bytes ballot ++ options_bytes options ++ offered_bytes offered) h in
    let kind = u8_again bytes 0 3 (omega arith) p.0 in
    let fact = vote_again bytes 1 key version ballot options offered w p.1 in
    rw (kind, fact) (ap (λ n. whole bytes (facts.Voted key version ballot options offered, n)) (omega arith))
fact_front bytes (facts.Heard tx outcome) w h =
    let p = apart-2 bytes 0 (u8_bytes 4) (heard_bytes tx outcome) h in
    let kind = u8_again bytes 0 4 (omega arith) p.0 in
    let fact = heard_fact_again bytes 1 tx outcome w p.1 in
    rw (kind, fact) (ap (λ n. whole bytes (facts.Heard tx outcome, n)) (omega arith))
fact_front bytes (facts.Adopted key version item adds) w h =
    let p = apart-2 bytes 0 (u8_bytes 5) (given_bytes key version item adds) h in
    let kind = u8_again bytes 0 5 (omega arith) p.0 in
    let fact = adopted_again bytes 1 key version item adds w p.1 in
    rw (kind, fact) (ap (λ n. whole bytes (facts.Adopted key version item adds, n)) (omega arith))
fact_front bytes (facts.Floor centre epoch seq) w h =
    let p = apart-2 bytes 0 (u8_bytes 6) (u8_bytes centre ++ u32_bytes epoch ++ u32_bytes seq) h in
    let kind = u8_again bytes 0 6 (omega arith) p.0 in
    let fact = floor_again bytes 1 centre epoch seq w p.1 in
    rw (kind, fact) (ap (λ n. whole bytes (facts.Floor centre epoch seq, n)) (omega arith))

-- what is written of a fact is read
pub fact_again : (fact : Fact) → IsWellFormedFact fact → fact_of (fact_bytes fact) ≡ Ok fact
fact_again fact w = fact_front (fact_bytes fact) fact w (alone (fact_bytes fact)) ∙ whole_again (fact_bytes fact) fact (length (fact_bytes fact)) refl

-- no spelling of a fact begins another
pub facts_apart : (a b : Fact) (rest : List ℕ) → IsWellFormedFact a → IsWellFormedFact b → fact_bytes a ++ rest ≡ fact_bytes b → (a ≡ b) × (rest ≡ [])
facts_apart a b rest wa wb e =
    let front : IsAt (fact_bytes b) 0 (fact_bytes a) = subst (λ bytes. IsAt bytes 0 (fact_bytes a)) e (at_front (fact_bytes a) rest) in
    let read = sym (fact_front (fact_bytes b) a wa front) ∙ fact_again b wb in
    let w = whole_is (fact_bytes b) (a, length (fact_bytes a)) b read in
    let len : length (fact_bytes a ++ rest) ≡ length (fact_bytes b) = ap length e in
    (w.0, nil_from_length rest (omega (arith, w.1, len, length-append (fact_bytes a) rest)))

-- a number from 1 to 6 is one of them
by_6 : (P : ℕ → Type 0) (n : ℕ) → IsInRange 1 6 n → P 1 → P 2 → P 3 → P 4 → P 5 → P 6 → P n
by_6 P zero range p1 p2 p3 p4 p5 p6 = absurd (omega (arith, range.0))
by_6 P (suc zero) range p1 p2 p3 p4 p5 p6 = p1
by_6 P (suc (suc zero)) range p1 p2 p3 p4 p5 p6 = p2
by_6 P (suc (suc (suc zero))) range p1 p2 p3 p4 p5 p6 = p3
by_6 P (suc (suc (suc (suc zero)))) range p1 p2 p3 p4 p5 p6 = p4
by_6 P (suc (suc (suc (suc (suc zero))))) range p1 p2 p3 p4 p5 p6 = p5
by_6 P (suc (suc (suc (suc (suc (suc zero)))))) range p1 p2 p3 p4 p5 p6 = p6
by_6 P (suc (suc (suc (suc (suc (suc (suc n))))))) range p1 p2 p3 p4 p5 p6 = absurd (omega (arith, range.1))

-- what is read of bytes is a well-formed fact, and is spelled so
pub fact_takes : (bytes : List ℕ) (fact : Fact) → IsBytes bytes → fact_of bytes ≡ Ok fact → IsWellFormedFact fact × (bytes ≡ fact_bytes fact)
fact_takes bytes fact h e =
    let a = bind_ok (checked (known 1 6) (u8_at bytes 0)) (λ kind. fact_at kind.0 bytes kind.1 >>= λ fact. whole bytes fact) fact e in
    let a' = checked_ok (known 1 6) (u8_at bytes 0) a.0 a.1 in
    let kind = u8_takes bytes 0 a.0 h a'.1 in
    let b = bind_ok (fact_at a.0.0 bytes a.0.1) (λ fact. whole bytes fact) fact a.2 in
    let found : IsFound bytes fact_bytes IsWellFormedFact 0 b.0 =
    by_6 (λ k. (y : Fact × ℕ) → Reads bytes 0 (u8_bytes k) a.0.1 → fact_at k bytes a.0.1 ≡ Ok y → IsFound bytes fact_bytes IsWellFormedFact 0 y) a.0.0 (known_is 1 6 a.0.0 a'.0)
    (booted_takes bytes 0 a.0.1 h)
    (promised_takes bytes 0 a.0.1 h)
    (vote_takes bytes 0 a.0.1 h)
    (heard_fact_takes bytes 0 a.0.1 h)
    (adopted_takes bytes 0 a.0.1 h)
    (floor_takes bytes 0 a.0.1 h)
    b.0 kind.0 b.1 in
    let w = whole_is bytes b.0 fact b.2 in
    (subst IsWellFormedFact w.0 found.fits, all_is bytes (fact_bytes b.0.0) b.0.1 found.reads w.1 ∙ ap fact_bytes w.0)

-- ---- messages

body_again : (bytes : List ℕ) (at : ℕ) (message : Message) → IsWellFormedMessage message → IsAt bytes at (body_bytes message)
    → body_at (kind_of message) bytes at ≡ Ok (message, at + length (body_bytes message))
body_again bytes at (messages.Propose choice) w h = propose_again bytes at choice w h
body_again bytes at (messages.Voted key version ballot tx mark) w h = voted_again bytes at key version ballot tx mark w h
body_again bytes at (messages.Escalate key version tx cause) w h = escalate_again bytes at key version tx cause w h
body_again bytes at (messages.Lead choice) w h = lead_again bytes at choice w h
body_again bytes at (messages.Prepare key version through ballot) w h = prepare_again bytes at key version through ballot w h
body_again bytes at (messages.Promise key version through ballot reported votes) w h = promise_again bytes at key version through ballot reported votes w h
body_again bytes at (messages.Accept key version ballot options) w h = accept_again bytes at key version ballot options w h
body_again bytes at (messages.Refused key version ballot promised) w h = refused_again bytes at key version ballot promised w h
body_again bytes at (messages.Outcome tx outcome) w h = ended_again bytes at tx outcome w h
body_again bytes at (messages.Ask tx key version) w h = ask_again bytes at tx key version w h
body_again bytes at (messages.SyncAsk key) w h = sync_ask_again bytes at key w h
body_again bytes at (messages.SyncGive key version item adds) w h = sync_give_again bytes at key version item adds w h
body_again bytes at (messages.ClientRead serial key) w h = client_read_again bytes at serial key w h
body_again bytes at (messages.ClientBegin serial parts) w h = client_begin_again bytes at serial parts w h
body_again bytes at (messages.ClientAnswer serial answer) w h = client_answer_again bytes at serial answer w h
body_again bytes at (messages.Mark centre epoch seq) w h = mark_again bytes at centre epoch seq w h
body_again bytes at (messages.Finished tx) w h = finished_again bytes at tx w h

kind_small : (message : Message) → kind_of message < 2 ^ 8
kind_small (messages.Propose choice) = omega arith
kind_small (messages.Voted key version ballot tx mark) = omega arith
kind_small (messages.Escalate key version tx cause) = omega arith
kind_small (messages.Lead choice) = omega arith
kind_small (messages.Prepare key version through ballot) = omega arith
kind_small (messages.Promise key version through ballot reported votes) = omega arith
kind_small (messages.Accept key version ballot options) = omega arith
kind_small (messages.Refused key version ballot promised) = omega arith
kind_small (messages.Outcome tx outcome) = omega arith
kind_small (messages.Ask tx key version) = omega arith
kind_small (messages.SyncAsk key) = omega arith
kind_small (messages.SyncGive key version item adds) = omega arith
kind_small (messages.ClientRead serial key) = omega arith
kind_small (messages.ClientBegin serial parts) = omega arith
kind_small (messages.ClientAnswer serial answer) = omega arith
kind_small (messages.Mark centre epoch seq) = omega arith
kind_small (messages.Finished tx) = omega arith

format_small : (message : Message) → format_of message < 2 ^ 8
format_small (messages.Propose choice) = omega arith
format_small (messages.Voted key version ballot tx mark) = omega arith
format_small (messages.Escalate key version tx cause) = omega arith
format_small (messages.Lead choice) = omega arith
format_small (messages.Prepare key version through ballot) = omega arith
format_small (messages.Promise key version through ballot reported votes) = omega arith
format_small (messages.Accept key version ballot options) = omega arith
format_small (messages.Refused key version ballot promised) = omega arith
format_small (messages.Outcome tx outcome) = omega arith
format_small (messages.Ask tx key version) = omega arith
format_small (messages.SyncAsk key) = omega arith
format_small (messages.SyncGive key version item adds) = omega arith
format_small (messages.ClientRead serial key) = omega arith
format_small (messages.ClientBegin serial parts) = omega arith
format_small (messages.ClientAnswer serial answer) = omega arith
format_small (messages.Mark centre epoch seq) = omega arith
format_small (messages.Finished tx) = omega arith

-- the format of a message is known, and has its kind
format_known : (message : Message) → known 1 2 (format_of message) ≡ None
format_known (messages.Propose choice) = refl
format_known (messages.Voted key version ballot tx mark) = refl
format_known (messages.Escalate key version tx cause) = refl
format_known (messages.Lead choice) = refl
format_known (messages.Prepare key version through ballot) = refl
format_known (messages.Promise key version through ballot reported votes) = refl
format_known (messages.Accept key version ballot options) = refl
format_known (messages.Refused key version ballot promised) = refl
format_known (messages.Outcome tx outcome) = refl
format_known (messages.Ask tx key version) = refl
format_known (messages.SyncAsk key) = refl
format_known (messages.SyncGive key version item adds) = refl
format_known (messages.ClientRead serial key) = refl
format_known (messages.ClientBegin serial parts) = refl
format_known (messages.ClientAnswer serial answer) = refl
format_known (messages.Mark centre epoch seq) = refl
format_known (messages.Finished tx) = refl

kind_known : (message : Message) → known_in (format_of message) (kind_of message) ≡ None
kind_known (messages.Propose choice) = refl
kind_known (messages.Voted key version ballot tx mark) = refl
kind_known (messages.Escalate key version tx cause) = refl
kind_known (messages.Lead choice) = refl
kind_known (messages.Prepare key version through ballot) = refl
kind_known (messages.Promise key version through ballot reported votes) = refl
kind_known (messages.Accept key version ballot options) = refl
kind_known (messages.Refused key version ballot promised) = refl
kind_known (messages.Outcome tx outcome) = refl
kind_known (messages.Ask tx key version) = refl
kind_known (messages.SyncAsk key) = refl
kind_known (messages.SyncGive key version item adds) = refl
kind_known (messages.ClientRead serial key) = refl
kind_known (messages.ClientBegin serial parts) = refl
kind_known (messages.ClientAnswer serial answer) = refl
kind_known (messages.Mark centre epoch seq) = refl
kind_known (messages.Finished tx) = refl

-- a format that is known and has the kind is the message's
format_one : (message : Message) → known 1 15 (kind_of message) ≡ None → 1 ≡ format_of message
format_one (messages.Propose choice) h = refl
format_one (messages.Voted key version ballot tx mark) h = refl
format_one (messages.Escalate key version tx cause) h = refl
format_one (messages.Lead choice) h = refl
format_one (messages.Prepare key version through ballot) h = refl
format_one (messages.Promise key version through ballot reported votes) h = refl
format_one (messages.Accept key version ballot options) h = refl
format_one (messages.Refused key version ballot promised) h = refl
format_one (messages.Outcome tx outcome) h = refl
format_one (messages.Ask tx key version) h = refl
format_one (messages.SyncAsk key) h = refl
format_one (messages.SyncGive key version item adds) h = refl
format_one (messages.ClientRead serial key) h = refl
format_one (messages.ClientBegin serial parts) h = refl
format_one (messages.ClientAnswer serial answer) h = refl
format_one (messages.Mark centre epoch seq) h = absurd (cc)
format_one (messages.Finished tx) h = absurd (cc)

format_two : (message : Message) → known 16 17 (kind_of message) ≡ None → 2 ≡ format_of message
format_two (messages.Propose choice) h = absurd (cc)
format_two (messages.Voted key version ballot tx mark) h = absurd (cc)
format_two (messages.Escalate key version tx cause) h = absurd (cc)
format_two (messages.Lead choice) h = absurd (cc)
format_two (messages.Prepare key version through ballot) h = absurd (cc)
format_two (messages.Promise key version through ballot reported votes) h = absurd (cc)
format_two (messages.Accept key version ballot options) h = absurd (cc)
format_two (messages.Refused key version ballot promised) h = absurd (cc)
format_two (messages.Outcome tx outcome) h = absurd (cc)
format_two (messages.Ask tx key version) h = absurd (cc)
format_two (messages.SyncAsk key) h = absurd (cc)
format_two (messages.SyncGive key version item adds) h = absurd (cc)
format_two (messages.ClientRead serial key) h = absurd (cc)
format_two (messages.ClientBegin serial parts) h = absurd (cc)
format_two (messages.ClientAnswer serial answer) h = absurd (cc)
format_two (messages.Mark centre epoch seq) h = refl
format_two (messages.Finished tx) h = refl

format_is : (format : ℕ) (message : Message) → IsInRange 1 2 format → known_in format (kind_of message) ≡ None → format ≡ format_of message
format_is zero message range h = absurd (omega (arith, range.0))
format_is (suc zero) message range h = format_one message h
format_is (suc (suc zero)) message range h = format_two message h
format_is (suc (suc (suc n))) message range h = absurd (omega (arith, range.1))

kind_in_range : (format kind : ℕ) → IsInRange 1 2 format → known_in format kind ≡ None → IsInRange 1 17 kind
kind_in_range zero kind range h = absurd (omega (arith, range.0))
kind_in_range (suc zero) kind range h = let r = known_is 1 15 kind h in (r.0, omega (arith, r.1))
kind_in_range (suc (suc zero)) kind range h = let r = known_is 16 17 kind h in (omega (arith, r.0), r.1)
kind_in_range (suc (suc (suc n))) kind range h = absurd (omega (arith, range.1))

-- a number from 1 to 17 is one of them
by_17 : (P : ℕ → Type 0) (n : ℕ) → IsInRange 1 17 n
    → P 1 → P 2 → P 3 → P 4 → P 5 → P 6 → P 7 → P 8 → P 9 → P 10 → P 11 → P 12 → P 13 → P 14 → P 15 → P 16 → P 17 → P n
by_17 P zero range p1 p2 p3 p4 p5 p6 p7 p8 p9 p10 p11 p12 p13 p14 p15 p16 p17 = absurd (omega (arith, range.0))
by_17 P (suc zero) range p1 p2 p3 p4 p5 p6 p7 p8 p9 p10 p11 p12 p13 p14 p15 p16 p17 = p1
by_17 P (suc (suc zero)) range p1 p2 p3 p4 p5 p6 p7 p8 p9 p10 p11 p12 p13 p14 p15 p16 p17 = p2
by_17 P (suc (suc (suc zero))) range p1 p2 p3 p4 p5 p6 p7 p8 p9 p10 p11 p12 p13 p14 p15 p16 p17 = p3
by_17 P (suc (suc (suc (suc zero)))) range p1 p2 p3 p4 p5 p6 p7 p8 p9 p10 p11 p12 p13 p14 p15 p16 p17 = p4
by_17 P (suc (suc (suc (suc (suc zero))))) range p1 p2 p3 p4 p5 p6 p7 p8 p9 p10 p11 p12 p13 p14 p15 p16 p17 = p5
by_17 P (suc (suc (suc (suc (suc (suc zero)))))) range p1 p2 p3 p4 p5 p6 p7 p8 p9 p10 p11 p12 p13 p14 p15 p16 p17 = p6
by_17 P (suc (suc (suc (suc (suc (suc (suc zero))))))) range p1 p2 p3 p4 p5 p6 p7 p8 p9 p10 p11 p12 p13 p14 p15 p16 p17 = p7
by_17 P (suc (suc (suc (suc (suc (suc (suc (suc zero)))))))) range p1 p2 p3 p4 p5 p6 p7 p8 p9 p10 p11 p12 p13 p14 p15 p16 p17 = p8
by_17 P (suc (suc (suc (suc (suc (suc (suc (suc (suc zero))))))))) range p1 p2 p3 p4 p5 p6 p7 p8 p9 p10 p11 p12 p13 p14 p15 p16 p17 = p9
by_17 P (suc (suc (suc (suc (suc (suc (suc (suc (suc (suc zero)))))))))) range p1 p2 p3 p4 p5 p6 p7 p8 p9 p10 p11 p12 p13 p14 p15 p16 p17 = p10
by_17 P (suc (suc (suc (suc (suc (suc (suc (suc (suc (suc (suc zero))))))))))) range p1 p2 p3 p4 p5 p6 p7 p8 p9 p10 p11 p12 p13 p14 p15 p16 p17 = p11
by_17 P (suc (suc (suc (suc (suc (suc (suc (suc (suc (suc (suc (suc zero)))))))))))) range p1 p2 p3 p4 p5 p6 p7 p8 p9 p10 p11 p12 p13 p14 p15 p16 p17 = p12
by_17 P (suc (suc (suc (suc (suc (suc (suc (suc (suc (suc (suc (suc (suc zero))))))))))))) range p1 p2 p3 p4 p5 p6 p7 p8 p9 p10 p11 p12 p13 p14 p15 p16 p17 = p13
by_17 P (suc (suc (suc (suc (suc (suc (suc (suc (suc (suc (suc (suc (suc (suc zero)))))))))))))) range p1 p2 p3 p4 p5 p6 p7 p8 p9 p10 p11 p12 p13 p14 p15 p16 p17 = p14
by_17 P (suc (suc (suc (suc (suc (suc (suc (suc (suc (suc (suc (suc (suc (suc (suc zero))))))))))))))) range p1 p2 p3 p4 p5 p6 p7 p8 p9 p10 p11 p12 p13 p14 p15 p16 p17 = p15
by_17 P (suc (suc (suc (suc (suc (suc (suc (suc (suc (suc (suc (suc (suc (suc (suc (suc zero)))))))))))))))) range p1 p2 p3 p4 p5 p6 p7 p8 p9 p10 p11 p12 p13 p14 p15 p16 p17 = p16
by_17 P (suc (suc (suc (suc (suc (suc (suc (suc (suc (suc (suc (suc (suc (suc (suc (suc (suc zero))))))))))))))))) range p1 p2 p3 p4 p5 p6 p7 p8 p9 p10 p11 p12 p13 p14 p15 p16 p17 = p17
by_17 P (suc (suc (suc (suc (suc (suc (suc (suc (suc (suc (suc (suc (suc (suc (suc (suc (suc (suc n)))))))))))))))))) range p1 p2 p3 p4 p5 p6 p7 p8 p9 p10 p11 p12 p13 p14 p15 p16 p17 = absurd (omega (arith, range.1))

abbrev BodyTaken : List ℕ → ℕ → ℕ → Type 0
BodyTaken bytes at kind = (x : Message × ℕ) → IsBytes bytes → body_at kind bytes at ≡ Ok x → IsFound bytes body_bytes (OfKind kind) at x

body_takes : (bytes : List ℕ) (at kind : ℕ) → IsInRange 1 17 kind → BodyTaken bytes at kind
body_takes bytes at kind range =
    by_17 (BodyTaken bytes at) kind range
    (propose_takes bytes at)
    (voted_takes bytes at)
    (escalate_takes bytes at)
    (lead_takes bytes at)
    (prepare_takes bytes at)
    (promise_takes bytes at)
    (accept_takes bytes at)
    (refused_takes bytes at)
    (ended_takes bytes at)
    (ask_takes bytes at)
    (sync_ask_takes bytes at)
    (sync_give_takes bytes at)
    (client_read_takes bytes at)
    (client_begin_takes bytes at)
    (client_answer_takes bytes at)
    (mark_takes bytes at)
    (finished_takes bytes at)

endpoint_again : (place n : ℕ) → IsEndpoint n → endpoint place n ≡ None
endpoint_again place n (inl h) = rw (range_true 1 9 n h) refl
endpoint_again place n (inr h) = rw (range_true 17 25 n h, or_last (is_in_range 1 9 n)) refl
  where
    or_last : (b : Bool) → (b || true) ≡ true
    or_last true = refl
    or_last false = refl

endpoint_is : (place n : ℕ) → endpoint place n ≡ None → IsEndpoint n
endpoint_is place n h =
    elim (or_cases (is_in_range 1 9 n) (is_in_range 17 25 n) (none_found (is_message_endpoint n) (Range place) h)) [
      | inl centre ↦ inl (range_is 1 9 n centre)
      | inr client ↦ inr (range_is 17 25 n client)
    ]

endpoint_small : (n : ℕ) → IsEndpoint n → n < 2 ^ 8
endpoint_small n (inl h) = omega (arith, h.1)
endpoint_small n (inr h) = omega (arith, h.1)

-- a message that stands at the front of bytes is read, if it is all of them
message_front : (bytes : List ℕ) (envelope : Envelope) → IsWellFormedEnvelope envelope → IsAt bytes 0 (message_bytes envelope)
    → view_of bytes ≡ whole bytes (envelope, length (message_bytes envelope))
message_front bytes envelope w h =
    let kind = kind_of envelope.message in
    let format = format_of envelope.message in
    let p = apart-5 bytes 0 (u8_bytes format) (u8_bytes kind) (u8_bytes envelope.from) (u8_bytes envelope.to) (body_bytes envelope.message) h in
    let format_read = u8_again bytes 0 format (format_small envelope.message) p.0 in
    let kind_read = u8_again bytes 1 kind (kind_small envelope.message) p.1 in
    let from_read = u8_again bytes 2 envelope.from (endpoint_small envelope.from w.from) p.2 in
    let to_read = u8_again bytes 3 envelope.to (endpoint_small envelope.to w.to) p.3 in
    let body_read = body_again bytes 4 envelope.message w.message p.4 in
    rw (format_read, format_known envelope.message, kind_read, kind_known envelope.message, from_read, endpoint_again 2 envelope.from w.from, to_read, endpoint_again 3 envelope.to w.to, body_read)
    (ap (λ n. whole bytes (envelope, n)) (omega arith))

-- what is written of a message is read
pub message_again : (envelope : Envelope) → IsWellFormedEnvelope envelope → view_of (message_bytes envelope) ≡ Ok envelope
message_again envelope w =
    let text = message_bytes envelope in
    message_front text envelope w (alone text) ∙ whole_again text envelope (length text) refl

-- no spelling of a message begins another
pub messages_apart : (a b : Envelope) (rest : List ℕ) → IsWellFormedEnvelope a → IsWellFormedEnvelope b → message_bytes a ++ rest ≡ message_bytes b → (a ≡ b) × (rest ≡ [])
messages_apart a b rest wa wb e =
    let front : IsAt (message_bytes b) 0 (message_bytes a) = subst (λ bytes. IsAt bytes 0 (message_bytes a)) e (at_front (message_bytes a) rest) in
    let read = sym (message_front (message_bytes b) a wa front) ∙ message_again b wb in
    let w = whole_is (message_bytes b) (a, length (message_bytes a)) b read in
    let len : length (message_bytes a ++ rest) ≡ length (message_bytes b) = ap length e in
    (w.0, nil_from_length rest (omega (arith, w.1, len, length-append (message_bytes a) rest)))

-- what is read of bytes is a well-formed message, and is spelled so
pub message_takes : (bytes : List ℕ) (envelope : Envelope) → IsBytes bytes → view_of bytes ≡ Ok envelope
    → IsWellFormedEnvelope envelope × (bytes ≡ message_bytes envelope)
message_takes bytes envelope h e =
    let a = bind_ok (checked (known 1 2) (u8_at bytes 0)) (λ format. checked (known_in format.0) (u8_at bytes format.1) >>= λ kind. checked (endpoint kind.1) (u8_at bytes kind.1) >>= λ from. checked (endpoint from.1) (u8_at bytes from.1) >>= λ to. body_at kind.0 bytes to.1 >>= λ message. whole bytes (record { from = from.0; to = to.0; message = message.0 }, message.1)) envelope e in
    let b = bind_ok (checked (known_in a.0.0) (u8_at bytes a.0.1)) (λ kind. checked (endpoint kind.1) (u8_at bytes kind.1) >>= λ from. checked (endpoint from.1) (u8_at bytes from.1) >>= λ to. body_at kind.0 bytes to.1 >>= λ message. whole bytes (record { from = from.0; to = to.0; message = message.0 }, message.1)) envelope a.2 in
    let c = bind_ok (checked (endpoint b.0.1) (u8_at bytes b.0.1)) (λ from. checked (endpoint from.1) (u8_at bytes from.1) >>= λ to. body_at b.0.0 bytes to.1 >>= λ message. whole bytes (record { from = from.0; to = to.0; message = message.0 }, message.1)) envelope b.2 in
    let d = bind_ok (checked (endpoint c.0.1) (u8_at bytes c.0.1)) (λ to. body_at b.0.0 bytes to.1 >>= λ message. whole bytes (record { from = c.0.0; to = to.0; message = message.0 }, message.1)) envelope c.2 in
    let m = bind_ok (body_at b.0.0 bytes d.0.1) (λ message. whole bytes (record { from = c.0.0; to = d.0.0; message = message.0 }, message.1)) envelope d.2 in
    let a' = checked_ok (known 1 2) (u8_at bytes 0) a.0 a.1 in
    let b' = checked_ok (known_in a.0.0) (u8_at bytes a.0.1) b.0 b.1 in
    let c' = checked_ok (endpoint b.0.1) (u8_at bytes b.0.1) c.0 c.1 in
    let d' = checked_ok (endpoint c.0.1) (u8_at bytes c.0.1) d.0 d.1 in
    let format = u8_takes bytes 0 a.0 h a'.1 in
    let kind = u8_takes bytes a.0.1 b.0 h b'.1 in
    let from = u8_takes bytes b.0.1 c.0 h c'.1 in
    let to = u8_takes bytes c.0.1 d.0 h d'.1 in
    let first = known_is 1 2 a.0.0 a'.0 in
    let body = body_takes bytes d.0.1 b.0.0 (kind_in_range a.0.0 b.0.0 first b'.0) m.0 h m.1 in
    let own : a.0.0 ≡ format_of m.0.0 = format_is a.0.0 m.0.0 first (subst (λ k. known_in a.0.0 k ≡ None) (sym body.fits.1) b'.0) in
    let format_spelled : Reads bytes 0 (u8_bytes (format_of m.0.0)) a.0.1 = subst (λ n. Reads bytes 0 (u8_bytes n) a.0.1) own format.0 in
    let kind_is : Reads bytes a.0.1 (u8_bytes (kind_of m.0.0)) b.0.1 = subst (λ n. Reads bytes a.0.1 (u8_bytes n) b.0.1) (sym body.fits.1) kind.0 in
    let made : Envelope = record { from = c.0.0; to = d.0.0; message = m.0.0 } in
    let head : Reads bytes 0 (u8_bytes (format_of m.0.0) ++ u8_bytes (kind_of m.0.0)) b.0.1 = Reads-then bytes 0 (u8_bytes (format_of m.0.0)) a.0.1 (u8_bytes (kind_of m.0.0)) b.0.1 format_spelled kind_is in
    let sent : Reads bytes 0 (u8_bytes (format_of m.0.0) ++ u8_bytes (kind_of m.0.0) ++ u8_bytes c.0.0) c.0.1 = Reads-then bytes 0 (u8_bytes (format_of m.0.0) ++ u8_bytes (kind_of m.0.0)) b.0.1 (u8_bytes c.0.0) c.0.1 head from.0 in
    let addressed : Reads bytes 0 (u8_bytes (format_of m.0.0) ++ u8_bytes (kind_of m.0.0) ++ u8_bytes c.0.0 ++ u8_bytes d.0.0) d.0.1 = Reads-then bytes 0 (u8_bytes (format_of m.0.0) ++ u8_bytes (kind_of m.0.0) ++ u8_bytes c.0.0) c.0.1 (u8_bytes d.0.0) d.0.1 sent to.0 in
    let all : Reads bytes 0 (message_bytes made) m.0.1 = Reads-then bytes 0 (u8_bytes (format_of m.0.0) ++ u8_bytes (kind_of m.0.0) ++ u8_bytes c.0.0 ++ u8_bytes d.0.0) d.0.1 (body_bytes m.0.0) m.0.1 addressed body.reads in
    let w = whole_is bytes (made, m.0.1) envelope m.2 in
    let fits : IsWellFormedEnvelope made = record { from = endpoint_is b.0.1 c.0.0 c'.0; to = endpoint_is c.0.1 d.0.0 d'.0; message = body.fits.0 } in
    (subst IsWellFormedEnvelope w.0 fits, all_is bytes (message_bytes made) m.0.1 all w.1 ∙ ap message_bytes w.0)

-- ---- bytes

-- bytes one by one
pub are_bytes : (bytes : List ℕ) → AllByRecursion (λ b. b < 2 ^ 8) bytes → IsBytes bytes
are_bytes [] h i = omega arith
are_bytes (b ∷ bytes) h zero = h.0
are_bytes (b ∷ bytes) h (suc i) = are_bytes bytes h.1 i
