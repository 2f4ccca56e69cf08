-- What stands where in the bytes of a message.
use Rattle.std.proofs.Common.{◌≡◌, ℕ, ◌+◌, ◌≤◌, ◌==◌, Bool, true, false, cond, List, length, Result, Ok, Err, Option, Some, None, refl, sym, ap, subst, ◌∙◌, arith}
use Rattle.std.specs.Prelude.{nat_lt, nat_le, ◌-◌, IfOk, IsOk}
use Rattle.std.specs.Int.{IsInRange, is_in_range}
use Rattle.std.proofs.lemmas.Bool.{and_parts, leb-true, eqb-true, eqb-false}
use Rattle.mdcc_def_messages.specs.declared.messages.Envelope.{Envelope}
use Rattle.mdcc_def_messages.specs.declared.messages.Message.{Message}
use Rattle.mdcc_def_messages.specs.declared.messages.Message.TheVariants as messages
use Rattle.mdcc_def_messages.specs.declared.wire.WireFault.{WireFault}
use Rattle.mdcc_def_messages.specs.declared.wire.WireFault.TheVariants.{Truncated, Trailing, Kind}
use Rattle.mdcc_def_messages.specs.ReadingSteps.{◌>>=◌, u8_at, u32_at, u64_at, checked, unless_fault, list_at}
use Rattle.mdcc_base.specs.declared.identifiers.Ballot.{Ballot}
use Rattle.mdcc_struct.specs.Options.{Marks}
use Rattle.mdcc_def_messages.specs.ReadingParts.{key_at, tx_at, ballot_at, classic_at, part_behind, choice_at, mark_entry_at, options_at, cause_at}
use Rattle.mdcc_def_messages.specs.ReadingAnswers.{answer_at}
use Rattle.mdcc_def_messages.specs.Reading.{instance_at, at_least, heard_at, sync_given_at, known, known_in, endpoint, propose_at, voted_at, escalate_at, lead_at, prepare_at, promise_at, accept_at, refused_message_at, ended_at, ask_at, sync_ask_at, sync_give_at, client_read_at, client_begin_at, client_answer_at, numbers_at, mark_at, finished_at, body_at, whole, view_of}
use Rattle.mdcc_def_messages.specs.Spelling.{kind_of}
use Rattle.mdcc_parts.specs.Reads.{end_of}
use Rattle.mdcc_wire.specs.Marks.{votes_place, options_place, promise_marks, accept_marks, marks_by}
use Rattle.mdcc_wire.specs.Views.{viewed, passed, message_choice, message_marks, kind_or_none, choice_or_none, choice_by}
use Rattle.mdcc_wire.proofs.MarksLeft.{options_all}

abbrev done : {X : Type 0} → X → Result X WireFault
done x = Ok x

ok_is : {X : Type 0} (x y : X) → done x ≡ done y → x ≡ y
ok_is x y e = cc

-- the value of a step that did not fail
bind_ok : {A B : Type 0} (r : Result A WireFault) (f : A → Result B WireFault) (y : B) → (r >>= f) ≡ Ok y → (x : A) × (r ≡ Ok x) × (f x ≡ Ok y)
bind_ok (Ok x) f y e = (x, refl, e)
bind_ok (Err fault) f y e = absurd cc

guard_ok : {X : Type 0} (b : Bool) (fault : WireFault) (x y : X) → cond b (Err fault) (Ok x) ≡ Ok y → (b ≡ false) × (x ≡ y)
guard_ok true fault x y e = absurd cc
guard_ok false fault x y e = (refl, cc)

none_found : (b : Bool) (fault : WireFault) → cond b None (Some fault) ≡ None → b ≡ true
none_found true fault e = refl
none_found false fault e = absurd cc

-- the value of a check that passed
checked_ok : {X : Type 0} (check : X → Option WireFault) (r : Result (X × ℕ) WireFault) (x : X × ℕ) → checked check r ≡ Ok x → (check x.0 ≡ None) × (r ≡ Ok x)
checked_ok {X = X} check (Ok y) x e = passed (check y.0) y x e refl
  where
    passed : (found : Option WireFault) (y x : X × ℕ) → unless_fault found y ≡ Ok x → check y.0 ≡ found → (check x.0 ≡ None) × (done y ≡ done x)
    passed None y x e is = let same = ok_is y x e in (ap (λ z. check z.0) (sym same) ∙ is, e)
    passed (Some fault) y x e is = absurd cc
checked_ok check (Err fault) x e = absurd cc

-- a byte is followed by the next place
u8_after : (bytes : List ℕ) (at : ℕ) (x : ℕ × ℕ) → u8_at bytes at ≡ Ok x → x.1 ≡ at + 1
u8_after bytes at x e = sym (ap (λ p. p.1) (guard_ok (nat_lt (length bytes - at) 1) (Truncated (length bytes)) _ x e).1)

-- ---- what a view is made of

abbrev after_to : List ℕ → ℕ → ℕ → ℕ × ℕ → Result Envelope WireFault
after_to bytes kind from to = body_at kind bytes to.1 >>= λ message. whole bytes (record { from = from; to = to.0; message = message.0 }, message.1)

abbrev after_from : List ℕ → ℕ → ℕ × ℕ → Result Envelope WireFault
after_from bytes kind from = checked (endpoint from.1) (u8_at bytes from.1) >>= λ to. after_to bytes kind from.0 to

abbrev after_kind : List ℕ → ℕ × ℕ → Result Envelope WireFault
after_kind bytes kind = checked (endpoint kind.1) (u8_at bytes kind.1) >>= λ from. after_from bytes kind.0 from

abbrev after_format : List ℕ → ℕ × ℕ → Result Envelope WireFault
after_format bytes format = checked (known_in format.0) (u8_at bytes format.1) >>= λ kind. after_kind bytes kind

whole_is : (bytes : List ℕ) (x : Envelope × ℕ) (e : Envelope) → whole bytes x ≡ Ok e → (x.0 ≡ e) × (x.1 ≡ length bytes)
whole_is bytes x e h =
    let g = turned (x.1 == length bytes) x.0 e (Trailing x.1) h in
    (g.1, eqb-true x.1 (length bytes) g.0)
  where
    turned : (b : Bool) (x e : Envelope) (fault : WireFault) → cond b (Ok x) (Err fault) ≡ Ok e → (b ≡ true) × (x ≡ e)
    turned true x e fault h = (refl, ok_is x e h)
    turned false x e fault h = absurd cc

known_is : (lowest highest n : ℕ) → known lowest highest n ≡ None → IsInRange lowest highest n
known_is lowest highest n h =
    let range = and_parts (nat_le lowest n) (nat_le n highest) (none_found (is_in_range lowest highest n) Kind h) in
    (leb-true lowest n range.0, leb-true n highest range.1)

-- a kind that a format has
kind_in_range : (format kind : ℕ) → known_in format kind ≡ None → IsInRange 1 17 kind
kind_in_range format kind h = turned (format == 1) h
  where
    turned : (b : Bool) → cond b (known 1 15 kind) (known 16 17 kind) ≡ None → IsInRange 1 17 kind
    turned true h = let r = known_is 1 15 kind h in (r.0, omega (arith, r.1))
    turned false h = let r = known_is 16 17 kind h in (omega (arith, r.0), r.1)

-- the kind stands at 1, and the body at 4
pub record IsMessage (bytes : List ℕ) (e : Envelope) : Type 0 where
  pub kind : ℕ
  pub kind_at : u8_at bytes 1 ≡ Ok (kind, 2)
  pub known_kind : IsInRange 1 17 kind
  pub body : body_at kind bytes 4 ≡ Ok (e.message, length bytes)

-- the same at places that are known by other names
u8_next : (bytes : List ℕ) (at n : ℕ) (x : ℕ × ℕ) → at ≡ n → u8_at bytes at ≡ Ok x → x.1 ≡ n + 1
u8_next bytes at n x place h = u8_after bytes at x h ∙ ap (λ k. k + 1) place

kind_stands : (bytes : List ℕ) (at after kind : ℕ) → at ≡ 1 → after ≡ 2 → u8_at bytes at ≡ Ok (kind, after) → u8_at bytes 1 ≡ Ok (kind, 2)
kind_stands bytes at after kind one two h = ap (u8_at bytes) (sym one) ∙ h ∙ ap (λ n. done (kind, n)) two

body_stands : (bytes : List ℕ) (kind at end : ℕ) (made e : Envelope) → at ≡ 4 → made ≡ e → end ≡ length bytes
    → body_at kind bytes at ≡ Ok (made.message, end) → body_at kind bytes 4 ≡ Ok (e.message, length bytes)
body_stands bytes kind at end made e four same whole h =
    ap (body_at kind bytes) (sym four) ∙ h ∙ ap (λ (x : Envelope). done (x.message, end)) same ∙ ap (λ n. done (e.message, n)) whole

pub is_message : (bytes : List ℕ) (e : Envelope) → view_of bytes ≡ Ok e → IsMessage bytes e
is_message bytes e h =
    let a = bind_ok (checked (known 1 2) (u8_at bytes 0)) (after_format bytes) e h in
    let a' = checked_ok (known 1 2) (u8_at bytes 0) a.0 a.1 in
    let one : a.0.1 ≡ 1 = u8_after bytes 0 a.0 a'.1 in
    let b = bind_ok (checked (known_in a.0.0) (u8_at bytes a.0.1)) (after_kind bytes) e a.2 in
    let b' = checked_ok (known_in a.0.0) (u8_at bytes a.0.1) b.0 b.1 in
    let two : b.0.1 ≡ 2 = u8_next bytes a.0.1 1 b.0 one b'.1 in
    let c = bind_ok (checked (endpoint b.0.1) (u8_at bytes b.0.1)) (after_from bytes b.0.0) e b.2 in
    let c' = checked_ok (endpoint b.0.1) (u8_at bytes b.0.1) c.0 c.1 in
    let three : c.0.1 ≡ 3 = u8_next bytes b.0.1 2 c.0 two c'.1 in
    let d = bind_ok (checked (endpoint c.0.1) (u8_at bytes c.0.1)) (after_to bytes b.0.0 c.0.0) e c.2 in
    let d' = checked_ok (endpoint c.0.1) (u8_at bytes c.0.1) d.0 d.1 in
    let four : d.0.1 ≡ 4 = u8_next bytes c.0.1 3 d.0 three d'.1 in
    let m = bind_ok (body_at b.0.0 bytes d.0.1) (λ message. whole bytes (record { from = c.0.0; to = d.0.0; message = message.0 }, message.1)) e d.2 in
    let w = whole_is bytes (record { from = c.0.0; to = d.0.0; message = m.0.0 }, m.0.1) e m.2 in
    record {
      kind = b.0.0;
      kind_at = kind_stands bytes a.0.1 b.0.1 b.0.0 one two b'.1;
      known_kind = kind_in_range a.0.0 b.0.0 b'.0;
      body = body_stands bytes b.0.0 d.0.1 m.0.1 (record { from = c.0.0; to = d.0.0; message = m.0.0 }) e four w.0 w.1 m.1;
    }

-- ---- where structures stand

votes_place_is : (bytes : List ℕ) (at : ℕ) (a : (List ℕ × ℕ) × ℕ) (b : ℕ × ℕ) (c d : Ballot × ℕ) → instance_at bytes at ≡ Ok a
    → checked (at_least a.1 a.0.1) (u64_at bytes a.1) ≡ Ok b → classic_at bytes b.1 ≡ Ok c → ballot_at bytes c.1 ≡ Ok d
    → votes_place bytes at ≡ Ok (a.0, d.1)
votes_place_is bytes at a b c d ea eb ec ed = rw (ea, eb, ec, ed) refl

options_place_is : (bytes : List ℕ) (at : ℕ) (a : (List ℕ × ℕ) × ℕ) (b : Ballot × ℕ) → instance_at bytes at ≡ Ok a → classic_at bytes a.1 ≡ Ok b
    → options_place bytes at ≡ Ok (a.0, b.1)
options_place_is bytes at a b ea eb = rw (ea, eb) refl

promise_marks_are : (bytes : List ℕ) (at : ℕ) (place : (List ℕ × ℕ) × ℕ) (v : Marks × ℕ) → votes_place bytes at ≡ Ok place
    → options_at bytes place.1 place.0.0 place.0.1 ≡ Ok v → promise_marks bytes at ≡ v.0
promise_marks_are bytes at place v e f = rw e (options_all bytes place.1 place.0.0 place.0.1 v f)

accept_marks_are : (bytes : List ℕ) (at : ℕ) (place : (List ℕ × ℕ) × ℕ) (v : Marks × ℕ) → options_place bytes at ≡ Ok place
    → options_at bytes place.1 place.0.0 place.0.1 ≡ Ok v → accept_marks bytes at ≡ v.0
accept_marks_are bytes at place v e f = rw e (options_all bytes place.1 place.0.0 place.0.1 v f)

-- ---- a body of a kind is a message of that kind

-- what is found of a message where its kind says
abbrev Shows : ℕ → List ℕ → ℕ → Result (Message × ℕ) WireFault → Type 0
Shows kind bytes at read =
    IfOk read (λ x. (kind_of x.0 ≡ kind) × (choice_by kind bytes at ≡ message_choice x.0) × (marks_by kind bytes at ≡ message_marks x.0))

module _ (bytes : List ℕ) (at : ℕ) where
  then : {A : Type 0} (kind : ℕ) (r : Result A WireFault) (f : A → Result (Message × ℕ) WireFault) → ((x : A) → Shows kind bytes at (f x)) → Shows kind bytes at (r >>= f)
  then kind (Ok x) f h = h x
  then kind (Err fault) f h = tt

  -- by the number of the kind, which is none of those before
  choose : (kind n : ℕ) (r s : Result (Message × ℕ) WireFault) → n ≤ kind → Shows n bytes at r → (n + 1 ≤ kind → Shows kind bytes at s)
      → Shows kind bytes at (cond (kind == n) r s)
  choose kind n r s least h k = turned (kind == n) refl
    where
      turned : (b : Bool) → (kind == n) ≡ b → Shows kind bytes at (cond b r s)
      turned true e = subst (λ m. Shows m bytes at r) (sym (eqb-true kind n e)) h
      turned false e = let other = eqb-false kind n e in k (omega (arith, least, other))

  by_value : (kind : ℕ) (r : Result (Message × ℕ) WireFault)
      → ((x : Message × ℕ) → r ≡ Ok x → (kind_of x.0 ≡ kind) × (choice_by kind bytes at ≡ message_choice x.0) × (marks_by kind bytes at ≡ message_marks x.0)) → Shows kind bytes at r
  by_value kind (Ok x) h = h x refl
  by_value kind (Err fault) h = tt

  propose_shows : Shows 1 bytes at (propose_at bytes at)
  propose_shows = by_value 1 (propose_at bytes at) (λ x e.
      let a = bind_ok (choice_at bytes at) (λ c. done (messages.Propose c.0, c.1)) x e in
      subst (λ (y : Message × ℕ). (kind_of y.0 ≡ 1) × (choice_by 1 bytes at ≡ message_choice y.0) × (marks_by 1 bytes at ≡ message_marks y.0))
      (ok_is (messages.Propose a.0.0, a.0.1) x a.2) (refl, ap choice_or_none a.1, refl))

  lead_shows : Shows 4 bytes at (lead_at bytes at)
  lead_shows = by_value 4 (lead_at bytes at) (λ x e.
      let a = bind_ok (choice_at bytes at) (λ c. done (messages.Lead c.0, c.1)) x e in
      subst (λ (y : Message × ℕ). (kind_of y.0 ≡ 4) × (choice_by 4 bytes at ≡ message_choice y.0) × (marks_by 4 bytes at ≡ message_marks y.0))
      (ok_is (messages.Lead a.0.0, a.0.1) x a.2) (refl, ap choice_or_none a.1, refl))

  -- the votes of a promise stand behind its ballots
  promise_shows : Shows 6 bytes at (promise_at bytes at)
  promise_shows = by_value 6 (promise_at bytes at) (λ x e.
      let a = bind_ok (instance_at bytes at) (λ p. checked (at_least p.1 p.0.1) (u64_at bytes p.1) >>= λ t. classic_at bytes t.1 >>= λ b. ballot_at bytes b.1 >>= λ r. options_at bytes r.1 p.0.0 p.0.1 >>= λ v. done (messages.Promise p.0.0 p.0.1 t.0 b.0 r.0 v.0, v.1)) x e in
      let b = bind_ok (checked (at_least a.0.1 a.0.0.1) (u64_at bytes a.0.1)) (λ t. classic_at bytes t.1 >>= λ b. ballot_at bytes b.1 >>= λ r. options_at bytes r.1 a.0.0.0 a.0.0.1 >>= λ v. done (messages.Promise a.0.0.0 a.0.0.1 t.0 b.0 r.0 v.0, v.1)) x a.2 in
      let c = bind_ok (classic_at bytes b.0.1) (λ c. ballot_at bytes c.1 >>= λ r. options_at bytes r.1 a.0.0.0 a.0.0.1 >>= λ v. done (messages.Promise a.0.0.0 a.0.0.1 b.0.0 c.0 r.0 v.0, v.1)) x b.2 in
      let d = bind_ok (ballot_at bytes c.0.1) (λ r. options_at bytes r.1 a.0.0.0 a.0.0.1 >>= λ v. done (messages.Promise a.0.0.0 a.0.0.1 b.0.0 c.0.0 r.0 v.0, v.1)) x c.2 in
      let v = bind_ok (options_at bytes d.0.1 a.0.0.0 a.0.0.1) (λ v. done (messages.Promise a.0.0.0 a.0.0.1 b.0.0 c.0.0 d.0.0 v.0, v.1)) x d.2 in
      let place = votes_place_is bytes at a.0 b.0 c.0 d.0 a.1 b.1 c.1 d.1 in
      let marks = promise_marks_are bytes at (a.0.0, d.0.1) v.0 place v.1 in
      subst (λ (y : Message × ℕ). (kind_of y.0 ≡ 6) × (choice_by 6 bytes at ≡ message_choice y.0) × (marks_by 6 bytes at ≡ message_marks y.0))
      (ok_is (messages.Promise a.0.0.0 a.0.0.1 b.0.0 c.0.0 d.0.0 v.0.0, v.0.1) x v.2) (refl, refl, marks))

  -- the structure of an accept stands behind its ballot
  accept_shows : Shows 7 bytes at (accept_at bytes at)
  accept_shows = by_value 7 (accept_at bytes at) (λ x e.
      let a = bind_ok (instance_at bytes at) (λ p. classic_at bytes p.1 >>= λ b. options_at bytes b.1 p.0.0 p.0.1 >>= λ v. done (messages.Accept p.0.0 p.0.1 b.0 v.0, v.1)) x e in
      let b = bind_ok (classic_at bytes a.0.1) (λ b. options_at bytes b.1 a.0.0.0 a.0.0.1 >>= λ v. done (messages.Accept a.0.0.0 a.0.0.1 b.0 v.0, v.1)) x a.2 in
      let v = bind_ok (options_at bytes b.0.1 a.0.0.0 a.0.0.1) (λ v. done (messages.Accept a.0.0.0 a.0.0.1 b.0.0 v.0, v.1)) x b.2 in
      let place = options_place_is bytes at a.0 b.0 a.1 b.1 in
      let marks = accept_marks_are bytes at (a.0.0, b.0.1) v.0 place v.1 in
      subst (λ (y : Message × ℕ). (kind_of y.0 ≡ 7) × (choice_by 7 bytes at ≡ message_choice y.0) × (marks_by 7 bytes at ≡ message_marks y.0))
      (ok_is (messages.Accept a.0.0.0 a.0.0.1 b.0.0 v.0.0, v.0.1) x v.2) (refl, refl, marks))

  voted_shows : Shows 2 bytes at (voted_at bytes at)
  voted_shows = then 2 (instance_at bytes at) (λ place. ballot_at bytes place.1 >>= λ ballot. mark_entry_at bytes ballot.1 place.0.0 place.0.1 >>= λ entry. done (messages.Voted place.0.0 place.0.1 ballot.0 entry.0.0 entry.0.1, entry.1)) (λ place. then 2 (ballot_at bytes place.1) (λ ballot. mark_entry_at bytes ballot.1 place.0.0 place.0.1 >>= λ entry. done (messages.Voted place.0.0 place.0.1 ballot.0 entry.0.0 entry.0.1, entry.1)) (λ ballot. then 2 (mark_entry_at bytes ballot.1 place.0.0 place.0.1) (λ entry. done (messages.Voted place.0.0 place.0.1 ballot.0 entry.0.0 entry.0.1, entry.1)) (λ entry. (refl, refl, refl))))

  escalate_shows : Shows 3 bytes at (escalate_at bytes at)
  escalate_shows = then 3 (instance_at bytes at) (λ place. tx_at bytes place.1 >>= λ tx. cause_at bytes tx.1 >>= λ cause. done (messages.Escalate place.0.0 place.0.1 tx.0 cause.0, cause.1)) (λ place. then 3 (tx_at bytes place.1) (λ tx. cause_at bytes tx.1 >>= λ cause. done (messages.Escalate place.0.0 place.0.1 tx.0 cause.0, cause.1)) (λ tx. then 3 (cause_at bytes tx.1) (λ cause. done (messages.Escalate place.0.0 place.0.1 tx.0 cause.0, cause.1)) (λ cause. (refl, refl, refl))))

  prepare_shows : Shows 5 bytes at (prepare_at bytes at)
  prepare_shows = then 5 (instance_at bytes at) (λ place. checked (at_least place.1 place.0.1) (u64_at bytes place.1) >>= λ through. classic_at bytes through.1 >>= λ ballot. done (messages.Prepare place.0.0 place.0.1 through.0 ballot.0, ballot.1)) (λ place. then 5 (checked (at_least place.1 place.0.1) (u64_at bytes place.1)) (λ through. classic_at bytes through.1 >>= λ ballot. done (messages.Prepare place.0.0 place.0.1 through.0 ballot.0, ballot.1)) (λ through. then 5 (classic_at bytes through.1) (λ ballot. done (messages.Prepare place.0.0 place.0.1 through.0 ballot.0, ballot.1)) (λ ballot. (refl, refl, refl))))

  refused_shows : Shows 8 bytes at (refused_message_at bytes at)
  refused_shows = then 8 (instance_at bytes at) (λ place. classic_at bytes place.1 >>= λ ballot. ballot_at bytes ballot.1 >>= λ promised. done (messages.Refused place.0.0 place.0.1 ballot.0 promised.0, promised.1)) (λ place. then 8 (classic_at bytes place.1) (λ ballot. ballot_at bytes ballot.1 >>= λ promised. done (messages.Refused place.0.0 place.0.1 ballot.0 promised.0, promised.1)) (λ ballot. then 8 (ballot_at bytes ballot.1) (λ promised. done (messages.Refused place.0.0 place.0.1 ballot.0 promised.0, promised.1)) (λ promised. (refl, refl, refl))))

  ended_shows : Shows 9 bytes at (ended_at bytes at)
  ended_shows = then 9 (heard_at bytes at) (λ heard. done (messages.Outcome heard.0.0 heard.0.1, heard.1)) (λ heard. (refl, refl, refl))

  ask_shows : Shows 10 bytes at (ask_at bytes at)
  ask_shows = then 10 (tx_at bytes at) (λ tx. instance_at bytes tx.1 >>= λ place. done (messages.Ask tx.0 place.0.0 place.0.1, place.1)) (λ tx. then 10 (instance_at bytes tx.1) (λ place. done (messages.Ask tx.0 place.0.0 place.0.1, place.1)) (λ place. (refl, refl, refl)))

  sync_ask_shows : Shows 11 bytes at (sync_ask_at bytes at)
  sync_ask_shows = then 11 (key_at bytes at) (λ key. done (messages.SyncAsk key.0, key.1)) (λ key. (refl, refl, refl))

  sync_give_shows : Shows 12 bytes at (sync_give_at bytes at)
  sync_give_shows = then 12 (sync_given_at bytes at) (λ given. done (messages.SyncGive given.0.0 given.0.1 given.0.2 given.0.3, given.1)) (λ given. (refl, refl, refl))

  client_read_shows : Shows 13 bytes at (client_read_at bytes at)
  client_read_shows = then 13 (u32_at bytes at) (λ serial. key_at bytes serial.1 >>= λ key. done (messages.ClientRead serial.0 key.0, key.1)) (λ serial. then 13 (key_at bytes serial.1) (λ key. done (messages.ClientRead serial.0 key.0, key.1)) (λ key. (refl, refl, refl)))

  client_begin_shows : Shows 14 bytes at (client_begin_at bytes at)
  client_begin_shows = then 14 (u32_at bytes at) (λ serial. list_at serial.1 1 8 (part_behind serial.1 bytes) (λ part. part.key) bytes serial.1 >>= λ parts. done (messages.ClientBegin serial.0 parts.0, parts.1)) (λ serial. then 14 (list_at serial.1 1 8 (part_behind serial.1 bytes) (λ part. part.key) bytes serial.1) (λ parts. done (messages.ClientBegin serial.0 parts.0, parts.1)) (λ parts. (refl, refl, refl)))

  client_answer_shows : Shows 15 bytes at (client_answer_at bytes at)
  client_answer_shows = then 15 (u32_at bytes at) (λ serial. answer_at bytes serial.1 >>= λ answer. done (messages.ClientAnswer serial.0 answer.0, answer.1)) (λ serial. then 15 (answer_at bytes serial.1) (λ answer. done (messages.ClientAnswer serial.0 answer.0, answer.1)) (λ answer. (refl, refl, refl)))

  mark_shows : Shows 16 bytes at (mark_at bytes at)
  mark_shows = then 16 (numbers_at bytes at) (λ numbers. done (messages.Mark numbers.0.0 numbers.0.1 numbers.0.2, numbers.1)) (λ numbers. (refl, refl, refl))

  finished_shows : Shows 17 bytes at (finished_at bytes at)
  finished_shows = then 17 (tx_at bytes at) (λ tx. done (messages.Finished tx.0, tx.1)) (λ tx. (refl, refl, refl))

  abbrev bodies_from_15 : ℕ → Result (Message × ℕ) WireFault
  bodies_from_15 kind = cond (kind == 15) (client_answer_at bytes at) (cond (kind == 16) (mark_at bytes at) (finished_at bytes at))

  body_shows : (kind : ℕ) → IsInRange 1 17 kind → Shows kind bytes at (body_at kind bytes at)
  body_shows kind range =
      choose kind 1 (propose_at bytes at) (cond (kind == 2) (voted_at bytes at) (cond (kind == 3) (escalate_at bytes at) (cond (kind == 4) (lead_at bytes at) (cond (kind == 5) (prepare_at bytes at) (cond (kind == 6) (promise_at bytes at) (cond (kind == 7) (accept_at bytes at) (cond (kind == 8) (refused_message_at bytes at) (cond (kind == 9) (ended_at bytes at) (cond (kind == 10) (ask_at bytes at) (cond (kind == 11) (sync_ask_at bytes at) (cond (kind == 12) (sync_give_at bytes at) (cond (kind == 13) (client_read_at bytes at) (cond (kind == 14) (client_begin_at bytes at) (bodies_from_15 kind)))))))))))))) range.0 propose_shows (λ n1.
      choose kind 2 (voted_at bytes at) (cond (kind == 3) (escalate_at bytes at) (cond (kind == 4) (lead_at bytes at) (cond (kind == 5) (prepare_at bytes at) (cond (kind == 6) (promise_at bytes at) (cond (kind == 7) (accept_at bytes at) (cond (kind == 8) (refused_message_at bytes at) (cond (kind == 9) (ended_at bytes at) (cond (kind == 10) (ask_at bytes at) (cond (kind == 11) (sync_ask_at bytes at) (cond (kind == 12) (sync_give_at bytes at) (cond (kind == 13) (client_read_at bytes at) (cond (kind == 14) (client_begin_at bytes at) (bodies_from_15 kind))))))))))))) n1 voted_shows (λ n2.
      choose kind 3 (escalate_at bytes at) (cond (kind == 4) (lead_at bytes at) (cond (kind == 5) (prepare_at bytes at) (cond (kind == 6) (promise_at bytes at) (cond (kind == 7) (accept_at bytes at) (cond (kind == 8) (refused_message_at bytes at) (cond (kind == 9) (ended_at bytes at) (cond (kind == 10) (ask_at bytes at) (cond (kind == 11) (sync_ask_at bytes at) (cond (kind == 12) (sync_give_at bytes at) (cond (kind == 13) (client_read_at bytes at) (cond (kind == 14) (client_begin_at bytes at) (bodies_from_15 kind)))))))))))) n2 escalate_shows (λ n3.
      choose kind 4 (lead_at bytes at) (cond (kind == 5) (prepare_at bytes at) (cond (kind == 6) (promise_at bytes at) (cond (kind == 7) (accept_at bytes at) (cond (kind == 8) (refused_message_at bytes at) (cond (kind == 9) (ended_at bytes at) (cond (kind == 10) (ask_at bytes at) (cond (kind == 11) (sync_ask_at bytes at) (cond (kind == 12) (sync_give_at bytes at) (cond (kind == 13) (client_read_at bytes at) (cond (kind == 14) (client_begin_at bytes at) (bodies_from_15 kind))))))))))) n3 lead_shows (λ n4.
      choose kind 5 (prepare_at bytes at) (cond (kind == 6) (promise_at bytes at) (cond (kind == 7) (accept_at bytes at) (cond (kind == 8) (refused_message_at bytes at) (cond (kind == 9) (ended_at bytes at) (cond (kind == 10) (ask_at bytes at) (cond (kind == 11) (sync_ask_at bytes at) (cond (kind == 12) (sync_give_at bytes at) (cond (kind == 13) (client_read_at bytes at) (cond (kind == 14) (client_begin_at bytes at) (bodies_from_15 kind)))))))))) n4 prepare_shows (λ n5.
      choose kind 6 (promise_at bytes at) (cond (kind == 7) (accept_at bytes at) (cond (kind == 8) (refused_message_at bytes at) (cond (kind == 9) (ended_at bytes at) (cond (kind == 10) (ask_at bytes at) (cond (kind == 11) (sync_ask_at bytes at) (cond (kind == 12) (sync_give_at bytes at) (cond (kind == 13) (client_read_at bytes at) (cond (kind == 14) (client_begin_at bytes at) (bodies_from_15 kind))))))))) n5 promise_shows (λ n6.
      choose kind 7 (accept_at bytes at) (cond (kind == 8) (refused_message_at bytes at) (cond (kind == 9) (ended_at bytes at) (cond (kind == 10) (ask_at bytes at) (cond (kind == 11) (sync_ask_at bytes at) (cond (kind == 12) (sync_give_at bytes at) (cond (kind == 13) (client_read_at bytes at) (cond (kind == 14) (client_begin_at bytes at) (bodies_from_15 kind)))))))) n6 accept_shows (λ n7.
      choose kind 8 (refused_message_at bytes at) (cond (kind == 9) (ended_at bytes at) (cond (kind == 10) (ask_at bytes at) (cond (kind == 11) (sync_ask_at bytes at) (cond (kind == 12) (sync_give_at bytes at) (cond (kind == 13) (client_read_at bytes at) (cond (kind == 14) (client_begin_at bytes at) (bodies_from_15 kind))))))) n7 refused_shows (λ n8.
      choose kind 9 (ended_at bytes at) (cond (kind == 10) (ask_at bytes at) (cond (kind == 11) (sync_ask_at bytes at) (cond (kind == 12) (sync_give_at bytes at) (cond (kind == 13) (client_read_at bytes at) (cond (kind == 14) (client_begin_at bytes at) (bodies_from_15 kind)))))) n8 ended_shows (λ n9.
      choose kind 10 (ask_at bytes at) (cond (kind == 11) (sync_ask_at bytes at) (cond (kind == 12) (sync_give_at bytes at) (cond (kind == 13) (client_read_at bytes at) (cond (kind == 14) (client_begin_at bytes at) (bodies_from_15 kind))))) n9 ask_shows (λ n10.
      choose kind 11 (sync_ask_at bytes at) (cond (kind == 12) (sync_give_at bytes at) (cond (kind == 13) (client_read_at bytes at) (cond (kind == 14) (client_begin_at bytes at) (bodies_from_15 kind)))) n10 sync_ask_shows (λ n11.
      choose kind 12 (sync_give_at bytes at) (cond (kind == 13) (client_read_at bytes at) (cond (kind == 14) (client_begin_at bytes at) (bodies_from_15 kind))) n11 sync_give_shows (λ n12.
      choose kind 13 (client_read_at bytes at) (cond (kind == 14) (client_begin_at bytes at) (bodies_from_15 kind)) n12 client_read_shows (λ n13.
      choose kind 14 (client_begin_at bytes at) (bodies_from_15 kind) n13 client_begin_shows (λ n14.
      choose kind 15 (client_answer_at bytes at) (cond (kind == 16) (mark_at bytes at) (finished_at bytes at)) n14 client_answer_shows (λ n15.
      choose kind 16 (mark_at bytes at) (finished_at bytes at) n15 mark_shows (λ n16.
      let last : kind ≡ 17 = omega (arith, n16, range.1) in
      subst (λ m. Shows m bytes at (finished_at bytes at)) (sym last) finished_shows))))))))))))))))

-- what is found of a message that is read
pub record IsShown (bytes : List ℕ) (e : Envelope) : Type 0 where
  pub kind : kind_or_none (u8_at bytes 1) ≡ kind_of e.message
  pub choice : choice_by (kind_or_none (u8_at bytes 1)) bytes 4 ≡ message_choice e.message
  pub marks : marks_by (kind_or_none (u8_at bytes 1)) bytes 4 ≡ message_marks e.message

is_shown : (bytes : List ℕ) (e : Envelope) → view_of bytes ≡ Ok e → IsShown bytes e
is_shown bytes e h =
    let m = is_message bytes e h in
    let kind : kind_or_none (u8_at bytes 1) ≡ m.kind = ap kind_or_none m.kind_at in
    let s = found m.kind (body_at m.kind bytes 4) m.body (body_shows bytes 4 m.kind m.known_kind) in
    record { kind = kind ∙ sym s.0; choice = ap (λ k. choice_by k bytes 4) kind ∙ s.1; marks = ap (λ k. marks_by k bytes 4) kind ∙ s.2 }
  where
    found : (kind : ℕ) (read : Result (Message × ℕ) WireFault) → read ≡ Ok (e.message, length bytes) → Shows kind bytes 4 read
        → (kind_of e.message ≡ kind) × (choice_by kind bytes 4 ≡ message_choice e.message) × (marks_by kind bytes 4 ≡ message_marks e.message)
    found kind (Ok x) is h =
        subst (λ (y : Message × ℕ). (kind_of y.0 ≡ kind) × (choice_by kind bytes 4 ≡ message_choice y.0) × (marks_by kind bytes 4 ≡ message_marks y.0)) (ok_is x (e.message, length bytes) is) h
    found kind (Err fault) is h = absurd cc

pub if_shown : (bytes : List ℕ) (P : Envelope → Type 0) → ((e : Envelope) → IsShown bytes e → P e) → IfOk (view_of bytes) P
if_shown bytes P h = by_value (view_of bytes) (λ e is. h e (is_shown bytes e is))
  where
    by_value : (r : Result Envelope WireFault) → ((e : Envelope) → r ≡ Ok e → P e) → IfOk r P
    by_value (Ok e) k = k e refl
    by_value (Err fault) k = tt

-- ---- the check of a message

push : {A B C : Type 0} (r : Result A WireFault) (k : A → Result C WireFault) (f : A → Result B WireFault) (g : B → Result C WireFault)
    → ((x : A) → k x ≡ (f x >>= g)) → (r >>= k) ≡ ((r >>= f) >>= g)
push (Ok x) k f g h = h x
push (Err fault) k f g h = refl

-- the check of a body and of the end
ends : (read : Result (Message × ℕ) WireFault) (make : Message → Envelope) (bytes : List ℕ)
    → (end_of read >>= λ end. whole bytes (tt {0}, end)) ≡ ((read >>= λ m. whole bytes (make m.0, m.1)) >>= λ e. done (tt {0}))
ends (Ok x) make bytes = turned (x.1 == length bytes)
  where
    turned : (b : Bool) → cond b (done (tt {0})) (Err (Trailing x.1)) ≡ (cond b (done (make x.0)) (Err (Trailing x.1)) >>= λ e. done (tt {0}))
    turned true = refl
    turned false = refl
ends (Err fault) make bytes = refl

passed_is : (bytes : List ℕ) → passed bytes ≡ (view_of bytes >>= λ e. done (tt {0}))
passed_is bytes =
    push (checked (known 1 2) (u8_at bytes 0)) (λ format. checked (known_in format.0) (u8_at bytes format.1) >>= λ kind. checked (endpoint kind.1) (u8_at bytes kind.1) >>= λ from. checked (endpoint from.1) (u8_at bytes from.1) >>= λ to. end_of (body_at kind.0 bytes to.1) >>= λ end. whole bytes (tt {0}, end)) (λ format. checked (known_in format.0) (u8_at bytes format.1) >>= λ kind. checked (endpoint kind.1) (u8_at bytes kind.1) >>= λ from. checked (endpoint from.1) (u8_at bytes from.1) >>= λ to. body_at kind.0 bytes to.1 >>= λ message. whole bytes (record { from = from.0; to = to.0; message = message.0 }, message.1)) (λ e. done (tt {0})) (λ format.
    push (checked (known_in format.0) (u8_at bytes format.1)) (λ kind. checked (endpoint kind.1) (u8_at bytes kind.1) >>= λ from. checked (endpoint from.1) (u8_at bytes from.1) >>= λ to. end_of (body_at kind.0 bytes to.1) >>= λ end. whole bytes (tt {0}, end)) (λ kind. checked (endpoint kind.1) (u8_at bytes kind.1) >>= λ from. checked (endpoint from.1) (u8_at bytes from.1) >>= λ to. body_at kind.0 bytes to.1 >>= λ message. whole bytes (record { from = from.0; to = to.0; message = message.0 }, message.1)) (λ e. done (tt {0})) (λ kind.
    push (checked (endpoint kind.1) (u8_at bytes kind.1)) (λ from. checked (endpoint from.1) (u8_at bytes from.1) >>= λ to. end_of (body_at kind.0 bytes to.1) >>= λ end. whole bytes (tt {0}, end)) (λ from. checked (endpoint from.1) (u8_at bytes from.1) >>= λ to. body_at kind.0 bytes to.1 >>= λ message. whole bytes (record { from = from.0; to = to.0; message = message.0 }, message.1)) (λ e. done (tt {0})) (λ from.
    push (checked (endpoint from.1) (u8_at bytes from.1)) (λ to. end_of (body_at kind.0 bytes to.1) >>= λ end. whole bytes (tt {0}, end)) (λ to. body_at kind.0 bytes to.1 >>= λ message. whole bytes (record { from = from.0; to = to.0; message = message.0 }, message.1)) (λ e. done (tt {0})) (λ to.
    ends (body_at kind.0 bytes to.1) (λ m. record { from = from.0; to = to.0; message = m }) bytes))))

-- bytes that pass spell a message
pub passed_ok : (bytes : List ℕ) → Ok (tt {0}) ≡ passed bytes → IsOk (view_of bytes)
passed_ok bytes h = by_value (view_of bytes) (h ∙ passed_is bytes)
  where
    by_value : (r : Result Envelope WireFault) → Ok (tt {0}) ≡ (r >>= λ e. done (tt {0})) → IsOk r
    by_value (Ok e) k = refl
    by_value (Err fault) k = absurd cc

pub passed_viewed : (bytes : List ℕ) → Ok (tt {0}) ≡ passed bytes → Ok bytes ≡ viewed bytes
passed_viewed bytes h = by_value (view_of bytes) (h ∙ passed_is bytes)
  where
    by_value : (r : Result Envelope WireFault) → Ok (tt {0}) ≡ (r >>= λ e. done (tt {0})) → Ok bytes ≡ (r >>= λ e. done bytes)
    by_value (Ok e) k = refl
    by_value (Err fault) k = absurd cc

-- bytes that do not are refused with their fault
pub fault_viewed : (bytes : List ℕ) (fault : WireFault) → Err fault ≡ passed bytes → Err fault ≡ viewed bytes
fault_viewed bytes fault h = by_value (view_of bytes) (h ∙ passed_is bytes)
  where
    by_value : (r : Result Envelope WireFault) → Err fault ≡ (r >>= λ e. done (tt {0})) → Err fault ≡ (r >>= λ e. done bytes)
    by_value (Ok e) k = absurd cc
    by_value (Err other) k = let same : fault ≡ other = cc in ap (λ f. Err f) same
