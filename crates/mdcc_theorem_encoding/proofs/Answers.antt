-- What a client is answered: what is read is what is spelled.
use Rattle.std.proofs.Common.{◌≡◌, ℕ, zero, suc, ◌+◌, Bool, true, false, cond, List, ◌++◌, length, Ok, Option, Some, None, refl, sym, ap, subst, arith}
use Rattle.std.specs.Prelude.{nat_eq}
use Rattle.std.specs.Int.{IsInRange}
use Rattle.mdcc_base.specs.declared.identifiers.TxId.{TxId}
use Rattle.mdcc_option.specs.declared.items.Item.{Item}
use Rattle.mdcc_option.specs.declared.items.Token.{Token}
use Rattle.mdcc_option.specs.declared.faults.BeginFault.{BeginFault}
use Rattle.mdcc_option.specs.declared.faults.BeginFault.TheVariants.{Stale, Unseen, NoItem, Sequence, Busy, Memory}
use Rattle.mdcc_option.specs.declared.faults.DraftFault.{DraftFault}
use Rattle.mdcc_option.specs.declared.faults.DraftFault.TheVariants.{Empty, TooMany, RepeatedKey, BadAttribute, ZeroAmount, OutOfBounds}
use Rattle.mdcc_def_messages.specs.declared.messages.ClientAnswer.{ClientAnswer}
use Rattle.mdcc_def_messages.specs.declared.messages.ClientAnswer.TheVariants as answers
use Rattle.mdcc_def_messages.specs.Bytes.{u8_bytes, u64_bytes}
use Rattle.mdcc_def_messages.specs.SpelledParts.{key_bytes, tx_bytes, item_bytes, seen_bytes}
use Rattle.mdcc_def_messages.specs.SpelledAnswers.{flag_bytes, shown_item_bytes, begin_fault_bytes, draft_fault_number, answer_bytes}
use Rattle.mdcc_def_messages.specs.ReadingSteps.{◌>>=◌, u64_at, u8_within, flag_at}
use Rattle.mdcc_def_messages.specs.ReadingParts.{key_at, tx_at, item_at, seen_at}
use Rattle.mdcc_def_messages.specs.ReadingAnswers.{some_item_at, shown_item_at, stale_at, unseen_at, begin_fault_by, begin_fault_at, draft_fault_of, read_answer_at, begun_answer_at, refused_answer_at, heard_answer_at, draft_answer_at, answer_by, answer_at}
use Rattle.mdcc_def_messages.specs.WellFormed.{IsWellFormedShown, IsWellFormedRefusal, IsWellFormedAnswer}
use Rattle.mdcc_theorem_encoding.proofs.Places.{IsAt, IsBytes, apart-2, apart-5, end-2, end-5}
use Rattle.mdcc_theorem_encoding.proofs.Steps.{done, ok_is, bind_ok}
use Rattle.mdcc_theorem_encoding.proofs.Numbers.{Reads, IsFound, u64_again, u64_takes, u8_within_again, u8_within_takes}
use Rattle.mdcc_theorem_encoding.proofs.Lists.{Reads-then}
use Rattle.mdcc_theorem_encoding.proofs.Identifiers.{key_again, key_takes, tx_again, tx_takes}
use Rattle.mdcc_theorem_encoding.proofs.Items.{item_again, item_takes, seen_again, seen_takes}

-- a number from 1 to 5 or 6 is one of them
by_6 : (P : ℕ → Type 0) (n : ℕ) → IsInRange 1 6 n → P 1 → P 2 → P 3 → P 4 → P 5 → P 6 → P n
by_6 P zero range p1 p2 p3 p4 p5 p6 = absurd (omega (arith, range.0))
by_6 P (suc zero) range p1 p2 p3 p4 p5 p6 = p1
by_6 P (suc (suc zero)) range p1 p2 p3 p4 p5 p6 = p2
by_6 P (suc (suc (suc zero))) range p1 p2 p3 p4 p5 p6 = p3
by_6 P (suc (suc (suc (suc zero)))) range p1 p2 p3 p4 p5 p6 = p4
by_6 P (suc (suc (suc (suc (suc zero))))) range p1 p2 p3 p4 p5 p6 = p5
by_6 P (suc (suc (suc (suc (suc (suc zero)))))) range p1 p2 p3 p4 p5 p6 = p6
by_6 P (suc (suc (suc (suc (suc (suc (suc n))))))) range p1 p2 p3 p4 p5 p6 = absurd (omega (arith, range.1))

pub by_5 : (P : ℕ → Type 0) (n : ℕ) → IsInRange 1 5 n → P 1 → P 2 → P 3 → P 4 → P 5 → P n
by_5 P zero range p1 p2 p3 p4 p5 = absurd (omega (arith, range.0))
by_5 P (suc zero) range p1 p2 p3 p4 p5 = p1
by_5 P (suc (suc zero)) range p1 p2 p3 p4 p5 = p2
by_5 P (suc (suc (suc zero))) range p1 p2 p3 p4 p5 = p3
by_5 P (suc (suc (suc (suc zero)))) range p1 p2 p3 p4 p5 = p4
by_5 P (suc (suc (suc (suc (suc zero))))) range p1 p2 p3 p4 p5 = p5
by_5 P (suc (suc (suc (suc (suc (suc n)))))) range p1 p2 p3 p4 p5 = absurd (omega (arith, range.1))

-- ---- flags

flag_again : (bytes : List ℕ) (at : ℕ) (flag : Bool) → IsAt bytes at (flag_bytes flag) → flag_at bytes at ≡ Ok (flag, at + 1)
flag_again bytes at true h = rw (u8_within_again at 0 1 bytes at 1 (omega arith) (omega arith, omega arith) h) refl
flag_again bytes at false h = rw (u8_within_again at 0 1 bytes at 0 (omega arith) (omega arith, omega arith) h) refl

abbrev AnyFlag : Bool → Type 0
AnyFlag flag = Unit {0}

flag_takes : (bytes : List ℕ) (at : ℕ) (x : Bool × ℕ) → IsBytes bytes → flag_at bytes at ≡ Ok x → IsFound bytes flag_bytes AnyFlag at x
flag_takes bytes at x h e =
    let a = bind_ok (u8_within at 0 1 bytes at) (λ flag. done (nat_eq flag.0 1, flag.1)) x e in
    let t = u8_within_takes at 0 1 bytes at a.0 h a.1 in
    subst (IsFound bytes flag_bytes AnyFlag at) (ok_is {X = Bool × ℕ} (nat_eq a.0.0 1, a.0.1) x a.2) (
    record { reads = by_flag a.0.0 t.2 a.0.1 t.0; fits = tt }
    )
  where
    by_flag : (n : ℕ) → IsInRange 0 1 n → (after : ℕ) → Reads bytes at (u8_bytes n) after → Reads bytes at (flag_bytes (nat_eq n 1)) after
    by_flag zero range after r = r
    by_flag (suc zero) range after r = r
    by_flag (suc (suc n)) range after r = absurd (omega (arith, range.1))

-- ---- an item that may be there

shown_again : (bytes : List ℕ) (at : ℕ) (item : Option Item) → IsWellFormedShown item → IsAt bytes at (shown_item_bytes item)
    → shown_item_at bytes at ≡ Ok (item, at + length (shown_item_bytes item))
shown_again bytes at None w h = rw (flag_again bytes at false h) refl
shown_again bytes at (Some item) w h =
    let p = apart-2 bytes at (u8_bytes 1) (item_bytes item) h in
    let flag = flag_again bytes at true p.0 in
    let e = item_again bytes (at + 1) item w p.1 in
    rw (flag, e) (ap (λ n. done (Some item, n)) (end-2 at (u8_bytes 1) (item_bytes item)))

shown_takes : (bytes : List ℕ) (at : ℕ) (x : Option Item × ℕ) → IsBytes bytes → shown_item_at bytes at ≡ Ok x → IsFound bytes shown_item_bytes IsWellFormedShown at x
shown_takes bytes at x h e =
    let a = bind_ok (flag_at bytes at) (λ flag. cond flag.0 (some_item_at bytes flag.1) (done (None, flag.1))) x e in
    let t = flag_takes bytes at a.0 h a.1 in
    by_flag a.0.0 a.0.1 t.reads a.2
  where
    by_flag : (flag : Bool) (middle : ℕ) → Reads bytes at (flag_bytes flag) middle → cond flag (some_item_at bytes middle) (done (None, middle)) ≡ Ok x
        → IsFound bytes shown_item_bytes IsWellFormedShown at x
    by_flag true middle first e =
        let b = bind_ok (item_at bytes middle) (λ item. done (Some item.0, item.1)) x e in
        let s = item_takes bytes middle b.0 h b.1 in
        subst (IsFound bytes shown_item_bytes IsWellFormedShown at) (ok_is {X = Option Item × ℕ} (Some b.0.0, b.0.1) x b.2) (record {
          reads = Reads-then bytes at (u8_bytes 1) middle (item_bytes b.0.0) b.0.1 first s.reads;
          fits = s.fits;
        })
    by_flag false middle first e =
        subst (IsFound bytes shown_item_bytes IsWellFormedShown at) (ok_is {X = Option Item × ℕ} (None, middle) x e) (record { reads = first; fits = tt })

-- ---- why no transaction was begun

stale_again : (bytes : List ℕ) (at : ℕ) (token : Token) → IsWellFormedRefusal (Stale token) → IsAt bytes at (u64_bytes token.version ++ seen_bytes token.seen)
    → stale_at bytes at ≡ Ok (Stale (record { version = token.version; seen = token.seen }), at + length (u64_bytes token.version ++ seen_bytes token.seen))
stale_again bytes at token w h =
    let p = apart-2 bytes at (u64_bytes token.version) (seen_bytes token.seen) h in
    let e0 = u64_again bytes at token.version w.version p.0 in
    let e1 = seen_again bytes (at + length (u64_bytes token.version)) token.seen w.seen p.1 in
    rw (e0, e1) (ap (λ n. done (Stale (record { version = token.version; seen = token.seen }), n)) (end-2 at (u64_bytes token.version) (seen_bytes token.seen)))

stale_takes : (bytes : List ℕ) (start at : ℕ) → IsBytes bytes → (x : BeginFault × ℕ) → Reads bytes start (u8_bytes 1) at → stale_at bytes at ≡ Ok x
    → IsFound bytes begin_fault_bytes IsWellFormedRefusal start x
stale_takes bytes start at h x tag e =
    let a0 = bind_ok (u64_at bytes at) (λ version. seen_at bytes version.1 >>= λ seen. done (Stale (record { version = version.0; seen = seen.0 }), seen.1)) x e in
    let a1 = bind_ok (seen_at bytes a0.0.1) (λ seen. done (Stale (record { version = a0.0.0; seen = seen.0 }), seen.1)) x a0.2 in
    let t0 = u64_takes bytes at a0.0 h a0.1 in
    let t1 = seen_takes bytes a0.0.1 a1.0 h a1.1 in
    subst (IsFound bytes begin_fault_bytes IsWellFormedRefusal start) (ok_is {X = BeginFault × ℕ} (Stale (record { version = a0.0.0; seen = a1.0.0 }), a1.0.1) x a1.2) (record {
      reads = Reads-then bytes start (u8_bytes 1 ++ u64_bytes a0.0.0) a0.0.1 (seen_bytes a1.0.0) a1.0.1 (Reads-then bytes start (u8_bytes 1) at (u64_bytes a0.0.0) a0.0.1 tag t0.0) t1.reads;
      fits = record { version = t0.1; seen = t1.fits };
    })

unseen_again : (bytes : List ℕ) (at : ℕ) (version : ℕ) → IsWellFormedRefusal (Unseen version) → IsAt bytes at (u64_bytes version)
    → unseen_at bytes at ≡ Ok (Unseen version, at + length (u64_bytes version))
unseen_again bytes at version w h =
    let e0 = u64_again bytes at version w h in
    rw (e0) refl

unseen_takes : (bytes : List ℕ) (start at : ℕ) → IsBytes bytes → (x : BeginFault × ℕ) → Reads bytes start (u8_bytes 2) at → unseen_at bytes at ≡ Ok x
    → IsFound bytes begin_fault_bytes IsWellFormedRefusal start x
unseen_takes bytes start at h x tag e =
    let a0 = bind_ok (u64_at bytes at) (λ version. done (Unseen version.0, version.1)) x e in
    let t0 = u64_takes bytes at a0.0 h a0.1 in
    subst (IsFound bytes begin_fault_bytes IsWellFormedRefusal start) (ok_is {X = BeginFault × ℕ} (Unseen a0.0.0, a0.0.1) x a0.2) (record {
      reads = Reads-then bytes start (u8_bytes 2) at (u64_bytes a0.0.0) a0.0.1 tag t0.0;
      fits = t0.1;
    })

begin_fault_again : (bytes : List ℕ) (at : ℕ) (fault : BeginFault) → IsWellFormedRefusal fault → IsAt bytes at (begin_fault_bytes fault)
    → begin_fault_at bytes at ≡ Ok (fault, at + length (begin_fault_bytes fault))
begin_fault_again bytes at (Stale token) w h =
    let p = apart-2 bytes at (u8_bytes 1) (u64_bytes token.version ++ seen_bytes token.seen) h in
    let tag = u8_within_again at 1 5 bytes at 1 (omega arith) (omega arith, omega arith) p.0 in
    let e = stale_again bytes (at + 1) token w p.1 in
    rw (tag, e) (ap (λ n. done (Stale token, n)) (end-2 at (u8_bytes 1) (u64_bytes token.version ++ seen_bytes token.seen)))
begin_fault_again bytes at (Unseen version) w h =
    let p = apart-2 bytes at (u8_bytes 2) (u64_bytes version) h in
    let tag = u8_within_again at 1 5 bytes at 2 (omega arith) (omega arith, omega arith) p.0 in
    let e = unseen_again bytes (at + 1) version w p.1 in
    rw (tag, e) (ap (λ n. done (Unseen version, n)) (end-2 at (u8_bytes 2) (u64_bytes version)))
begin_fault_again bytes at NoItem w h = rw (u8_within_again at 1 5 bytes at 3 (omega arith) (omega arith, omega arith) h) refl
begin_fault_again bytes at Sequence w h = rw (u8_within_again at 1 5 bytes at 4 (omega arith) (omega arith, omega arith) h) refl
begin_fault_again bytes at Busy w h = rw (u8_within_again at 1 5 bytes at 5 (omega arith) (omega arith, omega arith) h) refl
begin_fault_again bytes at Memory w h = absurd w

plain_fault : (bytes : List ℕ) (at middle : ℕ) (fault : BeginFault) → IsWellFormedRefusal fault → (x : BeginFault × ℕ) → Reads bytes at (begin_fault_bytes fault) middle
    → done (fault, middle) ≡ Ok x → IsFound bytes begin_fault_bytes IsWellFormedRefusal at x
plain_fault bytes at middle fault w x tag e =
    subst (IsFound bytes begin_fault_bytes IsWellFormedRefusal at) (ok_is {X = BeginFault × ℕ} (fault, middle) x e) (record { reads = tag; fits = w })

begin_fault_takes : (bytes : List ℕ) (at : ℕ) (x : BeginFault × ℕ) → IsBytes bytes → begin_fault_at bytes at ≡ Ok x → IsFound bytes begin_fault_bytes IsWellFormedRefusal at x
begin_fault_takes bytes at x h e =
    let a = bind_ok (u8_within at 1 5 bytes at) (λ tag. begin_fault_by tag.0 bytes tag.1) x e in
    let t = u8_within_takes at 1 5 bytes at a.0 h a.1 in
    by_5 (λ k. (y : BeginFault × ℕ) → Reads bytes at (u8_bytes k) a.0.1 → begin_fault_by k bytes a.0.1 ≡ Ok y → IsFound bytes begin_fault_bytes IsWellFormedRefusal at y) a.0.0 t.2
    (stale_takes bytes at a.0.1 h)
    (unseen_takes bytes at a.0.1 h)
    (plain_fault bytes at a.0.1 NoItem tt)
    (plain_fault bytes at a.0.1 Sequence tt)
    (plain_fault bytes at a.0.1 Busy tt)
    x t.0 a.2

-- ---- answers

read_answer_again : (bytes : List ℕ) (at : ℕ) (key : List ℕ) (token : Token) (item : Option Item) (due : Bool) → IsWellFormedAnswer (answers.Read key token item due) → IsAt bytes at (key_bytes key ++ u64_bytes token.version ++ shown_item_bytes item ++ seen_bytes token.seen ++ flag_bytes due)
    → read_answer_at bytes at ≡ Ok (answers.Read key (record { version = token.version; seen = token.seen }) item due, at + length (key_bytes key ++ u64_bytes token.version ++ shown_item_bytes item ++ seen_bytes token.seen ++ flag_bytes due))
read_answer_again bytes at key token item due w h =
    let p = apart-5 bytes at (key_bytes key) (u64_bytes token.version) (shown_item_bytes item) (seen_bytes token.seen) (flag_bytes due) h in
    let e0 = key_again bytes at key w.key_itself p.0 in
    let e1 = u64_again bytes (at + length (key_bytes key)) token.version w.token_itself.version p.1 in
    let e2 = shown_again bytes (at + length (key_bytes key) + length (u64_bytes token.version)) item w.item_itself p.2 in
    let e3 = seen_again bytes (at + length (key_bytes key) + length (u64_bytes token.version) + length (shown_item_bytes item)) token.seen w.token_itself.seen p.3 in
    let e4 = flag_again bytes (at + length (key_bytes key) + length (u64_bytes token.version) + length (shown_item_bytes item) + length (seen_bytes token.seen)) due p.4 in
    rw (e0, e1, e2, e3, e4) (ap (λ n. done (answers.Read key (record { version = token.version; seen = token.seen }) item due, n)) (end-5 at (key_bytes key) (u64_bytes token.version) (shown_item_bytes item) (seen_bytes token.seen) (flag_bytes due)))

read_answer_takes : (bytes : List ℕ) (start at : ℕ) → IsBytes bytes → (x : ClientAnswer × ℕ) → Reads bytes start (u8_bytes 1) at → read_answer_at bytes at ≡ Ok x
    → IsFound bytes answer_bytes IsWellFormedAnswer start x
read_answer_takes bytes start at h x tag e =
    let a0 = bind_ok (key_at bytes at) (λ key. u64_at bytes key.1 >>= λ version. shown_item_at bytes version.1 >>= λ item. seen_at bytes item.1 >>= λ seen. flag_at bytes seen.1 >>= λ due. done (answers.Read key.0 (record { version = version.0; seen = seen.0 }) item.0 due.0, due.1)) x e in
    let a1 = bind_ok (u64_at bytes a0.0.1) (λ version. shown_item_at bytes version.1 >>= λ item. seen_at bytes item.1 >>= λ seen. flag_at bytes seen.1 >>= λ due. done (answers.Read a0.0.0 (record { version = version.0; seen = seen.0 }) item.0 due.0, due.1)) x a0.2 in
    let a2 = bind_ok (shown_item_at bytes a1.0.1) (λ item. seen_at bytes item.1 >>= λ seen. flag_at bytes seen.1 >>= λ due. done (answers.Read a0.0.0 (record { version = a1.0.0; seen = seen.0 }) item.0 due.0, due.1)) x a1.2 in
    let a3 = bind_ok (seen_at bytes a2.0.1) (λ seen. flag_at bytes seen.1 >>= λ due. done (answers.Read a0.0.0 (record { version = a1.0.0; seen = seen.0 }) a2.0.0 due.0, due.1)) x a2.2 in
    let a4 = bind_ok (flag_at bytes a3.0.1) (λ due. done (answers.Read a0.0.0 (record { version = a1.0.0; seen = a3.0.0 }) a2.0.0 due.0, due.1)) x a3.2 in
    let t0 = key_takes bytes at a0.0 h a0.1 in
    let t1 = u64_takes bytes a0.0.1 a1.0 h a1.1 in
    let t2 = shown_takes bytes a1.0.1 a2.0 h a2.1 in
    let t3 = seen_takes bytes a2.0.1 a3.0 h a3.1 in
    let t4 = flag_takes bytes a3.0.1 a4.0 h a4.1 in
    subst (IsFound bytes answer_bytes IsWellFormedAnswer start) (ok_is {X = ClientAnswer × ℕ} (answers.Read a0.0.0 (record { version = a1.0.0; seen = a3.0.0 }) a2.0.0 a4.0.0, a4.0.1) x a4.2) (record {
      reads = Reads-then bytes start (u8_bytes 1 ++ key_bytes a0.0.0 ++ u64_bytes a1.0.0 ++ shown_item_bytes a2.0.0 ++ seen_bytes a3.0.0) a3.0.1 (flag_bytes a4.0.0) a4.0.1 (Reads-then bytes start (u8_bytes 1 ++ key_bytes a0.0.0 ++ u64_bytes a1.0.0 ++ shown_item_bytes a2.0.0) a2.0.1 (seen_bytes a3.0.0) a3.0.1 (Reads-then bytes start (u8_bytes 1 ++ key_bytes a0.0.0 ++ u64_bytes a1.0.0) a1.0.1 (shown_item_bytes a2.0.0) a2.0.1 (Reads-then bytes start (u8_bytes 1 ++ key_bytes a0.0.0) a0.0.1 (u64_bytes a1.0.0) a1.0.1 (Reads-then bytes start (u8_bytes 1) at (key_bytes a0.0.0) a0.0.1 tag t0.reads) t1.0) t2.reads) t3.reads) t4.reads;
      fits = record { key_itself = t0.fits; token_itself = record { version = t1.1; seen = t3.fits }; item_itself = t2.fits };
    })

begun_answer_again : (bytes : List ℕ) (at : ℕ) (tx : TxId) → IsWellFormedAnswer (answers.Begun tx) → IsAt bytes at (tx_bytes tx)
    → begun_answer_at bytes at ≡ Ok (answers.Begun tx, at + length (tx_bytes tx))
begun_answer_again bytes at tx w h =
    let e0 = tx_again bytes at tx w h in
    rw (e0) refl

begun_answer_takes : (bytes : List ℕ) (start at : ℕ) → IsBytes bytes → (x : ClientAnswer × ℕ) → Reads bytes start (u8_bytes 2) at → begun_answer_at bytes at ≡ Ok x
    → IsFound bytes answer_bytes IsWellFormedAnswer start x
begun_answer_takes bytes start at h x tag e =
    let a0 = bind_ok (tx_at bytes at) (λ tx. done (answers.Begun tx.0, tx.1)) x e in
    let t0 = tx_takes bytes at a0.0 h a0.1 in
    subst (IsFound bytes answer_bytes IsWellFormedAnswer start) (ok_is {X = ClientAnswer × ℕ} (answers.Begun a0.0.0, a0.0.1) x a0.2) (record {
      reads = Reads-then bytes start (u8_bytes 2) at (tx_bytes a0.0.0) a0.0.1 tag t0.reads;
      fits = t0.fits;
    })

refused_answer_again : (bytes : List ℕ) (at : ℕ) (key : List ℕ) (fault : BeginFault) → IsWellFormedAnswer (answers.Refused key fault) → IsAt bytes at (key_bytes key ++ begin_fault_bytes fault)
    → refused_answer_at bytes at ≡ Ok (answers.Refused key fault, at + length (key_bytes key ++ begin_fault_bytes fault))
refused_answer_again bytes at key fault w h =
    let p = apart-2 bytes at (key_bytes key) (begin_fault_bytes fault) h in
    let e0 = key_again bytes at key w.0 p.0 in
    let e1 = begin_fault_again bytes (at + length (key_bytes key)) fault w.1 p.1 in
    rw (e0, e1) (ap (λ n. done (answers.Refused key fault, n)) (end-2 at (key_bytes key) (begin_fault_bytes fault)))

refused_answer_takes : (bytes : List ℕ) (start at : ℕ) → IsBytes bytes → (x : ClientAnswer × ℕ) → Reads bytes start (u8_bytes 3) at → refused_answer_at bytes at ≡ Ok x
    → IsFound bytes answer_bytes IsWellFormedAnswer start x
refused_answer_takes bytes start at h x tag e =
    let a0 = bind_ok (key_at bytes at) (λ key. begin_fault_at bytes key.1 >>= λ fault. done (answers.Refused key.0 fault.0, fault.1)) x e in
    let a1 = bind_ok (begin_fault_at bytes a0.0.1) (λ fault. done (answers.Refused a0.0.0 fault.0, fault.1)) x a0.2 in
    let t0 = key_takes bytes at a0.0 h a0.1 in
    let t1 = begin_fault_takes bytes a0.0.1 a1.0 h a1.1 in
    subst (IsFound bytes answer_bytes IsWellFormedAnswer start) (ok_is {X = ClientAnswer × ℕ} (answers.Refused a0.0.0 a1.0.0, a1.0.1) x a1.2) (record {
      reads = Reads-then bytes start (u8_bytes 3 ++ key_bytes a0.0.0) a0.0.1 (begin_fault_bytes a1.0.0) a1.0.1 (Reads-then bytes start (u8_bytes 3) at (key_bytes a0.0.0) a0.0.1 tag t0.reads) t1.reads;
      fits = (t0.fits, t1.fits);
    })

heard_answer_again : (bytes : List ℕ) (at : ℕ) (tx : TxId) (commit : Bool) → IsWellFormedAnswer (answers.Heard tx commit) → IsAt bytes at (tx_bytes tx ++ flag_bytes commit)
    → heard_answer_at bytes at ≡ Ok (answers.Heard tx commit, at + length (tx_bytes tx ++ flag_bytes commit))
heard_answer_again bytes at tx commit w h =
    let p = apart-2 bytes at (tx_bytes tx) (flag_bytes commit) h in
    let e0 = tx_again bytes at tx w p.0 in
    let e1 = flag_again bytes (at + length (tx_bytes tx)) commit p.1 in
    rw (e0, e1) (ap (λ n. done (answers.Heard tx commit, n)) (end-2 at (tx_bytes tx) (flag_bytes commit)))

heard_answer_takes : (bytes : List ℕ) (start at : ℕ) → IsBytes bytes → (x : ClientAnswer × ℕ) → Reads bytes start (u8_bytes 4) at → heard_answer_at bytes at ≡ Ok x
    → IsFound bytes answer_bytes IsWellFormedAnswer start x
heard_answer_takes bytes start at h x tag e =
    let a0 = bind_ok (tx_at bytes at) (λ tx. flag_at bytes tx.1 >>= λ commit. done (answers.Heard tx.0 commit.0, commit.1)) x e in
    let a1 = bind_ok (flag_at bytes a0.0.1) (λ commit. done (answers.Heard a0.0.0 commit.0, commit.1)) x a0.2 in
    let t0 = tx_takes bytes at a0.0 h a0.1 in
    let t1 = flag_takes bytes a0.0.1 a1.0 h a1.1 in
    subst (IsFound bytes answer_bytes IsWellFormedAnswer start) (ok_is {X = ClientAnswer × ℕ} (answers.Heard a0.0.0 a1.0.0, a1.0.1) x a1.2) (record {
      reads = Reads-then bytes start (u8_bytes 4 ++ tx_bytes a0.0.0) a0.0.1 (flag_bytes a1.0.0) a1.0.1 (Reads-then bytes start (u8_bytes 4) at (tx_bytes a0.0.0) a0.0.1 tag t0.reads) t1.reads;
      fits = t0.fits;
    })

draft_again : (bytes : List ℕ) (at : ℕ) (fault : DraftFault) → IsAt bytes at (u8_bytes (draft_fault_number fault))
    → draft_answer_at bytes at ≡ Ok (answers.Draft fault, at + 1)
draft_again bytes at Empty h = rw (u8_within_again at 1 6 bytes at 1 (omega arith) (omega arith, omega arith) h) refl
draft_again bytes at TooMany h = rw (u8_within_again at 1 6 bytes at 2 (omega arith) (omega arith, omega arith) h) refl
draft_again bytes at RepeatedKey h = rw (u8_within_again at 1 6 bytes at 3 (omega arith) (omega arith, omega arith) h) refl
draft_again bytes at BadAttribute h = rw (u8_within_again at 1 6 bytes at 4 (omega arith) (omega arith, omega arith) h) refl
draft_again bytes at ZeroAmount h = rw (u8_within_again at 1 6 bytes at 5 (omega arith) (omega arith, omega arith) h) refl
draft_again bytes at OutOfBounds h = rw (u8_within_again at 1 6 bytes at 6 (omega arith) (omega arith, omega arith) h) refl

draft_number : (n : ℕ) → IsInRange 1 6 n → draft_fault_number (draft_fault_of n) ≡ n
draft_number n range = by_6 (λ k. draft_fault_number (draft_fault_of k) ≡ k) n range refl refl refl refl refl refl

draft_takes : (bytes : List ℕ) (start at : ℕ) → IsBytes bytes → (x : ClientAnswer × ℕ) → Reads bytes start (u8_bytes 5) at → draft_answer_at bytes at ≡ Ok x
    → IsFound bytes answer_bytes IsWellFormedAnswer start x
draft_takes bytes start at h x tag e =
    let a = bind_ok (u8_within at 1 6 bytes at) (λ fault. done (answers.Draft (draft_fault_of fault.0), fault.1)) x e in
    let t = u8_within_takes at 1 6 bytes at a.0 h a.1 in
    let same : Reads bytes at (u8_bytes (draft_fault_number (draft_fault_of a.0.0))) a.0.1 = subst (λ n. Reads bytes at (u8_bytes n) a.0.1) (sym (draft_number a.0.0 t.2)) t.0 in
    subst (IsFound bytes answer_bytes IsWellFormedAnswer start) (ok_is {X = ClientAnswer × ℕ} (answers.Draft (draft_fault_of a.0.0), a.0.1) x a.2) (record {
      reads = Reads-then bytes start (u8_bytes 5) at (u8_bytes (draft_fault_number (draft_fault_of a.0.0))) a.0.1 tag same;
      fits = tt;
    })

pub answer_again : (bytes : List ℕ) (at : ℕ) (answer : ClientAnswer) → IsWellFormedAnswer answer → IsAt bytes at (answer_bytes answer)
    → answer_at bytes at ≡ Ok (answer, at + length (answer_bytes answer))
answer_again bytes at (answers.Read key token item due) w h =
    let p = apart-2 bytes at (u8_bytes 1) (key_bytes key ++ u64_bytes token.version ++ shown_item_bytes item ++ seen_bytes token.seen ++ flag_bytes due) h in
    let tag = u8_within_again at 1 5 bytes at 1 (omega arith) (omega arith, omega arith) p.0 in
    let e = read_answer_again bytes (at + 1) key token item due w p.1 in
    rw (tag, e) (ap (λ n. done (answers.Read key token item due, n)) (end-2 at (u8_bytes 1) (key_bytes key ++ u64_bytes token.version ++ shown_item_bytes item ++ seen_bytes token.seen ++ flag_bytes due)))
answer_again bytes at (answers.Begun tx) w h =
    let p = apart-2 bytes at (u8_bytes 2) (tx_bytes tx) h in
    let tag = u8_within_again at 1 5 bytes at 2 (omega arith) (omega arith, omega arith) p.0 in
    let e = begun_answer_again bytes (at + 1) tx w p.1 in
    rw (tag, e) (ap (λ n. done (answers.Begun tx, n)) (end-2 at (u8_bytes 2) (tx_bytes tx)))
answer_again bytes at (answers.Refused key fault) w h =
    let p = apart-2 bytes at (u8_bytes 3) (key_bytes key ++ begin_fault_bytes fault) h in
    let tag = u8_within_again at 1 5 bytes at 3 (omega arith) (omega arith, omega arith) p.0 in
    let e = refused_answer_again bytes (at + 1) key fault w p.1 in
    rw (tag, e) (ap (λ n. done (answers.Refused key fault, n)) (end-2 at (u8_bytes 3) (key_bytes key ++ begin_fault_bytes fault)))
answer_again bytes at (answers.Heard tx commit) w h =
    let p = apart-2 bytes at (u8_bytes 4) (tx_bytes tx ++ flag_bytes commit) h in
    let tag = u8_within_again at 1 5 bytes at 4 (omega arith) (omega arith, omega arith) p.0 in
    let e = heard_answer_again bytes (at + 1) tx commit w p.1 in
    rw (tag, e) (ap (λ n. done (answers.Heard tx commit, n)) (end-2 at (u8_bytes 4) (tx_bytes tx ++ flag_bytes commit)))
answer_again bytes at (answers.Draft fault) w h =
    let p = apart-2 bytes at (u8_bytes 5) (u8_bytes (draft_fault_number fault)) h in
    let tag = u8_within_again at 1 5 bytes at 5 (omega arith) (omega arith, omega arith) p.0 in
    let e = draft_again bytes (at + 1) fault p.1 in
    rw (tag, e) (ap (λ n. done (answers.Draft fault, n)) (end-2 at (u8_bytes 5) (u8_bytes (draft_fault_number fault))))

pub answer_takes : (bytes : List ℕ) (at : ℕ) (x : ClientAnswer × ℕ) → IsBytes bytes → answer_at bytes at ≡ Ok x → IsFound bytes answer_bytes IsWellFormedAnswer at x
answer_takes bytes at x h e =
    let a = bind_ok (u8_within at 1 5 bytes at) (λ tag. answer_by tag.0 bytes tag.1) x e in
    let t = u8_within_takes at 1 5 bytes at a.0 h a.1 in
    by_5 (λ k. (y : ClientAnswer × ℕ) → Reads bytes at (u8_bytes k) a.0.1 → answer_by k bytes a.0.1 ≡ Ok y → IsFound bytes answer_bytes IsWellFormedAnswer at y) a.0.0 t.2
    (read_answer_takes bytes at a.0.1 h)
    (begun_answer_takes bytes at a.0.1 h)
    (refused_answer_takes bytes at a.0.1 h)
    (heard_answer_takes bytes at a.0.1 h)
    (draft_takes bytes at a.0.1 h)
    x t.0 a.2
