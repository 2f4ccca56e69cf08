-- What messages and facts have in common: what is read is what is spelled.
use Rattle.std.proofs.Common.{◌≡◌, ℕ, zero, suc, ◌+◌, ◌^◌, ◌<◌, ◌≤◌, Bool, true, false, cond, ltb, List, ◌++◌, length, Ok, Some, None, refl, ap, subst, arith, ◌-◌}
use Rattle.std.specs.Int.{IsInRange}
use Rattle.std.proofs.lemmas.Bool.{ltb-false, le-ltb}
use Rattle.mdcc_base.specs.declared.identifiers.TxId.{TxId}
use Rattle.mdcc_base.specs.TxId.{tx_lt}
use Rattle.mdcc_option.specs.declared.items.Item.{Item}
use Rattle.mdcc_option.specs.declared.items.Delta.{Delta}
use Rattle.mdcc_option.specs.declared.choices.Cause.{Cause}
use Rattle.mdcc_option.specs.declared.choices.Cause.TheVariants.{Behind, Classic, Limit, Full}
use Rattle.mdcc_option.specs.declared.choices.Outcome.{Outcome}
use Rattle.mdcc_def_messages.specs.declared.wire.WireFault.{WireFault}
use Rattle.mdcc_def_messages.specs.declared.wire.WireFault.TheVariants.{Range}
use Rattle.mdcc_def_messages.specs.Bytes.{u8_bytes, u64_bytes, counted_bytes, u32_bytes}
use Rattle.mdcc_def_messages.specs.SpelledParts.{key_bytes, tx_bytes, ballot_bytes, item_bytes, delta_bytes, outcome_bytes, cause_bytes, heard_bytes, given_bytes}
use Rattle.mdcc_def_messages.specs.ReadingSteps.{◌>>=◌, u64_at, checked, u8_within, list_at, u32_within}
use Rattle.mdcc_def_messages.specs.ReadingParts.{key_at, tx_at, classic_at, item_at, delta_behind, outcome_at, classic_cause_at, limit_cause_at, cause_by, cause_at}
use Rattle.mdcc_def_messages.specs.Reading.{instance_at, at_least, heard_at, sync_given_at, numbers_at}
use Rattle.mdcc_def_messages.specs.WellFormedParts.{IsWellFormedDelta, IsWellFormedHeard, IsWellFormedCause, IsWellFormedInstance, IsWellFormedGiven, IsWellFormedTx}
use Rattle.mdcc_theorem_encoding.proofs.Places.{IsAt, IsBytes, apart-2, apart-4, end-2, end-4, apart-3, end-3}
use Rattle.mdcc_theorem_encoding.proofs.Steps.{done, ok_is, bind_ok, checked_ok}
use Rattle.mdcc_theorem_encoding.proofs.Numbers.{Reads, IsFound, u64_again, u64_takes, u8_within_again, u8_within_takes, u32_within_again, u32_within_takes}
use Rattle.mdcc_theorem_encoding.proofs.Lists.{Reads-then, list_again, list_takes, follows, ascends}
use Rattle.mdcc_theorem_encoding.proofs.Identifiers.{key_again, key_takes, tx_again, tx_takes, classic_again, classic_takes}
use Rattle.mdcc_theorem_encoding.proofs.Items.{item_again, item_takes, delta_again, delta_takes}
use Rattle.mdcc_theorem_encoding.proofs.Choices.{outcome_again, outcome_takes}

-- ---- numbers that are large enough

pub least_again : (bytes : List ℕ) (at low n : ℕ) → low ≤ n → n < 2 ^ 64 → IsAt bytes at (u64_bytes n) → checked (at_least at low) (u64_at bytes at) ≡ Ok (n, at + 8)
least_again bytes at low n le lt h = rw (u64_again bytes at n lt h, le-ltb n low le) refl

pub least_takes : (bytes : List ℕ) (at low : ℕ) (x : ℕ × ℕ) → IsBytes bytes → checked (at_least at low) (u64_at bytes at) ≡ Ok x
    → Reads bytes at (u64_bytes x.0) x.1 × (x.0 < 2 ^ 64) × (low ≤ x.0)
least_takes bytes at low x h e =
    let c = checked_ok (at_least at low) (u64_at bytes at) x e in
    let t = u64_takes bytes at x h c.1 in
    (t.0, t.1, ltb-false x.0 low (not_found (ltb x.0 low) (Range at) c.0))
  where
    not_found : (b : Bool) (fault : WireFault) → cond b (Some fault) None ≡ None → b ≡ false
    not_found true fault e = absurd cc
    not_found false fault e = refl

-- ---- instances

abbrev pub instance_spelled : List ℕ × ℕ → List ℕ
instance_spelled place = key_bytes place.0 ++ u64_bytes place.1

abbrev pub InstanceFits : List ℕ × ℕ → Type 0
InstanceFits place = IsWellFormedInstance place.0 place.1

pub instance_again : (bytes : List ℕ) (at : ℕ) (key : List ℕ) (version : ℕ) → IsWellFormedInstance key version → IsAt bytes at (key_bytes key ++ u64_bytes version)
    → instance_at bytes at ≡ Ok ((key, version), at + length (key_bytes key ++ u64_bytes version))
instance_again bytes at key version w h =
    let p = apart-2 bytes at (key_bytes key) (u64_bytes version) h in
    let e0 = key_again bytes at key w.key_itself p.0 in
    let e1 = u64_again bytes (at + length (key_bytes key)) version w.version_fits p.1 in
    rw (e0, e1) (ap (λ n. done ((key, version), n)) (end-2 at (key_bytes key) (u64_bytes version)))

pub instance_takes : (bytes : List ℕ) (at : ℕ) (x : (List ℕ × ℕ) × ℕ) → IsBytes bytes → instance_at bytes at ≡ Ok x
    → IsFound bytes instance_spelled InstanceFits at x
instance_takes bytes at x h e =
    let a0 = bind_ok (key_at bytes at) (λ key. u64_at bytes key.1 >>= λ version. done ((key.0, version.0), version.1)) x e in
    let a1 = bind_ok (u64_at bytes a0.0.1) (λ version. done ((a0.0.0, version.0), version.1)) x a0.2 in
    let t0 = key_takes bytes at a0.0 h a0.1 in
    let t1 = u64_takes bytes a0.0.1 a1.0 h a1.1 in
    subst (IsFound bytes instance_spelled InstanceFits at) (ok_is {X = (List ℕ × ℕ) × ℕ} ((a0.0.0, a1.0.0), a1.0.1) x a1.2) (record {
      reads = Reads-then bytes at (key_bytes a0.0.0) a0.0.1 (u64_bytes a1.0.0) a1.0.1 (t0.reads) t1.0;
      fits = record { key_itself = t0.fits; version_fits = t1.1 };
    })

-- ---- a centre, an epoch and a number

abbrev pub numbers_spelled : ℕ × ℕ × ℕ → List ℕ
numbers_spelled numbers = u8_bytes numbers.0 ++ u32_bytes numbers.1 ++ u32_bytes numbers.2

abbrev pub NumbersFit : ℕ × ℕ × ℕ → Type 0
NumbersFit numbers = IsWellFormedTx (record { centre = numbers.0; epoch = numbers.1; seq = numbers.2 })

pub numbers_again : (bytes : List ℕ) (at centre epoch seq : ℕ) → IsWellFormedTx (record { centre = centre; epoch = epoch; seq = seq }) → IsAt bytes at (u8_bytes centre ++ u32_bytes epoch ++ u32_bytes seq)
    → numbers_at bytes at ≡ Ok ((centre, epoch, seq), at + length (u8_bytes centre ++ u32_bytes epoch ++ u32_bytes seq))
numbers_again bytes at centre epoch seq t h =
    let p = apart-3 bytes at (u8_bytes centre) (u32_bytes epoch) (u32_bytes seq) h in
    let e0 = u8_within_again at 1 9 bytes at centre (omega (arith, t.centre.1)) t.centre p.0 in
    let e1 = u32_within_again (at + 1) 1 (2 ^ 32 - 1) bytes (at + 1) epoch (omega (arith, t.epoch.1)) t.epoch p.1 in
    let e2 = u32_within_again (at + 1 + 4) 1 (2 ^ 32 - 1) bytes (at + 1 + 4) seq (omega (arith, t.seq.1)) t.seq p.2 in
    rw (e0, e1, e2) (ap (λ n. done ((centre, epoch, seq), n)) (end-3 at (u8_bytes centre) (u32_bytes epoch) (u32_bytes seq)))

pub numbers_take : (bytes : List ℕ) (at : ℕ) (x : (ℕ × ℕ × ℕ) × ℕ) → IsBytes bytes → numbers_at bytes at ≡ Ok x → IsFound bytes numbers_spelled NumbersFit at x
numbers_take bytes at x h e =
    let a0 = bind_ok (u8_within at 1 9 bytes at) (λ centre. u32_within centre.1 1 (2 ^ 32 - 1) bytes centre.1 >>= λ epoch. u32_within epoch.1 1 (2 ^ 32 - 1) bytes epoch.1 >>= λ seq. done ((centre.0, epoch.0, seq.0), seq.1)) x e in
    let a1 = bind_ok (u32_within a0.0.1 1 (2 ^ 32 - 1) bytes a0.0.1) (λ epoch. u32_within epoch.1 1 (2 ^ 32 - 1) bytes epoch.1 >>= λ seq. done ((a0.0.0, epoch.0, seq.0), seq.1)) x a0.2 in
    let a2 = bind_ok (u32_within a1.0.1 1 (2 ^ 32 - 1) bytes a1.0.1) (λ seq. done ((a0.0.0, a1.0.0, seq.0), seq.1)) x a1.2 in
    let t0 = u8_within_takes at 1 9 bytes at a0.0 h a0.1 in
    let t1 = u32_within_takes a0.0.1 1 (2 ^ 32 - 1) bytes a0.0.1 a1.0 h a1.1 in
    let t2 = u32_within_takes a1.0.1 1 (2 ^ 32 - 1) bytes a1.0.1 a2.0 h a2.1 in
    subst (IsFound bytes numbers_spelled NumbersFit at) (ok_is {X = (ℕ × ℕ × ℕ) × ℕ} ((a0.0.0, a1.0.0, a2.0.0), a2.0.1) x a2.2) (record {
      reads = Reads-then bytes at (u8_bytes a0.0.0 ++ u32_bytes a1.0.0) a1.0.1 (u32_bytes a2.0.0) a2.0.1 (Reads-then bytes at (u8_bytes a0.0.0) a0.0.1 (u32_bytes a1.0.0) a1.0.1 t0.0 t1.0) t2.0;
      fits = record { centre = t0.2; epoch = t1.2; seq = t2.2 };
    })

-- ---- how a transaction ended

abbrev pub heard_spelled : TxId × Outcome → List ℕ
heard_spelled heard = heard_bytes heard.0 heard.1

abbrev pub HeardFits : TxId × Outcome → Type 0
HeardFits heard = IsWellFormedHeard heard.0 heard.1

pub heard_again : (bytes : List ℕ) (at : ℕ) (tx : TxId) (outcome : Outcome) → IsWellFormedHeard tx outcome → IsAt bytes at (heard_bytes tx outcome)
    → heard_at bytes at ≡ Ok ((tx, outcome), at + length (heard_bytes tx outcome))
heard_again bytes at tx outcome w h =
    let p = apart-2 bytes at (tx_bytes tx) (outcome_bytes outcome) h in
    let e0 = tx_again bytes at tx w.tx_itself p.0 in
    let e1 = outcome_again bytes (at + length (tx_bytes tx)) tx outcome w.outcome_itself p.1 in
    rw (e0, e1) (ap (λ n. done ((tx, outcome), n)) (end-2 at (tx_bytes tx) (outcome_bytes outcome)))

pub heard_takes : (bytes : List ℕ) (at : ℕ) (x : (TxId × Outcome) × ℕ) → IsBytes bytes → heard_at bytes at ≡ Ok x
    → IsFound bytes heard_spelled HeardFits at x
heard_takes bytes at x h e =
    let a0 = bind_ok (tx_at bytes at) (λ tx. outcome_at bytes tx.1 tx.0 >>= λ outcome. done ((tx.0, outcome.0), outcome.1)) x e in
    let a1 = bind_ok (outcome_at bytes a0.0.1 a0.0.0) (λ outcome. done ((a0.0.0, outcome.0), outcome.1)) x a0.2 in
    let t0 = tx_takes bytes at a0.0 h a0.1 in
    let t1 = outcome_takes bytes a0.0.1 a0.0.0 a1.0 h a1.1 in
    subst (IsFound bytes heard_spelled HeardFits at) (ok_is {X = (TxId × Outcome) × ℕ} ((a0.0.0, a1.0.0), a1.0.1) x a1.2) (record {
      reads = Reads-then bytes at (tx_bytes a0.0.0) a0.0.1 (outcome_bytes a1.0.0) a1.0.1 (t0.reads) t1.reads;
      fits = record { tx_itself = t0.fits; outcome_itself = t1.fits };
    })

-- ---- what a centre gives another

abbrev pub given_spelled : List ℕ × ℕ × Item × List Delta → List ℕ
given_spelled given = given_bytes given.0 given.1 given.2 given.3

abbrev pub GivenFits : List ℕ × ℕ × Item × List Delta → Type 0
GivenFits given = IsWellFormedGiven given.0 given.1 given.2 given.3

pub given_again : (bytes : List ℕ) (at : ℕ) (key : List ℕ) (version : ℕ) (item : Item) (adds : List Delta) → IsWellFormedGiven key version item adds → IsAt bytes at (given_bytes key version item adds)
    → sync_given_at bytes at ≡ Ok ((key, version, item, adds), at + length (given_bytes key version item adds))
given_again bytes at key version item adds w h =
    let p = apart-4 bytes at (key_bytes key) (u64_bytes version) (item_bytes item) (counted_bytes delta_bytes adds) h in
    let e0 = key_again bytes at key w.instance.key_itself p.0 in
    let e1 = least_again bytes (at + length (key_bytes key)) 1 version w.some_version w.instance.version_fits p.1 in
    let e2 = item_again bytes (at + length (key_bytes key) + length (u64_bytes version)) item w.base p.2 in
    let e3 = list_again bytes tx_lt (delta_behind (at + length (key_bytes key) + length (u64_bytes version) + length (item_bytes item)) bytes) (λ delta. delta.tx) delta_bytes IsWellFormedDelta (delta_again (at + length (key_bytes key) + length (u64_bytes version) + length (item_bytes item)) bytes) (at + length (key_bytes key) + length (u64_bytes version) + length (item_bytes item)) 0 64 (omega arith) (at + length (key_bytes key) + length (u64_bytes version) + length (item_bytes item)) adds (omega arith, w.few) w.each (follows tx_lt (λ delta. delta.tx) adds w.ascending) p.3 in
    rw (e0, e1, e2, e3) (ap (λ n. done ((key, version, item, adds), n)) (end-4 at (key_bytes key) (u64_bytes version) (item_bytes item) (counted_bytes delta_bytes adds)))

pub given_takes : (bytes : List ℕ) (at : ℕ) (x : (List ℕ × ℕ × Item × List Delta) × ℕ) → IsBytes bytes → sync_given_at bytes at ≡ Ok x
    → IsFound bytes given_spelled GivenFits at x
given_takes bytes at x h e =
    let a0 = bind_ok (key_at bytes at) (λ key. checked (at_least key.1 1) (u64_at bytes key.1) >>= λ version. item_at bytes version.1 >>= λ item. list_at item.1 0 64 (delta_behind item.1 bytes) (λ delta. delta.tx) bytes item.1 >>= λ adds. done ((key.0, version.0, item.0, adds.0), adds.1)) x e in
    let a1 = bind_ok (checked (at_least a0.0.1 1) (u64_at bytes a0.0.1)) (λ version. item_at bytes version.1 >>= λ item. list_at item.1 0 64 (delta_behind item.1 bytes) (λ delta. delta.tx) bytes item.1 >>= λ adds. done ((a0.0.0, version.0, item.0, adds.0), adds.1)) x a0.2 in
    let a2 = bind_ok (item_at bytes a1.0.1) (λ item. list_at item.1 0 64 (delta_behind item.1 bytes) (λ delta. delta.tx) bytes item.1 >>= λ adds. done ((a0.0.0, a1.0.0, item.0, adds.0), adds.1)) x a1.2 in
    let a3 = bind_ok (list_at a2.0.1 0 64 (delta_behind a2.0.1 bytes) (λ delta. delta.tx) bytes a2.0.1) (λ adds. done ((a0.0.0, a1.0.0, a2.0.0, adds.0), adds.1)) x a2.2 in
    let t0 = key_takes bytes at a0.0 h a0.1 in
    let t1 = least_takes bytes a0.0.1 1 a1.0 h a1.1 in
    let t2 = item_takes bytes a1.0.1 a2.0 h a2.1 in
    let t3 = list_takes bytes tx_lt (delta_behind a2.0.1 bytes) (λ delta. delta.tx) delta_bytes IsWellFormedDelta h (delta_takes a2.0.1 bytes h) a2.0.1 0 64 a2.0.1 a3.0 a3.1 in
    subst (IsFound bytes given_spelled GivenFits at) (ok_is {X = (List ℕ × ℕ × Item × List Delta) × ℕ} ((a0.0.0, a1.0.0, a2.0.0, a3.0.0), a3.0.1) x a3.2) (record {
      reads = Reads-then bytes at (key_bytes a0.0.0 ++ u64_bytes a1.0.0 ++ item_bytes a2.0.0) a2.0.1 (counted_bytes delta_bytes a3.0.0) a3.0.1 (Reads-then bytes at (key_bytes a0.0.0 ++ u64_bytes a1.0.0) a1.0.1 (item_bytes a2.0.0) a2.0.1 (Reads-then bytes at (key_bytes a0.0.0) a0.0.1 (u64_bytes a1.0.0) a1.0.1 (t0.reads) t1.0) t2.reads) t3.reads;
      fits = record {
        instance = record { key_itself = t0.fits; version_fits = t1.1 };
        some_version = t1.2;
        base = t2.fits;
        few = t3.count.1;
        each = t3.fits;
        ascending = ascends tx_lt (λ delta. delta.tx) None a3.0.0 t3.follows;
      };
    })

-- ---- causes

-- a number from 1 to 4 is one of them
pub by_4 : (P : ℕ → Type 0) (n : ℕ) → IsInRange 1 4 n → P 1 → P 2 → P 3 → P 4 → P n
by_4 P zero range p1 p2 p3 p4 = absurd (omega (arith, range.0))
by_4 P (suc zero) range p1 p2 p3 p4 = p1
by_4 P (suc (suc zero)) range p1 p2 p3 p4 = p2
by_4 P (suc (suc (suc zero))) range p1 p2 p3 p4 = p3
by_4 P (suc (suc (suc (suc zero)))) range p1 p2 p3 p4 = p4
by_4 P (suc (suc (suc (suc (suc n))))) range p1 p2 p3 p4 = absurd (omega (arith, range.1))

pub cause_again : (bytes : List ℕ) (at : ℕ) (cause : Cause) → IsWellFormedCause cause → IsAt bytes at (cause_bytes cause)
    → cause_at bytes at ≡ Ok (cause, at + length (cause_bytes cause))
cause_again bytes at Behind w h = rw (u8_within_again at 1 4 bytes at 1 (omega arith) (omega arith, omega arith) h) refl
cause_again bytes at (Classic ballot) w h =
    let p = apart-2 bytes at (u8_bytes 2) (ballot_bytes ballot) h in
    let tag = u8_within_again at 1 4 bytes at 2 (omega arith) (omega arith, omega arith) p.0 in
    let e = classic_again bytes (at + 1) ballot w p.1 in
    rw (tag, e) (ap (λ n. done (Classic ballot, n)) (end-2 at (u8_bytes 2) (ballot_bytes ballot)))
cause_again bytes at (Limit quantity) w h =
    let p = apart-2 bytes at (u8_bytes 3) (u8_bytes quantity) h in
    let tag = u8_within_again at 1 4 bytes at 3 (omega arith) (omega arith, omega arith) p.0 in
    let e = u8_within_again (at + 1) 0 4 bytes (at + 1) quantity (omega (arith, w)) (omega arith, w) p.1 in
    rw (tag, e) (ap (λ n. done (Limit quantity, n)) (end-2 at (u8_bytes 3) (u8_bytes quantity)))
cause_again bytes at Full w h = rw (u8_within_again at 1 4 bytes at 4 (omega arith) (omega arith, omega arith) h) refl

module _ (bytes : List ℕ) (at middle : ℕ) (h : IsBytes bytes) where
  classic_cause_takes : (x : Cause × ℕ) → Reads bytes at (u8_bytes 2) middle → classic_cause_at bytes middle ≡ Ok x → IsFound bytes cause_bytes IsWellFormedCause at x
  classic_cause_takes x tag e =
      let a = bind_ok (classic_at bytes middle) (λ ballot. done (Classic ballot.0, ballot.1)) x e in
      let t = classic_takes bytes middle a.0 h a.1 in
      subst (IsFound bytes cause_bytes IsWellFormedCause at) (ok_is {X = Cause × ℕ} (Classic a.0.0, a.0.1) x a.2) (record {
        reads = Reads-then bytes at (u8_bytes 2) middle (ballot_bytes a.0.0) a.0.1 tag t.reads;
        fits = t.fits;
      })

  limit_cause_takes : (x : Cause × ℕ) → Reads bytes at (u8_bytes 3) middle → limit_cause_at bytes middle ≡ Ok x → IsFound bytes cause_bytes IsWellFormedCause at x
  limit_cause_takes x tag e =
      let a = bind_ok (u8_within middle 0 4 bytes middle) (λ quantity. done (Limit quantity.0, quantity.1)) x e in
      let t = u8_within_takes middle 0 4 bytes middle a.0 h a.1 in
      subst (IsFound bytes cause_bytes IsWellFormedCause at) (ok_is {X = Cause × ℕ} (Limit a.0.0, a.0.1) x a.2) (record {
        reads = Reads-then bytes at (u8_bytes 3) middle (u8_bytes a.0.0) a.0.1 tag t.0;
        fits = t.2.1;
      })

  cause_by_takes : (n : ℕ) → IsInRange 1 4 n → (x : Cause × ℕ) → Reads bytes at (u8_bytes n) middle → cause_by n bytes middle ≡ Ok x → IsFound bytes cause_bytes IsWellFormedCause at x
  cause_by_takes n range =
      by_4 (λ k. (x : Cause × ℕ) → Reads bytes at (u8_bytes k) middle → cause_by k bytes middle ≡ Ok x → IsFound bytes cause_bytes IsWellFormedCause at x) n range
      (λ x tag e. subst (IsFound bytes cause_bytes IsWellFormedCause at) (ok_is {X = Cause × ℕ} (Behind, middle) x e) (record { reads = tag; fits = tt }))
      classic_cause_takes
      limit_cause_takes
      (λ x tag e. subst (IsFound bytes cause_bytes IsWellFormedCause at) (ok_is {X = Cause × ℕ} (Full, middle) x e) (record { reads = tag; fits = tt }))

pub cause_takes : (bytes : List ℕ) (at : ℕ) (x : Cause × ℕ) → IsBytes bytes → cause_at bytes at ≡ Ok x → IsFound bytes cause_bytes IsWellFormedCause at x
cause_takes bytes at x h e =
    let a = bind_ok (u8_within at 1 4 bytes at) (λ tag. cause_by tag.0 bytes tag.1) x e in
    let t = u8_within_takes at 1 4 bytes at a.0 h a.1 in
    cause_by_takes bytes at a.0.1 h a.0.0 t.2 x t.0 a.2
