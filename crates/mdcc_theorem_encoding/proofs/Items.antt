-- Items and what is done to them: what is read is what is spelled.
use Rattle.std.proofs.Common.{◌≡◌, ℕ, ℤ, pos, negsuc, suc, ◌+◌, ◌-◌, ◌^◌, ◌<◌, ◌≤◌, Bool, true, false, cond, ltb, List, [], ◌∷◌, ◌++◌, length, take, drop, Ok, Option, Some, None, refl, sym, ap, subst, arith}
use Rattle.std.specs.Prelude.{FitsSigned, not, nat_lt, ◌==◌}
use Rattle.std.specs.Int.{w64, IsInRange, cast_signed, cast_unsigned}
use Rattle.std.specs.List.{AllByRecursion}
use Rattle.std.proofs.lemmas.Bool.{ltb-false, le-ltb, eqb-true, eqb-false}
use Rattle.std.proofs.lemmas.Int.{to_z-of_z, of_z-to_z}
use Rattle.std.proofs.lemmas.List.{length-take, length-drop}
use Rattle.std.proofs.Math.Facts.{sfits_to_z, Fits-of_lt}
use Rattle.mdcc_base.specs.declared.identifiers.TxId.{TxId}
use Rattle.mdcc_base.specs.Key.{key_lt}
use Rattle.mdcc_base.specs.TxId.{tx_lt}
use Rattle.mdcc_option.specs.Transaction.{is_zero_amount}
use Rattle.mdcc_option.specs.declared.items.Item.{Item}
use Rattle.mdcc_option.specs.declared.items.Part.{Part}
use Rattle.mdcc_option.specs.declared.items.Delta.{Delta}
use Rattle.mdcc_option.specs.declared.items.Update.{Update}
use Rattle.mdcc_option.specs.declared.items.Update.TheVariants.{Write, Add}
use Rattle.mdcc_def_messages.specs.declared.wire.WireFault.{WireFault}
use Rattle.mdcc_def_messages.specs.declared.wire.WireFault.TheVariants.{Truncated, Range}
use Rattle.mdcc_def_messages.specs.Bytes.{u8_bytes, u64_bytes, i64_bytes, counted_bytes}
use Rattle.mdcc_def_messages.specs.SpelledParts.{key_bytes, tx_bytes, item_bytes, seen_bytes, amount_bytes, amounts_bytes, update_bytes, part_bytes, delta_bytes, written_bytes, write_set_bytes}
use Rattle.mdcc_def_messages.specs.ReadingSteps.{◌>>=◌, u64_at, i64_at, checked, is_after, fault_unless_after, u8_within, list_at}
use Rattle.mdcc_def_messages.specs.ReadingParts.{key_at, tx_at, body_by, item_at, tx_behind, seen_at, not_zero, amount_behind, amounts_at, write_at, add_at, update_at, part_behind, delta_behind, written_behind, write_set_at}
use Rattle.mdcc_def_messages.specs.WellFormedParts.{IsWellFormedTx, IsWellFormedItem, IsWellFormedSeen, IsWellFormedAmount, IsWellFormedAmounts, IsWellFormedUpdate, IsWellFormedPart, IsWellFormedDelta, IsWellFormedWritten, IsWellFormedWriteSet}
use Rattle.mdcc_theorem_encoding.proofs.Places.{IsAt, IsBytes, IsBytes-at, apart, apart-3, end-2, end-3, taken, stands}
use Rattle.mdcc_theorem_encoding.proofs.Steps.{done, ok_is, bind_ok, guard_ok, checked_ok}
use Rattle.mdcc_theorem_encoding.proofs.Numbers.{Reads, IsFound, u64_again, u64_takes, u8_within_again, u8_within_takes}
use Rattle.mdcc_theorem_encoding.proofs.Lists.{Follows, ReadsAgain, Takes, Reads-then, list_again, list_takes, follows, ascends, behind_true}
use Rattle.mdcc_theorem_encoding.proofs.Identifiers.{key_again, key_takes, tx_again, tx_takes}

-- ---- whole numbers in two's complement

small : (z : ℤ) → FitsSigned w64 z → cast_unsigned w64 z < 2 ^ 64
small (pos n) f = omega (arith, f.sfits)
small (negsuc n) f = omega arith

pub i64_again : (bytes : List ℕ) (at : ℕ) (z : ℤ) → FitsSigned w64 z → IsAt bytes at (i64_bytes z) → i64_at bytes at ≡ Ok (z, at + 8)
i64_again bytes at z f h =
    let read = u64_again bytes at (cast_unsigned w64 z) (small z f) h in
    rw read (ap (λ y. done (y, at + 8)) (to_z-of_z w64 z f))

pub i64_takes : (bytes : List ℕ) (at : ℕ) (x : ℤ × ℕ) → IsBytes bytes → i64_at bytes at ≡ Ok x → IsFound bytes i64_bytes (FitsSigned w64) at x
i64_takes bytes at x h e =
    let a = bind_ok (u64_at bytes at) (λ n. done (cast_signed w64 n.0, n.1)) x e in
    let t = u64_takes bytes at a.0 h a.1 in
    let same : u64_bytes a.0.0 ≡ i64_bytes (cast_signed w64 a.0.0) = ap u64_bytes (sym (of_z-to_z w64 a.0.0 t.1)) in
    subst (IsFound bytes i64_bytes (FitsSigned w64) at) (ok_is (cast_signed w64 a.0.0, a.0.1) x a.2) (record {
      reads = subst (λ text. Reads bytes at text a.0.1) same t.0;
      fits = sfits_to_z (Fits-of_lt t.1);
    })

-- ---- items

body_again : (bytes : List ℕ) (at : ℕ) (body : List ℕ) → body_by bytes (length body) body at ≡ Ok (body, at + length body)
body_again bytes at body = rw (le-ltb (length body) (length body) (omega arith)) refl

-- no order is asked
abbrev unordered : ℤ → ℤ → Bool
unordered a b = true

always : (last : Option ℤ) (z : ℤ) → is_after unordered last z ≡ true
always None z = refl
always (Some last) z = refl

all_follow : (last : Option ℤ) (values : List ℤ) → Follows unordered (λ value. value) last values
all_follow last [] = tt
all_follow last (z ∷ zs) = (always last z, all_follow (Some z) zs)

values_again : (bytes : List ℕ) → ReadsAgain bytes unordered (λ last. i64_at bytes) (λ value. value) i64_bytes (FitsSigned w64)
values_again bytes last at z f after h = i64_again bytes at z f h

values_take : (bytes : List ℕ) → IsBytes bytes → Takes bytes unordered (λ last. i64_at bytes) (λ value. value) i64_bytes (FitsSigned w64)
values_take bytes h last at x e = let t = i64_takes bytes at x h e in (t.reads, t.fits, always last x.0)

pub item_again : (bytes : List ℕ) (at : ℕ) (item : Item) → IsWellFormedItem item → IsAt bytes at (item_bytes item)
    → item_at bytes at ≡ Ok (item, at + length (item_bytes item))
item_again bytes at item w h =
    let p = apart-3 bytes at (u8_bytes (length item.body)) item.body (counted_bytes i64_bytes item.values) h in
    let count = u8_within_again at 0 128 bytes at (length item.body) (omega (arith, w.body_fits)) (omega arith, w.body_fits) p.0 in
    let text : take (length item.body) (drop (at + 1) bytes) ≡ item.body = taken bytes (at + 1) item.body p.1 in
    let body = body_again bytes (at + 1) item.body in
    let values = list_again bytes unordered (λ last. i64_at bytes) (λ value. value) i64_bytes (FitsSigned w64) (values_again bytes) at 1 4 (omega arith)
    (at + 1 + length item.body) item.values w.count w.values (all_follow None item.values) p.2 in
    rw (count, text, body, values) (ap (λ n. done (item, n)) (end-3 at (u8_bytes (length item.body)) item.body (counted_bytes i64_bytes item.values)))

-- bytes that are taken are bytes
each_byte : (text : List ℕ) → IsBytes text → AllByRecursion (λ b. b < 2 ^ 8) text
each_byte [] h = tt
each_byte (b ∷ text) h = (h 0, each_byte text (λ i. h (suc i)))

pub item_takes : (bytes : List ℕ) (at : ℕ) (x : Item × ℕ) → IsBytes bytes → item_at bytes at ≡ Ok x → IsFound bytes item_bytes IsWellFormedItem at x
item_takes bytes at x h e =
    let a = bind_ok (u8_within at 0 128 bytes at) (λ count. body_by bytes count.0 (take count.0 (drop count.1 bytes)) count.1 >>= λ body. list_at at 1 4 (λ last. i64_at bytes) (λ value. value) bytes body.1 >>= λ values. done (record { body = body.0; values = values.0 }, values.1)) x e in
    let text = take a.0.0 (drop a.0.1 bytes) in
    let b = bind_ok (body_by bytes a.0.0 text a.0.1) (λ body. list_at at 1 4 (λ last. i64_at bytes) (λ value. value) bytes body.1 >>= λ values. done (record { body = body.0; values = values.0 }, values.1)) x a.2 in
    let c = bind_ok (list_at at 1 4 (λ last. i64_at bytes) (λ value. value) bytes b.0.1) (λ values. done (record { body = b.0.0; values = values.0 }, values.1)) x b.2 in
    let count = u8_within_takes at 0 128 bytes at a.0 h a.1 in
    let long = guard_ok (ltb (length text) a.0.0) (Truncated (length bytes)) (text, a.0.1 + a.0.0) b.0 b.1 in
    let enough : a.0.0 ≤ length text = ltb-false (length text) a.0.0 long.0 in
    let len : length text ≡ a.0.0 = omega (arith, length-take a.0.0 (drop a.0.1 bytes), enough) in
    let within : a.0.0 ≤ length bytes - a.0.1 = omega (arith, length-take a.0.0 (drop a.0.1 bytes), length-drop a.0.1 bytes, enough) in
    let values = list_takes bytes unordered (λ last. i64_at bytes) (λ value. value) i64_bytes (FitsSigned w64) h (values_take bytes h) at 1 4 b.0.1 c.0 c.1 in
    let first : Reads bytes at (u8_bytes (length text)) a.0.1 = subst (λ n. Reads bytes at (u8_bytes n) a.0.1) (sym len) count.0 in
    let second : Reads bytes a.0.1 text (a.0.1 + a.0.0) = record { is_at = stands bytes a.0.1 a.0.0 within; behind = omega (arith, len) } in
    let front : Reads bytes at (u8_bytes (length text) ++ text) (a.0.1 + a.0.0) = Reads-then bytes at (u8_bytes (length text)) a.0.1 text (a.0.1 + a.0.0) first second in
    let both : Reads bytes at (u8_bytes (length b.0.0) ++ b.0.0) b.0.1 = subst (λ y. Reads bytes at (u8_bytes (length y.0) ++ y.0) y.1) long.1 front in
    let plain : (length b.0.0 ≤ 128) × AllByRecursion (λ y. y < 2 ^ 8) b.0.0 =
    subst (λ (y : List ℕ × ℕ). (length y.0 ≤ 128) × AllByRecursion (λ z. z < 2 ^ 8) y.0) long.1 (omega (arith, len, count.2.1), each_byte text (IsBytes-at a.0.0 a.0.1 bytes h)) in
    subst (IsFound bytes item_bytes IsWellFormedItem at) (ok_is (record { body = b.0.0; values = c.0.0 }, c.0.1) x c.2) (record {
      reads = Reads-then bytes at (u8_bytes (length b.0.0) ++ b.0.0) b.0.1 (counted_bytes i64_bytes c.0.0) c.0.1 both values.reads;
      fits = record { body_fits = plain.0; bytes = plain.1; count = values.count; values = values.fits };
    })

-- ---- transactions that were seen

pub tx_behind_again : (part : ℕ) (bytes : List ℕ) → ReadsAgain bytes tx_lt (tx_behind part bytes) (λ tx. tx) tx_bytes IsWellFormedTx
tx_behind_again part bytes last at tx t after h = rw (tx_again bytes at tx t h, after) refl

pub tx_behind_takes : (part : ℕ) (bytes : List ℕ) → IsBytes bytes → Takes bytes tx_lt (tx_behind part bytes) (λ tx. tx) tx_bytes IsWellFormedTx
tx_behind_takes part bytes h last at x e =
    let c = checked_ok (fault_unless_after tx_lt part last) (tx_at bytes at) x e in
    let t = tx_takes bytes at x h c.1 in
    (t.reads, t.fits, behind_true tx_lt part last x.0 c.0)

pub seen_again : (bytes : List ℕ) (at : ℕ) (seen : List TxId) → IsWellFormedSeen seen → IsAt bytes at (seen_bytes seen)
    → seen_at bytes at ≡ Ok (seen, at + length (seen_bytes seen))
seen_again bytes at seen w h =
    list_again bytes tx_lt (tx_behind at bytes) (λ tx. tx) tx_bytes IsWellFormedTx (tx_behind_again at bytes) at 0 64 (omega arith) at seen
    (omega arith, w.few) w.each (follows tx_lt (λ tx. tx) seen w.ascending) h

pub seen_takes : (bytes : List ℕ) (at : ℕ) (x : List TxId × ℕ) → IsBytes bytes → seen_at bytes at ≡ Ok x → IsFound bytes seen_bytes IsWellFormedSeen at x
seen_takes bytes at x h e =
    let l = list_takes bytes tx_lt (tx_behind at bytes) (λ tx. tx) tx_bytes IsWellFormedTx h (tx_behind_takes at bytes h) at 0 64 at x e in
    record { reads = l.reads; fits = record { few = l.count.1; each = l.fits; ascending = ascends tx_lt (λ tx. tx) None x.0 l.follows } }

-- ---- amounts

amount_again : (part : ℕ) (bytes : List ℕ) → ReadsAgain bytes nat_lt (amount_behind part bytes) (λ amount. amount.0) amount_bytes IsWellFormedAmount
amount_again part bytes last at amount w after h =
    let p = apart bytes at (u8_bytes amount.0) (i64_bytes amount.1) h in
    let attribute = u8_within_again part 1 4 bytes at amount.0 (omega (arith, w.attribute.1)) w.attribute p.first in
    let z = i64_again bytes (at + 1) amount.1 w.fits p.second in
    let passes : is_zero_amount (0, amount.1) ≡ false = not_false (is_zero_amount amount) w.not_zero in
    rw (attribute, after, z, passes) (ap (λ n. done (amount, n)) (omega arith))
  where
    not_false : (b : Bool) → not b ≡ true → b ≡ false
    not_false true e = absurd cc
    not_false false e = refl

amount_takes : (part : ℕ) (bytes : List ℕ) → IsBytes bytes → Takes bytes nat_lt (amount_behind part bytes) (λ amount. amount.0) amount_bytes IsWellFormedAmount
amount_takes part bytes h last at x e =
    let a = bind_ok (checked (fault_unless_after nat_lt part last) (u8_within part 1 4 bytes at)) (λ attribute. checked (not_zero part) (i64_at bytes attribute.1) >>= λ amount. done ((attribute.0, amount.0), amount.1)) x e in
    let b = bind_ok (checked (not_zero part) (i64_at bytes a.0.1)) (λ amount. done ((a.0.0, amount.0), amount.1)) x a.2 in
    let a' = checked_ok (fault_unless_after nat_lt part last) (u8_within part 1 4 bytes at) a.0 a.1 in
    let b' = checked_ok (not_zero part) (i64_at bytes a.0.1) b.0 b.1 in
    let attribute = u8_within_takes part 1 4 bytes at a.0 h a'.1 in
    let z = i64_takes bytes a.0.1 b.0 h b'.1 in
    let made : (ℕ × ℤ) × ℕ = ((a.0.0, b.0.0), b.0.1) in
    subst (λ (y : (ℕ × ℤ) × ℕ). Reads bytes at (amount_bytes y.0) y.1 × IsWellFormedAmount y.0 × (is_after nat_lt last y.0.0 ≡ true)) (ok_is made x b.2) (
      Reads-then bytes at (u8_bytes a.0.0) a.0.1 (i64_bytes b.0.0) b.0.1 attribute.0 z.reads,
      record { attribute = attribute.2; fits = z.fits; not_zero = no_zero (is_zero_amount (0, b.0.0)) (Range part) b'.0 },
      behind_true nat_lt part last a.0.0 a'.0,
    )
  where
    no_zero : (b : Bool) (fault : WireFault) → cond b (Some fault) None ≡ None → not b ≡ true
    no_zero true fault e = absurd cc
    no_zero false fault e = refl

pub amounts_again : (bytes : List ℕ) (at : ℕ) (amounts : List (ℕ × ℤ)) → IsWellFormedAmounts amounts → IsAt bytes at (amounts_bytes amounts)
    → amounts_at bytes at ≡ Ok (amounts, at + length (amounts_bytes amounts))
amounts_again bytes at amounts w h =
    list_again bytes nat_lt (amount_behind at bytes) (λ amount. amount.0) amount_bytes IsWellFormedAmount (amount_again at bytes) at 1 4 (omega arith) at amounts
    w.count w.each (follows nat_lt (λ amount. amount.0) amounts w.ascending) h

pub amounts_take : (bytes : List ℕ) (at : ℕ) (x : List (ℕ × ℤ) × ℕ) → IsBytes bytes → amounts_at bytes at ≡ Ok x → IsFound bytes amounts_bytes IsWellFormedAmounts at x
amounts_take bytes at x h e =
    let l = list_takes bytes nat_lt (amount_behind at bytes) (λ amount. amount.0) amount_bytes IsWellFormedAmount h (amount_takes at bytes h) at 1 4 at x e in
    record { reads = l.reads; fits = record { count = l.count; each = l.fits; ascending = ascends nat_lt (λ amount. amount.0) None x.0 l.follows } }

-- ---- updates

pub update_again : (bytes : List ℕ) (at : ℕ) (update : Update) → IsWellFormedUpdate update → IsAt bytes at (update_bytes update)
    → update_at bytes at ≡ Ok (update, at + length (update_bytes update))
update_again bytes at (Write item seen) w h =
    let p = apart-3 bytes at (u8_bytes 1) (item_bytes item) (seen_bytes seen) h in
    let tag = u8_within_again at 1 2 bytes at 1 (omega arith) (omega arith, omega arith) p.0 in
    let first = item_again bytes (at + 1) item w.0 p.1 in
    let second = seen_again bytes (at + 1 + length (item_bytes item)) seen w.1 p.2 in
    rw (tag, first, second) (ap (λ n. done (Write item seen, n)) (end-3 at (u8_bytes 1) (item_bytes item) (seen_bytes seen)))
update_again bytes at (Add amounts) w h =
    let p = apart bytes at (u8_bytes 2) (amounts_bytes amounts) h in
    let tag = u8_within_again at 1 2 bytes at 2 (omega arith) (omega arith, omega arith) p.first in
    let first = amounts_again bytes (at + 1) amounts w p.second in
    rw (tag, first) (ap (λ n. done (Add amounts, n)) (end-2 at (u8_bytes 2) (amounts_bytes amounts)))

write_takes : (bytes : List ℕ) (at middle : ℕ) (x : Update × ℕ) → IsBytes bytes → Reads bytes at (u8_bytes 1) middle → write_at bytes middle ≡ Ok x
    → IsFound bytes update_bytes IsWellFormedUpdate at x
write_takes bytes at middle x h tag e =
    let a = bind_ok (item_at bytes middle) (λ item. seen_at bytes item.1 >>= λ seen. done (Write item.0 seen.0, seen.1)) x e in
    let b = bind_ok (seen_at bytes a.0.1) (λ seen. done (Write a.0.0 seen.0, seen.1)) x a.2 in
    let item = item_takes bytes middle a.0 h a.1 in
    let seen = seen_takes bytes a.0.1 b.0 h b.1 in
    subst (IsFound bytes update_bytes IsWellFormedUpdate at) (ok_is (Write a.0.0 b.0.0, b.0.1) x b.2) (record {
      reads = Reads-then bytes at (u8_bytes 1 ++ item_bytes a.0.0) a.0.1 (seen_bytes b.0.0) b.0.1
          (Reads-then bytes at (u8_bytes 1) middle (item_bytes a.0.0) a.0.1 tag item.reads) seen.reads;
      fits = (item.fits, seen.fits);
    })

add_takes : (bytes : List ℕ) (at middle : ℕ) (x : Update × ℕ) → IsBytes bytes → Reads bytes at (u8_bytes 2) middle → add_at bytes middle ≡ Ok x
    → IsFound bytes update_bytes IsWellFormedUpdate at x
add_takes bytes at middle x h tag e =
    let a = bind_ok (amounts_at bytes middle) (λ amounts. done (Add amounts.0, amounts.1)) x e in
    let amounts = amounts_take bytes middle a.0 h a.1 in
    subst (IsFound bytes update_bytes IsWellFormedUpdate at) (ok_is (Add a.0.0, a.0.1) x a.2) (record {
      reads = Reads-then bytes at (u8_bytes 2) middle (amounts_bytes a.0.0) a.0.1 tag amounts.reads;
      fits = amounts.fits;
    })

pub update_takes : (bytes : List ℕ) (at : ℕ) (x : Update × ℕ) → IsBytes bytes → update_at bytes at ≡ Ok x → IsFound bytes update_bytes IsWellFormedUpdate at x
update_takes bytes at x h e =
    let a = bind_ok (u8_within at 1 2 bytes at) (λ tag. cond (tag.0 == 1) (write_at bytes tag.1) (add_at bytes tag.1)) x e in
    let tag = u8_within_takes at 1 2 bytes at a.0 h a.1 in
    by_tag (a.0.0 == 1) a.0.0 a.0.1 refl tag.0 tag.2 a.2
  where
    by_tag : (b : Bool) (n middle : ℕ) → (n == 1) ≡ b → Reads bytes at (u8_bytes n) middle → IsInRange 1 2 n
        → cond b (write_at bytes middle) (add_at bytes middle) ≡ Ok x → IsFound bytes update_bytes IsWellFormedUpdate at x
    by_tag true n middle is first range e = write_takes bytes at middle x h (subst (λ k. Reads bytes at (u8_bytes k) middle) (eqb-true n 1 is) first) e
    by_tag false n middle is first range e =
        let other = eqb-false n 1 is in
        let two : n ≡ 2 = omega (arith, other, range.0, range.1) in
        add_takes bytes at middle x h (subst (λ k. Reads bytes at (u8_bytes k) middle) two first) e

-- ---- parts and deltas

pub part_again : (part : ℕ) (bytes : List ℕ) → ReadsAgain bytes key_lt (part_behind part bytes) (λ p. p.key) part_bytes IsWellFormedPart
part_again part bytes last at x w after h =
    let p = apart-3 bytes at (key_bytes x.key) (u64_bytes x.version) (update_bytes x.update) h in
    let key = key_again bytes at x.key w.key p.0 in
    let version = u64_again bytes (at + length (key_bytes x.key)) x.version w.version p.1 in
    let update = update_again bytes (at + length (key_bytes x.key) + 8) x.update w.update p.2 in
    rw (key, after, version, update) (ap (λ n. done (x, n)) (end-3 at (key_bytes x.key) (u64_bytes x.version) (update_bytes x.update)))

pub part_takes : (part : ℕ) (bytes : List ℕ) → IsBytes bytes → Takes bytes key_lt (part_behind part bytes) (λ p. p.key) part_bytes IsWellFormedPart
part_takes part bytes h last at x e =
    let a = bind_ok (checked (fault_unless_after key_lt part last) (key_at bytes at)) (λ key. u64_at bytes key.1 >>= λ version. update_at bytes version.1 >>= λ update. done (record { key = key.0; version = version.0; update = update.0 }, update.1)) x e in
    let b = bind_ok (u64_at bytes a.0.1) (λ version. update_at bytes version.1 >>= λ update. done (record { key = a.0.0; version = version.0; update = update.0 }, update.1)) x a.2 in
    let c = bind_ok (update_at bytes b.0.1) (λ update. done (record { key = a.0.0; version = b.0.0; update = update.0 }, update.1)) x b.2 in
    let a' = checked_ok (fault_unless_after key_lt part last) (key_at bytes at) a.0 a.1 in
    let key = key_takes bytes at a.0 h a'.1 in
    let version = u64_takes bytes a.0.1 b.0 h b.1 in
    let update = update_takes bytes b.0.1 c.0 h c.1 in
    let made : Part × ℕ = (record { key = a.0.0; version = b.0.0; update = c.0.0 }, c.0.1) in
    subst (λ (y : Part × ℕ). Reads bytes at (part_bytes y.0) y.1 × IsWellFormedPart y.0 × (is_after key_lt last y.0.key ≡ true)) (ok_is made x c.2) (
      Reads-then bytes at (key_bytes a.0.0 ++ u64_bytes b.0.0) b.0.1 (update_bytes c.0.0) c.0.1
          (Reads-then bytes at (key_bytes a.0.0) a.0.1 (u64_bytes b.0.0) b.0.1 key.reads version.0) update.reads,
      record { key = key.fits; version = version.1; update = update.fits },
      behind_true key_lt part last a.0.0 a'.0,
    )

pub delta_again : (part : ℕ) (bytes : List ℕ) → ReadsAgain bytes tx_lt (delta_behind part bytes) (λ delta. delta.tx) delta_bytes IsWellFormedDelta
delta_again part bytes last at x w after h =
    let p = apart bytes at (tx_bytes x.tx) (amounts_bytes x.amounts) h in
    let tx = tx_again bytes at x.tx w.tx p.first in
    let amounts = amounts_again bytes (at + length (tx_bytes x.tx)) x.amounts w.amounts p.second in
    rw (tx, after, amounts) (ap (λ n. done (x, n)) (end-2 at (tx_bytes x.tx) (amounts_bytes x.amounts)))

pub delta_takes : (part : ℕ) (bytes : List ℕ) → IsBytes bytes → Takes bytes tx_lt (delta_behind part bytes) (λ delta. delta.tx) delta_bytes IsWellFormedDelta
delta_takes part bytes h last at x e =
    let a = bind_ok (tx_behind part bytes last at) (λ tx. amounts_at bytes tx.1 >>= λ amounts. done (record { tx = tx.0; amounts = amounts.0 }, amounts.1)) x e in
    let b = bind_ok (amounts_at bytes a.0.1) (λ amounts. done (record { tx = a.0.0; amounts = amounts.0 }, amounts.1)) x a.2 in
    let tx = tx_behind_takes part bytes h last at a.0 a.1 in
    let amounts = amounts_take bytes a.0.1 b.0 h b.1 in
    let made : Delta × ℕ = (record { tx = a.0.0; amounts = b.0.0 }, b.0.1) in
    subst (λ (y : Delta × ℕ). Reads bytes at (delta_bytes y.0) y.1 × IsWellFormedDelta y.0 × (is_after tx_lt last y.0.tx ≡ true)) (ok_is made x b.2) (
      Reads-then bytes at (tx_bytes a.0.0) a.0.1 (amounts_bytes b.0.0) b.0.1 tx.0 amounts.reads,
      record { tx = tx.1; amounts = amounts.fits },
      tx.2,
    )

-- ---- write sets

written_again : (part : ℕ) (bytes : List ℕ) → ReadsAgain bytes key_lt (written_behind part bytes) (λ written. written.0) written_bytes IsWellFormedWritten
written_again part bytes last at x w after h =
    let p = apart bytes at (key_bytes x.0) (u64_bytes x.1) h in
    let key = key_again bytes at x.0 w.key p.first in
    let version = u64_again bytes (at + length (key_bytes x.0)) x.1 w.version p.second in
    rw (key, after, version) (ap (λ n. done (x, n)) (end-2 at (key_bytes x.0) (u64_bytes x.1)))

written_takes : (part : ℕ) (bytes : List ℕ) → IsBytes bytes → Takes bytes key_lt (written_behind part bytes) (λ written. written.0) written_bytes IsWellFormedWritten
written_takes part bytes h last at x e =
    let a = bind_ok (checked (fault_unless_after key_lt part last) (key_at bytes at)) (λ key. u64_at bytes key.1 >>= λ version. done ((key.0, version.0), version.1)) x e in
    let b = bind_ok (u64_at bytes a.0.1) (λ version. done ((a.0.0, version.0), version.1)) x a.2 in
    let a' = checked_ok (fault_unless_after key_lt part last) (key_at bytes at) a.0 a.1 in
    let key = key_takes bytes at a.0 h a'.1 in
    let version = u64_takes bytes a.0.1 b.0 h b.1 in
    let made : (List ℕ × ℕ) × ℕ = ((a.0.0, b.0.0), b.0.1) in
    subst (λ (y : (List ℕ × ℕ) × ℕ). Reads bytes at (written_bytes y.0) y.1 × IsWellFormedWritten y.0 × (is_after key_lt last y.0.0 ≡ true)) (ok_is made x b.2) (
      Reads-then bytes at (key_bytes a.0.0) a.0.1 (u64_bytes b.0.0) b.0.1 key.reads version.0,
      record { key = key.fits; version = version.1 },
      behind_true key_lt part last a.0.0 a'.0,
    )

pub write_set_again : (bytes : List ℕ) (at : ℕ) (write_set : List (List ℕ × ℕ)) → IsWellFormedWriteSet write_set → IsAt bytes at (write_set_bytes write_set)
    → write_set_at bytes at ≡ Ok (write_set, at + length (write_set_bytes write_set))
write_set_again bytes at write_set w h =
    list_again bytes key_lt (written_behind at bytes) (λ written. written.0) written_bytes IsWellFormedWritten (written_again at bytes) at 1 8 (omega arith) at write_set
    w.count w.each (follows key_lt (λ written. written.0) write_set w.ascending) h

pub write_set_takes : (bytes : List ℕ) (at : ℕ) (x : List (List ℕ × ℕ) × ℕ) → IsBytes bytes → write_set_at bytes at ≡ Ok x
    → IsFound bytes write_set_bytes IsWellFormedWriteSet at x
write_set_takes bytes at x h e =
    let l = list_takes bytes key_lt (written_behind at bytes) (λ written. written.0) written_bytes IsWellFormedWritten h (written_takes at bytes h) at 1 8 at x e in
    record { reads = l.reads; fits = record { count = l.count; each = l.fits; ascending = ascends key_lt (λ written. written.0) None x.0 l.follows } }
