-- Keys, identifiers and ballots: what is read is what is spelled.
use Rattle.std.proofs.Common.{◌≡◌, ℕ, zero, suc, ◌+◌, ◌-◌, ◌^◌, ◌<◌, ◌≤◌, Bool, true, false, cond, ltb, List, ◌++◌, length, take, drop, Result, Ok, Err, refl, sym, ap, subst, ◌∙◌, arith, inl, inr}
use Rattle.std.specs.Prelude.{not, min, ◌==◌}
use Rattle.std.specs.Int.{IsInRange}
use Rattle.std.specs.List.{list_all}
use Rattle.std.proofs.lemmas.Bool.{ltb-false, le-ltb, eqb-true, false_from_ne_true}
use Rattle.std.proofs.lemmas.List.{length-take, length-drop}
use Rattle.mdcc_base.specs.declared.identifiers.Ballot.{Ballot}
use Rattle.mdcc_base.specs.declared.identifiers.TxId.{TxId}
use Rattle.mdcc_base.specs.Key.{IsKey, is_key_byte}
use Rattle.mdcc_def_messages.specs.declared.wire.WireFault.{WireFault}
use Rattle.mdcc_def_messages.specs.declared.wire.WireFault.TheVariants.{Truncated, Range}
use Rattle.mdcc_def_messages.specs.Bytes.{u8_bytes, u32_bytes}
use Rattle.mdcc_def_messages.specs.SpelledParts.{key_bytes, tx_bytes, ballot_bytes}
use Rattle.mdcc_def_messages.specs.ReadingSteps.{◌>>=◌, u8_within, u32_within}
use Rattle.mdcc_def_messages.specs.ReadingParts.{key_by, key_at, tx_at, ballot_from, ballot_at, classic_at}
use Rattle.mdcc_def_messages.specs.WellFormedParts.{IsWellFormedTx, IsWellFormedClassic, IsWellFormedBallot}
use Rattle.mdcc_theorem_encoding.proofs.Places.{IsAt, IsBytes, apart, apart-3, end-3, taken, stands}
use Rattle.mdcc_theorem_encoding.proofs.Steps.{done, ok_is, bind_ok, guard_ok}
use Rattle.mdcc_theorem_encoding.proofs.Numbers.{Reads, IsFound, u8_within_again, u8_within_takes, u32_within_again, u32_within_takes}
use Rattle.mdcc_theorem_encoding.proofs.Lists.{Reads-then}

-- ---- keys

key_by_again : (bytes : List ℕ) (at : ℕ) (key : List ℕ) → IsKey key → key_by bytes at (length key) key ≡ Ok (key, at + 1 + length key)
key_by_again bytes at key k =
    let long : ltb (length key) (length key) ≡ false = le-ltb (length key) (length key) (omega arith) in
    rw (k.plain, long) refl

pub key_again : (bytes : List ℕ) (at : ℕ) (key : List ℕ) → IsKey key → IsAt bytes at (key_bytes key) → key_at bytes at ≡ Ok (key, at + length (key_bytes key))
key_again bytes at key k h =
    let parts = apart bytes at (u8_bytes (length key)) key h in
    let count = u8_within_again at 1 32 bytes at (length key) (omega (arith, k.fits)) (k.some, k.fits) parts.first in
    let text : take (length key) (drop (at + 1) bytes) ≡ key = taken bytes (at + 1) key parts.second in
    rw (count, text) (key_by_again bytes at key k ∙ ap (λ n. done (key, n)) (omega arith))

key_by_takes : (bytes : List ℕ) (at count : ℕ) (key : List ℕ) (x : List ℕ × ℕ) → key_by bytes at count key ≡ Ok x
    → (list_all is_key_byte key ≡ true) × (count ≤ length key) × ((key, at + 1 + count) ≡ x)
key_by_takes bytes at count key x e =
    let a = plain_ok (list_all is_key_byte key) (Range at) (cond (ltb (length key) count) (Err (Truncated (length bytes))) (done (key, at + 1 + count))) x e in
    let b = guard_ok (ltb (length key) count) (Truncated (length bytes)) (key, at + 1 + count) x a.1 in
    (a.0, ltb-false (length key) count b.0, b.1)
  where
    plain_ok : (b : Bool) (fault : WireFault) (r : Result (List ℕ × ℕ) WireFault) (x : List ℕ × ℕ) → cond (not b) (Err fault) r ≡ Ok x → (b ≡ true) × (r ≡ Ok x)
    plain_ok true fault r x e = (refl, e)
    plain_ok false fault r x e = absurd cc

pub key_takes : (bytes : List ℕ) (at : ℕ) (x : List ℕ × ℕ) → IsBytes bytes → key_at bytes at ≡ Ok x → IsFound bytes key_bytes IsKey at x
key_takes bytes at x h e =
    let a = bind_ok (u8_within at 1 32 bytes at) (λ count. key_by bytes at count.0 (take count.0 (drop count.1 bytes))) x e in
    let count = u8_within_takes at 1 32 bytes at a.0 h a.1 in
    let text = take a.0.0 (drop a.0.1 bytes) in
    let b = key_by_takes bytes at a.0.0 text x a.2 in
    let len : length text ≡ a.0.0 = omega (arith, length-take a.0.0 (drop a.0.1 bytes), b.1) in
    let within : a.0.0 ≤ length bytes - a.0.1 = omega (arith, length-take a.0.0 (drop a.0.1 bytes), length-drop a.0.1 bytes, b.1) in
    let first : Reads bytes at (u8_bytes (length text)) a.0.1 = subst (λ n. Reads bytes at (u8_bytes n) a.0.1) (sym len) count.0 in
    let second : Reads bytes a.0.1 text (a.0.1 + a.0.0) = record { is_at = stands bytes a.0.1 a.0.0 within; behind = omega (arith, len) } in
    let both : Reads bytes at (key_bytes text) (a.0.1 + a.0.0) = Reads-then bytes at (u8_bytes (length text)) a.0.1 text (a.0.1 + a.0.0) first second in
    let behind : a.0.1 + a.0.0 ≡ at + 1 + a.0.0 = omega (arith, count.0.behind) in
    subst (IsFound bytes key_bytes IsKey at) b.2 (record {
      reads = subst (Reads bytes at (key_bytes text)) behind both;
      fits = record { some = omega (arith, len, count.2.0); fits = omega (arith, len, count.2.1); plain = b.0 };
    })

-- ---- identifiers

pub tx_again : (bytes : List ℕ) (at : ℕ) (tx : TxId) → IsWellFormedTx tx → IsAt bytes at (tx_bytes tx) → tx_at bytes at ≡ Ok (tx, at + length (tx_bytes tx))
tx_again bytes at tx t h =
    let p = apart-3 bytes at (u8_bytes tx.centre) (u32_bytes tx.epoch) (u32_bytes tx.seq) h in
    let centre = u8_within_again at 1 9 bytes at tx.centre (omega (arith, t.centre.1)) t.centre p.0 in
    let epoch = u32_within_again at 1 (2 ^ 32 - 1) bytes (at + 1) tx.epoch (omega (arith, t.epoch.1)) t.epoch p.1 in
    let seq = u32_within_again at 1 (2 ^ 32 - 1) bytes (at + 1 + 4) tx.seq (omega (arith, t.seq.1)) t.seq p.2 in
    rw (centre, epoch, seq) (ap (λ n. done (tx, n)) (end-3 at (u8_bytes tx.centre) (u32_bytes tx.epoch) (u32_bytes tx.seq)))

pub tx_takes : (bytes : List ℕ) (at : ℕ) (x : TxId × ℕ) → IsBytes bytes → tx_at bytes at ≡ Ok x → IsFound bytes tx_bytes IsWellFormedTx at x
tx_takes bytes at x h e =
    let a = bind_ok (u8_within at 1 9 bytes at) (λ centre. u32_within at 1 (2 ^ 32 - 1) bytes centre.1 >>= λ epoch. u32_within at 1 (2 ^ 32 - 1) bytes epoch.1 >>= λ seq. done (record { centre = centre.0; epoch = epoch.0; seq = seq.0 }, seq.1)) x e in
    let b = bind_ok (u32_within at 1 (2 ^ 32 - 1) bytes a.0.1) (λ epoch. u32_within at 1 (2 ^ 32 - 1) bytes epoch.1 >>= λ seq. done (record { centre = a.0.0; epoch = epoch.0; seq = seq.0 }, seq.1)) x a.2 in
    let c = bind_ok (u32_within at 1 (2 ^ 32 - 1) bytes b.0.1) (λ seq. done (record { centre = a.0.0; epoch = b.0.0; seq = seq.0 }, seq.1)) x b.2 in
    let centre = u8_within_takes at 1 9 bytes at a.0 h a.1 in
    let epoch = u32_within_takes at 1 (2 ^ 32 - 1) bytes a.0.1 b.0 h b.1 in
    let seq = u32_within_takes at 1 (2 ^ 32 - 1) bytes b.0.1 c.0 h c.1 in
    let made : TxId × ℕ = (record { centre = a.0.0; epoch = b.0.0; seq = c.0.0 }, c.0.1) in
    subst (IsFound bytes tx_bytes IsWellFormedTx at) (ok_is made x c.2) (record {
      reads = Reads-then bytes at (u8_bytes a.0.0 ++ u32_bytes b.0.0) b.0.1 (u32_bytes c.0.0) c.0.1
          (Reads-then bytes at (u8_bytes a.0.0) a.0.1 (u32_bytes b.0.0) b.0.1 centre.0 epoch.0) seq.0;
      fits = record { centre = centre.2; epoch = epoch.2; seq = seq.2 };
    })

-- ---- ballots

-- a ballot whose round is at least this: where the round is 0 so are the epoch and the centre, elsewhere neither is
pub record FitsFrom (low : ℕ) (ballot : Ballot) : Type 0 where
  pub round : IsInRange low (2 ^ 32 - 1) ballot.round
  pub epoch_small : ballot.epoch < 2 ^ 32
  pub epoch : IsInRange (min 1 ballot.round) (cond (ballot.round == 0) 0 (2 ^ 32 - 1)) ballot.epoch
  pub centre_small : ballot.centre < 2 ^ 8
  pub centre : IsInRange (min 1 ballot.round) (cond (ballot.round == 0) 0 9) ballot.centre

ballot_from_again : (low : ℕ) (bytes : List ℕ) (at : ℕ) (ballot : Ballot) → FitsFrom low ballot → IsAt bytes at (ballot_bytes ballot)
    → ballot_from low bytes at ≡ Ok (ballot, at + length (ballot_bytes ballot))
ballot_from_again low bytes at ballot b h =
    let p = apart-3 bytes at (u32_bytes ballot.round) (u32_bytes ballot.epoch) (u8_bytes ballot.centre) h in
    let round = u32_within_again at low (2 ^ 32 - 1) bytes at ballot.round (omega (arith, b.round.1)) b.round p.0 in
    let epoch = u32_within_again at (min 1 ballot.round) (cond (ballot.round == 0) 0 (2 ^ 32 - 1)) bytes (at + 4) ballot.epoch b.epoch_small b.epoch p.1 in
    let centre = u8_within_again at (min 1 ballot.round) (cond (ballot.round == 0) 0 9) bytes (at + 4 + 4) ballot.centre b.centre_small b.centre p.2 in
    rw (round, epoch, centre) (ap (λ n. done (ballot, n)) (end-3 at (u32_bytes ballot.round) (u32_bytes ballot.epoch) (u8_bytes ballot.centre)))

ballot_from_takes : (low : ℕ) (bytes : List ℕ) (at : ℕ) (x : Ballot × ℕ) → IsBytes bytes → ballot_from low bytes at ≡ Ok x
    → IsFound bytes ballot_bytes (FitsFrom low) at x
ballot_from_takes low bytes at x h e =
    let a = bind_ok (u32_within at low (2 ^ 32 - 1) bytes at) (λ round. u32_within at (min 1 round.0) (cond (round.0 == 0) 0 (2 ^ 32 - 1)) bytes round.1 >>= λ epoch. u8_within at (min 1 round.0) (cond (round.0 == 0) 0 9) bytes epoch.1 >>= λ centre. done (record { round = round.0; epoch = epoch.0; centre = centre.0 }, centre.1)) x e in
    let b = bind_ok (u32_within at (min 1 a.0.0) (cond (a.0.0 == 0) 0 (2 ^ 32 - 1)) bytes a.0.1) (λ epoch. u8_within at (min 1 a.0.0) (cond (a.0.0 == 0) 0 9) bytes epoch.1 >>= λ centre. done (record { round = a.0.0; epoch = epoch.0; centre = centre.0 }, centre.1)) x a.2 in
    let c = bind_ok (u8_within at (min 1 a.0.0) (cond (a.0.0 == 0) 0 9) bytes b.0.1) (λ centre. done (record { round = a.0.0; epoch = b.0.0; centre = centre.0 }, centre.1)) x b.2 in
    let round = u32_within_takes at low (2 ^ 32 - 1) bytes at a.0 h a.1 in
    let epoch = u32_within_takes at (min 1 a.0.0) (cond (a.0.0 == 0) 0 (2 ^ 32 - 1)) bytes a.0.1 b.0 h b.1 in
    let centre = u8_within_takes at (min 1 a.0.0) (cond (a.0.0 == 0) 0 9) bytes b.0.1 c.0 h c.1 in
    let made : Ballot × ℕ = (record { round = a.0.0; epoch = b.0.0; centre = c.0.0 }, c.0.1) in
    subst (IsFound bytes ballot_bytes (FitsFrom low) at) (ok_is made x c.2) (record {
      reads = Reads-then bytes at (u32_bytes a.0.0 ++ u32_bytes b.0.0) b.0.1 (u8_bytes c.0.0) c.0.1
          (Reads-then bytes at (u32_bytes a.0.0) a.0.1 (u32_bytes b.0.0) b.0.1 round.0 epoch.0) centre.0;
      fits = record { round = round.2; epoch_small = epoch.1; epoch = epoch.2; centre_small = centre.1; centre = centre.2 };
    })

not_zero : (n : ℕ) → 1 ≤ n → ((n == 0) ≡ false) × (min 1 n ≡ 1)
not_zero n h = (false_from_ne_true (n == 0) (λ e. omega (arith, eqb-true n 0 e, h)), omega (arith, h))

classic_from : (ballot : Ballot) → IsWellFormedClassic ballot → FitsFrom 1 ballot
classic_from ballot c =
    let n = not_zero ballot.round c.round.0 in
    record {
      round = c.round;
      epoch_small = omega (arith, c.epoch.1);
      epoch = rw (n.0, n.1) c.epoch;
      centre_small = omega (arith, c.centre.1);
      centre = rw (n.0, n.1) c.centre;
    }

classic_is : (ballot : Ballot) → FitsFrom 1 ballot → IsWellFormedClassic ballot
classic_is ballot f =
    let n = not_zero ballot.round f.round.0 in
    record {
      round = f.round;
      epoch = rw (n.0, n.1) at f.epoch;
      centre = rw (n.0, n.1) at f.centre;
    }

pub classic_again : (bytes : List ℕ) (at : ℕ) (ballot : Ballot) → IsWellFormedClassic ballot → IsAt bytes at (ballot_bytes ballot)
    → classic_at bytes at ≡ Ok (ballot, at + length (ballot_bytes ballot))
classic_again bytes at ballot c h = ballot_from_again 1 bytes at ballot (classic_from ballot c) h

pub classic_takes : (bytes : List ℕ) (at : ℕ) (x : Ballot × ℕ) → IsBytes bytes → classic_at bytes at ≡ Ok x → IsFound bytes ballot_bytes IsWellFormedClassic at x
classic_takes bytes at x h e =
    let f = ballot_from_takes 1 bytes at x h e in
    record { reads = f.reads; fits = classic_is x.0 f.fits }

any_from : (ballot : Ballot) → IsWellFormedBallot ballot → FitsFrom 0 ballot
any_from ballot (inl fast) = subst (FitsFrom 0) (sym fast) (record { round = (omega arith, omega arith); epoch_small = omega arith; epoch = (omega arith, omega arith); centre_small = omega arith; centre = (omega arith, omega arith) })
any_from ballot (inr classic) =
    let f = classic_from ballot classic in
    record { round = (omega arith, f.round.1); epoch_small = f.epoch_small; epoch = f.epoch; centre_small = f.centre_small; centre = f.centre }

any_is : (round epoch centre : ℕ) → FitsFrom 0 (record { round = round; epoch = epoch; centre = centre }) → IsWellFormedBallot (record { round = round; epoch = epoch; centre = centre })
any_is zero epoch centre f =
    let no_epoch : epoch ≡ 0 = omega (arith, f.epoch.1) in
    let no_centre : centre ≡ 0 = omega (arith, f.centre.1) in
    inl (λ i. record { round = 0; epoch = no_epoch i; centre = no_centre i })
any_is (suc round) epoch centre f =
    inr (classic_is _ (record { round = (omega arith, f.round.1); epoch_small = f.epoch_small; epoch = f.epoch; centre_small = f.centre_small; centre = f.centre }))

pub ballot_again : (bytes : List ℕ) (at : ℕ) (ballot : Ballot) → IsWellFormedBallot ballot → IsAt bytes at (ballot_bytes ballot)
    → ballot_at bytes at ≡ Ok (ballot, at + length (ballot_bytes ballot))
ballot_again bytes at ballot b h = ballot_from_again 0 bytes at ballot (any_from ballot b) h

pub ballot_takes : (bytes : List ℕ) (at : ℕ) (x : Ballot × ℕ) → IsBytes bytes → ballot_at bytes at ≡ Ok x → IsFound bytes ballot_bytes IsWellFormedBallot at x
ballot_takes bytes at x h e =
    let f = ballot_from_takes 0 bytes at x h e in
    record { reads = f.reads; fits = any_is x.0.round x.0.epoch x.0.centre f.fits }
