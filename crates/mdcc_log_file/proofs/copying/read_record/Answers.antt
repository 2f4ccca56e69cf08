use Rattle.std.proofs.Common.{◌≡◌, ◌+◌, List, ℕ, length, take, drop, IsTrue, sym, ◌∙◌, ap, arith, rules}
use Rattle.std.proofs.lemmas.List.{take_at}
use Rattle.std.specs.Int.{w32, from_le_bytes}
use Rattle.mdcc_log_file.specs.Log.{frame_body}
use Rattle.mdcc_log_file.proofs.OnlyReads.{some_reads}
use Rattle.mdcc_log_file.proofs.Copies.{record_within, length_read, record_read}
use Rattle.mdcc_log_file.proofs.Joined.{read_joined}
use Rattle.mdcc_log_file.proofs.copying.read_record.Goals as goal

pub read_at-requires-clause-within : goal.read_at-requires-clause-within
read_at-requires-clause-within g c told =
    let at = c.requires.stands told in
    omega (arith, record_within c.args.from c.args.most at.0 (g.D.Disks.disk c.args.disks.now c.args.place).bytes at.1)

pub read_at-requires-2-clause-within : goal.read_at-requires-2-clause-within
read_at-requires-2-clause-within g c told =
    let bytes = (g.D.Disks.disk c.args.disks.now c.args.place).bytes in
    let was : IsTrue (g.D.Disks.disk c.args.disks.now c.args.place).told = sym c.read_at.ensures.others.told ∙ told in
    let at = c.requires.stands was in
    let four : length c.read_at.new.into ≡ 4 = omega arith in
    let front : c.read_at.new.into ≡ take 4 (drop c.args.from bytes) = c.in_ok-read_at.ensures.filled was ∙ ap (λ (n : ℕ). take n (drop c.args.from bytes)) four in
    let value : c.from_le_bytes-length.result ≡ from_le_bytes w32 c.read_at.new.into = search rules in
    let len : c.from_le_bytes-length.result ≡ length at.0 = value ∙ length_read c.args.from c.args.most at.0 bytes c.read_at.new.into at.1 front in
    let size : length c.deref_mut.result.now ≡ 4 + c.from_le_bytes-length.result = search rules in
    let same : length (g.D.Disks.disk c.read_at.new.disks c.args.place).bytes ≡ length bytes = ap (λ (l : List ℕ). length l) c.read_at.ensures.bytes in
    omega (arith, record_within c.args.from c.args.most at.0 bytes at.1, len, size, same)

pub returns-in_err-read_at-clause-only_read : goal.returns-in_err-read_at-clause-only_read
returns-in_err-read_at-clause-only_read g c = record { bytes = c.read_at.ensures.bytes; crash = c.read_at.ensures.crash; any_moment = c.read_at.ensures.any_moment; calls = some_reads _ _ _ _ _ c.read_at.ensures.calls }

pub returns-then-length-gt-PAYLOAD_LIMIT-clause-only_read : goal.returns-then-length-gt-PAYLOAD_LIMIT-clause-only_read
returns-then-length-gt-PAYLOAD_LIMIT-clause-only_read g c = record { bytes = c.read_at.ensures.bytes; crash = c.read_at.ensures.crash; any_moment = c.read_at.ensures.any_moment; calls = some_reads _ _ _ _ _ c.read_at.ensures.calls }

pub returns-in_err-read_at-2-clause-only_read : goal.returns-in_err-read_at-2-clause-only_read
returns-in_err-read_at-2-clause-only_read g c =
    read_joined g.D.Disks.disk g.D.Disks.may_leave g.D.Disks.moment g.D.Disks.left_since g.met.D.Disks.only_now c.args.disks.now c.read_at.new.disks c.read_at-2.new.disks c.args.place
    (record { bytes = c.read_at.ensures.bytes; crash = c.read_at.ensures.crash; any_moment = c.read_at.ensures.any_moment; calls = some_reads _ _ _ _ _ c.read_at.ensures.calls })
    (record { bytes = c.read_at-2.ensures.bytes; crash = c.read_at-2.ensures.crash; any_moment = c.read_at-2.ensures.any_moment; calls = some_reads _ _ _ _ _ c.read_at-2.ensures.calls })

pub returns-clause-only_read : goal.returns-clause-only_read
returns-clause-only_read g c =
    read_joined g.D.Disks.disk g.D.Disks.may_leave g.D.Disks.moment g.D.Disks.left_since g.met.D.Disks.only_now c.args.disks.now c.read_at.new.disks c.read_at-2.new.disks c.args.place
    (record { bytes = c.read_at.ensures.bytes; crash = c.read_at.ensures.crash; any_moment = c.read_at.ensures.any_moment; calls = some_reads _ _ _ _ _ c.read_at.ensures.calls })
    (record { bytes = c.read_at-2.ensures.bytes; crash = c.read_at-2.ensures.crash; any_moment = c.read_at-2.ensures.any_moment; calls = some_reads _ _ _ _ _ c.read_at-2.ensures.calls })

pub returns-clause-read : goal.returns-clause-read
returns-clause-read g c p told at =
    let bytes = (g.D.Disks.disk c.args.disks.now c.args.place).bytes in
    let into = c.read_at-2.new.into in
    let four : length c.read_at.new.into ≡ 4 = omega arith in
    let front : c.read_at.new.into ≡ take 4 (drop c.args.from bytes) = c.in_ok-read_at.ensures.filled told ∙ ap (λ (n : ℕ). take n (drop c.args.from bytes)) four in
    let value : c.from_le_bytes-length.result ≡ from_le_bytes w32 c.read_at.new.into = search rules in
    let len : c.from_le_bytes-length.result ≡ length p = value ∙ length_read c.args.from c.args.most p bytes c.read_at.new.into at front in
    let size : length into ≡ 4 + c.from_le_bytes-length.result = search rules in
    let filled : into ≡ take (length into) (drop c.args.from bytes) = c.in_ok-read_at-2.ensures.filled (c.read_at.ensures.others.told ∙ told) ∙ ap (λ (l : List ℕ). take (length into) (drop c.args.from l)) c.read_at.ensures.bytes in
    let is : into ≡ frame_body p = record_read c.args.from c.args.most (length into) p bytes into at (omega (arith, size, len)) filled in
    let whole : length into ≡ c.resize.new.buffer.len = search rules in
    take_at into (drop (length into) c.resize.new.buffer.items) c.resize.new.buffer.len whole ∙ is
