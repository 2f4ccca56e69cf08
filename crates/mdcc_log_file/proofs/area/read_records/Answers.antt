use Rattle.std.proofs.Common.{◌≡◌, ℕ, ◌+◌, ◌++◌, ◌∷◌, [], List, length, sym, ap, subst, arith, rules, length-append}
use Rattle.mdcc_log_file.specs.Crash.{AreShort}
use Rattle.mdcc_log_file.proofs.LogRead.{short_more}
use Rattle.mdcc_log_file.proofs.Records.{record_break, records_more, records_read, size_more}
use Rattle.mdcc_log_file.proofs.area.read_records.Goals as goal

pub returns-in-None-clause-not_a_log : goal.returns-in-None-clause-not_a_log
returns-in-None-clause-not_a_log c n g is =
    let inv = c.loop-turn.invariant in
    let same : c.loop-turn.offset ≡ n = cc in
    record_break g c.args.count c.loop-turn.offset n c.loop-turn.records.items c.loop-turn.rest.now c.args.bytes.now inv.front inv.short (omega arith) inv.ends c.in-None.ensures.none same

pub loop-turn-preserved : goal.loop-turn-preserved
loop-turn-preserved c =
    let inv = c.loop-turn.invariant in
    let more : c.push.new.self.items ≡ c.loop-turn.records.items ++ c.in-Some.payload.now ∷ [] = search rules in
    let size : length c.loop-turn.rest.now ≡ 4 + length c.in-Some.payload.now + length c.in-Some.next.now = omega (arith, ap (λ (l : List ℕ). length l) c.in-Some.ensures.record, length-append c.in-Some.payload.now c.in-Some.next.now) in
    record {
      front = records_more c.loop-turn.records.items c.push.new.self.items c.in-Some.payload.now c.loop-turn.rest.now c.in-Some.next.now c.args.bytes.now more inv.front c.in-Some.ensures.record;
      ends = omega (arith, inv.ends, size_more c.loop-turn.records.items c.push.new.self.items c.in-Some.payload.now more);
      size = omega (arith, inv.size, size);
      counted = omega (arith, inv.counted, ap (λ (l : List (List ℕ)). length l) more, length-append c.loop-turn.records.items (c.in-Some.payload.now ∷ []));
      short = subst AreShort (sym more) (short_more c.loop-turn.records.items c.in-Some.payload.now inv.short c.in-Some.ensures.short);
    }

pub returns-clause-read : goal.returns-clause-read
returns-clause-read c =
    let inv = c.loop-turn.invariant in
    records_read c.args.count c.loop-turn.offset c.loop-turn.records.items c.loop-turn.rest.now c.args.bytes.now inv.front inv.ends inv.size (omega (arith, inv.counted)) inv.short
