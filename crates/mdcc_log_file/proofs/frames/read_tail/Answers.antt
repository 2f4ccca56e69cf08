use Rattle.std.proofs.Common.{◌≡◌, ℕ, ◌+◌, ◌++◌, ◌∷◌, [], true, List, length, sym, ◌∙◌, ap, arith, rules, refl, append_assoc, length-append}
use Rattle.std.proofs.lemmas.List.{append-nil}
use Rattle.mdcc_log_file.specs.Log.{is_open}
use Rattle.mdcc_log_file.proofs.LogRead.{short_more}
use Rattle.mdcc_log_file.proofs.FrameRead.{frame_break, frames_more, frames_size_more, frames_read}
use Rattle.mdcc_log_file.proofs.frames.read_tail.Goals as goal

pub loop-rest-init : goal.loop-rest-init
loop-rest-init c = record {
  tail = [];
  added = sym (append-nil c.args.records.items);
  counted = refl;
  front = search rules;
  ends = omega arith;
  size = search rules;
  more = search rules;
  short = tt;
}

pub returns-in-None-clause-not_a_log : goal.returns-in-None-clause-not_a_log
returns-in-None-clause-not_a_log c n most is enough =
    let inv = c.loop-rest.invariant in
    let opened : is_open c.loop-rest.rest.now ≡ true = search rules in
    let same : c.loop-rest.gate ≡ n = cc in
    frame_break most c.args.start c.loop-rest.gate n inv.tail c.loop-rest.rest.now c.args.bytes.now inv.front inv.short inv.more inv.ends opened c.in-None.ensures.none same enough

pub loop-rest-preserved : goal.loop-rest-preserved
loop-rest-preserved c =
    let inv = c.loop-rest.invariant in
    let p = c.in-Some.payload.now in
    let more : c.push.new.self.items ≡ c.loop-rest.payloads.items ++ p ∷ [] = search rules in
    let size : length c.loop-rest.rest.now ≡ 5 + length p + length c.in-Some.next.now = omega (arith, ap (λ (l : List ℕ). length l) c.in-Some.ensures.frame, length-append p c.in-Some.next.now) in
    record {
      tail = inv.tail ++ p ∷ [];
      added = more ∙ ap (λ (l : List (List ℕ)). l ++ p ∷ []) inv.added ∙ append_assoc c.args.records.items inv.tail (p ∷ []);
      counted = omega (arith, inv.counted, length-append inv.tail (p ∷ []));
      front = frames_more inv.tail (inv.tail ++ p ∷ []) p c.loop-rest.rest.now c.in-Some.next.now c.args.start c.args.bytes.now refl inv.front c.in-Some.ensures.frame;
      ends = omega (arith, inv.ends, frames_size_more inv.tail p);
      size = omega (arith, inv.size, size);
      more = c.in-Some.ensures.more;
      short = short_more inv.tail p inv.short c.in-Some.ensures.short;
    }

pub returns-clause-read : goal.returns-clause-read
returns-clause-read c =
    let inv = c.loop-rest.invariant in
    frames_read c.args.start c.args.records.items c.loop-rest.payloads.items inv.tail c.loop-rest.count c.loop-rest.gate c.loop-rest.rest.now c.args.bytes.now inv.added inv.counted inv.front inv.ends inv.size inv.more (search rules) inv.short
