use Rattle.std.proofs.Common.{◌≡◌, ◌+◌, ◌-◌, ◌≤◌, ◌∷◌, ◌++◌, [], min, List, ℕ, length, IsTrue, sym, ◌∙◌, ap, refl, subst, vec_len, arith, rules, length-append}
use Rattle.mdcc_disks.specs.Disks.{AddsCall}
use Rattle.mdcc_disks.specs.Disks.DiskCall.{Write}
use Rattle.mdcc_log_file.specs.Log.{frame_body}
use Rattle.mdcc_log_file.specs.Calls.{MadeSome, with_calls}
use Rattle.mdcc_log_file.specs.Area.{records_bytes}
use Rattle.mdcc_log_file.specs.Copying.{record_calls}
use Rattle.mdcc_log_file.proofs.Copies.{next_record_stands, next_at, from_within, end_within, none_copied, one_copied, some_told, one_told, all_done}
use Rattle.mdcc_log_file.proofs.Joined.{nothing_read, read_joined, read_beside, shut_unchanged, shut_joined, shut_beside, but_unchanged, but_joined, but_one, but_two}
use Rattle.mdcc_log_file.proofs.copying.copy_records.Goals as goal

pub loop-turn-init : goal.loop-turn-init
loop-turn-init g c = record {
  from = c.requires.from;
  within = c.requires.limit;
  counted = omega arith;
  room = c.requires.room;
  at_end = c.requires.end;
  only_read = nothing_read g.D.Disks.disk g.D.Disks.may_leave g.D.Disks.moment g.D.Disks.left_since g.met.D.Disks.only_now c.args.disks.now c.args.part.place;
  stays = shut_unchanged g.D.Disks.disk g.D.Disks.may_leave g.D.Disks.moment g.D.Disks.left_since g.met.D.Disks.only_now c.args.disks.now c.args.place;
  others = but_unchanged g.D.Disks.disk g.D.Disks.may_leave g.D.Disks.moment g.D.Disks.left_since g.met.D.Disks.only_now c.args.disks.now c.args.part.place c.args.place;
  copies = λ ps told is. none_copied c.args.part.gap c.args.part.from c.args.part.end (c.args.limit - c.args.to) c.args.part.count c.args.to ps _ _ _ _ is;
}

pub read_record-requires-clause-stands : goal.read_record-requires-clause-stands
read_record-requires-clause-stands g c told =
    let inv = c.loop-turn.invariant in
    let was : IsTrue (g.D.Disks.disk c.args.disks.now c.args.part.place).told = sym inv.others.told_one ∙ told in
    let source = c.requires.source was in
    let so_far = inv.copies source.0 was source.1 in
    let bytes = (g.D.Disks.disk c.args.disks.now c.args.part.place).bytes in
    let room = c.args.limit - c.args.to - (c.loop-turn.end - c.args.to) in
    let next = next_record_stands c.args.part.gap c.loop-turn.from c.args.part.end room (c.args.part.count - c.loop-turn.turn) so_far.left bytes (omega arith) so_far.rest in
    let most : c.min-most.result ≡ min c.saturating_sub.result (c.args.limit - c.loop-turn.end) = search rules in
    let sat : c.saturating_sub.result ≡ c.args.part.end - (c.loop-turn.from + c.args.part.gap) = search rules in
    (next.payload, next_at c.args.part.gap c.loop-turn.from c.args.part.end room (c.args.part.count - c.loop-turn.turn) c.min-most.result c.saturating_sub.result c.args.to c.loop-turn.end c.args.limit so_far.left bytes _ next inv.only_read.bytes refl most sat (omega (arith, inv.counted)) inv.within)

pub returns-in_err-read_record-clause-only_read : goal.returns-in_err-read_record-clause-only_read
returns-in_err-read_record-clause-only_read g c =
    read_joined g.D.Disks.disk g.D.Disks.may_leave g.D.Disks.moment g.D.Disks.left_since g.met.D.Disks.only_now c.args.disks.now c.loop-turn.disks c.read_record.new.disks c.args.part.place c.loop-turn.invariant.only_read c.read_record.ensures.only_read

pub returns-in_err-read_record-clause-calls : goal.returns-in_err-read_record-clause-calls
returns-in_err-read_record-clause-calls g c ps told is =
    subst (λ o. MadeSome (record_calls c.args.to ps) (g.D.Disks.disk c.args.disks.now c.args.place).calls o)
    (sym (ap (λ d. d.calls) (c.read_record.ensures.others.others c.args.place (λ same. c.requires.apart (sym same)))))
    (some_told (c.loop-turn.invariant.copies ps told is))

pub returns-in_err-grow-clause-only_read : goal.returns-in_err-grow-clause-only_read
returns-in_err-grow-clause-only_read g c =
    read_joined g.D.Disks.disk g.D.Disks.may_leave g.D.Disks.moment g.D.Disks.left_since g.met.D.Disks.only_now c.args.disks.now c.read_record.new.disks c.grow.new.disks c.args.part.place
    (read_joined g.D.Disks.disk g.D.Disks.may_leave g.D.Disks.moment g.D.Disks.left_since g.met.D.Disks.only_now c.args.disks.now c.loop-turn.disks c.read_record.new.disks c.args.part.place c.loop-turn.invariant.only_read c.read_record.ensures.only_read)
    (read_beside g.D.Disks.disk g.D.Disks.may_leave g.D.Disks.moment g.D.Disks.left_since g.met.D.Disks.only_now c.read_record.new.disks c.grow.new.disks c.args.part.place c.args.place c.requires.apart c.grow.ensures.others)

pub returns-in_err-grow-clause-stays : goal.returns-in_err-grow-clause-stays
returns-in_err-grow-clause-stays g c =
    shut_joined g.D.Disks.disk g.D.Disks.may_leave g.D.Disks.moment g.D.Disks.left_since g.met.D.Disks.only_now c.args.disks.now c.read_record.new.disks c.grow.new.disks c.args.place
    (shut_joined g.D.Disks.disk g.D.Disks.may_leave g.D.Disks.moment g.D.Disks.left_since g.met.D.Disks.only_now c.args.disks.now c.loop-turn.disks c.read_record.new.disks c.args.place c.loop-turn.invariant.stays
    (shut_beside g.D.Disks.disk g.D.Disks.may_leave g.D.Disks.moment g.D.Disks.left_since g.met.D.Disks.only_now c.loop-turn.disks c.read_record.new.disks c.args.place c.args.part.place (λ same. c.requires.apart (sym same)) c.read_record.ensures.others))
    (record { shut = c.grow.ensures.shut; any_moment = c.grow.ensures.any_moment })

pub returns-in_err-grow-clause-calls : goal.returns-in_err-grow-clause-calls
returns-in_err-grow-clause-calls g c ps told is =
    let inv = c.loop-turn.invariant in
    let so_far = inv.copies ps told is in
    let bytes = (g.D.Disks.disk c.args.disks.now c.args.part.place).bytes in
    let room = c.args.limit - c.args.to - (c.loop-turn.end - c.args.to) in
    let next = next_record_stands c.args.part.gap c.loop-turn.from c.args.part.end room (c.args.part.count - c.loop-turn.turn) so_far.left bytes (omega arith) so_far.rest in
    let most : c.min-most.result ≡ min c.saturating_sub.result (c.args.limit - c.loop-turn.end) = search rules in
    let sat : c.saturating_sub.result ≡ c.args.part.end - (c.loop-turn.from + c.args.part.gap) = search rules in
    let at = next_at c.args.part.gap c.loop-turn.from c.args.part.end room (c.args.part.count - c.loop-turn.turn) c.min-most.result c.saturating_sub.result c.args.to c.loop-turn.end c.args.limit so_far.left bytes _ next inv.only_read.bytes refl most sat (omega (arith, inv.counted)) inv.within in
    let same = c.read_record.ensures.others.others c.args.place (λ is'. c.requires.apart (sym is')) in
    let read : c.deref.result.now ≡ frame_body next.payload = c.deref.ensures.value ∙ c.in_ok-read_record.ensures.read next.payload (inv.others.told_one ∙ told) at in
    one_told so_far c.deref.result.now _ c.grow.result next read
    (subst (λ o. AddsCall (Write c.loop-turn.end c.deref.result.now) o (g.D.Disks.disk c.grow.new.disks c.args.place).calls c.grow.result) (ap (λ d. d.calls) same) c.grow.ensures.call)

pub loop-turn-preserved : goal.loop-turn-preserved
loop-turn-preserved g c =
    let inv = c.loop-turn.invariant in
    let room = c.args.limit - c.args.to - (c.loop-turn.end - c.args.to) in
    let bytes = (g.D.Disks.disk c.args.disks.now c.args.part.place).bytes in
    let most : c.min-most.result ≡ min c.saturating_sub.result (c.args.limit - c.loop-turn.end) = search rules in
    let sat : c.saturating_sub.result ≡ c.args.part.end - (c.loop-turn.from + c.args.part.gap) = search rules in
    let len : c.len-size.result ≡ vec_len c.read_record.new.buffer = search rules in
    let some : 4 ≤ c.len-size.result = omega (arith, len, c.in_ok-read_record.ensures.bound.0) in
    let few : c.len-size.result ≤ c.min-most.result = omega (arith, len, c.in_ok-read_record.ensures.bound.1) in
    let sized : c.len-size.result ≡ length c.deref.result.now = search rules in
    let same = c.read_record.ensures.others.others c.args.place (λ is. c.requires.apart (sym is)) in
    record {
      from = from_within (c.loop-turn.from + c.args.part.gap) c.args.part.end c.len-size.result c.min-most.result c.saturating_sub.result (c.args.limit - c.loop-turn.end) most sat some few;
      within = end_within c.loop-turn.end c.args.limit c.len-size.result c.min-most.result c.saturating_sub.result most inv.within few;
      counted = omega (arith, inv.counted, some);
      room = c.in_ok-read_record.ensures.room;
      at_end = λ told.
          let grown = c.in_ok-grow.ensures.grown (ap (λ d. d.told) same ∙ (inv.others.told_two ∙ told)) in
          omega (arith, inv.at_end told, sized, ap (λ (l : List ℕ). length l) grown, ap (λ d. length d.bytes) same, length-append (g.D.Disks.disk c.read_record.new.disks c.args.place).bytes c.deref.result.now);
      only_read = read_joined g.D.Disks.disk g.D.Disks.may_leave g.D.Disks.moment g.D.Disks.left_since g.met.D.Disks.only_now c.args.disks.now c.read_record.new.disks c.grow.new.disks c.args.part.place
          (read_joined g.D.Disks.disk g.D.Disks.may_leave g.D.Disks.moment g.D.Disks.left_since g.met.D.Disks.only_now c.args.disks.now c.loop-turn.disks c.read_record.new.disks c.args.part.place inv.only_read c.read_record.ensures.only_read)
          (read_beside g.D.Disks.disk g.D.Disks.may_leave g.D.Disks.moment g.D.Disks.left_since g.met.D.Disks.only_now c.read_record.new.disks c.grow.new.disks c.args.part.place c.args.place c.requires.apart c.grow.ensures.others);
      stays = shut_joined g.D.Disks.disk g.D.Disks.may_leave g.D.Disks.moment g.D.Disks.left_since g.met.D.Disks.only_now c.args.disks.now c.read_record.new.disks c.grow.new.disks c.args.place
          (shut_joined g.D.Disks.disk g.D.Disks.may_leave g.D.Disks.moment g.D.Disks.left_since g.met.D.Disks.only_now c.args.disks.now c.loop-turn.disks c.read_record.new.disks c.args.place inv.stays
          (shut_beside g.D.Disks.disk g.D.Disks.may_leave g.D.Disks.moment g.D.Disks.left_since g.met.D.Disks.only_now c.loop-turn.disks c.read_record.new.disks c.args.place c.args.part.place (λ is. c.requires.apart (sym is)) c.read_record.ensures.others))
          (record { shut = c.grow.ensures.shut; any_moment = c.grow.ensures.any_moment });
      others = but_joined g.D.Disks.disk g.D.Disks.may_leave g.D.Disks.moment g.D.Disks.left_since g.met.D.Disks.only_now c.args.disks.now c.read_record.new.disks c.grow.new.disks c.args.part.place c.args.place
          (but_joined g.D.Disks.disk g.D.Disks.may_leave g.D.Disks.moment g.D.Disks.left_since g.met.D.Disks.only_now c.args.disks.now c.loop-turn.disks c.read_record.new.disks c.args.part.place c.args.place inv.others
          (but_one g.D.Disks.disk g.D.Disks.may_leave g.D.Disks.moment g.D.Disks.left_since g.met.D.Disks.only_now c.loop-turn.disks c.read_record.new.disks c.args.part.place c.args.place c.requires.apart c.read_record.ensures.others c.read_record.ensures.later))
          (but_two g.D.Disks.disk g.D.Disks.may_leave g.D.Disks.moment g.D.Disks.left_since g.met.D.Disks.only_now c.read_record.new.disks c.grow.new.disks c.args.part.place c.args.place c.requires.apart c.grow.ensures.others c.grow.ensures.cause.later);
      copies = λ ps told is.
          let so_far = inv.copies ps told is in
          let next = next_record_stands c.args.part.gap c.loop-turn.from c.args.part.end room (c.args.part.count - c.loop-turn.turn) so_far.left bytes (omega arith) so_far.rest in
          let at = next_at c.args.part.gap c.loop-turn.from c.args.part.end room (c.args.part.count - c.loop-turn.turn) c.min-most.result c.saturating_sub.result c.args.to c.loop-turn.end c.args.limit so_far.left bytes _ next inv.only_read.bytes refl most sat (omega (arith, inv.counted)) inv.within in
          let read : c.deref.result.now ≡ frame_body next.payload = c.deref.ensures.value ∙ c.in_ok-read_record.ensures.read next.payload (inv.others.told_one ∙ told) at in
          one_copied c.args.part.gap c.loop-turn.from c.args.part.end (c.args.limit - c.args.to) c.args.part.count c.args.to c.loop-turn.end c.loop-turn.turn c.len-size.result ps bytes _ _ _ c.deref.result.now _ _ _ _ so_far next (omega (arith, inv.counted)) (omega arith) read sized
          (λ there. c.in_ok-grow.ensures.grown (ap (λ d. d.told) same ∙ (inv.others.told_two ∙ there)) ∙ ap (λ d. d.bytes ++ c.deref.result.now) same)
          (c.in_ok-grow.ensures.call.ok ∙ ap (λ d. with_calls (Write c.loop-turn.end c.deref.result.now ∷ []) d.calls) same);
    }

pub returns-clause-copied : goal.returns-clause-copied
returns-clause-copied g c ps told there is =
    let so_far = c.loop-turn.invariant.copies ps told is in
    so_far.bytes there ∙ ap (λ (l : List (List ℕ)). (g.D.Disks.disk c.args.disks.now c.args.place).bytes ++ records_bytes l) (sym (all_done so_far (omega arith)))

pub returns-clause-size : goal.returns-clause-size
returns-clause-size g c ps told is =
    let so_far = c.loop-turn.invariant.copies ps told is in
    so_far.here_is ∙ ap (λ (l : List (List ℕ)). c.args.to + length (records_bytes l)) (sym (all_done so_far (omega arith)))

pub returns-clause-calls : goal.returns-clause-calls
returns-clause-calls g c ps told is = some_told (c.loop-turn.invariant.copies ps told is)

pub returns-clause-all_calls : goal.returns-clause-all_calls
returns-clause-all_calls g c ps told is =
    let so_far = c.loop-turn.invariant.copies ps told is in
    so_far.calls ∙ ap (λ (l : List (List ℕ)). with_calls (record_calls c.args.to l) (g.D.Disks.disk c.args.disks.now c.args.place).calls) (sym (all_done so_far (omega arith)))
