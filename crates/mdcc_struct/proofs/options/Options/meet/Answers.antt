use Rattle.std.proofs.Common.{◌≡◌, ◌+◌, Bool, true, false, drop}
use Rattle.mdcc_base.specs.declared.identifiers.TxId.{TxId}
use Rattle.mdcc_option.specs.declared.choices.Mark.{Mark}
use Rattle.mdcc_struct.specs.Maps.{value_of}
use Rattle.mdcc_struct.specs.Options.{meet_of, is_mark}
use Rattle.mdcc_struct.proofs.Walks.{filter-keeps, filter-leaves, pushed_next, pushed_more, ascending-pushed, ascending-filter, place_of-next}
use Rattle.mdcc_struct.proofs.options.Options.meet.Goals.{then-is_mark+in_ok-push_copy, else-is_mark}
use Rattle.mdcc_struct.proofs.options.Options.meet.Goals as goal

pub next_place-place-requires : goal.next_place-place-requires
next_place-place-requires c = c.loop-i.invariant.reached _ c.at-tx.ensures

pub push_copy-requires : goal.push_copy-requires
push_copy-requires c =
    let a = c.args.self.now in
    let b = c.args.other.now in
    let p : TxId × Mark → Bool = λ e. is_mark e.1 (value_of b e.0) in
    let x : TxId × Mark = (c.at-tx.result.0, c.at-tx.result.1.now) in
    let passes : is_mark c.at-tx.result.1.now (value_of b c.at-tx.result.0) ≡ true = cc in
    ascending-pushed c.loop-i.both (meet_of (drop (c.loop-i.i + 1) a) b) (meet_of a b) x (ascending-filter p a c.len-i-end.ensures.ascending)
    (pushed_next c.loop-i.both _ _ _ x (filter-keeps p a c.loop-i.i x c.at-tx.ensures passes) c.loop-i.invariant.made)

pub loop-i-preserved : goal.loop-i-preserved
loop-i-preserved c =
    let a = c.args.self.now in
    let b = c.args.other.now in
    let p : TxId × Mark → Bool = λ e. is_mark e.1 (value_of b e.0) in
    let x : TxId × Mark = (c.at-tx.result.0, c.at-tx.result.1.now) in
    record {
      made = elim c.if-is_mark.branch [
        | then-is_mark+in_ok-push_copy w ↦
            let passes : is_mark c.at-tx.result.1.now (value_of b c.at-tx.result.0) ≡ true = cc in
            rw (w.both-is, w.in_ok-push_copy.ensures.ok) (pushed_more c.loop-i.both (meet_of (drop (c.loop-i.i + 1) a) b) (meet_of a b) x
            (pushed_next c.loop-i.both _ _ _ x (filter-keeps p a c.loop-i.i x c.at-tx.ensures passes) c.loop-i.invariant.made))
        | else-is_mark w ↦
            let fails : is_mark c.at-tx.result.1.now (value_of b c.at-tx.result.0) ≡ false = cc in
            rw w.both-is (rw (filter-leaves p a c.loop-i.i x c.at-tx.ensures fails) at c.loop-i.invariant.made)
      ];
      reached = λ e after. rw c.next_place-place.ensures (place_of-next a b c.loop-i.i x e c.len-i-end.ensures.ascending c.at-tx.ensures after);
    }
