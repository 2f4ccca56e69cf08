use Rattle.std.proofs.Common.{◌≡◌, ◌∙◌, Bool, true, false, sym, ap}
use Rattle.std.specs.Option.{option_map}
use Rattle.mdcc_base.specs.declared.identifiers.TxId.{TxId}
use Rattle.mdcc_option.specs.declared.choices.Mark.{Mark}
use Rattle.mdcc_struct.specs.Maps.{value_of}
use Rattle.mdcc_struct.specs.Options.{is_other_mark}
use Rattle.mdcc_struct.proofs.Walks.{find-here, find-further, place_of-next}
use Rattle.mdcc_struct.proofs.options.Options.differing.Goals as goal

pub returns-then-is_other_mark : goal.returns-then-is_other_mark
returns-then-is_other_mark c =
    let b = c.args.other.now in
    let p : TxId × Mark → Bool = λ e. is_other_mark e.1 (value_of b e.0) in
    let x : TxId × Mark = (c.at-tx.result.0, c.at-tx.result.1.now) in
    let differs : is_other_mark c.at-tx.result.1.now (value_of b c.at-tx.result.0) ≡ true = cc in
    sym (ap (option_map (λ (e : TxId × Mark). e.0)) (find-here p c.args.self.now c.loop-i.i x c.at-tx.ensures differs)) ∙ c.loop-i.invariant.left

pub loop-i-preserved : goal.loop-i-preserved
loop-i-preserved c =
    let a = c.args.self.now in
    let b = c.args.other.now in
    let p : TxId × Mark → Bool = λ e. is_other_mark e.1 (value_of b e.0) in
    let x : TxId × Mark = (c.at-tx.result.0, c.at-tx.result.1.now) in
    let agrees : is_other_mark c.at-tx.result.1.now (value_of b c.at-tx.result.0) ≡ false = cc in
    record {
      left = sym (ap (option_map (λ (e : TxId × Mark). e.0)) (find-further p a c.loop-i.i x c.at-tx.ensures agrees)) ∙ c.loop-i.invariant.left;
      reached = λ e after. rw c.next_place-place.ensures (place_of-next a b c.loop-i.i x e c.len-i-end.ensures.ascending c.at-tx.ensures after);
    }
