use Rattle.std.proofs.Common.{◌≡◌, ◌∙◌, Bool, true, false, sym}
use Rattle.mdcc_base.specs.declared.identifiers.TxId.{TxId}
use Rattle.mdcc_option.specs.declared.choices.Mark.{Mark}
use Rattle.mdcc_struct.specs.Maps.{value_of}
use Rattle.mdcc_struct.specs.Options.{is_mark}
use Rattle.mdcc_struct.proofs.Walks.{list_all-fails, list_all-passes, place_of-next}
use Rattle.mdcc_struct.proofs.options.Options.extends.Goals as goal

pub returns-then-not-is_mark : goal.returns-then-not-is_mark
returns-then-not-is_mark c =
    let a = c.args.self.now in
    let p : TxId × Mark → Bool = λ e. is_mark e.1 (value_of a e.0) in
    let x : TxId × Mark = (c.at-tx.result.0, c.at-tx.result.1.now) in
    let fails : is_mark c.at-tx.result.1.now (value_of a c.at-tx.result.0) ≡ false = cc in
    sym (list_all-fails p c.args.other.now c.loop-i.i x c.at-tx.ensures fails) ∙ c.loop-i.invariant.left

pub loop-i-preserved : goal.loop-i-preserved
loop-i-preserved c =
    let a = c.args.self.now in
    let b = c.args.other.now in
    let p : TxId × Mark → Bool = λ e. is_mark e.1 (value_of a e.0) in
    let x : TxId × Mark = (c.at-tx.result.0, c.at-tx.result.1.now) in
    let passes : is_mark c.at-tx.result.1.now (value_of a c.at-tx.result.0) ≡ true = cc in
    record {
      left = sym (list_all-passes p b c.loop-i.i x c.at-tx.ensures passes) ∙ c.loop-i.invariant.left;
      reached = λ e after. rw c.next_place-place.ensures (place_of-next b a c.loop-i.i x e c.len-i-end.ensures.ascending c.at-tx.ensures after);
    }
