use Rattle.std.proofs.Common.{◌≡◌, ◌≤◌, ◌++◌, ◌∙◌, ◌⊎◌, inl, inr, true, false, drop, length, ap, arith}
use Rattle.std.proofs.lemmas.Bool.{cases_Bool}
use Rattle.mdcc_base.specs.TxId.{tx_eq, tx_lt}
use Rattle.mdcc_base.specs.declared.identifiers.TxId.{TxId}
use Rattle.mdcc_option.specs.declared.choices.Mark.{Mark}
use Rattle.mdcc_struct.specs.Maps.{union, are_ascending}
use Rattle.mdcc_struct.proofs.Walks.{pushed_next, pushed_more, ascending-pushed, ascending-union, union-theirs, union-mine, union-both, union_rests, ascending-front}
use Rattle.mdcc_struct.proofs.options.Options.union.Goals.{then-loop-i-test+else-j-other_len, else-loop-i-test}
use Rattle.mdcc_struct.proofs.options.Options.union.Goals as goal

pub push_copy-requires : goal.push_copy-requires
push_copy-requires c =
    let a = c.args.self.now in
    let b = c.args.other.now in
    let x : TxId × Mark = (c.at-mine.result.0, c.at-mine.result.1.now) in
    let y : TxId × Mark = (c.at-theirs.result.0, c.at-theirs.result.1.now) in
    let step = union-theirs a b c.loop-i.i c.loop-i.j x y c.len-len.ensures.ascending c.len-other_len.ensures.ascending c.at-mine.ensures c.at-theirs.ensures (cc) in
    ascending-pushed c.loop-i.all _ (union a b) y (ascending-union a b c.len-len.ensures.ascending) (pushed_next c.loop-i.all _ _ (union a b) y step c.loop-i.invariant)

pub loop-i-preserved-then-is_below : goal.loop-i-preserved-then-is_below
loop-i-preserved-then-is_below c =
    let a = c.args.self.now in
    let b = c.args.other.now in
    let x : TxId × Mark = (c.at-mine.result.0, c.at-mine.result.1.now) in
    let y : TxId × Mark = (c.at-theirs.result.0, c.at-theirs.result.1.now) in
    let step = union-theirs a b c.loop-i.i c.loop-i.j x y c.len-len.ensures.ascending c.len-other_len.ensures.ascending c.at-mine.ensures c.at-theirs.ensures (cc) in
    rw c.in_ok-push_copy.ensures.ok (pushed_more c.loop-i.all _ (union a b) y (pushed_next c.loop-i.all _ _ (union a b) y step c.loop-i.invariant))

pub push_copy-requires-else-is_below : goal.push_copy-requires-else-is_below
push_copy-requires-else-is_below c =
    let a = c.args.self.now in
    let b = c.args.other.now in
    let x : TxId × Mark = (c.at-mine.result.0, c.at-mine.result.1.now) in
    let y : TxId × Mark = (c.at-theirs.result.0, c.at-theirs.result.1.now) in
    let up = c.len-len.ensures.ascending in
    let up' = c.len-other_len.ensures.ascending in
    let over : tx_lt y.0 x.0 ≡ false = cc in
    let all : are_ascending (union a b) ≡ true = ascending-union a b up in
    elim (cases_Bool (tx_eq x.0 y.0)) [
      | inl same ↦ ascending-pushed c.loop-i.all _ (union a b) x all
          (pushed_next c.loop-i.all _ _ (union a b) x (union-both a b c.loop-i.i c.loop-i.j x y up up' c.at-mine.ensures c.at-theirs.ensures same) c.loop-i.invariant)
      | inr other ↦ ascending-pushed c.loop-i.all _ (union a b) x all
          (pushed_next c.loop-i.all _ _ (union a b) x (union-mine a b c.loop-i.i c.loop-i.j x y up up' c.at-mine.ensures c.at-theirs.ensures over other) c.loop-i.invariant)
    ]

pub loop-i-preserved-then-is : goal.loop-i-preserved-then-is
loop-i-preserved-then-is c =
    let a = c.args.self.now in
    let b = c.args.other.now in
    let x : TxId × Mark = (c.at-mine.result.0, c.at-mine.result.1.now) in
    let y : TxId × Mark = (c.at-theirs.result.0, c.at-theirs.result.1.now) in
    let step = union-both a b c.loop-i.i c.loop-i.j x y c.len-len.ensures.ascending c.len-other_len.ensures.ascending c.at-mine.ensures c.at-theirs.ensures (cc) in
    rw c.in_ok-push_copy-2.ensures.ok (pushed_more c.loop-i.all _ (union a b) x (pushed_next c.loop-i.all _ _ (union a b) x step c.loop-i.invariant))

pub loop-i-preserved : goal.loop-i-preserved
loop-i-preserved c =
    let a = c.args.self.now in
    let b = c.args.other.now in
    let x : TxId × Mark = (c.at-mine.result.0, c.at-mine.result.1.now) in
    let y : TxId × Mark = (c.at-theirs.result.0, c.at-theirs.result.1.now) in
    let step = union-mine a b c.loop-i.i c.loop-i.j x y c.len-len.ensures.ascending c.len-other_len.ensures.ascending c.at-mine.ensures c.at-theirs.ensures (cc) (cc) in
    rw c.in_ok-push_copy-2.ensures.ok (pushed_more c.loop-i.all _ (union a b) x (pushed_next c.loop-i.all _ _ (union a b) x step c.loop-i.invariant))

pub push_rest-requires : goal.push_rest-requires
push_rest-requires c =
    let a = c.args.self.now in
    let b = c.args.other.now in
    let past : (length a ≤ c.loop-i.i) ⊎ (length b ≤ c.loop-i.j) = elim c.loop-i-test.branch [
      | then-loop-i-test+else-j-other_len w ↦ inr (omega arith)
      | else-loop-i-test w ↦ inl (omega arith)
    ] in
    let whole = union_rests a b c.loop-i.i c.loop-i.j c.loop-i.all c.len-other_len.ensures.ascending past c.loop-i.invariant in
    ascending-front (c.loop-i.all ++ drop c.loop-i.i a) (drop c.loop-i.j b) (ap are_ascending whole ∙ ascending-union a b c.len-len.ensures.ascending)

pub push_rest-requires-2 : goal.push_rest-requires-2
push_rest-requires-2 c =
    let a = c.args.self.now in
    let b = c.args.other.now in
    let past : (length a ≤ c.loop-i.i) ⊎ (length b ≤ c.loop-i.j) = elim c.loop-i-test.branch [
      | then-loop-i-test+else-j-other_len w ↦ inr (omega arith)
      | else-loop-i-test w ↦ inl (omega arith)
    ] in
    let whole = union_rests a b c.loop-i.i c.loop-i.j c.loop-i.all c.len-other_len.ensures.ascending past c.loop-i.invariant in
    rw c.in_ok-push_rest.ensures (ap are_ascending whole ∙ ascending-union a b c.len-len.ensures.ascending)

pub returns : goal.returns
returns c =
    let a = c.args.self.now in
    let b = c.args.other.now in
    let past : (length a ≤ c.loop-i.i) ⊎ (length b ≤ c.loop-i.j) = elim c.loop-i-test.branch [
      | then-loop-i-test+else-j-other_len w ↦ inr (omega arith)
      | else-loop-i-test w ↦ inl (omega arith)
    ] in
    let whole = union_rests a b c.loop-i.i c.loop-i.j c.loop-i.all c.len-other_len.ensures.ascending past c.loop-i.invariant in
    rw (c.in_ok-push_rest-2.ensures, c.in_ok-push_rest.ensures) whole
