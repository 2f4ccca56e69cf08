use Rattle.std.proofs.Common.{◌∙◌, ◌∷◌, Ok, Err, ap, map, sym}
use Rattle.std.specs.Prelude.{IfOk, OnOk, Result, filter_map}
use Rattle.mdcc_world_decisions.proofs.Txs.{with_txs-ascending}
use Rattle.mdcc_world_decisions.proofs.Walks.{come-new}
use Rattle.mdcc_world_decisions.specs.Decided.{all_newly_decided}
use Rattle.mdcc_def_ledger.specs.Ledger.{Added, new_outcome}
use Rattle.mdcc_def_protocol.specs.Marks.{is_commit}
use Rattle.mdcc_def_messages.specs.declared.facts.Fact.{Fact}
use Rattle.mdcc_struct.specs.Maps.{txs_of}
use Rattle.mdcc_world_decisions.proofs.decisions.Decisions.add.Goals as goal

on_ok : {T E P : Type 0} (r : Result T E) → P → OnOk r P
on_ok (Ok x) p = p
on_ok (Err e) p = tt

if_ok : {T E : Type 0} {P Q : T → Type 0} (r : Result T E) → ((x : T) → P x → Q x) → IfOk r P → IfOk r Q
if_ok (Ok x) f p = f x p
if_ok (Err e) f p = tt

pub returns-in_ok-cast-in-Voted-clause-stands : goal.returns-in_ok-cast-in-Voted-clause-stands
returns-in_ok-cast-in-Voted-clause-stands c quorums entries stands =
    rw c.in-Voted.is (on_ok c.all_newly_decided.result (c.in_ok-cast-in-Voted.ensures quorums entries c.in-Voted.offered stands))

pub returns-in_ok-cast-in-Voted-clause-endings : goal.returns-in_ok-cast-in-Voted-clause-endings
returns-in_ok-cast-in-Voted-clause-endings c quorums entries stands =
    let entry = Added c.args.centre (Fact.Voted c.in-Voted.key c.in-Voted.version c.in-Voted.ballot c.in-Voted.options c.in-Voted.offered) in
    let after = c.in_ok-cast-in-Voted.ensures quorums entries c.in-Voted.offered stands in
    let were = c.in_ok-before-in-Voted.ensures.endings quorums entries stands in
    let same = with_txs-ascending c.in-Voted.options c.in_ok-before-in-Voted.ensures.ascending in
    rw c.in-Voted.is
    (if_ok c.all_newly_decided.result
    (λ endings is. is
    ∙ ap (all_newly_decided quorums (entry ∷ entries)) (c.as_slice.ensures ∙ were)
    ∙ come-new quorums entry entries (txs_of c.in-Voted.options)
    ∙ ap (λ txs. map (λ e. (e.0, is_commit e.1)) (filter_map (new_outcome quorums entry entries) txs)) (sym same))
    (c.all_newly_decided.ensures quorums (entry ∷ entries) after))
