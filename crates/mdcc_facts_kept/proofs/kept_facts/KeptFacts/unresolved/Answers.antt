use Rattle.std.proofs.Common.{◌≡◌, ◌≤◌, ◌+◌, ◌∷◌, ◌-◌, List, ap, arith, drop, length, not, suc, sym, ℕ, ◌∙◌}
use Rattle.std.specs.Prelude.{filter, slice_get}
use Rattle.mdcc_base.specs.declared.identifiers.TxId.{TxId}
use Rattle.mdcc_base.specs.declared.key.Key.{Key}
use Rattle.mdcc_def_protocol.specs.Facts.{is_finished}
use Rattle.mdcc_def_protocol.specs.Plain.{plain_unresolved_of}
use Rattle.mdcc_given_back.specs.Counted.{without_floors}
use Rattle.mdcc_facts_kept.proofs.Asked.{unresolved_asked}
use Rattle.mdcc_facts_kept.proofs.Drops.{drop-end}
use Rattle.mdcc_facts_kept.proofs.Unfinished.{one-kept, one-passed}
use Rattle.mdcc_facts_kept.proofs.kept_facts.KeptFacts.unresolved.Goals.{in-Some+else-left-eq0, in_default}
use Rattle.mdcc_facts_kept.proofs.kept_facts.KeptFacts.unresolved.Goals as goal

abbrev Sets : Type 0
Sets = List (TxId × List (Key × ℕ))

pub loop-at-init : goal.loop-at-init
loop-at-init c facts kept = ap (λ (m : Sets). slice_get m c.args.place) (sym (unresolved_asked c.args.self.now facts kept))

pub returns-then-left-eq0 : goal.returns-then-left-eq0
returns-then-left-eq0 c facts kept =
    let sets : Sets = plain_unresolved_of (without_floors kept.rest) in
    let rest : Sets = filter (λ e. not (is_finished facts e.0)) (drop (c.loop-at.at + 1) sets) in
    sym
    (ap (λ (m : Sets). slice_get m c.loop-at.left)
    (one-kept (λ (e : TxId × List (Key × ℕ)). is_finished facts e.0) sets c.loop-at.at c.in-Some.entry (sym (c.unfinished.ensures facts kept) ∙ c.in-Some.is))
    ∙ ap (λ n. slice_get (c.in-Some.entry ∷ rest) n) c.if-left-eq0.true)
    ∙ c.loop-at.invariant facts kept

pub loop-at-preserved : goal.loop-at-preserved
loop-at-preserved c facts kept =
    let sets : Sets = plain_unresolved_of (without_floors kept.rest) in
    let rest : Sets = filter (λ e. not (is_finished facts e.0)) (drop (c.loop-at.at + 1) sets) in
    elim c.match-unfinished.branch [
      | in-Some+else-left-eq0 w ↦
          let more : c.loop-at.left ≡ suc (c.loop-at.left - 1) = omega (arith, w.if-left-eq0.false) in
          ap (λ n. slice_get rest n) w.left-is
          ∙ sym (ap (λ n. slice_get (w.in-Some.entry ∷ rest) n) more)
          ∙ sym
          (ap (λ (m : Sets). slice_get m c.loop-at.left)
          (one-kept (λ (e : TxId × List (Key × ℕ)). is_finished facts e.0) sets c.loop-at.at w.in-Some.entry (sym (c.unfinished.ensures facts kept) ∙ w.in-Some.is)))
          ∙ c.loop-at.invariant facts kept
      | in_default w ↦
          ap (λ n. slice_get rest n) w.left-is
          ∙ sym
          (ap (λ (m : Sets). slice_get m c.loop-at.left)
          (one-passed (λ (e : TxId × List (Key × ℕ)). is_finished facts e.0) sets c.loop-at.at (sym (c.unfinished.ensures facts kept) ∙ w.in_default.is)))
          ∙ c.loop-at.invariant facts kept
    ]

pub returns : goal.returns
returns c facts kept =
    let sets : Sets = plain_unresolved_of (without_floors kept.rest) in
    let past : length sets ≤ c.loop-at.at = omega (arith, c.loop-at-test.false, c.unresolved_len-at-end.ensures (without_floors kept.rest) (c.rest.ensures.rest facts kept)) in
    sym (ap (λ (m : Sets). slice_get (filter (λ e. not (is_finished facts e.0)) m) c.loop-at.left) (drop-end sets c.loop-at.at past)) ∙ c.loop-at.invariant facts kept
