use Rattle.std.proofs.Common.{◌≡◌, ◌≤◌, ◌+◌, ◌++◌, ◌∷◌, [], List, ap, arith, drop, length, not, refl, sym, ℕ, ◌∙◌}
use Rattle.std.specs.Prelude.{filter}
use Rattle.mdcc_base.specs.declared.identifiers.TxId.{TxId}
use Rattle.mdcc_base.specs.declared.key.Key.{Key}
use Rattle.mdcc_def_protocol.specs.Facts.{is_finished}
use Rattle.mdcc_def_protocol.specs.Plain.{plain_unresolved_of}
use Rattle.mdcc_given_back.specs.Counted.{without_floors}
use Rattle.mdcc_facts_kept.proofs.Asked.{unresolved_asked}
use Rattle.mdcc_facts_kept.proofs.Drops.{behind, drop-end}
use Rattle.mdcc_facts_kept.proofs.Unfinished.{one-kept, one-passed}
use Rattle.mdcc_facts_kept.proofs.kept_facts.KeptFacts.unresolved_all.Goals.{in-Some+in_ok-push, in_default}
use Rattle.mdcc_facts_kept.proofs.kept_facts.KeptFacts.unresolved_all.Goals as goal

abbrev Sets : Type 0
Sets = List (TxId × List (Key × ℕ))

none-behind : (xs : Sets) → xs ++ [] ≡ xs
none-behind [] = refl
none-behind (x ∷ xs) = ap (λ (ys : Sets). x ∷ ys) (none-behind xs)

pub loop-at-init : goal.loop-at-init
loop-at-init c facts kept =
    ap (λ (m : Sets). m ++ filter (λ e. not (is_finished facts e.0)) (plain_unresolved_of (without_floors kept.rest))) c.new-all.ensures
    ∙ sym (unresolved_asked c.args.self.now facts kept)

pub loop-at-preserved : goal.loop-at-preserved
loop-at-preserved c facts kept =
    let sets : Sets = plain_unresolved_of (without_floors kept.rest) in
    let rest : Sets = filter (λ e. not (is_finished facts e.0)) (drop (c.loop-at.at + 1) sets) in
    elim c.match-unfinished.branch [
      | in-Some+in_ok-push w ↦
          ap (λ (m : Sets). m ++ rest) (w.all-is ∙ w.in_ok-push.ensures.ok)
          ∙ behind c.loop-at.all rest w.in-Some.entry
          ∙ ap (λ (m : Sets). c.loop-at.all ++ m)
          (sym (one-kept (λ (e : TxId × List (Key × ℕ)). is_finished facts e.0) sets c.loop-at.at w.in-Some.entry (sym (c.unfinished.ensures facts kept) ∙ w.in-Some.is)))
          ∙ c.loop-at.invariant facts kept
      | in_default w ↦
          ap (λ (m : Sets). m ++ rest) w.all-is
          ∙ ap (λ (m : Sets). c.loop-at.all ++ m)
          (sym (one-passed (λ (e : TxId × List (Key × ℕ)). is_finished facts e.0) sets c.loop-at.at (sym (c.unfinished.ensures facts kept) ∙ w.in_default.is)))
          ∙ c.loop-at.invariant facts kept
    ]

pub returns : goal.returns
returns c facts kept =
    let sets : Sets = plain_unresolved_of (without_floors kept.rest) in
    let past : length sets ≤ c.loop-at.at = omega (arith, c.loop-at-test.false, c.unresolved_len-at-end.ensures (without_floors kept.rest) (c.rest.ensures.rest facts kept)) in
    sym (none-behind c.loop-at.all) ∙ sym (ap (λ (m : Sets). c.loop-at.all ++ filter (λ e. not (is_finished facts e.0)) m) (drop-end sets c.loop-at.at past))
    ∙ c.loop-at.invariant facts kept
