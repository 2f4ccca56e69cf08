use Rattle.std.proofs.Common.{◌≡◌, ◌+◌, ◌++◌, ◌∷◌, [], ap, drop, not, sym, true, ◌∙◌}
use Rattle.std.specs.Prelude.{filter}
use Rattle.mdcc_base.specs.declared.identifiers.TxId.{TxId}
use Rattle.mdcc_option.specs.declared.choices.Mark.{Mark}
use Rattle.mdcc_struct.specs.Maps.{are_ascending, inserted}
use Rattle.mdcc_struct.specs.declared.options.Options.{Options}
use Rattle.mdcc_def_protocol.specs.Facts.{is_forgotten}
use Rattle.mdcc_facts.proofs.Walking.{drop_next}
use Rattle.mdcc_facts_kept.proofs.Drops.{behind, filter-here, filter-later}
use Rattle.mdcc_facts_kept.proofs.Gathered.{ascending-without, fresh, inserted-last}
use Rattle.mdcc_facts_kept.proofs.kept_facts.KeptFacts.without_forgotten.Goals.{else-not-is_forgotten, then-not-is_forgotten+in_ok-insert}
use Rattle.mdcc_facts_kept.proofs.kept_facts.KeptFacts.without_forgotten.Goals as goal

pub insert-requires : goal.insert-requires
insert-requires c =
    let e : TxId × Mark = (c.at-tx.result.0, c.at-tx.result.1.now) in
    fresh c.loop-place.shown (drop (c.loop-place.place + 1) c.args.options.now) e
    (ap (λ (m : Options). are_ascending (c.loop-place.shown ++ m)) (sym (drop_next c.args.options.now c.loop-place.place e c.at-tx.ensures)) ∙ c.loop-place.invariant.up)

pub loop-place-preserved : goal.loop-place-preserved
loop-place-preserved c =
    let e : TxId × Mark = (c.at-tx.result.0, c.at-tx.result.1.now) in
    let left = drop (c.loop-place.place + 1) c.args.options.now in
    let up : are_ascending (c.loop-place.shown ++ e ∷ left) ≡ true =
    ap (λ (m : Options). are_ascending (c.loop-place.shown ++ m)) (sym (drop_next c.args.options.now c.loop-place.place e c.at-tx.ensures)) ∙ c.loop-place.invariant.up in
    elim c.if-not-is_forgotten.branch [
      | then-not-is_forgotten+in_ok-insert w ↦
          let is : c.if-not-is_forgotten.shown ≡ c.loop-place.shown ++ e ∷ [] =
          w.shown-is ∙ w.in_ok-insert.ensures.ok ∙ ap (λ (mark : Mark). inserted c.loop-place.shown (c.at-tx.result.0, mark)) w.copy.ensures
          ∙ inserted-last c.loop-place.shown left e up in
          record {
            up = ap (λ (m : Options). are_ascending (m ++ left)) is ∙ ap are_ascending (behind c.loop-place.shown left e) ∙ up;
            value = λ facts kept.
                let keep = λ (x : TxId × Mark). not (is_forgotten facts c.args.key.now c.args.version x.0) in
                ap (λ (m : Options). m ++ filter keep left) is
                ∙ behind c.loop-place.shown (filter keep left) e
                ∙ ap (λ (m : Options). c.loop-place.shown ++ m)
                (sym (filter-here keep c.args.options.now c.loop-place.place e c.at-tx.ensures (ap not (sym (c.is_forgotten.ensures facts kept) ∙ w.if-not-is_forgotten.true))))
                ∙ c.loop-place.invariant.value facts kept;
          }
      | else-not-is_forgotten w ↦ record {
        up = ap (λ (m : Options). are_ascending (m ++ left)) w.shown-is ∙ ascending-without c.loop-place.shown left e up;
        value = λ facts kept.
            let keep = λ (x : TxId × Mark). not (is_forgotten facts c.args.key.now c.args.version x.0) in
            ap (λ (m : Options). m ++ filter keep left) w.shown-is
            ∙ ap (λ (m : Options). c.loop-place.shown ++ m)
            (sym (filter-later keep c.args.options.now c.loop-place.place e c.at-tx.ensures (ap not (sym (c.is_forgotten.ensures facts kept) ∙ w.if-not-is_forgotten.false))))
            ∙ c.loop-place.invariant.value facts kept;
      }
    ]
