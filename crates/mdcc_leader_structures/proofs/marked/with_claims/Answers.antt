use Rattle.std.proofs.Common.{◌+◌, ◌∙◌, Option, ap, drop, fold, sym}
use Rattle.std.specs.Option.{option_copied}
use Rattle.mdcc_base.specs.declared.identifiers.TxId.{TxId}
use Rattle.mdcc_option.specs.declared.choices.Choice.{Choice}
use Rattle.mdcc_struct.specs.declared.options.Options.{Options}
use Rattle.mdcc_def_protocol.specs.Structures.{with_claim}
use Rattle.mdcc_leader_structures.proofs.Marks.{fold-next}
use Rattle.mdcc_leader_structures.proofs.marked.with_claims.Goals as goal

pub loop-place-preserved : goal.loop-place-preserved
loop-place-preserved g c = record {
  bounded = c.in_ok-load.ensures.bounded;
  weighed = c.in_ok-load.ensures.weighed;
  value = λ facts h.
      let claims = c.args.claims.now in
      let i = c.loop-place.place in
      let e : TxId × Option Choice = (c.at-claim.result.0, option_copied c.at-claim.result.1) in
      ap (λ (o : Options). fold (with_claim c.args.cluster.now facts c.args.key.now c.args.version) o (drop (i + 1) claims)) (c.in_ok-load.ensures.value facts h)
      ∙ sym (fold-next (with_claim c.args.cluster.now facts c.args.key.now c.args.version) c.loop-place.options claims i e c.at-claim.ensures)
      ∙ c.loop-place.invariant.value facts h;
}
