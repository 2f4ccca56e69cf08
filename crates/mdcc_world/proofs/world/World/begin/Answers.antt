use Rattle.std.proofs.Common.{◌≡◌, Ok, List, Option, Result, true, sym, ap, ◌∙◌, subst}
use Rattle.mdcc_base.specs.Unless.{GivesUnless}
use Rattle.mdcc_option.specs.declared.items.Known.{Known}
use Rattle.mdcc_option.specs.declared.items.Part.{Part}
use Rattle.mdcc_def_language.specs.Resolve.{resolve}
use Rattle.mdcc_def_language.specs.declared.schedule.ResolveFault.{ResolveFault}
use Rattle.mdcc_sched.specs.Free.{is_resolve_memory}
use Rattle.mdcc_world.proofs.BeginSaid.{begin-as, formed-parts, gives-ok, unresolved-as}
use Rattle.mdcc_def_simulation.specs.State.{is_up_at}
use Rattle.mdcc_world.proofs.world.World.begin.Goals as goal

pub begin_parts-requires-clause-formed : goal.begin_parts-requires-clause-formed
begin_parts-requires-clause-formed c made drafted =
    let words = c.args.words.now in
    let same : resolve words c.as_slice.result.now ≡ resolve words c.args.self.now.reads = ap (λ (reads : List (Option Known)). resolve words reads) c.as_slice.ensures in
    let parts : Ok c.in-Ok.parts ≡ resolve words c.args.self.now.reads = gives-ok c.resolve.result _ c.in-Ok.parts c.resolve.ensures c.in-Ok.is ∙ same in
    let here : Ok c.as_slice-in-Ok.result.now ≡ resolve words c.args.self.now.reads = ap (λ (ps : List Part). Ok ps) c.as_slice-in-Ok.ensures ∙ parts in
    formed-parts c.args.self.now c.requires.0 words c.as_slice-in-Ok.result.now made c.requires.1 c.words_given.ensures here drafted

pub returns-in-Ok-clause-happens : goal.returns-in-Ok-clause-happens
returns-in-Ok-clause-happens c w like =
    let a = c.args.centre in
    let words = c.args.words.now in
    let up : is_up_at w a ≡ true = sym (c.if-not-is_up.ensures.up w like) in
    let same : resolve words c.as_slice.result.now ≡ resolve words c.args.self.now.reads = ap (λ (reads : List (Option Known)). resolve words reads) c.as_slice.ensures in
    let parts : Ok c.in-Ok.parts ≡ resolve words c.args.self.now.reads = gives-ok c.resolve.result _ c.in-Ok.parts c.resolve.ensures c.in-Ok.is ∙ same in
    let here : Ok c.as_slice-in-Ok.result.now ≡ resolve words c.args.self.now.reads = ap (λ (ps : List Part). Ok ps) c.as_slice-in-Ok.ensures ∙ parts in
    rw (begin-as c.args.self.now w a words like up (Ok c.as_slice-in-Ok.result.now) here) (c.begin_parts.ensures.happens w like)

pub returns-clause-happens : goal.returns-clause-happens
returns-clause-happens c w like =
    let a = c.args.centre in
    let words = c.args.words.now in
    let up : is_up_at w a ≡ true = sym (c.if-not-is_up.ensures.up w like) in
    let same : resolve words c.as_slice.result.now ≡ resolve words c.args.self.now.reads = ap (λ (reads : List (Option Known)). resolve words reads) c.as_slice.ensures in
    let gives = subst (λ (r : Result (List Part) ResolveFault). GivesUnless is_resolve_memory r (resolve words c.as_slice.result.now)) c.in-Err.is c.resolve.ensures in
    rw (begin-as c.args.self.now w a words like up (resolve words c.as_slice.result.now) same)
    (unresolved-as c.unresolved.result _ _ _ w a c.in-Err.fault (resolve words c.as_slice.result.now) gives (c.unresolved.ensures.happens w a like))

pub begin_parts-requires-clause-up : goal.begin_parts-requires-clause-up
begin_parts-requires-clause-up c w like = sym (c.if-not-is_up.ensures.up w like)
