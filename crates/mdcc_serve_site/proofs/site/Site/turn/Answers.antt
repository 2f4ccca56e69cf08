use Rattle.std.proofs.Common.{◌≡◌, ◌∙◌, ℕ, ◌+◌, Bool, None, Result, Ok, Err, false, refl, subst, sym}
use Rattle.std.specs.Prelude.{◌&&◌}
use Rattle.std.proofs.lemmas.Result.{err_from_is_err_and}
use Rattle.mdcc_def_server_runs.specs.Sites.{Doing}
use Rattle.mdcc_def_server_runs.specs.Turns.{Given, asked_received, asked_taken, own_received, own_taken, released, ticked, turn_inputs_taken, turn_of}
use Rattle.mdcc_serve_site.proofs.Logged.{either_from, either_same}
use Rattle.mdcc_serve_site.proofs.Owns.{inputs_own}
use Rattle.mdcc_serve_site.proofs.Receives.{becomes_goes, receives_goes}
use Rattle.mdcc_serve_site.proofs.Turned.{held_is, inputs_go, none_waits, ticked_by, turn_goes, turn_unasked, turn_unreceived, turn_unticked}
use Rattle.mdcc_serve_site.specs.AnyMoment.{LeavesEither}
use Rattle.mdcc_serve_site.specs.Moments.{outside}
use Rattle.mdcc_serve_site.specs.Silence.{ticked_if}
use Rattle.mdcc_serve_site.specs.SiteState.{Goes, OpenLog, place}
use Rattle.mdcc_serve_site.specs.Waiting.{knows_none}
use Rattle.mdcc_serve_site.specs.declared.fault.ServeFault.{ServeFault}
use Rattle.mdcc_serve_site.proofs.site.Site.turn.Goals as goal

pub receive_own-requires : goal.receive_own-requires
receive_own-requires g c = record { served = (c.args.config.now.cluster, c.requires.served.site, c.requires.served.stands.itself) }

pub receive_asked-requires : goal.receive_asked-requires
receive_asked-requires g c =
    let site = c.requires.served.site in
    let stands = c.requires.served.stands in
    let w = (outside c.args.config.now.checkpoint g.D.Disks.disk g.D.Disks.may_leave g.L.Link.calls g.L.Link.lost g.L.Link.faults g.O.Sink.held g.O.Sink.faults) in
    let config = c.args.config.now in
    let cluster = config.cluster in
    let disks = c.args.disks.now in
    let out = c.args.out.now in
    let whole = stands.itself.waits.all in
    let x = receives_goes w cluster site site.centre (own_taken config site) (Ok c.in_ok-own.own) disks c.args.self.now c.receive_own.new.self c.args.link.now c.receive_own.new.link out stands refl (c.in_ok-own.ensures config site stands.itself) in
    let one = (own_received config site x.0).site in
    record { served = (one, x.1.stands.itself) }

pub tick_if-requires : goal.tick_if-requires
tick_if-requires g c =
    let site = c.requires.served.site in
    let stands = c.requires.served.stands in
    let w = (outside c.args.config.now.checkpoint g.D.Disks.disk g.D.Disks.may_leave g.L.Link.calls g.L.Link.lost g.L.Link.faults g.O.Sink.held g.O.Sink.faults) in
    let config = c.args.config.now in
    let cluster = config.cluster in
    let disks = c.args.disks.now in
    let out = c.args.out.now in
    let whole = stands.itself.waits.all in
    let x = receives_goes w cluster site site.centre (own_taken config site) (Ok c.in_ok-own.own) disks c.args.self.now c.receive_own.new.self c.args.link.now c.receive_own.new.link out stands refl (c.in_ok-own.ensures config site stands.itself) in
    let one = (own_received config site x.0).site in
    let y = receives_goes w cluster one (one.centre + 16) (asked_taken config one) (Ok c.in_ok-asked.asked) disks c.receive_own.new.self c.receive_asked.new.self c.receive_own.new.link c.receive_asked.new.link out x.1.stands refl
    (c.in_ok-asked.ensures one x.1.stands.itself) in
    let two = (asked_received config one y.0).site in
    record { served = (cluster, two, y.1.stands.itself) }

pub release-requires-clause-served : goal.release-requires-clause-served
release-requires-clause-served g c =
    let site = c.requires.served.site in
    let stands = c.requires.served.stands in
    let w = (outside c.args.config.now.checkpoint g.D.Disks.disk g.D.Disks.may_leave g.L.Link.calls g.L.Link.lost g.L.Link.faults g.O.Sink.held g.O.Sink.faults) in
    let config = c.args.config.now in
    let cluster = config.cluster in
    let disks = c.args.disks.now in
    let out = c.args.out.now in
    let whole = stands.itself.waits.all in
    let x = receives_goes w cluster site site.centre (own_taken config site) (Ok c.in_ok-own.own) disks c.args.self.now c.receive_own.new.self c.args.link.now c.receive_own.new.link out stands refl (c.in_ok-own.ensures config site stands.itself) in
    let one = (own_received config site x.0).site in
    let y = receives_goes w cluster one (one.centre + 16) (asked_taken config one) (Ok c.in_ok-asked.asked) disks c.receive_own.new.self c.receive_asked.new.self c.receive_own.new.link c.receive_asked.new.link out x.1.stands refl
    (c.in_ok-asked.ensures one x.1.stands.itself) in
    let two = (asked_received config one y.0).site in
    let given : Given = record { own = x.0; asked = y.0; waits = false } in
    let silence = ticked_by config given two c.in_ok-own.own c.in_ok-asked.asked c.is_silent-silent.result x.2 y.2 c.is_silent-silent.ensures in
    let z = subst (λ (d : Doing). Goes w {T = Unit {0}} cluster two d (Ok tt) (place disks c.receive_asked.new.self c.receive_asked.new.link out) (place disks c.tick_if.new.self c.receive_asked.new.link out)) silence
    (becomes_goes w {T = Unit {0}} cluster two (ticked_if config c.is_silent-silent.result two) (Ok tt) disks c.receive_asked.new.self c.tick_if.new.self c.receive_asked.new.link out y.1.stands (c.in_ok-tick_if.ensures config two y.1.stands.itself)) in
    record { site = (ticked config given two).site; stands = z.stands }

pub returns-in_err-own : goal.returns-in_err-own
returns-in_err-own g c site stands =
    let w = (outside c.args.config.now.checkpoint g.D.Disks.disk g.D.Disks.may_leave g.L.Link.calls g.L.Link.lost g.L.Link.faults g.O.Sink.held g.O.Sink.faults) in
    let config = c.args.config.now in
    let cluster = config.cluster in
    let disks = c.args.disks.now in
    let out = c.args.out.now in
    let whole = stands.itself.waits.all in
    let x = receives_goes w cluster site site.centre (own_taken config site) (Err c.in_err-own.field-0.0) disks c.args.self.now c.receive_own.new.self c.args.link.now c.receive_own.new.link out stands refl (c.in_err-own.ensures config site stands.itself) in
    let given : Given = record { own = x.0; asked = None; waits = false } in
    let p = err_from_is_err_and c.from_residual.result c.from_residual.ensures.1 in
    let e : c.from_residual.result ≡ Err c.in_err-own.field-0.0 = cc (p.1, p.2) in
    (given, subst (λ (r : Result (Unit {0}) ServeFault). Goes w cluster site (turn_of config site given) r (place disks c.args.self.now c.args.link.now out) (place disks c.receive_own.new.self c.receive_own.new.link out)) (sym e) (turn_unreceived w cluster config site whole given x.1), none_waits (g.L.Link.waiting c.receive_own.new.link) site.centre, either_same g.D.Disks.disk g.D.Disks.may_leave g.D.Disks.moment g.D.Disks.left_since g.met.D.Disks.only_now disks c.args.self.now.log site.centre site.logged (turn_of config site given).site.logged stands.log.open_log)

pub returns-in_err-asked : goal.returns-in_err-asked
returns-in_err-asked g c site stands =
    let w = (outside c.args.config.now.checkpoint g.D.Disks.disk g.D.Disks.may_leave g.L.Link.calls g.L.Link.lost g.L.Link.faults g.O.Sink.held g.O.Sink.faults) in
    let config = c.args.config.now in
    let cluster = config.cluster in
    let disks = c.args.disks.now in
    let out = c.args.out.now in
    let whole = stands.itself.waits.all in
    let x = receives_goes w cluster site site.centre (own_taken config site) (Ok c.in_ok-own.own) disks c.args.self.now c.receive_own.new.self c.args.link.now c.receive_own.new.link out stands refl (c.in_ok-own.ensures config site stands.itself) in
    let one = (own_received config site x.0).site in
    let y = receives_goes w cluster one (one.centre + 16) (asked_taken config one) (Err c.in_err-asked.field-0.0) disks c.receive_own.new.self c.receive_asked.new.self c.receive_own.new.link c.receive_asked.new.link out x.1.stands refl
    (c.in_err-asked.ensures one x.1.stands.itself) in
    let given : Given = record { own = x.0; asked = y.0; waits = false } in
    let p = err_from_is_err_and c.from_residual-in_err-asked.result c.from_residual-in_err-asked.ensures.1 in
    let e : c.from_residual-in_err-asked.result ≡ Err c.in_err-asked.field-0.0 = cc (p.1, p.2) in
    (given, subst (λ (r : Result (Unit {0}) ServeFault). Goes w cluster site (turn_of config site given) r (place disks c.args.self.now c.args.link.now out) (place disks c.receive_asked.new.self c.receive_asked.new.link out)) (sym e) (turn_unasked w cluster config site whole given x.1 y.1), none_waits (g.L.Link.waiting c.receive_asked.new.link) site.centre, either_same g.D.Disks.disk g.D.Disks.may_leave g.D.Disks.moment g.D.Disks.left_since g.met.D.Disks.only_now disks c.args.self.now.log site.centre site.logged (turn_of config site given).site.logged stands.log.open_log)

pub returns-in_err-tick_if : goal.returns-in_err-tick_if
returns-in_err-tick_if g c site stands =
    let w = (outside c.args.config.now.checkpoint g.D.Disks.disk g.D.Disks.may_leave g.L.Link.calls g.L.Link.lost g.L.Link.faults g.O.Sink.held g.O.Sink.faults) in
    let config = c.args.config.now in
    let cluster = config.cluster in
    let disks = c.args.disks.now in
    let out = c.args.out.now in
    let whole = stands.itself.waits.all in
    let x = receives_goes w cluster site site.centre (own_taken config site) (Ok c.in_ok-own.own) disks c.args.self.now c.receive_own.new.self c.args.link.now c.receive_own.new.link out stands refl (c.in_ok-own.ensures config site stands.itself) in
    let one = (own_received config site x.0).site in
    let y = receives_goes w cluster one (one.centre + 16) (asked_taken config one) (Ok c.in_ok-asked.asked) disks c.receive_own.new.self c.receive_asked.new.self c.receive_own.new.link c.receive_asked.new.link out x.1.stands refl
    (c.in_ok-asked.ensures one x.1.stands.itself) in
    let two = (asked_received config one y.0).site in
    let given : Given = record { own = x.0; asked = y.0; waits = false } in
    let silence = ticked_by config given two c.in_ok-own.own c.in_ok-asked.asked c.is_silent-silent.result x.2 y.2 c.is_silent-silent.ensures in
    let z = subst (λ (d : Doing). Goes w {T = Unit {0}} cluster two d (Err c.in_err-tick_if.field-0.0) (place disks c.receive_asked.new.self c.receive_asked.new.link out) (place disks c.tick_if.new.self c.receive_asked.new.link out)) silence
    (becomes_goes w {T = Unit {0}} cluster two (ticked_if config c.is_silent-silent.result two) (Err c.in_err-tick_if.field-0.0) disks c.receive_asked.new.self c.tick_if.new.self c.receive_asked.new.link out y.1.stands (c.in_err-tick_if.ensures config two y.1.stands.itself)) in
    let p = err_from_is_err_and c.from_residual-in_err-tick_if.result c.from_residual-in_err-tick_if.ensures.1 in
    let e : c.from_residual-in_err-tick_if.result ≡ Err c.in_err-tick_if.field-0.0 = cc (p.1, p.2) in (
      given,
      subst (λ (r : Result (Unit {0}) ServeFault). Goes w cluster site (turn_of config site given) r (place disks c.args.self.now c.args.link.now out) (place disks c.tick_if.new.self c.receive_asked.new.link out)) (sym e)
          (turn_unticked w cluster config site whole given (inputs_go w cluster config site whole given {T = Unit {0}} _ (Err c.in_err-tick_if.field-0.0) x.1 y.1 z)),
      none_waits (g.L.Link.waiting c.receive_asked.new.link) site.centre,
      either_same g.D.Disks.disk g.D.Disks.may_leave g.D.Disks.moment g.D.Disks.left_since g.met.D.Disks.only_now disks c.args.self.now.log site.centre site.logged (turn_of config site given).site.logged stands.log.open_log,
    )

pub returns : goal.returns
returns g c site stands =
    let w = (outside c.args.config.now.checkpoint g.D.Disks.disk g.D.Disks.may_leave g.L.Link.calls g.L.Link.lost g.L.Link.faults g.O.Sink.held g.O.Sink.faults) in
    let config = c.args.config.now in
    let cluster = config.cluster in
    let disks = c.args.disks.now in
    let out = c.args.out.now in
    let whole = stands.itself.waits.all in
    let x = receives_goes w cluster site site.centre (own_taken config site) (Ok c.in_ok-own.own) disks c.args.self.now c.receive_own.new.self c.args.link.now c.receive_own.new.link out stands refl (c.in_ok-own.ensures config site stands.itself) in
    let one = (own_received config site x.0).site in
    let y = receives_goes w cluster one (one.centre + 16) (asked_taken config one) (Ok c.in_ok-asked.asked) disks c.receive_own.new.self c.receive_asked.new.self c.receive_own.new.link c.receive_asked.new.link out x.1.stands refl
    (c.in_ok-asked.ensures one x.1.stands.itself) in
    let two = (asked_received config one y.0).site in
    let given : Given = record { own = x.0; asked = y.0; waits = c.is_held-held.result } in
    let silence = ticked_by config given two c.in_ok-own.own c.in_ok-asked.asked c.is_silent-silent.result x.2 y.2 c.is_silent-silent.ensures in
    let z = subst (λ (d : Doing). Goes w {T = Unit {0}} cluster two d (Ok tt) (place disks c.receive_asked.new.self c.receive_asked.new.link out) (place disks c.tick_if.new.self c.receive_asked.new.link out)) silence
    (becomes_goes w {T = Unit {0}} cluster two (ticked_if config c.is_silent-silent.result two) (Ok tt) disks c.receive_asked.new.self c.tick_if.new.self c.receive_asked.new.link out y.1.stands (c.in_ok-tick_if.ensures config two y.1.stands.itself)) in
    let inputs = turn_inputs_taken config site given in
    let taken = inputs_go w cluster config site whole given {T = Unit {0}} _ (Ok tt) x.1 y.1 z in
    let held = held_is w cluster site given inputs c.in_ok-own.own c.in_ok-asked.asked c.is_silent-silent.result c.made_step-made_step.result
    (place disks c.args.self.now c.args.link.now out) (place disks c.tick_if.new.self c.receive_asked.new.link out) x.2 y.2 c.is_silent-silent.ensures c.made_step-made_step.ensures taken
    c.is_held-held.ensures.made_step (c.is_held-held.ensures.few inputs.site.pending z.stands.itself.waits.pending) in
    let own = (inputs_own config site given).centre in
    let centre : c.tick_if.new.self.centre ≡ site.centre = z.stands.itself.centre ∙ own in (
      given,
      turn_goes w cluster config site whole given (place c.release.new.disks c.release.new.self c.release.new.link c.release.new.out) c.release.result taken
          (subst (λ (b : Bool). Goes w cluster inputs.site (released config b inputs.site) c.release.result (place disks c.tick_if.new.self c.receive_asked.new.link out)
          (place c.release.new.disks c.release.new.self c.release.new.link c.release.new.out)) (sym held) (c.release.ensures.goes inputs.site z.stands)),
      λ waits. subst (λ (n : ℕ). (knows_none (g.L.Link.waiting c.release.new.link n) && knows_none (g.L.Link.waiting c.release.new.link (n + 16))) ≡ false) centre
          (subst (λ link. (knows_none (g.L.Link.waiting link c.tick_if.new.self.centre) && knows_none (g.L.Link.waiting link (c.tick_if.new.self.centre + 16))) ≡ false)
          (sym (c.release.ensures.untouched waits)) (c.is_held-held.ensures.waits waits)),
      either_from g.D.Disks.disk g.D.Disks.may_leave g.D.Disks.moment g.D.Disks.left_since disks c.release.new.disks c.args.self.now.log c.tick_if.new.self.log site.centre site.logged inputs.site.logged
          (turn_of config site given).site.logged (g.met.D.Disks.as_read disks) stands.log.open_log
          (subst (λ (n : ℕ). OpenLog g.D.Disks.disk g.D.Disks.may_leave c.args.config.now.checkpoint disks c.tick_if.new.self.log n inputs.site.logged) own z.stands.log.open_log)
          (subst (λ (n : ℕ). LeavesEither g.D.Disks.disk g.D.Disks.moment g.D.Disks.left_since n inputs.site.logged (turn_of config site given).site.logged disks c.release.new.disks) own
          (subst (λ (b : Bool). LeavesEither g.D.Disks.disk g.D.Disks.moment g.D.Disks.left_since inputs.site.centre inputs.site.logged (released config b inputs.site).site.logged disks c.release.new.disks) (sym held)
          (c.release.ensures.any_moment inputs.site z.stands))),
    )
