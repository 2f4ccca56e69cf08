use Rattle.std.proofs.Common.{◌≡◌, ◌+◌, ◌-◌, ◌<◌, ◌≤◌, Option, arith, refl, subst, sym, ℕ}
use Rattle.mdcc_def_simulation.specs.State.{World}
use Rattle.mdcc_world.proofs.CutShort.{memory-always, memory-any}
use Rattle.mdcc_world.proofs.Happened.{has-come, residual}
use Rattle.mdcc_world.proofs.Settled.{ends-after, settle-breaks, settle-ends, settle-full, settle-goes_on, settle-limited, settle-short, settle-stops}
use Rattle.mdcc_world.specs.SettleEnd.{IsNext}
use Rattle.mdcc_world.specs.Represents.{IsLike}
use Rattle.mdcc_world.specs.declared.world.World.{World as TheWorld}
use Rattle.mdcc_theorem_worlds.specs.DeliveryProgress.{after_numbered_message}
use Rattle.mdcc_world.proofs.world.World.settle_for.Goals as goal

pub returns-in_err-deliver_waiting-in-Some-clause-ends : goal.returns-in_err-deliver_waiting-in-Some-clause-ends
returns-in_err-deliver_waiting-in-Some-clause-ends c w before few happened =
    let at = c.loop-deliveries in
    let listed = c.args.listed.now in
    let has = at.invariant.has w before few happened in
    let below : at.self.events < 100000 = (let events = at.invariant.events in omega (events, arith)) in
    let fault = c.in_err-deliver_waiting-in-Some.field-0.0 in
    let next = subst (λ (o : Option ℕ). IsNext has.reached.world listed o) c.in-Some.is (c.in_ok-number.ensures.next has.reached.world has.happened.like) in
    let here = subst (λ (x : TheWorld). IsLike x has.reached.world) (sym c.in_ok-number.ensures.kept) has.happened.like in
    rw (residual c.from_residual-in_err-deliver_waiting-in-Some.result fault c.from_residual-in_err-deliver_waiting-in-Some.ensures.1)
    (settle-breaks at.self before at.lines w listed at.deliveries has c.in-Some.number fault next below few
    (c.in_err-deliver_waiting-in-Some.ensures.happens has.reached.world here))

pub returns-in-None-clause-ends : goal.returns-in-None-clause-ends
returns-in-None-clause-ends c w before few happened =
    let at = c.loop-deliveries in
    let listed = c.args.listed.now in
    let has = at.invariant.has w before few happened in
    let next = subst (λ (o : Option ℕ). IsNext has.reached.world listed o) c.in-None.is (c.in_ok-number.ensures.next has.reached.world has.happened.like) in
    settle-ends at.self before at.lines w listed at.deliveries has _ c.in_ok-number.ensures.kept next few

pub loop-deliveries-preserved : goal.loop-deliveries-preserved
loop-deliveries-preserved c =
    let at = c.loop-deliveries in
    let listed = c.args.listed.now in
    let some = at.invariant.some in
    let number = c.in-Some.number in
    let here : (w : World) → IsLike at.self w → IsLike c.next_asked.new.self w = λ w like. subst (λ (x : TheWorld). IsLike x w) (sym c.in_ok-number.ensures.kept) like in
    let come = has-come {T = Unit {0}} tt c.deliver_waiting.new.self at.lines c.deliver_waiting.new.lines (after_numbered_message some.0 number) (c.in_ok-deliver_waiting-in-Some.ensures.happens some.0 (here some.0 some.1)) in
    record {
      events = (let more = c.in_ok-deliver_waiting-in-Some.ensures.few in let events = at.invariant.events in let kept = c.in_ok-number.ensures.kept in
          subst (λ (x : TheWorld). c.deliver_waiting.new.self.events ≤ x.events + 1 → c.deliver_waiting.new.self.events ≤ c.args.self.now.events + (at.deliveries + 1)) (sym kept)
          (λ (h : c.deliver_waiting.new.self.events ≤ at.self.events + 1). omega (h, events, arith)) more);
      some = (come.h.world, come.happened.like);
      has = λ w before few happened.
          let has = at.invariant.has w before few happened in
          let below : at.self.events < 100000 = (let events = at.invariant.events in omega (events, arith)) in
          let next = subst (λ (o : Option ℕ). IsNext has.reached.world listed o) c.in-Some.is (c.in_ok-number.ensures.next has.reached.world has.happened.like) in
          settle-goes_on at.self before at.lines w listed at.deliveries has c.deliver_waiting.new.self c.deliver_waiting.new.lines number next below
          (c.in_ok-deliver_waiting-in-Some.ensures.happens has.reached.world (here has.reached.world has.happened.like));
    }

pub returns-in-Some-2-clause-ends : goal.returns-in-Some-2-clause-ends
returns-in-Some-2-clause-ends c w before few happened =
    let at = c.loop-deliveries in
    let listed = c.args.listed.now in
    let has = at.invariant.has w before few happened in
    let reached = has.happened.like.records.events in
    let count = has.so_far.count in
    let first = happened.like.records.events in
    let limit : c.from.result ≡ 100000 = cc in
    let next = subst (λ (o : Option ℕ). IsNext has.reached.world listed o) c.in-Some-2.is (c.in_ok-next_asked.ensures.next has.reached.world has.happened.like) in
    rw limit (settle-stops at.self before at.lines w listed at.deliveries has c.in-Some-2.field-0 next (omega (reached, count, first, arith)))

pub returns-in-None-2-clause-ends : goal.returns-in-None-2-clause-ends
returns-in-None-2-clause-ends c w before few happened =
    let at = c.loop-deliveries in
    let listed = c.args.listed.now in
    let has = at.invariant.has w before few happened in
    let all : at.deliveries ≡ 100000 - c.args.self.now.events = omega arith in
    let next = subst (λ (o : Option ℕ). IsNext has.reached.world listed o) c.in-None-2.is (c.in_ok-next_asked.ensures.next has.reached.world has.happened.like) in
    ends-after _ before at.lines w listed at.deliveries _ all
    (settle-ends at.self before at.lines w listed at.deliveries has _ c.in_ok-next_asked.ensures.kept next few)

pub returns-in_err-deliver_waiting-in-Some-clause-limited : goal.returns-in_err-deliver_waiting-in-Some-clause-limited
returns-in_err-deliver_waiting-in-Some-clause-limited c w before few happened =
    let at = c.loop-deliveries in
    let listed = c.args.listed.now in
    let has = at.invariant.has w before few happened in
    let below : at.self.events < 100000 = (let events = at.invariant.events in omega (events, arith)) in
    let fault = c.in_err-deliver_waiting-in-Some.field-0.0 in
    let next = subst (λ (o : Option ℕ). IsNext has.reached.world listed o) c.in-Some.is (c.in_ok-number.ensures.next has.reached.world has.happened.like) in
    let here = subst (λ (x : TheWorld). IsLike x has.reached.world) (sym c.in_ok-number.ensures.kept) has.happened.like in
    rw (residual c.from_residual-in_err-deliver_waiting-in-Some.result fault c.from_residual-in_err-deliver_waiting-in-Some.ensures.1)
    (settle-limited at.self before at.lines w listed at.deliveries has c.deliver_waiting.new.lines c.in-Some.number fault next below
    (c.in_err-deliver_waiting-in-Some.ensures.happens has.reached.world here) c.in_err-deliver_waiting-in-Some.ensures.untold)

pub returns-in-Some-2-clause-limited : goal.returns-in-Some-2-clause-limited
returns-in-Some-2-clause-limited c w before few happened =
    let at = c.loop-deliveries in
    let listed = c.args.listed.now in
    let has = at.invariant.has w before few happened in
    let reached = has.happened.like.records.events in
    let count = has.so_far.count in
    let first = happened.like.records.events in
    settle-full at.self before at.lines w listed at.deliveries has (omega (reached, count, first, arith))

pub returns-in_err-deliver_waiting-in-Some-clause-cut : goal.returns-in_err-deliver_waiting-in-Some-clause-cut
returns-in_err-deliver_waiting-in-Some-clause-cut c w before few happened =
    let at = c.loop-deliveries in
    let has = at.invariant.has w before few happened in
    let fault = c.in_err-deliver_waiting-in-Some.field-0.0 in
    let more = subst (λ (x : TheWorld). c.deliver_waiting.new.self.events ≤ x.events + 1) c.in_ok-number.ensures.kept c.in_err-deliver_waiting-in-Some.ensures.few in
    rw (residual c.from_residual-in_err-deliver_waiting-in-Some.result fault c.from_residual-in_err-deliver_waiting-in-Some.ensures.1)
    (memory-always fault (settle-short at.self before at.lines w c.args.listed.now at.deliveries has c.deliver_waiting.new.self c.deliver_waiting.new.lines few more
    c.in_err-deliver_waiting-in-Some.ensures.untold))

pub returns-in_err-number-clause-cut : goal.returns-in_err-number-clause-cut
returns-in_err-number-clause-cut c w before few happened =
    let at = c.loop-deliveries in
    let more = subst (λ (x : TheWorld). x.events ≤ at.self.events + 1) (sym c.in_err-number.ensures.kept) (omega arith) in
    memory-any c.from_residual.result (settle-short at.self before at.lines w c.args.listed.now at.deliveries (at.invariant.has w before few happened) c.next_asked.new.self at.lines few more refl)

pub returns-in_err-next_asked-clause-cut : goal.returns-in_err-next_asked-clause-cut
returns-in_err-next_asked-clause-cut c w before few happened =
    let at = c.loop-deliveries in
    let more = subst (λ (x : TheWorld). x.events ≤ at.self.events + 1) (sym c.in_err-next_asked.ensures.kept) (omega arith) in
    memory-any c.from_residual-in_err-next_asked.result (settle-short at.self before at.lines w c.args.listed.now at.deliveries (at.invariant.has w before few happened) c.next_asked-2.new.self at.lines few more refl)
