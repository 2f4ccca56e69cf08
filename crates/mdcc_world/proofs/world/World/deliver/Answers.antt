use Rattle.std.proofs.Common.{◌≡◌, ◌+◌, ◌∷◌, ◌<◌, Err, arith, drop, get_or, length}
use Rattle.std.proofs.lemmas.List.{drop_more}
use Rattle.mdcc_def_simulation.specs.Deliveries.{after_delivery}
use Rattle.mdcc_world.proofs.CutShort.{memory-always}
use Rattle.mdcc_world.proofs.Delivering.{delivers-begin, delivers-cut, delivers-go_on, delivers-left, delivers-limited, delivers-refused}
use Rattle.mdcc_world.proofs.Happened.{has-come, residual}
use Rattle.mdcc_world.proofs.Left.{left-few}
use Rattle.mdcc_world.proofs.world.World.deliver.Goals as goal

pub loop-number-init : goal.loop-number-init
loop-number-init c = record {
  few = c.requires.few;
  some = c.requires.like;
  has = λ w like. delivers-begin c.args.self.now c.args.lines.now w c.args.numbers.now like;
}

pub returns-in_err-deliver_at-clause-happens : goal.returns-in_err-deliver_at-clause-happens
returns-in_err-deliver_at-clause-happens c w like =
    let at = c.loop-number in
    let numbers = c.args.numbers.now in
    let i = at.number-index in
    let within : i < length numbers = omega arith in
    let first : drop i numbers ≡ get_or numbers i 0 ∷ drop (i + 1) numbers = drop_more numbers i 0 within in
    let fault = c.in_err-deliver_at.field-0.0 in
    rw (residual c.from_residual.result fault c.from_residual.ensures.1)
    (delivers-refused at.self c.args.lines.now at.lines w numbers (drop i numbers) (at.invariant.has w like) (get_or numbers i 0) (drop (i + 1) numbers) fault first
    c.in_err-deliver_at.ensures.happens)

pub returns-in_err-deliver_at-clause-left : goal.returns-in_err-deliver_at-clause-left
returns-in_err-deliver_at-clause-left c w like =
    let at = c.loop-number in
    let numbers = c.args.numbers.now in
    let i = at.number-index in
    let within : i < length numbers = omega arith in
    let first : drop i numbers ≡ get_or numbers i 0 ∷ drop (i + 1) numbers = drop_more numbers i 0 within in
    let fault = c.in_err-deliver_at.field-0.0 in
    rw (residual c.from_residual.result fault c.from_residual.ensures.1)
    (delivers-left at.self c.args.lines.now at.lines w numbers (drop i numbers) (at.invariant.has w like) c.deliver_at.new.self c.deliver_at.new.lines (get_or numbers i 0)
    (drop (i + 1) numbers) fault first c.in_err-deliver_at.ensures.happens c.in_err-deliver_at.ensures.kept)

pub returns-in_err-deliver_at-clause-limited : goal.returns-in_err-deliver_at-clause-limited
returns-in_err-deliver_at-clause-limited c w like =
    let at = c.loop-number in
    let numbers = c.args.numbers.now in
    let i = at.number-index in
    let within : i < length numbers = omega arith in
    let first : drop i numbers ≡ get_or numbers i 0 ∷ drop (i + 1) numbers = drop_more numbers i 0 within in
    let fault = c.in_err-deliver_at.field-0.0 in
    rw (residual c.from_residual.result fault c.from_residual.ensures.1)
    (delivers-limited at.self c.args.lines.now at.lines w numbers (drop i numbers) (at.invariant.has w like) c.deliver_at.new.lines (get_or numbers i 0)
    (drop (i + 1) numbers) fault first c.in_err-deliver_at.ensures.happens c.in_err-deliver_at.ensures.untold)

pub returns-in_err-deliver_at-clause-cut : goal.returns-in_err-deliver_at-clause-cut
returns-in_err-deliver_at-clause-cut c w like =
    let at = c.loop-number in
    let numbers = c.args.numbers.now in
    let fault = c.in_err-deliver_at.field-0.0 in
    rw (residual c.from_residual.result fault c.from_residual.ensures.1)
    (memory-always fault (delivers-cut at.self c.args.lines.now at.lines w numbers (drop at.number-index numbers) (at.invariant.has w like) c.deliver_at.new.self c.deliver_at.new.lines
    c.in_err-deliver_at.ensures.counted c.in_err-deliver_at.ensures.untold))

pub returns-in_err-deliver_at-clause-few_left : goal.returns-in_err-deliver_at-clause-few_left
returns-in_err-deliver_at-clause-few_left c =
    let at = c.loop-number in
    let fault = c.in_err-deliver_at.field-0.0 in
    rw (residual c.from_residual.result fault c.from_residual.ensures.1)
    (left-few {T = Unit {0}} (Err fault) at.self c.deliver_at.new.self at.lines c.deliver_at.new.lines at.invariant.few c.in_err-deliver_at.ensures.kept)

pub loop-number-preserved : goal.loop-number-preserved
loop-number-preserved c =
    let at = c.loop-number in
    let numbers = c.args.numbers.now in
    let i = at.number-index in
    let number = get_or numbers i 0 in
    let within : i < length numbers = omega arith in
    let first : drop i numbers ≡ get_or numbers i 0 ∷ drop (i + 1) numbers = drop_more numbers i 0 within in
    let some = at.invariant.some in
    let come = has-come {T = Unit {0}} tt c.deliver_at.new.self at.lines c.deliver_at.new.lines (after_delivery some.0 number) (c.in_ok-deliver_at.ensures.happens some.0 some.1) in
    record {
      few = c.in_ok-deliver_at.ensures.few;
      some = (come.h.world, come.happened.like);
      has = λ w like.
          delivers-go_on at.self c.args.lines.now at.lines w numbers (drop i numbers) (at.invariant.has w like) c.deliver_at.new.self c.deliver_at.new.lines number
          (drop (i + 1) numbers) first c.in_ok-deliver_at.ensures.happens c.in_ok-deliver_at.ensures.counted;
    }
