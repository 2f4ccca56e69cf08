use Rattle.std.proofs.Common.{◌≡◌, ◌+◌, ◌-◌, ℕ, List, IsTrue, Ok, Result, length, refl, sym, ◌∙◌, ap, subst, arith, rules}
use Rattle.std.proofs.lemmas.Result.{err_from_is_err_and}
use Rattle.mdcc_log_file.specs.Crash.{AreShort}
use Rattle.mdcc_log_file.proofs.Moments.{started}
use Rattle.mdcc_log_file.specs.Area.{payloads_in}
use Rattle.mdcc_log.specs.Crash.{IsIdle}
use Rattle.mdcc_log.specs.Frames.{OpenAreas, other_of, place_of}
use Rattle.mdcc_log.specs.Opening.{IsOpened, OpensOne}
use Rattle.mdcc_log.proofs.Opened.{count_below, found_opened, found_spare, found_used, head_fits, sizes, tail_fits, spare_told, used_told}
use Rattle.mdcc_log.proofs.OpenStays.{opens_as, opens_none, current_moment, between_moment, due_moment, idle_moment, same_moment}
use Rattle.mdcc_log.proofs.Packs.{payloads_short}
use Rattle.mdcc_log.proofs.frames.Frames.open.Goals as goal

pub returns-in_err-buffer-clause-first : goal.returns-in_err-buffer-clause-first
returns-in_err-buffer-clause-first g c told_first told_second =
    let p = err_from_is_err_and c.from_residual.result c.from_residual.ensures.1 in
    opens_none g.D.Disks.disk g.D.Disks.may_leave g.D.Disks.moment g.D.Disks.left_since g.met.D.Disks.only_now g.D.Disks.tears c.args.disks.now c.args.centre 0 _ _ c.from_residual.result p.0 p.1

pub returns-in_err-buffer-clause-second : goal.returns-in_err-buffer-clause-second
returns-in_err-buffer-clause-second g c told_first told_second =
    let p = err_from_is_err_and c.from_residual.result c.from_residual.ensures.1 in
    opens_none g.D.Disks.disk g.D.Disks.may_leave g.D.Disks.moment g.D.Disks.left_since g.met.D.Disks.only_now g.D.Disks.tears c.args.disks.now (c.args.centre + 16) 1 _ _ c.from_residual.result p.0 p.1

pub returns-in_err-buffer-clause-any_moment_idle : goal.returns-in_err-buffer-clause-any_moment_idle
returns-in_err-buffer-clause-any_moment_idle g c area log idle_log payload range same told_first told_second within idle =
    let place = place_of c.args.centre (other_of area) in
    started g.D.Disks.moment g.D.Disks.left_since c.args.disks.now place (IsIdle idle_log) (λ x left. idle x (g.met.D.Disks.only_now c.args.disks.now place x left))

pub returns-in_err-area-clause-any_moment : goal.returns-in_err-area-clause-any_moment
returns-in_err-area-clause-any_moment g c area log range told_first told_second =
    let first = subst (λ (n : ℕ). OpensOne g.D.Disks.disk g.D.Disks.may_leave g.D.Disks.moment g.D.Disks.left_since g.D.Disks.tears c.args.disks.now c.open_areas.new.disks n 0 (g.D.Disks.disk c.args.disks.now n).bytes (g.D.Disks.disk c.args.disks.now (n + 16)).bytes c.open_areas.result) c.number-number.ensures.value
    (c.open_areas.ensures.first (subst (λ (n : ℕ). IsTrue (g.D.Disks.disk c.args.disks.now n).told) (sym c.number-number.ensures.value) told_first) (subst (λ (n : ℕ). IsTrue (g.D.Disks.disk c.args.disks.now (n + 16)).told) (sym c.number-number.ensures.value) told_second)) in
    let second = subst (λ (n : ℕ). OpensOne g.D.Disks.disk g.D.Disks.may_leave g.D.Disks.moment g.D.Disks.left_since g.D.Disks.tears c.args.disks.now c.open_areas.new.disks (n + 16) 1 (g.D.Disks.disk c.args.disks.now n).bytes (g.D.Disks.disk c.args.disks.now (n + 16)).bytes c.open_areas.result) c.number-number.ensures.value
    (c.open_areas.ensures.second (subst (λ (n : ℕ). IsTrue (g.D.Disks.disk c.args.disks.now n).told) (sym c.number-number.ensures.value) told_first) (subst (λ (n : ℕ). IsTrue (g.D.Disks.disk c.args.disks.now (n + 16)).told) (sym c.number-number.ensures.value) told_second)) in
    current_moment g.D.Disks.disk g.D.Disks.may_leave g.D.Disks.moment g.D.Disks.left_since g.met.D.Disks.as_read c.args.centre told_first told_second first second area log range

pub returns-clause-any_moment : goal.returns-clause-any_moment
returns-clause-any_moment g c area log range told_first told_second =
    let first = subst (λ (n : ℕ). OpensOne g.D.Disks.disk g.D.Disks.may_leave g.D.Disks.moment g.D.Disks.left_since g.D.Disks.tears c.args.disks.now c.open_areas.new.disks n 0 (g.D.Disks.disk c.args.disks.now n).bytes (g.D.Disks.disk c.args.disks.now (n + 16)).bytes c.open_areas.result) c.number-number.ensures.value
    (c.open_areas.ensures.first (subst (λ (n : ℕ). IsTrue (g.D.Disks.disk c.args.disks.now n).told) (sym c.number-number.ensures.value) told_first) (subst (λ (n : ℕ). IsTrue (g.D.Disks.disk c.args.disks.now (n + 16)).told) (sym c.number-number.ensures.value) told_second)) in
    let second = subst (λ (n : ℕ). OpensOne g.D.Disks.disk g.D.Disks.may_leave g.D.Disks.moment g.D.Disks.left_since g.D.Disks.tears c.args.disks.now c.open_areas.new.disks (n + 16) 1 (g.D.Disks.disk c.args.disks.now n).bytes (g.D.Disks.disk c.args.disks.now (n + 16)).bytes c.open_areas.result) c.number-number.ensures.value
    (c.open_areas.ensures.second (subst (λ (n : ℕ). IsTrue (g.D.Disks.disk c.args.disks.now n).told) (sym c.number-number.ensures.value) told_first) (subst (λ (n : ℕ). IsTrue (g.D.Disks.disk c.args.disks.now (n + 16)).told) (sym c.number-number.ensures.value) told_second)) in
    current_moment g.D.Disks.disk g.D.Disks.may_leave g.D.Disks.moment g.D.Disks.left_since g.met.D.Disks.as_read c.args.centre told_first told_second first second area log range

pub returns-in_err-area-clause-any_moment_between : goal.returns-in_err-area-clause-any_moment_between
returns-in_err-area-clause-any_moment_between g c area log payload range told_first told_second =
    let first = subst (λ (n : ℕ). OpensOne g.D.Disks.disk g.D.Disks.may_leave g.D.Disks.moment g.D.Disks.left_since g.D.Disks.tears c.args.disks.now c.open_areas.new.disks n 0 (g.D.Disks.disk c.args.disks.now n).bytes (g.D.Disks.disk c.args.disks.now (n + 16)).bytes c.open_areas.result) c.number-number.ensures.value
    (c.open_areas.ensures.first (subst (λ (n : ℕ). IsTrue (g.D.Disks.disk c.args.disks.now n).told) (sym c.number-number.ensures.value) told_first) (subst (λ (n : ℕ). IsTrue (g.D.Disks.disk c.args.disks.now (n + 16)).told) (sym c.number-number.ensures.value) told_second)) in
    let second = subst (λ (n : ℕ). OpensOne g.D.Disks.disk g.D.Disks.may_leave g.D.Disks.moment g.D.Disks.left_since g.D.Disks.tears c.args.disks.now c.open_areas.new.disks (n + 16) 1 (g.D.Disks.disk c.args.disks.now n).bytes (g.D.Disks.disk c.args.disks.now (n + 16)).bytes c.open_areas.result) c.number-number.ensures.value
    (c.open_areas.ensures.second (subst (λ (n : ℕ). IsTrue (g.D.Disks.disk c.args.disks.now n).told) (sym c.number-number.ensures.value) told_first) (subst (λ (n : ℕ). IsTrue (g.D.Disks.disk c.args.disks.now (n + 16)).told) (sym c.number-number.ensures.value) told_second)) in
    between_moment g.D.Disks.disk g.D.Disks.may_leave g.D.Disks.moment g.D.Disks.left_since g.met.D.Disks.as_read c.args.centre told_first told_second first second area log payload range

pub returns-clause-any_moment_between : goal.returns-clause-any_moment_between
returns-clause-any_moment_between g c area log payload range told_first told_second =
    let first = subst (λ (n : ℕ). OpensOne g.D.Disks.disk g.D.Disks.may_leave g.D.Disks.moment g.D.Disks.left_since g.D.Disks.tears c.args.disks.now c.open_areas.new.disks n 0 (g.D.Disks.disk c.args.disks.now n).bytes (g.D.Disks.disk c.args.disks.now (n + 16)).bytes c.open_areas.result) c.number-number.ensures.value
    (c.open_areas.ensures.first (subst (λ (n : ℕ). IsTrue (g.D.Disks.disk c.args.disks.now n).told) (sym c.number-number.ensures.value) told_first) (subst (λ (n : ℕ). IsTrue (g.D.Disks.disk c.args.disks.now (n + 16)).told) (sym c.number-number.ensures.value) told_second)) in
    let second = subst (λ (n : ℕ). OpensOne g.D.Disks.disk g.D.Disks.may_leave g.D.Disks.moment g.D.Disks.left_since g.D.Disks.tears c.args.disks.now c.open_areas.new.disks (n + 16) 1 (g.D.Disks.disk c.args.disks.now n).bytes (g.D.Disks.disk c.args.disks.now (n + 16)).bytes c.open_areas.result) c.number-number.ensures.value
    (c.open_areas.ensures.second (subst (λ (n : ℕ). IsTrue (g.D.Disks.disk c.args.disks.now n).told) (sym c.number-number.ensures.value) told_first) (subst (λ (n : ℕ). IsTrue (g.D.Disks.disk c.args.disks.now (n + 16)).told) (sym c.number-number.ensures.value) told_second)) in
    between_moment g.D.Disks.disk g.D.Disks.may_leave g.D.Disks.moment g.D.Disks.left_since g.met.D.Disks.as_read c.args.centre told_first told_second first second area log payload range

pub returns-in_err-area-clause-any_moment_idle : goal.returns-in_err-area-clause-any_moment_idle
returns-in_err-area-clause-any_moment_idle g c area log idle payload range same told_first told_second =
    let first = subst (λ (n : ℕ). OpensOne g.D.Disks.disk g.D.Disks.may_leave g.D.Disks.moment g.D.Disks.left_since g.D.Disks.tears c.args.disks.now c.open_areas.new.disks n 0 (g.D.Disks.disk c.args.disks.now n).bytes (g.D.Disks.disk c.args.disks.now (n + 16)).bytes c.open_areas.result) c.number-number.ensures.value
    (c.open_areas.ensures.first (subst (λ (n : ℕ). IsTrue (g.D.Disks.disk c.args.disks.now n).told) (sym c.number-number.ensures.value) told_first) (subst (λ (n : ℕ). IsTrue (g.D.Disks.disk c.args.disks.now (n + 16)).told) (sym c.number-number.ensures.value) told_second)) in
    let second = subst (λ (n : ℕ). OpensOne g.D.Disks.disk g.D.Disks.may_leave g.D.Disks.moment g.D.Disks.left_since g.D.Disks.tears c.args.disks.now c.open_areas.new.disks (n + 16) 1 (g.D.Disks.disk c.args.disks.now n).bytes (g.D.Disks.disk c.args.disks.now (n + 16)).bytes c.open_areas.result) c.number-number.ensures.value
    (c.open_areas.ensures.second (subst (λ (n : ℕ). IsTrue (g.D.Disks.disk c.args.disks.now n).told) (sym c.number-number.ensures.value) told_first) (subst (λ (n : ℕ). IsTrue (g.D.Disks.disk c.args.disks.now (n + 16)).told) (sym c.number-number.ensures.value) told_second)) in
    idle_moment g.D.Disks.disk g.D.Disks.may_leave g.D.Disks.moment g.D.Disks.left_since g.met.D.Disks.as_read c.args.centre told_first told_second first second area log idle payload range same

pub returns-clause-any_moment_idle : goal.returns-clause-any_moment_idle
returns-clause-any_moment_idle g c area log idle payload range same told_first told_second =
    let first = subst (λ (n : ℕ). OpensOne g.D.Disks.disk g.D.Disks.may_leave g.D.Disks.moment g.D.Disks.left_since g.D.Disks.tears c.args.disks.now c.open_areas.new.disks n 0 (g.D.Disks.disk c.args.disks.now n).bytes (g.D.Disks.disk c.args.disks.now (n + 16)).bytes c.open_areas.result) c.number-number.ensures.value
    (c.open_areas.ensures.first (subst (λ (n : ℕ). IsTrue (g.D.Disks.disk c.args.disks.now n).told) (sym c.number-number.ensures.value) told_first) (subst (λ (n : ℕ). IsTrue (g.D.Disks.disk c.args.disks.now (n + 16)).told) (sym c.number-number.ensures.value) told_second)) in
    let second = subst (λ (n : ℕ). OpensOne g.D.Disks.disk g.D.Disks.may_leave g.D.Disks.moment g.D.Disks.left_since g.D.Disks.tears c.args.disks.now c.open_areas.new.disks (n + 16) 1 (g.D.Disks.disk c.args.disks.now n).bytes (g.D.Disks.disk c.args.disks.now (n + 16)).bytes c.open_areas.result) c.number-number.ensures.value
    (c.open_areas.ensures.second (subst (λ (n : ℕ). IsTrue (g.D.Disks.disk c.args.disks.now n).told) (sym c.number-number.ensures.value) told_first) (subst (λ (n : ℕ). IsTrue (g.D.Disks.disk c.args.disks.now (n + 16)).told) (sym c.number-number.ensures.value) told_second)) in
    idle_moment g.D.Disks.disk g.D.Disks.may_leave g.D.Disks.moment g.D.Disks.left_since g.met.D.Disks.as_read c.args.centre told_first told_second first second area log idle payload range same

pub returns-clause-first : goal.returns-clause-first
returns-clause-first g c told_first told_second =
    let opens = subst (λ r. OpensOne g.D.Disks.disk g.D.Disks.may_leave g.D.Disks.moment g.D.Disks.left_since g.D.Disks.tears c.args.disks.now c.open_areas.new.disks c.args.centre 0 (g.D.Disks.disk c.args.disks.now c.args.centre).bytes (g.D.Disks.disk c.args.disks.now (c.args.centre + 16)).bytes r) c.in_ok-area.was
    (subst (λ (n : ℕ). OpensOne g.D.Disks.disk g.D.Disks.may_leave g.D.Disks.moment g.D.Disks.left_since g.D.Disks.tears c.args.disks.now c.open_areas.new.disks n 0 (g.D.Disks.disk c.args.disks.now n).bytes (g.D.Disks.disk c.args.disks.now (n + 16)).bytes c.open_areas.result) c.number-number.ensures.value
    (c.open_areas.ensures.first (subst (λ (n : ℕ). IsTrue (g.D.Disks.disk c.args.disks.now n).told) (sym c.number-number.ensures.value) told_first) (subst (λ (n : ℕ). IsTrue (g.D.Disks.disk c.args.disks.now (n + 16)).told) (sym c.number-number.ensures.value) told_second))) in
    opens_as g.D.Disks.disk g.D.Disks.may_leave g.D.Disks.moment g.D.Disks.left_since _ _ opens

pub returns-clause-second : goal.returns-clause-second
returns-clause-second g c told_first told_second =
    let opens = subst (λ r. OpensOne g.D.Disks.disk g.D.Disks.may_leave g.D.Disks.moment g.D.Disks.left_since g.D.Disks.tears c.args.disks.now c.open_areas.new.disks (c.args.centre + 16) 1 (g.D.Disks.disk c.args.disks.now c.args.centre).bytes (g.D.Disks.disk c.args.disks.now (c.args.centre + 16)).bytes r) c.in_ok-area.was
    (subst (λ (n : ℕ). OpensOne g.D.Disks.disk g.D.Disks.may_leave g.D.Disks.moment g.D.Disks.left_since g.D.Disks.tears c.args.disks.now c.open_areas.new.disks (n + 16) 1 (g.D.Disks.disk c.args.disks.now n).bytes (g.D.Disks.disk c.args.disks.now (n + 16)).bytes c.open_areas.result) c.number-number.ensures.value
    (c.open_areas.ensures.second (subst (λ (n : ℕ). IsTrue (g.D.Disks.disk c.args.disks.now n).told) (sym c.number-number.ensures.value) told_first) (subst (λ (n : ℕ). IsTrue (g.D.Disks.disk c.args.disks.now (n + 16)).told) (sym c.number-number.ensures.value) told_second))) in
    opens_as g.D.Disks.disk g.D.Disks.may_leave g.D.Disks.moment g.D.Disks.left_since _ _ opens

pub overflow_sub-frames : goal.overflow_sub-frames
overflow_sub-frames g c = head_fits c.head_size.result (sizes c.in_ok-area.ensures.found.is) c.head_size.ensures

pub overflow_sub-frames-2 : goal.overflow_sub-frames-2
overflow_sub-frames-2 g c = tail_fits c.head_size.result (sizes c.in_ok-area.ensures.found.is) c.head_size.ensures

pub invariant_of-frames : goal.invariant_of-frames
invariant_of-frames g c =
    let found = c.in_ok-area.ensures.found.is in
    let at = sizes found in
    let counted : c.len.result ≡ length c.in_ok-area.read.payloads.items = search rules in
    record {
      centre_low = c.number-number.ensures.range.0;
      centre_high = c.number-number.ensures.range.1;
      area = found.range;
      every = c.requires;
      room = search rules;
      start_low = at.start_low;
      start_copy = at.start_copy;
      order = omega (arith, at.order);
      tail = omega (arith, at.tail_few, counted);
      count = omega (arith, count_below at, counted);
      body = omega arith;
      fits = found.fits;
    }

pub returns-clause-opened : goal.returns-clause-opened
returns-clause-opened g c told_first told_second =
    let counted : c.len.result ≡ length c.in_ok-area.read.payloads.items = search rules in
    let frames : OpenAreas = record {
      centre = c.number-number.result;
      area = c.in_ok-area.area;
      every = c.args.every;
      generation = c.in_ok-area.read.generation;
      count = c.len.result;
      start = c.in_ok-area.read.start;
      tail = c.in_ok-area.read.tail;
      body = c.in_ok-area.read.gate - c.head_size.result - c.in_ok-area.read.tail;
      size = c.in_ok-area.read.gate + 1;
      spare = c.in_ok-area.spare;
    } in
    let opened = found_opened g.D.Disks.disk g.D.Disks.may_leave g.D.Disks.moment g.D.Disks.left_since c.args.disks.now c.open_areas.new.disks frames c.in_ok-area.ensures.found
    refl refl refl refl counted refl refl (ap (λ (n : ℕ). c.in_ok-area.read.gate - n - c.in_ok-area.read.tail) c.head_size.ensures) refl refl
    (subst (λ (n : ℕ). IsTrue (g.D.Disks.disk c.args.disks.now n).told) (sym c.number-number.ensures.value) told_first) (subst (λ (n : ℕ). IsTrue (g.D.Disks.disk c.args.disks.now (n + 16)).told) (sym c.number-number.ensures.value) told_second) in
    subst (λ (n : ℕ). IsOpened g.D.Disks.disk g.D.Disks.may_leave g.D.Disks.moment g.D.Disks.left_since c.open_areas.new.disks frames c.in_ok-area.read.payloads.items (g.D.Disks.disk c.args.disks.now n).bytes (g.D.Disks.disk c.args.disks.now (n + 16)).bytes) c.number-number.ensures.value opened

pub returns-clause-settled : goal.returns-clause-settled
returns-clause-settled g c told =
    let counted : c.len.result ≡ length c.in_ok-area.read.payloads.items = search rules in
    let frames : OpenAreas = record {
      centre = c.number-number.result;
      area = c.in_ok-area.area;
      every = c.args.every;
      generation = c.in_ok-area.read.generation;
      count = c.len.result;
      start = c.in_ok-area.read.start;
      tail = c.in_ok-area.read.tail;
      body = c.in_ok-area.read.gate - c.head_size.result - c.in_ok-area.read.tail;
      size = c.in_ok-area.read.gate + 1;
      spare = c.in_ok-area.spare;
    } in (
      c.in_ok-area.ensures.found.is.log,
      found_used g.D.Disks.disk g.D.Disks.may_leave g.D.Disks.moment g.D.Disks.left_since c.args.disks.now c.open_areas.new.disks frames c.in_ok-area.ensures.found
          refl refl refl refl counted refl refl (ap (λ (n : ℕ). c.in_ok-area.read.gate - n - c.in_ok-area.read.tail) c.head_size.ensures) refl refl
          (used_told g.D.Disks.disk g.D.Disks.may_leave g.D.Disks.moment g.D.Disks.left_since c.args.disks.now c.open_areas.new.disks frames c.in_ok-area.ensures.found
          refl refl refl refl counted refl refl (ap (λ (n : ℕ). c.in_ok-area.read.gate - n - c.in_ok-area.read.tail) c.head_size.ensures) refl refl c.open_areas.ensures.others.told_one c.open_areas.ensures.others.told_two told),
    )

pub returns-clause-spare : goal.returns-clause-spare
returns-clause-spare g c told =
    let counted : c.len.result ≡ length c.in_ok-area.read.payloads.items = search rules in
    let frames : OpenAreas = record {
      centre = c.number-number.result;
      area = c.in_ok-area.area;
      every = c.args.every;
      generation = c.in_ok-area.read.generation;
      count = c.len.result;
      start = c.in_ok-area.read.start;
      tail = c.in_ok-area.read.tail;
      body = c.in_ok-area.read.gate - c.head_size.result - c.in_ok-area.read.tail;
      size = c.in_ok-area.read.gate + 1;
      spare = c.in_ok-area.spare;
    } in
    found_spare g.D.Disks.disk g.D.Disks.may_leave g.D.Disks.moment g.D.Disks.left_since c.args.disks.now c.open_areas.new.disks frames c.in_ok-area.ensures.found
    refl refl refl refl counted refl refl (ap (λ (n : ℕ). c.in_ok-area.read.gate - n - c.in_ok-area.read.tail) c.head_size.ensures) refl refl
    (spare_told g.D.Disks.disk g.D.Disks.may_leave g.D.Disks.moment g.D.Disks.left_since c.args.disks.now c.open_areas.new.disks frames c.in_ok-area.ensures.found
    refl refl refl refl counted refl refl (ap (λ (n : ℕ). c.in_ok-area.read.gate - n - c.in_ok-area.read.tail) c.head_size.ensures) refl refl c.open_areas.ensures.others.told_one c.open_areas.ensures.others.told_two told)

pub returns-clause-payloads : goal.returns-clause-payloads
returns-clause-payloads g c told_first told_second =
    let opened = returns-clause-opened g c told_first told_second in
    ap payloads_in opened.read ∙ ap (λ (l : List (List ℕ)). let ok : Result (List (List ℕ)) ℕ = Ok l in ok) (sym opened.payloads_are)

pub returns-clause-short : goal.returns-clause-short
returns-clause-short g c =
    let found = c.in_ok-area.ensures.found.is in
    subst AreShort (sym found.payloads_are) (payloads_short c.in_ok-area.area found.log found.valid)

pub returns-in_err-area-clause-any_moment_same : goal.returns-in_err-area-clause-any_moment_same
returns-in_err-area-clause-any_moment_same g c all current other never told_first told_second only_first only_second is left_current left_other =
    let first = subst (λ (n : ℕ). OpensOne g.D.Disks.disk g.D.Disks.may_leave g.D.Disks.moment g.D.Disks.left_since g.D.Disks.tears c.args.disks.now c.open_areas.new.disks n 0 (g.D.Disks.disk c.args.disks.now n).bytes (g.D.Disks.disk c.args.disks.now (n + 16)).bytes c.open_areas.result) c.number-number.ensures.value
    (c.open_areas.ensures.first (subst (λ (n : ℕ). IsTrue (g.D.Disks.disk c.args.disks.now n).told) (sym c.number-number.ensures.value) told_first) (subst (λ (n : ℕ). IsTrue (g.D.Disks.disk c.args.disks.now (n + 16)).told) (sym c.number-number.ensures.value) told_second)) in
    let second = subst (λ (n : ℕ). OpensOne g.D.Disks.disk g.D.Disks.may_leave g.D.Disks.moment g.D.Disks.left_since g.D.Disks.tears c.args.disks.now c.open_areas.new.disks (n + 16) 1 (g.D.Disks.disk c.args.disks.now n).bytes (g.D.Disks.disk c.args.disks.now (n + 16)).bytes c.open_areas.result) c.number-number.ensures.value
    (c.open_areas.ensures.second (subst (λ (n : ℕ). IsTrue (g.D.Disks.disk c.args.disks.now n).told) (sym c.number-number.ensures.value) told_first) (subst (λ (n : ℕ). IsTrue (g.D.Disks.disk c.args.disks.now (n + 16)).told) (sym c.number-number.ensures.value) told_second)) in
    same_moment g.D.Disks.disk g.D.Disks.may_leave g.D.Disks.moment g.D.Disks.left_since g.met.D.Disks.as_read c.args.centre told_first told_second first second never all current other only_first only_second is left_current left_other

pub returns-clause-any_moment_same : goal.returns-clause-any_moment_same
returns-clause-any_moment_same g c all current other never told_first told_second only_first only_second is left_current left_other =
    let first = subst (λ (n : ℕ). OpensOne g.D.Disks.disk g.D.Disks.may_leave g.D.Disks.moment g.D.Disks.left_since g.D.Disks.tears c.args.disks.now c.open_areas.new.disks n 0 (g.D.Disks.disk c.args.disks.now n).bytes (g.D.Disks.disk c.args.disks.now (n + 16)).bytes c.open_areas.result) c.number-number.ensures.value
    (c.open_areas.ensures.first (subst (λ (n : ℕ). IsTrue (g.D.Disks.disk c.args.disks.now n).told) (sym c.number-number.ensures.value) told_first) (subst (λ (n : ℕ). IsTrue (g.D.Disks.disk c.args.disks.now (n + 16)).told) (sym c.number-number.ensures.value) told_second)) in
    let second = subst (λ (n : ℕ). OpensOne g.D.Disks.disk g.D.Disks.may_leave g.D.Disks.moment g.D.Disks.left_since g.D.Disks.tears c.args.disks.now c.open_areas.new.disks (n + 16) 1 (g.D.Disks.disk c.args.disks.now n).bytes (g.D.Disks.disk c.args.disks.now (n + 16)).bytes c.open_areas.result) c.number-number.ensures.value
    (c.open_areas.ensures.second (subst (λ (n : ℕ). IsTrue (g.D.Disks.disk c.args.disks.now n).told) (sym c.number-number.ensures.value) told_first) (subst (λ (n : ℕ). IsTrue (g.D.Disks.disk c.args.disks.now (n + 16)).told) (sym c.number-number.ensures.value) told_second)) in
    same_moment g.D.Disks.disk g.D.Disks.may_leave g.D.Disks.moment g.D.Disks.left_since g.met.D.Disks.as_read c.args.centre told_first told_second first second never all current other only_first only_second is left_current left_other

pub returns-in_err-buffer-clause-any_moment_same : goal.returns-in_err-buffer-clause-any_moment_same
returns-in_err-buffer-clause-any_moment_same g c all current other never told_first told_second only_first only_second is left_current left_other =
    let p = err_from_is_err_and c.from_residual.result c.from_residual.ensures.1 in
    let first = returns-in_err-buffer-clause-first g c told_first told_second in
    let second = returns-in_err-buffer-clause-second g c told_first told_second in
    same_moment g.D.Disks.disk g.D.Disks.may_leave g.D.Disks.moment g.D.Disks.left_since g.met.D.Disks.as_read c.args.centre told_first told_second first second never all current other only_first only_second is left_current left_other

pub returns-clause-at_rest : goal.returns-clause-at_rest
returns-clause-at_rest g c told_first told_second =
    let opened = returns-clause-opened g c told_first told_second in
    record { log = opened.log; range = c.in_ok-area.ensures.found.is.range; payloads_are = opened.payloads_are; in_use = opened.in_use; spare = opened.spare }

pub returns-in_err-area-clause-any_moment_due : goal.returns-in_err-area-clause-any_moment_due
returns-in_err-area-clause-any_moment_due g c area log payload range told_first told_second =
    let first = subst (λ (n : ℕ). OpensOne g.D.Disks.disk g.D.Disks.may_leave g.D.Disks.moment g.D.Disks.left_since g.D.Disks.tears c.args.disks.now c.open_areas.new.disks n 0 (g.D.Disks.disk c.args.disks.now n).bytes (g.D.Disks.disk c.args.disks.now (n + 16)).bytes c.open_areas.result) c.number-number.ensures.value
    (c.open_areas.ensures.first (subst (λ (n : ℕ). IsTrue (g.D.Disks.disk c.args.disks.now n).told) (sym c.number-number.ensures.value) told_first) (subst (λ (n : ℕ). IsTrue (g.D.Disks.disk c.args.disks.now (n + 16)).told) (sym c.number-number.ensures.value) told_second)) in
    let second = subst (λ (n : ℕ). OpensOne g.D.Disks.disk g.D.Disks.may_leave g.D.Disks.moment g.D.Disks.left_since g.D.Disks.tears c.args.disks.now c.open_areas.new.disks (n + 16) 1 (g.D.Disks.disk c.args.disks.now n).bytes (g.D.Disks.disk c.args.disks.now (n + 16)).bytes c.open_areas.result) c.number-number.ensures.value
    (c.open_areas.ensures.second (subst (λ (n : ℕ). IsTrue (g.D.Disks.disk c.args.disks.now n).told) (sym c.number-number.ensures.value) told_first) (subst (λ (n : ℕ). IsTrue (g.D.Disks.disk c.args.disks.now (n + 16)).told) (sym c.number-number.ensures.value) told_second)) in
    due_moment g.D.Disks.disk g.D.Disks.may_leave g.D.Disks.moment g.D.Disks.left_since g.met.D.Disks.as_read c.args.centre told_first told_second first second area log payload range

pub returns-clause-any_moment_due : goal.returns-clause-any_moment_due
returns-clause-any_moment_due g c area log payload range told_first told_second =
    let first = subst (λ (n : ℕ). OpensOne g.D.Disks.disk g.D.Disks.may_leave g.D.Disks.moment g.D.Disks.left_since g.D.Disks.tears c.args.disks.now c.open_areas.new.disks n 0 (g.D.Disks.disk c.args.disks.now n).bytes (g.D.Disks.disk c.args.disks.now (n + 16)).bytes c.open_areas.result) c.number-number.ensures.value
    (c.open_areas.ensures.first (subst (λ (n : ℕ). IsTrue (g.D.Disks.disk c.args.disks.now n).told) (sym c.number-number.ensures.value) told_first) (subst (λ (n : ℕ). IsTrue (g.D.Disks.disk c.args.disks.now (n + 16)).told) (sym c.number-number.ensures.value) told_second)) in
    let second = subst (λ (n : ℕ). OpensOne g.D.Disks.disk g.D.Disks.may_leave g.D.Disks.moment g.D.Disks.left_since g.D.Disks.tears c.args.disks.now c.open_areas.new.disks (n + 16) 1 (g.D.Disks.disk c.args.disks.now n).bytes (g.D.Disks.disk c.args.disks.now (n + 16)).bytes c.open_areas.result) c.number-number.ensures.value
    (c.open_areas.ensures.second (subst (λ (n : ℕ). IsTrue (g.D.Disks.disk c.args.disks.now n).told) (sym c.number-number.ensures.value) told_first) (subst (λ (n : ℕ). IsTrue (g.D.Disks.disk c.args.disks.now (n + 16)).told) (sym c.number-number.ensures.value) told_second)) in
    due_moment g.D.Disks.disk g.D.Disks.may_leave g.D.Disks.moment g.D.Disks.left_since g.met.D.Disks.as_read c.args.centre told_first told_second first second area log payload range
