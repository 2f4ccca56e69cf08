use Rattle.std.proofs.Common.{◌≡◌, inl, ◌^◌, ◌<◌, ℕ, Ok, Result, length, sym, ◌∙◌, ap, refl, arith, rules}
use Rattle.std.proofs.lemmas.Result.{err_from_is_err_and}
use Rattle.mdcc_log_file.specs.Area.{read_areas, taken}
use Rattle.mdcc_log.specs.Frames.{change_calls}
use Rattle.mdcc_log.specs.Opening.{MayOpenAs, opened_bytes}
use Rattle.mdcc_log_file.proofs.Joined.{but_swapped}
use Rattle.mdcc_log.proofs.Opens.{first_bytes, first_bytes_then, first_calls, first_calls_then, first_may, first_may_then, second_bytes, second_bytes_then, second_calls, second_calls_then, second_may, second_may_then, takes_first, takes_second}
use Rattle.mdcc_log.proofs.Settles.{settles_none, failed_as, done_as}
use Rattle.mdcc_log.proofs.opening.take_either.Goals as goal

pub returns-in-Err-clause-first : goal.returns-in-Err-clause-first
returns-in-Err-clause-first g c =
    let choice = taken c.args.first.now c.args.second.now in
    let areas = read_areas c.args.first.now c.args.second.now in
    settles_none g.D.Disks.disk g.D.Disks.may_leave g.D.Disks.moment g.D.Disks.left_since g.met.D.Disks.only_now c.args.disks.now c.args.first_place (opened_bytes 0 choice areas c.args.first.now) (MayOpenAs g.D.Disks.tears 0 choice c.args.first.now) (change_calls 0 choice areas c.args.first.now) _ _ refl
    (λ told x now. inl (c.requires.first_durable told x now ∙ sym (c.requires.first_file told)))

pub returns-in-Err-clause-second : goal.returns-in-Err-clause-second
returns-in-Err-clause-second g c =
    let choice = taken c.args.first.now c.args.second.now in
    let areas = read_areas c.args.first.now c.args.second.now in
    settles_none g.D.Disks.disk g.D.Disks.may_leave g.D.Disks.moment g.D.Disks.left_since g.met.D.Disks.only_now c.args.disks.now c.args.second_place (opened_bytes 1 choice areas c.args.second.now) (MayOpenAs g.D.Disks.tears 1 choice c.args.second.now) (change_calls 1 choice areas c.args.second.now) _ _ refl
    (λ told x now. inl (c.requires.second_durable told x now ∙ sym (c.requires.second_file told)))

pub returns-in_err-read-in-Ok-clause-first : goal.returns-in_err-read-in-Ok-clause-first
returns-in_err-read-in-Ok-clause-first g c =
    let choice : taken c.args.first.now c.args.second.now ≡ Ok 0 = sym c.taken.ensures.value ∙ c.in-Ok.is ∙ ap (λ (n : ℕ). let ok : Result ℕ ℕ = Ok n in ok) c.if-area-eq0.true in
    let p = err_from_is_err_and c.from_residual.result c.from_residual.ensures.1 in
    failed_as (opened_bytes 0 (taken c.args.first.now c.args.second.now) (read_areas c.args.first.now c.args.second.now) c.args.first.now) (MayOpenAs g.D.Disks.tears 0 (taken c.args.first.now c.args.second.now) c.args.first.now) (change_calls 0 (taken c.args.first.now c.args.second.now) (read_areas c.args.first.now c.args.second.now) c.args.first.now) (first_may c.args.first.now c.args.second.now choice) (first_calls c.args.first.now c.args.second.now choice) c.take_area.result c.from_residual.result p.0 p.1 c.take_area.ensures.current

pub returns-in_ok-read-in-Ok-clause-first : goal.returns-in_ok-read-in-Ok-clause-first
returns-in_ok-read-in-Ok-clause-first g c =
    let choice : taken c.args.first.now c.args.second.now ≡ Ok 0 = sym c.taken.ensures.value ∙ c.in-Ok.is ∙ ap (λ (n : ℕ). let ok : Result ℕ ℕ = Ok n in ok) c.if-area-eq0.true in
    done_as (opened_bytes 0 (taken c.args.first.now c.args.second.now) (read_areas c.args.first.now c.args.second.now) c.args.first.now) (MayOpenAs g.D.Disks.tears 0 (taken c.args.first.now c.args.second.now) c.args.first.now) (change_calls 0 (taken c.args.first.now c.args.second.now) (read_areas c.args.first.now c.args.second.now) c.args.first.now) (first_may c.args.first.now c.args.second.now choice) (first_calls c.args.first.now c.args.second.now choice) (c.in_ok-read-in-Ok.read, c.in_ok-read-in-Ok.spare) _ _ refl (first_bytes c.args.first.now c.args.second.now choice) c.in_ok-read-in-Ok.ensures.current

pub returns-in_err-read-in-Ok-clause-second : goal.returns-in_err-read-in-Ok-clause-second
returns-in_err-read-in-Ok-clause-second g c =
    let choice : taken c.args.first.now c.args.second.now ≡ Ok 0 = sym c.taken.ensures.value ∙ c.in-Ok.is ∙ ap (λ (n : ℕ). let ok : Result ℕ ℕ = Ok n in ok) c.if-area-eq0.true in
    let p = err_from_is_err_and c.from_residual.result c.from_residual.ensures.1 in
    failed_as (opened_bytes 1 (taken c.args.first.now c.args.second.now) (read_areas c.args.first.now c.args.second.now) c.args.second.now) (MayOpenAs g.D.Disks.tears 1 (taken c.args.first.now c.args.second.now) c.args.second.now) (change_calls 1 (taken c.args.first.now c.args.second.now) (read_areas c.args.first.now c.args.second.now) c.args.second.now) (second_may_then c.args.first.now c.args.second.now choice) (second_calls_then c.args.first.now c.args.second.now choice) c.take_area.result c.from_residual.result p.0 p.1 c.take_area.ensures.other

pub returns-in_ok-read-in-Ok-clause-second : goal.returns-in_ok-read-in-Ok-clause-second
returns-in_ok-read-in-Ok-clause-second g c =
    let choice : taken c.args.first.now c.args.second.now ≡ Ok 0 = sym c.taken.ensures.value ∙ c.in-Ok.is ∙ ap (λ (n : ℕ). let ok : Result ℕ ℕ = Ok n in ok) c.if-area-eq0.true in
    done_as (opened_bytes 1 (taken c.args.first.now c.args.second.now) (read_areas c.args.first.now c.args.second.now) c.args.second.now) (MayOpenAs g.D.Disks.tears 1 (taken c.args.first.now c.args.second.now) c.args.second.now) (change_calls 1 (taken c.args.first.now c.args.second.now) (read_areas c.args.first.now c.args.second.now) c.args.second.now) (second_may_then c.args.first.now c.args.second.now choice) (second_calls_then c.args.first.now c.args.second.now choice) (c.in_ok-read-in-Ok.read, c.in_ok-read-in-Ok.spare) _ _ refl (second_bytes_then c.args.first.now c.args.second.now choice) c.in_ok-read-in-Ok.ensures.other

pub returns-in_ok-read-in-Ok-clause-taken : goal.returns-in_ok-read-in-Ok-clause-taken
returns-in_ok-read-in-Ok-clause-taken g c =
    let choice : taken c.args.first.now c.args.second.now ≡ Ok 0 = sym c.taken.ensures.value ∙ c.in-Ok.is ∙ ap (λ (n : ℕ). let ok : Result ℕ ℕ = Ok n in ok) c.if-area-eq0.true in
    let fits : length c.args.first.now < 2 ^ 63 = search rules in
    takes_first c.args.first.now c.args.second.now c.in_ok-read-in-Ok.spare choice fits c.in_ok-read-in-Ok.ensures.read c.in_ok-read-in-Ok.ensures.spare

pub returns-in_err-read-in-Ok-2-clause-first : goal.returns-in_err-read-in-Ok-2-clause-first
returns-in_err-read-in-Ok-2-clause-first g c =
    let choice : taken c.args.first.now c.args.second.now ≡ Ok 1 = sym c.taken.ensures.value ∙ c.in-Ok.is ∙ ap (λ (n : ℕ). let ok : Result ℕ ℕ = Ok n in ok) (omega (arith, c.if-area-eq0.false, c.in-Ok.ensures.one_of_two)) in
    let p = err_from_is_err_and c.from_residual-in_err-read-in-Ok-2.result c.from_residual-in_err-read-in-Ok-2.ensures.1 in
    failed_as (opened_bytes 0 (taken c.args.first.now c.args.second.now) (read_areas c.args.first.now c.args.second.now) c.args.first.now) (MayOpenAs g.D.Disks.tears 0 (taken c.args.first.now c.args.second.now) c.args.first.now) (change_calls 0 (taken c.args.first.now c.args.second.now) (read_areas c.args.first.now c.args.second.now) c.args.first.now) (first_may_then c.args.first.now c.args.second.now choice) (first_calls_then c.args.first.now c.args.second.now choice) c.take_area-else-area-eq0.result c.from_residual-in_err-read-in-Ok-2.result p.0 p.1 c.take_area-else-area-eq0.ensures.other

pub returns-in_ok-read-in-Ok-2-clause-first : goal.returns-in_ok-read-in-Ok-2-clause-first
returns-in_ok-read-in-Ok-2-clause-first g c =
    let choice : taken c.args.first.now c.args.second.now ≡ Ok 1 = sym c.taken.ensures.value ∙ c.in-Ok.is ∙ ap (λ (n : ℕ). let ok : Result ℕ ℕ = Ok n in ok) (omega (arith, c.if-area-eq0.false, c.in-Ok.ensures.one_of_two)) in
    done_as (opened_bytes 0 (taken c.args.first.now c.args.second.now) (read_areas c.args.first.now c.args.second.now) c.args.first.now) (MayOpenAs g.D.Disks.tears 0 (taken c.args.first.now c.args.second.now) c.args.first.now) (change_calls 0 (taken c.args.first.now c.args.second.now) (read_areas c.args.first.now c.args.second.now) c.args.first.now) (first_may_then c.args.first.now c.args.second.now choice) (first_calls_then c.args.first.now c.args.second.now choice) (c.in_ok-read-in-Ok-2.read, c.in_ok-read-in-Ok-2.spare) _ _ refl (first_bytes_then c.args.first.now c.args.second.now choice) c.in_ok-read-in-Ok-2.ensures.other

pub returns-in_err-read-in-Ok-2-clause-second : goal.returns-in_err-read-in-Ok-2-clause-second
returns-in_err-read-in-Ok-2-clause-second g c =
    let choice : taken c.args.first.now c.args.second.now ≡ Ok 1 = sym c.taken.ensures.value ∙ c.in-Ok.is ∙ ap (λ (n : ℕ). let ok : Result ℕ ℕ = Ok n in ok) (omega (arith, c.if-area-eq0.false, c.in-Ok.ensures.one_of_two)) in
    let p = err_from_is_err_and c.from_residual-in_err-read-in-Ok-2.result c.from_residual-in_err-read-in-Ok-2.ensures.1 in
    failed_as (opened_bytes 1 (taken c.args.first.now c.args.second.now) (read_areas c.args.first.now c.args.second.now) c.args.second.now) (MayOpenAs g.D.Disks.tears 1 (taken c.args.first.now c.args.second.now) c.args.second.now) (change_calls 1 (taken c.args.first.now c.args.second.now) (read_areas c.args.first.now c.args.second.now) c.args.second.now) (second_may c.args.first.now c.args.second.now choice) (second_calls c.args.first.now c.args.second.now choice) c.take_area-else-area-eq0.result c.from_residual-in_err-read-in-Ok-2.result p.0 p.1 c.take_area-else-area-eq0.ensures.current

pub returns-in_ok-read-in-Ok-2-clause-second : goal.returns-in_ok-read-in-Ok-2-clause-second
returns-in_ok-read-in-Ok-2-clause-second g c =
    let choice : taken c.args.first.now c.args.second.now ≡ Ok 1 = sym c.taken.ensures.value ∙ c.in-Ok.is ∙ ap (λ (n : ℕ). let ok : Result ℕ ℕ = Ok n in ok) (omega (arith, c.if-area-eq0.false, c.in-Ok.ensures.one_of_two)) in
    done_as (opened_bytes 1 (taken c.args.first.now c.args.second.now) (read_areas c.args.first.now c.args.second.now) c.args.second.now) (MayOpenAs g.D.Disks.tears 1 (taken c.args.first.now c.args.second.now) c.args.second.now) (change_calls 1 (taken c.args.first.now c.args.second.now) (read_areas c.args.first.now c.args.second.now) c.args.second.now) (second_may c.args.first.now c.args.second.now choice) (second_calls c.args.first.now c.args.second.now choice) (c.in_ok-read-in-Ok-2.read, c.in_ok-read-in-Ok-2.spare) _ _ refl (second_bytes c.args.first.now c.args.second.now choice) c.in_ok-read-in-Ok-2.ensures.current

pub returns-in_ok-read-in-Ok-2-clause-taken : goal.returns-in_ok-read-in-Ok-2-clause-taken
returns-in_ok-read-in-Ok-2-clause-taken g c =
    let choice : taken c.args.first.now c.args.second.now ≡ Ok 1 = sym c.taken.ensures.value ∙ c.in-Ok.is ∙ ap (λ (n : ℕ). let ok : Result ℕ ℕ = Ok n in ok) (omega (arith, c.if-area-eq0.false, c.in-Ok.ensures.one_of_two)) in
    let fits : length c.args.second.now < 2 ^ 63 = search rules in
    takes_second c.args.first.now c.args.second.now c.in_ok-read-in-Ok-2.spare choice fits c.in_ok-read-in-Ok-2.ensures.read c.in_ok-read-in-Ok-2.ensures.spare

pub returns-in_ok-read-in-Ok-2-clause-others : goal.returns-in_ok-read-in-Ok-2-clause-others
returns-in_ok-read-in-Ok-2-clause-others g c = but_swapped c.take_area-else-area-eq0.ensures.others
