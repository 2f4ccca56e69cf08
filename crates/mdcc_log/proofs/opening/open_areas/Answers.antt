use Rattle.std.proofs.Common.{ℕ, List, IsTrue, sym, ◌∙◌, ap, subst}
use Rattle.std.proofs.lemmas.Result.{err_from_is_err_and}
use Rattle.mdcc_log_file.specs.Area.{read_areas}
use Rattle.mdcc_log.specs.Opening.{OpensOne}
use Rattle.mdcc_log.proofs.Opens.{opens_not, opens_with}
use Rattle.mdcc_log.proofs.Outcomes.{if_ok_four, on_ok_under}
use Rattle.mdcc_log.proofs.opening.open_areas.Goals as goal

pub returns-in_err-first-clause-first : goal.returns-in_err-first-clause-first
returns-in_err-first-clause-first g c told_first told_second =
    let p = err_from_is_err_and c.from_residual.result c.from_residual.ensures.1 in
    opens_not g.D.Disks.disk g.D.Disks.may_leave g.D.Disks.moment g.D.Disks.left_since g.D.Disks.tears 0 _ _ c.args.disks.now c.load_both.new.disks c.args.first_place c.load_both.result c.from_residual.result p.0 p.1 told_first c.load_both.ensures.first

pub returns-clause-first : goal.returns-clause-first
returns-clause-first g c told_first told_second =
    let first_is = c.deref.ensures.value ∙ c.in_ok-first.ensures.first_file told_first in
    let second_is = c.deref-2.ensures.value ∙ c.in_ok-first.ensures.second_file told_second in
    let opens = opens_with g.D.Disks.disk g.D.Disks.may_leave g.D.Disks.moment g.D.Disks.left_since g.D.Disks.tears 0 c.deref.result.now c.deref-2.result.now c.args.disks.now c.load_both.new.disks c.take_either.new.disks c.args.first_place _ c.take_either.result _ _ told_first first_is c.in_ok-first.ensures.first c.take_either.ensures.first in
    subst (λ (l : List ℕ). OpensOne g.D.Disks.disk g.D.Disks.may_leave g.D.Disks.moment g.D.Disks.left_since g.D.Disks.tears c.args.disks.now c.take_either.new.disks c.args.first_place 0 (g.D.Disks.disk c.args.disks.now c.args.first_place).bytes l c.take_either.result) second_is
    (subst (λ (l : List ℕ). OpensOne g.D.Disks.disk g.D.Disks.may_leave g.D.Disks.moment g.D.Disks.left_since g.D.Disks.tears c.args.disks.now c.take_either.new.disks c.args.first_place 0 l c.deref-2.result.now c.take_either.result) first_is opens)

pub returns-in_err-first-clause-second : goal.returns-in_err-first-clause-second
returns-in_err-first-clause-second g c told_first told_second =
    let p = err_from_is_err_and c.from_residual.result c.from_residual.ensures.1 in
    opens_not g.D.Disks.disk g.D.Disks.may_leave g.D.Disks.moment g.D.Disks.left_since g.D.Disks.tears 1 _ _ c.args.disks.now c.load_both.new.disks c.args.second_place c.load_both.result c.from_residual.result p.0 p.1 told_second c.load_both.ensures.second

pub returns-clause-second : goal.returns-clause-second
returns-clause-second g c told_first told_second =
    let first_is = c.deref.ensures.value ∙ c.in_ok-first.ensures.first_file told_first in
    let second_is = c.deref-2.ensures.value ∙ c.in_ok-first.ensures.second_file told_second in
    let opens = opens_with g.D.Disks.disk g.D.Disks.may_leave g.D.Disks.moment g.D.Disks.left_since g.D.Disks.tears 1 c.deref.result.now c.deref-2.result.now c.args.disks.now c.load_both.new.disks c.take_either.new.disks c.args.second_place _ c.take_either.result _ _ told_second second_is c.in_ok-first.ensures.second c.take_either.ensures.second in
    subst (λ (l : List ℕ). OpensOne g.D.Disks.disk g.D.Disks.may_leave g.D.Disks.moment g.D.Disks.left_since g.D.Disks.tears c.args.disks.now c.take_either.new.disks c.args.second_place 1 (g.D.Disks.disk c.args.disks.now c.args.first_place).bytes l c.take_either.result) second_is
    (subst (λ (l : List ℕ). OpensOne g.D.Disks.disk g.D.Disks.may_leave g.D.Disks.moment g.D.Disks.left_since g.D.Disks.tears c.args.disks.now c.take_either.new.disks c.args.second_place 1 l c.deref-2.result.now c.take_either.result) first_is opens)

pub returns-clause-found : goal.returns-clause-found
returns-clause-found g c =
    let first = c.in_ok-first.ensures.first in
    let second = c.in_ok-first.ensures.second in
    if_ok_four _ _ _ _ _ _ c.take_either.result c.take_either.ensures.taken
    (on_ok_under (IsTrue (g.D.Disks.disk c.args.disks.now c.args.first_place).told) _ c.take_either.result (λ told. c.take_either.ensures.first.settled (first.told ∙ told)))
    (on_ok_under (IsTrue (g.D.Disks.disk c.args.disks.now c.args.second_place).told) _ c.take_either.result (λ told. c.take_either.ensures.second.settled (second.told ∙ told)))
    (on_ok_under (IsTrue (g.D.Disks.disk c.args.disks.now c.args.first_place).told) _ c.take_either.result (λ told. c.take_either.ensures.first.durable (first.told ∙ told)))
    (on_ok_under (IsTrue (g.D.Disks.disk c.args.disks.now c.args.second_place).told) _ c.take_either.result (λ told. c.take_either.ensures.second.durable (second.told ∙ told)))
    (λ r is first_bytes second_bytes first_durable second_durable. record {
      first = c.deref.result.now;
      second = c.deref-2.result.now;
      is = is;
      first_is = λ told. c.deref.ensures.value ∙ c.in_ok-first.ensures.first_file told;
      second_is = λ told. c.deref-2.ensures.value ∙ c.in_ok-first.ensures.second_file told;
      first_bytes = first_bytes;
      second_bytes = second_bytes;
      first_durable = first_durable;
      second_durable = second_durable;
    })

pub returns-clause-not_a_log : goal.returns-clause-not_a_log
returns-clause-not_a_log g c n is told_first told_second =
    let first_is = c.deref.ensures.value ∙ c.in_ok-first.ensures.first_file told_first in
    let second_is = c.deref-2.ensures.value ∙ c.in_ok-first.ensures.second_file told_second in
    sym (ap (λ (l : List ℕ). read_areas l c.deref-2.result.now) first_is ∙ ap (λ (l : List ℕ). read_areas (g.D.Disks.disk c.args.disks.now c.args.first_place).bytes l) second_is) ∙ (c.take_either.ensures.not_a_log n is).0
