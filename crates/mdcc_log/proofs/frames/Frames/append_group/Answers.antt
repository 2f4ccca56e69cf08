use Rattle.std.proofs.Common.{◌≡◌, ◌≤◌, ◌+◌, ◌-◌, ◌^◌, ◌∷◌, ◌++◌, [], List, ℕ, length, IsTrue, sym, ◌∙◌, ap, subst, arith}
use Rattle.mdcc_disks.specs.Disks.{LeavesOnly}
use Rattle.mdcc_log_file.specs.Append.{IsAtEnd, behind_calls, group_body}
use Rattle.mdcc_log_file.specs.Calls.{MadeSome, with_calls}
use Rattle.mdcc_log_file.proofs.Moments.{weakened}
use Rattle.mdcc_log_file.specs.Area.{front_of}
use Rattle.mdcc_log.specs.Frames.{OpenAreas, IsInUse, place_of}
use Rattle.mdcc_log.specs.Groups.{MayHaveGroup, frames_size, records_size}
use Rattle.mdcc_log.proofs.Groups.{counted_to, group_sizes, in_use_joined, laid_size, stands_group}
use Rattle.mdcc_log.proofs.Uses.{at_end}
use Rattle.mdcc_log.proofs.frames.Frames.append_group.Goals as goal

pub returns-in_err-append_behind-clause-any_moment : goal.returns-in_err-append_behind-clause-any_moment
returns-in_err-append_behind-clause-any_moment g c log told uses =
    let at : c.place_of-place.result ≡ place_of c.args.self.now.centre c.args.self.now.area = c.place_of-place.ensures ∙ ap (λ (v : OpenAreas). place_of v.centre v.area) c.self.view_is in
    let told_there = subst (λ (n : ℕ). IsTrue (g.D.Disks.disk c.args.disks.now n).told) (sym at) told in
    let rest = subst (λ (n : ℕ). IsAtEnd (front_of log) n (g.D.Disks.disk c.args.disks.now c.place_of-place.result).bytes (g.D.Disks.may_leave c.args.disks.now c.place_of-place.result)) (sym (ap (λ (v : OpenAreas). v.size) c.self.view_is))
    (at_end (subst (λ (n : ℕ). IsInUse c.args.self.now log (g.D.Disks.disk c.args.disks.now n).bytes (g.D.Disks.may_leave c.args.disks.now n)) (sym at) uses)) in
    let ends = c.deref.ensures.value ∙ c.in_ok-lay_out.ensures.items in
    subst (λ (n : ℕ). LeavesOnly g.D.Disks.moment g.D.Disks.left_since c.args.disks.now c.append_behind.new.disks n (MayHaveGroup c.args.self.now.area log (c.args.first.now ∷ c.args.others.now))) at
    (weakened (MayHaveGroup c.args.self.now.area log (c.args.first.now ∷ c.args.others.now)) (c.append_behind.ensures.any_moment (front_of log) (group_body (c.args.first.now ∷ c.args.others.now)) ends told_there rest) (λ x may. stands_group c.args.self.now.area log (c.args.first.now ∷ c.args.others.now) x uses.valid (c.requires.short, c.requires.others) may))

pub returns-clause-any_moment : goal.returns-clause-any_moment
returns-clause-any_moment g c log told uses =
    let at : c.place_of-place.result ≡ place_of c.args.self.now.centre c.args.self.now.area = c.place_of-place.ensures ∙ ap (λ (v : OpenAreas). place_of v.centre v.area) c.self.view_is in
    let told_there = subst (λ (n : ℕ). IsTrue (g.D.Disks.disk c.args.disks.now n).told) (sym at) told in
    let rest = subst (λ (n : ℕ). IsAtEnd (front_of log) n (g.D.Disks.disk c.args.disks.now c.place_of-place.result).bytes (g.D.Disks.may_leave c.args.disks.now c.place_of-place.result)) (sym (ap (λ (v : OpenAreas). v.size) c.self.view_is))
    (at_end (subst (λ (n : ℕ). IsInUse c.args.self.now log (g.D.Disks.disk c.args.disks.now n).bytes (g.D.Disks.may_leave c.args.disks.now n)) (sym at) uses)) in
    let ends = c.deref.ensures.value ∙ c.in_ok-lay_out.ensures.items in
    subst (λ (n : ℕ). LeavesOnly g.D.Disks.moment g.D.Disks.left_since c.args.disks.now c.append_behind.new.disks n (MayHaveGroup c.args.self.now.area log (c.args.first.now ∷ c.args.others.now))) at
    (weakened (MayHaveGroup c.args.self.now.area log (c.args.first.now ∷ c.args.others.now)) (c.append_behind.ensures.any_moment (front_of log) (group_body (c.args.first.now ∷ c.args.others.now)) ends told_there rest) (λ x may. stands_group c.args.self.now.area log (c.args.first.now ∷ c.args.others.now) x uses.valid (c.requires.short, c.requires.others) may))

pub returns-in_err-append_behind-clause-calls : goal.returns-in_err-append_behind-clause-calls
returns-in_err-append_behind-clause-calls g c =
    let at : c.place_of-place.result ≡ place_of c.args.self.now.centre c.args.self.now.area = c.place_of-place.ensures ∙ ap (λ (v : OpenAreas). place_of v.centre v.area) c.self.view_is in
    let ends = c.deref.ensures.value ∙ c.in_ok-lay_out.ensures.items in
    let place = place_of c.args.self.now.centre c.args.self.now.area in
    subst (λ (k : ℕ). MadeSome (behind_calls k (group_body (c.args.first.now ∷ c.args.others.now) ++ 0 ∷ [])) (g.D.Disks.disk c.args.disks.now place).calls (g.D.Disks.disk c.append_behind.new.disks place).calls) (ap (λ (v : OpenAreas). v.size) c.self.view_is)
    (subst (λ (l : List ℕ). MadeSome (behind_calls c.self.inside.size l) (g.D.Disks.disk c.args.disks.now place).calls (g.D.Disks.disk c.append_behind.new.disks place).calls) ends
    (subst (λ (n : ℕ). MadeSome (behind_calls c.self.inside.size c.deref.result.now) (g.D.Disks.disk c.args.disks.now n).calls (g.D.Disks.disk c.append_behind.new.disks n).calls) at c.append_behind.ensures.calls))

pub returns-clause-calls : goal.returns-clause-calls
returns-clause-calls g c =
    let at : c.place_of-place.result ≡ place_of c.args.self.now.centre c.args.self.now.area = c.place_of-place.ensures ∙ ap (λ (v : OpenAreas). place_of v.centre v.area) c.self.view_is in
    let ends = c.deref.ensures.value ∙ c.in_ok-lay_out.ensures.items in
    let place = place_of c.args.self.now.centre c.args.self.now.area in
    subst (λ (k : ℕ). MadeSome (behind_calls k (group_body (c.args.first.now ∷ c.args.others.now) ++ 0 ∷ [])) (g.D.Disks.disk c.args.disks.now place).calls (g.D.Disks.disk c.append_behind.new.disks place).calls) (ap (λ (v : OpenAreas). v.size) c.self.view_is)
    (subst (λ (l : List ℕ). MadeSome (behind_calls c.self.inside.size l) (g.D.Disks.disk c.args.disks.now place).calls (g.D.Disks.disk c.append_behind.new.disks place).calls) ends
    (subst (λ (n : ℕ). MadeSome (behind_calls c.self.inside.size c.deref.result.now) (g.D.Disks.disk c.args.disks.now n).calls (g.D.Disks.disk c.append_behind.new.disks n).calls) at c.append_behind.ensures.calls))

pub returns-clause-all_calls : goal.returns-clause-all_calls
returns-clause-all_calls g c =
    let at : c.place_of-place.result ≡ place_of c.args.self.now.centre c.args.self.now.area = c.place_of-place.ensures ∙ ap (λ (v : OpenAreas). place_of v.centre v.area) c.self.view_is in
    let ends = c.deref.ensures.value ∙ c.in_ok-lay_out.ensures.items in
    let place = place_of c.args.self.now.centre c.args.self.now.area in
    subst (λ (k : ℕ). (g.D.Disks.disk c.append_behind.new.disks place).calls ≡ with_calls (behind_calls k (group_body (c.args.first.now ∷ c.args.others.now) ++ 0 ∷ [])) (g.D.Disks.disk c.args.disks.now place).calls) (ap (λ (v : OpenAreas). v.size) c.self.view_is)
    (subst (λ (l : List ℕ). (g.D.Disks.disk c.append_behind.new.disks place).calls ≡ with_calls (behind_calls c.self.inside.size l) (g.D.Disks.disk c.args.disks.now place).calls) ends
    (subst (λ (n : ℕ). (g.D.Disks.disk c.append_behind.new.disks n).calls ≡ with_calls (behind_calls c.self.inside.size c.deref.result.now) (g.D.Disks.disk c.args.disks.now n).calls) at c.in_ok-append_behind.ensures.all_calls))

pub returns-clause-acknowledged : goal.returns-clause-acknowledged
returns-clause-acknowledged g c log told uses =
    let at : c.place_of-place.result ≡ place_of c.args.self.now.centre c.args.self.now.area = c.place_of-place.ensures ∙ ap (λ (v : OpenAreas). place_of v.centre v.area) c.self.view_is in
    let told_there = subst (λ (n : ℕ). IsTrue (g.D.Disks.disk c.args.disks.now n).told) (sym at) told in
    let rest = subst (λ (n : ℕ). IsAtEnd (front_of log) n (g.D.Disks.disk c.args.disks.now c.place_of-place.result).bytes (g.D.Disks.may_leave c.args.disks.now c.place_of-place.result)) (sym (ap (λ (v : OpenAreas). v.size) c.self.view_is))
    (at_end (subst (λ (n : ℕ). IsInUse c.args.self.now log (g.D.Disks.disk c.args.disks.now n).bytes (g.D.Disks.may_leave c.args.disks.now n)) (sym at) uses)) in
    let ends = c.deref.ensures.value ∙ c.in_ok-lay_out.ensures.items in
    let size : length c.deref.result.now ≡ frames_size (c.args.first.now ∷ c.args.others.now) = ap (λ (l : List ℕ). length l) ends ∙ laid_size c.args.first.now c.args.others.now in
    let more = subst (λ (k : ℕ). IsAtEnd (front_of log ++ 1 ∷ group_body (c.args.first.now ∷ c.args.others.now)) (c.self.inside.size + k) (g.D.Disks.disk c.append_behind.new.disks (place_of c.args.self.now.centre c.args.self.now.area)).bytes (g.D.Disks.may_leave c.append_behind.new.disks (place_of c.args.self.now.centre c.args.self.now.area))) (c.deref.ensures.len ∙ sym c.len-size.ensures)
    (subst (λ (n : ℕ). IsAtEnd (front_of log ++ 1 ∷ group_body (c.args.first.now ∷ c.args.others.now)) (c.self.inside.size + length c.deref.result.now) (g.D.Disks.disk c.append_behind.new.disks n).bytes (g.D.Disks.may_leave c.append_behind.new.disks n)) at
    (c.in_ok-append_behind.ensures.acknowledged (front_of log) (group_body (c.args.first.now ∷ c.args.others.now)) ends told_there rest)) in
    let sized : c.len-size.result ≡ frames_size (c.args.first.now ∷ c.args.others.now) = c.len-size.ensures ∙ sym c.deref.ensures.len ∙ size in
    let count : c.self.inside.count + (length c.args.others.now + 1) ≡ c.args.self.now.count + length (c.args.first.now ∷ c.args.others.now) = omega (arith, ap (λ (v : OpenAreas). v.count) c.self.view_is) in
    let tail : c.self.inside.tail + (length c.args.others.now + 1) ≡ c.args.self.now.tail + length (c.args.first.now ∷ c.args.others.now) = omega (arith, ap (λ (v : OpenAreas). v.tail) c.self.view_is) in
    let body : c.self.inside.body + (c.len-size.result - (length c.args.others.now + 1)) ≡ c.args.self.now.body + records_size (c.args.first.now ∷ c.args.others.now) = omega (arith, ap (λ (v : OpenAreas). v.body) c.self.view_is, sized, group_sizes (c.args.first.now ∷ c.args.others.now)) in
    in_use_joined c.args.self.now _ log (c.args.first.now ∷ c.args.others.now) _ _ _ _ uses (c.requires.short, c.requires.others) (omega arith) more
    (ap (λ (v : OpenAreas). v.area) c.self.view_is) (ap (λ (v : OpenAreas). v.generation) c.self.view_is) count (ap (λ (v : OpenAreas). v.start) c.self.view_is) tail
    body

-- how many bytes there are
pub overflow_sub-self : goal.overflow_sub-self
overflow_sub-self g c =
    let ends = c.deref.ensures.value ∙ c.in_ok-lay_out.ensures.items in
    let sized : c.len-size.result ≡ frames_size (c.args.first.now ∷ c.args.others.now) = c.len-size.ensures ∙ sym c.deref.ensures.len ∙ ap (λ (l : List ℕ). length l) ends ∙ laid_size c.args.first.now c.args.others.now in
    omega (arith, sized, group_sizes (c.args.first.now ∷ c.args.others.now))

pub invariant_of-self-2 : goal.invariant_of-self-2
invariant_of-self-2 g c =
    let ends = c.deref.ensures.value ∙ c.in_ok-lay_out.ensures.items in
    let sized : c.len-size.result ≡ frames_size (c.args.first.now ∷ c.args.others.now) = c.len-size.ensures ∙ sym c.deref.ensures.len ∙ ap (λ (l : List ℕ). length l) ends ∙ laid_size c.args.first.now c.args.others.now in
    let room : c.self.inside.size + frames_size (c.args.first.now ∷ c.args.others.now) ≤ 2 ^ 30 = subst (λ (v : OpenAreas). v.size + frames_size (c.args.first.now ∷ c.args.others.now) ≤ 2 ^ 30) (sym c.self.view_is) c.requires.room in
    let i = c.self.invariant in
    record {
      centre_low = i.centre_low;
      centre_high = i.centre_high;
      area = i.area;
      every = i.every;
      room = c.lay_out.ensures.room;
      start_low = i.start_low;
      start_copy = i.start_copy;
      order = omega (arith, i.order);
      tail = omega (arith, i.tail);
      count = omega (arith, i.count, sized, group_sizes (c.args.first.now ∷ c.args.others.now));
      body = omega (arith, i.body, sized, group_sizes (c.args.first.now ∷ c.args.others.now));
      fits = omega (arith, sized, room);
    }

pub returns-clause-keeps : goal.returns-clause-keeps
returns-clause-keeps g c =
    let ends = c.deref.ensures.value ∙ c.in_ok-lay_out.ensures.items in
    let sized : c.len-size.result ≡ frames_size (c.args.first.now ∷ c.args.others.now) = c.len-size.ensures ∙ sym c.deref.ensures.len ∙ ap (λ (l : List ℕ). length l) ends ∙ laid_size c.args.first.now c.args.others.now in
    let count : length c.args.others.now + 1 ≡ length (c.args.first.now ∷ c.args.others.now) = omega arith in
    let body : frames_size (c.args.first.now ∷ c.args.others.now) - length (c.args.first.now ∷ c.args.others.now) ≡ records_size (c.args.first.now ∷ c.args.others.now) = omega (arith, group_sizes (c.args.first.now ∷ c.args.others.now)) in
    counted_to _ c.args.self.now _ (length (c.args.first.now ∷ c.args.others.now)) _ (frames_size (c.args.first.now ∷ c.args.others.now)) (records_size (c.args.first.now ∷ c.args.others.now)) c.self.view_is count sized body
