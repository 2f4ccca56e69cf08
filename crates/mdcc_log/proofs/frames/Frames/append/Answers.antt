use Rattle.std.proofs.Common.{◌≡◌, inl, inr, ◌+◌, ◌++◌, ◌∷◌, [], List, ℕ, length, OnOk, ◌∙◌, ap, subst, arith}
use Rattle.mdcc_log_file.specs.Append.{behind_calls}
use Rattle.mdcc_log_file.specs.Calls.{MadeSome, with_calls}
use Rattle.mdcc_log_file.proofs.Moments.{weakened}
use Rattle.mdcc_log.specs.Crash.{IsBetween}
use Rattle.mdcc_log.specs.Frames.{OpenAreas, place_of}
use Rattle.mdcc_log.specs.Groups.{records_size}
use Rattle.mdcc_log.proofs.Choice.{between_is_read}
use Rattle.mdcc_log.proofs.Groups.{one_between, one_body, one_record, one_frame}
use Rattle.mdcc_log.proofs.frames.Frames.append.Goals as goal

pub append_group-requires-clause-room : goal.append_group-requires-clause-room
append_group-requires-clause-room g c =
    omega (arith, one_frame c.args.payload.now, c.if-self-more.false, ap (λ (v : OpenAreas). v.size) c.self.view_is)

pub returns-then-self-more-clause-any_moment_reads : goal.returns-then-self-more-clause-any_moment_reads
returns-then-self-more-clause-any_moment_reads g c log current other told uses left idle =
    let same = uses.durable current (g.met.D.Disks.only_now c.args.disks.now (place_of c.args.self.now.centre c.args.self.now.area) current left) in
    between_is_read c.args.self.now.area log c.args.payload.now current other (inl (record { valid = uses.valid; file = inr ([], same ∙ uses.file) })) idle

pub returns-clause-any_moment : goal.returns-clause-any_moment
returns-clause-any_moment g c log told uses =
    weakened (IsBetween c.args.self.now.area log c.args.payload.now) (c.append_group.ensures.any_moment log told uses) (λ x may. one_between c.args.self.now.area log c.args.payload.now x may)

pub returns-clause-any_moment_reads : goal.returns-clause-any_moment_reads
returns-clause-any_moment_reads g c log current other told uses left idle =
    between_is_read c.args.self.now.area log c.args.payload.now current other (one_between c.args.self.now.area log c.args.payload.now current ((c.append_group.ensures.any_moment log told uses).each current left)) idle

pub returns-clause-calls : goal.returns-clause-calls
returns-clause-calls g c =
    subst (λ (l : List ℕ). MadeSome (behind_calls c.args.self.now.size (l ++ 0 ∷ [])) (g.D.Disks.disk c.args.disks.now (place_of c.args.self.now.centre c.args.self.now.area)).calls (g.D.Disks.disk c.append_group.new.disks (place_of c.args.self.now.centre c.args.self.now.area)).calls) (one_body c.args.payload.now) c.append_group.ensures.calls

pub returns-clause-all_calls : goal.returns-clause-all_calls
returns-clause-all_calls g c =
    subst (λ (l : List ℕ). OnOk c.append_group.result ((g.D.Disks.disk c.append_group.new.disks (place_of c.args.self.now.centre c.args.self.now.area)).calls ≡ with_calls (behind_calls c.args.self.now.size (l ++ 0 ∷ [])) (g.D.Disks.disk c.args.disks.now (place_of c.args.self.now.centre c.args.self.now.area)).calls)) (one_body c.args.payload.now) c.append_group.ensures.all_calls

pub returns-clause-keeps : goal.returns-clause-keeps
returns-clause-keeps g c =
    subst (λ (n : ℕ). OnOk c.append_group.result (c.append_group.new.self ≡ record c.args.self.now {
      count = c.args.self.now.count + 1;
      tail = c.args.self.now.tail + 1;
      body = c.args.self.now.body + n;
      size = c.args.self.now.size + (length c.args.payload.now + 5);
    })) (one_record c.args.payload.now)
    (subst (λ (n : ℕ). OnOk c.append_group.result (c.append_group.new.self ≡ record c.args.self.now {
      count = c.args.self.now.count + 1;
      tail = c.args.self.now.tail + 1;
      body = c.args.self.now.body + records_size (c.args.payload.now ∷ []);
      size = c.args.self.now.size + n;
    })) (one_frame c.args.payload.now) c.append_group.ensures.keeps)
