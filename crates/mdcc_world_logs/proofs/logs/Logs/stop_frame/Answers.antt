use Rattle.std.proofs.Common.{◌≡◌, ◌≤◌, ◌+◌, ◌-◌, ◌*◌, ◌++◌, ◌∷◌, [], ap, arith, length, refl, subst, sym, ◌∙◌, ℕ}
use Rattle.mdcc_log_file.specs.Append.{MayAppend}
use Rattle.mdcc_log_file.specs.Area.{front_of}
use Rattle.mdcc_log.specs.Frames.{OpenAreas, other_of, place_of}
use Rattle.mdcc_disks.specs.Contents.{durable, image_of}
use Rattle.mdcc_disks.specs.Disks.{Within}
use Rattle.mdcc_disks.specs.Memory.{at_place, disk_of, may_leave_of, standing}
use Rattle.mdcc_log_file.specs.Calls.{append_calls}
use Rattle.mdcc_world_logs.proofs.Refusals.{on-err, same-may-have}
use Rattle.mdcc_world_logs.proofs.Standing.{held-same, log-is, same-disk}
use Rattle.mdcc_world_logs.proofs.Stops.{area-sized, frame-tail, holds-area, other-area, other-bytes, range, rest, stopped, struck-bytes, unwritten}
use Rattle.mdcc_world_logs.specs.Stopping.{HoldBut, IsImageStruck, stopped_at}
use Rattle.mdcc_world_logs.specs.declared.logs.Logs.{Logs}
use Rattle.mdcc_world_logs.proofs.logs.Logs.stop_frame.Goals as goal
use Rattle.mdcc_theorem_encoding.proofs.Lengths.{length-fact}

pub returns-in_err-payload-clause-refused : goal.returns-in_err-payload-clause-refused
returns-in_err-payload-clause-refused c centres up facts stand running =
    let some : 1 ≤ c.args.centre = omega arith in
    on-err _ (same-may-have c.args.self.now c.args.self.now c.args.centre centres up facts stand some c.requires.within c.args.fact.now refl (λ p. same-disk c.args.self.now.disks p))

pub frame_of-requires : goal.frame_of-requires
frame_of-requires c = record {
  short = let same = c.deref.ensures.value ∙ c.in_ok-payload.ensures in omega (ap length same, length-fact c.args.fact.now, c.requires.short, arith);
}

pub returns-in_err-frame-clause-refused : goal.returns-in_err-frame-clause-refused
returns-in_err-frame-clause-refused c centres up facts stand running =
    let some : 1 ≤ c.args.centre = omega arith in
    on-err _ (same-may-have c.args.self.now c.args.self.now c.args.centre centres up facts stand some c.requires.within c.args.fact.now refl (λ p. same-disk c.args.self.now.disks p))

pub returns-in_err-reserve_append-clause-refused : goal.returns-in_err-reserve_append-clause-refused
returns-in_err-reserve_append-clause-refused c centres up facts stand running =
    let some : 1 ≤ c.args.centre = omega arith in
    on-err _ (same-may-have c.args.self.now _ c.args.centre centres up facts stand some c.requires.within c.args.fact.now refl
    (held-same c.args.self.now.disks c.reserve_append.new.disks c.reserve_append.ensures))

pub strike-requires-clause-short : goal.strike-requires-clause-short
strike-requires-clause-short c =
    let same = c.deref-2.ensures.value ∙ c.in_ok-payload.ensures in
    omega (ap length same, length-fact c.args.fact.now, c.requires.short, arith)

pub returns-in-Ok-clause-stopped : goal.returns-in-Ok-clause-stopped
returns-in-Ok-clause-stopped c centres up facts stand running =
    let a = c.args.centre in
    let d = c.reserve_append.new.disks in
    let e = c.strike.new.disks in
    let some : 1 ≤ a = omega arith in
    let index : c.from-index.result ≡ a = c.from-index.ensures ∙ c.number.ensures.value in
    let log = c.index-3.result.now in
    let is = log-is c.args.self.now c.from-index.result a log index some c.requires.within c.index-3.ensures in
    let named = log-is c.args.self.now c.from-index.result a c.index-2.result.now index some c.requires.within c.index-2.ensures in
    let same = held-same c.args.self.now.disks d c.reserve_append.ensures in
    let area : c.area-area.result ≡ log.area = c.area-area.ensures.value ∙ ap (λ (l : OpenAreas). l.area) (named ∙ sym is) in
    let place : c.number-2.result + 16 * c.area-area.result ≡ place_of a log.area = omega (c.number-2.ensures.value, area, arith) in
    let spare : c.number-3.result + 16 * (1 - c.area-area.result) ≡ place_of a (other_of log.area) =
    omega (c.number-3.ensures.value, ap (λ (n : ℕ). 1 - n) area ∙ other-area log.area (range c.args.self.now a centres up facts stand running some c.requires.within log is d same), arith) in
    let payload = c.deref-2.result.now in
    let bytes = c.deref-2.ensures.value ∙ c.in_ok-payload.ensures in
    let fits : length payload ≤ 2097152 = omega (ap length bytes, length-fact c.args.fact.now, c.requires.short, arith) in
    let but = subst (λ (q : ℕ). HoldBut (place_of a log.area) q d e) spare (subst (λ (p : ℕ). HoldBut p (c.number-3.result + 16 * (1 - c.area-area.result)) d e) place c.strike.ensures.others) in
    let new : Logs = record { disks = e; «open» = c.args.self.now.open } in
    let struck = subst (λ (n : ℕ). standing (at_place e (place_of a log.area)) ≡ durable (image_of c.args.image (stopped_at c.args.call (append_calls n payload) (standing (at_place d (place_of a log.area)))))) c.size-size.ensures
    (subst (λ (p : ℕ). standing (at_place e p) ≡ durable (image_of c.args.image (stopped_at c.args.call (append_calls c.size-size.result payload) (standing (at_place d p))))) place c.in-Ok.ensures.struck) in
    let struck_other = subst (λ (p : ℕ). standing (at_place e p) ≡ durable (image_of c.args.image (standing (at_place d p)))) spare c.in-Ok.ensures.struck_other in
    stopped c.args.self.now a centres up facts stand running some c.requires.within log is d same new refl but c.args.fact.now payload bytes fits c.args.call c.requires.first c.requires.last c.args.image struck struck_other

pub returns-in-Ok-clause-struck : goal.returns-in-Ok-clause-struck
returns-in-Ok-clause-struck c centres up facts stand running =
    let a = c.args.centre in
    let d = c.reserve_append.new.disks in
    let e = c.strike.new.disks in
    let some : 1 ≤ a = omega arith in
    let index : c.from-index.result ≡ a = c.from-index.ensures ∙ c.number.ensures.value in
    let log = c.index-3.result.now in
    let is = log-is c.args.self.now c.from-index.result a log index some c.requires.within c.index-3.ensures in
    let named = log-is c.args.self.now c.from-index.result a c.index-2.result.now index some c.requires.within c.index-2.ensures in
    let same = held-same c.args.self.now.disks d c.reserve_append.ensures in
    let area : c.area-area.result ≡ log.area = c.area-area.ensures.value ∙ ap (λ (l : OpenAreas). l.area) (named ∙ sym is) in
    let place : c.number-2.result + 16 * c.area-area.result ≡ place_of a log.area = omega (c.number-2.ensures.value, area, arith) in
    let spare : c.number-3.result + 16 * (1 - c.area-area.result) ≡ place_of a (other_of log.area) =
    omega (c.number-3.ensures.value, ap (λ (n : ℕ). 1 - n) area ∙ other-area log.area (range c.args.self.now a centres up facts stand running some c.requires.within log is d same), arith) in
    let payload = c.deref-2.result.now in
    let bytes = c.deref-2.ensures.value ∙ c.in_ok-payload.ensures in
    let fits : length payload ≤ 2097152 = omega (ap length bytes, length-fact c.args.fact.now, c.requires.short, arith) in
    let but = subst (λ (q : ℕ). HoldBut (place_of a log.area) q d e) spare (subst (λ (p : ℕ). HoldBut p (c.number-3.result + 16 * (1 - c.area-area.result)) d e) place c.strike.ensures.others) in
    let new : Logs = record { disks = e; «open» = c.args.self.now.open } in
    let struck = subst (λ (n : ℕ). standing (at_place e (place_of a log.area)) ≡ durable (image_of c.args.image (stopped_at c.args.call (append_calls n payload) (standing (at_place d (place_of a log.area)))))) c.size-size.ensures
    (subst (λ (p : ℕ). standing (at_place e p) ≡ durable (image_of c.args.image (stopped_at c.args.call (append_calls c.size-size.result payload) (standing (at_place d p))))) place c.in-Ok.ensures.struck) in
    let struck_other = subst (λ (p : ℕ). standing (at_place e p) ≡ durable (image_of c.args.image (standing (at_place d p)))) spare c.in-Ok.ensures.struck_other in
    subst (λ (l : OpenAreas). IsImageStruck c.args.fact.now c.args.call c.args.image (disk_of c.args.self.now.disks (place_of a l.area)).bytes (disk_of e (place_of a l.area)).bytes) is
    (struck-bytes c.args.self.now a centres up facts stand running some c.requires.within log is d same new refl but c.args.fact.now payload bytes fits c.args.call c.requires.first c.requires.last c.args.image struck struck_other)

pub returns-in-Ok-clause-struck_other : goal.returns-in-Ok-clause-struck_other
returns-in-Ok-clause-struck_other c centres up facts stand running =
    let a = c.args.centre in
    let d = c.reserve_append.new.disks in
    let e = c.strike.new.disks in
    let some : 1 ≤ a = omega arith in
    let index : c.from-index.result ≡ a = c.from-index.ensures ∙ c.number.ensures.value in
    let log = c.index-3.result.now in
    let is = log-is c.args.self.now c.from-index.result a log index some c.requires.within c.index-3.ensures in
    let named = log-is c.args.self.now c.from-index.result a c.index-2.result.now index some c.requires.within c.index-2.ensures in
    let same = held-same c.args.self.now.disks d c.reserve_append.ensures in
    let area : c.area-area.result ≡ log.area = c.area-area.ensures.value ∙ ap (λ (l : OpenAreas). l.area) (named ∙ sym is) in
    let place : c.number-2.result + 16 * c.area-area.result ≡ place_of a log.area = omega (c.number-2.ensures.value, area, arith) in
    let spare : c.number-3.result + 16 * (1 - c.area-area.result) ≡ place_of a (other_of log.area) =
    omega (c.number-3.ensures.value, ap (λ (n : ℕ). 1 - n) area ∙ other-area log.area (range c.args.self.now a centres up facts stand running some c.requires.within log is d same), arith) in
    let payload = c.deref-2.result.now in
    let bytes = c.deref-2.ensures.value ∙ c.in_ok-payload.ensures in
    let fits : length payload ≤ 2097152 = omega (ap length bytes, length-fact c.args.fact.now, c.requires.short, arith) in
    let but = subst (λ (q : ℕ). HoldBut (place_of a log.area) q d e) spare (subst (λ (p : ℕ). HoldBut p (c.number-3.result + 16 * (1 - c.area-area.result)) d e) place c.strike.ensures.others) in
    let new : Logs = record { disks = e; «open» = c.args.self.now.open } in
    let struck = subst (λ (n : ℕ). standing (at_place e (place_of a log.area)) ≡ durable (image_of c.args.image (stopped_at c.args.call (append_calls n payload) (standing (at_place d (place_of a log.area)))))) c.size-size.ensures
    (subst (λ (p : ℕ). standing (at_place e p) ≡ durable (image_of c.args.image (stopped_at c.args.call (append_calls c.size-size.result payload) (standing (at_place d p))))) place c.in-Ok.ensures.struck) in
    let struck_other = subst (λ (p : ℕ). standing (at_place e p) ≡ durable (image_of c.args.image (standing (at_place d p)))) spare c.in-Ok.ensures.struck_other in
    subst (λ (l : OpenAreas). (disk_of e (place_of a (other_of l.area))).bytes ≡ (disk_of c.args.self.now.disks (place_of a (other_of l.area))).bytes) is
    (other-bytes c.args.self.now a centres up facts stand running some c.requires.within log is d same new refl but c.args.fact.now payload bytes fits c.args.call c.requires.first c.requires.last c.args.image struck struck_other)

pub returns-in-Ok-clause-tail : goal.returns-in-Ok-clause-tail
returns-in-Ok-clause-tail c centres up facts stand running =
    let a = c.args.centre in
    let d = c.reserve_append.new.disks in
    let e = c.strike.new.disks in
    let some : 1 ≤ a = omega arith in
    let index : c.from-index.result ≡ a = c.from-index.ensures ∙ c.number.ensures.value in
    let log = c.index-3.result.now in
    let is = log-is c.args.self.now c.from-index.result a log index some c.requires.within c.index-3.ensures in
    let named = log-is c.args.self.now c.from-index.result a c.index-2.result.now index some c.requires.within c.index-2.ensures in
    let same = held-same c.args.self.now.disks d c.reserve_append.ensures in
    let area : c.area-area.result ≡ log.area = c.area-area.ensures.value ∙ ap (λ (l : OpenAreas). l.area) (named ∙ sym is) in
    let place : c.number-2.result + 16 * c.area-area.result ≡ place_of a log.area = omega (c.number-2.ensures.value, area, arith) in
    let spare : c.number-3.result + 16 * (1 - c.area-area.result) ≡ place_of a (other_of log.area) =
    omega (c.number-3.ensures.value, ap (λ (n : ℕ). 1 - n) area ∙ other-area log.area (range c.args.self.now a centres up facts stand running some c.requires.within log is d same), arith) in
    let payload = c.deref-2.result.now in
    let bytes = c.deref-2.ensures.value ∙ c.in_ok-payload.ensures in
    let fits : length payload ≤ 2097152 = omega (ap length bytes, length-fact c.args.fact.now, c.requires.short, arith) in
    let but = subst (λ (q : ℕ). HoldBut (place_of a log.area) q d e) spare (subst (λ (p : ℕ). HoldBut p (c.number-3.result + 16 * (1 - c.area-area.result)) d e) place c.strike.ensures.others) in
    let new : Logs = record { disks = e; «open» = c.args.self.now.open } in
    let struck = subst (λ (n : ℕ). standing (at_place e (place_of a log.area)) ≡ durable (image_of c.args.image (stopped_at c.args.call (append_calls n payload) (standing (at_place d (place_of a log.area)))))) c.size-size.ensures
    (subst (λ (p : ℕ). standing (at_place e p) ≡ durable (image_of c.args.image (stopped_at c.args.call (append_calls c.size-size.result payload) (standing (at_place d p))))) place c.in-Ok.ensures.struck) in
    let struck_other = subst (λ (p : ℕ). standing (at_place e p) ≡ durable (image_of c.args.image (standing (at_place d p)))) spare c.in-Ok.ensures.struck_other in
    frame-tail c.args.self.now a centres up facts stand running some c.requires.within log is d same new refl but c.args.fact.now payload bytes fits c.args.call c.requires.first c.requires.last c.args.image struck struck_other

pub returns-clause-refused : goal.returns-clause-refused
returns-clause-refused c centres up facts stand running =
    let a = c.args.centre in
    let d = c.reserve_append.new.disks in
    let e = c.strike.new.disks in
    let some : 1 ≤ a = omega arith in
    let index : c.from-index.result ≡ a = c.from-index.ensures ∙ c.number.ensures.value in
    let log = c.index-3.result.now in
    let is = log-is c.args.self.now c.from-index.result a log index some c.requires.within c.index-3.ensures in
    let named = log-is c.args.self.now c.from-index.result a c.index-2.result.now index some c.requires.within c.index-2.ensures in
    let same = held-same c.args.self.now.disks d c.reserve_append.ensures in
    let area : c.area-area.result ≡ log.area = c.area-area.ensures.value ∙ ap (λ (l : OpenAreas). l.area) (named ∙ sym is) in
    let place : c.number-2.result + 16 * c.area-area.result ≡ place_of a log.area = omega (c.number-2.ensures.value, area, arith) in
    let spare : c.number-3.result + 16 * (1 - c.area-area.result) ≡ place_of a (other_of log.area) =
    omega (c.number-3.ensures.value, ap (λ (n : ℕ). 1 - n) area ∙ other-area log.area (range c.args.self.now a centres up facts stand running some c.requires.within log is d same), arith) in
    let payload = c.deref-2.result.now in
    let bytes = c.deref-2.ensures.value ∙ c.in_ok-payload.ensures in
    let fits : length payload ≤ 2097152 = omega (ap length bytes, length-fact c.args.fact.now, c.requires.short, arith) in
    let but = subst (λ (q : ℕ). HoldBut (place_of a log.area) q d e) spare (subst (λ (p : ℕ). HoldBut p (c.number-3.result + 16 * (1 - c.area-area.result)) d e) place c.strike.ensures.others) in
    let new : Logs = record { disks = e; «open» = c.args.self.now.open } in
    let front = front_of (rest c.args.self.now a centres up facts stand running some c.requires.within log is d same).log in
    let sized = c.size-size.ensures ∙ area-sized c.args.self.now a centres up facts stand running some c.requires.within log is d same in
    let left = subst (λ (p : ℕ). Within (MayAppend front payload) (may_leave_of e p)) place
    (c.in-Err.ensures.left front sized (subst (λ (p : ℕ). standing (at_place d p) ≡ durable (front ++ 0 ∷ [])) (sym place) (holds-area c.args.self.now a centres up facts stand running some c.requires.within log is d same))) in
    let left_other = subst (λ (p : ℕ). standing (at_place e p) ≡ standing (at_place d p)) spare c.in-Err.ensures.left_other in
    unwritten c.args.self.now a centres up facts stand running some c.requires.within log is d same new refl but c.args.fact.now payload bytes fits left left_other
