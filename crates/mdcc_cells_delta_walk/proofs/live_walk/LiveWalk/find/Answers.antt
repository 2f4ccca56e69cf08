use Rattle.std.proofs.Common.{◌≡◌, ◌++◌, ◌∷◌, ap, subst, sym, ◌∙◌}
use Rattle.std.specs.Prelude.{not}
use Rattle.mdcc_cells_delta_walk.specs.Entries.{left_in}
use Rattle.mdcc_cells_delta_walk.specs.LiveWalks.{IsFinding, left_live, live_in}
use Rattle.mdcc_cells_delta_walk.specs.declared.live_walk.LiveWalk.{LiveWalk}
use Rattle.mdcc_cells_delta_walk.proofs.LiveFound.{finds, found-none}
use Rattle.mdcc_cells_delta_walk.proofs.Summed.{read-first}
use Rattle.mdcc_cells_delta_walk.proofs.live_walk.LiveWalk.find.Goals as goal

pub loop-found-preserved : goal.loop-found-preserved
loop-found-preserved c =
    let s = c.loop-found.self in
    let next : LiveWalk = record { entries = c.find-found-in-loop-found.new.self; walk = c.read.new.self; key = s.key; version = s.version } in
    let found = c.find-found-in-loop-found.result in
    let whole : s.walk ≡ c.in-Some.cursor ∷ c.read.new.self =
    read-first s.walk c.in-Some.cursor c.in-Some.ensures.first ∙ ap (λ ts. c.in-Some.cursor ∷ ts) (sym c.read.ensures.rest) in
    let same : left_in c.read_live-self.result ++ live_in s.key s.version c.read.new.self ≡ left_live c.args.self.now =
    ap (λ e. left_in e ++ live_in s.key s.version c.read.new.self) c.read_live-self.ensures
    ∙ sym (ap (live_in s.key s.version) whole)
    ∙ found-none (left_live c.args.self.now) c.loop-found.found s c.loop-found.invariant (ap not (c.is_none.ensures ∙ ap not c.loop-found-test.true)) in
    subst (λ es. IsFinding es found next) same (finds (left_in c.read_live-self.result) found next c.find-found-in-loop-found.ensures)
