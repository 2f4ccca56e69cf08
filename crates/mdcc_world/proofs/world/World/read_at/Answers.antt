use Rattle.std.proofs.Common.{◌≡◌, ◌++◌, ◌∷◌, [], Some, ap, arith, length, ◌∙◌, refl}
use Rattle.std.proofs.lemmas.List.{with_items_is}
use Rattle.std.specs.Vec.{with_items}
use Rattle.mdcc_option.specs.declared.items.Known.{Known}
use Rattle.mdcc_def_ledger.specs.Ledger.{facts_of}
use Rattle.mdcc_def_protocol.specs.Visible
use Rattle.mdcc_def_simulation.specs.Clients.{known_of_reading}
use Rattle.mdcc_def_protocol.specs.declared.visible.Reading.{Reading}
use Rattle.mdcc_world.proofs.Counted.{has-read}
use Rattle.mdcc_world.proofs.NodesStay.{runs-in}
use Rattle.mdcc_world.specs.Nodes.{NodesRepresent, RunsAt}
use Rattle.mdcc_world.proofs.world.World.read_at.Goals as goal

pub read-requires-clause-running : goal.read-requires-clause-running
read-requires-clause-running c =
    let w = c.requires.like.0 in
    let like = c.requires.like.1 in
    let runs : RunsAt c.args.self.now.nodes.items c.args.centre = runs-in c.args.self.now.nodes.items w c.args.centre like.records.itself like.nodes (c.requires.up w like) in
    rw c.deref_mut.ensures.value runs

pub returns-clause-happened : goal.returns-clause-happened
returns-clause-happened c w like =
    let a = c.args.centre in
    let key = c.args.key.now in
    let known = c.known_of-known.result in
    let up = c.requires.up w like in
    let here : NodesRepresent c.deref_mut.result.now w = rw c.deref_mut.ensures.value like.nodes in
    let many : length c.read.new.nodes ≡ c.args.self.now.nodes.len = omega arith in
    let left = c.in_ok-reading.ensures.left w like.records.itself here up in
    let nodes : NodesRepresent (with_items c.args.self.now.nodes c.read.new.nodes).items w = rw (with_items_is c.args.self.now.nodes c.read.new.nodes many) left in
    let read : c.in_ok-reading.reading ≡ Visible.read (facts_of w.ledger a) key = c.in_ok-reading.ensures.shown w here up in
    let shown : known ≡ known_of_reading key (Visible.read (facts_of w.ledger a) key) = c.known_of-known.ensures.known ∙ ap (λ (r : Reading). known_of_reading key r) read in
    let reads : c.push.new.self ≡ c.args.self.now.reads ++ Some known ∷ [] =
    c.in_ok-push.ensures.ok ∙ ap (λ (k : Known). c.args.self.now.reads ++ Some k ∷ []) c.copy.ensures in
    has-read c.args.self.now _ w a key known c.args.lines.now c.push-2.new.self like up c.known_of-known.ensures.key shown nodes refl reads
    (rw (← c.len.ensures) c.in_ok-push-2.ensures.ok)
