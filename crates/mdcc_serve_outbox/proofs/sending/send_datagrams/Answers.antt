use Rattle.std.proofs.Common.{◌≡◌, ◌+◌, ◌∷◌, [], List, ℕ, Ok, sym, subst, arith, take, drop, length}
use Rattle.mdcc_frag.specs.Datagrams.{datagram}
use Rattle.mdcc_serve_outbox.proofs.Handed.{front_taken, hands_joined, next_datagram}
use Rattle.mdcc_serve_outbox.specs.Sends.{Hands, first_datagrams}
use Rattle.mdcc_def_server_runs.specs.Acts.{Act}
use Rattle.mdcc_serve_outbox.proofs.sending.send_datagrams.Goals as goal

pub loop-index-preserved : goal.loop-index-preserved
loop-index-preserved g c =
    let i = c.loop-index.index in
    let made = datagram c.args.head i c.args.message.now in
    let piece : take c.split-size.result c.split-size.new.out ≡ made =
    front_taken made (drop (length made) c.loop-index.datagram) c.split-size.new.out c.split-size.result c.split-size.ensures.written c.split-size.ensures.len in
    let one = subst (λ (bytes : List ℕ).
    Hands g.L.Link.calls g.L.Link.lost g.L.Link.faults (Act.Send c.args.head.sender c.args.to bytes (Ok tt) ∷ []) c.loop-index.link c.send_one-failed.new.link c.send_one-failed.result)
    piece c.send_one-failed.ensures.handed in
    record {
      handed = subst (λ (acts : List Act).
          Hands g.L.Link.calls g.L.Link.lost g.L.Link.faults acts c.args.link.now c.send_one-failed.new.link (c.loop-index.failed + c.send_one-failed.result))
          (sym (next_datagram c.args.head c.args.to c.args.message.now i))
          (hands_joined g.L.Link.calls g.L.Link.lost g.L.Link.faults (first_datagrams c.args.head c.args.to c.args.message.now i) (Act.Send c.args.head.sender c.args.to made (Ok tt) ∷ [])
          c.args.link.now c.loop-index.link c.send_one-failed.new.link c.loop-index.failed c.send_one-failed.result c.loop-index.invariant.handed one);
      few = omega (c.loop-index.invariant.few, c.send_one-failed.ensures.one, arith);
    }
