use Rattle.std.proofs.Common.{◌∙◌, arith, sym}
use Rattle.std.proofs.lemmas.List.{append-nil}
use Rattle.std.proofs.lemmas.Map.Entries.{length-keys_of}
use Rattle.mdcc_world_decisions.proofs.Stood.{begun-put}
use Rattle.mdcc_world_decisions.proofs.Txs.{counts-begun, keys-few}
use Rattle.mdcc_world_decisions.proofs.decisions.Decisions.begin.Goals as goal

pub returns : goal.returns
returns c quorums entries centre stands =
    let before = c.args.self.now.begun.entries in
    let instances = c.in_ok-instances.instances in
    record {
      knows = stands.knows;
      begun = λ tx. begun-put c.args.self.now.begun c.insert.new.self entries centre c.args.tx tx c.args.choices.now instances c.in_ok-instances.ensures
          (c.in_ok-insert.ensures.updates.0 tx) (stands.begun tx);
      casts = λ tx. stands.casts tx ∙ sym (append-nil _);
      ballots = stands.ballots;
      counts = λ test. rw c.in_ok-insert.ensures.entries (counts-begun before entries centre c.args.tx c.args.choices.now instances stands.counts test);
      few = rw c.in_ok-insert.ensures.entries (omega (keys-few before c.args.tx instances, length-keys_of before, c.if-len.false, c.len.ensures.len, stands.few, arith));
    }
