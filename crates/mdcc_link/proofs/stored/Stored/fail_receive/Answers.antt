use Rattle.std.proofs.Common.{◌≡◌, [], ◌∷◌, ◌++◌, length, Err, arith, rules}
use Rattle.mdcc_link.specs.declared.stored.Note.{Note}
use Rattle.mdcc_link.specs.declared.stored.Noted.TheVariants as noted
use Rattle.mdcc_link.proofs.Pieces.{pushed_within}
use Rattle.mdcc_link.proofs.stored.Stored.fail_receive.Goals as goal

pub invariant_of-self : goal.invariant_of-self
invariant_of-self c =
    let note : Note = record { call = noted.Receive c.args.at c.args.size (Err (record {})); piece = record { start = 0; count = 0 } } in
    let is : c.add.new.list.items ≡ c.self.inside.notes.items ++ note ∷ [] = search rules in
    record {
      calls = pushed_within (λ (n : Note). n.piece) (length c.self.inside.bytes.items) c.self.inside.notes.items c.add.new.list.items note is c.self.invariant.calls (omega arith);
      sent = c.self.invariant.sent;
      waiting = c.self.invariant.waiting;
    }
