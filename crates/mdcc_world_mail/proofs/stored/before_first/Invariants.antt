use Rattle.std.proofs.Common.{◌≡◌, ◌+◌, drop}
use Rattle.mdcc_world_mail.specs.Waiting.{before_first, waits_for}
use Rattle.mdcc_world_mail.proofs.stored.before_first.Given as goal

abbrev pub invariant-loop-message : goal.invariant-loop-message
invariant-loop-message l = record {
  value : l.place + before_first (waits_for l.centre) (drop l.message-index l.messages) ≡ before_first (waits_for l.centre) l.messages;
  bound : l.place ≡ l.message-index;
}
