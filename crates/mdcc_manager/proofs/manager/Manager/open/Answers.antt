use Rattle.std.proofs.Common.{◌≡◌, true, is_ok, rules}
use Rattle.std.proofs.lemmas.List.{map-append}
use Rattle.mdcc_manager.proofs.Numbered.{numbered-begun}
use Rattle.mdcc_def_protocol.specs.Volatile.{txs_opened}
use Rattle.mdcc_manager.proofs.manager.Manager.open.Goals as goal

pub returns-clause-ok : goal.returns-clause-ok
returns-clause-ok c me epoch quorums managing stands =
    let ok : is_ok c.push-2.result ≡ true = search rules in
    record {
      at = stands.at;
      since = stands.since;
      last = rw stands.last;
      numbered = rw map-append (numbered-begun me epoch 0 managing.seq (txs_opened managing) stands.numbered);
      names = rw (c.in_ok-push.ensures.items, stands.names, stands.at, stands.since, stands.last, map-append);
      keeps = rw (c.push-2.ensures.items, ok, c.in_ok-choices.ensures, stands.keeps, stands.at, stands.since, stands.last, map-append);
      counts = stands.counts;
    }
