use Rattle.std.proofs.Common.{◌∙◌, ap}
use Rattle.mdcc_serve_outbox.specs.Shows.{count_limited}
use Rattle.mdcc_def_server_runs.specs.Turns.{pending_size}
use Rattle.mdcc_serve_site.proofs.Sizes.{full_counted, pending_sizes}
use Rattle.mdcc_serve_site.specs.PendingBytes.{PendingBytes, size_of}
use Rattle.mdcc_serve_site.proofs.turning.is_full.Goals as goal

pub returns : goal.returns
returns c made is =
    full_counted c.size.result (pending_size made)
    (c.size.ensures ∙ (ap (λ (p : PendingBytes). count_limited (size_of p.payloads p.messages)) is ∙ ap count_limited (pending_sizes made)))
