-- What all centres counted, and the line that tells it.
use Rattle.std.specs.Prelude.{List, ℕ, ◌+◌}
use Rattle.mdcc_base.specs.Counts.{sum_over}
use Rattle.mdcc_serve_outbox.specs.Shows.{count_limited}
use Rattle.mdcc_def_server_runs.specs.declared.lines.ServerLine.{ServerLine}
use Rattle.mdcc_serve.specs.declared.served.Served.{Served}
use Rattle.mdcc_serve_site.specs.declared.site.Site.{Site as TheSite}

-- their counts are added; a count stands still at its end
abbrev pub counts_of : ℕ → List TheSite → Served
counts_of turns held = record {
  turns = turns;
  steps = count_limited (sum_over (λ h. h.steps) held);
  dropped = count_limited (sum_over (λ h. h.dropped) held);
  lost = count_limited (sum_over (λ h. h.sender.lost) held);
}

-- and those of one more
abbrev pub with_counts : Served → TheSite → Served
with_counts served held = record {
  turns = served.turns;
  steps = count_limited (served.steps + held.steps);
  dropped = count_limited (served.dropped + held.dropped);
  lost = count_limited (served.lost + held.sender.lost);
}

abbrev pub done_of : Served → ServerLine
done_of served = ServerLine.Done served.turns served.steps served.dropped served.lost
