-- How many bytes are pending is counted as they come.
use Rattle.std.specs.Prelude.{◌≡◌}
use Rattle.mdcc_serve_outbox.specs.Shows.{count_limited}
use Rattle.mdcc_serve_site.specs.PendingBytes.{size_of}
use Rattle.mdcc_serve_site.specs.declared.pending.PendingBytes.TheInside.{Inside}

pub record IsCounted (pending : Inside) : Type 0 where
  pub size : pending.size ≡ count_limited (size_of pending.payloads pending.messages)
