-- What sending does.
use Rattle.std.specs.Prelude.{List, Ok, Option, map, ⊤, ℕ, ◌+◌, ◌++◌, ◌^◌, ◌∷◌, ◌≡◌, ◌≤◌}
use Rattle.std.specs.List.{range_with_len}
use Rattle.mdcc_base.specs.Causes.{Rose}
use Rattle.mdcc_base.specs.declared.outside.Address.{Address}
use Rattle.mdcc_frag.specs.Datagrams.{datagram}
use Rattle.mdcc_frag.specs.declared.datagrams.FragHead.{FragHead}
use Rattle.mdcc_link.specs.Link.{LinkCall}
use Rattle.mdcc_serve_outbox.specs.Shows.{Records, calls_of, count_limited, failed_in}
use Rattle.mdcc_serve_outbox.specs.declared.sending.Sender.{Sender}
use Rattle.mdcc_def_protocol.specs.Facts.{epoch_of}
use Rattle.mdcc_def_server_runs.specs.Acts.{Act, but_answers, lost_in}
use Rattle.mdcc_def_server_runs.specs.Sites.{Site}

-- it sends for this centre, in the epoch of its node, and has sent as many messages
pub record IsSenderOf (sender : Sender) (site : Site) : Type 0 where
  pub centre : sender.centre ≡ site.centre
  pub epoch : sender.epoch ≡ epoch_of site.node.facts
  pub sent : sender.sent ≡ site.sent

-- a datagram comes first
abbrev pub IsSending : List Act → Type 0
IsSending (Act.Send from to bytes answer ∷ acts) = ⊤
IsSending _ = ⊥

-- a centre would send more messages in its epoch than there are serials
abbrev pub IsPast : Site → Type 0
IsPast site = 2 ^ 32 ≤ site.sent

-- so many of the datagrams of a message, from the first on
abbrev pub first_datagrams : FragHead → Address → List ℕ → ℕ → List Act
first_datagrams head to bytes n = map (λ index. Act.Send head.sender to (datagram head index bytes) (Ok tt)) (range_with_len 0 n)

module _ {L : Type 0} (calls : L → Option (List LinkCall)) (lost faults : L → ℕ) where
  -- These acts were done at the link, whatever it answered to sends, and so many sends failed, each only where its count rose.
  pub record Hands (expected : List Act) (old new : L) (failed : ℕ) : Type 0 where
    pub acts : List Act
    pub are : but_answers acts ≡ expected
    pub recorded : Records (calls_of acts) (calls old) (calls new)
    pub counted_there : failed ≡ lost_in acts
    pub all_failed : failed ≡ failed_in acts
    pub later : lost old ≤ lost new
    pub rose : 1 ≤ failed → Rose (lost old) (lost new)
    pub receives : faults new ≡ faults old

  -- Of these acts a front was done and the rest is left, where what was lost before is counted with what was lost in it.
  pub record Sends (expected rest : List Act) (old new : L) (lost_old lost_new : ℕ) : Type 0 where
    pub acts : List Act
    pub are : but_answers acts ++ rest ≡ expected
    pub recorded : Records (calls_of acts) (calls old) (calls new)
    pub told : lost_new ≡ count_limited (lost_old + lost_in acts)
    pub later : lost old ≤ lost new
    pub rose : 1 ≤ failed_in acts → Rose (lost old) (lost new)
    pub receives : faults new ≡ faults old
