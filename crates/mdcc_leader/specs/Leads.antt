-- What a leader keeps for a key.
use Rattle.std.specs.List.{list_any}
use Rattle.std.specs.Prelude.{◌≡◌, ◌≤◌, ◌==◌, List, MatchOption, None, Option, Some, length, option_map, ℕ}
use Rattle.mdcc_base.specs.Counts.{number_of}
use Rattle.mdcc_base.specs.Quorums.{all_centres}
use Rattle.mdcc_base.specs.Sizes.{Sizes}
use Rattle.mdcc_base.specs.declared.key.Key.{Key}
use Rattle.mdcc_leader.specs.declared.led.Led.{Led}
use Rattle.mdcc_def_protocol.specs.Volatile.{CountedPromise, Lead, Leading, lead_of, number_kept_at}

abbrev pub lead_in : Option Led → Option Lead
lead_in led = option_map (λ led. led.lead) led

abbrev pub round_refused : Option Led → ℕ
round_refused None = 0
round_refused (Some led) = led.refused_round

abbrev pub round_led : Option Led → ℕ
round_led None = 0
round_led (Some led) = led.lead.ballot.round

-- no centre of the cluster promised twice, and none beside them
abbrev pub AreOfCentres : Sizes → List CountedPromise → Type 0
AreOfCentres quorums promises = length promises ≤ number_of (λ centre. list_any (λ promise. promise.from == centre) promises) (all_centres quorums)

abbrev pub HasPromises : Sizes → Option Led → Type 0
HasPromises quorums None = Unit {0}
HasPromises quorums (Some led) = AreOfCentres quorums led.lead.promises

-- the lead of the key, the greatest round that was refused there and that of its last lead
pub record KeepsLead (quorums : Sizes) (leading : Leading) (key : Key) (led : Option Led) : Type 0 where
  pub lead : lead_of leading key ≡ lead_in led
  pub refused : number_kept_at leading.refused_rounds key ≡ round_refused led
  pub last : number_kept_at leading.last_rounds key ≡ round_led led
  pub promised : HasPromises quorums led
