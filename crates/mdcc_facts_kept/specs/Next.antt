-- What a store that gives cells back finds in several steps.
use Rattle.std.specs.Option.{option_map}
use Rattle.std.specs.Prelude.{List, None, Option, Some, [], find, if◌then◌else◌, suc, ℕ, ◌*◌, ◌+◌, ◌-◌, ◌<◌, ◌^◌, ◌∷◌}
use Rattle.mdcc_base.specs.declared.identifiers.Ballot.{Ballot}
use Rattle.mdcc_base.specs.declared.identifiers.TxId.{TxId}
use Rattle.mdcc_base.specs.declared.key.Key.{Key}
use Rattle.mdcc_option.specs.declared.choices.Mark.{Mark}
use Rattle.mdcc_struct.specs.declared.options.Options.{Options}
use Rattle.mdcc_def_messages.specs.declared.facts.Fact.{Fact}
use Rattle.mdcc_def_protocol.specs.Facts.{is_finished, is_forgotten, shown_of}
use Rattle.mdcc_def_protocol.specs.Stores.{is_above}
use Rattle.mdcc_facts.specs.Walks.{each_kept, rest_of}

-- the next mark above a transaction of the votes at a ballot that are not forgotten
abbrev pub next_shown : List Fact → Key → ℕ → Ballot → Option TxId → Option (Ballot × TxId × Mark)
next_shown facts key version ballot last = option_map (λ e. (ballot, e.0, e.1)) (find (λ e. is_above last e.0) (shown_of facts key version ballot))

abbrev pub tx_shown : Option (Ballot × TxId × Mark) → Option TxId
tx_shown mark = option_map (λ m. m.1) mark

-- a transaction with its write set, unless it is finished
abbrev pub unless_finished : List Fact → TxId × List (Key × ℕ) → Option (TxId × List (Key × ℕ))
unless_finished facts entry = if is_finished facts entry.0 then None else Some entry

-- the place of a transaction among all that there may be, in their order
abbrev pub rank_of : TxId → ℕ
rank_of tx = tx.centre * 2 ^ 64 + (tx.epoch * 2 ^ 32 + tx.seq)

-- its numbers have their sizes
pub record IsRanked (tx : TxId) : Type 0 where
  pub centre : tx.centre < 256
  pub epoch : tx.epoch < 2 ^ 32
  pub seq : tx.seq < 2 ^ 32

-- how many places there are from a mark on
abbrev pub places_from : Option (Ballot × TxId × Mark) → ℕ
places_from None = 0
places_from (Some mark) = suc (2 ^ 72 - rank_of mark.1)

-- the next mark of those that are left, unless it is forgotten: then the one after it that is not
abbrev pub shown_from : List Fact → Key → ℕ → Ballot → Option (Ballot × TxId × Mark) → Option (Ballot × TxId × Mark)
shown_from facts key version ballot None = None
shown_from facts key version ballot (Some mark) = if is_forgotten facts key version mark.1 then next_shown facts key version ballot (Some mark.1) else Some mark

-- the marks from one on
abbrev pub marks_onward : Options → Option (Ballot × TxId × Mark) → Options
marks_onward marks None = []
marks_onward marks (Some mark) = (mark.1, mark.2) ∷ rest_of each_kept (Some mark.1) marks
