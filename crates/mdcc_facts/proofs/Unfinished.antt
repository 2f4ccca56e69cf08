-- Where a centre has set no floor, the past marks of a structure are those that were voted.
use Rattle.std.proofs.Common.{◌≡◌, ℕ, Bool, false, true, List, is_some, ap, ◌||◌, ◌∙◌}
use Rattle.std.proofs.Math.Path.{fun_ext}
use Rattle.std.proofs.Math.Bool.{or-false}
use Rattle.mdcc_base.specs.Counts.{number_of}
use Rattle.mdcc_base.specs.declared.identifiers.Ballot.{Ballot}
use Rattle.mdcc_base.specs.declared.identifiers.TxId.{TxId}
use Rattle.mdcc_base.specs.declared.key.Key.{Key}
use Rattle.mdcc_option.specs.declared.choices.Mark.{Mark}
use Rattle.mdcc_struct.specs.Maps.{value_of}
use Rattle.mdcc_struct.specs.declared.options.Options.{Options}
use Rattle.mdcc_facts.specs.Past.{count_past, is_past_mark}
use Rattle.mdcc_def_protocol.specs.Facts.{has_floor, is_finished, is_heard, votes_of}
use Rattle.mdcc_def_protocol.specs.Stores.{count_voted}
use Rattle.mdcc_def_protocol.proofs.Plain.{finished_none}
use Rattle.mdcc_def_messages.specs.declared.facts.Fact.{Fact}

module _ (facts : List Fact) (h : has_floor facts ≡ false) where
  pub past_plain : (key : Key) (version : ℕ) (ballot : Ballot) (tx : TxId)
      → is_past_mark facts key version ballot tx ≡ is_some (value_of (votes_of facts key version ballot) tx)
  past_plain key version ballot tx =
      let voted = is_some (value_of (votes_of facts key version ballot) tx) in
      ap (λ b. voted || b) (finished_none facts h tx) ∙ or-false voted

  pub count_plain : (key : Key) (version : ℕ) (ballot : Ballot) (options : Options)
      → count_past facts key version ballot options ≡ count_voted facts key version ballot options
  count_plain key version ballot options =
      ap (λ (test : TxId × Mark → Bool). number_of test options) (fun_ext (λ e. past_plain key version ballot e.0))

  -- none is finished that was not heard
  pub heard_plain : (tx : TxId) → is_finished facts tx ≡ true → is_heard facts tx ≡ true
  heard_plain tx finished = absurd (let never = finished_none facts h tx in cc)
