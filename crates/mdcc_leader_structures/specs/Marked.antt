-- What marks claim.
use Rattle.std.specs.Prelude.{Option, Some, filter_map, option_map}
use Rattle.mdcc_option.specs.declared.choices.Choice.{Choice}
use Rattle.mdcc_struct.specs.Maps.{TxMap}
use Rattle.mdcc_struct.specs.declared.options.Options.{Options}
use Rattle.mdcc_def_protocol.specs.Marks.{choice_in}

-- the accepted choices, as claims
abbrev pub claims_of : Options → TxMap (Option Choice)
claims_of marks = filter_map (λ e. option_map (λ choice. (e.0, Some choice)) (choice_in e.1)) marks
