-- Counts that are summed entry by entry, and never pass their caps.
use Rattle.std.specs.Prelude.{not, ℕ}
use Rattle.mdcc_base.specs.declared.identifiers.TxId.{TxId}
use Rattle.mdcc_option.specs.declared.choices.Mark.{Mark}
use Rattle.mdcc_def_protocol.specs.Marks.{is_accept}
pub use Rattle.mdcc_escrow.specs.Weights.{counted}

-- how many accept and how many reject, with one more mark
abbrev pub with_mark : ℕ × ℕ → TxId × Mark → ℕ × ℕ
with_mark counts e = (counted (is_accept e.1) counts.0, counted (not (is_accept e.1)) counts.1)
