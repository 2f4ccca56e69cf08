-- A reader goes on by one entry.
use Rattle.std.proofs.Common.{◌≡◌, ◌-◌, ◌<◌, ℕ, zero, suc, List, Option, None, Some, false, ap, sym, ◌∙◌, arith, refl}
use Rattle.std.specs.Prelude.{is_some}
use Rattle.mdcc_base.specs.declared.identifiers.TxId.{TxId}
use Rattle.mdcc_base.specs.declared.key.Key.{Key}
use Rattle.mdcc_cells_delta_walk.specs.Entries.{DeltaEntry, added_as, after_entered, cons_entry, delta_entries_in, past_entry, tx_entered}
use Rattle.mdcc_cells_delta_walk.specs.declared.entries.Kind.{Kind}
use Rattle.mdcc_def_protocol.specs.Marks.{Amounts}

pub not-entered : (found : Option TxId) (added : Option Amounts) (taken passed : List DeltaEntry) → is_some found ≡ false → cons_entry found added taken passed ≡ passed
not-entered None added taken passed none = refl
not-entered (Some tx) added taken passed none = absurd (cc)

-- past an entry that brings no update
pub entries-pass : (kind : Kind) (key : Key) (version left : ℕ) (bytes : List ℕ) → 0 < left → is_some (tx_entered kind key version bytes) ≡ false
    → delta_entries_in kind key version left bytes ≡ delta_entries_in kind key version (left - 1) (after_entered kind key version bytes)
entries-pass kind key version zero bytes some none = absurd (omega arith)
entries-pass kind key version (suc count) bytes some none =
    let one : suc count - 1 ≡ count = omega arith in
    not-entered (tx_entered kind key version bytes) (added_as kind (after_entered kind key version bytes))
    (delta_entries_in kind key version count (past_entry kind (after_entered kind key version bytes)))
    (delta_entries_in kind key version count (after_entered kind key version bytes)) none
    ∙ ap (λ n. delta_entries_in kind key version n (after_entered kind key version bytes)) (sym one)
