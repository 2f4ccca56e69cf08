use Rattle.std.proofs.Common.{◌≡◌, ◌++◌, take, drop}
use Rattle.mdcc_option.specs.declared.items.Part.{Part}
use Rattle.mdcc_option.specs.Parts.{with_part}
use Rattle.mdcc_option.proofs.transaction.place_of.Given as goal

abbrev pub invariant-loop-place : goal.invariant-loop-place
invariant-loop-place l =
    (part : Part) → part.key ≡ l.key → with_part l.parts part ≡ take l.place l.parts ++ with_part (drop l.place l.parts) part
