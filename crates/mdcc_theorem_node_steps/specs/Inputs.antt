-- Which inputs of a node are well-formed.
use Rattle.std.specs.Int.{IsInRange}
use Rattle.std.specs.List.{AllByRecursion}
use Rattle.std.specs.Prelude.{IsTrue, List, length, ⊤}
use Rattle.mdcc_base.specs.Key.{IsKey}
use Rattle.mdcc_option.specs.Parts.{are_parts_ascending}
use Rattle.mdcc_option.specs.declared.items.Part.{Part}
use Rattle.mdcc_def_messages.specs.WellFormed.{IsWellFormedEnvelope}
use Rattle.mdcc_def_messages.specs.WellFormedParts.{IsWellFormedPart}
use Rattle.mdcc_def_rules.specs.declared.node.Input.{Input}

-- 1 to 8 parts, ascending by key
pub record AreWellFormedParts (parts : List Part) : Type 0 where
  pub count : IsInRange 1 8 (length parts)
  pub each : AllByRecursion IsWellFormedPart parts
  pub ascending : IsTrue (are_parts_ascending parts)

-- a message, a key or parts are well-formed
abbrev pub IsWellFormedInput : Input → Type 0
IsWellFormedInput (Input.Message envelope) = IsWellFormedEnvelope envelope
IsWellFormedInput Input.Tick = ⊤
IsWellFormedInput Input.Sweep = ⊤
IsWellFormedInput (Input.Read key) = IsKey key
IsWellFormedInput (Input.Begin parts) = AreWellFormedParts parts
