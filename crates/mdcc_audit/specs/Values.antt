-- What is said of a transaction or of one of its options.
use Rattle.std.specs.Prelude.{Bool, false, true}
use Rattle.mdcc_option.specs.Equality.{choices_eq, write_set_eq}
use Rattle.mdcc_audit.specs.declared.values.Value.{Value}

-- whether it is the same
abbrev pub value_eq : Value → Value → Bool
value_eq (Value.Choices a) (Value.Choices b) = choices_eq a b
value_eq (Value.Places a) (Value.Places b) = write_set_eq a b
value_eq Value.Refusal Value.Refusal = true
value_eq _ _ = false
