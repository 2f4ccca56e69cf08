-- What is known of the output of a command.
use Rattle.std.proofs.Common.{◌≡◌, IfSome, List, None, Option, Some, ℕ, subst}
use Rattle.mdcc_command_replay.specs.Samples.{sample_of}
use Rattle.mdcc_def_simulation.specs.Replay.{Output, output_of, replay_of}
use Rattle.mdcc_command.specs.Commands.{output_for}
use Rattle.mdcc_command_words.specs.declared.words.Command.{Command}
use Rattle.mdcc_command_words.specs.declared.words.Command.TheVariants.{Replay, Sample}

of_replay : (left : Option (List ℕ)) (P : Output → Type 0) → IfSome left (λ input. P (output_of (replay_of input))) → IfSome (output_for (Some Replay) left) P
of_replay None P h = tt
of_replay (Some input) P h = h

pub known_replay : (command : Option Command) (left : Option (List ℕ)) (P : Output → Type 0) → Some Replay ≡ command → IfSome left (λ input. P (output_of (replay_of input))) → IfSome (output_for command left) P
known_replay command left P e h = subst (λ (c : Option Command). IfSome (output_for c left) P) e (of_replay left P h)

pub known_sample : (command : Option Command) (left : Option (List ℕ)) (P : Output → Type 0) (seed items orders : ℕ) → Some (Sample seed items orders) ≡ command → P (output_of (sample_of seed items orders)) → IfSome (output_for command left) P
known_sample command left P seed items orders e h = subst (λ (c : Option Command). IfSome (output_for c left) P) e h

pub known_none : (command : Option Command) (left : Option (List ℕ)) (P : Output → Type 0) → None ≡ command → IfSome (output_for command left) P
known_none command left P e = subst (λ (c : Option Command). IfSome (output_for c left) P) e tt
