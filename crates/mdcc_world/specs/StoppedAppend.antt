-- What a stop in an append, or in the checkpoint behind it, leaves.
use Rattle.std.specs.Prelude.{◌≡◌, ◌⊎◌, ◌∷◌, [], List, None, Option, if◌then◌else◌, ℕ}
use Rattle.mdcc_base.specs.Sizes.{Sizes}
use Rattle.mdcc_base.specs.declared.outside.Image.{Image}
use Rattle.mdcc_def_language.specs.declared.lines.Line.{Line}
use Rattle.mdcc_def_ledger.specs.Ledger.{Added, Entry}
use Rattle.mdcc_def_messages.specs.declared.facts.Fact.{Fact}
use Rattle.mdcc_def_simulation.specs.State.{World}
use Rattle.mdcc_def_simulation.specs.AppliedSteps.{chosen_lines}
use Rattle.mdcc_def_simulation.specs.Checkpoints.{is_frame_kept, striking_at}

-- a step is taken whole where it has no fact, and where no stop strikes
abbrev pub IsWholeStep : World → ℕ → Option Fact → Type 0
IsWholeStep w a fact = (fact ≡ None) ⊎ (striking_at w a ≡ None)

-- the fact counts where its frame is in the image
abbrev pub kept_entries : ℕ → Fact → ℕ → Image → List Entry → List Entry
kept_entries a fact call image entries = if is_frame_kept call image then Added a fact ∷ entries else entries

abbrev pub kept_lines : Sizes → ℕ → Fact → ℕ → Image → List Entry → List Line
kept_lines quorums a fact call image entries = if is_frame_kept call image then chosen_lines quorums (Added a fact) entries else []
