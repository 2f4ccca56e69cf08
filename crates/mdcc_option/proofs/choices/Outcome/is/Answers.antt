use Rattle.std.proofs.lemmas.Bool.Decides.{same_from_decides}
use Rattle.mdcc_option.proofs.Equal.{Decides-outcome}
use Rattle.mdcc_option.proofs.choices.Outcome.is.Goals as goal

pub returns : goal.returns
returns c = same_from_decides _ _ c.same.ensures (Decides-outcome _ _)
