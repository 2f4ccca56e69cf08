use Rattle.mdcc_cells_vote_walk.proofs.StepsFolded.{ballot-walked, choice-walked, count-walked, least-walked, mark-walked, vote-walked}
use Rattle.mdcc_cells_vote_walk.proofs.walks.steps_are_folds.Goals as goal

pub returns : goal.returns
returns c = record {
  ballot = ballot-walked;
  vote = vote-walked;
  mark = mark-walked;
  choice = choice-walked;
  least = least-walked;
  count = count-walked;
}
