use Rattle.std.proofs.Common.{◌≡◌, ◌∙◌, List, Some, ap, fold, sym}
use Rattle.mdcc_audit.specs.Auditing.{nothing_taken}
use Rattle.mdcc_audit.specs.Contradictions.{AreInOrder, IsFirstPair, Saying}
use Rattle.mdcc_audit.specs.Firsts.{Pair, Said, nothing_said}
use Rattle.mdcc_audit.proofs.Alike.{say_one}
use Rattle.mdcc_audit.proofs.Earliest.{found-first}
use Rattle.mdcc_audit.proofs.Spoken.{all-choices, all-marks, all-outcomes}
use Rattle.mdcc_audit.proofs.laws.pairs_are_first.Goals as goal

at_end : (said : Said) (sayings : List Saying) (pair : Pair) → said ≡ fold say_one nothing_said sayings → AreInOrder sayings → said.found ≡ Some pair → IsFirstPair sayings pair
at_end said sayings pair is order at = found-first sayings pair order (ap (λ (s : Said). s.found) (sym is) ∙ at)

pub returns : goal.returns
returns c quorums facts pair =
    (at_end _ _ pair (all-outcomes quorums nothing_taken facts), at_end _ _ pair (all-marks quorums nothing_taken facts), at_end _ _ pair (all-choices quorums nothing_taken facts))
