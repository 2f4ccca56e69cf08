use Rattle.std.proofs.Common.{◌≡◌, ◌∙◌, List, None, ap, fold, sym}
use Rattle.mdcc_audit.specs.Auditing.{nothing_taken}
use Rattle.mdcc_audit.specs.Contradictions.{AreAlike, Saying}
use Rattle.mdcc_audit.specs.Firsts.{Said, nothing_said}
use Rattle.mdcc_audit.proofs.Alike.{found-none, say_one}
use Rattle.mdcc_audit.proofs.Spoken.{all-choices, all-marks, all-outcomes}
use Rattle.mdcc_audit.proofs.laws.pairs_are_contradictions.Goals as goal

at_end : (said : Said) (sayings : List Saying) → said ≡ fold say_one nothing_said sayings → (said.found ≡ None → AreAlike sayings) × (AreAlike sayings → said.found ≡ None)
at_end said sayings is =
    let h = found-none sayings in
    (λ none. h.0 (ap (λ (s : Said). s.found) (sym is) ∙ none), λ alike. ap (λ (s : Said). s.found) is ∙ h.1 alike)

pub returns : goal.returns
returns c quorums facts =
    (at_end _ _ (all-outcomes quorums nothing_taken facts), at_end _ _ (all-marks quorums nothing_taken facts), at_end _ _ (all-choices quorums nothing_taken facts))
