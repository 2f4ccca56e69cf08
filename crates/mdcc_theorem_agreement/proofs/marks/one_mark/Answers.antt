use Rattle.mdcc_theorem_agreement.proofs.LawsTold.{one_mark, mark_kept, mark_only, mark_found}
use Rattle.mdcc_theorem_agreement.proofs.marks.one_mark.Goals as goal
use Rattle.std.proofs.Common.{◌++◌, refl}

pub returns-clause-once : goal.returns-clause-once
returns-clause-once c = one_mark

pub returns-clause-kept : goal.returns-clause-kept
returns-clause-kept c cluster later earlier h key version k m tx x options g below sent unheard =
    mark_kept cluster (later ++ earlier) h key version k m tx x later earlier options refl g below sent unheard

pub returns-clause-no_other : goal.returns-clause-no_other
returns-clause-no_other c = mark_only

pub returns-clause-found : goal.returns-clause-found
returns-clause-found c = mark_found
