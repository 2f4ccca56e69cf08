use Rattle.mdcc_struct.proofs.Inclusion.{extends-refl, extends-trans, same_marks}
use Rattle.mdcc_struct.proofs.laws.inclusion_is_an_order.Goals as goal

pub returns-clause-reflexive : goal.returns-clause-reflexive
returns-clause-reflexive c = extends-refl

pub returns-clause-transitive : goal.returns-clause-transitive
returns-clause-transitive c = extends-trans

pub returns-clause-antisymmetric : goal.returns-clause-antisymmetric
returns-clause-antisymmetric c = same_marks
