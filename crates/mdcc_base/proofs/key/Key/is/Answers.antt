use Rattle.mdcc_base.proofs.Keys.{key_eq-padded}
use Rattle.mdcc_base.proofs.key.Key.is.Goals as goal

pub returns-then-self-other : goal.returns-then-self-other
returns-then-self-other c =
    rw (← c.self.view_is, ← c.other.view_is)
    (key_eq-padded c.self.inside c.other.inside c.self.invariant c.other.invariant c.if-self-other.true c.same_bytes.result c.same_bytes.ensures)
