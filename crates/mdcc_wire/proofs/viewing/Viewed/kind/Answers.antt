use Rattle.mdcc_wire.proofs.viewing.Viewed.kind.Goals as goal

pub returns : goal.returns
returns c = rw (← c.self.view_is) c.kind_at.ensures
