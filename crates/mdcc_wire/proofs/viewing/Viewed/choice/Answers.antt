use Rattle.mdcc_wire.proofs.viewing.Viewed.choice.Goals as goal

pub returns : goal.returns
returns c = rw (← c.self.view_is) c.choice_of.ensures
