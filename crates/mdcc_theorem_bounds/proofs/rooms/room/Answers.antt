use Rattle.mdcc_theorem_bounds.proofs.RoomTold.{room_sent}
use Rattle.mdcc_theorem_bounds.proofs.rooms.room.Goals as goal

pub returns : goal.returns
returns c = room_sent
