pub mod Among
pub mod ChosenSums
pub mod ExecutedCommitted
pub mod HeldTold
pub mod RoomTold
pub mod SumsTold
