-- What each open log keeps.
use Rattle.std.specs.Prelude.{◌^◌, ◌<◌, ◌≤◌, vec_capacity}
use Rattle.mdcc_log.specs.declared.frames.Frames.TheInside.{Inside}

pub record AreOpen (f : Inside) : Type 0 where
  pub centre_low : 1 ≤ f.centre
  pub centre_high : f.centre ≤ 9
  pub area : f.area ≤ 1
  pub every : 1 ≤ f.every
  pub room : 2097157 ≤ vec_capacity f.buffer
  pub start_low : 8 ≤ f.start
  pub start_copy : 0 < f.generation → 25 ≤ f.start
  pub order : f.start < f.size
  pub tail : f.tail ≤ f.count
  pub count : f.count ≤ f.size
  pub body : f.body ≤ f.size
  pub fits : f.size < 2 ^ 63
