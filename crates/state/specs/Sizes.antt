-- What the types say of every state that there is: its numbers fit.
use Rattle.std.specs.Prelude.{◌^◌, ◌<◌, ◌≡◌, length}
use Rattle.word.specs.Bounds.{AllBelow}
use Rattle.state.specs.declared.State.{State}

pub record Fits (s : State) : Type 0 where
  pub pc_fits : s.pc < 2 ^ 32
  pub x_length : length s.x ≡ 31
  pub x_fits : AllBelow (2 ^ 32) s.x
  pub count_fits : s.count < 2 ^ 64
  pub stop_fits : s.stop < 2 ^ 8
  pub address_fits : s.address < 2 ^ 32
