-- What the program writes.
use Rattle.std.specs.Prelude.{List, ◌≡◌, ℕ, ◌≤◌, length, take}
use Rattle.commands.specs.Entry.{over}
use Rattle.commands.specs.Register.{program}

-- The bytes stand at the front of the buffer, behind them it is as before, and their number is given.
pub record Put (bytes old new : List ℕ) (size : ℕ) : Type 0 where
  pub buffer_is : new ≡ over bytes old
  pub size_is : size ≡ length bytes

-- The first bytes of the buffer, as many as the size says, are what the program writes for this input.
pub record ProgramOutput (input buffer : List ℕ) (size : ℕ) : Type 0 where
  pub fits : size ≤ length buffer
  pub bytes_are : take size buffer ≡ program input
