-- Both programs at once, as their helpers speak of them: what a program writes of the bytes of a file, and the room that its text needs.
-- Assumes nothing.
use Rattle.std.specs.Prelude.{ℕ, List}
use Rattle.programs.specs.Keep.{keep_output}
use Rattle.programs.specs.Weak.{weak_output}
use Rattle.programs.specs.declared.Program.{Program}
use Rattle.programs.specs.declared.Program.TheVariants.{Keep, Weak}

abbrev pub output_of : Program → List ℕ → List ℕ
output_of Keep bytes = keep_output bytes
output_of Weak bytes = weak_output bytes

abbrev pub room_of : Program → ℕ
room_of Keep = 524416
room_of Weak = 256
