-- The room that a text is written into. Definitions only.
use Rattle.std.specs.Prelude.{ℕ}

-- The most bytes of what is printed for a file that is too long.
abbrev pub too_long_room : ℕ
too_long_room = 41
