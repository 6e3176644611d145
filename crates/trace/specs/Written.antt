-- Lines written out as a text.
use Rattle.std.specs.Prelude.{ℕ, List, [], ◌∷◌, ◌++◌}
use Rattle.line.specs.declared.Frame.{Frame}
use Rattle.line.specs.Write.{write_chars}

-- the line writer's characters of each line, one line behind the other
abbrev pub text_of : List Frame → List ℕ
text_of [] = []
text_of (f ∷ t) = write_chars f ++ text_of t
