-- `sheetout::put_numbers` meets its contract. The invariant: the first numbers are laid. Assumes nothing.
use mathlib.Core.List.{flat_map}
use mathlib.Core.Path.{◌≡◌}
use lib.ListN.{length, take}
use Rattle.report.specs.Room.{Lays}
use Rattle.sheetout.specs.Pieces.{number_text}
use Rattle.sheetout.proofs.put_numbers.Given as goal

abbrev pub invariant-loop-x : goal.invariant-loop-x
invariant-loop-x l = (length l.out ≡ length l.initial.out) × Lays l.at (flat_map number_text (take l.x-index l.numbers)) l.initial.out l.end l.out
