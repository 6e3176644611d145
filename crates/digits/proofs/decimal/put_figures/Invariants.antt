-- `digits::decimal::put_figures` meets its contract. The invariant: the figures still to be written of `rest`, before
-- what is written from `i` on, are the figures of `x`. Assumes nothing.
use Rattle.std.proofs.Common.{◌≡◌, ◌++◌, length, drop}
use Rattle.digits.specs.Decimal.{figures}
use Rattle.digits.proofs.decimal.put_figures.Given as goal

abbrev pub invariant-loop-i : goal.invariant-loop-i
invariant-loop-i l = (length l.part ≡ length l.initial.part) × (figures l.i l.rest ++ drop l.i l.part ≡ figures (length l.initial.part) l.x)
