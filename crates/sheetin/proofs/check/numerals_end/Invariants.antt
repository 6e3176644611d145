-- `sheetin::check::numerals_end` meets its contract. The invariant: the numbers so far are there. Assumes nothing.
use Rattle.std.proofs.Common.{◌≡◌, ◌-◌}
use Rattle.trace.specs.Rows.{columns}
use Rattle.sheet.specs.Grammar.{next_numerals}
use Rattle.sheetin.specs.Seen.{there}
use Rattle.sheetin.proofs.check.numerals_end.Given as goal

abbrev pub invariant-loop : goal.invariant-loop
invariant-loop l = there (next_numerals (columns - l.counter) l.rest) ≡ there (next_numerals columns l.s)
