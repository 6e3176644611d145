-- `admit::lines` meets its contract. The invariant: the tally and the keys are those of some lines before, and
-- what becomes of the rest is the verdict. The measure: the lines left.
use Prim.Native.Nat.{◌-◌}
use Rattle.trace.specs.Refusals.{line_count}
use Rattle.admit.proofs.Reach.{Reached}
use Rattle.admit.proofs.lines.Given as goal

abbrev pub invariant-loop-tally : goal.invariant-loop-tally
invariant-loop-tally g l = Reached g.F.Family.family l.depth l.sites l.trace l.places.keys l.tally

abbrev pub decreases-loop-tally : goal.decreases-loop-tally
decreases-loop-tally g l = line_count l.trace - l.tally.lines
