-- `nyolifuwe::tell` meets its contract: a case for each answer. Assumes nothing.
use mathlib.Core.Path.{refl, ap, sym}
use native.Mathlib.Omega.{arith}
use lib.Seq.{set_split}
use Rattle.nyolifuwe.specs.Inside.{line_of}
use Rattle.nyolifuwe.proofs.tell.Goals as goal

pub code-requires : goal.code-requires
code-requires c = omega (arith, sym (ap line_of c.in-Err.is))

pub returns-in-Ok : goal.returns-in-Ok
returns-in-Ok c = rw c.in-Ok.is (refl, set_split c.args.count.now 0 _ (omega arith))

pub returns-in-Err : goal.returns-in-Err
returns-in-Err c = rw c.in-Err.is (c.code.ensures, refl)
