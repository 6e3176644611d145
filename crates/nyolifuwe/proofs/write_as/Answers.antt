-- `nyolifuwe::write_as` meets its contract: with room for a line and its count, what is decided is told. Assumes nothing.
use native.Mathlib.Omega.{arith}
use lib.ListN.{length}
use mathlib.Core.Path.{sym}
use Rattle.nyolifuwe.specs.Lines.{fields_in}
use Rattle.nyolifuwe.specs.Inside.{written_by}
use Rattle.nyolifuwe.proofs.Decided.{tells, written-so}
use Rattle.nyolifuwe.proofs.write_as.Goals as goal

pub returns : goal.returns
returns g c =
    let a = c.args in
    let f = g.F.Family.family in
    let room = length a.out.now in
    rw (sym (written-so f a.frame.now room (length a.written.now) (omega arith) c.if-out-lt-LINE.false c.if-written-lt1.false))
    (tells (written_by f (fields_in a.frame.now) room) c.write_fields.ensures c.tell.ensures.0 c.tell.ensures.1)
