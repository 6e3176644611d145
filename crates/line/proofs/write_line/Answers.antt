-- `line::write_line` meets its contract: the fields that the table has as a frame are written (`Writable`).
use mathlib.Core.Path.{◌∙◌, sym}
use native.Mathlib.Omega.{arith}
use Rattle.line.proofs.Writable.{listed_line}
use Rattle.line.proofs.write_line.Goals as goal

pub returns : goal.returns
returns g c =
    listed_line g.F.Family.family c.args.f c.fields-fields.ensures (omega arith) (omega arith) (omega arith) (omega arith)
    (sym c.framed.ensures ∙ c.in_ok-framed.was) c.chars_of.ensures
