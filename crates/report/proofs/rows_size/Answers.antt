use mathlib.Core.Path.{ap, ◌∙◌, sym}
use native.Mathlib.Omega.{arith}
use lib.ListN.{length, length-append}
use Rattle.report.specs.Pieces.{piece, pieces}
use Rattle.report.proofs.Lines.{flat_map_none, next_row}
use Rattle.report.proofs.rows_size.Goals as goal

pub loop-row-init : goal.loop-row-init
loop-row-init c = (sym (ap length (flat_map_none (piece c.args.idle c.args.rows.now))), omega arith)

pub loop-row-preserved : goal.loop-row-preserved
loop-row-preserved c =
    let a = c.args in (
      sym (ap length (next_row (piece a.idle a.rows.now) c.loop-row.row) ∙ length-append (pieces a.idle a.rows.now c.loop-row.row) (piece a.idle a.rows.now c.loop-row.row) ∙ omega (arith, c.loop-row.invariant.0, c.row_size-size.ensures.0)),
      omega (arith, c.loop-row.invariant.1, c.row_size-size.ensures.1),
    )
