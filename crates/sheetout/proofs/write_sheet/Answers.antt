-- `sheetout::write_sheet` meets its contract: its input, the size, the room, and only then the text. Assumes nothing.
use Prim.Native.Nat.{ℕ, ◌+◌, ◌≤◌, ◌<◌}
use mathlib.Core.List.{◌++◌}
use mathlib.Core.Path.{◌≡◌, ap, ◌∙◌}
use native.Mathlib.Omega.{arith}
use lib.ListN.{length, drop}
use Rattle.report.proofs.Decisions.{refused, written, fitting_short, fitting-text}
use Rattle.sheet.specs.Text.{sheet_text}
use Rattle.sheet.proofs.Decisions.{writing-fitting}
use Rattle.sheetout.proofs.Counting.{header_size, header-length, text-length, text-laid}
use Rattle.sheetout.proofs.write_sheet.Goals as goal

pub returns-then-out-size : goal.returns-then-out-size
returns-then-out-size c =
    let a = c.args in
    let s = sheet_text a.rows.now a.count in
    let room = length a.out.now in
    let short : room < length s = omega (arith, header-length, text-length a.rows.now a.count, c.records_size.ensures.0, c.if-out-size.true) in
    rw c.refused-then-out-size.ensures
    (refused 16 0 a.out.now
    (writing-fitting a.rows.now a.count room c.if-count-gt255.false c.if-rows-n.false
    ∙ fitting_short 16 s room short))

pub put_header-at-requires : goal.put_header-at-requires
put_header-at-requires c = omega (arith, header-length, c.if-out-size.false)

pub put_records-requires : goal.put_records-requires
put_records-requires c =
    (c.if-rows-n.false, omega (arith, c.records_size.ensures.0, header-length, c.put_header-at.ensures.ends, c.if-out-size.false, c.put_header-at.auto.out))

pub returns : goal.returns
returns c =
    let a = c.args in
    let rows = a.rows.now in
    let s = sheet_text rows a.count in
    let room = length a.out.now in
    let size : length s ≡ header_size + c.records_size.result = omega (arith, header-length, text-length rows a.count, c.records_size.ensures.0) in
    let fits : length s ≤ room = omega (arith, size, c.if-out-size.false) in
    let decided = writing-fitting rows a.count room c.if-count-gt255.false c.if-rows-n.false ∙ fitting-text 16 s room fits in
    written s a.out.now _ _ decided size
    (text-laid rows a.count a.out.now fits
    c.put_header-at.ensures c.put_records.ensures
    ∙ ap (λ (k : ℕ). s ++ drop k a.out.now) size)
