-- `program::print_refusal` meets its contract: the writer decides to write. Assumes nothing.
use lib.ListN.{length}
use Rattle.std.proofs.Common.{rules}
use Rattle.report.proofs.Decisions.{print_text}
use Rattle.program.proofs.Printing.{puts, puts-ok}
use Rattle.program.proofs.print_refusal.Goals as goal

pub unwrap-requires : goal.unwrap-requires
unwrap-requires c =
    let a = c.args in
    puts-ok (print_text a.number a.line (length a.out.now) (search rules) (search rules) (search rules)) c.write_refusal.ensures

pub returns : goal.returns
returns c =
    let a = c.args in
    puts (print_text a.number a.line (length a.out.now) (search rules) (search rules) (search rules)) c.write_refusal.ensures c.unwrap.ensures
