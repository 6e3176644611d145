-- `program::print` meets its contract: each branch prints the verdict. Assumes nothing.
use Rattle.std.proofs.Common.{rules}
use Rattle.program.proofs.Printing.{too_large, report-asks, report-prints, refusal-asks, refusal-prints}
use Rattle.program.proofs.print.Goals as goal

pub returns-then-input-gt-MOST : goal.returns-then-input-gt-MOST
returns-then-input-gt-MOST c = too_large c.if-input-gt-MOST.true c.print_refusal.ensures

pub print_report-requires : goal.print_report-requires
print_report-requires c =
    let a = report-asks c.args.input.now c.profile.ensures c.if-input-gt-MOST.false (search rules) (search rules) c.in-Ok.is in
    (a.0, (a.1, search rules))

pub print_refusal-requires-in-Err : goal.print_refusal-requires-in-Err
print_refusal-requires-in-Err c = (refusal-asks c.args.input.now c.profile.ensures c.if-input-gt-MOST.false (search rules) (search rules) c.in-Err.is, search rules)

pub returns-in-Ok : goal.returns-in-Ok
returns-in-Ok c = report-prints c.args.input.now c.profile.ensures c.if-input-gt-MOST.false (search rules) (search rules) c.in-Ok.is c.print_report.ensures

pub returns-in-Err : goal.returns-in-Err
returns-in-Err c = refusal-prints c.args.input.now c.profile.ensures c.if-input-gt-MOST.false (search rules) (search rules) c.in-Err.is c.print_refusal-in-Err.ensures
