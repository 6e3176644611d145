-- `folded::measure::take_line` meets its contract, kind by kind. Assumes nothing.
use Rattle.std.proofs.Common.{ap, ◌+◌, ℕ, rules, arith}
use Rattle.digits.proofs.Figures.{decimal-length, decimal-few}
use Rattle.folded.proofs.Measuring.{top, cost-left, return_left, passed-left, made-known, made-room, made-left}
use Rattle.folded.proofs.measure.take_line.Goals as goal

pub overflow_add-size : goal.overflow_add-size
overflow_add-size c = omega (arith, c.size-size.ensures, decimal-length c.cost_at.result, decimal-few c.cost_at.result (search rules))

pub overflow_sub-whole : goal.overflow_sub-whole
overflow_sub-whole c = omega (arith, top c.requires)

pub returns-in-6 : goal.returns-in-6
returns-in-6 c = λ q. cost-left q c.kind_at.result c.kind_at.ensures c.in-6.is c.cost_at.result _ c.cost_at.ensures (ap (λ (k : ℕ). 2 + k) c.size-size.ensures) c.print.result c.print.ensures

pub returns-in-5 : goal.returns-in-5
returns-in-5 c = λ q. return_left q c.kind_at.result c.kind_at.ensures c.in-5.is

pub bounds-names-site_at : goal.bounds-names-site_at
bounds-names-site_at c = (made-known c.requires c.kind_at.result c.kind_at.ensures (omega arith) (omega arith) c.site_at.result c.site_at.ensures).inside

pub bounds-t-depth-in-2-2 : goal.bounds-t-depth-in-2-2
bounds-t-depth-in-2-2 c = made-room c.requires c.kind_at.result c.kind_at.ensures (omega arith) (omega arith) c.site_at.result c.site_at.ensures

pub returns-in-2 : goal.returns-in-2
returns-in-2 c = λ q. made-left q c.kind_at.result c.kind_at.ensures (omega arith) (omega arith) c.site_at.result c.site_at.ensures c.saturating_sub-in-2.result c.saturating_sub.result _ c.saturating_sub.ensures c.saturating_sub-in-2.ensures

pub returns-in_default : goal.returns-in_default
returns-in_default c = λ q. passed-left q c.kind_at.result c.kind_at.ensures (λ e. omega arith) (λ e. omega arith) (λ e. omega arith) (λ e. omega arith)

pub returns-in_default-2 : goal.returns-in_default-2
returns-in_default-2 c = λ q. passed-left q c.kind_at.result c.kind_at.ensures (λ e. omega arith) (λ e. omega arith) (λ e. omega arith) (λ e. omega arith)
