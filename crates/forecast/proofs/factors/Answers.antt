use Rattle.std.proofs.Common.{◌-◌, arith}
use Rattle.forecast.proofs.Table.{table-start, table_back, table-passed}
use Rattle.forecast.proofs.factors.Goals as goal

pub loop-i-init : goal.loop-i-init
loop-i-init c = table-start c.args.entries.now

pub loop-i-preserved-then-entry-lt256 : goal.loop-i-preserved-then-entry-lt256
loop-i-preserved-then-entry-lt256 c =
    table_back c.args.entries.now (c.loop-i.i - 1) c.loop-i.i c.entry_at-entry.result c.loop-i.table (omega arith) (omega arith) (c.entry_at-entry.ensures c.entry_at-entry.result) c.loop-i.invariant c.if-entry-lt256.true

pub loop-i-preserved : goal.loop-i-preserved
loop-i-preserved c =
    table-passed c.args.entries.now (c.loop-i.i - 1) c.loop-i.i c.entry_at-entry.result c.loop-i.table (omega arith) (omega arith) (c.entry_at-entry.ensures c.entry_at-entry.result) c.loop-i.invariant c.if-entry-lt256.false
