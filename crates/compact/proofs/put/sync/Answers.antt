-- `compact::put::sync` meets its contract. Assumes nothing.
use mathlib.Core.Path.{refl}
use lib.ListN.{length}
use Rattle.line.specs.declared.Frame.TheVariants.{Sync}
use Rattle.line.specs.Write.{write_chars}
use Rattle.compact.proofs.Passes.{not_going, goes_fits, goes_laid}
use Rattle.compact.proofs.put.sync.Goals as goal

pub returns-then-not-goes : goal.returns-then-not-goes
returns-then-not-goes c = let a = c.args in not_going a.goes (write_chars Sync) c.if-not-goes.true a.at a.out.now

pub frame-requires : goal.frame-requires
frame-requires c = let a = c.args in (refl, goes_fits a.goes (write_chars Sync) c.if-not-goes.false a.at (length a.out.now) c.requires)

pub returns : goal.returns
returns c = goes_laid c.args.goes (write_chars Sync) c.if-not-goes.false c.frame.ensures
