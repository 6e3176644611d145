use mathlib.Core.Path.{refl, ◌∙◌, sym}
use native.Mathlib.Nat.{div-one}
use native.Mathlib.Omega.{arith}
use lib.Count.{count_trailing_zeros}
use Rattle.tables.proofs.Bits.{within, falls, farther}
use Rattle.tables.proofs.Loops.{cleared-none}
use Rattle.tables.proofs.Walks.{clear-on, clear-done}
use Rattle.tables.proofs.clear_fours.Goals as goal

pub loop-left-init : goal.loop-left-init
loop-left-init c =
    (sym (div-one c.args.word), refl, cleared-none c.args.a c.args.w c.args.t.now 0)

pub clear_next-requires : goal.clear_next-requires
clear_next-requires c =
    let here = within c.args.word c.loop-left.c c.loop-left.left c.loop-left.invariant.0 (omega (arith, c.ranges.word)) c.loop-left-test.true in
    (omega (arith, c.loop-left.invariant.1, c.requires.0), omega (arith, here))

pub loop-left-smaller : goal.loop-left-smaller
loop-left-smaller c =
    falls c.args.word c.loop-left.c c.loop-left.left c.loop-left.invariant.0 (count_trailing_zeros 64 c.loop-left.left) c.loop-left-test.true

pub loop-left-preserved : goal.loop-left-preserved
loop-left-preserved c = (
  farther c.args.word c.loop-left.c c.loop-left.left c.loop-left.invariant.0 (count_trailing_zeros 64 c.loop-left.left),
  c.clear_next.auto.t ∙ c.loop-left.invariant.1,
  clear-on c.args.word c.loop-left.c c.loop-left.left c.loop-left.invariant.0 c.requires.1 c.loop-left.t c.loop-left.invariant.2 c.clear_next.new.t c.clear_next.ensures,
)

pub returns : goal.returns
returns c =
    clear-done c.args.word c.loop-left.c c.loop-left.left c.loop-left.invariant.0 c.requires.1 c.loop-left.t c.loop-left.invariant.2 (omega arith)
