use mathlib.Core.Path.{refl, ◌∙◌, sym}
use Prim.Native.Nat.{◌*◌}
use native.Mathlib.Nat.{div-one}
use native.Mathlib.Omega.{arith}
use lib.Count.{count_trailing_zeros}
use Rattle.tables.proofs.Bits.{within, falls, farther}
use Rattle.tables.proofs.Loops.{apart_in, taken_none, sums-fit}
use Rattle.tables.proofs.Walks.{take_on, take_done}
use Rattle.tables.proofs.take_fours.Goals as goal

pub loop-left-init : goal.loop-left-init
loop-left-init c =
    (sym (div-one c.args.word), refl, taken_none c.requires.apart.0 0)

pub take_next-requires : goal.take_next-requires
take_next-requires c =
    let here = within c.args.word c.loop-left.c c.loop-left.left c.loop-left.invariant.0 (omega (arith, c.ranges.word)) c.loop-left-test.true in
    record { apart = apart_in c.loop-left.t c.loop-left.invariant.1 c.requires.apart.0; sums_fit = sums-fit c.requires.apart.0 c.requires.sums_fit 0 (8 * c.loop-left.c) c.loop-left.t c.loop-left.invariant.2; from_bound = (omega (arith, here), (omega arith, c.requires.apart.1)) }

pub loop-left-smaller : goal.loop-left-smaller
loop-left-smaller c =
    falls c.args.word c.loop-left.c c.loop-left.left c.loop-left.invariant.0 (count_trailing_zeros 64 c.loop-left.left) c.loop-left-test.true

pub loop-left-preserved : goal.loop-left-preserved
loop-left-preserved c =
    let p = c.requires.idles in (
      farther c.args.word c.loop-left.c c.loop-left.left c.loop-left.invariant.0 (count_trailing_zeros 64 c.loop-left.left),
      c.take_next.auto.t ∙ c.loop-left.invariant.1,
      take_on c.args.word c.loop-left.c c.loop-left.left c.loop-left.invariant.0 c.requires.apart.0 p.0 p.1.0 p.1.1 c.loop-left.t c.loop-left.invariant.1 c.loop-left.invariant.2 c.take_next.new.t c.take_next.ensures,
    )

pub returns : goal.returns
returns c =
    let p = c.requires.idles in
    take_done c.args.word c.loop-left.c c.loop-left.left c.loop-left.invariant.0 c.requires.apart.0 p.0 p.1.0 p.1.1 c.loop-left.t c.loop-left.invariant.1 c.loop-left.invariant.2 (omega arith)
