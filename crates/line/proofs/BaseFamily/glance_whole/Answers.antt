-- `line::Base::glance_whole` meets its contract: for each kind, what is seen is what reading the line gives (`Seeing`).
use mathlib.Core.Path.{◌≡◌, ◌∙◌}
use native.Mathlib.Omega.{arith}
use Rattle.std.specs.Bool.{then_some}
use Rattle.digits.specs.Word.{plainly}
use Rattle.line.specs.Family.{Base}
use Rattle.line.specs.declared.Frame.TheVariants.{Call, Spawn, Sync, Return, Cost, Instructions}
use Rattle.line.specs.Read.{part}
use Rattle.line.specs.Seeing.{is_bare, is_made, is_valued}
use Rattle.line.proofs.Seeing.{see_cost, see_return, see_sync, see_spawn, see_call, see_instructions, see_other}
use Rattle.line.proofs.BaseFamily.glance_whole.Goals as goal

pub returns-in-54 : goal.returns-in-54
returns-in-54 c n =
    let e : c.then_some.result ≡ then_some (is_valued c.args.s.now) (Cost (plainly (part c.args.s.now 6 8))) = cc (c.then_some.ensures, c.value_of.ensures, c.valued.ensures) in
    e ∙ see_cost Base c.args.s.now n (omega arith) c.in-54.is

pub returns-in-53 : goal.returns-in-53
returns-in-53 c n =
    let e : c.then_some-in-53.result ≡ then_some (is_bare 48 c.args.s.now) Return = cc (c.then_some-in-53.ensures, c.bare.ensures) in
    e ∙ see_return Base c.args.s.now n (omega arith) c.in-53.is

pub returns-in-52 : goal.returns-in-52
returns-in-52 c n =
    let e : c.then_some-in-52.result ≡ then_some (is_bare 48 c.args.s.now) Sync = cc (c.then_some-in-52.ensures, c.bare-in-52.ensures) in
    e ∙ see_sync c.args.s.now n (omega arith) c.in-52.is

pub returns-in-51 : goal.returns-in-51
returns-in-51 c n =
    let e : c.then_some-in-51.result ≡ then_some (is_made 48 c.args.s.now) (Spawn (plainly (part c.args.s.now 2 4))) = cc (c.then_some-in-51.ensures, c.site_of.ensures, c.made.ensures) in
    e ∙ see_spawn c.args.s.now n (omega arith) c.in-51.is

pub returns-in-50 : goal.returns-in-50
returns-in-50 c n =
    let e : c.then_some-in-50.result ≡ then_some (is_made 48 c.args.s.now) (Call (plainly (part c.args.s.now 2 4))) = cc (c.then_some-in-50.ensures, c.site_of-in-50.ensures, c.made-in-50.ensures) in
    e ∙ see_call c.args.s.now n (omega arith) c.in-50.is

pub returns-in-55 : goal.returns-in-55
returns-in-55 c n =
    let e : c.then_some-in-55.result ≡ then_some (is_valued c.args.s.now) (Instructions (plainly (part c.args.s.now 6 8))) = cc (c.then_some-in-55.ensures, c.value_of-in-55.ensures, c.valued-in-55.ensures) in
    e ∙ see_instructions Base c.args.s.now n (omega arith) c.in-55.is

pub returns-in_default : goal.returns-in_default
returns-in_default c n =
    let r = c.in_default.in_default-own.rest in
    see_other c.args.s.now n (omega arith) r.0.0.0.0.0.1 r.0.0.0.0.1 r.0.0.0.1 r.0.0.1 r.0.1 r.1
