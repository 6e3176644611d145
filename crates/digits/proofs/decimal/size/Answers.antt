-- `digits::decimal::size` meets its contract. Assumes nothing.
use Rattle.std.proofs.Common.{◌≡◌, ◌+◌, MatchOption, rules}
use Rattle.digits.proofs.FiguresWritten.{size-is}
use Rattle.digits.proofs.decimal.size.Goals as goal

pub returns : goal.returns
returns c =
    let l = c.checked_ilog10.ensures in
    let e : MatchOption c.checked_ilog10.result (c.map_or.result ≡ 1) (λ k. c.map_or.result ≡ k + 1) = search rules in
    size-is c.args.x c.checked_ilog10.result l.none l.power_le l.next_power_gt l.bound e
