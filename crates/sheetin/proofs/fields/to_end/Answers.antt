use Rattle.std.proofs.Common.{rules}
use Rattle.sheet.specs.Grammar.{ends_bare}
use Rattle.sheetin.proofs.Scan.{FirstPicked, picked}
use Rattle.sheetin.proofs.fields.to_end.Goals as goal

pub returns : goal.returns
returns c =
    let f : FirstPicked ends_bare c.args.s.now c.position.result = search rules in
    picked ends_bare c.args.s.now c.position.result f c.unwrap_or.ensures
