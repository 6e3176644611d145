-- `sheetin::check::header_end` meets its contract. Assumes nothing.
use Rattle.std.proofs.Common.{ap, ◌∙◌}
use Rattle.sheetin.specs.Seen.{past}
use Rattle.sheetin.proofs.Head.{first-name, header_no, header_yes}
use Rattle.sheetin.proofs.check.header_end.Goals as goal

pub returns-in_err-name_at : goal.returns-in_err-name_at
returns-in_err-name_at c =
    ap past c.from_residual.ensures ∙ header_no c.args.s.now _ (c.split_at.ensures.front ∙ (first-name c.to_end.ensures.0).0) c.in_err-name_at.ensures

pub names_end-requires : goal.names_end-requires
names_end-requires c = c.split_at.ensures.back ∙ (first-name c.to_end.ensures.0).1

pub returns : goal.returns
returns c = c.names_end.ensures ∙ header_yes c.args.s.now _ (c.split_at.ensures.front ∙ (first-name c.to_end.ensures.0).0) c.in_ok-name_at.ensures
