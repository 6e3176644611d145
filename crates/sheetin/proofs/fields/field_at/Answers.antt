-- `sheetin::fields::field_at` meets its contract. Assumes nothing.
use Rattle.std.proofs.Common.{◌-◌, Some, None, length, take, drop, ap, ◌∙◌, arith, rules, ltb-true}
use Rattle.sheet.specs.Grammar.{ends_quoted}
use Rattle.sheetin.specs.Seen.{parted}
use Rattle.sheetin.proofs.Scan.{FirstPicked}
use Rattle.sheetin.proofs.Front.{field-quoted, field-unclosed, field-bare}
use Rattle.sheetin.proofs.fields.field_at.Goals as goal
use Rattle.sheetin.proofs.fields.field_at.Goals.{in_default-via-then-s-lt1, in_default-via-else-s-lt1+in_default-1}

pub returns-in_err-n-in-34 : goal.returns-in_err-n-in-34
returns-in_err-n-in-34 c =
    let s = c.args.s.now in
    let f : FirstPicked ends_quoted (take (length s - 1) (drop 1 s)) None = search rules in
    ap parted c.from_residual.ensures ∙ field-unclosed s (omega arith) (omega arith) f

pub returns-in_ok-n-in-34 : goal.returns-in_ok-n-in-34
returns-in_ok-n-in-34 c =
    let s = c.args.s.now in
    let f : FirstPicked ends_quoted (take (length s - 1) (drop 1 s)) (Some c.in_ok-n-in-34.n) = search rules in
    field-quoted s c.in_ok-n-in-34.n (omega arith) (omega arith) f

pub returns-in_default : goal.returns-in_default
returns-in_default c =
    let e = c.to_end.ensures in
    field-bare c.args.s.now _ _ _
    (λ h e. elim c.in_default.branch [ in_default-via-then-s-lt1 w ↦ absurd (grind (arith, ltb-true)) | in_default-via-else-s-lt1+in_default-1 w ↦ absurd (omega arith) ])
    e.0 c.split_at.ensures.front c.split_at.ensures.back
