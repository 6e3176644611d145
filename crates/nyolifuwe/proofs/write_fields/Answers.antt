-- `nyolifuwe::write_fields` meets its contract: a frame that five numbers are is writable. Assumes nothing.
use Prim.Native.Nat.{ℕ}
use mathlib.Core.List.{List}
use mathlib.Core.Path.{◌≡◌, ◌∙◌, ap, sym, subst}
use lib.ListN.{length}
use Rattle.line.specs.declared.Fields.{Fields}
use Rattle.std.proofs.Common.{rules}
use Rattle.std.specs.Prelude.{Err, is_ok}
use Rattle.report.specs.Room.{Decision, Writes}
use Rattle.nyolifuwe.proofs.Decided.{unwritten, line-written, written-line}
use Rattle.nyolifuwe.proofs.write_fields.Goals as goal

pub returns-in_err-read : goal.returns-in_err-read
returns-in_err-read g c =
    let a = c.args in
    let x : Fields = record { kind = a.kind; site = a.site; value = a.value; file = a.file; column = a.column } in
    let e : c.from_residual.result ≡ Err c.in_err-read.field-0.0 = search rules in
    rw e (unwritten g.F.Family.family x a.out.now c.in_err-read.field-0.0 (sym c.frame_of.ensures ∙ c.in_err-read.was))

pub unwrap-chars-requires : goal.unwrap-chars-requires
unwrap-chars-requires g c =
    let a = c.args in
    let x : Fields = record { kind = a.kind; site = a.site; value = a.value; file = a.file; column = a.column } in
    ap is_ok c.write_line.ensures ∙ line-written g.F.Family.family x c.in_ok-read.read (sym c.frame_of.ensures ∙ c.in_ok-read.was)

pub returns : goal.returns
returns g c =
    let a = c.args in
    let x : Fields = record { kind = a.kind; site = a.site; value = a.value; file = a.file; column = a.column } in
    subst (λ (d : Decision). Writes d c.put_text.result a.out.now c.put_text.new.out)
    (written-line g.F.Family.family x c.in_ok-read.read (sym c.frame_of.ensures ∙ c.in_ok-read.was) (length a.out.now) _ (sym c.write_line.ensures ∙ c.unwrap-chars.ensures))
    c.put_text.ensures
