-- `line::read_whole` meets its contract: the five numerals are those of the line's parts (`Numerals`). Assumes nothing.
use Rattle.std.proofs.Common.{Some, sym, ◌∙◌, ne_eqb}
use native.Mathlib.Omega.{arith}
use Rattle.line.proofs.Lines.{Numerals, wrong-line, good_line, site-below, file-below, column-below}
use Rattle.line.proofs.read_whole.Goals as goal
use Rattle.line.proofs.read_whole.Given.{Over}
use Rattle.line.proofs.read_whole.Goals.{After-number-column, In-Some-Some-Some-Some-Some-eq10}

numerals : (g : Over) (c : After-number-column g) → Numerals c.args.s.now c.number-kind.result c.number-site.result c.number-value.result c.number-file.result c.number-column.result
numerals g c =
    record {
      long = omega arith;
      kind_is = c.number-kind.ensures;
      site_is = c.number-site.ensures;
      value_is = c.number-value.ensures;
      file_is = c.number-file.ensures;
      column_is = c.number-column.ensures;
    }

-- where all five are there
fives : (g : Over) (c : In-Some-Some-Some-Some-Some-eq10 g) → (let w = c.in-Some-Some-Some-Some-Some-eq10 in Numerals c.args.s.now (Some w.kind) (Some w.site) (Some w.value) (Some w.file) (Some w.column))
fives g c =
    let w = c.in-Some-Some-Some-Some-Some-eq10 in
    record {
      long = omega arith;
      kind_is = sym w.is-0 ∙ c.number-kind.ensures;
      site_is = sym w.is-1 ∙ c.number-site.ensures;
      value_is = sym w.is-2 ∙ c.number-value.ensures;
      file_is = sym w.is-3 ∙ c.number-file.ensures;
      column_is = sym w.is-4 ∙ c.number-column.ensures;
    }

pub overflow_cast-fields : goal.overflow_cast-fields
overflow_cast-fields g c = record { fits = site-below (fives g (goal.at.overflow_cast-fields g c).In-Some-Some-Some-Some-Some-eq10) }

pub overflow_cast-fields-in-Some-Some-Some-Some-Some-eq10 : goal.overflow_cast-fields-in-Some-Some-Some-Some-Some-eq10
overflow_cast-fields-in-Some-Some-Some-Some-Some-eq10 g c = record { fits = file-below (fives g (goal.at.overflow_cast-fields-in-Some-Some-Some-Some-Some-eq10 g c).In-Some-Some-Some-Some-Some-eq10) }

pub overflow_cast-fields-in-Some-Some-Some-Some-Some-eq10-2 : goal.overflow_cast-fields-in-Some-Some-Some-Some-Some-eq10-2
overflow_cast-fields-in-Some-Some-Some-Some-Some-eq10-2 g c = record { fits = column-below (fives g (goal.at.overflow_cast-fields-in-Some-Some-Some-Some-Some-eq10-2 g c).In-Some-Some-Some-Some-Some-eq10) }

pub returns-in-Some-Some-Some-Some-Some-eq10 : goal.returns-in-Some-Some-Some-Some-Some-eq10
returns-in-Some-Some-Some-Some-Some-eq10 g c =
    good_line (fives g (goal.at.returns-in-Some-Some-Some-Some-Some-eq10 g c).In-Some-Some-Some-Some-Some-eq10) g.F.Family.family _ c.in-Some-Some-Some-Some-Some-eq10.is-5 c.framed.ensures

pub returns-in_default : goal.returns-in_default
returns-in_default g c =
    wrong-line (numerals g (goal.at.returns-in_default g c).After-number-column) g.F.Family.family _
    (simp (c.in_default.is-0, c.in_default.is-1, c.in_default.is-2, c.in_default.is-3, c.in_default.is-4) (ne_eqb _ 10 c.in_default.is-5.1))

pub returns-in_default-2 : goal.returns-in_default-2
returns-in_default-2 g c = wrong-line (numerals g (goal.at.returns-in_default-2 g c).After-number-column) g.F.Family.family _ (simp (c.in_default.is-0, c.in_default.is-1, c.in_default.is-2, c.in_default.is-3, c.in_default.is-4))

pub returns-in_default-3 : goal.returns-in_default-3
returns-in_default-3 g c = wrong-line (numerals g (goal.at.returns-in_default-3 g c).After-number-column) g.F.Family.family _ (simp (c.in_default.is-0, c.in_default.is-1, c.in_default.is-2, c.in_default.is-3))

pub returns-in_default-4 : goal.returns-in_default-4
returns-in_default-4 g c = wrong-line (numerals g (goal.at.returns-in_default-4 g c).After-number-column) g.F.Family.family _ (simp (c.in_default.is-0, c.in_default.is-1, c.in_default.is-2))

pub returns-in_default-5 : goal.returns-in_default-5
returns-in_default-5 g c = wrong-line (numerals g (goal.at.returns-in_default-5 g c).After-number-column) g.F.Family.family _ (simp (c.in_default.is-0, c.in_default.is-1))

pub returns-in_default-6 : goal.returns-in_default-6
returns-in_default-6 g c = wrong-line (numerals g (goal.at.returns-in_default-6 g c).After-number-column) g.F.Family.family _ (simp (c.in_default.is-0))
