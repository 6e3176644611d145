-- The loop that moves a table to columns 5 and 7, i of m rows done.
use mathlib.Core.Path.{◌≡◌, refl, ◌∙◌}
use mathlib.Core.List.{List}
use Prim.Native.Nat.{ℕ, ◌+◌, ◌*◌, ◌≤◌, ◌<◌}
use native.Mathlib.Decide.{dec_lt}
use native.Mathlib.Omega.{arith}
use lib.ListN.{length, get_or, set, length-set}
use lib.Seq.{get_or-set_same, get_or-set_other}
use Rattle.trace.specs.Rows.{columns}
use Rattle.trace.specs.Column.{Column, slot}
use Rattle.tables.specs.Root.{Moved}

pub moved_none : (t rows : List ℕ) → Moved 0 t rows rows
moved_none t rows = record { on_span_is = λ s h. absurd (omega arith); ion_span_is = λ s h. absurd (omega arith); others = λ i h. refl }

module _ (i m : ℕ) (t rows₀ rows : List ℕ) (lt : i < m) (long : columns * m ≤ length rows) (h : Moved i t rows₀ rows) where
  -- the row's cycles are put out, and then its instructions
  abbrev first : List ℕ
  first = set rows (slot i Column.on_span) (get_or t (2 * i) 0)

  abbrev both : List ℕ
  both = set first (slot i Column.ion_span) (get_or t (2 * i + 1) 0)

  kept : (j : ℕ) → (j ≡ slot i Column.on_span → ⊥) → (j ≡ slot i Column.ion_span → ⊥) → get_or both j 0 ≡ get_or rows j 0
  kept j a b = get_or-set_other first (slot i Column.ion_span) j (get_or t (2 * i + 1) 0) 0 b ∙ get_or-set_other rows (slot i Column.on_span) j (get_or t (2 * i) 0) 0 a

  pub moved_more : Moved (i + 1) t rows₀ both
  moved_more =
      record {
        on_span_is = λ s l. moved s l (dec_lt s i);
        ion_span_is = λ s l. imoved s l (dec_lt s i);
        others = λ j k. kept j (k i (omega arith)).0 (k i (omega arith)).1 ∙ h.others j (λ s l. k s (omega arith));
      }
    where
      moved : (s : ℕ) → s < i + 1 → Dec (s < i) → get_or both (slot s Column.on_span) 0 ≡ get_or t (2 * s) 0
      moved s l (yes d) = kept (slot s Column.on_span) (λ e. omega arith) (λ e. omega arith) ∙ h.on_span_is s d
      moved s l (no d) =
          let e : s ≡ i = omega arith in
          rw e (get_or-set_other first (slot i Column.ion_span) (slot i Column.on_span) (get_or t (2 * i + 1) 0) 0 (λ e. omega arith) ∙ get_or-set_same rows (slot i Column.on_span) (get_or t (2 * i) 0) 0 (omega arith))

      imoved : (s : ℕ) → s < i + 1 → Dec (s < i) → get_or both (slot s Column.ion_span) 0 ≡ get_or t (2 * s + 1) 0
      imoved s l (yes d) = kept (slot s Column.ion_span) (λ e. omega arith) (λ e. omega arith) ∙ h.ion_span_is s d
      imoved s l (no d) =
          let e : s ≡ i = omega arith in
          rw e (get_or-set_same first (slot i Column.ion_span) (get_or t (2 * i + 1) 0) 0 (simp length-set (omega arith)))
