-- From acceptance to the promise: what the two readings of the root ask for, and what they come to.
use mathlib.Core.Path.{◌≡◌, refl, ap, ◌∙◌, sym, subst}
use mathlib.Core.Bool.{cond}
use mathlib.Core.List.{List, [], ◌∷◌}
use Prim.Native.Nat.{ℕ, ◌+◌, ◌*◌, ◌-◌, ◌^◌, ◌≤◌, ◌<◌}
use native.Mathlib.Decide.{dec_lt}
use native.Mathlib.Omega.{arith}
use lib.ListN.{length, get_or, replicate, length-replicate, get_or-eq_default}
use Rattle.std.specs.Prelude.{Ok}
use Rattle.line.specs.Family.{Family}
use Rattle.line.specs.declared.Frame.{Frame}
use Rattle.chain.specs.Over.{lines_in}
use Rattle.trace.specs.Answer.{Answer}
use Rattle.trace.specs.Answer.{profiled as answered}
use Rattle.trace.specs.Shape.{has}
use Rattle.trace.specs.Rows.{columns}
use Rattle.trace.specs.Column.{Column, slot}
use Rattle.trace.specs.Refusals.{verdict_of}
use Rattle.trace.specs.Promise.{marks, Lent, enough, scratch_room, rows_room, marks_room, ProfileOf, PromiseOf}
use Rattle.trace.specs.ByTree.{cell, ProfileBy}
use Rattle.trace.specs.Tree.{Body, size, Within, work_of, span_of}
use Rattle.trace.specs.Fold.{nothing, its_cycles, its_instructions, chain_of, on_row}
use Rattle.trace.proofs.Slots.{slot_in, is-column}
use Rattle.trace.proofs.Scan.{accepted-is-of, accepted-same}
use Rattle.admit.specs.declared.Accepted.{Accepted}
use Rattle.admit.specs.Answer.{admission_of}
use Rattle.admit.proofs.Admitted.{accepted-only}
use Rattle.weigh.specs.Weighed.{Weigh, Tabled, reweighed}
use Rattle.walk.specs.declared.Open.{Open}
use Rattle.walk.specs.declared.Credit.{Credit}
use Rattle.walk.specs.Weight.{by_asking}
use Rattle.walk.specs.Reads.{Reads}
use Rattle.walk.specs.Gain.{credit_of, ReturnFits, Returned}
use Rattle.walk.specs.Profiled.{Profiled}
use Rattle.walk.proofs.Weight.{weight-plain}
use Rattle.walk.proofs.Profiled.{plain_promise}
use Rattle.walk.proofs.Zeros.{zeros-at}
use Rattle.walk.proofs.Accepted.{limits, rooms, rows-room, cleared, row-there, trace, root, body, lines_are, within, small, reads, ready, profiled, work_is, span_is, count_fits, cells, none-on, none_ion, rest}
use Rattle.marks.specs.Reader.{BodyAsks, BodyLeft, BodyLeaves}
use Rattle.marks.specs.Column.{on_gain, ColumnAsks, ColumnLeaves}
use Rattle.marks.specs.Root.{lent, Admitted}
use Rattle.marks.proofs.Bodies.{shows-begun}
use Rattle.marks.proofs.OnSpan.{on_cross, on_out, on_le, on_row_lem, ion_row}

module _ {f : Family} {s : List ℕ} {D M : ℕ} {x : Lent} {count lines : ℕ} (a : Admitted f s D M x count lines) where
  abbrev t : List Frame
  t = a.frames

  abbrev rows₀ : List ℕ
  rows₀ = cleared f marks s D M x t a.is count a.count_is

  long : (scratch_room marks D M ≤ length x.scratch) × (rows_room M ≤ length x.rows) × (marks_room marks s ≤ length x.marks)
  long = rooms f marks s D M x t a.is count a.count_is

  pub bounds : (1 ≤ D) × (D ≤ 64) × (M ≤ 255) × (count ≤ M)
  bounds = limits f marks s D M x t a.is count a.count_is

  pub rows_in : columns * (count + 1) ≤ length x.rows
  rows_in = rows-room f marks s D M x t a.is count a.count_is

  -- each line of the text has a mark
  text_in : length s ≤ 23 * length x.marks
  text_in =
      let r = long.2 in
      let w = (accepted-is-of f s D M (enough marks s D M x) t a.is).1.whole_lines in
      omega arith

  -- the scratch and the rows were cleared, and go by these names
  pub record Blank (t₁ r₁ : List ℕ) : Type 0 where
    pub scratch_is : t₁ ≡ replicate (length x.scratch) 0
    pub rows_are : r₁ ≡ rows₀

  -- the scratch and the rows were cleared
  pub blanked : {t₁ r₁ : List ℕ} → t₁ ≡ replicate (length x.scratch) 0 → r₁ ≡ rows₀ → Blank t₁ r₁
  blanked scratch_is rows_are = record { scratch_is = scratch_is; rows_are = rows_are }

  -- columns 2 and 3 of its row can be taken
  pub credit_asks : {t₁ r₁ : List ℕ} → Blank t₁ r₁ → slot 0 Column.span < length r₁
  credit_asks o = omega (arith, ap length o.rows_are, row-there f marks s D M x t a.is count a.count_is)

  -- its cost lines weigh so
  module _ (how : Weigh) (tabled : Tabled how) where
    abbrev b : Body
    b = body f marks s D M x t a.is count a.count_is how tabled

    here : Reads f how s 0 0 b
    here = reads f marks s D M x t a.is count a.count_is how tabled

    in_limits : Within count D 1 b
    in_limits = within f marks s D M x t a.is count a.count_is how tabled

    ends : lines ≡ size b
    ends = omega (arith, a.lines_is, lines_are f marks s D M x t a.is count a.count_is how tabled)

    -- the first reading
    pub body-asks : {t₁ r₁ : List ℕ} → Blank t₁ r₁ → BodyAsks f how s 0 0 (D - 1) t₁ x.marks r₁
    body-asks {t₁} {r₁} o =
        subst (λ (y : List ℕ). BodyAsks f how s 0 0 (D - 1) t₁ x.marks y) (sym o.rows_are)
        (record {
          sites = count;
          ready = ready f marks s D M x t a.is count a.count_is how tabled;
          lines = text_in;
          zero = λ j. ap (λ (y : List ℕ). get_or y j 0) o.scratch_is ∙ zeros-at (length x.scratch) j;
          room = omega (arith, long.0, bounds.0, ap length o.scratch_is, length-replicate {A = ℕ} (length x.scratch) 0);
          n = 0;
          k = nothing;
          weighs = refl;
          shows = shows-begun 0 0 x.marks;
        })

    -- The root was read: its numbers are c, and it left the scratch t₂ zero, the marks m₂ and the rows rows₁. Before it,
    -- columns 2 and 3 of its row were taken.
    pub record Read (before : Credit) (c : Open) (t₂ m₂ rows₁ : List ℕ) : Type 0 where
      pub t₁ : List ℕ
      pub r₁ : List ℕ
      pub blank : Blank t₁ r₁
      pub taken : before ≡ credit_of r₁ 0
      pub zero : t₂ ≡ replicate (length x.scratch) 0
      pub marks_same : length m₂ ≡ length x.marks
      pub rows_same : length rows₁ ≡ length x.rows
      pub leaves : BodyLeaves f how s 0 0 x.marks r₁ c m₂ rows₁

    -- it was, by what its reader leaves
    pub was_read : {t₁ r₁ : List ℕ} {before : Credit} {c : Open} {t₂ m₂ rows₁ : List ℕ} → Blank t₁ r₁ → before ≡ credit_of r₁ 0 → t₂ ≡ t₁ → length m₂ ≡ length x.marks → length rows₁ ≡ length r₁ → length r₁ ≡ length x.rows
        → BodyLeaves f how s 0 0 x.marks r₁ c m₂ rows₁ → Read before c t₂ m₂ rows₁
    was_read {t₁} {r₁} blank taken same marks_same rows_same rows_long leaves =
        record { t₁ = t₁; r₁ = r₁; blank = blank; taken = taken; zero = same ∙ blank.scratch_is; marks_same = marks_same; rows_same = rows_same ∙ rows_long; leaves = leaves }

    module _ {before : Credit} {c : Open} {t₂ m₂ rows₁ : List ℕ} (u : Read before c t₂ m₂ rows₁) where
      took : before ≡ credit_of rows₀ 0
      took = u.taken ∙ ap (λ (y : List ℕ). credit_of y 0) u.blank.rows_are

      left : BodyLeft 0 0 b x.marks rows₀ c m₂ rows₁
      left = subst (λ (y : List ℕ). BodyLeft 0 0 b x.marks y c m₂ rows₁) u.blank.rows_are (u.leaves b here)

      at_is : c.at ≡ 0 + size b
      at_is = ap (λ (y : Open). y.at) left.done.numbers_are

      pub count-asks : ReturnFits before rows₁ 0 c.work.0 c.prefix.0
      count-asks = count_fits f marks s D M x t a.is count a.count_is how tabled before took c rows₁ u.rows_same left.done

      -- the root was counted
      module _ (rows₂ : List ℕ) (counts : Returned before 0 c.work.0 c.prefix.0 rows₁ rows₂) (lr₂ : length rows₂ ≡ length x.rows) where
        -- columns 5 and 7 are still zero
        no_on : (k : ℕ) → k ≤ count → get_or rows₂ (slot k Column.on_span) 0 ≡ 0
        no_on = none-on f marks s D M x t a.is count a.count_is how tabled before took c rows₁ u.rows_same left.done rows₂ counts

        no_ion : (k : ℕ) → k ≤ count → get_or rows₂ (slot k Column.ion_span) 0 ≡ 0
        no_ion = none_ion f marks s D M x t a.is count a.count_is how tabled before took c rows₁ u.rows_same left.done rows₂ counts

        -- and a column that is has room
        room_in : (j : Column) → ((k : ℕ) → k ≤ count → get_or rows₂ (slot k j) 0 ≡ 0) → (k : ℕ) → k ≤ count → get_or rows₂ (slot k j) 0 + (on_gain m₂ 0 0 b (slot k j) + 0) < 2 ^ 64
        room_in j none k l = omega (arith, none k l, on_le m₂ (slot k j) b 0 0, small f marks s D M x t a.is count a.count_is how tabled)

        -- the second reading
        pub on-asks : ColumnAsks f how s lines t₂ m₂ rows₂
        on-asks =
            record {
              body = b;
              ends = omega (arith, ends);
              lent =
                  record {
                    sites = count;
                    D = D;
                    reads = (here, tt);
                    within = (omega arith, omega (arith, bounds.0), in_limits, tt);
                    zero = λ j. ap (λ (y : List ℕ). get_or y j 0) u.zero ∙ zeros-at (length x.scratch) j;
                    room = omega (arith, long.0, ap length u.zero, length-replicate {A = ℕ} (length x.scratch) 0);
                    held = (refl, refl, refl);
                    rows_long = omega (arith, lr₂, rows_in);
                    lines = omega (arith, text_in, u.marks_same);
                    fits = room_in Column.on_span no_on;
                    ifits = room_in Column.ion_span no_ion;
                  };
            }

        -- what it left
        module _ (t₃ rows₃ : List ℕ) (on : ColumnLeaves f how s lines t₂ m₂ rows₂ rows₃) (same : t₃ ≡ t₂) (lr₃ : length rows₃ ≡ length x.rows) where
          abbrev answer : Answer
          answer = answered c.work.0 c.prefix.0 count lines

          grown : (i : ℕ) → i < length x.rows → get_or rows₃ i 0 ≡ get_or rows₂ i 0 + on_gain m₂ 0 0 b i
          unfolding on-asks
          grown i l = on on-asks i (omega (arith, lr₂))

          shown : (i : ℕ) → 0 ≤ i → i < 0 + size b → get_or m₂ i 0 ≡ cond (has i (lines_in (chain_of 0 0 b))) 1 0
          shown i l r = left.zone.marks_are i l (omega (arith, at_is))

          on-is : (k : ℕ) → on_gain m₂ 0 0 b (slot k Column.on_span) ≡ on_row its_cycles k (chain_of 0 0 b)
          on-is k = on_row_lem D (trace f marks s D M x t a.is count a.count_is how tabled) (root f marks s D M x t a.is count a.count_is how tabled) m₂ k shown

          ion_is : (k : ℕ) → on_gain m₂ 0 0 b (slot k Column.ion_span) ≡ on_row its_instructions k (chain_of 0 0 b)
          ion_is k = ion_row D (trace f marks s D M x t a.is count a.count_is how tabled) (root f marks s D M x t a.is count a.count_is how tabled) m₂ k shown

          cells_are : (k : ℕ) (j : Column) → k ≤ count → get_or rows₃ (slot k j) 0 ≡ cell b k j
          cells_are k j h = go (is-column j Column.on_span) (is-column j Column.ion_span)
            where
              in_rows : slot k j < length x.rows
              in_rows = omega (arith, slot_in count k j h, rows_in)

              go : Dec (j ≡ Column.on_span) → Dec (j ≡ Column.ion_span) → get_or rows₃ (slot k j) 0 ≡ cell b k j
              go (no q) (no w) =
                  omega (arith, grown (slot k j) in_rows, on_cross m₂ j k q w b 0 0, cells f marks s D M x t a.is count a.count_is how tabled before took c rows₁ u.rows_same left.done rows₂ counts k j h q w)
              go (no q) (yes e) = rw e (omega (arith, grown (slot k Column.ion_span) (omega (arith, rows_in)), no_ion k h, ion_is k))
              go (yes e) d = rw e (omega (arith, grown (slot k Column.on_span) (omega (arith, rows_in)), no_on k h, on-is k))

          rest-is : (i : ℕ) → columns * (count + 1) ≤ i → get_or rows₃ i 0 ≡ get_or x.rows i 0
          rest-is i h = go (dec_lt i (length x.rows))
            where
              go : Dec (i < length x.rows) → get_or rows₃ i 0 ≡ get_or x.rows i 0
              go (yes q) = omega (arith, grown i q, on_out m₂ count D 1 i b 0 0 in_limits (omega arith) h, rest f marks s D M x t a.is count a.count_is how tabled before took c rows₁ u.rows_same left.done rows₂ counts i h q)
              go (no q) = get_or-eq_default rows₃ 0 {n = i} (omega arith) ∙ sym (get_or-eq_default x.rows 0 {n = i} (omega arith))

          by-tree : ProfileBy marks count b x answer (lent t₃ m₂ rows₃)
          by-tree =
              record {
                answer = ap (λ (y : ℕ). answered y c.prefix.0 count lines) (work_is f marks s D M x t a.is count a.count_is how tabled before took c rows₁ u.rows_same left.done) ∙ ap (λ (y : ℕ). answered (work_of b) y count lines) (span_is f marks s D M x t a.is count a.count_is how tabled before took c rows₁ u.rows_same left.done) ∙ ap (answered (work_of b) (span_of b) count) ends;
                rows = record { same_length = lr₃; cells = cells_are; rest = rest-is };
                scratch = same ∙ u.zero;
                marked = record { same_length = u.marks_same; marks_are = λ k l. shown k (omega arith) (omega arith); rest = λ k l. left.kept k (λ v w. omega (arith, at_is)) };
              }

          pub promised : Profiled f marks how s D M x answer (lent t₃ m₂ rows₃)
          promised u e =
              let h = profiled f marks s D M x t a.is count a.count_is how tabled answer (lent t₃ m₂ rows₃) by-tree in
              subst (λ (y : List Frame). ProfileOf f marks (reweighed how 0 (0 ∷ []) y) x answer (lent t₃ m₂ rows₃)) (accepted-same t u (sym a.is ∙ e)) h

-- what the answer of acceptance says
module _ (f : Family) (s : List ℕ) (D M : ℕ) (x : Lent) where
  pub admitted : (w : Accepted) → Ok w ≡ admission_of f marks s D M (length x.scratch) (length x.rows) (length x.marks) → Admitted f s D M x w.sites w.lines
  admitted w e =
      let h = accepted-only (verdict_of f s D M (enough marks s D M x)) w e in
      record { frames = h.0; is = h.1; count_is = h.2; lines_is = h.3 }

-- with no factor it is the plain profile
pub plain : {f : Family} {s : List ℕ} {D M : ℕ} {x : Lent} {count lines : ℕ} → Admitted f s D M x count lines → (r : Answer) (y : Lent) → Profiled f marks (by_asking []) s D M x r y → PromiseOf f marks s D M x r y
plain {f} {s} {D} {M} {x} a r y h = plain_promise f marks s D M x a.frames a.is (by_asking []) weight-plain r y h
