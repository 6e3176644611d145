-- From acceptance to the promise: the root's room, and what its reading comes to.
use mathlib.Core.Path.{◌≡◌, refl, ap, ◌∙◌, sym, subst}
use mathlib.Core.List.{List, [], ◌∷◌, ◌++◌}
use Prim.Native.Nat.{ℕ, ◌+◌, ◌*◌, ◌-◌, ◌≤◌, ◌<◌}
use native.Mathlib.Nat.{mul_comm, mul_assoc, mul-le-mul_left}
use native.Mathlib.Decide.{dec_lt}
use native.Mathlib.Omega.{arith}
use lib.ListN.{length, get_or, drop, replicate, length-replicate, get_or-eq_default}
use lib.Seq.{ext_get_or}
use Rattle.std.specs.Prelude.{Ok}
use Rattle.line.specs.Family.{Family}
use Rattle.line.specs.declared.Frame.{Frame}
use Rattle.trace.specs.Answer.{Answer, profiled}
use Rattle.trace.specs.Rows.{columns}
use Rattle.trace.specs.Column.{Column, slot}
use Rattle.trace.specs.Refusals.{verdict_of}
use Rattle.trace.specs.Refusals.{Verdict as Judgement}
use Rattle.trace.specs.Promise.{tables, enough, ProfileOf, PromiseOf}
use Rattle.trace.specs.ByTree.{cell, ProfileBy}
use Rattle.trace.specs.Tree.{Body, work_of, span_of}
use Rattle.trace.specs.Fold.{nothing, chain_of}
use Rattle.trace.proofs.Recurrence.{paid}
use Rattle.chain.specs.Plan.{All, Worth}
use Rattle.trace.proofs.Slots.{slot_apart, is-column}
use Rattle.trace.proofs.Scan.{accepted-same}
use Rattle.admit.specs.declared.Accepted.{Accepted}
use Rattle.admit.specs.Answer.{admission_of}
use Rattle.admit.proofs.Admitted.{accepted-only}
use Rattle.weigh.specs.Weighed.{Weigh, Tabled, reweighed}
use Rattle.walk.specs.declared.Open.{Open}
use Rattle.walk.specs.declared.Credit.{Credit}
use Rattle.walk.specs.Gain.{credit_of, ReturnFits, Returned}
use Rattle.walk.specs.Reader.{alone, BodyDone}
use Rattle.walk.specs.Profiled.{Profiled}
use Rattle.walk.specs.Weight.{by_asking}
use Rattle.walk.proofs.Weight.{weight-plain}
use Rattle.walk.proofs.Profiled.{plain_promise}
use Rattle.walk.proofs.Zeros.{zeros-at, cleared-front, cleared-back}
use Rattle.walk.proofs.Accepted as root
use Rattle.tables.specs.Blocks.{Shows}
use Rattle.tables.specs.Reader.{BodyAsks, BodyLeaves}
use Rattle.tables.specs.Root.{lent, Admitted, Moved, Settled}
use Rattle.tables.specs.Walks.{number}
use Rattle.tables.proofs.Number.{number-cycles, number-instructions, chain-worth}
use Rattle.tables.proofs.Held.{opens}
use Rattle.tables.proofs.Parts.{own-only, one_more}

zeros_show : (n w l : ℕ) → Shows n w (replicate l 0) nothing []
zeros_show n w l = record { P = λ i h. zeros-at l (0 + i); L = λ i h. zeros-at l (n + i); C = λ i h. zeros-at l (2 * n + i); G = λ i h. zeros-at l (3 * n + i); zero = λ j h. zeros-at l j }

-- the room of D invocations that open inside one another, where x times y numbers are lent for each
room-is : (D n x y : ℕ) → 1 ≤ D → 3 * n ≤ x * y → n + (D - 1) * (3 * n) ≤ x * D * y
room-is D n x y l h = omega (arith, mul-le-mul_left D h, one_more D (3 * n) l, ap (λ (z : ℕ). z * y) (mul_comm x D), mul_assoc D x y)

-- what acceptance says of the limits and of the room
module _ {y : Family} {s : List ℕ} {D M : ℕ} {scratch rows : List ℕ} {count lines : ℕ} (a : Admitted y s D M scratch rows count lines) where
  pub limits : (1 ≤ D) × (D ≤ 64) × (M ≤ 255) × (count ≤ M)
  limits = root.limits y tables s D M (lent scratch rows) a.t a.is count a.count_is

  pub rows-room : columns * (count + 1) ≤ length rows
  rows-room = root.rows-room y tables s D M (lent scratch rows) a.t a.is count a.count_is

  scratch_long : 7 * D * (M + 3) ≤ length scratch
  scratch_long = (root.rooms y tables s D M (lent scratch rows) a.t a.is count a.count_is).0

  -- three blocks of two numbers a row and a word for each invocation in which another may open, and one for the last
  blocks-long : 2 * (count + 1) + 1 + (D - 1) * (3 * (2 * (count + 1) + 1)) ≤ length scratch
  blocks-long = omega (arith, scratch_long, room-is D (2 * (count + 1) + 1) 7 (M + 3) limits.0 (omega (arith, limits.3)))

  pub table-room : 2 * (count + 1) < length scratch
  table-room = omega (arith, blocks-long)

  abbrev rows₁ : List ℕ
  rows₁ = replicate (columns * (count + 1)) 0 ++ drop (columns * (count + 1)) rows

  -- the room was cleared, and goes by these names
  pub record Blank (t₁ r₁ : List ℕ) : Type 0 where
    pub scratch_is : t₁ ≡ replicate (length scratch) 0
    pub rows_are : r₁ ≡ rows₁

  -- columns 2 and 3 of its row can be taken
  pub credit_asks : {t₁ r₁ : List ℕ} → Blank t₁ r₁ → slot 0 Column.span < length r₁
  credit_asks z = omega (arith, ap length z.rows_are, root.row-there y tables s D M (lent scratch rows) a.t a.is count a.count_is)

  -- its cost lines weigh so
  module _ (how : Weigh) (tabled : Tabled how) where
    pub root-asks : {t₁ r₁ : List ℕ} → Blank t₁ r₁ → BodyAsks y how s 0 0 (D - 1) t₁ r₁ (2 * (count + 1) + 1) (2 * (count + 1))
    root-asks {t₁} {r₁} z =
        subst (λ (x : List ℕ). BodyAsks y how s 0 0 (D - 1) x r₁ (2 * (count + 1) + 1) (2 * (count + 1))) (sym z.scratch_is)
        (subst (λ (x : List ℕ). BodyAsks y how s 0 0 (D - 1) (replicate (length scratch) 0) x (2 * (count + 1) + 1) (2 * (count + 1))) (sym z.rows_are)
        (record {
          m = count;
          ready = root.ready y tables s D M (lent scratch rows) a.t a.is count a.count_is how tabled;
          blocks = omega arith;
          even = omega arith;
          wide = omega arith;
          few = omega (arith, limits.2, limits.3);
          rooms = D - 1;
          for_deep = omega arith;
          room = omega (arith, blocks-long, length-replicate {A = ℕ} (length scratch) 0);
          opened = λ m. absurd (m refl);
          q = [];
          k = nothing;
          weighs = refl;
          holds = opens (2 * (count + 1) + 1) (2 * (count + 1)) (replicate (length scratch) 0) [] (zeros_show (2 * (count + 1) + 1) (2 * (count + 1)) (length scratch));
          fits = omega (arith, (root.ready y tables s D M (lent scratch rows) a.t a.is count a.count_is how tabled).load_fits);
          ifits = omega (arith, (root.ready y tables s D M (lent scratch rows) a.t a.is count a.count_is how tabled).rows_fit 0 (omega arith));
        }))

    -- The root was read: its numbers are c, and it left the scratch t₂ and the rows rows₂. Before it, columns 2 and 3 of its
    -- row were taken.
    pub record Read (before : Credit) (c : Open) (t₂ rows₂ : List ℕ) : Type 0 where
      pub t₁ : List ℕ
      pub r₁ : List ℕ
      pub blank : Blank t₁ r₁
      pub taken : before ≡ credit_of r₁ 0
      pub scratch_same : length t₂ ≡ length scratch
      pub rows_same : length rows₂ ≡ length rows
      pub leaves : BodyLeaves y how s 0 0 t₁ r₁ (2 * (count + 1) + 1) (2 * (count + 1)) c t₂ rows₂

    -- what its reading comes to
    module _ {before : Credit} {c : Open} {t₂ rows₂ : List ℕ} (u : Read before c t₂ rows₂) where
      took : before ≡ credit_of rows₁ 0
      took = u.taken ∙ ap (λ (y : List ℕ). credit_of y 0) u.blank.rows_are

      abbrev b : Body
      b = root.body y tables s D M (lent scratch rows) a.t a.is count a.count_is how tabled

      left : BodyDone 0 0 rows₁ b c rows₂ × Shows (2 * (count + 1) + 1) (2 * (count + 1)) t₂ (alone (chain_of 0 0 b)) []
      left =
          let h = u.leaves b [] (root.reads y tables s D M (lent scratch rows) a.t a.is count a.count_is how tabled) (subst (λ (x : List ℕ). Shows (2 * (count + 1) + 1) (2 * (count + 1)) x nothing []) (sym u.blank.scratch_is) (zeros_show (2 * (count + 1) + 1) (2 * (count + 1)) (length scratch))) in
          (subst (λ (y : List ℕ). BodyDone 0 0 y b c rows₂) u.blank.rows_are h.0, h.1)

      pub root_counts : ReturnFits before rows₂ 0 c.work.0 c.prefix.0
      root_counts = root.count_fits y tables s D M (lent scratch rows) a.t a.is count a.count_is how tabled before took c rows₂ u.rows_same left.0

      -- the root itself, and its table
      module _ {rows₃ : List ℕ} (counts : Returned before 0 c.work.0 c.prefix.0 rows₂ rows₃) {t₃ rows₄ : List ℕ} (settled : Settled (count + 1) t₂ rows₃ t₃ rows₄) (l₃ : length t₃ ≡ length scratch) (l₄ : length rows₄ ≡ length rows) where
        -- its rows are moved out, the word behind them cleared
        abbrev moved : Moved (count + 1) t₂ rows₃ rows₄
        moved = settled.0

        abbrev answer : Answer
        answer = profiled c.work.0 c.prefix.0 count lines

        -- the table of the root's chain
        worth : All Worth (chain_of 0 0 b)
        worth = chain-worth b 0 0 (paid count D 1 b (root.within y tables s D M (lent scratch rows) a.t a.is count a.count_is how tabled))

        table : (i : ℕ) → i ≤ 2 * (count + 1) → get_or t₂ i 0 ≡ number (2 * (count + 1)) (chain_of 0 0 b) i
        table i h = let z : i ≡ 0 + i = omega arith in ap (λ (x : ℕ). get_or t₂ x 0) z ∙ left.1.P i h

        cells : (k : ℕ) (j : Column) → k ≤ count → get_or rows₄ (slot k j) 0 ≡ cell b k j
        cells k j h = go (is-column j Column.on_span) (is-column j Column.ion_span)
          where
            go : Dec (j ≡ Column.on_span) → Dec (j ≡ Column.ion_span) → get_or rows₄ (slot k j) 0 ≡ cell b k j
            go (no q) (no p) =
                moved.others (slot k j) (λ x y. (λ e. q (slot_apart k x j Column.on_span e).1, λ e. p (slot_apart k x j Column.ion_span e).1))
                ∙ root.cells y tables s D M (lent scratch rows) a.t a.is count a.count_is how tabled before took c rows₂ u.rows_same left.0 rows₃ counts k j h q p
            go (yes e) p = rw e (moved.on_span_is k (omega arith) ∙ table (2 * k) (omega arith) ∙ number-cycles (2 * (count + 1)) (chain_of 0 0 b) worth k (omega arith))
            go (no q) (yes e) = rw e (moved.ion_span_is k (omega arith) ∙ table (2 * k + 1) (omega arith) ∙ number-instructions (2 * (count + 1)) (chain_of 0 0 b) worth k (omega arith))

        rest : (i : ℕ) → columns * (count + 1) ≤ i → get_or rows₄ i 0 ≡ get_or rows i 0
        rest i h = go (dec_lt i (length rows))
          where
            go : Dec (i < length rows) → get_or rows₄ i 0 ≡ get_or rows i 0
            go (yes q) =
                moved.others i (λ x y. (λ e. omega arith, λ e. omega arith)) ∙ root.rest y tables s D M (lent scratch rows) a.t a.is count a.count_is how tabled before took c rows₂ u.rows_same left.0 rows₃ counts i h q
            go (no q) = get_or-eq_default rows₄ 0 {n = i} (omega arith) ∙ sym (get_or-eq_default rows 0 {n = i} (omega arith))

        scratch-zero : t₃ ≡ replicate (length scratch) 0
        scratch-zero = ext_get_or 0 t₃ (replicate (length scratch) 0) (l₃ ∙ sym (length-replicate {A = ℕ} (length scratch) 0)) (λ i l. ap (λ (x : List ℕ). get_or x i 0) settled.1 ∙ go i (dec_lt i (2 * (count + 1) + 1)) ∙ sym (zeros-at (length scratch) i))
          where
            room : 2 * (count + 1) + 1 ≤ length t₂
            room = omega (arith, table-room, u.scratch_same)

            go : (i : ℕ) → Dec (i < 2 * (count + 1) + 1) → get_or (replicate (2 * (count + 1) + 1) 0 ++ drop (2 * (count + 1) + 1) t₂) i 0 ≡ 0
            go i (yes q) = cleared-front t₂ (2 * (count + 1) + 1) room i q
            go i (no q) = cleared-back t₂ (2 * (count + 1) + 1) room i (omega arith) ∙ own-only (2 * (count + 1) + 1) (2 * (count + 1)) refl t₂ (chain_of 0 0 b) left.1 i (omega arith)

        by-tree : ProfileBy tables count b (lent scratch rows) answer (lent t₃ rows₄)
        by-tree =
            let work_is = root.work_is y tables s D M (lent scratch rows) a.t a.is count a.count_is how tabled before took c rows₂ u.rows_same left.0 in
            let span_is = root.span_is y tables s D M (lent scratch rows) a.t a.is count a.count_is how tabled before took c rows₂ u.rows_same left.0 in
            record {
              answer =
                  ap (λ (x : ℕ). profiled x c.prefix.0 count lines) work_is
                  ∙ ap (λ (x : ℕ). profiled (work_of b) x count lines) span_is
                  ∙ ap (λ (x : ℕ). profiled (work_of b) (span_of b) count x) (sym a.lines_is ∙ root.lines_are y tables s D M (lent scratch rows) a.t a.is count a.count_is how tabled);
              rows = record { same_length = l₄; cells = cells; rest = rest };
              scratch = scratch-zero;
              marked = refl;
            }

        pub promised : Profiled y tables how s D M (lent scratch rows) answer (lent t₃ rows₄)
        promised t e =
            let same : a.t ≡ t = accepted-same a.t t (sym a.is ∙ e) in
            let h = root.profiled y tables s D M (lent scratch rows) a.t a.is count a.count_is how tabled answer (lent t₃ rows₄) by-tree in
            subst (λ (x : List Frame). ProfileOf y tables (reweighed how 0 (0 ∷ []) x) (lent scratch rows) answer (lent t₃ rows₄)) same h

-- what the answer of acceptance says
module _ (y : Family) (s : List ℕ) (D M : ℕ) (scratch rows : List ℕ) where
  abbrev verdict_is : Judgement
  verdict_is = verdict_of y s D M (enough tables s D M (lent scratch rows))

  pub admitted : (x : Accepted) → Ok x ≡ admission_of y tables s D M (length scratch) (length rows) 0 → Admitted y s D M scratch rows x.sites x.lines
  admitted x e = let h = accepted-only verdict_is x e in record { t = h.0; is = h.1; count_is = h.2; lines_is = h.3 }

-- with no factor it is the plain profile
pub plain : {y : Family} {s : List ℕ} {D M : ℕ} {scratch rows : List ℕ} {count lines : ℕ} → Admitted y s D M scratch rows count lines → (r : Answer) (t' rows' : List ℕ)
    → Profiled y tables (by_asking []) s D M (lent scratch rows) r (lent t' rows') → PromiseOf y tables s D M (lent scratch rows) r (lent t' rows')
plain {y} {s} {D} {M} {scratch} {rows} a r t' rows' h = plain_promise y tables s D M (lent scratch rows) a.t a.is (by_asking []) weight-plain r (lent t' rows') h
