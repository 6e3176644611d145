-- The root of an accepted trace, whichever engine reads it: its limits and room, the cleared rows, and what its
-- reading comes to in them.
use mathlib.Core.Path.{◌≡◌, ◌∙◌, subst, sym}
use mathlib.Core.Bool.{◌&&◌}
use mathlib.Core.List.{List, [], ◌∷◌, ◌++◌}
use Prim.Native.Nat.{ℕ, ◌+◌, ◌*◌, ◌-◌, ◌^◌, ◌≤◌, ◌<◌}
use native.Mathlib.Omega.{arith}
use lib.Dec.{leb}
use lib.ListN.{length, get_or, drop, replicate}
use borrow.Author.Tests.{leb-true}
use Rattle.line.specs.Family.{Family}
use Rattle.line.specs.declared.Frame.{Frame}
use Rattle.trace.specs.Shape.{sites}
use Rattle.trace.specs.Rows.{columns}
use Rattle.trace.specs.Column.{Column, slot}
use Rattle.trace.specs.Refusals.{accepted, verdict_of}
use Rattle.trace.specs.Answer.{Answer}
use Rattle.trace.specs.Promise.{Engine, Lent, enough, scratch_room, rows_room, marks_room, ProfileOf}
use Rattle.trace.specs.Tree.{Body, size, Within, work_of, span_of, PartsOf}
use Rattle.trace.specs.Fold.{nothing}
use Rattle.trace.specs.ByTree.{cell, ProfileBy}
use Rattle.trace.proofs.Basics.{both}
use Rattle.trace.proofs.Slots.{slot_in}
use Rattle.trace.proofs.Scan.{Fine, accepted-is-of, accepted-fine-of}
use Rattle.trace.proofs.Accept.{sites_le_M}
use Rattle.trace.proofs.Outcome.{tree_profile, length-is}
use Rattle.weigh.specs.Weighed.{Weigh, Tabled}
use Rattle.weigh.proofs.Alike.{alike_length}
use Rattle.weigh.proofs.Accepted.{reweighed_alike, reweighed-sites}
use Rattle.walk.specs.declared.Open.{Open}
use Rattle.walk.specs.declared.Credit.{Credit}
use Rattle.walk.specs.Reads.{Reads}
use Rattle.walk.specs.Numbers.{numbers}
use Rattle.walk.specs.Gain.{credit_of, ReturnFits, Returned, made, most_gain, Grown}
use Rattle.walk.specs.Reader.{Ready, BodyDone}
use Rattle.walk.proofs.Return.{Came, came, return_fits, made_grown}
use Rattle.walk.proofs.Columns.{root-on, root_ion}
use Rattle.walk.proofs.Root.{Weighty, other, tree, root-small, root-reads, root-ready, cells_are, behind}
use Rattle.walk.proofs.Zeros.{cleared-length, cleared-front, cleared-back}

module _ (y : Family) (e : Engine) (s : List ℕ) (D M : ℕ) (x : Lent) (t : List Frame) (is : verdict_of y s D M (enough e s D M x) ≡ accepted t) (count : ℕ) (count_is : sites t ≡ count) where
  pub fine : Fine y D M t
  fine = accepted-fine-of y s D M (enough e s D M x) t is

  pub limits : (1 ≤ D) × (D ≤ 64) × (M ≤ 255) × (count ≤ M)
  limits = (fine.least, fine.most, fine.sites_most, omega (arith, sites_le_M D M t fine))

  -- no lent slice is too short
  pub rooms : (scratch_room e D M ≤ length x.scratch) × (rows_room M ≤ length x.rows) × (marks_room e s ≤ length x.marks)
  rooms =
      let h = (accepted-is-of y s D M (enough e s D M x) t is).0 in
      let a = both (leb (scratch_room e D M) (length x.scratch) && leb (rows_room M) (length x.rows)) (leb (marks_room e s) (length x.marks)) h in
      let b = both (leb (scratch_room e D M) (length x.scratch)) (leb (rows_room M) (length x.rows)) a.0 in
      (leb-true (scratch_room e D M) (length x.scratch) b.0, leb-true (rows_room M) (length x.rows) b.1, leb-true (marks_room e s) (length x.marks) a.1)

  pub rows-room : columns * (count + 1) ≤ length x.rows
  rows-room = omega (arith, rooms.1, limits.3)

  -- the rows with their numbers cleared
  abbrev pub cleared : List ℕ
  cleared = replicate (columns * (count + 1)) 0 ++ drop (columns * (count + 1)) x.rows

  pub cleared-long : length cleared ≡ length x.rows
  cleared-long = cleared-length x.rows (columns * (count + 1)) rows-room

  -- the row of the root is there
  pub row-there : slot 0 Column.span < length cleared
  row-there = omega (arith, cleared-long, rows-room)

  -- the trace as weighed by w
  module _ (w : Weigh) (tabled : Tabled w) where
    abbrev pub trace : List Frame
    trace = other w tabled D M t fine

    abbrev pub root : PartsOf y D trace
    root = tree w tabled D M t fine

    abbrev pub body : Body
    body = root.body

    some : Weighty w
    some n k v l h = (tabled n k v l h).0

    sites_are : sites trace ≡ count
    sites_are = reweighed-sites w t 0 (0 ∷ []) ∙ count_is

    -- the body ends where the trace does
    pub lines_are : length t ≡ size body
    lines_are = omega (arith, alike_length t trace (reweighed_alike w t 0 (0 ∷ [])), length-is D trace root)

    pub within : Within count D 1 body
    within = subst (λ (m : ℕ). Within m D 1 body) sites_are root.within

    pub small : most_gain body < 2 ^ 56
    small = root-small w tabled D M t fine

    pub reads : Reads y w s 0 0 body
    reads = root-reads w some D M t fine s (enough e s D M x) is

    zeros : (i : ℕ) → i < columns * (sites trace + 1) → get_or cleared i 0 ≡ 0
    zeros i l = cleared-front x.rows (columns * (count + 1)) rows-room i (omega (arith, sites_are))

    long : columns * (sites trace + 1) ≤ length cleared
    long = omega (arith, cleared-long, rows-room, sites_are)

    pub ready : Ready y w s 0 count (D - 1) (numbers 0 0 nothing) cleared
    ready =
        root-ready w some D M t fine s (enough e s D M x) is small count count_is cleared (omega (arith, long, sites_are)) (λ i l. zeros i (omega (arith, sites_are)))

    -- what the tree says of an outcome is the profile of the weighed trace
    pub profiled : (r : Answer) (after : Lent) → ProfileBy e count body x r after → ProfileOf y e trace x r after
    profiled r after h = tree_profile D trace root e x r after (subst (λ (m : ℕ). ProfileBy e m body x r after) (sym sites_are) h)

    -- The root's body was read: its numbers are c, and before is what columns 2 and 3 of its row held.
    module _ (before : Credit) (before_is : before ≡ credit_of cleared 0) (c : Open) (rows₁ : List ℕ) (same : length rows₁ ≡ length x.rows)
        (done : BodyDone 0 0 cleared body c rows₁) where
      read : Came 0 body cleared before c.work.0 c.prefix.0 rows₁
      read = came 0 0 body cleared before c rows₁ before_is (omega (arith, same, cleared-long)) done

      pub work_is : c.work.0 ≡ work_of body
      work_is = read.work_is

      pub span_is : c.prefix.0 ≡ span_of body
      span_is = read.span_is

      pub count_fits : ReturnFits before rows₁ 0 c.work.0 c.prefix.0
      count_fits = return_fits read row-there (λ k. omega (arith, zeros (slot 0 k) (omega (arith, slot_in count 0 k (omega arith), sites_are)), small))

      -- and the root was counted
      module _ (rows₂ : List ℕ) (counts : Returned before 0 c.work.0 c.prefix.0 rows₁ rows₂) where
        grown : Grown cleared (made 0 body) rows₂
        grown = made_grown read rows₂ counts

        pub cells : (k : ℕ) (j : Column) → k ≤ count → (j ≡ Column.on_span → ⊥) → (j ≡ Column.ion_span → ⊥) → get_or rows₂ (slot k j) 0 ≡ cell body k j
        cells k j h l i = cells_are D trace root cleared rows₂ long zeros grown k j (omega (arith, sites_are)) l i

        -- columns 5 and 7 are still zero
        still : (k : ℕ) (j : Column) → k ≤ count → made 0 body (slot k j) ≡ 0 → get_or rows₂ (slot k j) 0 ≡ 0
        still k j h z =
            let i = slot_in count k j h in
            omega (arith, grown (slot k j) (omega (arith, cleared-long, rows-room)), zeros (slot k j) (omega (arith, sites_are)), z)

        pub none-on : (k : ℕ) → k ≤ count → get_or rows₂ (slot k Column.on_span) 0 ≡ 0
        none-on k h = still k Column.on_span h (root-on count D 1 body within k)

        pub none_ion : (k : ℕ) → k ≤ count → get_or rows₂ (slot k Column.ion_span) 0 ≡ 0
        none_ion k h = still k Column.ion_span h (root_ion count D 1 body within k)

        pub rest : (i : ℕ) → columns * (count + 1) ≤ i → i < length x.rows → get_or rows₂ i 0 ≡ get_or x.rows i 0
        rest i h l =
            behind D trace root cleared rows₂ long zeros grown i (omega (arith, sites_are)) (omega (arith, cleared-long))
            ∙ cleared-back x.rows (columns * (count + 1)) rows-room i h
