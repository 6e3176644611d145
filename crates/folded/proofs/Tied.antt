-- The text and its stacks over line numbers are what the lines print and say by the open rows. Assumes nothing.
use Prim.Native.Nat.{ℕ, suc, ◌+◌}
use mathlib.Core.List.{List, [], ◌∷◌, ◌++◌, map}
use mathlib.Core.Path.{◌≡◌, refl, ap, ◌∙◌, sym, subst}
use native.Mathlib.Numerals.{add-one}
use native.Mathlib.Omega.{arith}
use lib.ListN.{length, length-append}
use lib.Seq.{append_snoc}
use Rattle.line.specs.Family.{Base}
use Rattle.line.specs.declared.Frame.{Frame}
use Rattle.line.specs.declared.Frame.TheVariants.{Site, Call, Spawn, Sync, Return, Cost, Instructions, Async, Finish}
use Rattle.trace.specs.Shape.{if_makes, root, closed, step, walk, open_at}
use Rattle.trace.proofs.Context.{walk-append}
use Rattle.trace.proofs.Scan.{InTable, Clean}
use Rattle.folded.specs.Text.{site_on, row_of, rows_at, line_text, text_from, folded}
use Rattle.folded.specs.Reading.{Stack, stacks_from, stacks_of}
use Rattle.weigh.specs.Weighed.{row_step}
use Rattle.folded.specs.Rows.{prints_of, prints, says_of, says}

-- each line is in document 01's table
abbrev pub AllInTable : List Frame → Type 0
AllInTable [] = Unit {0}
AllInTable (f ∷ u) = InTable Base f × AllInTable u

pub clean_in_table : (D M : ℕ) (before t : List Frame) → Clean Base D M before t → AllInTable t
clean_in_table D M before [] c = tt
clean_in_table D M before (f ∷ t) c = (c.1, clean_in_table D M (before ++ f ∷ []) t c.2)

walk-zero : (k : ℕ) (o : List ℕ) (u : List Frame) → walk k o u 0 ≡ o
walk-zero k o [] = refl
walk-zero k o (f ∷ u) = refl

open_next : (before : List Frame) (f : Frame) (v : List Frame)
    → open_at (before ++ f ∷ v) (suc (length before)) ≡ step (length before) f (open_at (before ++ f ∷ v) (length before))
open_next before f v =
    let n = length before in
    let t = before ++ f ∷ v in
    let o = walk 0 (root ∷ []) before n in
    let here : open_at t n ≡ o = ap (open_at t) (let z : n ≡ n + 0 = omega arith in z) ∙ walk-append 0 (root ∷ []) before (f ∷ v) 0 in
    ap (open_at t) (sym (add-one n))
    ∙ walk-append 0 (root ∷ []) before (f ∷ v) 1
    ∙ walk-zero (suc (0 + n)) (step (0 + n) f o) v
    ∙ ap (λ (k : ℕ). step k f o) (let z : 0 + n ≡ n = omega arith in z)
    ∙ ap (step n f) (sym here)

site-here : (before : List Frame) (f : Frame) (v : List Frame) → site_on (before ++ f ∷ v) (length before) ≡ if_makes (λ s. s) 0 f
site-here [] f v = refl
site-here (e ∷ b) f v = site-here b f v

map-closed : (g : ℕ → ℕ) (o : List ℕ) → map g (closed o) ≡ closed (map g o)
map-closed g [] = refl
map-closed g (x ∷ o) = refl

rows_step : (before : List Frame) (f : Frame) (v : List Frame) (o : List ℕ) → InTable Base f → map (row_of (before ++ f ∷ v)) (step (length before) f o) ≡ row_step f (map (row_of (before ++ f ∷ v)) o)
rows_step before (Site s p) v o k = refl
rows_step before (Call s) v o k = ap (λ (r : ℕ). r ∷ map (row_of (before ++ Call s ∷ v)) o) (site-here before (Call s) v)
rows_step before (Spawn s) v o k = ap (λ (r : ℕ). r ∷ map (row_of (before ++ Spawn s ∷ v)) o) (site-here before (Spawn s) v)
rows_step before Sync v o k = refl
rows_step before Return v o k = map-closed (row_of (before ++ Return ∷ v)) o
rows_step before (Cost w) v o k = refl
rows_step before (Instructions w) v o k = refl
rows_step before (Async s) v o k = absurd k
rows_step before Finish v o k = absurd k

rows_next : (before : List Frame) (f : Frame) (v : List Frame) → InTable Base f → rows_at (before ++ f ∷ v) (suc (length before)) ≡ row_step f (rows_at (before ++ f ∷ v) (length before))
rows_next before f v k = ap (map (row_of (before ++ f ∷ v))) (open_next before f v) ∙ rows_step before f v (open_at (before ++ f ∷ v) (length before)) k

-- Something that is made of lines, from the last to the first, with the rows open at each: over line numbers, and by
-- the rows as `row_step` moves them
module _ {A : Type 0} (h : List ℕ → Frame → A → A) (z : A) where
  abbrev over : List Frame → ℕ → List Frame → A
  over t j [] = z
  over t j (f ∷ u) = h (rows_at t j) f (over t (suc j) u)

  abbrev by_rows : List ℕ → List Frame → A
  by_rows o [] = z
  by_rows o (f ∷ u) = h o f (by_rows (row_step f o) u)

  tie : (before u : List Frame) → AllInTable u → over (before ++ u) (length before) u ≡ by_rows (rows_at (before ++ u) (length before)) u
  tie before [] k = refl
  tie before (f ∷ v) k =
      let t = before ++ f ∷ v in
      let n = length before in
      let e : (before ++ f ∷ []) ++ v ≡ t = append_snoc before f v in
      let l : length (before ++ f ∷ []) ≡ suc n = length-append before (f ∷ []) ∙ add-one n in
      let a = subst (λ (x : List Frame). over x (length (before ++ f ∷ [])) v ≡ by_rows (rows_at x (length (before ++ f ∷ []))) v) e (tie (before ++ f ∷ []) v k.1) in
      let b : over t (suc n) v ≡ by_rows (rows_at t (suc n)) v = subst (λ (k : ℕ). over t k v ≡ by_rows (rows_at t k) v) l a in
      ap (h (rows_at t n) f) (b ∙ ap (λ (o : List ℕ). by_rows o v) (rows_next before f v k.0))

  tied : (t : List Frame) → AllInTable t → over t 0 t ≡ by_rows (0 ∷ []) t
  tied t k = tie [] t k ∙ ap (λ (o : List ℕ). by_rows o t) (ap (map (row_of t)) (walk-zero 0 (root ∷ []) t))

module _ (name : ℕ → List ℕ) where
  abbrev printing : List ℕ → Frame → List ℕ → List ℕ
  printing o f s = prints_of name o f ++ s

  text-over : (t : List Frame) (j : ℕ) (u : List Frame) → text_from name t j u ≡ over printing [] t j u
  text-over t j [] = refl
  text-over t j (f ∷ u) = ap (λ (s : List ℕ). line_text name t j f ++ s) (text-over t (suc j) u)

  prints-by : (o : List ℕ) (u : List Frame) → by_rows printing [] o u ≡ prints name o u
  prints-by o [] = refl
  prints-by o (f ∷ u) = ap (λ (s : List ℕ). prints_of name o f ++ s) (prints-by (row_step f o) u)

  stacks_over : (t : List Frame) (j : ℕ) (u : List Frame) → stacks_from name t j u ≡ over (says_of name) [] t j u
  stacks_over t j [] = refl
  stacks_over t j (f ∷ u) = ap (λ (l : List Stack). says_of name (rows_at t j) f l) (stacks_over t (suc j) u)

  says-by : (o : List ℕ) (u : List Frame) → by_rows (says_of name) [] o u ≡ says name o u
  says-by o [] = refl
  says-by o (f ∷ u) = ap (λ (l : List Stack). says_of name o f l) (says-by (row_step f o) u)

  -- LAW: the folded text is what the lines print, and its stacks what they say, with the root open at the first
  pub folded-prints : (t : List Frame) → AllInTable t → folded name t ≡ prints name (0 ∷ []) t
  folded-prints t k = text-over t 0 t ∙ tied printing [] t k ∙ prints-by (0 ∷ []) t

  pub stacks_say : (t : List Frame) → AllInTable t → stacks_of name t ≡ says name (0 ∷ []) t
  stacks_say t k = stacks_over t 0 t ∙ tied (says_of name) [] t k ∙ says-by (0 ∷ []) t
