-- What may be asked: the factors are in their range, and which trace a forecast is of.
use mathlib.Core.Path.{◌≡◌, refl, sym, ap, ◌∙◌}
use mathlib.Core.Bool.{Bool, true, false, not, cond, ◌||◌}
use mathlib.Core.List.{List, [], ◌∷◌}
use Prim.Native.Nat.{ℕ, ◌≤◌, ◌<◌}
use native.Mathlib.Omega.{arith}
use lib.Dec.{eqb, ltb, leb}
use borrow.Author.Tests.{eqb-true, eq-eqb, ne_eqb, ltb-false, leb-true}
use Rattle.line.specs.declared.Frame.{Frame}
use Rattle.trace.specs.Shape.{has, sites}
use Rattle.trace.specs.Rows.{of_row}
use Rattle.trace.specs.Refusals.{Verdict, accepted, refused}
use Rattle.trace.proofs.Basics.{both, clash, neither}
use Rattle.trace.proofs.Scan.{accepted-same}
use Rattle.weigh.specs.Weighed.{Tabled}
use Rattle.forecast.specs.declared.Entry.{Entry}
use Rattle.forecast.specs.Rewritten.{factor_of, rewritten}
use Rattle.forecast.specs.Asked.{too_long, ascending, all_declared, bad_list, bad_factor, asked, asking}
use Rattle.forecast.specs.ByRow.{row_factor, by_entries}
use Rattle.forecast.proofs.Divided.{divided-least, divided-most}

-- ── the factors ──

either_range : (b : Bool) (x y : ℕ) → (1 ≤ x) × (x ≤ 1000) → (1 ≤ y) × (y ≤ 1000) → (1 ≤ cond b x y) × (cond b x y ≤ 1000)
either_range true x y h k = h
either_range false x y h k = k

good : (e : Entry) (es : List Entry) → bad_factor (e ∷ es) ≡ false → ((1 ≤ e.factor) × (e.factor ≤ 1000)) × (bad_factor es ≡ false)
good e es h =
    let a = neither (ltb e.factor 2 || ltb 1000 e.factor) (bad_factor es) h in
    let b = neither (ltb e.factor 2) (ltb 1000 e.factor) a.0 in
    ((omega (arith, ltb-false e.factor 2 b.0), omega (arith, ltb-false 1000 e.factor b.1)), a.1)

pub factor_range : (es : List Entry) (s : ℕ) → bad_factor es ≡ false → (1 ≤ row_factor es s) × (row_factor es s ≤ 1000)
factor_range [] s h = (omega arith, omega arith)
factor_range (e ∷ es) s h =
    let a = good e es h in
    either_range (eqb s e.row) e.factor (row_factor es s) a.0 (factor_range es s a.1)

pub factor_of_range : (es : List Entry) (t : List Frame) (F : ℕ) → bad_factor es ≡ false → (1 ≤ factor_of es t F) × (factor_of es t F ≤ 1000)
factor_of_range [] t F h = (omega arith, omega arith)
factor_of_range (e ∷ es) t F h =
    let a = good e es h in
    either_range (has F (of_row t e.row)) e.factor (factor_of es t F) a.0 (factor_of_range es t F a.1)

-- a cost divided by its row's factor stays in the table
pub entries-tabled : (es : List Entry) → bad_factor es ≡ false → Tabled (by_entries es)
entries-tabled es h n s v l k =
    let r = factor_range es s h in
    (divided-least v (row_factor es s) l r.0, omega (arith, divided-most v (row_factor es s) r.0))

-- ── the whole list ──

no_refusal : (a b : Bool) → ◌≡◌ {A = ℕ} (cond a 19 (cond b 20 0)) 0 → (a ≡ false) × (b ≡ false)
no_refusal true b h = absurd (omega arith)
no_refusal false true h = absurd (omega arith)
no_refusal false false h = (refl, refl)

pub asked_good : (m : ℕ) (es : List Entry) → asked m es ≡ 0 → (bad_list m es ≡ false) × (bad_factor es ≡ false)
asked_good m es h = no_refusal (bad_list m es) (bad_factor es) h

-- a forecast is of a trace that the verdict accepts
pub record Of (es : List Entry) (v : Verdict) (u : List Frame) : Type 0 where
  pub trace : List Frame
  pub accepts : v ≡ accepted trace
  pub may : asked (sites trace) es ≡ 0
  pub is : u ≡ rewritten es trace

pub forecast_of : (es : List Entry) (v : Verdict) (u : List Frame) → asking es v ≡ accepted u → Of es v u
forecast_of es (refused n k) u h = clash (cc)
forecast_of es (accepted t) u h = go (eqb (asked (sites t) es) 0) refl h
  where
    go : (b : Bool) → eqb (asked (sites t) es) 0 ≡ b → cond b (accepted (rewritten es t)) (refused (asked (sites t) es) 0) ≡ accepted u → Of es (accepted t) u
    go true e q = record { trace = t; accepts = refl; may = eqb-true (asked (sites t) es) 0 e; is = sym (accepted-same (rewritten es t) u q) }
    go false e q = clash (cc)

-- and where nothing is refused it is the rewritten one
pub asking_good : (es : List Entry) (t : List Frame) → asked (sites t) es ≡ 0 → asking es (accepted t) ≡ accepted (rewritten es t)
asking_good es t h = ap (λ (b : Bool). cond b (accepted (rewritten es t)) (refused (asked (sites t) es) 0)) (eq-eqb (asked (sites t) es) 0 h)

-- a refusal is one of the list's
pub asking-bad : (es : List Entry) (t : List Frame) → (asked (sites t) es ≡ 0 → ⊥) → asking es (accepted t) ≡ refused (asked (sites t) es) 0
asking-bad es t h = ap (λ (b : Bool). cond b (accepted (rewritten es t)) (refused (asked (sites t) es) 0)) (ne_eqb (asked (sites t) es) 0 h)

-- ── rows that no entry names ──

behind-declared : (m : ℕ) (es : List Entry) (s : ℕ) → all_declared m es ≡ true → m < s → row_factor es s ≡ 1
behind-declared m [] s h l = refl
behind-declared m (e ∷ es) s h l =
    let k = both (leb e.row m) (all_declared m es) h in
    ap (λ (b : Bool). cond b e.factor (row_factor es s)) (ne_eqb s e.row (λ q. omega (arith, leb-true e.row m k.0))) ∙ behind-declared m es s k.1 l

-- LAW: a row behind the sites has no factor
pub undeclared-row : (m : ℕ) (es : List Entry) (s : ℕ) → asked m es ≡ 0 → m < s → row_factor es s ≡ 1
undeclared-row m es s h l = behind-declared m es s (declared (too_long es) (not (ascending es)) (all_declared m es) (asked_good m es h).0) l
  where
    declared : (a b c : Bool) → (a || b || not c) ≡ false → c ≡ true
    declared a b true e = refl
    declared true b false e = clash (cc)
    declared false true false e = clash (cc)
    declared false false false e = clash (cc)
