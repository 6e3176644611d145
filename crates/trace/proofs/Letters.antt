-- Texts with the same small-letter form are judged the same, so an engine makes the same of them.
use Prim.Native.Nat.{ℕ, zero, suc, ◌/◌}
use mathlib.Core.Bool.{Bool, cond}
use mathlib.Core.List.{List, [], ◌∷◌}
use mathlib.Core.Path.{◌≡◌, refl, ap, ap₂, ◌∙◌, sym, subst}
use lib.Dec.{eqb}
use Rattle.digits.specs.Digits.{small_form}
use Rattle.digits.proofs.Laws.{small-length, form_again}
use Rattle.line.specs.Family.{Family}
use Rattle.line.specs.Read.{width, Read}
use Rattle.line.proofs.Small.{read_at_small_of}
use Rattle.trace.specs.Answer.{Answer}
use Rattle.trace.specs.Refusals.{line_count, checks, Verdict, refused, scan, reads_from_of, reads_of, verdict_of}
use Rattle.trace.specs.Promise.{Engine, Lent, enough, PromiseOf}
use Rattle.trace.proofs.Checks.{same-room}
use Rattle.trace.proofs.Outcome.{promise_unique_of}

reads-from-small : (g : Family) (s : List ℕ) (n count : ℕ) → reads_from_of g (small_form s) n count ≡ reads_from_of g s n count
reads-from-small g s n zero = refl
reads-from-small g s n (suc count) = ap₂ (λ (r : Read) (l : List Read). r ∷ l) (read_at_small_of g s n) (reads-from-small g s (suc n) count)

module _ (g : Family) (s : List ℕ) where
  count_small : line_count (small_form s) ≡ line_count s
  count_small = ap (λ (n : ℕ). n / width) (small-length s)

  reads-small : reads_of g (small_form s) ≡ reads_of g s
  reads-small = reads-from-small g s 0 (line_count (small_form s)) ∙ ap (reads_from_of g s 0) count_small

  -- LAW: a text and its small-letter form get the same verdict
  pub verdict-small : (D M : ℕ) (room : Bool) → verdict_of g (small_form s) D M room ≡ verdict_of g s D M room
  verdict-small D M room = ap₂ judge (small-length s) reads-small
    where
      judge : ℕ → List Read → Verdict
      judge bytes rs = cond (eqb (checks bytes D M room) 0) (scan D M [] rs) (refused (checks bytes D M room) 0)

  -- what an engine promises of the one it promises of the other
  promise_small : (e : Engine) (D M : ℕ) (before : Lent) (r : Answer) (after : Lent) → PromiseOf g e s D M before r after → PromiseOf g e (small_form s) D M before r after
  promise_small e D M before r after h =
      let v : verdict_of g (small_form s) D M (enough e (small_form s) D M before) ≡ verdict_of g s D M (enough e s D M before) =
      verdict-small D M (enough e (small_form s) D M before) ∙ ap (verdict_of g s D M) (same-room e s (small_form s) D M before count_small) in
      record { when_accepted = λ t a. h.when_accepted t (sym v ∙ a); when_refused = λ number line a. h.when_refused number line (sym v ∙ a) }

-- LAW: two texts with the same small-letter form get the same answer, rows and marks
pub case_blind : (g : Family) (e : Engine) (s z : List ℕ) (D M : ℕ) (before : Lent) (r q : Answer) (x y : Lent)
    → small_form s ≡ small_form z → PromiseOf g e s D M before r x → PromiseOf g e z D M before q y → (r ≡ q) × (x ≡ y)
case_blind g e s z D M before r q x y same h k =
    promise_unique_of g e (small_form z) D M before r q x y
    (subst (λ (l : List ℕ). PromiseOf g e l D M before r x) same (promise_small g s e D M before r x h)) (promise_small g z e D M before q y k)

-- LAW: a trace and its small-letter form do
pub form_same : (g : Family) (e : Engine) (s : List ℕ) (D M : ℕ) (before : Lent) (r q : Answer) (x y : Lent)
    → PromiseOf g e s D M before r x → PromiseOf g e (small_form s) D M before q y → (r ≡ q) × (x ≡ y)
form_same g e s D M before r q x y = case_blind g e s (small_form s) D M before r q x y (sym (form_again s))
