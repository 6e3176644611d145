-- The promise determines its outcome: for the same text, limits, line and room there is one.
use mathlib.Core.Path.{◌≡◌, refl, ap, ◌∙◌, sym, subst}
use mathlib.Core.Logic.{inl, inr}
use mathlib.Core.List.{List}
use Prim.Native.Nat.{ℕ}
use native.Mathlib.Omega.{arith}
use lib.ListN.{length}
use lib.Seq.{ext_get_or}
use Rattle.std.specs.Prelude.{Result, Ok}
use Rattle.line.specs.declared.Frame.{Frame}
use Rattle.line.specs.declared.Refusal.{Refusal}
use Rattle.trace.specs.Refusals.{Verdict, accepted, refused, verdict}
use Rattle.trace.specs.Promise.{Marks}
use Rattle.trace.proofs.Basics.{below}
use Rattle.why.specs.declared.Why.{Why}
use Rattle.why.specs.Why.{Shown}
use Rattle.why.specs.Promise.{roomy, asking, Answers, Keeps, Asked}
use Rattle.why.proofs.Unique.{why_unique, shown_unique}

marks_unique : (n : ℕ) (c m a b : List ℕ) → Marks n c m a → Marks n c m b → a ≡ b
marks_unique n c m a b h k =
    ext_get_or 0 a b (h.same_length ∙ sym k.same_length)
    (λ i l. elim (below n i) [ inl g ↦ h.marks_are i g ∙ sym (k.marks_are i g) | inr w ↦ h.rest i (omega (arith, w.1)) ∙ sym (k.rest i (omega (arith, w.1))) ])

module _ (q : ℕ) (scratch m : List ℕ) (r r' : Result Why Refusal) (a a' x x' : List ℕ) where
  answers_unique : (t : List Frame) → Answers t q scratch m r a x → Answers t q scratch m r' a' x' → (r ≡ r') × (a ≡ a') × (x ≡ x')
  answers_unique t h k =
      let e = why_unique t q h.answer k.answer h.told.is_true k.told.is_true in
      let s = subst (λ (w : Why). Shown t q w h.told.lines) e h.told.are_shown in
      let c = shown_unique t q k.answer h.told.lines k.told.lines s k.told.are_shown in (
        h.given ∙ ap Ok e ∙ sym k.given,
        h.zero ∙ sym k.zero,
        marks_unique (length t) k.told.lines m x x' (subst (λ (l : List ℕ). Marks (length t) l m x) c h.told.marked) k.told.marked,
      )

  keeps_unique : (v : Verdict) → Keeps q v scratch m r a x → Keeps q v scratch m r' a' x' → (r ≡ r') × (a ≡ a') × (x ≡ x')
  keeps_unique (accepted t) h k = answers_unique t (h.when_accepted t refl) (k.when_accepted t refl)
  keeps_unique (refused n l) h k =
      let u = h.when_refused n l refl in
      let w = k.when_refused n l refl in
      (u.0 ∙ sym w.0, u.1 ∙ sym w.1, u.2 ∙ sym w.2)

  -- LAW: one answer, one scratch and one list of marks
  pub asked_unique : (s : List ℕ) (D M : ℕ) → Asked s D M q scratch m r a x → Asked s D M q scratch m r' a' x' → (r ≡ r') × (a ≡ a') × (x ≡ x')
  asked_unique s D M = keeps_unique (asking q (verdict s D M (roomy (length s) D (length scratch) (length m))))
