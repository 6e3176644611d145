-- A line that is seen at a glance declares no place: all that can stand against it is that it is stray. One that is not
-- seen is no 07 line: all that can is that its place is declared already.
use mathlib.Core.Path.{◌≡◌, sym, ◌∙◌, ap}
use mathlib.Core.Bool.{Bool, ◌||◌, or-false}
use mathlib.Core.List.{List}
use Prim.Native.Nat.{ℕ}
use Rattle.std.specs.Prelude.{Some, None}
use Rattle.line.specs.declared.Frame.{Frame}
use Rattle.line.specs.Seeing.{seen_of, glanced}
use Rattle.line.proofs.Seeing.{seen-line}
use Rattle.line.specs.Read.{Read, says}
use Rattle.admit.specs.declared.Tally.{Tally}
use Rattle.admit.specs.Step.{Tallied, seen, kept, stray_at, stepped, Judged}
use Rattle.admit.proofs.Keys.{none_seen}
use Rattle.admit.proofs.Strays.{unseen-stray}

module _ (D M : ℕ) (s ks : List ℕ) (t : Tally) (f : Frame) (against : Bool) (x : Tallied) (is : x ≡ stepped D M against t f) where
  pub judged-seen : (r : Read) → glanced r ≡ Some f → against ≡ stray_at s t.lines f → Judged D M s ks t r x ks
  judged-seen r g a =
      let l = seen-line r f g in
      let p = none_seen ks t.sites f l.1.1 in
      let q = a ∙ sym (ap (λ (b : Bool). b || stray_at s t.lines f) p.0) in
      rw l.1.0 (is ∙ ap (λ (b : Bool). stepped D M b t f) q, sym p.1)

  pub judged-unseen : (k : ℕ) → seen_of f ≡ None → against ≡ seen ks t.sites f → (ks' : List ℕ) → ks' ≡ kept ks t.sites f → Judged D M s ks t (says k f) x ks'
  judged-unseen k u a ks' i =
      let z = unseen-stray s t.lines f u in
      let b = seen ks t.sites f in
      (is ∙ ap (λ (b : Bool). stepped D M b t f) (a ∙ sym (ap (λ (c : Bool). b || c) z ∙ or-false b)), i)
