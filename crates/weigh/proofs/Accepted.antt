-- A trace whose cost lines weigh otherwise, within the table, keeps the rules; it is the weighed body.
use mathlib.Core.Path.{◌≡◌, refl, sym, ◌∙◌, ap, subst}
use mathlib.Core.Bool.{Bool, false}
use mathlib.Core.List.{List, [], ◌∷◌}
use Prim.Native.Nat.{ℕ, suc}
use native.Mathlib.Omega.{arith}
use lib.ListN.{length}
use Rattle.line.specs.Family.{Family}
use Rattle.line.specs.declared.Frame.{Frame}
use Rattle.line.specs.declared.Frame.TheVariants.{Site, Call, Spawn, Sync, Return, Cost, Instructions, Async, Finish}
use Rattle.trace.specs.Shape.{sites}
use Rattle.trace.specs.Refusals.{is_cost}
use Rattle.trace.specs.Tree.{Within, PartsOf}
use Rattle.trace.proofs.Scan.{Fine}
use Rattle.trace.proofs.Named.{Named, naming, sites_alike}
use Rattle.trace.proofs.Owned.{Owned}
use Rattle.trace.proofs.Accept.{fine-is-trace, trace-is-fine}
use Rattle.weigh.specs.Cost.{costing}
use Rattle.weigh.specs.Weighed.{Weigh, Tabled, weighed, innermost, row_step, reweighed}
use Rattle.weigh.proofs.Alike.{bare, ButCosts, alike_length}
use Rattle.weigh.proofs.Weighed.{weighed-within, weighed-of, reweighed-trace}

pub costing-bare : (g : ℕ → ℕ) (f : Frame) → bare f ≡ bare (costing g f)
costing-bare g (Site s p) = refl
costing-bare g (Call s) = refl
costing-bare g (Spawn s) = refl
costing-bare g Sync = refl
costing-bare g Return = refl
costing-bare g (Cost v) = refl
costing-bare g (Instructions v) = refl
costing-bare g (Async s) = refl
costing-bare g Finish = refl

-- LAW: the weighed trace differs only in what its cost lines weigh
pub reweighed_alike : (w : Weigh) (t : List Frame) (n : ℕ) (o : List ℕ) → ButCosts t (reweighed w n o t)
reweighed_alike w [] n o = tt
reweighed_alike w (e ∷ t) n o = (costing-bare (w n (innermost o)) e, reweighed_alike w t (suc n) (row_step e o))

costing-naming : (g : ℕ → ℕ) (f : Frame) (t u : List Frame) → naming t ≡ naming u → naming (costing g f ∷ t) ≡ naming (f ∷ u)
costing-naming g (Site s p) t u e = ap (λ (l : List Frame). Site s p ∷ l) e
costing-naming g (Call s) t u e = ap (λ (l : List Frame). Call s ∷ l) e
costing-naming g (Spawn s) t u e = ap (λ (l : List Frame). Spawn s ∷ l) e
costing-naming g Sync t u e = e
costing-naming g Return t u e = e
costing-naming g (Cost v) t u e = e
costing-naming g (Instructions v) t u e = e
costing-naming g (Async s) t u e = ap (λ (l : List Frame). Async s ∷ l) e
costing-naming g Finish t u e = e

-- its sites are named as they were
reweighed-naming : (w : Weigh) (t : List Frame) (n : ℕ) (o : List ℕ) → naming (reweighed w n o t) ≡ naming t
reweighed-naming w [] n o = refl
reweighed-naming w (e ∷ t) n o = costing-naming (w n (innermost o)) e (reweighed w (suc n) (row_step e o) t) t (reweighed-naming w t (suc n) (row_step e o))

pub reweighed-sites : (w : Weigh) (t : List Frame) (n : ℕ) (o : List ℕ) → sites (reweighed w n o t) ≡ sites t
reweighed-sites w t n o = sites_alike (reweighed w n o t) t (reweighed-naming w t n o)

-- its 07 lines stand directly after costs as they did
costing-owned : (g : ℕ → ℕ) (c : Bool) (f : Frame) (t u : List Frame) → Owned c (f ∷ t) → (Owned (is_cost f) t → Owned (is_cost f) u) → Owned c (costing g f ∷ u)
costing-owned g c (Site s p) t u h k = (h.0, k h.1)
costing-owned g c (Call s) t u h k = (h.0, k h.1)
costing-owned g c (Spawn s) t u h k = (h.0, k h.1)
costing-owned g c Sync t u h k = (h.0, k h.1)
costing-owned g c Return t u h k = (h.0, k h.1)
costing-owned g c (Cost v) t u h k = (h.0, k h.1)
costing-owned g c (Instructions v) t u h k = (h.0, k h.1)
costing-owned g c (Async s) t u h k = (h.0, k h.1)
costing-owned g c Finish t u h k = (h.0, k h.1)

reweighed-owned : (w : Weigh) (c : Bool) (t : List Frame) (n : ℕ) (o : List ℕ) → Owned c t → Owned c (reweighed w n o t)
reweighed-owned w c [] n o h = tt
reweighed-owned w c (e ∷ t) n o h = costing-owned (w n (innermost o)) c e t (reweighed w (suc n) (row_step e o) t) h (reweighed-owned w (is_cost e) t (suc n) (row_step e o))

module _ (w : Weigh) (tabled : Tabled w) (D M : ℕ) (t : List Frame) where
  -- the whole trace so weighed
  abbrev other : List Frame
  other = reweighed w 0 (0 ∷ []) t

  -- LAW: it is the weighed body
  abbrev pub reweighed_parts : {f : Family} → PartsOf f D t → PartsOf f D other
  reweighed_parts {f = f} p =
      record {
        body = weighed w 0 0 p.body;
        of = weighed-of f w p.body 0 0 p.of;
        lines = ap (reweighed w 0 (0 ∷ [])) p.lines ∙ reweighed-trace f w p.body p.of;
        within = subst (λ (m : ℕ). Within m D 1 (weighed w 0 0 p.body)) (sym (reweighed-sites w t 0 (0 ∷ []))) (weighed-within w tabled (sites t) D 1 p.body 0 0 p.within);
      }

  -- LAW: it keeps the rules within the same limits
  pub reweighed-fine : {f : Family} → Fine f D M t → Fine f D M other
  reweighed-fine h =
      let x = fine-is-trace D M t h in
      let p = reweighed_parts (record { body = x.body; of = x.of; lines = x.lines; within = x.within }) in
      let lines : length other ≡ length t = sym (alike_length t other (reweighed_alike w t 0 (0 ∷ []))) in
      trace-is-fine D M other h.least h.most h.sites_most (omega (arith, h.lines_most))
      (record { body = p.body; of = p.of; lines = p.lines; named = subst (Named M []) (sym (reweighed-naming w t 0 (0 ∷ []))) x.named; owned = reweighed-owned w false t 0 (0 ∷ []) x.owned; within = p.within })
