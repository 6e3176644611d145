-- What an engine learns from the answer: which verdict it is, and what an accepted trace keeps within.
use mathlib.Core.Path.{◌≡◌, refl}
use mathlib.Core.Bool.{Bool}
use mathlib.Core.List.{List}
use Prim.Native.Nat.{ℕ, ◌/◌, ◌≤◌}
use lib.ListN.{length}
use Rattle.std.specs.Prelude.{Ok, Err}
use Rattle.line.specs.Family.{Family, Base}
use Rattle.line.specs.declared.Frame.{Frame}
use Rattle.line.specs.declared.Refusal.{Refusal}
use Rattle.line.specs.Refusal.{refusal}
use Rattle.trace.specs.Shape.{sites}
use Rattle.trace.specs.Refusals.{accepted, refused, verdict_of, verdict}
use Rattle.trace.specs.Refusals.{Verdict as Judgement}
use Rattle.trace.proofs.Basics.{clash}
use Rattle.trace.proofs.Scan.{accepted-fine-of, accepted-length-of}
use Rattle.trace.proofs.Accept.{sites_le_M}
use Rattle.admit.specs.declared.Accepted.{Accepted}
use Rattle.admit.specs.Answer.{answer_of}

-- the answer is a refusal only where the verdict is that refusal
pub refused-only : (v : Judgement) (r : Refusal) → Err r ≡ answer_of v → v ≡ refused r.number r.line
refused-only (accepted t) r e = clash (cc)
refused-only (refused n k) r e = let z : r ≡ refusal n k = cc in rw z refl

-- the answer is an acceptance only where the verdict is one, with these numbers
pub accepted-only : (v : Judgement) (a : Accepted) → Ok a ≡ answer_of v → (t : List Frame) × (v ≡ accepted t) × (sites t ≡ a.sites) × (length t ≡ a.lines)
accepted-only (accepted t) a e = let z : a ≡ record { sites = sites t; lines = length t } = cc in (t, refl, rw z refl, rw z refl)
accepted-only (refused number line) a e = clash (cc)

module _ (g : Family) (s : List ℕ) (D M : ℕ) (room : Bool) (t : List Frame) (e : verdict_of g s D M room ≡ accepted t) where
  pub accepted-sites-of : sites t ≤ M
  accepted-sites-of = sites_le_M D M t (accepted-fine-of g s D M room t e)

  pub accepted-lines-of : length t ≤ 65536
  accepted-lines-of = (accepted-fine-of g s D M room t e).lines_most

  pub accepted-count-of : length t ≡ length s / 23
  accepted-count-of = accepted-length-of g s D M room t e

-- the same of document 01's traces
module _ (s : List ℕ) (D M : ℕ) (room : Bool) (t : List Frame) (e : verdict s D M room ≡ accepted t) where
  pub accepted-sites : sites t ≤ M
  accepted-sites = accepted-sites-of Base s D M room t e

  pub accepted-lines : length t ≤ 65536
  accepted-lines = accepted-lines-of Base s D M room t e

  pub accepted-count : length t ≡ length s / 23
  accepted-count = accepted-count-of Base s D M room t e
