-- A forecast is the profile of a text that a person can write and check: the rewritten trace, written out by the line
-- writer.
use mathlib.Core.Path.{◌≡◌, sym, ◌∙◌, ap, subst}
use mathlib.Core.Bool.{Bool, true, false}
use mathlib.Core.List.{List, [], ◌∷◌, ◌++◌}
use Prim.Native.Nat.{ℕ, suc, ◌≤◌}
use native.Mathlib.Omega.{arith}
use borrow.Author.Tests.{le-leb}
use Rattle.line.specs.Family.{Base}
use Rattle.line.specs.declared.Frame.{Frame}
use Rattle.line.specs.declared.Frame.TheVariants.{Site, Call, Spawn, Sync, Return, Cost, Instructions, Async, Finish}
use Rattle.line.specs.Write.{writable}
use Rattle.line.proofs.Writable.{writable-value}
use Rattle.trace.specs.Answer.{Answer}
use Rattle.trace.specs.Shape.{root, step, sites}
use Rattle.trace.specs.Refusals.{line_count, accepted, verdict}
use Rattle.trace.specs.Promise.{Engine, Lent, enough, Kept, Promise}
use Rattle.trace.specs.Written.{text_of}
use Rattle.trace.proofs.Checks.{same-room}
use Rattle.trace.proofs.Scan.{InTable, Clean, Fine, accepted-is, accepted-fine, accepted-length}
use Rattle.trace.proofs.Parse.{accepted-parts}
use Rattle.trace.proofs.Written.{Writable, text-lines, text-accepted, accepted-writable}
use Rattle.weigh.specs.Cost.{costing}
use Rattle.weigh.proofs.Accepted.{reweighed-fine}
use Rattle.forecast.specs.declared.Entry.{Entry}
use Rattle.forecast.specs.Rewritten.{divided, factor_at, rewritten_from, rewritten}
use Rattle.forecast.specs.Asked.{bad_factor, asked, asking}
use Rattle.forecast.specs.Promise.{Forecast}
use Rattle.forecast.specs.ByRow.{by_entries}
use Rattle.forecast.proofs.Divided.{divided-least, divided-most}
use Rattle.forecast.proofs.ByRow.{rewritten-weighed}
use Rattle.forecast.proofs.Asked.{entries-tabled, asked_good, asking_good}
use Rattle.forecast.proofs.Outcome.{rewritten-length}
use Rattle.forecast.proofs.Gain.{least}

-- ── its lines can be written ──

-- a cost divided by a factor stays in the table
divided-writable : (f : Frame) (k : ℕ) → 1 ≤ k → InTable Base f → writable f ≡ true → writable (costing (λ v. divided v k) f) ≡ true
divided-writable (Site s p) k l h w = w
divided-writable (Call s) k l h w = w
divided-writable (Spawn s) k l h w = w
divided-writable Sync k l h w = w
divided-writable Return k l h w = w
divided-writable (Instructions v) k l h w = w
divided-writable (Async s) k l h w = w
divided-writable Finish k l h w = w
divided-writable (Cost v) k l h w =
    writable-value (Cost (divided v k)) (divided v k) (omega (arith, divided-most v k l, h.1)) ∙ le-leb 1 (divided v k) (divided-least v k h.0 l)

module _ (es : List Entry) (good : bad_factor es ≡ false) (t : List Frame) (D M : ℕ) where
  lines-writable : (n : ℕ) (o : List ℕ) (before u : List Frame) → Clean Base D M before u → Writable u → Writable (rewritten_from es t n o u)
  lines-writable n o before [] c w = tt
  lines-writable n o before (f ∷ u) c w =
      (divided-writable f (factor_at es t o) (least es good t o) c.1 w.0, lines-writable (suc n) (step n f o) (before ++ f ∷ []) u c.2 w.1)

-- ── its text ──

module _ (es : List Entry) (s : List ℕ) (D M : ℕ) (room : Bool) (t : List Frame) (a : verdict s D M room ≡ accepted t) (may : asked (sites t) es ≡ 0) where
  good : bad_factor es ≡ false
  good = (asked_good (sites t) es may).1

  writes : Writable (rewritten es t)
  writes = lines-writable es good t D M 0 (root ∷ []) [] t (accepted-fine s D M room t a).clean (accepted-writable s D M room t a)

  fine : Fine Base D M (rewritten es t)
  fine = subst (Fine Base D M) (sym (rewritten-weighed es t D (accepted-parts s D M room t a))) (reweighed-fine (by_entries es) (entries-tabled es good) D M t (accepted-fine s D M room t a))

  -- LAW: the rewritten trace, written out by the line writer, is accepted as the rewritten trace
  pub forecast_written : verdict (text_of (rewritten es t)) D M true ≡ accepted (rewritten es t)
  forecast_written = text-accepted D M (rewritten es t) fine writes

  -- it has as many lines, so that its room is that of the text
  pub same_lines : line_count (text_of (rewritten es t)) ≡ line_count s
  same_lines = text-lines (rewritten es t) writes ∙ rewritten-length es t D (accepted-parts s D M room t a) ∙ accepted-length s D M room t a

-- LAW: every outcome of a forecast, where the trace is accepted and the entries may be asked, is one of the plain profile
-- of that text, with the same limits and the same room
pub forecast_is_profile : (e : Engine) (es : List Entry) (s : List ℕ) (D M : ℕ) (before : Lent) (t : List Frame) → verdict s D M (enough e s D M before) ≡ accepted t → asked (sites t) es ≡ 0
    → (r : Answer) (after : Lent) → Forecast e es s D M before r after → Promise e (text_of (rewritten es t)) D M before r after
forecast_is_profile e es s D M before t a may r after p =
    let u = text_of (rewritten es t) in
    let there : enough e u D M before ≡ true = same-room e s u D M before (same_lines es s D M (enough e s D M before) t a may) ∙ (accepted-is s D M (enough e s D M before) t a).0 in
    subst (λ v. Kept e v before r after)
    (ap (asking es) a ∙ asking_good es t may ∙ sym (ap (verdict u D M) there ∙ forecast_written es s D M (enough e s D M before) t a may)) p
