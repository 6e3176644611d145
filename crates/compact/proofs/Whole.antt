-- From acceptance to what is answered and left: the trace as the passes ask for it, and each decision. Assumes nothing.
use mathlib.Core.Path.{◌≡◌, sym, ◌∙◌, ap, subst}
use mathlib.Core.Bool.{Bool, true, false}
use mathlib.Core.List.{List, ◌++◌}
use Prim.Native.Nat.{ℕ, ◌+◌, ◌≤◌}
use native.Mathlib.Omega.{arith}
use lib.Dec.{leb}
use lib.ListN.{length, drop}
use borrow.Author.Tests.{leb-true, leb-false}
use Rattle.std.specs.Prelude.{Ok, Err}
use Rattle.line.specs.Family.{Base}
use Rattle.line.specs.declared.Frame.{Frame}
use Rattle.line.specs.Read.{read_at, says}
use Rattle.line.specs.Refusal.{refusal}
use Rattle.trace.specs.Refusals.{accepted, verdict}
use Rattle.trace.specs.Written.{text_of}
use Rattle.trace.proofs.Basics.{clash}
use Rattle.trace.proofs.Scan.{Fine, accepted-fine, accepted-same, accepted-reads, accepted-length}
use Rattle.trace.proofs.Written.{Writable, text-length, accepted-writable}
use Rattle.admit.specs.declared.Accepted.{Accepted}
use Rattle.admit.specs.Answer.{answer_of}
use Rattle.admit.proofs.Admitted.{accepted-only}
use Rattle.walk.specs.Stands.{Stands}
use Rattle.walk.proofs.Stands.{stands-all}
use Rattle.report.specs.Room.{fitting, Writes, Lays, Wrote}
use Rattle.report.proofs.Decisions.{written, fitting_short, fitting-text}
use Rattle.report.proofs.Decisions.{refused as refused-so}
use Rattle.report.proofs.Laying.{laid-front}
use Rattle.compact.specs.Fold.{compact}
use Rattle.compact.specs.Machine.{start, outs}
use Rattle.compact.specs.Pass.{Lines, Fits, Ends}
use Rattle.compact.specs.Promise.{shelved, Shelved, Compacts}
use Rattle.compact.proofs.Tied.{compact-is}
use Rattle.compact.proofs.Result.{compact-writable, result-lines, result-length}
use Rattle.compact.proofs.Machine.{fine-inside, fine-owned, outs-compact, room-trace}

-- ── an accepted trace ──

module _ (s : List ℕ) (D M : ℕ) (t : List Frame) (e : verdict s D M true ≡ accepted t) where
  fine : Fine Base D M t
  fine = accepted-fine s D M true t e

  outs_are : outs start t ≡ compact t
  outs_are = outs-compact t (fine-inside D M t fine) (fine-owned D M t fine)

  few : length (outs start t) ≤ 65536
  few = omega (arith, ap length outs_are, result-lines s D M true t e (compact t) (compact-is t), fine.lines_most)

  writable : Writable (outs start t)
  writable = subst Writable (sym outs_are) (compact-writable t (accepted-writable s D M true t e))

  stands : Stands Base s 0 t
  stands = stands-all Base s t 0 (λ i f h. let z : i ≡ 0 + i = omega arith in subst (λ (k : ℕ). read_at s k ≡ says k f) z (accepted-reads s D M true t e i f h))

  abbrev lines : (n : ℕ) → length t ≡ n → Lines s n
  lines n l =
      record {
        frames = t;
        stands = stands;
        long = l;
        all = sym (accepted-length s D M true t e) ∙ l;
        room = room-trace t (fine-inside D M t fine);
        few = few;
        size = text-length (outs start t) writable;
        no_longer = omega (arith, ap (λ (u : List Frame). length (text_of u)) outs_are, result-length s D M true t e (compact t) (compact-is t));
      }

-- ── what is answered and left ──

module _ (s : List ℕ) (D M : ℕ) (out : List ℕ) where
  pub admitted : (a : Accepted) → Ok a ≡ answer_of (verdict s D M true) → Lines s a.lines
  admitted a e = let x = accepted-only (verdict s D M true) a e in lines s D M x.0 x.1 a.lines x.3

  pub accepted_compacts : (a : Accepted) (r : Wrote) (after : List ℕ) → Ok a ≡ answer_of (verdict s D M true) → Ends s a.lines r out after → Compacts s D M r out after
  accepted_compacts a r after e h =
      let x = accepted-only (verdict s D M true) a e in
      let t = x.0 in
      let w = h (lines s D M t x.1 a.lines x.3) in
      let done : Shelved t r out after = record {
        result = compact t;
        compacted = compact-is t;
        writes = subst (λ (u : List Frame). Writes (shelved u (length out)) r out after) (outs_are s D M t x.1) w;
      } in
      record {
        when_accepted = λ u k. subst (λ (v : List Frame). Shelved v r out after) (accepted-same t u (sym x.1 ∙ k)) done;
        when_refused = λ number line k. clash (let z = sym x.1 ∙ k in cc);
      }

-- ── whether it fits ──

module _ {s : List ℕ} {n : ℕ} (q : Lines s n) where
  abbrev text : List ℕ
  text = text_of (outs start q.frames)

  module _ (out : List ℕ) (b : Bool) (is : b ≡ leb (length text) (length out)) where
    pub short_21 : b ≡ false → Writes (fitting 21 text (length out)) (Err (refusal 21 0)) out out
    short_21 h = refused-so 21 0 out (fitting_short 21 text (length out) (leb-false (length text) (length out) (sym is ∙ h)))

    abbrev pub fits : b ≡ true → Fits s n (length out)
    fits h = record { trace = q; fits = leb-true (length text) (length out) (sym is ∙ h) }

    pub all-written : b ≡ true → (r : ℕ) (after : List ℕ) → Lays 0 text out r after → Writes (fitting 21 text (length out)) (Ok r) out after
    all-written h r after w =
        let l : length text ≡ r = omega (arith, w.ends) in
        written text out after r (fitting-text 21 text (length out) (leb-true (length text) (length out) (sym is ∙ h))) l
        (w.left ∙ laid-front text out ∙ ap (λ (k : ℕ). text ++ drop k out) l)
