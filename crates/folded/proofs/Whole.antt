-- From acceptance to what is left: the trace as the writer asks for it, and each decision. Assumes nothing.
use Prim.Native.Nat.{ℕ, ◌+◌, ◌≤◌, ◌<◌}
use mathlib.Core.Bool.{Bool, true, false, cond}
use mathlib.Core.List.{List, [], ◌∷◌, ◌++◌, append_assoc, append-nil}
use mathlib.Core.Path.{◌≡◌, refl, ap, ◌∙◌, sym, subst}
use native.Mathlib.Omega.{arith}
use Rattle.std.proofs.Common.{Bor}
use borrow.Author.Tests.{leb-true, leb-false, lt-ltb, le-ltb}
use lib.Dec.{leb}
use lib.ListN.{length, drop, replicate}
use lib.Seq.{drop-length}
use Rattle.std.specs.Prelude.{Ok, Err}
use Rattle.line.specs.Family.{Base}
use Rattle.line.specs.declared.Frame.{Frame}
use Rattle.line.specs.Read.{read_at, says}
use Rattle.line.specs.Refusal.{refusal}
use Rattle.trace.specs.Shape.{closed, sites}
use Rattle.trace.specs.Refusals.{accepted, verdict}
use Rattle.trace.specs.Refusals.{Verdict as Judgement}
use Rattle.trace.specs.Tree.{call, spawn, async, pass, finish, site, carry, spend, sync, note, Body, done, leaf, child, Of, lines_of, Within}
use Rattle.trace.proofs.Scan.{Fine, accepted-is, accepted-fine, accepted-reads}
use Rattle.trace.proofs.Parse.{parts}
use Rattle.trace.proofs.Accept.{sites_le_M}
use Rattle.admit.specs.declared.Accepted.{Accepted}
use Rattle.admit.specs.Answer.{answer_of}
use Rattle.admit.proofs.Admitted.{accepted-only}
use Rattle.walk.specs.Stands.{Stands}
use Rattle.walk.proofs.Stands.{stands-all}
use Rattle.report.specs.Room.{Decision, refuse, fitting, Lays, Wrote}
use Rattle.report.proofs.Decisions.{refused, written, fitting_short, fitting-text}
use Rattle.report.proofs.Laying.{laid-front}
use Rattle.names.specs.Names.{shown, first_bad}
use Rattle.folded.specs.Text.{folded}
use Rattle.folded.specs.Folding.{decide, cleared, Folds}
use Rattle.folded.specs.Rows.{prints, Few, Flows, Lines}
use Rattle.folded.specs.Shows.{Found}
use Rattle.folded.specs.Measure as Measure
use Rattle.folded.specs.Write as Write
use Rattle.folded.specs.Whole.{Admitted, Decided}
use Rattle.folded.proofs.Tied.{clean_in_table, folded-prints}

-- The lines of an accepted trace, by its tree: the root's body, with other lines behind it.

flows-body : (m D k : ℕ) (b : Body) (o : List ℕ) (u : List Frame) → 1 ≤ length o → Few m D o → Of Base k b → Within m D (length o) b → Flows m D (closed o) u → Flows m D o (lines_of b ++ u)
flows-body m D k done o u a l e w h = (a, l, h)
flows-body m D k (leaf (spend v) r) o u a l e w h = (a, l, flows-body m D k r o u a l e.1 w.1 h)
flows-body m D k (leaf sync r) o u a l e w h = (a, l, flows-body m D k r o u a l e.1 w.1 h)
flows-body m D k (leaf (note (site i p)) r) o u a l e w h = (a, l, flows-body m D k r o u a l e.1 w.1 h)
flows-body m D k (leaf (note (carry v)) r) o u a l e w h = (a, l, flows-body m D k r o u a l e.1 w.1 h)
flows-body m D k (child call s g r) o u a l e w h =
    (a, l, subst (Flows m D (s ∷ o)) (sym (append_assoc (lines_of g) (lines_of r) u)) (flows-body m D s g (s ∷ o) (lines_of r ++ u) (omega arith) (record { rows = (w.1, l.rows); deep = w.2 }) e.1 w.3 (flows-body m D k r o u a l e.2 w.4 h)))
flows-body m D k (child spawn s g r) o u a l e w h =
    (a, l, subst (Flows m D (s ∷ o)) (sym (append_assoc (lines_of g) (lines_of r) u)) (flows-body m D s g (s ∷ o) (lines_of r ++ u) (omega arith) (record { rows = (w.1, l.rows); deep = w.2 }) e.1 w.3 (flows-body m D k r o u a l e.2 w.4 h)))
flows-body m D k (child async s g r) o u a l e w h = absurd e.0
flows-body m D k (child pass s g r) o u a l e w h = absurd e.0
flows-body m D k (child finish s g r) o u a l e w h = absurd e.0

pub fine-flows : (D M : ℕ) (t : List Frame) → Fine Base D M t → Flows (sites t) D (0 ∷ []) t
fine-flows D M t fine =
    let p = parts D M t fine in
    let m = sites t in
    let b = flows-body m D 0 p.body (0 ∷ []) [] (omega arith) (record { rows = (omega arith, tt); deep = fine.least }) p.of p.within refl in
    subst (Flows m D (0 ∷ [])) (append-nil (lines_of p.body) ∙ sym p.lines) b

-- a refusal, with all as it was
pub folds_refused : {d : Decision} (number line : ℕ) (out scratch : List ℕ) → d ≡ refuse number line → Folds d (Err (refusal number line)) out out scratch scratch
folds_refused number line out scratch e = record { writes = refused number line out e; scratch_is = sym (ap (λ (d : Decision). cleared d scratch) e) }

module _ {s : List ℕ} {count lines n : ℕ} (q : Admitted s count lines n) where
  pub fine : Fine Base q.D q.M q.frames
  fine = accepted-fine s q.D q.M (leb q.D n) q.frames q.is

  pub few : count ≤ 255
  few = omega (arith, sites_le_M q.D q.M q.frames fine, fine.sites_most, q.count_is)

  pub stands : Stands Base s 0 q.frames
  stands = stands-all Base s q.frames 0 (λ i f h. let z : i ≡ 0 + i = omega arith in subst (λ (k : ℕ). read_at s k ≡ says k f) z (accepted-reads s q.D q.M (leb q.D n) q.frames q.is i f h))

  abbrev trace : Lines s lines count q.D
  trace =
      record {
        frames = q.frames;
        stands = stands;
        long = q.lines_are;
        flows = subst (λ (m : ℕ). Flows m q.D (0 ∷ []) q.frames) q.count_is (fine-flows q.D q.M q.frames fine);
        some = fine.least;
      }

  module _ (p st : List ℕ) (names : List (Bor (List ℕ))) (found : Found (shown p st) (count + 1) names) where
    abbrev pub measure_asks : Measure.Asks s lines names
    measure_asks = record { name = shown p st; m = count; D = q.D; trace = trace; most = fine.most; found = found }

    abbrev text : List ℕ
    text = prints (shown p st) (0 ∷ []) q.frames

    as_folded : folded (shown p st) q.frames ≡ text
    as_folded = folded-prints (shown p st) q.frames (clean_in_table q.D q.M [] q.frames fine.clean)

    module _ (out : List ℕ) (r : Bool) (is : r ≡ leb (length text) (length out)) where
      pub short_18 : r ≡ false → (scratch : List ℕ) → Folds (fitting 18 (folded (shown p st) q.frames) (length out)) (Err (refusal 18 0)) out out scratch scratch
      short_18 h scratch =
          folds_refused 18 0 out scratch
          (ap (λ (x : List ℕ). fitting 18 x (length out)) as_folded ∙ fitting_short 18 text (length out) (leb-false (length text) (length out) (sym is ∙ h)))

      module _ (h : r ≡ true) where
        pub fits : length text ≤ length out
        fits = leb-true (length text) (length out) (sym is ∙ h)

        abbrev pub write_asks : (scratch : List ℕ) → length scratch ≡ n → Write.Asks s lines names scratch out
        write_asks scratch l =
            record {
              name = shown p st;
              m = count;
              D = q.D;
              trace = trace;
              found = found;
              long = omega (arith, leb-true q.D n (accepted-is s q.D q.M (leb q.D n) q.frames q.is).0);
              fits = fits;
            }

        pub all-written : (k : ℕ) (out' scratch scratch' : List ℕ) → Lays 0 text out k out' → scratch' ≡ replicate (length scratch) 0
            → Folds (fitting 18 (folded (shown p st) q.frames) (length out)) (Ok k) out out' scratch scratch'
        all-written k out' scratch scratch' w z =
            let d = ap (λ (x : List ℕ). fitting 18 x (length out)) as_folded ∙ fitting-text 18 text (length out) fits in
            let l : length text ≡ k = omega (arith, w.ends) in
            record {
              writes = written text out out' k d l (w.left ∙ laid-front text out ∙ ap (λ (i : ℕ). text ++ drop i out) l);
              scratch_is = z ∙ sym (ap (λ (x : Decision). cleared x scratch) d);
            }

  -- the first bad row
  module _ (p st : List ℕ) (bad : ℕ) (e : bad ≡ first_bad p st (count + 1)) (out : List ℕ) where
    same : first_bad p st (sites q.frames + 1) ≡ bad
    same = ap (λ (c : ℕ). first_bad p st (c + 1)) q.count_is ∙ sym e

    pub bad_17 : bad ≤ count → (scratch : List ℕ) → Folds (decide p st (length out) (accepted q.frames)) (Err (refusal 17 bad)) out out scratch scratch
    bad_17 h scratch =
        folds_refused 17 bad out scratch
        (ap (λ (b : Bool). cond b (refuse 17 (first_bad p st (sites q.frames + 1))) (fitting 18 (folded (shown p st) q.frames) (length out)))
        (lt-ltb (first_bad p st (sites q.frames + 1)) (sites q.frames + 1) (omega (arith, same, q.count_is)))
        ∙ ap (refuse 17) same)

    pub good_names : count < bad → (scratch : List ℕ) {r : Wrote} {out' scratch' : List ℕ}
        → ((x : Admitted s count lines n) → Folds (fitting 18 (folded (shown p st) x.frames) (length out)) r out out' scratch scratch')
        → Folds (decide p st (length out) (accepted q.frames)) r out out' scratch scratch'
    good_names h scratch {r} {out'} {scratch'} w =
        subst (λ (d : Decision). Folds d r out out' scratch scratch')
        (sym
        (ap (λ (b : Bool). cond b (refuse 17 (first_bad p st (sites q.frames + 1))) (fitting 18 (folded (shown p st) q.frames) (length out)))
        (le-ltb (first_bad p st (sites q.frames + 1)) (sites q.frames + 1) (omega (arith, same, q.count_is)))))
        (w q)

-- the scratch that was cleared
pub all-zero : (x y z : List ℕ) → length y ≡ length x → z ≡ replicate (length y) 0 ++ drop (length y) y → z ≡ replicate (length x) 0
all-zero x y z l e =
    e ∙ ap (λ (u : List ℕ). replicate (length y) 0 ++ u) (drop-length y) ∙ append-nil (replicate (length y) 0) ∙ ap (λ (k : ℕ). replicate k 0) l

-- The answer of acceptance.

pub admitted : (s : List ℕ) (D M n : ℕ) (a : Accepted) → Ok a ≡ answer_of (verdict s D M (leb D n)) → Admitted s a.sites a.lines n
admitted s D M n a e = let x = accepted-only (verdict s D M (leb D n)) a e in record { frames = x.0; D = D; M = M; is = x.1; count_is = x.2; lines_are = x.3 }

module _ (s : List ℕ) (D M : ℕ) (p st out scratch : List ℕ) where
  pub accepted_folds : (a : Accepted) (r : Wrote) (out' scratch' : List ℕ) → Ok a ≡ answer_of (verdict s D M (leb D (length scratch)))
      → Decided s a.sites a.lines p st r out out' scratch scratch' → Folds (decide p st (length out) (verdict s D M (leb D (length scratch)))) r out out' scratch scratch'
  unfolding admitted
  accepted_folds a r out' scratch' e h =
      let x = accepted-only (verdict s D M (leb D (length scratch))) a e in
      subst (λ (v : Judgement). Folds (decide p st (length out) v) r out out' scratch scratch') (sym x.1) (h (admitted s D M (length scratch) a e))
