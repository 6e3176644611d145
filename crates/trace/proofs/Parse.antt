-- The lines of an accepted trace are the lines of a body within the limits.
use mathlib.Core.Path.{◌≡◌, refl, sym, ◌∙◌, ap, subst}
use mathlib.Core.Bool.{Bool, false, not, ◌||◌}
use mathlib.Core.List.{List, [], ◌∷◌, ◌++◌, append_assoc, append-nil}
use Prim.Native.Nat.{ℕ, zero, suc, ◌≤◌, ◌<◌}
use native.Mathlib.Omega.{arith}
use lib.ListN.{length}
use lib.Seq.{append_snoc}
use lib.Dec.{eqb, ltb}
use borrow.Author.Tests.{eqb-false, ltb-false, not-false}
use Rattle.line.specs.Family.{Family, Base, Finishes}
use Rattle.line.specs.declared.Frame.{Frame}
use Rattle.line.specs.declared.Frame.TheVariants.{Site, Call, Spawn, Sync, Return, Cost, Instructions, Async, Finish}
use Rattle.trace.specs.Shape.{root, step, sites}
use Rattle.trace.specs.Refusals.{open_now, empty, declared, undeclared, too_deep, fault, accepted, verdict_of, verdict}
use Rattle.trace.specs.Tree.{Way, call, spawn, async, pass, finish, opening, site, carry, Leaf, spend, sync, note, line_of, LeafWithin, Body, done, leaf, child, LeafOf, WayOf, Of, lines_of, Sited, Within, PartsOf, Parts}
use Rattle.trace.proofs.Basics.{no_way, neither}
use Rattle.trace.proofs.Tree.{leaf-step, opening-step, body-one}
use Rattle.trace.proofs.Scan.{Clean, Fine, accepted-fine-of, faultless, now}
use Rattle.trace.proofs.Sites.{sites-append, Numbered, numbered-start, declared-upto, numbered_snoc}

module _ (f : Family) (D M m : ℕ) where
  -- the lines u begin with those of a body of row r, behind which o are open
  pub record Found (before u : List Frame) (o : List ℕ) (r : ℕ) : Type 0 where
    pub body : Body
    pub of : Of f r body
    pub rest : List Frame
    pub lines : u ≡ lines_of body ++ rest
    pub now_open : open_now (before ++ lines_of body) ≡ o
    pub numbered : Numbered (before ++ lines_of body)
    pub clean : Clean f D M (before ++ lines_of body) rest
    pub within : Within m D (suc (length o)) body
    pub shorter : length rest < length u

  -- the sites before are numbered, and with those of u there are at most m
  pub record Counted (before u : List Frame) : Type 0 where
    pub numbered : Numbered before
    pub few : sites (before ++ u) ≤ m

  counted-on : (before : List Frame) (l : Frame) (u : List Frame) → fault D M before l ≡ 0 → Counted before (l ∷ u) → Counted (before ++ l ∷ []) u
  counted-on before l u e h =
      record {
        numbered = numbered_snoc before l (faultless D M before l e).not8 h.numbered;
        few = subst (λ (z : List Frame). sites z ≤ m) (sym (append_snoc before l u)) h.few;
      }

  counted-behind : (before u : List Frame) (o : List ℕ) (r : ℕ) (x : Found before u o r) → Counted before u → Counted (before ++ lines_of x.body) x.rest
  counted-behind before u o r x h =
      record {
        numbered = x.numbered;
        few = subst (λ (l : List Frame). sites l ≤ m) (ap (λ (l : List Frame). before ++ l) x.lines ∙ sym (append_assoc before (lines_of x.body) x.rest)) h.few;
      }

  abbrev Parsed : ℕ → Type 0
  Parsed k = (before u : List Frame) (F : ℕ) (o : List ℕ) (r : ℕ) → r ≤ m → length u ≤ k → Counted before u → open_now before ≡ F ∷ o → Clean f D M before u → Found before u o r

  module _ (k : ℕ) (rec : Parsed k) (before u : List Frame) (F : ℕ) (o : List ℕ) (r : ℕ) (few : r ≤ m) (l : length u ≤ k) (op : open_now before ≡ F ∷ o) where
    -- a site that is declared
    pub allowed : (e : Frame) (s : ℕ) → Counted before (e ∷ u) → (eqb s 0 || not (declared s before)) ≡ false → (1 ≤ s) × (s ≤ m)
    allowed e s n d =
        let h = neither (eqb s 0) (not (declared s before)) d in
        let z = eqb-false s 0 h.0 in
        (positive s z, omega (arith, declared-upto before n.numbered s (not-false (declared s before) h.1), n.few, sites-append before (e ∷ u)))
      where
        positive : (s : ℕ) → (s ≡ 0 → ⊥) → 1 ≤ s
        positive zero z = absurd (z refl)
        positive (suc s) z = omega arith

    room : ltb D (suc (length (open_now before))) ≡ false → suc (suc (length o)) ≤ D
    room e = omega (arith, ltb-false D (suc (length (open_now before))) e, ap length op)

    -- a line that opens and closes nothing
    pub plain : (i : Leaf) → LeafOf f i → LeafWithin i → Counted before (line_of i ∷ u) → Clean f D M before (line_of i ∷ u) → Found before (line_of i ∷ u) o r
    plain i y w n c =
        let e = line_of i in
        let x = rec (before ++ e ∷ []) u F o r few l (counted-on before e u c.0 n) (now before e ∙ leaf-step i (length before) (open_now before) ∙ op) c.2 in
        let a = append_snoc before e (lines_of x.body) in
        record {
          body = leaf i x.body;
          of = (y, x.of);
          rest = x.rest;
          lines = ap (λ (z : List Frame). e ∷ z) x.lines;
          now_open = subst (λ (b : List Frame). open_now b ≡ o) a x.now_open;
          numbered = subst Numbered a x.numbered;
          clean = subst (λ (b : List Frame). Clean f D M b x.rest) a x.clean;
          within = (w, x.within);
          shorter = omega (arith, x.shorter);
        }

    -- a line that opens something, whose lines are those of row s
    pub nested : (i : Way) (s : ℕ) → WayOf f r i s → Sited i s → s ≤ m → ltb D (suc (length (open_now before))) ≡ false → Counted before (opening i s ∷ u) → Clean f D M before (opening i s ∷ u)
        → Found before (opening i s ∷ u) o r
    nested i s y w most d n c =
        opened (rec (before ++ e ∷ []) u (suc (length before)) (F ∷ o) s most l on
        (now before e ∙ opening-step i s (length before) (open_now before) ∙ ap (λ (z : List ℕ). suc (length before) ∷ z) op) c.2)
      where
        e : Frame
        e = opening i s

        on : Counted (before ++ e ∷ []) u
        on = counted-on before e u c.0 n

        both : (x : Found (before ++ e ∷ []) u (F ∷ o) s) → Found ((before ++ e ∷ []) ++ lines_of x.body) x.rest o r → Found before (e ∷ u) o r
        both x z =
            let e' : ((before ++ e ∷ []) ++ lines_of x.body) ++ lines_of z.body ≡ before ++ (e ∷ (lines_of x.body ++ lines_of z.body)) =
            append_assoc (before ++ e ∷ []) (lines_of x.body) (lines_of z.body) ∙ append_snoc before e (lines_of x.body ++ lines_of z.body) in
            record {
              body = child i s x.body z.body;
              of = (y, x.of, z.of);
              rest = z.rest;
              lines = ap (λ (q : List Frame). e ∷ q) (x.lines ∙ ap (λ (q : List Frame). lines_of x.body ++ q) z.lines ∙ sym (append_assoc (lines_of x.body) (lines_of z.body) z.rest));
              now_open = subst (λ (b : List Frame). open_now b ≡ o) e' z.now_open;
              numbered = subst Numbered e' z.numbered;
              clean = subst (λ (b : List Frame). Clean f D M b z.rest) e' z.clean;
              within = (w, most, room d, x.within, z.within);
              shorter = omega (arith, x.shorter, z.shorter);
            }

        opened : Found (before ++ e ∷ []) u (F ∷ o) s → Found before (e ∷ u) o r
        opened x =
            both x
            (rec ((before ++ e ∷ []) ++ lines_of x.body) x.rest F o r few (omega (arith, x.shorter)) (counted-behind (before ++ e ∷ []) u (F ∷ o) s x on) x.now_open x.clean)

    -- the return
    pub over : Counted before (Return ∷ u) → Clean f D M before (Return ∷ u) → Found before (Return ∷ u) o r
    over n c =
        record {
          body = done;
          of = tt;
          rest = u;
          lines = refl;
          now_open = now before Return ∙ ap (step (length before) Return) op;
          numbered = (counted-on before Return u c.0 n).numbered;
          clean = c.2;
          within = tt;
          shorter = omega arith;
        }

-- a line that makes an invocation of a site
makes : (f : Family) (D M m k : ℕ) (rec : Parsed f D M m k) (before u : List Frame) (F : ℕ) (o : List ℕ) (r : ℕ) (few : r ≤ m) (l : length u ≤ k) (op : open_now before ≡ F ∷ o) (w : Way) (s : ℕ)
    → WayOf f r w s → (1 ≤ s → Sited w s) → undeclared before (opening w s) ≡ (eqb s 0 || not (declared s before)) → too_deep D before (opening w s) ≡ ltb D (suc (length (open_now before)))
    → Counted f D M m before (opening w s ∷ u) → Clean f D M before (opening w s ∷ u) → Found f D M m before (opening w s ∷ u) o r
makes f D M m k rec before u F o r few l op w s y p d e n c =
    let h = faultless D M before (opening w s) c.0 in
    let a = allowed f D M m k rec before u F o r few l op (opening w s) s n (sym d ∙ h.not11) in
    nested f D M m k rec before u F o r few l op w s y (p a.0) a.1 (sym e ∙ h.not12) n c

pub parse : (f : Family) (D M m k : ℕ) → Parsed f D M m k
parse f D M m zero before [] F o r few l n op c = absurd (no_way (sym (ap empty op) ∙ c))
parse f D M m zero before (e ∷ u) F o r few l n op c = absurd (omega arith)
parse f D M m (suc k) before [] F o r few l n op c = absurd (no_way (sym (ap empty op) ∙ c))
parse Base D M m (suc k) before (Site s p ∷ u) F o r few l n op c = plain Base D M m k (parse Base D M m k) before u F o r few (omega arith) op (note (site s p)) tt tt n c
parse Finishes D M m (suc k) before (Site s p ∷ u) F o r few l n op c = plain Finishes D M m k (parse Finishes D M m k) before u F o r few (omega arith) op (note (site s p)) tt tt n c
parse Base D M m (suc k) before (Call s ∷ u) F o r few l n op c = makes Base D M m k (parse Base D M m k) before u F o r few (omega arith) op call s tt (λ z. z) refl refl n c
parse Finishes D M m (suc k) before (Call s ∷ u) F o r few l n op c = makes Finishes D M m k (parse Finishes D M m k) before u F o r few (omega arith) op pass s tt (λ z. z) refl refl n c
parse Base D M m (suc k) before (Spawn s ∷ u) F o r few l n op c = makes Base D M m k (parse Base D M m k) before u F o r few (omega arith) op spawn s tt (λ z. z) refl refl n c
parse Finishes D M m (suc k) before (Spawn s ∷ u) F o r few l n op c = absurd c.1
parse Base D M m (suc k) before (Sync ∷ u) F o r few l n op c = plain Base D M m k (parse Base D M m k) before u F o r few (omega arith) op sync tt tt n c
parse Finishes D M m (suc k) before (Sync ∷ u) F o r few l n op c = absurd c.1
parse f D M m (suc k) before (Return ∷ u) F o r few l n op c = over f D M m k (parse f D M m k) before u F o r few (omega arith) op n c
parse Base D M m (suc k) before (Cost v ∷ u) F o r few l n op c = plain Base D M m k (parse Base D M m k) before u F o r few (omega arith) op (spend v) tt c.1 n c
parse Finishes D M m (suc k) before (Cost v ∷ u) F o r few l n op c = plain Finishes D M m k (parse Finishes D M m k) before u F o r few (omega arith) op (spend v) tt c.1 n c
parse Base D M m (suc k) before (Instructions v ∷ u) F o r few l n op c = plain Base D M m k (parse Base D M m k) before u F o r few (omega arith) op (note (carry v)) tt c.1 n c
parse Finishes D M m (suc k) before (Instructions v ∷ u) F o r few l n op c = plain Finishes D M m k (parse Finishes D M m k) before u F o r few (omega arith) op (note (carry v)) tt c.1 n c
parse Base D M m (suc k) before (Async s ∷ u) F o r few l n op c = absurd c.1
parse Finishes D M m (suc k) before (Async s ∷ u) F o r few l n op c = makes Finishes D M m k (parse Finishes D M m k) before u F o r few (omega arith) op async s tt (λ z. z) refl refl n c
parse Base D M m (suc k) before (Finish ∷ u) F o r few l n op c = absurd c.1
parse Finishes D M m (suc k) before (Finish ∷ u) F o r few l n op c =
    nested Finishes D M m k (parse Finishes D M m k) before u F o r few (omega arith) op finish r refl tt few (faultless D M before Finish c.0).not12 n c

-- no line passes behind the root's return
closed : (f : Family) (D M : ℕ) (before u : List Frame) → open_now before ≡ [] → Clean f D M before u → u ≡ []
closed f D M before [] o c = refl
closed f D M before (e ∷ u) o c = no_way (sym (faultless D M before e c.0).not7 ∙ ap empty o)

-- LAW: the lines that pass are the lines of a body
pub parts : {f : Family} (D M : ℕ) (t : List Frame) → Fine f D M t → PartsOf f D t
parts {f = f} D M t h =
    let p = parse f D M (sites t) (length t) [] t root [] 0 (omega arith) (omega arith) (record { numbered = numbered-start; few = omega arith }) refl h.clean in
    let c = closed f D M (lines_of p.body) p.rest p.now_open p.clean in
    record {
      body = p.body;
      of = p.of;
      lines = p.lines ∙ ap (λ (z : List Frame). lines_of p.body ++ z) c ∙ append-nil (lines_of p.body);
      within = p.within;
    }

pub accepted-parts-of : (f : Family) (s : List ℕ) (D M : ℕ) (room : Bool) (t : List Frame) → verdict_of f s D M room ≡ accepted t → PartsOf f D t
accepted-parts-of f s D M room t e = parts D M t (accepted-fine-of f s D M room t e)

-- the same of document 01's traces
pub accepted-parts : (s : List ℕ) (D M : ℕ) (room : Bool) (t : List Frame) → verdict s D M room ≡ accepted t → Parts D t
accepted-parts = accepted-parts-of Base

-- LAW: there is one way to take a trace apart
pub parts_unique : {f : Family} (D E : ℕ) (t : List Frame) (p : PartsOf f D t) (q : PartsOf f E t) → p.body ≡ q.body
parts_unique {f = f} D E t p q = body-one f 0 p.body q.body p.of q.of (sym p.lines ∙ q.lines)
