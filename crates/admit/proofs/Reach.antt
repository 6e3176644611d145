-- What the flat check knows at each line: some lines lie before it, with this tally and these keys, and the verdict
-- is what becomes of the rest.
use mathlib.Core.Path.{◌≡◌, refl, sym, ◌∙◌, ap, subst⁻¹}
use mathlib.Core.Bool.{Bool, true, false, cond}
use mathlib.Core.List.{List, [], ◌∷◌, ◌++◌}
use Prim.Native.Nat.{ℕ, zero, suc, ◌+◌, ◌≤◌, ◌<◌}
use native.Mathlib.Omega.{arith}
use lib.ListN.{length, take, length-append}
use lib.Dec.{eqb}
use borrow.Author.Tests.{eqb-true}
use Rattle.std.specs.Prelude.{Ok, Err}
use Rattle.line.specs.Family.{Family}
use Rattle.line.specs.declared.Frame.{Frame}
use Rattle.line.specs.declared.Refusal.{Refusal}
use Rattle.line.specs.Refusal.{refusal}
use Rattle.line.specs.Read.{line_at, read_at_of, Read, says}
use Rattle.trace.specs.Shape.{sites}
use Rattle.trace.specs.Refusals.{line_count, open_now, after_root, after_cost, fault, accepted, refused, judged, scan, reads_from_of, reads_of}
use Rattle.trace.specs.Refusals.{Verdict as Judgement}
use Rattle.trace.proofs.Scan.{read_line_lem, faultless}
use Rattle.trace.proofs.Basics.{clash}
use Rattle.trace.proofs.Answers.{ok-same, err-same}
use Rattle.trace.proofs.Sites.{sites_le, Numbered, numbered-start, numbered_snoc, within_snoc}
use Rattle.admit.specs.declared.Tally.{Tally}
use Rattle.admit.specs.Answer.{answer_of, accepting}
use Rattle.admit.specs.Step.{tally_of, refuse, next, against, judged_by, kept_by, ended, stepped, kept, behind_cost, Limits, Within}
use Rattle.admit.proofs.Keys.{NarrowSites, narrow_snoc, read_narrow, keys_of, seen-is, kept-is, kept-length}
use Rattle.admit.proofs.Strays.{stray-is, cost_snoc}
use Rattle.admit.proofs.Tallies.{none_open, judgement, step_is}

-- what is known behind the lines before
pub record Known (g : Family) (D M : ℕ) (s ks : List ℕ) (before : List Frame) : Type 0 where
  -- so many lines are left, and what becomes of them is the verdict
  pub left : ℕ
  pub whole : length before + left ≡ line_count s
  pub rest : scan D M before (reads_from_of g s (length before) left) ≡ scan D M [] (reads_of g s)
  -- the sites are numbered 1, 2, 3 and on, within M
  pub numbered : Numbered before
  pub within : sites before ≤ M
  -- the first keys are those of the places declared so far
  pub narrow : NarrowSites before
  pub room : length ks ≡ 256
  pub keys : take (sites before) ks ≡ keys_of before
  -- the kind of the last line tells whether it is a cost line
  pub costs : behind_cost s (length before) ≡ after_cost false before

-- the flat check has come to a line: t and ks are the tally and the keys of the lines before it
pub record Reached (g : Family) (D M : ℕ) (s ks : List ℕ) (t : Tally) : Type 0 where
  pub before : List Frame
  pub tally : t ≡ tally_of before
  pub known : Known g D M s ks before

-- before the first line
pub reached-start : {g : Family} {D M : ℕ} {s : List ℕ} (ks : List ℕ) → Limits D M s → length ks ≡ 256 → Reached g D M s ks (record { lines = 0; sites = 0; depth = 1 })
reached-start {g} {D} {M} {s} ks h r =
    record {
      before = [];
      tally = refl;
      known = record { left = line_count s; whole = omega arith; rest = refl; numbered = numbered-start; within = omega arith; narrow = tt; room = r; keys = refl; costs = refl };
    }

module _ {g : Family} {D M : ℕ} {s ks : List ℕ} (limits : Limits D M s) where
  module _ {before : List Frame} (r : Known g D M s ks before) where
    abbrev n : ℕ
    n = length before

    -- behind the last line
    end_is : line_count s ≤ n → answer_of (scan D M [] (reads_of g s)) ≡ ended (tally_of before)
    end_is l = go r.left r.whole r.rest
      where
        last : (b : Bool) → answer_of (cond b (accepted before) (refused 14 n)) ≡ cond b (accepting (sites before) n) (Err (refusal 14 n))
        last true = refl
        last false = refl

        go : (k : ℕ) → n + k ≡ line_count s → scan D M before (reads_from_of g s n k) ≡ scan D M [] (reads_of g s) → answer_of (scan D M [] (reads_of g s)) ≡ ended (tally_of before)
        go zero w e = sym (ap answer_of e) ∙ last (after_root before) ∙ sym (ap (λ (b : Bool). cond b (accepting (sites before) n) (Err (refusal 14 n))) (none_open (open_now before)))
        go (suc k) w e = absurd (omega arith)

    -- at the next line
    module _ (l : n < line_count s) where
      -- the step is what the refusals say of the line
      judged-is : (k : ℕ) (f : Frame) → read_at_of g s n ≡ says k f → stepped D M (against s ks (tally_of before) f) (tally_of before) f ≡ judgement D M before f
      judged-is k f e =
          let place = seen-is ks before r.keys f r.narrow (read_narrow g s n k f e) in
          let cost = stray-is s before f r.costs in
          step_is D M before (against s ks (tally_of before) f) r.numbered f (rw (place, cost) refl)

      abbrev behind : ℕ → Frame → Judgement
      behind k f = scan D M (before ++ f ∷ []) (reads_from_of g s (suc n) k)

      -- the line, and what is left behind it
      unrolled : (k : ℕ) × (suc n + k ≡ line_count s) × (judged D M before (read_at_of g s n) (behind k) ≡ scan D M [] (reads_of g s))
      unrolled = go r.left r.whole r.rest
        where
          go : (k : ℕ) → n + k ≡ line_count s → scan D M before (reads_from_of g s n k) ≡ scan D M [] (reads_of g s)
              → (k : ℕ) × (suc n + k ≡ line_count s) × (judged D M before (read_at_of g s n) (behind k) ≡ scan D M [] (reads_of g s))
          go zero w e = absurd (omega arith)
          go (suc k) w e = (k, omega arith, e)

      refused-is : (r : Refusal) → Err r ≡ judged_by D M s ks (tally_of before) (read_at_of g s n) → answer_of (scan D M [] (reads_of g s)) ≡ Err r
      refused-is r e = sym (ap answer_of unrolled.2) ∙ go unrolled.0 (read_at_of g s n) refl e
        where
          stop : (on : Judgement) (k : ℕ) (f : Frame) (b : Bool) → k ≡ n → Err r ≡ cond b (next (tally_of (before ++ f ∷ []))) (refuse (tally_of before) (fault D M before f)) → answer_of (cond b on (refused (fault D M before f) k)) ≡ Err r
          stop on k f true q e = clash (cc)
          stop on k f false q e = let z : r ≡ refusal (fault D M before f) n = err-same _ _ e in rw (q, z) refl

          go : (j : ℕ) (y : Read) → read_at_of g s n ≡ y → Err r ≡ judged_by D M s ks (tally_of before) y → answer_of (judged D M before y (behind j)) ≡ Err r
          go j (Err w) h e = sym (ap (λ (q : Refusal). Err q) (err-same _ _ e))
          go j (Ok y) h e =
              let f = y.frame in
              stop (behind j f) y.number f (eqb (fault D M before f) 0) (read_line_lem g (line_at s n) n y.number f h).0 (e ∙ judged-is y.number f h)

      next-is : (u : Tally) → Ok u ≡ judged_by D M s ks (tally_of before) (read_at_of g s n) → (u.lines ≡ suc n) × Reached g D M s (kept_by ks (tally_of before) (read_at_of g s n)) u
      next-is u e = go (read_at_of g s n) refl e unrolled.2
        where
          one_more : (f : Frame) → length (before ++ f ∷ []) ≡ suc n
          one_more f = omega (arith, length-append before (f ∷ []))

          on : (k : ℕ) (f : Frame) (b : Bool) → read_at_of g s n ≡ says k f → eqb (fault D M before f) 0 ≡ b → Ok u ≡ cond b (next (tally_of (before ++ f ∷ []))) (refuse (tally_of before) (fault D M before f))
              → cond b (behind unrolled.0 f) (refused (fault D M before f) k) ≡ scan D M [] (reads_of g s) → (u.lines ≡ suc n) × Reached g D M s (kept ks (sites before) f) u
          on k f true h b e w =
              let c = faultless D M before f (eqb-true (fault D M before f) 0 b) in
              let q : u ≡ tally_of (before ++ f ∷ []) = ok-same _ _ e in
              let k : Known g D M s (kept ks (sites before) f) (before ++ f ∷ []) =
              record {
                left = unrolled.0;
                whole = omega (arith, one_more f, unrolled.1);
                rest = ap (λ (m : ℕ). scan D M (before ++ f ∷ []) (reads_from_of g s m unrolled.0)) (one_more f) ∙ w;
                numbered = numbered_snoc before f c.not8 r.numbered;
                within = within_snoc M before f c.not8 c.not9 r.numbered r.within;
                narrow = narrow_snoc before f r.narrow (read_narrow g s n k f h);
                room = kept-length ks before r.keys f ∙ r.room;
                keys = kept-is ks before r.keys f (omega (arith, r.within, limits.sites_most, r.room));
                costs = cost_snoc g s before k f h;
              } in
              (ap (λ (v : Tally). v.lines) q ∙ one_more f, record { before = before ++ f ∷ []; tally = q; known = k })
          on k f false h b e w = clash (cc)

          go : (y : Read) → read_at_of g s n ≡ y → Ok u ≡ judged_by D M s ks (tally_of before) y → judged D M before y (behind unrolled.0) ≡ scan D M [] (reads_of g s) → (u.lines ≡ suc n) × Reached g D M s (kept_by ks (tally_of before) y) u
          go (Err r) h e w = clash (cc)
          go (Ok y) h e w =
              let f = y.frame in
              on y.number f (eqb (fault D M before f) 0) h refl (e ∙ judged-is y.number f h) w

  -- the same by the tally
  module _ {t : Tally} (r : Reached g D M s ks t) where
    pub reached-within : t.lines < line_count s → Within D t
    reached-within l =
        let a : t.lines ≡ length r.before = ap (λ (u : Tally). u.lines) r.tally in
        let b : t.sites ≡ sites r.before = ap (λ (u : Tally). u.sites) r.tally in
        ((omega (arith, limits.lines_most), (omega (arith, sites_le r.before), limits.most)), omega (arith, r.known.within, limits.sites_most))

    pub reached-end : line_count s ≤ t.lines → answer_of (scan D M [] (reads_of g s)) ≡ ended t
    reached-end =
        subst⁻¹ (λ (v : Tally). line_count s ≤ v.lines → answer_of (scan D M [] (reads_of g s)) ≡ ended v) r.tally
        (end_is r.known)

    pub reached-refused : t.lines < line_count s → (r : Refusal) → Err r ≡ judged_by D M s ks t (read_at_of g s t.lines) → answer_of (scan D M [] (reads_of g s)) ≡ Err r
    reached-refused =
        subst⁻¹ (λ (v : Tally). v.lines < line_count s → (r : Refusal) → Err r ≡ judged_by D M s ks v (read_at_of g s v.lines) → answer_of (scan D M [] (reads_of g s)) ≡ Err r) r.tally
        (refused-is r.known)

    pub reached-next : t.lines < line_count s → (u : Tally) → Ok u ≡ judged_by D M s ks t (read_at_of g s t.lines) → (u.lines ≡ suc t.lines) × Reached g D M s (kept_by ks t (read_at_of g s t.lines)) u
    reached-next =
        subst⁻¹ (λ (v : Tally). v.lines < line_count s → (u : Tally) → Ok u ≡ judged_by D M s ks v (read_at_of g s v.lines) → (u.lines ≡ suc v.lines) × Reached g D M s (kept_by ks v (read_at_of g s v.lines)) u) r.tally
        (next-is r.known)
