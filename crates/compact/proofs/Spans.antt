-- On the tree: compacting changes no span, and no row's part of the chosen chain. Assumes nothing.
use mathlib.Core.Path.{◌≡◌, refl, sym, ◌∙◌, ap, subst}
use mathlib.Core.Bool.{Bool, true, false, cond}
use Prim.Native.Nat.{ℕ, zero, suc, ◌+◌, ◌≤◌}
use native.Mathlib.Omega.{arith}
use Rattle.chain.specs.Plan.{CostLine, Plan, none, cost, seq, weight, pick}
use Rattle.line.specs.Family.{Base}
use Rattle.trace.specs.Tree.{call, spawn, async, pass, finish, Note, site, carry, spend, sync, note, Body, done, leaf, child, Of, ahead, size, span_of}
use Rattle.trace.specs.Fold.{cost_at, block, after, plan, chain_of, on_row}
use Rattle.trace.proofs.Basics.{clash}
use Rattle.trace.proofs.Recurrence.{Paid, chain-is-pick, weight-chain}
use Rattle.compact.specs.Tree.{ends, summed_b, packed, compact_b}
use Rattle.compact.proofs.Pairs.{Paired, Adds}
use Rattle.compact.proofs.Sums.{cost_either, packed-paid, packed-ahead}
use Rattle.compact.proofs.Once.{ends-done}
use Rattle.compact.proofs.Same.{Same, same_refl, same_sym, same_trans, same_seq, same_par, same_assoc, same_left, held, same-cost, same_add, same-zero}

-- Two bodies are the same to what stands before them: with a spawn since, what stands before the next sync and what behind
-- it; without one, the two together.
abbrev Both : Body → Body → Type 0
Both a b = (n k s : ℕ) → Same (block n s a) (block k s b) × Same (after n s a) (after k s b)

abbrev Whole : Body → Body → Type 0
Whole a b = (n k s : ℕ) → Same (plan n s a) (plan k s b)

-- a is b with a cost of h with the instructions j before it
abbrev BothWith : ℕ → ℕ → Body → Body → Type 0
BothWith h j a b = (n k s : ℕ) → Same (block n s a) (seq (held s h j) (block k s b)) × Same (after n s a) (after k s b)

abbrev WholeWith : ℕ → ℕ → Body → Body → Type 0
WholeWith h j a b = (n k s : ℕ) → Same (plan n s a) (seq (held s h j) (plan k s b))

both-whole : (a b : Body) → Both a b → Whole a b
both-whole a b w n k s = let x = w n k s in same_seq x.0 x.1

-- ── a cost of h with the instructions j before a body ──

same_none : (s j : ℕ) (p : Plan) → j ≡ 0 → Same (seq (held s 0 j) p) p
same_none s j p e =
    subst (λ (i : ℕ). Same (seq (held s 0 i) p) p) (sym e) (same_trans (same_seq (same-zero s) (same_refl p)) (same_left p))

-- its line
same_line : (n s h j i : ℕ) → i ≡ j → Same (cost (cost_at n s h i)) (held s h j)
same_line n s h j i e = subst (λ (x : ℕ). Same (cost (cost_at n s h i)) (held s h x)) e (same-cost n s h i)

summed-both : (h j : ℕ) (a b : Body) → Paired h j → ahead a ≡ 0 → Both a b → BothWith h j (summed_b h j a) b
summed-both zero j a b p e w n k s = let x = w n k s in (same_trans x.0 (same_sym (same_none s j (block k s b) (p refl))), x.1)
summed-both (suc h) zero a b p e w n k s = let x = w (suc n) k s in (same_seq (same_line n s (suc h) 0 (ahead a) e) x.0, x.1)
summed-both (suc h) (suc j) a b p e w n k s = let x = w (suc (suc n)) k s in (same_seq (same-cost n s (suc h) (suc j)) x.0, x.1)

summed-whole : (h j : ℕ) (a b : Body) → Paired h j → ahead a ≡ 0 → Whole a b → WholeWith h j (summed_b h j a) b
summed-whole zero j a b p e w n k s = same_trans (w n k s) (same_sym (same_none s j (plan k s b) (p refl)))
summed-whole (suc h) zero a b p e w n k s =
    same_trans (same_assoc (cost (cost_at n s (suc h) (ahead a))) (block (suc n) s a) (after (suc n) s a)) (same_seq (same_line n s (suc h) 0 (ahead a) e) (w (suc n) k s))
summed-whole (suc h) (suc j) a b p e w n k s =
    same_trans (same_assoc (cost (cost_at n s (suc h) (suc j))) (block (suc (suc n)) s a) (after (suc (suc n)) s a)) (same_seq (same-cost n s (suc h) (suc j)) (w (suc (suc n)) k s))

zero-whole : (a b : Body) → WholeWith 0 0 a b → Whole a b
zero-whole a b w n k s = same_trans (w n k s) (same_none s 0 (plan k s b) refl)

zero-both : (a b : Body) → BothWith 0 0 a b → Both a b
zero-both a b w n k s = let x = w n k s in (same_trans x.0 (same_none s 0 (block k s b) refl), x.1)

-- ── a cost line ──

-- a cost of v before r, with the instructions that r begins with, is the line of that cost and r
line-both : (v : ℕ) (a r : Body) → BothWith v (ahead r) a r → Both a (leaf (spend v) r)
line-both v a r w n k s =
    let x = w n (suc k) s in
    (same_trans x.0 (same_seq (same_sym (same-cost k s v (ahead r))) (same_refl (block (suc k) s r))), x.1)

line-whole : (v : ℕ) (a r : Body) → WholeWith v (ahead r) a r → Whole a (leaf (spend v) r)
line-whole v a r w n k s =
    same_trans (w n (suc k) s)
    (same_trans (same_seq (same_sym (same-cost k s v (ahead r))) (same_refl (plan (suc k) s r)))
    (same_sym (same_assoc (cost (cost_at k s v (ahead r))) (block (suc k) s r) (after (suc k) s r))))

-- and the sum of two costs is the one before the other
add-both : (h j v : ℕ) (a r : Body) → BothWith (h + v) (j + ahead r) a r → BothWith h j a (leaf (spend v) r)
add-both h j v a r w n k s =
    let x = w n (suc k) s in
    let i = ahead r in (
      same_trans x.0
          (same_trans (same_seq (same_add s h j v i) (same_refl (block (suc k) s r)))
          (same_trans (same_assoc (held s h j) (held s v i) (block (suc k) s r))
          (same_seq (same_refl (held s h j)) (same_seq (same_sym (same-cost k s v i)) (same_refl (block (suc k) s r)))))),
      x.1,
    )

add-whole : (h j v : ℕ) (a r : Body) → WholeWith (h + v) (j + ahead r) a r → WholeWith h j a (leaf (spend v) r)
add-whole h j v a r w n k s =
    let i = ahead r in
    same_trans (w n (suc k) s)
    (same_trans (same_seq (same_add s h j v i) (same_refl (plan (suc k) s r)))
    (same_trans (same_assoc (held s h j) (held s v i) (plan (suc k) s r))
    (same_seq (same_refl (held s h j))
    (same_trans (same_seq (same_sym (same-cost k s v i)) (same_refl (plan (suc k) s r))) (same_sym (same_assoc (cost (cost_at k s v i)) (block (suc k) s r) (after (suc k) s r)))))))

-- ── a sync ──

ends-none : (b : Body) → ends b ≡ true → (n s : ℕ) → Same (plan n s b) none
ends-none done e n s = same_left none
ends-none (leaf (spend v) r) e n s = clash (cc)
ends-none (leaf sync r) e n s = same_trans (same_left (plan (suc n) s r)) (ends-none r e (suc n) s)
ends-none (leaf (note x) r) e n s = clash (cc)
ends-none (child y i g r) e n s = clash (cc)

-- with a spawn since: it goes where nothing is left behind it, and stays otherwise
sync-both : (h j : ℕ) (r : Body) → Paired h j → Whole (compact_b r) r → BothWith h j (packed true h j (leaf sync r)) (leaf sync r)
sync-both h j r p w = go (ends r) refl
  where
    go : (e : Bool) → ends r ≡ e → BothWith h j (cond e (packed false h j r) (summed_b h j (leaf sync (compact_b r)))) (leaf sync r)
    go true q =
        subst (λ (b : Body). BothWith h j b (leaf sync r)) (sym (ends-done r h j q))
        (summed-both h j done (leaf sync r) p refl (λ n k s. (same_refl none, same_sym (ends-none r q (suc k) s))))
    go false q = summed-both h j (leaf sync (compact_b r)) (leaf sync r) p refl (λ n k s. (same_refl none, w (suc n) (suc k) s))

-- without one it goes
sync-whole : (h j : ℕ) (r : Body) → WholeWith h j (packed false h j r) r → WholeWith h j (packed false h j (leaf sync r)) (leaf sync r)
sync-whole h j r w n k s = same_trans (w n (suc k) s) (same_seq (same_refl (held s h j)) (same_sym (same_left (plan (suc k) s r))))

-- ── a line that weighs nothing and joins nothing ──

note-both : (x : Note) (a r : Body) → Both a r → Both (leaf (note x) a) (leaf (note x) r)
note-both x a r w n k s = w (suc n) (suc k) s

note-whole : (x : Note) (a r : Body) → Whole a r → Whole (leaf (note x) a) (leaf (note x) r)
note-whole x a r w n k s = w (suc n) (suc k) s

-- ── an invocation ──

called-both : (i : ℕ) (a b g r : Body) → Whole a g → Both b r → Both (child call i a b) (child call i g r)
called-both i a b g r p q n k s =
    let x = q (suc n + size a) (suc k + size g) s in
    (same_seq (p (suc n) (suc k) i) x.0, x.1)

spawned-both : (i : ℕ) (a b g r : Body) → Whole a g → Both b r → Both (child spawn i a b) (child spawn i g r)
spawned-both i a b g r p q n k s =
    let x = q (suc n + size a) (suc k + size g) s in
    (same_par (p (suc n) (suc k) i) x.0, x.1)

called-whole : (i : ℕ) (a b g r : Body) → Whole a g → Whole b r → Whole (child call i a b) (child call i g r)
called-whole i a b g r p q n k s =
    let n' = suc n + size a in
    let k' = suc k + size g in
    same_trans (same_assoc (plan (suc n) i a) (block n' s b) (after n' s b))
    (same_trans (same_seq (p (suc n) (suc k) i) (q n' k' s)) (same_sym (same_assoc (plan (suc k) i g) (block k' s r) (after k' s r))))

-- ── all of it ──

-- with a spawn since, and without one
abbrev Packs : Body → Type 0
Packs b = ((h j : ℕ) → Paired h j → BothWith h j (packed true h j b) b) × ((h j : ℕ) → Paired h j → WholeWith h j (packed false h j b) b)

-- what is held behind a cost of v
paid_pair : (v : ℕ) → 1 ≤ v → (h j : ℕ) → Paired (h + v) j
paid_pair v l h j e = absurd (omega arith)

lone_pair : (v : ℕ) → 1 ≤ v → (j : ℕ) → Paired v j
lone_pair v l j e = absurd (omega arith)

no_pair_lem : Paired 0 0
no_pair_lem e = refl

packed-same : (k : ℕ) (b : Body) → Of Base k b → Paid b → Packs b
packed-same k done o w =
    (λ h j p. summed-both h j done done p refl (λ n k s. (same_refl none, same_refl none)), λ h j p. summed-whole h j done done p refl (λ n k s. same_refl (seq none none)))
packed-same k (leaf (spend v) r) o w =
    let i = ahead r in
    let q = packed-same k r o.1 w.1 in (
      λ h j p. cost_either (λ b. BothWith h j b (leaf (spend v) r)) true h j v r
          (λ f. add-both h j v (packed true (h + v) (j + i) r) r (q.0 (h + v) (j + i) (paid_pair v w.0 h (j + i))))
          (λ f. summed-both h j (packed true v i r) (leaf (spend v) r) p (packed-ahead r true v i) (line-both v (packed true v i r) r (q.0 v i (lone_pair v w.0 i)))),
      λ h j p. cost_either (λ b. WholeWith h j b (leaf (spend v) r)) false h j v r
          (λ f. add-whole h j v (packed false (h + v) (j + i) r) r (q.1 (h + v) (j + i) (paid_pair v w.0 h (j + i))))
          (λ f. summed-whole h j (packed false v i r) (leaf (spend v) r) p (packed-ahead r false v i) (line-whole v (packed false v i r) r (q.1 v i (lone_pair v w.0 i)))),
    )
packed-same k (leaf sync r) o w =
    let q = packed-same k r o.1 w.1 in
    (λ h j p. sync-both h j r p (zero-whole (compact_b r) r (q.1 0 0 no_pair_lem)), λ h j p. sync-whole h j r (q.1 h j p))
packed-same k (leaf (note (site i c)) r) o w =
    let q = packed-same k r o.1 w.1 in
    let x = site i c in (
      λ h j p. summed-both h j (leaf (note x) (packed true 0 0 r)) (leaf (note x) r) p refl (note-both x (packed true 0 0 r) r (zero-both (packed true 0 0 r) r (q.0 0 0 no_pair_lem))),
      λ h j p. summed-whole h j (leaf (note x) (compact_b r)) (leaf (note x) r) p refl (note-whole x (compact_b r) r (zero-whole (compact_b r) r (q.1 0 0 no_pair_lem))),
    )
packed-same k (leaf (note (carry v)) r) o w = let q = packed-same k r o.1 w.1 in (λ h j p n k s. q.0 h j p n (suc k) s, λ h j p n k s. q.1 h j p n (suc k) s)
packed-same k (child call i g r) o w =
    let p = zero-whole (compact_b g) g ((packed-same i g o.1 w.0).1 0 0 no_pair_lem) in
    let q = packed-same k r o.2 w.1 in (
      λ h j k. summed-both h j (child call i (compact_b g) (packed true 0 0 r)) (child call i g r) k refl
          (called-both i (compact_b g) (packed true 0 0 r) g r p (zero-both (packed true 0 0 r) r (q.0 0 0 no_pair_lem))),
      λ h j k. summed-whole h j (child call i (compact_b g) (compact_b r)) (child call i g r) k refl
          (called-whole i (compact_b g) (compact_b r) g r p (zero-whole (compact_b r) r (q.1 0 0 no_pair_lem))),
    )
packed-same k (child spawn i g r) o w =
    let p = zero-whole (compact_b g) g ((packed-same i g o.1 w.0).1 0 0 no_pair_lem) in
    let q = spawned-both i (compact_b g) (packed true 0 0 r) g r p (zero-both (packed true 0 0 r) r ((packed-same k r o.2 w.1).0 0 0 no_pair_lem)) in
    let c = child spawn i (compact_b g) (packed true 0 0 r) in
    (λ h j k. summed-both h j c (child spawn i g r) k refl q, λ h j k. summed-whole h j c (child spawn i g r) k refl (both-whole c (child spawn i g r) q))
packed-same k (child async i g r) o w = absurd o.0
packed-same k (child pass i g r) o w = absurd o.0
packed-same k (child finish i g r) o w = absurd o.0

-- LAW: the plans of a body and of the compacted body are the same but for line numbers
pub compact-same : (k : ℕ) (b : Body) → Of Base k b → Paid b → Whole (compact_b b) b
compact-same k b o w = zero-whole (compact_b b) b ((packed-same k b o w).1 0 0 no_pair_lem)

span-pick : (b : Body) (n s : ℕ) → Paid b → span_of b ≡ weight (pick (plan n s b))
span-pick b n s w = sym (weight-chain b n s) ∙ ap weight (chain-is-pick b n s w)

-- LAW
pub compact-span : (k : ℕ) (b : Body) → Of Base k b → Paid b → span_of (compact_b b) ≡ span_of b
compact-span k b o w = span-pick (compact_b b) 0 0 (packed-paid b false 0 0 w) ∙ (compact-same k b o w 0 0 0).weighs ∙ sym (span-pick b 0 0 w)

-- LAW: each row has the same part of the chosen chain, in each measure
pub compact-on : (m : CostLine → ℕ) → Adds m → (b : Body) (n k s r : ℕ) → Of Base s b → Paid b → on_row m r (chain_of n s (compact_b b)) ≡ on_row m r (chain_of k s b)
compact-on m d b n k s r o w =
    ap (on_row m r) (chain-is-pick (compact_b b) n s (packed-paid b false 0 0 w)) ∙ (compact-same s b o w n k s).on m d r ∙ sym (ap (on_row m r) (chain-is-pick b k s w))
