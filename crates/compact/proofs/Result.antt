-- The compacted trace as text: it is accepted, says the same, is never longer and stays; and the compactor's promise leaves
-- one outcome. Assumes nothing.
use mathlib.Core.Path.{◌≡◌, refl, sym, ◌∙◌, ap, subst}
use mathlib.Core.Logic.{◌⊎◌, inl, inr}
use mathlib.Core.Bool.{Bool, true, false, cond}
use mathlib.Core.List.{List, [], ◌∷◌}
use Prim.Native.Nat.{ℕ, zero, suc, ◌+◌, ◌≤◌}
use native.Mathlib.Omega.{arith}
use lib.ListN.{length}
use borrow.Author.Tests.{le-leb}
use Rattle.line.specs.Family.{Base}
use Rattle.line.specs.declared.Frame.{Frame}
use Rattle.line.specs.declared.Frame.TheVariants.{Site, Call, Spawn, Sync, Return, Cost, Instructions, Async, Finish}
use Rattle.line.specs.Write.{writable}
use Rattle.line.proofs.Writable.{writable-value}
use Rattle.trace.specs.Rows.{carried}
use Rattle.trace.specs.Refusals.{Verdict, accepted, refused, verdict}
use Rattle.trace.specs.Written.{text_of}
use Rattle.trace.proofs.Basics.{clash}
use Rattle.trace.proofs.Scan.{Fine, accepted-fine, accepted-same, accepted-length}
use Rattle.trace.proofs.Parse.{parts}
use Rattle.trace.proofs.Written.{Writable, text-length, text-accepted, accepted-writable}
use Rattle.trace.proofs.Owned.{Owned, accepted-owned}
use Rattle.report.specs.Room.{Writes, Wrote}
use Rattle.report.proofs.Decisions.{one-outcome}
use Rattle.compact.specs.Compact.{most_value, both_fit, carrying, summed, merged_from, Compacted}
use Rattle.compact.specs.Promise.{shelved, Shelved, Compacts}
use Rattle.compact.specs.Unchanged.{Unchanged}
use Rattle.compact.specs.Fold.{idle, since, kept_from, kept, compact}
use Rattle.compact.proofs.Pairs.{Fit, Over, fit_either}
use Rattle.compact.proofs.Tied.{compact-is, compact-only}
use Rattle.compact.proofs.Laws.{compact-fine, compact-unchanged, never_longer, twice_is_once}

-- ── each line of it can be written ──

kept-writable : (t : List Frame) (o : List Bool) → Writable t → Writable (kept_from o t)
kept-writable [] o h = tt
kept-writable (f ∷ t) o h = go (idle f o t) (kept-writable t (since f o) h.1)
  where
    go : (b : Bool) → Writable (kept_from (since f o) t) → Writable (cond b (kept_from (since f o) t) (f ∷ kept_from (since f o) t))
    go true k = k
    go false k = (h.0, k)

-- a sum that is none or can be written, of costs and of their instructions
abbrev Held : (ℕ → Frame) → ℕ → Type 0
Held line h = (h ≡ 0) ⊎ (writable (line h) ≡ true)

carrying-writable : (j : ℕ) (t : List Frame) → Held Instructions j → Writable t → Writable (carrying j t)
carrying-writable zero t n k = k
carrying-writable (suc j) t (inl e) k = absurd (omega arith)
carrying-writable (suc j) t (inr w) k = (w, k)

summed-writable : (h j : ℕ) (t : List Frame) → Held Cost h → Held Instructions j → Writable t → Writable (summed h j t)
summed-writable zero j t l n k = k
summed-writable (suc h) j t (inl e) n k = absurd (omega arith)
summed-writable (suc h) j t (inr w) n k = (w, carrying-writable j t n k)

cost-held : (n : ℕ) → n ≤ most_value → Held Cost n
cost-held zero l = inl refl
cost-held (suc n) l = inr (writable-value (Cost (suc n)) (suc n) (omega arith) ∙ le-leb 1 (suc n) (omega arith))

instructions-held : (n : ℕ) → n ≤ most_value → Held Instructions n
instructions-held zero l = inl refl
instructions-held (suc n) l = inr (writable-value (Instructions (suc n)) (suc n) (omega arith) ∙ le-leb 1 (suc n) (omega arith))

carried-held : (t : List Frame) → Writable t → Held Instructions (carried t)
carried-held [] k = inl refl
carried-held (Site s p ∷ t) k = inl refl
carried-held (Call s ∷ t) k = inl refl
carried-held (Spawn s ∷ t) k = inl refl
carried-held (Sync ∷ t) k = inl refl
carried-held (Return ∷ t) k = inl refl
carried-held (Cost v ∷ t) k = inl refl
carried-held (Instructions v ∷ t) k = inr k.0
carried-held (Async s ∷ t) k = inl refl
carried-held (Finish ∷ t) k = inl refl

-- a line that goes out itself, behind all that is held
line-writable : (f : Frame) (t : List Frame) (h j : ℕ) → Held Cost h → Held Instructions j → writable f ≡ true → Writable t → Writable (summed h j (f ∷ t))
line-writable f t h j l n w k = summed-writable h j (f ∷ t) l n (w, k)

merged-writable : (t : List Frame) (h j : ℕ) → Held Cost h → Held Instructions j → Writable t → Writable (merged_from h j t)
merged-writable [] h j l n k = summed-writable h j [] l n tt
merged-writable (Site s p ∷ t) h j l n k = line-writable (Site s p) (merged_from 0 0 t) h j l n k.0 (merged-writable t 0 0 (inl refl) (inl refl) k.1)
merged-writable (Call s ∷ t) h j l n k = line-writable (Call s) (merged_from 0 0 t) h j l n k.0 (merged-writable t 0 0 (inl refl) (inl refl) k.1)
merged-writable (Spawn s ∷ t) h j l n k = line-writable (Spawn s) (merged_from 0 0 t) h j l n k.0 (merged-writable t 0 0 (inl refl) (inl refl) k.1)
merged-writable (Sync ∷ t) h j l n k = line-writable Sync (merged_from 0 0 t) h j l n k.0 (merged-writable t 0 0 (inl refl) (inl refl) k.1)
merged-writable (Return ∷ t) h j l n k = line-writable Return (merged_from 0 0 t) h j l n k.0 (merged-writable t 0 0 (inl refl) (inl refl) k.1)
merged-writable (Instructions v ∷ t) h j l n k = merged-writable t h j l n k.1
merged-writable (Async s ∷ t) h j l n k = line-writable (Async s) (merged_from 0 0 t) h j l n k.0 (merged-writable t 0 0 (inl refl) (inl refl) k.1)
merged-writable (Finish ∷ t) h j l n k = line-writable Finish (merged_from 0 0 t) h j l n k.0 (merged-writable t 0 0 (inl refl) (inl refl) k.1)
merged-writable (Cost v ∷ t) h j l n k =
    go (fit_either (h + v) (j + i)) (λ q. merged-writable t (h + v) (j + i) (cost-held (h + v) q.0) (instructions-held (j + i) q.1) k.1)
    (merged-writable t v i (inr k.0) (carried-held t k.1) k.1)
  where
    i : ℕ
    i = carried t

    either : Bool → List Frame
    either b = cond b (merged_from (h + v) (j + i) t) (summed h j (merged_from v i t))

    go : (Fit (h + v) (j + i) × (both_fit (h + v) (j + i) ≡ true)) ⊎ (Over (h + v) (j + i) × (both_fit (h + v) (j + i) ≡ false))
        → (Fit (h + v) (j + i) → Writable (merged_from (h + v) (j + i) t)) → Writable (merged_from v i t) → Writable (either (both_fit (h + v) (j + i)))
    go (inl q) x y = subst (λ (b : Bool). Writable (either b)) (sym q.1) (x q.0)
    go (inr q) x y = subst (λ (b : Bool). Writable (either b)) (sym q.1) (summed-writable h j (merged_from v i t) l n y)

-- LAW: "Its lines are as the line writer gives them": it refuses none
pub compact-writable : (t : List Frame) → Writable t → Writable (compact t)
compact-writable t h = merged-writable (kept t) 0 0 (inl refl) (inl refl) (kept-writable t (false ∷ []) h)

-- ── the result ──

module _ (s : List ℕ) (D M : ℕ) (room : Bool) (t : List Frame) (e : verdict s D M room ≡ accepted t) (u : List Frame) (c : Compacted t u) where
  fine : Fine Base D M t
  fine = accepted-fine s D M room t e

  own : Owned false t
  own = accepted-owned s D M room t e

  is : u ≡ compact t
  is = compact-only t u c

  -- LAW: the result is accepted, with the same limits
  pub result-accepted : verdict (text_of u) D M true ≡ accepted u
  result-accepted =
      subst (λ (v : List Frame). verdict (text_of v) D M true ≡ accepted v) (sym is)
      (text-accepted D M (compact t) (compact-fine D M t fine) (compact-writable t (accepted-writable s D M room t e)))

  -- LAW: "Work, span and all rows are unchanged"
  pub result-unchanged : Unchanged t u
  result-unchanged = subst (Unchanged t) (sym is) (compact-unchanged D t (parts D M t fine) own)

  -- LAW: it is never longer
  pub result-lines : length u ≤ length t
  result-lines = subst (λ (v : List Frame). length v ≤ length t) (sym is) (never_longer D t (parts D M t fine) own)

  pub result-length : length (text_of u) ≤ length s
  result-length =
      let w : Writable u = subst Writable (sym is) (compact-writable t (accepted-writable s D M room t e)) in
      omega (arith, text-length u w, result-lines, accepted-length s D M room t e)

  -- LAW: "Compacting twice equals compacting once."
  pub result_again : Compacted u u
  result_again =
      let once : compact u ≡ u = ap compact is ∙ twice_is_once D t (parts D M t fine) own ∙ sym is in
      subst (Compacted u) once (compact-is u)

  -- LAW: and so on characters: the compactor lent its own result answers and leaves what it did
  pub compacts_again : {r : Wrote} {before after : List ℕ} → Shelved t r before after → Compacts (text_of u) D M r before after
  compacts_again {r} {before} {after} h =
      record {
        when_accepted = λ v k.
            let z : u ≡ v = accepted-same u v (sym result-accepted ∙ k) in
            let y : h.result ≡ u = compact-only t h.result h.compacted ∙ sym is in
            subst (λ (x : List Frame). Shelved x r before after) z
            (record { result = h.result; compacted = subst (Compacted u) (sym y) result_again; writes = h.writes });
        when_refused = λ number line k. clash (let z = sym result-accepted ∙ k in cc);
      }

-- LAW: the promise leaves one answer and one output
pub one_compaction : {s : List ℕ} {D M : ℕ} {r q : Wrote} {before after other : List ℕ} → Compacts s D M r before after → Compacts s D M q before other → (r ≡ q) × (after ≡ other)
one_compaction {s} {D} {M} {r} {q} {before} {after} {other} w v = go (verdict s D M true) refl
  where
    go : (x : Verdict) → verdict s D M true ≡ x → (r ≡ q) × (after ≡ other)
    go (accepted t) e =
        let a = w.when_accepted t e in
        let b = v.when_accepted t e in
        let z : a.result ≡ b.result = compact-only t a.result a.compacted ∙ sym (compact-only t b.result b.compacted) in
        one-outcome (subst (λ (u : List Frame). Writes (shelved u (length before)) r before after) z a.writes) b.writes
    go (refused number line) e = one-outcome (w.when_refused number line e) (v.when_refused number line e)
