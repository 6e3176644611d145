-- The walk over the lines keeps exactly the lines that are not dropped, by line numbers. Assumes nothing.
use mathlib.Core.Path.{◌≡◌, refl, sym, ◌∙◌, ap, subst}
use mathlib.Core.Logic.{◌⊎◌, inl, inr}
use mathlib.Core.Bool.{Bool, true, false, cond}
use mathlib.Core.List.{List, [], ◌∷◌}
use Prim.Native.Nat.{ℕ, suc, ◌+◌, ◌≤◌, ◌<◌}
use native.Mathlib.Nat.{le_dest}
use native.Mathlib.Omega.{arith}
use lib.Dec.{T}
use Rattle.line.specs.declared.Frame.{Frame}
use Rattle.line.specs.declared.Frame.TheVariants.{Site, Call, Spawn, Sync, Return, Cost, Instructions, Async, Finish}
use Rattle.trace.specs.Shape.{Is, root, step, walk, open_at, has, first_is, Directly}
use Rattle.trace.proofs.Basics.{clash, below}
use Rattle.trace.proofs.Open.{has_here, has-later, first_eq, first_of, first-has, Low, below_not}
use Rattle.trace.proofs.Context.{low-walk, has_le}
use Rattle.compact.specs.Compact.{SpawnSince, OnlySyncs, Dropped, Undropped, end, drop, keep, merged, Compacted}
use Rattle.compact.specs.Fold.{since, only_syncs, kept_from, kept, compact}

-- a number up to n is n or below it
last : (k n : ℕ) → k < suc n → (k < n) ⊎ (k ≡ n)
last k n l = elim (below n k) [ inl h ↦ inl h | inr h ↦ inr (omega (arith, h.1)) ]

module _ (t : List Frame) where
  -- from line n on, where the invocations o are open, the lines of t are u
  record Along (n : ℕ) (o : List ℕ) (u : List Frame) : Type 0 where
    from : (j : ℕ) (f : Frame) → Is t (n + j) f → Is u j f
    to : (j : ℕ) (f : Frame) → Is u j f → Is t (n + j) f
    opened : (j : ℕ) → open_at t (n + j) ≡ walk n o u j

  along_next : (n : ℕ) (o : List ℕ) (f : Frame) (u : List Frame) → Along n o (f ∷ u) → Along (suc n) (step n f o) u
  along_next n o f u a =
      record {
        from = λ j g h. a.from (suc j) g (subst (λ (k : ℕ). Is t k g) (next j) h);
        to = λ j g h. subst (λ (k : ℕ). Is t k g) (sym (next j)) (a.to (suc j) g h);
        opened = λ j. ap (open_at t) (next j) ∙ a.opened (suc j);
      }
    where
      next : (j : ℕ) → suc n + j ≡ n + suc j
      next j = omega arith

  -- line n itself
  module _ (n : ℕ) (o : List ℕ) (f : Frame) (u : List Frame) (a : Along n o (f ∷ u)) where
    here : n ≡ n + 0
    here = omega arith

    it_is : Is t n f
    it_is = subst (λ (k : ℕ). Is t k f) (sym here) (a.to 0 f refl)

    is_it : (g : Frame) → Is t n g → f ≡ g
    is_it g h = a.from 0 g (subst (λ (k : ℕ). Is t k g) here h)

    open_here : open_at t n ≡ o
    open_here = ap (open_at t) here ∙ a.opened 0

    low : Low n o
    low = let z : 0 + n ≡ n = omega arith in subst (λ (k : ℕ). Low k o) z (subst (Low (0 + n)) open_here (low-walk 0 (root ∷ []) t n (omega arith, tt, tt)))

    directly : (F : ℕ) → T (first_is F o) → Directly t F n
    directly F h = subst (λ (l : List ℕ). T (first_is F l)) (sym open_here) h

    is-first : (F : ℕ) → Directly t F n → T (first_is F o)
    is-first F h = subst (λ (l : List ℕ). T (first_is F l)) open_here h

  -- ── which invocations have a spawn since ──

  abbrev Bit : ℕ → ℕ → Bool → Type 0
  Bit n F true = SpawnSince t F n
  Bit n F false = SpawnSince t F n → ⊥

  abbrev Bits : ℕ → List ℕ → List Bool → Type 0
  Bits n [] [] = Unit {0}
  Bits n [] (x ∷ b) = ⊥
  Bits n (F ∷ o) [] = ⊥
  Bits n (F ∷ o) (x ∷ b) = Bit n F x × Bits n o b

  -- line n is neither a spawn nor a sync directly in F
  record Quiet (n F : ℕ) : Type 0 where
    no_spawn : (s : ℕ) → Is t n (Spawn s) → Directly t F n → ⊥
    no_sync : Is t n Sync → Directly t F n → ⊥

  quiet_to : (n F : ℕ) → Quiet n F → SpawnSince t F n → SpawnSince t F (suc n)
  quiet_to n F q w =
      record {
        line = w.line;
        site = w.site;
        is = w.is;
        directly = w.directly;
        before = omega (arith, w.before);
        no_sync = λ j i d l m. elim (last j n m) [
          | inl k ↦ w.no_sync j i d l k
          | inr e ↦ q.no_sync (subst (λ (k : ℕ). Is t k Sync) e i) (subst (Directly t F) e d)
        ];
      }

  quiet_from : (n F : ℕ) → Quiet n F → SpawnSince t F (suc n) → SpawnSince t F n
  quiet_from n F q w = elim (last w.line n w.before) [
    | inl l ↦ record { line = w.line; site = w.site; is = w.is; directly = w.directly; before = l; no_sync = λ j i d k m. w.no_sync j i d k (omega arith) }
    | inr e ↦ absurd (q.no_spawn w.site (subst (λ (k : ℕ). Is t k (Spawn w.site)) e w.is) (subst (Directly t F) e w.directly))
  ]

  quiet_bit : (n F : ℕ) (x : Bool) → Quiet n F → Bit n F x → Bit (suc n) F x
  quiet_bit n F true q w = quiet_to n F q w
  quiet_bit n F false q w = λ h. w (quiet_from n F q h)

  quiet_bits : (n : ℕ) (o : List ℕ) (b : List Bool) → ((F : ℕ) → T (has F o) → Quiet n F) → Bits n o b → Bits (suc n) o b
  quiet_bits n [] [] q h = tt
  quiet_bits n [] (x ∷ b) q h = h
  quiet_bits n (F ∷ o) [] q h = h
  quiet_bits n (F ∷ o) (x ∷ b) q h = (quiet_bit n F x (q F (has_here F F o refl)) h.0, quiet_bits n o b (λ G m. q G (has-later G F o m)) h.1)

  module _ (n : ℕ) (o : List ℕ) (f : Frame) (u : List Frame) (a : Along n o (f ∷ u)) where
    -- a line of another kind is quiet for all
    other_quiet : ((s : ℕ) → f ≡ Spawn s → ⊥) → (f ≡ Sync → ⊥) → (F : ℕ) → Quiet n F
    other_quiet p q F = record { no_spawn = λ s i d. p s (is_it n o f u a (Spawn s) i); no_sync = λ i d. q (is_it n o f u a Sync i) }

    -- nothing has stood in an invocation that opens here
    new_bit : Bit (suc n) (suc n) false
    new_bit w = omega (arith, w.before, has_le t w.line (suc n) (first-has (suc n) (open_at t w.line) w.directly))

  -- any line is quiet for the invocations around the innermost
  around_quiet : (n c : ℕ) (o : List ℕ) (f : Frame) (u : List Frame) → Along n (c ∷ o) (f ∷ u) → (F : ℕ) → T (has F o) → Quiet n F
  around_quiet n c o f u a F m = record { no_spawn = λ s i d. not_first d; no_sync = λ i d. not_first d }
    where
      not_first : Directly t F n → ⊥
      not_first d =
          below_not c o (low n (c ∷ o) f u a).1 (subst (λ (G : ℕ). T (has G o)) (first_eq F c o (is-first n (c ∷ o) f u a F d)) m)

  bits_next : (n : ℕ) (o : List ℕ) (b : List Bool) (f : Frame) (u : List Frame) → Along n o (f ∷ u) → Bits n o b → Bits (suc n) (step n f o) (since f b)
  bits_next n o b (Site s p) u a h = quiet_bits n o b (λ F m. other_quiet n o (Site s p) u a (λ s e. clash (cc)) (λ e. clash (cc)) F) h
  bits_next n o b (Cost v) u a h = quiet_bits n o b (λ F m. other_quiet n o (Cost v) u a (λ s e. clash (cc)) (λ e. clash (cc)) F) h
  bits_next n o b (Instructions v) u a h = quiet_bits n o b (λ F m. other_quiet n o (Instructions v) u a (λ s e. clash (cc)) (λ e. clash (cc)) F) h
  bits_next n o b (Call s) u a h =
      (new_bit n o (Call s) u a, quiet_bits n o b (λ F m. other_quiet n o (Call s) u a (λ s e. clash (cc)) (λ e. clash (cc)) F) h)
  bits_next n o b (Async s) u a h =
      (new_bit n o (Async s) u a, quiet_bits n o b (λ F m. other_quiet n o (Async s) u a (λ s e. clash (cc)) (λ e. clash (cc)) F) h)
  bits_next n o b Finish u a h = (new_bit n o Finish u a, quiet_bits n o b (λ F m. other_quiet n o Finish u a (λ s e. clash (cc)) (λ e. clash (cc)) F) h)
  bits_next n [] [] (Spawn s) u a h = (new_bit n [] (Spawn s) u a, tt)
  bits_next n [] (x ∷ b) (Spawn s) u a h = absurd h
  bits_next n (c ∷ o) [] (Spawn s) u a h = absurd h
  bits_next n (c ∷ o) (x ∷ b) (Spawn s) u a h = (new_bit n (c ∷ o) (Spawn s) u a, (spawned, quiet_bits n o b (around_quiet n c o (Spawn s) u a) h.1))
    where
      spawned : SpawnSince t c (suc n)
      spawned =
          record {
            line = n;
            site = s;
            is = it_is n (c ∷ o) (Spawn s) u a;
            directly = directly n (c ∷ o) (Spawn s) u a c (first_of c c o refl);
            before = omega arith;
            no_sync = λ j i d l m. omega arith;
          }
  bits_next n [] [] Sync u a h = tt
  bits_next n [] (x ∷ b) Sync u a h = absurd h
  bits_next n (c ∷ o) [] Sync u a h = absurd h
  bits_next n (c ∷ o) (x ∷ b) Sync u a h = (joined, quiet_bits n o b (around_quiet n c o Sync u a) h.1)
    where
      joined : SpawnSince t c (suc n) → ⊥
      joined w = elim (last w.line n w.before) [
        | inl l ↦ w.no_sync n (it_is n (c ∷ o) Sync u a) (directly n (c ∷ o) Sync u a c (first_of c c o refl)) l (omega arith)
        | inr e ↦ clash (let z = is_it n (c ∷ o) Sync u a (Spawn w.site) (subst (λ (k : ℕ). Is t k (Spawn w.site)) e w.is) in cc)
      ]
  bits_next n [] [] Return u a h = tt
  bits_next n [] (x ∷ b) Return u a h = absurd h
  bits_next n (c ∷ o) [] Return u a h = absurd h
  bits_next n (c ∷ o) (x ∷ b) Return u a h = (quiet_bits n (c ∷ o) (x ∷ b) (λ F m. other_quiet n (c ∷ o) Return u a (λ s e. clash (cc)) (λ e. clash (cc)) F) h).1

  -- ── only syncs before the return ──

  -- from line m on, up to the return of F
  record Syncs (F m : ℕ) : Type 0 where
    end : ℕ
    is : Is t end Return
    its_own : Directly t F end
    behind : m ≤ end
    only : (j : ℕ) → m ≤ j → j < end → Is t j Sync

  syncs_to : (F m : ℕ) (o : List ℕ) (u : List Frame) → Along m (F ∷ o) u → only_syncs u ≡ true → Syncs F m
  syncs_to F m o [] a e = clash (cc)
  syncs_to F m o (Site s p ∷ u) a e = clash (cc)
  syncs_to F m o (Call s ∷ u) a e = clash (cc)
  syncs_to F m o (Spawn s ∷ u) a e = clash (cc)
  syncs_to F m o (Cost v ∷ u) a e = clash (cc)
  syncs_to F m o (Instructions v ∷ u) a e = clash (cc)
  syncs_to F m o (Async s ∷ u) a e = clash (cc)
  syncs_to F m o (Finish ∷ u) a e = clash (cc)
  syncs_to F m o (Return ∷ u) a e =
      record { end = m; is = it_is m (F ∷ o) Return u a; its_own = directly m (F ∷ o) Return u a F (first_of F F o refl); behind = omega arith; only = λ j l k. absurd (omega arith) }
  syncs_to F m o (Sync ∷ u) a e = go (syncs_to F (suc m) o u (along_next m (F ∷ o) Sync u a) e)
    where
      go : Syncs F (suc m) → Syncs F m
      go r =
          record {
            end = r.end;
            is = r.is;
            its_own = r.its_own;
            behind = omega (arith, r.behind);
            only = λ j l k. elim (below (suc m) j) [
              | inl h ↦ (let z : m ≡ j = omega arith in subst (λ (i : ℕ). Is t i Sync) z (it_is m (F ∷ o) Sync u a))
              | inr h ↦ r.only j (omega (arith, h.1)) k
            ];
          }

  -- a line that is no sync and no return stands before none
  module _ (m : ℕ) (o : List ℕ) (f : Frame) (u : List Frame) (a : Along m o (f ∷ u)) (F : ℕ) (r : Syncs F m) where
    first-line : (f ≡ Return) ⊎ ((f ≡ Sync) × (suc m ≤ r.end))
    first-line = elim (last m r.end (omega (arith, r.behind))) [
      | inl l ↦ inr (is_it m o f u a Sync (r.only m (omega arith) l), omega arith)
      | inr e ↦ inl (is_it m o f u a Return (subst (λ (k : ℕ). Is t k Return) (sym e) r.is))
    ]

  syncs_from : (F m : ℕ) (o : List ℕ) (u : List Frame) → Along m o u → Syncs F m → only_syncs u ≡ true
  syncs_from F m o [] a r =
      let j = le_dest r.behind in
      absurd (a.from j.0 Return (subst (λ (k : ℕ). Is t k Return) (sym j.1) r.is))
  syncs_from F m o (Site s p ∷ u) a r = elim (first-line m o (Site s p) u a F r) [ inl e ↦ clash (cc) | inr e ↦ clash (let z = e.0 in cc) ]
  syncs_from F m o (Call s ∷ u) a r = elim (first-line m o (Call s) u a F r) [ inl e ↦ clash (cc) | inr e ↦ clash (let z = e.0 in cc) ]
  syncs_from F m o (Spawn s ∷ u) a r = elim (first-line m o (Spawn s) u a F r) [ inl e ↦ clash (cc) | inr e ↦ clash (let z = e.0 in cc) ]
  syncs_from F m o (Cost v ∷ u) a r = elim (first-line m o (Cost v) u a F r) [ inl e ↦ clash (cc) | inr e ↦ clash (let z = e.0 in cc) ]
  syncs_from F m o (Instructions v ∷ u) a r = elim (first-line m o (Instructions v) u a F r) [ inl e ↦ clash (cc) | inr e ↦ clash (let z = e.0 in cc) ]
  syncs_from F m o (Async s ∷ u) a r = elim (first-line m o (Async s) u a F r) [ inl e ↦ clash (cc) | inr e ↦ clash (let z = e.0 in cc) ]
  syncs_from F m o (Finish ∷ u) a r = elim (first-line m o Finish u a F r) [ inl e ↦ clash (cc) | inr e ↦ clash (let z = e.0 in cc) ]
  syncs_from F m o (Return ∷ u) a r = refl
  syncs_from F m o (Sync ∷ u) a r = elim (first-line m o Sync u a F r) [
    | inl e ↦ clash (cc)
    | inr e ↦ syncs_from F (suc m) o u (along_next m o Sync u a) (record { end = r.end; is = r.is; its_own = r.its_own; behind = e.1; only = λ j l k. r.only j (omega arith) k })
  ]

  -- ── each line ──

  -- a sync of no open invocation, and one of F, with its bit and the lines behind it
  module _ (n : ℕ) (u : List Frame) where
    lost-sync : Along n [] (Sync ∷ u) → Dropped t n → ⊥
    lost-sync a d = is-first n [] Sync u a d.F d.directly

    module _ (c : ℕ) (o : List ℕ) (a : Along n (c ∷ o) (Sync ∷ u)) where
      dropped : (SpawnSince t c n → ⊥) ⊎ OnlySyncs t c n → Dropped t n
      dropped i = record { is = it_is n (c ∷ o) Sync u a; F = c; directly = directly n (c ∷ o) Sync u a c (first_of c c o refl); idle = i }

      idle_syncs : only_syncs u ≡ true → Dropped t n
      idle_syncs e =
          let r = syncs_to c (suc n) o u (along_next n (c ∷ o) Sync u a) e in
          dropped (inr (record { end = r.end; returns = record { is = r.is; its_own = r.its_own }; before = r.behind; only = r.only }))

      busy : SpawnSince t c n → only_syncs u ≡ false → Dropped t n → ⊥
      busy w e d = elim d.idle [
        | inl i ↦ i (subst (λ (F : ℕ). SpawnSince t F n) (sym same) w)
        | inr r ↦ clash (let z = sym e ∙ syncs_from d.F (suc n) (c ∷ o) u (along_next n (c ∷ o) Sync u a)
            (record { end = r.end; is = r.returns.is; its_own = r.returns.its_own; behind = r.before; only = r.only }) in cc)
      ]
        where
          same : d.F ≡ c
          same = first_eq d.F c o (is-first n (c ∷ o) Sync u a d.F d.directly)

  not_sync : (n : ℕ) (o : List ℕ) (f : Frame) (u : List Frame) → Along n o (f ∷ u) → (f ≡ Sync → ⊥) → Dropped t n → ⊥
  not_sync n o f u a h d = h (is_it n o f u a Sync d.is)

  keeps : (u : List Frame) (n : ℕ) (o : List ℕ) (b : List Bool) → Along n o u → Bits n o b → Undropped t n u (kept_from b u)
  keeps [] n o b a h = end
  keeps (f ∷ u) n o b a h = go f a h (keeps u (suc n) (step n f o) (since f b) (along_next n o f u a) (bits_next n o b f u a h))
    where
      go : (f : Frame) → Along n o (f ∷ u) → Bits n o b → Undropped t (suc n) u (kept_from (since f b) u) → Undropped t n (f ∷ u) (kept_from b (f ∷ u))
      go (Site s p) a h r = keep (not_sync n o (Site s p) u a (λ e. clash (cc))) r
      go (Call s) a h r = keep (not_sync n o (Call s) u a (λ e. clash (cc))) r
      go (Spawn s) a h r = keep (not_sync n o (Spawn s) u a (λ e. clash (cc))) r
      go Return a h r = keep (not_sync n o Return u a (λ e. clash (cc))) r
      go (Cost v) a h r = keep (not_sync n o (Cost v) u a (λ e. clash (cc))) r
      go (Instructions v) a h r = keep (not_sync n o (Instructions v) u a (λ e. clash (cc))) r
      go (Async s) a h r = keep (not_sync n o (Async s) u a (λ e. clash (cc))) r
      go Finish a h r = keep (not_sync n o Finish u a (λ e. clash (cc))) r
      go Sync a h r = sync o b a h r (only_syncs u) refl
        where
          sync : (o : List ℕ) (b : List Bool) → Along n o (Sync ∷ u) → Bits n o b → Undropped t (suc n) u (kept_from (since Sync b) u) → (e : Bool) → only_syncs u ≡ e → Undropped t n (Sync ∷ u) (kept_from b (Sync ∷ u))
          sync [] [] a h r e q = keep (lost-sync n u a) r
          sync [] (x ∷ b) a h r e q = absurd h
          sync (c ∷ o) [] a h r e q = absurd h
          sync (c ∷ o) (false ∷ b) a h r e q = drop (dropped n u c o a (inl h.0)) r
          sync (c ∷ o) (true ∷ b) a h r true q =
              subst (λ (x : Bool). Undropped t n (Sync ∷ u) (cond x (kept_from (false ∷ b) u) (Sync ∷ kept_from (false ∷ b) u))) (sym q) (drop (idle_syncs n u c o a q) r)
          sync (c ∷ o) (true ∷ b) a h r false q =
              subst (λ (x : Bool). Undropped t n (Sync ∷ u) (cond x (kept_from (false ∷ b) u) (Sync ∷ kept_from (false ∷ b) u))) (sym q) (keep (busy n u c o a h.0 q) r)

  -- LAW: the walk keeps the lines that are not dropped
  pub kept_undropped : Undropped t 0 t (kept t)
  kept_undropped =
      keeps t 0 (root ∷ []) (false ∷ [])
      (record {
        from = λ j f h. subst (λ (k : ℕ). Is t k f) (first j) h;
        to = λ j f h. subst (λ (k : ℕ). Is t k f) (sym (first j)) h;
        opened = λ j. ap (open_at t) (first j);
      })
      (λ w. omega (arith, w.before), tt)
    where
      first : (j : ℕ) → 0 + j ≡ j
      first j = omega arith

  -- LAW: there are no others
  pub undropped_one : {n : ℕ} {u v w : List Frame} → Undropped t n u v → Undropped t n u w → v ≡ w
  undropped_one end end = refl
  undropped_one (drop d p) (drop e q) = undropped_one p q
  undropped_one (drop d p) (keep e q) = absurd (e d)
  undropped_one (keep d p) (drop e q) = absurd (d e)
  undropped_one (keep {f = f} d p) (keep e q) = ap (λ (l : List Frame). f ∷ l) (undropped_one p q)

  -- LAW: what the walk gives is the trace without the lines that say nothing, and nothing else is
  pub compact-is : Compacted t (compact t)
  compact-is = record { kept = kept t; kept_are = kept_undropped; is = refl }

  pub compact-only : (u : List Frame) → Compacted t u → u ≡ compact t
  compact-only u c = c.is ∙ ap merged (undropped_one c.kept_are kept_undropped)
