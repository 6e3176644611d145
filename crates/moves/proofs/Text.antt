-- A text of which one line is written anew: every other line has its characters, and where the line is a cost it is
-- accepted as the trace of which that line weighs so.
use mathlib.Core.Path.{◌≡◌, refl, sym, ◌∙◌, ap, subst}
use mathlib.Core.Logic.{◌⊎◌, inl, inr}
use mathlib.Core.Bool.{Bool, true}
use mathlib.Core.List.{List, [], ◌∷◌, ◌++◌, append_assoc}
use Prim.Native.Nat.{ℕ, zero, suc, ◌+◌, ◌*◌, ◌/◌, ◌%◌, ◌≤◌, ◌<◌}
use native.Mathlib.Omega.{arith}
use lib.ListN.{length, take, drop, length-append, length-drop, take-append-drop}
use lib.Seq.{length-take-le, take-append-le, drop-append-le, take-append-add, drop-append-add, take_at, drop_at}
use borrow.Author.Tests.{le-leb}
use Rattle.line.specs.declared.Frame.{Frame}
use Rattle.line.specs.declared.Frame.TheVariants.{Cost}
use Rattle.line.specs.Read.{read_line, line_at, read_at, says}
use Rattle.line.specs.Write.{writable, write_chars}
use Rattle.line.proofs.Writable.{writable-value, chars-length}
use Rattle.line.proofs.RoundTrip.{write_read}
use Rattle.trace.specs.Shape.{Is}
use Rattle.trace.specs.Refusals.{line_count, reads_from, accepted, verdict}
use Rattle.trace.specs.Written.{text_of}
use Rattle.trace.proofs.Basics.{below}
use Rattle.trace.proofs.Sums.{same_or_not}
use Rattle.trace.proofs.Chains.{is-length}
use Rattle.trace.proofs.Declared.{is_one}
use Rattle.trace.proofs.Scan.{Reads, accepted-is, accepted-reads, accepted-length}
use Rattle.trace.proofs.Accept.{accepts-accepted}
use Rattle.weigh.specs.Cost.{costing}
use Rattle.weigh.specs.Raised.{costing_at}
use Rattle.weigh.proofs.OneLine.{one-length, line-there, line_elsewhere, one-fine}
use Rattle.moves.specs.Text.{with_line, with_cost}

-- ── its lines ──

-- a line of the first part, and one behind it
first_part : (p q : List ℕ) (n : ℕ) → 23 * suc n ≤ length p → line_at (p ++ q) n ≡ line_at p n
first_part p q n l =
    ap (take 23) (drop-append-le (23 * n) p q (omega arith)) ∙ take-append-le 23 (drop (23 * n) p) q (omega (arith, length-drop (23 * n) p))

second-part : (p q : List ℕ) (m n : ℕ) → length p ≡ 23 * m → line_at (p ++ q) (m + n) ≡ line_at q n
second-part p q m n l =
    let e : 23 * (m + n) ≡ length p + 23 * n = omega arith in
    ap (λ (j : ℕ). take 23 (drop j (p ++ q))) e ∙ ap (take 23) (drop-append-add p q (23 * n))

module _ (s : List ℕ) (k : ℕ) (l : List ℕ) (fits : k < line_count s) (wide : length l ≡ 23) where
  front : length (take (23 * k) s) ≡ 23 * k
  front = length-take-le (23 * k) s (omega arith)

  upto : length (take (23 * suc k) s) ≡ 23 * suc k
  upto = length-take-le (23 * suc k) s (omega arith)

  -- LAW: it is as long
  pub with-length : length (with_line s k l) ≡ length s
  with-length = omega (arith, length-append (take (23 * k) s) (l ++ drop (23 * suc k) s), length-append l (drop (23 * suc k) s), front, length-drop (23 * suc k) s)

  -- LAW: line k is what was put there
  pub with-there : line_at (with_line s k l) k ≡ l
  with-there = ap (take 23) (drop_at (take (23 * k) s) (l ++ drop (23 * suc k) s) (23 * k) front) ∙ take_at l (drop (23 * suc k) s) 23 wide

  -- LAW: every other line has the characters that it had
  pub with_elsewhere : (n : ℕ) → (n ≡ k → ⊥) → line_at (with_line s k l) n ≡ line_at s n
  with_elsewhere n o = go (below k n) (below (suc k) n)
    where
      go : (n < k) ⊎ ((j : ℕ) × (n ≡ k + j)) → (n < suc k) ⊎ ((j : ℕ) × (n ≡ suc k + j)) → line_at (with_line s k l) n ≡ line_at s n
      go (inl h) w =
          first_part (take (23 * k) s) (l ++ drop (23 * suc k) s) n (omega (arith, front))
          ∙ sym (first_part (take (23 * k) s) (drop (23 * k) s) n (omega (arith, front)))
          ∙ ap (λ (z : List ℕ). line_at z n) (take-append-drop (23 * k) s)
      go (inr h) (inl w) = absurd (o (omega (arith, h.1)))
      go (inr h) (inr w) =
          ap (line_at (with_line s k l)) w.1
          ∙ ap (λ (z : List ℕ). line_at z (suc k + w.0)) (sym (append_assoc (take (23 * k) s) l (drop (23 * suc k) s)))
          ∙ second-part (take (23 * k) s ++ l) (drop (23 * suc k) s) (suc k) w.0 (omega (arith, length-append (take (23 * k) s) l, front))
          ∙ sym (second-part (take (23 * suc k) s) (drop (23 * suc k) s) (suc k) w.0 upto)
          ∙ ap (λ (z : List ℕ). line_at z (suc k + w.0)) (take-append-drop (23 * suc k) s)
          ∙ ap (line_at s) (sym w.1)

-- ── it is accepted ──

reads-by : (s : List ℕ) (n : ℕ) (u : List Frame) → ((j : ℕ) (f : Frame) → Is u j f → read_at s (n + j) ≡ says (n + j) f) → Reads n (reads_from s n (length u)) u
reads-by s n [] h = tt
reads-by s n (e ∷ u) h =
    let here : n + 0 ≡ n = omega arith in (
      rw here at (h 0 e refl),
      reads-by s (suc n) u (λ j f i. (let next : n + suc j ≡ suc n + j = omega arith in rw next at (h (suc j) f i))),
    )

module _ (g : ℕ → ℕ) (s : List ℕ) (D M : ℕ) (room : Bool) (t : List Frame) (k v : ℕ) (a : verdict s D M room ≡ accepted t) (i : Is t k (Cost v)) where
  abbrev z : List ℕ
  z = with_cost s k (g v)

  abbrev u : List Frame
  u = costing_at g t k

  there : k < line_count s
  there = omega (arith, is-length t k (Cost v) i, accepted-length s D M room t a)

  -- LAW: the text is as long, so that it asks for the same room
  pub cost-length : length (with_cost s k (g v)) ≡ length s
  cost-length = with-length s k (write_chars (Cost (g v))) there (chars-length (Cost (g v)))

  module _ (low : 1 ≤ g v) (high : g v ≤ 4294967295) where
    can : writable (Cost (g v)) ≡ true
    can = writable-value (Cost (g v)) (g v) (omega arith) ∙ le-leb 1 (g v) low

    read_line_lem : (j : ℕ) (f : Frame) → Is u j f → read_at z j ≡ says j f
    read_line_lem j f h = elim (same_or_not j k) [
      | inl e ↦
          (let f-is : Cost (g v) ≡ f = is_one u k (Cost (g v)) f (line-there g t k v i) (subst (λ (n : ℕ). Is u n f) e h) in
          ap (read_at z) e
          ∙ ap (λ (l : List ℕ). read_line l k) (with-there s k (write_chars (Cost (g v))) there (chars-length (Cost (g v))))
          ∙ write_read (Cost (g v)) can k
          ∙ ap (says k) f-is
          ∙ ap (λ (n : ℕ). says n f) (sym e))
      | inr o ↦
          ap (λ (l : List ℕ). read_line l j) (with_elsewhere s k (write_chars (Cost (g v))) there (chars-length (Cost (g v))) j o)
          ∙ accepted-reads s D M room t a j f (line_elsewhere g t k j f o h)
    ]

    -- LAW: the text with that line written anew is accepted as the trace of which that line weighs so
    pub cost-accepted : verdict (with_cost s k (g v)) D M room ≡ accepted (costing_at g t k)
    cost-accepted =
        let w = accepted-is s D M room t a in
        let count : length u ≡ line_count z = one-length g t k ∙ accepted-length s D M room t a ∙ ap (λ (n : ℕ). n / 23) (sym cost-length) in
        ap (verdict z D M) w.0
        ∙ accepts-accepted z D M u
        (record {
          whole_lines = ap (λ (n : ℕ). n % 23) cost-length ∙ w.1.whole_lines;
          reads_as = subst (λ (n : ℕ). Reads 0 (reads_from z 0 n) u) count (reads-by z 0 u (λ j f h. (let e : 0 + j ≡ j = omega arith in rw e (read_line_lem j f h))));
          fine = one-fine g D M t k v w.1.fine i low high;
        })

-- ── of a text by the line writer ──

with-behind : (p q : List ℕ) (k : ℕ) (l : List ℕ) → length p ≡ 23 → with_line (p ++ q) (suc k) l ≡ p ++ with_line q k l
with-behind p q k l w =
    let e : 23 * suc k ≡ length p + 23 * k = omega arith in
    let f : 23 * suc (suc k) ≡ length p + 23 * suc k = omega arith in
    ap (λ (n : ℕ). take n (p ++ q) ++ (l ++ drop (23 * suc (suc k)) (p ++ q))) e
    ∙ ap (λ (n : ℕ). take (length p + 23 * k) (p ++ q) ++ (l ++ drop n (p ++ q))) f
    ∙ ap (λ (x : List ℕ). x ++ (l ++ drop (length p + 23 * suc k) (p ++ q))) (take-append-add p q (23 * k))
    ∙ ap (λ (x : List ℕ). (p ++ take (23 * k) q) ++ (l ++ x)) (drop-append-add p q (23 * suc k))
    ∙ append_assoc p (take (23 * k) q) (l ++ drop (23 * suc k) q)

-- LAW: it is the text of the trace of which that line weighs so
pub cost-text : (g : ℕ → ℕ) (t : List Frame) (k v : ℕ) → Is t k (Cost v) → with_cost (text_of t) k (g v) ≡ text_of (costing_at g t k)
cost-text g [] k v i = absurd i
cost-text g (e ∷ t) zero v i =
    ap (λ (x : List ℕ). write_chars (Cost (g v)) ++ x) (drop_at (write_chars e) (text_of t) 23 (chars-length e)) ∙ ap (λ (f : Frame). write_chars f ++ text_of t) (sym (ap (costing g) i))
cost-text g (e ∷ t) (suc k) v i = with-behind (write_chars e) (text_of t) k (write_chars (Cost (g v))) (chars-length e) ∙ ap (λ (x : List ℕ). write_chars e ++ x) (cost-text g t k v i)
