-- The measuring of a trace's text, line by line. Assumes nothing.
use Rattle.std.proofs.Common.{ℕ, ◌+◌, ◌-◌, ◌≤◌, ◌<◌, ◌≡◌, ◌≢◌, true, false, Bor, List, [], ◌∷◌, ◌++◌, Option, Some, None, MatchOption, length, get_or, set, length-append, get_or-set_same, get_or-set_other, refl, ap, ◌∙◌, sym, subst, arith}
use borrow.Author.Tests.{le-leb, lt-leb}
use lib.Dec.{leb}
use Rattle.digits.specs.Decimal.{size_of, decimal}
use Rattle.digits.proofs.Figures.{decimal-length}
use Rattle.line.specs.Family.{Base}
use Rattle.line.specs.declared.Frame.{Frame}
use Rattle.line.specs.Read.{line_at}
use Rattle.line.specs.At.{kind_at, site_at, value_at}
use Rattle.trace.specs.Shape.{closed}
use Rattle.trace.proofs.Scan.{read_line_lem}
use Rattle.walk.specs.Stands.{kind_of, value_of}
use Rattle.walk.proofs.Says.{kind-says, site-says, value-says}
use Rattle.folded.specs.declared.measure.Measured.{Measured}
use Rattle.folded.specs.Text.{cost_text}
use Rattle.weigh.specs.Weighed.{row_step}
use Rattle.folded.specs.Rows.{stack, prints_of, prints, Few}
use Rattle.folded.specs.Shows.{Shows}
use Rattle.folded.specs.Measure.{Lefts, LineAsks, LineLeaves, Asks}
use Rattle.folded.proofs.Stacks.{piece-length, stack-length}
use Rattle.folded.proofs.Frames.{Does, a-cost, a_return, a-passed, a_making}
use Rattle.folded.proofs.Turns.{Turn, few-flows, turn-start, turn-next, turn_end}

abbrev measured : ℕ → ℕ → Measured
measured d n = record { depth = d; left = n }

-- what stands further on changes nothing
lefts_set : (room : ℕ) (name : ℕ → List ℕ) (t o : List ℕ) (i v : ℕ) → length o ≤ i → Lefts room name t o → Lefts room name (set t i v) o
lefts_set room name t [] i v h k = tt
lefts_set room name t (x ∷ o) i v h k = (get_or-set_other t i (length o) v 0 (λ z. omega arith) ∙ k.0, lefts_set room name t o i v (omega arith) k.1)

module _ {s : List ℕ} {n : ℕ} {names : List (Bor (List ℕ))} {room : ℕ} {t : List ℕ} {a : Measured} (q : LineAsks s n names room t a) where
  -- what the line prints
  abbrev long : ℕ
  long = length (prints_of q.name q.rows q.frame)

  -- what the line leaves, where it fits
  abbrev Left : Measured → List ℕ → Type 0
  Left r t' = (r.depth ≡ length (row_step q.frame q.rows)) × (r.left + long ≡ a.left) × Lefts room q.name t' (row_step q.frame q.rows)

  left_by : (o u : List ℕ) → Does q.name q.frame q.rows o u → (r : Measured) (t' : List ℕ) → r.depth ≡ length o → r.left + length u ≡ a.left
      → Lefts room q.name t' o → Left r t'
  left_by o u x r t' d e h =
      (d ∙ ap length (sym x.shifts), ap (λ (l : List ℕ). r.left + length l) x.prints ∙ e, subst (Lefts room q.name t') (sym x.shifts) h)

  pub some_open : 1 ≤ a.depth
  some_open = omega (arith, q.some, q.depth_is)

  pub within : a.depth ≤ length t
  within = omega (arith, q.few.deep, q.depth_is, q.long)

  pub top : get_or t (a.depth - 1) 0 ≡ room - length (stack q.name q.rows)
  top = go q.rows q.some q.depth_is q.held
    where
      go : (o : List ℕ) → 1 ≤ length o → a.depth ≡ length o → Lefts room q.name t o → get_or t (a.depth - 1) 0 ≡ room - length (stack q.name o)
      go [] some d h = absurd (omega arith)
      go (x ∷ o) some d h = ap (λ (i : ℕ). get_or t i 0) (let z : a.depth - 1 ≡ length o = omega arith in z) ∙ h.0

  module _ (kind : ℕ) (k : kind ≡ kind_at s n) where
    says : kind ≡ kind_of q.frame
    says = kind-says Base s n n kind refl k q.frame q.reads

    -- The names are known by what they leave of the whole room, which is nothing for all that are too long. The cost's
    -- own characters tell these apart.
    module _ (e : kind ≡ 6) (v size : ℕ) (w : v ≡ value_at s n) (z : size ≡ 2 + size_of v) where
      abbrev text : List ℕ
      text = stack q.name q.rows ++ cost_text (value_of q.frame)

      does : Does q.name q.frame q.rows q.rows text
      does = a-cost q.name q.rows q.frame (sym says ∙ e)

      text-long : length text ≡ length (stack q.name q.rows) + size
      text-long =
          let value = value-says Base s n n v refl w q.frame q.reads in
          omega
          (arith, length-append (stack q.name q.rows) (cost_text (value_of q.frame)), length-append (decimal (value_of q.frame)) (10 ∷ []), decimal-length (value_of q.frame), z, ap size_of value)

      pub cost-left : (r : Option Measured)
          → MatchOption r (a.left < room - get_or t (a.depth - 1) 0 + size) (λ b. (b.depth ≡ a.depth) × (b.left + (room - get_or t (a.depth - 1) 0 + size) ≡ a.left))
          → MatchOption r (a.left < long) (λ b. Left b t)
      cost-left None h = omega (arith, h, top, q.small, text-long, ap length does.prints)
      cost-left (Some b) h = left_by q.rows text does b t (h.0 ∙ q.depth_is) (omega (arith, h.1, top, q.small, text-long, z)) q.held

    pub return_left : kind ≡ 5 → Left (measured (a.depth - 1) a.left) t
    return_left e = go q.rows q.some q.depth_is q.held (a_return q.name q.rows q.frame (sym says ∙ e))
      where
        go : (o : List ℕ) → 1 ≤ length o → a.depth ≡ length o → Lefts room q.name t o → Does q.name q.frame q.rows (closed o) [] → Left (measured (a.depth - 1) a.left) t
        go [] some d h x = absurd (omega arith)
        go (y ∷ o) some d h x = left_by o [] x (measured (a.depth - 1) a.left) t (omega arith) (omega arith) h.1

    pub passed-left : kind ≢ 6 → kind ≢ 5 → kind ≢ 2 → kind ≢ 3 → Left a t
    passed-left n6 n5 n2 n3 =
        left_by q.rows []
        (a-passed q.name q.rows q.frame (read_line_lem Base (line_at s n) n n q.frame q.reads).1 (λ e. n6 (says ∙ e)) (λ e. n5 (says ∙ e)) (λ e. n2 (says ∙ e)) (λ e. n3 (says ∙ e)))
        a t q.depth_is (omega arith) q.held

    module _ (low : 2 ≤ kind) (high : kind ≤ 3) (site : ℕ) (i : site ≡ site_at s n) where
      made : Does q.name q.frame q.rows (site ∷ q.rows) []
      made =
          subst (λ (x : ℕ). Does q.name q.frame q.rows (x ∷ q.rows) []) (sym (site-says Base s n n site refl i q.frame q.reads))
          (a_making q.name q.rows q.frame (omega (arith, says)) (omega (arith, says)))

      next : Few q.m q.D (site ∷ q.rows)
      next = subst (Few q.m q.D) made.shifts q.next

      pub made-known : Shows q.name names site
      made-known = q.found site (omega (arith, next.rows.0))

      pub made-room : a.depth < length t
      made-room = omega (arith, next.deep, q.depth_is, q.long)

      pub made-left : (v w : ℕ) (none : Bor (List ℕ)) → w ≡ get_or t (a.depth - 1) 0 - 1 → v ≡ w - length (get_or names site none).now
          → Left (measured (a.depth + 1) a.left) (set t a.depth v)
      made-left v w none e f =
          let at : set t a.depth v ≡ set t (length q.rows) v = ap (λ (x : ℕ). set t x v) q.depth_is in
          let new = get_or-set_same t (length q.rows) v 0 (omega (arith, made-room, q.depth_is)) in
          let long = piece-length (length q.rows) (q.name site) q.some in
          left_by (site ∷ q.rows) [] made (measured (a.depth + 1) a.left) (set t a.depth v) (omega (arith, q.depth_is)) (omega arith)
          (subst (λ (x : List ℕ). Lefts room q.name x (site ∷ q.rows)) (sym at)
          (omega (arith, new, f, e, ap length (made-known.is none), top, long, stack-length q.name site q.rows), lefts_set room q.name t q.rows (length q.rows) v (omega arith) q.held))

-- All lines.

module _ {s : List ℕ} {lines : ℕ} {names : List (Bor (List ℕ))} (q : Asks s lines names) (room : ℕ) where
  abbrev all : List ℕ
  all = prints q.name (0 ∷ []) q.trace.frames

  -- before line n: what is left to print, with the rest of the room, is the whole text with what it leaves
  pub record Measuring (n : ℕ) (a : Measured) (t : List ℕ) : Type 0 where
    pub rest : List Frame
    pub rows : List ℕ
    pub turn : Turn s lines q.m q.D n rest rows
    pub depth_is : a.depth ≡ length rows
    pub held : Lefts room q.name t rows
    pub small : a.left ≤ room
    pub future : a.left + length all ≡ room + length (prints q.name rows rest)

  pub measuring_start : (t : List ℕ) → get_or t 0 0 ≡ room - length (q.name 0) → Measuring 0 (measured 1 room) t
  measuring_start t e =
      record {
        rest = q.trace.frames;
        rows = 0 ∷ [];
        turn = turn-start q.trace;
        depth_is = refl;
        held = (omega (arith, e, stack-length q.name 0 []), tt);
        small = omega arith;
        future = refl;
      }

  asks_of : {n : ℕ} {a : Measured} {t : List ℕ} {f : Frame} {u : List Frame} {rows : List ℕ} → 64 ≤ length t → Turn s lines q.m q.D n (f ∷ u) rows
      → a.depth ≡ length rows → Lefts room q.name t rows → a.left ≤ room → LineAsks s n names room t a
  asks_of {f = f} {u} {rows} l k d h z =
      record {
        name = q.name;
        frame = f;
        reads = k.stands.0;
        rows = rows;
        m = q.m;
        D = q.D;
        some = k.flows.0;
        few = k.flows.1;
        next = few-flows q.m q.D (row_step f rows) u k.flows.2;
        found = q.found;
        depth_is = d;
        long = omega (arith, q.most);
        held = h;
        small = z;
      }

  pub measuring_asks : {n : ℕ} {a : Measured} {t : List ℕ} → Measuring n a t → n < lines → 64 ≤ length t → LineAsks s n names room t a
  measuring_asks {n} {a} {t} k h l = go k.rest k.turn
    where
      go : (rest : List Frame) → Turn s lines q.m q.D n rest k.rows → LineAsks s n names room t a
      go [] x = absurd (omega (arith, x.ends))
      go (f ∷ u) x = asks_of l x k.depth_is k.held k.small

  -- behind a line that fits
  pub measuring_on : {n : ℕ} {a : Measured} {t : List ℕ} → Measuring n a t → n < lines → 64 ≤ length t → (r : Measured) (t' : List ℕ)
      → LineLeaves s n names room t a (Some r) t' → Measuring (n + 1) r t'
  unfolding asks_of
  measuring_on {n} {a} {t} k h l r t' w = go k.rest k.turn k.future
    where
      go : (rest : List Frame) → Turn s lines q.m q.D n rest k.rows → a.left + length all ≡ room + length (prints q.name k.rows rest) → Measuring (n + 1) r t'
      go [] x e = absurd (omega (arith, x.ends))
      go (f ∷ u) x e =
          let y = w (asks_of l x k.depth_is k.held k.small) in
          record {
            rest = u;
            rows = row_step f k.rows;
            turn = turn-next x;
            depth_is = y.0;
            held = y.2;
            small = omega (arith, k.small, y.1);
            future = omega (arith, y.1, e, length-append (prints_of q.name k.rows f) (prints q.name (row_step f k.rows) u));
          }

  -- at a line that does not
  pub measuring_out : {n : ℕ} {a : Measured} {t : List ℕ} → Measuring n a t → n < lines → 64 ≤ length t → (t' : List ℕ)
      → LineLeaves s n names room t a None t' → false ≡ leb (length all) room
  unfolding asks_of
  measuring_out {n} {a} {t} k h l t' w = go k.rest k.turn k.future
    where
      go : (rest : List Frame) → Turn s lines q.m q.D n rest k.rows → a.left + length all ≡ room + length (prints q.name k.rows rest) → false ≡ leb (length all) room
      go [] x e = absurd (omega (arith, x.ends))
      go (f ∷ u) x e =
          let y = w (asks_of l x k.depth_is k.held k.small) in
          sym (lt-leb (length all) room (omega (arith, y, e, length-append (prints_of q.name k.rows f) (prints q.name (row_step f k.rows) u))))

  pub measuring_end : {n : ℕ} {a : Measured} {t : List ℕ} → Measuring n a t → lines ≤ n → true ≡ leb (length all) room
  measuring_end {n} {a} {t} k h =
      sym (le-leb (length all) room (omega (arith, k.future, ap (λ (u : List Frame). length (prints q.name k.rows u)) (turn_end k.rest k.turn h))))
