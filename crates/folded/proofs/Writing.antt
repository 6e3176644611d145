-- The writing of a trace's text, line by line. Assumes nothing.
use Prim.Native.Nat.{ℕ, zero, suc, ◌+◌, ◌-◌, ◌≤◌, ◌<◌}
use mathlib.Core.List.{List, [], ◌∷◌, ◌++◌, append_assoc, append-nil}
use mathlib.Core.Logic.{◌⊎◌, inl, inr}
use Rattle.std.proofs.Common.{◌≢◌, Bor}
use mathlib.Core.Path.{◌≡◌, refl, ap, ◌∙◌, sym, subst}
use native.Mathlib.Nat.{eq-or-lt_of_le}
use native.Mathlib.Decide.{dec_lt}
use native.Mathlib.Omega.{arith}
use lib.ListN.{length, take, drop, get_or, set, length-append, get_or-append}
use lib.Seq.{length-take-le, take-take, take_all, take_at, take-append-le, take-suc-set, get_or-take, get_or_at}
use Rattle.digits.specs.Decimal.{decimal}
use Rattle.line.specs.Family.{Base}
use Rattle.line.specs.declared.Frame.{Frame}
use Rattle.line.specs.Read.{line_at}
use Rattle.line.specs.At.{kind_at, site_at, value_at}
use Rattle.trace.specs.Shape.{closed}
use Rattle.trace.proofs.Scan.{read_line_lem}
use Rattle.walk.specs.Stands.{kind_of}
use Rattle.walk.proofs.Says.{kind-says, site-says, value-says}
use Rattle.report.specs.Room.{Lays}
use Rattle.report.proofs.Laying.{lays_nothing, lays_next, lays_as, laid-there}
use Rattle.folded.specs.declared.write.Last.{Last}
use Rattle.folded.specs.declared.write.Written.{Written}
use Rattle.folded.specs.Text.{root_first, joined, cost_text}
use Rattle.weigh.specs.Weighed.{row_step}
use Rattle.folded.specs.Rows.{stack, prints_of, prints, AtMost, Few}
use Rattle.folded.specs.Shows.{Shows}
use Rattle.folded.specs.Write.{piece, Common, StackAsks, CloseLeaves, LineAsks, LineLeaves, Asks}
use Rattle.folded.proofs.Stacks.{root-length, piece-length, joined-on, joined-take, joined-fewer, next_fits}
use Rattle.folded.proofs.Frames.{Does, a-cost, a_return, a-passed, a_making}
use Rattle.folded.proofs.Turns.{Turn, few-flows, turn-start, turn-next, turn_end}

-- A cost.

pub cost-length : (v : ℕ) → length (cost_text v) ≡ 1 + length (decimal v) + 1
cost-length v = omega (arith, length-append (decimal v) (10 ∷ []))

pub lays_cost : (at v : ℕ) (before : List ℕ) {e f g : ℕ} {one two three : List ℕ} → at + length (cost_text v) ≤ length before
    → Lays at (32 ∷ []) before e one → length one ≡ length before → Lays e (decimal v) one f two → Lays f (10 ∷ []) two g three → Lays at (cost_text v) before g three
lays_cost at v before {one = one} h a same b c =
    lays_next at (32 ∷ []) (decimal v ++ 10 ∷ []) before (omega (arith, cost-length v)) a
    (lays_next _ (decimal v) (10 ∷ []) one (omega (arith, cost-length v, a.ends)) b c)

-- What a line has in common with the one before it.

module _ {names : List (Bor (List ℕ))} {t : List ℕ} {depth : ℕ} {out : List ℕ} {at : ℕ} {l : Last} (q : StackAsks names t depth out at l) where
  pub common-few : l.rows ≤ depth
  common-few = omega (arith, q.common.fewer, length-take-le depth t q.inside)

  same : take l.rows (take depth t) ≡ take l.rows t
  same = take-take l.rows depth t common-few

  pub common-fewer : length (joined q.name (take l.rows (take depth t))) ≤ length (joined q.name (take depth t))
  common-fewer =
      omega (arith, joined-fewer q.name t l.rows depth common-few, ap (λ (x : List ℕ). length (joined q.name x)) same)

  -- those names, copied from there
  pub common-laid : {e : ℕ} {after : List ℕ} → Lays at (take l.chars (drop l.from out)) out e after
      → Lays at (joined q.name (take l.rows t)) out e after
  common-laid h = lays_as at (q.common.stand ∙ ap (joined q.name) same) h

  -- so the next name has room where those before it are laid
  pub name-fits : (k : ℕ) → k < depth → {e : ℕ} {after : List ℕ} → Lays at (joined q.name (take k t)) out e after → length after ≡ length out → (none : Bor (List ℕ))
      → e + length (piece k (get_or names (get_or t k 0) none).now) ≤ length after
  name-fits k h laid same none =
      omega (arith, laid.ends, q.fits, next_fits q.name t k depth h q.inside, ap (λ (s : List ℕ). length (piece k s)) ((q.known k h).is none))

  -- and then one more is laid
  pub name-laid : (k : ℕ) → k < depth → {e : ℕ} {after : List ℕ} → Lays at (joined q.name (take k t)) out e after → length after ≡ length out → (none : Bor (List ℕ))
      → {f : ℕ} {now : List ℕ} → Lays e (piece k (get_or names (get_or t k 0) none).now) after f now → Lays at (joined q.name (take (k + 1) t)) out f now
  name-laid k h laid same none next =
      lays_as at (sym (joined-take q.name t k (omega (arith, q.inside))))
      (lays_next at (joined q.name (take k t)) (piece k (q.name (get_or t k 0))) out (omega (arith, q.fits, next_fits q.name t k depth h q.inside)) laid
      (lays_as _ (ap (piece k) ((q.known k h).is none)) next))

module _ (name : ℕ → List ℕ) (out : List ℕ) (at : ℕ) where
  -- before the first line
  pub common-none : (rows : List ℕ) → Common name rows out at (record { from = 0; rows = 0; chars = 0 })
  common-none rows = record { fewer = omega arith; before = omega arith; chars_are = refl; stand = refl }

  -- with a row more
  common-on : (rows : List ℕ) (x : ℕ) (l : Last) → Common name rows out at l → Common name (rows ++ x ∷ []) out at l
  common-on rows x l k =
      let e : take l.rows rows ≡ take l.rows (rows ++ x ∷ []) = sym (take-append-le l.rows rows (x ∷ []) k.fewer) in
      record {
        fewer = omega (arith, k.fewer, length-append rows (x ∷ []));
        before = k.before;
        chars_are = k.chars_are ∙ ap (λ (r : List ℕ). length (joined name r)) e;
        stand = k.stand ∙ ap (joined name) e;
      }

  -- with a row less
  common-off : (rows : List ℕ) (x : ℕ) (l r : Last) → Common name (rows ++ x ∷ []) out at l → CloseLeaves (name x) (suc (length rows)) l r → Common name rows out at r
  common-off rows x l r k w = go (dec_lt l.rows (suc (length rows)))
    where
      long : length (rows ++ x ∷ []) ≡ suc (length rows)
      long = omega (arith, length-append rows (x ∷ []))

      go : Dec (l.rows < suc (length rows)) → Common name rows out at r
      go (yes h) =
          let e : take l.rows (rows ++ x ∷ []) ≡ take l.rows rows = take-append-le l.rows rows (x ∷ []) (omega arith) in
          subst (Common name rows out at) (sym (w.fewer h))
          (record { fewer = omega arith; before = k.before; chars_are = k.chars_are ∙ ap (λ (y : List ℕ). length (joined name y)) e; stand = k.stand ∙ ap (joined name) e })
      go (no h) =
          let n = length rows in
          let front = joined name rows in
          let last = piece n (name x) in
          let all : take l.rows (rows ++ x ∷ []) ≡ rows ++ x ∷ [] = take_all l.rows (rows ++ x ∷ []) (omega (arith, long)) in
          let text : joined name (take l.rows (rows ++ x ∷ [])) ≡ front ++ last = ap (joined name) all ∙ joined-on name rows x in
          let chars : l.chars ≡ length front + length last = k.chars_are ∙ ap length text ∙ length-append front last in
          let left : l.chars - length (name x) - 1 ≡ length front = less n refl chars in
          let own : take (suc n - 1) rows ≡ rows = take_all (suc n - 1) rows (omega arith) in
          subst (Common name rows out at) (sym (w.all (omega arith)))
          (record {
            fewer = omega arith;
            before = omega (arith, k.before);
            chars_are = left ∙ ap (λ (y : List ℕ). length (joined name y)) (sym own);
            stand =
                ap (λ (i : ℕ). take i (drop l.from out)) left
                ∙ sym (take-take (length front) l.chars (drop l.from out) (omega (arith, chars)))
                ∙ ap (take (length front)) (k.stand ∙ text)
                ∙ take_at front last (length front) refl
                ∙ ap (joined name) (sym own);
          })
        where
          less : (n : ℕ) → n ≡ length rows → l.chars ≡ length (joined name rows) + length (piece (length rows) (name x)) → l.chars - length (name x) - 1 ≡ length (joined name rows)
          less zero z c =
              let none : rows ≡ [] = empty rows (sym z) in
              omega (arith, ap (λ (y : List ℕ). length (joined name y)) none, ap (λ (y : List ℕ). length (piece (length y) (name x))) none)
            where
              empty : (y : List ℕ) → length y ≡ 0 → y ≡ []
              empty [] e = refl
              empty (a ∷ y) e = absurd (omega arith)
          less (suc n) z c = omega (arith, piece-length (length rows) (name x) (omega arith))

-- The open rows in the scratch.

row-most : (m : ℕ) (o : List ℕ) → AtMost m o → (k : ℕ) → k < length o → get_or (root_first o) k 0 ≤ m
row-most m [] h k l = absurd (omega arith)
row-most m (x ∷ o) h k l = go (eq-or-lt_of_le (let z : k ≤ length o = omega arith in z)) (row-most m o h.1 k)
  where
    go : (k ≡ length o) ⊎ (k < length o) → (k < length o → get_or (root_first o) k 0 ≤ m) → get_or (root_first (x ∷ o)) k 0 ≤ m
    go (inl e) i = subst (λ (y : ℕ). y ≤ m) (sym (get_or_at (root_first o) x [] 0 k (root-length o ∙ sym e))) h.0
    go (inr b) i = subst (λ (y : ℕ). y ≤ m) (sym (get_or-append (root_first o) (x ∷ []) 0 k (omega (arith, root-length o)))) (i b)

module _ {s : List ℕ} {n : ℕ} {names : List (Bor (List ℕ))} {t out : List ℕ} {a : Written} (q : LineAsks s n names t out a) where
  abbrev rows : List ℕ
  rows = root_first q.rows

  abbrev written : ℕ → ℕ → Last → Written
  written d at l = record { depth = d; at = at; last = l }

  -- what the line leaves
  abbrev Left : Written → List ℕ → List ℕ → Type 0
  Left r t' out' =
      (r.depth ≡ length (row_step q.frame q.rows))
      × (take (length (row_step q.frame q.rows)) t' ≡ root_first (row_step q.frame q.rows))
      × Lays a.at (prints_of q.name q.rows q.frame) out r.at out'
      × Common q.name (root_first (row_step q.frame q.rows)) out' r.at r.last

  left_by : (o u : List ℕ) → Does q.name q.frame q.rows o u → (r : Written) (t' out' : List ℕ) → r.depth ≡ length o → take (length o) t' ≡ root_first o
      → Lays a.at u out r.at out' → Common q.name (root_first o) out' r.at r.last → Left r t' out'
  left_by o u x r t' out' d e h k = (
    d ∙ ap length (sym x.shifts),
    subst (λ (y : List ℕ). take (length y) t' ≡ root_first y) (sym x.shifts) e,
    lays_as a.at (sym x.prints) h,
    subst (λ (y : List ℕ). Common q.name (root_first y) out' r.at r.last) (sym x.shifts) k,
  )

  pub some_open : 1 ≤ a.depth
  some_open = omega (arith, q.some, q.depth_is)

  pub within : a.depth ≤ length t
  within = omega (arith, q.few.deep, q.depth_is, q.long)

  pub front : take a.depth t ≡ rows
  front = ap (λ (d : ℕ). take d t) q.depth_is ∙ q.held

  row_at : (k : ℕ) → k < a.depth → get_or t k 0 ≡ get_or rows k 0
  row_at k h = sym (get_or-take a.depth t k 0 h) ∙ ap (λ (l : List ℕ). get_or l k 0) front

  pub row-known : (k : ℕ) → k < a.depth → Shows q.name names (get_or t k 0)
  row-known k h = q.found (get_or t k 0) (omega (arith, row_at k h, row-most q.m q.rows q.few.rows k (omega (arith, q.depth_is))))

  module _ (kind : ℕ) (k : kind ≡ kind_at s n) where
    says : kind ≡ kind_of q.frame
    says = kind-says Base s n n kind refl k q.frame q.reads

    module _ (is : kind ≡ 6) (v : ℕ) (w : v ≡ value_at s n) where
      costs : Does q.name q.frame q.rows q.rows (stack q.name q.rows ++ cost_text v)
      costs =
          subst (λ (x : ℕ). Does q.name q.frame q.rows q.rows (stack q.name q.rows ++ cost_text x)) (sym (value-says Base s n n v refl w q.frame q.reads))
          (a-cost q.name q.rows q.frame (sym says ∙ is))

      pub fits : a.at + (length (joined q.name rows) + length (cost_text v)) ≤ length out
      fits = omega (arith, q.fits, ap length costs.prints, length-append (stack q.name q.rows) (cost_text v))

      unfoldable pub stack-asked : StackAsks names t a.depth out a.at a.last
      stack-asked =
          record {
            name = q.name;
            inside = within;
            known = row-known;
            fits = omega (arith, fits, ap (λ (l : List ℕ). length (joined q.name l)) front);
            common = subst (λ (l : List ℕ). Common q.name l out a.at a.last) (sym front) q.common;
          }

      module _ {end : ℕ} {middle : List ℕ} (one : Lays a.at (joined q.name (take a.depth t)) out end middle) (same : length middle ≡ length out) where
        pub cost-fits : end + length (cost_text v) ≤ length middle
        cost-fits = omega (arith, fits, one.ends, ap (λ (l : List ℕ). length (joined q.name l)) front)

        pub cost-from : a.at ≤ end
        cost-from = omega (arith, one.ends)

        pub cost-left : {next : ℕ} {after : List ℕ} → Lays end (cost_text v) middle next after → Left (written a.depth next (record { from = a.at; rows = a.depth; chars = end - a.at })) t after
        cost-left {next} {after} two =
            let j = joined q.name rows in
            let long : length (joined q.name (take a.depth t)) ≡ length j = ap (λ (l : List ℕ). length (joined q.name l)) front in
            let own : take a.depth rows ≡ rows = take_all a.depth rows (omega (arith, root-length q.rows, q.depth_is)) in
            let size : end - a.at ≡ length j = omega (arith, one.ends) in
            let all : Lays a.at (j ++ cost_text v) out next after = lays_next a.at j (cost_text v) out (omega (arith, fits)) (lays_as a.at (ap (joined q.name) front) one) two in
            left_by q.rows (j ++ cost_text v) costs (written a.depth next (record { from = a.at; rows = a.depth; chars = end - a.at })) t after q.depth_is q.held all
            (record {
              fewer = omega (arith, root-length q.rows, q.depth_is);
              before = omega (arith, one.ends, two.ends);
              chars_are = size ∙ ap (λ (l : List ℕ). length (joined q.name l)) (sym own);
              stand =
                  ap (λ (i : ℕ). take i (drop a.at after)) size
                  ∙ ap (λ (l : List ℕ). take (length j) (drop a.at l)) all.left
                  ∙ laid-there a.at out j (cost_text v) (omega (arith, fits))
                  ∙ ap (joined q.name) (sym own);
            })

    pub return_left : kind ≡ 5 → (none : Bor (List ℕ)) (l : Last) → CloseLeaves (get_or names (get_or t (a.depth - 1) 0) none).now a.depth a.last l
        → Left (written (a.depth - 1) a.at l) t out
    return_left e none l c =
        let w = subst (λ (s : List ℕ). CloseLeaves s a.depth a.last l) ((row-known (a.depth - 1) (omega (arith, some_open))).is none) c in
        go q.rows q.some q.depth_is front q.common (a_return q.name q.rows q.frame (sym says ∙ e)) w
      where
        go : (o : List ℕ) → 1 ≤ length o → a.depth ≡ length o → take a.depth t ≡ root_first o → Common q.name (root_first o) out a.at a.last → Does q.name q.frame q.rows (closed o) []
            → CloseLeaves (q.name (get_or t (a.depth - 1) 0)) a.depth a.last l → Left (written (a.depth - 1) a.at l) t out
        go [] some d h k x w = absurd (omega arith)
        go (y ∷ o) some d h k x w =
            let less : a.depth - 1 ≡ length o = omega arith in
            let row : get_or t (a.depth - 1) 0 ≡ y =
            sym (get_or-take a.depth t (a.depth - 1) 0 (omega arith))
            ∙ ap (λ (r : List ℕ). get_or r (a.depth - 1) 0) h
            ∙ get_or_at (root_first o) y [] 0 (a.depth - 1) (root-length o ∙ sym less) in
            let deep : a.depth ≡ suc (length (root_first o)) = omega (arith, root-length o) in
            let closes : CloseLeaves (q.name y) (suc (length (root_first o))) a.last l = subst (λ (r : ℕ). CloseLeaves (q.name y) r a.last l) deep (subst (λ (r : ℕ). CloseLeaves (q.name r) a.depth a.last l) row w) in
            left_by o [] x (written (a.depth - 1) a.at l) t out less
            (sym (take-take (length o) a.depth t (omega arith)) ∙ ap (take (length o)) h ∙ take_at (root_first o) (y ∷ []) (length o) (root-length o))
            (lays_nothing a.at out)
            (common-off q.name out a.at (root_first o) y a.last l k closes)

    pub passed-left : kind ≢ 6 → kind ≢ 5 → kind ≢ 2 → kind ≢ 3 → Left a t out
    passed-left n6 n5 n2 n3 =
        left_by q.rows []
        (a-passed q.name q.rows q.frame (read_line_lem Base (line_at s n) n n q.frame q.reads).1 (λ e. n6 (says ∙ e)) (λ e. n5 (says ∙ e)) (λ e. n2 (says ∙ e)) (λ e. n3 (says ∙ e)))
        a t out q.depth_is q.held (lays_nothing a.at out) q.common

    module _ (low : 2 ≤ kind) (high : kind ≤ 3) (site : ℕ) (i : site ≡ site_at s n) where
      made : Does q.name q.frame q.rows (site ∷ q.rows) []
      made =
          subst (λ (x : ℕ). Does q.name q.frame q.rows (x ∷ q.rows) []) (sym (site-says Base s n n site refl i q.frame q.reads))
          (a_making q.name q.rows q.frame (omega (arith, says)) (omega (arith, says)))

      pub made-room : a.depth < length t
      made-room = omega (arith, (subst (Few q.m q.D) made.shifts q.next).deep, q.depth_is, q.long)

      pub made-left : Left (written (a.depth + 1) a.at a.last) (set t a.depth site) out
      made-left =
          let at : set t a.depth site ≡ set t (length q.rows) site = ap (λ (x : ℕ). set t x site) q.depth_is in
          left_by (site ∷ q.rows) [] made (written (a.depth + 1) a.at a.last) (set t a.depth site) out (omega (arith, q.depth_is))
          (ap (take (suc (length q.rows))) at ∙ take-suc-set t (length q.rows) site (omega (arith, made-room, q.depth_is)) ∙ ap (λ (l : List ℕ). l ++ site ∷ []) q.held)
          (lays_nothing a.at out)
          (common-on q.name out a.at rows site a.last q.common)

-- All lines.

module _ {s : List ℕ} {lines : ℕ} {names : List (Bor (List ℕ))} {t₀ out₀ : List ℕ} (q : Asks s lines names t₀ out₀) where
  abbrev all : List ℕ
  all = prints q.name (0 ∷ []) q.trace.frames

  -- before line n: what is laid, and what is left to print, are the whole text
  pub record Writing (n : ℕ) (a : Written) (t out : List ℕ) : Type 0 where
    pub rest : List Frame
    pub rows : List ℕ
    pub turn : Turn s lines q.m q.D n rest rows
    pub depth_is : a.depth ≡ length rows
    pub held : take (length rows) t ≡ root_first rows
    pub common : Common q.name (root_first rows) out a.at a.last
    pub so : List ℕ
    pub both : so ++ prints q.name rows rest ≡ all
    pub laid : Lays 0 so out₀ a.at out

  -- there is room for the root's row
  pub text-some : 1 ≤ length t₀
  text-some = omega (arith, q.long, q.trace.some)

  pub writing_start : (t : List ℕ) → t ≡ set t₀ 0 0 → Writing 0 (record { depth = 1; at = 0; last = record { from = 0; rows = 0; chars = 0 } }) t out₀
  writing_start t e =
      record {
        rest = q.trace.frames;
        rows = 0 ∷ [];
        turn = turn-start q.trace;
        depth_is = refl;
        held = ap (take 1) e ∙ take-suc-set t₀ 0 0 text-some;
        common = common-none q.name out₀ 0 (0 ∷ []);
        so = [];
        both = refl;
        laid = lays_nothing 0 out₀;
      }

  fits_next : {n : ℕ} {a : Written} {t out : List ℕ} (k : Writing n a t out) → length out ≡ length out₀ → (one more : List ℕ) → prints q.name k.rows k.rest ≡ one ++ more → a.at + length one ≤ length out
  fits_next k same one more e =
      omega (arith, q.fits, k.laid.ends, ap length k.both, length-append k.so (prints q.name k.rows k.rest), ap length e, length-append one more)

  asks_of : {n : ℕ} {a : Written} {t out : List ℕ} {f : Frame} {u : List Frame} {rows : List ℕ} → length t ≡ length t₀ → Turn s lines q.m q.D n (f ∷ u) rows
      → a.depth ≡ length rows → take (length rows) t ≡ root_first rows → Common q.name (root_first rows) out a.at a.last → a.at + length (prints_of q.name rows f) ≤ length out
      → LineAsks s n names t out a
  asks_of {f = f} {u} {rows} l k d h c z =
      record {
        name = q.name;
        frame = f;
        reads = k.stands.0;
        rows = rows;
        m = q.m;
        D = q.D;
        some = k.flows.0;
        few = k.flows.1;
        next = few-flows q.m q.D (row_step f rows) u k.flows.2;
        found = q.found;
        depth_is = d;
        long = omega (arith, q.long);
        held = h;
        common = c;
        fits = z;
      }

  pub writing-asks : {n : ℕ} {a : Written} {t out : List ℕ} → Writing n a t out → n < lines → length t ≡ length t₀ → length out ≡ length out₀ → LineAsks s n names t out a
  writing-asks {n} {a} {t} {out} k h l same = go k.rest refl k.turn
    where
      go : (rest : List Frame) → k.rest ≡ rest → Turn s lines q.m q.D n rest k.rows → LineAsks s n names t out a
      go [] e x = absurd (omega (arith, x.ends))
      go (f ∷ u) e x =
          asks_of l x k.depth_is k.held k.common
          (fits_next k same (prints_of q.name k.rows f) (prints q.name (row_step f k.rows) u) (ap (prints q.name k.rows) e))

  pub writing-on : {n : ℕ} {a : Written} {t out : List ℕ} → Writing n a t out → n < lines → length t ≡ length t₀ → length out ≡ length out₀ → (r : Written) (t' out' : List ℕ)
      → LineLeaves s n names t out a r t' out' → Writing (n + 1) r t' out'
  unfolding asks_of
  writing-on {n} {a} {t} {out} k h l same r t' out' w = go k.rest refl k.turn
    where
      go : (rest : List Frame) → k.rest ≡ rest → Turn s lines q.m q.D n rest k.rows → Writing (n + 1) r t' out'
      go [] e x = absurd (omega (arith, x.ends))
      go (f ∷ u) e x =
          let one = prints_of q.name k.rows f in
          let more = prints q.name (row_step f k.rows) u in
          let fits = fits_next k same one more (ap (prints q.name k.rows) e) in
          let y = w (asks_of l x k.depth_is k.held k.common fits) in
          record {
            rest = u;
            rows = row_step f k.rows;
            turn = turn-next x;
            depth_is = y.0;
            held = y.1;
            common = y.3;
            so = k.so ++ one;
            both = append_assoc k.so one more ∙ ap (λ (v : List Frame). k.so ++ prints q.name k.rows v) (sym e) ∙ k.both;
            laid = lays_next 0 k.so one out₀ (omega (arith, fits, k.laid.ends)) k.laid y.2;
          }

  pub writing-end : {n : ℕ} {a : Written} {t out : List ℕ} → Writing n a t out → lines ≤ n → Lays 0 all out₀ a.at out
  writing-end {n} {a} {t} {out} k h =
      lays_as 0
      (sym (append-nil k.so) ∙ ap (λ (u : List Frame). k.so ++ prints q.name k.rows u) (sym (turn_end k.rest k.turn h)) ∙ k.both)
      k.laid
