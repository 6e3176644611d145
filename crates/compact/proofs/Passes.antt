-- What a line tells the two passes, and how they go on from line to line. Assumes nothing.
use mathlib.Core.Path.{◌≡◌, refl, sym, ◌∙◌, ap, subst}
use mathlib.Core.Bool.{Bool, true, false, not, cond}
use mathlib.Core.List.{List, [], ◌∷◌, ◌++◌, append_assoc, append-nil}
use Prim.Native.Nat.{ℕ, zero, suc, ◌+◌, ◌*◌, ◌-◌, ◌≤◌, ◌<◌}
use native.Mathlib.Omega.{arith}
use lib.Dec.{eqb}
use borrow.Rule.Slice.PartMut.{mid_of}
use lib.ListN.{length, take, drop, length-append}
use borrow.Author.Tests.{ne_eqb, le-leb}
use Rattle.digits.specs.Digits.{small_form}
use Rattle.digits.proofs.Laws.{small-length}
use Rattle.line.specs.Family.{Base}
use Rattle.line.specs.declared.Frame.{Frame}
use Rattle.line.specs.declared.Frame.TheVariants.{Site, Call, Spawn, Sync, Return, Cost, Instructions, Async, Finish}
use Rattle.line.specs.Read.{line_at, read_at, says}
use Rattle.line.specs.Write.{write_chars, writable}
use Rattle.line.specs.At.{kind_in, kind_at, value_at}
use Rattle.line.proofs.At.{at_none}
use Rattle.line.proofs.Writable.{chars-length, writable-value}
use Rattle.line.proofs.RoundTrip.{read_write}
use Rattle.line.proofs.Items.{item}
use Rattle.trace.specs.Refusals.{line_count}
use Rattle.trace.specs.Rows.{carried}
use Rattle.trace.specs.Rows.{instructions as instructions_of}
use Rattle.trace.specs.Written.{text_of}
use Rattle.report.specs.Room.{Lays}
use Rattle.report.proofs.Laying.{lays_nothing, lays_next, lays_as}
use Rattle.walk.specs.Stands.{Stands, Whole, kind_of, value_of}
use Rattle.walk.specs.Measure.{cycles, instructions}
use Rattle.walk.specs.Weight.{instructions_at}
use Rattle.walk.proofs.Room.{line-whole}
use Rattle.compact.specs.Compact.{carrying, summed, most_value}
use Rattle.compact.specs.Machine.{bit, start, step, stepped, emitted, outs, pair_size, size_of, pieces, Fitting, Ready, Room}
use Rattle.compact.specs.Pass.{carried_at, item_at, stepped_at, Lines}
use Rattle.compact.specs.declared.step.State.{State}
use Rattle.compact.specs.declared.step.Given.{Given}
use Rattle.compact.specs.declared.step.Item.{Item}
use Rattle.compact.proofs.Machine.{step-fitting}

-- ── what goes out at a line ──

line-size : (l : Bool) (f : Frame) (u : List Frame) → length (cond l (f ∷ u) u) ≡ bit l + length u
line-size true f u = omega arith
line-size false f u = omega arith

sync-size : (y l : Bool) (f : Frame) (u : List Frame) → length (cond y (Sync ∷ cond l (f ∷ u) u) (cond l (f ∷ u) u)) ≡ bit y + (bit l + length u)
sync-size true l f u = omega (arith, line-size l f u)
sync-size false l f u = omega (arith, line-size l f u)

carrying-size : (j : ℕ) (u : List Frame) → length (carrying j u) ≡ bit (not (eqb j 0)) + length u
carrying-size zero u = omega arith
carrying-size (suc j) u =
    let one : bit (not (eqb (suc j) 0)) ≡ 1 = ap (λ (e : Bool). bit (not e)) (ne_eqb (suc j) 0 (λ z. omega arith)) in
    omega arith

summed-size : (h j : ℕ) (u : List Frame) → length (summed h j u) ≡ pair_size h j + length u
summed-size zero j u = omega arith
summed-size (suc h) j u = omega (arith, carrying-size j u)

emitted-size : (e : Given) (f : Frame) (u : List Frame) → length (emitted e f u) ≡ size_of e + length u
emitted-size e f u =
    let tail = cond e.sync (Sync ∷ cond e.line (f ∷ u) u) (cond e.line (f ∷ u) u) in
    omega (arith, summed-size e.cost.0 e.instructions.0 tail, sync-size e.sync e.line f u)

tail-text : (y l : Bool) (f : Frame) (u : List Frame)
    → text_of (cond y (Sync ∷ cond l (f ∷ u) u) (cond l (f ∷ u) u)) ≡ (cond y (write_chars Sync) [] ++ cond l (write_chars f) []) ++ text_of u
tail-text true true f u = sym (append_assoc (write_chars Sync) (write_chars f) (text_of u))
tail-text true false f u = ap (λ (l : List ℕ). l ++ text_of u) (sym (append-nil (write_chars Sync)))
tail-text false true f u = refl
tail-text false false f u = refl

carrying_text : (j : ℕ) (u : List Frame) → text_of (carrying j u) ≡ text_of (carrying j []) ++ text_of u
carrying_text zero u = refl
carrying_text (suc j) u = ap (λ (l : List ℕ). l ++ text_of u) (sym (append-nil (write_chars (Instructions (suc j)))))

summed-text : (h j : ℕ) (u : List Frame) → text_of (summed h j u) ≡ text_of (summed h j []) ++ text_of u
summed-text zero j u = refl
summed-text (suc h) j u =
    let c = write_chars (Cost (suc h)) in
    ap (λ (l : List ℕ). c ++ l) (carrying_text j u) ∙ sym (append_assoc c (text_of (carrying j [])) (text_of u))

emitted-text : (e : Given) (f : Frame) (u : List Frame) → text_of (emitted e f u) ≡ pieces e (write_chars f) ++ text_of u
emitted-text e f u =
    let tail = cond e.sync (Sync ∷ cond e.line (f ∷ u) u) (cond e.line (f ∷ u) u) in
    let last = cond e.sync (write_chars Sync) [] ++ cond e.line (write_chars f) [] in
    let front = text_of (summed e.cost.0 e.instructions.0 []) in
    summed-text e.cost.0 e.instructions.0 tail
    ∙ ap (λ (l : List ℕ). front ++ l) (tail-text e.sync e.line f u)
    ∙ sym (append_assoc front last (text_of u))

-- ── laying it ──

pub no_carry : (j at : ℕ) (out : List ℕ) → j ≡ 0 → Lays at (text_of (carrying j [])) out at out
no_carry j at out e = subst (λ (k : ℕ). Lays at (text_of (carrying k [])) out at out) (sym e) (lays_nothing at out)

carry-text : (j : ℕ) → (j ≡ 0 → ⊥) → text_of (carrying j []) ≡ write_chars (Instructions j)
carry-text zero n = absurd (n refl)
carry-text (suc j) n = append-nil (write_chars (Instructions (suc j)))

module _ (j : ℕ) (some : j ≡ 0 → ⊥) where
  pub carry-fits : j ≤ most_value → (at room : ℕ) → at + length (text_of (carrying j [])) ≤ room → (writable (Instructions j) ≡ true) × (at + 23 ≤ room)
  carry-fits most at room h = (writable-value (Instructions j) j (omega arith) ∙ le-leb 1 j (omega arith), omega (arith, ap length (carry-text j some), chars-length (Instructions j)))

  pub a-carry : {at end : ℕ} {before after : List ℕ} → Lays at (write_chars (Instructions j)) before end after → Lays at (text_of (carrying j [])) before end after
  a-carry {at} w = lays_as at (sym (carry-text j some)) w

pub no_cost : (v j at : ℕ) (out : List ℕ) → v ≡ 0 → Lays at (text_of (summed v j [])) out at out
no_cost v j at out e = subst (λ (k : ℕ). Lays at (text_of (summed k j [])) out at out) (sym e) (lays_nothing at out)

cost-text : (v j : ℕ) → (v ≡ 0 → ⊥) → text_of (summed v j []) ≡ write_chars (Cost v) ++ text_of (carrying j [])
cost-text zero j n = absurd (n refl)
cost-text (suc v) j n = refl

-- a cost line, and its instructions behind it
module _ (v j : ℕ) (some : v ≡ 0 → ⊥) (at : ℕ) (before : List ℕ) (h : at + length (text_of (summed v j [])) ≤ length before) where
  abbrev chars : List ℕ
  chars = write_chars (Cost v)

  both : chars ++ text_of (carrying j []) ≡ text_of (summed v j [])
  both = sym (cost-text v j some)

  all-fits : at + length chars + length (text_of (carrying j [])) ≤ length before
  all-fits = omega (arith, ap length both, length-append chars (text_of (carrying j [])))

  pub cost-fits : v ≤ most_value → (writable (Cost v) ≡ true) × (at + 23 ≤ length before)
  cost-fits most = (writable-value (Cost v) v (omega arith) ∙ le-leb 1 v (omega arith), omega (arith, chars-length (Cost v), all-fits))

  pub behind-fits : {end : ℕ} {after : List ℕ} → Lays at chars before end after → length after ≡ length before → end + length (text_of (carrying j [])) ≤ length after
  behind-fits w e = omega (arith, all-fits, w.ends)

  pub a-cost : {middle-end end : ℕ} {middle after : List ℕ} → Lays at chars before middle-end middle → Lays middle-end (text_of (carrying j [])) middle end after → Lays at (text_of (summed v j [])) before end after
  a-cost w u = lays_as at both (lays_next at chars (text_of (carrying j [])) before (omega (arith, all-fits)) w u)

-- a piece that goes or not
module _ (goes : Bool) (piece : List ℕ) where
  pub not_going : goes ≡ false → (at : ℕ) (out : List ℕ) → Lays at (cond goes piece []) out at out
  not_going e at out = subst (λ (b : Bool). Lays at (cond b piece []) out at out) (sym e) (lays_nothing at out)

  going : goes ≡ true → piece ≡ cond goes piece []
  going e = sym (ap (λ (b : Bool). cond b piece []) e)

  pub goes_fits : goes ≡ true → (at room : ℕ) → at + length (cond goes piece []) ≤ room → at + length piece ≤ room
  goes_fits e at room h = omega (arith, ap length (going e))

  pub goes_laid : goes ≡ true → {at end : ℕ} {before after : List ℕ} → Lays at piece before end after → Lays at (cond goes piece []) before end after
  goes_laid e {at} w = lays_as at (going e) w

-- the 23 characters that are cut out of the text are those of line n
module _ (s : List ℕ) (n : ℕ) (whole : Whole s n) (goes : Bool) (e : goes ≡ true) where
  abbrev cut : List ℕ
  cut = mid_of (23 * n) (23 * n + 23 - 23 * n) s

  cut-is : cut ≡ line_at s n
  cut-is = let k : 23 * n + 23 - 23 * n ≡ 23 = omega arith in ap (λ (k : ℕ). take k (drop (23 * n) s)) k

  pub cut_fits : (at room : ℕ) → at + length (cond goes (small_form (line_at s n)) []) ≤ room → at + length cut ≤ room
  cut_fits at room h = omega (arith, goes_fits goes (small_form (line_at s n)) e at room h, small-length (line_at s n), ap length cut-is)

  pub cut-laid : {at end : ℕ} {before after : List ℕ} → Lays at (small_form cut) before end after → Lays at (cond goes (small_form (line_at s n)) []) before end after
  cut-laid {at} w = goes_laid goes (small_form (line_at s n)) e (lays_as at (ap small_form cut-is) w)

-- the three pieces of what goes out, each behind the one before it
module _ (g : Given) (l : List ℕ) (at : ℕ) where
  abbrev a : List ℕ
  a = text_of (summed g.cost.0 g.instructions.0 [])

  abbrev b : List ℕ
  b = cond g.sync (write_chars Sync) []

  abbrev c : List ℕ
  c = cond g.line l []

  pub record Fit (room : ℕ) : Type 0 where
    pub first : at + length a ≤ room
    pub second : at + length a + length b ≤ room
    pub third : at + length a + length b + length c ≤ room

  pub pieces-fit : (room : ℕ) → at + length (pieces g l) ≤ room → Fit room
  pieces-fit room h =
      let p = length-append a (b ++ c) in
      let q = length-append b c in
      record { first = omega arith; second = omega arith; third = omega arith }

  pub pieces-laid : {x y end : ℕ} {before one two after : List ℕ} → Fit (length before) → Lays at a before x one → length one ≡ length before → Lays x b one y two → Lays y c two end after
      → Lays at (pieces g l) before end after
  pieces-laid {before = before} {one = one} f w e v u =
      lays_next at a (b ++ c) before f.first w (lays_next _ b c one (omega (arith, f.second, w.ends)) v u)

-- ── a line ──

-- the line behind line n tells what line n's cost has of instructions; behind the last line there is none
next_carries : (s : List ℕ) (n : ℕ) (u : List Frame) → Stands Base s (n + 1) u → n + 1 + length u ≡ line_count s → instructions_at s n ≡ carried u
next_carries s n [] h e = ap (λ (l : List ℕ). cond (eqb (kind_in l) 7) (value_at s (n + 1)) 0) (at_none s (n + 1) (omega arith))
next_carries s n (f ∷ u) h e =
    let i = item s (n + 1) (n + 1) f h.0 in
    ap (λ (k : ℕ). cond (eqb k 7) (value_at s (n + 1)) 0) i.0 ∙ ap (λ (v : ℕ). cond (eqb (kind_of f) 7) v 0) i.2 ∙ of f
  where
    of : (f : Frame) → cond (eqb (kind_of f) 7) (value_of f) 0 ≡ carried (f ∷ u)
    of (Site s p) = refl
    of (Call s) = refl
    of (Spawn s) = refl
    of Sync = refl
    of Return = refl
    of (Cost v) = refl
    of (Instructions v) = refl
    of (Async s) = refl
    of Finish = refl

cost_carries : (f : Frame) (u : List Frame) → cond (eqb (kind_of f) 6) (carried u) 0 ≡ instructions_of f u
cost_carries (Site s p) u = refl
cost_carries (Call s) u = refl
cost_carries (Spawn s) u = refl
cost_carries Sync u = refl
cost_carries Return u = refl
cost_carries (Cost v) u = refl
cost_carries (Instructions v) u = refl
cost_carries (Async s) u = refl
cost_carries Finish u = refl

-- the step by the item of line n is that at line n
pub given_is : (s : List ℕ) (n : ℕ) (a : State) (i : Item) (g : Given) → i ≡ item_at s n → g ≡ step i.kind i.cycles i.instructions a → g ≡ stepped_at s n a
given_is s n a i g e h = h ∙ ap (λ (x : Item). step x.kind x.cycles x.instructions a) e

module _ (s : List ℕ) (n : ℕ) (f : Frame) (reads : read_at s n ≡ says n f) where
  -- its kind, its value and the line behind it tell the step
  step_is : (u : List Frame) (a : State) → Stands Base s (n + 1) u → n + 1 + length u ≡ line_count s → stepped_at s n a ≡ stepped a f u
  step_is u a h e =
      let i = item s n n f reads in
      let c : carried_at s n (kind_at s n) ≡ instructions_of f u =
      ap (λ (k : ℕ). cond (eqb k 6) (instructions_at s n) 0) i.0 ∙ ap (λ (v : ℕ). cond (eqb (kind_of f) 6) v 0) (next_carries s n u h e) ∙ cost_carries f u in
      ap (λ (k : ℕ). step k (cycles (value_at s n)) (instructions (carried_at s n (kind_at s n))) a) i.0
      ∙ ap (λ (v : ℕ). step (kind_of f) (cycles v) (instructions (carried_at s n (kind_at s n))) a) i.2
      ∙ ap (λ (v : ℕ). step (kind_of f) (cycles (value_of f)) (instructions v) a) c

  -- in small letters it is what the line writer gives
  pub line_is : small_form (line_at s n) ≡ write_chars f
  line_is = sym (read_write (line_at s n) n n f reads).2

-- ── the passes ──

-- the lines from line n on, with a held back before it
pub record Turn (s : List ℕ) (lines : ℕ) (a : State) (n : ℕ) (rest : List Frame) : Type 0 where
  pub stands : Stands Base s n rest
  pub ends : n + length rest ≡ lines
  pub room : Room a rest

module _ {s : List ℕ} {lines : ℕ} where
  turn-next : {a : State} {n : ℕ} {f : Frame} {u : List Frame} → Turn s lines a n (f ∷ u) → Turn s lines (stepped a f u).next (n + 1) u
  turn-next t = record { stands = t.stands.1; ends = omega (arith, t.ends); room = t.room.1 }

  turn-ready : {a : State} {n : ℕ} (rest : List Frame) → Turn s lines a n rest → n < lines → Ready a
  turn-ready [] t l = absurd (omega (arith, t.ends))
  turn-ready (f ∷ u) t l = t.room.0

  turn_step : {a : State} {n : ℕ} {f : Frame} {u : List Frame} → line_count s ≡ lines → Turn s lines a n (f ∷ u) → stepped_at s n a ≡ stepped a f u
  turn_step {a} {n} {f} {u} e t = step_is s n f t.stands.0 u a t.stands.1 (omega (arith, t.ends))

  module _ (q : Lines s lines) where
    turn-start : Turn s lines start 0 q.frames
    turn-start = record { stands = q.stands; ends = omega (arith, q.long); room = q.room }

    -- ── counting ──

    -- so many lines went out, and with what goes out from line n on they are all
    pub record Counting (a : State) (total n : ℕ) : Type 0 where
      pub rest : List Frame
      pub turn : Turn s lines a n rest
      pub future : total + length (outs a rest) ≡ length (outs start q.frames)

    pub counting_start : Counting start 0 0
    counting_start = record { rest = q.frames; turn = turn-start; future = omega arith }

    pub counting_ready : {a : State} {total n : ℕ} → Counting a total n → n < lines → Ready a
    counting_ready h l = turn-ready h.rest h.turn l

    module _ {a : State} {total n : ℕ} (k : ℕ) (g : Given) (g-is : g ≡ stepped_at s n a) (k-is : k ≡ size_of g) where
      pub counting_on : Counting a total n → n < lines → (total + k ≤ 65536) × Counting g.next (total + k) (n + 1)
      counting_on h l = go h.rest h.turn h.future
        where
          go : (rest : List Frame) → Turn s lines a n rest → total + length (outs a rest) ≡ length (outs start q.frames) → (total + k ≤ 65536) × Counting g.next (total + k) (n + 1)
          go [] t e = absurd (omega (arith, t.ends))
          go (f ∷ u) t e =
              let is : stepped a f u ≡ g = sym (g-is ∙ turn_step q.all t) in
              let size = emitted-size (stepped a f u) f (outs (stepped a f u).next u) in
              let same : size_of (stepped a f u) ≡ k = ap size_of is ∙ sym k-is in
              let then : total + k + length (outs (stepped a f u).next u) ≡ length (outs start q.frames) = omega arith in (
                omega (arith, q.few),
                subst (λ (x : Given). Counting x.next (total + k) (n + 1)) is (record { rest = u; turn = turn-next t; future = then }),
              )

    pub counting_end : {a : State} {total n : ℕ} → Counting a total n → lines ≤ n → total ≡ length (outs start q.frames)
    counting_end {a} {total} {n} h l = go h.rest h.turn h.future
      where
        go : (rest : List Frame) → Turn s lines a n rest → total + length (outs a rest) ≡ length (outs start q.frames) → total ≡ length (outs start q.frames)
        go [] t e = omega arith
        go (f ∷ u) t e = absurd (omega (arith, t.ends))

    -- ── writing ──

    abbrev whole : List ℕ
    whole = text_of (outs start q.frames)

    -- the text of the lines that went out is laid, and with that of those that go out from line n on it is all
    pub record Writing (before : List ℕ) (a : State) (out : List ℕ) (at n : ℕ) : Type 0 where
      pub rest : List Frame
      pub turn : Turn s lines a n rest
      pub done : List ℕ
      pub laid : Lays 0 done before at out
      pub future : done ++ text_of (outs a rest) ≡ whole

    pub writing_start : (before : List ℕ) → Writing before start before 0 0
    writing_start before = record { rest = q.frames; turn = turn-start; done = []; laid = lays_nothing 0 before; future = refl }

    pub writing-ready : {before : List ℕ} {a : State} {out : List ℕ} {at n : ℕ} → Writing before a out at n → n < lines → Ready a
    writing-ready h l = turn-ready h.rest h.turn l

    module _ {before : List ℕ} {a : State} {out : List ℕ} {at n : ℕ} (g : Given) (g-is : g ≡ stepped_at s n a)
        (fits : length whole ≤ length before) (h : Writing before a out at n) (l : n < lines) where
      abbrev piece : List ℕ
      piece = pieces g (small_form (line_at s n))

      -- line n, what goes out at it, and what is left then
      record Here : Type 0 where
        tail : List Frame
        line : Whole s n
        next : Turn s lines g.next (n + 1) tail
        then : (h.done ++ piece) ++ text_of (outs g.next tail) ≡ whole

      here : Here
      here = go h.rest h.turn h.future
        where
          go : (rest : List Frame) → Turn s lines a n rest → h.done ++ text_of (outs a rest) ≡ whole → Here
          go [] t e = absurd (omega (arith, t.ends))
          go (f ∷ u) t e =
              let is : stepped a f u ≡ g = sym (g-is ∙ turn_step q.all t) in
              let p = pieces (stepped a f u) (write_chars f) in
              let same : p ≡ piece = ap (λ (x : Given). pieces x (write_chars f)) is ∙ ap (pieces g) (sym (line_is s n f t.stands.0)) in
              let on : (h.done ++ p) ++ text_of (outs (stepped a f u).next u) ≡ whole =
              append_assoc h.done p (text_of (outs (stepped a f u).next u))
              ∙ ap (λ (x : List ℕ). h.done ++ x) (sym (emitted-text (stepped a f u) f (outs (stepped a f u).next u)))
              ∙ e in
              record {
                tail = u;
                line = line-whole Base s n f t.stands.0;
                next = subst (λ (x : Given). Turn s lines x.next (n + 1) u) is (turn-next t);
                then = ap (λ (x : List ℕ). (h.done ++ x) ++ text_of (outs g.next u)) (sym same) ∙ ap (λ (x : Given). (h.done ++ p) ++ text_of (outs x.next u)) (sym is) ∙ on;
              }

      long : length h.done + length piece ≤ length before
      long = omega (arith, ap length here.then, length-append (h.done ++ piece) (text_of (outs g.next here.tail)), length-append h.done piece)

      pub writing-asks : length out ≡ length before → Whole s n × (Fitting g × (at + length piece ≤ length out))
      writing-asks e =
          let fitting = step-fitting (kind_at s n) (value_at s n) (carried_at s n (kind_at s n)) a (writing-ready h l) in
          (here.line, (subst Fitting (sym g-is) fitting, omega (arith, long, h.laid.ends)))

      pub writing-on : {end : ℕ} {after : List ℕ} → Lays at piece out end after → Writing before g.next after end (n + 1)
      writing-on w = record { rest = here.tail; turn = here.next; done = h.done ++ piece; laid = lays_next 0 h.done piece before (omega (arith, long)) h.laid w; future = here.then }

    pub writing-end : {before : List ℕ} {a : State} {out : List ℕ} {at n : ℕ} → Writing before a out at n → lines ≤ n → Lays 0 whole before at out
    writing-end {before} {a} {out} {at} {n} h l = go h.rest h.turn h.future
      where
        go : (rest : List Frame) → Turn s lines a n rest → h.done ++ text_of (outs a rest) ≡ whole → Lays 0 whole before at out
        go [] t e = subst (λ (x : List ℕ). Lays 0 x before at out) (sym (append-nil h.done) ∙ e) h.laid
        go (f ∷ u) t e = absurd (omega (arith, t.ends))
