-- Request i: of every accepted trace, and of what both engines answer.
use mathlib.Core.Path.{◌≡◌, sym, ◌∙◌, ap}
use mathlib.Core.Bool.{Bool, true, false, cond}
use mathlib.Core.List.{List}
use Prim.Native.Nat.{ℕ, ◌+◌, ◌-◌, ◌/◌, ◌≤◌, ◌<◌}
use native.Mathlib.Omega.{arith}
use lib.Dec.{T}
use lib.ListN.{get_or}
use Rattle.line.specs.Family.{Base}
use Rattle.line.specs.declared.Frame.{Frame}
use Rattle.line.specs.declared.Frame.TheVariants.{Cost}
use Rattle.line.specs.Read.{line_at}
use Rattle.trace.specs.Shape.{Is, root, has}
use Rattle.trace.specs.Series.{Span}
use Rattle.trace.specs.Refusals.{accepted, verdict}
use Rattle.trace.specs.Tree.{span_of}
use Rattle.trace.specs.Promise.{Engine, marks, Lent, enough}
use Rattle.trace.proofs.Checks.{same-room}
use Rattle.trace.proofs.Scan.{read_line_lem, accepted-reads}
use Rattle.trace.proofs.Chains.{is-length}
use Rattle.trace.proofs.Parse.{accepted-parts}
use Rattle.trace.proofs.Root.{root-span}
use Rattle.weigh.specs.Raised.{raised, lowered}
use Rattle.weigh.proofs.Less.{ilocal_alike, ion_span_alike}
use Rattle.weigh.proofs.OneLine.{one_alike, one-length, one-sites, total-raised}
use Rattle.agree.specs.Demand.{Run, Ran, HasRoom}
use Rattle.agree.proofs.Demand.{accepts}
use Rattle.moves.specs.Moves.{OnSomeHeaviest, Falls}
use Rattle.moves.specs.Text.{with_cost}
use Rattle.moves.specs.HowFar.{HowFar, Moved, BothEngines}
use Rattle.moves.proofs.Moves.{span-moves, span_falls}
use Rattle.moves.proofs.Text.{cost-length, cost-accepted}

-- a cost of an accepted trace is in the table
in_table : (s : List ℕ) (D M : ℕ) (room : Bool) (t : List Frame) (k v : ℕ) → verdict s D M room ≡ accepted t → Is t k (Cost v) → (1 ≤ v) × (v ≤ 4294967295)
in_table s D M room t k v a i = (read_line_lem Base (line_at s k) k k (Cost v) (accepted-reads s D M room t a k (Cost v) i)).1

-- LAW: request i
pub how_far : HowFar
how_far s D M room t k v d a h =
    let c = in_table s D M room t k v a h.cost_line in
    let b = cost-accepted (λ x. x + d) s D M room t k v a h.cost_line (omega arith) (omega arith) in
    record {
      accepted_too = b;
      span = span_of (accepted-parts s D M room t a).body;
      is_span = root-span D t (accepted-parts s D M room t a);
      raised_span = span_of (accepted-parts (with_cost s k (v + d)) D M room (raised t k d) b).body;
      is_raised_span = root-span D (raised t k d) (accepted-parts (with_cost s k (v + d)) D M room (raised t k d) b);
      moves = λ F m n x y. span-moves t k v d h.cost_line F m n x y (omega arith);
      same_ilocal = λ i. sym (ilocal_alike t (raised t k d) (one_alike (λ x. x + d) t k) i);
      same_ion_span = λ c i. sym (ion_span_alike t (raised t k d) (one_alike (λ x. x + d) t k) c i);
    }

-- LAW: and the other way, with the value still at least 1
pub how_far_down : (s : List ℕ) (D M : ℕ) (room : Bool) (t : List Frame) (k v d : ℕ) → verdict s D M room ≡ accepted t → Is t k (Cost v) → 1 ≤ d → d < v
    → (verdict (with_cost s k (v - d)) D M room ≡ accepted (lowered t k d)) × ((F m n : ℕ) → Span t F m → Span (lowered t k d) F n → Falls t F k d m n)
how_far_down s D M room t k v d a i one l =
    let c = in_table s D M room t k v a i in
    (cost-accepted (λ x. x - d) s D M room t k v a i (omega arith) (omega arith), λ F m n x y. span_falls t k v d i one (omega arith) F m n x y)

-- ── the engines ──

-- LAW: of any two runs that do not lack room, one on a text of the trace and one on a text of the raised trace, each of
-- either engine and with limits of its own
pub runs_move : (e f : Engine) (s z : List ℕ) (D M E N : ℕ) (t : List Frame) (k v d : ℕ) (x y : Run) → Is t k (Cost v) → 1 ≤ d
    → Ran e s D M x → HasRoom e s D M x → verdict s D M true ≡ accepted t → Ran f z E N y → HasRoom f z E N y → verdict z E N true ≡ accepted (raised t k d) → Moved t k d x y
runs_move e f s z D M E N t k v d x y i one h r a g q b =
    let p = accepts e s D M x h r t a in
    let w = accepts f z E N y g q (raised t k d) b in
    record {
      span = p.span;
      raised_span = w.span;
      answers = p.answer;
      raised_answers = cc (w.answer, total-raised t k v d i, one-sites (λ x. x + d) t k, one-length (λ x. x + d) t k);
      moves = span-moves t k v d i root p.span w.span p.is_span w.is_span one;
    }

-- LAW: so on the text with that one line written anew
pub both_engines : BothEngines
both_engines e f s D M t k v d x y a m h r g q =
    runs_move e f s (with_cost s k (v + d)) D M D M t k v d x y m.cost_line (omega arith) h r a g q (how_far s D M true t k v d a m).accepted_too

-- LAW: which asks for the same room
pub room_stays : (e : Engine) (s : List ℕ) (D M : ℕ) (room : Bool) (t : List Frame) (k v w : ℕ) (lent : Lent) → verdict s D M room ≡ accepted t → Is t k (Cost v)
    → enough e (with_cost s k w) D M lent ≡ enough e s D M lent
room_stays e s D M room t k v w lent a i = same-room e s (with_cost s k w) D M lent (ap (λ (n : ℕ). n / 23) (cost-length (λ x. w) s D M room t k v a i))

-- LAW: a line that the marks engine marks stands on some heaviest chain
pub marked-heaviest : (s : List ℕ) (D M : ℕ) (t : List Frame) (k v : ℕ) (x : Run) → verdict s D M true ≡ accepted t → Is t k (Cost v)
    → Ran marks s D M x → HasRoom marks s D M x → get_or x.left.marks k 0 ≡ 1 → OnSomeHeaviest t root k
marked-heaviest s D M t k v x a i h r one =
    let p = accepts marks s D M x h r t a in
    record {
      chain = p.chain;
      is_chain = p.chosen.chain;
      on = go (has k p.chain) (sym (p.marked.marks_are k (is-length t k (Cost v) i)) ∙ one);
      heaviest = p.chosen.heaviest;
    }
  where
    go : (b : Bool) → ◌≡◌ {A = ℕ} (cond b 1 0) 1 → T b
    go true e = tt
    go false e = absurd (omega arith)

-- LAW: so it moves the span that either engine answers by all of d
pub marked-moves : (s : List ℕ) (D M : ℕ) (t : List Frame) (k v d : ℕ) (x : Run) → verdict s D M true ≡ accepted t → Is t k (Cost v)
    → Ran marks s D M x → HasRoom marks s D M x → get_or x.left.marks k 0 ≡ 1 → (w y : Run) (p : Moved t k d w y) → p.raised_span ≡ p.span + d
marked-moves s D M t k v d x a i h r one w y p = p.moves.exactly.1 (marked-heaviest s D M t k v x a i h r one)
