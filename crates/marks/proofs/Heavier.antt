-- One line of an accepted trace is asked heavier: what the reading of its root asks for, and what it comes to.
use mathlib.Core.Path.{◌≡◌, refl, ap, ◌∙◌, sym, subst}
use mathlib.Core.Bool.{true, cond}
use mathlib.Core.List.{List}
use Prim.Native.Nat.{ℕ, ◌*◌, ◌-◌, ◌≤◌}
use native.Mathlib.Omega.{arith}
use lib.ListN.{length, get_or, replicate, length-replicate}
use Rattle.line.specs.Family.{Base}
use Rattle.chain.specs.Over.{lines_in}
use Rattle.trace.specs.Shape.{root, has, sites}
use Rattle.trace.specs.Series.{Span}
use Rattle.trace.specs.Rows.{columns}
use Rattle.trace.specs.Tree.{Body, span_of}
use Rattle.trace.specs.Fold.{nothing, chain_of}
use Rattle.trace.proofs.Recurrence.{weight-chain}
use Rattle.trace.proofs.Scan.{Fine, accepted-is}
use Rattle.trace.proofs.Parse.{parts}
use Rattle.weigh.specs.Raised.{raised}
use Rattle.weigh.proofs.AnyWeight.{heavy_body, raised_span, raised-chosen}
use Rattle.walk.specs.declared.Open.{Open}
use Rattle.walk.specs.Weight.{more, asked_line, by_asking}
use Rattle.walk.proofs.Zeros.{zeros-at}
use Rattle.walk.proofs.Root.{root_body, root-size, root-reads}
use Rattle.walk.proofs.Heavier.{some, heavy_is, heavy_ready}
use Rattle.marks.specs.Reader.{BodyAsks, BodyLeft, BodyLeaves}
use Rattle.marks.specs.Heavier.{HeavierAsks, HeavierLeaves}
use Rattle.marks.proofs.Bodies.{shows-begun}

module _ {s : List ℕ} {D : ℕ} {t m : List ℕ} (h : HeavierAsks s D t m) where
  fine : Fine Base D h.M h.frames
  fine = (accepted-is s D h.M true h.frames h.is).1.fine

  -- there is an invocation to open
  pub depth-some : 1 ≤ D
  depth-some = fine.least

  -- each line of the text has a mark
  text_in : length s ≤ 23 * length m
  text_in =
      let r = h.marks_room_fits in
      let w = (accepted-is s D h.M true h.frames h.is).1.whole_lines in
      omega arith

  module _ (asking : List ℕ) (q : ℕ) (long : length asking ≡ asked_line) (line : get_or asking 256 0 ≡ q) where
    -- the scratch and the rows were cleared
    pub heavier-asks : {t₁ rows : List ℕ} → t₁ ≡ replicate (length t) 0 → rows ≡ replicate (columns * 256) 0 → BodyAsks Base (by_asking asking) s 0 0 (D - 1) t₁ m rows
    heavier-asks {t₁} {rows} zero-t zero-rows =
        record {
          sites = sites h.frames;
          ready =
              heavy_ready asking q long line D h.M h.frames fine s true h.is rows
              (omega (arith, ap length zero-rows, length-replicate {A = ℕ} (columns * 256) 0)) (λ i. ap (λ (y : List ℕ). get_or y i 0) zero-rows ∙ zeros-at (columns * 256) i);
          lines = text_in;
          zero = λ j. ap (λ (y : List ℕ). get_or y j 0) zero-t ∙ zeros-at (length t) j;
          room = omega (arith, h.scratch_room_fits, depth-some, ap length zero-t, length-replicate {A = ℕ} (length t) 0);
          n = 0;
          k = nothing;
          weighs = refl;
          shows = shows-begun 0 0 m;
        }

    -- LAW: the root was read: its span and its marks are those of the raised trace
    pub heavier-leaves : {rows : List ℕ} {r : Open} {m' rows' : List ℕ} → length m' ≡ length m → BodyLeaves Base (by_asking asking) s 0 0 m rows r m' rows' → HeavierLeaves s D q m r.prefix.0 m'
    heavier-leaves {rows} {r} {m'} {rows'} same leaves M u is =
        let w = some asking q long line in
        let f = (accepted-is s D M true u is).1.fine in
        let p = parts D M u f in
        let b = root_body (by_asking asking) w D M u f in
        let left : BodyLeft 0 0 b m rows r m' rows' = leaves b (root-reads (by_asking asking) w D M u f s true is) in
        let at : r.at ≡ length u = omega (arith, ap (λ (x : Open). x.at) left.done.numbers_are, root-size (by_asking asking) w D M u f) in
        let e : b ≡ heavy_body D u p q more = heavy_is asking q long line D M u f in
        let span : span_of (heavy_body D u p q more) ≡ r.prefix.0 = sym (ap (λ (x : Open). x.prefix.0) left.done.numbers_are ∙ weight-chain b 0 0 ∙ ap span_of e) in
        record {
          chain = lines_in (chain_of 0 0 (heavy_body D u p q more));
          chosen = raised-chosen D u p q more;
          is_span = subst (Span (raised u q more) root) span (raised_span D u p q more);
          marked =
              record {
                same_length = same;
                marks_are = λ k l. left.zone.marks_are k (omega arith) (omega (arith, at)) ∙ ap (λ (x : Body). cond (has k (lines_in (chain_of 0 0 x))) 1 0) e;
                rest = λ k l. left.kept k (λ x y. omega (arith, at));
              };
        }
