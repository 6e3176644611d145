-- The laws of request g over the definitions of 01: a compacted trace passes, nothing that is profiled changes, and once is
-- enough. Assumes nothing.
use mathlib.Core.Path.{◌≡◌, refl, sym, ◌∙◌, ap, subst}
use mathlib.Core.Bool.{false}
use mathlib.Core.List.{List, [], append-nil}
use Prim.Native.Nat.{ℕ, zero, suc, ◌≤◌}
use native.Mathlib.Omega.{arith}
use lib.ListN.{length}
use Rattle.line.specs.Family.{Base}
use Rattle.line.specs.declared.Frame.{Frame}
use Rattle.chain.specs.Plan.{CostLine}
use Rattle.chain.specs.Over.{lines_in}
use Rattle.trace.specs.Shape.{root, sites}
use Rattle.trace.specs.Series.{Span, Chosen}
use Rattle.trace.specs.Rows.{Spans, on_span, ion_span}
use Rattle.trace.specs.Tree.{Body, Of, lines_of, Within, Parts, work_of, local_of, ilocal_of, span_of, row_sum, outer_row, calls_in, work_in, spans_in, local_in, ilocal_in}
use Rattle.trace.specs.Fold.{its_cycles, its_instructions, on_row}
use Rattle.trace.proofs.Scan.{Fine}
use Rattle.trace.proofs.Parse.{parts}
use Rattle.trace.proofs.Tree.{size_is}
use Rattle.trace.proofs.Named.{Named, naming, sites_alike}
use Rattle.trace.proofs.Accept.{fine-is-trace, trace-is-fine}
use Rattle.trace.proofs.Invocations.{root-paid}
use Rattle.trace.proofs.Recurrence.{Paid}
use Rattle.trace.proofs.Root.{root_chain, root-span, root-span-only, root-chosen-only}
use Rattle.trace.proofs.Columns.{calls-tree, local-tree, ilocal-tree, total-tree}
use Rattle.trace.proofs.Outermost.{work-tree, spans_tree}
use Rattle.trace.proofs.OnChain.{on-span-tree, ion_span-tree}
use Rattle.trace.proofs.Owned.{Owned, OwnedBody, owned-lines, owned-body}
use Rattle.trace.proofs.Unique.{spans_unique}
use Rattle.compact.specs.Fold.{compact}
use Rattle.compact.specs.Unchanged.{Unchanged}
use Rattle.compact.specs.Tree.{compact_b}
use Rattle.compact.proofs.Pairs.{Adds, cycles-add, instructions-add}
use Rattle.compact.proofs.Lines.{compact-lines, compact-naming}
use Rattle.compact.proofs.Sums.{compact-within, compact-of, compact-owned, compact-size, compact-work, compact-local, compact-ilocal, packed-made, packed_outer}
use Rattle.compact.proofs.Spans.{compact-span, compact-on}
use Rattle.compact.proofs.Once.{compact_once}

-- ── the sums over a row, on the tree ──

module _ (f : Body → ℕ) (same : (g : Body) → Paid g → f (compact_b g) ≡ f g) where
  row_same : (s : ℕ) (b : Body) → Paid b → row_sum f s (compact_b b) ≡ row_sum f s b
  row_same zero b w = same b w
  row_same (suc s) b w = packed-made f same (suc s) b false 0 0 w

module _ (f : Body → ℕ) (same : (k : ℕ) (g : Body) → Of Base k g → Paid g → f (compact_b g) ≡ f g) where
  outer_same : (s : ℕ) (b : Body) → Of Base 0 b → Paid b → outer_row f s (compact_b b) ≡ outer_row f s b
  outer_same zero b o w = same 0 b o w
  outer_same (suc s) b o w = packed_outer f same (suc s) 0 b false 0 0 o w

compact-calls : (s : ℕ) (b : Body) → Paid b → calls_in s (compact_b b) ≡ calls_in s b
compact-calls = row_same (λ g. 1) (λ g w. refl)

compact_works : (s : ℕ) (b : Body) → Of Base 0 b → Paid b → work_in s (compact_b b) ≡ work_in s b
compact_works = outer_same work_of (λ k g o w. compact-work g)

compact_spans : (s : ℕ) (b : Body) → Of Base 0 b → Paid b → spans_in s (compact_b b) ≡ spans_in s b
compact_spans = outer_same span_of compact-span

compact_locals : (s : ℕ) (b : Body) → Paid b → local_in s (compact_b b) ≡ local_in s b
compact_locals = row_same local_of compact-local

compact_ilocals : (s : ℕ) (b : Body) → Paid b → ilocal_in s (compact_b b) ≡ ilocal_in s b
compact_ilocals = row_same ilocal_of compact-ilocal

-- ── over the definitions ──

module _ (D : ℕ) (t : List Frame) (p : Parts D t) (own : Owned false t) where
  pub body-owned : OwnedBody false p.body
  body-owned = (owned-body p.body false [] (subst (Owned false) (p.lines ∙ sym (append-nil (lines_of p.body))) own)).0

  abbrev u : List Frame
  u = compact t

  same-naming : naming u ≡ naming t
  same-naming = compact-naming t p.body p.lines body-owned

  pub same_sites : sites u ≡ sites t
  same_sites = sites_alike u t same-naming

  -- the compacted trace has the compacted tree, within the same limits
  abbrev pub compact_parts : Parts D u
  compact_parts =
      record {
        body = compact_b p.body;
        of = compact-of 0 p.body p.of;
        lines = ap compact p.lines ∙ compact-lines p.body body-owned;
        within = subst (λ (m : ℕ). Within m D 1 (compact_b p.body)) (sym same_sites) (compact-within (sites t) D 1 p.body p.within);
      }

  abbrev q : Parts D u
  q = compact_parts

  w : Paid p.body
  w = root-paid D t p

  -- LAW: each 07 line of it stands directly after a cost line
  pub compact-lines-owned : Owned false u
  compact-lines-owned =
      subst (Owned false) (append-nil (lines_of q.body) ∙ sym q.lines) (owned-lines q.body false [] (compact-owned p.body) tt)

  -- a column that is the chosen chain's part in the row, in some measure
  same-on : (column : List Frame → List ℕ → ℕ → ℕ) (m : CostLine → ℕ) → Adds m
      → ((v : List Frame) (x : Parts D v) (s : ℕ) → column v (lines_in (root_chain D v x)) s ≡ on_row m s (root_chain D v x))
      → (c d : List ℕ) → Chosen t c → Chosen u d → (s : ℕ) → column u d s ≡ column t c s
  same-on column m a tree c d h k s =
      ap (λ (l : List ℕ). column u l s) (root-chosen-only D u q d k)
      ∙ tree u q s
      ∙ compact-on m a p.body 0 0 0 s p.of w
      ∙ sym (tree t p s)
      ∙ sym (ap (λ (l : List ℕ). column t l s) (root-chosen-only D t p c h))

  -- LAW: "Work, span and all rows are unchanged"
  pub compact-unchanged : Unchanged t u
  compact-unchanged =
      record {
        same_sites = same_sites;
        same_total = total-tree D u q ∙ compact-work p.body ∙ sym (total-tree D t p);
        same_span = λ n h. subst (Span u root) (compact-span 0 p.body p.of w ∙ sym (root-span-only D t p n h)) (root-span D u q);
        same_calls = λ s. calls-tree D u q s ∙ compact-calls s p.body w ∙ sym (calls-tree D t p s);
        same_work = λ s. work-tree D u q s ∙ compact_works s p.body p.of w ∙ sym (work-tree D t p s);
        same_spans = λ s n h.
            subst (Spans u s) (compact_spans s p.body p.of w ∙ sym (spans_unique t s n (spans_in s p.body) h (spans_tree D t p s))) (spans_tree D u q s);
        same_local = λ s. local-tree D u q s ∙ compact_locals s p.body w ∙ sym (local-tree D t p s);
        same_ilocal = λ s. ilocal-tree D u q s ∙ compact_ilocals s p.body w ∙ sym (ilocal-tree D t p s);
        same_on_span = same-on on_span its_cycles cycles-add (on-span-tree D);
        same_ion_span = same-on ion_span its_instructions instructions-add (ion_span-tree D);
      }

  -- LAW: "Compacting twice equals compacting once."
  pub twice_is_once : compact u ≡ u
  twice_is_once =
      ap compact q.lines
      ∙ compact-lines (compact_b p.body) (compact-owned p.body)
      ∙ ap lines_of (compact_once p.body w body-owned)
      ∙ sym q.lines

  -- LAW: never longer
  pub never_longer : length u ≤ length t
  never_longer =
      omega (
        arith,
        ap length q.lines,
        ap length p.lines,
        size_is (compact_b p.body),
        size_is p.body,
        compact-size p.body,
      )

-- LAW: what passes still passes, with the same limits
pub compact-fine : (D M : ℕ) (t : List Frame) → Fine Base D M t → Fine Base D M (compact t)
compact-fine D M t f =
    let x = fine-is-trace D M t f in
    let p = parts D M t f in
    let q = compact_parts D t p x.owned in
    trace-is-fine D M (compact t) f.least f.most f.sites_most (omega (arith, f.lines_most, never_longer D t p x.owned))
    (record {
      body = q.body;
      of = q.of;
      lines = q.lines;
      named = subst (Named M []) (sym (same-naming D t p x.owned)) x.named;
      owned = compact-lines-owned D t p x.owned;
      within = q.within;
    })
