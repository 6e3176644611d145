-- From acceptance to the promise: what the two readings of the root ask for and come to, and the line's answer.
use mathlib.Core.Path.{◌≡◌, refl, ap, ◌∙◌, sym, subst}
use mathlib.Core.Bool.{Bool, true, false, cond}
use mathlib.Core.List.{List, [], ◌∷◌}
use Prim.Native.Nat.{ℕ, zero, suc, ◌*◌, ◌-◌, ◌≤◌, ◌<◌}
use native.Mathlib.Omega.{arith}
use lib.Dec.{eqb, leb}
use lib.ListN.{length, get_or, replicate}
use borrow.Author.Tests.{leb-true, lt-ltb, le-ltb}
use Rattle.std.specs.Prelude.{Result, Ok, Err}
use Rattle.line.specs.Family.{Base}
use Rattle.line.specs.declared.Frame.{Frame}
use Rattle.line.specs.declared.Frame.TheVariants.{Site, Call, Spawn, Sync, Return, Cost, Instructions, Async, Finish}
use Rattle.line.specs.At.{kind_at}
use Rattle.trace.specs.Shape.{Is, has, sites}
use Rattle.trace.specs.Rows.{total}
use Rattle.trace.specs.Refusals.{line_count, Verdict, accepted, refused, verdict}
use Rattle.trace.specs.Promise.{Marks}
use Rattle.trace.specs.Tree.{Parts, span_of}
use Rattle.trace.proofs.Basics.{both, clash}
use Rattle.trace.proofs.Scan.{Fine, accepted-is, accepted-same, accepted-reads, accepted-length}
use Rattle.trace.proofs.Parse.{parts}
use Rattle.trace.proofs.Small.{fine-small}
use Rattle.trace.proofs.Outcome.{work-small, length-is}
use Rattle.trace.proofs.Unique.{span_unique, chosen_unique}
use Rattle.weigh.specs.Weighed.{plainly}
use Rattle.weigh.proofs.Weighed.{weighed-plainly}
use Rattle.weigh.proofs.AnyWeight.{heavy_body, raised_span, raised-chosen}
use Rattle.walk.specs.Weight.{more}
use Rattle.walk.specs.Stands.{kind_of}
use Rattle.walk.specs.Reads.{Reads}
use Rattle.walk.specs.Nested.{Nested}
use Rattle.walk.proofs.Says.{kind-says}
use Rattle.walk.proofs.Root.{weighed-nested, root-reads}
use Rattle.marks.specs.Shown.{Wiped}
use Rattle.marks.specs.Heavier.{HeavierAsks, HeavierDone, HeavierLeaves}
use Rattle.line.specs.declared.Refusal.{Refusal}
use Rattle.line.specs.Refusal.{refusal}
use Rattle.admit.specs.declared.Accepted.{Accepted}
use Rattle.admit.specs.Answer.{answer_of as admission}
use Rattle.admit.proofs.Admitted.{refused-only, accepted-only}
use Rattle.why.specs.declared.Why.{Why}
use Rattle.why.specs.declared.Why.TheVariants.{NotCost}
use Rattle.why.specs.declared.Returned.{Returned}
use Rattle.why.specs.Seek.{answer_of}
use Rattle.why.specs.Second.{marked_in, BodyAsks, BodyLeaves}
use Rattle.why.specs.Promise.{roomy, asking, Told, Answers, Keeps, Asked, LineAsks, LineLeaves, Admitted, Ends}
use Rattle.why.proofs.Through.{in_root, span-through, through-raised}
use Rattle.why.proofs.TwoPasses.{first_pass, two-passes}

-- ── lines of a trace ──

frame_at : (t : List Frame) (q : ℕ) → q < length t → (f : Frame) × Is t q f
frame_at [] q l = absurd (omega arith)
frame_at (f ∷ t) zero l = (f, refl)
frame_at (f ∷ t) (suc q) l = frame_at t q (omega arith)

cost-frame : (f : Frame) → kind_of f ≡ 6 → (v : ℕ) × (f ≡ Cost v)
cost-frame (Site s p) h = absurd (omega arith)
cost-frame (Call s) h = absurd (omega arith)
cost-frame (Spawn s) h = absurd (omega arith)
cost-frame Sync h = absurd (omega arith)
cost-frame Return h = absurd (omega arith)
cost-frame (Cost v) h = (v, refl)
cost-frame (Instructions v) h = absurd (omega arith)
cost-frame (Async s) h = absurd (omega arith)
cost-frame Finish h = absurd (omega arith)

-- the text s is an accepted trace
module _ (s : List ℕ) (D M : ℕ) (t : List Frame) (is : verdict s D M true ≡ accepted t) where
  fine : Fine Base D M t
  fine = (accepted-is s D M true t is).1.fine

  abbrev tree : Parts D t
  tree = parts D M t fine

  kind-of : (q : ℕ) (f : Frame) → Is t q f → kind_at s q ≡ kind_of f
  kind-of q f i = kind-says Base s q q (kind_at s q) refl refl f (accepted-reads s D M true t is q f i)

  cost-at : (q : ℕ) → q < line_count s → kind_at s q ≡ 6 → (v : ℕ) × Is t q (Cost v)
  cost-at q l k6 =
      let x = frame_at t q (omega (arith, accepted-length s D M true t is)) in
      let c = cost-frame x.0 (sym (kind-of q x.0 x.1) ∙ k6) in
      (c.0, subst (Is t q) c.1 x.1)

  -- ── the second reading ──

  reads : Reads Base plainly s 0 0 tree.body
  reads = subst (Reads Base plainly s 0 0) (weighed-plainly tree.body 0 0) (root-reads plainly (λ n k v l h. l) D M t fine s true is)

  nested : Nested (sites t) D 1 tree.body
  nested = subst (Nested (sites t) D 1) (weighed-plainly tree.body 0 0) (weighed-nested plainly (λ n k v l h. l) (sites t) D 1 tree.body 0 0 tree.within)

  second-asks : (m : List ℕ) → line_count s ≤ length m → BodyAsks s m (D - 1) 0
  second-asks m l =
      record {
        row = 0;
        body = tree.body;
        reads = reads;
        sites = sites t;
        D = D;
        d = 1;
        nested = nested;
        depth = omega (arith, fine.least);
        ends = omega (arith, length-is D t tree, fine.lines_most);
        marks_long = omega (arith, length-is D t tree, accepted-length s D M true t is);
        fits = omega (arith, work-small D t tree M fine);
      }

  -- ── the first one, and both ──

  module _ (q v : ℕ) (i : Is t q (Cost v)) {m : List ℕ} {span : ℕ} {m₁ : List ℕ} (first : HeavierDone t q m span m₁) where
    heavy : total t < more
    heavy = (fine-small D M t fine).total_work

    span_is : span_of (heavy_body D t tree q more) ≡ span
    span_is = span_unique _ _ (span_of (heavy_body D t tree q more)) span (raised_span D t tree q more) first.is_span

    chain-is : first.chain ≡ first_pass D t tree fine.lines_most q v more i heavy
    chain-is = chosen_unique _ first.chain _ first.chosen (raised-chosen D t tree q more)

    above : more ≤ span
    above =
        omega (
          arith,
          span_is,
          span-through t q more (in_root D t tree q v i) heavy _ (span_of (heavy_body D t tree q more)) (through-raised D t tree q v i more heavy) (raised_span D t tree q more),
        )

    marked-is : (b : Bool) (x : ℕ) → x ≡ cond b 1 0 → eqb x 1 ≡ b
    marked-is true x e = ap (λ (y : ℕ). eqb y 1) e
    marked-is false x e = ap (λ (y : ℕ). eqb y 1) e

    marks_are : (k : ℕ) → k < length t → marked_in m₁ k ≡ has k (first_pass D t tree fine.lines_most q v more i heavy)
    marks_are k l = marked-is (has k first.chain) (get_or m₁ k 0) (first.marked.marks_are k l) ∙ ap (has k) chain-is

    told : (r : Returned) → BodyLeaves s m₁ 0 r → (a : Why) → a ≡ answer_of (span - more) r.seen.weighs.0 r.seen.first → Told t q m a m₁
    told r leaves a e =
        let p = two-passes D t tree fine.lines_most q v more i heavy (marked_in m₁) marks_are (span - more) (omega (arith, span_is, above)) in
        let x = e ∙ ap (λ (y : Returned). answer_of (span - more) y.seen.weighs.0 y.seen.first) (leaves 0 tree.body reads) in
        subst (λ (y : Why). Told t q m y m₁) (sym x)
        (record { is_true = p.0; lines = first_pass D t tree fine.lines_most q v more i heavy; are_shown = p.1; marked = subst (λ (c : List ℕ). Marks (length t) c m m₁) chain-is first.marked })

-- ── what the engine learns from acceptance ──

module _ {s : List ℕ} {D q : ℕ} {scratch m : List ℕ} (h : LineAsks s D q scratch m) where
  abbrev a : HeavierAsks s D scratch m
  a = h.admitted

  pub depth-some : 1 ≤ D
  depth-some = (fine s D a.M a.frames a.is).least

  module _ {span : ℕ} {m₁ : List ℕ} (first : HeavierLeaves s D q m span m₁) where
    pub second_reads : BodyAsks s m₁ (D - 1) 0
    second_reads = second-asks s D a.M a.frames a.is m₁ (omega (arith, a.marks_room_fits, (first a.M a.frames a.is).marked.same_length))

    pub span-above : more ≤ span
    span-above =
        let c = cost-at s D a.M a.frames a.is q h.there h.cost in
        above s D a.M a.frames a.is q c.0 c.1 (first a.M a.frames a.is)

    pub line-leaves : (r : Returned) → BodyLeaves s m₁ 0 r → (w : Why) → w ≡ answer_of (span - more) r.seen.weighs.0 r.seen.first → LineLeaves s D q m w m₁
    line-leaves r leaves w e M t is =
        let c = cost-at s D M t is q h.there h.cost in
        told s D M t is q c.0 c.1 (first M t is) r leaves w e

module _ {s : List ℕ} {D : ℕ} {scratch m : List ℕ} {lines : ℕ} (h : Admitted s D scratch m lines) (q : ℕ) where
  -- how the verdict goes, where there is such a line, and where there is none
  asked-there : (t : List Frame) → q < length t → asking q (accepted t) ≡ accepted t
  asked-there t l = ap (λ (b : Bool). cond b (accepted t) (refused 23 q)) (lt-ltb q (length t) l)

  asked-past : (t : List Frame) → length t ≤ q → asking q (accepted t) ≡ refused 23 q
  asked-past t l = ap (λ (b : Bool). cond b (accepted t) (refused 23 q)) (le-ltb q (length t) l)

  pub ends-past : lines ≤ q → Ends s D q scratch m (Err (refusal 23 q)) scratch m
  ends-past l M t is =
      let e = asked-past t (omega (arith, accepted-length s D M true t is, h.lines_are)) in
      record { when_accepted = λ u x. clash (let z = sym e ∙ x in cc); when_refused = λ n k x. (let z = sym e ∙ x in (cc), refl, refl) }

  module _ (there : q < lines) where
    pub ends_there : (w : Why) (scratch' m' : List ℕ) → scratch' ≡ replicate (length scratch) 0 → LineLeaves s D q m w m' → Ends s D q scratch m (Ok w) scratch' m'
    ends_there w scratch' m' z leaves M t is =
        let e = asked-there t (omega (arith, accepted-length s D M true t is, h.lines_are)) in
        record {
          when_accepted = λ u x.
              subst (λ (y : List Frame). Answers y q scratch m (Ok w) scratch' m') (accepted-same t u (sym e ∙ x)) (record { answer = w; given = refl; told = leaves M t is; zero = z });
          when_refused = λ n k x. clash (let y = sym e ∙ x in cc);
        }

    -- a line that is no cost
    pub ends-other : (kind_at s q ≡ 6 → ⊥) → (scratch' m' : List ℕ) → scratch' ≡ replicate (length scratch) 0 → length m' ≡ length m → Wiped 0 lines m m' → Ends s D q scratch m (Ok NotCost) scratch' m'
    ends-other k6 scratch' m' z same wiped =
        ends_there NotCost scratch' m' z (λ M t is.
        let n : length t ≡ lines = omega (arith, accepted-length s D M true t is, h.lines_are) in
        record {
          is_true = λ v i. k6 (kind-of s D M t is q (Cost v) i);
          lines = [];
          are_shown = refl;
          marked = record { same_length = same; marks_are = λ k l. wiped.gone k (omega arith) (omega (arith, n)); rest = λ k l. wiped.rest k (λ x y. omega (arith, n)) };
        })

-- ── the answer of acceptance ──

module _ (s : List ℕ) (D M : ℕ) (scratch m : List ℕ) (room : Bool) (room-is : room ≡ roomy (length s) D (length scratch) (length m)) where
  -- the trace is accepted
  module _ (w : Accepted) (e : Ok w ≡ admission (verdict s D M room)) where
    only : (t : List Frame) × (verdict s D M room ≡ accepted t) × (sites t ≡ w.sites) × (length t ≡ w.lines)
    only = accepted-only (verdict s D M room) w e

    enough : room ≡ true
    enough = (accepted-is s D M room only.0 only.1).0

    long : (8 * D ≤ length scratch) × (line_count s ≤ length m)
    long =
        let b = both (leb (8 * D) (length scratch)) (leb (line_count s) (length m)) (sym room-is ∙ enough) in
        (leb-true (8 * D) (length scratch) b.0, leb-true (line_count s) (length m) b.1)

    is_accepted : verdict s D M true ≡ accepted only.0
    is_accepted = subst (λ (b : Bool). verdict s D M b ≡ accepted only.0) enough only.1

    pub admitted-is : Admitted s D scratch m w.lines
    admitted-is =
        record {
          admitted = record { M = M; frames = only.0; is = is_accepted; scratch_room_fits = long.0; marks_room_fits = long.1 };
          lines_are = sym only.3 ∙ accepted-length s D M true only.0 is_accepted;
        }

    -- LAW: what becomes of it is what is promised
    pub asked-accepted : (q : ℕ) (r : Result Why Refusal) (scratch' m' : List ℕ) → Ends s D q scratch m r scratch' m' → Asked s D M q scratch m r scratch' m'
    asked-accepted q r scratch' m' ends =
        subst (λ (v : Verdict). Keeps q (asking q v) scratch m r scratch' m') (sym (ap (verdict s D M) (sym room-is) ∙ only.1)) (ends M only.0 is_accepted)

  -- LAW: and so is a refusal
  pub asked-refused : (q : ℕ) (f : Refusal) → Err f ≡ admission (verdict s D M room) → Asked s D M q scratch m (Err f) scratch m
  asked-refused q f e =
      let v = ap (verdict s D M) (sym room-is) ∙ refused-only (verdict s D M room) f e in
      let k : asking q (verdict s D M (roomy (length s) D (length scratch) (length m))) ≡ refused f.number f.line = ap (asking q) v in
      record { when_accepted = λ u x. clash (let z = sym k ∙ x in cc); when_refused = λ n j x. (let z = sym k ∙ x in (cc), refl, refl) }
