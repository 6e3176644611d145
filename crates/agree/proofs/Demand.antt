-- Demand 3 holds of every two runs, one of each engine, on the same text of either family with the same limits.
use mathlib.Core.Path.{◌≡◌, refl, sym, ◌∙◌, ap, subst}
use mathlib.Core.Bool.{true}
use mathlib.Core.List.{List}
use Prim.Native.Nat.{ℕ, ◌≤◌, ◌<◌}
use native.Mathlib.Omega.{arith}
use lib.ListN.{length, get_or}
use Rattle.line.specs.Family.{Family, Base}
use Rattle.line.specs.declared.Frame.{Frame}
use Rattle.line.specs.declared.Frame.TheVariants.{Instructions}
use Rattle.std.specs.Prelude.{Err}
use Rattle.line.specs.Refusal.{refusal}
use Rattle.trace.specs.Shape.{Is, sites}
use Rattle.trace.specs.Series.{ChosenOf}
use Rattle.trace.specs.Column.{Column, slot}
use Rattle.trace.specs.Refusals.{Verdict, accepted, refused, verdict_of, verdict}
use Rattle.trace.specs.Promise.{Engine, tables, marks, enough, ProfileOf, Profile}
use Rattle.trace.proofs.Basics.{clash}
use Rattle.trace.proofs.Parse.{accepted-parts-of}
use Rattle.trace.proofs.Plain.{Plain, plain_local, plain-on-span}
use Rattle.trace.proofs.Unique.{chosen_unique_of}
use Rattle.trace.proofs.Places.{engines_agree}
use Rattle.agree.specs.Shown.{marked, ShownOf}
use Rattle.trace.proofs.Answers.{same-sites}
use Rattle.agree.specs.Demand.{Run, RanOf, HasRoom, Agree, DemandThreeOf, Ran}
use Rattle.agree.proofs.Shown.{mark-low, carried-unmarked, marked-chain, chain-shown}

-- with room, a run is decided by the text and the limits alone
module _ (g : Family) (e : Engine) (s : List ℕ) (D M : ℕ) (x : Run) (h : RanOf g e s D M x) (room : HasRoom e s D M x) where
  pub with-room : (v : Verdict) → verdict_of g s D M true ≡ v → verdict_of g s D M (enough e s D M x.lent) ≡ v
  with-room v a = ap (verdict_of g s D M) room ∙ a

  pub accepts-of : (t : List Frame) → verdict_of g s D M true ≡ accepted t → ProfileOf g e t x.lent x.answer x.left
  accepts-of t a = h.when_accepted t (with-room (accepted t) a)

  pub refuses : (number line : ℕ) → verdict_of g s D M true ≡ refused number line → (x.answer ≡ Err (refusal number line)) × (x.left ≡ x.lent)
  refuses number line a = h.when_refused number line (with-room (refused number line) a)

-- the same of document 01's traces
pub accepts : (e : Engine) (s : List ℕ) (D M : ℕ) (x : Run) → Ran e s D M x → HasRoom e s D M x → (t : List Frame) → verdict s D M true ≡ accepted t → Profile e t x.lent x.answer x.left
accepts = accepts-of Base

-- LAW: any two runs that do not lack room agree, of either engine
pub runs_agree : (g : Family) (e f : Engine) (s : List ℕ) (D M : ℕ) (x y : Run) → RanOf g e s D M x → RanOf g f s D M y → HasRoom e s D M x → HasRoom f s D M y → Agree x y
runs_agree g e f s D M x y h k i j = go (verdict_of g s D M true) refl
  where
    go : (v : Verdict) → verdict_of g s D M true ≡ v → Agree x y
    go (accepted t) a =
        let p = accepts-of g e s D M x h i t a in
        let q = accepts-of g f s D M y k j t a in
        let w = engines_agree g s D M e f x.lent y.lent x.answer y.answer x.left y.left h k t (with-room g e s D M x h i (accepted t) a) (with-room g f s D M y k j (accepted t) a) in
        record {
          answers = w.answers;
          rows = λ work span m lines r n l. (let z : m ≡ sites t = same-sites _ _ _ _ _ _ _ _ (sym r ∙ p.answer) in w.rows_written n (omega arith));
          own = λ work span m lines r n l. (let z : m ≡ sites t = same-sites _ _ _ _ _ _ _ _ (sym r ∙ p.answer) in (p.rows.rest n (omega arith), q.rows.rest n (omega arith)));
          unchanged = λ number line r. clash (cc);
        }
    go (refused number line) a =
        let p = refuses g e s D M x h i number line a in
        let q = refuses g f s D M y k j number line a in
        record {
          answers = p.0 ∙ sym q.0;
          rows = λ work span m lines r n l. clash (cc);
          own = λ work span m lines r n l. clash (cc);
          unchanged = λ n l r. (p.1, q.1);
        }

-- LAW: of a trace without 07 lines either engine leaves 0 in columns 6 and 7 of every row
pub plain_rows : (g : Family) (e : Engine) (s : List ℕ) (D M : ℕ) (x : Run) → RanOf g e s D M x → HasRoom e s D M x → (t : List Frame) → verdict_of g s D M true ≡ accepted t → Plain t → (i : ℕ) → i ≤ sites t
    → (get_or x.left.rows (slot i Column.ilocal) 0 ≡ 0) × (get_or x.left.rows (slot i Column.ion_span) 0 ≡ 0)
plain_rows g e s D M x h room t a none i l =
    let p = accepts-of g e s D M x h room t a in
    let r = p.rows.rows_are i l in
    (r.ilocal_is ∙ plain_local t none i, r.ion_span_is ∙ plain-on-span t none p.chain i)

-- ── the marks ──

module _ (g : Family) (s : List ℕ) (D M : ℕ) (y : Run) (k : RanOf g marks s D M y) (room : HasRoom marks s D M y) (t : List Frame) (a : verdict_of g s D M true ≡ accepted t) where
  profile : ProfileOf g marks t y.lent y.answer y.left
  profile = accepts-of g marks s D M y k room t a

  -- LAW: the marked lines are the chosen chain
  pub marked-chosen : ChosenOf g t (marked y.left.marks (length t))
  marked-chosen = subst (ChosenOf g t) (sym (marked-chain t profile.chain y.lent.marks y.left.marks profile.marked g profile.chosen.chain)) profile.chosen

  -- LAW: no 07 line is marked
  pub each-unmarked : (i v : ℕ) → Is t i (Instructions v) → get_or y.left.marks i 0 ≡ 0
  each-unmarked = carried-unmarked t profile.chain y.lent.marks y.left.marks profile.marked g profile.chosen.chain

  each-low : (i : ℕ) → i < length t → get_or y.left.marks i 0 ≤ 1
  each-low = mark-low t profile.chain y.lent.marks y.left.marks profile.marked

  -- LAW: and shown beside the answer and rows of any run that does not lack room, of either engine
  pub shown_beside : (e : Engine) (x : Run) → RanOf g e s D M x → HasRoom e s D M x → ShownOf g t x.answer x.left.rows (marked y.left.marks (length t))
  shown_beside e x h i =
      let q = accepts-of g e s D M x h i t a in
      subst (ShownOf g t x.answer x.left.rows) (chosen_unique_of g t q.chain (marked y.left.marks (length t)) q.chosen marked-chosen) (chain-shown e D t (accepted-parts-of g s D M true t a) x.lent x.answer x.left q)

-- LAW: demand 3
pub demand_three : (g : Family) (s : List ℕ) (D M : ℕ) (x y : Run) → RanOf g tables s D M x → RanOf g marks s D M y → DemandThreeOf g s D M x y
demand_three g s D M x y h k =
    record {
      agree = runs_agree g tables marks s D M x y h k;
      zero_or_one = λ t j a. each-low g s D M y k j t a;
      unmarked = λ t j a. each-unmarked g s D M y k j t a;
      shown = λ t j a. shown_beside g s D M y k j t a marks y k j;
      shown_by_tables = λ t i j a. shown_beside g s D M y k j t a tables x h i;
    }
