-- Forecasts and refusals worked out by hand, and computed.
use mathlib.Core.Path.{◌≡◌, refl, ap, subst}
use mathlib.Core.Bool.{Bool, true}
use mathlib.Core.List.{List, [], ◌∷◌, map}
use Prim.Native.Nat.{ℕ}
use lib.ListN.{replicate}
use Rattle.line.specs.Family.{Base}
use Rattle.line.specs.declared.Frame.{Frame}
use Rattle.trace.specs.Shape.{root}
use Rattle.trace.specs.Series.{Span}
use Rattle.trace.specs.Rows.{total}
use Rattle.trace.specs.Refusals.{Verdict, accepted, verdict}
use Rattle.trace.specs.Tree.{call, spawn, spend, Body, done, leaf, child, lines_of, span_of}
use Rattle.trace.specs.Written.{text_of}
use Rattle.trace.proofs.Tree.{is_of}
use Rattle.trace.proofs.Computed.{span-here}
use Rattle.trace.proofs.Twelve.{sited}
use Rattle.forecast.specs.declared.Entry.{Entry}
use Rattle.forecast.specs.Rewritten.{rewritten}
use Rattle.forecast.specs.Asked.{asked}

abbrev pub by : ℕ → ℕ → Entry
by r f = record { row = r; factor = f }

-- sites 1 and 2 declared, and the root's body
abbrev pub lines : Body → List Frame
lines b = lines_of (sited b)

-- a trace and what it becomes, by their bodies; the span before, and the work and the span of the forecast
pub record Example : Type 0 where
  pub entries : List Entry
  pub trace : Body
  pub becomes : Body
  pub plain : ℕ
  pub work : ℕ
  pub span : ℕ

abbrev pub spent : ℕ → Body → Body
spent v r = leaf (spend v) r

abbrev pub examples : List Example
examples =
    -- the root named: 7 by 2 is 4, 1 by 2 is 1; 7 and 1 by 1,000 are 1
    record { entries = by 0 2 ∷ []; trace = spent 7 (spent 1 done); becomes = spent 4 (spent 1 done); plain = 8; work = 5; span = 5 }
    ∷ record { entries = by 0 1000 ∷ []; trace = spent 7 (spent 1 done); becomes = spent 1 (spent 1 done); plain = 8; work = 2; span = 2 }
    -- case I by two entries, the root and site 2: 7 by 3 is 3, 2 by 2 is 1, and site 1 keeps its 1
    ∷ record {
      entries = by 0 2 ∷ by 2 3 ∷ [];
      trace = child call 1 (child spawn 2 (spent 7 done) (spent 1 done)) (spent 2 done);
      becomes = child call 1 (child spawn 2 (spent 3 done) (spent 1 done)) (spent 1 done);
      plain = 9;
      work = 5;
      span = 4;
    }
    -- case D by site 1, which is off the chain: the span stays
    ∷ record {
      entries = by 1 2 ∷ [];
      trace = child spawn 1 (spent 4 done) (spent 5 done);
      becomes = child spawn 1 (spent 2 done) (spent 5 done);
      plain = 5;
      work = 7;
      span = 5;
    }
    -- case G by site 1, whose 10 are on the chain: another chain weighs as much, and the span stays too
    ∷ record {
      entries = by 1 5 ∷ [];
      trace = spent 1 (child spawn 1 (spent 10 done) (spent 2 (child spawn 2 (spent 8 done) (spent 1 done))));
      becomes = spent 1 (child spawn 1 (spent 2 done) (spent 2 (child spawn 2 (spent 8 done) (spent 1 done))));
      plain = 11;
      work = 14;
      span = 11;
    }
    -- case K by site 1: the inner invocation's cost too
    ∷ record {
      entries = by 1 2 ∷ [];
      trace = child call 1 (spent 1 (child call 1 (spent 2 done) done)) done;
      becomes = child call 1 (spent 1 (child call 1 (spent 1 done) done)) done;
      plain = 3;
      work = 2;
      span = 2;
    }
    ∷ []

-- what the definitions say of an example
pub record Holds (x : Example) : Type 0 where
  pub is_rewritten : rewritten x.entries (lines x.trace) ≡ lines x.becomes
  pub plain_is : Span (lines x.trace) root x.plain
  pub work_is : total (lines x.becomes) ≡ x.work
  pub span_is : Span (lines x.becomes) root x.span

abbrev pub AllHold : List Example → Type 0
AllHold [] = Unit {0}
AllHold (x ∷ l) = Holds x × AllHold l

-- an example holds where it computes so; both traces, written out, are accepted
holds : (x : Example) → rewritten x.entries (lines x.trace) ≡ lines x.becomes → span_of x.trace ≡ x.plain → total (lines x.becomes) ≡ x.work → span_of x.becomes ≡ x.span
    → verdict (text_of (lines x.trace)) 4 2 true ≡ accepted (lines x.trace) → verdict (text_of (lines x.becomes)) 4 2 true ≡ accepted (lines x.becomes)
    → is_of Base 0 (sited x.trace) ≡ true → is_of Base 0 (sited x.becomes) ≡ true → Holds x
holds x r p w s a b y z =
    record {
      is_rewritten = r;
      plain_is = subst (Span (lines x.trace) root) p (span-here Base (text_of (lines x.trace)) 4 2 (sited x.trace) y a);
      work_is = w;
      span_is = subst (Span (lines x.becomes) root) s (span-here Base (text_of (lines x.becomes)) 4 2 (sited x.becomes) z b);
    }

record Tested : Type 0 where
  rewritten : List Frame
  plain : ℕ
  work : ℕ
  span : ℕ
  before : Verdict
  after : Verdict
  base : Bool
  base_after : Bool

abbrev computed : Example → Tested
computed x =
    record {
      rewritten = rewritten x.entries (lines x.trace);
      plain = span_of x.trace;
      work = total (lines x.becomes);
      span = span_of x.becomes;
      before = verdict (text_of (lines x.trace)) 4 2 true;
      after = verdict (text_of (lines x.becomes)) 4 2 true;
      base = is_of Base 0 (sited x.trace);
      base_after = is_of Base 0 (sited x.becomes);
    }

abbrev wanted : Example → Tested
wanted x =
    record { rewritten = lines x.becomes; plain = x.plain; work = x.work; span = x.span; before = accepted (lines x.trace); after = accepted (lines x.becomes); base = true; base_after = true }

-- the one computed test
test : map computed examples ≡ map wanted examples
test = refl

all_hold : (l : List Example) → map computed l ≡ map wanted l → AllHold l
all_hold [] e = tt
all_hold (x ∷ l) e =
    let h : computed x ≡ wanted x = cc in
    let k : map computed l ≡ map wanted l = cc in (
      holds x (ap (λ (y : Tested). y.rewritten) h) (ap (λ (y : Tested). y.plain) h) (ap (λ (y : Tested). y.work) h) (ap (λ (y : Tested). y.span) h) (ap (λ (y : Tested). y.before) h) (ap (λ (y : Tested). y.after) h) (ap (λ (y : Tested). y.base) h) (ap (λ (y : Tested). y.base_after) h),
      all_hold l k,
    )

pub examples_hold : AllHold examples
examples_hold = all_hold examples test

-- ── what may be asked, with two sites ──

-- 19 is a list too long, unordered (a row twice is) or naming an undeclared row, 20 a factor outside its range; 19 first
pub asked-examples :
    map (asked 2) (
    []
    ∷ (by 0 2 ∷ by 1 1000 ∷ by 2 2 ∷ [])
    ∷ (by 2 2 ∷ by 1 2 ∷ [])
    ∷ (by 1 2 ∷ by 1 2 ∷ [])
    ∷ (by 3 2 ∷ [])
    ∷ (by 1 1 ∷ [])
    ∷ (by 1 1001 ∷ [])
    ∷ (by 1 1 ∷ by 3 2 ∷ [])
    ∷ replicate 17 (by 0 2)
    ∷ []
    )
    ≡ 0 ∷ 0 ∷ 19 ∷ 19 ∷ 19 ∷ 20 ∷ 20 ∷ 19 ∷ 19 ∷ []
asked-examples = refl
