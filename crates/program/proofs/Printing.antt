-- What the writers leave is put; and each verdict, with what the table engine made of it, is printed as it should be.
-- Assumes nothing.
use Prim.Native.Nat.{ℕ, ◌+◌, ◌*◌, ◌≤◌, ◌<◌}
use mathlib.Core.Bool.{true}
use mathlib.Core.List.{List}
use mathlib.Core.Path.{◌≡◌, refl, ap, ◌∙◌, sym, subst}
use native.Mathlib.Omega.{arith}
use borrow.Author.Tests.{lt-ltb, le-ltb, le-leb}
use lib.ListN.{length}
use Rattle.line.specs.declared.Frame.{Frame}
use Rattle.std.specs.Result.{result_unwrap_or}
use Rattle.std.specs.Prelude.{Ok, Err, is_ok}
use Rattle.line.specs.declared.Refusal.{Refusal}
use Rattle.line.specs.Refusal.{refusal}
use Rattle.trace.specs.declared.Profile.{Profile}
use Rattle.trace.specs.Answer.{Answer}
use Rattle.trace.specs.Shape.{sites}
use Rattle.trace.specs.Rows.{columns}
use Rattle.trace.specs.Refusals.{Verdict, accepted, refused, verdict}
use Rattle.trace.specs.Promise.{tables, scratch_room, rows_room, enough, Promise}
use Rattle.trace.proofs.Basics.{clash}
use Rattle.trace.proofs.Answers.{ok-same, err-same}
use Rattle.admit.proofs.Admitted.{accepted-sites}
use Rattle.admit.proofs.Refused.{refused-line}
use Rattle.tables.specs.Root.{lent}
use Rattle.report.specs.Room.{Decision, write, answer, leave, Writes, Wrote}
use Rattle.report.specs.Report.{full_text}
use Rattle.report.specs.Refusal.{refusal_text}
use Rattle.program.specs.Print.{ruling, Prints, Put, Printed}

-- a writer that decided to write s has put it
pub puts : {s : List ℕ} {d : Decision} {r : Wrote} {n : ℕ} {before after : List ℕ} → d ≡ write s → Writes d r before after → r ≡ Ok n → Put s n before after
puts {before = before} e w c =
    record {
      answered = ap (λ (x : Wrote). result_unwrap_or x 0) (sym c ∙ w.answered ∙ ap answer e);
      left = w.left ∙ ap (λ (x : Decision). leave x before) e;
    }

pub puts-ok : {s : List ℕ} {d : Decision} {r : Wrote} {before after : List ℕ} → d ≡ write s → Writes d r before after → is_ok r ≡ true
puts-ok e w = ap is_ok (w.answered ∙ ap answer e)

-- more than 65,527 bytes
pub too_large : {s : List ℕ} {n : ℕ} {before after : List ℕ} → 65527 < length s → Put (refusal_text 3 0) n before after → Printed s n before after
too_large {s} h p =
    let e : ruling s ≡ refused 3 0 = rw (lt-ltb _ _ h) in
    record { out = refusal_text 3 0; prints = subst (λ (v : Verdict). Prints v (refusal_text 3 0)) (sym e) refl; put = p }

-- at most so many, and what the table engine answered and left in its room
module _ (s : List ℕ) {scratch rows scratch' rows' : List ℕ} {r : Answer} (p : Promise tables s 32 31 (lent scratch rows) r (lent scratch' rows'))
    (few : length s ≤ 65527) (wide : scratch_room tables 32 31 ≤ length scratch) (long : rows_room 31 ≤ length rows) where
  abbrev judgement : Verdict
  judgement = verdict s 32 31 (enough tables s 32 31 (lent scratch rows))

  room : enough tables s 32 31 (lent scratch rows) ≡ true
  room = rw (le-leb _ (length scratch) wide, le-leb _ (length rows) long)

  ruled : (v : Verdict) → judgement ≡ v → ruling s ≡ v
  ruled v e = rw (le-ltb _ _ few) (ap (verdict s 32 31) (sym room) ∙ e)

  -- an acceptance: its rows
  module _ {a : Profile} (e : r ≡ Ok a) where
    whose : (t : List Frame) × (judgement ≡ accepted t) × (sites t ≡ a.sites)
    whose = go judgement refl
      where
        go : (v : Verdict) → judgement ≡ v → (t : List Frame) × (judgement ≡ accepted t) × (sites t ≡ a.sites)
        go (accepted t) h = (t, h, ap (λ (x : Profile). x.sites) (ok-same _ _ (sym (p.when_accepted t h).answer ∙ e)))
        go (refused number line) h = clash (let z = (p.when_refused number line h).0 in cc)

    pub report-asks : (a.sites ≤ 31) × (columns * (a.sites + 1) ≤ length rows')
    report-asks =
        let (t, h, l) = whose in
        let few-sites = accepted-sites s 32 31 (enough tables s 32 31 (lent scratch rows)) t h in
        (omega arith, omega (arith, (p.when_accepted t h).rows.same_length))

    pub report-prints : {k : ℕ} {before after : List ℕ} → Put (full_text rows' a.sites) k before after → Printed s k before after
    report-prints u =
        let (t, h, l) = whose in
        let q = p.when_accepted t h in
        record {
          out = full_text rows' a.sites;
          prints = subst (λ (v : Verdict). Prints v (full_text rows' a.sites)) (sym (ruled (accepted t) h))
              (record {
                chain = q.chain;
                chosen = q.chosen;
                rows = rows';
                enough = omega (arith, report-asks.1);
                rows_are = q.rows.rows_are;
                is = ap (full_text rows') (sym l);
              });
          put = u;
        }

  -- a refusal: its line
  module _ {f : Refusal} (e : r ≡ Err f) where
    which : judgement ≡ refused f.number f.line
    which = go judgement refl
      where
        go : (v : Verdict) → judgement ≡ v → judgement ≡ refused f.number f.line
        go (accepted t) h = clash (let z = (p.when_accepted t h).answer in cc)
        go (refused m k) h = let z : refusal m k ≡ f = err-same _ _ (sym (p.when_refused m k h).0 ∙ e) in subst (λ (g : Refusal). judgement ≡ refused g.number g.line) z h

    pub refusal-asks : f.line ≤ 65536
    refusal-asks = refused-line s 32 31 (enough tables s 32 31 (lent scratch rows)) f.number f.line which

    pub refusal-prints : {k : ℕ} {before after : List ℕ} → Put (refusal_text f.number f.line) k before after → Printed s k before after
    refusal-prints u =
        record { out = refusal_text f.number f.line; prints = subst (λ (v : Verdict). Prints v (refusal_text f.number f.line)) (sym (ruled (refused f.number f.line) which)) refl; put = u }
