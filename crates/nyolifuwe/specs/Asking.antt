-- What the exported question why gives and leaves: the promise of asking, with the answer in a lent slice of two numbers.
use Rattle.std.specs.Prelude.{ℕ, ◌≡◌, ◌&&◌, List, [], ◌∷◌, leb, length, Result, Ok, Err}
use Rattle.line.specs.declared.Frame.{Frame}
use Rattle.line.specs.declared.Refusal.{Refusal}
use Rattle.trace.specs.Refusals.{Verdict, accepted, refused, verdict}
use Rattle.report.specs.Room.{Decision, write, refuse}
use Rattle.why.specs.declared.Why.{Why}
use Rattle.why.specs.declared.Why.TheVariants.{NotCost, OnChain, Slack, Tied}
use Rattle.why.specs.Promise.{roomy, asking, Answers}
use Rattle.nyolifuwe.specs.Code.{coded, Gives}

-- "not a cost line; on the chosen chain; slack n ...; or tied, with the smallest line ...": the case, counted from 0 in this
-- order, and n or that line, else 0
abbrev pub numbers_of : Why → List ℕ
numbers_of NotCost = 0 ∷ 0 ∷ []
numbers_of OnChain = 1 ∷ 0 ∷ []
numbers_of (Slack n) = 2 ∷ n ∷ []
numbers_of (Tied k) = 3 ∷ k ∷ []

abbrev pub why_numbered : Result Why Refusal → Decision
why_numbered (Ok a) = write (numbers_of a)
why_numbered (Err r) = refuse r.number r.line

-- "Refusals: those of 01", with 4 where there is no room for the two numbers of the answer, "then 23": the verdict on the text
-- s with limits D and M, asked at line q
abbrev pub asked_of : (s : List ℕ) (D M q : ℕ) (scratch marks answer : List ℕ) → Verdict
asked_of s D M q scratch marks answer = asking q (verdict s D M (roomy (length s) D (length scratch) (length marks) && leb 2 (length answer)))

-- the code that is given, and what becomes of the scratch, of the marks and of the room for the answer
pub record AsksWhy (s : List ℕ) (D M q : ℕ) (scratch marks answer : List ℕ) (given : ℕ) (scratch' marks' answer' : List ℕ) : Type 0 where
  pub when_accepted : (t : List Frame) → asked_of s D M q scratch marks answer ≡ accepted t → (r : Result Why Refusal) × Answers t q scratch marks r scratch' marks' × Gives (why_numbered r) given answer answer'
  pub when_refused : (number line : ℕ) → asked_of s D M q scratch marks answer ≡ refused number line → (given ≡ coded number line) × (scratch' ≡ scratch) × (marks' ≡ marks) × (answer' ≡ answer)
