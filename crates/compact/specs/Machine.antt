-- For proofs and code, not for the reader of document 02: compacting line by line, with what is held back.
use Rattle.std.specs.Prelude.{ℕ, zero, suc, ◌+◌, ◌*◌, ◌/◌, ◌%◌, ◌^◌, ◌≤◌, ◌<◌, Bool, true, false, cond, not, ◌||◌, List, [], ◌∷◌, ◌++◌, eqb}
use Rattle.line.specs.declared.Frame.{Frame}
use Rattle.line.specs.declared.Frame.TheVariants.{Sync}
use Rattle.line.specs.Write.{write_chars}
use Rattle.trace.specs.Rows.{instructions as instructions_of}
use Rattle.trace.specs.Written.{text_of}
use Rattle.walk.specs.Stands.{kind_of, value_of}
use Rattle.walk.specs.declared.Cycles.{Cycles}
use Rattle.walk.specs.declared.Instructions.{Instructions}
use Rattle.walk.specs.Measure.{cycles, instructions}
use Rattle.compact.specs.Compact.{most_value, both_fit, summed}
use Rattle.compact.specs.declared.step.State.{State}
use Rattle.compact.specs.declared.step.Given.{Given}

abbrev pub bit : Bool → ℕ
bit true = 1
bit false = 0

-- what is held: so many cycles, and so many instructions
abbrev pub holding : ℕ → Bool → Bool → Cycles → Instructions → State
holding around spawned sync held carried = record { around = around; spawned = spawned; sync = sync; held = held; carried = carried }

-- nothing is held
abbrev pub nothing : ℕ → Bool → State
nothing around spawned = holding around spawned false (cycles 0) (instructions 0)

-- before the first line
abbrev pub start : State
start = nothing 0 false

-- nothing goes out
abbrev pub silent : State → Given
silent s = record { cost = cycles 0; instructions = instructions 0; sync = false; line = false; next = s }

-- all that is held goes out, with the sync where sync says so, and then the line itself
abbrev pub flushed : ℕ → Bool → Bool → State → Given
flushed around spawned sync s = record { cost = s.held; instructions = s.carried; sync = sync; line = true; next = nothing around spawned }

-- a call or spawn; spawns: which
abbrev pub entered : Bool → State → Given
entered spawns s = flushed (s.around * 2 + bit (spawns || s.spawned)) false s.sync s

-- a return: a sync that is held has only syncs behind it
abbrev pub left : State → Given
left s = flushed (s.around / 2) (eqb (s.around % 2) 1) false s

-- a sync is held where there was a spawn since the last
abbrev pub waiting : State → Given
waiting s = silent (holding s.around false (s.spawned || s.sync) s.held s.carried)

-- a cost of v with the instructions i is held alone, behind what was held, or together with it
abbrev pub alone : Cycles → Instructions → State → Given
alone v i s = record { cost = s.held; instructions = s.carried; sync = s.sync; line = false; next = holding s.around s.spawned false v i }

abbrev pub together : Cycles → Instructions → State → Given
together v i s = silent (holding s.around s.spawned false (cycles (s.held.0 + v.0)) (instructions (s.carried.0 + i.0)))

abbrev pub spent : Cycles → Instructions → State → Given
spent v i s = cond s.sync (alone v i s) (cond (both_fit (s.held.0 + v.0) (s.carried.0 + i.0)) (together v i s) (alone v i s))

-- a line of a kind with a value, and with instructions where it is a cost
abbrev pub step : ℕ → Cycles → Instructions → State → Given
step kind v i s =
    cond (eqb kind 7) (silent s)
    (cond (eqb kind 6) (spent v i s)
    (cond (eqb kind 5) (left s)
    (cond (eqb kind 4) (waiting s)
    (cond (eqb kind 3) (entered true s)
    (cond (eqb kind 2) (entered false s)
    (flushed s.around s.spawned s.sync s))))))

-- the line f, before the lines t
abbrev pub stepped : State → Frame → List Frame → Given
stepped s f t = step (kind_of f) (cycles (value_of f)) (instructions (instructions_of f t)) s

-- the lines that go out at the line f, before the lines u
abbrev pub emitted : Given → Frame → List Frame → List Frame
emitted e f u = summed e.cost.0 e.instructions.0 (cond e.sync (Sync ∷ cond e.line (f ∷ u) u) (cond e.line (f ∷ u) u))

abbrev pub outs : State → List Frame → List Frame
outs s [] = []
outs s (f ∷ t) = emitted (stepped s f t) f (outs (stepped s f t).next t)

-- how many they are, those of a cost with its instructions first
abbrev pub pair_size : ℕ → ℕ → ℕ
pair_size zero j = 0
pair_size (suc h) j = 1 + bit (not (eqb j 0))

abbrev pub size_of : Given → ℕ
size_of e = pair_size e.cost.0 e.instructions.0 + (bit e.sync + bit e.line)

-- their characters, where those of the line itself are l
abbrev pub pieces : Given → List ℕ → List ℕ
pieces e l = text_of (summed e.cost.0 e.instructions.0 []) ++ (cond e.sync (write_chars Sync) [] ++ cond e.line l [])

-- what goes out fits a value
abbrev pub Fitting : Given → Type 0
Fitting e = (e.cost.0 ≤ most_value) × (e.instructions.0 ≤ most_value)

-- one more invocation around has its bit, and what is held fits a value
abbrev pub Ready : State → Type 0
Ready s = (s.around < 2 ^ 63) × ((s.held.0 ≤ most_value) × (s.carried.0 ≤ most_value))

-- wherever the lines lead
abbrev pub Room : State → List Frame → Type 0
Room s [] = Unit {0}
Room s (f ∷ t) = Ready s × Room (stepped s f t).next t
