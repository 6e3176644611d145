-- A line that weighs otherwise.
use Rattle.std.specs.Prelude.{ℕ}
use Rattle.line.specs.declared.Frame.{Frame}
use Rattle.line.specs.declared.Frame.TheVariants.{Site, Call, Spawn, Sync, Return, Cost, Instructions, Async, Finish}

-- a cost line weighs g of its value; any other line stays as it is
abbrev pub costing : (ℕ → ℕ) → Frame → Frame
costing g (Site s p) = Site s p
costing g (Call s) = Call s
costing g (Spawn s) = Spawn s
costing g Sync = Sync
costing g Return = Return
costing g (Cost v) = Cost (g v)
costing g (Instructions v) = Instructions v
costing g (Async s) = Async s
costing g Finish = Finish
