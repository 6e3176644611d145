-- A trace of which one cost line weighs otherwise.
use Rattle.std.specs.Prelude.{ℕ, zero, suc, ◌+◌, ◌-◌, List, [], ◌∷◌}
use Rattle.line.specs.declared.Frame.{Frame}
use Rattle.weigh.specs.Cost.{costing}

-- the trace whose line k, where it is a cost line, weighs g of its value; nothing else differs
abbrev pub costing_at : (ℕ → ℕ) → List Frame → ℕ → List Frame
costing_at g [] k = []
costing_at g (e ∷ t) zero = costing g e ∷ t
costing_at g (e ∷ t) (suc k) = e ∷ costing_at g t k

-- 02, request i: "raise one cost line by d": the trace whose cost line k weighs d more
abbrev pub raised : List Frame → ℕ → ℕ → List Frame
raised t k d = costing_at (λ v. v + d) t k

-- the other way: the trace whose cost line k weighs d less
abbrev pub lowered : List Frame → ℕ → ℕ → List Frame
lowered t k d = costing_at (λ v. v - d) t k
