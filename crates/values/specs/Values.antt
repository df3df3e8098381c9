-- The three values, 0 for false, 1 for unknown, 2 for true, and what not, and, or make of them.
use Rattle.std.specs.Prelude.{ℕ, ◌-◌, min, max, Bool, true, false}

-- the greatest value
abbrev pub top : ℕ
top = 2

-- not v is 2 - v
abbrev pub neg : ℕ → ℕ
neg v = top - v

-- the greater of two values, as "exists" and "or" choose; for "all", as "and" does, the smaller
abbrev pub choose : Bool → ℕ → ℕ → ℕ
choose false = max
choose true = min
