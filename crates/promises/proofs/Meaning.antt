-- The meaning over walks, restated from the laws of the tables.
use mathlib.Core.Path.{◌≡◌, sym, ap, ◌∙◌}
use Prim.Native.Nat.{ℕ, ◌+◌, ◌-◌}
use native.Mathlib.Omega.{arith}
use Rattle.kripke.specs.Until.{until}
use Rattle.promises.specs.Meaning.{EnoughWalks, EveryPath, ExistsPath, LeastSolution, Solution, WalksListed}
use Rattle.kripke.proofs.EndlessPaths.{A-misses, A-paths, E-paths}
use Rattle.kripke.proofs.Least.{least, solves}
use Rattle.kripke.proofs.Rest.{enough}
use Rattle.kripke.proofs.Walks.{listed_walk, walk_listed}

pub walks_listed : WalksListed
walks_listed es n s w = (listed_walk es n s w, walk_listed es n s w)

pub enough_walks : EnoughWalks
enough_walks S es G L R all n s h l = let e : S + (n - S) ≡ n = omega arith in sym (enough all S es G L R (n - S) s l ∙ ap (λ (k : ℕ). until all es L R k s) e)

pub exists_path : ExistsPath
exists_path S es G L R level s l = E-paths S es G L R level s l

pub every_path : EveryPath
every_path S es G L R level s l = (λ v π p. A-paths S es G L R level s l v π p, λ v. A-misses S es G L R level s l v)

pub solution : Solution
solution S es G L R all s l = solves all S es G L R s l

pub least_solution : LeastSolution
least_solution S es G L R all X h s l = least all S es G L R X h s l
