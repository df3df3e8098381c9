-- `begin` meets its contract: a mark by the right value at each state so far.
use Rattle.std.proofs.Common.{◌≡◌, ℕ, ◌<◌}
use lib.Dec.{eqb}
use Rattle.lists.specs.Entries.{at}
use Rattle.pictures.specs.Inside.{mark}
use Rattle.pictures.proofs.question.Question.begin.Given as goal

abbrev pub invariant-loop-s : goal.invariant-loop-s
invariant-loop-s l = (j : ℕ) → j < l.s → mark l.marks j ≡ eqb (at l.self.right.now j) 0
