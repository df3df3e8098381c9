-- `joined` meets its contract: a chain over the successors.
use Rattle.std.proofs.Common.{ℕ, rules}
use borrow.Author.Tests.{tests}
use lib.Dec.{eqb}
use Rattle.std.proofs.lemmas.Iterator.Consumers.{YieldsList-from_first}
use Rattle.std.proofs.lemmas.Iterator.Search.{any_from_yields_List}
use Rattle.kripke.specs.Answers.{targets}
use Rattle.kripke.specs.declared.lent.Ends.{Ends}
use Rattle.paths.specs.Inside.{has}
use Rattle.paths.proofs.faults.joined.Goals as goal

pub returns : goal.returns
unfolding has
returns c = any_from_yields_List (λ (x : ℕ). eqb x c.args.t) c.any.new.self _ _ c.any.ensures.ran (YieldsList-from_first (λ (x : ℕ). x) (λ (s : Ends). targets s.pairs.now) _ c.successors.ensures) (λ x b q k. search (rules, tests))
