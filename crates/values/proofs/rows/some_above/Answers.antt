-- `some_above` meets its contract: a chain over the entries.
use Rattle.std.proofs.Common.{ℕ, rules, sym, ◌∙◌}
use borrow.Author.Tests.{tests}
use lib.Dec.{ltb}
use Rattle.std.proofs.lemmas.Iterator.{YieldsList-from_slice}
use Rattle.std.proofs.lemmas.Iterator.Search.{any_from_yields_List}
use Rattle.lists.proofs.Search.{any_list}
use Rattle.values.specs.Rows.{some_above}
use Rattle.values.proofs.rows.some_above.Goals as goal

pub returns : goal.returns
unfolding some_above
returns c = any_from_yields_List (λ (x : ℕ). ltb c.args.value x) _ _ _ c.any.ensures.ran (YieldsList-from_slice c.args.list.now cc) (λ x b q k. search (rules, tests)) ∙ sym (any_list (λ (x : ℕ). ltb c.args.value x) 0 c.args.list.now)
