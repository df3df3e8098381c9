-- `put_byte` meets its contract: one store.
use Rattle.lists.proofs.Placed.{put_one}
use borrow.Author.Rules.{rules}
use Rattle.answer.proofs.put.put_byte.Goals as goal

pub returns : goal.returns
returns c = put_one _ _ _ (search rules)
