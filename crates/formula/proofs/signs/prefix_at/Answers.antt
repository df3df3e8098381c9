-- `prefix_at` meets its contract: the sign of each arm.
use Rattle.std.proofs.Common.{rules}
use Rattle.model.specs.Kinds.{kind_of}
use Rattle.formula.specs.Tree.{NOT, EX, AX, EF, AF, EG, AG}
use Rattle.formula.specs.Text.{sign}
use Rattle.formula.specs.Inside.{prefix_named}
use Rattle.formula.proofs.Marks.{sign_is}
use Rattle.formula.proofs.signs.prefix_at.Goals as goal

pub returns-in-33 : goal.returns-in-33
unfolding kind_of
returns-in-33 c = sign_is sign prefix_named c.args.rest.now NOT (search rules)

pub returns-in-33-2 : goal.returns-in-33-2
unfolding kind_of
returns-in-33-2 c = sign_is sign prefix_named c.args.rest.now NOT (search rules)

pub returns-in-69 : goal.returns-in-69
unfolding kind_of
returns-in-69 c = sign_is sign prefix_named c.args.rest.now EX (search rules)

pub returns-in-65 : goal.returns-in-65
unfolding kind_of
returns-in-65 c = sign_is sign prefix_named c.args.rest.now AX (search rules)

pub returns-in-69-2 : goal.returns-in-69-2
unfolding kind_of
returns-in-69-2 c = sign_is sign prefix_named c.args.rest.now EF (search rules)

pub returns-in-65-2 : goal.returns-in-65-2
unfolding kind_of
returns-in-65-2 c = sign_is sign prefix_named c.args.rest.now AF (search rules)

pub returns-in-69-3 : goal.returns-in-69-3
unfolding kind_of
returns-in-69-3 c = sign_is sign prefix_named c.args.rest.now EG (search rules)

pub returns-in-65-3 : goal.returns-in-65-3
unfolding kind_of
returns-in-65-3 c = sign_is sign prefix_named c.args.rest.now AG (search rules)
