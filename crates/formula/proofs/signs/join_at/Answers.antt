-- `join_at` meets its contract: the sign of each arm.
use mathlib.Core.Path.{refl}
use Rattle.std.proofs.Common.{rules}
use Rattle.model.specs.Kinds.{kind_of}
use Rattle.formula.specs.Tree.{AND, OR, IMPLIES}
use Rattle.formula.specs.Inside.{plain, PairIn, middle_in, kind_in}
use Rattle.formula.proofs.Marks.{sign_is}
use Rattle.formula.proofs.signs.join_at.Goals as goal

pub returns-in-38 : goal.returns-in-38
unfolding kind_of
returns-in-38 c = sign_is {A = PairIn plain} middle_in kind_in c.args.rest.now (record { pair = AND; within = refl }) (search rules)

pub returns-in-124 : goal.returns-in-124
unfolding kind_of
returns-in-124 c = sign_is {A = PairIn plain} middle_in kind_in c.args.rest.now (record { pair = OR; within = refl }) (search rules)

pub returns-in-62 : goal.returns-in-62
unfolding kind_of
returns-in-62 c = sign_is {A = PairIn plain} middle_in kind_in c.args.rest.now (record { pair = IMPLIES; within = refl }) (search rules)
