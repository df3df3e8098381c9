-- `at_once` meets its contract: the tests, one after the other.
use borrow.Author.Tests.{le-leb, lt-leb, le-ltb, lt-ltb}
use Rattle.paths.specs.Inside.{at_once}
use Rattle.paths.proofs.question.Question.at_once.Goals as goal

pub returns-then-self-s : goal.returns-then-self-s
unfolding at_once
returns-then-self-s c = rw (le-leb _ _ c.if-self-s.true)

pub returns-then-self-s-2 : goal.returns-then-self-s-2
unfolding at_once
returns-then-self-s-2 c = rw (lt-leb _ _ c.if-self-s.false, lt-ltb _ _ c.if-self-s-2.true)

pub returns : goal.returns
unfolding at_once
returns c = rw (lt-leb _ _ c.if-self-s.false, le-ltb _ _ c.if-self-s-2.false)
