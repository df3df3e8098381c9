-- `ask` meets its contract: each call is lent the front of the space.
use Rattle.paths.specs.Answers.{FirstPromise, NextPromise}
use Rattle.listing.proofs.Listing.{called}
use Rattle.listing.proofs.calls.ask.Goals as goal

pub returns-in-First : goal.returns-in-First
returns-in-First c = rw c.in-First.is (called (FirstPromise _ _) c.front-n.ensures c.first-answer.ensures c.first_told.ensures)

pub returns-in-Next : goal.returns-in-Next
returns-in-Next c = rw c.in-Next.is (called (NextPromise _) c.front-n-in-Next.ensures c.next-answer.ensures c.next_told.ensures)
