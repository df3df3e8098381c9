-- `read` meets its contract: the model that was read is held, and a refusal is handed on.
use mathlib.Core.Bool.{false}
use mathlib.Core.Path.{◌≡◌}
use native.Mathlib.Omega.{arith}
use Rattle.text.specs.Answers.{Tables, tables, any_short}
use Rattle.text.proofs.Whole.{long_enough}
use Rattle.values.proofs.Refusing.{is_refused}
use Rattle.sheet.proofs.Fronts.{text_held, text_refused}
use Rattle.sheet.proofs.judging.Held.read.Goals as goal
use Rattle.sheet.proofs.judging.Held.read.Goals.{Start}

-- the tables are of the largest sizes
lent : Start → Tables
lent c = let h = c.args.self.now in tables h.labels h.initial h.transitions h.nodes

long : (c : Start) → any_short (lent c) ≡ false
unfolding lent
long c = long_enough (lent c) (record { labels = omega arith; initial = omega arith; transitions = omega arith; nodes = omega arith })

pub returns-in_err-self : goal.returns-in_err-self
unfolding lent
returns-in_err-self c =
    let s = (goal.at.returns-in_err-self c).Start in
    rw (is_refused _ _ c.from_residual.ensures.1) (text_refused _ (lent s) _ _ (long s) c.in_err-self.ensures)

pub returns : goal.returns
unfolding lent
returns c = let s = (goal.at.returns c).Start in text_held _ (lent s) _ (long s) c.in_ok-self.ensures
