-- `lists` meets its contract. The transitions, the nodes and the end, each by the answer before it.
use native.Mathlib.Omega.{arith}
use mathlib.Core.Path.{◌≡◌, ap, sym, ◌∙◌}
use Rattle.lists.specs.Entries.{at}
use lib.ListN.{drop}
use Rattle.form.specs.Readers.{on, give, end}
use Rattle.text.specs.Inside.{carried, Unlisted, lists_text, listed_in, lists_in}
use Rattle.form.proofs.Steps.{end_done, end_broken}
use Rattle.text.proofs.Answers.{stopped, went, carries_none}
use Rattle.text.proofs.cursor.Cursor.lists.Goals as goal
use Rattle.text.proofs.cursor.Cursor.lists.Goals.{In-Read-second}

pub returns-in_default : goal.returns-in_default
unfolding lists_text
returns-in_default c =
    let a = c.args in
    let x = c.listed-first in
    let T = x.new.out in
    record {
      says = λ m. stopped (listed_in 2 T) (lists_in m T a.nodes.now) _ a.text.now x.result _ x.ensures.says c.in_default.not-Read;
      edges = x.ensures.few;
      nodes = omega (arith, carries_none x.result 1 c.in_default.not-Read);
    }

pub returns-in_default-second : goal.returns-in_default-second
unfolding lists_text
returns-in_default-second c =
    let s = c.args.text.now in
    let x = c.listed-first in
    let T = x.new.out in
    let y = c.listed-second in
    let N = y.new.out in
    record {
      says = λ m. stopped (listed_in 3 N) (lists_in m T N) _ s y.result _ y.ensures.says c.in_default-second.not-Read ∙ sym (went (listed_in 2 T) _ s x.result _ x.ensures.says c.in-Read.is);
      edges = omega (arith, carries_none y.result 0 c.in_default-second.not-Read);
      nodes = omega (arith, carries_none y.result 1 c.in_default-second.not-Read);
    }

-- once both lists were read, the end is left
ended : (c : In-Read-second) (m : Unlisted)
    → let s = c.args.text.now in
    let T = c.listed-first.new.out in
    let N = c.listed-second.new.out in
    lists_text m (drop c.args.self.at s) ≡ on (end (drop c.in-Read-second.next.at s)) (λ u. give (lists_in m T N c.in-Read.e c.in-Read-second.f))
unfolding lists_text
ended c m =
    let s = c.args.text.now in
    let x = c.listed-first in
    let y = c.listed-second in
    went (listed_in 2 x.new.out) _ s x.result _ x.ensures.says c.in-Read.is ∙ went (listed_in 3 y.new.out) _ s y.result _ y.ensures.says c.in-Read-second.is

pub returns-then-at-text : goal.returns-then-at-text
returns-then-at-text c =
    record {
      says = λ m. sym (ended (goal.at.returns-then-at-text c).In-Read-second m ∙ end_broken _ _ c.in-Read-second.next.at c.if-at-text.true);
      edges = omega arith;
      nodes = omega arith;
    }

pub returns : goal.returns
returns c =
    let x = c.listed-first in
    let y = c.listed-second in
    record {
      says = λ m. sym (ended (goal.at.returns c).In-Read-second m ∙ end_done _ _ c.in-Read-second.next.at c.if-at-text.false);
      edges = omega (arith, x.ensures.few, ap (λ l. at (carried l) 0) c.in-Read.is);
      nodes = omega (arith, y.ensures.few, ap (λ l. at (carried l) 0) c.in-Read-second.is);
    }
