-- `listed` meets its contract. The count, then its lines, each by the answer before it.
use native.Mathlib.Omega.{arith}
use mathlib.Core.Path.{ap, sym, ◌∙◌}
use Prim.Native.Nat.{◌*◌}
use lib.ListN.{take, drop}
use native.Mathlib.Nat.{mul-le-mul_left}
use Rattle.values.specs.Refusal.{number_of}
use Rattle.form.specs.Form.{listed}
use Rattle.text.specs.Inside.{told, first, listed_in}
use Rattle.text.proofs.Answers.{stopped, handed, went, carries_none, counted}
use Rattle.text.proofs.cursor.Cursor.listed.Goals as goal

pub returns-in_default : goal.returns-in_default
unfolding listed
returns-in_default g c =
    let a = c.args in
    let n = c.count_line-line in
    record {
      says = stopped first (listed_in g.row.W a.out.now) _ a.text.now n.result _ n.ensures c.in_default.not-Read;
      few = omega (arith, carries_none n.result 0 c.in_default.not-Read);
    }

pub number_lines-rest-requires : goal.number_lines-rest-requires
number_lines-rest-requires g c =
    let a = c.args in
    let s = a.text.now in
    let n = c.count_line-line in
    let r = counted a.many.now 1 a.most (number_of a.refusal) s (drop a.self.at s) n.result n.ensures c.in-Read.is in
    omega (arith, mul-le-mul_left g.row.W r.most, c.requires)

pub returns-in_default-rest : goal.returns-in_default-rest
unfolding listed
returns-in_default-rest g c =
    let a = c.args in
    let s = a.text.now in
    let n = c.count_line-line in
    let l = c.number_lines-rest in
    let out = l.new.out in
    record {
      says = handed (λ x y. take (g.row.W * c.in-Read.n) out) (listed_in g.row.W out) s l.result _ l.ensures.says c.in_default-rest.not-Read
          ∙ sym (went first _ s n.result _ n.ensures c.in-Read.is);
      few = omega (arith, carries_none l.result 0 c.in_default-rest.not-Read);
    }

pub returns : goal.returns
unfolding listed
returns g c =
    let a = c.args in
    let s = a.text.now in
    let n = c.count_line-line in
    let l = c.number_lines-rest in
    let out = l.new.out in
    record {
      says = sym (went first _ s n.result _ n.ensures c.in-Read.is ∙ sym l.ensures.says ∙ ap (told (λ x y. take (g.row.W * c.in-Read.n) out) s) c.in-Read-rest.is);
      few = (counted a.many.now 1 a.most (number_of a.refusal) s (drop a.self.at s) n.result n.ensures c.in-Read.is).most;
    }
