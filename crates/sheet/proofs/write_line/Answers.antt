-- `write_line` meets its contract: the line is found by tests on k, and written by its writer.
use native.Mathlib.Omega.{arith}
use Rattle.sheet.proofs.Output.{later, at_number, at_refusal, at_row, at_model, at_end, mapped, line_here, line_past}
use Rattle.sheet.proofs.write_line.Goals as goal

pub returns-then-k-eq0 : goal.returns-then-k-eq0
returns-then-k-eq0 c = line_here (at_number _ _ _ c.if-k-eq0.true) (mapped _ _ c.map.ensures.cases) c.write_number.ensures

pub returns-then-sheet-ne0 : goal.returns-then-sheet-ne0
returns-then-sheet-ne0 c = line_past _ (later _ _ c.if-k-eq0.false (at_refusal _ _ _ c.if-sheet-ne0.true))

pub returns-then-row-sheet : goal.returns-then-row-sheet
returns-then-row-sheet c =
    line_here (later _ _ c.if-k-eq0.false (at_row _ _ _ c.if-sheet-ne0.false c.if-row-sheet.true)) (mapped _ _ c.map-then-row-sheet.ensures.cases) c.write_row_at.ensures

pub returns-then-row-sheet-2 : goal.returns-then-row-sheet-2
returns-then-row-sheet-2 c =
    line_here (later _ _ c.if-k-eq0.false (at_model _ _ _ c.if-sheet-ne0.false c.if-row-sheet-2.true)) (mapped _ _ c.map-then-row-sheet-2.ensures.cases) c.write_model.ensures

pub returns : goal.returns
returns c =
    line_past _ (later _ _ c.if-k-eq0.false (at_end _ _ _ c.if-sheet-ne0.false (omega arith)))
