-- What is promised of pictures, from the laws of pictures and of judging.
use Rattle.std.specs.Prelude.{Some, None, Ok}
use mathlib.Core.Bool.{true, false}
use mathlib.Core.Path.{◌≡◌, sym, ap, ap₂, ◌∙◌}
use Prim.Native.Nat.{ℕ, ◌≤◌, ◌<◌}
use mathlib.Core.List.{List}
use mathlib.Core.Bool.{true, false}
use native.Mathlib.Omega.{arith}
use lib.ListN.{length}
use lib.Dec.{leb}
use borrow.Author.Tests.{lt-leb}
use Rattle.values.specs.Rows.{bad_row, row_in, row_values, stored_row}
use Rattle.values.specs.declared.verdict.Verdict.{Verdict}
use Rattle.kripke.specs.Answers.{opposite_row}
use Rattle.kripke.specs.Until.{everywhere, opposite, until}
use Rattle.kripke.proofs.Opposites.{opposite_valid, opposite_values}
use Rattle.kripke.proofs.Reading.{not_15, question_fine}
use Rattle.model.specs.Model.{Model, left_at, right_at}
use Rattle.model.proofs.Fine.{judge_fine}
use Rattle.ctl.specs.Answers.{Judging}
use Rattle.ctl.proofs.Held.{always_held, eventually_held, until_held}
use Rattle.pictures.specs.declared.Ending.{Ending}
use Rattle.pictures.specs.Pictures.{asked}
use Rattle.pictures.specs.Answers.{PictureAnswer, PicturePromise}
use Rattle.pictures.proofs.Exists.{false_pictured, pictured_exactly_lem}
use Rattle.pictures.proofs.Handed.{handed_passes_lem, passes_exactly_lem, picture_or_none}
use Rattle.pictures.proofs.OneAnswer.{check_one, picture_kind}
use Rattle.promises.specs.Pictures.{AlwaysExactly, HandedPasses, NotEventuallyExactly, OnePictureCheck, OnePictureKind, PassesExactly, PictureExactly, PicturedExactly}
use Rattle.promises.proofs.Accepted.{number_none, rows_stand}
use Rattle.promises.proofs.Paths.{stands, truth_read, truth_stands}

pub pictured_exactly : PicturedExactly
pictured_exactly q s G h = (pictured_exactly_lem q G s h, false_pictured q G s h)

pub passes_exactly : PassesExactly
passes_exactly = passes_exactly_lem

pub handed_passes : HandedPasses
handed_passes = handed_passes_lem

pub one_picture_kind : OnePictureKind
one_picture_kind = picture_kind

pub one_picture_check : OnePictureCheck
one_picture_check = check_one

-- a picture on a question whose rows are rows, of a judged model
tells : (m : Model) (before after : List ℕ) (v : Verdict) → Judging m before after (Ok v) → (left right : List ℕ) (s : ℕ) → s < m.states → bad_row m.states left ≡ false → bad_row m.states right ≡ false
    → (space space' : List ℕ) (a : PictureAnswer) → m.states ≤ length space → PicturePromise (asked m.states m.transitions left right) s space space' a
    → (until true m.transitions (row_values m.states left) (row_values m.states right) m.states s ≡ 0 → (n : ℕ) × (e : Ending) × (a ≡ Ok (Some (n, e)))) × ((until true m.transitions (row_values m.states left) (row_values m.states right) m.states s ≡ 0 → ⊥) → a ≡ Ok None)
tells m before after v p left right s h l r space space' a room f =
    let fine = question_fine m.states m.transitions left right (judge_fine m (length before) (number_none m before after v p)).table l r in
    picture_or_none (asked m.states m.transitions left right) s space space' a (not_15 m.states m.transitions left right (leb m.states s) fine (lt-leb m.states s h)) room f

pub picture_exactly : PictureExactly
picture_exactly m before after v p k s t six space space' a room f =
    let u = until_held m before (number_none m before after v p) after (rows_stand m before after v p) true k s t.node t.state six in
    let d = tells m before after v p _ _ s t.state (stands m before after v p (left_at m.nodes k) (omega (arith, t.node))) (stands m before after v p (right_at m.nodes k) (omega (arith, t.node))) space space' a room f in
    (λ z. d.0 (sym u.2 ∙ z), λ n. d.1 (λ z. n (u.2 ∙ z)))

pub not_eventually_exactly : NotEventuallyExactly
not_eventually_exactly m before after v p k s t eleven space space' a room f =
    let S : ℕ = m.states in
    let u = eventually_held m before (number_none m before after v p) after (rows_stand m before after v p) true k s t.node t.state eleven in
    let d = tells m before after v p _ _ s t.state (truth_stands S) (stands m before after v p (left_at m.nodes k) (omega (arith, t.node))) space space' a room f in
    let e = ap (λ (row : List ℕ). until true m.transitions row (row_values S (row_in S after (left_at m.nodes k))) S s) (truth_read S) in
    (λ z. d.0 (e ∙ sym u.1 ∙ z), λ n. d.1 (λ z. n (u.1 ∙ sym e ∙ z)))

pub always_exactly : AlwaysExactly
always_exactly m before after v p k s t twelve space space' a room f =
    let S : ℕ = m.states in
    let part : List ℕ = row_in S after (left_at m.nodes k) in
    let u = always_held m before (number_none m before after v p) after (rows_stand m before after v p) false k s t.node t.state twelve in
    let d = tells m before after v p _ _ s t.state (truth_stands S) (opposite_valid S part) space space' a room f in
    let e : until true m.transitions (row_values S (stored_row (everywhere S))) (row_values S (opposite_row S part)) S s ≡ until true m.transitions (everywhere S) (opposite S (row_values S part)) S s = ap₂ (λ (l r : List ℕ). until true m.transitions l r S s) (truth_read S) (opposite_values S part) in
    (λ z. d.0 (omega (arith, u.1, e)), λ n. d.1 (λ z. n (omega (arith, u.1, e))))
