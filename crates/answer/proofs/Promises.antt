-- The promise of a writer: a line that was put from the front on, one that has no room, and none; and that it permits one answer.
use Prim.Native.Nat.{ℕ, ◌≤◌, ◌<◌}
use mathlib.Core.Path.{◌≡◌, refl, sym, ◌∙◌}
use mathlib.Core.List.{List}
use mathlib.Core.Bool.{Bool, true, false}
use native.Mathlib.Omega.{arith}
use lib.ListN.{length}
use borrow.Author.Tests.{le-leb, lt-leb}
use Rattle.answer.specs.Answers.{Due, line_if, LineWritten}
use Rattle.answer.specs.Answers.Due.{line}
use Rattle.lists.specs.Rows.{Put}
use Rattle.std.specs.Prelude.{Result, Ok, Err}
use Rattle.answer.specs.declared.Unwritten.{Unwritten}
use Rattle.answer.specs.declared.Unwritten.TheVariants.{NoRoom, NoLine}
use Rattle.lists.proofs.Placed.{put_front}

pub line_put : {before after bytes : List ℕ} {end : ℕ} → Put before after 0 end bytes → length bytes ≤ length before → LineWritten (line bytes) before after (Ok end)
line_put {before} {after} {bytes} {end} p h =
    let e : end ≡ length bytes = omega (arith, p.ends) in
    record { answers = simp (le-leb _ _ h, e); buffer = put_front p ∙ simp (le-leb _ _ h) }

pub line_short : (before bytes : List ℕ) → length before < length bytes → LineWritten (line bytes) before before (Err NoRoom)
line_short before bytes h = record { answers = simp (lt-leb _ _ h); buffer = simp (lt-leb _ _ h) }

-- by whether there is a line
pub line_none : (valid : Bool) (bytes before : List ℕ) → valid ≡ false → LineWritten (line_if valid bytes) before before (Err NoLine)
line_none valid bytes before e = rw e (record { answers = refl; buffer = refl })

pub line_some : (valid : Bool) {bytes before after : List ℕ} {r : Result ℕ Unwritten} → valid ≡ true → LineWritten (line bytes) before after r → LineWritten (line_if valid bytes) before after r
line_some valid e p = rw e p

-- any two permitted answers coincide, the buffer too
pub written_one : (due : Due) (before after after' : List ℕ) (r r' : Result ℕ Unwritten) → LineWritten due before after r → LineWritten due before after' r' → (r ≡ r') × (after ≡ after')
written_one due before after after' r r' p q = (p.answers ∙ sym q.answers, p.buffer ∙ sym q.buffer)
