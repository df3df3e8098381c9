-- `digits_from` meets its contract: the digits passed and the rest say what the whole text does, and there is room for the rest.
use mathlib.Core.Path.{◌≡◌, sym, ◌∙◌}
use Prim.Native.Nat.{ℕ, suc, ◌+◌, ◌-◌, ◌*◌, ◌^◌, ◌≤◌, ◌<◌}
use native.Mathlib.Omega.{arith}
use lib.ListN.{length, get_or}
use Rattle.std.specs.Prelude.{Some}
use Rattle.numerals.specs.Wholes.{most_digits, digit_of}
use Rattle.numerals.proofs.Digits.{digits_on, digits_other, digits_end, digit_small, grown_room, room_small}
use Rattle.numerals.proofs.wholes.digits_from.Goals as goal
use Rattle.numerals.proofs.wholes.digits_from.Goals.{In_ok-n}

pub returns-in_err-n : goal.returns-in_err-n
returns-in_err-n c =
    c.from_residual.ensures ∙ sym (c.loop-byte.invariant.1 ∙ digits_other c.loop-byte.n c.args.text.now c.loop-byte.byte-index c.loop-byte-test.true (sym c.digit.ensures ∙ c.in_err-n.was))

is_digit : (c : In_ok-n) → digit_of (get_or c.args.text.now c.loop-byte.byte-index 0) ≡ Some c.in_ok-n.field-0
is_digit c = sym c.digit.ensures ∙ c.in_ok-n.was

-- the room before a digit and behind it
room : (n d i len : ℕ) → i < len → d < 10 → (n + 1) * 10 ^ (len - i) ≤ 10 ^ most_digits → (n * 10 + d + 1) * 10 ^ (len - (i + 1)) ≤ 10 ^ most_digits
room n d i len h k r =
    let e : len - i ≡ suc (len - (i + 1)) = omega arith in
    grown_room n d (len - (i + 1)) (10 ^ most_digits) k (rw e at r)

room_left : (c : In_ok-n) → (c.loop-byte.n * 10 + c.in_ok-n.field-0 + 1) * 10 ^ (length c.args.text.now - (c.loop-byte.byte-index + 1)) ≤ 10 ^ most_digits
room_left c =
    room c.loop-byte.n c.in_ok-n.field-0 c.loop-byte.byte-index (length c.args.text.now) c.loop-byte-test.true (digit_small _ _ (is_digit c)) c.loop-byte.invariant.0

pub overflow_mul-n : goal.overflow_mul-n
overflow_mul-n c =
    let r = room c.loop-byte.n 0 c.loop-byte.byte-index (length c.args.text.now) c.loop-byte-test.true (omega arith) c.loop-byte.invariant.0 in
    record { fits = omega (arith, room_small _ _ _ r) }

pub overflow_add-n : goal.overflow_add-n
overflow_add-n c = record { fits = omega (arith, room_small _ _ _ (room_left c)) }

pub loop-byte-preserved : goal.loop-byte-preserved
loop-byte-preserved c =
    (room_left c, c.loop-byte.invariant.1 ∙ digits_on c.loop-byte.n c.args.text.now c.loop-byte.byte-index c.in_ok-n.field-0 c.loop-byte-test.true (is_digit c))

pub returns : goal.returns
returns c = sym (c.loop-byte.invariant.1 ∙ digits_end c.loop-byte.n c.args.text.now c.loop-byte.byte-index (omega arith))
