-- The delay between two 32-bit counters.
use Rattle.std.specs.Prelude.{◌≡◌, ℕ, suc, ◌-◌, ◌%◌, ◌^◌, true, ℤ, pos, negsuc, ◌-ℤ◌}
use Rattle.std.specs.Int.Signed.{le_z}

-- how far a counter goes before it begins again
abbrev pub turn : ℕ
turn = 2 ^ 32

-- −2,147,483,648
abbrev pub least_delay : ℤ
least_delay = negsuc 2147483647

abbrev pub greatest_delay : ℤ
greatest_delay = pos 2147483647

-- a whole number modulo a turn; negsuc n is −1 − n
unfoldable pub mod_turn : ℤ → ℕ
mod_turn (pos n) = n % turn
mod_turn (negsuc n) = turn - suc (n % turn)

-- later minus earlier modulo a turn, taken between the least and the greatest delay
pub record Delay (later earlier : ℕ) (d : ℤ) : Type 0 where
  pub congruent : mod_turn d ≡ mod_turn (pos later -ℤ pos earlier)
  pub not_less : le_z least_delay d ≡ true
  pub not_more : le_z d greatest_delay ≡ true
