-- A read in place: what is filled of a space grows by what was read behind it.
use Rattle.std.proofs.Common.{◌≡◌, ℕ, ◌+◌, List, ◌++◌, IfOk, length, take, drop, Result, Ok, Err, sym, ap, subst, ◌∙◌, drop_at}
use lib.Seq.{take-add, take-append-le}
use Rattle.std.specs.declared.option.Option.{Option}
use Rattle.std.specs.Io.{ReadsAtMost}
use Rattle.std.specs.Io.KnownBytes.{Consumes}
use Rattle.std.proofs.KnownBytes.{Consumes-trans}

-- What was read into the part stands behind the front.
pub consumes_in_place : {E : Type 0} (a b : Option (List ℕ)) (r : Result ℕ E) (front part rest : List ℕ) (at : ℕ) → length front ≡ at → ReadsAtMost r part
    → IfOk r (λ n. Consumes a b (take n part)) → IfOk r (λ n. Consumes a b (take n (drop at (front ++ (part ++ rest)))))
consumes_in_place a b (Ok n) front part rest at long fits read =
    subst (Consumes a b) (sym (ap (take n) (drop_at front (part ++ rest) at long) ∙ take-append-le n part rest fits.0)) read
consumes_in_place a b (Err e) front part rest at long fits read = tt

-- xs was filled up to f, and ys has that front and n bytes more.
pub filled_more : (a b c : Option (List ℕ)) (xs ys : List ℕ) (f n : ℕ) → take f ys ≡ take f xs → Consumes a b (take f xs) → Consumes b c (take n (drop f ys))
    → Consumes a c (take (f + n) ys)
filled_more a b c xs ys f n front before read =
    subst (Consumes a c) (ap (λ l. l ++ take n (drop f ys)) (sym front) ∙ sym (take-add f n ys)) (Consumes-trans a b c (take f xs) (take n (drop f ys)) before read)
