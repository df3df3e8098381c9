-- `list` ends after so many paths.
use Prim.Native.Nat.{◌<◌}
use mathlib.Core.Path.{◌≡◌, ap, ◌∙◌}
use native.Mathlib.Omega.{arith}
use Rattle.std.specs.Prelude.{Ok}
use Rattle.listing.specs.declared.Told.TheVariants as told
use Rattle.listing.proofs.Listing.{path_listed}
use Rattle.witness.proofs.telling.Until.list.Goals as goal

pub overflow_sub-rest : goal.overflow_sub-rest
overflow_sub-rest g c =
    let listed = c.write_line-listed in
    let path : listed.result.told ≡ Ok (told.Path c.in-Path.n) = c.in-Ok.is ∙ ap Ok c.in-Path.is in
    path_listed _ _ _ listed.ensures path

pub loop-line_told-smaller : goal.loop-line_told-smaller
loop-line_told-smaller g c =
    let listed = c.write_line-listed in
    let path : listed.result.told ≡ Ok (told.Path c.in-Path.n) = c.in-Ok.is ∙ ap Ok c.in-Path.is in
    omega (arith, path_listed _ _ _ listed.ensures path)
