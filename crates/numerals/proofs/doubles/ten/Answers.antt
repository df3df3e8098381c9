-- `ten` meets its contract: one test, computed over the whole table.
use native.Mathlib.Omega.{arith}
use mathlib.Core.List.{List, [], ◌∷◌}
use lib.Ieee.{Float, of_bits, binary64}
use Rattle.numerals.proofs.Rounding.{tens_at}
use Rattle.numerals.proofs.doubles.ten.Goals as goal

-- the table by its bits
tens : List Float
tens =
    of_bits binary64 4607182418800017408 ∷ of_bits binary64 4621819117588971520 ∷ of_bits binary64 4636737291354636288 ∷ of_bits binary64 4652007308841189376 ∷ of_bits binary64 4666723172467343360 ∷ of_bits binary64 4681608360884174848 ∷ of_bits binary64 4696837146684686336 ∷ of_bits binary64 4711630319722168320 ∷ of_bits binary64 4726483295884279808 ∷ of_bits binary64 4741671816366391296 ∷ of_bits binary64 4756540486875873280 ∷ of_bits binary64 4771362005757984768 ∷ of_bits binary64 4786511204640096256 ∷ of_bits binary64 4801453603149578240 ∷ of_bits binary64 4816244402031689728 ∷ of_bits binary64 4831355200913801216 ∷ of_bits binary64 4846369599423283200 ∷ of_bits binary64 4861130398305394688 ∷ of_bits binary64 4876203697187506176 ∷ of_bits binary64 4891288408196988160 ∷ of_bits binary64 4906019910204099648 ∷ of_bits binary64 4921056587992461136 ∷ of_bits binary64 4936209963552724370 ∷ []

pub returns : goal.returns
unfolding of_bits tens
returns c = tens_at tens tt c.args.k (omega arith)
