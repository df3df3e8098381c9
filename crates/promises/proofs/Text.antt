-- The promises of text, cited from the crates that prove it.
use Rattle.promises.specs.Text.{TextRefusalKeeps, TextNumber, TextNumbers, FormIsPrint, PrintIsRead, PrintFits, ReadIsPrint, OneReading, OneLine, LinesFit, LinesReach, OneListing, OneSheet, OneSheetLine, SheetRefusal, SheetNumbers, SheetMeaning}
use Rattle.form.proofs.Printed.{well_formed, formed_well}
use Rattle.text.proofs.Promised.{refusal_leaves, print_read, read_print, one_answer}
use Rattle.form.proofs.Longest.{longest_print_lem}
use Rattle.text.proofs.Occurring.{each_number_occurs}
use Rattle.text.proofs.Refusals.{only_these}
use Rattle.answer.proofs.Bounds.{model_longest, number_longest, path_longest, path_reaches, row_longest, row_reaches}
use Rattle.answer.proofs.Promises.{written_one}
use Rattle.listing.proofs.Listing.{listed_one}
use Rattle.sheet.proofs.Fronts.{text_judged_one}
use Rattle.sheet.proofs.Output.{line_put_one}
use Rattle.sheet.proofs.Numbers.{never_these}
use Rattle.sheet.proofs.Meaning.{text_keeps, refusal_shown, answer_shown}

pub text_refusal_keeps : TextRefusalKeeps
text_refusal_keeps = refusal_leaves

pub text_number : TextNumber
text_number text before after r p = p.number

pub text_numbers : TextNumbers
text_numbers = (only_these, each_number_occurs)

pub form_is_print : FormIsPrint
form_is_print text m = (well_formed text m, λ w. formed_well text m w.0 w.1)

pub print_is_read : PrintIsRead
print_is_read = print_read

pub print_fits : PrintFits
print_fits = longest_print_lem

pub read_is_print : ReadIsPrint
read_is_print = read_print

pub one_reading : OneReading
one_reading = one_answer

pub one_line : OneLine
one_line = written_one

pub lines_fit : LinesFit
lines_fit = (number_longest, row_longest, model_longest, path_longest)

pub lines_reach : LinesReach
lines_reach = (row_reaches, path_reaches)

pub one_sheet : OneSheet
one_sheet = text_judged_one

pub one_sheet_line : OneSheetLine
one_sheet_line = line_put_one

pub one_listing : OneListing
one_listing = listed_one

pub sheet_refusal : SheetRefusal
sheet_refusal text before after r p h = (text_keeps text before after r p h, refusal_shown r after h)

pub sheet_numbers : SheetNumbers
sheet_numbers = never_these

pub sheet_meaning : SheetMeaning
sheet_meaning = answer_shown
