-- The laws that specs/Laws.antt states, each by the module that proves it.
use Rattle.table.specs.Laws.{EmptyLine, HeaderMade, HeaderIsMade, EntryMade, EntryIsMade, TableFits, RecordsSized, NamesApart, EntriesInside, NamesLegal, EntriesLegal, RefusalNumbers, NumbersDecideNothing, ReadDecided}
use Rattle.table.proofs.KindLaws.{empty_line, header_made, header_is_made, entry_made, entry_is_made}
use Rattle.table.proofs.Events.{sections_length, entries-length}
use Rattle.table.proofs.Sizes.{table_fits}
use Rattle.table.proofs.TableLaws.{names_apart, entries-inside, names_legal, entries_legal, numbers_decide_nothing}
use Rattle.table.proofs.Refusals.{refusal_numbers}
use Rattle.table.proofs.ReadCalls.{enough_space}

pub only_nothing_is_empty : EmptyLine
only_nothing_is_empty = empty_line

pub brackets_are_a_header : HeaderMade
brackets_are_a_header = header_made

pub headers_are_brackets : HeaderIsMade
headers_are_brackets = header_is_made

pub parts_are_an_entry : EntryMade
parts_are_an_entry = entry_made

pub entries_are_parts : EntryIsMade
entries_are_parts = entry_is_made

pub tables_fit : TableFits
tables_fit = table_fits

pub records_are_sized : RecordsSized
records_are_sized es = (sections_length 0 es, entries-length 0 es)

pub names_are_apart : NamesApart
names_are_apart = names_apart

pub entries_are_inside : EntriesInside
entries_are_inside = entries-inside

pub names_are_legal : NamesLegal
names_are_legal = names_legal

pub entries_are_legal : EntriesLegal
entries_are_legal = entries_legal

pub refusals_are_numbered : RefusalNumbers
refusals_are_numbered = refusal_numbers

pub line_numbers_decide_nothing : NumbersDecideNothing
line_numbers_decide_nothing = numbers_decide_nothing

pub enough_space_decides : ReadDecided
enough_space_decides = enough_space
