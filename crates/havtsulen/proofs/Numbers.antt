-- No refusal has the number 0.
use mathlib.Core.Path.{◌≡◌}
use mathlib.Core.Bool.{false}
use lib.Dec.{eqb}
use Rattle.lines.specs.Answers as file
use Rattle.lines.specs.declared.error.Error as lines
use Rattle.table.specs.Answers as table
use Rattle.table.specs.declared.error.Error as reader
use Rattle.lookup.specs.Answers as lookup
use Rattle.lookup.specs.declared.error.Error as question
use Rattle.items.specs.Answers as items
use Rattle.items.specs.declared.error.Error as item
use Rattle.values.specs.Answers as values
use Rattle.values.specs.declared.error.Error as value

pub file_number : (e : lines.Error) → eqb (file.number_of e) 0 ≡ false
file_number e = file.never_0 e

pub table_number : (e : reader.Error) → eqb (table.number_of e) 0 ≡ false
table_number e = table.never_0 e

pub lookup_number : (e : question.Error) → eqb (lookup.number_of e) 0 ≡ false
lookup_number e = lookup.never_0 e

pub item_number : (e : item.Error) → eqb (items.number_of e) 0 ≡ false
item_number e = items.never_0 e

pub value_number : (e : value.Error) → eqb (values.number_of e) 0 ≡ false
value_number e = values.never_0 e
