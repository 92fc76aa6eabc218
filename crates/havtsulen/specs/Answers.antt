-- What each call answers, reports and leaves in the buffers. The outcomes, and what the buffers hold afterwards, are those of
-- the functions in the crates below this one; a short report is judged before them.
use Rattle.std.specs.Prelude.{◌≡◌, ℕ, zero, suc, ◌+◌, ◌≤◌, Bool, cond, List, length, get_or}
use Rattle.lines.specs.Bytes.{Bytes}
use Rattle.lines.specs.Answers.{Outcome, accepted}
use Rattle.lines.specs.Utf8.{longest_start}
use Rattle.lines.specs.Files.{checked_file}
use Rattle.table.specs.Tables.{Table}
use Rattle.table.specs.declared.state.Counts.{Counts}
use Rattle.table.specs.Answers.{counted, TableLeft, read_in}
use Rattle.lookup.specs.Decoding.{Lent, part}
use Rattle.lookup.specs.Questions.{Part, index_in, value_in, part_in}
use Rattle.lookup.specs.Answers.{bytes_or, part_or}
use Rattle.lookup.specs.declared.values.Part as declared
use Rattle.lookup.specs.declared.search.Which.{Which}
use Rattle.lookup.specs.declared.search.Which.TheVariants.{First, Last}
use Rattle.normal_text.specs.declared.normal.Sizes.{Sizes}
use Rattle.normal_text.specs.Answers.{sized, out_after, normal_in}
use Rattle.items.specs.declared.splitter.Counts.{Counts as ItemCounts}
use Rattle.items.specs.Split.{split_in}
use Rattle.items.specs.Write.{write_in}
use Rattle.items.specs.Answers.{ItemsLeft}
use Rattle.items.specs.Answers as items
use Rattle.item_writer.specs.Answers.{measured}
use Rattle.item_writer.specs.Answers as writer
use Rattle.values.specs.Booleans.{boolean_of}
use Rattle.values.specs.Spans.{span_of}
use Rattle.havtsulen.specs.Reports.{four, with_report, Reports}

-- ---- the numbers of what is accepted

-- nothing to tell
abbrev pub nothing_told : Unit {0} → List ℕ
nothing_told u = four 0 0 0 0

-- one number: a length, an index, microseconds
abbrev pub number_told : ℕ → List ℕ
number_told n = four n 0 0 0

-- 1 for true, 0 for false
abbrev pub truth_told : Bool → List ℕ
truth_told b = four (cond b 1 0) 0 0 0

-- a part of the text: start and length
abbrev pub part_told : Part → List ℕ
part_told p = four p.start p.size 0 0

-- the same of the part as the code hands it back
abbrev pub place_told : declared.Part → List ℕ
place_told p = four p.start p.length 0 0

-- text bytes, sections, entries
abbrev pub counts_told : Counts → List ℕ
counts_told c = four c.text c.sections c.entries 0

-- the length of the normal text, and the three counts
abbrev pub sizes_told : Sizes → List ℕ
sizes_told s = four s.length s.table.text s.table.sections s.table.entries

-- items, and their bytes together
abbrev pub items_told : ItemCounts → List ℕ
items_told c = four c.items c.bytes 0 0

-- ---- files

-- `havtsulen_well_formed_length` is refused for a short report alone
abbrev pub ReportsWellFormedLength : (text : Bytes) (report : List ℕ) (r : ℕ) (report' : List ℕ) → Type 0
ReportsWellFormedLength text report r report' =
    Reports number_told (with_report report (accepted (longest_start text))) report r report'

-- `havtsulen_check_file`
abbrev pub ReportsCheckFile : (f : Bytes) (report : List ℕ) (r : ℕ) (report' : List ℕ) → Type 0
ReportsCheckFile f report r report' = Reports nothing_told (with_report report (checked_file f)) report r report'

-- what reading answers and leaves, where this is the outcome
pub record ReportsTable (o : Outcome Table) (text : Bytes) (sections entries report : List ℕ)
    (r : ℕ) (text' : Bytes) (sections' entries' report' : List ℕ) : Type 0 where
  pub reports : Reports counts_told (counted o) report r report'
  pub left : TableLeft o text sections entries text' sections' entries'

-- `havtsulen_read`
abbrev pub ReportsRead : (f text : Bytes) (sections entries report : List ℕ)
    (r : ℕ) (text' : Bytes) (sections' entries' report' : List ℕ) → Type 0
ReportsRead f text sections entries report r text' sections' entries' report' =
    ReportsTable (with_report report (read_in (length text) (length sections) (length entries) f))
    text sections entries report r text' sections' entries' report'

-- what writing the normal text answers and leaves, where this is the outcome
pub record ReportsSizes (o : Outcome Table) (text : Bytes) (sections entries : List ℕ) (out : Bytes) (report : List ℕ)
    (r : ℕ) (text' : Bytes) (sections' entries' : List ℕ) (out' : Bytes) (report' : List ℕ) : Type 0 where
  pub reports : Reports sizes_told (sized o) report r report'
  pub left : TableLeft o text sections entries text' sections' entries'
  pub new_out : out' ≡ out_after o out

-- `havtsulen_normal_text`
abbrev pub ReportsNormalText : (f text : Bytes) (sections entries : List ℕ) (out : Bytes) (report : List ℕ)
    (r : ℕ) (text' : Bytes) (sections' entries' : List ℕ) (out' : Bytes) (report' : List ℕ) → Type 0
ReportsNormalText f text sections entries out report r text' sections' entries' out' report' =
    ReportsSizes (with_report report (normal_in (length text) (length sections) (length entries) (length out) f))
    text sections entries out report r text' sections' entries' out' report'

-- ---- look-up; its buffers are lent to be read alone

-- which of several entries a number asks for: 0 the first, any other the last
abbrev pub which_of : ℕ → Which
which_of zero = First
which_of (suc n) = Last

-- `havtsulen_find`
abbrev pub ReportsFind : (b : Lent) (which : ℕ) (section key : Bytes) (report : List ℕ) (r : ℕ) (report' : List ℕ) → Type 0
ReportsFind b which section key report r report' =
    Reports number_told (with_report report (index_in b (which_of which) section key)) report r report'

-- the first two numbers of a report name the part of the text that holds an entry's value, no bytes where it has none
pub record NamesValue (b : Lent) (i : ℕ) (report : List ℕ) : Type 0 where
  pub inside : get_or report 0 0 + get_or report 1 0 ≤ length b.text
  pub bytes : part b.text (get_or report 0 0) (get_or report 1 0) ≡ bytes_or (value_in b i)

-- what a question for a value answers, where this is the outcome; accepted, its report names the value
pub record ReportsPart (o : Outcome Part) (b : Lent) (i : ℕ) (report : List ℕ) (r : ℕ) (report' : List ℕ) : Type 0 where
  pub reports : Reports part_told o report r report'
  pub names : r ≡ 0 → NamesValue b i report'

-- `havtsulen_value` is refused for a short report alone
abbrev pub ReportsValue : (b : Lent) (i : ℕ) (report : List ℕ) (r : ℕ) (report' : List ℕ) → Type 0
ReportsValue b i report r report' = ReportsPart (with_report report (accepted (part_or (part_in b i)))) b i report r report'

-- `havtsulen_value_check`
abbrev pub ReportsValueCheck : (b : Lent) (i : ℕ) (report : List ℕ) (r : ℕ) (report' : List ℕ) → Type 0
ReportsValueCheck b i report r report' = ReportsPart (with_report report (part_in b i)) b i report r report'

-- ---- items

-- what splitting answers and leaves, where this is the outcome
pub record ReportsItems (o : Outcome (List Bytes)) (bytes : Bytes) (ends report : List ℕ)
    (r : ℕ) (bytes' : Bytes) (ends' report' : List ℕ) : Type 0 where
  pub reports : Reports items_told (items.counted o) report r report'
  pub left : ItemsLeft o bytes ends bytes' ends'

-- `havtsulen_split`
abbrev pub ReportsSplit : (text bytes : Bytes) (ends report : List ℕ) (r : ℕ) (bytes' : Bytes) (ends' report' : List ℕ) → Type 0
ReportsSplit text bytes ends report r bytes' ends' report' =
    ReportsItems (with_report report (split_in (length bytes) (length ends) text)) bytes ends report r bytes' ends' report'

-- what writing answers and leaves, where this is the outcome
pub record ReportsWritten (o : Outcome Bytes) (out : Bytes) (report : List ℕ) (r : ℕ) (out' : Bytes) (report' : List ℕ) : Type 0 where
  pub reports : Reports number_told (measured o) report r report'
  pub new_out : out' ≡ writer.text_after o out

-- `havtsulen_write`
abbrev pub ReportsWrite : (bytes : Bytes) (ends : List ℕ) (out : Bytes) (report : List ℕ) (r : ℕ) (out' : Bytes) (report' : List ℕ) → Type 0
ReportsWrite bytes ends out report r out' report' =
    ReportsWritten (with_report report (write_in (length out) bytes ends)) out report r out' report'

-- ---- values

-- `havtsulen_boolean`
abbrev pub ReportsBoolean : (text : Bytes) (report : List ℕ) (r : ℕ) (report' : List ℕ) → Type 0
ReportsBoolean text report r report' = Reports truth_told (with_report report (boolean_of text)) report r report'

-- `havtsulen_span`
abbrev pub ReportsSpan : (text : Bytes) (report : List ℕ) (r : ℕ) (report' : List ℕ) → Type 0
ReportsSpan text report r report' = Reports number_told (with_report report (span_of text)) report r report'
