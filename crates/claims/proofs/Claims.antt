-- The statements of specs/, each by the module that proves it.
use Rattle.claims.specs.RoundTrip.{WriteAccepts, SplitComesBack}
use Rattle.claims.specs.LookUps.{TableThere, FindAfterRead, ValueAfterRead, CheckAfterRead, EntryAfterRead, MissingAfterRead}
use Rattle.claims.specs.Bench.{BenchHolds}
use Rattle.claims.specs.Demand3.{AcceptedLeaves, SameText, LeftIsAccepted, LeftIsRead, LeftIsItsOwn, TextTells, TextFits, RefusedFile, ShortBuffers, NotOneIsCall, CallIsNotOne}
use Rattle.claims.specs.Excluded.{SplitsNothing, SplitsTwo, WritesNothing, WritesTwo}
use Rattle.claims.specs.ExcludedReads.{ReadsNothing, ReadsTwo, NoOneAnswer, CountsOfTable, RefusalOfFile}
use Rattle.claims.specs.ExcludedNormal.{NormalOfNothing, NoCopy, NormalOfReopened, NoFixedText}
use Rattle.claims.proofs.CallsBack.{write_accepts, split_comes_back}
use Rattle.claims.proofs.LookedUp.{table_there, find_after_read, value_after_read, check_after_read, entry_after_read, missing_after_read}
use Rattle.claims.proofs.Bench.{bench_holds}
use Rattle.claims.proofs.Demand3.{accepted_leaves, same_text, left_is_accepted, left_is_read, left_is_its_own, text_tells, text_fits, refused_file, short_buffers, not_one_is_call, call_is_not_one}
use Rattle.claims.proofs.Excluded.{splits_nothing, splits_two, writes_nothing, writes_two}
use Rattle.claims.proofs.ExcludedReads.{reads_nothing, reads_two, no_one_answer, counts_of_table, refusal_of_file}
use Rattle.claims.proofs.ExcludedNormal.{normal_of_nothing, no_copy, normal_of_reopened, no_fixed_text}

pub list_is_written : WriteAccepts
list_is_written = write_accepts

pub list_comes_back : SplitComesBack
list_comes_back = split_comes_back

pub read_file_has_a_table : TableThere
read_file_has_a_table = table_there

pub read_entries_are_found : FindAfterRead
read_entries_are_found = find_after_read

pub read_values_come_back : ValueAfterRead
read_values_come_back = value_after_read

pub read_values_are_told : CheckAfterRead
read_values_are_told = check_after_read

pub found_is_first_or_last : EntryAfterRead
found_is_first_or_last = entry_after_read

pub missing_is_none : MissingAfterRead
missing_is_none = missing_after_read

pub normal_text_is_left : AcceptedLeaves
normal_text_is_left = accepted_leaves

pub calls_leave_the_same_text : SameText
calls_leave_the_same_text = same_text

pub text_left_is_accepted : LeftIsAccepted
text_left_is_accepted = left_is_accepted

pub text_left_is_read : LeftIsRead
text_left_is_read = left_is_read

pub text_left_is_its_own : LeftIsItsOwn
text_left_is_its_own = left_is_its_own

pub texts_tell_files_apart : TextTells
texts_tell_files_apart = text_tells

pub text_left_fits : TextFits
text_left_fits = text_fits

pub refused_file_leaves_all : RefusedFile
refused_file_leaves_all = refused_file

pub short_buffer_leaves_all : ShortBuffers
short_buffer_leaves_all = short_buffers

pub not-refused-with-1-is-long : NotOneIsCall
not-refused-with-1-is-long = not_one_is_call

pub long-is-not-refused-with-1 : CallIsNotOne
long-is-not-refused-with-1 = call_is_not_one

pub bench_cases_hold : BenchHolds
bench_cases_hold = bench_holds

pub empty_text_is_split : SplitsNothing
empty_text_is_split = splits_nothing

pub two_items_are_split : SplitsTwo
two_items_are_split = splits_two

pub empty_list_is_written : WritesNothing
empty_list_is_written = writes_nothing

pub two_items_are_written : WritesTwo
two_items_are_written = writes_two

pub empty_file_is_read : ReadsNothing
empty_file_is_read = reads_nothing

pub two_sections_are_read : ReadsTwo
two_sections_are_read = reads_two

pub no_answer_serves_all : NoOneAnswer
no_answer_serves_all = no_one_answer

pub counts_are_of_the_table : CountsOfTable
counts_are_of_the_table = counts_of_table

pub refusals_are_of_the_file : RefusalOfFile
refusals_are_of_the_file = refusal_of_file

pub empty_file_has_a_normal_text : NormalOfNothing
empty_file_has_a_normal_text = normal_of_nothing

pub input_is_not_copied : NoCopy
input_is_not_copied = no_copy

pub reopened_sections_are_left : NormalOfReopened
reopened_sections_are_left = normal_of_reopened

pub no_text_serves_all : NoFixedText
no_text_serves_all = no_fixed_text
