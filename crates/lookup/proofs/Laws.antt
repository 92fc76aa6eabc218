-- The laws that specs/Laws.antt states, each by the module that proves it.
use Rattle.lookup.specs.Laws.{TableMeans, TableCounts, FirstMeans, LastMeans, NoneMeans, FoundIsEntry, PartIsValue, ReadDecodes}
use Rattle.lookup.proofs.Soundness.{table_means, table_counts}
use Rattle.lookup.proofs.Meanings.{first_means, last_means, none_means, found_is_entry}
use Rattle.lookup.proofs.Calls.{part_is_value}
use Rattle.lookup.proofs.ReadBack.{read_decodes}

pub tables_are_sound : TableMeans
tables_are_sound = table_means

pub counts_are_kept : TableCounts
counts_are_kept = table_counts

pub first_is_first : FirstMeans
first_is_first = first_means

pub last_is_last : LastMeans
last_is_last = last_means

pub none_is_none : NoneMeans
none_is_none = none_means

pub found_are_entries : FoundIsEntry
found_are_entries = found_is_entry

pub parts_are_values : PartIsValue
parts_are_values = part_is_value

pub tables_decode : ReadDecodes
tables_decode = read_decodes
