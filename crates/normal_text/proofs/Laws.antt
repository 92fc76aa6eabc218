-- The laws that specs/Laws.antt states, each by the module that proves it.
use Rattle.normal_text.specs.Laws.{SectionsOfTable, TableOfSections, SectionsByLines, NormalFits, NormalReads, NormalTells, NormalDecided}
use Rattle.normal_text.proofs.ByLines.{sections_by_lines}
use Rattle.normal_text.proofs.Theorem.{sections_in_lem, table_in_lem, normal_fits, normal_reads, normal_tells, normal_decided}

pub sections_of_table : SectionsOfTable
sections_of_table = sections_in_lem

pub table_of_sections : TableOfSections
table_of_sections = table_in_lem

pub sections_are_by_lines : SectionsByLines
sections_are_by_lines = sections_by_lines

pub normal_text_fits : NormalFits
normal_text_fits = normal_fits

pub normal_text_reads_back : NormalReads
normal_text_reads_back = normal_reads

pub normal_text_tells : NormalTells
normal_text_tells = normal_tells

pub enough_space_decides : NormalDecided
enough_space_decides = normal_decided
