-- Laws about the definitions of specs/, for the proofs of this crate and of those above it.
pub mod Lists
-- bytes that are legal in a line, and what trimming leaves of it
pub mod Graphic
pub mod Trimmed
-- what a line brings can be written out, and so can the table of a file
pub mod Fitting
pub mod Printable
-- the lines of the normal text, and what they bring
pub mod PrintedLines
pub mod LinesBack
-- the sections of a table
pub mod Grouping
pub mod ByName
pub mod Readable
-- demand 3, and what else specs/Laws.antt states
pub mod Theorem
pub mod ByLines
pub mod Laws
-- the code: lines, links, sections, and the call
pub mod LinePuts
pub mod Listed
pub mod Records
pub mod LinkLaws
pub mod SectionPuts
pub mod NormalCalls
