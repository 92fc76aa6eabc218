-- escapes, pieces and reading steps
pub mod Escaping
pub mod PieceLaws
pub mod StepLaws
-- texts that spell items
pub mod Elements
pub mod SpelledItems
pub mod Listed
pub mod ElementsBack
pub mod ItemsBack
-- written and split
pub mod EachByte
pub mod WrittenElements
pub mod WrittenBack
-- bytes and ends
pub mod LaidOut
-- the verdicts on calls
pub mod Verdicts
-- the readings
pub mod Readings
-- the code: escapes, the pieces of an item, an item, a step, all items, a call
pub mod Digits
pub mod EscapeSteps
pub mod PieceSteps
pub mod ItemLoop
pub mod StepCases
pub mod Forbidden
pub mod SplitLoop
pub mod SplitCalls
-- sizes, and what specs/Laws.antt states
pub mod SplitSize
pub mod Laws
