-- What every call of `normal_text` owes, so that none can refuse everything, copy its input, write a fixed text, or leave
-- the reader's buffers unfilled.
use Rattle.std.specs.Prelude.{◌≡◌, [], ◌∷◌}
use Rattle.lines.specs.Bytes.{Bytes}
use Rattle.lines.specs.Text.{bytes}
use Rattle.lines.specs.Answers.{accepted}
use Rattle.lines.specs.Buffers.{filled}
use Rattle.normal_text.specs.Answers.{normal_means}
use Rattle.claims.specs.Demand3.{Call, left_by}

-- the empty file is not refused
abbrev pub NormalOfNothing : Type 0
NormalOfNothing = (c : Call (bytes ""))
    → normal_means c.made.answer ≡ accepted (record { length = 0; table = record { text = 0; sections = 0; entries = 0 } })

-- a file with a comment
abbrev pub commented : Bytes
commented = bytes "#x\n[A]\n"

-- every call on it leaves the text without the comment, and so no copy
abbrev pub NoCopy : Type 0
NoCopy = (c : Call commented) → (left_by c ≡ bytes "[A]\n") × (left_by c ≡ commented → ⊥)

-- two sections, each of which goes on behind the other; a value ends in a backslash
abbrev pub reopened : Bytes
reopened = bytes "[A]\nK=1\n[B]\nJ=\n[A]\nL=t\\ \n[B]\nM=2\n"

-- what every call leaves for it, in all four buffers
pub record Reopened (c : Call reopened) : Type 0 where
  pub answer : normal_means c.made.answer ≡ accepted (record { length = 25; table = record { text = 10; sections = 2; entries = 4 } })
  pub new_text : c.made.new_text ≡ filled (bytes "AK1BJLt\\M2") c.made.text
  pub new_sections : c.made.new_sections ≡ filled (0 ∷ 1 ∷ 3 ∷ 1 ∷ []) c.made.sections
  pub new_entries : c.made.new_entries
      ≡ filled (0 ∷ 1 ∷ 1 ∷ 2 ∷ 1 ∷ 1 ∷ 4 ∷ 1 ∷ 5 ∷ 0 ∷ 0 ∷ 5 ∷ 1 ∷ 6 ∷ 2 ∷ 1 ∷ 8 ∷ 1 ∷ 9 ∷ 1 ∷ []) c.made.entries
  pub new_out : c.made.new_out ≡ filled (bytes "[A]\nK=1\nL=t\\ \n[B]\nJ=\nM=2\n") c.made.out

-- every call leaves that
abbrev pub NormalOfReopened : Type 0
NormalOfReopened = (c : Call reopened) → Reopened c

-- so no fixed text serves both files
abbrev pub NoFixedText : Type 0
NoFixedText = (c : Call commented) (d : Call reopened) → left_by c ≡ left_by d → ⊥
