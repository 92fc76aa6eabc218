-- Demand 3: what calls of `normal_text` leave behind, from what each of them promises and nothing else. That a file is
-- accepted is `sections_in f ≡ accepted ss`, from its bytes alone; ss are its sections, each with its entries. A buffer is the
-- rules' room, a value their joined text, a header their heading.
use Rattle.std.specs.Prelude.{◌≡◌, ◌↔◌, ℕ, ◌≤◌, ◌<◌, List, length, take, Result}
use Rattle.lines.specs.Bytes.{Bytes}
use Rattle.lines.specs.Files.{size}
use Rattle.lines.specs.Answers.{Outcome, accepted, refused}
use Rattle.table.specs.Tables.{Table, verdict}
use Rattle.table.specs.Answers.{counts_of, read_means}
use Rattle.table.specs.declared.error.Error.{Error}
use Rattle.table.specs.declared.state.Counts.{Counts}
use Rattle.normal_text.specs.Sections.{Pair, Section, sections_of, sections_in}
use Rattle.normal_text.specs.NormalText.{normal_text}
use Rattle.normal_text.specs.Answers.{normal_means, Normalizes}
use Rattle.normal_text.specs.declared.normal.Sizes.{Sizes}
use Rattle.claims.specs.ReadCalls.{ReadCall}

-- ---- calls

-- any call on a file: what the four buffers held, the answer, and what it left in them
pub record AnyCall (f : Bytes) : Type 0 where
  pub text : Bytes
  pub sections : List ℕ
  pub entries : List ℕ
  pub out : Bytes
  pub answer : Result Sizes Error
  pub new_text : Bytes
  pub new_sections : List ℕ
  pub new_entries : List ℕ
  pub new_out : Bytes
  pub promise : Normalizes f text sections entries out answer new_text new_sections new_entries new_out

-- a call none of whose buffers is too short
pub record Call (f : Bytes) : Type 0 where
  pub made : AnyCall f
  pub text_size : 65535 ≤ length made.text
  pub sections_size : 128 ≤ length made.sections
  pub entries_size : 2560 ≤ length made.entries
  pub out_size : 65535 ≤ length made.out

-- one of the four buffers is too short
pub data Short {f : Bytes} (c : AnyCall f) : Type 0 where
  short_text : length c.text < 65535 → Short c
  short_sections : length c.sections < 128 → Short c
  short_entries : length c.entries < 2560 → Short c
  short_out : length c.out < 65535 → Short c

-- the length that an answer says, none for a refusal
abbrev pub length_said : Outcome Sizes → ℕ
length_said (accepted s) = s.length
length_said (refused n p) = 0

-- that of a call's answer
abbrev pub length_by : {f : Bytes} → Call f → ℕ
length_by c = length_said (normal_means c.made.answer)

-- the text that a call leaves: the output buffer from its start and as long as the answer says
abbrev pub left_by : {f : Bytes} → Call f → Bytes
left_by c = take (length_by c) c.made.new_out

-- ---- calls on accepted files

-- accepted, with the length of these sections' normal text, and that text is left
pub record Leaves (ss : List (Section Pair)) {f : Bytes} (c : Call f) : Type 0 where
  pub counts : Counts
  pub accepted_with : normal_means c.made.answer ≡ accepted (record { length = length (normal_text ss); table = counts })
  pub text_left : left_by c ≡ normal_text ss

-- every call on an accepted file is accepted, and leaves the normal text of its sections
abbrev pub AcceptedLeaves : Type 0
AcceptedLeaves = (f : Bytes) (ss : List (Section Pair)) → sections_in f ≡ accepted ss → (c : Call f) → Leaves ss c

-- two calls on one accepted file leave the same text, whatever their buffers held
abbrev pub SameText : Type 0
SameText = (f : Bytes) (ss : List (Section Pair)) → sections_in f ≡ accepted ss → (c d : Call f) → left_by c ≡ left_by d

-- the text left, read as a file, is accepted; it has the same sections in order, and in each the same entries in order
abbrev pub LeftIsAccepted : Type 0
LeftIsAccepted = (f : Bytes) (ss : List (Section Pair)) → sections_in f ≡ accepted ss → (c : Call f) → sections_in (left_by c) ≡ accepted ss

-- so a call of `read` on it, whose buffers are not too short, is accepted with the counts of its table, which has these
-- sections
abbrev pub LeftIsRead : Type 0
LeftIsRead = (f : Bytes) (ss : List (Section Pair)) → sections_in f ≡ accepted ss → (c : Call f)
    → (r : Result Counts Error) → ReadCall (left_by c) r → (t : Table) × (verdict (left_by c) ≡ accepted t) × (read_means r ≡ accepted (counts_of t)) × (sections_of t ≡ ss)

-- every call on that text is accepted, and leaves that text itself: the same length, and the same bytes
abbrev pub LeftIsItsOwn : Type 0
LeftIsItsOwn = (f : Bytes) (ss : List (Section Pair)) → sections_in f ≡ accepted ss → (c : Call f) (d : Call (left_by c))
    → Leaves ss d × (length_by d ≡ length_by c) × (left_by d ≡ left_by c)

-- two accepted files have the same sections and entries in order exactly where any calls on them leave the same text
abbrev pub TextTells : Type 0
TextTells = (f g : Bytes) (ss ts : List (Section Pair)) → sections_in f ≡ accepted ss → sections_in g ≡ accepted ts
    → (c : Call f) (d : Call g) → (ss ≡ ts) ↔ (left_by c ≡ left_by d)

-- the text left has the length that was said, is never longer than the file counts, and so fits the output buffer
pub record Fits {f : Bytes} (c : Call f) : Type 0 where
  pub whole : length (left_by c) ≡ length_by c
  pub no_longer : length (left_by c) ≤ size f
  pub inside : length (left_by c) ≤ length c.made.out

abbrev pub TextFits : Type 0
TextFits = (f : Bytes) (ss : List (Section Pair)) → sections_in f ≡ accepted ss → (c : Call f) → Fits c

-- ---- refused calls

-- this refusal, and all four buffers as they were
pub record RefusedWith (n p : ℕ) {f : Bytes} (c : AnyCall f) : Type 0 where
  pub answer : normal_means c.answer ≡ refused n p
  pub text_kept : c.new_text ≡ c.text
  pub sections_kept : c.new_sections ≡ c.sections
  pub entries_kept : c.new_entries ≡ c.entries
  pub out_kept : c.new_out ≡ c.out

-- a call on a file that is not accepted has the file's refusal
abbrev pub RefusedFile : Type 0
RefusedFile = (f : Bytes) (n p : ℕ) → sections_in f ≡ refused n p → (c : Call f) → RefusedWith n p c.made

-- a call one of whose buffers is too short is 1 at 0, whatever the file
abbrev pub ShortBuffers : Type 0
ShortBuffers = (f : Bytes) (c : AnyCall f) → Short c → RefusedWith 1 0 c

-- so a call that is not refused with 1 is one none of whose buffers is too short
abbrev pub NotOneIsCall : Type 0
NotOneIsCall = (f : Bytes) (c : AnyCall f) → (normal_means c.answer ≡ refused 1 0 → ⊥) → (d : Call f) × (d.made ≡ c)

-- and such a call is not refused with 1, whatever the file
abbrev pub CallIsNotOne : Type 0
CallIsNotOne = (f : Bytes) (c : Call f) (p : ℕ) → normal_means c.made.answer ≡ refused 1 p → ⊥
