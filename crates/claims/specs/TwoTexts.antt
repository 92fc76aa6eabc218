-- Demand 3, of functions that call for two normal texts: that of a file and of its normal text, and those of two files.
use Rattle.std.specs.Prelude.{◌≡◌, ◌↔◌, ℕ, Bool, true, ◌||◌, cond, List, ltb, length, Result, Ok, Err}
use Rattle.lines.specs.Bytes.{Bytes}
use Rattle.lines.specs.Answers.{Outcome, accepted, refused}
use Rattle.lines.specs.Buffers.{filled}
use Rattle.table.specs.Tables.{and_then}
use Rattle.table.specs.Answers.{number_of, place_of, error_means}
use Rattle.normal_text.specs.Sections.{Pair, Section, sections_in}
use Rattle.normal_text.specs.NormalText.{normal_text}
use Rattle.table.specs.declared.error.Error.{Error}
use Rattle.claims.specs.declared.two_texts.Lengths.{Lengths}
use Rattle.claims.specs.declared.two_texts.AlikeError.{AlikeError}
use Rattle.claims.specs.declared.two_texts.AlikeError.TheVariants.{First, Second}

-- ---- a file, and its normal text as a file

-- the normal text of a file, or its refusal
unfoldable pub text_of_file : Bytes → Outcome Bytes
unfolding and_then sections_in normal_text
text_of_file f = and_then (sections_in f) (λ ss. accepted (normal_text ss))

-- 1 before everything, for one of the two buffers
unfoldable pub twice_in : (out_size again_size : ℕ) → Bytes → Outcome Bytes
unfolding text_of_file
twice_in out_size again_size f = cond (ltb out_size 65535 || ltb again_size 65535) (refused 1 0) (text_of_file f)

-- what the answer of `normal_twice` means
abbrev pub twice_means : Result Lengths Error → Outcome Lengths
twice_means (Ok l) = accepted l
twice_means (Err e) = error_means e

-- both are the length of one text
abbrev pub same_lengths : Outcome Bytes → Outcome Lengths
same_lengths (accepted t) = accepted (record { length = length t; again = length t })
same_lengths (refused n p) = refused n p

-- a buffer afterwards: that text in front, and the rest as it was
abbrev pub filled_with : Outcome Bytes → Bytes → Bytes
filled_with (accepted t) d = filled t d
filled_with (refused n p) d = d

-- The promise of `normal_twice`: both buffers receive the normal text of an accepted file, with the same length and the same
-- bytes; else it is the refusal, and both are as they were.
-- That the second is what a call on the first text leaves is how it is made; that every such call is accepted and leaves
-- that text is `LeftIsItsOwn` of Demand3.
pub record Twice (f out again : Bytes) (r : Result Lengths Error) (out' again' : Bytes) : Type 0 where
  pub answer : twice_means r ≡ same_lengths (twice_in (length out) (length again) f)
  pub new_out : out' ≡ filled_with (twice_in (length out) (length again) f) out
  pub again_after : again' ≡ filled_with (twice_in (length out) (length again) f) again

-- ---- two files

-- of two files: what belongs to both; the refusal of the first, or 1 at 0 for a short buffer; or the refusal of the second,
-- where the first is accepted
pub data OfTwo (A : Type 0) : Type 0 where
  both : A → OfTwo A
  first : (number place : ℕ) → OfTwo A
  second : (number place : ℕ) → OfTwo A

-- what each of two files holds
pub record HeldByEach : Type 0 where
  pub file : List (Section Pair)
  pub other : List (Section Pair)

abbrev pub held_by : Outcome (List (Section Pair)) → Outcome (List (Section Pair)) → OfTwo HeldByEach
held_by (accepted ss) (accepted ts) = both (record { file = ss; other = ts })
held_by (accepted ss) (refused n p) = second n p
held_by (refused n p) o = first n p

-- 1 before everything, for one of the two buffers
unfoldable pub alike_in : (out_size other_size : ℕ) → (f g : Bytes) → OfTwo HeldByEach
unfolding sections_in
alike_in out_size other_size f g = cond (ltb out_size 65535 || ltb other_size 65535) (first 1 0) (held_by (sections_in f) (sections_in g))

-- what the answer of `set_alike` means
abbrev pub alike_means : Result Bool AlikeError → OfTwo Bool
alike_means (Ok b) = both b
alike_means (Err (First e)) = first (number_of e) (place_of e)
alike_means (Err (Second e)) = second (number_of e) (place_of e)

-- the answer is true exactly where the two files hold the same sections with the same entries in order; or it is the refusal
abbrev pub Tells : OfTwo HeldByEach → OfTwo Bool → Type 0
Tells (both h) (both b) = (b ≡ true) ↔ (h.file ≡ h.other)
Tells (both h) (first n p) = ⊥
Tells (both h) (second n p) = ⊥
Tells (first n p) o = o ≡ first n p
Tells (second n p) o = o ≡ second n p

-- a buffer afterwards: the normal text of one of the files in front, and the rest as it was
abbrev pub held_after : (HeldByEach → List (Section Pair)) → OfTwo HeldByEach → Bytes → Bytes
held_after which (both h) d = filled (normal_text (which h)) d
held_after which (first n p) d = d
held_after which (second n p) d = d

-- the promise of `set_alike`
pub record SetAlike (f g out other : Bytes) (r : Result Bool AlikeError) (out' other' : Bytes) : Type 0 where
  pub answer : Tells (alike_in (length out) (length other) f g) (alike_means r)
  pub new_out : out' ≡ held_after (λ h. h.file) (alike_in (length out) (length other) f g) out
  pub other_after : other' ≡ held_after (λ h. h.other) (alike_in (length out) (length other) f g) other
