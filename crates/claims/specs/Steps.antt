-- What the functions inside the crate promise.
use Rattle.std.specs.Prelude.{◌≡◌, ℕ, Bool, cond, ltb, length, Result}
use Rattle.lines.specs.Bytes.{Bytes, equal}
use Rattle.lines.specs.Answers.{Outcome, accepted, refused}
use Rattle.lines.specs.Buffers.{filled}
use Rattle.table.specs.Tables.{and_then}
use Rattle.normal_text.specs.Answers.{normal_means}
use Rattle.table.specs.declared.error.Error as reader
use Rattle.normal_text.specs.declared.normal.Sizes.{Sizes}
use Rattle.lookup.specs.Decoding.{Lent}
use Rattle.lookup.specs.Questions.{index_in, value_in}
use Rattle.lookup.specs.declared.search.Which.{Which}
use Rattle.claims.specs.LookUps.{Located, look_up_means, shown, value_after}
use Rattle.claims.specs.TwoTexts.{text_of_file, filled_with, OfTwo, both, second, alike_means}
use Rattle.claims.specs.declared.two_texts.AlikeError.{AlikeError}
use Rattle.claims.specs.declared.look_up.Found.{Found}
use Rattle.claims.specs.declared.look_up.LookUpError.{LookUpError}

-- ---- an entry looked up, and its value

-- what the buffers that are lent say
unfoldable pub look_up_lent : Lent → Which → (x k : Bytes) → Outcome Located
unfolding and_then index_in value_in
look_up_lent b w x k = and_then (index_in b w x k) (λ i. and_then (value_in b i) (λ v. accepted (record { index = i; value = v })))

-- the promise of `find_then_value`
pub record Asks (b : Lent) (w : Which) (x k : Bytes) (out : Bytes) (r : Result Found LookUpError) (out' : Bytes) : Type 0 where
  pub answer : look_up_means r ≡ shown (look_up_lent b w x k)
  pub new_out : out' ≡ value_after (look_up_lent b w x k) out

-- ---- two normal texts

-- the length that an answer of `normal_text` says
abbrev pub length_of : Outcome Sizes → Outcome ℕ
length_of (accepted s) = accepted s.length
length_of (refused n p) = refused n p

-- the length of a text
abbrev pub measured : Outcome Bytes → Outcome ℕ
measured (accepted t) = accepted (length t)
measured (refused n p) = refused n p

-- the normal text of a file, into an output buffer of this size
unfoldable pub text_in : (out_size : ℕ) → Bytes → Outcome Bytes
unfolding text_of_file
text_in out_size f = cond (ltb out_size 65535) (refused 1 0) (text_of_file f)

-- the promise of `normal_into`
pub record NormalInto (f out : Bytes) (r : Result Sizes reader.Error) (out' : Bytes) : Type 0 where
  pub answer : length_of (normal_means r) ≡ measured (text_in (length out) f)
  pub new_out : out' ≡ filled_with (text_in (length out) f) out

-- whether another file's normal text is this one
abbrev pub compared : Bytes → Outcome Bytes → OfTwo Bool
compared t (accepted u) = both (equal t u)
compared t (refused n p) = second n p

-- a text in front of a buffer, where another file is accepted
abbrev pub text_beside : Bytes → Outcome Bytes → Bytes → Bytes
text_beside t (accepted u) d = filled t d
text_beside t (refused n p) d = d

-- the promise of `compare_other`
pub record Compares (t g out other : Bytes) (r : Result Bool AlikeError) (out' other' : Bytes) : Type 0 where
  pub answer : alike_means r ≡ compared t (text_of_file g)
  pub new_out : out' ≡ text_beside t (text_of_file g) out
  pub other_after : other' ≡ filled_with (text_of_file g) other
