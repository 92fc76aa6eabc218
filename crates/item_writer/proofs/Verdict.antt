-- The answer of `write`, test by test: each refusal where the tests before it have passed, and the text where all have.
use mathlib.Core.Path.{◌≡◌, refl, ap, ◌∙◌}
use Prim.Native.Nat.{ℕ, ◌+◌, ◌≤◌, ◌<◌}
use native.Mathlib.Nat.{zero-add}
use native.Mathlib.Omega.{arith}
use mathlib.Core.Bool.{Bool, true, false, cond}
use mathlib.Core.List.{List}
use lib.ListN.{length, take, drop}
use lib.Seq.{length-take-le, take_at}
use lib.Dec.{leb, ltb}
use borrow.Author.Tests.{lt-ltb, le-ltb, le-leb}
use Rattle.lines.specs.Bytes.{Bytes, any}
use Rattle.lines.specs.Answers.{accepted, refused}
use Rattle.lines.specs.Buffers.{put}
use Rattle.items.specs.Answers.{error_means}
use Rattle.items.specs.declared.error.Error.{Error}
use Rattle.items.specs.declared.error.Error.TheVariants.{ShortBuffer, TextTooLong, TooManyItems, NulByte, BadEnds}
use Rattle.items.specs.Write.{ends_fit, items_in, written, nul, write_in, last_end}
use Rattle.item_writer.specs.Answers.{Writes}
use Rattle.lines.specs.Buffers.{Puts}
use Rattle.std.specs.Prelude.{Ok, Err}
use Rattle.item_writer.proofs.Bare.{any_is}
use Rattle.std.specs.List.{list_any}
use Rattle.item_writer.proofs.Written.{written_least}
use Rattle.items.proofs.Laws.{cut_is_laid_again}

-- whether a NUL stands before the last end, as the code asks it
pub has_nul : (bs : Bytes) (ends : List ℕ) (used : ℕ) (r : Bool) → used ≡ last_end 0 ends → r ≡ list_any nul (take used bs)
    → r ≡ any nul (take (last_end 0 ends) bs)
has_nul bs ends used r e q = q ∙ any_is nul (take used bs) ∙ ap (λ (n : ℕ). any nul (take n bs)) e

module _ (bs : Bytes) (ends : List ℕ) (d : Bytes) where
  refuses : (e : Error) → write_in (length d) bs ends ≡ error_means e → Writes bs ends d (Err e) d
  refuses e h = record { answer = rw h; new_out = rw h }

  pub short_buffer : length d < 4096 → Writes bs ends d (Err ShortBuffer) d
  unfolding write_in
  short_buffer h = refuses ShortBuffer (rw (lt-ltb (length d) 4096 h))

  module _ (room : 4096 ≤ length d) where
    pub too_many : 256 < length ends → Writes bs ends d (Err (TooManyItems 0)) d
    unfolding write_in
    too_many h = refuses (TooManyItems 0) (rw (le-ltb (length d) 4096 room, lt-ltb 256 (length ends) h))

    module _ (few : length ends ≤ 256) where
      pub unfit_ends : ends_fit 0 (length bs) ends ≡ false → Writes bs ends d (Err BadEnds) d
      unfolding write_in
      unfit_ends h = refuses BadEnds (rw (le-ltb (length d) 4096 room, le-ltb 256 (length ends) few, h))

      module _ (fit : ends_fit 0 (length bs) ends ≡ true) where
        -- 27 and 20 are left
        tests_left : write_in (length d) bs ends ≡
            cond (any nul (take (last_end 0 ends) bs)) (refused 27 0)
            (cond (ltb 4096 (length (written (items_in bs ends)))) (refused 20 0)
            (accepted (written (items_in bs ends))))
        unfolding write_in
        tests_left = rw (le-ltb (length d) 4096 room, le-ltb 256 (length ends) few, fit, (cut_is_laid_again bs ends fit).bytes)

        pub nul_byte : any nul (take (last_end 0 ends) bs) ≡ true → Writes bs ends d (Err NulByte) d
        nul_byte h = refuses NulByte (tests_left ∙ rw h)

        module _ (free : any nul (take (last_end 0 ends) bs) ≡ false) where
          pub long_text : 4096 < length (written (items_in bs ends)) → Writes bs ends d (Err TextTooLong) d
          long_text h = refuses TextTooLong (tests_left ∙ rw (free, lt-ltb 4096 (length (written (items_in bs ends))) h))

          -- the bytes of the items alone are too many
          pub long_bytes : 4096 < last_end 0 ends → Writes bs ends d (Err TextTooLong) d
          long_bytes h =
              let laid = cut_is_laid_again bs ends fit in
              let used = ap length laid.bytes ∙ length-take-le (last_end 0 ends) bs laid.inside in
              long_text (omega (arith, used, written_least (items_in bs ends)))

          text_written : length (written (items_in bs ends)) ≤ 4096 → write_in (length d) bs ends ≡ accepted (written (items_in bs ends))
          text_written h = tests_left ∙ rw (free, le-ltb 4096 (length (written (items_in bs ends))) h)

          -- the text has been put at the front of another buffer, and is copied from there
          pub text_copied : (other text : Bytes) (r : ℕ) (d' : Bytes) → Puts other 0 (written (items_in bs ends)) r text → r ≤ 4096
              → d' ≡ cond (leb (0 + length (take r text)) (length d)) (put d 0 (take r text)) d → Writes bs ends d (Ok r) d'
          text_copied other text r d' p h e =
              let t : Bytes = written (items_in bs ends) in
              let size : r ≡ length t = p.behind ∙ zero-add (length t) in
              let front : take r text ≡ t = rw (size, p.after) (take_at t (drop (0 + length t) other) (length t) refl) in
              let w = text_written (omega arith) in
              let fits : leb (0 + length t) (length d) ≡ true = le-leb (0 + length t) (length d) (omega arith) in
              record {
                answer = rw (w, size);
                new_out = e ∙ rw (front, fits, w, zero-add (length t));
              }
